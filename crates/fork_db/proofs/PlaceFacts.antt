-- The place after some of the steps.
use Rattle.std.proofs.Common.{arith, ◌≡◌, ◌<◌, ◌≤◌, ◌+◌, ◌-◌, ℕ, suc, zero, List, [], ◌∷◌, ◌++◌, length, map, min, drop, take, Option, Some, refl, sym, ◌∙◌, ap, append_assoc, subst}
use Rattle.std.specs.List.{slice_get}
use Rattle.std.specs.Option.{option_map}
use Rattle.std.proofs.lemmas.List.{length-append, length-drop, length-map, map-append, map_push, take-append-le, take-map, take_all}
use Rattle.std.proofs.lemmas.Option.{slice_get-map}
use Rattle.block_tree.specs.Places.{slip_at}
use Rattle.block_record.specs.declared.blocks.Slip.{Slip}
use Rattle.block_record.specs.declared.blocks.BlockRef.{BlockRef}
use Rattle.chain_model.specs.declared.places.Place.{Place}
use Rattle.chain_model.specs.declared.places.Step.{Step}
use Rattle.chain_model.specs.declared.places.Step.TheVariants as step
use Rattle.chain_model.specs.Steps.{BlockStep, block_step, parent_of, place_after, ref_of}
use Rattle.chain_model.specs.Places.{PlacedStep, place_along, placed}
use Rattle.link_rows.proofs.public.ListFacts.{slice_get_drop}
use Rattle.fork_db.specs.declared.batches.Batch.{Batch}
use Rattle.fork_db.specs.Batches.{step_total}
use Rattle.fork_db.proofs.StepFacts.{Runs, slice_get-left, slice_get-right, steps_length}

-- what the last of some blocks gives, or what was there before
abbrev pub last_ref : Option BlockRef → (Slip → BlockRef) → List Slip → Option BlockRef
last_ref o g [] = o
last_ref o g (x ∷ xs) = last_ref (Some (g x)) g xs

last_ref_at : (o : Option BlockRef) (g : Slip → BlockRef) (xs : List Slip) (k n : ℕ) (x : Slip) → slice_get xs k ≡ Some x → n ≡ k + 1 → last_ref o g (take n xs) ≡ Some (g x)
last_ref_at o g [] k n x e at = absurd (grind arith)
last_ref_at o g (y ∷ xs) k zero x e at = absurd (omega arith)
last_ref_at o g (y ∷ xs) zero (suc zero) x e at = let same : y ≡ x = grind (arith, e) in ap (λ s. Some (g s)) same
last_ref_at o g (y ∷ xs) zero (suc (suc n)) x e at = absurd (omega arith)
last_ref_at o g (y ∷ xs) (suc k) (suc n) x e at = last_ref_at (Some (g y)) g xs k n x e (omega arith)

take_none : {X : Type 0} (xs : List X) (n : ℕ) → n ≡ 0 → take n xs ≡ []
take_none xs zero e = refl
take_none xs (suc n) e = absurd (omega arith)

take_both : {X : Type 0} (xs ys : List X) (n : ℕ) → take n (xs ++ ys) ≡ take n xs ++ take (n - length xs) ys
take_both {X} [] ys n = rw (take_all {A = X} n [] (omega arith)) (ap (λ k. take k ys) (let f : n ≡ n - 0 = omega arith in f))
take_both {X} (x ∷ xs) ys zero = sym (take_none ys (0 - length (x ∷ xs)) (omega arith))
take_both {X} (x ∷ xs) ys (suc n) = ap (λ l. x ∷ l) (take_both xs ys n ∙ ap (λ k. take n xs ++ take k ys) (let f : n - length xs ≡ suc n - length (x ∷ xs) = omega arith in f))

take_min : {X : Type 0} (xs : List X) (n : ℕ) → take n xs ≡ take (min n (length xs)) xs
take_min {X} [] n = take_all {A = X} n [] (omega arith) ∙ sym (take_all {A = X} (min n 0) [] (omega arith))
take_min {X} (x ∷ xs) zero = sym (take_none (x ∷ xs) (min 0 (length (x ∷ xs))) (omega arith))
take_min {X} (x ∷ xs) (suc n) = ap (λ l. x ∷ l) (take_min xs n) ∙ ap (λ k. take k (x ∷ xs)) (let f : suc (min n (length xs)) ≡ min (suc n) (length (x ∷ xs)) = omega arith in f)

-- the place after the four runs of steps
along_runs : (p : Place) (us fs ns ws : List Slip)
    → place_along p (map (block_step step.Undo) us ++ (map (block_step step.Final) fs ++ (map (block_step step.NewFinal) ns ++ map (block_step step.New) ws)))
    ≡ record { end = last_ref (last_ref p.end parent_of us) ref_of (ns ++ ws); lib = last_ref p.lib ref_of (fs ++ ns) }
along_runs p [] [] [] [] = refl
along_runs p [] [] [] (w ∷ ws) = along_runs (place_after p (block_step step.New w)) [] [] [] ws
along_runs p [] [] (n ∷ ns) ws = along_runs (place_after p (block_step step.NewFinal n)) [] [] ns ws
along_runs p [] (f ∷ fs) ns ws = along_runs (place_after p (block_step step.Final f)) [] fs ns ws
along_runs p (u ∷ us) fs ns ws = along_runs (place_after p (block_step step.Undo u)) us fs ns ws

abbrev pub runs : (us fs ns ws : List Slip) → List BlockStep
runs us fs ns ws = map (block_step step.Undo) us ++ (map (block_step step.Final) fs ++ (map (block_step step.NewFinal) ns ++ map (block_step step.New) ws))

take_run : (kind : Step) (xs : List Slip) (rest : List BlockStep) (n : ℕ) → take n (map (block_step kind) xs ++ rest) ≡ map (block_step kind) (take n xs) ++ take (n - length xs) rest
take_run kind xs rest n =
    take_both (map (block_step kind) xs) rest n ∙ ap (λ l. l ++ take (n - length (map (block_step kind) xs)) rest) (take-map (block_step kind) n xs)
    ∙ ap (λ k. map (block_step kind) (take n xs) ++ take (n - k) rest) (length-map xs (block_step kind))

take_runs : (us fs ns ws : List Slip) (c : ℕ)
    → take c (runs us fs ns ws) ≡ runs (take c us) (take (c - length us) fs) (take (c - length us - length fs) ns) (take (c - length us - length fs - length ns) ws)
take_runs us fs ns ws c =
    let a = c - length us in
    let b = a - length fs in
    let r2 = map (block_step step.NewFinal) ns ++ map (block_step step.New) ws in
    let r1 = map (block_step step.Final) fs ++ r2 in
    take_run step.Undo us r1 c
    ∙ ap (λ l. map (block_step step.Undo) (take c us) ++ l) (take_run step.Final fs r2 a)
    ∙ ap (λ l. map (block_step step.Undo) (take c us) ++ (map (block_step step.Final) (take a fs) ++ l)) (take_run step.NewFinal ns (map (block_step step.New) ws) b)
    ∙ ap (λ l. map (block_step step.Undo) (take c us) ++ (map (block_step step.Final) (take a fs) ++ (map (block_step step.NewFinal) (take b ns) ++ l))) (take-map (block_step step.New) (b - length ns) ws)

after_runs : (p : Place) (us fs ns ws : List Slip) (c : ℕ) → place_along p (take c (runs us fs ns ws))
    ≡ record { end = last_ref (last_ref p.end parent_of (take c us)) ref_of (take (c - length us - length fs) (ns ++ ws)); lib = last_ref p.lib ref_of (take (c - length us) (fs ++ ns)) }
after_runs p us fs ns ws c =
    let a = c - length us in
    let b = a - length fs in
    rw (take_both ns ws b, take_both fs ns a) (ap (place_along p) (take_runs us fs ns ws c) ∙ along_runs p (take c us) (take a fs) (take b ns) (take (b - length ns) ws))

-- the blocks of the steps
slips_back : (kind : Step) (xs : List Slip) → map (λ (x : BlockStep). x.slip) (map (block_step kind) xs) ≡ xs
slips_back kind [] = refl
slips_back kind (x ∷ xs) = ap (λ l. x ∷ l) (slips_back kind xs)

slips_run : (kind : Step) (xs ys : List Slip) (rest : List BlockStep) → map (λ (x : BlockStep). x.slip) rest ≡ ys → map (λ (x : BlockStep). x.slip) (map (block_step kind) xs ++ rest) ≡ xs ++ ys
slips_run kind xs ys rest e = map-append (λ (x : BlockStep). x.slip) (map (block_step kind) xs) rest ∙ ap (λ l. l ++ map (λ (x : BlockStep). x.slip) rest) (slips_back kind xs) ∙ ap (λ l. xs ++ l) e

slip_at_step : (us fs ns ws : List Slip) (k : ℕ) → option_map (λ (x : BlockStep). x.slip) (slice_get (runs us fs ns ws) k) ≡ slice_get (us ++ (fs ++ (ns ++ ws))) k
slip_at_step us fs ns ws k =
    sym (slice_get-map (λ (x : BlockStep). x.slip) (runs us fs ns ws) k)
    ∙ ap (λ l. slice_get l k) (slips_run step.Undo us (fs ++ (ns ++ ws)) _ (slips_run step.Final fs (ns ++ ws) _ (slips_run step.NewFinal ns ws (map (block_step step.New) ws) (slips_back step.New ws))))

-- the end and the lib after the first c steps
pub end_new : (p : Place) (us fs ns ws : List Slip) (c k : ℕ) (x : Slip) → length us + length fs < c → c ≡ k + 1
    → option_map (λ (y : BlockStep). y.slip) (slice_get (runs us fs ns ws) k) ≡ Some x → Some (ref_of x) ≡ (place_along p (take c (runs us fs ns ws))).end
end_new p us fs ns ws c k x lt e at =
    let i = k - length us - length fs in
    let here : slice_get (ns ++ ws) i ≡ Some x =
    sym (slice_get-right fs (ns ++ ws) i (length fs + i) refl) ∙ sym (slice_get-right us (fs ++ (ns ++ ws)) (length fs + i) k (omega arith)) ∙ sym (slip_at_step us fs ns ws k) ∙ at in
    sym (ap (λ (q : Place). q.end) (after_runs p us fs ns ws c) ∙ last_ref_at _ ref_of (ns ++ ws) i (c - length us - length fs) x here (omega arith))

pub end_undo : (p : Place) (us fs ns ws : List Slip) (c k : ℕ) (x : Slip) → c ≤ length us + length fs → min c (length us) ≡ k + 1
    → option_map (λ (y : BlockStep). y.slip) (slice_get (runs us fs ns ws) k) ≡ Some x → Some (parent_of x) ≡ (place_along p (take c (runs us fs ns ws))).end
end_undo p us fs ns ws c k x le e at =
    let here : slice_get us k ≡ Some x = sym (slice_get-left us (fs ++ (ns ++ ws)) k (omega arith)) ∙ sym (slip_at_step us fs ns ws k) ∙ at in
    let none = take_none (ns ++ ws) (c - length us - length fs) (omega arith) in
    sym (ap (λ (q : Place). q.end) (after_runs p us fs ns ws c) ∙ ap (last_ref (last_ref p.end parent_of (take c us)) ref_of) none
    ∙ ap (last_ref p.end parent_of) (take_min us c) ∙ last_ref_at p.end parent_of us k (min c (length us)) x here e)

pub end_same : (p : Place) (us fs ns ws : List Slip) (c : ℕ) → c ≤ length us + length fs → min c (length us) ≡ 0 → p.end ≡ (place_along p (take c (runs us fs ns ws))).end
end_same p us fs ns ws c le e =
    let none = take_none (ns ++ ws) (c - length us - length fs) (omega arith) in
    sym (ap (λ (q : Place). q.end) (after_runs p us fs ns ws c) ∙ ap (last_ref (last_ref p.end parent_of (take c us)) ref_of) none
    ∙ ap (last_ref p.end parent_of) (take_min us c ∙ take_none us (min c (length us)) e))

pub lib_new : (p : Place) (us fs ns ws : List Slip) (c k : ℕ) (x : Slip) → min c (length us + length fs + length ns) ≡ k + 1 → length us ≤ k
    → option_map (λ (y : BlockStep). y.slip) (slice_get (runs us fs ns ws) k) ≡ Some x → Some (ref_of x) ≡ (place_along p (take c (runs us fs ns ws))).lib
lib_new p us fs ns ws c k x e le at =
    let i = k - length us in
    let here : slice_get (fs ++ ns) i ≡ Some x =
    sym (slice_get-left (fs ++ ns) ws i (omega (arith, length-append fs ns))) ∙ ap (λ l. slice_get l i) (append_assoc fs ns ws)
    ∙ sym (slice_get-right us (fs ++ (ns ++ ws)) i k (omega arith)) ∙ sym (slip_at_step us fs ns ws k) ∙ at in
    sym (ap (λ (q : Place). q.lib) (after_runs p us fs ns ws c) ∙ ap (last_ref p.lib ref_of) (take_min (fs ++ ns) (c - length us))
    ∙ last_ref_at p.lib ref_of (fs ++ ns) i (min (c - length us) (length (fs ++ ns))) x here (omega (arith, length-append fs ns)))

pub lib_same : (p : Place) (us fs ns ws : List Slip) (c : ℕ) → min c (length us + length fs + length ns) ≤ length us → p.lib ≡ (place_along p (take c (runs us fs ns ws))).lib
lib_same p us fs ns ws c le =
    sym (ap (λ (q : Place). q.lib) (after_runs p us fs ns ws c)
    ∙ ap (last_ref p.lib ref_of) (take_min (fs ++ ns) (c - length us) ∙ take_none (fs ++ ns) (min (c - length us) (length (fs ++ ns))) (omega (arith, length-append fs ns))))

-- of a batch
pub batch_end_new : (newest : List Slip) (b : Batch) (steps : List BlockStep) → Runs newest b steps → (c k : ℕ) (x : Slip) → b.undos + b.finals < c → c ≡ k + 1
    → option_map (λ (y : BlockStep). y.slip) (slice_get steps k) ≡ Some x → Some (ref_of x) ≡ (place_along b.place (take c steps)).end
batch_end_new newest b steps r c k x lt e found = rw r.steps_are (end_new b.place r.us r.fs r.ns r.ws c k x (omega (arith, r.undos, r.finals)) e (rw r.steps_are at found))

pub batch_end_undo : (newest : List Slip) (b : Batch) (steps : List BlockStep) → Runs newest b steps → (c k : ℕ) (x : Slip) → c ≤ b.undos + b.finals → min c b.undos ≡ k + 1
    → option_map (λ (y : BlockStep). y.slip) (slice_get steps k) ≡ Some x → Some (parent_of x) ≡ (place_along b.place (take c steps)).end
batch_end_undo newest b steps r c k x le e found = rw r.steps_are (end_undo b.place r.us r.fs r.ns r.ws c k x (omega (arith, r.undos, r.finals)) (omega (arith, r.undos)) (rw r.steps_are at found))

pub batch_end_same : (newest : List Slip) (b : Batch) (steps : List BlockStep) → Runs newest b steps → (c : ℕ) → c ≤ b.undos + b.finals → min c b.undos ≡ 0
    → b.place.end ≡ (place_along b.place (take c steps)).end
batch_end_same newest b steps r c le e = rw r.steps_are (end_same b.place r.us r.fs r.ns r.ws c (omega (arith, r.undos, r.finals)) (omega (arith, r.undos)))

pub batch_lib_new : (newest : List Slip) (b : Batch) (steps : List BlockStep) → Runs newest b steps → (c k : ℕ) (x : Slip) → min c (b.undos + b.finals + b.newfinals) ≡ k + 1 → b.undos ≤ k
    → option_map (λ (y : BlockStep). y.slip) (slice_get steps k) ≡ Some x → Some (ref_of x) ≡ (place_along b.place (take c steps)).lib
batch_lib_new newest b steps r c k x e le found = rw r.steps_are (lib_new b.place r.us r.fs r.ns r.ws c k x (omega (arith, r.undos, r.finals, r.newfinals)) (omega (arith, r.undos)) (rw r.steps_are at found))

pub batch_lib_same : (newest : List Slip) (b : Batch) (steps : List BlockStep) → Runs newest b steps → (c : ℕ) → min c (b.undos + b.finals + b.newfinals) ≤ b.undos
    → b.place.lib ≡ (place_along b.place (take c steps)).lib
batch_lib_same newest b steps r c le = rw r.steps_are (lib_same b.place r.us r.fs r.ns r.ws c (omega (arith, r.undos, r.finals, r.newfinals)))

-- all of the steps, and no more
pub take_total : (newest : List Slip) (b : Batch) (steps : List BlockStep) → Runs newest b steps → (c : ℕ) → take (min c (step_total b)) steps ≡ take c steps
take_total newest b steps r c = ap (λ n. take (min c n) steps) (sym (steps_length newest b steps r)) ∙ sym (take_min steps c)

-- the steps with their places
placed_at : (p : Place) (xs : List BlockStep) (i : ℕ) (x : BlockStep) → slice_get xs i ≡ Some x → slice_get (placed p xs) i ≡ Some (record { step = x; place = place_along p (take (i + 1) xs) })
placed_at p [] i x e = absurd (grind arith)
placed_at p (y ∷ xs) zero x e =
    let same : y ≡ x = grind (arith, e) in
    subst (λ (z : BlockStep). slice_get (placed p (y ∷ xs)) 0 ≡ Some (record { step = z; place = place_after p y })) same refl
placed_at p (y ∷ xs) (suc i) x e =
    placed_at (place_after p y) xs i x e ∙ ap (λ k. Some (record { step = x; place = place_along p (take k (y ∷ xs)) })) (let f : suc (i + 1) ≡ suc i + 1 = omega arith in f)

length-placed : (p : Place) (xs : List BlockStep) → length (placed p xs) ≡ length xs
length-placed p [] = refl
length-placed p (x ∷ xs) = ap suc (length-placed (place_after p x) xs)

pub item_placed : (newest : List Slip) (at : ℕ) (p q : Place) (xs : List BlockStep) (i k : ℕ) (kind : Step) (s t : Slip) → option_map (block_step kind) (slip_at newest at) ≡ slice_get xs i
    → slip_at newest at ≡ Some t → s ≡ t → k ≡ i + 1 → q ≡ place_along p (take k xs) → slice_get (placed p xs) i ≡ Some (record { step = block_step kind s; place = q })
item_placed newest at p q xs i k kind s t found there same one after =
    placed_at p xs i (block_step kind t) (sym found ∙ ap (option_map (block_step kind)) there)
    ∙ ap (λ (z : Slip). Some (record { step = block_step kind z; place = place_along p (take (i + 1) xs) })) (sym same)
    ∙ ap (λ (z : Place). Some (record { step = block_step kind s; place = z })) (ap (λ n. place_along p (take n xs)) (sym one) ∙ sym after)

take_next : {X : Type 0} (xs : List X) (k n : ℕ) (x : X) → slice_get xs k ≡ Some x → n ≡ k + 1 → take n xs ≡ take k xs ++ x ∷ []
take_next [] k n x e at = absurd (grind arith)
take_next (y ∷ xs) k zero x e at = absurd (omega arith)
take_next (y ∷ xs) zero (suc zero) x e at = let same : y ≡ x = grind (arith, e) in ap (λ z. z ∷ []) same
take_next (y ∷ xs) zero (suc (suc n)) x e at = absurd (omega arith)
take_next (y ∷ xs) (suc k) (suc n) x e at = ap (λ l. y ∷ l) (take_next xs k n x e (omega arith))

-- one more item of a chunk
pub item_pushed : {Y : Type 0} (g : Y → PlacedStep) (old items new : List Y) (x : Y) (all : List PlacedStep) (from i j k : ℕ) → map g items ≡ map g old ++ take k (drop from all) → new ≡ items ++ x ∷ []
    → slice_get all i ≡ Some (g x) → i ≡ from + k → j ≡ k + 1 → map g new ≡ map g old ++ take j (drop from all)
item_pushed g old items new x all from i j k h pushed found at one =
    ap (map g) pushed ∙ map_push g items x ∙ ap (λ l. l ++ g x ∷ []) h ∙ append_assoc (map g old) (take k (drop from all)) (g x ∷ [])
    ∙ ap (λ l. map g old ++ l) (sym (take_next (drop from all) k j (g x) (slice_get_drop from all k i at ∙ found) one))

pub first_kept : {Y : Type 0} (old items new : List Y) (x : Y) → take (length old) items ≡ old → length old ≤ length items → new ≡ items ++ x ∷ [] → take (length old) new ≡ old
first_kept old items new x h le pushed = ap (take (length old)) pushed ∙ take-append-le (length old) items (x ∷ []) le ∙ h

-- a chunk ends with the steps
pub chunk_is : (newest : List Slip) (b : Batch) (steps : List BlockStep) → Runs newest b steps → (from most end far : ℕ) → min (step_total b) far ≡ min (step_total b) (from + most)
    → end ≡ min (step_total b) far → take (end - from) (drop from (placed b.place steps)) ≡ take most (drop from (placed b.place steps))
chunk_is newest b steps r from most end far at e =
    let all = placed b.place steps in
    ap (λ n. take n (drop from all)) (omega (arith, at, e, length-drop from all, length-placed b.place steps, steps_length newest b steps r)) ∙ sym (take_min (drop from all) most)
