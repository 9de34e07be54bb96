-- The steps of a batch, each found on a path by its depth.
use Rattle.std.proofs.Common.{arith, ◌≡◌, ◌<◌, ◌≤◌, ◌+◌, ◌*◌, ◌-◌, ℕ, Bool, true, false, not, suc, zero, List, [], ◌∷◌, ◌++◌, length, map, reverse, Option, Some, None, refl, sym, ◌∙◌, ap, subst, append_assoc, ltb}
use Rattle.std.specs.List.{filter, slice_get}
use Rattle.std.specs.Option.{IsSome, option_map}
use Rattle.std.proofs.lemmas.Bool.{ltb-false, ltb-true}
use Rattle.std.proofs.lemmas.List.{length-append, length-map, length-reverse, reverse-append}
use Rattle.std.proofs.lemmas.Option.{slice_get-map, slice_get_past, slice_get_within}
use Rattle.block_record.specs.declared.blocks.Slip.{Slip}
use Rattle.chain_model.specs.declared.places.Mode.{Mode}
use Rattle.chain_model.specs.declared.places.Step.{Step}
use Rattle.chain_model.specs.declared.places.Step.TheVariants as step
use Rattle.chain_model.specs.Ancestry.{ancestry, IsHistory}
use Rattle.chain_model.specs.Finality.{ancestry_of}
use Rattle.chain_model.specs.Steps.{BlockStep, block_step, added, ancestry_at, drop_while, is_after, keep_while, kept, steps_of, target, undone}
use Rattle.chain_laws.specs.Standing.{first_of}
use Rattle.chain_laws.proofs.public.ClosedLists.{Closed, keep-append-drop, filter-closed, filter-not-closed}
use Rattle.chain_laws.proofs.public.Later.{ancestry_later, history_older, lines_later}
use Rattle.chain_laws.proofs.public.Lines.{has_id-find_id}
use Rattle.chain_laws.proofs.public.Meeting.{target_line}
use Rattle.chain_laws.proofs.public.Reach.{IsLine, Nothing, From}
use Rattle.chain_laws.proofs.public.LineFacts.{line_is}
use Rattle.chain_laws.proofs.public.Walks.{is_final}
use Rattle.block_tree.proofs.public.ParentFacts.{found_at}
use Rattle.block_tree.proofs.public.PlaceFacts.{slip_at_past, slip_at_within}
use Rattle.block_tree.specs.Places.{slip_at, slip_of}
use Rattle.fork_db.specs.declared.batches.Batch.{Batch}
use Rattle.fork_db.specs.Batches.{IsGiven, added_kind, step_total}
use Rattle.fork_db.proofs.BatchFacts.{ancestry_short, end_line, lib_fits, parts_of}

-- elements of joined and of turned lists
pub slice_get-left : {X : Type 0} (xs ys : List X) (i : ℕ) → i < length xs → slice_get (xs ++ ys) i ≡ slice_get xs i
slice_get-left [] ys i lt = absurd (let f : ⊥ = omega arith in f)
slice_get-left (x ∷ xs) ys zero lt = refl
slice_get-left (x ∷ xs) ys (suc i) lt = slice_get-left xs ys i (omega arith)

pub slice_get-right : {X : Type 0} (xs ys : List X) (i j : ℕ) → j ≡ length xs + i → slice_get (xs ++ ys) j ≡ slice_get ys i
slice_get-right [] ys i j e = ap (slice_get ys) (let f : j ≡ i = omega arith in f)
slice_get-right (x ∷ xs) ys i zero e = absurd (let f : ⊥ = omega arith in f)
slice_get-right (x ∷ xs) ys i (suc j) e = slice_get-right xs ys i j (omega arith)

pub slice_get-turned : {X : Type 0} (xs : List X) (i j : ℕ) → i + j + 1 ≡ length xs → slice_get (reverse xs) j ≡ slice_get xs i
slice_get-turned [] i j e = absurd (let f : ⊥ = omega arith in f)
slice_get-turned (x ∷ xs) zero j e =
    ap (λ l. slice_get l j) (reverse-append (x ∷ []) xs) ∙ slice_get-right (reverse xs) (x ∷ []) 0 j (omega (arith, length-reverse xs))
slice_get-turned (x ∷ xs) (suc i) j e =
    ap (λ l. slice_get l j) (reverse-append (x ∷ []) xs) ∙ slice_get-left (reverse xs) (x ∷ []) j (omega (arith, length-reverse xs)) ∙ slice_get-turned xs i j (omega arith)

closed_halves : (f : Slip → Bool) (xs : List Slip) → Closed f xs → filter (λ s. not (f s)) xs ++ filter f xs ≡ xs
closed_halves f xs all = rw (filter-not-closed f xs all, filter-closed f xs all) (keep-append-drop (λ s. not (f s)) xs)

-- the target upwards: the blocks up to the lib, those to mark, the others of what is kept, those to add as final and the others
upwards : (T A K L g_A f_A g_K f_K : List Slip) → T ≡ A ++ (K ++ L) → g_A ++ f_A ≡ A → g_K ++ f_K ≡ K
    → reverse T ≡ (reverse L ++ (reverse f_K ++ reverse g_K)) ++ (reverse f_A ++ reverse g_A)
upwards T A K L g_A f_A g_K f_K e ea ek =
    ap reverse e ∙ reverse-append A (K ++ L) ∙ ap (λ l. l ++ reverse A) (reverse-append K L)
    ∙ ap (λ l. (reverse L ++ l) ++ reverse A) (ap reverse (sym ek) ∙ reverse-append g_K f_K)
    ∙ ap (λ l. (reverse L ++ (reverse f_K ++ reverse g_K)) ++ l) (ap reverse (sym ea) ∙ reverse-append g_A f_A)

final_up : (T L f_K g_K rest : List Slip) (i j : ℕ) → reverse T ≡ (reverse L ++ (reverse f_K ++ reverse g_K)) ++ rest → i < length (reverse f_K) → j ≡ length L + i
    → slice_get (reverse T) j ≡ slice_get (reverse f_K) i
final_up T L f_K g_K rest i j e lt at =
    ap (λ l. slice_get l j) e
    ∙ slice_get-left (reverse L ++ (reverse f_K ++ reverse g_K)) rest j (omega (arith, length-append (reverse L) (reverse f_K ++ reverse g_K), length-append (reverse f_K) (reverse g_K), length-reverse L))
    ∙ slice_get-right (reverse L) (reverse f_K ++ reverse g_K) i j (omega (arith, length-reverse L))
    ∙ slice_get-left (reverse f_K) (reverse g_K) i lt

new_up : (T K L f_K g_K rest : List Slip) (i j : ℕ) → g_K ++ f_K ≡ K → reverse T ≡ (reverse L ++ (reverse f_K ++ reverse g_K)) ++ rest → j ≡ (length K + length L) + i
    → slice_get (reverse T) j ≡ slice_get rest i
new_up T K L f_K g_K rest i j ek e at =
    ap (λ l. slice_get l j) e
    ∙ slice_get-right (reverse L ++ (reverse f_K ++ reverse g_K)) rest i j
    (omega (arith, length-append (reverse L) (reverse f_K ++ reverse g_K), length-append (reverse f_K) (reverse g_K), length-reverse L, length-reverse f_K, length-reverse g_K, ap length ek, length-append g_K f_K))

-- blocks stay at their places as the history grows
pub slip_later : (more older : List Slip) (at : ℕ) (s : Slip) → slip_at older at ≡ Some s → slip_at (more ++ older) at ≡ Some s
slip_later [] older at s e = e
slip_later (x ∷ more) older at s e = let rest = slip_later more older at s e in slip_at_past x (more ++ older) at (slip_at_within (more ++ older) at s rest) ∙ rest

target_go : (more older T : List Slip) → IsHistory (more ++ older) → IsLine older T → (o : Option ℕ) → slip_of older o ≡ first_of T → 0 < length T
    → ancestry_of (more ++ older) (slip_of (more ++ older) o) ≡ T
target_go more older [] history l o e some = absurd (let f : ⊥ = omega arith in f)
target_go more older (x ∷ rest) history l None e some = absurd (grind arith)
target_go more older (x ∷ rest) history l (Some at) e some =
    let before = history_older more older history in
    ap (ancestry_of (more ++ older)) (slip_later more older at x e) ∙ ancestry_later more older history x.id (has_id-find_id older x.id x (found_at older at x before e)) ∙ line_is older x rest l

-- the four runs of steps, and where the blocks of each stand
pub record Runs (newest : List Slip) (b : Batch) (steps : List BlockStep) : Type 0 where
  pub us : List Slip
  pub fs : List Slip
  pub ns : List Slip
  pub ws : List Slip
  pub undos : length us ≡ b.undos
  pub finals : length fs ≡ b.finals
  pub newfinals : length ns ≡ b.newfinals
  pub news : length ws ≡ b.news
  pub steps_are : steps ≡ map (block_step step.Undo) us ++ (map (block_step step.Final) fs ++ (map (block_step step.NewFinal) ns ++ map (block_step step.New) ws))
  pub total : step_total b ≤ 2 * length newest
  pub held : b.undos ≤ length (ancestry_at newest b.place.end)
  pub held_is : b.held ≡ length (ancestry_at newest b.place.end)
  pub known_is : b.known ≡ length (ancestry_at newest b.place.lib)
  pub end_line : 0 < b.undos → ancestry_of newest (slip_of newest b.end) ≡ ancestry_at newest b.place.end
  pub undo_line : (i j : ℕ) → i < b.undos → i + j + 1 ≡ length (ancestry_at newest b.place.end) → slice_get (reverse (ancestry_at newest b.place.end)) j ≡ slice_get us i
  pub final_line : (i j : ℕ) → i < b.finals → j ≡ length (ancestry_at newest b.place.lib) + i → slice_get (reverse (ancestry_of newest (slip_of newest b.target))) j ≡ slice_get fs i
  pub new_line : (i j : ℕ) → i < b.newfinals + b.news → j + b.undos ≡ length (ancestry_at newest b.place.end) + i
      → slice_get (reverse (ancestry_of newest (slip_of newest b.target))) j ≡ slice_get (ns ++ ws) i

-- a path is no longer than the history
line_most : (newest line : List Slip) → IsLine newest line → length line ≤ length newest
line_most newest line Nothing = omega arith
line_most newest line (From l s a) = omega (arith, ap length a.is, ancestry_short newest s.id)

runs_go : (more older : List Slip) (m : Mode) (stop : Option ℕ) (b : Batch) → IsHistory (more ++ older) → IsGiven (more ++ older) older m stop b → Runs (more ++ older) b (steps_of older b.place m stop)
runs_go more older m stop b history given =
    let before = history_older more older history in
    let newest = more ++ older in
    let f = is_final older in
    let end = b.place.end in
    let lib = b.place.lib in
    let E = ancestry_at older end in
    let T = target older m stop in
    let line = target_line older before m stop in
    let p = parts_of older E T before (end_line older before end) line lib (lib_fits older before end lib m stop given.fits given.ahead) in
    let U = undone E T in
    let A = added E T in
    let K = keep_while (is_after lib) (kept E T) in
    let L = drop_while (is_after lib) (kept E T) in
    let later = lines_later more older history end lib given.fits in
    let c = given.batch.counts in
    let undos = map (block_step step.Undo) U in
    let fins = map (block_step step.Final) (reverse (filter f K)) in
    let newfins = map (block_step step.NewFinal) (reverse (filter f A)) in
    let news = map (block_step step.New) (reverse (filter (λ s. not (f s)) A)) in
    let A_halves = closed_halves f A p.new_closed in
    let K_halves = closed_halves f K p.open_closed in
    let up = upwards T A K L (filter (λ s. not (f s)) A) (filter f A) (filter (λ s. not (f s)) K) (filter f K) p.wanted_is A_halves K_halves in
    let n_end : length (ancestry_at newest end) ≡ length E = ap length later.0 in
    let n_lib : length (ancestry_at newest lib) ≡ length L = ap length (later.1 ∙ sym p.known_is) in
    let E_parts : length E ≡ length U + (length K + length L) = ap length p.held_is ∙ length-append U (K ++ L) ∙ ap (λ n. length U + n) (length-append K L) in
    let T_parts : length T ≡ length A + (length K + length L) = ap length p.wanted_is ∙ length-append A (K ++ L) ∙ ap (λ n. length A + n) (length-append K L) in
    let K_sum : length (filter (λ s. not (f s)) K) + length (filter f K) ≡ length K = sym (length-append (filter (λ s. not (f s)) K) (filter f K)) ∙ ap length K_halves in
    let A_sum : length (filter (λ s. not (f s)) A) + length (filter f A) ≡ length A = sym (length-append (filter (λ s. not (f s)) A) (filter f A)) ∙ ap length A_halves in
    let path : 0 < length T → ancestry_of newest (slip_of newest b.target) ≡ T = target_go more older T history line b.target given.batch.last in
    record {
      us = U;
      fs = reverse (filter f K);
      ns = reverse (filter f A);
      ws = reverse (filter (λ s. not (f s)) A);
      undos = sym c.undo;
      finals = length-reverse (filter f K) ∙ sym c.final;
      newfinals = length-reverse (filter f A) ∙ sym c.newfinal;
      news = length-reverse (filter (λ s. not (f s)) A) ∙ sym c.new_;
      steps_are = append_assoc (undos ++ fins) newfins news ∙ append_assoc undos fins (newfins ++ news);
      total = omega (arith, c.undo, c.final, c.newfinal, c.new_, K_sum, A_sum, E_parts, T_parts, line_most older E (end_line older before end), line_most older T line, length-append more older);
      held = omega (arith, c.undo, n_end, E_parts);
      held_is = given.batch.held ∙ sym n_end;
      known_is = given.batch.known ∙ ap length (sym later.1);
      end_line = λ pos. target_go more older E history (end_line older before end) b.end given.batch.end (omega (arith, pos, c.undo, E_parts)) ∙ sym later.0;
      undo_line = λ i j lt at.
          ap (λ l. slice_get (reverse l) j) later.0 ∙ slice_get-turned E i j (at ∙ n_end) ∙ ap (λ l. slice_get l i) p.held_is
          ∙ slice_get-left U (K ++ L) i (omega (arith, c.undo, lt));
      final_line = λ i j lt at.
          ap (λ l. slice_get (reverse l) j) (path (omega (arith, lt, c.final, K_sum, T_parts)))
          ∙ final_up T L (filter f K) (filter (λ s. not (f s)) K) (reverse (filter f A) ++ reverse (filter (λ s. not (f s)) A)) i j up (omega (arith, lt, c.final, length-reverse (filter f K))) (omega (arith, at, n_lib));
      new_line = λ i j lt at.
          ap (λ l. slice_get (reverse l) j) (path (omega (arith, lt, c.newfinal, c.new_, A_sum, T_parts)))
          ∙ new_up T K L (filter f K) (filter (λ s. not (f s)) K) (reverse (filter f A) ++ reverse (filter (λ s. not (f s)) A)) i j K_halves up (omega (arith, at, n_end, E_parts, c.undo));
    }

pub runs_of : (newest older : List Slip) (m : Mode) (stop : Option ℕ) (b : Batch) → IsHistory newest → IsGiven newest older m stop b → Runs newest b (steps_of older b.place m stop)
runs_of newest older m stop b history given =
    subst (λ (n : List Slip). IsHistory n → IsGiven n older m stop b → Runs n b (steps_of older b.place m stop)) (sym given.grown) (λ h g. runs_go given.more older m stop b h g) history given

-- where a step of each kind is found
there : {X : Type 0} (xs : List X) (i : ℕ) → i < length xs → (x : X) × (slice_get xs i ≡ Some x)
there [] i lt = absurd (let f : ⊥ = omega arith in f)
there (x ∷ xs) zero lt = (x, refl)
there (x ∷ xs) (suc i) lt = there xs i (omega arith)

pub deep_enough : (line xs : List Slip) (i j : ℕ) → slice_get (reverse line) j ≡ slice_get xs i → i < length xs → j < length line
deep_enough line xs i j e lt =
    let x = there xs i lt in
    omega (arith, slice_get_within (reverse line) j x.0 (e ∙ x.1), length-reverse line)

pub final_deep : (newest : List Slip) (b : Batch) (steps : List BlockStep) → Runs newest b steps → (i j : ℕ) → i < b.finals → j ≡ length (ancestry_at newest b.place.lib) + i
    → j < length (ancestry_of newest (slip_of newest b.target))
final_deep newest b steps r i j lt at = deep_enough _ r.fs i j (r.final_line i j lt at) (omega (arith, r.finals))

pub new_deep : (newest : List Slip) (b : Batch) (steps : List BlockStep) → Runs newest b steps → (i j : ℕ) → i < b.newfinals + b.news → j + b.undos ≡ length (ancestry_at newest b.place.end) + i
    → j < length (ancestry_of newest (slip_of newest b.target))
new_deep newest b steps r i j lt at = deep_enough _ (r.ns ++ r.ws) i j (r.new_line i j lt at) (omega (arith, r.newfinals, r.news, length-append r.ns r.ws))

undo_first : (us : List Slip) (rest : List BlockStep) (i : ℕ) → i < length us → slice_get (map (block_step step.Undo) us ++ rest) i ≡ option_map (block_step step.Undo) (slice_get us i)
undo_first us rest i lt =
    slice_get-left (map (block_step step.Undo) us) rest i (omega (arith, length-map us (block_step step.Undo))) ∙ slice_get-map (block_step step.Undo) us i

final_next : (us fs : List Slip) (rest : List BlockStep) (i k : ℕ) → i < length fs → k ≡ length us + i
    → slice_get (map (block_step step.Undo) us ++ (map (block_step step.Final) fs ++ rest)) k ≡ option_map (block_step step.Final) (slice_get fs i)
final_next us fs rest i k lt at =
    slice_get-right (map (block_step step.Undo) us) (map (block_step step.Final) fs ++ rest) i k (omega (arith, length-map us (block_step step.Undo)))
    ∙ slice_get-left (map (block_step step.Final) fs) rest i (omega (arith, length-map fs (block_step step.Final))) ∙ slice_get-map (block_step step.Final) fs i

added_next : (ns ws : List Slip) (i : ℕ) (t : Bool) → ltb i (length ns) ≡ t
    → slice_get (map (block_step step.NewFinal) ns ++ map (block_step step.New) ws) i ≡ option_map (block_step (added_kind t)) (slice_get (ns ++ ws) i)
added_next ns ws i true e =
    let lt : i < length ns = ltb-true i (length ns) e in
    slice_get-left (map (block_step step.NewFinal) ns) (map (block_step step.New) ws) i (omega (arith, length-map ns (block_step step.NewFinal)))
    ∙ slice_get-map (block_step step.NewFinal) ns i ∙ ap (option_map (block_step step.NewFinal)) (sym (slice_get-left ns ws i lt))
added_next ns ws i false e =
    let le : length ns ≤ i = ltb-false i (length ns) e in
    let k = i - length ns in
    slice_get-right (map (block_step step.NewFinal) ns) (map (block_step step.New) ws) k i (omega (arith, length-map ns (block_step step.NewFinal)))
    ∙ slice_get-map (block_step step.New) ws k ∙ ap (option_map (block_step step.New)) (sym (slice_get-right ns ws k i (omega arith)))

new_last : (us fs ns ws : List Slip) (i k : ℕ) (t : Bool) → ltb i (length ns) ≡ t → k ≡ (length us + length fs) + i
    → slice_get (map (block_step step.Undo) us ++ (map (block_step step.Final) fs ++ (map (block_step step.NewFinal) ns ++ map (block_step step.New) ws))) k
    ≡ option_map (block_step (added_kind t)) (slice_get (ns ++ ws) i)
new_last us fs ns ws i k t e at =
    let rest = map (block_step step.NewFinal) ns ++ map (block_step step.New) ws in
    slice_get-right (map (block_step step.Undo) us) (map (block_step step.Final) fs ++ rest) (length fs + i) k (omega (arith, length-map us (block_step step.Undo)))
    ∙ slice_get-right (map (block_step step.Final) fs) rest i (length fs + i) (omega (arith, length-map fs (block_step step.Final))) ∙ added_next ns ws i t e

pub step_undo : (newest : List Slip) (b : Batch) (steps : List BlockStep) → Runs newest b steps → (line : List Slip) (i j : ℕ) (o : Option Slip) → line ≡ ancestry_at newest b.place.end
    → i < b.undos → i + j + 1 ≡ length (ancestry_at newest b.place.end) → o ≡ slice_get (reverse line) j → option_map (block_step step.Undo) o ≡ slice_get steps i
step_undo newest b steps r line i j o same lt at e =
    ap (option_map (block_step step.Undo)) (e ∙ ap (λ l. slice_get (reverse l) j) same ∙ r.undo_line i j lt at)
    ∙ sym (undo_first r.us _ i (omega (arith, r.undos))) ∙ ap (λ l. slice_get l i) (sym r.steps_are)

pub step_final : (newest : List Slip) (b : Batch) (steps : List BlockStep) → Runs newest b steps → (i j k : ℕ) (o : Option Slip)
    → i < b.finals → j ≡ length (ancestry_at newest b.place.lib) + i → k ≡ b.undos + i → o ≡ slice_get (reverse (ancestry_of newest (slip_of newest b.target))) j
    → option_map (block_step step.Final) o ≡ slice_get steps k
step_final newest b steps r i j k o lt at ak e =
    ap (option_map (block_step step.Final)) (e ∙ r.final_line i j lt at)
    ∙ sym (final_next r.us r.fs _ i k (omega (arith, r.finals)) (omega (arith, r.undos))) ∙ ap (λ l. slice_get l k) (sym r.steps_are)

pub step_new : (newest : List Slip) (b : Batch) (steps : List BlockStep) → Runs newest b steps → (i j k : ℕ) (kind : Step) (o : Option Slip)
    → i < b.newfinals + b.news → j + b.undos ≡ length (ancestry_at newest b.place.end) + i → k ≡ (b.undos + b.finals) + i → kind ≡ added_kind (ltb i b.newfinals)
    → o ≡ slice_get (reverse (ancestry_of newest (slip_of newest b.target))) j → option_map (block_step kind) o ≡ slice_get steps k
step_new newest b steps r i j k kind o lt at ak is e =
    ap (λ s. option_map (block_step s) o) is ∙ ap (option_map (block_step (added_kind (ltb i b.newfinals)))) (e ∙ r.new_line i j lt at)
    ∙ sym (new_last r.us r.fs r.ns r.ws i k (ltb i b.newfinals) (ap (ltb i) r.newfinals) (omega (arith, r.undos, r.finals))) ∙ ap (λ l. slice_get l k) (sym r.steps_are)

-- past the last step there is none
pub steps_length : (newest : List Slip) (b : Batch) (steps : List BlockStep) → Runs newest b steps → length steps ≡ step_total b
steps_length newest b steps r =
    let us = map (block_step step.Undo) r.us in
    let fs = map (block_step step.Final) r.fs in
    let ns = map (block_step step.NewFinal) r.ns in
    let ws = map (block_step step.New) r.ws in
    omega (
      arith,
      ap length r.steps_are,
      length-append us (fs ++ (ns ++ ws)),
      length-append fs (ns ++ ws),
      length-append ns ws,
      length-map r.us (block_step step.Undo),
      length-map r.fs (block_step step.Final),
      length-map r.ns (block_step step.NewFinal),
      length-map r.ws (block_step step.New),
      r.undos,
      r.finals,
      r.newfinals,
      r.news,
    )

pub no_step : (newest : List Slip) (b : Batch) (steps : List BlockStep) → Runs newest b steps → (i : ℕ) → step_total b ≤ i → None ≡ slice_get steps i
no_step newest b steps r i le = sym (slice_get_past steps i (omega (arith, steps_length newest b steps r)))

-- a block on a path that is deep enough
pub path_there : (newest : List Slip) (at depth : ℕ) (o : Option ℕ) (line : List Slip) → ((y : Slip) → slip_at newest at ≡ Some y → slip_of newest o ≡ slice_get (reverse (ancestry newest y.id)) depth)
    → line ≡ ancestry_of newest (slip_at newest at) → depth < length line → slip_of newest o ≡ slice_get (reverse line) depth
path_there newest at depth o line is e lt = go (slip_at newest at) refl
  where
    go : (s : Option Slip) → slip_at newest at ≡ s → slip_of newest o ≡ slice_get (reverse line) depth
    go None none = absurd (let short : length line ≡ 0 = ap length (e ∙ ap (ancestry_of newest) none) in let f : ⊥ = omega (arith, short, lt) in f)
    go (Some y) some = is y some ∙ ap (λ l. slice_get (reverse l) depth) (sym (e ∙ ap (ancestry_of newest) some))

pub is_some_of : (newest : List Slip) (o : Option ℕ) (line : List Slip) (depth : ℕ) → slip_of newest o ≡ slice_get (reverse line) depth → depth < length line → IsSome o
is_some_of newest None line depth e lt =
    let x = there (reverse line) depth (omega (arith, length-reverse line)) in
    absurd (grind (arith, e, x.1))
is_some_of newest (Some p) line depth e lt = refl

pub path_range : (newest : List Slip) (at depth : ℕ) → depth < length (ancestry_of newest (slip_at newest at)) → at < length newest
path_range newest at depth lt = go (slip_at newest at) refl lt
  where
    go : (s : Option Slip) → slip_at newest at ≡ s → depth < length (ancestry_of newest s) → at < length newest
    go None e short = absurd (let f : ⊥ = omega arith in f)
    go (Some y) e short = slip_at_within newest at y e
