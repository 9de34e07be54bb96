-- The counts of a batch.
use Rattle.std.proofs.Common.{arith, ◌≡◌, ◌⊎◌, ◌<◌, ◌≤◌, ◌+◌, inl, inr, ℕ, Bool, true, false, not, cond, List, [], ◌∷◌, ◌++◌, length, max, min, Option, Some, None, refl, sym, ◌∙◌, ap, subst, reverse, nat_le, nat_lt, ltb, find}
use Rattle.std.specs.List.{filter}
use Rattle.std.proofs.lemmas.List.{append-nil, length-append, length-reverse}
use Rattle.std.proofs.lemmas.List.Elements.{filter-append}
use Rattle.std.proofs.lemmas.Option.{same_Some, slice_get_past}
use mathlib.Core.List.{IsSuffix}
use Rattle.block_record.specs.declared.blocks.Slip.{Slip}
use Rattle.block_record.specs.declared.blocks.BlockRef.{BlockRef}
use Rattle.block_record.specs.Ids.{same_id}
use Rattle.chain_model.specs.declared.places.Mode.{Mode}
use Rattle.chain_model.specs.declared.places.Mode.TheVariants as mode
use Rattle.chain_model.specs.Ancestry.{has_id, ancestry, IsHistory}
use Rattle.chain_model.specs.Finality.{ancestry_of, final_tip, final_ancestry}
use Rattle.chain_model.specs.Places.{IsAhead, PlaceFits}
use Rattle.chain_model.specs.Steps.{added, ancestry_at, cut, drop_while, head, is_after, keep_while, kept, target, undone, whole_target}
use Rattle.chain_laws.specs.Standing.{first_of}
use Rattle.chain_laws.proofs.public.ClosedLists.{Passes, Closed, Closed-passes, Passes-append, keep-append-drop, filter-closed, filter-passes, closed_parts, closed_first}
use Rattle.chain_laws.proofs.public.Growth.{claim_found, tip_claimed}
use Rattle.chain_laws.proofs.public.LineFacts.{line_is}
use Rattle.chain_laws.proofs.public.Meeting.{LibFits, meet, lib_split, lib_passes, finals_closed, finals_line, target_line, target_has, whole_line, whole_has, suffix_passes, drop_suffix, has_first}
use Rattle.chain_laws.proofs.public.Reach.{IsLine, Nothing, drop_line, ancestry_line, head_is_found, line_under}
use Rattle.chain_laws.proofs.public.Walks.{is_final}
use Rattle.block_tree.proofs.public.ParentFacts.{found_at}
use Rattle.block_tree.proofs.public.PlaceFacts.{slip_none, path_of_id}
use Rattle.block_tree.proofs.public.WalkFacts.{slip_there}
use Rattle.block_tree.specs.Places.{slip_at, slip_of, place_of, meeting}
use Rattle.fork_db.specs.declared.batches.Batch.{Batch}
use Rattle.fork_db.specs.Batches.{HasCounts, IsBatch}

-- a path is no longer than the history
pub ancestry_short : (newest : List Slip) (id : List ℕ) → length (ancestry newest id) ≤ length newest
ancestry_short [] id = omega arith
ancestry_short (s ∷ older) id =
    let here = ancestry_short older s.parent_id in
    let past = ancestry_short older id in
    let P : Bool → Type 0 = λ b. length (cond b (s ∷ ancestry older s.parent_id) (ancestry older id)) ≤ length (s ∷ older) in
    elim (same_id s.id id) as P [ true ↦ omega arith | false ↦ omega arith ]

pub line_short : (newest : List Slip) (o : Option Slip) → length (ancestry_of newest o) ≤ length newest
line_short newest None = omega arith
line_short newest (Some s) = ancestry_short newest s.id

pub end_short : (newest : List Slip) (end : Option BlockRef) → length (ancestry_at newest end) ≤ length newest
end_short newest None = omega arith
end_short newest (Some r) = ancestry_short newest r.id

pub path_length : (newest : List Slip) (at n : ℕ) → at < length newest → ((s : Slip) → slip_at newest at ≡ Some s → n + 1 ≡ length (ancestry newest s.id))
    → n + 1 ≡ length (ancestry_of newest (slip_of newest (Some at)))
path_length newest at n lt deep =
    let s = slip_there newest at lt in
    deep s.0 s.1 ∙ ap (λ o. length (ancestry_of newest o)) (sym s.1)

pub path_short : (newest : List Slip) (at n m : ℕ) → at < length newest → ((s : Slip) → slip_at newest at ≡ Some s → n + 1 ≡ length (ancestry newest s.id))
    → length newest ≤ m → n + 1 ≤ m
path_short newest at n m lt deep le =
    let s = slip_there newest at lt in
    omega (arith, deep s.0 s.1, ancestry_short newest s.0.id)

pub path_missing : (newest : List Slip) (at : ℕ) → length newest ≤ at → 0 ≡ length (ancestry_of newest (slip_of newest (Some at)))
path_missing newest at le = ap (λ o. length (ancestry_of newest o)) (sym (slip_none newest at le))

-- the first that is left after a cut is the first that does not pass
pub first_left : (p q : Slip → Bool) → ((s : Slip) → p s ≡ not (q s)) → (xs : List Slip) → first_of (drop_while p xs) ≡ find q xs
first_left p q e [] = refl
first_left p q e (x ∷ xs) =
    let P : Bool → Type 0 = λ b. first_of (cond (not b) (drop_while p xs) (x ∷ xs)) ≡ cond b (Some x) (find q xs) in
    rw (e x) (elim (q x) as P [ true ↦ refl | false ↦ first_left p q e xs ])

lt_le : (a b : ℕ) → nat_lt a b ≡ not (nat_le b a)
lt_le a b = grind arith

pub first_cut : (newest : List Slip) (at stop : ℕ) (o : Option ℕ) → at < length newest
    → ((s : Slip) → slip_at newest at ≡ Some s → slip_of newest o ≡ find (λ x. nat_le x.num stop) (ancestry newest s.id))
    → slip_of newest o ≡ first_of (cut (Some stop) (ancestry_of newest (slip_of newest (Some at))))
first_cut newest at stop o lt is =
    let s = slip_there newest at lt in
    is s.0 s.1 ∙ sym (first_left (λ x. nat_lt stop x.num) (λ x. nat_le x.num stop) (λ x. lt_le stop x.num) (ancestry newest s.0.id))
    ∙ ap (λ x. first_of (cut (Some stop) (ancestry_of newest x))) (sym s.1)

-- a path begins with its block
first_go : (newest : List Slip) → IsHistory newest → (at : ℕ) (o : Option Slip) → slip_at newest at ≡ o → o ≡ first_of (ancestry_of newest o)
first_go newest history at None e = refl
first_go newest history at (Some s) e =
    let r = head_is_found newest s.id s (found_at newest at s history e) in
    ap first_of (sym r.1)

pub first_whole : (newest : List Slip) → IsHistory newest → (o : Option ℕ) → slip_of newest o ≡ first_of (ancestry_of newest (slip_of newest o))
first_whole newest history None = refl
first_whole newest history (Some at) = first_go newest history at (slip_at newest at) refl

cut_none : (stop : Option ℕ) → None ≡ first_of (cut stop [])
cut_none None = refl
cut_none (Some stop) = refl

pub first_missing : (newest : List Slip) (at : ℕ) (stop : Option ℕ) → length newest ≤ at
    → slip_of newest (Some at) ≡ first_of (cut stop (ancestry_of newest (slip_of newest (Some at))))
first_missing newest at stop le =
    let none = slip_none newest at le in
    none ∙ cut_none stop ∙ ap (λ o. first_of (cut stop (ancestry_of newest o))) (sym none)

-- the last block of the target of no stop
abbrev pub whole_last : List Slip → Mode → Option Slip
whole_last newest mode.Live = head newest
whole_last newest mode.Final = final_tip newest

-- what is on both paths, from the block on at which they meet
none_kept : (wanted : List Slip) → kept [] wanted ≡ []
none_kept [] = refl
none_kept (s ∷ rest) = none_kept rest

line_of_first : (newest line : List Slip) (s : Slip) → IsLine newest line → first_of line ≡ Some s → ancestry newest s.id ≡ line
line_of_first newest [] s l e = absurd (grind arith)
line_of_first newest (x ∷ rest) s l e = let same : x ≡ s = same_Some x s e in subst (λ (y : Slip). ancestry newest y.id ≡ x ∷ rest) same (line_is newest x rest l)

pub common_length : (newest : List Slip) (a b m n : ℕ) → IsHistory newest → a < length newest → b < length newest → m < length newest
    → ((x y : Slip) → slip_at newest a ≡ Some x → slip_at newest b ≡ Some y → slip_at newest m ≡ meeting (ancestry newest x.id) (ancestry newest y.id))
    → n ≡ length (ancestry_of newest (slip_of newest (Some m)))
    → n ≡ length (kept (ancestry_of newest (slip_of newest (Some a))) (ancestry_of newest (slip_of newest (Some b))))
common_length newest a b m n history la lb lm met deep =
    let x = slip_there newest a la in
    let y = slip_there newest b lb in
    let s = slip_there newest m lm in
    let E = ancestry newest x.0.id in
    let T = ancestry newest y.0.id in
    let lE = ancestry_line newest history x.0.id in
    let lT = ancestry_line newest history y.0.id in
    let D = drop_while (λ z. not (has_id T z.id)) E in
    let first : first_of D ≡ Some s.0 = first_left (λ z. not (has_id T z.id)) (λ z. has_id T z.id) (λ z. refl) E ∙ sym (met x.0 y.0 x.1 y.1) ∙ s.1 in
    let line : ancestry newest s.0.id ≡ D = line_of_first newest D s.0 (drop_line newest history _ E lE) first in
    let both : kept (ancestry_of newest (slip_at newest a)) (ancestry_of newest (slip_at newest b)) ≡ D = rw (x.1, y.1) (sym (meet newest E T history lE lT)) in
    deep ∙ ap (λ o. length (ancestry_of newest o)) s.1 ∙ ap length line ∙ ap length (sym both)

pub none_common_left : (newest wanted : List Slip) (o : Option Slip) → o ≡ None → 0 ≡ length (kept (ancestry_of newest o) wanted)
none_common_left newest wanted o e = rw (e, none_kept wanted) refl

pub none_common_right : (newest held : List Slip) (o : Option Slip) → o ≡ None → 0 ≡ length (kept held (ancestry_of newest o))
none_common_right newest held o e = rw e refl

-- how the two paths are made up: blocks to undo and blocks to add, and of what is on both, the blocks after the lib and those up to it
pub record Parts (newest held wanted : List Slip) (lib : Option BlockRef) (gone new_ open_ known : List Slip) : Type 0 where
  pub held_is : held ≡ gone ++ (open_ ++ known)
  pub wanted_is : wanted ≡ new_ ++ (open_ ++ known)
  pub kept_is : kept held wanted ≡ open_ ++ known
  pub known_is : known ≡ ancestry_at newest lib
  pub low : Passes (is_final newest) known
  pub new_closed : Closed (is_final newest) new_
  pub open_closed : Closed (is_final newest) open_
  pub one : Passes (is_final newest) open_ ⊎ (filter (is_final newest) new_ ≡ [])

pub parts_of : (newest line goal : List Slip) → IsHistory newest → IsLine newest line → IsLine newest goal → (lib : Option BlockRef) → LibFits newest line goal lib
    → Parts newest line goal lib (undone line goal) (added line goal) (keep_while (is_after lib) (kept line goal)) (drop_while (is_after lib) (kept line goal))
parts_of newest line goal history l g lib fits =
    let f = is_final newest in
    let A = added line goal in
    let K = keep_while (is_after lib) (kept line goal) in
    let L = drop_while (is_after lib) (kept line goal) in
    let finals = finals_line newest history in
    let both : K ++ L ≡ kept line goal = keep-append-drop (is_after lib) (kept line goal) in
    let split : L ≡ ancestry_at newest lib = lib_split newest line goal history g lib fits in
    let goal_parts : goal ≡ A ++ (K ++ L) = rw (both, keep-append-drop (λ x. not (has_id line x.id)) goal) refl in
    let closed : Closed f (A ++ (K ++ L)) = subst (Closed f) goal_parts (finals_closed newest (final_ancestry newest) goal history finals g) in
    let low : Passes f L = subst (Passes f) (sym split) (lib_passes newest line goal history finals lib fits) in
    let closed_A : Closed f A = closed_first f A (K ++ L) closed in
    let closed_low : Closed f (K ++ L) = elim (closed_parts f A (K ++ L) closed) [ inl u ↦ Closed-passes f (K ++ L) u.all | inr u ↦ u.rest ] in
    let one : Passes f K ⊎ (filter f A ≡ []) = elim (closed_parts f A (K ++ L) closed) [
      | inl u ↦ inl (Passes-append f K L u.all).0
      | inr u ↦ inr (filter-closed f A closed_A ∙ u.none)
    ] in
    record {
      held_is = rw (both, ← meet newest line goal history l g, keep-append-drop (λ x. not (has_id goal x.id)) line) refl;
      wanted_is = goal_parts;
      kept_is = sym both;
      known_is = split;
      low = low;
      new_closed = closed_A;
      open_closed = closed_first f K L closed_low;
      one = one;
    }

-- a place that fits, and a target
pub end_line : (newest : List Slip) → IsHistory newest → (end : Option BlockRef) → IsLine newest (ancestry_at newest end)
end_line newest history None = Nothing
end_line newest history (Some e) = ancestry_line newest history e.id

pub lib_fits : (newest : List Slip) → IsHistory newest → (end lib : Option BlockRef) (m : Mode) (stop : Option ℕ) → PlaceFits newest end lib → IsAhead stop end
    → LibFits newest (ancestry_at newest end) (target newest m stop) lib
lib_fits newest history None None m stop fits ahead = refl
lib_fits newest history None (Some l) m stop fits ahead = absurd fits
lib_fits newest history (Some e) None m stop fits ahead = absurd fits
lib_fits newest history (Some e) (Some l) m stop fits ahead = (fits.on_path, target_has newest history e l fits m stop ahead, fits.final, fits.lib_held)

-- of two last parts of a list one is a last part of the other
suffix_either : (xs ys a b : List Slip) → a ++ xs ≡ b ++ ys → IsSuffix xs ys ⊎ IsSuffix ys xs
suffix_either xs ys [] b e = inr (b, sym e)
suffix_either xs ys (s ∷ a) [] e = inl (s ∷ a, e)
suffix_either xs ys (s ∷ a) (t ∷ b) e = suffix_either xs ys a b (grind (arith, e))

suffix_short : (xs ys : List Slip) → IsSuffix xs ys → length xs ≤ length ys
suffix_short xs ys h = omega (arith, length-append h.0 xs, ap length h.1)

cut_suffix : (stop : Option ℕ) (line : List Slip) → IsSuffix (cut stop line) line
cut_suffix None line = ([], refl)
cut_suffix (Some stop) line = drop_suffix (λ s. ltb stop s.num) line

finals_suffix : (newest : List Slip) → IsHistory newest → (m : Mode) (o : Option Slip) → final_tip newest ≡ o → IsSuffix (ancestry_of newest o) (whole_target newest m)
finals_suffix newest history m None e = (whole_target newest m, append-nil (whole_target newest m))
finals_suffix newest history m (Some t) e =
    let claimed = tip_claimed newest history t e in
    let first = head_is_found newest t.id t (claim_found newest history claimed.by t claimed.claimed) in
    let on : has_id (final_ancestry newest) t.id ≡ true = ap (λ o. has_id (ancestry_of newest o) t.id) e ∙ has_first (ancestry newest t.id) t first.0 first.1 in
    line_under newest history (whole_target newest m) (whole_line newest history m) t.id (whole_has newest history t.id on m)

-- the final path and a target are on one path
pub one_path : (newest : List Slip) → IsHistory newest → (m : Mode) (stop : Option ℕ) → IsSuffix (final_ancestry newest) (target newest m stop) ⊎ IsSuffix (target newest m stop) (final_ancestry newest)
one_path newest history m stop =
    let f = finals_suffix newest history m (final_tip newest) refl in
    let t = cut_suffix stop (whole_target newest m) in
    suffix_either (final_ancestry newest) (target newest m stop) f.0 t.0 (f.1 ∙ sym t.1)

none_dropped : (f : Slip → Bool) (xs : List Slip) → Passes f xs → drop_while (λ s. not (f s)) xs ≡ xs
none_dropped f [] all = refl
none_dropped f (x ∷ xs) all = rw all.0 refl

min_left : (a b : ℕ) → b ≤ a → b ≡ min a b
min_left a b le = omega arith

min_right : (a b : ℕ) → a ≤ b → a ≡ min a b
min_right a b le = omega arith

-- so the final blocks of a target are the first of it, as many as it has and as are final
pub finals_of_target : (newest goal : List Slip) → IsHistory newest → IsLine newest goal → IsSuffix (final_ancestry newest) goal ⊎ IsSuffix goal (final_ancestry newest)
    → length (filter (is_final newest) goal) ≡ min (length goal) (length (final_ancestry newest))
finals_of_target newest goal history g either =
    let F = final_ancestry newest in
    let f = is_final newest in
    let finals = finals_line newest history in
    let left : filter f goal ≡ drop_while (λ s. not (f s)) goal = filter-closed f goal (finals_closed newest F goal history finals g) in
    elim either [
      | inl h ↦
          let all : drop_while (λ s. not (has_id goal s.id)) F ≡ F = none_dropped (λ s. has_id goal s.id) F (suffix_passes F goal h) in
          ap length (left ∙ sym (meet newest F goal history finals g) ∙ all) ∙ min_left (length goal) (length F) (suffix_short F goal h)
      | inr h ↦ ap length (left ∙ none_dropped f goal (suffix_passes goal F h)) ∙ min_right (length goal) (length F) (suffix_short goal F h)
    ]

pub length_halves : (f : Slip → Bool) (xs : List Slip) → length (filter f xs) + length (filter (λ s. not (f s)) xs) ≡ length xs
length_halves f [] = refl
length_halves f (x ∷ xs) =
    let rest = length_halves f xs in
    let P : Bool → Type 0 = λ b. length (cond b (x ∷ filter f xs) (filter f xs)) + length (cond (not b) (x ∷ filter (λ s. not (f s)) xs) (filter (λ s. not (f s)) xs)) ≡ length (x ∷ xs) in
    elim (f x) as P [ true ↦ omega arith | false ↦ omega arith ]

-- lengths of paths, and what they say of the counts
pub record Lens (held wanted common known finals : ℕ) : Type 0 where
  pub common_held : common ≤ held
  pub common_wanted : common ≤ wanted
  pub known_low : known ≤ min common finals
  pub finals_wanted : finals ≤ wanted

pub record Sums (held wanted common known finals : ℕ) (u fk fa ga : ℕ) : Type 0 where
  pub undo : u + common ≡ held
  pub final : fk + known ≡ min common finals
  pub newfinal : fa + common ≡ max common finals
  pub new_ : ga + max common finals ≡ wanted

sums_of : (held wanted common known finals u a k l fk fa ga : ℕ) → held ≡ u + (k + l) → wanted ≡ a + (k + l) → common ≡ k + l → known ≡ l → fa + ga ≡ a → fk ≤ k
    → finals ≡ fa + (fk + l) → (fk ≡ k) ⊎ (fa ≡ 0) → Lens held wanted common known finals × Sums held wanted common known finals u fk fa ga
sums_of held wanted common known finals u a k l fk fa ga h w c kn split le f (inl all) = (
  record { common_held = omega arith; common_wanted = omega arith; known_low = omega arith; finals_wanted = omega arith },
  record { undo = omega arith; final = omega arith; newfinal = omega arith; new_ = omega arith },
)
sums_of held wanted common known finals u a k l fk fa ga h w c kn split le f (inr none) = (
  record { common_held = omega arith; common_wanted = omega arith; known_low = omega arith; finals_wanted = omega arith },
  record { undo = omega arith; final = omega arith; newfinal = omega arith; new_ = omega arith },
)

pub lens_of : (newest : List Slip) → IsHistory newest → (end lib : Option BlockRef) (m : Mode) (stop : Option ℕ) → PlaceFits newest end lib → IsAhead stop end
    → (held wanted common known finals : ℕ) → held ≡ length (ancestry_at newest end) → wanted ≡ length (target newest m stop)
    → common ≡ length (kept (ancestry_at newest end) (target newest m stop)) → known ≡ length (ancestry_at newest lib) → finals ≡ min wanted (length (final_ancestry newest))
    → Lens held wanted common known finals × Sums held wanted common known finals
    (length (undone (ancestry_at newest end) (target newest m stop)))
    (length (filter (is_final newest) (keep_while (is_after lib) (kept (ancestry_at newest end) (target newest m stop)))))
    (length (filter (is_final newest) (added (ancestry_at newest end) (target newest m stop))))
    (length (filter (λ s. not (is_final newest s)) (added (ancestry_at newest end) (target newest m stop))))
lens_of newest history end lib m stop fits ahead held wanted common known finals eh ew ec ek ef =
    let f = is_final newest in
    let E = ancestry_at newest end in
    let T = target newest m stop in
    let g = target_line newest history m stop in
    let p = parts_of newest E T history (end_line newest history end) g lib (lib_fits newest history end lib m stop fits ahead) in
    let U = undone E T in
    let A = added E T in
    let K = keep_while (is_after lib) (kept E T) in
    let L = drop_while (is_after lib) (kept E T) in
    let low : filter f L ≡ L = filter-passes f L p.low in
    let count : length (filter f T) ≡ length (filter f A) + (length (filter f K) + length L) =
    ap (λ x. length (filter f x)) p.wanted_is ∙ ap length (filter-append f A (K ++ L)) ∙ length-append (filter f A) (filter f (K ++ L))
    ∙ ap (λ x. length (filter f A) + length x) (filter-append f K L) ∙ ap (λ n. length (filter f A) + n) (length-append (filter f K) (filter f L) ∙ ap (λ x. length (filter f K) + length x) low) in
    let finals_are : finals ≡ length (filter f A) + (length (filter f K) + length L) =
    ef ∙ ap (λ n. min n (length (final_ancestry newest))) ew ∙ sym (finals_of_target newest T history g (one_path newest history m stop)) ∙ count in
    let K_halves = length_halves f K in
    let one : (length (filter f K) ≡ length K) ⊎ (length (filter f A) ≡ 0) = elim p.one [ inl all ↦ inl (ap length (filter-passes f K all)) | inr none ↦ inr (ap length none) ] in
    sums_of held wanted common known finals (length U) (length A) (length K) (length L) (length (filter f K)) (length (filter f A)) (length (filter (λ s. not (f s)) A))
    (eh ∙ ap length p.held_is ∙ length-append U (K ++ L) ∙ ap (λ n. length U + n) (length-append K L))
    (ew ∙ ap length p.wanted_is ∙ length-append A (K ++ L) ∙ ap (λ n. length A + n) (length-append K L))
    (ec ∙ ap length p.kept_is ∙ length-append K L)
    (ek ∙ sym (ap length p.known_is))
    (length_halves f A) (omega (arith, K_halves)) finals_are one

pub counts_are : (path held : List Slip) (lib : Option BlockRef) (goal : List Slip) (h w c k f u fk fa ga undos finals newfinals news : ℕ)
    → u ≡ length (undone held goal) → fk ≡ length (filter (λ s. has_id path s.id) (keep_while (is_after lib) (kept held goal)))
    → fa ≡ length (filter (λ s. has_id path s.id) (added held goal)) → ga ≡ length (filter (λ s. not (has_id path s.id)) (added held goal))
    → Sums h w c k f u fk fa ga → Sums h w c k f undos finals newfinals news → HasCounts path held lib goal undos finals newfinals news
counts_are path held lib goal h w c k f u fk fa ga undos finals newfinals news eu ek ea eg s t = record {
  undo = omega (arith, s.undo, t.undo, eu);
  final = omega (arith, s.final, t.final, ek);
  newfinal = omega (arith, s.newfinal, t.newfinal, ea);
  new_ = omega (arith, s.new_, t.new_, eg);
}

-- a target is the path of its last block
pub line_of_last : (newest line : List Slip) (o : Option Slip) → IsLine newest line → o ≡ first_of line → ancestry_of newest o ≡ line
line_of_last newest [] o l e = rw e refl
line_of_last newest (s ∷ rest) o l e = rw e (line_is newest s rest l)

pub target_last : (newest : List Slip) (m : Mode) (stop : Option ℕ) (o t : Option Slip) → o ≡ whole_last newest m
    → t ≡ first_of (cut stop (ancestry_of newest o)) → t ≡ first_of (target newest m stop)
target_last newest mode.Live stop o t whole e = e ∙ ap (λ l. first_of (cut stop (ancestry_of newest l))) whole
target_last newest mode.Final stop o t whole e = e ∙ ap (λ l. first_of (cut stop (ancestry_of newest l))) whole

-- the same of the paths that were measured
pub batch_lens : (newest : List Slip) → IsHistory newest → (end lib : Option BlockRef) (m : Mode) (stop : Option ℕ) → PlaceFits newest end lib → IsAhead stop end
    → (last tip : Option Slip) → last ≡ first_of (target newest m stop) → tip ≡ final_tip newest
    → (held wanted common known finals : ℕ) → held ≡ length (ancestry_at newest end) → wanted ≡ length (ancestry_of newest last)
    → common ≡ length (kept (ancestry_at newest end) (ancestry_of newest last)) → known ≡ length (ancestry_at newest lib) → finals ≡ min wanted (length (ancestry_of newest tip))
    → Lens held wanted common known finals × Sums held wanted common known finals
    (length (undone (ancestry_at newest end) (target newest m stop)))
    (length (filter (is_final newest) (keep_while (is_after lib) (kept (ancestry_at newest end) (target newest m stop)))))
    (length (filter (is_final newest) (added (ancestry_at newest end) (target newest m stop))))
    (length (filter (λ s. not (is_final newest s)) (added (ancestry_at newest end) (target newest m stop))))
batch_lens newest history end lib m stop fits ahead last tip el et held wanted common known finals eh ew ec ek ef =
    let line : ancestry_of newest last ≡ target newest m stop = line_of_last newest (target newest m stop) last (target_line newest history m stop) el in
    lens_of newest history end lib m stop fits ahead held wanted common known finals eh (ew ∙ ap length line) (ec ∙ ap (λ l. length (kept (ancestry_at newest end) l)) line) ek
    (ef ∙ ap (λ o. min wanted (length (ancestry_of newest o))) et)

pub batch_is : (newest : List Slip) (m : Mode) (stop : Option ℕ) (b : Batch) (held wanted common known finals u fk fa ga : ℕ) → b.seen ≡ length newest
    → slip_of newest b.target ≡ first_of (target newest m stop) → slip_of newest b.end ≡ first_of (ancestry_at newest b.place.end)
    → b.held ≡ length (ancestry_at newest b.place.end) → b.known ≡ length (ancestry_at newest b.place.lib)
    → u ≡ length (undone (ancestry_at newest b.place.end) (target newest m stop))
    → fk ≡ length (filter (is_final newest) (keep_while (is_after b.place.lib) (kept (ancestry_at newest b.place.end) (target newest m stop))))
    → fa ≡ length (filter (is_final newest) (added (ancestry_at newest b.place.end) (target newest m stop)))
    → ga ≡ length (filter (λ s. not (is_final newest s)) (added (ancestry_at newest b.place.end) (target newest m stop)))
    → Sums held wanted common known finals u fk fa ga → Sums held wanted common known finals b.undos b.finals b.newfinals b.news → IsBatch newest m stop b
batch_is newest m stop b held wanted common known finals u fk fa ga seen last ends long knows eu ek ea eg s t = record {
  seen = seen;
  last = last;
  end = ends;
  held = long;
  known = knows;
  counts = counts_are (final_ancestry newest) (ancestry_at newest b.place.end) b.place.lib (target newest m stop) held wanted common known finals u fk fa ga b.undos b.finals b.newfinals b.news eu ek ea eg s t;
}
