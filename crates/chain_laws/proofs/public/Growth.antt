-- Why the final path only grows.
use Rattle.std.proofs.Common.{arith, ◌≡◌, ◌<◌, ◌⊎◌, inl, inr, ℕ, Bool, true, false, cond, List, [], ◌∷◌, ◌++◌, reverse, Option, Some, None, refl, sym, ◌∙◌, ap, subst, ltb}
use Rattle.std.specs.List.{AllByRecursion, find, filter_map, cons_option}
use Rattle.std.proofs.lemmas.Bool.{cases_Bool, or_cases, ltb-true}
use Rattle.std.proofs.lemmas.List.{append-nil, reverse-append}
use mathlib.Core.List.{IsPrefix, IsSuffix, IsSuffix-trans}
use Rattle.std.proofs.lemmas.Option.{same_Some}
use Rattle.block_record.specs.declared.blocks.Slip.{Slip}
use Rattle.block_record.specs.Ids.{same_id, same_id_refl}
use Rattle.chain_model.specs.Ancestry.{find_id, ancestry, IsHistory}
use Rattle.chain_model.specs.Finality.{claim, claims, agrees, ClaimsAgree, greater, greatest, final_tip, ancestry_of, final_ancestry}
use Rattle.chain_laws.specs.Laws.{FinalPathGrows}
use Rattle.chain_model.proofs.public.ScanFacts.{ancestry_past}
use Rattle.chain_laws.proofs.public.Lines.{IsHistory-rest, has_id-find_id, find_id_past, find_id_at, other_id, is_above}

-- a fact of each element is one of what is found
pub find_passes : {X : Type 0} (P : X → Type 0) (test : X → Bool) (xs : List X) (x : X) → AllByRecursion P xs → find test xs ≡ Some x → P x
find_passes {X} P test [] x all e = absurd (grind arith)
find_passes {X} P test (y ∷ ys) x all e =
    elim (cases_Bool (test y)) [
      | inl hit ↦ let same : y ≡ x = grind (arith, e, hit) in subst P same all.0
      | inr miss ↦ let rest : find test ys ≡ Some x = grind (arith, e, miss) in find_passes P test ys x all.1 rest
    ]

pub all_weaker : {X : Type 0} (P Q : X → Type 0) → ((x : X) → P x → Q x) → (xs : List X) → AllByRecursion P xs → AllByRecursion Q xs
all_weaker {X} P Q f [] all = tt
all_weaker {X} P Q f (x ∷ xs) all = (f x all.0, all_weaker P Q f xs all.1)

-- a block is found by its id
abbrev pub IsFound : List Slip → Slip → Type 0
IsFound newest s = find_id newest s.id ≡ Some s

pub found_past : (s : Slip) (older : List Slip) → IsHistory (s ∷ older) → (x : Slip) → IsFound older x → IsFound (s ∷ older) x
found_past s older history x f = find_id_past s older x.id (other_id s older history x.id (has_id-find_id older x.id x f)) ∙ f

-- a block of the longer history is the newest, or was there
pub found_cases : (s : Slip) (older : List Slip) (a : Slip) → IsFound (s ∷ older) a → (s ≡ a) ⊎ IsFound older a
found_cases s older a found =
    elim (cases_Bool (same_id s.id a.id)) [
      | inl here ↦ inl (same_Some s a (sym (find_id_at s older a.id here) ∙ found))
      | inr past ↦ inr (sym (find_id_past s older a.id past) ∙ found)
    ]

pub all_found : (newest : List Slip) → IsHistory newest → AllByRecursion (IsFound newest) newest
all_found [] history = tt
all_found (s ∷ older) history =
    (find_id_at s older s.id (same_id_refl s.id), all_weaker (IsFound older) (IsFound (s ∷ older)) (found_past s older history) older (all_found older (IsHistory-rest s older history)))

-- the blocks of an ancestry are found
pub ancestry_found : (newest : List Slip) → IsHistory newest → (id : List ℕ) → AllByRecursion (IsFound newest) (ancestry newest id)
ancestry_found [] history id = tt
ancestry_found (s ∷ older) history id =
    let rest = IsHistory-rest s older history in
    let lift = λ (i : List ℕ). all_weaker (IsFound older) (IsFound (s ∷ older)) (found_past s older history) (ancestry older i) (ancestry_found older rest i) in
    let P : Bool → Type 0 = λ t. AllByRecursion (IsFound (s ∷ older)) (cond t (s ∷ ancestry older s.parent_id) (ancestry older id)) in
    elim (same_id s.id id) as P [ true ↦ (find_id_at s older s.id (same_id_refl s.id), lift s.parent_id) | false ↦ lift id ]

-- a claim is a block of the history
pub claim_found : (newest : List Slip) → IsHistory newest → (b c : Slip) → claim newest b ≡ Some c → IsFound newest c
claim_found newest history b c e = find_passes (IsFound newest) _ (ancestry newest b.id) c (ancestry_found newest history b.id) e

-- and the next block changes none
pub claim_kept : (s : Slip) (older : List Slip) → IsHistory (s ∷ older) → (b : Slip) → IsFound older b → claim (s ∷ older) b ≡ claim older b
claim_kept s [] history b f = absurd (grind arith)
claim_kept s (t ∷ older) history b f =
    rw (ancestry_past s (t ∷ older) b.id (other_id s (t ∷ older) history b.id (has_id-find_id (t ∷ older) b.id b f))) refl

filter_map_agree : {X Y : Type 0} (f g : X → Option Y) (xs : List X) → AllByRecursion (λ x. f x ≡ g x) xs → filter_map f xs ≡ filter_map g xs
filter_map_agree {X} {Y} f g [] all = refl
filter_map_agree {X} {Y} f g (x ∷ xs) all = rw (all.0, filter_map_agree f g xs all.1) refl

pub claims_kept : (s : Slip) (older : List Slip) → IsHistory (s ∷ older) → claims (s ∷ older) ≡ cons_option (claim (s ∷ older) s) (claims older)
claims_kept s older history =
    ap (cons_option (claim (s ∷ older) s)) (filter_map_agree (claim (s ∷ older)) (claim older) older
    (all_weaker (IsFound older) _ (claim_kept s older history) older (all_found older (IsHistory-rest s older history))))

-- the tip is a claim of some block
pub record IsClaimed (newest : List Slip) (t : Slip) : Type 0 where
  pub by : Slip
  pub found : IsFound newest by
  pub claimed : claim newest by ≡ Some t

-- what is greatest with one more claim is that, or was before
pub greater_cases : (o : Option Slip) (s t : Slip) → greater o s ≡ Some t → (o ≡ Some t) ⊎ (s ≡ t)
greater_cases None s t e = inr (grind arith)
greater_cases (Some u) s t e = grind arith

greatest-cons : (c : Option Slip) (xs : List Slip) (t : Slip) → greatest (cons_option c xs) ≡ Some t → (greatest xs ≡ Some t) ⊎ (c ≡ Some t)
greatest-cons None xs t e = inl e
greatest-cons (Some s) xs t e = elim (greater_cases (greatest xs) s t e) [ inl older ↦ inl older | inr same ↦ inr (ap (λ x. Some x) same) ]

greatest_claimed : (newest : List Slip) (xs : List Slip) (t : Slip) → AllByRecursion (IsFound newest) xs → greatest (filter_map (claim newest) xs) ≡ Some t → IsClaimed newest t
greatest_claimed newest [] t all e = absurd (grind arith)
greatest_claimed newest (x ∷ xs) t all e =
    elim (greatest-cons (claim newest x) (filter_map (claim newest) xs) t e) [
      | inl older ↦ greatest_claimed newest xs t all.1 older
      | inr own ↦ record { by = x; found = all.0; claimed = own }
    ]

pub tip_claimed : (newest : List Slip) → IsHistory newest → (t : Slip) → final_tip newest ≡ Some t → IsClaimed newest t
tip_claimed newest history t e = greatest_claimed newest newest t (all_found newest history) e

-- claims that agreed before the next block
pub ClaimsAgree-rest : (s : Slip) (older : List Slip) → IsHistory (s ∷ older) → ClaimsAgree (s ∷ older) → ClaimsAgree older
ClaimsAgree-rest s older history agreed a b x y fa fb cx cy =
    let rest = IsHistory-rest s older history in
    let kept = λ (c d : Slip) (f : IsFound older c) (e : claim older c ≡ Some d). claim_kept s older history c f ∙ e in
    let past = λ (c : Slip) (f : IsFound older c). ancestry_past s older c.id (other_id s older history c.id (has_id-find_id older c.id c f)) in
    let says = agreed a b x y (found_past s older history a fa) (found_past s older history b fb) (kept a x fa cx) (kept b y fb cy) in
    rw (past y (claim_found older rest b y cy), past x (claim_found older rest a x cx)) at says

-- the tip of a history goes on in the next one
tip_goes_on : (s : Slip) (older : List Slip) → IsHistory (s ∷ older) → (t : Slip) → IsFound older t → IsSuffix (ancestry older t.id) (ancestry (s ∷ older) t.id)
tip_goes_on s older history t f = ([], sym (ancestry_past s older t.id (other_id s older history t.id (has_id-find_id older t.id t f))))

-- where the next block's claim is greater, the tip is on its path
tip_under : (s : Slip) (older : List Slip) → IsHistory (s ∷ older) → (t c : Slip) → IsFound (s ∷ older) t → IsFound (s ∷ older) c
    → t.num < c.num → agrees (s ∷ older) c t ≡ true → IsSuffix (ancestry (s ∷ older) t.id) (ancestry (s ∷ older) c.id)
tip_under s older history t c ft fc less says =
    elim (or_cases _ _ says) [
      | inl under ↦ let above = is_above (s ∷ older) history t.id c.id under in absurd (omega (arith, above.nums c t fc ft))
      | inr over ↦ (is_above (s ∷ older) history c.id t.id over).line
    ]

greater_step : (t c : Slip) → (greater (Some t) c ≡ Some t) ⊎ ((t.num < c.num) × (greater (Some t) c ≡ Some c))
greater_step t c =
    elim (cases_Bool (ltb t.num c.num)) [ inl less ↦ inr (ltb-true _ _ less, rw less refl) | inr more ↦ inl (rw more refl) ]

suffix_under : (a b c : List Slip) → IsSuffix a b → b ≡ c → IsSuffix a c
suffix_under a b c h e = subst (λ (l : List Slip). IsSuffix a l) e h

-- one more block: by the tip before, and the claim of the block
grows_to : (s : Slip) (older : List Slip) → IsHistory (s ∷ older) → ClaimsAgree (s ∷ older) → (t : Slip) → final_tip older ≡ Some t → (c : Option Slip) → claim (s ∷ older) s ≡ c
    → IsSuffix (ancestry older t.id) (ancestry_of (s ∷ older) (greatest (cons_option c (claims older))))
grows_to s older history agreed t is None ec =
    let claimed = tip_claimed older (IsHistory-rest s older history) t is in
    let f = claim_found older (IsHistory-rest s older history) claimed.by t claimed.claimed in
    rw is (tip_goes_on s older history t f)
grows_to s older history agreed t is (Some c) ec =
    let rest = IsHistory-rest s older history in
    let claimed = tip_claimed older rest t is in
    let f = claim_found older rest claimed.by t claimed.claimed in
    let own = find_id_at s older s.id (same_id_refl s.id) in
    let fc = claim_found (s ∷ older) history s c ec in
    let says = agreed s claimed.by c t own (found_past s older history claimed.by claimed.found) ec (claim_kept s older history claimed.by claimed.found ∙ claimed.claimed) in
    elim (greater_step t c) [
      | inl stays ↦ rw (is, stays) (tip_goes_on s older history t f)
      | inr more ↦ rw (is, more.1) (IsSuffix-trans (tip_goes_on s older history t f) (tip_under s older history t c (found_past s older history t f) fc more.0 says))
    ]

pub grows_by_one : (s : Slip) (older : List Slip) → IsHistory (s ∷ older) → ClaimsAgree (s ∷ older) → (o : Option Slip) → final_tip older ≡ o → IsSuffix (ancestry_of older o) (final_ancestry (s ∷ older))
grows_by_one s older history agreed None is = (final_ancestry (s ∷ older), append-nil _)
grows_by_one s older history agreed (Some t) is =
    suffix_under _ _ _ (grows_to s older history agreed t is (claim (s ∷ older) s) refl) (ap (λ cs. ancestry_of (s ∷ older) (greatest cs)) (sym (claims_kept s older history)))

-- any number of blocks
pub grows_by_many : (more older : List Slip) → IsHistory (more ++ older) → ClaimsAgree (more ++ older) → IsSuffix (final_ancestry older) (final_ancestry (more ++ older))
grows_by_many [] older history agreed = ([], refl)
grows_by_many (s ∷ more) older history agreed =
    let rest = IsHistory-rest s (more ++ older) history in
    IsSuffix-trans (grows_by_many more older rest (ClaimsAgree-rest s (more ++ older) history agreed)) (grows_by_one s (more ++ older) history agreed (final_tip (more ++ older)) refl)

pub prefix_from_suffix : (a b : List Slip) → IsSuffix a b → IsPrefix (reverse a) (reverse b)
prefix_from_suffix a b h = (reverse h.0, sym (reverse-append h.0 a) ∙ ap reverse h.1)

pub final_path_grows : FinalPathGrows
final_path_grows front more history agreed =
    let e : reverse (front ++ more) ≡ reverse more ++ reverse front = reverse-append front more in
    let P : List Slip → Type 0 = λ l. IsHistory l → ClaimsAgree l → IsSuffix (final_ancestry (reverse front)) (final_ancestry l) in
    prefix_from_suffix _ _ (subst P (sym e) (grows_by_many (reverse more) (reverse front)) history agreed)
