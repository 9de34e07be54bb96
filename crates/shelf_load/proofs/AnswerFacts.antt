-- What a sweep is answered, where the files are told and where not.
use Rattle.std.proofs.Common.{arith, ◌≡◌, ◌≤◌, ◌<◌, ◌+◌, ◌⊎◌, inl, inr, ℕ, zero, suc, Bool, true, false, cond, List, [], ◌∷◌, ◌++◌, length, take, drop, get_or, filter, Option, Some, None, refl, sym, ◌∙◌, ap, subst, IsTrue}
use Rattle.std.specs.Prelude.{codes}
use Rattle.std.specs.Option.{unwrap_or}
use Rattle.std.specs.List.{list_any, AllByRecursion}
use Rattle.std.specs.Str.{bytes_eq}
use Rattle.std.proofs.lemmas.List.{take_more, take-append-drop}
use Rattle.std.proofs.Math.Seq.{drop-cons}
use Rattle.block_record.specs.declared.blocks.Slip.{Slip}
use Rattle.outer_world.specs.Files.{Files, AreInOrder, is_in}
use Rattle.outer_world.specs.Shelves.{RefusesBy, RemoveRefused, AreNamesOf, Lists, told_without}
use Rattle.outer_world.specs.declared.shelves.ShelfFail.{ShelfFail}
use Rattle.outer_world.specs.declared.shelves.ShelfFail.TheVariants as fail
use Rattle.file_reader.specs.Reading.{HasText}
use Rattle.one_block.specs.StoreFaults.{fault_of}
use Rattle.one_block.specs.declared.faults.StoreFault.{StoreFault}
use Rattle.one_block.specs.declared.faults.StoreFault.TheVariants as store
use Rattle.relay_model.specs.Worlds.{World}
use Rattle.bundle_model.specs.Shedding.{may_sweep}
use Rattle.shelf_load.specs.Owns.{HoldsOwn, ReadRefused, IsBadOwn}
use Rattle.shelf_load.specs.Sweeps.{one_if, may_go, swept_of, told_swept, text_at, IsCounted, IsJudged, IsOnly, IsFileSwept, IsFileKept, AreSwept, AreKept, SweepRefused, IsSwept}
use Rattle.shelf_load.proofs.SweepFacts.{only_of, apart_before, text_stays, only_stays, own_goes, one_swept, one_kept, swept_none, swept_more, swept_all}

-- the file stays
pub file_kept : (w : World) (name : List ℕ) (old new : Option Files) (s : Slip) → IsTrue (is_in (codes "one") name) → IsOnly old name → new ≡ old → HoldsOwn old name s → may_sweep w s.num s.id ≡ false → IsFileSwept w name old new false
file_kept w name None new s inside only same h may = record { files = same; judged = tt }
file_kept w name (Some files) new s inside only same h may = record {
  files = same ∙ ap (λ (fs : Files). Some fs) (one_kept w name h.text files s inside only h.there h.own may);
  judged = sym (ap (may_go w) h.there ∙ own_goes w name h.text s h.own ∙ may);
}

-- the file goes
gone : (w : World) (name : List ℕ) (old : Option Files) (s : Slip) → IsTrue (is_in (codes "one") name) → IsOnly old name → HoldsOwn old name s → may_sweep w s.num s.id ≡ true → told_without name old ≡ told_swept w (name ∷ []) old
gone w name None s inside only h may = refl
gone w name (Some files) s inside only h may = ap (λ (fs : Files). Some fs) (one_swept w name h.text files s inside only h.there h.own may)

pub file_gone : (w : World) (name : List ℕ) (old mid new : Option Files) (s : Slip) → IsTrue (is_in (codes "one") name) → IsOnly old name → mid ≡ old → new ≡ told_without name mid → HoldsOwn old name s → may_sweep w s.num s.id ≡ true → IsFileSwept w name old new true
file_gone w name old mid new s inside only same removed h may = record {
  files = removed ∙ ap (told_without name) same ∙ gone w name old s inside only h may;
  judged = judged old h;
}
  where
    judged : (files : Option Files) → HoldsOwn files name s → IsJudged w files name true
    judged None k = tt
    judged (Some files) k = sym (ap (may_go w) k.there ∙ own_goes w name k.text s k.own ∙ may)

-- the shelf failed
pub refused_fail : (files : Option Files) (name : List ℕ) (before mid now : ℕ) (f : ShelfFail) → before ≤ mid → RefusesBy f mid now → ReadRefused files name before now (fault_of f)
refused_fail files name before mid now fail.Failed le r = omega (arith, r, le)
refused_fail files name before mid now fail.Mem le r = tt

pub file_failed : (w : World) (name : List ℕ) (old mid new : Option Files) (s : Slip) (before between now : ℕ) (f : ShelfFail) → IsTrue (is_in (codes "one") name) → IsOnly old name → mid ≡ old → HoldsOwn old name s → may_sweep w s.num s.id ≡ true
    → RemoveRefused f name mid new → before ≤ between → RefusesBy f between now → IsFileKept w name old new before now (fault_of f)
file_failed w name old mid new s before between now f inside only same h may refused le r = record { files = files f refused; cause = refused_fail old name before between now f le r }
  where
    files : (g : ShelfFail) → RemoveRefused g name mid new → (new ≡ old) ⊎ (new ≡ told_swept w (name ∷ []) old)
    files fail.Failed (inl e) = inl (e ∙ same)
    files fail.Failed (inr e) = inr (e ∙ ap (told_without name) same ∙ gone w name old s inside only h may)
    files fail.Mem e = inl (e ∙ same)

-- ---- one after another

-- the files after the first so many names
pub record IsAt (w : World) (old now : Option Files) (names : List (List ℕ)) (i count : ℕ) : Type 0 where
  pub files : now ≡ told_swept w (take i names) old
  pub counted : IsCounted w old (take i names) count

pub at_start : (w : World) (old : Option Files) (names : List (List ℕ)) → IsAt w old old names 0 0
at_start w None names = record { files = refl; counted = tt }
at_start w (Some files) names = record { files = ap (λ (fs : Files). Some fs) (sym (swept_none w files)); counted = refl }

-- the names are cut at one of them
cut : (names : List (List ℕ)) (i : ℕ) (name : List ℕ) → i < length names → name ≡ get_or names i name → names ≡ take i names ++ name ∷ drop (suc i) names
cut names i name within item = sym (take-append-drop i names) ∙ ap (λ (zs : List (List ℕ)). take i names ++ zs) (drop-cons names i name within ∙ ap (λ (z : List ℕ). z ∷ drop (suc i) names) (sym item))

one_more : (names : List (List ℕ)) (i : ℕ) (name : List ℕ) → i < length names → name ≡ get_or names i name → take (i + 1) names ≡ take i names ++ name ∷ []
one_more names i name within item = take_more names i name within ∙ ap (λ (z : List ℕ). take i names ++ z ∷ []) (sym item)

apart : (names : List (List ℕ)) (i : ℕ) (name : List ℕ) → AreInOrder names → i < length names → name ≡ get_or names i name → list_any (bytes_eq name) (take i names) ≡ false
apart names i name order within item = apart_before (take i names) (drop (suc i) names) name (subst AreInOrder (cut names i name within item) order)

only_told : (w : World) (old now : Option Files) (names : List (List ℕ)) (name : List ℕ) → now ≡ told_swept w names old → list_any (bytes_eq name) names ≡ false → IsOnly old name → IsOnly now name
only_told w None now names name is apart only = subst (λ (fs : Option Files). IsOnly fs name) (sym is) tt
only_told w (Some files) now names name is apart only = subst (λ (fs : Option Files). IsOnly fs name) (sym is) (only_stays w names name files apart only)

listed_only : (old : Option Files) (names : List (List ℕ)) (name : List ℕ) → AreNamesOf old (codes "one") names → IsTrue (is_in (codes "one") name) → IsOnly old name
listed_only None names name listed inside = tt
listed_only (Some files) names name listed inside = only_of (codes "one") name files (subst AreInOrder listed.all listed.in_order) inside

-- each name of the list is one of the folder
pub inside_at : (old : Option Files) (names : List (List ℕ)) (i : ℕ) (name : List ℕ) → AreNamesOf old (codes "one") names → i < length names → name ≡ get_or names i name → IsTrue (is_in (codes "one") name)
inside_at old names i name listed within item = each names i within listed.inside item
  where
    each : (xs : List (List ℕ)) (k : ℕ) → k < length xs → AllByRecursion (λ n. IsTrue (is_in (codes "one") n)) xs → name ≡ get_or xs k name → IsTrue (is_in (codes "one") name)
    each [] k less all e = absurd (omega (arith, less))
    each (x ∷ xs) zero less all e = subst (λ (n : List ℕ). IsTrue (is_in (codes "one") n)) (sym e) all.0
    each (x ∷ xs) (suc k) less all e = each xs k (omega (arith, less)) all.1 e

pub only_at : (w : World) (old now : Option Files) (names : List (List ℕ)) (i count : ℕ) (name : List ℕ) → AreNamesOf old (codes "one") names → IsAt w old now names i count → i < length names → name ≡ get_or names i name → IsOnly now name
only_at w old now names i count name listed at within item =
    only_told w old now (take i names) name at.files (apart names i name listed.in_order within item) (listed_only old names name listed (inside_at old names i name listed within item))

count_more : (p : List ℕ → Bool) (names : List (List ℕ)) (name : List ℕ) → length (filter p (names ++ name ∷ [])) ≡ length (filter p names) + one_if (p name)
count_more p [] name = by (p name)
  where
    by : (b : Bool) → length (cond b (name ∷ []) []) ≡ 0 + one_if b
    by true = refl
    by false = refl
count_more p (x ∷ names) name = by (p x) (count_more p names name)
  where
    by : (b : Bool) → length (filter p (names ++ name ∷ [])) ≡ length (filter p names) + one_if (p name)
        → length (cond b (x ∷ filter p (names ++ name ∷ [])) (filter p (names ++ name ∷ []))) ≡ length (cond b (x ∷ filter p names) (filter p names)) + one_if (p name)
    by true e = omega (arith, e)
    by false e = e

-- the next name
next_counted : (w : World) (old now : Option Files) (front : List (List ℕ)) (name : List ℕ) (count : ℕ) (removed : Bool) → now ≡ told_swept w front old → list_any (bytes_eq name) front ≡ false
    → IsCounted w old front count → IsJudged w now name removed → IsCounted w old (front ++ name ∷ []) (count + one_if removed)
next_counted w None now front name count removed is apart c j = tt
next_counted w (Some files) now front name count removed is apart c j =
    let judged : removed ≡ may_go w (text_at name (swept_of w front files)) = subst (λ (fs : Option Files). IsJudged w fs name removed) is j in
    let same : may_go w (text_at name (swept_of w front files)) ≡ may_go w (text_at name files) = ap (λ (o : Option (List ℕ)). may_go w (unwrap_or o [])) (text_stays w front name files apart) in
    let add : one_if removed ≡ one_if (may_go w (text_at name files)) = ap one_if (judged ∙ same) in
    omega (arith, c, add, count_more (λ n. may_go w (text_at n files)) front name)

next_files : (w : World) (old now new : Option Files) (front : List (List ℕ)) (name : List ℕ) → now ≡ told_swept w front old → new ≡ told_swept w (name ∷ []) now → new ≡ told_swept w (front ++ name ∷ []) old
next_files w None now new front name is e = e ∙ ap (told_swept w (name ∷ [])) is
next_files w (Some files) now new front name is e = e ∙ ap (told_swept w (name ∷ [])) is ∙ ap (λ (fs : Files). Some fs) (swept_more w front name files)

pub at_more : (w : World) (old now new : Option Files) (names : List (List ℕ)) (i count : ℕ) (name : List ℕ) (removed : Bool) → AreNamesOf old (codes "one") names → IsAt w old now names i count → i < length names → name ≡ get_or names i name
    → IsFileSwept w name now new removed → IsAt w old new names (i + 1) (count + one_if removed)
at_more w old now new names i count name removed listed at within item f =
    let more = one_more names i name within item in
    record {
      files = next_files w old now new (take i names) name at.files f.files ∙ ap (λ (ns : List (List ℕ)). told_swept w ns old) (sym more);
      counted = subst (λ (ns : List (List ℕ)). IsCounted w old ns (count + one_if removed)) (sym more) (next_counted w old now (take i names) name count removed at.files (apart names i name listed.in_order within item) at.counted f.judged);
    }

-- the file of the next name was refused
pub next_failed : (w : World) (old now new : Option Files) (names : List (List ℕ)) (i count : ℕ) (name : List ℕ) (before between last : ℕ) (fault : StoreFault) → AreNamesOf old (codes "one") names → IsAt w old now names i count
    → i < length names → name ≡ get_or names i name → before ≤ between → IsFileKept w name now new between last fault → AreKept w old new before last fault
next_failed w old now new names i count name before between last fault listed at within item le k = elim k.files [
  | inl e ↦ record { names = take i names; files = e ∙ at.files; cause = cause fault k.cause }
  | inr e ↦ record { names = take i names ++ name ∷ []; files = next_files w old now new (take i names) name at.files e; cause = cause fault k.cause }
]
  where
    text_was : (o : Option Files) → now ≡ told_swept w (take i names) o → (text : List ℕ) → HasText now name text → HasText o name text
    text_was None is text h = tt
    text_was (Some files) is text h =
        let at' : text_at name (swept_of w (take i names) files) ≡ text = subst (λ (fs : Option Files). HasText fs name text) is h in
        sym (ap (λ (o : Option (List ℕ)). unwrap_or o []) (text_stays w (take i names) name files (apart names i name listed.in_order within item))) ∙ at'

    cause : (f : StoreFault) → ReadRefused now name between last f → SweepRefused old before last f
    cause store.ShelfFault r = omega (arith, r, le)
    cause (store.ShelfBad bad place) r =
        let inside : IsTrue (is_in (codes "one") bad) = subst (λ (n : List ℕ). IsTrue (is_in (codes "one") n)) (sym r.0) (inside_at old names i name listed within item) in
        let same : IsBadOwn old name place = record { text = r.1.text; there = text_was old at.files r.1.text r.1.there; bad = r.1.bad } in
        (inside, subst (λ (n : List ℕ). IsBadOwn old n place) (sym r.0) same)
    cause (store.Missing m) r = r
    cause (store.StoredOther kept read) r = r
    cause (store.NameClash held offered) r = r
    cause store.Mem r = tt

-- the whole folder
pub all_swept : (w : World) (old new : Option Files) (names : List (List ℕ)) (count : ℕ) → AreNamesOf old (codes "one") names → AreSwept w names old new count → IsSwept w old new count
all_swept w None new names count listed a = a.files
all_swept w (Some files) new names count listed a = (
  a.files ∙ ap (λ (ns : List (List ℕ)). (let o : Option Files = Some (swept_of w ns files) in o)) listed.all ∙ ap (λ (fs : Files). Some fs) (swept_all w files),
  a.counted ∙ ap (λ (ns : List (List ℕ)). length (filter (λ name. may_go w (text_at name files)) ns)) listed.all,
)

pub none_swept : (w : World) (old new : Option Files) (before now : ℕ) (f : ShelfFail) → new ≡ old → RefusesBy f before now → AreKept w old new before now (fault_of f)
none_swept w old new before now f same r = record { names = []; files = same ∙ none old; cause = cause f r }
  where
    none : (o : Option Files) → o ≡ told_swept w [] o
    none None = refl
    none (Some files) = ap (λ (fs : Files). Some fs) (sym (swept_none w files))

    cause : (g : ShelfFail) → RefusesBy g before now → SweepRefused old before now (fault_of g)
    cause fail.Failed k = k
    cause fail.Mem k = tt

pub folder_swept : (w : World) (old mid new : Option Files) (items : List (List ℕ)) (count : ℕ) → mid ≡ old → Lists old (codes "one") [] items → AreSwept w items mid new count → IsSwept w old new count
folder_swept w old mid new items count same listed a =
    all_swept w old new items count (subst (AreNamesOf old (codes "one")) (sym listed.1) listed.2) (subst (λ (fs : Option Files). AreSwept w items fs new count) same a)

pub one_most : (removed : Bool) → one_if removed ≤ 1
one_most true = omega arith
one_most false = omega arith
