-- A sweep keeps what the files keep.
use Rattle.std.proofs.Common.{◌≡◌, ℕ, Bool, true, false, not, ◌&&◌, ◌||◌, List, [], ◌∷◌, Option, Some, None, refl, sym, ◌∙◌, ap, subst, inr}
use Rattle.std.specs.Prelude.{codes}
use Rattle.std.specs.Option.{unwrap_or}
use Rattle.std.specs.List.{list_any}
use Rattle.std.specs.Str.{bytes_eq}
use Rattle.std.proofs.lemmas.Slice.Eq.{bytes_eq-Decides}
use Rattle.block_record.specs.Slips.{slip}
use Rattle.outer_world.specs.Files.{Files, names_of, file_at, without_file, is_in, names_in}
use Rattle.outer_world.proofs.public.NameOrder.{in_order_filter}
use Rattle.one_block.specs.declared.forms.Folder.TheVariants.{One}
use Rattle.relay_model.specs.Worlds.{World}
use Rattle.relay_model.specs.Soundness.{IsSound}
use Rattle.bundle_model.specs.Members.{Among}
use Rattle.bundle_model.specs.Shedding.{may_sweep}
use Rattle.bundle_model.proofs.public.MemberFacts.{among_all}
use Rattle.store_files.specs.Kept.{HasForm, IsSingleFile, IsWholeKept}
use Rattle.store_files.proofs.public.FolderFacts.{at_among}
use Rattle.store_files.proofs.public.KeptFacts.{sweep_file_keeps}
use Rattle.shelf_load.specs.Owns.{IsOwn}
use Rattle.shelf_load.specs.Sweeps.{is_swept, swept_of, told_swept, IsOnly, AreKept, IsSwept, StaysKept}
use Rattle.one_block.specs.declared.faults.StoreFault.{StoreFault}
use Rattle.shelf_load.proofs.FilterFacts.{filter_same, filter_whole, filter_twice}
use Rattle.shelf_load.proofs.SweepFacts.{File, only_of, and_false, one_swept, one_kept, swept_none, swept_all}

-- one name, and then the others
first_joined : (s e n : Bool) → (not (s && (e || false)) && not (s && n)) ≡ not (s && (e || n))
first_joined false e n = refl
first_joined true true n = refl
first_joined true false n = refl

swept_first : (w : World) (name : List ℕ) (names : List (List ℕ)) (files : Files) → swept_of w names (swept_of w (name ∷ []) files) ≡ swept_of w (name ∷ names) files
swept_first w name names files =
    filter_twice (λ f. not (is_swept w f && list_any (bytes_eq f.0) names)) (λ f. not (is_swept w f && list_any (bytes_eq f.0) (name ∷ []))) files
    ∙ filter_same (λ f. not (is_swept w f && list_any (bytes_eq f.0) (name ∷ [])) && not (is_swept w f && list_any (bytes_eq f.0) names)) (λ f. not (is_swept w f && list_any (bytes_eq f.0) (name ∷ names))) files
    (λ f h. first_joined (is_swept w f) (bytes_eq f.0 name) (list_any (bytes_eq f.0) names))

-- what a file of `one/` holds that has its form
own_of : (name text : List ℕ) (f : IsSingleFile One name text) → IsOwn name text (slip f.block)
own_of name text f = record { form = f.form; formed = f.formed; block_type = f.block_type; block = f.block; is_of = f.is_of; slip_is = refl }

-- no file goes where none of this name may
none_goes : (w : World) (name : List ℕ) (files : Files) → ((f : File) → Among files f → bytes_eq f.0 name ≡ true → is_swept w f ≡ false) → swept_of w (name ∷ []) files ≡ files
none_goes w name files stays = filter_whole (λ f. not (is_swept w f && (bytes_eq f.0 name || false))) files (λ f h. by f h (bytes_eq f.0 name) refl)
  where
    by : (f : File) → Among files f → (b : Bool) → bytes_eq f.0 name ≡ b → not (is_swept w f && (b || false)) ≡ true
    by f h false e = and_false (is_swept w f)
    by f h true e = let none = stays f h e in rw none refl

one_name_kept : (w : World) (name : List ℕ) (old : Files) → IsSound w → IsWholeKept old w → IsWholeKept (swept_of w (name ∷ []) old) w
one_name_kept w name old sound k = by_folder (is_in (codes "one") name) refl
  where
    same : swept_of w (name ∷ []) old ≡ old → IsWholeKept (swept_of w (name ∷ []) old) w
    same e = subst (λ (fs : Files). IsWholeKept fs w) (sym e) k

    only : is_in (codes "one") name ≡ true → IsOnly (Some old) name
    only inside = only_of (codes "one") name old (in_order_filter (is_in (codes "one")) (names_of old) k.formed.ordered) inside

    by_rule : (text : List ℕ) → is_in (codes "one") name ≡ true → file_at name old ≡ Some text → (f : IsSingleFile One name text) → (m : Bool) → may_sweep w f.block.num f.block.id ≡ m → IsWholeKept (swept_of w (name ∷ []) old) w
    by_rule text inside there f true may =
        subst (λ (fs : Files). IsWholeKept fs w) (one_swept w name text old (slip f.block) inside (only inside) (ap (λ (o : Option (List ℕ)). unwrap_or o []) there) (own_of name text f) may)
        (sweep_file_keeps old (without_file name old) w name f.block_type text f.block sound k inside there f.is_of.holds may (inr refl))
    by_rule text inside there f false may = same (sym (one_kept w name text old (slip f.block) inside (only inside) (ap (λ (o : Option (List ℕ)). unwrap_or o []) there) (own_of name text f) may))

    missing : (f : File) → None ≡ Some f.1 → ⊥
    missing f e = cc e

    by_file : (o : Option (List ℕ)) → file_at name old ≡ o → is_in (codes "one") name ≡ true → IsWholeKept (swept_of w (name ∷ []) old) w
    by_file None e inside = same (none_goes w name old (λ f h is. absurd (missing f (sym e ∙ only inside f h is))))
    by_file (Some text) e inside =
        let f = (among_all HasForm old k.formed.forms (name, text) (at_among old name text e)).one inside in
        by_rule text inside e f (may_sweep w f.block.num f.block.id) refl

    by_folder : (b : Bool) → is_in (codes "one") name ≡ b → IsWholeKept (swept_of w (name ∷ []) old) w
    by_folder true inside = by_file (file_at name old) refl inside
    by_folder false outside = same (none_goes w name old (λ f h is.
        let out : is_in (codes "one") f.0 ≡ false = ap (is_in (codes "one")) ((bytes_eq-Decides f.0 name).0 is) ∙ outside in
        rw out refl))

names_kept : (w : World) (names : List (List ℕ)) (old : Files) → IsSound w → IsWholeKept old w → IsWholeKept (swept_of w names old) w
names_kept w [] old sound k = subst (λ (fs : Files). IsWholeKept fs w) (sym (swept_none w old)) k
names_kept w (name ∷ names) old sound k =
    subst (λ (fs : Files). IsWholeKept fs w) (swept_first w name names old) (names_kept w names (swept_of w (name ∷ []) old) sound (one_name_kept w name old sound k))

-- whatever names a sweep came to
pub told_kept : (w : World) (names : List (List ℕ)) (old new : Option Files) → IsSound w → new ≡ told_swept w names old → StaysKept w old new
told_kept w names None new sound e = tt
told_kept w names (Some files) new sound e = subst (StaysKept w (Some files)) (sym e) (λ k. names_kept w names files sound k)

pub refused_kept : (w : World) (old mid new : Option Files) (before now : ℕ) (fault : StoreFault) → IsSound w → mid ≡ old → AreKept w mid new before now fault → StaysKept w old new
refused_kept w old mid new before now fault sound same k = told_kept w k.names old new sound (k.files ∙ ap (told_swept w k.names) same)

pub swept_kept : (w : World) (old new : Option Files) (count : ℕ) → IsSound w → IsSwept w old new count → StaysKept w old new
swept_kept w None new count sound s = tt
swept_kept w (Some files) new count sound s =
    told_kept w (names_in (codes "one") files) (Some files) new sound (s.0 ∙ ap (λ (fs : Files). Some fs) (sym (swept_all w files)))

pub same_kept : (w : World) (old new : Option Files) → new ≡ old → StaysKept w old new
same_kept w None new e = tt
same_kept w (Some files) new e = subst (StaysKept w (Some files)) (sym e) (λ k. k)
