-- The files of a folder, one after another.
use Rattle.std.proofs.Common.{arith, ◌≡◌, ◌<◌, ◌≤◌, ◌+◌, ℕ, suc, List, [], ◌∷◌, ◌++◌, length, reverse, take, drop, get_or, Option, Some, None, Ok, refl, sym, ap, subst, ◌∙◌}
use Rattle.std.proofs.lemmas.List.{length-map, length-reverse, take_all}
use Rattle.outer_world.specs.Files.{Files}
use Rattle.one_block.specs.declared.file_faults.FileFault.{FileFault}
use Rattle.one_block.specs.declared.forms.Folder.{Folder}
use Rattle.one_block.specs.declared.forms.Form.{Form}
use Rattle.one_block.specs.Forms.{form_of}
use Rattle.one_block.specs.declared.singles.SingleRead.{SingleRead}
use Rattle.one_block.specs.Singles.{IsSingleRead}
use Rattle.shelf_check.specs.Singles.{AnswersBy, SingleAnswers}
use Rattle.file_reader.specs.Reading.{HasText}
use Rattle.shelf_check.specs.Folders.{Single, IsSingle, names_of, IsBadFile, IsFirstOf, IsFileRead, IsRefusedFile, AreRead}
use Rattle.shelf_check.proofs.ListFacts.{taken_more, cut_at}

-- a file whose name has a form, and which was read, is one of the folder
pub single_taken : (folder : Folder) (name text : List ℕ) (kept : Option (List ℕ)) (form : Form) (read : SingleRead) → form_of folder name ≡ Some form → IsSingleRead form name text kept read
    → SingleAnswers folder name text kept (Ok read.block_type)
single_taken folder name text kept form read formed r =
    let A : Option Form → Type 0 = λ o. AnswersBy o name text kept (Ok read.block_type) in
    subst A (sym formed) (r.block, r.single)

-- a file that was read
pub file_read : (folder : Folder) (files : Option Files) (kept : Option (List ℕ)) (name text block_type : List ℕ) → HasText files name text → AnswersBy (form_of folder name) name text kept (Ok block_type) → IsFileRead folder files kept name block_type
file_read folder files kept name text block_type there answers = by_form (form_of folder name) refl answers
  where
    by_form : (o : Option Form) → form_of folder name ≡ o → AnswersBy o name text kept (Ok block_type) → IsFileRead folder files kept name block_type
    by_form None is a = absurd a
    by_form (Some form) is a = record {
      x = record { name = name; text = text; block_type = block_type; block = a.0 };
      name_is = refl;
      type_is = refl;
      good = record { form = form; formed = is; there = there; single = a.1 };
    }

pub read_none : (folder : Folder) (files : Option Files) (kept : Option (List ℕ)) (names : List (List ℕ)) → AreRead folder files kept (take 0 names) kept
read_none folder files kept names = record { singles = []; names_are = refl; good = tt; last_is = refl }

pub read_more : (folder : Folder) (files now : Option Files) (kept last : Option (List ℕ)) (names : List (List ℕ)) (i : ℕ) (name block_type : List ℕ) → i < length names → name ≡ get_or names i name → now ≡ files
    → AreRead folder files kept (take i names) last → IsFileRead folder now last name block_type → AreRead folder files kept (take (i + 1) names) (Some block_type)
read_more folder files now kept last names i name block_type within item same r f = record {
  singles = f.x ∷ r.singles;
  names_are = taken_more (λ (x : Single). x.name) f.x r.singles names i name within item (sym f.name_is) r.names_are;
  good =
      let P : Option Files → Type 0 = λ fs. IsSingle folder fs last f.x in
      let Q : Option (List ℕ) → Type 0 = λ k. IsSingle folder files k f.x in
      (subst Q r.last_is (subst P same f.good), r.good);
  last_is = ap Some (sym f.type_is);
}

pub read_first : (folder : Folder) (files now : Option Files) (kept last : Option (List ℕ)) (names : List (List ℕ)) (i : ℕ) (name : List ℕ) → i < length names → name ≡ get_or names i name → now ≡ files
    → AreRead folder files kept (take i names) last → (told : List ℕ) (fault : FileFault) → IsRefusedFile folder now last name told fault → IsFirstOf folder files kept names told fault
read_first folder files now kept last names i name within item same r told fault f = record {
  singles = r.singles;
  more = drop (suc i) names;
  names_are = cut_at names (names_of r.singles) i name within item r.names_are ∙ ap (λ (n : List ℕ). names_of r.singles ++ n ∷ drop (suc i) names) (sym f.told_is);
  good = r.good;
  bad =
      let P : Option Files → Type 0 = λ fs. IsBadFile folder fs last told fault in
      let Q : Option (List ℕ) → Type 0 = λ k. IsBadFile folder files k told fault in
      let R : List ℕ → Type 0 = λ n. IsBadFile folder now last n fault in
      subst Q r.last_is (subst P same (subst R (sym f.told_is) f.bad));
}

-- all names were read
pub read_all : (folder : Folder) (files : Option Files) (kept last : Option (List ℕ)) (names : List (List ℕ)) (n : ℕ) → n ≡ length names → AreRead folder files kept (take n names) last → AreRead folder files kept names last
read_all folder files kept last names n all r = record { singles = r.singles; names_are = sym (take_all n names (by_length n all)) ∙ r.names_are; good = r.good; last_is = r.last_is }
  where
    by_length : (k : ℕ) → k ≡ length names → length names ≤ k
    by_length k e = omega arith

-- as many files as names
pub as_many : (names : List (List ℕ)) (singles : List Single) → names ≡ names_of singles → length names ≡ length singles
as_many names singles is = ap length is ∙ length-map (reverse singles) (λ x. x.name) ∙ length-reverse singles
