-- The own files of a reader: those of `one/` that it put there.
use Rattle.std.specs.Prelude.{ℕ, Bool, not, List, [], ◌∷◌, filter}
use Rattle.std.specs.Cmp.{IsPartialEquivalence, IsEquivalence, partial_equiv_from_equiv, on_equiv}
use Rattle.std.specs.Cmp.Lexicographic.{nat_list_eq_equiv}
use Rattle.std.specs.Hash.{Alike, same_Alike, on_Alike}
use Rattle.std.specs.List.{list_any}
use Rattle.std.specs.Prelude.{◌++◌, if◌then◌else◌}
use Rattle.std.specs.Str.{bytes_eq}
use Rattle.std.proofs.lemmas.Slice.Eq.{bytes_eq-Decides}
use Rattle.block_record.specs.declared.blocks.Slip.{Slip}
use Rattle.one_block.specs.Names.{own_file}
use Rattle.block_reader.specs.declared.own.OwnFile.{OwnFile}

-- the name by which a file is found
abbrev pub name_in : OwnFile → List ℕ
name_in file = file.name

-- whether two files have one name
abbrev pub same_own : OwnFile → OwnFile → Bool
same_own a b = bytes_eq a.name b.name

-- the test is an equivalence
pub same_own_equiv : IsEquivalence same_own
same_own_equiv = on_equiv name_in nat_list_eq_equiv

pub same_own_partial_equiv : IsPartialEquivalence same_own
same_own_partial_equiv = partial_equiv_from_equiv same_own_equiv

-- one name is hashed in one way
pub same_name_hash : Alike bytes_eq (λ name. name ∷ [])
same_name_hash = same_Alike (λ name. name ∷ []) bytes_eq-Decides

pub same_own_hash : Alike same_own (λ file. file.name ∷ [])
same_own_hash = on_Alike name_in same_name_hash

-- a file of this name that holds a block of this number and id
abbrev pub own_of : List ℕ → ℕ → List ℕ → OwnFile
own_of name num id = record { name = name; num = num; id = id }

-- the own file of a block by a reader
abbrev pub own_by : Slip → List ℕ → OwnFile
own_by s by = own_of (own_file s by) s.num s.id

-- whether one of the files has this name
abbrev pub has_own : List OwnFile → List ℕ → Bool
has_own files name = list_any (λ file. bytes_eq name file.name) files

-- the files with one more, which comes last; one that is there keeps its place
abbrev pub with_own : OwnFile → List OwnFile → List OwnFile
with_own file files = if has_own files file.name then files else files ++ file ∷ []

-- the files without that of a name
abbrev pub without_own : List ℕ → List OwnFile → List OwnFile
without_own name files = filter (λ file. not (bytes_eq name file.name)) files
