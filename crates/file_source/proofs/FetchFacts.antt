-- What the files of a block give, one after another.
use Rattle.std.proofs.Common.{◌≡◌, ℕ, ◌≤◌, ◌↔◌, Bool, true, IsTrue, List, [], ◌∷◌, ◌++◌, length, Option, Some, None, Ok, refl, sym, ap, subst, ◌∙◌}
use Rattle.std.specs.Option.{option_map, is_some}
use Rattle.std.specs.List.{AllByRecursion}
use Rattle.block_record.specs.declared.blocks.Block.{Block}
use Rattle.block_record.specs.declared.blocks.Slip.{Slip}
use Rattle.block_record.specs.Slips.{same_slip}
use Rattle.block_record.proofs.public.SlipFacts.{same_slip_is, same_slip_refl}
use Rattle.outer_world.specs.Files.{Files, file_at}
use Rattle.outer_world.specs.Shelves.{Holds, HasSize}
use Rattle.one_block.specs.Files.{forked_text}
use Rattle.one_block.specs.declared.faults.StoreFault.{StoreFault}
use Rattle.one_block.specs.declared.faults.StoreFault.TheVariants.{ShelfFault, ShelfBad, Missing, StoredOther, NameClash, Mem}
use Rattle.file_source.specs.Sources.{files_of, merged_of, HasUnder, LacksId, IsBadUnder, IsFileOf, IsFirstFile, IsFetched, IsMissing, IsNamed, FetchRefused}
use Rattle.file_source.specs.Steps.{IsReadCause, SearchRefused, SearchAnswers, IsUnder, FindRefused, FindAnswers, JudgeRefused}
use Rattle.file_source.proofs.SearchFacts.{rose_later}

-- whether a block is the one that was asked for
pub asked : (b s : Slip) (t : Bool) → t ≡ same_slip b s → IsTrue t ↔ (b ≡ s)
asked b s t e = (λ yes_it. same_slip_is b s (sym e ∙ yes_it), λ same. e ∙ subst (λ (x : Slip). same_slip b x ≡ true) same (same_slip_refl b))

-- a file without a size is not there
pub absent : (files : Option Files) (name : List ℕ) → HasSize files name None → Holds files name None
absent None name sized = tt
absent (Some files) name sized = by_found (file_at name files) refl
  where
    by_found : (o : Option (List ℕ)) → file_at name files ≡ o → file_at name files ≡ None
    by_found None e = e
    by_found (Some t) e = absurd (let some = sized ∙ ap (option_map length) e in cc some)

-- a file with a size is there
pub sized : (files now_files : Option Files) (name named : List ℕ) (o : Option ℕ) → HasSize files name o → is_some o ≡ true → now_files ≡ files → named ≡ name → (size : ℕ) × HasSize now_files named (Some size)
sized files now_files name named None has some same is = absurd (cc some)
sized files now_files name named (Some size) has some same is = (size, subst (λ (n : List ℕ). HasSize now_files n (Some size)) (sym is) (subst (λ (f : Option Files). HasSize f name (Some size)) (sym same) has))

-- ---- one file

-- what a file that is there has, as a file of its own name
pub under_at : (files now_files : Option Files) (id name named : List ℕ) (before now : ℕ) (o : Option Block) (b : Block) → SearchAnswers now_files named id before now (Ok o) → o ≡ Some b → now_files ≡ files → named ≡ name → HasUnder files id b name
under_at files now_files id name named before now o b has is same own =
    subst (λ (n : List ℕ). HasUnder files id b n) own (subst (λ (f : Option Files). HasUnder f id b named) same (subst (λ (x : Option Block). SearchAnswers now_files named id before now (Ok x)) is has))

pub find_refused : (files : Option Files) (s : Slip) (name : List ℕ) (before mid now : ℕ) (fault : StoreFault) → SearchRefused files name s.id mid now fault → before ≤ mid → FindRefused files s name before now fault
find_refused files s name before mid now ShelfFault r later = rose_later before mid now later r
find_refused files s name before mid now (ShelfBad bad at) r later = r
find_refused files s name before mid now (Missing missing) r later = r
find_refused files s name before mid now (StoredOther kept read) r later = absurd r
find_refused files s name before mid now (NameClash held offered) r later = r
find_refused files s name before mid now Mem r later = tt

pub judge_refused : (files : Option Files) (s : Slip) (name : List ℕ) (b : Block) (before now : ℕ) (fault : StoreFault) → HasUnder files s.id b name → JudgeRefused s b fault → FindRefused files s name before now fault
judge_refused files s name b before now ShelfFault under r = absurd r
judge_refused files s name b before now (ShelfBad bad at) under r = absurd r
judge_refused files s name b before now (Missing missing) under r = r
judge_refused files s name b before now (StoredOther kept read) under r = record { kept_is = r.0; block = b; read_is = r.1.0; other = r.1.1; under = under }
judge_refused files s name b before now (NameClash held offered) under r = r
judge_refused files s name b before now Mem under r = tt

-- ---- one file after another

-- the files before a file lack the id
pub record IsNext (files : Option Files) (s : Slip) (name : List ℕ) : Type 0 where
  pub before : List (List ℕ)
  pub after : List (List ℕ)
  pub names : files_of s ≡ before ++ name ∷ after
  pub lack : AllByRecursion (LacksId files s.id) before

first_file : (files : Option Files) (s : Slip) (name : List ℕ) (P : List ℕ → Type 0) → IsNext files s name → P name → IsFirstFile files s name P
first_file files s name P n p = record { before = n.before; after = n.after; names = n.names; lack = n.lack; found = p }

pub fetched_at : (files : Option Files) (s : Slip) (name : List ℕ) (b : Block) → IsNext files s name → IsUnder files s name b → IsFetched files s b
fetched_at files s name b n u = record { slip_is = u.slip_is; found = record { name = name; first = first_file files s name (HasUnder files s.id b) n u.under } }

pub refused_at : (files : Option Files) (s : Slip) (name : List ℕ) (before mid now : ℕ) (fault : StoreFault) → IsNext files s name → FindRefused files s name mid now fault → before ≤ mid → FetchRefused files s before now fault
refused_at files s name before mid now ShelfFault n r later = rose_later before mid now later r
refused_at files s name before mid now (ShelfBad bad at) n r later = subst (λ (k : List ℕ). IsFirstFile files s k (IsBadUnder files s.id at)) (sym r.0) (first_file files s name (IsBadUnder files s.id at) n r.1)
refused_at files s name before mid now (Missing missing) n r later = absurd r
refused_at files s name before mid now (StoredOther kept read) n r later = record {
  kept_is = r.kept_is;
  block = r.block;
  read_is = r.read_is;
  other = r.other;
  found = record { name = name; first = first_file files s name (HasUnder files s.id r.block) n r.under };
}
refused_at files s name before mid now (NameClash held offered) n r later = r
refused_at files s name before mid now Mem n r later = tt

next_first : (files : Option Files) (s : Slip) (name : List ℕ) → name ≡ forked_text s.num s.id → IsNext files s name
next_first files s name is = record { before = []; after = merged_of 100 s.num ∷ merged_of 1000 s.num ∷ []; names = ap (λ (n : List ℕ). n ∷ merged_of 100 s.num ∷ merged_of 1000 s.num ∷ []) (sym is); lack = tt }

lacks_named : (files : Option Files) (id name own : List ℕ) → name ≡ own → LacksId files id name → LacksId files id own
lacks_named files id name own is lacks = subst (LacksId files id) is lacks

pub at_forked : (files : Option Files) (s : Slip) (forked : List ℕ) → forked ≡ forked_text s.num s.id → IsNext files s forked
at_forked files s forked is = next_first files s forked is

pub at_hundred : (files : Option Files) (s : Slip) (forked hundred : List ℕ) → forked ≡ forked_text s.num s.id → hundred ≡ merged_of 100 s.num → LacksId files s.id forked → IsNext files s hundred
at_hundred files s forked hundred is is' lacks = record {
  before = forked_text s.num s.id ∷ [];
  after = merged_of 1000 s.num ∷ [];
  names = ap (λ (n : List ℕ). forked_text s.num s.id ∷ n ∷ merged_of 1000 s.num ∷ []) (sym is');
  lack = (lacks_named files s.id forked _ is lacks, tt);
}

pub at_thousand : (files : Option Files) (s : Slip) (forked hundred thousand : List ℕ) → forked ≡ forked_text s.num s.id → hundred ≡ merged_of 100 s.num → thousand ≡ merged_of 1000 s.num → LacksId files s.id forked → LacksId files s.id hundred → IsNext files s thousand
at_thousand files s forked hundred thousand is is' is'' lacks lacks' = record {
  before = forked_text s.num s.id ∷ merged_of 100 s.num ∷ [];
  after = [];
  names = ap (λ (n : List ℕ). forked_text s.num s.id ∷ merged_of 100 s.num ∷ n ∷ []) (sym is'');
  lack = (lacks_named files s.id forked _ is lacks, (lacks_named files s.id hundred _ is' lacks', tt));
}

pub is_missing : (files : Option Files) (s : Slip) (forked hundred thousand name : List ℕ) → forked ≡ forked_text s.num s.id → hundred ≡ merged_of 100 s.num → thousand ≡ merged_of 1000 s.num → LacksId files s.id forked → LacksId files s.id hundred → LacksId files s.id thousand → name ≡ merged_of 100 s.num → IsMissing files s name
is_missing files s forked hundred thousand name is is' is'' lacks lacks' lacks'' named = record {
  lack = (lacks_named files s.id forked _ is lacks, (lacks_named files s.id hundred _ is' lacks', (lacks_named files s.id thousand _ is'' lacks'', tt)));
  name_is = named;
}

pub lacks_at : {R : Type 0} (files now_files : Option Files) (s : Slip) (name : List ℕ) (before now : ℕ) (o : Option (Block × R)) → FindAnswers now_files s name before now (Ok o) → o ≡ None → now_files ≡ files → LacksId files s.id name
lacks_at {R} files now_files s name before now o answer none same =
    subst (λ (f : Option Files). LacksId f s.id name) same (subst (λ (x : Option (Block × R)). FindAnswers now_files s name before now (Ok x)) none answer)

pub all_fetched : {R : Type 0} (files now_files : Option Files) (s : Slip) (name : List ℕ) (before now : ℕ) (o : Option (Block × R)) (found : Block × R) → IsNext files s name → FindAnswers now_files s name before now (Ok o) → o ≡ Some found → now_files ≡ files → IsFetched files s found.0
all_fetched {R} files now_files s name before now o found n answer some same =
    fetched_at files s name found.0 n (subst (λ (f : Option Files). IsUnder f s name found.0) same (subst (λ (x : Option (Block × R)). FindAnswers now_files s name before now (Ok x)) some answer))

pub all_refused : (files now_files : Option Files) (s : Slip) (name : List ℕ) (before mid now : ℕ) (fault : StoreFault) → IsNext files s name → FindRefused now_files s name mid now fault → now_files ≡ files → before ≤ mid → FetchRefused files s before now fault
all_refused files now_files s name before mid now fault n refused same later =
    refused_at files s name before mid now fault n (subst (λ (f : Option Files). FindRefused f s name mid now fault) same refused) later

-- ---- a source

pub fetch_later : (files : Option Files) (s : Slip) (before mid now : ℕ) (fault : StoreFault) → FetchRefused files s mid now fault → before ≤ mid → FetchRefused files s before now fault
fetch_later files s before mid now ShelfFault r later = rose_later before mid now later r
fetch_later files s before mid now (ShelfBad bad at) r later = r
fetch_later files s before mid now (Missing missing) r later = r
fetch_later files s before mid now (StoredOther kept read) r later = r
fetch_later files s before mid now (NameClash held offered) r later = r
fetch_later files s before mid now Mem r later = tt

pub read_refused : (files : Option Files) (s : Slip) (before now : ℕ) (fault : StoreFault) → IsReadCause before now fault → FetchRefused files s before now fault
read_refused files s before now ShelfFault r = r
read_refused files s before now (ShelfBad bad at) r = absurd r
read_refused files s before now (Missing missing) r = absurd r
read_refused files s before now (StoredOther kept read) r = absurd r
read_refused files s before now (NameClash held offered) r = absurd r
read_refused files s before now Mem r = tt

-- a refusal names a file of the block
pub named_refusal : (files : Option Files) (s : Slip) (before now : ℕ) (fault : StoreFault) → FetchRefused files s before now fault → IsNamed s fault
named_refusal files s before now ShelfFault r = tt
named_refusal files s before now (ShelfBad name at) r = record { before = r.before; after = r.after; names = r.names }
named_refusal files s before now (Missing name) r = let P : List ℕ → Type 0 = IsFileOf s in subst P (sym r.name_is) (record { before = forked_text s.num s.id ∷ []; after = merged_of 1000 s.num ∷ []; names = refl })
named_refusal files s before now (StoredOther kept read) r = tt
named_refusal files s before now (NameClash held offered) r = tt
named_refusal files s before now Mem r = tt
