-- What a file is found to have under an id, by what its reader has read.
use Rattle.std.proofs.Common.{◌≡◌, ◌≢◌, ℕ, Bool, true, false, Result, Ok, Err, ◌+◌, ◌-◌, ◌^◌, ◌<◌, ◌≤◌, IsTrue, List, [], ◌∷◌, ◌++◌, length, Option, Some, None, ◌⊎◌, inl, inr, refl, sym, ap, subst, ◌∙◌, arith}
use Rattle.std.specs.Prelude.{slice_get}
use Rattle.std.specs.List.{AllByRecursion}
use Rattle.std.specs.Option.{option_map, unwrap_or}
use Rattle.std.proofs.lemmas.Bool.{false≢true}
use Rattle.block_record.specs.declared.blocks.Block.{Block}
use Rattle.block_record.specs.Ids.{same_id, same_id_refl, same_id-true}
use Rattle.outer_world.specs.Causes.{Rose}
use Rattle.outer_world.specs.Files.{Files, file_at}
use Rattle.outer_world.specs.Shelves.{Holds, HasSize}
use Rattle.dbin_file.specs.declared.faults.DbinFault.{DbinFault}
use Rattle.dbin_file.specs.Contents.{message_place, told}
use Rattle.dbin_file.specs.Reader.{end_fault}
use Rattle.file_reader.specs.Reading.{FileState, HasText, HasRead, pass}
use Rattle.file_reader.proofs.public.ReadFacts.{type_read, next_in, all_passed}
use Rattle.one_block.specs.declared.faults.StoreFault.{StoreFault}
use Rattle.one_block.specs.declared.faults.StoreFault.TheVariants.{ShelfFault, ShelfBad, Missing, StoredOther, NameClash, Mem}
use Rattle.one_block.specs.Containers.{fault_place, IsRecordOf, IsBadField}
use Rattle.one_block.proofs.public.OptionFacts.{some_is}
use Rattle.file_source.specs.Texts.{IsOfOther, AreOfOthers}
use Rattle.file_source.specs.Sources.{HasUnder, HoldsOthers, IsBadUnder}
use Rattle.file_source.specs.Steps.{IsBadAt, IsCausedBy, StandsNext, IsWhole, NextIsBad, EndIsBad, NextRefused, NextAnswers, SearchRefused}

-- ---- the message that stands next

some_left : (left : List (List ℕ)) (m : List ℕ) → slice_get left 0 ≡ Some m → (more : List (List ℕ)) × (left ≡ m ∷ more)
some_left [] m e = absurd (cc e)
some_left (x ∷ more) m e = (more, ap (λ (y : List ℕ). y ∷ more) (some_is x m e))

pub none_left : (left : List (List ℕ)) → slice_get left 0 ≡ None → left ≡ []
none_left [] e = refl
none_left (x ∷ more) e = absurd (cc e)

pub stands_next : (files : Option Files) (r : FileState) (front m : List ℕ) (given : List (List ℕ)) (b : Block) → HasRead files r front given → slice_get r.left 0 ≡ Some m → IsRecordOf m b → StandsNext files r given b
stands_next files r front m given b h next is =
    let left = some_left r.left m next in
    record { front = front; message = m; more = left.0; read = h; left_is = left.1; record_is = is }

told_twice : (x a b : ℕ) → told (told (told x + a) + b) ≡ told (x + a + b)
told_twice x a b = omega arith

pub next_is_bad : (files : Option Files) (r : FileState) (front m : List ℕ) (given : List (List ℕ)) (place byte at : ℕ) → HasRead files r front given → slice_get r.left 0 ≡ Some m → IsBadField m byte
    → ((block_type : List ℕ) → r.reader.block_type ≡ Some block_type → place ≡ told (message_place block_type given)) → at ≡ told (told (place + 4) + byte)
    → NextIsBad files r.name given at
next_is_bad files r front m given place byte at h next bad stands at_is =
    let left = some_left r.left m next in
    let typed = type_read files r front m given left.0 h left.1 in
    let is = next_in files r front m given left.0 typed.0 h left.1 typed.1 in
    record {
      text = is.text;
      there = is.there;
      block_type = typed.0;
      typed = is.typed;
      message = m;
      more = is.more;
      messages = is.messages;
      bad = record {
        none = bad.none;
        byte = byte;
        fault = bad.fault;
        at_is = at_is ∙ ap (λ (p : ℕ). told (told (p + 4) + byte)) (stands typed.0 typed.1) ∙ told_twice (message_place typed.0 given) 4 byte;
      };
    }

pub is_whole : (files : Option Files) (r : FileState) (front : List ℕ) (given : List (List ℕ)) → HasRead files r front given → slice_get r.left 0 ≡ None → (r.left ≡ [] → IsTrue r.over) → end_fault r.reader ≡ None → IsWhole files r.name given
is_whole files r front given h none over fine =
    let empty = none_left r.left none in
    let all = all_passed files r front given h empty (over empty) in
    record { text = all.text; there = all.there; messages = all.messages; whole = all.fault ∙ fine }

pub end_is_bad : (files : Option Files) (r : FileState) (front : List ℕ) (given : List (List ℕ)) (f : DbinFault) (at : ℕ) → HasRead files r front given → slice_get r.left 0 ≡ None → (r.left ≡ [] → IsTrue r.over) → end_fault r.reader ≡ Some f → at ≡ fault_place f
    → EndIsBad files r.name given at
end_is_bad files r front given f at h none over bad at_is =
    let empty = none_left r.left none in
    let all = all_passed files r front given h empty (over empty) in
    record { text = all.text; there = all.there; messages = all.messages; fault = f; fault_is = all.fault ∙ bad; at_is = at_is }

-- what a file is bad at is told, or there was no memory to tell it
pub bad_refused : (files : Option Files) (name : List ℕ) (given : List (List ℕ)) (named : List ℕ) (at : ℕ) (fault : StoreFault) → IsBadAt named at fault → named ≡ name → NextIsBad files name given at ⊎ EndIsBad files name given at → NextRefused files name given fault
bad_refused files name given named at ShelfFault is same bad = tt
bad_refused files name given named at (ShelfBad told_name place) is same bad =
    (is.0 ∙ same, subst (λ (k : ℕ). NextIsBad files name given k ⊎ EndIsBad files name given k) (sym is.1) bad)
bad_refused files name given named at (Missing missing) is same bad = is
bad_refused files name given named at (StoredOther kept read) is same bad = is
bad_refused files name given named at (NameClash held offered) is same bad = is
bad_refused files name given named at Mem is same bad = tt

-- ---- a file searched up to some place

-- one more that passes
all_push : (P : List ℕ → Type 0) (xs : List (List ℕ)) (x : List ℕ) → AllByRecursion P xs → P x → AllByRecursion P (xs ++ x ∷ [])
all_push P [] x all p = (p, tt)
all_push P (y ∷ xs) x all p = (all.0, all_push P xs x all.1 p)

-- what was passed over in a file are records of blocks with other ids
pub record HasSearched (files : Option Files) (r : FileState) (id : List ℕ) : Type 0 where
  pub front : List ℕ
  pub given : List (List ℕ)
  pub read : HasRead files r front given
  pub others : AreOfOthers id given

pub unsearched : (files : Option Files) (r : FileState) (id : List ℕ) → HasRead files r [] [] → HasSearched files r id
unsearched files r id h = record { front = []; given = []; read = h; others = tt }

-- what `advance` keeps
abbrev pub Passes : FileState → FileState → Type 0
Passes old new = (files : Option Files) (front message : List ℕ) (given more : List (List ℕ)) → HasRead files old front given → old.left ≡ message ∷ more → HasRead files new front (given ++ message ∷ [])

pub searched_more : (files : Option Files) (r stands passed : FileState) (id : List ℕ) (b : Block) (s : HasSearched files r id) → StandsNext files stands s.given b → Passes stands passed → b.id ≢ id → HasSearched files passed id
searched_more files r stands passed id b s n passes other = record {
  front = n.front;
  given = s.given ++ n.message ∷ [];
  read = passes files n.front n.message s.given n.more n.read n.left_is;
  others = all_push (IsOfOther id) s.given n.message s.others (record { block = b; record_is = n.record_is; other = other });
}

-- a file that is there has the text that was read
there_is : (files : Option Files) (name text : List ℕ) (size : ℕ) → HasSize files name (Some size) → HasText files name text → Holds files name (Some text)
there_is None name text size sized has = tt
there_is (Some files) name text size sized has = by_found (file_at name files) refl
  where
    by_found : (o : Option (List ℕ)) → file_at name files ≡ o → file_at name files ≡ Some text
    by_found None e = absurd (let none = sized ∙ ap (option_map length) e in cc none)
    by_found (Some t) e = e ∙ ap Some (sym (ap (λ (o : Option (List ℕ)). unwrap_or o []) e) ∙ has)

pub found_under : (files : Option Files) (r stands : FileState) (name id : List ℕ) (b : Block) (size : ℕ) (s : HasSearched files r id) → StandsNext files stands s.given b → stands.name ≡ name → HasSize files name (Some size) → b.id ≡ id → HasUnder files id b name
found_under files r stands name id b size s n named sized own =
    let typed = type_read files stands n.front n.message s.given n.more n.read n.left_is in
    let is = next_in files stands n.front n.message s.given n.more typed.0 n.read n.left_is typed.1 in
    record {
      text = is.text;
      there = there_is files name is.text size sized (subst (λ (k : List ℕ). HasText files k is.text) named is.there);
      first = record { before = s.given; message = n.message; after = is.more; messages = is.messages; others = s.others; record_is = n.record_is; own = own };
    }

pub none_under : (files : Option Files) (r : FileState) (at name id : List ℕ) (size : ℕ) (s : HasSearched files r id) → IsWhole files at s.given → at ≡ name → HasSize files name (Some size) → HoldsOthers files id name
none_under files r at name id size s w named sized = record {
  text = w.text;
  there = there_is files name w.text size sized (subst (λ (k : List ℕ). HasText files k w.text) named w.there);
  none = record { others = subst (AreOfOthers id) (sym w.messages) s.others; whole = w.whole };
}

next_bad_under : (files : Option Files) (r : FileState) (name id : List ℕ) (size at : ℕ) (s : HasSearched files r id) → NextIsBad files name s.given at → HasSize files name (Some size) → IsBadUnder files id at name
next_bad_under files r name id size at s n sized = record {
  text = n.text;
  there = there_is files name n.text size sized n.there;
  bad = inl (record { block_type = n.block_type; typed = n.typed; before = s.given; message = n.message; after = n.more; messages = n.messages; others = s.others; bad = n.bad });
}

end_bad_under : (files : Option Files) (r : FileState) (name id : List ℕ) (size at : ℕ) (s : HasSearched files r id) → EndIsBad files name s.given at → HasSize files name (Some size) → IsBadUnder files id at name
end_bad_under files r name id size at s n sized = record {
  text = n.text;
  there = there_is files name n.text size sized n.there;
  bad = inr (record { others = subst (AreOfOthers id) (sym n.messages) s.others; fault = n.fault; fault_is = n.fault_is; at_is = n.at_is });
}

pub rose_later : (before mid now : ℕ) → before ≤ mid → Rose mid now → Rose before now
rose_later before mid now later rose = omega (arith, later, rose)

pub search_refused : (files : Option Files) (r : FileState) (at name id : List ℕ) (size before mid now : ℕ) (fault : StoreFault) (s : HasSearched files r id) → NextRefused files at s.given fault → IsCausedBy mid now fault → at ≡ name → HasSize files name (Some size) → before ≤ mid → SearchRefused files name id before now fault
search_refused files r at name id size before mid now ShelfFault s n cause named sized later = rose_later before mid now later cause
search_refused files r at name id size before mid now (ShelfBad bad place) s n cause named sized later = (n.0 ∙ named, by_kind n.1)
  where
    by_kind : NextIsBad files at s.given place ⊎ EndIsBad files at s.given place → IsBadUnder files id place name
    by_kind (inl b) = next_bad_under files r name id size place s (subst (λ (k : List ℕ). NextIsBad files k s.given place) named b) sized
    by_kind (inr b) = end_bad_under files r name id size place s (subst (λ (k : List ℕ). EndIsBad files k s.given place) named b) sized
search_refused files r at name id size before mid now (Missing missing) s n cause named sized later = n
search_refused files r at name id size before mid now (StoredOther kept read) s n cause named sized later = n
search_refused files r at name id size before mid now (NameClash held offered) s n cause named sized later = n
search_refused files r at name id size before mid now Mem s n cause named sized later = tt

-- ---- the same by the answers of the calls

-- what the next block of a file is answered to be, whatever was read before
abbrev pub NextIs : Option Files → FileState → FileState → Result (Option Block) StoreFault → Type 0
NextIs files old new result = (front : List ℕ) (given : List (List ℕ)) → HasRead files old front given → NextAnswers files new given result

next_at : (files now_files : Option Files) (old new : FileState) (id : List ℕ) (result : Result (Option Block) StoreFault) (s : HasSearched files old id) → now_files ≡ files → NextIs now_files old new result → NextAnswers files new s.given result
next_at files now_files old new id result s same next = subst (λ (f : Option Files). NextIs f old new result) same next s.front s.given s.read

stands_at : (files now_files : Option Files) (old new : FileState) (id : List ℕ) (o : Option Block) (b : Block) (s : HasSearched files old id) → now_files ≡ files → NextIs now_files old new (Ok o) → o ≡ Some b → StandsNext files new s.given b
stands_at files now_files old new id o b s same next is = subst (λ (x : Option Block). NextAnswers files new s.given (Ok x)) is (next_at files now_files old new id (Ok o) s same next)

pub refused_next : (files now_files : Option Files) (old new : FileState) (name id : List ℕ) (size before mid now : ℕ) (fault : StoreFault) → HasSearched files old id → now_files ≡ files → NextIs now_files old new (Err fault) → IsCausedBy mid now fault → new.name ≡ name → HasSize files name (Some size) → before ≤ mid → SearchRefused files name id before now fault
refused_next files now_files old new name id size before mid now fault s same next cause named sized later =
    search_refused files old new.name name id size before mid now fault s (next_at files now_files old new id (Err fault) s same next) cause named sized later

pub found_next : (files now_files : Option Files) (old new : FileState) (name id : List ℕ) (size : ℕ) (o : Option Block) (b : Block) → HasSearched files old id → now_files ≡ files → NextIs now_files old new (Ok o) → o ≡ Some b → new.name ≡ name → HasSize files name (Some size) → b.id ≡ id → HasUnder files id b name
found_next files now_files old new name id size o b s same next is named sized own = found_under files old new name id b size s (stands_at files now_files old new id o b s same next is) named sized own

pub none_next : (files now_files : Option Files) (old new : FileState) (name id : List ℕ) (size : ℕ) (o : Option Block) → HasSearched files old id → now_files ≡ files → NextIs now_files old new (Ok o) → o ≡ None → new.name ≡ name → HasSize files name (Some size) → HoldsOthers files id name
none_next files now_files old new name id size o s same next is named sized =
    none_under files old new.name name id size s (subst (λ (x : Option Block). NextAnswers files new s.given (Ok x)) is (next_at files now_files old new id (Ok o) s same next)) named sized

pub more_next : (files now_files : Option Files) (old new passed : FileState) (id : List ℕ) (o : Option Block) (b : Block) → HasSearched files old id → now_files ≡ files → NextIs now_files old new (Ok o) → o ≡ Some b → Passes new passed → b.id ≢ id → HasSearched files passed id
more_next files now_files old new passed id o b s same next is passes other = searched_more files old new passed id b s (stands_at files now_files old new id o b s same next is) passes other

-- the count of bytes that were passed over rises
abbrev pub Rises : FileState → FileState → Type 0
Rises old new = (files : Option Files) (front message : List ℕ) (given more : List (List ℕ)) → HasRead files old front given → old.left ≡ message ∷ more → old.passed < new.passed

abbrev pub StaysSmall : FileState → FileState → Type 0
StaysSmall old new = (files : Option Files) (front message : List ℕ) (given more : List (List ℕ)) → HasRead files old front given → old.left ≡ message ∷ more → new.passed < 2 ^ 64

pub smaller_next : (files now_files : Option Files) (old new passed : FileState) (id : List ℕ) (o : Option Block) (b : Block) → HasSearched files old id → now_files ≡ files → NextIs now_files old new (Ok o) → o ≡ Some b → Rises new passed → StaysSmall new passed → 2 ^ 64 - passed.passed < 2 ^ 64 - old.passed
smaller_next files now_files old new passed id o b s same next is rises small =
    let n = stands_at files now_files old new id o b s same next is in
    let up = rises files n.front n.message s.given n.more n.read n.left_is in
    let below = small files n.front n.message s.given n.more n.read n.left_is in
    let here : old.passed ≡ new.passed = s.read.passed_is ∙ sym n.read.passed_is in
    omega (arith, up, below, here)

pub pass_name : (r : FileState) (left : List (List ℕ)) → (pass r left).name ≡ r.name
pass_name r [] = refl
pass_name r (m ∷ more) = refl

pub own_id : (a b : List ℕ) (t : Bool) → t ≡ same_id a b → t ≡ true → a ≡ b
own_id a b t is own = same_id-true a b (sym is ∙ own)

pub other_id : (a b : List ℕ) (t : Bool) → t ≡ same_id a b → t ≡ false → a ≢ b
other_id a b t is other same = false≢true (sym other ∙ is ∙ subst (λ (x : List ℕ). same_id a x ≡ true) same (same_id_refl a))
