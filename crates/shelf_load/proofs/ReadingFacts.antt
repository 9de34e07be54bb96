-- A file of merged blocks, loaded block by block.
use Rattle.std.proofs.Common.{arith, ◌≡◌, ◌<◌, ◌+◌, ◌-◌, ◌^◌, ◌⊎◌, inl, inr, min, ℕ, Bool, true, false, nat_lt, IsTrue, IsFalse, List, [], ◌∷◌, ◌++◌, length, Option, Some, None, Ok, Err, refl, sym, ap, subst, ◌∙◌, append_assoc, length-append}
use Rattle.std.specs.Option.{is_some, option_map, unwrap_or}
use Rattle.std.specs.Prelude.{codes}
use Rattle.std.specs.Int.{w16, to_be_bytes}
use Rattle.std.specs.List.{AllByRecursion, flat_map}
use Rattle.std.proofs.lemmas.Bool.{lt-ltb}
use Rattle.block_record.specs.declared.blocks.Block.{Block}
use Rattle.block_record.specs.Slips.{slip}
use Rattle.dbin_file.specs.declared.faults.DbinFault.{DbinFault}
use Rattle.dbin_file.specs.Contents.{contents, message_place, told}
use Rattle.dbin_file.specs.Header.{header_text}
use Rattle.dbin_file.specs.Messages.{message_text}
use Rattle.dbin_file.specs.Reader.{ReaderState, end_fault}
use Rattle.outer_world.specs.Files.{Files}
use Rattle.file_reader.specs.Reading.{FileState, bytes_of, next_place, place_of, pass, HasFront, HasText, HasRead, ReadsOn, IsAll}
use Rattle.file_reader.proofs.public.ReadFacts.{same_type, type_read, next_in, all_passed}
use Rattle.one_block.specs.Containers.{container_fault, fault_place, empty_place, IsRecordOf, IsNoRecord}
use Rattle.one_block.specs.Heads.{AreRecords}
use Rattle.one_block.specs.declared.faults.StoreFault.TheVariants as store
use Rattle.one_block.proofs.public.RecordFacts.{records_more}
use Rattle.relay_model.specs.Worlds.{World}
use Rattle.shelf_check.specs.Steps.{next_record_place, end_of}
use Rattle.shelf_check.specs.declared.faults.LoadFault.{LoadFault}
use Rattle.shelf_check.specs.declared.faults.LoadFault.TheVariants as fault
use Rattle.shelf_load.specs.declared.put_by.Origin.TheVariants.{StoredFile}
use Rattle.shelf_load.specs.Asides.{Aside}
use Rattle.shelf_load.specs.Greeting.{HeadRefused, IsHeadTold}
use Rattle.shelf_load.specs.Loading.{TakenFile, IsLoaded, IsPart, with_block, IsBundleRead, IsBadBundle, LoadRefused, IsFileLoaded, FileAnswers}
use Rattle.shelf_load.specs.Merging.{BlockRefused, BlockAnswers, EndRefused}
use Rattle.shelf_load.specs.Taking.{Stage, stage, taken, IsTaken, TakeRefused}
use Rattle.shelf_load.proofs.LoadedFacts.{loaded_head, loaded_more, take_refused, greet_refused}

-- where a file of which no message is left ends too early
end_is : (files : Option Files) (r : FileState) (given : List (List ℕ)) (a : IsAll files r given) → end_of r ≡ empty_place a.text
end_is files r given a = by_fault (end_fault r.reader) refl
  where
    by_fault : (o : Option DbinFault) → end_fault r.reader ≡ o → end_of r ≡ empty_place a.text
    by_fault None e =
        ap (λ (o : Option DbinFault). unwrap_or (option_map fault_place o) (told r.at)) e ∙ ap told (sym (a.size e))
        ∙ ap (λ (o : Option DbinFault). unwrap_or (option_map fault_place o) (told (length a.text))) (sym (a.fault ∙ e))
    by_fault (Some f) e =
        ap (λ (o : Option DbinFault). unwrap_or (option_map fault_place o) (told r.at)) e
        ∙ ap (λ (o : Option DbinFault). unwrap_or (option_map fault_place o) (told (length a.text))) (sym (a.fault ∙ e))

told_thrice : (x a b : ℕ) → min (min (min x (2 ^ 64 - 1) + a) (2 ^ 64 - 1) + b) (2 ^ 64 - 1) ≡ min (x + a + b) (2 ^ 64 - 1)
told_thrice x a b = omega arith

-- a file of merged blocks, with this text and these blocks
abbrev pub part : List ℕ → List ℕ → List ℕ → List Block → TakenFile
part name text block_type blocks = record { num = 0; name = name; text = text; block_type = block_type; blocks = blocks; origin = StoredFile }

-- a file of this name is bad at this place
abbrev pub IsBadNamed : Option Files → List ℕ → List ℕ → ℕ → Type 0
IsBadNamed files name bad at = (bad ≡ name) × IsBadBundle files name at

-- ---- the header

module _ (files : Option Files) (r : FileState) (front : List ℕ) (given : List (List ℕ)) (h : HasRead files r front given) (stands : r.left ≡ [] → IsTrue r.over) where
  -- no type was read
  head_bad : (name : List ℕ) (at : ℕ) → r.name ≡ name → r.reader.block_type ≡ None → at ≡ end_of r → IsBadBundle files name at
  head_bad name at named none at_is = by_left r.left refl
    where
      by_left : (ms : List (List ℕ)) → r.left ≡ ms → IsBadBundle files name at
      by_left [] e =
          let a = all_passed files r front given h e (stands e) in
          record { text = a.text; there = subst (λ (n : List ℕ). HasText files n a.text) named a.there; bad = inl (record { untyped = a.typed ∙ none; place = at_is ∙ end_is files r given a }) }
      by_left (m ∷ more) e = absurd (let t = type_read files r front m given more h e in let clash = sym none ∙ t.1 in cc clash)

  typed_front : (block_type : List ℕ) → r.reader.block_type ≡ Some block_type → (contents front).block_type ≡ Some block_type
  typed_front block_type e = sym (ap (λ (s : ReaderState). s.block_type) h.state) ∙ e

  pub head_answers : (name : List ℕ) (w : World) (older : List TakenFile) (old new : Stage) (before now : ℕ) (refused : LoadFault) → r.name ≡ name → IsLoaded w older old → AllByRecursion (IsPart files) older
      → HeadRefused old.world r r.reader.block_type refused → FileAnswers (IsBundleRead files) (IsBadBundle files) files name w older new before now (Err refused)
  head_answers name w older old new before now refused named l parts g = by_type r.reader.block_type refl g
    where
      untyped : (refused : LoadFault) → r.reader.block_type ≡ None → HeadRefused old.world r None refused → LoadRefused (IsBadNamed files name) files w before now refused
      untyped (fault.Store store.ShelfFault) none g = absurd g
      untyped (fault.Store (store.ShelfBad bad at)) none g = (g.0 ∙ named, head_bad name at named none g.1)
      untyped (fault.Store (store.Missing missing)) none g = g
      untyped (fault.Store (store.StoredOther kept read)) none g = g
      untyped (fault.Store (store.NameClash held other)) none g = g
      untyped (fault.Store store.Mem) none g = tt
      untyped (fault.KindClash held other) none g = absurd g
      untyped (fault.HistoryFull len need) none g = absurd g

      by_type : (o : Option (List ℕ)) → r.reader.block_type ≡ o → HeadRefused old.world r o refused → LoadRefused (IsBadNamed files name) files w before now refused
      by_type None e g = untyped refused e g
      by_type (Some block_type) e g = greet_refused (IsBadNamed files name) files w before now older old r.name front block_type l parts h.there (typed_front block_type e) refused g

-- ---- the blocks

-- of the file of this name these blocks were read and taken
pub record IsReading (files : Option Files) (name : List ℕ) (old now : Stage) (r : FileState) (some : Bool) : Type 0 where
  pub front : List ℕ
  pub given : List (List ℕ)
  pub read : HasRead files r front given
  pub named : r.name ≡ name
  pub stands : r.left ≡ [] → IsTrue r.over
  pub block_type : List ℕ
  pub typed : r.reader.block_type ≡ Some block_type
  pub blocks : List Block
  pub records : AreRecords given blocks
  pub some_is : some ≡ nat_lt 0 (length blocks)
  pub loaded : (text : List ℕ) (w : World) (older : List TakenFile) → IsLoaded w older old → IsLoaded w (part name text block_type blocks ∷ older) now

-- no block was read yet
pub no_block : (files : Option Files) (name : List ℕ) (v told : World) (a : Aside) (r : FileState) (front : List ℕ) → HasRead files r front [] → r.name ≡ name → (r.left ≡ [] → IsTrue r.over) → IsHeadTold v told r.reader.block_type
    → IsReading files name (stage v a) (stage told a) r false
no_block files name v told a r front h named stands g = record {
  front = front;
  given = [];
  read = h;
  named = named;
  stands = stands;
  block_type = g.block_type;
  typed = g.found_is;
  blocks = [];
  records = record { records = tt };
  some_is = refl;
  loaded = λ text w older l. loaded_head w older v told a (part name text g.block_type []) refl l g.greeted;
}

pass_name : (r : FileState) (ms : List (List ℕ)) → (pass r ms).name ≡ r.name
pass_name r [] = refl
pass_name r (m ∷ ms) = refl

module _ (files : Option Files) (name : List ℕ) (old now : Stage) (r : FileState) (some : Bool) (g : IsReading files name old now r some) where
  -- the block that was read is that of a message
  record IsFirst (b : Block) : Type 0 where
    m : List ℕ
    more : List (List ℕ)
    left_is : r.left ≡ m ∷ more
    record_is : IsRecordOf m b

  first_is : (b : Block) → BlockAnswers r r.left (Ok (Some b)) → IsFirst b
  first_is b answer = by_left r.left refl
    where
      by_left : (ms : List (List ℕ)) → r.left ≡ ms → IsFirst b
      by_left [] e = let a = subst (λ (l : List (List ℕ)). BlockAnswers r l (Ok (Some b))) e answer in absurd (cc a)
      by_left (m ∷ more) e = record { m = m; more = more; left_is = e; record_is = subst (λ (l : List (List ℕ)). BlockAnswers r l (Ok (Some b))) e answer }

  none_left : BlockAnswers r r.left (Ok None) → r.left ≡ []
  none_left answer = by_left r.left refl
    where
      by_left : (ms : List (List ℕ)) → r.left ≡ ms → r.left ≡ []
      by_left [] e = e
      by_left (m ∷ more) e = absurd (subst (λ (l : List (List ℕ)). BlockAnswers r l (Ok None)) e answer)

  -- ---- a message that is no record

  place_is : place_of r ≡ told (message_place g.block_type g.given)
  place_is =
      let here : place_of r ≡ told (7 + length g.block_type + r.passed) = ap (λ (o : Option (List ℕ)). next_place o r.passed) g.typed in
      let sum : message_place g.block_type g.given ≡ 7 + length g.block_type + bytes_of g.given =
      omega (arith, length-append (header_text g.block_type) (flat_map message_text g.given), length-append (codes "dbin") (1 ∷ (to_be_bytes w16 (length g.block_type) ++ g.block_type)), length-append (to_be_bytes w16 (length g.block_type)) g.block_type) in
      omega (arith, here, sum, g.read.passed_is)

  message_bad : (m : List ℕ) (more : List (List ℕ)) (at : ℕ) → r.left ≡ m ∷ more → IsNoRecord (next_record_place r) m at → IsBadBundle files name at
  message_bad m more at left_is n =
      let is = next_in files r g.front m g.given more g.block_type g.read left_is g.typed in
      let here : place_of r ≡ told (message_place g.block_type g.given) = place_is in
      record {
        text = is.text;
        there = subst (λ (l : List ℕ). HasText files l is.text) g.named is.there;
        bad = inr (inl (record {
          block_type = g.block_type;
          typed = is.typed;
          blocks = g.blocks;
          front = g.given;
          message = m;
          more = is.more;
          messages_are = is.messages;
          records = g.records;
          bad = record { none = n.none; byte = n.byte; fault = n.fault; at_is = n.at_is ∙ ap (λ (p : ℕ). told (told (p + 4) + n.byte)) here ∙ told_thrice (message_place g.block_type g.given) 4 n.byte };
        }));
      }

  message_refused : (w : World) (before later : ℕ) (m : List ℕ) (more : List (List ℕ)) (refused : LoadFault) → r.left ≡ m ∷ more → BlockRefused (next_record_place r) r.name m refused → LoadRefused (IsBadNamed files name) files w before later refused
  message_refused w before later m more (fault.Store store.ShelfFault) e b = absurd b
  message_refused w before later m more (fault.Store (store.ShelfBad bad at)) e b = (b.0 ∙ g.named, message_bad m more at e b.1)
  message_refused w before later m more (fault.Store (store.Missing missing)) e b = b
  message_refused w before later m more (fault.Store (store.StoredOther kept read)) e b = b
  message_refused w before later m more (fault.Store (store.NameClash held other)) e b = b
  message_refused w before later m more (fault.Store store.Mem) e b = tt
  message_refused w before later m more (fault.KindClash held other) e b = absurd b
  message_refused w before later m more (fault.HistoryFull len need) e b = absurd b

  pub block_refused : (w : World) (older : List TakenFile) (new : Stage) (before later : ℕ) (refused : LoadFault) → BlockAnswers r r.left (Err refused) → FileAnswers (IsBundleRead files) (IsBadBundle files) files name w older new before later (Err refused)
  block_refused w older new before later refused answer = by_left r.left refl
    where
      by_left : (ms : List (List ℕ)) → r.left ≡ ms → LoadRefused (IsBadNamed files name) files w before later refused
      by_left [] e = let a = subst (λ (l : List (List ℕ)). BlockAnswers r l (Err refused)) e answer in absurd (cc a)
      by_left (m ∷ more) e = message_refused w before later m more refused e (subst (λ (l : List (List ℕ)). BlockAnswers r l (Err refused)) e answer)

  -- ---- one more block

  module _ (b : Block) (answer : BlockAnswers r r.left (Ok (Some b))) where
    -- the file, as far as it was read, with the block that is taken
    with_next : IsPart files (with_block (part name g.front g.block_type g.blocks) b)
    with_next =
        let f = first_is b answer in
        record {
          there = subst (λ (l : List ℕ). HasFront files l g.front) g.named g.read.there;
          typed = typed_front files r g.front g.given g.read g.stands g.block_type g.typed;
          messages = g.given ++ f.m ∷ [];
          more = f.more;
          messages_are = g.read.messages ∙ ap (λ (l : List (List ℕ)). g.given ++ l) f.left_is ∙ sym (append_assoc g.given (f.m ∷ []) f.more);
          records = records_more g.given g.blocks f.m b g.records f.record_is;
        }

    -- it was not taken
    pub not_taken : (w : World) (older : List TakenFile) (new : Stage) (before later : ℕ) (refused : LoadFault) → IsLoaded w older old → AllByRecursion (IsPart files) older → TakeRefused now (taken (slip b) StoredFile) refused
        → FileAnswers (IsBundleRead files) (IsBadBundle files) files name w older new before later (Err refused)
    not_taken w older new before later refused l parts t =
        take_refused (IsBadNamed files name) files w before later older now (part name g.front g.block_type g.blocks) b refused (g.loaded g.front w older l) (with_next, parts) t

    pub reads_on : (files' : Option Files) (new : Stage) (r' r'' : FileState) → files' ≡ files → IsTaken now new (taken (slip b) StoredFile)
        → ((fs : Option Files) (front m : List ℕ) (given more : List (List ℕ)) → HasRead fs r front given → r.left ≡ m ∷ more → HasRead fs r' front (given ++ m ∷ []))
        → r' ≡ pass r r.left → ReadsOn files' r' r'' → r''.name ≡ r'.name → (r''.left ≡ [] → IsTrue r''.over)
        → IsReading files name old new r'' true
    reads_on files' new r' r'' same_files took given passed read same_name stands =
        let f = first_is b answer in
        let P : Option Files → Type 0 = λ fs. ReadsOn fs r' r'' in
        let on = subst P same_files read g.front (g.given ++ f.m ∷ []) (given files g.front f.m g.given f.more g.read f.left_is) in
        record {
          front = g.front ++ on.more;
          given = g.given ++ f.m ∷ [];
          read = on.read;
          named = same_name ∙ ap (λ (s : FileState). s.name) passed ∙ pass_name r r.left ∙ g.named;
          stands = stands;
          block_type = g.block_type;
          typed = same_type files r r'' g.front on.more g.given (g.given ++ f.m ∷ []) g.block_type g.read on.read g.typed;
          blocks = b ∷ g.blocks;
          records = records_more g.given g.blocks f.m b g.records f.record_is;
          some_is = sym (lt-ltb 0 (length (b ∷ g.blocks)) (omega arith));
          loaded = λ text w older l. loaded_more w older now new (part name text g.block_type g.blocks) b (g.loaded text w older l) took;
        }

    -- fewer bytes are left to be passed over
    pub shorter : (files' : Option Files) (r' r'' : FileState) → files' ≡ files
        → ((fs : Option Files) (front m : List ℕ) (given more : List (List ℕ)) → HasRead fs r front given → r.left ≡ m ∷ more → HasRead fs r' front (given ++ m ∷ []))
        → ((fs : Option Files) (front m : List ℕ) (given more : List (List ℕ)) → HasRead fs r front given → r.left ≡ m ∷ more → r.passed < r'.passed)
        → ((fs : Option Files) (front m : List ℕ) (given more : List (List ℕ)) → HasRead fs r front given → r.left ≡ m ∷ more → r'.passed < 2 ^ 64)
        → ReadsOn files' r' r'' → 2 ^ 64 - r''.passed < 2 ^ 64 - r.passed
    shorter files' r' r'' same_files given later small read =
        let f = first_is b answer in
        let P : Option Files → Type 0 = λ fs. ReadsOn fs r' r'' in
        let here = given files g.front f.m g.given f.more g.read f.left_is in
        let on = subst P same_files read g.front (g.given ++ f.m ∷ []) here in
        omega (arith, later files g.front f.m g.given f.more g.read f.left_is, small files g.front f.m g.given f.more g.read f.left_is, here.passed_is, on.read.passed_is)

  -- ---- the end

  module _ (found : Option Block) (no_more : (b : Block) → found ≡ Some b → ⊥) (answer : BlockAnswers r r.left (Ok found)) where
    is_none : (o : Option Block) → ((b : Block) → o ≡ Some b → ⊥) → o ≡ None
    is_none None never = refl
    is_none (Some b) never = absurd (never b refl)

    all : IsAll files r g.given
    all =
        let A : Option Block → Type 0 = λ o. BlockAnswers r r.left (Ok o) in
        let none = none_left (subst A (is_none found no_more) answer) in
        all_passed files r g.front g.given g.read none (g.stands none)

    there : HasText files name all.text
    there = subst (λ (l : List ℕ). HasText files l all.text) g.named all.there

    records : AreRecords (contents all.text).messages g.blocks
    records = subst (λ (ms : List (List ℕ)). AreRecords ms g.blocks) (sym all.messages) g.records

    not_ended : IsFalse some ⊎ IsTrue (is_some (end_fault r.reader)) → IsFalse (nat_lt 0 (length g.blocks)) ⊎ IsTrue (is_some (container_fault all.text))
    not_ended (inl none) = inl (sym g.some_is ∙ none)
    not_ended (inr bad) = inr (ap (λ (o : Option DbinFault). is_some o) all.fault ∙ bad)

    pub end_refused : (w : World) (older : List TakenFile) (new : Stage) (before later : ℕ) (refused : LoadFault) → EndRefused r some refused → FileAnswers (IsBundleRead files) (IsBadBundle files) files name w older new before later (Err refused)
    end_refused w older new before later (fault.Store store.ShelfFault) e = absurd e
    end_refused w older new before later (fault.Store (store.ShelfBad bad at)) e =
        (e.0 ∙ g.named, record { text = all.text; there = there; bad = inr (inr (record { block_type = g.block_type; typed = all.typed ∙ g.typed; blocks = g.blocks; records = records; ends = not_ended e.2; place = e.1 ∙ end_is files r g.given all })) })
    end_refused w older new before later (fault.Store (store.Missing missing)) e = e
    end_refused w older new before later (fault.Store (store.StoredOther kept read)) e = e
    end_refused w older new before later (fault.Store (store.NameClash held other)) e = e
    end_refused w older new before later (fault.Store store.Mem) e = tt
    end_refused w older new before later (fault.KindClash held other) e = absurd e
    end_refused w older new before later (fault.HistoryFull len need) e = absurd e

    pub file_whole : (w : World) (older : List TakenFile) → IsLoaded w older old → IsTrue some → end_fault r.reader ≡ None → IsFileLoaded (IsBundleRead files) name w older now
    file_whole w older l any fine = record {
      x = part name all.text g.block_type g.blocks;
      name_is = refl;
      read = record { origin_is = refl; there = there; holds = record { typed = all.typed ∙ g.typed; records = records; whole = all.fault ∙ fine }; some = sym g.some_is ∙ any };
      loaded = g.loaded all.text w older l;
    }
