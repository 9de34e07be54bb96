-- A file of merged blocks, block by block.
use Rattle.std.proofs.Common.{arith, ◌≡◌, ◌<◌, ◌+◌, ◌-◌, ◌^◌, ◌==◌, ◌||◌, ◌⊎◌, inl, inr, ℕ, Bool, true, false, IsTrue, List, [], ◌∷◌, ◌++◌, length, min, Option, Some, None, Result, Ok, Err, refl, sym, ap, subst, ◌∙◌, length-append}
use Rattle.std.specs.Option.{is_some, option_map, unwrap_or}
use Rattle.std.specs.List.{flat_map}
use Rattle.std.specs.Int.{w32, to_be_bytes}
use Rattle.std.proofs.lemmas.Bool.{lt-ltb}
use Rattle.std.proofs.lemmas.List.Concat.{flat_map-cons}
use Rattle.block_record.specs.declared.blocks.Block.{Block}
use Rattle.block_record.specs.declared.blocks.BlockRef.{BlockRef}
use Rattle.dbin_file.specs.declared.faults.DbinFault.{DbinFault}
use Rattle.dbin_file.specs.Messages.{message_text}
use Rattle.dbin_file.specs.Contents.{contents, told}
use Rattle.dbin_file.specs.Reader.{end_fault}
use Rattle.outer_world.specs.Files.{Files}
use Rattle.file_reader.specs.Reading.{FileState, bytes_of, next_place, place_of, pass, HasText, HasRead, ReadsOn, IsAll}
use Rattle.file_reader.proofs.public.ReadFacts.{same_type, type_read, next_in, all_passed, counted}
use Rattle.one_block.specs.Containers.{container_fault, fault_place, empty_place, record_place, IsNoRecord}
use Rattle.one_block.specs.declared.file_faults.FileFault.{FileFault}
use Rattle.one_block.specs.declared.file_faults.FileFault.TheVariants.{Bad, OtherType, Mem}
use Rattle.one_block.specs.Heads.{AreRecords, IsKept}
use Rattle.one_block.specs.SingleSteps.{HeadRefused}
use Rattle.one_block.proofs.public.RecordFacts.{records_more, length_records}
use Rattle.shelf_check.specs.Bundles.{is_next, tip_after, AreNext, place_after, IsNotNext, IsBadMessage}
use Rattle.shelf_check.specs.Merged.{IsBadBundle, IsBundleReadOn}
use Rattle.shelf_check.specs.Steps.{IsNextRecord, NextRefused, FirstAnswers, next_record_place, end_of, IsNotWhole, LastRefused, IsLastOf}

-- ---- places

place_after-sum : (first : ℕ) (ms : List (List ℕ)) → place_after first ms ≡ first + bytes_of ms
place_after-sum first [] = omega arith
place_after-sum first (m ∷ ms) =
    omega (arith, place_after-sum (first + (length m + 4)) ms, ap length (flat_map-cons message_text m ms), length-append (message_text m) (flat_map message_text ms), length-append (to_be_bytes w32 (length m)) m)

-- the place of the next record
place_is : (r : FileState) (block_type text : List ℕ) (given : List (List ℕ)) → r.reader.block_type ≡ Some block_type → (contents text).block_type ≡ Some block_type → r.passed ≡ told (bytes_of given)
    → next_record_place r ≡ told (place_after (record_place text) given)
place_is r block_type text given typed named passed =
    let here : place_of r ≡ told (7 + length block_type + r.passed) = ap (λ (o : Option (List ℕ)). next_place o r.passed) typed in
    let first : record_place text ≡ 11 + length block_type = ap (λ (o : Option (List ℕ)). 11 + length (unwrap_or o [])) named in
    omega (arith, here, first, passed, place_after-sum (record_place text) given)

told_more : (x y : ℕ) → min (min x (2 ^ 64 - 1) + y) (2 ^ 64 - 1) ≡ min (x + y) (2 ^ 64 - 1)
told_more x y = omega arith

told_twice : (x : ℕ) → min (min x (2 ^ 64 - 1)) (2 ^ 64 - 1) ≡ min x (2 ^ 64 - 1)
told_twice x = omega arith

-- where a file of which no message is left ends too early
end_is : (files : Option Files) (r : FileState) (given : List (List ℕ)) (a : IsAll files r given) → end_of r ≡ empty_place a.text
end_is files r given a = by_fault (end_fault r.reader) refl
  where
    by_fault : (o : Option DbinFault) → end_fault r.reader ≡ o → end_of r ≡ empty_place a.text
    by_fault None e =
        ap (λ (o : Option DbinFault). unwrap_or (option_map fault_place o) (told r.at)) e ∙ ap told (sym (a.size e))
        ∙ ap (λ (o : Option DbinFault). unwrap_or (option_map fault_place o) (told (length a.text))) (sym (a.fault ∙ e))
    by_fault (Some f) e =
        ap (λ (o : Option DbinFault). unwrap_or (option_map fault_place o) (told r.at)) e
        ∙ ap (λ (o : Option DbinFault). unwrap_or (option_map fault_place o) (told (length a.text))) (sym (a.fault ∙ e))

-- ---- the header

-- a text of the file, and its type
record IsTyped (files : Option Files) (r : FileState) : Type 0 where
  text : List ℕ
  there : HasText files r.name text
  typed : (contents text).block_type ≡ r.reader.block_type

module _ (files : Option Files) (r : FileState) (front : List ℕ) (given : List (List ℕ)) (h : HasRead files r front given) (stands : r.left ≡ [] → IsTrue r.over) where
  typed_text : IsTyped files r
  typed_text = by_left r.left refl
    where
      by_left : (ms : List (List ℕ)) → r.left ≡ ms → IsTyped files r
      by_left [] e = let a = all_passed files r front given h e (stands e) in record { text = a.text; there = a.there; typed = a.typed }
      by_left (m ∷ more) e =
          let t = type_read files r front m given more h e in
          let n = next_in files r front m given more t.0 h e t.1 in
          record { text = n.text; there = n.there; typed = n.typed ∙ sym t.1 }

  head_bad : (size base : ℕ) (kept : Option (List ℕ)) (before : Option BlockRef) (e : FileFault) → HeadRefused r.reader.block_type kept (end_of r) e → IsBadBundle size files kept before base r.name e
  head_bad size base kept before (Bad at) refused = by_left r.left refl
    where
      by_left : (ms : List (List ℕ)) → r.left ≡ ms → IsBadBundle size files kept before base r.name (Bad at)
      by_left [] e =
          let a = all_passed files r front given h e (stands e) in
          record { text = a.text; there = a.there; refused = inl (record { untyped = a.typed ∙ refused.0; place = refused.1 ∙ end_is files r given a }) }
      by_left (m ∷ more) e = absurd (let t = type_read files r front m given more h e in let clash = sym refused.0 ∙ t.1 in cc clash)
  head_bad size base kept before (OtherType held offered) o = let t = typed_text in record { text = t.text; there = t.there; refused = record { typed = t.typed ∙ o.found_is; kept_is = o.kept_is; other = o.other } }
  head_bad size base kept before Mem refused = let t = typed_text in record { text = t.text; there = t.there; refused = tt }

  pub head_refused : (size base : ℕ) (name : List ℕ) (kept : Option (List ℕ)) (before : Option BlockRef) (e : FileFault) → r.name ≡ name → HeadRefused r.reader.block_type kept (end_of r) e → IsBadBundle size files kept before base name e
  head_refused size base name kept before e named refused = let P : List ℕ → Type 0 = λ n. IsBadBundle size files kept before base n e in subst P named (head_bad size base kept before e refused)

-- ---- the blocks

-- of the file of this base these blocks were read, which obey the rule after the files before it
pub record IsReading (files : Option Files) (size base : ℕ) (name : List ℕ) (kept : Option (List ℕ)) (before : Option BlockRef) (r : FileState) (block_type : List ℕ) (last : Option BlockRef) (count : ℕ) : Type 0 where
  pub front : List ℕ
  pub given : List (List ℕ)
  pub read : HasRead files r front given
  pub named : r.name ≡ name
  pub typed : r.reader.block_type ≡ Some block_type
  pub stands : r.left ≡ [] → IsTrue r.over
  pub same : IsKept kept block_type
  pub blocks : List Block
  pub records : AreRecords given blocks
  pub next : AreNext size base before blocks
  pub last_is : last ≡ tip_after before blocks
  pub count_is : count ≡ length blocks

-- no block was read yet
pub no_block : (files : Option Files) (size base : ℕ) (name : List ℕ) (kept : Option (List ℕ)) (before : Option BlockRef) (r : FileState) (front block_type : List ℕ)
    → HasRead files r front [] → r.name ≡ name → r.reader.block_type ≡ Some block_type → (r.left ≡ [] → IsTrue r.over) → IsKept kept block_type
    → IsReading files size base name kept before r block_type before 0
no_block files size base name kept before r front block_type h named typed stands same = record {
  front = front;
  given = [];
  read = h;
  named = named;
  typed = typed;
  stands = stands;
  same = same;
  blocks = [];
  records = record { records = tt };
  next = tt;
  last_is = refl;
  count_is = refl;
}

pass_name : (r : FileState) (ms : List (List ℕ)) → (pass r ms).name ≡ r.name
pass_name r [] = refl
pass_name r (m ∷ ms) = refl

module _ (files : Option Files) (size base : ℕ) (name : List ℕ) (kept : Option (List ℕ)) (before : Option BlockRef) (r : FileState) (block_type : List ℕ) (last : Option BlockRef) (count : ℕ) (g : IsReading files size base name kept before r block_type last count) where
  abbrev Answer : List (List ℕ) → Result (Option BlockRef) FileFault → Type 0
  Answer ms result = FirstAnswers size base (next_record_place r) last ms result

  abbrev BadBundle : FileFault → Type 0
  BadBundle e = IsBadBundle size files kept before base name e

  -- the block that was read is that of a message
  record IsFirst (tip : BlockRef) : Type 0 where
    m : List ℕ
    more : List (List ℕ)
    left_is : r.left ≡ m ∷ more
    first : IsNextRecord size base last m tip

  first_is : (tip : BlockRef) → Answer r.left (Ok (Some tip)) → IsFirst tip
  first_is tip answer = by_left r.left refl
    where
      by_left : (ms : List (List ℕ)) → r.left ≡ ms → IsFirst tip
      by_left [] e = let a = subst (λ (l : List (List ℕ)). Answer l (Ok (Some tip))) e answer in absurd (cc a)
      by_left (m ∷ more) e = record { m = m; more = more; left_is = e; first = subst (λ (l : List (List ℕ)). Answer l (Ok (Some tip))) e answer }

  none_left : Answer r.left (Ok None) → r.left ≡ []
  none_left answer = by_left r.left refl
    where
      by_left : (ms : List (List ℕ)) → r.left ≡ ms → r.left ≡ []
      by_left [] e = e
      by_left (m ∷ more) e = absurd (subst (λ (l : List (List ℕ)). Answer l (Ok None)) e answer)

  -- a message that may not come next
  module _ (m : List ℕ) (more : List (List ℕ)) (left_is : r.left ≡ m ∷ more) where
    bad_message : (text : List ℕ) (rest : List (List ℕ)) (at : ℕ) → (contents text).block_type ≡ Some block_type → (contents text).messages ≡ g.given ++ m ∷ rest
        → IsNoRecord (next_record_place r) m at ⊎ IsNotNext size base last (next_record_place r) m at → IsBadMessage size base (record_place text) (contents text).messages before at
    bad_message text rest at typed messages bad = record { blocks = g.blocks; front = g.given; message = m; more = rest; messages_are = messages; records = g.records; next = g.next; bad = by_cause bad }
      where
        place : next_record_place r ≡ told (place_after (record_place text) g.given)
        place = place_is r block_type text g.given g.typed typed g.read.passed_is

        by_cause : IsNoRecord (next_record_place r) m at ⊎ IsNotNext size base last (next_record_place r) m at
            → IsNoRecord (place_after (record_place text) g.given) m at ⊎ IsNotNext size base (tip_after before g.blocks) (place_after (record_place text) g.given) m at
        by_cause (inl n) = inl (record { none = n.none; byte = n.byte; fault = n.fault; at_is = n.at_is ∙ ap (λ a. told (a + n.byte)) place ∙ told_more (place_after (record_place text) g.given) n.byte })
        by_cause (inr n) = inr (record {
          block = n.block;
          record_is = n.record_is;
          not_next = ap (λ (t : Option BlockRef). is_next size base t n.block) (sym g.last_is) ∙ n.not_next;
          at_is = n.at_is ∙ ap told place ∙ told_twice (place_after (record_place text) g.given);
        })

    message_refused : (e : FileFault) → NextRefused size base (next_record_place r) last m e → BadBundle e
    message_refused (Bad at) bad =
        let n = next_in files r g.front m g.given more block_type g.read left_is g.typed in
        record {
          text = n.text;
          there = subst (λ (l : List ℕ). HasText files l n.text) g.named n.there;
          refused = inr (record { block_type = block_type; head = record { typed = n.typed; same = g.same }; body = inl (bad_message n.text n.more at n.typed n.messages bad) });
        }
    message_refused (OtherType held offered) refused = absurd refused
    message_refused Mem refused =
        let n = next_in files r g.front m g.given more block_type g.read left_is g.typed in
        record { text = n.text; there = subst (λ (l : List ℕ). HasText files l n.text) g.named n.there; refused = tt }

  pub first_refused : (e : FileFault) → FirstAnswers size base (next_record_place r) last r.left (Err e) → IsBadBundle size files kept before base name e
  first_refused e answer = by_left r.left refl
    where
      by_left : (ms : List (List ℕ)) → r.left ≡ ms → BadBundle e
      by_left [] is = let a = subst (λ (l : List (List ℕ)). Answer l (Err e)) is answer in absurd (cc a)
      by_left (m ∷ more) is = message_refused m more is e (subst (λ (l : List (List ℕ)). Answer l (Err e)) is answer)

  -- one more block can be counted
  pub counts_on : (tip : BlockRef) → FirstAnswers size base (next_record_place r) last r.left (Ok (Some tip)) → count + 1 < 2 ^ 64
  counts_on tip answer =
      let f = first_is tip answer in
      omega (arith, counted files r g.front g.given g.read, length-append g.given r.left, ap length f.left_is, length_records g.given g.blocks g.records, g.count_is)

  -- one more block
  module _ (tip : BlockRef) (answer : FirstAnswers size base (next_record_place r) last r.left (Ok (Some tip))) where
    pub reads_on : (files' : Option Files) (r' r'' : FileState) → files' ≡ files
        → ((fs : Option Files) (front m : List ℕ) (given more : List (List ℕ)) → HasRead fs r front given → r.left ≡ m ∷ more → HasRead fs r' front (given ++ m ∷ []))
        → r' ≡ pass r r.left → ReadsOn files' r' r'' → r''.name ≡ r'.name → (r''.left ≡ [] → IsTrue r''.over)
        → IsReading files size base name kept before r'' block_type (Some tip) (count + 1)
    reads_on files' r' r'' same_files given passed read same_name stands =
        let f = first_is tip answer in
        let P : Option Files → Type 0 = λ fs. ReadsOn fs r' r'' in
        let on = subst P same_files read g.front (g.given ++ f.m ∷ []) (given files g.front f.m g.given f.more g.read f.left_is) in
        record {
          front = g.front ++ on.more;
          given = g.given ++ f.m ∷ [];
          read = on.read;
          named = same_name ∙ ap (λ (s : FileState). s.name) passed ∙ pass_name r r.left ∙ g.named;
          typed = same_type files r r'' g.front on.more g.given (g.given ++ f.m ∷ []) block_type g.read on.read g.typed;
          stands = stands;
          same = g.same;
          blocks = f.first.block ∷ g.blocks;
          records = records_more g.given g.blocks f.m f.first.block g.records f.first.record_is;
          next = (subst (λ (t : Option BlockRef). IsTrue (is_next size base t f.first.block)) g.last_is f.first.next, g.next);
          last_is = ap Some f.first.tip_is;
          count_is = omega (arith, g.count_is);
        }

    -- fewer bytes are left to be passed over
    pub shorter : (files' : Option Files) (r' r'' : FileState) → files' ≡ files
        → ((fs : Option Files) (front m : List ℕ) (given more : List (List ℕ)) → HasRead fs r front given → r.left ≡ m ∷ more → HasRead fs r' front (given ++ m ∷ []))
        → ((fs : Option Files) (front m : List ℕ) (given more : List (List ℕ)) → HasRead fs r front given → r.left ≡ m ∷ more → r.passed < r'.passed)
        → ((fs : Option Files) (front m : List ℕ) (given more : List (List ℕ)) → HasRead fs r front given → r.left ≡ m ∷ more → r'.passed < 2 ^ 64)
        → ReadsOn files' r' r'' → 2 ^ 64 - r''.passed < 2 ^ 64 - r.passed
    shorter files' r' r'' same_files given later small read =
        let f = first_is tip answer in
        let P : Option Files → Type 0 = λ fs. ReadsOn fs r' r'' in
        let here = given files g.front f.m g.given f.more g.read f.left_is in
        let on = subst P same_files read g.front (g.given ++ f.m ∷ []) here in
        omega (arith, later files g.front f.m g.given f.more g.read f.left_is, small files g.front f.m g.given f.more g.read f.left_is, here.passed_is, on.read.passed_is)

  -- ---- the end

  module _ (found : Option BlockRef) (no_more : (tip : BlockRef) → found ≡ Some tip → ⊥) (answer : FirstAnswers size base (next_record_place r) last r.left (Ok found)) where
    is_none : (o : Option BlockRef) → ((tip : BlockRef) → o ≡ Some tip → ⊥) → o ≡ None
    is_none None never = refl
    is_none (Some tip) never = absurd (never tip refl)

    all : IsAll files r g.given
    all =
        let A : Option BlockRef → Type 0 = λ o. FirstAnswers size base (next_record_place r) last r.left (Ok o) in
        let none = none_left (subst A (is_none found no_more) answer) in
        all_passed files r g.front g.given g.read none (g.stands none)

    there : HasText files name all.text
    there = subst (λ (l : List ℕ). HasText files l all.text) g.named all.there

    typed : (contents all.text).block_type ≡ Some block_type
    typed = all.typed ∙ g.typed

    records : AreRecords (contents all.text).messages g.blocks
    records = subst (λ (ms : List (List ℕ)). AreRecords ms g.blocks) (sym all.messages) g.records

    or_true : (b : Bool) → (b || true) ≡ true
    or_true true = refl
    or_true false = refl

    not_ended : IsNotWhole (end_fault r.reader) last count → IsTrue ((length g.blocks == 0) || is_some (container_fault all.text))
    not_ended (inl none) = no_tip g.blocks (sym none ∙ g.last_is)
      where
        no_tip : (blocks : List Block) → None ≡ tip_after before blocks → IsTrue ((length blocks == 0) || is_some (container_fault all.text))
        no_tip [] e = refl
        no_tip (x ∷ older) e = absurd (cc e)
    not_ended (inr (inl zero)) = no_blocks g.blocks (sym g.count_is ∙ zero)
      where
        no_blocks : (blocks : List Block) → length blocks ≡ 0 → IsTrue ((length blocks == 0) || is_some (container_fault all.text))
        no_blocks [] e = refl
        no_blocks (x ∷ older) e = absurd (omega (arith, e))
    not_ended (inr (inr bad)) = ap (λ t. (length g.blocks == 0) || t) (ap (λ (o : Option DbinFault). is_some o) all.fault ∙ bad) ∙ or_true (length g.blocks == 0)

    pub last_refused : (e : FileFault) → LastRefused r last count e → IsBadBundle size files kept before base name e
    last_refused (Bad at) refused = record {
      text = all.text;
      there = there;
      refused = inr (record {
        block_type = block_type;
        head = record { typed = typed; same = g.same };
        body = inr (record { blocks = g.blocks; records = records; next = g.next; ends = not_ended refused.1; place = refused.0 ∙ end_is files r g.given all });
      });
    }
    last_refused (OtherType held offered) refused = absurd refused
    last_refused Mem refused = absurd refused

    pub bundle_whole : (tip : BlockRef) → IsLastOf r last count tip → IsBundleReadOn size files base name kept before (record { block_type = block_type; tip = tip; blocks = count })
    bundle_whole tip l = record {
      text = all.text;
      there = there;
      read = record {
        blocks = g.blocks;
        bundle = record {
          holds = record { typed = typed; records = records; whole = all.fault ∙ l.fine };
          some = lt-ltb 0 (length g.blocks) (let c = g.count_is in let s = l.some in omega (arith, c, s));
          same = g.same;
          next = g.next;
        };
        tip = sym l.last_is ∙ g.last_is;
        count = g.count_is;
      };
    }
