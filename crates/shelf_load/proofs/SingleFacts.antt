-- A file of one block, loaded, and the folders of such files.
use Rattle.std.proofs.Common.{◌≡◌, ◌<◌, ◌≤◌, ◌⊎◌, inl, inr, ℕ, List, [], ◌∷◌, Option, Some, None, Err, refl, sym, ap, subst, ◌∙◌}
use Rattle.std.specs.List.{All, AllByRecursion}
use Rattle.std.specs.Prelude.{IsPermutation, IsSorted, IsTrue, ◌^◌}
use Rattle.std.specs.Option.{option_map}
use Rattle.std.proofs.Math.Nat.{le_refl}
use Rattle.std.proofs.lemmas.List.{append-nil}
use Rattle.block_record.specs.declared.blocks.Block.{Block}
use Rattle.block_record.specs.declared.blocks.Kind.{Kind}
use Rattle.block_record.specs.Slips.{slip}
use Rattle.dbin_file.specs.Contents.{contents}
use Rattle.outer_world.specs.Files.{Files, is_in}
use Rattle.file_reader.specs.Reading.{HasText}
use Rattle.one_block.specs.Forms.{form_of}
use Rattle.one_block.specs.Heads.{AreRecords, AreRecordsOf, HasOtherType}
use Rattle.one_block.specs.Singles.{IsSingleOf}
use Rattle.one_block.specs.declared.file_faults.FileFault.{FileFault}
use Rattle.one_block.specs.declared.file_faults.FileFault.TheVariants.{Bad, OtherType, Mem}
use Rattle.one_block.specs.declared.forms.Form.{Form}
use Rattle.one_block.proofs.public.OptionFacts.{some_is}
use Rattle.relay_model.specs.Worlds.{World}
use Rattle.shelf_check.specs.Folders.{folder_text}
use Rattle.shelf_check.specs.Merged.{Entry, entry_order}
use Rattle.shelf_check.specs.Refusals.{IsNamedAs, named_fault}
use Rattle.shelf_check.specs.Singles.{AnswersBy}
use Rattle.shelf_check.specs.declared.faults.LoadFault.{LoadFault}
use Rattle.shelf_load.specs.Asides.{Aside}
use Rattle.shelf_load.specs.Greeting.{GreetRefused}
use Rattle.shelf_load.specs.Loading.{TakenFile, origin_of, IsLoaded, IsPart, with_block, IsSingleTaken, AreSinglesTaken, AreLoaded, LoadRefused, IsFileLoaded, AreFilesLoaded, IsFirstBad, EntriesAnswer}
use Rattle.shelf_load.specs.Singling.{number_in, folder_of, AreListed, IsToldAndTaken, IsToldAndRefused, IsReadIn, IsSingleRead, IsBadSingle, IsEntry, IsUnlisted, IsBadSingleFile}
use Rattle.shelf_load.specs.Taking.{Stage, stage, taken}
use Rattle.shelf_load.proofs.LoadedFacts.{whole_front, loaded_head, loaded_more, load_on, take_refused, greet_refused}
use Rattle.shelf_load.proofs.NumberFacts.{own_number}

-- ---- the text of a file

-- a file that is bad after files of a type is bad alone
forget : (o : Option Form) (name text : List ℕ) (kept : Option (List ℕ)) (at : ℕ) → AnswersBy o name text kept (Err (Bad at)) → AnswersBy o name text None (Err (Bad at))
forget None name text kept at bad = bad
forget (Some form) name text kept at (inl head) = inl head
forget (Some form) name text kept at (inr bad) = inr (record { block_type = bad.block_type; head = record { typed = bad.head.typed; same = tt }; body = bad.body })

other_type : (o : Option Form) (name text : List ℕ) (kept : Option (List ℕ)) (held offered : List ℕ) → AnswersBy o name text kept (Err (OtherType held offered)) → HasOtherType text kept held offered
other_type None name text kept held offered other = absurd other
other_type (Some form) name text kept held offered other = other

-- the file of a name is bad at this place
abbrev pub IsBadNamed : Option Files → List ℕ → List ℕ → ℕ → Type 0
IsBadNamed files name bad at = (bad ≡ name) × IsBadSingle files name at

-- a text that was refused
module _ (files : Option Files) (w : World) (before now : ℕ) (older : List TakenFile) (g : Stage) (name text : List ℕ) (kept : Option (List ℕ))
    (l : IsLoaded w older g) (parts : AllByRecursion (IsPart files) older) (there : HasText files name text) (kept_is : kept ≡ option_map (λ k. k.block_type) g.world.kind) where
  by_fault : (f : FileFault) → AnswersBy (form_of (folder_of name) name) name text kept (Err f) → LoadRefused (IsBadNamed files name) files w before now (named_fault name f)
  by_fault (Bad at) a = (refl, record { text = text; there = there; answer = forget (form_of (folder_of name) name) name text kept at a })
  by_fault (OtherType held offered) a =
      let o = other_type (form_of (folder_of name) name) name text kept held offered a in
      record {
        older = older;
        parts = parts;
        name = name;
        text = text;
        there = whole_front files name text there;
        typed = o.typed;
        held_is = ap (option_map (λ (k : Kind). k.block_type)) (sym l.kind) ∙ sym kept_is ∙ o.kept_is;
        differs = o.other;
      }
  by_fault Mem a = tt

  pub text_refused : (f : FileFault) (told : LoadFault) → IsNamedAs name f told → AnswersBy (form_of (folder_of name) name) name text kept (Err f) → LoadRefused (IsBadNamed files name) files w before now told
  text_refused f told (inl is) a = subst (LoadRefused (IsBadNamed files name) files w before now) (sym is) (by_fault f a)
  text_refused f told (inr is) a = subst (LoadRefused (IsBadNamed files name) files w before now) (sym is) tt

-- ---- its block

-- a file of which only the head was read
abbrev head_of : (name text block_type : List ℕ) (block : Block) → TakenFile
head_of name text block_type block = record { num = block.num; name = name; text = text; block_type = block_type; blocks = []; origin = origin_of (folder_of name) }

module _ (files : Option Files) (w : World) (older : List TakenFile) (v : World) (a : Aside) (name text : List ℕ) (kept : Option (List ℕ)) (block_type : List ℕ) (block : Block)
    (l : IsLoaded w older (stage v a)) (parts : AllByRecursion (IsPart files) older) (there : HasText files name text) (r : IsReadIn (folder_of name) name text kept block_type block) where
  pub single_loaded : (new : Stage) → IsToldAndTaken (stage v a) new block_type (taken (slip block) (origin_of (folder_of name))) → IsFileLoaded (IsSingleRead files) name w older new
  single_loaded new t = record {
    x = with_block (head_of name text block_type block) block;
    name_is = refl;
    read = record {
      origin_is = refl;
      there = there;
      block = block;
      blocks_are = refl;
      read = record { form = r.form; formed = r.formed; single = record { holds = r.single.holds; same = tt; named = r.single.named } };
    };
    loaded = loaded_more w older (stage t.told a) new (head_of name text block_type block) block (loaded_head w older v t.told a (head_of name text block_type block) refl l t.greeted) t.taken;
  }

  whole : IsPart files (with_block (head_of name text block_type block) block)
  whole = record {
    there = whole_front files name text there;
    typed = r.single.holds.typed;
    messages = (contents text).messages;
    more = [];
    messages_are = sym (append-nil (contents text).messages);
    records = r.single.holds.records;
  }

  pub single_refused : (before now : ℕ) (refused : LoadFault) → GreetRefused v block_type refused ⊎ IsToldAndRefused (stage v a) block_type (taken (slip block) (origin_of (folder_of name))) refused
      → LoadRefused (IsBadNamed files name) files w before now refused
  single_refused before now refused (inl g) =
      greet_refused (IsBadNamed files name) files w before now older (stage v a) name text block_type l parts (whole_front files name text there) r.single.holds.typed refused g
  single_refused before now refused (inr t) =
      take_refused (IsBadNamed files name) files w before now older (stage t.told a) (head_of name text block_type block) block refused
      (loaded_head w older v t.told a (head_of name text block_type block) refl l t.greeted) (whole, parts) t.why

-- ---- a file that was read whole

pub single_part : (files : Option Files) (x : TakenFile) → IsSingleTaken files x → IsPart files x
single_part files x s = record {
  there = whole_front files x.name x.text s.there;
  typed = s.single.holds.typed;
  messages = (contents x.text).messages;
  more = [];
  messages_are = sym (append-nil (contents x.text).messages);
  records = subst (AreRecords (contents x.text).messages) (sym s.blocks_are) s.single.holds.records;
}

-- the block of a text that holds it alone fits its record
block_small : (messages : List (List ℕ)) (b : Block) → AreRecordsOf messages (b ∷ []) → b.num < 2 ^ 64
block_small [] b all = absurd all
block_small (m ∷ messages) b all = all.0.recordable.num

-- the number in the name of a file that was read whole is that of its block
entry_num : (form : Form) (name text block_type : List ℕ) (block : Block) (num : ℕ) → number_in name ≡ Some num → IsSingleOf form name text None block_type block → num ≡ block.num
entry_num form name text block_type block num is s =
    some_is num block.num (sym is ∙ ap number_in s.named ∙ own_number form (slip block) (block_small (contents text).messages block s.holds.records.records))

pub single_taken : (files : Option Files) (e : Entry) (x : TakenFile) → IsEntry e → x.name ≡ e.1 → (r : IsSingleRead files x) → IsSingleTaken files (record x { num = e.0 })
single_taken files e x n name_is r = record {
  folder = folder_of x.name;
  inside = subst (λ (name : List ℕ). IsTrue (is_in (folder_text (folder_of name)) name)) (sym name_is) n.inside;
  origin_is = r.origin_is;
  form = r.read.form;
  formed = r.read.formed;
  there = r.there;
  block = r.block;
  blocks_are = r.blocks_are;
  num_is = entry_num r.read.form x.name x.text x.block_type r.block e.0 (ap number_in name_is ∙ n.number) r.read.single;
  single = r.read.single;
}

-- ---- both folders

module _ (files now_files : Option Files) (entries shown : List Entry) (w : World) (older : List TakenFile) (new : Stage) (listed : AreListed files entries) (is : shown ≡ entries) (same : now_files ≡ files) where
  listed_so : AreListed files shown
  listed_so = subst (AreListed files) (sym is) listed

  pub folders_loaded : AreFilesLoaded (IsSingleTaken now_files) shown w older new → AreLoaded (AreSinglesTaken files) w older new
  folders_loaded f =
      let A : Option Files → Type 0 = λ fs. AreFilesLoaded (IsSingleTaken fs) shown w older new in
      let a = subst A same f in
      let l = listed_so in
      record {
        xs = a.xs;
        all = record {
          forked = l.forked;
          one = l.one;
          forked_listed = l.forked_listed;
          one_listed = l.one_listed;
          ordered = record { found = l.found; names_are = l.names_are; all = subst (IsPermutation l.found) a.entries_are l.all; in_order = subst (IsSorted entry_order) a.entries_are l.in_order };
          each = a.each;
        };
        loaded = a.loaded;
      }

  -- each of the files that were listed is an entry
  pub entries_here : All IsEntry shown
  entries_here = let l = listed_so in l.each

  pub folders_refused : (before mid now : ℕ) (refused : LoadFault) → before ≤ mid → EntriesAnswer (IsSingleTaken now_files) (IsBadSingle now_files) now_files shown w older new mid now (Err refused)
      → LoadRefused (IsBadSingleFile files w older) files w before now refused
  folders_refused before mid now refused early answer =
      let A : Option Files → Type 0 = λ fs. EntriesAnswer (IsSingleTaken fs) (IsBadSingle fs) fs shown w older new mid now (Err refused) in
      load_on (IsFirstBad (IsSingleTaken files) (IsBadSingle files) shown w older) (IsBadSingleFile files w older) files w before mid now now refused early (le_refl now)
      (λ name at f. inr (record { entries = shown; listed = listed_so; first = f })) (subst A same answer)

-- a folder whose names were refused
pub unlisted : (files : Option Files) (w : World) (older : List TakenFile) (before now : ℕ) (refused : LoadFault) → LoadRefused (IsUnlisted files) files w before now refused → LoadRefused (IsBadSingleFile files w older) files w before now refused
unlisted files w older before now refused r =
    load_on (IsUnlisted files) (IsBadSingleFile files w older) files w before before now now refused (le_refl before) (le_refl now) (λ name at u. inl u) r
