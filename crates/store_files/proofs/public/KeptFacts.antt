-- What loading and each change of a file keep.
use Rattle.std.proofs.Common.{arith, ◌≡◌, ◌<◌, ◌⊎◌, inl, inr, ℕ, Bool, true, false, not, List, [], ◌∷◌, ◌++◌, Option, Some, None, Result, Ok, Err, refl, sym, ◌∙◌, ap, subst, IsTrue}
use Rattle.std.specs.Prelude.{codes}
use Rattle.std.specs.Str.{bytes_eq}
use Rattle.std.specs.List.{AllByRecursion}
use Rattle.std.specs.Result.{result_unwrap_or}
use Rattle.std.proofs.lemmas.Bool.{cases_Bool, both_ways}
use Rattle.std.proofs.lemmas.Option.{same_Some}
use Rattle.std.proofs.lemmas.Slice.Eq.{bytes_eq-Decides}
use mathlib.Core.List.{IsPrefix}
use Rattle.block_record.specs.declared.blocks.Block.{Block}
use Rattle.block_record.specs.declared.blocks.Slip.{Slip}
use Rattle.block_record.specs.Records.{IsRecordable}
use Rattle.block_record.specs.Slips.{slip}
use Rattle.block_record.specs.Texts.{IsReaderName}
use Rattle.outer_world.specs.Files.{Files, AreInOrder, names_of, file_at, with_file, without_file, is_in}
use Rattle.outer_world.proofs.public.FileFacts.{file_at-with_other, file_at-without_other}
use Rattle.outer_world.proofs.public.NameOrder.{in_order-with_file, in_order-without_file}
use Rattle.one_block.specs.declared.forms.Folder.TheVariants.{One, Forked}
use Rattle.one_block.specs.declared.forms.Form.TheVariants.{ByReader, ByBlock}
use Rattle.one_block.specs.Files.{IsSize, folder_of_size, whole_text, forked_text}
use Rattle.one_block.specs.Heads.{HoldsBlocks}
use Rattle.one_block.specs.Layout.{HasLayout, layout_file, size_told}
use Rattle.one_block.specs.Names.{one_block_name, own_file}
use Rattle.one_block.specs.Numerals.{padded}
use Rattle.one_block.proofs.public.FolderFacts.{own_lies, forked_lies, own_formed, forked_formed, forked_named, forked_id}
use Rattle.one_block.proofs.public.LayoutFacts.{layout_spelled}
use Rattle.chain_model.specs.Ancestry.{has_id}
use Rattle.relay_model.specs.Worlds.{World}
use Rattle.relay_model.specs.Soundness.{IsSound, IsBlock}
use Rattle.bundle_model.specs.Laws.{IsInBundle}
use Rattle.bundle_model.specs.Members.{Among}
use Rattle.bundle_model.specs.Bundles.{Bundle, bundles_of}
use Rattle.bundle_model.specs.Shedding.{may_sweep}
use Rattle.bundle_model.proofs.public.MemberFacts.{among_all, all_among, map_among, among_filter, filter_among}
use Rattle.bundle_model.proofs.public.RetainedFacts.{id_there}
use Rattle.bundle_model.proofs.public.StoredFacts.{one_of_id}
use Rattle.store_model.specs.Shown.{Single, slips, IsPassed}
use Rattle.store_model.specs.Kept.{IsKeeping}
use Rattle.store_model.specs.Loads.{taken}
use Rattle.store_model.specs.Laws.{IsReloadable}
use Rattle.store_model.specs.Steps.{without_single, without_one}
use Rattle.store_model.proofs.public.TakenFacts.{taken_shown}
use Rattle.store_model.proofs.public.ReloadFacts.{load_keeps}
use Rattle.store_model.proofs.public.StepFacts.{keeps_more, keeps_held, sweep_keeps, removal_keeps}
use Rattle.store_files.specs.Texts.{slips_in}
use Rattle.store_files.specs.Folders.{merged_of, singles_of, in_folder, size_by, size_of, shown_by, shown_of}
use Rattle.store_files.specs.Kept.{IsSingleFile, HasForm, AreFormed, IsWholeKept}
use Rattle.store_files.specs.Laws.{LoadKeepsFiles, IsOther, PutFileKeeps, OwnFileShows, ForkFileKeeps, ForkFileShows, OtherFileKeeps, SweepFileKeeps, RemoveFileKeeps}
use Rattle.store_files.proofs.public.TextFacts.{holds_shows, holds_blocks, holds_recordable, holds_named}
use Rattle.store_files.proofs.public.FolderFacts.{File, ShownBy, slips_has, slips_parts, named_parts, merged_from, of_folder, to_folder, first_byte, apart, among_with, with_has, with_from, folder_with, folder_without, at_among, file_at_among, none_among}

-- the size is 100 or 1,000
told_size : (r : Result ℕ ℕ) → ((n : ℕ) → r ≡ Ok n → IsSize n) → IsSize (result_unwrap_or r 100)
told_size (Ok n) f = f n refl
told_size (Err at) f = inl refl

pub size_is : (files : Files) → IsSize (size_of files)
size_is files = go (file_at layout_file files)
  where
    go : (o : Option (List ℕ)) → IsSize (size_by o)
    go None = inl refl
    go (Some text) = told_size (size_told text) (λ n e. (layout_spelled n text e).0)

pub size_some : (n : ℕ) → IsSize n → 0 < n
size_some n (inl e) = omega (arith, e)
size_some n (inr e) = omega (arith, e)

-- the slips that files of a folder show are those of blocks
form_blocks : (files : Files) → AllByRecursion HasForm files → (name text : List ℕ) → Among files (name, text) → (s : Slip) → Among (slips_in text) s
    → (IsTrue (is_in (codes "one") name) ⊎ IsTrue (is_in (codes "forked") name) ⊎ ((n : ℕ) × IsSize n × IsTrue (is_in (folder_of_size n) name))) → IsBlock s
form_blocks files forms name text h s k (inl one) =
    let f = (among_all HasForm files forms (name, text) h).one one in
    among_all IsBlock (slips_in text) (holds_blocks text f.block_type (f.block ∷ []) f.is_of.holds) s k
form_blocks files forms name text h s k (inr (inl fork)) =
    let f = (among_all HasForm files forms (name, text) h).forked fork in
    among_all IsBlock (slips_in text) (holds_blocks text f.block_type (f.block ∷ []) f.is_of.holds) s k
form_blocks files forms name text h s k (inr (inr m)) =
    let f = (among_all HasForm files forms (name, text) h).merged m.0 m.1 m.2 in
    among_all IsBlock (slips_in text) (holds_blocks text f.block_type f.blocks f.holds) s k

folder_of : (folder : List ℕ) (files : Files) (name : List ℕ) (s : Slip) → (h : ShownBy (in_folder folder files) name s) → Among files (name, h.text) × IsTrue (is_in folder name)
folder_of folder files name s h = of_folder folder files (name, h.text) h.there

taken_blocks : (files : Files) → AllByRecursion HasForm files → AllByRecursion IsBlock (taken (shown_of files))
taken_blocks files forms = all_among IsBlock (taken (shown_of files)) (λ s h. elim (taken_shown (shown_of files) s h) [
  | inl m ↦
      let x = merged_from (size_of files) (in_folder (folder_of_size (size_of files)) files) s m in
      let f = folder_of (folder_of_size (size_of files)) files x.0 s x.1 in
      form_blocks files forms x.0 x.1.text f.0 s x.1.shows (inr (inr (size_of files, size_is files, f.1)))
  | inr single ↦ elim single [
    | inl one ↦
        let x = slips_parts (in_folder (codes "one") files) s one in
        let f = folder_of (codes "one") files x.0 s x.1 in
        form_blocks files forms x.0 x.1.text f.0 s x.1.shows (inl f.1)
    | inr fork ↦
        let x = slips_parts (in_folder (codes "forked") files) s fork in
        let f = folder_of (codes "forked") files x.0 s x.1 in
        form_blocks files forms x.0 x.1.text f.0 s x.1.shows (inr (inl f.1))
  ]
])

pub load_keeps_files : LoadKeepsFiles
load_keeps_files files old empty sound kept clean e first full =
    let is : IsReloadable (shown_of files) old = record { size = size_some (size_of files) (size_is files); sound = sound; blocks = taken_blocks files kept.formed.forms; kept = kept.keeps; clean = clean } in
    let r = load_keeps (shown_of files) old empty is e first full in
    record {
      sound = r.sound;
      sized = r.sized;
      held = r.held;
      finals = r.finals;
      kept = record { formed = kept.formed; keeping = r.kept };
      front = r.front;
      same = r.same;
    }

-- names of `one/` and `forked/` are in no other folder, and tell no layout
record IsApart (name : List ℕ) : Type 0 where
  layout : bytes_eq name layout_file ≡ false
  merged : (n : ℕ) → IsSize n → is_in (folder_of_size n) name ≡ false

one_apart : (rest : List ℕ) → IsApart (whole_text (codes "one") rest)
one_apart rest = record { layout = refl; merged = λ n s. elim s [ inl e ↦ subst (λ (m : ℕ). is_in (folder_of_size m) (whole_text (codes "one") rest) ≡ false) (sym e) refl | inr e ↦ subst (λ (m : ℕ). is_in (folder_of_size m) (whole_text (codes "one") rest) ≡ false) (sym e) refl ] }

forked_apart : (rest : List ℕ) → IsApart (whole_text (codes "forked") rest)
forked_apart rest = record { layout = refl; merged = λ n s. elim s [ inl e ↦ subst (λ (m : ℕ). is_in (folder_of_size m) (whole_text (codes "forked") rest) ≡ false) (sym e) refl | inr e ↦ subst (λ (m : ℕ). is_in (folder_of_size m) (whole_text (codes "forked") rest) ≡ false) (sym e) refl ] }

one_not_forked : (rest : List ℕ) → is_in (codes "forked") (whole_text (codes "one") rest) ≡ false
one_not_forked rest = refl

forked_not_one : (rest : List ℕ) → is_in (codes "one") (whole_text (codes "forked") rest) ≡ false
forked_not_one rest = refl

layout_stays : (name text : List ℕ) (files : Files) → IsApart name → file_at layout_file (with_file name text files) ≡ file_at layout_file files
layout_stays name text files a = file_at-with_other name text layout_file files a.layout

-- so the layout tells what it told
layout_again : (old new : Files) → file_at layout_file new ≡ file_at layout_file old → HasLayout (Some old) (Ok (size_of old)) → HasLayout (Some new) (Ok (size_of new))
layout_again old new stays h = record { text = h.text; there = stays ∙ h.there; told_is = h.told_is ∙ ap (λ (o : Option (List ℕ)). (let r : Result ℕ ℕ = Ok (size_by o) in r)) (sym stays) }

forms_with : (name text : List ℕ) (files : Files) → AllByRecursion HasForm files → HasForm (name, text) → AllByRecursion HasForm (with_file name text files)
forms_with name text files forms own = all_among HasForm (with_file name text files) (λ f h. elim (with_from name text files f h) [ inl e ↦ subst HasForm e own | inr k ↦ among_all HasForm files forms f k ])

-- files with one more, which has its form
pub formed_with : (name text : List ℕ) (old : Files) → file_at layout_file (with_file name text old) ≡ file_at layout_file old → AreFormed old → HasForm (name, text) → AreFormed (with_file name text old)
formed_with name text old stays f own = record {
  ordered = in_order-with_file name text old f.ordered;
  layout = layout_again old (with_file name text old) stays f.layout;
  forms = forms_with name text old f.forms own;
}

-- the merged files stay
merged_stay : (n : ℕ) (name text : List ℕ) (files : Files) → IsSize n → IsApart name → merged_of n (in_folder (folder_of_size n) (with_file name text files)) ≡ merged_of n (in_folder (folder_of_size n) files)
merged_stay n name text files s a = ap (merged_of n) (folder_with (folder_of_size n) name text files (a.merged n s))

-- each file of a folder, but the one of a name, is there after another was put
shown_after : (folder name text : List ℕ) (files : Files) (s : Slip) → ((f : File) → Among (in_folder folder files) f → Among (slips_in f.1) s → bytes_eq f.0 name ≡ true → Among (slips (singles_of (in_folder folder (with_file name text files)))) s)
    → Among (slips (singles_of (in_folder folder files))) s → Among (slips (singles_of (in_folder folder (with_file name text files)))) s
shown_after folder name text files s same h =
    let x = slips_parts (in_folder folder files) s h in
    let f = of_folder folder files (x.0, x.1.text) x.1.there in
    elim (cases_Bool (bytes_eq x.0 name)) [
      | inl e ↦ same (x.0, x.1.text) x.1.there x.1.shows e
      | inr other ↦ slips_has (in_folder folder (with_file name text files)) x.0 s
          (record { text = x.1.text; there = to_folder folder (with_file name text files) (x.0, x.1.text) (among_with name text files (x.0, x.1.text) f.0 other) f.1; shows = x.1.shows })
    ]

pub false_true : (b : Bool) → b ≡ false → IsTrue b → ⊥
false_true b e h = both_ways _ e h

one_form : (rest text : List ℕ) → IsSingleFile One (whole_text (codes "one") rest) text → HasForm (whole_text (codes "one") rest, text)
one_form rest text f = record {
  one = λ h. f;
  forked = λ h. absurd (false_true _ (one_not_forked rest) h);
  merged = λ n s h. absurd (false_true _ ((one_apart rest).merged n s) h);
}

forked_form : (rest text : List ℕ) → IsSingleFile Forked (whole_text (codes "forked") rest) text → HasForm (whole_text (codes "forked") rest, text)
forked_form rest text f = record {
  one = λ h. absurd (false_true _ (forked_not_one rest) h);
  forked = λ h. f;
  merged = λ n s h. absurd (false_true _ ((forked_apart rest).merged n s) h);
}

-- a world that a changed shelf keeps, where the size is the same
pub resized : (old new : Files) (w : World) → file_at layout_file new ≡ file_at layout_file old → IsKeeping (shown_by (size_of old) new) w → IsKeeping (shown_of new) w
resized old new w e k = subst (λ (n : ℕ). IsKeeping (shown_by n new) w) (sym (ap size_by e)) k

put_one : (old : Files) (w : World) (rest text : List ℕ) → IsWholeKept old w → IsSingleFile One (whole_text (codes "one") rest) text → file_at (whole_text (codes "one") rest) old ≡ None
    → IsWholeKept (with_file (whole_text (codes "one") rest) text old) w
put_one old w rest text k f none = record {
  formed = formed_with name text old stays k.formed (one_form rest text f);
  keeping = resized old new w stays (keeps_more (shown_of old) (shown_by (size_of old) new) w k.keeping (record {
    bundles = subst (λ (l : List Bundle). IsPrefix l (bundles_of (size_of old) w.history)) (sym merged) k.keeping.keeps.bundles;
    merged = λ s h. subst (λ (l : List Bundle). IsInBundle (size_of old) l s) (sym merged) h;
    single = λ s h. elim h [ inl one ↦ inl (ones s one) | inr fork ↦ inr (forks s fork) ];
    forked = forks;
    passed = subst (λ (fs : Files). AllByRecursion (IsPassed w.history) (slips (singles_of fs))) (sym forked) k.keeping.keeps.forked;
  }));
}
  where
    name : List ℕ
    name = whole_text (codes "one") rest

    new : Files
    new = with_file name text old

    stays : file_at layout_file new ≡ file_at layout_file old
    stays = layout_stays name text old (one_apart rest)

    merged : merged_of (size_of old) (in_folder (folder_of_size (size_of old)) new) ≡ merged_of (size_of old) (in_folder (folder_of_size (size_of old)) old)
    merged = merged_stay (size_of old) name text old (size_is old) (one_apart rest)

    forked : in_folder (codes "forked") new ≡ in_folder (codes "forked") old
    forked = folder_with (codes "forked") name text old (one_not_forked rest)

    forks : (s : Slip) → Among (slips (singles_of (in_folder (codes "forked") old))) s → Among (slips (singles_of (in_folder (codes "forked") new))) s
    forks s h = subst (λ (fs : Files). Among (slips (singles_of fs)) s) (sym forked) h

    ones : (s : Slip) → Among (slips (singles_of (in_folder (codes "one") old))) s → Among (slips (singles_of (in_folder (codes "one") new))) s
    ones s h = shown_after (codes "one") name text old s (λ g there shows same. absurd (both_ways _ (none_among old name none g (of_folder (codes "one") old g there).0) same)) h

pub same_files : (old new : Files) (w : World) → new ≡ old → IsWholeKept old w → IsWholeKept new w
same_files old new w e k = subst (λ (fs : Files). IsWholeKept fs w) (sym e) k

-- the file of a single block has the form of its folder
own_file_is : (block : Block) (by block_type text : List ℕ) → IsReaderName by → HoldsBlocks text block_type (block ∷ []) → IsSingleFile One (own_file (slip block) by) text
own_file_is block by block_type text reader holds = record {
  form = ByReader by;
  formed = own_formed (slip block) by (holds_named text block_type block by reader holds);
  block_type = block_type;
  block = block;
  is_of = record { holds = holds; same = tt; named = refl };
}

fork_file_is : (block : Block) (block_type text : List ℕ) → HoldsBlocks text block_type (block ∷ []) → IsSingleFile Forked (forked_text block.num block.id) text
fork_file_is block block_type text holds =
    let r = (holds_recordable text block_type (block ∷ []) holds).0 in
    record { form = ByBlock; formed = forked_formed block.num block.id r.num r.id; block_type = block_type; block = block; is_of = record { holds = holds; same = tt; named = refl } }

pub put_file_keeps : PutFileKeeps
put_file_keeps old new w block by block_type text k reader holds none (inl e) = same_files old new w e k
put_file_keeps old new w block by block_type text k reader holds none (inr e) =
    same_files _ new w e (put_one old w (one_block_name (slip block) by) text k (own_file_is block by block_type text reader holds) none)

-- a file of a folder that holds one block shows it
single_shows : (folder : List ℕ) (files : Files) (name block_type text : List ℕ) (block : Block) → is_in folder name ≡ true → HoldsBlocks text block_type (block ∷ [])
    → file_at name files ≡ Some text → Among (slips (singles_of (in_folder folder files))) (slip block)
single_shows folder files name block_type text block inside holds there =
    let shows : Among (slips_in text) (slip block) = subst (λ (l : List Slip). Among l (slip block)) (sym (holds_shows text block_type (block ∷ []) holds)) (inl refl) in
    slips_has (in_folder folder files) name (slip block) (record { text = text; there = to_folder folder files (name, text) (at_among files name text there) inside; shows = shows })

pub own_file_shows : OwnFileShows
own_file_shows files block by block_type text reader holds there =
    single_shows (codes "one") files (own_file (slip block) by) block_type text block (own_lies (slip block) by (holds_named text block_type block by reader holds)) holds there

put_fork : (old : Files) (w : World) (block : Block) (block_type text : List ℕ) → IsSound w → IsWholeKept old w → HoldsBlocks text block_type (block ∷ [])
    → Among w.history (slip block) → IsPassed w.history (slip block) → IsWholeKept (with_file (forked_text block.num block.id) text old) w
put_fork old w block block_type text sound k has there passed = record {
  formed = formed_with name text old stays k.formed (forked_form rest text (fork_file_is block block_type text has));
  keeping = resized old new w stays (keeps_held (shown_of old) (shown_by (size_of old) new) w k.keeping (record {
    bundles = subst (λ (l : List Bundle). IsPrefix l (bundles_of (size_of old) w.history)) (sym merged) k.keeping.keeps.bundles;
    merged = λ s h. subst (λ (l : List Bundle). IsInBundle (size_of old) l s) (sym merged) h;
    single = λ s held h. elim h [ inl one ↦ inl (ones s one) | inr fork ↦ inr (forks s held fork) ];
    forked = λ s held h. forks s (inl held) h;
    passed = all_among (IsPassed w.history) (slips (singles_of (in_folder (codes "forked") new))) passes;
  }));
}
  where
    x : Slip
    x = slip block

    shows : slips_in text ≡ x ∷ []
    shows = holds_shows text block_type (block ∷ []) has

    rest : List ℕ
    rest = padded 10 block.num ++ 45 ∷ block.id

    name : List ℕ
    name = forked_text block.num block.id

    recordable : IsRecordable block
    recordable = (holds_recordable text block_type (block ∷ []) has).0

    new : Files
    new = with_file name text old

    stays : file_at layout_file new ≡ file_at layout_file old
    stays = layout_stays name text old (forked_apart rest)

    merged : merged_of (size_of old) (in_folder (folder_of_size (size_of old)) new) ≡ merged_of (size_of old) (in_folder (folder_of_size (size_of old)) old)
    merged = merged_stay (size_of old) name text old (size_is old) (forked_apart rest)

    ones : (s : Slip) → Among (slips (singles_of (in_folder (codes "one") old))) s → Among (slips (singles_of (in_folder (codes "one") new))) s
    ones s h = subst (λ (fs : Files). Among (slips (singles_of fs)) s) (sym (folder_with (codes "one") name text old (forked_not_one rest))) h

    only : (s : Slip) (held : List ℕ) (y : Slip) → slips_in held ≡ y ∷ [] → Among (slips_in held) s → y ≡ s
    only s held y e h = elim (subst (λ (l : List Slip). Among l s) e h) [ inl same ↦ same | inr none ↦ absurd none ]

    -- a held block with the id of x is x
    held_is : (s : Slip) → Among w.history s ⊎ Among w.waiting s → s.id ≡ x.id → x ≡ s
    held_is s (inl h) e = one_of_id w.history sound.history x s there h (sym e)
    held_is s (inr h) e =
        absurd (both_ways _ (among_all (λ y. has_id w.history y.id ≡ false) w.waiting sound.apart s h)
        (subst (λ (i : List ℕ). has_id w.history i ≡ true) (sym e) (id_there w.history x there)))

    -- a file that was there under this name held a block of this id
    held_id : (g : File) → Among old g → is_in (codes "forked") g.0 ≡ true → g.0 ≡ name → (s : Slip) → Among (slips_in g.1) s → s.id ≡ x.id
    held_id g at inside same s shown =
        let f = (among_all HasForm old k.formed.forms g at).forked inside in
        let one : slip f.block ≡ s = only s g.1 (slip f.block) (holds_shows g.1 f.block_type (f.block ∷ []) f.is_of.holds) shown in
        let r = (holds_recordable g.1 f.block_type (f.block ∷ []) f.is_of.holds).0 in
        let id : f.block.id ≡ block.id = forked_id f.block.num block.num f.block.id block.id r.num recordable.num (sym (forked_named f.form g.0 (slip f.block) f.formed f.is_of.named) ∙ same) in
        ap (λ (y : Slip). y.id) (sym one) ∙ id

    again : (s : Slip) → Among w.history s ⊎ Among w.waiting s → (g : File) → Among (in_folder (codes "forked") old) g → Among (slips_in g.1) s → bytes_eq g.0 name ≡ true
        → Among (slips (singles_of (in_folder (codes "forked") new))) s
    again s held g among shown same =
        let p = of_folder (codes "forked") old g among in
        let one : g.0 ≡ name = (bytes_eq-Decides g.0 name).0 same in
        let is : x ≡ s = held_is s held (held_id g p.0 p.1 one s shown) in
        let inside : is_in (codes "forked") name ≡ true = subst (λ (n : List ℕ). is_in (codes "forked") n ≡ true) one p.1 in
        let own : Among (slips_in text) s = subst (λ (l : List Slip). Among l s) (sym shows) (inl is) in
        slips_has (in_folder (codes "forked") new) name s (record { text = text; there = to_folder (codes "forked") new (name, text) (with_has name text old) inside; shows = own })

    forks : (s : Slip) → Among w.history s ⊎ Among w.waiting s → Among (slips (singles_of (in_folder (codes "forked") old))) s → Among (slips (singles_of (in_folder (codes "forked") new))) s
    forks s held h = shown_after (codes "forked") name text old s (again s held) h

    passes : (s : Slip) → Among (slips (singles_of (in_folder (codes "forked") new))) s → IsPassed w.history s
    passes s h =
        let y = slips_parts (in_folder (codes "forked") new) s h in
        let p = of_folder (codes "forked") new (y.0, y.1.text) y.1.there in
        elim (with_from name text old (y.0, y.1.text) p.0) [
          | inl e ↦
              let t : text ≡ y.1.text = ap (λ (g : File). g.1) e in
              let is : x ≡ s = only s text x shows (subst (λ (l : List ℕ). Among (slips_in l) s) (sym t) y.1.shows) in
              subst (IsPassed w.history) is passed
          | inr older ↦
              among_all (IsPassed w.history) (slips (singles_of (in_folder (codes "forked") old))) k.keeping.keeps.forked s
              (slips_has (in_folder (codes "forked") old) y.0 s (record { text = y.1.text; there = to_folder (codes "forked") old (y.0, y.1.text) older p.1; shows = y.1.shows }))
        ]

pub fork_file_keeps : ForkFileKeeps
fork_file_keeps old new w block block_type text sound k holds there passed (inl e) = same_files old new w e k
fork_file_keeps old new w block block_type text sound k holds there passed (inr e) = same_files _ new w e (put_fork old w block block_type text sound k holds there passed)

pub fork_file_shows : ForkFileShows
fork_file_shows files block block_type text holds there =
    let r = (holds_recordable text block_type (block ∷ []) holds).0 in
    single_shows (codes "forked") files (forked_text block.num block.id) block_type text block (forked_lies block.num block.id r.num r.id) holds there

-- a file of another folder
put_other : (old : Files) (w : World) (name text : List ℕ) → IsWholeKept old w → IsOther name → IsWholeKept (with_file name text old) w
put_other old w name text k o = record {
  formed = formed_with name text old stays k.formed (record {
    one = λ h. absurd (false_true _ o.one h);
    forked = λ h. absurd (false_true _ o.forked h);
    merged = λ n s h. absurd (false_true _ (o.merged n s) h);
  });
  keeping = resized old (with_file name text old) w stays (keeps_more (shown_of old) (shown_by (size_of old) (with_file name text old)) w k.keeping (record {
    bundles = subst (λ (l : List Bundle). IsPrefix l (bundles_of (size_of old) w.history)) (sym merged) k.keeping.keeps.bundles;
    merged = λ s h. subst (λ (l : List Bundle). IsInBundle (size_of old) l s) (sym merged) h;
    single = λ s h. elim h [
      | inl one ↦ inl (subst (λ (fs : Files). Among (slips (singles_of fs)) s) (sym (folder_with (codes "one") name text old o.one)) one)
      | inr fork ↦ inr (subst (λ (fs : Files). Among (slips (singles_of fs)) s) (sym forked) fork)
    ];
    forked = λ s h. subst (λ (fs : Files). Among (slips (singles_of fs)) s) (sym forked) h;
    passed = subst (λ (fs : Files). AllByRecursion (IsPassed w.history) (slips (singles_of fs))) (sym forked) k.keeping.keeps.forked;
  }));
}
  where
    stays : file_at layout_file (with_file name text old) ≡ file_at layout_file old
    stays = file_at-with_other name text layout_file old o.layout

    merged : merged_of (size_of old) (in_folder (folder_of_size (size_of old)) (with_file name text old)) ≡ merged_of (size_of old) (in_folder (folder_of_size (size_of old)) old)
    merged = ap (merged_of (size_of old)) (folder_with (folder_of_size (size_of old)) name text old (o.merged (size_of old) (size_is old)))

    forked : in_folder (codes "forked") (with_file name text old) ≡ in_folder (codes "forked") old
    forked = folder_with (codes "forked") name text old o.forked

pub other_file_keeps : OtherFileKeeps
other_file_keeps old new w name text k o (inl e) = same_files old new w e k
other_file_keeps old new w name text k o (inr e) = same_files _ new w e (put_other old w name text k o)

-- a file of `one/` is removed
remove_one : (old : Files) (w : World) (name : List ℕ) → IsWholeKept old w → is_in (codes "one") name ≡ true → IsKeeping (without_one name (shown_of old)) w → IsWholeKept (without_file name old) w
remove_one old w name k inside swept = record {
  formed = record {
    ordered = in_order-without_file name old k.formed.ordered;
    layout = layout_again old new stays k.formed.layout;
    forms = all_among HasForm new (λ f h. among_all HasForm old k.formed.forms f (filter_among (λ (file : File). not (bytes_eq file.0 name)) old f h).0);
  };
  keeping = resized old new w stays (keeps_more (without_one name (shown_of old)) (shown_by (size_of old) new) w swept (record {
    bundles = subst (λ (l : List Bundle). IsPrefix l (bundles_of (size_of old) w.history)) (sym merged) swept.keeps.bundles;
    merged = λ s h. subst (λ (l : List Bundle). IsInBundle (size_of old) l s) (sym merged) h;
    single = λ s h. elim h [ inl one ↦ inl (ones s one) | inr fork ↦ inr (forks s fork) ];
    forked = forks;
    passed = subst (λ (fs : Files). AllByRecursion (IsPassed w.history) (slips (singles_of fs))) (sym forked) swept.keeps.forked;
  }));
}
  where
    new : Files
    new = without_file name old

    start : (rest : List ℕ) × (name ≡ 111 ∷ rest)
    start = first_byte 111 (110 ∷ 101 ∷ []) name inside

    stays : file_at layout_file new ≡ file_at layout_file old
    stays = file_at-without_other name layout_file old (subst (λ (n : List ℕ). bytes_eq n layout_file ≡ false) (sym start.1) refl)

    out : (n : ℕ) → IsSize n → is_in (folder_of_size n) name ≡ false
    out n (inl e) = subst (λ (m : ℕ). is_in (folder_of_size m) name ≡ false) (sym e) (apart 111 109 (110 ∷ 101 ∷ []) (101 ∷ 114 ∷ 103 ∷ 101 ∷ 100 ∷ []) name (λ h. omega (arith, h)) inside)
    out n (inr e) = subst (λ (m : ℕ). is_in (folder_of_size m) name ≡ false) (sym e) (apart 111 109 (110 ∷ 101 ∷ []) (101 ∷ 114 ∷ 103 ∷ 101 ∷ 100 ∷ 49 ∷ 48 ∷ 48 ∷ 48 ∷ []) name (λ h. omega (arith, h)) inside)

    merged : merged_of (size_of old) (in_folder (folder_of_size (size_of old)) new) ≡ merged_of (size_of old) (in_folder (folder_of_size (size_of old)) old)
    merged = ap (merged_of (size_of old)) (folder_without (folder_of_size (size_of old)) name old (out (size_of old) (size_is old)))

    forked : in_folder (codes "forked") new ≡ in_folder (codes "forked") old
    forked = folder_without (codes "forked") name old (apart 111 102 (110 ∷ 101 ∷ []) (111 ∷ 114 ∷ 107 ∷ 101 ∷ 100 ∷ []) name (λ h. omega (arith, h)) inside)

    forks : (s : Slip) → Among (slips (singles_of (in_folder (codes "forked") old))) s → Among (slips (singles_of (in_folder (codes "forked") new))) s
    forks s h = subst (λ (fs : Files). Among (slips (singles_of fs)) s) (sym forked) h

    ones : (s : Slip) → Among (slips (without_single name (singles_of (in_folder (codes "one") old)))) s → Among (slips (singles_of (in_folder (codes "one") new))) s
    ones s h =
        let z = map_among (λ (file : Single). file.slip) (without_single name (singles_of (in_folder (codes "one") old))) s h in
        let f = filter_among (λ (file : Single). not (bytes_eq file.name name)) (singles_of (in_folder (codes "one") old)) z.0 z.1 in
        let y = named_parts (in_folder (codes "one") old) z.0 f.0 in
        let p = of_folder (codes "one") old (z.0.name, y.text) y.there in
        let kept = among_filter (λ (file : File). not (bytes_eq file.0 name)) old (z.0.name, y.text) p.0 f.1 in
        subst (Among (slips (singles_of (in_folder (codes "one") new)))) z.2
        (slips_has (in_folder (codes "one") new) z.0.name z.0.slip (record { text = y.text; there = to_folder (codes "one") new (z.0.name, y.text) kept p.1; shows = y.shows }))

-- each file of this name has this block
of_name : (old : Files) (folder name block_type text : List ℕ) (block : Block) → AreInOrder (names_of old) → file_at name old ≡ Some text → HoldsBlocks text block_type (block ∷ [])
    → (z : Single) → Among (singles_of (in_folder folder old)) z → bytes_eq z.name name ≡ true → slip block ≡ z.slip
of_name old folder name block_type text block ordered there holds z h same =
    let y = named_parts (in_folder folder old) z h in
    let p = of_folder folder old (z.name, y.text) y.there in
    let one : z.name ≡ name = (bytes_eq-Decides z.name name).0 same in
    let at : file_at name old ≡ Some y.text = subst (λ (n : List ℕ). file_at n old ≡ Some y.text) one (file_at_among old (z.name, y.text) ordered p.0) in
    let texts : text ≡ y.text = same_Some text y.text (sym there ∙ at) in
    let own : Among (slip block ∷ []) z.slip = subst (λ (l : List Slip). Among l z.slip) (ap slips_in (sym texts) ∙ holds_shows text block_type (block ∷ []) holds) y.shows in
    elim own [ inl e ↦ e | inr none ↦ absurd none ]

pub sweep_file_keeps : SweepFileKeeps
sweep_file_keeps old new w name block_type text block sound k inside there holds may (inl e) = same_files old new w e k
sweep_file_keeps old new w name block_type text block sound k inside there holds may (inr e) =
    same_files _ new w e (remove_one old w name k inside (sweep_keeps (shown_of old) w name sound (all_among _ (shown_of old).one each) k.keeping))
  where
    each : (z : Single) → Among (shown_of old).one z → bytes_eq z.name name ≡ true → may_sweep w z.slip.num z.slip.id ≡ true
    each z h same = subst (λ (s : Slip). may_sweep w s.num s.id ≡ true) (of_name old (codes "one") name block_type text block k.formed.ordered there holds z h same) may

pub remove_file_keeps : RemoveFileKeeps
remove_file_keeps old new w name block_type text block k inside there holds apart' (inl e) = same_files old new w e k
remove_file_keeps old new w name block_type text block k inside there holds apart' (inr e) =
    same_files _ new w e (remove_one old w name k inside (removal_keeps (shown_of old) w name (all_among _ (shown_of old).one each) k.keeping))
  where
    each : (z : Single) → Among (shown_of old).one z → bytes_eq z.name name ≡ true → (Among w.history z.slip → ⊥) × (Among w.waiting z.slip → ⊥)
    each z h same =
        let is : z.slip ≡ slip block = sym (of_name old (codes "one") name block_type text block k.formed.ordered there holds z h same) in
        ((λ at. apart' (inl (subst (Among w.history) is at))), (λ at. apart' (inr (subst (Among w.waiting) is at))))

-- `refused/` is another folder
pub refused_other : (rest : List ℕ) → IsOther (whole_text (codes "refused") rest)
refused_other rest = record { one = refl; forked = refl; merged = out; layout = refl }
  where
    out : (n : ℕ) → IsSize n → is_in (folder_of_size n) (whole_text (codes "refused") rest) ≡ false
    out n (inl e) = subst (λ (m : ℕ). is_in (folder_of_size m) (whole_text (codes "refused") rest) ≡ false) (sym e) refl
    out n (inr e) = subst (λ (m : ℕ). is_in (folder_of_size m) (whole_text (codes "refused") rest) ≡ false) (sym e) refl
