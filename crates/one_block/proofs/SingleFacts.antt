-- What the first message of a file of one block tells of the file.
use Rattle.std.proofs.Common.{◌≡◌, ◌+◌, ◌||◌, inl, inr, ℕ, Bool, nat_lt, List, [], ◌∷◌, length, Option, Some, None, refl, sym, ap, subst, ◌∙◌}
use Rattle.std.specs.Prelude.{slice_get}
use Rattle.std.specs.Option.{is_some, option_map, unwrap_or}
use Rattle.std.proofs.lemmas.Bool.{or_parts}
use Rattle.block_record.specs.declared.blocks.Block.{Block}
use Rattle.dbin_file.specs.Contents.{contents, told}
use Rattle.one_block.specs.Containers.{container_fault, fault_place, record_place, HasContents}
use Rattle.one_block.specs.declared.containers.FileContents.{FileContents}
use Rattle.one_block.proofs.public.OptionFacts.{some_is, none_of}
use Rattle.one_block.proofs.public.ContainerFacts.{more_than_one, empty_of}
use Rattle.one_block.specs.declared.file_faults.FileFault.{FileFault}
use Rattle.one_block.specs.declared.file_faults.FileFault.TheVariants.{Bad, OtherType, Mem}
use Rattle.one_block.specs.declared.forms.Form.{Form}
use Rattle.one_block.specs.Heads.{HasHead, IsKept, AreRecordsOf}
use Rattle.one_block.specs.Singles.{IsBadAfterHead, IsSingleOf, FormedRefused}
use Rattle.one_block.specs.SingleSteps.{HeadRefused, IsOnly, OnlyRefused}
use Rattle.one_block.proofs.public.HeadFacts.{has_head, bad_head, other_type}

module _ (form : Form) (name text : List ℕ) (kept : Option (List ℕ)) (file : FileContents) (end : ℕ) (has : HasContents text file) (end_is : end ≡ unwrap_or (option_map fault_place file.fault) (told (length text))) where
  pub head_refused : (e : FileFault) → HeadRefused file.block_type kept end e → FormedRefused form name text kept e
  head_refused (Bad at) refused = inl (bad_head text file end at has end_is refused.0 refused.1)
  head_refused (OtherType held offered) refused = other_type text kept file held offered has refused
  head_refused Mem refused = tt

  module _ (block_type : List ℕ) (found : file.block_type ≡ Some block_type) (same : IsKept kept block_type) where
    head : HasHead text kept block_type
    head = has_head text kept file block_type has found same

    -- the file has no message
    pub no_message : slice_get file.messages.items 0 ≡ None → FormedRefused form name text kept (Bad end)
    no_message none = inr (record { block_type = block_type; head = head; body = by_list (contents text).messages refl })
      where
        by_list : (ms : List (List ℕ)) → (contents text).messages ≡ ms → IsBadAfterHead form name text (contents text).messages end
        by_list [] e = subst (λ (l : List (List ℕ)). IsBadAfterHead form name text l end) (sym e) (end_is ∙ ap (λ f. unwrap_or (option_map fault_place f) (told (length text))) has.fault)
        by_list (m ∷ more) e = absurd (let got : slice_get file.messages.items 0 ≡ Some m = ap (λ (l : List (List ℕ)). slice_get l 0) (has.messages ∙ e) in let clash = sym got ∙ none in cc clash)

    module _ (m : List ℕ) (more : List (List ℕ)) (messages : (contents text).messages ≡ m ∷ more) where
      abbrev follows : Bool
      follows = nat_lt 0 (length more) || is_some (container_fault text)

      only_ok : (b : Block) → IsOnly form name m follows b → IsSingleOf form name text kept block_type b
      only_ok b only =
          let ends = or_parts (nat_lt 0 (length more)) (is_some (container_fault text)) only.ends in
          let alone : (contents text).messages ≡ m ∷ [] = messages ∙ ap (λ (l : List (List ℕ)). m ∷ l) (empty_of more ends.0) in
          record {
            holds = record {
              typed = head.typed;
              records = record { records = subst (λ (l : List (List ℕ)). AreRecordsOf l (b ∷ [])) (sym alone) (only.record_is, tt) };
              whole = none_of (container_fault text) ends.1;
            };
            same = same;
            named = only.named;
          }

      only_refused : (e : FileFault) → OnlyRefused form name m (record_place text) follows e → FormedRefused form name text kept e
      only_refused Mem refused = tt
      only_refused (OtherType held offered) refused = absurd refused
      only_refused (Bad at) refused = inr (record { block_type = block_type; head = head; body = subst (λ (l : List (List ℕ)). IsBadAfterHead form name text l at) (sym messages) (by_cause refused) })
        where
          by_cause : OnlyRefused form name m (record_place text) follows (Bad at) → IsBadAfterHead form name text (m ∷ more) at
          by_cause (inl bad) = inl bad
          by_cause (inr (inl misnamed)) = inr (inl misnamed)
          by_cause (inr (inr f)) = inr (inr (record { block = f.block; record_is = f.record_is; named = f.named; follows = f.follows; place = f.at_is }))

    -- the first message of the file, as it was read
    pub record First (first : List ℕ) (place : ℕ) (goes_on : Bool) : Type 0 where
      pub more : List (List ℕ)
      pub messages : (contents text).messages ≡ first ∷ more
      pub place_is : place ≡ record_place text
      pub follows_is : goes_on ≡ (nat_lt 0 (length more) || is_some (container_fault text))

    first_from : (first : List ℕ) (place : ℕ) (goes_on : Bool) → slice_get file.messages.items 0 ≡ Some first → place ≡ 11 + length block_type
        → goes_on ≡ (nat_lt 1 (length file.messages.items) || is_some file.fault) → First first place goes_on
    first_from first place goes_on got place_is is = by_list (contents text).messages refl
      where
        by_list : (ms : List (List ℕ)) → (contents text).messages ≡ ms → First first place goes_on
        by_list [] e = absurd (let none : slice_get file.messages.items 0 ≡ None = ap (λ (l : List (List ℕ)). slice_get l 0) (has.messages ∙ e) in let clash = sym got ∙ none in cc clash)
        by_list (m ∷ more) e =
            let first_is : Some m ≡ Some first = sym (ap (λ (l : List (List ℕ)). slice_get l 0) (has.messages ∙ e)) ∙ got in
            let there : m ≡ first = some_is m first first_is in
            record {
              more = more;
              messages = e ∙ ap (λ (x : List ℕ). x ∷ more) there;
              place_is = place_is ∙ ap (λ (t : Option (List ℕ)). 11 + length (unwrap_or t [])) (sym found ∙ has.block_type);
              follows_is =
                  is ∙ ap (λ (l : List (List ℕ)). nat_lt 1 (length l) || is_some file.fault) (has.messages ∙ e) ∙ ap (λ t. t || is_some file.fault) (more_than_one m more) ∙ ap (λ o. nat_lt 0 (length more) || is_some o) has.fault;
            }

    -- what is answered of the first message is what is answered of the file
    module _ (first : List ℕ) (place : ℕ) (goes_on : Bool) (got : slice_get file.messages.items 0 ≡ Some first) (place_is : place ≡ 11 + length block_type) (is : goes_on ≡ (nat_lt 1 (length file.messages.items) || is_some file.fault)) where
      pub formed_ok : (b : Block) → IsOnly form name first goes_on b → IsSingleOf form name text kept block_type b
      formed_ok b only =
          let f = first_from first place goes_on got place_is is in
          only_ok first f.more f.messages b (subst (λ (t : Bool). IsOnly form name first t b) f.follows_is only)

      pub formed_refused : (e : FileFault) → OnlyRefused form name first place goes_on e → FormedRefused form name text kept e
      formed_refused e refused =
          let f = first_from first place goes_on got place_is is in
          only_refused first f.more f.messages e (rw (← f.place_is, ← f.follows_is) refused)
