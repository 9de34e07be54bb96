-- What the answer to one block leaves.
use Rattle.std.proofs.Common.{◌≡◌, ℕ, false, inl, inr, ◌⊎◌, List, ◌++◌, Option, refl, sym, ◌∙◌, ap, subst}
use Rattle.std.proofs.lemmas.Bool.{false≢true}
use Rattle.std.proofs.lemmas.List.{append-nil}
use Rattle.std.specs.Prelude.{Result, Ok, Err, is_err}
use Rattle.block_record.specs.declared.blocks.Block.{Block}
use Rattle.block_record.specs.declared.blocks.Kind.{Kind}
use Rattle.block_record.specs.declared.blocks.Slip.{Slip}
use Rattle.block_record.specs.Slips.{slip}
use Rattle.block_intake.specs.Answers.{IsAnswer, is_mem}
use Rattle.block_intake.specs.declared.answers.Offered.{Offered}
use Rattle.block_intake.specs.declared.answers.Offered.TheVariants as answer
use Rattle.block_intake.specs.declared.answers.OfferFault.{OfferFault}
use Rattle.block_intake.specs.declared.answers.OfferFault.TheVariants as fault
use Rattle.block_reader.specs.declared.faults.TakeFault.{TakeFault}
use Rattle.block_reader.specs.declared.faults.TakeFault.TheVariants.{Offer, Store}
use Rattle.block_reader.specs.Changes.{Shelved}
use Rattle.block_reader.specs.Takes.{IfAnswered, IfStore, IsOffered, IsRefused}
use Rattle.block_relay.specs.Chronicle.{Told, world_told}
use Rattle.one_block.specs.declared.faults.StoreFault.{StoreFault}
use Rattle.one_block.specs.declared.faults.StoreFault.TheVariants as store
use Rattle.one_block.specs.Puts.{IsClash}
use Rattle.one_block.specs.StoreFaults.{fault_of}
use Rattle.outer_world.specs.Files.{Files}
use Rattle.outer_world.specs.declared.shelves.ShelfFail.{ShelfFail}
use Rattle.outer_world.specs.declared.shelves.ShelfFail.TheVariants as fail
use Rattle.relay_model.specs.Offers.{Answer, offered}
use Rattle.replay_text.specs.Laws.{AnswersAreTold}
use Rattle.replay_text.specs.Lines.{offer_lines, taken_lines}
use Rattle.node_feed.specs.Feeding.{told_after, is_refused, refuses, slip_lines, ends_reader}
use Rattle.node_feed.specs.Growing.{IsGrown}
use Rattle.node_feed.specs.Outcomes.{Outside, IsSlipFed, IsSlipStopped, SlipAnswers, IsNoClash}
use Rattle.node_feed.proofs.GrowFacts.{grown_same, offer_grown, offer_told, offer_or}

-- an offer that was answered refuses the block where the rules say so
refused_by : (said : Answer) (a : Result Offered OfferFault) → IsAnswer said a → is_mem a ≡ false → refuses said ≡ is_err a
refused_by said (Ok (answer.Admitted from count dropped)) is some = ap refuses is
refused_by said (Ok answer.Duplicate) is some = ap refuses is
refused_by said (Ok answer.Waiting) is some = ap refuses is
refused_by said (Ok answer.Early) is some = ap refuses is
refused_by said (Ok answer.Stale) is some = ap refuses is
refused_by said (Err (fault.Closed len)) is some = ap refuses is
refused_by said (Err (fault.Conflict c)) is some = ap refuses is
refused_by said (Err (fault.HistoryFull len need)) is some = ap refuses is
refused_by said (Err (fault.WaitFull blocks bytes)) is some = ap refuses is
refused_by said (Err fault.Mem) is some = absurd (false≢true (sym some))

is_refused_by : (t : Told) (s : Slip) (a : Result Offered OfferFault) → IsAnswer (offered (world_told t) s).answer a → is_mem a ≡ false → is_err a ≡ is_refused t s
unfolding is_refused
is_refused_by t s a is some = sym (refused_by (offered (world_told t) s).answer a is some)

lines_by : (law : AnswersAreTold) (name : List ℕ) (t : Told) (s : Slip) (a : Result Offered OfferFault) → IsAnswer (offered (world_told t) s).answer a → is_mem a ≡ false → offer_lines name s.num s.id a ≡ slip_lines name t s
unfolding slip_lines
lines_by law name t s a is some = law name s.num s.id (offered (world_told t) s).answer a is some

-- a clash where no file changed
clash_now : (s : Slip) (by : List ℕ) (old new : Option Files) (held other : Slip) → IsClash s by old new held other → IsClash s by new new held other
clash_now s by old new held other c =
    let P : Option Files → Type 0 = λ f. IsClash s by f f held other in
    subst P (sym c.kept) (record { held_text = c.held_text; held_as = c.held_as; offered_is = c.offered_is; other = c.other; kept = refl })

-- what a shelf's own refusal is not
not_missing : (f : ShelfFail) (name : List ℕ) → store.Missing name ≡ fault_of f → ⊥
not_missing fail.Failed name e = cc e
not_missing fail.Mem name e = cc e

not_other : (f : ShelfFail) (kept read : Slip) → store.StoredOther kept read ≡ fault_of f → ⊥
not_other fail.Failed kept read e = cc e
not_other fail.Mem kept read e = cc e

not_clash : (f : ShelfFail) (held other : Slip) → store.NameClash held other ≡ fault_of f → ⊥
not_clash fail.Failed held other e = cc e
not_clash fail.Mem held other e = cc e

module _ (law : AnswersAreTold) (name : List ℕ) (k : Kind) (block : Block) (o n : Outside) where
  abbrev s : Slip
  s = slip block

  -- an offer was answered
  fed : (a : Result Offered OfferFault) → IsOffered o.told n.told s a → is_mem a ≡ false → n.text ≡ o.text ++ offer_lines name s.num s.id a → IsSlipFed name s o n (is_err a)
  fed a is some text = record {
    told = offer_told o.told n.told s a is some;
    text = text ∙ ap (λ l. o.text ++ l) (lines_by law name o.told s a is.said some);
    over_is = is_refused_by o.told s a is.said some;
  }

  stopped_by : (f : StoreFault) → IsNoClash f → IsRefused o.told n.told k block name o.files n.files o.faults n.faults f → n.text ≡ o.text → IsSlipStopped name k s o n f
  stopped_by f apart r text = record { no_clash = apart; why = inl (record { block = block; slip_is = refl; refused = r; text = text }) }

  mem_stopped : (n.told ≡ o.told) ⊎ (n.told ≡ told_after o.told s) → n.text ≡ o.text → IsSlipStopped name k s o n store.Mem
  mem_stopped t text = record { no_clash = tt; why = inr (record { mem = refl; told = t; text = text }) }

  pub answered : (a : Result Offered TakeFault) → IfAnswered a (IsOffered o.told n.told s) → IfStore a (IsRefused o.told n.told k block name o.files n.files o.faults n.faults)
      → n.text ≡ o.text ++ taken_lines name s.num s.id a → SlipAnswers name k s o n (ends_reader a)
  answered (Ok x) is st text = inl (fed (Ok x) is (some_ok x) text)
    where
      some_ok : (x : Offered) → is_mem (Ok x) ≡ false
      some_ok (answer.Admitted from count dropped) = refl
      some_ok answer.Duplicate = refl
      some_ok answer.Waiting = refl
      some_ok answer.Early = refl
      some_ok answer.Stale = refl
  answered (Err (Offer (fault.Closed len))) is st text = inl (fed (Err (fault.Closed len)) is refl text)
  answered (Err (Offer (fault.Conflict c))) is st text = inl (fed (Err (fault.Conflict c)) is refl text)
  answered (Err (Offer (fault.HistoryFull len need))) is st text = inl (fed (Err (fault.HistoryFull len need)) is refl text)
  answered (Err (Offer (fault.WaitFull blocks bytes))) is st text = inl (fed (Err (fault.WaitFull blocks bytes)) is refl text)
  answered (Err (Offer fault.Mem)) is st text = mem_stopped (inl (is.unchanged refl)) (text ∙ append-nil o.text)
  answered (Err (Store store.ShelfFault)) is st text = stopped_by store.ShelfFault tt st (text ∙ append-nil o.text)
  answered (Err (Store (store.ShelfBad file at))) is st text = stopped_by (store.ShelfBad file at) tt st (text ∙ append-nil o.text)
  answered (Err (Store (store.Missing file))) is st text = elim st [ inl u ↦ absurd u.files | inr c ↦ absurd (not_missing c.fail file c.fault_is) ]
  answered (Err (Store (store.StoredOther kept read))) is st text = elim st [ inl u ↦ absurd u.files | inr c ↦ absurd (not_other c.fail kept read c.fault_is) ]
  answered (Err (Store (store.NameClash held other))) is st text = elim st [
    | inl u ↦ inr (
      record {
        told = u.relay;
        held = held;
        other = other;
        clash = clash_now s name o.files.files n.files.files held other u.files;
        text = text;
      },
      refl,
    )
    | inr c ↦ absurd (not_clash c.fail held other c.fault_is)
  ]
  answered (Err (Store store.Mem)) is st text = stopped_by store.Mem tt st (text ∙ append-nil o.text)

-- a block was taken or not
taken_or : (k : Kind) (block : Block) (name : List ℕ) (was is : Told) (old new : Shelved) (before now : ℕ) (a : Result Offered TakeFault)
    → IfAnswered a (IsOffered was is (slip block)) → IfStore a (IsRefused was is k block name old new before now) → (is ≡ was) ⊎ (is ≡ told_after was (slip block))
taken_or k block name was is old new before now (Ok x) o st = offer_or was is (slip block) (Ok x) o
taken_or k block name was is old new before now (Err (Offer f)) o st = offer_or was is (slip block) (Err f) o
taken_or k block name was is old new before now (Err (Store f)) o st = elim st [ inl u ↦ inl u.relay | inr c ↦ offer_or was is (slip block) c.answer c.is_offered ]

-- there was no memory for its lines
pub untold : (name : List ℕ) (k : Kind) (block : Block) (o n : Outside) (a : Result Offered TakeFault)
    → IfAnswered a (IsOffered o.told n.told (slip block)) → IfStore a (IsRefused o.told n.told k block name o.files n.files o.faults n.faults) → n.text ≡ o.text
    → IsSlipStopped name k (slip block) o n store.Mem
untold name k block o n a is st text =
    record { no_clash = tt; why = inr (record { mem = refl; told = taken_or k block name o.told n.told o.files n.files o.faults n.faults a is st; text = text }) }

pub taken_grown : (k : Kind) (block : Block) (name : List ℕ) (was is : Told) (old new : Shelved) (before now : ℕ) (a : Result Offered TakeFault)
    → IfAnswered a (IsOffered was is (slip block)) → IfStore a (IsRefused was is k block name old new before now) → IsGrown was is
taken_grown k block name was is old new before now (Ok x) o st = offer_grown was is (slip block) (Ok x) o
taken_grown k block name was is old new before now (Err (Offer f)) o st = offer_grown was is (slip block) (Err f) o
taken_grown k block name was is old new before now (Err (Store f)) o st = elim st [ inl u ↦ subst (IsGrown was) (sym u.relay) (grown_same was) | inr c ↦ offer_grown was is (slip block) c.answer c.is_offered ]
