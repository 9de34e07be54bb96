-- A block that is passed over or refused for a conflict is held nowhere, and nothing that is held changes.
use Rattle.std.proofs.Common.{◌≡◌, ◌⊎◌, Bool, true, false, refl, subst}
use Rattle.std.specs.Prelude.{⊤}
use Rattle.block_record.specs.declared.blocks.Slip.{Slip}
use Rattle.relay_model.specs.Worlds.{World}
use Rattle.relay_model.specs.Soundness.{IsSound}
use Rattle.relay_model.specs.Verdicts.{Verdict}
use Rattle.relay_model.specs.Verdicts as verdict
use Rattle.relay_model.specs.Offers.{Answer, Closed, Duplicate, Conflict, Early, Stale, WaitFull, Waiting, HistoryFull, Admitted, answer_by, world_by, judge, offered}
use Rattle.bundle_model.specs.Members.{Among}
use Rattle.store_model.proofs.public.HeldFacts.{held_is_duplicate}

-- the answers after which the block's file goes
abbrev pub IsPast : Answer → Type 0
IsPast (Closed len) = ⊥
IsPast Duplicate = ⊥
IsPast (Conflict c) = ⊤
IsPast Early = ⊤
IsPast Stale = ⊤
IsPast (WaitFull blocks bytes) = ⊥
IsPast Waiting = ⊥
IsPast (HistoryFull len need) = ⊥
IsPast (Admitted from count dropped) = ⊥

-- the block is held nowhere
abbrev pub IsApart : World → Slip → Type 0
IsApart w s = Among w.history s ⊎ Among w.waiting s → ⊥

apart_by : (w : World) (s : Slip) (v : Verdict) → IsPast (answer_by w s v) → (Among w.history s ⊎ Among w.waiting s → v ≡ verdict.Duplicate) → IsApart (world_by w s v) s
apart_by w s verdict.Closed past dup = absurd past
apart_by w s verdict.Duplicate past dup = absurd past
apart_by w s (verdict.Conflict c) past dup = λ h. cc (dup h)
apart_by w s verdict.Early past dup = λ h. cc (dup h)
apart_by w s verdict.Stale past dup = λ h. cc (dup h)
apart_by w s verdict.WaitFull past dup = absurd past
apart_by w s verdict.Waiting past dup = absurd past
apart_by w s (verdict.HistoryFull need) past dup = absurd past
apart_by w s verdict.Admitted past dup = absurd past

pub past_apart : (w : World) (s : Slip) → IsSound w → IsPast (offered w s).answer → IsApart (offered w s).world s
past_apart w s sound past = go w.closed refl
  where
    go : (b : Bool) → w.closed ≡ b → IsApart (offered w s).world s
    go false opened = apart_by w s (judge w s) past (held_is_duplicate w s sound opened)
    go true shut =
        let is : judge w s ≡ verdict.Closed = rw shut refl in
        absurd (subst (λ (v : Verdict). IsPast (answer_by w s v)) is past)
