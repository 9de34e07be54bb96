-- What stays known of the stored blocks while blocks are offered, as statements.
use Rattle.std.specs.Prelude.{◌≡◌, ◌<◌, ◌⊎◌, true}
use Rattle.block_record.specs.declared.blocks.Slip.{Slip}
use Rattle.chain_model.specs.Finality.{final_ancestry}
use Rattle.relay_model.specs.Worlds.{World}
use Rattle.relay_model.specs.Offers.{offered}
use Rattle.relay_model.specs.Soundness.{IsSound, IsBlock}
use Rattle.bundle_model.specs.Members.{Among}
use Rattle.bundle_model.specs.Plans.{is_stored}
use Rattle.bundle_model.specs.Laws.{IsFrontStored, IsOwnStored}
use Rattle.store_model.specs.Shown.{Shown, IsPassed}
use Rattle.store_model.specs.Kept.{IsKeeping}

-- each stored block is final, or passed
abbrev pub StoredAreSettled : World → Type 0
StoredAreSettled w = (s : Slip) → Among w.history s → is_stored w s ≡ true → Among (final_ancestry w.history) s ⊎ IsPassed w.history s

-- so it is where a shelf keeps the stored blocks, and where a relay shed its own plans alone
pub record SettledBy : Type 0 where
  pub kept : (shown : Shown) (w : World) → IsSound w → IsKeeping shown w → StoredAreSettled w
  pub own : (w : World) → 0 < w.size → IsSound w → IsOwnStored w → StoredAreSettled w

-- then the stored final blocks stay those of the first bundles, whatever is offered
abbrev pub OfferKeepsFront : Type 0
OfferKeepsFront = (w : World) (s : Slip) → 0 < w.size → IsSound w → IsBlock s → StoredAreSettled w → IsFrontStored w → IsFrontStored (offered w s).world

-- and no others than those of the relay's own plans are stored
abbrev pub OfferKeepsOwn : Type 0
OfferKeepsOwn = (w : World) (s : Slip) → 0 < w.size → IsSound w → IsBlock s → IsOwnStored w → IsOwnStored (offered w s).world
