-- The claims of the blocks of a history, as places.
use Rattle.std.specs.Prelude.{ℕ, ◌≡◌, ◌<◌, List, [], ◌∷◌, length, Option, None, Some, IfSome}
use Rattle.block_record.specs.declared.blocks.Slip.{Slip}
use Rattle.chain_model.specs.Finality.{claim}
use Rattle.block_tree.specs.Places.{place_of, slip_at}
use Rattle.fork_db.specs.declared.claims.Linked.{Linked}

-- the places are those of the claims, the newest block's first
abbrev pub AreClaims : List Slip → List ℕ → Type 0
AreClaims [] [] = Unit {0}
AreClaims (s ∷ older) (c ∷ cs) = (slip_at (s ∷ older) c ≡ claim (s ∷ older) s) × (c < length (s ∷ older)) × AreClaims older cs
AreClaims newest cs = ⊥

-- what a next block claims, which is the newest here: itself, or an older block at a place
abbrev pub claim_at : List Slip → Option ℕ → Option Slip
claim_at [] c = None
claim_at (s ∷ older) None = Some s
claim_at (s ∷ older) (Some c) = slip_at older c

-- where the next block is linked: its parent's place, and the place of what it claims
pub record IsLinkOf (newest : List Slip) (s : Slip) (l : Linked) : Type 0 where
  pub parent : place_of newest s.parent_id ≡ l.parent
  pub claim : claim (s ∷ newest) s ≡ claim_at (s ∷ newest) l.claim
  pub range : IfSome l.claim (λ c. c < length newest)
