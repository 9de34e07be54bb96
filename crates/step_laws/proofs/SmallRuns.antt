-- Small runs, worked out by computing, and one that meets the premises of the order from scratch.
use Rattle.std.proofs.Common.{arith, ◌≡◌, ℕ, List, [], ◌∷◌, None, Some, refl, ap, get_or}
use Rattle.std.proofs.lemmas.Bool.{both_ways}
use Rattle.block_record.specs.declared.blocks.Slip.{Slip}
use Rattle.block_record.specs.Ids.{same_id}
use Rattle.chain_model.specs.declared.places.Step.TheVariants as step
use Rattle.chain_model.specs.Steps.{block_step, ref_of}
use Rattle.chain_model.specs.Places.{no_place}
use Rattle.relay_model.specs.declared.answers.ConflictKind.TheVariants as kind
use Rattle.relay_model.specs.Offers.{offered, conflict}
use Rattle.relay_model.specs.Orders.{linked_order}
use Rattle.relay_model.specs.Tables.{at, a1, b2, b3, b4, b5, c2, c3_first, other_b2, x3, x4, y3}
use Rattle.relay_model.proofs.public.Sound.{empty_sound, offer_keeps}
use Rattle.step_text.specs.declared.refusals.Refusal.TheVariants as refused
use Rattle.step_text.specs.Limits.{step_limits, new_world}
use Rattle.step_text.specs.StepText.{tell}
use Rattle.step_laws.specs.Telling.{steps_told, world_left, place_left, head_place, has_head, received_of}
use Rattle.step_laws.specs.Laws.{AreOrderly}

-- no number is one and two
one_or_two : (n : ℕ) → n ≡ 1 → n ≡ 2 → ⊥
one_or_two n e f = omega (arith, e, f)

-- c3 comes before its parent b2
abbrev waits : List Slip
waits = a1 ∷ c3_first ∷ b2 ∷ []

waits_steps : steps_told waits (new_world 0) no_place ≡ block_step step.NewFinal a1 ∷ block_step step.New b2 ∷ block_step step.New c3_first ∷ []
unfolding same_id
waits_steps = refl

waits_refusal : (tell waits (new_world 0) no_place).refusal ≡ None
unfolding same_id
waits_refusal = refl

waits_received : received_of 0 waits ≡ b2 ∷ c3_first ∷ a1 ∷ []
unfolding same_id
waits_received = refl

waits_order : linked_order 0 (received_of 0 waits) ≡ c3_first ∷ b2 ∷ a1 ∷ []
unfolding same_id
waits_order = refl

-- the client has three blocks, one of them final
waits_head : has_head (linked_order 0 (received_of 0 waits)) ≡ record { base = None; blocks = ref_of c3_first ∷ ref_of b2 ∷ ref_of a1 ∷ []; finals = 1 }
unfolding same_id
waits_head = refl

-- the premises can be met
waits_orderly : AreOrderly 0 (received_of 0 waits)
unfolding same_id
waits_orderly = record {
  one_each = ((λ e. absurd (cc), (λ e. absurd (cc), tt)), ((λ e. absurd (cc), tt), (tt, tt)));
  agreed = (offer_keeps (offered (offered (new_world 0) a1).world c3_first).world b2 (offer_keeps (offered (new_world 0) a1).world c3_first (offer_keeps (new_world 0) a1 (empty_sound 0 0 step_limits) refl) refl) refl).agreed;
}

-- c2, which is final, comes after the branch of b2
abbrev forks : List Slip
forks = a1 ∷ b2 ∷ b3 ∷ b4 ∷ c2 ∷ []

forks_steps : steps_told forks (new_world 0) no_place
    ≡ block_step step.NewFinal a1 ∷ block_step step.New b2 ∷ block_step step.New b3 ∷ block_step step.New b4
    ∷ block_step step.Undo b4 ∷ block_step step.Undo b3 ∷ block_step step.Undo b2 ∷ block_step step.NewFinal c2 ∷ []
unfolding same_id
forks_steps = refl

forks_place : place_left forks (new_world 0) no_place ≡ at c2 c2
unfolding same_id
forks_place = refl

forks_head : head_place (world_left forks (new_world 0)).history ≡ at c2 c2
unfolding same_id
forks_head = refl

-- with b2 both x3 and y3 link, and y3 is dropped: the steps of that offer are told, and none of x4, which follows x3
abbrev drops : List Slip
drops = a1 ∷ x3 ∷ y3 ∷ b2 ∷ x4 ∷ []

drops_refusal : (tell drops (new_world 0) no_place).refusal ≡ Some (refused.Contradicts (conflict kind.Finality x3 y3))
unfolding same_id
drops_refusal = refl

drops_steps : steps_told drops (new_world 0) no_place ≡ block_step step.NewFinal a1 ∷ block_step step.NewFinal b2 ∷ block_step step.NewFinal x3 ∷ []
unfolding same_id
drops_steps = refl

drops_world : (world_left drops (new_world 0)).history ≡ x3 ∷ b2 ∷ a1 ∷ []
unfolding same_id
drops_world = refl

-- what is received is not orderly where two blocks have one id
one_id : AreOrderly 0 (other_b2 ∷ b2 ∷ a1 ∷ []) → ⊥
one_id h = one_or_two 1 refl (ap (λ s. get_or s.digest 0 0) (h.one_each.0.0 refl))

-- nor where b5 claims b3 and c2 itself
apart : AreOrderly 0 (b5 ∷ c2 ∷ b4 ∷ b3 ∷ b2 ∷ a1 ∷ []) → ⊥
unfolding same_id
apart h = both_ways _ refl (h.agreed b5 c2 b3 c2 refl refl refl refl)

-- an empty history has no head
no_head : head_place [] ≡ no_place
no_head = refl
