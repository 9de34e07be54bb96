-- The steps of a run from nothing lead a client to the head of the order from scratch.
use Rattle.std.proofs.Common.{◌≡◌, inl, List, reverse, Option, Some, None, refl, sym, ◌∙◌, ap, subst}
use Rattle.std.specs.List.{AllByRecursion}
use Rattle.block_record.proofs.public.ListFacts.{all_reverse}
use Rattle.block_record.specs.declared.blocks.Slip.{Slip}
use Rattle.chain_model.specs.Ancestry.{IsHistory}
use Rattle.chain_model.specs.Finality.{ancestry_of, final_tip}
use Rattle.chain_model.specs.Steps.{head}
use Rattle.chain_model.specs.Places.{no_place}
use Rattle.chain_laws.proofs.public.Growth.{IsFound, all_weaker}
use Rattle.fire_lines.specs.declared.faults.LineFault.{LineFault}
use Rattle.fire_lines.specs.Text.{received}
use Rattle.relay_model.specs.Worlds.{World}
use Rattle.relay_model.specs.Soundness.{IsBlock}
use Rattle.relay_model.specs.Orders.{once, linked_order}
use Rattle.relay_model.specs.Runs.{run}
use Rattle.relay_model.proofs.public.Sound.{empty_sound}
use Rattle.relay_laws.specs.Laws.{Matches, MatchesTip, IsOrderly}
use Rattle.relay_laws.proofs.public.RunSteps.{run_of}
use Rattle.relay_laws.proofs.public.Scratch.{tip_from_scratch}
use Rattle.relay_laws.proofs.public.FromScratch.{from_scratch}
use Rattle.step_text.specs.declared.refusals.Refusal.{Refusal}
use Rattle.step_text.specs.Limits.{line_max, step_limits, new_world}
use Rattle.step_text.specs.StepText.{tell, whole, ending_of}
use Rattle.step_laws.specs.Telling.{steps_told, at_head, has_head, received_of}
use Rattle.step_laws.specs.Laws.{AreOrderly, LeadToHead, StepsFromScratch, AllAreReceived, StepTextFromScratch}
use Rattle.step_laws.proofs.TextFacts.{steps_told_lines}
use Rattle.step_laws.proofs.LineFacts.{lines_bring_blocks}
use Rattle.step_laws.proofs.HeadFacts.{head_found, tip_found, at_head-None}
use Rattle.step_laws.proofs.FollowFacts.{steps_follow}
use Rattle.step_laws.proofs.WholeRuns.{whole_run}

-- a client at the head of a history is at the head of an order that matches it
same_head : (newest order : List Slip) → IsHistory newest → Matches newest order → MatchesTip newest order → has_head newest ≡ has_head order
same_head newest order history m tip =
    let blocks = path (head newest) (head_found newest history) ∙ ap (ancestry_of order) m.heads in
    let finals = path (final_tip newest) (tip_found newest history) ∙ ap (ancestry_of order) m.tips in
    rw (blocks, finals) refl
  where
    path : (o : Option Slip) → ((s : Slip) → o ≡ Some s → IsFound newest s) → ancestry_of newest o ≡ ancestry_of order o
    path None found = refl
    path (Some s) found = tip.paths s (found s refl)

pub steps_from_scratch : StepsFromScratch
steps_from_scratch first slips blocks none o =
    let w0 = new_world first in
    let offers = reverse slips in
    let order = linked_order first (received_of first slips) in
    let is = whole_run slips w0 no_place refl none in
    let turned = all_reverse IsBlock slips blocks in
    let orderly : IsOrderly first 0 step_limits offers = record { blocks = turned; kept = is.kept; one_each = o.one_each; agreed = o.agreed } in
    let sound = (run_of first 0 step_limits offers turned is.kept o.one_each).sound in
    let newest = (run w0 offers).history in
    let matches = from_scratch first 0 step_limits offers orderly in
    let same = same_head newest order sound.history matches (tip_from_scratch first 0 step_limits offers orderly) in
    let follows = steps_follow slips w0 None no_place (empty_sound first 0 step_limits) blocks tt tt in
    let held : AllByRecursion (λ x. IsFound newest x.slip) (steps_told slips w0 no_place) =
    subst (λ (w : World). AllByRecursion (λ x. IsFound w.history x.slip) (steps_told slips w0 no_place)) is.left follows.held in
    record {
      blocks = all_weaker (λ x. IsFound newest x.slip) (λ x. IsFound order x.slip) (λ x found. matches.within x.slip found) (steps_told slips w0 no_place) held;
      fold = follows.head (inl refl) ∙ ap (λ w. Some (at_head w.history None)) is.left ∙ ap (λ f. Some f) (at_head-None newest) ∙ ap (λ f. Some f) same;
    }

pub all_are_received : AllAreReceived
all_are_received first slips none = ap once (whole_run slips (new_world first) no_place refl none).all

-- a text that nothing ended was not refused
whole_told : (r : Option Refusal) (fault : Option LineFault) → ending_of r fault ≡ whole → r ≡ None
whole_told (Some r) fault e = absurd (cc)
whole_told None fault e = refl

pub step_text_from_scratch : StepTextFromScratch
step_text_from_scratch first input ended o =
    let slips = (received line_max input).slips in
    let none = whole_told (tell slips (new_world first) no_place).refusal (received line_max input).fault ended in
    let all = all_are_received first slips none in
    let leads : LeadToHead (steps_told slips (new_world first) no_place) (linked_order first (received_of first slips)) =
    steps_from_scratch first slips (lines_bring_blocks line_max input) none (subst (AreOrderly first) (sym all) o) in
    record {
      steps = steps_told slips (new_world first) no_place;
      lines = steps_told_lines slips (new_world first) no_place;
      leads = subst (λ (l : List Slip). LeadToHead (steps_told slips (new_world first) no_place) (linked_order first l)) all leads;
    }
