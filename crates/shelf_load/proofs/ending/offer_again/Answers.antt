use Rattle.std.proofs.Common.{arith, ap, sym, subst, ◌≡◌, ◌∙◌}
use Rattle.std.specs.Option.{is_some}
use Rattle.std.specs.Arc.{arc_value}
use Rattle.std.proofs.lemmas.Bool.{lt-ltb}
use Rattle.block_record.specs.declared.blocks.Slip.{Slip}
use Rattle.block_record.specs.Slips.{slip}
use Rattle.block_intake.specs.Answers.{is_mem}
use Rattle.block_relay.specs.Chronicle.{world_told}
use Rattle.relay_model.specs.Offers.{offered, tip_num}
use Rattle.shelf_load.specs.Asides.{put_seen}
use Rattle.shelf_load.specs.Ending.{FullAnswers}
use Rattle.shelf_load.proofs.EndingFacts.{again_said, own_slip}
use Rattle.shelf_load.proofs.ending.offer_again.Goals as goal

pub returns-in_ok-block-in-Some : goal.returns-in_ok-block-in-Some
returns-in_ok-block-in-Some c =
    let w = world_told c.args.relay.now in
    let p = put_seen c.args.entry.now in
    let own : slip (arc_value c.in_ok-block-in-Some.block) ≡ p.slip = ap slip c.in_ok-block-in-Some.ensures.cases ∙ sym (own_slip c.args.entry.now c.in-Some.block c.in-Some.is) in
    let tip = c.tip_number.ensures ∙ ap tip_num c.history.ensures in
    again_said w (world_told c.offer.new.self) p (is_mem c.offer.result) c.find_full.result
    (lt-ltb (tip_num w.history) p.slip.num (omega (arith, c.if-entry-tip_number.false, tip)))
    (ap is_some c.in-Some.is)
    (subst (λ (s : Slip). FullAnswers (offered w s).answer (is_mem c.offer.result) c.find_full.result) own (c.find_full.ensures (offered w (slip (arc_value c.in_ok-block-in-Some.block))).answer c.offer.ensures.said))
    (λ kept. c.offer.ensures.world kept ∙ ap (λ (s : Slip). (offered w s).world) own)
