use Rattle.std.proofs.Common.{◌∙◌, ap, None}
use Rattle.chain_model.specs.declared.places.Mode.TheVariants as mode
use Rattle.chain_model.specs.Places.{place_to}
use Rattle.steps_command.proofs.TellFacts.{was_given, told_text}
use Rattle.steps_command.proofs.following.tell_from.Goals as goal

pub push_steps-requires : goal.push_steps-requires
push_steps-requires c = was_given c.args.db.now.history mode.Live None c.batch_from-batch.result c.batch_from-batch.ensures.given

pub place_after_all-requires : goal.place_after_all-requires
place_after_all-requires c = was_given c.args.db.now.history mode.Live None c.batch_from-batch.result c.batch_from-batch.ensures.given

pub returns-clause-place : goal.returns-clause-place
returns-clause-place c =
    c.in_ok-place.ensures _ _ _ c.batch_from-batch.ensures.given ∙ ap (λ p. place_to c.args.db.now.history p mode.Live None) c.batch_from-batch.ensures.place

pub returns-clause-text : goal.returns-clause-text
returns-clause-text c =
    told_text c.args.db.now.history c.args.place c.batch_from-batch.result c.args.text.now.items c.push_steps.new.text.items c.batch_from-batch.ensures.place (c.in_ok-push_steps.ensures _ _ _ c.batch_from-batch.ensures.given)
