use Rattle.std.proofs.Common.{arith, List, Option, refl, sym, ◌∙◌, subst}
use Rattle.std.proofs.lemmas.Result.{err_from_is_err_and}
use Rattle.join_source.specs.Items.{Left}
use Rattle.outer_world.specs.Files.{Files}
use Rattle.client_stream.specs.Sessions.{State}
use Rattle.relay_session.specs.Sending.{GaveUpTo}
use Rattle.relay_session.specs.Turns.{HasCause}
use Rattle.relay_session.proofs.NextFacts.{cause_since, gave_on, gave_some, none_yet, stopped_by}
use Rattle.relay_session.proofs.sending.send_items.Goals as goal

pub loop-init : goal.loop-init
loop-init g c = record {
  may = c.requires;
  gave = λ newest next. none_yet newest c.args.session.now c.args.joined.now c.args.out.now.items next;
  files = refl;
  staged = refl;
  later = omega arith;
}

pub loop-preserved : goal.loop-preserved
loop-preserved g c =
    let gave = gave_on c.args.session.now c.loop.session c.send_item.new.session c.args.joined.now c.loop.joined c.send_item.new.joined c.args.out.now.items c.loop.out.items c.send_item.new.out.items
    c.loop.invariant.gave c.in_ok-send_item.ensures.gave in
    record {
      may = record { newest = c.requires.newest; next = (gave c.requires.newest c.requires.next).next };
      gave = gave;
      files = c.in_ok-send_item.ensures.files ∙ c.loop.invariant.files;
      staged = c.in_ok-send_item.ensures.staged ∙ c.loop.invariant.staged;
      later = omega (arith, c.loop.invariant.later, c.in_ok-send_item.ensures.later);
    }

pub returns-in_err-send_item-clause-refused : goal.returns-in_err-send_item-clause-refused
returns-in_err-send_item-clause-refused g c =
    let p = err_from_is_err_and c.from_residual.result c.from_residual.ensures.1 in
    let e = c.in_err-send_item.ensures in
    let before = g.S.Shelf.shelf_faults c.args.shelf.now in
    let now = g.S.Shelf.shelf_faults c.send_item.new.shelf in
    rw (p.1, p.2)
    (λ newest next.
    let from = g.S.Shelf.shelf_faults c.loop.shelf in
    let stopped = cause_since newest (g.S.Shelf.files c.loop.shelf) before from now c.loop.session.progress c.in_err-send_item.field-0.0 c.loop.invariant.later
    (stopped_by newest (g.S.Shelf.files c.loop.shelf) c.loop.session c.loop.joined from now c.in_err-send_item.field-0.0 (c.loop.invariant.gave newest next).next e.refused) in
    subst (λ (f : Option Files). HasCause newest f before now c.send_item.new.session.progress c.in_err-send_item.field-0.0) c.loop.invariant.files
    (subst (λ (s : State). HasCause newest (g.S.Shelf.files c.loop.shelf) before now s.progress c.in_err-send_item.field-0.0) (sym e.same) stopped))

pub returns-clause-gave : goal.returns-clause-gave
returns-clause-gave g c = λ newest next. gave_some newest c.args.session.now c.send_item.new.session c.args.joined.now c.send_item.new.joined c.args.out.now.items c.send_item.new.out.items (gave_on c.args.session.now c.loop.session c.send_item.new.session c.args.joined.now c.loop.joined c.send_item.new.joined c.args.out.now.items c.loop.out.items c.send_item.new.out.items
    c.loop.invariant.gave c.in_ok-send_item.ensures.gave newest next)

pub returns-clause-all : goal.returns-clause-all
returns-clause-all g c = λ newest next. subst (λ (l : List Left). GaveUpTo newest c.args.session.now c.send_item.new.session c.args.joined.now l c.args.out.now.items c.send_item.new.out.items) (c.in_ok-send_item.ensures.last c.if-branch.false) (gave_on c.args.session.now c.loop.session c.send_item.new.session c.args.joined.now c.loop.joined c.send_item.new.joined c.args.out.now.items c.loop.out.items c.send_item.new.out.items
    c.loop.invariant.gave c.in_ok-send_item.ensures.gave newest next)
