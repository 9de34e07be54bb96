use Rattle.std.proofs.Common.{◌≡◌, ◌+◌, ◌∷◌, Some, None, false, ◌<◌, is_some, ap, sym, ◌∙◌, refl, subst}
use Rattle.block_record.specs.declared.blocks.Slip.{Slip}
use Rattle.block_tree.proofs.public.PlaceFacts.{is_held, place_slip}
use Rattle.block_tree.specs.Places.{place_of}
use Rattle.chain_model.specs.Ancestry.{has_id}
use Rattle.fork_db.specs.Claims.{IsLinkOf}
use Rattle.relay_model.specs.Offers.{clash, conflict}
use Rattle.block_intake.specs.Judged.{clash_at, clash_of}
use Rattle.block_intake.specs.Taking.{dropped_after, history_after}
use Rattle.block_intake.proofs.JudgedFacts.{fits_child, some_is}
use Rattle.block_intake.proofs.TakingFacts.{holds_one, holds_same, kept_some}
use Rattle.wait_room.specs.Rooms.{linked_in}
use Rattle.wait_room.proofs.public.LinkedFacts.{linked_more}
use Rattle.block_intake.proofs.taking.place.Goals as goal

pub unwrap-parent-requires : goal.unwrap-parent-requires
unwrap-parent-requires c = some_is c.find.result (ap is_some c.find.ensures ∙ is_held c.args.db.now.history c.args.slip.parent_id ∙ c.requires.parent)

pub link_child-requires-clause-fresh : goal.link_child-requires-clause-fresh
link_child-requires-clause-fresh c = subst (λ (s : Slip). has_id c.args.db.now.history s.id ≡ false) (sym c.of_slip.ensures) c.requires.fresh

pub link_child-requires-clause-parent : goal.link_child-requires-clause-parent
link_child-requires-clause-parent c =
    subst (λ (s : Slip). place_of c.args.db.now.history s.parent_id ≡ Some c.unwrap-parent.result) (sym c.of_slip.ensures) (sym c.find.ensures ∙ c.unwrap-parent.ensures)

pub link_child-requires-clause-rises : goal.link_child-requires-clause-rises
link_child-requires-clause-rises c = subst (λ (s : Slip). s.parent_num < s.num) (sym c.of_slip.ensures) c.requires.rises

pub append_reserved-requires-clause-fits : goal.append_reserved-requires-clause-fits
append_reserved-requires-clause-fits c =
    let h = c.args.db.now.history in
    let is : clash_of h c.args.slip c.link_child.result ≡ clash h c.args.slip = subst (λ (s : Slip). clash_of h s c.link_child.result ≡ clash h s) c.of_slip.ensures c.link_child.ensures.clash in
    let none : clash h c.args.slip ≡ None = sym is ∙ ap (clash_of h c.args.slip) c.in-Ok.is in
    let q = place_slip h c.args.slip.parent_id c.unwrap-parent.result (sym c.find.ensures ∙ c.unwrap-parent.ensures) in
    fits_child h c.args.slip q.0 q.3 none c.requires.fresh c.requires.rises

pub append_reserved-requires-clause-linked : goal.append_reserved-requires-clause-linked
append_reserved-requires-clause-linked c = subst (λ (s : Slip). IsLinkOf c.args.db.now.history s c.in-Ok.linked) c.of_slip.ensures c.in-Ok.ensures.linked

pub returns-in-Err-clause-history : goal.returns-in-Err-clause-history
returns-in-Err-clause-history c =
    let h = c.args.db.now.history in
    let is : clash_of h c.args.slip c.link_child.result ≡ clash h c.args.slip = subst (λ (s : Slip). clash_of h s c.link_child.result ≡ clash h s) c.of_slip.ensures c.link_child.ensures.clash in
    let some : clash h c.args.slip ≡ Some (conflict c.in-Err.kind c.slip.result.now c.args.slip) =
    sym is ∙ ap (clash_of h c.args.slip) c.in-Err.is ∙ ap (clash_at c.args.slip c.in-Err.kind) c.slip.ensures in
    ap (history_after h c.args.slip) (sym some)

pub returns-in-Err-clause-dropped : goal.returns-in-Err-clause-dropped
returns-in-Err-clause-dropped c =
    let h = c.args.db.now.history in
    let is : clash_of h c.args.slip c.link_child.result ≡ clash h c.args.slip = subst (λ (s : Slip). clash_of h s c.link_child.result ≡ clash h s) c.of_slip.ensures c.link_child.ensures.clash in
    let some : clash h c.args.slip ≡ Some (conflict c.in-Err.kind c.slip.result.now c.args.slip) =
    sym is ∙ ap (clash_of h c.args.slip) c.in-Err.is ∙ ap (clash_at c.args.slip c.in-Err.kind) c.slip.ensures in
    c.drop_block.ensures.conflicts ∙ ap (dropped_after c.args.drops.now.conflicts) (sym some)

pub returns-in-Ok-clause-history : goal.returns-in-Ok-clause-history
returns-in-Ok-clause-history c =
    let h = c.args.db.now.history in
    let is : clash_of h c.args.slip c.link_child.result ≡ clash h c.args.slip = subst (λ (s : Slip). clash_of h s c.link_child.result ≡ clash h s) c.of_slip.ensures c.link_child.ensures.clash in
    let none : clash h c.args.slip ≡ None = sym is ∙ ap (clash_of h c.args.slip) c.in-Ok.is in
    c.append_reserved.ensures.appended.history ∙ ap (history_after h c.args.slip) (sym none)

pub returns-in-Ok-clause-dropped : goal.returns-in-Ok-clause-dropped
returns-in-Ok-clause-dropped c =
    let h = c.args.db.now.history in
    let is : clash_of h c.args.slip c.link_child.result ≡ clash h c.args.slip = subst (λ (s : Slip). clash_of h s c.link_child.result ≡ clash h s) c.of_slip.ensures c.link_child.ensures.clash in
    let none : clash h c.args.slip ≡ None = sym is ∙ ap (clash_of h c.args.slip) c.in-Ok.is in
    ap (dropped_after c.args.drops.now.conflicts) (sym none)

pub returns-in-Ok-clause-held : goal.returns-in-Ok-clause-held
returns-in-Ok-clause-held c =
    λ some.
    let more = c.append_reserved.ensures.appended in
    holds_one c.args.db.now _ c.args.slip _ more.history more.held (kept_some _ c.args.block some)

pub returns-in-Err-clause-held : goal.returns-in-Err-clause-held
returns-in-Err-clause-held c = λ some. holds_same c.args.db.now c.args.db.now refl refl

pub returns-in-Ok-clause-linked : goal.returns-in-Ok-clause-linked
returns-in-Ok-clause-linked c =
    let h = c.args.db.now.history in
    let w = c.args.room.now.waiting in
    let more : c.append_reserved.new.self.history ≡ c.args.slip ∷ h = c.append_reserved.ensures.appended.history in
    ap (λ l. linked_in l w) more ∙ linked_more h c.args.slip w c.requires.fresh ∙ ap (λ n. linked_in h w + n) (sym c.children-children.ensures)
