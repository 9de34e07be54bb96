use Rattle.std.proofs.Common.{◌≡◌, ◌+◌, true, false, take, Some, None, sym, ap, ◌∙◌, leb}
use Rattle.std.specs.List.{list_any, slice_get}
use Rattle.std.proofs.lemmas.Bool.{leb-true}
use Rattle.block_tree.specs.Places.{slip_of}
use Rattle.bundle_model.specs.Bundles.{base_of, finals_up}
use Rattle.relay_model.specs.Offers.{tip_num}
use Rattle.stored_blocks.proofs.PlanFacts.{begun_whole, early_whole, first_at, none_whole, size_some}
use Rattle.stored_blocks.proofs.stored.StoredBlocks.fresh_base.Goals as goal

pub returns-in_default-clause-none : goal.returns-in_default-clause-none
returns-in_default-clause-none c =
    let f = c.args.db.now in
    let i = c.args.self.now in
    let e : slice_get (finals_up f.history) i.front ≡ None =
    ap (slice_get (finals_up f.history)) (sym c.front.ensures) ∙ sym c.final_at.ensures.value ∙ ap (slip_of f.history) c.in_default.is in
    none_whole c.args.size f i c.requires.index e

pub returns-then-not-is_due-clause-none : goal.returns-then-not-is_due-clause-none
returns-then-not-is_due-clause-none c =
    let f = c.args.db.now in
    let i = c.args.self.now in
    let s = c.slip.result.now in
    let e : slice_get (finals_up f.history) i.front ≡ Some s = ap (slice_get (finals_up f.history)) (sym c.front.ensures) ∙ sym c.in-Some.ensures.value ∙ c.slip.ensures in
    let early : leb (base_of c.args.size s.num + c.args.size) (tip_num f.history) ≡ false =
    ap (λ b. leb (b + c.args.size) (tip_num f.history)) (sym c.base_of-base.ensures) ∙ sym c.is_due.ensures.due ∙ c.if-not-is_due.true in
    early_whole c.args.size f i s c.requires.index e early

pub returns-then-is_begun-clause-none : goal.returns-then-is_begun-clause-none
returns-then-is_begun-clause-none c =
    let f = c.args.db.now in
    let i = c.args.self.now in
    let s = c.slip.result.now in
    let e : slice_get (finals_up f.history) i.front ≡ Some s = ap (slice_get (finals_up f.history)) (sym c.front.ensures) ∙ sym c.in-Some.ensures.value ∙ c.slip.ensures in
    let any : list_any (λ t. leb (base_of c.args.size s.num) t.num) (take i.front (finals_up f.history)) ≡ true =
    ap (λ b. list_any (λ t. leb b t.num) (take i.front (finals_up f.history))) (sym c.base_of-base.ensures) ∙ sym c.is_begun.ensures ∙ c.if-is_begun.true in
    begun_whole c.args.size f i s (size_some c.args.size c.requires.size) c.len.ensures.sound c.requires.index e any

pub returns-clause-some : goal.returns-clause-some
returns-clause-some c =
    let f = c.args.db.now in
    let i = c.args.self.now in
    let s = c.slip.result.now in
    let e : slice_get (finals_up f.history) i.front ≡ Some s = ap (slice_get (finals_up f.history)) (sym c.front.ensures) ∙ sym c.in-Some.ensures.value ∙ c.slip.ensures in
    record {
      first = s;
      first_is = sym (first_at c.args.size f i c.requires.index) ∙ e;
      base_is = c.base_of-base.ensures;
      due = leb-true _ _ (sym c.is_due.ensures.due ∙ c.if-not-is_due.false);
      fits = c.is_due.ensures.fits c.if-not-is_due.false;
      fresh = sym c.is_begun.ensures ∙ c.if-is_begun.false;
    }
