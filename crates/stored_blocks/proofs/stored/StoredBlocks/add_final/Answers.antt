use Rattle.std.proofs.Common.{arith, ◌≡◌, ◌<◌, ◌+◌, length, Some, sym, subst, ap, ◌∙◌}
use Rattle.std.specs.List.{slice_get}
use Rattle.std.proofs.lemmas.Option.{slice_get_within}
use Rattle.block_tree.proofs.public.WalkFacts.{slip_there}
use Rattle.bundle_model.specs.Bundles.{finals_up}
use Rattle.bundle_model.specs.Members.{Among}
use Rattle.stored_blocks.specs.declared.places.NumberedPlace.{NumberedPlace}
use Rattle.stored_blocks.specs.Places.{Drops}
use Rattle.stored_blocks.specs.Stored.{HasBegun, Index}
use Rattle.stored_blocks.proofs.IndexFacts.{begun_bounds, begun_open, begun_stored, finals_short}
use Rattle.stored_blocks.proofs.stored.StoredBlocks.add_final.Goals as goal

pub overflow_add-self : goal.overflow_add-self
overflow_add-self c =
    let f = c.args.db.now in
    let s = slip_there f.history c.args.at c.requires.range in
    let next : slice_get (finals_up f.history) c.self.inside.finals ≡ Some s.0 = subst (λ (i : Index). slice_get (finals_up f.history) i.finals ≡ Some s.0) (sym c.self.view_is) (sym c.requires.next ∙ s.1) in
    let low = slice_get_within (finals_up f.history) c.self.inside.finals s.0 next in
    omega (arith, low, finals_short f.history, c.len.ensures.len, c.len.type_inv)

pub returns-then-remove-clause-begun : goal.returns-then-remove-clause-begun
returns-then-remove-clause-begun c =
    let f = c.args.db.now in
    let s = slip_there f.history c.args.at c.requires.range in
    let b = subst (HasBegun f) (sym c.self.view_is) c.requires.begun in
    let next : slice_get (finals_up f.history) c.self.inside.finals ≡ Some s.0 = subst (λ (i : Index). slice_get (finals_up f.history) i.finals ≡ Some s.0) (sym c.self.view_is) (sym c.requires.next ∙ s.1) in
    let place = c.numbered.ensures s.0 s.1 in
    let was = subst (Among c.self.inside.off.places) place (c.remove.ensures.was c.if-remove.true) in
    let drops = subst (λ (x : NumberedPlace). Drops x c.self.inside.off.places c.remove.new.self.places) place c.remove.ensures.dropped in
    begun_open f _ c.remove.new.self.places s.0 c.args.at c.remove.new.self.room c.len.ensures.sound s.1 next b was drops

pub add_stored-requires-clause-front : goal.add_stored-requires-clause-front
add_stored-requires-clause-front c =
    let b = subst (HasBegun c.args.db.now) (sym c.self.view_is) c.requires.begun in
    (begun_bounds c.args.db.now _ b).front

pub add_stored-requires-clause-stored : goal.add_stored-requires-clause-stored
add_stored-requires-clause-stored c =
    let b = subst (HasBegun c.args.db.now) (sym c.self.view_is) c.requires.begun in
    (begun_bounds c.args.db.now _ b).stored_finals

pub add_stored-requires-clause-room : goal.add_stored-requires-clause-room
add_stored-requires-clause-room c =
    let f = c.args.db.now in
    let s = slip_there f.history c.args.at c.requires.range in
    let next : slice_get (finals_up f.history) c.self.inside.finals ≡ Some s.0 = subst (λ (i : Index). slice_get (finals_up f.history) i.finals ≡ Some s.0) (sym c.self.view_is) (sym c.requires.next ∙ s.1) in
    let low = slice_get_within (finals_up f.history) c.self.inside.finals s.0 next in
    omega (arith, low, finals_short f.history, c.len.ensures.len, c.len.type_inv)

pub overflow_add-self-2 : goal.overflow_add-self-2
overflow_add-self-2 c =
    let f = c.args.db.now in
    let s = slip_there f.history c.args.at c.requires.range in
    let next : slice_get (finals_up f.history) c.self.inside.finals ≡ Some s.0 = subst (λ (i : Index). slice_get (finals_up f.history) i.finals ≡ Some s.0) (sym c.self.view_is) (sym c.requires.next ∙ s.1) in
    let low = slice_get_within (finals_up f.history) c.self.inside.finals s.0 next in
    let same : c.self-2.inside.finals ≡ c.self.inside.finals = ap (λ (i : Index). i.finals) (c.self-2.view_is ∙ c.add_stored.ensures) in
    omega (arith, low, same, finals_short f.history, c.len.ensures.len, c.len.type_inv)

pub returns-clause-begun : goal.returns-clause-begun
returns-clause-begun c =
    let f = c.args.db.now in
    let s = slip_there f.history c.args.at c.requires.range in
    let b = subst (HasBegun f) (sym c.self.view_is) c.requires.begun in
    let next : slice_get (finals_up f.history) c.self.inside.finals ≡ Some s.0 = subst (λ (i : Index). slice_get (finals_up f.history) i.finals ≡ Some s.0) (sym c.self.view_is) (sym c.requires.next ∙ s.1) in
    let place = c.numbered.ensures s.0 s.1 in
    let whole : c.self.inside.seen ≡ length f.history = subst (λ (i : Index). i.seen ≡ length f.history) (sym c.self.view_is) c.requires.whole in
    let low : c.args.at < c.self.inside.seen = omega (arith, whole, c.requires.range) in
    let none = λ (k : Among c.self.inside.off.places _). c.remove.ensures.other c.if-remove.false (subst (Among c.self.inside.off.places) (sym place) k) in
    let drops = subst (λ (x : NumberedPlace). Drops x c.self.inside.off.places c.remove.new.self.places) place c.remove.ensures.dropped in
    let done = begun_stored f _ c.remove.new.self.places s.0 c.args.at c.remove.new.self.room c.len.ensures.sound s.1 next low b none drops in
    subst (λ (i : Index). HasBegun f (record i { finals = i.finals + 1 })) (sym (c.self-2.view_is ∙ c.add_stored.ensures)) done
