use Rattle.std.proofs.Common.{arith, ◌<◌, length, take, sym, subst}
use Rattle.block_tree.proofs.public.WalkFacts.{slip_there}
use Rattle.bundle_model.specs.Bundles.{finals_up}
use Rattle.bundle_model.specs.Members.{Among}
use Rattle.stored_blocks.specs.declared.places.NumberedPlace.{NumberedPlace}
use Rattle.stored_blocks.specs.Places.{Adds}
use Rattle.stored_blocks.specs.Stored.{HasBegun, Index, RestIsOff, is_given_up}
use Rattle.stored_blocks.proofs.IndexFacts.{block_added}
use Rattle.stored_blocks.proofs.stored.StoredBlocks.add_block.Goals as goal

pub insert-requires-clause-fresh : goal.insert-requires-clause-fresh
insert-requires-clause-fresh c =
    let h = c.args.db.now.history in
    let b = subst (HasBegun c.args.db.now) (sym c.self.view_is) c.requires.begun in
    let more : c.self.inside.seen < length h = subst (λ (i : Index). i.seen < length h) (sym c.self.view_is) c.requires.more in
    let s = slip_there h c.self.inside.seen more in
    λ k. let o = b.taken.off.own _ (subst (Among c.self.inside.off.places) (c.numbered.ensures s.0 s.1) k) in let l = o.low in omega (arith, l)

pub overflow_add-self : goal.overflow_add-self
overflow_add-self c =
    let more : c.self.inside.seen < length c.args.db.now.history = subst (λ (i : Index). i.seen < length c.args.db.now.history) (sym c.self.view_is) c.requires.more in
    omega (arith, more, c.len.ensures.len, c.len.type_inv)

pub returns-clause-begun : goal.returns-clause-begun
returns-clause-begun c =
    let f = c.args.db.now in
    let h = f.history in
    let b = subst (HasBegun f) (sym c.self.view_is) c.requires.begun in
    let rest = subst (RestIsOff f) (sym c.self.view_is) c.requires.rest in
    let more : c.self.inside.seen < length h = subst (λ (i : Index). i.seen < length h) (sym c.self.view_is) c.requires.more in
    let s = slip_there h c.self.inside.seen more in
    let off = rest c.self.inside.seen s.0 (omega arith) s.1 in
    let adds = subst (λ (x : NumberedPlace). Adds x c.self.inside.off.places c.insert.new.self.places) (c.numbered.ensures s.0 s.1) c.insert.ensures.added in
    record { taken = block_added h (take c.self.inside.finals (finals_up h)) (is_given_up f) _ c.insert.new.self.places s.0 c.insert.new.self.room s.1 off b.taken adds; same = b.same }

pub returns-clause-rest : goal.returns-clause-rest
returns-clause-rest c =
    let rest = subst (RestIsOff c.args.db.now) (sym c.self.view_is) c.requires.rest in
    λ at s le here. rest at s (omega (arith, le)) here
