use Rattle.std.proofs.Common.{arith, ◌≡◌, ◌<◌, ◌+◌, length, sym, subst, ap, refl, ◌∙◌}
use Rattle.block_tree.proofs.public.WalkFacts.{slip_there}
use Rattle.bundle_model.specs.Members.{Among}
use Rattle.stored_blocks.specs.declared.places.NumberedPlace.{NumberedPlace}
use Rattle.stored_blocks.specs.Places.{Drops}
use Rattle.stored_blocks.specs.Stored.{HasReleased, Index, IsIndex}
use Rattle.stored_blocks.proofs.IndexFacts.{finals_low, front_low, index_room, released_off, released_on, stored_low}
use Rattle.stored_blocks.proofs.stored.StoredBlocks.store.Goals as goal

pub overflow_add-self : goal.overflow_add-self
overflow_add-self c =
    let f = c.args.db.now in
    let h = subst (λ (i : Index). HasReleased i f c.args.at) (sym c.self.view_is) c.requires in
    let s = slip_there f.history c.args.at (subst (λ l. c.args.at < length l) (sym h.history) h.range) in
    let low = stored_low _ f c.args.at s.0 h c.len.ensures.sound s.1 in
    omega (arith, low, c.len.ensures.len, c.len.type_inv)

pub returns-then-remove-clause-index : goal.returns-then-remove-clause-index
returns-then-remove-clause-index c =
    let f = c.args.db.now in
    let h = subst (λ (i : Index). HasReleased i f c.args.at) (sym c.self.view_is) c.requires in
    let s = slip_there f.history c.args.at (subst (λ l. c.args.at < length l) (sym h.history) h.range) in
    let place = c.numbered.ensures s.0 s.1 in
    let was = subst (Among c.self.inside.off.places) place (c.remove.ensures.was c.if-remove.true) in
    let drops = subst (λ (x : NumberedPlace). Drops x c.self.inside.off.places c.remove.new.self.places) place c.remove.ensures.dropped in
    index_room f _ c.remove.new.self.room (released_off _ f c.args.at s.0 h c.len.ensures.sound s.1 c.remove.new.self.places was drops)

pub store_final-requires-clause-front : goal.store_final-requires-clause-front
store_final-requires-clause-front c =
    let f = c.args.db.now in
    let h = subst (λ (i : Index). HasReleased i f c.args.at) (sym c.self.view_is) c.requires in
    let s = slip_there f.history c.args.at (subst (λ l. c.args.at < length l) (sym h.history) h.range) in
    front_low _ f c.args.at s.0 h c.len.ensures.sound s.1

pub store_final-requires-clause-room : goal.store_final-requires-clause-room
store_final-requires-clause-room c =
    let f = c.args.db.now in
    let h = subst (λ (i : Index). HasReleased i f c.args.at) (sym c.self.view_is) c.requires in
    let s = slip_there f.history c.args.at (subst (λ l. c.args.at < length l) (sym h.history) h.range) in
    let place = c.numbered.ensures s.0 s.1 in
    let none = λ (k : Among c.self.inside.off.places _). c.remove.ensures.other c.if-remove.false (subst (Among c.self.inside.off.places) (sym place) k) in
    let low = finals_low _ f c.args.at s.0 h c.len.ensures.sound s.1 none in
    omega (arith, low, c.len.ensures.len, c.len.type_inv)

pub overflow_add-self-2 : goal.overflow_add-self-2
overflow_add-self-2 c =
    let f = c.args.db.now in
    let h = subst (λ (i : Index). HasReleased i f c.args.at) (sym c.self.view_is) c.requires in
    let s = slip_there f.history c.args.at (subst (λ l. c.args.at < length l) (sym h.history) h.range) in
    let low = stored_low _ f c.args.at s.0 h c.len.ensures.sound s.1 in
    let same : c.self-2.inside.stored ≡ c.self.inside.stored = ap (λ (i : Index). i.stored) (c.self-2.view_is ∙ c.store_final.ensures s.0 s.1) in
    omega (arith, low, same, c.len.ensures.len, c.len.type_inv)

pub returns-clause-index : goal.returns-clause-index
returns-clause-index c =
    let f = c.args.db.now in
    let h = subst (λ (i : Index). HasReleased i f c.args.at) (sym c.self.view_is) c.requires in
    let s = slip_there f.history c.args.at (subst (λ l. c.args.at < length l) (sym h.history) h.range) in
    let place = c.numbered.ensures s.0 s.1 in
    let none = λ (k : Among c.self.inside.off.places _). c.remove.ensures.other c.if-remove.false (subst (Among c.self.inside.off.places) (sym place) k) in
    let drops = subst (λ (x : NumberedPlace). Drops x c.self.inside.off.places c.remove.new.self.places) place c.remove.ensures.dropped in
    let done = index_room f _ c.remove.new.self.room (released_on _ f c.args.at s.0 h c.len.ensures.sound s.1 c.remove.new.self.places _ _ none drops refl refl) in
    subst (λ (i : Index). IsIndex f (record i { stored = i.stored + 1 })) (sym (c.self-2.view_is ∙ c.store_final.ensures s.0 s.1)) done

pub returns-clause-stored : goal.returns-clause-stored
returns-clause-stored c =
    let f = c.args.db.now in
    let h = subst (λ (i : Index). HasReleased i f c.args.at) (sym c.self.view_is) c.requires in
    let s = slip_there f.history c.args.at (subst (λ l. c.args.at < length l) (sym h.history) h.range) in
    ap (λ (i : Index). i.stored + 1) (c.self-2.view_is ∙ c.store_final.ensures s.0 s.1) ∙ ap (λ (i : Index). i.stored + 1) c.self.view_is

pub returns-clause-room : goal.returns-clause-room
returns-clause-room c =
    let f = c.args.db.now in
    let h = subst (λ (i : Index). HasReleased i f c.args.at) (sym c.self.view_is) c.requires in
    let s = slip_there f.history c.args.at (subst (λ l. c.args.at < length l) (sym h.history) h.range) in
    ap (λ (i : Index). i.room) (c.self-2.view_is ∙ c.store_final.ensures s.0 s.1) ∙ c.remove.ensures.room ∙ ap (λ (i : Index). i.room) c.self.view_is
