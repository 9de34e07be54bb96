use Rattle.std.proofs.Common.{arith, rules, ◌≡◌, ◌<◌, IsSome, List, length, sym, subst, ap}
use Rattle.bundle_model.specs.Members.{Among}
use Rattle.stored_blocks.specs.declared.places.NumberedPlace.{NumberedPlace}
use Rattle.stored_blocks.specs.Places.{Drops, Numbered, Rises}
use Rattle.stored_blocks.proofs.PlaceLists.{drops_none, found_at, not_found, on_some, remove_drops, rises_remove, searchable}
use Rattle.stored_blocks.proofs.places.PlacesByNumber.remove.Goals as goal

pub invariant_of-self : goal.invariant_of-self
invariant_of-self c =
    let xs = c.self.inside.items.items in
    let some : IsSome c.remove.result = search rules in
    let items = on_some c.remove.result _ some c.remove.ensures.items in
    let len = on_some c.remove.result _ some c.remove.ensures.len in
    let room = c.self.invariant.1 in
    (subst Rises (sym items) (rises_remove xs c.in-Ok.at c.self.invariant.0), omega (arith, room, len, c.remove.ensures.capacity))

pub returns-in-Ok-clause-was : goal.returns-in-Ok-clause-was
returns-in-Ok-clause-was c =
    let xs = c.self.inside.items.items in
    let same : xs ≡ c.args.self.now.places = ap (λ (v : Numbered). v.places) c.self.view_is in
    let low : c.in-Ok.at < length xs = search rules in
    λ _. subst (λ (l : List NumberedPlace). Among l c.args.place.now) same (found_at xs c.args.place.now c.in-Ok.at low c.in-Ok.ensures.ok)

pub returns-in-Ok-clause-dropped : goal.returns-in-Ok-clause-dropped
returns-in-Ok-clause-dropped c =
    let xs = c.self.inside.items.items in
    let same : xs ≡ c.args.self.now.places = ap (λ (v : Numbered). v.places) c.self.view_is in
    let low : c.in-Ok.at < length xs = search rules in
    let some : IsSome c.remove.result = search rules in
    let items = on_some c.remove.result _ some c.remove.ensures.items in
    let d = subst (Drops c.args.place.now xs) (sym items) (remove_drops xs c.in-Ok.at c.args.place.now c.self.invariant.0 low c.in-Ok.ensures.ok) in
    subst (λ (l : List NumberedPlace). Drops c.args.place.now l c.remove.new.self.items) same d

pub returns-in-Err-clause-dropped : goal.returns-in-Err-clause-dropped
returns-in-Err-clause-dropped c =
    let xs = c.self.inside.items.items in
    let same : xs ≡ c.args.self.now.places = ap (λ (v : Numbered). v.places) c.self.view_is in
    let p = c.in-Err.ensures.position (searchable xs c.args.place.now c.self.invariant.0) in
    subst (λ (l : List NumberedPlace). Drops c.args.place.now l l) same (drops_none xs c.args.place.now (not_found xs c.args.place.now c.in-Err.field-0 p.0 p.1))

pub returns-in-Err-clause-other : goal.returns-in-Err-clause-other
returns-in-Err-clause-other c =
    let xs = c.self.inside.items.items in
    let same : xs ≡ c.args.self.now.places = ap (λ (v : Numbered). v.places) c.self.view_is in
    let p = c.in-Err.ensures.position (searchable xs c.args.place.now c.self.invariant.0) in
    λ _ h. not_found xs c.args.place.now c.in-Err.field-0 p.0 p.1 (subst (λ (l : List NumberedPlace). Among l c.args.place.now) (sym same) h)
