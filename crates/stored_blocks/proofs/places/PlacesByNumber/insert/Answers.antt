use Rattle.std.proofs.Common.{arith, ◌≡◌, ◌<◌, List, length, sym, subst, ap}
use Rattle.std.specs.List.{AllWithin}
use Rattle.stored_blocks.specs.declared.places.NumberedPlace.{NumberedPlace}
use Rattle.stored_blocks.specs.Places.{Adds, IsBefore, Numbered, Rises}
use Rattle.stored_blocks.proofs.PlaceLists.{insert_adds, rises_insert}
use Rattle.stored_blocks.proofs.places.PlacesByNumber.insert.Goals as goal

pub invariant_of-self : goal.invariant_of-self
invariant_of-self c =
    let xs = c.self.inside.items.items in
    let same : c.args.self.now.places ≡ xs = sym (ap (λ (v : Numbered). v.places) c.self.view_is) in
    let at = c.index_for-at.result in
    let low = subst (λ (l : List NumberedPlace). AllWithin (λ y. IsBefore y c.args.place) l 0 at) same c.index_for-at.ensures.before in
    let high = subst (λ (l : List NumberedPlace). AllWithin (IsBefore c.args.place) l at (length l)) same c.index_for-at.ensures.after in
    let rises = subst Rises (sym c.put.ensures.items) (rises_insert xs at c.args.place c.self.invariant.0 low high) in
    let room = c.self.invariant.1 in
    let some : 0 < c.self.inside.room = subst (λ (v : Numbered). 0 < v.room) (sym c.self.view_is) c.requires.room in
    (rises, omega (arith, room, some, c.put.ensures.len, c.put.ensures.capacity))

pub returns-clause-added : goal.returns-clause-added
returns-clause-added c =
    let xs = c.self.inside.items.items in
    let same : xs ≡ c.args.self.now.places = ap (λ (v : Numbered). v.places) c.self.view_is in
    let adds = subst (Adds c.args.place xs) (sym c.put.ensures.items) (insert_adds xs c.index_for-at.result c.args.place) in
    subst (λ (l : List NumberedPlace). Adds c.args.place l c.put.new.items.items) same adds
