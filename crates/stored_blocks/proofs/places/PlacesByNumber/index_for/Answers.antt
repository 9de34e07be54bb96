use Rattle.std.proofs.Common.{rules, ◌≡◌, ◌<◌, List, length, subst, ap}
use Rattle.std.specs.List.{AllWithin}
use Rattle.bundle_model.specs.Members.{Among}
use Rattle.stored_blocks.specs.declared.places.NumberedPlace.{NumberedPlace}
use Rattle.stored_blocks.specs.Places.{IsBefore, Numbered}
use Rattle.stored_blocks.proofs.PlaceLists.{found_at, greater_after_all, less_before_all, searchable}
use Rattle.stored_blocks.proofs.places.PlacesByNumber.index_for.Goals as goal

pub returns-in-Ok-clause-range : goal.returns-in-Ok-clause-range
returns-in-Ok-clause-range c =
    let xs = c.self.inside.items.items in
    let same : xs ≡ c.args.self.now.places = ap (λ (v : Numbered). v.places) c.self.view_is in
    let low : c.in-Ok.at < length xs = search rules in
    absurd (c.requires.fresh (subst (λ (l : List NumberedPlace). Among l c.args.place.now) same (found_at xs c.args.place.now c.in-Ok.at low c.in-Ok.ensures.ok)))

pub returns-in-Ok-clause-before : goal.returns-in-Ok-clause-before
returns-in-Ok-clause-before c =
    let xs = c.self.inside.items.items in
    let same : xs ≡ c.args.self.now.places = ap (λ (v : Numbered). v.places) c.self.view_is in
    let low : c.in-Ok.at < length xs = search rules in
    absurd (c.requires.fresh (subst (λ (l : List NumberedPlace). Among l c.args.place.now) same (found_at xs c.args.place.now c.in-Ok.at low c.in-Ok.ensures.ok)))

pub returns-in-Ok-clause-after : goal.returns-in-Ok-clause-after
returns-in-Ok-clause-after c =
    let xs = c.self.inside.items.items in
    let same : xs ≡ c.args.self.now.places = ap (λ (v : Numbered). v.places) c.self.view_is in
    let low : c.in-Ok.at < length xs = search rules in
    absurd (c.requires.fresh (subst (λ (l : List NumberedPlace). Among l c.args.place.now) same (found_at xs c.args.place.now c.in-Ok.at low c.in-Ok.ensures.ok)))

pub returns-in-Err-clause-before : goal.returns-in-Err-clause-before
returns-in-Err-clause-before c =
    let xs = c.self.inside.items.items in
    let same : xs ≡ c.args.self.now.places = ap (λ (v : Numbered). v.places) c.self.view_is in
    let p = c.in-Err.ensures.position (searchable xs c.args.place.now c.self.invariant.0) in
    subst (λ (l : List NumberedPlace). AllWithin (λ y. IsBefore y c.args.place.now) l 0 c.in-Err.at) same (less_before_all xs c.args.place.now c.in-Err.at p.0)

pub returns-in-Err-clause-after : goal.returns-in-Err-clause-after
returns-in-Err-clause-after c =
    let xs = c.self.inside.items.items in
    let same : xs ≡ c.args.self.now.places = ap (λ (v : Numbered). v.places) c.self.view_is in
    let p = c.in-Err.ensures.position (searchable xs c.args.place.now c.self.invariant.0) in
    subst (λ (l : List NumberedPlace). AllWithin (IsBefore c.args.place.now) l c.in-Err.at (length l)) same (greater_after_all xs c.args.place.now c.in-Err.at p.1)
