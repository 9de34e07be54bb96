use Rattle.std.proofs.Common.{rules, ◌≡◌, ◌<◌, ◌≤◌, List, length, take, map, sym, subst, ap, ◌∙◌, ltb}
use Rattle.std.specs.List.{AllByRecursion, filter}
use Rattle.std.proofs.lemmas.List.{take_all}
use Rattle.stored_blocks.specs.declared.places.NumberedPlace.{NumberedPlace}
use Rattle.stored_blocks.specs.Places.{Numbered}
use Rattle.stored_blocks.proofs.PlaceLists.{below_all, below_front}
use Rattle.stored_blocks.proofs.places.PlacesByNumber.below.Goals as goal

pub returns-then-x-limit : goal.returns-then-x-limit
returns-then-x-limit c =
    let xs = c.self.inside.items.items in
    let n = c.loop-index.index in
    let same : xs ≡ c.args.self.now.places = ap (λ (v : Numbered). v.places) c.self.view_is in
    let low : n < length xs = search rules in
    let all = subst (λ (l : List NumberedPlace). AllByRecursion (λ x. x.num < c.args.limit) (take n l)) (sym same) c.loop-index.invariant.low in
    let f = below_front xs c.args.limit n c.in-Some.x.now c.self.invariant.0 all low c.in-Some.ensures.lookup c.if-x-limit.true in
    c.loop-index.invariant.places
    ∙ ap (λ (l : List NumberedPlace). map (λ x. x.place) (take n l)) (sym same)
    ∙ ap (map (λ (x : NumberedPlace). x.place)) (sym f)
    ∙ ap (λ (l : List NumberedPlace). map (λ x. x.place) (filter (λ x. ltb x.num c.args.limit) l)) same

pub returns : goal.returns
returns c =
    let xs = c.args.self.now.places in
    let n = c.loop-index.index in
    let over : length xs ≤ n = search rules in
    let whole = take_all n xs over in
    let all = subst (AllByRecursion (λ (x : NumberedPlace). x.num < c.args.limit)) whole c.loop-index.invariant.low in
    c.loop-index.invariant.places ∙ ap (map (λ (x : NumberedPlace). x.place)) (whole ∙ sym (below_all xs c.args.limit all))
