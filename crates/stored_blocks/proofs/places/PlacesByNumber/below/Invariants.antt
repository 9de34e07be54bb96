use Rattle.std.proofs.Common.{◌≡◌, ◌<◌, take, map}
use Rattle.std.specs.List.{AllByRecursion}
use Rattle.stored_blocks.proofs.places.PlacesByNumber.below.Given as goal

abbrev pub invariant-loop-index : goal.invariant-loop-index
invariant-loop-index l = record {
  places : l.places.items ≡ map (λ x. x.place) (take l.index l.self.places);
  low : AllByRecursion (λ x. x.num < l.limit) (take l.index l.self.places);
}
