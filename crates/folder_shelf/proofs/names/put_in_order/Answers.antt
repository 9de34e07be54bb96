use Rattle.std.specs.Str.{bytes_eq}
use Rattle.std.proofs.lemmas.List.Filters.{dedup_is}
use Rattle.folder_shelf.proofs.SortedFacts.{sorted_of}
use Rattle.folder_shelf.proofs.names.put_in_order.Goals as goal

pub returns : goal.returns
returns c = sorted_of _ _ _ c.sort_unstable.ensures.permutation c.sort_unstable.ensures.sorted (dedup_is bytes_eq _ _ c.dedup.ensures.filtered)
