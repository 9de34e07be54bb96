use Rattle.folder_shelf.proofs.SortedFacts.{inside_sorted}
use Rattle.folder_shelf.proofs.folder.Folder.list.Goals as goal

pub returns-clause-names : goal.returns-clause-names
returns-clause-names g c = (
  c.put_in_order.new.names.items,
  c.in_ok-append.ensures.items,
  record {
    in_order = c.put_in_order.ensures.in_order;
    inside = inside_sorted c.args.folder.now c.in_ok-names.names.items c.put_in_order.new.names.items c.in_ok-names.ensures c.put_in_order.ensures;
    all = tt;
  },
)
