use Rattle.std.proofs.Common.{◌≡◌, ◌+◌, Some, ap, sym, ◌∙◌, cond, List, ℕ}
use Rattle.std.specs.List.{each_same}
use Rattle.std.specs.HashMap.{get}
use Rattle.block_record.specs.Ids.{same_id, same_id-true}
use Rattle.wait_room.specs.declared.children.Children.{Children}
use Rattle.wait_room.specs.Children.{count_of}
use Rattle.wait_room.proofs.CountFacts.{counted_more}
use Rattle.wait_room.proofs.children.add_child.Goals as goal

pub returns-clause-ok : goal.returns-clause-ok
returns-clause-ok c =
    let k = c.in_ok-parent.ensures.cases in
    let same : c.in_ok-parent.parent ≡ c.args.parent.now = sym k.3 ∙ each_same _ _ k.4.0 ∙ k.2 in
    let put : Children = record { count = c.count_children-count.result + 1; latest = c.in_ok-latest.latest } in
    counted_more count_of same_id (get same_id c.args.children.now) (get same_id c.insert.new.self) c.args.parent.now (Some put) (same_id-true c.args.parent.now)
    (λ q. c.in_ok-insert.ensures.updates.0 q ∙ ap (λ (p : List ℕ). cond (same_id p q) (Some put) (get same_id c.args.children.now q)) same)
    (ap (λ n. n + 1) c.count_children-count.ensures)
