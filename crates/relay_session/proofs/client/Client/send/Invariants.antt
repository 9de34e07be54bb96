use Rattle.std.proofs.Common.{◌≡◌, ◌≤◌}
use Rattle.relay_session.specs.Serving.{IsServed}
use Rattle.relay_session.proofs.GivenFacts.{SoFar, steps_left}
use Rattle.relay_session.proofs.client.Client.send.Given as goal

abbrev pub invariant-loop-alloc : goal.invariant-loop-alloc
invariant-loop-alloc g l = record {
  served : IsServed l.relay l.self;
  so_far : SoFar l.relay l.fn.most l.left l.initial.self l.self l.initial.out.items l.out.items;
  files : g.S.Shelf.files l.shelf ≡ g.S.Shelf.files l.initial.shelf;
  staged : g.S.Shelf.staged l.shelf ≡ g.S.Shelf.staged l.initial.shelf;
  later : g.S.Shelf.shelf_faults l.initial.shelf ≤ g.S.Shelf.shelf_faults l.shelf;
}

abbrev pub decreases-loop-alloc : goal.decreases-loop-alloc
decreases-loop-alloc g l = steps_left l.self.progress.stage
