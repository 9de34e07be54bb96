use Rattle.std.proofs.Common.{refl}
use Rattle.shelf_check.specs.Merged.{IsBadBundle, IsRefusedBundle}
use Rattle.shelf_check.proofs.MergedFacts.{bundle_read}
use Rattle.shelf_check.proofs.RefusalFacts.{refused_read}
use Rattle.shelf_check.proofs.merged.check_next.Goals as goal

pub returns-in-Ok-clause-answer : goal.returns-in-Ok-clause-answer
returns-in-Ok-clause-answer g c =
    let on = c.in-Ok.ensures.answer in
    bundle_read c.args.size (g.S.Shelf.files c.args.shelf.now) c.args.base c.args.name.now on.text c.args.read _ c.in-Ok.next on.there on.read refl refl c.saturating_add.ensures

pub returns-clause-answer : goal.returns-clause-answer
returns-clause-answer g c =
    refused_read (λ told_name f. IsRefusedBundle c.args.size (g.S.Shelf.files c.args.shelf.now) c.args.base c.args.name.now c.args.read told_name f) (IsBadBundle c.args.size (g.S.Shelf.files c.args.shelf.now) c.args.read.kept c.args.read.tip c.args.base c.args.name.now)
    c.args.name.now (g.S.Shelf.shelf_faults c.args.shelf.now) (g.S.Shelf.shelf_faults c.check_bundle.new.shelf) c.in-Err.fault c.with_file.result c.with_file.ensures c.in-Err.ensures.answer (λ f bad. record { told_is = refl; bad = bad })
