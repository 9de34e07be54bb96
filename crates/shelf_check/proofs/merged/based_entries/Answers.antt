use Rattle.one_block.specs.declared.file_faults.FileFault.TheVariants.{Bad}
use Rattle.shelf_check.specs.Merged.{IsOtherName}
use Rattle.shelf_check.proofs.MergedFacts.{other_name}
use Rattle.shelf_check.proofs.RefusalFacts.{refused_at}
use Rattle.shelf_check.proofs.merged.based_entries.Goals as goal

pub returns-in-None : goal.returns-in-None
returns-in-None c =
    refused_at (λ name f. IsOtherName c.args.size c.args.names.now name f) c.name-item.result 1 0 (Bad 0) c.bad_file.result c.bad_file.ensures
    (other_name c.args.size c.args.names.now c.loop-name.entries.items c.loop-name.name-index c.name-item.result c.loop-name-test.true c.name-item.is c.loop-name.invariant c.in-None.ensures)
