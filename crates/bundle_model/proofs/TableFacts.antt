-- The table, by computing.
use Rattle.std.proofs.Common.{refl}
use Rattle.block_record.specs.Ids.{same_id}
use Rattle.bundle_model.specs.Tables.{BundleTable}

pub bundles_by_table : BundleTable
unfolding same_id
bundles_by_table = record {
  due = refl;
  both = refl;
  thousand = refl;
  gap = refl;
  thousands = refl;
  planned = refl;
  stored = refl;
  begun = refl;
  dead = refl;
  late = refl;
}
