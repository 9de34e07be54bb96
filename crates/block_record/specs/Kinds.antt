-- When two nodes say the same of themselves.
use Rattle.std.specs.Prelude.{Bool, true, false, ◌&&◌}
use Rattle.std.specs.Str.{bytes_eq}
use Rattle.block_record.specs.declared.blocks.Kind.{Kind}
use Rattle.block_record.specs.declared.blocks.Version.{Version}
use Rattle.block_record.specs.declared.blocks.Version.TheVariants.{V1, V3}

-- whether two versions are one
abbrev pub same_version : Version → Version → Bool
same_version V1 V1 = true
same_version V3 V3 = true
same_version V1 V3 = false
same_version V3 V1 = false

-- whether two kinds are equal: one version and one block type
abbrev pub same_kind : Kind → Kind → Bool
same_kind a b = same_version a.version b.version && bytes_eq a.block_type b.block_type
