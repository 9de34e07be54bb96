use Rattle.std.proofs.Common.{rules, refl}
use Rattle.one_block.proofs.PutFacts.{holds_slip}
use Rattle.one_block.proofs.put.compare.Goals as goal

pub returns-then-eq : goal.returns-then-eq
returns-then-eq c = record {
  held = c.in-Ok.read.slip;
  holds = holds_slip c.args.reader.now c.args.file c.args.text.now c.in_ok-copy_reader.field-0 c.in-Ok.read c.in_ok-copy_reader.ensures c.in-Ok.ensures;
  same = search rules;
}

pub returns-in-Ok : goal.returns-in-Ok
returns-in-Ok c = record {
  holds = holds_slip c.args.reader.now c.args.file c.args.text.now c.in_ok-copy_reader.field-0 c.in-Ok.read c.in_ok-copy_reader.ensures c.in-Ok.ensures;
  offered_is = refl;
  other = search rules;
}
