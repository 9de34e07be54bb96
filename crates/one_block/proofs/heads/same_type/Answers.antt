use Rattle.std.proofs.Common.{refl, sym, ap, ◌∙◌, Some}
use Rattle.one_block.proofs.public.HeadFacts.{differ}
use Rattle.one_block.proofs.heads.same_type.Goals as goal

pub returns-in_ok-held : goal.returns-in_ok-held
returns-in_ok-held c = record {
  found_is = refl;
  kept_is = ap Some (sym c.in_ok-held.ensures);
  other = λ same. differ c.args.held.now c.args.offered (sym c.eq.ensures ∙ c.if-eq.false) (sym c.in_ok-held.ensures ∙ same);
}
