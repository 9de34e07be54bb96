-- A text with a further piece gives the blocks that it gives without, and perhaps more.
use Rattle.std.proofs.Common.{◌≡◌, ℕ, List, [], Option, None, Some, refl, sym, ◌∙◌, ap}
use Rattle.std.proofs.lemmas.List.{append-nil}
use Rattle.fire_lines.specs.declared.faults.LineFault.{LineFault}
use Rattle.fire_lines.specs.Text.{received}
use Rattle.fire_lines.specs.Laws.{GoesOn, TextGoesOn}
use Rattle.fire_lines.proofs.PieceFacts.{received-append, received-stopped}

by_fault : (max : ℕ) (text piece : List ℕ) (fault : Option LineFault) → (received max text).fault ≡ fault → GoesOn max text piece
by_fault max text piece None good = record {
  more = _;
  further = ap (λ r. r.slips) (received-append max text piece good);
  stopped = λ f bad. received-stopped max text piece f bad;
}
by_fault max text piece (Some f) bad = record {
  more = [];
  further = ap (λ r. r.slips) (received-stopped max text piece f bad) ∙ sym (append-nil (received max text).slips);
  stopped = λ g is. received-stopped max text piece g is;
}

pub text_goes_on : TextGoesOn
text_goes_on max text piece = by_fault max text piece (received max text).fault refl
