-- The tables, by computing.
use Rattle.std.proofs.Common.{arith, ◌≡◌, ◌+◌, ◌++◌, ◌<◌, ℕ, [], ◌∷◌, codes, refl, ◌∙◌, ap}
use Rattle.std.specs.Fmt.{decimal}
use Rattle.std.proofs.lemmas.Fmt.{decimal_digit, decimal_step}
use Rattle.replay_text.specs.Texts.{line_of}
use Rattle.replay_text.specs.Tables.{ReplayTable, RefusalTable}

digit : (n : ℕ) → n < 10 → decimal n ≡ (48 + n) ∷ []
digit n small = decimal_digit n small

pub replay_by_table : ReplayTable
replay_by_table = record {
  loaded = (λ i. line_of (codes "load " ∷ digit 0 (omega arith) i ∷ codes " " ∷ digit 0 (omega arith) i ∷ codes " " ∷ digit 0 (omega arith) i ∷ codes " " ∷ digit 0 (omega arith) i ∷ []));
  admitted = (λ i. line_of (codes "r admitted " ∷ digit 0 (omega arith) i ∷ codes " " ∷ digit 1 (omega arith) i ∷ []) ++ []);
  duplicate = (λ i. line_of (codes "r duplicate " ∷ digit 1 (omega arith) i ∷ codes " a1" ∷ []));
  waiting = (λ i. line_of (codes "r waiting " ∷ digit 4 (omega arith) i ∷ codes " x4" ∷ []));
  replies = refl;
  not_yet = (λ i. line_of (codes "c notyet " ∷ digit 1 (omega arith) i ∷ []));
  over = refl;
  merged = (λ i. line_of (codes "merge " ∷ digit 1 (omega arith) i ∷ codes " " ∷ (decimal_step 99 (omega arith) (omega arith) ∙ ap (λ l. l ++ 57 ∷ []) (digit 9 (omega arith))) i ∷ []));
  none = refl;
  tail = refl;
}

pub refusals_by_table : RefusalTable
refusals_by_table = record {
  dropped = (λ i. line_of (codes "r admitted " ∷ digit 1 (omega arith) i ∷ codes " " ∷ digit 2 (omega arith) i ∷ [])
      ++ (line_of (codes "r dropped finality " ∷ digit 2 (omega arith) i ∷ codes " c2 " ∷ digit 5 (omega arith) i ∷ codes " b5" ∷ []) ++ []));
  conflicts = (λ i. line_of (codes "r fault conflict finality held " ∷ digit 2 (omega arith) i ∷ codes " c2 offered " ∷ digit 5 (omega arith) i ∷ codes " b5" ∷ []));
  history_full = (λ i. line_of (codes "r fault history full " ∷ digit 2 (omega arith) i ∷ codes " " ∷ digit 1 (omega arith) i ∷ []));
  wait_full = (λ i. line_of (codes "r fault wait full " ∷ digit 1 (omega arith) i ∷ codes " " ∷ digit 1 (omega arith) i ∷ []));
  closed = (λ i. line_of (codes "r fault closed " ∷ digit 4 (omega arith) i ∷ []));
  name_clash = (λ i. line_of (codes "r fault name clash " ∷ digit 2 (omega arith) i ∷ codes " c2 " ∷ digit 5 (omega arith) i ∷ codes " b5" ∷ []));
  kind_clash = refl;
  bad_field = (λ i. line_of (codes "r fault line " ∷ digit 2 (omega arith) i ∷ codes ": bad field " ∷ digit 1 (omega arith) i ∷ []));
  no_init = (λ i. line_of (codes "r fault line " ∷ digit 1 (omega arith) i ∷ codes ": no init" ∷ []));
  load_clash = refl;
  load_full = (λ i. line_of (codes "load fault history full " ∷ digit 2 (omega arith) i ∷ codes " " ∷ digit 1 (omega arith) i ∷ []));
  load_failed = refl;
}
