-- What the lines of a replay say, as statements.
use Rattle.std.specs.Prelude.{ℕ, ◌≡◌, false, List, ◌∷◌, ◌++◌, codes, Result}
use Rattle.std.specs.List.{flat_map, AllByRecursion}
use Rattle.block_intake.specs.Answers.{IsAnswer, is_mem}
use Rattle.block_intake.specs.declared.answers.Offered.{Offered}
use Rattle.block_intake.specs.declared.answers.OfferFault.{OfferFault}
use Rattle.check_command.specs.Report.{clash_line}
use Rattle.fire_lines.specs.declared.faults.LineFault.{LineFault}
use Rattle.relay_model.specs.declared.answers.Conflict.{Conflict}
use Rattle.relay_model.specs.Offers.{Answer}
use Rattle.reply_text.specs.Replies.{Reply, reply_line, reply_text}
use Rattle.reply_text.specs.Values.{IsValue}
use Rattle.step_text.specs.declared.refusals.Refusal.TheVariants as refused
use Rattle.steps_command.specs.ErrorLines.{fault_line, refusal_line}
use Rattle.replay_text.specs.Lines.{answer_lines, offer_lines}
use Rattle.replay_text.specs.Replies.{client_lines}
use Rattle.replay_text.specs.Texts.{line_of, bad_line_parts, conflict_parts, history_full_parts, kind_clash_parts, wait_full_parts}

-- of a text of replies each line has the client's name before it, and nothing else is added
abbrev pub RepliesAreLines : Type 0
RepliesAreLines = (c : List ℕ) (replies : List Reply) → AllByRecursion IsValue replies → client_lines c (reply_text replies) ≡ flat_map (λ r. (c ++ codes " ") ++ reply_line r) replies

-- the lines of what the code answers are those of what the rules say
abbrev pub AnswersAreTold : Type 0
AnswersAreTold = (r : List ℕ) (num : ℕ) (id : List ℕ) (said : Answer) (answer : Result Offered OfferFault)
    → IsAnswer said answer → is_mem answer ≡ false → offer_lines r num id answer ≡ answer_lines r num id said

-- the program's line of a refusal, on its error output
abbrev pub error_line : List (List ℕ) → List ℕ
error_line parts = line_of (codes "fire: " ∷ parts)

-- the texts of refusals are those that the program's commands write on the error output
pub record TextsAreErrors : Type 0 where
  pub bad_line : (f : LineFault) → error_line (bad_line_parts f) ≡ fault_line f
  pub conflict : (c : Conflict) → error_line (conflict_parts c) ≡ refusal_line (refused.Contradicts c)
  pub history_full : (len need : ℕ) → error_line (history_full_parts len need) ≡ refusal_line (refused.HistoryFull len need)
  pub wait_full : (blocks bytes : ℕ) → error_line (wait_full_parts blocks bytes) ≡ refusal_line (refused.WaitFull blocks bytes)
  pub kind_clash : (held offered : List ℕ) → error_line (kind_clash_parts held offered) ≡ clash_line held offered
