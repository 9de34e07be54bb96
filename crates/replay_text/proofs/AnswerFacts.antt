-- What the code answers, and what the rules say; the texts of refusals, and the lines of the error output.
use Rattle.std.proofs.Common.{◌≡◌, ℕ, List, ◌∷◌, [], ◌++◌, Ok, Err, refl, sym, ap, append_assoc}
use Rattle.std.specs.Prelude.{codes}
use Rattle.std.specs.Fmt.{decimal}
use Rattle.std.proofs.lemmas.Bool.{false≢true}
use Rattle.block_intake.specs.declared.answers.Offered.TheVariants as answer
use Rattle.block_intake.specs.declared.answers.OfferFault.TheVariants as fault
use Rattle.relay_model.specs.declared.answers.Conflict.{Conflict}
use Rattle.fire_lines.specs.declared.faults.LineFault.{LineFault}
use Rattle.steps_command.specs.ErrorLines.{fault_line, kind_word, refusal_line}
use Rattle.step_text.specs.declared.refusals.Refusal.TheVariants as refused
use Rattle.replay_text.specs.Laws.{AnswersAreTold, TextsAreErrors, error_line}
use Rattle.replay_text.specs.Lines.{answer_lines}
use Rattle.replay_text.specs.Texts.{bad_line_parts, conflict_parts, history_full_parts, wait_full_parts}

pub answers_are_told : AnswersAreTold
answers_are_told r num id said (Ok (answer.Admitted from count dropped)) is some = sym (ap (answer_lines r num id) is)
answers_are_told r num id said (Ok answer.Duplicate) is some = sym (ap (answer_lines r num id) is)
answers_are_told r num id said (Ok answer.Waiting) is some = sym (ap (answer_lines r num id) is)
answers_are_told r num id said (Ok answer.Early) is some = sym (ap (answer_lines r num id) is)
answers_are_told r num id said (Ok answer.Stale) is some = sym (ap (answer_lines r num id) is)
answers_are_told r num id said (Err (fault.Closed len)) is some = sym (ap (answer_lines r num id) is)
answers_are_told r num id said (Err (fault.Conflict c)) is some = sym (ap (answer_lines r num id) is)
answers_are_told r num id said (Err (fault.HistoryFull len need)) is some = sym (ap (answer_lines r num id) is)
answers_are_told r num id said (Err (fault.WaitFull blocks bytes)) is some = sym (ap (answer_lines r num id) is)
answers_are_told r num id said (Err fault.Mem) is some = absurd (false≢true (sym some))

bad_lines : (f : LineFault) → error_line (bad_line_parts f) ≡ fault_line f
bad_lines f = simp append_assoc refl

-- two named blocks after words, one after another
named_twice : (a k b n i d m j : List ℕ) → a ++ (k ++ (b ++ (n ++ 32 ∷ (i ++ (d ++ (m ++ 32 ∷ (j ++ 10 ∷ []))))))) ≡ a ++ k ++ b ++ (n ++ 32 ∷ i) ++ d ++ (m ++ 32 ∷ j) ++ 10 ∷ []
named_twice a k b n i d m j = simp append_assoc refl

conflicts : (c : Conflict) → error_line (conflict_parts c) ≡ refusal_line (refused.Contradicts c)
conflicts c = named_twice (codes "fire: conflict ") (kind_word c.kind) (codes " held ") (decimal c.held.num) c.held.id (codes " offered ") (decimal c.offered.num) c.offered.id

full : (len need : ℕ) → error_line (history_full_parts len need) ≡ refusal_line (refused.HistoryFull len need)
full len need = simp append_assoc refl

waits : (blocks bytes : ℕ) → error_line (wait_full_parts blocks bytes) ≡ refusal_line (refused.WaitFull blocks bytes)
waits blocks bytes = simp append_assoc refl

pub texts_are_errors : TextsAreErrors
texts_are_errors = record {
  bad_line = bad_lines;
  conflict = conflicts;
  history_full = full;
  wait_full = waits;
  kind_clash = λ held offered. refl;
}
