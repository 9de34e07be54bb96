use Rattle.std.proofs.Common.{◌≡◌, ◌++◌, Bool, Some, None, cond, sym, ap, ◌∙◌}
use Rattle.fire_lines.specs.Reader.{ReaderState}
use Rattle.fire_lines.proofs.FrontFacts.{tail_fault-passed_over, stays_passed_over, becomes_passed_over}
use Rattle.fire_lines.proofs.reader.LineReader.keep.Goals as goal

pub returns-then-self-clause-answer : goal.returns-then-self-clause-answer
returns-then-self-clause-answer c = λ tail is apart.
    let none : c.args.self.now.partial ≡ None = ap (λ (s : ReaderState). s.partial) (sym c.self.view_is) ∙ ap (λ (p : Bool). cond p None (Some c.self.inside.partial.items)) c.if-self.true in
    tail_fault-passed_over _ _ (tail ++ c.args.bytes.now) (stays_passed_over c.args.self.now tail c.args.bytes.now none is).0

pub returns-then-self-clause-state : goal.returns-then-self-clause-state
returns-then-self-clause-state c = λ tail is apart.
    let none : c.args.self.now.partial ≡ None = ap (λ (s : ReaderState). s.partial) (sym c.self.view_is) ∙ ap (λ (p : Bool). cond p None (Some c.self.inside.partial.items)) c.if-self.true in
    (stays_passed_over c.args.self.now tail c.args.bytes.now none is).1

pub returns-then-not-goes_on-clause-answer : goal.returns-then-not-goes_on-clause-answer
returns-then-not-goes_on-clause-answer c = λ tail is apart.
    let some : c.args.self.now.partial ≡ Some c.self.inside.partial.items = ap (λ (s : ReaderState). s.partial) (sym c.self.view_is) ∙ ap (λ (p : Bool). cond p None (Some c.self.inside.partial.items)) c.if-self.false in
    let isnt = sym c.goes_on.ensures ∙ c.if-not-goes_on.true in
    let isnt' = rw c.as_slice.ensures.value at isnt in
    tail_fault-passed_over _ _ (tail ++ c.args.bytes.now) (becomes_passed_over c.args.self.now tail c.args.bytes.now c.self.inside.partial.items some is isnt').0

pub returns-then-not-goes_on-clause-state : goal.returns-then-not-goes_on-clause-state
returns-then-not-goes_on-clause-state c = λ tail is apart.
    let some : c.args.self.now.partial ≡ Some c.self.inside.partial.items = ap (λ (s : ReaderState). s.partial) (sym c.self.view_is) ∙ ap (λ (p : Bool). cond p None (Some c.self.inside.partial.items)) c.if-self.false in
    let isnt = sym c.goes_on.ensures ∙ c.if-not-goes_on.true in
    let isnt' = rw c.as_slice.ensures.value at isnt in
    ap (λ (s : ReaderState). record s { partial = None }) c.self.view_is ∙ (becomes_passed_over c.args.self.now tail c.args.bytes.now c.self.inside.partial.items some is isnt').1
