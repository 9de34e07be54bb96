use Rattle.std.proofs.Common.{◌≡◌, ◌++◌, ℕ, List, [], IsTrue, sym, ap, subst, ◌∙◌, arith, refl, false}
use Rattle.std.specs.Option.{is_some}
use Rattle.std.proofs.lemmas.List.{nil_from_length}
use Rattle.block_record.specs.Words.{Answers}
use Rattle.dbin_file.specs.Reader.{ReaderState, found}
use Rattle.dbin_file.proofs.HeaderFacts.{finds, keeps, read_at_once, cut_short_past, nothing_taken}
use Rattle.dbin_file.proofs.reader.DbinReader.take_piece.Goals as goal

pub returns-then-is_some-clause-read : goal.returns-then-is_some-clause-read
returns-then-is_some-clause-read c = λ text is apart.
    let named : IsTrue (is_some c.args.self.now.block_type) = ap (λ (s : ReaderState). is_some s.block_type) (sym c.self.view_is) ∙ sym c.is_some.ensures ∙ c.if-is_some.true in
    let f = finds text c.args.piece.now c.args.self.now is c.requires named in
    record {
      answer = subst (Answers c.take_messages.result) (sym f.fault_is) (c.take_messages.ensures.answer apart);
      state = c.take_messages.ensures.state apart ∙ f.state_is;
      more = (found c.args.self.now c.args.piece.now).0;
      further = f.further;
      grows = c.take_messages.ensures.grows apart;
    }

pub returns-then-is_some-clause-memory : goal.returns-then-is_some-clause-memory
returns-then-is_some-clause-memory c = λ text is mem.
    let named : IsTrue (is_some c.args.self.now.block_type) = ap (λ (s : ReaderState). is_some s.block_type) (sym c.self.view_is) ∙ sym c.is_some.ensures ∙ c.if-is_some.true in
    cut_short_past text c.args.piece.now c.args.self.now _ _ _ is c.requires named (c.take_messages.ensures.memory mem)

pub returns-then-is_empty-clause-read : goal.returns-then-is_empty-clause-read
returns-then-is_empty-clause-read c = λ text is apart.
    let unnamed : is_some c.args.self.now.block_type ≡ false = ap (λ (s : ReaderState). is_some s.block_type) (sym c.self.view_is) ∙ sym c.is_some.ensures ∙ c.if-is_some.false in
    let k = keeps text c.args.self.now is c.requires unnamed in
    let empty : c.self.inside.partial.items ≡ [] = nil_from_length _ (grind (arith, c.is_empty.ensures, c.if-is_empty.true)) in
    let none : text ≡ [] = sym k.partial_is ∙ ap (λ (s : ReaderState). s.partial) (sym c.self.view_is) ∙ empty in
    read_at_once text c.args.piece.now c.args.piece.now c.args.self.now _ _ _ _ k (ap (λ (l : List ℕ). l ++ c.args.piece.now) (sym none)) (c.begin.ensures.answer apart) (c.begin.ensures.state apart) (c.begin.ensures.grows apart)

pub returns-then-is_empty-clause-memory : goal.returns-then-is_empty-clause-memory
returns-then-is_empty-clause-memory c = λ text is mem.
    let unnamed : is_some c.args.self.now.block_type ≡ false = ap (λ (s : ReaderState). is_some s.block_type) (sym c.self.view_is) ∙ sym c.is_some.ensures ∙ c.if-is_some.false in
    let k = keeps text c.args.self.now is c.requires unnamed in
    let empty : c.self.inside.partial.items ≡ [] = nil_from_length _ (grind (arith, c.is_empty.ensures, c.if-is_empty.true)) in
    let none : text ≡ [] = sym k.partial_is ∙ ap (λ (s : ReaderState). s.partial) (sym c.self.view_is) ∙ empty in
    c.begin.ensures.memory text c.args.piece.now (ap (λ (l : List ℕ). l ++ c.args.piece.now) (sym none)) k.header mem

pub returns-in_err-extend_from_slice-clause-memory : goal.returns-in_err-extend_from_slice-clause-memory
returns-in_err-extend_from_slice-clause-memory c = λ text is mem.
    let unnamed : is_some c.args.self.now.block_type ≡ false = ap (λ (s : ReaderState). is_some s.block_type) (sym c.self.view_is) ∙ sym c.is_some.ensures ∙ c.if-is_some.false in
    let k = keeps text c.args.self.now is c.requires unnamed in
    nothing_taken text c.args.piece.now c.self.inside.block_type c.self.inside.at c.args.out.now.items k.header (ap (λ (s : ReaderState). s.block_type) c.self.view_is ∙ k.type_is) (ap (λ (s : ReaderState). s.at) c.self.view_is ∙ k.at_is)

pub returns-clause-read : goal.returns-clause-read
returns-clause-read c = λ text is apart.
    let unnamed : is_some c.args.self.now.block_type ≡ false = ap (λ (s : ReaderState). is_some s.block_type) (sym c.self.view_is) ∙ sym c.is_some.ensures ∙ c.if-is_some.false in
    let k = keeps text c.args.self.now is c.requires unnamed in
    let joined : c.as_slice.result.now ≡ text ++ c.args.piece.now =
    c.as_slice.ensures.value ∙ (rw c.replace-text.ensures.value (c.in_ok-extend_from_slice.ensures.items ∙ ap (λ (l : List ℕ). l ++ c.args.piece.now) (ap (λ (s : ReaderState). s.partial) c.self.view_is ∙ k.partial_is))) in
    read_at_once text c.args.piece.now c.as_slice.result.now c.args.self.now _ _ _ _ k joined (c.begin-2.ensures.answer apart) (c.begin-2.ensures.state apart) (c.begin-2.ensures.grows apart)

pub returns-clause-memory : goal.returns-clause-memory
returns-clause-memory c = λ text is mem.
    let unnamed : is_some c.args.self.now.block_type ≡ false = ap (λ (s : ReaderState). is_some s.block_type) (sym c.self.view_is) ∙ sym c.is_some.ensures ∙ c.if-is_some.false in
    let k = keeps text c.args.self.now is c.requires unnamed in
    let joined : c.as_slice.result.now ≡ text ++ c.args.piece.now =
    c.as_slice.ensures.value ∙ (rw c.replace-text.ensures.value (c.in_ok-extend_from_slice.ensures.items ∙ ap (λ (l : List ℕ). l ++ c.args.piece.now) (ap (λ (s : ReaderState). s.partial) c.self.view_is ∙ k.partial_is))) in
    c.begin-2.ensures.memory text c.args.piece.now joined k.header mem
