use Rattle.std.proofs.Common.{◌≡◌, ◌++◌, ◌+◌, ◌<◌, ◌^◌, ◌∷◌, [], ℕ, List, Some, length, IsTrue, drop, sym, ap, ◌∙◌, arith}
use Rattle.std.proofs.lemmas.List.{append-nil, take_rest}
use Rattle.dbin_file.specs.declared.faults.DbinFault.TheVariants.{MessageTooLong}
use Rattle.dbin_file.specs.Messages.{is_partial, is_too_long, has_message, message_length, IsWithin}
use Rattle.dbin_file.specs.Contents.{told}
use Rattle.dbin_file.specs.Reader.{ReaderState}
use Rattle.dbin_file.proofs.MessageFacts.{part_empty, has}
use Rattle.dbin_file.proofs.PieceFacts.{brings_part, brings_too_long, brings_whole, answers}
use Rattle.dbin_file.proofs.reader.DbinReader.go_on.Goals as goal

pub invariant_of-self-in-TooLong : goal.invariant_of-self-in-TooLong
invariant_of-self-in-TooLong c =
    part_empty _ _ c.clear.ensures.items

pub slice_bounds-new-count : goal.slice_bounds-new-count
slice_bounds-new-count c =
    let is : IsTrue (has_message c.extend_from_slice.new.self.items) = rw (← c.as_slice.ensures.value) c.in-Whole.ensures in
    rw c.deref.ensures.value (has c.extend_from_slice.new.self.items is).four

pub slice_bounds-new-start : goal.slice_bounds-new-start
slice_bounds-new-start c =
    let is : IsTrue (has_message c.extend_from_slice.new.self.items) = rw (← c.as_slice.ensures.value) c.in-Whole.ensures in
    rw c.deref.ensures.value (has c.extend_from_slice.new.self.items is).four

pub invariant_of-self-in_err-message-in-Whole : goal.invariant_of-self-in_err-message-in-Whole
invariant_of-self-in_err-message-in-Whole c =
    part_empty _ _ c.clear-in-Whole.ensures.items

pub invariant_of-self-in_err-push-in-Whole : goal.invariant_of-self-in_err-push-in-Whole
invariant_of-self-in_err-push-in-Whole c =
    part_empty _ _ c.clear-in-Whole.ensures.items

pub invariant_of-self-in-Whole : goal.invariant_of-self-in-Whole
invariant_of-self-in-Whole c =
    part_empty _ _ c.clear-in-Whole.ensures.items

pub returns-in-Part-clause-answer : goal.returns-in-Part-clause-answer
returns-in-Part-clause-answer c =
    let here = c.in_ok-extend_from_slice.ensures.items ∙ ap (λ (l : List ℕ). l ++ c.args.front.now) (ap (λ (s : ReaderState). s.partial) c.self.view_is) in
    let fits : c.args.self.now.at < 2 ^ 64 = rw (← c.self.view_is) (let z : c.self.inside.at < 2 ^ 64 = grind (arith, c.self.ranges) in z) in
    let is : IsTrue (is_partial c.extend_from_slice.new.self.items) = rw (← c.as_slice.ensures.value) c.in-Part.ensures in
    let b = brings_part c.args.self.now c.args.front.now c.extend_from_slice.new.self.items here is c.requires.good fits in
    λ apart. b.fault_is

pub returns-in-Part-clause-state : goal.returns-in-Part-clause-state
returns-in-Part-clause-state c =
    let here = c.in_ok-extend_from_slice.ensures.items ∙ ap (λ (l : List ℕ). l ++ c.args.front.now) (ap (λ (s : ReaderState). s.partial) c.self.view_is) in
    let fits : c.args.self.now.at < 2 ^ 64 = rw (← c.self.view_is) (let z : c.self.inside.at < 2 ^ 64 = grind (arith, c.self.ranges) in z) in
    let is : IsTrue (is_partial c.extend_from_slice.new.self.items) = rw (← c.as_slice.ensures.value) c.in-Part.ensures in
    let b = brings_part c.args.self.now c.args.front.now c.extend_from_slice.new.self.items here is c.requires.good fits in
    λ apart. ap (λ (s : ReaderState). record s { partial = c.extend_from_slice.new.self.items }) c.self.view_is ∙ b.state_is

pub returns-in-TooLong-clause-answer : goal.returns-in-TooLong-clause-answer
returns-in-TooLong-clause-answer c =
    let here = c.in_ok-extend_from_slice.ensures.items ∙ ap (λ (l : List ℕ). l ++ c.args.front.now) (ap (λ (s : ReaderState). s.partial) c.self.view_is) in
    let fits : c.args.self.now.at < 2 ^ 64 = rw (← c.self.view_is) (let z : c.self.inside.at < 2 ^ 64 = grind (arith, c.self.ranges) in z) in
    let is : IsTrue (is_too_long c.extend_from_slice.new.self.items) = rw (← c.as_slice.ensures.value) c.in-TooLong.ensures.0 in
    let long : c.in-TooLong.length ≡ message_length c.extend_from_slice.new.self.items = c.in-TooLong.ensures.1 ∙ ap message_length c.as_slice.ensures.value in
    let b = brings_too_long c.args.self.now c.args.front.now c.extend_from_slice.new.self.items c.in-TooLong.length here is long fits in
    let at : c.self.inside.at ≡ c.args.self.now.at = ap (λ (s : ReaderState). s.at) c.self.view_is in
    λ apart. answers _ _ _ c.stop.ensures.answer (b.fault_is ∙ ap (λ (n : ℕ). Some (MessageTooLong n c.in-TooLong.length)) (sym at))

pub returns-in-TooLong-clause-state : goal.returns-in-TooLong-clause-state
returns-in-TooLong-clause-state c =
    let here = c.in_ok-extend_from_slice.ensures.items ∙ ap (λ (l : List ℕ). l ++ c.args.front.now) (ap (λ (s : ReaderState). s.partial) c.self.view_is) in
    let fits : c.args.self.now.at < 2 ^ 64 = rw (← c.self.view_is) (let z : c.self.inside.at < 2 ^ 64 = grind (arith, c.self.ranges) in z) in
    let is : IsTrue (is_too_long c.extend_from_slice.new.self.items) = rw (← c.as_slice.ensures.value) c.in-TooLong.ensures.0 in
    let long : c.in-TooLong.length ≡ message_length c.extend_from_slice.new.self.items = c.in-TooLong.ensures.1 ∙ ap message_length c.as_slice.ensures.value in
    let b = brings_too_long c.args.self.now c.args.front.now c.extend_from_slice.new.self.items c.in-TooLong.length here is long fits in
    let at : c.self.inside.at ≡ c.args.self.now.at = ap (λ (s : ReaderState). s.at) c.self.view_is in
    λ apart. c.stop.ensures.state ∙ ap (λ (s : ReaderState). record s { fault = Some (MessageTooLong c.self.inside.at c.in-TooLong.length); partial = [] }) c.self.view_is ∙ ap (λ (n : ℕ). record c.args.self.now { fault = Some (MessageTooLong n c.in-TooLong.length); partial = [] }) at ∙ b.state_is

pub returns-in-TooLong-clause-grows : goal.returns-in-TooLong-clause-grows
returns-in-TooLong-clause-grows c =
    let here = c.in_ok-extend_from_slice.ensures.items ∙ ap (λ (l : List ℕ). l ++ c.args.front.now) (ap (λ (s : ReaderState). s.partial) c.self.view_is) in
    let fits : c.args.self.now.at < 2 ^ 64 = rw (← c.self.view_is) (let z : c.self.inside.at < 2 ^ 64 = grind (arith, c.self.ranges) in z) in
    let is : IsTrue (is_too_long c.extend_from_slice.new.self.items) = rw (← c.as_slice.ensures.value) c.in-TooLong.ensures.0 in
    let long : c.in-TooLong.length ≡ message_length c.extend_from_slice.new.self.items = c.in-TooLong.ensures.1 ∙ ap message_length c.as_slice.ensures.value in
    let b = brings_too_long c.args.self.now c.args.front.now c.extend_from_slice.new.self.items c.in-TooLong.length here is long fits in
    let at : c.self.inside.at ≡ c.args.self.now.at = ap (λ (s : ReaderState). s.at) c.self.view_is in
    λ apart. sym (ap (λ (l : List (List ℕ)). c.args.out.now.items ++ l) b.messages_are ∙ append-nil c.args.out.now.items)

pub returns-in_ok-push-in-Whole-clause-answer : goal.returns-in_ok-push-in-Whole-clause-answer
returns-in_ok-push-in-Whole-clause-answer c =
    let here = c.in_ok-extend_from_slice.ensures.items ∙ ap (λ (l : List ℕ). l ++ c.args.front.now) (ap (λ (s : ReaderState). s.partial) c.self.view_is) in
    let is : IsTrue (has_message c.extend_from_slice.new.self.items) = rw (← c.as_slice.ensures.value) c.in-Whole.ensures in
    let within : IsWithin c.extend_from_slice.new.self.items = rw here c.requires.within in
    let b = brings_whole c.args.self.now c.args.front.now c.extend_from_slice.new.self.items here is within c.requires.good in
    λ apart. b.fault_is

pub returns-in_ok-push-in-Whole-clause-state : goal.returns-in_ok-push-in-Whole-clause-state
returns-in_ok-push-in-Whole-clause-state c =
    let here = c.in_ok-extend_from_slice.ensures.items ∙ ap (λ (l : List ℕ). l ++ c.args.front.now) (ap (λ (s : ReaderState). s.partial) c.self.view_is) in
    let is : IsTrue (has_message c.extend_from_slice.new.self.items) = rw (← c.as_slice.ensures.value) c.in-Whole.ensures in
    let within : IsWithin c.extend_from_slice.new.self.items = rw here c.requires.within in
    let b = brings_whole c.args.self.now c.args.front.now c.extend_from_slice.new.self.items here is within c.requires.good in
    let at : c.saturating_add-self-inside.result ≡ told (c.args.self.now.at + length c.extend_from_slice.new.self.items) =
    (let sum : c.saturating_add-self-inside.result ≡ told (c.self.inside.at + length c.extend_from_slice.new.self.items) = grind (arith, c.saturating_add-self-inside.ensures, c.len-size.ensures) in
    sum ∙ ap (λ (n : ℕ). told (n + length c.extend_from_slice.new.self.items)) (ap (λ (s : ReaderState). s.at) c.self.view_is)) in
    λ apart. ap (λ (s : ReaderState). record s { at = c.saturating_add-self-inside.result; partial = c.clear-in-Whole.new.self.items }) c.self.view_is
    ∙ ap (λ (n : ℕ). record c.args.self.now { at = n; partial = c.clear-in-Whole.new.self.items }) at
    ∙ ap (λ (l : List ℕ). record c.args.self.now { at = told (c.args.self.now.at + length c.extend_from_slice.new.self.items); partial = l }) c.clear-in-Whole.ensures.items
    ∙ b.state_is

pub returns-in_ok-push-in-Whole-clause-grows : goal.returns-in_ok-push-in-Whole-clause-grows
returns-in_ok-push-in-Whole-clause-grows c =
    let here = c.in_ok-extend_from_slice.ensures.items ∙ ap (λ (l : List ℕ). l ++ c.args.front.now) (ap (λ (s : ReaderState). s.partial) c.self.view_is) in
    let is : IsTrue (has_message c.extend_from_slice.new.self.items) = rw (← c.as_slice.ensures.value) c.in-Whole.ensures in
    let within : IsWithin c.extend_from_slice.new.self.items = rw here c.requires.within in
    let b = brings_whole c.args.self.now c.args.front.now c.extend_from_slice.new.self.items here is within c.requires.good in
    let m : c.in_ok-message-in-Whole.field-0 ≡ drop 4 c.extend_from_slice.new.self.items = c.in_ok-message-in-Whole.ensures ∙ take_rest c.deref.result.now 4 ∙ ap (drop 4) c.deref.ensures.value in
    λ apart. c.in_ok-push-in-Whole.ensures.items ∙ ap (λ (x : List ℕ). c.args.out.now.items ++ (x ∷ [])) m ∙ ap (λ (l : List (List ℕ)). c.args.out.now.items ++ l) (sym b.messages_are)
