use Rattle.std.proofs.Common.{sym, ap, subst, ◌∙◌, arith, refl}
use Rattle.block_record.specs.Words.{Answers}
use Rattle.dbin_file.specs.Reader.{ReaderState, IsCutShort, without_memory}
use Rattle.dbin_file.proofs.MessageFacts.{nothing_partial}
use Rattle.dbin_file.proofs.HeaderFacts.{whole, typed, type_text, begins_here, start_is, cut_short_here, nothing_taken}
use Rattle.dbin_file.proofs.reader.DbinReader.begin.Goals as goal

pub split_at-requires : goal.split_at-requires
split_at-requires c =
    let good = sym c.header_fault.ensures ∙ c.in_default.is in
    let size = sym c.header_size.ensures ∙ c.in-Some-header_size.is in
    let w = whole c.args.text.now c.in-Some-header_size.size size in
    w.within

pub slice_bounds-new-count : goal.slice_bounds-new-count
slice_bounds-new-count c =
    let good = sym c.header_fault.ensures ∙ c.in_default.is in
    let size = sym c.header_size.ensures ∙ c.in-Some-header_size.is in
    let w = whole c.args.text.now c.in-Some-header_size.size size in
    omega (arith, w.size, w.within, c.split_at.ensures.front_len)

pub slice_bounds-new-start : goal.slice_bounds-new-start
slice_bounds-new-start c =
    let good = sym c.header_fault.ensures ∙ c.in_default.is in
    let size = sym c.header_size.ensures ∙ c.in-Some-header_size.is in
    let w = whole c.args.text.now c.in-Some-header_size.size size in
    omega (arith, w.size, w.within, c.split_at.ensures.front_len)

pub unreachable-requires : goal.unreachable-requires
unreachable-requires c =
    let good = sym c.header_fault.ensures ∙ c.in_default.is in
    let size = sym c.header_size.ensures ∙ c.in-Some-header_size.is in
    let w = whole c.args.text.now c.in-Some-header_size.size size in
    let isnt = rw c.in_default-2.is at c.in_ok-block_type.ensures in
    isnt (rw (type_text c.args.text.now c.split_at.result.0.now _ c.in-Some-header_size.size w c.split_at.ensures.front refl) (typed c.args.text.now c.in-Some-header_size.size good w))

pub invariant_of-self-2 : goal.invariant_of-self-2
invariant_of-self-2 c =
    let empty = ap (λ (s : ReaderState). s.partial) c.self.view_is ∙ c.requires.empty in
    nothing_partial _ empty

pub take_messages-requires-clause-part : goal.take_messages-requires-clause-part
take_messages-requires-clause-part c =
    let empty = ap (λ (s : ReaderState). s.partial) c.self.view_is ∙ c.requires.empty in
    nothing_partial _ empty

pub returns-clause-answer : goal.returns-clause-answer
returns-clause-answer c =
    let good = sym c.header_fault.ensures ∙ c.in_default.is in
    let size = sym c.header_size.ensures ∙ c.in-Some-header_size.is in
    let w = whole c.args.text.now c.in-Some-header_size.size size in
    let empty = ap (λ (s : ReaderState). s.partial) c.self.view_is ∙ c.requires.empty in
    let fine = ap (λ (s : ReaderState). s.fault) c.self.view_is ∙ c.requires.good in
    let made = rw c.in-Some-2.is at c.in_ok-block_type.ensures in
    let b = begins_here c.args.text.now c.split_at.result.1.now c.in-Some-header_size.size c.in-Some-2.block_type c.self.inside.fault c.self.inside.partial.items good size
    (type_text c.args.text.now c.split_at.result.0.now c.in-Some-2.block_type c.in-Some-header_size.size w c.split_at.ensures.front made) fine empty c.split_at.ensures.back in
    λ apart. subst (Answers c.take_messages.result) (sym b.fault_is) (c.take_messages.ensures.answer apart)

pub returns-clause-state : goal.returns-clause-state
returns-clause-state c =
    let good = sym c.header_fault.ensures ∙ c.in_default.is in
    let size = sym c.header_size.ensures ∙ c.in-Some-header_size.is in
    let w = whole c.args.text.now c.in-Some-header_size.size size in
    let empty = ap (λ (s : ReaderState). s.partial) c.self.view_is ∙ c.requires.empty in
    let fine = ap (λ (s : ReaderState). s.fault) c.self.view_is ∙ c.requires.good in
    let made = rw c.in-Some-2.is at c.in_ok-block_type.ensures in
    let b = begins_here c.args.text.now c.split_at.result.1.now c.in-Some-header_size.size c.in-Some-2.block_type c.self.inside.fault c.self.inside.partial.items good size
    (type_text c.args.text.now c.split_at.result.0.now c.in-Some-2.block_type c.in-Some-header_size.size w c.split_at.ensures.front made) fine empty c.split_at.ensures.back in
    λ apart. c.take_messages.ensures.state apart ∙ b.state_is

pub returns-in-Some-clause-memory : goal.returns-in-Some-clause-memory
returns-in-Some-clause-memory c = λ before piece is header mem.
    subst (λ (r : ReaderState). IsCutShort before piece (without_memory r) c.args.out.now.items c.args.out.now.items) (sym c.stop.ensures.state)
    (nothing_taken before piece c.self.inside.block_type 0 c.args.out.now.items header (ap (λ (s : ReaderState). s.block_type) c.self.view_is ∙ c.requires.named) refl)

pub returns-in_err-extend_from_slice-clause-memory : goal.returns-in_err-extend_from_slice-clause-memory
returns-in_err-extend_from_slice-clause-memory c = λ before piece is header mem.
    nothing_taken before piece c.self.inside.block_type 0 c.args.out.now.items header (ap (λ (s : ReaderState). s.block_type) c.self.view_is ∙ c.requires.named) refl

pub returns-in_err-block_type-clause-memory : goal.returns-in_err-block_type-clause-memory
returns-in_err-block_type-clause-memory c = λ before piece is header mem.
    nothing_taken before piece c.self.inside.block_type 0 c.args.out.now.items header (ap (λ (s : ReaderState). s.block_type) c.self.view_is ∙ c.requires.named) refl

pub returns-clause-memory : goal.returns-clause-memory
returns-clause-memory c = λ before piece is header mem.
    let good = sym c.header_fault.ensures ∙ c.in_default.is in
    let size = sym c.header_size.ensures ∙ c.in-Some-header_size.is in
    let w = whole c.args.text.now c.in-Some-header_size.size size in
    let empty = ap (λ (s : ReaderState). s.partial) c.self.view_is ∙ c.requires.empty in
    let fine = ap (λ (s : ReaderState). s.fault) c.self.view_is ∙ c.requires.good in
    let made = rw c.in-Some-2.is at c.in_ok-block_type.ensures in
    let named = type_text c.args.text.now c.split_at.result.0.now c.in-Some-2.block_type c.in-Some-header_size.size w c.split_at.ensures.front made in
    cut_short_here c.args.text.now before piece c.split_at.result.1.now c.in-Some-header_size.size _ _ _ _ is header good size
    (start_is c.args.text.now c.in-Some-header_size.size _ _ _ named fine empty) c.split_at.ensures.back (c.take_messages.ensures.memory mem)
