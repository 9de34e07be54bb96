use Rattle.std.proofs.Common.{◌≡◌, ◌≢◌, ◌++◌, Result, Err, sym, ◌∙◌}
use Rattle.dbin_file.specs.declared.faults.DbinFault.{DbinFault}
use Rattle.dbin_file.specs.declared.faults.DbinFault.TheVariants.{Mem}
use Rattle.dbin_file.proofs.PieceFacts.{starts, takes_on, takes_bad, takes_front, same_fault, answers, cut_at}
use Rattle.dbin_file.proofs.reader.DbinReader.take_messages.Goals as goal

pub loop-rest-init : goal.loop-rest-init
loop-rest-init c =
    starts c.args.self.now c.args.piece.now c.args.out.now.items c.requires.part c.requires.good c.requires.place

pub returns-in_err-go_on-clause-answer : goal.returns-in_err-go_on-clause-answer
returns-in_err-go_on-clause-answer c = λ apart.
    let cut : c.loop-rest.rest.now ≡ c.split_at.result.0.now ++ c.split_at.result.1.now = cut_at _ _ _ _ c.split_at.ensures.front c.split_at.ensures.back in
    let same = same_fault c.from_residual.result c.in_err-go_on.field-0.0 c.from_residual.ensures.1 in
    let other : (let q : Result Unit DbinFault = Err c.in_err-go_on.field-0.0 in q ≢ Err Mem) = λ q. apart (same ∙ q) in
    let taking = c.loop-rest.invariant in
    let bad = c.in_err-go_on.ensures in
    let done = takes_bad c.args.self.now c.args.piece.now c.args.out.now.items c.loop-rest.out.items c.loop-rest.self c.loop-rest.rest.now taking c.go_on.new.out.items c.go_on.new.self c.split_at.result.0.now c.split_at.result.1.now c.in_err-go_on.field-0.0 cut (bad.answer other) (bad.state other) (bad.grows other) in
    answers _ _ _ same done.fault_is

pub returns-in_err-go_on-clause-state : goal.returns-in_err-go_on-clause-state
returns-in_err-go_on-clause-state c = λ apart.
    let cut : c.loop-rest.rest.now ≡ c.split_at.result.0.now ++ c.split_at.result.1.now = cut_at _ _ _ _ c.split_at.ensures.front c.split_at.ensures.back in
    let same = same_fault c.from_residual.result c.in_err-go_on.field-0.0 c.from_residual.ensures.1 in
    let other : (let q : Result Unit DbinFault = Err c.in_err-go_on.field-0.0 in q ≢ Err Mem) = λ q. apart (same ∙ q) in
    let taking = c.loop-rest.invariant in
    let bad = c.in_err-go_on.ensures in
    let done = takes_bad c.args.self.now c.args.piece.now c.args.out.now.items c.loop-rest.out.items c.loop-rest.self c.loop-rest.rest.now taking c.go_on.new.out.items c.go_on.new.self c.split_at.result.0.now c.split_at.result.1.now c.in_err-go_on.field-0.0 cut (bad.answer other) (bad.state other) (bad.grows other) in
    done.state

pub returns-in_err-go_on-clause-grows : goal.returns-in_err-go_on-clause-grows
returns-in_err-go_on-clause-grows c = λ apart.
    let cut : c.loop-rest.rest.now ≡ c.split_at.result.0.now ++ c.split_at.result.1.now = cut_at _ _ _ _ c.split_at.ensures.front c.split_at.ensures.back in
    let same = same_fault c.from_residual.result c.in_err-go_on.field-0.0 c.from_residual.ensures.1 in
    let other : (let q : Result Unit DbinFault = Err c.in_err-go_on.field-0.0 in q ≢ Err Mem) = λ q. apart (same ∙ q) in
    let taking = c.loop-rest.invariant in
    let bad = c.in_err-go_on.ensures in
    let done = takes_bad c.args.self.now c.args.piece.now c.args.out.now.items c.loop-rest.out.items c.loop-rest.self c.loop-rest.rest.now taking c.go_on.new.out.items c.go_on.new.self c.split_at.result.0.now c.split_at.result.1.now c.in_err-go_on.field-0.0 cut (bad.answer other) (bad.state other) (bad.grows other) in
    done.grown

pub returns-in_err-go_on-clause-memory : goal.returns-in_err-go_on-clause-memory
returns-in_err-go_on-clause-memory c = λ mem.
    let same = same_fault c.from_residual.result c.in_err-go_on.field-0.0 c.from_residual.ensures.1 in
    let none : (let q : Result Unit DbinFault = Err c.in_err-go_on.field-0.0 in q ≡ Err Mem) = sym same ∙ mem in
    takes_front c.args.self.now c.args.piece.now c.args.out.now.items c.loop-rest.out.items c.loop-rest.self c.loop-rest.rest.now c.loop-rest.invariant c.go_on.new.self c.go_on.new.out.items (c.in_err-go_on.ensures.stays none) (c.in_err-go_on.ensures.memory none)

pub loop-rest-preserved : goal.loop-rest-preserved
loop-rest-preserved c =
    let cut : c.loop-rest.rest.now ≡ c.split_at.result.0.now ++ c.split_at.result.1.now = cut_at _ _ _ _ c.split_at.ensures.front c.split_at.ensures.back in
    let good = c.in_ok-go_on.ensures in
    takes_on c.args.self.now c.args.piece.now c.args.out.now.items c.loop-rest.out.items c.loop-rest.self c.loop-rest.rest.now c.loop-rest.invariant c.go_on.new.out.items c.go_on.new.self c.split_at.result.0.now c.split_at.result.1.now cut (good.answer (λ e. cc)) (good.state (λ e. cc)) (good.grows (λ e. cc))
