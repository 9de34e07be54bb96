use Rattle.std.proofs.Common.{arith, [], ◌++◌, ◌∙◌, Ok, Err, map, length, sym, ap}
use Rattle.std.proofs.lemmas.List.{length-reverse}
use Rattle.std.proofs.lemmas.Result.{err_from_is_err_and}
use Rattle.block_relay.specs.Chronicle.{world_told}
use Rattle.shelf_load.specs.Taking.{stage}
use Rattle.shelf_load.specs.declared.loads.Loaded.{Loaded}
use Rattle.shelf_load.specs.Asides.{put_seen}
use Rattle.shelf_load.proofs.LoadFacts.{begins_loaded, merged_refused, singles_refused, round_refused, after_merged, whole_done, passed_sum, whole_answer, whole_reloads, is_counted}
use Rattle.shelf_load.proofs.RunFacts.{run_kept}
use Rattle.shelf_load.proofs.loads.load.Goals as goal

pub returns-in_err-load_merged-clause-answer : goal.returns-in_err-load_merged-clause-answer
returns-in_err-load_merged-clause-answer g c =
    let p = err_from_is_err_and c.from_residual-in_err-load_merged.result c.from_residual-in_err-load_merged.ensures.1 in
    let old = world_told c.args.relay.now in
    let size = c.in_ok-size.size in
    rw (p.1, p.2)
    (merged_refused (g.S.Shelf.files c.args.shelf.now) old size (g.S.Shelf.shelf_faults c.args.shelf.now) (g.S.Shelf.shelf_faults c.read_layout.new.shelf) (g.S.Shelf.shelf_faults c.load_merged.new.shelf) c.in_err-load_merged.field-0.0
    c.in_ok-size.ensures.answers c.in_ok-size.ensures.later
    ((rw c.in_ok-size.ensures.files at c.in_err-load_merged.ensures.answer) (record old { size = size }) [] (begins_loaded old (world_told c.set_size.new.self) size c.new-left.result c.set_size.ensures.world c.new-left.ensures) tt))

pub returns-in_err-load_singles-clause-answer : goal.returns-in_err-load_singles-clause-answer
returns-in_err-load_singles-clause-answer g c =
    let p = err_from_is_err_and c.from_residual-in_err-load_singles.result c.from_residual-in_err-load_singles.ensures.1 in
    let old = world_told c.args.relay.now in
    let size = c.in_ok-size.size in
    let files = g.S.Shelf.files c.args.shelf.now in
    let m = (rw c.in_ok-size.ensures.files at c.in_ok-load_merged.ensures.answer) (record old { size = size }) [] (begins_loaded old (world_told c.set_size.new.self) size c.new-left.result c.set_size.ensures.world c.new-left.ensures) tt in
    rw (p.1, p.2)
    (singles_refused files old size (g.S.Shelf.shelf_faults c.args.shelf.now) (g.S.Shelf.shelf_faults c.load_merged.new.shelf) (g.S.Shelf.shelf_faults c.load_singles.new.shelf) m.xs c.in_err-load_singles.field-0.0
    c.in_ok-size.ensures.answers m.all (omega (arith, c.in_ok-size.ensures.later, c.in_ok-load_merged.ensures.later))
    (after_merged files (g.S.Shelf.files c.load_merged.new.shelf) old size (g.S.Shelf.shelf_faults c.load_merged.new.shelf) (g.S.Shelf.shelf_faults c.load_singles.new.shelf)
    (stage (world_told c.load_merged.new.relay) c.load_merged.new.left) (stage (world_told c.load_singles.new.relay) c.load_singles.new.left) (Err c.in_err-load_singles.field-0.0)
    (c.in_ok-load_merged.ensures.files ∙ c.in_ok-size.ensures.files) m c.in_err-load_singles.ensures.answer))

pub returns-in_err-offer_put_by-clause-answer : goal.returns-in_err-offer_put_by-clause-answer
returns-in_err-offer_put_by-clause-answer g c =
    let p = err_from_is_err_and c.from_residual-in_err-offer_put_by.result c.from_residual-in_err-offer_put_by.ensures.1 in
    let old = world_told c.args.relay.now in
    let size = c.in_ok-size.size in
    let files = g.S.Shelf.files c.args.shelf.now in
    let m = (rw c.in_ok-size.ensures.files at c.in_ok-load_merged.ensures.answer) (record old { size = size }) [] (begins_loaded old (world_told c.set_size.new.self) size c.new-left.result c.set_size.ensures.world c.new-left.ensures) tt in
    let now = stage (world_told c.load_singles.new.relay) c.load_singles.new.left in
    let s = after_merged files (g.S.Shelf.files c.load_merged.new.shelf) old size (g.S.Shelf.shelf_faults c.load_merged.new.shelf) (g.S.Shelf.shelf_faults c.load_singles.new.shelf)
    (stage (world_told c.load_merged.new.relay) c.load_merged.new.left) now (Ok c.in_ok-load_singles.field-0)
    (c.in_ok-load_merged.ensures.files ∙ c.in_ok-size.ensures.files) m c.in_ok-load_singles.ensures.answer in
    rw (p.1, p.2)
    (round_refused files old size (g.S.Shelf.shelf_faults c.args.shelf.now) (g.S.Shelf.shelf_faults c.load_singles.new.shelf) (s.xs ++ m.xs) now c.in_err-offer_put_by.field-0.0 s.loaded
    (rw c.put_by.ensures at c.in_err-offer_put_by.ensures))

pub returns-clause-answer : goal.returns-clause-answer
returns-clause-answer g c =
    let old = world_told c.args.relay.now in
    let size = c.in_ok-size.size in
    let files = g.S.Shelf.files c.args.shelf.now in
    let m = (rw c.in_ok-size.ensures.files at c.in_ok-load_merged.ensures.answer) (record old { size = size }) [] (begins_loaded old (world_told c.set_size.new.self) size c.new-left.result c.set_size.ensures.world c.new-left.ensures) tt in
    let now = stage (world_told c.load_singles.new.relay) c.load_singles.new.left in
    let s = after_merged files (g.S.Shelf.files c.load_merged.new.shelf) old size (g.S.Shelf.shelf_faults c.load_merged.new.shelf) (g.S.Shelf.shelf_faults c.load_singles.new.shelf)
    (stage (world_told c.load_merged.new.relay) c.load_merged.new.left) now (Ok c.in_ok-load_singles.field-0)
    (c.in_ok-load_merged.ensures.files ∙ c.in_ok-size.ensures.files) m c.in_ok-load_singles.ensures.answer in
    let new = world_told c.store_late.new.relay in
    let d = whole_done files old (world_told c.set_size.new.self) size m.xs s.xs now (world_told c.offer_put_by.new.relay) new (map put_seen c.put_by.result.now) c.late.result.now
    c.requires c.set_size.ensures.world c.len.ensures.sound s.loaded c.put_by.ensures c.in_ok-offer_put_by.ensures c.late.ensures c.store_late.ensures in
    let passed = passed_sum new (map put_seen c.put_by-2.result.now) c.load_singles.new.left.put_by c.passed.result c.count_lost-lost.result c.saturating_add.result c.load_singles.new.left.passed
    c.put_by-2.ensures c.passed.ensures c.count_lost-lost.ensures c.saturating_add.ensures in
    let numbers : Loaded = record { admitted = c.len-2.result; waiting = c.waiting.result; passed = c.saturating_add.result; conflicts = length c.conflicts.result.now } in
    let told_answer = whole_answer files old size m.xs s.xs now (world_told c.offer_put_by.new.relay) new numbers c.in_ok-size.ensures.answers m.all s.all d passed in
    (is_counted new numbers c.len-2.ensures.len c.waiting.ensures (sym (length-reverse c.conflicts.result.now) ∙ ap length c.conflicts.ensures), told_answer)

pub returns-clause-reloads : goal.returns-clause-reloads
returns-clause-reloads g c =
    let old = world_told c.args.relay.now in
    let size = c.in_ok-size.size in
    let files = g.S.Shelf.files c.args.shelf.now in
    let m = (rw c.in_ok-size.ensures.files at c.in_ok-load_merged.ensures.answer) (record old { size = size }) [] (begins_loaded old (world_told c.set_size.new.self) size c.new-left.result c.set_size.ensures.world c.new-left.ensures) tt in
    let now = stage (world_told c.load_singles.new.relay) c.load_singles.new.left in
    let s = after_merged files (g.S.Shelf.files c.load_merged.new.shelf) old size (g.S.Shelf.shelf_faults c.load_merged.new.shelf) (g.S.Shelf.shelf_faults c.load_singles.new.shelf)
    (stage (world_told c.load_merged.new.relay) c.load_merged.new.left) now (Ok c.in_ok-load_singles.field-0)
    (c.in_ok-load_merged.ensures.files ∙ c.in_ok-size.ensures.files) m c.in_ok-load_singles.ensures.answer in
    let new = world_told c.store_late.new.relay in
    let d = whole_done files old (world_told c.set_size.new.self) size m.xs s.xs now (world_told c.offer_put_by.new.relay) new (map put_seen c.put_by.result.now) c.late.result.now
    c.requires c.set_size.ensures.world c.len.ensures.sound s.loaded c.put_by.ensures c.in_ok-offer_put_by.ensures c.late.ensures c.store_late.ensures in
    let passed = passed_sum new (map put_seen c.put_by-2.result.now) c.load_singles.new.left.put_by c.passed.result c.count_lost-lost.result c.saturating_add.result c.load_singles.new.left.passed
    c.put_by-2.ensures c.passed.ensures c.count_lost-lost.ensures c.saturating_add.ensures in
    let numbers : Loaded = record { admitted = c.len-2.result; waiting = c.waiting.result; passed = c.saturating_add.result; conflicts = length c.conflicts.result.now } in
    let told_answer = whole_answer files old size m.xs s.xs now (world_told c.offer_put_by.new.relay) new numbers c.in_ok-size.ensures.answers m.all s.all d passed in
    whole_reloads files old new numbers c.requires c.len-2.ensures.sound told_answer

pub returns-clause-run : goal.returns-clause-run
returns-clause-run g c =
    let old = world_told c.args.relay.now in
    let size = c.in_ok-size.size in
    let files = g.S.Shelf.files c.args.shelf.now in
    let m = (rw c.in_ok-size.ensures.files at c.in_ok-load_merged.ensures.answer) (record old { size = size }) [] (begins_loaded old (world_told c.set_size.new.self) size c.new-left.result c.set_size.ensures.world c.new-left.ensures) tt in
    let now = stage (world_told c.load_singles.new.relay) c.load_singles.new.left in
    let s = after_merged files (g.S.Shelf.files c.load_merged.new.shelf) old size (g.S.Shelf.shelf_faults c.load_merged.new.shelf) (g.S.Shelf.shelf_faults c.load_singles.new.shelf)
    (stage (world_told c.load_merged.new.relay) c.load_merged.new.left) now (Ok c.in_ok-load_singles.field-0)
    (c.in_ok-load_merged.ensures.files ∙ c.in_ok-size.ensures.files) m c.in_ok-load_singles.ensures.answer in
    let new = world_told c.store_late.new.relay in
    run_kept old size m.xs s.xs now (world_told c.offer_put_by.new.relay) new
    (whole_done files old (world_told c.set_size.new.self) size m.xs s.xs now (world_told c.offer_put_by.new.relay) new (map put_seen c.put_by.result.now) c.late.result.now
    c.requires c.set_size.ensures.world c.len.ensures.sound s.loaded c.put_by.ensures c.in_ok-offer_put_by.ensures c.late.ensures c.store_late.ensures)
