use Rattle.std.specs.BinaryHeap.{heap_items}
use Rattle.fork_db.proofs.AdmitFacts.{Before, head_range, tip_range, holds_if, off_if, child, higher, rival, all_own, taken, one_taken}
use Rattle.fork_db.proofs.heads.admit.Goals as goal

pub on_path-requires-clause-a_range : goal.on_path-requires-clause-a_range
on_path-requires-clause-a_range c = head_range _ _ _ c.requires.some c.requires.ranked

pub returns-then-on_path-clause-ranked : goal.returns-then-on_path-clause-ranked
returns-then-on_path-clause-ranked c =
    let before : Before c.args.tree.now.history c.args.head c.len-at.result (heap_items c.args.rivals.now) =
    record { history = c.len-at.ensures.sound; some = c.requires.some; len = c.len-at.ensures.len; agreed = c.requires.agreed; ranked = c.requires.ranked } in
    child _ _ _ _ _ before c.requires.holds c.on_path.ensures.value c.if-on_path.true

pub rival_at-old-requires : goal.rival_at-old-requires
rival_at-old-requires c = record { range = head_range _ _ _ c.requires.some c.requires.ranked }

pub returns-then-old-newest-clause-ranked : goal.returns-then-old-newest-clause-ranked
returns-then-old-newest-clause-ranked c =
    let before : Before c.args.tree.now.history c.args.head c.len-at.result (heap_items c.args.rivals.now) =
    record { history = c.len-at.ensures.sound; some = c.requires.some; len = c.len-at.ensures.len; agreed = c.requires.agreed; ranked = c.requires.ranked } in
    higher _ _ _ _ _ _ _ _ before c.requires.holds c.on_path.ensures.value c.if-on_path.false
    c.rival_at-old.ensures.own c.rival_at-old.ensures.place c.rival_at-newest.ensures.own c.rival_at-newest.ensures.place c.if-old-newest.true c.keep.ensures.items

pub on_path-requires-2-clause-a_range : goal.on_path-requires-2-clause-a_range
on_path-requires-2-clause-a_range c = tip_range _ _ c.len-at.ensures.sound c.requires.some c.requires.tip

pub on_path-requires-2-clause-b_range : goal.on_path-requires-2-clause-b_range
on_path-requires-2-clause-b_range c = head_range _ _ _ c.requires.some c.requires.ranked

pub returns-then-on_path-2-clause-ranked : goal.returns-then-on_path-2-clause-ranked
returns-then-on_path-2-clause-ranked c =
    let before : Before c.args.tree.now.history c.args.head c.len-at.result (heap_items c.args.rivals.now) =
    record { history = c.len-at.ensures.sound; some = c.requires.some; len = c.len-at.ensures.len; agreed = c.requires.agreed; ranked = c.requires.ranked } in
    let range = tip_range _ _ c.len-at.ensures.sound c.requires.some c.requires.tip in
    let holds = holds_if _ _ _ _ c.requires.tip range (head_range _ _ _ c.requires.some c.requires.ranked) c.on_path-2.ensures.value c.if-on_path-2.true in
    rival _ _ _ _ _ _ _ _ before c.on_path.ensures.value c.if-on_path.false holds
    c.rival_at-old.ensures.own c.rival_at-old.ensures.place c.rival_at-newest.ensures.own c.rival_at-newest.ensures.place c.if-old-newest.false c.keep-2.ensures.items

pub take_best-requires-clause-own : goal.take_best-requires-clause-own
take_best-requires-clause-own c =
    let before : Before c.args.tree.now.history c.args.head c.len-at.result (heap_items c.args.rivals.now) =
    record { history = c.len-at.ensures.sound; some = c.requires.some; len = c.len-at.ensures.len; agreed = c.requires.agreed; ranked = c.requires.ranked } in
    all_own _ _ _ _ _ _ _ before c.on_path.ensures.value c.if-on_path.false c.rival_at-newest.ensures.own c.keep-2.ensures.items

pub take_best-requires-clause-range : goal.take_best-requires-clause-range
take_best-requires-clause-range c = tip_range _ _ c.len-at.ensures.sound c.requires.some c.requires.tip

pub returns-in-Some-clause-ranked : goal.returns-in-Some-clause-ranked
returns-in-Some-clause-ranked c =
    let before : Before c.args.tree.now.history c.args.head c.len-at.result (heap_items c.args.rivals.now) =
    record { history = c.len-at.ensures.sound; some = c.requires.some; len = c.len-at.ensures.len; agreed = c.requires.agreed; ranked = c.requires.ranked } in
    let range = tip_range _ _ c.len-at.ensures.sound c.requires.some c.requires.tip in
    let off = off_if _ _ _ _ c.requires.tip range c.on_path-2.ensures.value c.if-on_path-2.false in
    taken _ _ _ _ _ _ _ _ _ before c.on_path.ensures.value c.if-on_path.false off c.rival_at-newest.ensures.place c.keep-2.ensures.items
    c.take_best.ensures.own c.in-Some.ensures.taken c.in-Some.ensures.holds c.in-Some.ensures.best c.in-Some.ensures.others

pub returns-in-None-clause-ranked : goal.returns-in-None-clause-ranked
returns-in-None-clause-ranked c =
    absurd (one_taken _ _ _ _ _ _ c.len-at.ensures.len c.requires.holds c.rival_at-newest.ensures.place c.keep-2.ensures.items c.in-None.ensures.none c.in-None.ensures.others)
