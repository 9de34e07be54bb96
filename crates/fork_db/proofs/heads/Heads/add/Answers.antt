use Rattle.std.proofs.Common.{subst, sym, drop}
use Rattle.std.specs.BinaryHeap.{heap_items}
use Rattle.fork_db.specs.Heads.{IsRanked}
use Rattle.fork_db.proofs.AdmitFacts.{Before, tip_range, newest_holds, off, head_at}
use Rattle.fork_db.proofs.heads.Heads.add.Goals as goal

pub on_path-requires-clause-a_range : goal.on_path-requires-clause-a_range
on_path-requires-clause-a_range c = tip_range _ _ c.len-at.ensures.sound c.requires.some c.requires.tip

pub admit-self-inside-requires-clause-holds : goal.admit-self-inside-requires-clause-holds
admit-self-inside-requires-clause-holds c =
    let range = tip_range _ _ c.len-at.ensures.sound c.requires.some c.requires.tip in
    newest_holds _ _ _ _ c.requires.tip range c.len-at.ensures.len c.requires.some c.on_path.ensures.value c.if-on_path.true

pub returns-then-on_path-clause-head : goal.returns-then-on_path-clause-head
returns-then-on_path-clause-head c = head_at _ _ _ c.admit-self-inside.ensures.ranked

pub returns-else-on_path-clause-ranked : goal.returns-else-on_path-clause-ranked
returns-else-on_path-clause-ranked c =
    let old = subst (λ v. IsRanked (drop 1 c.args.tree.now.history) v.head v.rivals) (sym c.self.view_is) c.requires.ranked in
    let before : Before c.args.tree.now.history c.self.inside.head c.len-at.result (heap_items c.self.inside.rivals) =
    record { history = c.len-at.ensures.sound; some = c.requires.some; len = c.len-at.ensures.len; agreed = c.requires.agreed; ranked = old } in
    off _ _ _ _ _ _ before c.requires.tip c.on_path.ensures.value c.if-on_path.false

pub returns-else-on_path-clause-head : goal.returns-else-on_path-clause-head
returns-else-on_path-clause-head c =
    let old = subst (λ v. IsRanked (drop 1 c.args.tree.now.history) v.head v.rivals) (sym c.self.view_is) c.requires.ranked in
    let before : Before c.args.tree.now.history c.self.inside.head c.len-at.result (heap_items c.self.inside.rivals) =
    record { history = c.len-at.ensures.sound; some = c.requires.some; len = c.len-at.ensures.len; agreed = c.requires.agreed; ranked = old } in
    head_at _ _ _ (off _ _ _ _ _ _ before c.requires.tip c.on_path.ensures.value c.if-on_path.false)
