use Rattle.std.proofs.Common.{arith, ap, sym, ◌∙◌, ◌≡◌, ◌<◌, ◌∷◌, Bool, false, List, [], Some, IsTrue, is_some}
use Rattle.std.specs.Option.{option_copied}
use Rattle.block_record.specs.declared.blocks.Slip.{Slip}
use Rattle.chain_model.specs.Ancestry.{find_id, has_id, IsHistory}
use Rattle.block_tree.specs.Places.{place_of}
use Rattle.block_tree.proofs.public.PlaceFacts.{is_held}
use Rattle.history_tests.proofs.follow.may_follow.Goals as goal

not_both : (b : Bool) → b ≡ false → IsTrue b → ⊥
not_both b e h = grind arith

-- a block with a new id and its parent below it may come next
history_next : (s p : Slip) (newest : List Slip) → IsHistory newest → has_id newest s.id ≡ false → find_id newest s.parent_id ≡ Some p → (p.num ≡ s.parent_num) × (s.parent_num < s.num) → IsHistory (s ∷ newest)
history_next s p [] h new e numbers = tt
history_next s p (t ∷ older) h new e numbers = (record { fresh = λ held. not_both (has_id (t ∷ older) s.id) new held; parent = rw e numbers.0; above = numbers.1 }, h)

pub returns-in-Some : goal.returns-in-Some
returns-in-Some c = λ t.
    let held : is_some (place_of c.args.tree.now.history c.args.slip.now.id) ≡ has_id c.args.tree.now.history c.args.slip.now.id = is_held c.args.tree.now.history c.args.slip.now.id in
    let new : has_id c.args.tree.now.history c.args.slip.now.id ≡ false = grind (arith, held, c.find.ensures, c.if-is_some.false) in
    let found : find_id c.args.tree.now.history c.args.slip.now.parent_id ≡ Some c.in-Some.parent.now = sym c.find_slip.ensures ∙ ap option_copied c.in-Some.is in
    history_next _ _ _ c.len.ensures.sound new found (c.is_child.ensures t)
