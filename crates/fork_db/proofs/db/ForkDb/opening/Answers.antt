use Rattle.std.proofs.Common.{◌≡◌, ◌∙◌, ap, sym, subst, IfOk, Ok}
use Rattle.std.specs.Option.{option_map}
use Rattle.chain_model.specs.Finality.{final_tip}
use Rattle.chain_model.specs.Places.{no_place, opening}
use Rattle.chain_model.specs.Steps.{ref_of}
use Rattle.block_tree.specs.Places.{slip_of}
use Rattle.fork_db.proofs.OpeningFacts.{opening_is}
use Rattle.fork_db.proofs.db.ForkDb.opening.Goals as goal

pub returns-in_ok-place-in-Some : goal.returns-in_ok-place-in-Some
returns-in_ok-place-in-Some c =
    let t = c.self.inside.tree.history in
    let tip = subst (λ v. slip_of v.history c.final_tip.result ≡ final_tip v.history) (sym c.self.view_is) c.final_tip.ensures.tip in
    let last = ap (option_map ref_of) (sym c.slip.ensures) ∙ ap (λ o. option_map ref_of (slip_of t o)) (sym c.in-Some.is) in
    subst (λ v. c.in_ok-place-in-Some.place ≡ opening v.history c.args.start) c.self.view_is
    (opening_is t c.args.start _ _ c.in_ok-place-in-Some.place tip c.last_below.ensures.value (c.in_ok-place-in-Some.ensures.end ∙ last) (c.in_ok-place-in-Some.ensures.lib ∙ last))

pub returns-in-None : goal.returns-in-None
returns-in-None c =
    let t = c.self.inside.tree.history in
    let tip = subst (λ v. slip_of v.history c.final_tip.result ≡ final_tip v.history) (sym c.self.view_is) c.final_tip.ensures.tip in
    let none = ap (λ o. option_map ref_of (slip_of t o)) (sym c.in-None.is) in
    subst (λ v. no_place ≡ opening v.history c.args.start) c.self.view_is (opening_is t c.args.start _ _ no_place tip c.last_below.ensures.value none none)
