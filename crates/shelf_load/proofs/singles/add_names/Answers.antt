use Rattle.std.proofs.Common.{◌≡◌, ℕ, Option, subst}
use Rattle.shelf_load.specs.Singling.{number_in}
use Rattle.shelf_load.proofs.ListedFacts.{grown_none, grown_more, no_number}
use Rattle.shelf_load.proofs.singles.add_names.Goals as goal

pub loop-name-init : goal.loop-name-init
loop-name-init c = grown_none c.args.names.now c.args.entries.now.items

pub returns-in-None : goal.returns-in-None
returns-in-None c =
    let N : Option ℕ → Type 0 = λ o. o ≡ number_in c.name-item.result in
    no_number c.args.names.now c.args.entries.now.items c.loop-name.entries.items c.loop-name.name-index c.name-item.result c.bad_file.result c.loop-name-test.true c.name-item.is c.loop-name.invariant (subst N c.in-None.is c.in_ok-num.ensures) c.bad_file.ensures

pub loop-name-preserved : goal.loop-name-preserved
loop-name-preserved c =
    let N : Option ℕ → Type 0 = λ o. o ≡ number_in c.name-item.result in
    grown_more c.args.names.now c.args.entries.now.items c.loop-name.entries.items c.add_entry.new.entries.items c.loop-name.name-index c.name-item.result c.in-Some.num c.loop-name-test.true c.name-item.is c.loop-name.invariant
    (subst N c.in-Some.is c.in_ok-num.ensures) c.in_ok-add_entry-in-Some.ensures
