use Rattle.std.proofs.Common.{◌≡◌, rules}
use Rattle.std.specs.Prelude.{IsTrue}
use Rattle.folder_shelf.specs.Names.{is_part, joined}
use Rattle.folder_shelf.proofs.InsideFacts.{is_in-joined}
use Rattle.folder_shelf.proofs.names.whole_name.Goals as goal

pub returns-clause-inside : goal.returns-clause-inside
returns-clause-inside c =
    let text : c.from_vec.result ≡ joined c.args.folder.now c.args.last.now = search rules in
    let part : IsTrue (is_part c.args.last.now) = search rules in
    rw text (is_in-joined c.args.folder.now c.args.last.now part)
