use Rattle.history_tests.proofs.links.a_chain_and_its_branch_take_their_room_once.Given as goal

abbrev pub ghosts-run_deep : goal.ghosts-run_deep
ghosts-run_deep g a = record { name = a.blank.name; parts = a.blank.parts }
