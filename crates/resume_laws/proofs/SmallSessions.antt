-- Small chains of sessions, worked out, and one that meets the premises of resumption.
use Rattle.std.proofs.Common.{arith, ◌≡◌, ◌≤◌, ◌+◌, ℕ, map, true, List, [], ◌∷◌, Some, None, refl, sym, ◌∙◌, ap, subst}
use Rattle.std.proofs.lemmas.Bool.{both_ways}
use Rattle.std.proofs.lemmas.Option.{same_Some}
use Rattle.block_record.specs.declared.blocks.Slip.{Slip}
use Rattle.block_record.specs.Ids.{same_id}
use Rattle.chain_model.specs.declared.places.Mode.TheVariants as mode
use Rattle.chain_model.specs.declared.places.Step.TheVariants as step
use Rattle.chain_model.specs.Finality.{ClaimsAgree, agrees, claim, final_tip, final_ancestry}
use Rattle.chain_model.specs.Steps.{block_step, ref_of, steps_of, target}
use Rattle.chain_model.specs.Places.{no_place, place_to}
use Rattle.chain_model.specs.Fold.{fold_steps}
use Rattle.chain_model.proofs.public.StandardFacts.{block, at, told, a1, b2, c2, c3, d3, final_c2, chain, tie, fork, tie_is}
use Rattle.chain_laws.specs.Standing.{stands, has_all, begins, place_at_end}
use Rattle.chain_laws.specs.Oldest.{oldest}
use Rattle.resume_laws.specs.Sessions.{StepLine, HeadLine, Session, CursorFits, Rises, AreOnward, AreCut, KeepsFinals, line_len, step_lens, seen_of, received, chain_lines, told_final}
use Rattle.resume_laws.specs.Laws.{lines_of, IsChainFrom}
use Rattle.chain_laws.proofs.public.Tips.{claims_go_on_to_agree}

-- no number is one and two
one_or_two : (n : ℕ) → n ≡ 1 → n ≡ 2 → ⊥
one_or_two n e f = omega arith

-- and none is at most the one before
not_below : (n m : ℕ) → m ≡ n + 1 → m ≤ n → ⊥
not_below n m e le = omega (arith, e, le)

-- nor zero and one
zero_or_one : (n : ℕ) → n ≡ 0 → n ≡ 1 → ⊥
zero_or_one n e f = omega arith

-- the history when it had two blocks
oldest_two : oldest 2 tie ≡ b2 ∷ a1 ∷ []
oldest_two = refl

-- two sessions over a fork: the first is cut after the undo of its second batch
abbrev first_session : Session
first_session = record { mode = mode.Live; stop = None; lens = 2 ∷ 4 ∷ []; cut = 4 }

-- the second goes on with the cursor of that undo
abbrev second_session : Session
second_session = record { mode = mode.Live; stop = None; lens = 4 ∷ []; cut = 9 }

two_sessions : lines_of tie 0 first_session (second_session ∷ [])
    ≡ StepLine 2 (told step.NewFinal a1 (at a1 a1)) ∷ StepLine 2 (told step.New b2 (at b2 a1)) ∷ HeadLine mode.Live None 2 ∷ StepLine 4 (told step.Undo b2 (at a1 a1))
    ∷ StepLine 4 (told step.New c2 (at c2 a1)) ∷ StepLine 4 (told step.New d3 (at d3 a1)) ∷ HeadLine mode.Live None 4 ∷ []
unfolding same_id
two_sessions = refl

-- a session without a batch has opened nowhere
no_batch : lines_of tie 0 (record { mode = mode.Live; stop = None; lens = []; cut = 9 }) [] ≡ []
no_batch = refl

-- a client that goes on from a cursor before the last step that it folded: the fold breaks off
earlier_cursor : fold_steps (begins None) (block_step step.NewFinal a1 ∷ block_step step.New b2 ∷ steps_of (b2 ∷ a1 ∷ []) (at a1 a1) mode.Live None) ≡ None
unfolding same_id
earlier_cursor = refl

-- a client that opened at the first block has only the blocks after it
opened : fold_steps (begins (Some (ref_of a1))) (steps_of chain (at a1 a1) mode.Live None) ≡ Some (record { base = Some (ref_of a1); blocks = ref_of c3 ∷ ref_of b2 ∷ []; finals = 1 })
unfolding same_id
opened = refl

-- and that is all of the target for it
opened_all : has_all chain (Some (ref_of a1)) (target chain mode.Live None) ≡ record { base = Some (ref_of a1); blocks = ref_of c3 ∷ ref_of b2 ∷ []; finals = 1 }
unfolding same_id
opened_all = refl

-- it stands there
opened_stands : stands chain (Some (ref_of a1)) (at c3 b2) ≡ record { base = Some (ref_of a1); blocks = ref_of c3 ∷ ref_of b2 ∷ []; finals = 1 }
unfolding same_id
opened_stands = refl

-- the place at the end of a target: the last block, and the last final one
end_of_chain : place_at_end (final_ancestry chain) (target chain mode.Live None) ≡ at c3 b2
unfolding same_id
end_of_chain = refl

-- a stop below the end would take a final block back, and such a step has no fold
stop_below : steps_of chain (at c3 b2) mode.Live (Some 1) ≡ block_step step.Undo c3 ∷ block_step step.Undo b2 ∷ []
unfolding same_id
stop_below = refl

stop_below_breaks : fold_steps (stands chain None (at c3 b2)) (steps_of chain (at c3 b2) mode.Live (Some 1)) ≡ None
unfolding same_id
stop_below_breaks = refl

-- the cursor of a new block has the block as its end
new_fits : CursorFits tie (told step.New b2 (at b2 a1))
unfolding same_id
new_fits = record { fits = record { place = record { end_held = refl; lib_held = refl; final = refl; on_path = refl }; held = refl; shape = refl }; block = refl }

new_elsewhere : CursorFits tie (told step.New b2 (at a1 a1)) → ⊥
unfolding same_id
new_elsewhere h = one_or_two 1 refl (ap (λ r. r.num) h.fits.shape)

-- that of an undo has the block's own parent as its end
undo_fits : CursorFits tie (told step.Undo b2 (at a1 a1))
unfolding same_id
undo_fits = record { fits = record { place = record { end_held = refl; lib_held = refl; final = refl; on_path = refl }; held = refl; shape = refl }; block = refl }

undo_elsewhere : CursorFits tie (told step.Undo b2 (at b2 a1)) → ⊥
unfolding same_id
undo_elsewhere h = one_or_two 2 (ap (λ r. r.num) h.fits.shape) refl

-- that of a final block has the block as its lib, whatever the end
final_fits : CursorFits chain (told step.Final b2 (at c3 b2))
unfolding same_id
final_fits = record { fits = record { place = record { end_held = refl; lib_held = refl; final = refl; on_path = refl }; held = refl; shape = refl }; block = refl }

final_elsewhere : CursorFits chain (told step.Final b2 (at c3 a1)) → ⊥
unfolding same_id
final_elsewhere h = one_or_two 1 refl (ap (λ r. r.num) h.fits.shape)

-- and that of a block that is new and final has it as both
newfinal_fits : CursorFits chain (told step.NewFinal b2 (at b2 b2))
unfolding same_id
newfinal_fits = record { fits = record { place = record { end_held = refl; lib_held = refl; final = refl; on_path = refl }; held = refl; shape = (refl, refl) }; block = refl }

newfinal_below : CursorFits chain (told step.NewFinal b2 (at b2 a1)) → ⊥
unfolding same_id
newfinal_below h = one_or_two 1 refl (ap (λ r. r.num) h.fits.shape.1)

newfinal_above : CursorFits chain (told step.NewFinal a1 (at b2 a1)) → ⊥
unfolding same_id
newfinal_above h = one_or_two 2 (ap (λ r. r.num) h.fits.shape.0) refl

-- a block with the number and id of one that is held, and another parent, is not that one
other_block : CursorFits chain (told step.New (block 2 b2.id 0 a1.id 1) (at b2 a1)) → ⊥
unfolding same_id
other_block h = zero_or_one 1 (ap (λ s. s.parent_num) (same_Some _ _ h.block)) refl

-- each final block is told once, over batches as the history grows
told_once : told_final (lines_of chain 0 (record { mode = mode.Live; stop = None; lens = 1 ∷ 2 ∷ 3 ∷ []; cut = 9 }) []) ≡ a1 ∷ b2 ∷ []
unfolding same_id
told_once = refl

-- a block that was told as final, at once or later, is not taken back
newfinal_kept : KeepsFinals [] (StepLine 1 (told step.NewFinal a1 (at a1 a1)) ∷ StepLine 1 (told step.Undo a1 (at a1 a1)) ∷ []) → ⊥
unfolding same_id
newfinal_kept h = both_ways _ h.1.0.0 refl

final_kept : KeepsFinals [] (StepLine 2 (told step.New b2 (at b2 a1)) ∷ StepLine 3 (told step.Final b2 (at b2 b2)) ∷ HeadLine mode.Live None 3 ∷ StepLine 4 (told step.Undo b2 (at a1 b2)) ∷ []) → ⊥
unfolding same_id
final_kept h = both_ways _ h.1.1.0.0 refl

-- nor is one that was final before the first line
before_kept : KeepsFinals (a1 ∷ []) (StepLine 2 (told step.Undo a1 (at a1 a1)) ∷ []) → ⊥
unfolding same_id
before_kept h = both_ways _ h.0.0 refl

-- any other block may be
others_kept : KeepsFinals [] (StepLine 2 (told step.NewFinal a1 (at a1 a1)) ∷ StepLine 2 (told step.New b2 (at b2 a1)) ∷ StepLine 4 (told step.Undo b2 (at a1 a1)) ∷ [])
unfolding same_id
others_kept = (tt, (tt, ((refl, tt), tt)))

-- the final blocks of a batch's target are those that were final then
then_final : has_all (oldest 2 chain) None (target (oldest 2 chain) mode.Live None) ≡ record { base = None; blocks = ref_of b2 ∷ ref_of a1 ∷ []; finals = 1 }
unfolding same_id
then_final = refl

now_final : has_all chain None (target (oldest 2 chain) mode.Live None) ≡ record { base = None; blocks = ref_of b2 ∷ ref_of a1 ∷ []; finals = 2 }
unfolding same_id
now_final = refl

-- the premises can be met: the two sessions over the fork meet them
test_of : (s : Slip) (older : List Slip) (t c : Slip) → final_tip older ≡ Some t → claim (s ∷ older) s ≡ Some c → agrees (s ∷ older) c t ≡ true
    → (u d : Slip) → final_tip older ≡ Some u → claim (s ∷ older) s ≡ Some d → agrees (s ∷ older) d u ≡ true
test_of s older t c et ec says u d eu ed =
    subst (λ (x : Slip). agrees (s ∷ older) d x ≡ true) (same_Some t u (sym et ∙ eu)) (subst (λ (x : Slip). agrees (s ∷ older) x t ≡ true) (same_Some c d (sym ec ∙ ed)) says)

agree_0 : ClaimsAgree []
agree_0 a b x y fa fb cx cy = absurd (grind arith)

agree_1 : ClaimsAgree (a1 ∷ [])
agree_1 = claims_go_on_to_agree a1 [] tt agree_0 (λ t c et ec. absurd (grind arith))

agree_2 : ClaimsAgree (b2 ∷ a1 ∷ [])
unfolding same_id
agree_2 = claims_go_on_to_agree b2 (a1 ∷ []) tie_is.1.1 agree_1 (test_of b2 (a1 ∷ []) a1 a1 refl refl refl)

agree_3 : ClaimsAgree (c2 ∷ b2 ∷ a1 ∷ [])
unfolding same_id
agree_3 = claims_go_on_to_agree c2 (b2 ∷ a1 ∷ []) tie_is.1 agree_2 (test_of c2 (b2 ∷ a1 ∷ []) a1 a1 refl refl refl)

agree_4 : ClaimsAgree tie
unfolding same_id
agree_4 = claims_go_on_to_agree d3 (c2 ∷ b2 ∷ a1 ∷ []) tie_is agree_3 (test_of d3 (c2 ∷ b2 ∷ a1 ∷ []) a1 a1 refl refl refl)

chain_met : IsChainFrom tie 0 first_session (second_session ∷ [])
unfolding same_id
chain_met = record {
  history = tie_is;
  agreed = agree_4;
  begun = record { rises = (omega arith, tt); within = (omega arith, (omega arith, tt)); ahead = tt };
  resumed = (record { end_held = refl; lib_held = refl; final = refl; on_path = refl }, record { rises = tt; within = (omega arith, tt); ahead = tt }, tt);
}

-- and a fork whose claims agree has a final block beside the head before
fork_tip : final_tip (oldest 4 fork) ≡ Some a1
unfolding same_id
fork_tip = refl

fork_end : place_to fork no_place mode.Live None ≡ at final_c2 final_c2
unfolding same_id
fork_end = refl

-- The lengths: two sessions that never go back, the first cut after the line of a step.

two_lens : map line_len (lines_of tie 0 first_session (second_session ∷ [])) ≡ 2 ∷ 2 ∷ 2 ∷ 4 ∷ 4 ∷ 4 ∷ 4 ∷ []
unfolding same_id
two_lens = refl

-- those of the steps
two_step_lens : step_lens (lines_of tie 0 first_session (second_session ∷ [])) ≡ 2 ∷ 2 ∷ 4 ∷ 4 ∷ 4 ∷ []
unfolding same_id
two_step_lens = refl

-- the cursor of the undo has seen four blocks
two_seen : seen_of 0 (received tie no_place first_session) ≡ 4
unfolding same_id
two_seen = refl

-- the premises can be met
onward_met : AreOnward tie no_place 0 (first_session ∷ second_session ∷ [])
unfolding same_id
onward_met = (omega arith, (omega arith, tt), (omega arith, tt, tt))

cut_met : AreCut tie no_place (first_session ∷ second_session ∷ [])
unfolding same_id
cut_met = (refl, tt)

-- a session of so many lines over these lengths
abbrev over : List ℕ → ℕ → Session
over lens cut = record { mode = mode.Live; stop = None; lens = lens; cut = cut }

-- A session that received a head line alone, and then the cursor before it again: nothing that a cursor has tells of the head line.

abbrev head_alone : List Session
head_alone = over (2 ∷ []) 2 ∷ over (3 ∷ []) 1 ∷ over (2 ∷ []) 1 ∷ []

head_alone_onward : AreOnward tie no_place 0 head_alone
unfolding same_id
head_alone_onward = (omega arith, tt, (omega arith, tt, (omega arith, tt, tt)))

head_alone_lines : chain_lines tie no_place head_alone ≡ StepLine 2 (told step.NewFinal a1 (at a1 a1)) ∷ StepLine 2 (told step.New b2 (at b2 a1)) ∷ HeadLine mode.Live None 3 ∷ HeadLine mode.Live None 2 ∷ []
unfolding same_id
head_alone_lines = refl

head_alone_falls : Rises (0 ∷ map line_len (chain_lines tie no_place head_alone)) → ⊥
unfolding same_id
head_alone_falls h = not_below 2 3 refl h.1.1.1.0

-- that session is cut after no step
head_alone_uncut : AreCut tie no_place head_alone → ⊥
unfolding same_id
head_alone_uncut h = both_ways _ refl h.1.0

-- So it is with a head line after the last step, where the next session begins at what that step has seen.

abbrev head_after : List Session
head_after = over (2 ∷ 3 ∷ []) 4 ∷ over (2 ∷ []) 1 ∷ []

head_after_onward : AreOnward tie no_place 0 head_after
unfolding same_id
head_after_onward = (omega arith, (omega arith, tt), (omega arith, tt, tt))

head_after_lens : map line_len (chain_lines tie no_place head_after) ≡ 2 ∷ 2 ∷ 2 ∷ 3 ∷ 2 ∷ []
unfolding same_id
head_after_lens = refl

head_after_uncut : AreCut tie no_place head_after → ⊥
unfolding same_id
head_after_uncut h = both_ways _ refl h.0

-- a session that begins before what its cursor has seen
begins_before : AreOnward tie no_place 0 (over (2 ∷ 4 ∷ []) 4 ∷ over (3 ∷ []) 1 ∷ []) → ⊥
unfolding same_id
begins_before h = not_below 3 4 refl h.2.0

-- and one that goes on to a shorter history
goes_back : AreOnward tie no_place 0 (over (3 ∷ 2 ∷ []) 9 ∷ []) → ⊥
goes_back h = not_below 2 3 refl h.1.0
