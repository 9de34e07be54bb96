-- The steps of taking a block, put together.
use Rattle.std.proofs.Common.{arith, ◌≡◌, ◌≤◌, inl, inr, ℕ, true, false, List, Option, refl, ◌∙◌, ap, subst}
use Rattle.std.specs.Prelude.{◌++◌, Result, Ok, Err}
use Rattle.block_record.specs.declared.blocks.Block.{Block}
use Rattle.block_record.specs.declared.blocks.Kind.{Kind}
use Rattle.block_record.specs.Slips.{slip}
use Rattle.outer_world.specs.Files.{Files}
use Rattle.outer_world.specs.Shelves.{RefusesBy}
use Rattle.outer_world.specs.declared.shelves.ShelfFail.{ShelfFail}
use Rattle.outer_world.specs.declared.shelves.ShelfFail.TheVariants as fail
use Rattle.one_block.specs.declared.faults.Put.{Put}
use Rattle.one_block.specs.declared.faults.StoreFault.{StoreFault}
use Rattle.one_block.specs.Names.{own_file}
use Rattle.one_block.specs.OneFiles.{one_file_text}
use Rattle.one_block.specs.Puts.{PutDone, PutRefused}
use Rattle.one_block.specs.StoreFaults.{fault_of}
use Rattle.block_intake.specs.Answers.{IsAnswer, is_mem}
use Rattle.block_intake.specs.declared.answers.Offered.{Offered}
use Rattle.block_intake.specs.declared.answers.OfferFault.{OfferFault}
use Rattle.block_relay.specs.Chronicle.{Told, world_told}
use Rattle.relay_model.specs.Chronicles.{added}
use Rattle.relay_model.specs.Offers.{offered}
use Rattle.block_reader.specs.declared.own.OwnFile.{OwnFile}
use Rattle.block_reader.specs.declared.faults.TakeFault.TheVariants.{Offer, Store}
use Rattle.block_reader.specs.Own.{own_by, with_own}
use Rattle.block_reader.specs.Changes.{shelved, Change, changed_all, IsStopped, all_changes, refused_file}
use Rattle.block_reader.specs.Takes.{IsOffered, IsPut, IsPlaced, IsTaken, answer_changes}

-- a count that had risen later has risen
later_refuses : (f : ShelfFail) (a b c : ℕ) → a ≤ b → RefusesBy f b c → RefusesBy f a c
later_refuses fail.Failed a b c le r = omega (arith, r, le)
later_refuses fail.Mem a b c le r = tt

-- the file was not put
pub unput_taken : (was : Told) (kind : Kind) (shared block : Block) (by : List ℕ) (files new : Option Files) (own left : List OwnFile) (before now : ℕ) (f : StoreFault) → shared ≡ block → left ≡ own
    → PutRefused (slip shared) by (one_file_text kind shared) files new before now f → IsTaken was was kind block by (shelved files own) (shelved new left) before now (Err (Store f))
unput_taken was kind shared block by files new own left before now f is same p =
    inl (record { relay = refl; own = same; files = subst (λ (b : Block). PutRefused (slip b) by (one_file_text kind b) files new before now f) is p })

module _ (was is : Told) (kind : Kind) (block shared given again : Block) (by one refused : List ℕ) (files mid new : Option Files) (own noted left : List OwnFile) (put : Put) (answer : Result Offered OfferFault)
    (shared_is : shared ≡ block) (given_is : given ≡ block) (again_is : again ≡ block) (one_is : one ≡ own_file (slip block) by) (refused_is : refused ≡ refused_file (slip block) by)
    (put_is : PutDone (slip shared) by (one_file_text kind shared) files mid put) (noted_is : noted ≡ with_own (own_by (slip shared) by) own)
    (said : IsAnswer (offered (world_told was) (slip given)).answer answer)
    (entries : is_mem answer ≡ false → is.entries ≡ added (world_told was) (slip given) ++ was.entries)
    (world : is_mem answer ≡ false → world_told is ≡ (offered (world_told was) (slip given)).world)
    (unchanged : is_mem answer ≡ true → is ≡ was) where
  offer_is : IsOffered was is (slip block) answer
  offer_is = subst (λ (b : Block). IsOffered was is (slip b) answer) given_is (record { said = said; entries = entries; world = world; unchanged = unchanged })

  file_put : IsPut kind block by (shelved files own) (shelved mid noted) put
  file_put = subst (λ (b : Block). IsPut kind b by (shelved files own) (shelved mid noted) put) shared_is (record { files = put_is; own = noted_is })

  same_changes : all_changes (world_told is) put one refused (one_file_text kind again) answer (shelved mid noted) ≡ answer_changes (world_told is) kind block by put answer (shelved mid noted)
  same_changes =
      ap (λ (n : List ℕ). all_changes (world_told is) put n refused (one_file_text kind again) answer (shelved mid noted)) one_is
      ∙ ap (λ (n : List ℕ). all_changes (world_told is) put (own_file (slip block) by) n (one_file_text kind again) answer (shelved mid noted)) refused_is
      ∙ ap (λ (b : Block). all_changes (world_told is) put (own_file (slip block) by) (refused_file (slip block) by) (one_file_text kind b) answer (shelved mid noted)) again_is

  pub cut_taken : (before between now : ℕ) (f : ShelfFail) → before ≤ between → RefusesBy f between now
      → IsStopped (all_changes (world_told is) put one refused (one_file_text kind again) answer (shelved mid noted)) (shelved mid noted) (shelved new left)
      → IsTaken was is kind block by (shelved files own) (shelved new left) before now (Err (Store (fault_of f)))
  cut_taken before between now f le r s = inr (record {
    answer = answer;
    is_offered = offer_is;
    put = put;
    between = shelved mid noted;
    is_put = file_put;
    stopped = subst (λ (cs : List Change). IsStopped cs (shelved mid noted) (shelved new left)) same_changes s;
    fail = f;
    fault_is = refl;
    cause = later_refuses f before between now le r;
  })

  placed_is : shelved new left ≡ changed_all (all_changes (world_told is) put one refused (one_file_text kind again) answer (shelved mid noted)) (shelved mid noted)
      → IsOffered was is (slip block) answer × IsPlaced (world_told is) kind block by (shelved files own) (shelved new left) answer
  placed_is done = (
    offer_is,
    record {
      put = put;
      between = shelved mid noted;
      is_put = file_put;
      done = done ∙ ap (λ (cs : List Change). changed_all cs (shelved mid noted)) same_changes;
    },
  )

  pub ok_taken : (before now : ℕ) (o : Offered) → answer ≡ Ok o → shelved new left ≡ changed_all (all_changes (world_told is) put one refused (one_file_text kind again) answer (shelved mid noted)) (shelved mid noted)
      → IsTaken was is kind block by (shelved files own) (shelved new left) before now (Ok o)
  ok_taken before now o e done =
      subst (λ (a : Result Offered OfferFault). IsOffered was is (slip block) a × IsPlaced (world_told is) kind block by (shelved files own) (shelved new left) a) e (placed_is done)

  pub err_taken : (before now : ℕ) (f : OfferFault) → answer ≡ Err f → shelved new left ≡ changed_all (all_changes (world_told is) put one refused (one_file_text kind again) answer (shelved mid noted)) (shelved mid noted)
      → IsTaken was is kind block by (shelved files own) (shelved new left) before now (Err (Offer f))
  err_taken before now f e done =
      subst (λ (a : Result Offered OfferFault). IsOffered was is (slip block) a × IsPlaced (world_told is) kind block by (shelved files own) (shelved new left) a) e (placed_is done)
