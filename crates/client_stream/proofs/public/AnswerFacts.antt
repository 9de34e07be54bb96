-- What a relay's answer to a look says, and the steps of a batch in it.
use Rattle.std.proofs.Common.{arith, ◌≡◌, ◌≢◌, ℕ, length, List, Option, Result, Ok, Err, refl, ◌∙◌, ap}
use Rattle.std.proofs.lemmas.List.{length-append, length-map, length-reverse}
use Rattle.block_record.specs.declared.blocks.Slip.{Slip}
use Rattle.chain_model.specs.declared.places.Mode.{Mode}
use Rattle.chain_model.specs.declared.places.Place.{Place}
use Rattle.chain_model.specs.Steps.{steps_of}
use Rattle.fork_db.specs.declared.batches.Batch.{Batch}
use Rattle.fork_db.specs.Batches.{IsBatch, step_total}
use Rattle.relay_model.specs.Looks.{Look as Said, Batch as BatchSaid}
use Rattle.relay_look.specs.declared.answers.Look.{Look}
use Rattle.relay_look.specs.declared.answers.Look.TheVariants as look
use Rattle.relay_look.specs.declared.answers.LookFault.{LookFault}
use Rattle.relay_look.specs.declared.answers.LookFault.TheVariants as fault
use Rattle.relay_look.specs.Answers.{IsLook, HasBatchOf}
use Rattle.step_cursor.specs.declared.cursor.Request.{Request}
use Rattle.client_stream.specs.Answers.{said_of, batch_in, total_of}

-- the counts of a batch are those of its steps
counts_total : (newest : List Slip) (m : Mode) (stop : Option ℕ) (b : Batch) → IsBatch newest m stop b → step_total b ≡ length (steps_of newest b.place m stop)
counts_total newest m stop b h = let c = h.counts in simp (length-append, length-map, length-reverse) (omega (arith, c.undo, c.final, c.newfinal, c.new_))

-- the answer is what the rules say
pub said_is : (said : Said) (answer : Result Look LookFault) → answer ≢ Err fault.Mem → IsLook said answer → said ≡ said_of answer
said_is said (Ok (look.Batch b)) some h = h
said_is said (Ok (look.NotYet len)) some h = h
said_is said (Ok (look.Done len)) some h = h
said_is said (Ok (look.Closing len)) some h = h
said_is said (Err (fault.Unknown id)) some h = h
said_is said (Err (fault.Misfit f)) some h = h
said_is said (Err (fault.StopBelow end)) some h = h
said_is said (Err fault.Mem) some h = absurd (some refl)

same_batch : (a b : ℕ) (p q : Place) → BatchSaid a p ≡ BatchSaid b q → p ≡ q
same_batch a b p q e = grind (arith, e)

-- the steps of a batch that was answered
pub counted : (newest : List Slip) (r : Request) (answer : Result Look LookFault) → HasBatchOf newest r answer → (seen : ℕ) (place : Place) → said_of answer ≡ BatchSaid seen place
    → total_of (batch_in answer) ≡ length (steps_of newest place r.mode r.stop)
counted newest r (Ok (look.Batch b)) h seen place e =
    counts_total newest r.mode r.stop b h.batch ∙ ap (λ p. length (steps_of newest p r.mode r.stop)) (same_batch b.seen seen b.place place e)
counted newest r (Ok (look.NotYet len)) h seen place e = absurd (grind (arith, e))
counted newest r (Ok (look.Done len)) h seen place e = absurd (grind (arith, e))
counted newest r (Ok (look.Closing len)) h seen place e = absurd (grind (arith, e))
counted newest r (Err (fault.Unknown id)) h seen place e = absurd (grind (arith, e))
counted newest r (Err (fault.Misfit f)) h seen place e = absurd (grind (arith, e))
counted newest r (Err (fault.StopBelow end)) h seen place e = absurd (grind (arith, e))
counted newest r (Err fault.Mem) h seen place e = absurd (grind (arith, e))
