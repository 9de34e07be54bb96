-- Batches that were made of a history, as it grows.
use Rattle.std.proofs.Common.{ℕ, List, [], ◌++◌, Option, refl, sym, ◌∙◌, ap, append_assoc}
use Rattle.block_record.specs.declared.blocks.Slip.{Slip}
use Rattle.chain_model.specs.declared.places.Mode.{Mode}
use Rattle.chain_model.specs.Places.{IsAhead, PlaceFits}
use Rattle.fork_db.specs.declared.batches.Batch.{Batch}
use Rattle.fork_db.specs.Batches.{IsBatch, IsGiven, WasGiven}

-- a batch of the history was made of it
pub given_now : (newest : List Slip) (m : Mode) (stop : Option ℕ) (b : Batch) → IsBatch newest m stop b → PlaceFits newest b.place.end b.place.lib → IsAhead stop b.place.end
    → IsGiven newest newest m stop b
given_now newest m stop b batch fits ahead = record { more = []; grown = refl; batch = batch; fits = fits; ahead = ahead }

-- and stays so as the history grows
pub given_later : (more newest older : List Slip) (m : Mode) (stop : Option ℕ) (b : Batch) → IsGiven newest older m stop b → IsGiven (more ++ newest) older m stop b
given_later more newest older m stop b given = record {
  more = more ++ given.more;
  grown = ap (λ l. more ++ l) given.grown ∙ sym (append_assoc more given.more older);
  batch = given.batch;
  fits = given.fits;
  ahead = given.ahead;
}

pub was_given_later : (more newest : List Slip) (b : Batch) → WasGiven newest b → WasGiven (more ++ newest) b
was_given_later more newest b was = record { older = was.older; mode = was.mode; stop = was.stop; given = given_later more newest was.older was.mode was.stop b was.given }
