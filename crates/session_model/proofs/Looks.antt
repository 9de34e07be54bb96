-- What the answer to a look at the start says of a session.
use Rattle.std.proofs.Common.{◌≡◌, ℕ, Option, Some, None, refl, subst}
use Rattle.chain_model.specs.declared.places.Place.{Place}
use Rattle.chain_model.specs.Places.{PlaceFits, IsAhead}
use Rattle.step_cursor.specs.declared.cursor.Cursor.{Cursor}
use Rattle.step_cursor.specs.declared.cursor.Request.{Request}
use Rattle.relay_model.specs.Worlds.{World}
use Rattle.relay_model.specs.Soundness.{IsSound}
use Rattle.relay_model.specs.Looks.{Batch, Start, looked}
use Rattle.relay_model.specs.Laws.{BatchBegins}
use Rattle.relay_model.proofs.public.Fitting.{batch_fits}
use Rattle.session_model.specs.Transcript.{begins_at}
use Rattle.session_model.specs.Standing.{BeganOver}

place_is : (w : World) (r : Request) (len : ℕ) (place : Place) → BatchBegins w r len place → (o : Option Cursor) → r.cursor ≡ o → place ≡ begins_at w.history r.start o
place_is w r len place b None e = b.opens e
place_is w r len place b (Some c) e = (b.cursor c e).0

-- the session began right
pub began_at_look : (w : World) (r : Request) (len : ℕ) (place : Place) → IsSound w → looked w r Start ≡ Batch len place
    → (place ≡ begins_at w.history r.start r.cursor) × BeganOver w.history r w.run
began_at_look w r len place sound e =
    let b = batch_fits w r len place sound e in
    let begun = place_is w r len place b r.cursor refl in (
      begun,
      record {
        fits = subst (λ (p : Place). PlaceFits w.history p.end p.lib) begun b.fits;
        ahead = subst (λ (p : Place). IsAhead r.stop p.end) begun b.ahead;
        cursor = λ c is. (b.cursor c is).1;
        seen = b.seen;
      },
    )
