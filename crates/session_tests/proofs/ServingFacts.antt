-- Whom a relay serves it serves on as blocks come, as they are stored, and once it is closed.
use Rattle.std.proofs.Common.{◌≡◌, ◌∙◌, ℕ, ap, refl, subst, sym, append_assoc, Bool, true, false, List, [], ◌++◌, Option, None, Some}
use Rattle.std.specs.Prelude.{IfSome, IsSome}
use mathlib.Core.List.{IsSuffix}
use Rattle.block_record.specs.declared.blocks.Slip.{Slip}
use Rattle.block_record.specs.declared.blocks.Kind.{Kind}
use Rattle.relay_model.specs.Worlds.{World}
use Rattle.relay_model.specs.Verdicts.{Verdict}
use Rattle.relay_model.specs.Verdicts as verdict
use Rattle.relay_model.specs.Offers.{judge, kind_after, offered, world_by}
use Rattle.relay_model.proofs.public.Judged.{stays_by}
use Rattle.relay_model.proofs.public.Sound.{offer_grows}
use Rattle.block_relay.specs.Chronicle.{Told, world_told}
use Rattle.step_cursor.specs.declared.cursor.Request.{Request}
use Rattle.client_stream.specs.Sessions.{State, new_state}
use Rattle.client_stream.specs.Sent.{HasSent}
use Rattle.relay_session.specs.Serving.{GoesOn}
use Rattle.session_tests.specs.Plants.{IsServing}

-- a world that goes on from another: the history has grown, and the run and the kind are the same
pub record IsLater (w v : World) : Type 0 where
  pub grown : IsSuffix w.history v.history
  pub run_is : v.run ≡ w.run
  pub kind_is : v.kind ≡ w.kind

pub serves_later : (t u : Told) → IsLater (world_told t) (world_told u) → (s : State) → IsServing t s → IsServing u s
serves_later t u later s x = record {
  served = record {
    older = x.served.older;
    type = x.served.type;
    text = x.served.text;
    serves = record {
      sent = x.served.serves.sent;
      more = later.grown.0 ++ x.served.serves.more;
      grown = sym later.grown.1 ∙ ap (λ h. later.grown.0 ++ h) x.served.serves.grown ∙ sym (append_assoc later.grown.0 x.served.serves.more x.served.older);
      run_is = later.run_is ∙ x.served.serves.run_is;
      type_is = subst (λ (k : Option Kind). IfSome k (λ k. k.block_type ≡ x.served.type)) (sym later.kind_is) x.served.serves.type_is;
    };
  };
  kind = subst (λ (k : Option Kind). IsSome k) (sym later.kind_is) x.kind;
}

known_stays : (o : Option Kind) (newest : List Slip) → IsSome o → kind_after o newest ≡ o
known_stays (Some k) newest some = refl
known_stays None newest some = absurd (cc)

kind_by : (w : World) (s : Slip) (v : Verdict) → IsSome w.kind → (world_by w s v).kind ≡ w.kind
kind_by w s verdict.Closed some = refl
kind_by w s verdict.Duplicate some = refl
kind_by w s (verdict.Conflict c) some = refl
kind_by w s verdict.Early some = refl
kind_by w s verdict.Stale some = refl
kind_by w s verdict.WaitFull some = refl
kind_by w s verdict.Waiting some = refl
kind_by w s (verdict.HistoryFull need) some = refl
kind_by w s verdict.Admitted some = known_stays w.kind w.history some

world_later : (w : World) (s : Slip) → IsSome w.kind → IsLater w (offered w s).world
world_later w s some = record {
  grown = offer_grows w s;
  run_is = stays_by (λ v. v.run) w s (judge w s) (λ k h ws cs. refl);
  kind_is = kind_by w s (judge w s) some;
}

-- after an offer, also where there was no memory for it
pub offer_serves : (t u : Told) (s : Slip) (no_memory : Bool) → (no_memory ≡ false → world_told u ≡ (offered (world_told t) s).world) → (no_memory ≡ true → u ≡ t)
    → (client : State) → IsServing t client → IsServing u client
offer_serves t u s true world same client x = subst (λ (v : Told). IsServing v client) (sym (same refl)) x
offer_serves t u s false world same client x =
    serves_later t u (subst (λ (v : World). IsLater (world_told t) v) (sym (world refl)) (world_later (world_told t) s x.kind)) client x

-- after a look, whatever came of it
pub look_serves : (t : Told) (s u : State) (before after : List ℕ) → IsServing t s → GoesOn t s u before after → IsServing t u
look_serves t s u before after x on = record {
  served = record {
    older = (world_told t).history;
    type = x.served.type;
    text = x.served.text ++ on.added;
    serves = on.serves x.served.older x.served.type x.served.text x.served.serves;
  };
  kind = x.kind;
}

type_of : Option Kind → List ℕ
type_of None = []
type_of (Some k) = k.block_type

of_its_type : (o : Option Kind) → IfSome o (λ k. k.block_type ≡ type_of o)
unfolding type_of
of_its_type None = tt
of_its_type (Some k) = refl

-- a client of the relay's run to which nothing was sent
pub new_serves : (t : Told) (r : Request) (run_number : ℕ) (s : State) → (world_told t).run ≡ run_number → IsSome (world_told t).kind → s ≡ new_state r run_number
    → ((newest : List Slip) (type : List ℕ) → HasSent newest type s []) → IsServing t s
new_serves t r run_number s run some new sent = record {
  served = record {
    older = (world_told t).history;
    type = type_of (world_told t).kind;
    text = [];
    serves = record {
      sent = sent (world_told t).history (type_of (world_told t).kind);
      more = [];
      grown = refl;
      run_is = run ∙ sym (ap (λ v. v.progress.run_number) new);
      type_is = of_its_type (world_told t).kind;
    };
  };
  kind = some;
}
