-- A client goes on to be served as the history of its relay grows, and as it is looked at.
use Rattle.std.proofs.Common.{◌≡◌, ◌-◌, ℕ, Bool, true, false, map, length, take, List, [], ◌∷◌, ◌++◌, Option, None, Some, IfSome, Ok, inl, inr, refl, sym, ◌∙◌, ap, subst, append_assoc}
use Rattle.std.specs.List.{AllByRecursion}
use Rattle.block_record.specs.declared.blocks.Slip.{Slip}
use Rattle.block_record.specs.declared.blocks.Kind.{Kind}
use Rattle.chain_model.specs.declared.places.Place.{Place}
use Rattle.step_cursor.specs.declared.cursor.Request.{Request}
use Rattle.relay_model.specs.Worlds.{World}
use Rattle.relay_model.specs.Soundness.{IsSound}
use Rattle.relay_model.specs.Chronicles.{Entry, Opened, Kind as KindEntry, Admitted, Waited, Stored, Closed, added, added_by, history_of, kind_added, kind_of, run_of}
use Rattle.relay_model.specs.Offers.{intake, judge}
use Rattle.relay_model.specs.Verdicts.{Verdict}
use Rattle.relay_model.specs.Verdicts as verdict
use Rattle.relay_model.specs.Looks.{Position, Start, At, Look as Said, Batch as BatchSaid, NotYet, Done, Closing, Unknown, Misfit, StopBelow, looked}
use Rattle.session_model.specs.Told.{Told as Line, told}
use Rattle.session_model.specs.Progress.{Stage, Waits, Progress, after_look}
use Rattle.session_model.specs.Standing.{StandsAt}
use Rattle.block_relay.specs.Chronicle.{Told, closed_entries, greeted, world_told}
use Rattle.client_stream.specs.Sessions.{State, new_state}
use Rattle.client_stream.specs.Sent.{HasSent}
use Rattle.relay_session.specs.declared.turn.Turn.{Turn}
use Rattle.relay_session.specs.declared.turn.Turn.TheVariants as turn
use Rattle.relay_session.specs.Growing.{HasGrown, IsInService}
use Rattle.relay_session.specs.Serving.{Serves, GoesOn}
use Rattle.relay_session.specs.Turns.{IsAsked, IsStill, IsTurn, WasStopped}
use Rattle.relay_session.proofs.LookFacts.{any_type, none_at_start}
use Rattle.relay_session.proofs.ServedFacts.{served_on}

-- the history of entries that were added to others
pub history_of-append : (more es : List Entry) → history_of (more ++ es) ≡ history_of more ++ history_of es
history_of-append [] es = refl
history_of-append (Opened first run limits size ∷ more) es = history_of-append more es
history_of-append (KindEntry k ∷ more) es = history_of-append more es
history_of-append (Admitted s ∷ more) es = ap (λ l. s ∷ l) (history_of-append more es)
history_of-append (Waited s ∷ more) es = history_of-append more es
history_of-append (Stored at ∷ more) es = history_of-append more es
history_of-append (Closed ∷ more) es = history_of-append more es

-- so a relay whose chronicle has grown has grown
pub grown_by : (t u : Told) (more : List Entry) → u.entries ≡ more ++ t.entries → (world_told u).run ≡ (world_told t).run
    → ((k : Kind) → (world_told t).kind ≡ Some k → (world_told u).kind ≡ Some k) → HasGrown (world_told t) (world_told u)
grown_by t u more e run kind = record { more = history_of more; history = ap history_of e ∙ history_of-append more t.entries; run_is = run; kind = kind }

-- an entry opens nothing, and tells a kind only where there is none yet
abbrev pub GoesAfter : Entry → Option Kind → Type 0
GoesAfter (Opened first run limits size) kind = ⊥
GoesAfter (KindEntry k) None = Unit {0}
GoesAfter (KindEntry k) (Some held) = ⊥
GoesAfter (Admitted s) kind = Unit {0}
GoesAfter (Waited s) kind = Unit {0}
GoesAfter (Stored at) kind = Unit {0}
GoesAfter Closed kind = Unit {0}

abbrev pub AllGoAfter : Option Kind → List Entry → Type 0
AllGoAfter kind more = AllByRecursion (λ e. GoesAfter e kind) more

run_after : (kind : Option Kind) (more es : List Entry) → AllGoAfter kind more → run_of (more ++ es) ≡ run_of es
run_after kind [] es all = refl
run_after kind (Opened first run limits size ∷ more) es all = absurd all.0
run_after kind (KindEntry k ∷ more) es all = run_after kind more es all.1
run_after kind (Admitted s ∷ more) es all = run_after kind more es all.1
run_after kind (Waited s ∷ more) es all = run_after kind more es all.1
run_after kind (Stored at ∷ more) es all = run_after kind more es all.1
run_after kind (Closed ∷ more) es all = run_after kind more es all.1

kind_after : (k : Kind) (more es : List Entry) → AllGoAfter (Some k) more → kind_of (more ++ es) ≡ kind_of es
kind_after k [] es all = refl
kind_after k (Opened first run limits size ∷ more) es all = absurd all.0
kind_after k (KindEntry j ∷ more) es all = absurd all.0
kind_after k (Admitted s ∷ more) es all = kind_after k more es all.1
kind_after k (Waited s ∷ more) es all = kind_after k more es all.1
kind_after k (Stored at ∷ more) es all = kind_after k more es all.1
kind_after k (Closed ∷ more) es all = kind_after k more es all.1

-- so a relay grows by such entries
pub grown_after : (t u : Told) (more : List Entry) → u.entries ≡ more ++ t.entries → AllGoAfter (world_told t).kind more → HasGrown (world_told t) (world_told u)
grown_after t u more e all =
    grown_by t u more e (ap run_of e ∙ run_after (world_told t).kind more t.entries all)
    (λ k is. ap kind_of e ∙ kind_after k more t.entries (subst (λ (o : Option Kind). AllGoAfter o more) is all) ∙ is)

-- as nodes say of themselves, as blocks are offered, and as it is closed
pub grown_greeted : (t u : Told) (k : Kind) → u.entries ≡ greeted (world_told t).kind k t.entries → HasGrown (world_told t) (world_told u)
grown_greeted t u k e = by (world_told t).kind refl (λ o is. subst (λ (x : Option Kind). u.entries ≡ greeted x k t.entries) is e)
  where
    by : (o : Option Kind) → (world_told t).kind ≡ o → ((x : Option Kind) → (world_told t).kind ≡ x → u.entries ≡ greeted x k t.entries) → HasGrown (world_told t) (world_told u)
    by None is said = grown_after t u (KindEntry k ∷ []) (said None is) (subst (λ (x : Option Kind). AllGoAfter x (KindEntry k ∷ [])) (sym is) (tt, tt))
    by (Some held) is said = grown_after t u [] (said (Some held) is) tt

all_admitted : (kind : Option Kind) (xs : List Slip) (es : List Entry) → AllGoAfter kind es → AllGoAfter kind (map Admitted xs ++ es)
all_admitted kind [] es all = all
all_admitted kind (s ∷ xs) es all = (tt, all_admitted kind xs es all)

all_kind : (kind : Option Kind) (history : List Slip) → AllGoAfter kind (kind_added kind history)
all_kind None [] = (tt, tt)
all_kind None (s ∷ history) = tt
all_kind (Some k) history = tt

all_added : (w : World) (s : Slip) (v : Verdict) → AllGoAfter w.kind (added_by w s v)
all_added w s verdict.Closed = tt
all_added w s verdict.Duplicate = tt
all_added w s (verdict.Conflict c) = tt
all_added w s verdict.Early = tt
all_added w s verdict.Stale = tt
all_added w s verdict.WaitFull = tt
all_added w s verdict.Waiting = (tt, tt)
all_added w s (verdict.HistoryFull need) = tt
all_added w s verdict.Admitted = all_admitted w.kind (take (length (intake w s).history - length w.history) (intake w s).history) (kind_added w.kind w.history) (all_kind w.kind w.history)

pub grown_offered : (t u : Told) (s : Slip) → u.entries ≡ added (world_told t) s ++ t.entries → HasGrown (world_told t) (world_told u)
grown_offered t u s e = grown_after t u (added (world_told t) s) e (all_added (world_told t) s (judge (world_told t) s))

pub grown_closed : (t u : Told) → u.entries ≡ closed_entries (world_told t).closed t.entries → HasGrown (world_told t) (world_told u)
grown_closed t u = by (world_told t).closed
  where
    by : (b : Bool) → u.entries ≡ closed_entries b t.entries → HasGrown (world_told t) (world_told u)
    by true e = grown_after t u [] e tt
    by false e = grown_after t u (Closed ∷ []) e (tt, tt)

-- as places come to be stored
all_stored : (kind : Option Kind) (stored : List ℕ) → AllGoAfter kind (map Stored stored)
all_stored kind [] = tt
all_stored kind (at ∷ stored) = (tt, all_stored kind stored)

pub grown_stored : (t u : Told) (stored : List ℕ) → u.entries ≡ map Stored stored ++ t.entries → HasGrown (world_told t) (world_told u)
grown_stored t u stored e = grown_after t u (map Stored stored) e (all_stored (world_told t).kind stored)

-- a world has grown into itself, and on
pub grown_none : (w : World) → HasGrown w w
grown_none w = record { more = []; history = refl; run_is = refl; kind = λ k e. e }

pub grown_more : (w v x : World) → HasGrown w v → HasGrown v x → HasGrown w x
grown_more w v x g h = record {
  more = h.more ++ g.more;
  history = h.history ∙ ap (λ l. h.more ++ l) g.history ∙ sym (append_assoc h.more g.more w.history);
  run_is = h.run_is ∙ g.run_is;
  kind = λ k e. h.kind k (g.kind k e);
}

-- a text that a client was sent stays so, with the type of the relay's kind
pub serves_later : (t u : Told) (older : List Slip) (type : List ℕ) (s : State) (text : List ℕ) → HasGrown (world_told t) (world_told u)
    → ((world_told t).kind ≡ None → s.progress.lens ≡ []) → Serves t older type s text → (type' : List ℕ) × Serves u older type' s text
serves_later t u older type s text g bare h = by (world_told t).kind (world_told u).kind refl refl
  where
    grown : (type' : List ℕ) → HasSent older type' s text → IfSome (world_told u).kind (λ k. k.block_type ≡ type') → Serves u older type' s text
    grown type' sent is = record {
      sent = sent;
      more = g.more ++ h.more;
      grown = g.history ∙ ap (λ l. g.more ++ l) h.grown ∙ sym (append_assoc g.more h.more older);
      run_is = g.run_is ∙ h.run_is;
      type_is = is;
    }

    by : (a b : Option Kind) → (world_told t).kind ≡ a → (world_told u).kind ≡ b → (type' : List ℕ) × Serves u older type' s text
    by (Some k) b was is =
        let same : k.block_type ≡ type = subst (λ (o : Option Kind). IfSome o (λ x. x.block_type ≡ type)) was h.type_is in
        (type, grown type h.sent (subst (λ (o : Option Kind). IfSome o (λ x. x.block_type ≡ type)) (sym (g.kind k was)) same))
    by None None was is = (type, grown type h.sent (subst (λ (o : Option Kind). IfSome o (λ x. x.block_type ≡ type)) (sym is) tt))
    by None (Some k) was is = (
      k.block_type,
      grown k.block_type (any_type older type k.block_type s text (bare was) h.sent)
          (subst (λ (o : Option Kind). IfSome o (λ x. x.block_type ≡ k.block_type)) (sym is) refl),
    )

-- a client in service stays so as the world of its relay grows
pub service_stays : (t u : Told) (s : State) → HasGrown (world_told t) (world_told u) → IsInService t s → IsInService u s
service_stays t u s g h =
    let later = serves_later t u h.served.older h.served.type s h.served.text g h.bare h.served.serves in
    record {
      served = record { older = h.served.older; type = later.0; text = h.served.text; serves = later.1 };
      bare = λ none. h.bare (unkept (world_told t).kind refl none);
    }
  where
    unkept : (a : Option Kind) → (world_told t).kind ≡ a → (world_told u).kind ≡ None → (world_told t).kind ≡ None
    unkept None was none = was
    unkept (Some k) was none = let never : None ≡ Some k = sym none ∙ g.kind k was in absurd (cc)

-- a new client is in service at each relay of its run
pub service_begins : (t : Told) (s : State) (r : Request) (run : ℕ) → s ≡ new_state r run → ((newest : List Slip) (type : List ℕ) → HasSent newest type s [])
    → (world_told t).run ≡ run → IsInService t s
service_begins t s r run new nothing is = go (world_told t).kind refl
  where
    served : (type : List ℕ) → IfSome (world_told t).kind (λ k. k.block_type ≡ type) → IsInService t s
    served type type_is = record {
      served = record {
        older = (world_told t).history;
        type = type;
        text = [];
        serves = record {
          sent = nothing (world_told t).history type;
          more = [];
          grown = refl;
          run_is = is ∙ sym (ap (λ (x : State). x.progress.run_number) new);
          type_is = type_is;
        };
      };
      bare = λ none. ap (λ (x : State). x.progress.lens) new;
    }

    go : (a : Option Kind) → (world_told t).kind ≡ a → IsInService t s
    go None e = served [] (subst (λ (o : Option Kind). IfSome o (λ x. x.block_type ≡ [])) (sym e) tt)
    go (Some k) e = served k.block_type (subst (λ (o : Option Kind). IfSome o (λ x. x.block_type ≡ k.block_type)) (sym e) refl)

-- without a kind a look gives no batch
no_batch : (w : World) (older : List Slip) (type : List ℕ) (p : Progress) (lines : List Line) (position : Position) (seen : ℕ) (place : Place)
    → StandsAt older type p.request p.run_number p.lens (Waits position) lines → p.lens ≡ [] → w.history ≡ [] → looked w p.request position ≡ BatchSaid seen place → ⊥
no_batch w older type p lines Start seen place h bare empty e = none_at_start w p.request seen place empty e
no_batch w older type p lines (At q) seen place h bare empty e = h.some bare

lens_kept : (total : ℕ) (p : Progress) (said : Said) → ((seen : ℕ) (place : Place) → said ≡ BatchSaid seen place → ⊥) → (after_look total p said).lens ≡ p.lens
lens_kept total p (BatchSaid seen place) other = absurd (other seen place refl)
lens_kept total p (NotYet len) other = refl
lens_kept total p (Done len) other = refl
lens_kept total p (Closing len) other = refl
lens_kept total p (Unknown id) other = refl
lens_kept total p (Misfit field) other = refl
lens_kept total p (StopBelow end) other = refl

bare_asked : (t : Told) (s : State) (q : Progress) → IsSound (world_told t) → IsInService t s → (world_told t).kind ≡ None → IsAsked (world_told t) s.progress q → q.lens ≡ []
bare_asked t s q sound h none (inl open_) = ap (λ (x : Progress). x.lens) open_.same ∙ h.bare none
bare_asked t s q sound h none (inr x) =
    let w = world_told t in
    let p = s.progress in
    let v = h.served.serves in
    let stands = subst (λ (stage : Stage). StandsAt h.served.older h.served.type p.request p.run_number p.lens stage (map told v.sent.written.replies)) x.waits v.sent.written.stands in
    ap (λ (y : Progress). y.lens) x.after
    ∙ lens_kept x.total p (looked w p.request x.position)
    (λ seen place e. no_batch w h.served.older h.served.type p (map told v.sent.written.replies) x.position seen place stands (h.bare none) (sound.kind none) e)
    ∙ h.bare none

bare_stopped : (t : Told) (most : Option ℕ) (s : State) (q : Progress) → IsSound (world_told t) → IsInService t s → (world_told t).kind ≡ None → WasStopped (world_told t) most s.progress q → q.lens ≡ []
bare_stopped t most s q sound h none (inl same) = ap (λ (x : Progress). x.lens) same ∙ h.bare none
bare_stopped t most s q sound h none (inr x) = ap (λ (y : Progress). y.lens) x.steps.kept ∙ bare_asked t s x.asked sound h none x.look

-- a client that was looked at stays in service
pub service_on : (t : Told) (most : Option ℕ) (s u : State) (a b : List ℕ) → IsSound (world_told t) → IsInService t s → GoesOn t s u a b → WasStopped (world_told t) most s.progress u.progress
    → IsInService t u
service_on t most s u a b sound h g x = record {
  served = served_on t s u a b h.served g;
  bare = λ none. bare_stopped t most s u.progress sound h none x;
}

-- what came of an event, where nothing has changed unless something was sent
pub turn_stopped : (w : World) (most : Option ℕ) (p q : Progress) (turned : Turn) → (IsStill (Ok turned) → q ≡ p) → IsTurn w most p q turned → WasStopped w most p q
turn_stopped w most p q (turn.NotYet len) still x = inl (still tt)
turn_stopped w most p q turn.Sent still x = inr (record { asked = x.asked; look = x.look; steps = x.steps.steps })
turn_stopped w most p q turn.WasOver still x = inl (still tt)
