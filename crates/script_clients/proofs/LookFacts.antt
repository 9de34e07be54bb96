-- What an event of a client brings about.
use Rattle.std.proofs.Common.{◌≡◌, ◌<◌, ◌++◌, ℕ, length, get_or, List, [], Option, None, Some, Result, Ok, Err, IfErr, IfOk, OnErr, OnOk, inl, inr, refl, sym, ◌∙◌, ap, subst}
use Rattle.std.specs.Result.{IsOk}
use Rattle.std.proofs.Math.ListN.{set}
use Rattle.outer_world.specs.Files.{Files}
use Rattle.one_block.specs.declared.faults.StoreFault.{StoreFault}
use Rattle.one_block.specs.declared.faults.StoreFault.TheVariants as store
use Rattle.relay_model.specs.Soundness.{IsSound}
use Rattle.block_relay.specs.Chronicle.{Told, world_told}
use Rattle.client_stream.specs.Sessions.{State}
use Rattle.relay_session.specs.declared.turn.Turn.{Turn}
use Rattle.relay_session.specs.Growing.{IsInService}
use Rattle.relay_session.specs.Serving.{GoesOn}
use Rattle.relay_session.specs.Turns.{HasCause, IsStill, IsTurn, WasStopped}
use Rattle.relay_session.proofs.public.Growing.{service_on, turn_stopped}
use Rattle.replay_text.specs.Lines.{over_line}
use Rattle.script_clients.specs.declared.named.Named.{Named}
use Rattle.script_clients.specs.Clients.{client_of, place_of, with_client}
use Rattle.script_clients.specs.Looking.{HasLooked, HasStopped, IsLooked, IsStopped, IsTold, TurnsOne, WasGone, look_lines}
use Rattle.script_clients.specs.Serving.{AllServed, ServesIfAny}
use Rattle.script_clients.proofs.ClientFacts.{found_at, not_found, put_at, served_at, served_with, set_same}

-- an event of a session: what its client's call says of it
pub record Event (t : Told) (most : Option ℕ) (files : Option Files) (faults_before faults_after : ℕ) (was now : State) (looked : Result Turn StoreFault) (sent : List ℕ) : Type 0 where
  pub goes_on : GoesOn t was now [] sent
  pub came : IfOk looked (IsTurn (world_told t) most was.progress now.progress)
  pub still : IsStill looked → now ≡ was
  pub stopped : IfErr looked (λ fault. WasStopped (world_told t) most was.progress now.progress)
  pub cause : IfErr looked (HasCause (world_told t).history files faults_before faults_after now.progress)

-- the lines of the event were kept in a text that was empty before
pub event_of : (t : Told) (most : Option ℕ) (files : Option Files) (a b : ℕ) (was now : State) (looked : Result Turn StoreFault) (kept sent : List ℕ) → kept ≡ [] → GoesOn t was now kept sent
    → IfOk looked (IsTurn (world_told t) most was.progress now.progress) → (IsStill looked → now ≡ was)
    → IfErr looked (λ fault. WasStopped (world_told t) most was.progress now.progress)
    → IfErr looked (HasCause (world_told t).history files a b now.progress) → Event t most files a b was now looked sent
event_of t most files a b was now looked kept sent empty told came still stopped cause =
    record { goes_on = subst (λ (l : List ℕ). GoesOn t was now l sent) empty told; came = came; still = still; stopped = stopped; cause = cause }

-- how far it went
went : (t : Told) (most : Option ℕ) (files : Option Files) (a b : ℕ) (was now : State) (looked : Result Turn StoreFault) (sent : List ℕ) → Event t most files a b was now looked sent
    → WasStopped (world_told t) most was.progress now.progress
went t most files a b was now (Ok turned) sent x = turn_stopped (world_told t) most was.progress now.progress turned (λ h. ap (λ (s : State). s.progress) (x.still h)) x.came
went t most files a b was now (Err fault) sent x = x.stopped

-- so its client stays in service
pub in_service : (t : Told) (most : Option ℕ) (files : Option Files) (a b : ℕ) (was now : State) (looked : Result Turn StoreFault) (sent : List ℕ) → Event t most files a b was now looked sent
    → IsSound (world_told t) → IsInService t was → IsInService t now
in_service t most files a b was now looked sent x sound h = service_on t most was now [] sent sound h x.goes_on (went t most files a b was now looked sent x)

-- the lines were appended
has_looked : (t : Told) (most : Option ℕ) (name : List ℕ) (files : Option Files) (a b : ℕ) (was now : State) (looked : Result Turn StoreFault) (sent before after : List ℕ)
    → Event t most files a b was now looked sent → IsOk looked → after ≡ before ++ look_lines name sent looked → HasLooked t most name was now before after
has_looked t most name files a b was now (Ok turned) sent before after x ok told =
    record { turned = turned; came = x.came; still = x.still; sent = sent; goes_on = x.goes_on; told = told }
has_looked t most name files a b was now (Err fault) sent before after x ok told = absurd (cc)

-- the event was refused, or there was no memory for its lines
has_stopped : (t : Told) (most : Option ℕ) (name : List ℕ) (files : Option Files) (a b : ℕ) (was now : State) (looked : Result Turn StoreFault) (sent before after : List ℕ) (fault : StoreFault)
    → Event t most files a b was now looked sent → IsTold name sent looked fault before after → HasStopped t most name files a b was now before after fault
has_stopped t most name files a b was now looked sent before after fault x (inl (is, told)) = record {
  went = went t most files a b was now looked sent x;
  cause = subst (λ (r : Result Turn StoreFault). IfErr r (HasCause (world_told t).history files a b now.progress)) is x.cause;
  sent = sent;
  goes_on = x.goes_on;
  told = inl (told ∙ ap (λ (r : Result Turn StoreFault). before ++ look_lines name sent r) is);
}
has_stopped t most name files a b was now looked sent before after fault x (inr (mem, silent)) = record {
  went = went t most files a b was now looked sent x;
  cause = subst (λ (f : StoreFault). HasCause (world_told t).history files a b now.progress f) (sym mem) tt;
  sent = sent;
  goes_on = x.goes_on;
  told = inr (mem, silent);
}

-- the client at the place of a name

pub record IsAt (name : List ℕ) (old clients : List Named) (place : ℕ) (one : Named) : Type 0 where
  pub same : clients ≡ old
  pub place_is : place_of name old ≡ Some place
  pub one_is : one ≡ get_or clients place one

turned_one : (P : State → State → Type 0) (name : List ℕ) (old clients : List Named) (place : ℕ) (one : Named) (was now : State) → IsAt name old clients place one → one.client ≡ Some was → P was now
    → TurnsOne P name old (set clients place (record { name = one.name; client = Some now }))
turned_one P name old clients place one was now x is turns =
    let place_is = subst (λ (l : List Named). place_of name l ≡ Some place) (sym x.same) x.place_is in
    record {
      was = was;
      found = ap (client_of name) (sym x.same) ∙ found_at name clients place one place_is x.one_is ∙ ap Some is;
      now = now;
      turns = turns;
      clients = put_at name (Some now) clients place one place_is x.one_is ∙ ap (with_client name (Some now)) x.same;
    }

pub gone_one : (name : List ℕ) (old clients : List Named) (place : ℕ) (one : Named) → IsAt name old clients place one → one.client ≡ None → WasGone name old (set clients place one)
gone_one name old clients place one x is =
    let place_is = subst (λ (l : List Named). place_of name l ≡ Some place) (sym x.same) x.place_is in
    record {
      gone = inr (ap (client_of name) (sym x.same) ∙ found_at name clients place one place_is x.one_is ∙ ap Some is);
      same = set_same clients place one x.one_is ∙ x.same;
    }

pub gone_nowhere : (name : List ℕ) (old : List Named) → place_of name old ≡ None → WasGone name old old
gone_nowhere name old e = record { gone = inl (not_found name old e); same = refl }

-- the event of a client that is served
pub looked_ok : {T : Type 0} (t : Told) (most : Option ℕ) (name : List ℕ) (files : Option Files) (a b : ℕ) (was now : State) (looked : Result Turn StoreFault) (sent before after : List ℕ)
    (old clients : List Named) (place : ℕ) (one : Named) (result : Result T StoreFault) → Event t most files a b was now looked sent → IsAt name old clients place one → one.client ≡ Some was
    → OnOk result (IsOk looked) → OnOk result (after ≡ before ++ look_lines name sent looked)
    → OnOk result (IsLooked t most name old (set clients place (record { name = one.name; client = Some now })) before after)
looked_ok t most name files a b was now looked sent before after old clients place one (Ok v) x at is ok told =
    inr (turned_one (λ u v. HasLooked t most name u v before after) name old clients place one was now at is (has_looked t most name files a b was now looked sent before after x ok told))
looked_ok t most name files a b was now looked sent before after old clients place one (Err e) x at is ok told = told

pub looked_err : {T : Type 0} (t : Told) (most : Option ℕ) (name : List ℕ) (files : Option Files) (a b : ℕ) (was now : State) (looked : Result Turn StoreFault) (sent before after : List ℕ)
    (old clients : List Named) (place : ℕ) (one : Named) (result : Result T StoreFault) → Event t most files a b was now looked sent → IsAt name old clients place one → one.client ≡ Some was
    → IfErr result (λ fault. IsTold name sent looked fault before after)
    → IfErr result (IsStopped t most name files a b old (set clients place (record { name = one.name; client = Some now })) before after)
looked_err t most name files a b was now looked sent before after old clients place one (Ok v) x at is told = told
looked_err t most name files a b was now looked sent before after old clients place one (Err fault) x at is told =
    inr (turned_one (λ u v. HasStopped t most name files a b u v before after fault) name old clients place one was now at is (has_stopped t most name files a b was now looked sent before after fault x told))

-- and of one that is not
pub gone_ok : {T : Type 0} (t : Told) (most : Option ℕ) (name : List ℕ) (old new : List Named) (before after : List ℕ) (result : Result T StoreFault) → WasGone name old new
    → OnOk result (after ≡ before ++ over_line name) → OnOk result (IsLooked t most name old new before after)
gone_ok t most name old new before after (Ok v) gone told = inl (gone, told)
gone_ok t most name old new before after (Err e) gone told = told

pub gone_err : {T : Type 0} (t : Told) (most : Option ℕ) (name : List ℕ) (files : Option Files) (a b : ℕ) (old new : List Named) (before after : List ℕ) (result : Result T StoreFault) → WasGone name old new
    → OnErr result (after ≡ before) → IfErr result (λ fault. fault ≡ store.Mem) → IfErr result (IsStopped t most name files a b old new before after)
gone_err t most name files a b old new before after (Ok v) gone silent mem = mem
gone_err t most name files a b old new before after (Err fault) gone silent mem = inl (gone, mem, silent)

-- all clients stay in service
pub all_on : (t : Told) (name : List ℕ) (old clients : List Named) (place : ℕ) (one : Named) (now : State) → IsAt name old clients place one → IsInService t now → AllServed t old
    → AllServed t (set clients place (record { name = one.name; client = Some now }))
all_on t name old clients place one now x h all =
    let place_is = subst (λ (l : List Named). place_of name l ≡ Some place) (sym x.same) x.place_is in
    subst (AllServed t) (sym (put_at name (Some now) clients place one place_is x.one_is ∙ ap (with_client name (Some now)) x.same)) (served_with t name (Some now) old h all)

pub found_served : (t : Told) (name : List ℕ) (old clients : List Named) (place : ℕ) (one : Named) → IsAt name old clients place one → place < length old → AllServed t old → ServesIfAny t one.client
found_served t name old clients place one x within all =
    served_at t clients place one (subst (AllServed t) (sym x.same) all) (subst (λ (l : List Named). place < length l) (sym x.same) within) x.one_is
