-- The clients of a replay as a map, and that a relay serves them.
use Rattle.std.proofs.Common.{arith, cond, ◌≡◌, ◌≢◌, ◌<◌, ◌≤◌, ◌++◌, ℕ, zero, suc, not, Bool, true, false, List, [], ◌∷◌, length, Option, None, Some, Result, Ok, Err, OnErr, OnOk, ltb, get_or, refl, sym, ◌∙◌, ap, subst}
use Rattle.std.specs.Str.{bytes_eq}
use Rattle.std.specs.List.{position_or_len}
use Rattle.std.proofs.Math.ListN.{set}
use Rattle.std.proofs.lemmas.Bool.{ltb-false}
use Rattle.std.proofs.lemmas.List.Quantifiers.{position-Some}
use Rattle.std.proofs.lemmas.List.Sums.{fails_before_first}
use Rattle.std.proofs.lemmas.Slice.Eq.{bytes_eq-Decides}
use Rattle.block_relay.specs.Chronicle.{Told, world_told}
use Rattle.client_stream.specs.Sessions.{State}
use Rattle.relay_session.specs.Growing.{HasGrown}
use Rattle.relay_session.proofs.public.Growing.{service_stays}
use Rattle.script_clients.specs.declared.named.Named.{Named}
use Rattle.script_clients.specs.Clients.{client_of, has_name, place_of, with_client, without_client}
use Rattle.script_clients.specs.Laws.{AreMap, ServedStay}
use Rattle.script_clients.specs.Serving.{AllServed, ServesIfAny}

-- names

same_name : (name : List ℕ) → bytes_eq name name ≡ true
same_name name = (bytes_eq-Decides name name).1 refl

-- a client has at most one of two names
other_name : (name other : List ℕ) (c : Named) → other ≢ name → has_name name c ≡ true → has_name other c ≡ false
other_name name other c apart e = go (has_name other c) refl
  where
    go : (b : Bool) → has_name other c ≡ b → b ≡ false
    go false h = refl
    go true h = absurd (apart (sym ((bytes_eq-Decides c.name other).0 h) ∙ (bytes_eq-Decides c.name name).0 e))

-- the map

put_found : (name : List ℕ) (client : Option State) (clients : List Named) → client_of name (with_client name client clients) ≡ Some client
put_found name client [] = rw (same_name name) refl
put_found name client (c ∷ clients) = go (put_found name client clients) (has_name name c) refl
  where
    go : client_of name (with_client name client clients) ≡ Some client → (b : Bool) → has_name name c ≡ b → client_of name (cond b (record c { client = client } ∷ clients) (c ∷ with_client name client clients)) ≡ Some client
    go rest true e = rw e refl
    go rest false e = rw e rest

put_other : (name other : List ℕ) (client : Option State) (clients : List Named) → other ≢ name → client_of other (with_client name client clients) ≡ client_of other clients
put_other name other client [] apart = go (bytes_eq name other) refl
  where
    go : (b : Bool) → bytes_eq name other ≡ b → cond b (Some client) None ≡ None
    go false e = refl
    go true e = absurd (apart (sym ((bytes_eq-Decides name other).0 e)))
put_other name other client (c ∷ clients) apart = go (put_other name other client clients apart) (has_name name c) refl
  where
    go : client_of other (with_client name client clients) ≡ client_of other clients → (b : Bool) → has_name name c ≡ b
        → client_of other (cond b (record c { client = client } ∷ clients) (c ∷ with_client name client clients)) ≡ client_of other (c ∷ clients)
    go rest true e = rw (other_name name other c apart e) refl
    go rest false e = ap (λ o. cond (has_name other c) (Some c.client) o) rest

removed_gone : (name : List ℕ) (clients : List Named) → client_of name (without_client name clients) ≡ None
removed_gone name [] = refl
removed_gone name (c ∷ clients) = go (removed_gone name clients) (has_name name c) refl
  where
    go : client_of name (without_client name clients) ≡ None → (b : Bool) → has_name name c ≡ b → client_of name (cond (not b) (c ∷ without_client name clients) (without_client name clients)) ≡ None
    go rest true e = rest
    go rest false e = rw e rest

removed_other : (name other : List ℕ) (clients : List Named) → other ≢ name → client_of other (without_client name clients) ≡ client_of other clients
removed_other name other [] apart = refl
removed_other name other (c ∷ clients) apart = go (removed_other name other clients apart) (has_name name c) refl
  where
    go : client_of other (without_client name clients) ≡ client_of other clients → (b : Bool) → has_name name c ≡ b
        → client_of other (cond (not b) (c ∷ without_client name clients) (without_client name clients)) ≡ client_of other (c ∷ clients)
    go rest true e = rw (other_name name other c apart e) rest
    go rest false e = ap (λ o. cond (has_name other c) (Some c.client) o) rest

pub are_map : AreMap
are_map = record { empty = λ name. refl; put = put_found; put_other = put_other; removed = removed_gone; removed_other = removed_other }

-- the first client of a name, by its place

first_at : (name : List ℕ) (now : Option State) (clients : List Named) (place : ℕ) (one : Named) → place < length clients → one ≡ get_or clients place one
    → has_name name (get_or clients place one) ≡ true → ((k : ℕ) → k < place → has_name name (get_or clients k one) ≡ false)
    → (client_of name clients ≡ Some one.client) × (set clients place (record { name = one.name; client = now }) ≡ with_client name now clients)
first_at name now [] place one within is has none = absurd (omega arith)
first_at name now (c ∷ clients) zero one within is has none =
    (rw (has) (ap (λ (x : Named). Some x.client) (sym is)), rw (has) (ap (λ (x : Named). record x { client = now } ∷ clients) is))
first_at name now (c ∷ clients) (suc place) one within is has none =
    let first : has_name name c ≡ false = none 0 (omega arith) in
    let rest = first_at name now clients place one (omega arith) is has (λ k h. none (suc k) (omega arith)) in
    (rw first rest.0, rw first (ap (λ (l : List Named). c ∷ l) rest.1))

pub found_at : (name : List ℕ) (clients : List Named) (place : ℕ) (one : Named) → place_of name clients ≡ Some place → one ≡ get_or clients place one → client_of name clients ≡ Some one.client
found_at name clients place one e is = let at = position-Some (has_name name) clients place one e in (first_at name None clients place one at.0 is at.1 at.2).0

pub put_at : (name : List ℕ) (now : Option State) (clients : List Named) (place : ℕ) (one : Named) → place_of name clients ≡ Some place → one ≡ get_or clients place one
    → set clients place (record { name = one.name; client = now }) ≡ with_client name now clients
put_at name now clients place one e is = let at = position-Some (has_name name) clients place one e in (first_at name now clients place one at.0 is at.1 at.2).1

pub set_same : (clients : List Named) (place : ℕ) (one : Named) → one ≡ get_or clients place one → set clients place one ≡ clients
set_same [] place one is = refl
set_same (c ∷ clients) zero one is = ap (λ (x : Named). x ∷ clients) is
set_same (c ∷ clients) (suc place) one is = ap (λ (l : List Named). c ∷ l) (set_same clients place one is)

-- a name that stands nowhere

nobody : Named
nobody = record { name = []; client = None }

not_before : (name : List ℕ) (clients : List Named) → place_of name clients ≡ None → (k : ℕ) → k < length clients → has_name name (get_or clients k nobody) ≡ false
not_before name clients e k h = go (ltb (position_or_len (has_name name) clients) (length clients)) refl e
  where
    go : (b : Bool) → ltb (position_or_len (has_name name) clients) (length clients) ≡ b → cond b (Some (position_or_len (has_name name) clients)) None ≡ None → has_name name (get_or clients k nobody) ≡ false
    go true t none = absurd (cc)
    go false t none =
        let all : length clients ≤ position_or_len (has_name name) clients = ltb-false _ _ t in
        fails_before_first (has_name name) clients k nobody (omega arith)

nowhere : (name : List ℕ) (now : Option State) (clients : List Named) → ((k : ℕ) → k < length clients → has_name name (get_or clients k nobody) ≡ false)
    → (client_of name clients ≡ None) × (clients ++ record { name = name; client = now } ∷ [] ≡ with_client name now clients)
nowhere name now [] none = (refl, refl)
nowhere name now (c ∷ clients) none =
    let first : has_name name c ≡ false = none 0 (omega arith) in
    let rest = nowhere name now clients (λ k h. none (suc k) (omega arith)) in
    (rw first rest.0, rw first (ap (λ (l : List Named). c ∷ l) rest.1))

pub not_found : (name : List ℕ) (clients : List Named) → place_of name clients ≡ None → client_of name clients ≡ None
not_found name clients e = (nowhere name None clients (not_before name clients e)).0

pub put_last : (name : List ℕ) (now : Option State) (clients : List Named) → place_of name clients ≡ None → clients ++ record { name = name; client = now } ∷ [] ≡ with_client name now clients
put_last name now clients e = (nowhere name now clients (not_before name clients e)).1

-- a relay serves them

pub served_at : (t : Told) (clients : List Named) (place : ℕ) (one : Named) → AllServed t clients → place < length clients → one ≡ get_or clients place one → ServesIfAny t one.client
served_at t [] place one all within is = absurd (omega arith)
served_at t (c ∷ clients) zero one all within is = subst (λ (x : Named). ServesIfAny t x.client) (sym is) all.0
served_at t (c ∷ clients) (suc place) one all within is = served_at t clients place one all.1 (omega arith) is

pub served_with : (t : Told) (name : List ℕ) (client : Option State) (clients : List Named) → ServesIfAny t client → AllServed t clients → AllServed t (with_client name client clients)
served_with t name client [] new all = (new, tt)
served_with t name client (c ∷ clients) new all = go (served_with t name client clients new all.1) (has_name name c)
  where
    go : AllServed t (with_client name client clients) → (b : Bool) → AllServed t (cond b (record c { client = client } ∷ clients) (c ∷ with_client name client clients))
    go rest true = (new, all.1)
    go rest false = (all.0, rest)

pub served_without : (t : Told) (name : List ℕ) (clients : List Named) → AllServed t clients → AllServed t (without_client name clients)
served_without t name [] all = tt
served_without t name (c ∷ clients) all = go (served_without t name clients all.1) (not (has_name name c))
  where
    go : AllServed t (without_client name clients) → (b : Bool) → AllServed t (cond b (c ∷ without_client name clients) (without_client name clients))
    go rest true = (all.0, rest)
    go rest false = rest

stays : (t u : Told) (client : Option State) → HasGrown (world_told t) (world_told u) → ServesIfAny t client → ServesIfAny u client
stays t u None grown h = tt
stays t u (Some s) grown h = service_stays t u s grown h

pub served_stay : ServedStay
served_stay t u [] grown all = tt
served_stay t u (c ∷ clients) grown all = (stays t u c.client grown all.0, served_stay t u clients grown all.1)

-- a client is put or nothing has changed
pub served_if : {T E : Type 0} (t : Told) (name : List ℕ) (client : Option State) (old new : List Named) (r : Result T E) → OnOk r (new ≡ with_client name client old) → OnErr r (new ≡ old)
    → ServesIfAny t client → AllServed t old → AllServed t new
served_if t name client old new (Ok x) put same h all = subst (AllServed t) (sym put) (served_with t name client old h all)
served_if t name client old new (Err e) put same h all = subst (AllServed t) (sym same) all
