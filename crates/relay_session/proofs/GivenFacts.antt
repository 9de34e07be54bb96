-- Steps that are given chunk by chunk, up to a limit.
use Rattle.std.proofs.Common.{arith, ◌≡◌, ◌≤◌, ◌<◌, ◌+◌, ◌-◌, ℕ, true, List, map, Option, Some, None, IfSome, refl, sym, ◌∙◌, ap, subst}
use Rattle.std.proofs.lemmas.Bool.{eqb-true}
use Rattle.relay_model.specs.Soundness.{IsSound}
use Rattle.block_relay.specs.Chronicle.{Told, world_told}
use Rattle.session_model.specs.Told.{told}
use Rattle.session_model.specs.Progress.{OpenBatch, Progress, Stage, Waits, Sends, IsOver}
use Rattle.session_model.specs.Standing.{StandsAt, IsWithin}
use Rattle.client_stream.specs.declared.session.Need.{Need}
use Rattle.client_stream.specs.declared.session.Need.TheVariants as need
use Rattle.client_stream.specs.Sessions.{State, IsNeed}
use Rattle.client_stream.specs.Sent.{HasSent, SentStays}
use Rattle.relay_session.specs.Sending.{Gave, GaveSome, is_none_left, left_after}
use Rattle.relay_session.specs.Serving.{GoesOn, IsServed}
use Rattle.relay_session.specs.Turns.{IsGivenBy, HasGiven, HasGivenRest}
use Rattle.relay_session.proofs.NextFacts.{gave_more, gave_none}
use Rattle.relay_session.proofs.ServedFacts.{adds_on, sent_now, served_on}

-- what was given so far, and how many steps may be given after it
pub record SoFar (t : Told) (most left : Option ℕ) (s u : State) (x y : List ℕ) : Type 0 where
  pub given : ℕ
  pub few : IfSome most (λ n. given ≤ n)
  pub left_is : left ≡ left_after most given
  pub gave : Gave (world_told t).history given s u x y

pub none_so_far : (t : Told) (most : Option ℕ) (s : State) (x : List ℕ) → SoFar t most most s s x x
none_so_far t most s x = record { given = 0; few = few most; left_is = left most; gave = gave_none (world_told t).history s x }
  where
    few : (o : Option ℕ) → IfSome o (λ n. 0 ≤ n)
    few None = tt
    few (Some n) = omega arith

    left : (o : Option ℕ) → o ≡ left_after o 0
    left None = refl
    left (Some n) = let same : n ≡ n - 0 = omega arith in ap Some same

-- a chunk more
more_few : (most left : Option ℕ) (m k : ℕ) → IfSome most (λ n. m ≤ n) → left ≡ left_after most m → IfSome left (λ n. k ≤ n) → IfSome most (λ n. m + k ≤ n)
more_few None left m k a e b = tt
more_few (Some n) left m k a e b = let c : k ≤ n - m = subst (λ (o : Option ℕ). IfSome o (λ l. k ≤ l)) e b in omega (arith, a, c)

more_left : (most left : Option ℕ) (m k : ℕ) → left ≡ left_after most m → left_after left k ≡ left_after most (m + k)
more_left None left m k e = ap (λ o. left_after o k) e
more_left (Some n) left m k e = let sum : n - m - k ≡ n - (m + k) = omega arith in ap (λ o. left_after o k) e ∙ ap Some sum

pub chunk_more : (t : Told) (most left : Option ℕ) (k : ℕ) (s u v : State) (x y z : List ℕ) → SoFar t most left s u x y → IfSome left (λ n. k ≤ n) → Gave (world_told t).history k u v y z
    → SoFar t most (left_after left k) s v x z
chunk_more t most left k s u v x y z f few g = record {
  given = f.given + k;
  few = more_few most left f.given k f.few f.left_is few;
  left_is = more_left most left f.given k f.left_is;
  gave = gave_more (world_told t).history f.given k s u v x y z f.gave g;
}

pub within_limit : (left : Option ℕ) (k max : ℕ) → IfSome left (λ n. max ≤ n) → k ≤ max → IfSome left (λ n. k ≤ n)
within_limit None k max a b = tt
within_limit (Some n) k max a b = omega (arith, a, b)

-- what was appended is what the session has sent
pub so_far_told : SentStays → (t : Told) (most left : Option ℕ) (s u : State) (x y : List ℕ) → IsSound (world_told t) → SoFar t most left s u x y → GoesOn t s u x y
so_far_told law t most left s u x y sound f = adds_on law t s u x y sound (ap (λ (p : Progress). p.run_number) f.gave.kept) f.gave.adds

pub chunk_served : SentStays → (t : Told) (k : ℕ) (s u : State) (x y : List ℕ) → IsSound (world_told t) → IsServed t s → Gave (world_told t).history k s u x y → IsServed t u
chunk_served law t k s u x y sound h g = served_on t s u x y h (adds_on law t s u x y sound (ap (λ (p : Progress). p.run_number) g.kept) g.adds)

pub so_far_given : (t : Told) (most left : Option ℕ) (s u : State) (x y : List ℕ) → SoFar t most left s u x y → HasGiven most s.progress u.progress
so_far_given t most left s u x y f = record { given = f.given; steps = f.gave.steps; few = f.few; kept = f.gave.kept }

-- at the limit
spent : (most : Option ℕ) (given : ℕ) → IfSome most (λ n. given ≤ n) → is_none_left (left_after most given) ≡ true → most ≡ Some given
spent None given few e = absurd (cc)
spent (Some n) given few e = let none : n - given ≡ 0 = eqb-true _ _ e in let same : n ≡ given = omega (arith, few, none) in ap Some same

pub spent_rest : (t : Told) (most left : Option ℕ) (s u : State) (x y : List ℕ) → SoFar t most left s u x y → is_none_left left ≡ true → HasGivenRest most s.progress u.progress
unfolding so_far_given
spent_rest t most left s u x y f e = record {
  steps = so_far_given t most left s u x y f;
  rest = λ b sends. spent most f.given f.few (subst (λ (o : Option ℕ). is_none_left o ≡ true) f.left_is e);
}

-- where no batch is open
not_open : (s : State) (n : Need) → IsNeed s n → ((from : ℕ) → n ≡ need.Chunk from → ⊥) → (b : OpenBatch) → s.progress.stage ≡ Sends b → ⊥
not_open s (need.Look position) h other b e = let f : Waits _ ≡ Sends b = sym h ∙ e in absurd (grind (arith, f))
not_open s (need.Chunk from) h other b e = other from refl
not_open s (need.Over o) h other b e = let f : IsOver o ≡ Sends b = sym h ∙ e in absurd (grind (arith, f))

pub closed_rest : (t : Told) (most left : Option ℕ) (s u : State) (n : Need) (x y : List ℕ) → SoFar t most left s u x y → IsNeed u n → ((from : ℕ) → n ≡ need.Chunk from → ⊥) → HasGivenRest most s.progress u.progress
closed_rest t most left s u n x y f h other = record {
  steps = so_far_given t most left s u x y f;
  rest = λ b sends. absurd (not_open u n h other b sends);
}

-- how many steps of an open batch are left
abbrev pub steps_left : Stage → ℕ
steps_left (Waits position) = 0
steps_left (Sends b) = b.total - b.given
steps_left (IsOver o) = 0

fewer : (k : ℕ) (v w : Stage) → 1 ≤ k → ((b : OpenBatch) → v ≡ Sends b → b.given < b.total) → IsGivenBy k v w → steps_left w < steps_left v
fewer k (Waits position) w some more h = absurd (let never : ⊥ = omega (arith, some, h.0) in never)
fewer k (IsOver o) w some more h = absurd (let never : ⊥ = omega (arith, some, h.0) in never)
fewer k (Sends b) (Waits position) some more h = omega (arith, more b refl)
fewer k (Sends b) (IsOver o) some more h = absurd h
fewer k (Sends b) (Sends c) some more h = let m : b.given < b.total = more b refl in subst (λ (x : OpenBatch). x.total - x.given < b.total - b.given) (sym h) (let less : b.total - (b.given + k) < b.total - b.given = omega (arith, some, m) in less)

pub fewer_left : SentStays → (t : Told) (k : ℕ) (s u : State) (x y : List ℕ) → IsSound (world_told t) → IsServed t s → 1 ≤ k → Gave (world_told t).history k s u x y
    → steps_left u.progress.stage < steps_left s.progress.stage
fewer_left law t k s u x y sound h some g = fewer k s.progress.stage u.progress.stage some more g.steps
  where
    p : Progress
    p = s.progress

    sent : HasSent (world_told t).history h.type s h.text
    sent = sent_now law t h.older h.type s h.text sound h.serves

    more : (b : OpenBatch) → p.stage ≡ Sends b → b.given < b.total
    more b e =
        let within : IsWithin (world_told t).history h.type p.request p.run_number p.lens b (map told sent.written.replies) =
        subst (λ (v : Stage). StandsAt (world_told t).history h.type p.request p.run_number p.lens v (map told sent.written.replies)) e sent.written.stands in
        within.more

-- a chunk that was stopped
pub some_more : (t : Told) (most left : Option ℕ) (max : ℕ) (s u v : State) (x y z : List ℕ) → SoFar t most left s u x y → IfSome left (λ n. max ≤ n) → GaveSome (world_told t).history max u v y z
    → (o : Option ℕ) × SoFar t most o s v x z
some_more t most left max s u v x y z f few g =
    (left_after left g.given, chunk_more t most left g.given s u v x y z f (within_limit left g.given max few g.few) g.gave)
