-- A reader past its header that takes a piece.
use Rattle.std.proofs.Common.{◌≡◌, ℕ, ◌+◌, ◌-◌, ◌≤◌, ◌<◌, ◌^◌, Bool, true, false, cond, List, [], ◌∷◌, ◌++◌, length, take, drop, refl, sym, ap, ◌∙◌, append_assoc, arith, length-append, IsTrue, Option, Some, None, Result, Ok, Err}
use Rattle.dbin_file.specs.declared.faults.DbinFault.{DbinFault}
use Rattle.dbin_file.specs.declared.faults.DbinFault.TheVariants.{MessageTooLong}
use Rattle.dbin_file.specs.Messages.{message_length, has_message, Split, split, is_too_long, is_partial, IsWithin}
use Rattle.dbin_file.specs.Contents.{told, rest_fault}
use Rattle.block_record.specs.Words.{Answers}
use Rattle.dbin_file.specs.Reader.{ReaderState, kept, found, at_after, message_fault, with_piece, without_memory, IsCutShortAt}
use Rattle.std.specs.Result.{IsErrAnd}
use Rattle.std.proofs.lemmas.List.{append-nil, take-append-drop}
use Rattle.dbin_file.proofs.MessageFacts.{partial_is, split-partial, split-too_long, split-whole, with_front, split-append, split-within, too_long, too_long-append, message_length-append}

-- what a piece brings
pub record Brings (r : ReaderState) (piece : List ℕ) (messages : List (List ℕ)) (fault : Option DbinFault) (after : ReaderState) : Type 0 where
  pub messages_are : (found r piece).0 ≡ messages
  pub fault_is : message_fault r piece ≡ fault
  pub state_is : after ≡ with_piece r piece

-- by what is found
brings : (r : ReaderState) (piece p : List ℕ) (s : Split) (at : ℕ) (fault : Option DbinFault) → p ≡ r.partial ++ piece → split p ≡ s → told (r.at + (length p - length s.1)) ≡ at → rest_fault at s.1 ≡ fault
    → Brings r piece s.0 fault (record r { fault = fault; at = at; partial = kept fault s.1 })
brings r piece p s at fault here is place faulty =
    let found_is : found r piece ≡ s = ap split (sym here) ∙ is in
    let at_is : at_after r piece ≡ at = ap (λ (q : List ℕ). told (r.at + (length q - length (split q).1))) (sym here) ∙ ap (λ (t : Split). told (r.at + (length p - length t.1))) is ∙ place in
    let fault_is : message_fault r piece ≡ fault = ap (λ (n : ℕ). rest_fault n (found r piece).1) at_is ∙ ap (λ (t : Split). rest_fault at t.1) found_is ∙ faulty in
    record {
      messages_are = ap (λ (t : Split). t.0) found_is;
      fault_is = fault_is;
      state_is = sym (ap (λ (f : Option DbinFault). record r { fault = f; at = at_after r piece; partial = kept f (found r piece).1 }) fault_is
          ∙ ap (λ (n : ℕ). record r { fault = fault; at = n; partial = kept fault (found r piece).1 }) at_is
          ∙ ap (λ (t : Split). record r { fault = fault; at = at; partial = kept fault t.1 }) found_is);
    }

told_small : (n : ℕ) → n < 2 ^ 64 → told n ≡ n
told_small n small = omega (arith, small)

stands : (r : ReaderState) (p : List ℕ) → r.at < 2 ^ 64 → told (r.at + (length p - length p)) ≡ r.at
stands r p small = ap told (let z : r.at + (length p - length p) ≡ r.at = omega arith in z) ∙ told_small r.at small

pub brings_part : (r : ReaderState) (piece p : List ℕ) → p ≡ r.partial ++ piece → IsTrue (is_partial p) → r.fault ≡ None → r.at < 2 ^ 64 → Brings r piece [] None (record r { partial = p })
brings_part r piece p here is good small =
    let fine : rest_fault r.at p ≡ None = (let f = (partial_is p is).1 in rw f refl) in
    let b = brings r piece p ([], p) r.at None here (split-partial p is) (stands r p small) fine in
    record { messages_are = b.messages_are; fault_is = b.fault_is; state_is = ap (λ (f : Option DbinFault). record r { fault = f; partial = p }) good ∙ b.state_is }

pub brings_too_long : (r : ReaderState) (piece p : List ℕ) (n : ℕ) → p ≡ r.partial ++ piece → IsTrue (is_too_long p) → n ≡ message_length p → r.at < 2 ^ 64
    → Brings r piece [] (Some (MessageTooLong r.at n)) (record r { fault = Some (MessageTooLong r.at n); partial = [] })
brings_too_long r piece p n here is long small =
    let bad : rest_fault r.at p ≡ Some (MessageTooLong r.at n) = (let l = sym long in rw (is, l) refl) in
    brings r piece p ([], p) r.at (Some (MessageTooLong r.at n)) here (split-too_long p is) (stands r p small) bad

pub none_too_long : (at : ℕ) → rest_fault at [] ≡ None
unfolding is_too_long
none_too_long at = refl

pub brings_whole : (r : ReaderState) (piece p : List ℕ) → p ≡ r.partial ++ piece → IsTrue (has_message p) → IsWithin p → r.fault ≡ None
    → Brings r piece (drop 4 p ∷ []) None (record r { at = told (r.at + length p); partial = [] })
brings_whole r piece p here is within good =
    let all : told (r.at + (length p - 0)) ≡ told (r.at + length p) = ap told (let z : r.at + (length p - 0) ≡ r.at + length p = omega arith in z) in
    let b = brings r piece p (drop 4 p ∷ [], []) (told (r.at + length p)) None here (split-whole p is within) all (none_too_long (told (r.at + length p))) in
    record { messages_are = b.messages_are; fault_is = b.fault_is; state_is = ap (λ (f : Option DbinFault). record r { fault = f; at = told (r.at + length p); partial = [] }) good ∙ b.state_is }

-- the fault of an answer
abbrev fault_in : {T : Type 0} → Result T DbinFault → Option DbinFault
fault_in (Ok x) = None
fault_in (Err e) = Some e

-- an answer of such a fault
pub answers : {T : Type 0} (result : Result T DbinFault) (f : DbinFault) (fault : Option DbinFault) → result ≡ Err f → fault ≡ Some f → Answers result fault
answers {T} (Ok x) f fault is faulty = absurd cc
answers {T} (Err e) f fault is faulty = faulty ∙ ap (λ (r : Result T DbinFault). fault_in r) (sym is)

-- ---- one piece after another

at_then : (at x b rest later : ℕ) → rest ≤ x → later ≤ rest + b → told (told (at + (x - rest)) + ((rest + b) - later)) ≡ told (at + ((x + b) - later))
at_then at x b rest later h1 h2 = omega (arith, h1, h2)

-- a piece after a good one
pub record Follows (r : ReaderState) (a b : List ℕ) : Type 0 where
  pub messages_are : (found r (a ++ b)).0 ≡ (found r a).0 ++ (found (with_piece r a) b).0
  pub fault_is : message_fault (with_piece r a) b ≡ message_fault r (a ++ b)
  pub state_is : with_piece (with_piece r a) b ≡ with_piece r (a ++ b)

pub follows : (r : ReaderState) (a b : List ℕ) → message_fault r a ≡ None → Follows r a b
follows r a b good =
    let s = found r a in
    let t = split (s.1 ++ b) in
    let now : with_piece r a ≡ record r { fault = None; at = at_after r a; partial = s.1 } = ap (λ (f : Option DbinFault). record r { fault = f; at = at_after r a; partial = kept f s.1 }) good in
    let found_now : found (with_piece r a) b ≡ t = ap (λ (q : ReaderState). found q b) now in
    let found_all : found r (a ++ b) ≡ with_front s.0 t = ap split (sym (append_assoc r.partial a b)) ∙ split-append (r.partial ++ a) b in
    let la = length-append (r.partial ++ a) b in
    let assoc : length (r.partial ++ (a ++ b)) ≡ length (r.partial ++ a) + length b = ap length (sym (append_assoc r.partial a b)) ∙ la in
    let at_now : at_after (with_piece r a) b ≡ told (at_after r a + (length (s.1 ++ b) - length t.1)) = ap (λ (q : ReaderState). at_after q b) now in
    let at_all : at_after r (a ++ b) ≡ told (r.at + ((length (r.partial ++ a) + length b) - length t.1)) =
    ap (λ (n : ℕ). told (r.at + (n - length (found r (a ++ b)).1))) assoc ∙ ap (λ (q : Split). told (r.at + ((length (r.partial ++ a) + length b) - length q.1))) found_all in
    let at_same : at_after (with_piece r a) b ≡ at_after r (a ++ b) = at_now ∙ ap (λ (n : ℕ). told (at_after r a + (n - length t.1))) (length-append s.1 b)
    ∙ at_then r.at (length (r.partial ++ a)) (length b) (length s.1) (length t.1) (split-within (r.partial ++ a)) (let w = split-within (s.1 ++ b) in omega (arith, w, length-append s.1 b)) ∙ sym at_all in
    let rest_same : (found (with_piece r a) b).1 ≡ (found r (a ++ b)).1 = ap (λ (q : Split). q.1) found_now ∙ sym (ap (λ (q : Split). q.1) found_all) in
    let fault_same : message_fault (with_piece r a) b ≡ message_fault r (a ++ b) = ap (λ (n : ℕ). rest_fault n (found (with_piece r a) b).1) at_same ∙ ap (rest_fault (at_after r (a ++ b))) rest_same in
    record {
      messages_are = ap (λ (q : Split). q.0) found_all ∙ ap (λ (q : Split). s.0 ++ q.0) (sym found_now);
      fault_is = fault_same;
      state_is = ap (λ (f : Option DbinFault). record r { fault = f; at = at_after (with_piece r a) b; partial = kept f (found (with_piece r a) b).1 }) fault_same
          ∙ ap (λ (n : ℕ). record r { fault = message_fault r (a ++ b); at = n; partial = kept (message_fault r (a ++ b)) (found (with_piece r a) b).1 }) at_same
          ∙ ap (λ (l : List ℕ). record r { fault = message_fault r (a ++ b); at = at_after r (a ++ b); partial = kept (message_fault r (a ++ b)) l }) rest_same;
    }

pub rest_bad : (at : ℕ) (rest : List ℕ) (f : DbinFault) → rest_fault at rest ≡ Some f → is_too_long rest ≡ true
rest_bad at rest f bad = by_test (is_too_long rest) refl bad
  where
    by_test : (t : Bool) → is_too_long rest ≡ t → cond t (Some (MessageTooLong at (message_length rest))) None ≡ Some f → t ≡ true
    by_test true e bad = refl
    by_test false e bad = absurd cc

at_still : (at x b rest : ℕ) → rest ≤ x → told (at + ((x + b) - (rest + b))) ≡ told (at + (x - rest))
at_still at x b rest h = omega (arith, h)

-- after a bad one a piece changes nothing
pub record Stays (r : ReaderState) (a b : List ℕ) : Type 0 where
  pub messages_are : (found r (a ++ b)).0 ≡ (found r a).0
  pub fault_is : message_fault r (a ++ b) ≡ message_fault r a
  pub state_is : with_piece r (a ++ b) ≡ with_piece r a

pub stays : (r : ReaderState) (a b : List ℕ) (f : DbinFault) → message_fault r a ≡ Some f → Stays r a b
stays r a b f bad =
    let s = found r a in
    let long : is_too_long s.1 ≡ true = rest_bad (at_after r a) s.1 f bad in
    let longer : is_too_long (s.1 ++ b) ≡ true = too_long-append s.1 b long in
    let found_all : found r (a ++ b) ≡ (s.0 ++ [], s.1 ++ b) = ap split (sym (append_assoc r.partial a b)) ∙ split-append (r.partial ++ a) b ∙ ap (with_front s.0) (split-too_long (s.1 ++ b) longer) in
    let assoc : length (r.partial ++ (a ++ b)) ≡ length (r.partial ++ a) + length b = ap length (sym (append_assoc r.partial a b)) ∙ length-append (r.partial ++ a) b in
    let at_same : at_after r (a ++ b) ≡ at_after r a =
    ap (λ (n : ℕ). told (r.at + (n - length (found r (a ++ b)).1))) assoc ∙ ap (λ (q : Split). told (r.at + ((length (r.partial ++ a) + length b) - length q.1))) found_all
    ∙ ap (λ (n : ℕ). told (r.at + ((length (r.partial ++ a) + length b) - n))) (length-append s.1 b) ∙ at_still r.at (length (r.partial ++ a)) (length b) (length s.1) (split-within (r.partial ++ a)) in
    let same_length : message_length (s.1 ++ b) ≡ message_length s.1 = message_length-append s.1 b (too_long s.1 long).0 in
    let fault_all : rest_fault (at_after r a) (s.1 ++ b) ≡ Some (MessageTooLong (at_after r a) (message_length s.1)) = rw longer (ap (λ (n : ℕ). Some (MessageTooLong (at_after r a) n)) same_length) in
    let fault_one : rest_fault (at_after r a) s.1 ≡ Some (MessageTooLong (at_after r a) (message_length s.1)) = rw long refl in
    let fault_same : message_fault r (a ++ b) ≡ message_fault r a = ap (λ (n : ℕ). rest_fault n (found r (a ++ b)).1) at_same ∙ ap (λ (q : Split). rest_fault (at_after r a) q.1) found_all ∙ fault_all ∙ sym fault_one in
    let none_kept : with_piece r (a ++ b) ≡ record r { fault = Some f; at = at_after r (a ++ b); partial = [] } = ap (λ (g : Option DbinFault). record r { fault = g; at = at_after r (a ++ b); partial = kept g (found r (a ++ b)).1 }) (fault_same ∙ bad) in
    let one_kept : with_piece r a ≡ record r { fault = Some f; at = at_after r a; partial = [] } = ap (λ (g : Option DbinFault). record r { fault = g; at = at_after r a; partial = kept g (found r a).1 }) bad in
    record {
      messages_are = ap (λ (q : Split). q.0) found_all ∙ append-nil s.0;
      fault_is = fault_same;
      state_is = none_kept ∙ ap (λ (n : ℕ). record r { fault = Some f; at = n; partial = [] }) at_same ∙ sym one_kept;
    }

-- ---- a piece in parts

-- of a piece all but the rest was taken, with no fault
pub record IsTaking (r : ReaderState) (piece : List ℕ) (before out : List (List ℕ)) (now : ReaderState) (rest : List ℕ) : Type 0 where
  pub taken : List ℕ
  pub parts : piece ≡ taken ++ rest
  pub good : message_fault r taken ≡ None
  pub state : now ≡ with_piece r taken
  pub grown : out ≡ before ++ (found r taken).0

pub starts : (r : ReaderState) (piece : List ℕ) (before : List (List ℕ)) → IsTrue (is_partial r.partial) → r.fault ≡ None → r.at < 2 ^ 64 → IsTaking r piece before before r piece
starts r piece before is good small =
    let b = brings_part r [] r.partial (sym (append-nil r.partial)) is good small in
    record { taken = []; parts = refl; good = b.fault_is; state = b.state_is; grown = sym (ap (λ (l : List (List ℕ)). before ++ l) b.messages_are ∙ append-nil before) }

-- what a piece brings, taken in its parts
pub record IsTaken (r : ReaderState) (piece : List ℕ) (before out : List (List ℕ)) (now : ReaderState) (fault : Option DbinFault) : Type 0 where
  pub fault_is : message_fault r piece ≡ fault
  pub state : now ≡ with_piece r piece
  pub grown : out ≡ before ++ (found r piece).0

module _ (r : ReaderState) (piece : List ℕ) (before out : List (List ℕ)) (now : ReaderState) (rest : List ℕ) (taking : IsTaking r piece before out now rest) where
  pub now_good : now.fault ≡ None
  now_good = ap (λ (s : ReaderState). s.fault) taking.state ∙ taking.good

  pub same_type : now.block_type ≡ r.block_type
  same_type = ap (λ (s : ReaderState). s.block_type) taking.state

  grows_on : (out' : List (List ℕ)) (front : List ℕ) → out' ≡ out ++ (found now front).0 → out' ≡ before ++ (found r (taking.taken ++ front)).0
  grows_on out' front grown =
      grown ∙ ap (λ (l : List (List ℕ)). l ++ (found now front).0) taking.grown ∙ append_assoc before (found r taking.taken).0 (found now front).0
      ∙ ap (λ (q : ReaderState). before ++ ((found r taking.taken).0 ++ (found q front).0)) taking.state
      ∙ ap (λ (l : List (List ℕ)). before ++ l) (sym (follows r taking.taken front taking.good).messages_are)

  fault_on : (front : List ℕ) → message_fault r (taking.taken ++ front) ≡ message_fault now front
  fault_on front = sym (follows r taking.taken front taking.good).fault_is ∙ ap (λ (q : ReaderState). message_fault q front) (sym taking.state)

  state_on : (now' : ReaderState) (front : List ℕ) → now' ≡ with_piece now front → now' ≡ with_piece r (taking.taken ++ front)
  state_on now' front state = state ∙ ap (λ (q : ReaderState). with_piece q front) taking.state ∙ (follows r taking.taken front taking.good).state_is

  pub takes_on : (out' : List (List ℕ)) (now' : ReaderState) (front more : List ℕ) → rest ≡ front ++ more → message_fault now front ≡ None → now' ≡ with_piece now front → out' ≡ out ++ (found now front).0 → IsTaking r piece before out' now' more
  takes_on out' now' front more cut good state grown = record {
    taken = taking.taken ++ front;
    parts = taking.parts ∙ ap (λ (l : List ℕ). taking.taken ++ l) cut ∙ sym (append_assoc taking.taken front more);
    good = fault_on front ∙ good;
    state = state_on now' front state;
    grown = grows_on out' front grown;
  }

  pub takes_bad : (out' : List (List ℕ)) (now' : ReaderState) (front more : List ℕ) (f : DbinFault) → rest ≡ front ++ more → message_fault now front ≡ Some f → now' ≡ with_piece now front → out' ≡ out ++ (found now front).0 → IsTaken r piece before out' now' (Some f)
  takes_bad out' now' front more f cut bad state grown =
      let part : List ℕ = taking.taken ++ front in
      let whole : piece ≡ part ++ more = taking.parts ∙ ap (λ (l : List ℕ). taking.taken ++ l) cut ∙ sym (append_assoc taking.taken front more) in
      let faulty : message_fault r part ≡ Some f = fault_on front ∙ bad in
      let s = stays r part more f faulty in
      record {
        fault_is = ap (message_fault r) whole ∙ s.fault_is ∙ faulty;
        state = state_on now' front state ∙ sym s.state_is ∙ ap (with_piece r) (sym whole);
        grown = grows_on out' front grown ∙ ap (λ (l : List (List ℕ)). before ++ l) (sym s.messages_are) ∙ ap (λ (p : List ℕ). before ++ (found r p).0) (sym whole);
      }

  pub takes_all : rest ≡ [] → IsTaken r piece before out now None
  takes_all none =
      let whole : piece ≡ taking.taken = taking.parts ∙ ap (λ (l : List ℕ). taking.taken ++ l) none ∙ append-nil taking.taken in
      record {
        fault_is = ap (message_fault r) whole ∙ taking.good;
        state = taking.state ∙ ap (with_piece r) (sym whole);
        grown = taking.grown ∙ ap (λ (p : List ℕ). before ++ (found r p).0) (sym whole);
      }

  -- there was no memory for what follows
  pub takes_front : (now' : ReaderState) (out' : List (List ℕ)) → without_memory now' ≡ without_memory now → out' ≡ out → IsCutShortAt r piece (without_memory now') before out'
  takes_front now' out' stays same = record {
    front = taking.taken;
    is_front = (rest, sym taking.parts);
    grows = same ∙ taking.grown;
    state = stays ∙ ap without_memory taking.state;
  }

-- a fault that is handed on is the same
pub same_fault : {A : Type 0} (r : Result A DbinFault) (e : DbinFault) → IsErrAnd r (λ x. x ≡ e) → r ≡ Err e
same_fault (Ok x) e is = absurd is
same_fault (Err x) e is = ap (λ y. Err y) is

-- a list cut at a place
pub cut_at : (bytes front back : List ℕ) (n : ℕ) → front ≡ take n bytes → back ≡ drop n bytes → bytes ≡ front ++ back
cut_at bytes front back n f b = rw (f, b) (sym (take-append-drop n bytes))
