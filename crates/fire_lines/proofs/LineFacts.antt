-- The lines of a run, taken one after another from its pieces.
use Rattle.std.proofs.Common.{◌≡◌, ℕ, List, [], ◌∷◌, ◌++◌, Option, None, Some, Result, Ok, Err, refl, sym, ◌∙◌, ap, subst, append_assoc}
use Rattle.std.specs.Result.{IsErrAnd}
use Rattle.std.proofs.lemmas.List.{append-nil}
use Rattle.block_record.specs.declared.blocks.Slip.{Slip}
use Rattle.block_record.specs.declared.blocks.Kind.{Kind}
use Rattle.fire_lines.specs.declared.faults.LineFault.{LineFault}
use Rattle.fire_lines.specs.declared.faults.LineFault.TheVariants.{Mem}
use Rattle.fire_lines.specs.Parts.{parts, last_part, tail_of, without_cr}
use Rattle.fire_lines.specs.Line.{Saying, passes, opens, brings, is_bad, says}
use Rattle.fire_lines.specs.Text.{Received, ends, after, then_receive, tail_fault, next_line, receive, received}
use Rattle.block_record.specs.Words.{Answers}
use Rattle.fire_lines.specs.Reader.{ReaderState, state_after, kept, kept_after, kind_after, slips_of, fault_of, line_says, counted, with_line, in_progress, with_tail, AreFurther, without_memory, IsRead, IsCutShort}
use Rattle.fire_lines.proofs.PieceFacts.{parts_some, parts-onto, parts-tail, cut_whole, cut_again, tail_of-append, receive-cons, received-append, received-stopped}

-- where the line in progress stands makes no difference once it is taken
with_line-partial : (s : Saying) (r : ReaderState) (p : Option (List ℕ)) → with_line s (record r { partial = p }) ≡ with_line s r
with_line-partial passes r p = refl
with_line-partial (opens k) r p = refl
with_line-partial (brings s) r p = refl
with_line-partial (is_bad f) r p = refl

pub with_tail-good : (r r' : ReaderState) (q : List ℕ) → tail_fault r.max r.lines (without_cr q) ≡ None → r' ≡ with_tail q r → r' ≡ record r { partial = kept q }
with_tail-good r r' q good is = is ∙ ap (λ f. in_progress f q r) good

pub line_says-kept : (r r' : ReaderState) (q : List ℕ) (p : Option (List ℕ)) → r' ≡ record r { partial = p } → line_says r' q ≡ line_says r q
line_says-kept r r' q p is = ap (λ s. line_says s q) is

pub with_line-kept : (r r' : ReaderState) (q : List ℕ) (p : Option (List ℕ)) → r' ≡ record r { partial = p } → with_line (line_says r' q) r' ≡ with_line (line_says r q) r
with_line-kept r r' q p is = ap (λ s. with_line (line_says s q) s) is ∙ with_line-partial (line_says r q) r p

after-after : (a b : List Slip) (r : Received) → after a (after b r) ≡ after (a ++ b) r
after-after a b r = ap (λ s. record r { slips = s }) (sym (append_assoc a b r.slips))

-- of a text that goes on with a piece, a reader has read all but the rest, and the further blocks of what it read are in
pub record IsReading (max : ℕ) (text piece : List ℕ) (before : List Slip) (r : ReaderState) (slips : List Slip) (rest : List ℕ) : Type 0 where
  pub taken : List ℕ
  pub cut : piece ≡ taken ++ rest
  pub front : List Slip
  pub tail : List ℕ
  pub grown : slips ≡ before ++ front
  pub one : parts 10 tail ≡ tail ∷ []
  pub keeps : r.partial ≡ kept tail
  pub so_far : (more : List ℕ) → received max (text ++ (taken ++ more)) ≡ after ((received max text).slips ++ front) (receive max r.lines r.kind (parts 10 (tail ++ more)))
  pub fits : tail_fault max r.lines (without_cr tail) ≡ None
  pub ends_in : tail_of (text ++ piece) ≡ tail_of (tail ++ rest)
  pub limit : r.max ≡ max
  pub good : r.fault ≡ None

pub starts_reading : (max : ℕ) (text piece : List ℕ) (before : List Slip) (r : ReaderState) → r ≡ state_after max text → r.fault ≡ None → IsReading max text piece before r before piece
starts_reading max text piece before r is good =
    let none : (received max text).fault ≡ None = sym (ap (λ (s : ReaderState). s.fault) is) ∙ good in
    let lines = (received max text).lines in
    let kind = (received max text).kind in
    let slips = (received max text).slips in
    let here : received max text ≡ after slips (ends kind lines (tail_fault max lines (without_cr (tail_of text)))) =
    ap (received max) (sym (append-nil text)) ∙ received-append max text [] none
    ∙ ap (λ (l : List ℕ). after slips (receive max lines kind (parts 10 l))) (append-nil (tail_of text))
    ∙ ap (λ (ps : List (List ℕ)). after slips (receive max lines kind ps)) (parts-tail 10 text) in
    record {
      taken = [];
      cut = refl;
      front = [];
      tail = tail_of text;
      grown = sym (append-nil before);
      one = parts-tail 10 text;
      keeps = ap (λ (s : ReaderState). s.partial) is ∙ ap (λ f. kept_after f (tail_of text)) none;
      so_far = λ more. received-append max text more none
          ∙ ap (λ l. after l (receive max lines kind (parts 10 (tail_of text ++ more)))) (sym (append-nil slips))
          ∙ ap (λ (s : ReaderState). after (slips ++ []) (receive max s.lines s.kind (parts 10 (tail_of text ++ more)))) (sym is);
      fits = ap (λ (s : ReaderState). tail_fault max s.lines (without_cr (tail_of text))) is ∙ sym (ap (λ (x : Received). x.fault) here) ∙ none;
      ends_in = tail_of-append text piece;
      limit = ap (λ (s : ReaderState). s.max) is;
      good = good;
    }

goes_on : (s : Saying) (lines : ℕ) (kind : Option Kind) (more : Option Kind → Received) → fault_of s ≡ None → then_receive s lines kind more ≡ after (slips_of s) (more (kind_after s kind))
goes_on passes lines kind more good = refl
goes_on (opens k) lines kind more good = refl
goes_on (brings s) lines kind more good = refl
goes_on (is_bad f) lines kind more good = absurd (cc)

stops : (s : Saying) (f : LineFault) (lines : ℕ) (kind : Option Kind) (more : Option Kind → Received) → fault_of s ≡ Some f → then_receive s lines kind more ≡ ends kind lines (Some f)
stops passes f lines kind more bad = absurd (cc)
stops (opens k) f lines kind more bad = absurd (cc)
stops (brings s) f lines kind more bad = absurd (cc)
stops (is_bad g) f lines kind more bad = ap (ends kind lines) bad

stops_plain : (s : Saying) (f : LineFault) (kind : Option Kind) → fault_of s ≡ Some f → (kind_after s kind ≡ kind) × (slips_of s ≡ [])
stops_plain passes f kind bad = absurd (cc)
stops_plain (opens k) f kind bad = absurd (cc)
stops_plain (brings s) f kind bad = absurd (cc)
stops_plain (is_bad g) f kind bad = (refl, refl)

-- what was received goes on with the line that was cut
next_line_of : (max : ℕ) (text piece : List ℕ) (before : List Slip) (r : ReaderState) (slips : List Slip) (rest other line more : List ℕ) (reading : IsReading max text piece before r slips rest)
    → parts 10 other ≡ line ∷ parts 10 more
    → received max (text ++ (reading.taken ++ other)) ≡ after ((received max text).slips ++ reading.front) (then_receive (line_says r (reading.tail ++ line)) r.lines r.kind (λ k. receive max (next_line r.lines) k (parts 10 more)))
next_line_of max text piece before r slips rest other line more reading cut =
    let q = reading.tail ++ line in
    let whole : parts 10 (reading.tail ++ other) ≡ q ∷ parts 10 more = parts-onto 10 reading.tail other line (parts 10 more) reading.one cut in
    let same : says max (next_line r.lines) r.kind (without_cr q) ≡ line_says r q = ap (λ m. says m (next_line r.lines) r.kind (without_cr q)) (sym reading.limit) in
    reading.so_far other ∙ ap (after ((received max text).slips ++ reading.front)) (ap (receive max r.lines r.kind) whole ∙ receive-cons max r.lines r.kind q (parts 10 more) (parts_some 10 more)
    ∙ ap (λ s. then_receive s r.lines r.kind (λ k. receive max (next_line r.lines) k (parts 10 more))) same)

-- one more line is read
pub reads_line : (max : ℕ) (text piece : List ℕ) (before : List Slip) (r r' : ReaderState) (slips slips' : List Slip) (rest line more : List ℕ) (reading : IsReading max text piece before r slips rest)
    → parts 10 rest ≡ line ∷ parts 10 more → fault_of (line_says r (reading.tail ++ line)) ≡ None
    → r' ≡ with_line (line_says r (reading.tail ++ line)) r → slips' ≡ slips ++ slips_of (line_says r (reading.tail ++ line)) → IsReading max text piece before r' slips' more
reads_line max text piece before r r' slips slips' rest line more reading cut good state grown =
    let q = reading.tail ++ line in
    let s = line_says r q in
    let counts : r' ≡ record r { kind = kind_after s r.kind; lines = next_line r.lines; partial = Some [] } = state ∙ ap (λ f. counted f (record r { kind = kind_after s r.kind })) good in
    let whole : parts 10 (reading.tail ++ rest) ≡ q ∷ parts 10 more = parts-onto 10 reading.tail rest line (parts 10 more) reading.one cut in
    let some = parts_some 10 more in
    let P : List (List ℕ) → Type 0 = λ ps. last_part (q ∷ ps) ≡ last_part ps in
    let rest_is : rest ≡ line ++ (10 ∷ more) = cut_whole 10 rest line more cut in
    let taken : List ℕ = reading.taken ++ (line ++ (10 ∷ [])) in
    let assoc : (m : List ℕ) → taken ++ m ≡ reading.taken ++ (line ++ (10 ∷ m)) = λ m. append_assoc reading.taken (line ++ (10 ∷ [])) m ∙ ap (λ (l : List ℕ). reading.taken ++ l) (append_assoc line (10 ∷ []) m) in
    record {
      taken = taken;
      cut = reading.cut ∙ ap (λ (l : List ℕ). reading.taken ++ l) rest_is ∙ sym (assoc more);
      front = reading.front ++ slips_of s;
      tail = [];
      grown = grown ∙ ap (λ l. l ++ slips_of s) reading.grown ∙ append_assoc before reading.front (slips_of s);
      one = refl;
      keeps = ap (λ (x : ReaderState). x.partial) counts;
      so_far = λ m. ap (λ (l : List ℕ). received max (text ++ l)) (assoc m)
          ∙ next_line_of max text piece before r slips rest (line ++ (10 ∷ m)) line m reading (cut_again 10 rest line more m cut)
          ∙ ap (after ((received max text).slips ++ reading.front)) (goes_on s r.lines r.kind (λ k. receive max (next_line r.lines) k (parts 10 m)) good)
          ∙ after-after ((received max text).slips ++ reading.front) (slips_of s) (receive max (next_line r.lines) (kind_after s r.kind) (parts 10 m))
          ∙ ap (λ l. after l (receive max (next_line r.lines) (kind_after s r.kind) (parts 10 m))) (append_assoc (received max text).slips reading.front (slips_of s))
          ∙ ap (λ (x : ReaderState). after ((received max text).slips ++ (reading.front ++ slips_of s)) (receive max x.lines x.kind (parts 10 m))) (sym counts);
      fits = refl;
      ends_in = reading.ends_in ∙ ap last_part whole ∙ subst P (sym some.1.1) refl;
      limit = ap (λ (x : ReaderState). x.max) counts ∙ reading.limit;
      good = ap (λ (x : ReaderState). x.fault) counts ∙ reading.good;
    }

-- what a reader has once the text and its piece are received so
state_of : (max : ℕ) (whole : List ℕ) (l : List Slip) (kind : Option Kind) (lines : ℕ) (fault : Option LineFault) → received max whole ≡ after l (ends kind lines fault)
    → state_after max whole ≡ record { max = max; kind = kind; lines = lines; fault = fault; partial = kept_after fault (tail_of whole) }
state_of max whole l kind lines fault is = ap (λ (x : Received). let s : ReaderState = record { max = max; kind = x.kind; lines = x.lines; fault = x.fault; partial = kept_after x.fault (tail_of whole) } in s) is

-- what is received of a text and its piece, and the reader after them
pub record IsDone (max : ℕ) (text piece : List ℕ) (before : List Slip) (r : ReaderState) (slips : List Slip) (fault : Option LineFault) : Type 0 where
  pub more : List Slip
  pub further : AreFurther max text piece more
  pub grown : slips ≡ before ++ more
  pub stands : (received max (text ++ piece)).fault ≡ fault
  pub state : r ≡ state_after max (text ++ piece)

further_of : (max : ℕ) (text piece : List ℕ) (front : List Slip) (x : Received) → received max (text ++ piece) ≡ after ((received max text).slips ++ front) x → AreFurther max text piece (front ++ x.slips)
further_of max text piece front x is = ap (λ (y : Received). y.slips) is ∙ append_assoc (received max text).slips front x.slips

-- a bad line ends what is received
pub stops_reading : (max : ℕ) (text piece : List ℕ) (before : List Slip) (r r' : ReaderState) (slips slips' : List Slip) (rest line more : List ℕ) (f : LineFault) (reading : IsReading max text piece before r slips rest)
    → parts 10 rest ≡ line ∷ parts 10 more → fault_of (line_says r (reading.tail ++ line)) ≡ Some f
    → r' ≡ with_line (line_says r (reading.tail ++ line)) r → slips' ≡ slips ++ slips_of (line_says r (reading.tail ++ line)) → IsDone max text piece before r' slips' (Some f)
stops_reading max text piece before r r' slips slips' rest line more f reading cut bad state grown =
    let s = line_says r (reading.tail ++ line) in
    let all : received max (text ++ piece) ≡ after ((received max text).slips ++ reading.front) (ends r.kind r.lines (Some f)) = ap (λ (p : List ℕ). received max (text ++ p)) reading.cut ∙ next_line_of max text piece before r slips rest rest line more reading cut
    ∙ ap (after ((received max text).slips ++ reading.front)) (stops s f r.lines r.kind (λ k. receive max (next_line r.lines) k (parts 10 more)) bad) in
    let plain = stops_plain s f r.kind bad in
    let counts : r' ≡ record r { kind = r.kind; fault = Some f; partial = Some [] } = state ∙ ap (λ g. counted g (record r { kind = kind_after s r.kind })) bad ∙ ap (λ k. record r { kind = k; fault = Some f; partial = Some [] }) plain.0 in
    record {
      more = reading.front ++ [];
      further = further_of max text piece reading.front (ends r.kind r.lines (Some f)) all;
      grown = grown ∙ ap (λ l. slips ++ l) plain.1 ∙ append-nil slips ∙ reading.grown ∙ ap (λ l. before ++ l) (sym (append-nil reading.front));
      stands = ap (λ (x : Received). x.fault) all;
      state = counts ∙ ap (λ m. record r { max = m; fault = Some f; partial = Some [] }) reading.limit ∙ sym (state_of max (text ++ piece) ((received max text).slips ++ reading.front) r.kind r.lines (Some f) all);
    }

in_progress-done : (r : ReaderState) (fault : Option LineFault) (q : List ℕ) → r.fault ≡ None → in_progress fault q r ≡ record r { fault = fault; partial = kept_after fault q }
in_progress-done r None q good = ap (λ f. record r { fault = f; partial = kept q }) good
in_progress-done r (Some f) q good = refl

-- the piece ends with the line in progress
pub ends_reading : (max : ℕ) (text piece : List ℕ) (before : List Slip) (r r' : ReaderState) (slips : List Slip) (rest : List ℕ) (reading : IsReading max text piece before r slips rest)
    → parts 10 rest ≡ rest ∷ [] → r' ≡ with_tail (reading.tail ++ rest) r
    → IsDone max text piece before r' slips (tail_fault r.max r.lines (without_cr (reading.tail ++ rest)))
ends_reading max text piece before r r' slips rest reading last state =
    let q = reading.tail ++ rest in
    let fault = tail_fault r.max r.lines (without_cr q) in
    let whole : parts 10 q ≡ q ∷ [] = parts-onto 10 reading.tail rest rest [] reading.one last in
    let same : tail_fault max r.lines (without_cr q) ≡ fault = ap (λ m. tail_fault m r.lines (without_cr q)) (sym reading.limit) in
    let all : received max (text ++ piece) ≡ after ((received max text).slips ++ reading.front) (ends r.kind r.lines fault) =
    ap (λ (p : List ℕ). received max (text ++ p)) reading.cut ∙ reading.so_far rest ∙ ap (after ((received max text).slips ++ reading.front)) (ap (receive max r.lines r.kind) whole ∙ ap (ends r.kind r.lines) same) in
    let tail : tail_of (text ++ piece) ≡ q = reading.ends_in ∙ ap last_part whole in
    record {
      more = reading.front ++ [];
      further = further_of max text piece reading.front (ends r.kind r.lines fault) all;
      grown = reading.grown ∙ ap (λ l. before ++ l) (sym (append-nil reading.front));
      stands = ap (λ (x : Received). x.fault) all;
      state = state ∙ in_progress-done r fault q reading.good ∙ ap (λ m. record r { max = m; fault = fault; partial = kept_after fault q }) reading.limit
          ∙ ap (λ t. record r { max = max; fault = fault; partial = kept_after fault t }) (sym tail) ∙ sym (state_of max (text ++ piece) ((received max text).slips ++ reading.front) r.kind r.lines fault all);
    }

-- a fault that is handed on is the same
pub same_fault : {A : Type 0} (r : Result A LineFault) (e : LineFault) → IsErrAnd r (λ x. x ≡ e) → r ≡ Err e
same_fault (Ok x) e is = absurd is
same_fault (Err x) e is = ap (λ y. Err y) is

pub answers_fault : {A : Type 0} (r : Result A LineFault) (e : LineFault) (fault : Option LineFault) → r ≡ Err e → fault ≡ Some e → Answers r fault
answers_fault (Ok x) e fault same is = absurd (cc)
answers_fault (Err x) e fault same is = cc

-- what was received so far was read
pub is_read : (max : ℕ) (text piece : List ℕ) (before : List Slip) (r : ReaderState) (slips : List Slip) (fault : Option LineFault) (result : Result Unit LineFault)
    → IsDone max text piece before r slips fault → Answers result fault → IsRead max text piece result r before slips
is_read max text piece before r slips fault result done answer = record {
  answer = subst (Answers result) (sym done.stands) answer;
  state = done.state;
  more = done.more;
  further = done.further;
  grows = done.grown;
}

-- there was no memory for what follows
pub cut_short : (max : ℕ) (text piece : List ℕ) (before : List Slip) (r r' : ReaderState) (slips slips' : List Slip) (rest : List ℕ) → IsReading max text piece before r slips rest
    → r' ≡ without_memory r → slips' ≡ slips → IsCutShort max text piece r' before slips'
cut_short max text piece before r r' slips slips' rest reading state same =
    let l : List Slip = (received max text).slips ++ reading.front in
    let all : received max (text ++ reading.taken) ≡ after l (ends r.kind r.lines None) =
    ap (λ (p : List ℕ). received max (text ++ p)) (sym (append-nil reading.taken)) ∙ reading.so_far []
    ∙ ap (λ (p : List ℕ). after l (receive max r.lines r.kind (parts 10 p))) (append-nil reading.tail)
    ∙ ap (λ (ps : List (List ℕ)). after l (receive max r.lines r.kind ps)) reading.one
    ∙ ap (λ (f : Option LineFault). after l (ends r.kind r.lines f)) reading.fits in
    record {
      front = reading.taken;
      is_front = (rest, sym reading.cut);
      more = reading.front;
      further = ap (λ (y : Received). y.slips) all ∙ append-nil l;
      grows = same ∙ reading.grown;
      state = state ∙ ap (λ (m : ℕ). record r { max = m; fault = Some Mem; partial = Some [] }) reading.limit
          ∙ sym (ap without_memory (state_of max (text ++ reading.taken) l r.kind r.lines None all));
    }

-- a reader that has stopped
pub stays_stopped : (max : ℕ) (text piece : List ℕ) (r : ReaderState) (f : LineFault) → r ≡ state_after max text → r.fault ≡ Some f
    → (received max (text ++ piece) ≡ received max text) × ((received max (text ++ piece)).fault ≡ Some f) × (r ≡ state_after max (text ++ piece)) × AreFurther max text piece []
stays_stopped max text piece r f is bad =
    let fault : (received max text).fault ≡ Some f = sym (ap (λ (s : ReaderState). s.fault) is) ∙ bad in
    let same = received-stopped max text piece f fault in
    let both : state_after max (text ++ piece) ≡ record { max = max; kind = (received max text).kind; lines = (received max text).lines; fault = Some f; partial = Some [] } =
    ap (λ (x : Received). let s : ReaderState = record { max = max; kind = x.kind; lines = x.lines; fault = x.fault; partial = kept_after x.fault (tail_of (text ++ piece)) } in s) same
    ∙ ap (λ g. let s : ReaderState = record { max = max; kind = (received max text).kind; lines = (received max text).lines; fault = g; partial = kept_after g (tail_of (text ++ piece)) } in s) fault in
    let own : state_after max text ≡ record { max = max; kind = (received max text).kind; lines = (received max text).lines; fault = Some f; partial = Some [] } =
    ap (λ g. let s : ReaderState = record { max = max; kind = (received max text).kind; lines = (received max text).lines; fault = g; partial = kept_after g (tail_of text) } in s) fault in
    (same, ap (λ (x : Received). x.fault) same ∙ fault, is ∙ own ∙ sym both, ap (λ (x : Received). x.slips) same ∙ sym (append-nil (received max text).slips))

-- so a further piece is read
pub stopped_read : (max : ℕ) (text piece : List ℕ) (r : ReaderState) (f : LineFault) (result : Result Unit LineFault) (out : List Slip) → r ≡ state_after max text → r.fault ≡ Some f
    → result ≡ Err f → IsRead max text piece result r out out
stopped_read max text piece r f result out is bad said =
    let s = stays_stopped max text piece r f is bad in
    record {
      answer = answers_fault result f (received max (text ++ piece)).fault said s.1;
      state = s.2;
      more = [];
      further = s.3;
      grows = sym (append-nil out);
    }

-- one that has stopped for want of memory goes on to be cut short
pub stays_cut_short : (max : ℕ) (text piece : List ℕ) (r : ReaderState) (out : List Slip) → r ≡ state_after max text → r.fault ≡ Some Mem → IsCutShort max text piece r out out
stays_cut_short max text piece r out is bad =
    let x = received max text in
    let fault : x.fault ≡ Some Mem = sym (ap (λ (s : ReaderState). s.fault) is) ∙ bad in
    let own : state_after max text ≡ without_memory (state_after max text) =
    ap (λ (g : Option LineFault). let s : ReaderState = record { max = max; kind = x.kind; lines = x.lines; fault = g; partial = kept_after g (tail_of text) } in s) fault in
    record {
      front = [];
      is_front = (piece, refl);
      more = [];
      further = ap (λ (l : List ℕ). (received max l).slips) (append-nil text) ∙ sym (append-nil x.slips);
      grows = sym (append-nil out);
      state = is ∙ own ∙ ap (λ (l : List ℕ). without_memory (state_after max l)) (sym (append-nil text));
    }
