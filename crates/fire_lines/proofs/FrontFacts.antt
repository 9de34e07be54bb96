-- How a line for the reader begins.
use Rattle.std.proofs.Common.{◌≡◌, ◌+◌, ◌-◌, ◌<◌, ◌≤◌, ℕ, zero, suc, Bool, true, false, ◌&&◌, cond, eqb, List, [], ◌∷◌, ◌++◌, length, take, get_or, Option, None, Some, refl, sym, ◌∙◌, ap, subst, arith, length-take, length-append, take_all, min}
use Rattle.std.specs.Prelude.{codes, nat_lt, nat_le}
use Rattle.std.proofs.lemmas.Bool.{lt-ltb, ltb-true, le-leb, lt-leb, leb-true, leb-false, false≢true}
use Rattle.std.proofs.lemmas.List.{append-nil, take-take, take-append-le, length-take-le}
use Rattle.std.proofs.lemmas.Slice.Eq.{bytes_eq-Decides}
use Rattle.block_record.specs.declared.blocks.Kind.{Kind}
use Rattle.fire_lines.specs.declared.faults.LineFault.{LineFault}
use Rattle.fire_lines.specs.declared.faults.LineFault.TheVariants.{TooLong}
use Rattle.fire_lines.specs.Parts.{without_cr}
use Rattle.fire_lines.specs.Line.{is_fire, may_be_fire, is_too_long, says, passes, is_bad}
use Rattle.fire_lines.specs.Text.{tail_fault, next_line}
use Rattle.fire_lines.specs.Reader.{ReaderState, kept, in_progress, with_tail}

not_true : (t : Bool) → (t ≡ true → ⊥) → t ≡ false
not_true true h = absurd (h refl)
not_true false h = refl

is_fire-front : (l : List ℕ) → is_fire l ≡ true → take 5 l ≡ codes "FIRE "
is_fire-front l is = sym ((bytes_eq-Decides (codes "FIRE ") (take 5 l)).0 is)

front-is_fire : (l : List ℕ) → take 5 l ≡ codes "FIRE " → is_fire l ≡ true
front-is_fire l front = (bytes_eq-Decides (codes "FIRE ") (take 5 l)).1 (sym front)

may-front : (l : List ℕ) → may_be_fire l ≡ true → take 5 l ≡ take (length (take 5 l)) (codes "FIRE ")
may-front l is = (bytes_eq-Decides (take 5 l) (take (length (take 5 l)) (codes "FIRE "))).0 is

front-may : (l : List ℕ) → take 5 l ≡ take (length (take 5 l)) (codes "FIRE ") → may_be_fire l ≡ true
front-may l front = (bytes_eq-Decides (take 5 l) (take (length (take 5 l)) (codes "FIRE "))).1 front

is_fire-length : (l : List ℕ) → is_fire l ≡ true → 5 ≤ length l
is_fire-length l is =
    let five : length (take 5 l) ≡ 5 = ap length (is_fire-front l is) in
    omega (arith, length-take 5 l)

whole_front : (q : List ℕ) → 5 ≤ length q → may_be_fire q ≡ true → take 5 q ≡ codes "FIRE "
whole_front q long may = may-front q may ∙ ap (λ n. take n (codes "FIRE ")) (length-take-le 5 q long)

front-before : (q : List ℕ) → take 5 q ≡ codes "FIRE " → may_be_fire q ≡ true
front-before q front =
    let P : List ℕ → Type 0 = λ l. l ≡ take (length l) (codes "FIRE ") in
    front-may q (subst P (sym front) refl)

-- what may be for the reader may be so from its first bytes on
pub may_be_fire-append : (a b : List ℕ) → may_be_fire (a ++ b) ≡ true → may_be_fire a ≡ true
may_be_fire-append a b may =
    let k : ℕ = length (take 5 a) in
    let size : k ≡ min 5 (length a) = length-take 5 a in
    let whole : length (take 5 (a ++ b)) ≡ min 5 (length (a ++ b)) = length-take 5 (a ++ b) in
    let sum : length (a ++ b) ≡ length a + length b = length-append a b in
    let own : take 5 a ≡ take k a = take_least 5 a in
    let one : take k a ≡ take k (a ++ b) = sym (take-append-le k a b (omega arith)) in
    let two : take k (a ++ b) ≡ take k (take 5 (a ++ b)) = sym (take-take k 5 (a ++ b) (omega arith)) in
    let three : take k (take 5 (a ++ b)) ≡ take k (take (length (take 5 (a ++ b))) (codes "FIRE ")) = ap (take k) (may-front (a ++ b) may) in
    let four : take k (take (length (take 5 (a ++ b))) (codes "FIRE ")) ≡ take k (codes "FIRE ") = take-take k (length (take 5 (a ++ b))) (codes "FIRE ") (omega arith) in
    front-may a (own ∙ one ∙ two ∙ three ∙ four)
  where
    take_least : (n : ℕ) (l : List ℕ) → take n l ≡ take (length (take n l)) l
    take_least zero l = refl
    take_least (suc n) [] = refl
    take_least (suc n) (x ∷ l) = ap (λ m. x ∷ m) (take_least n l)

without_cr-take : (q : List ℕ) → (m : ℕ) × (without_cr q ≡ take m q)
without_cr-take q =
    let P : Bool → Type 0 = λ t. (m : ℕ) × (cond t (take (length q - 1) q) q ≡ take m q) in
    elim (eqb (get_or q (length q - 1) 0) 13) as P [ true ↦ (length q - 1, refl) | false ↦ (length q, sym (take_all (length q) q (omega arith))) ]

take-before : (m : ℕ) (q : List ℕ) → is_fire (take m q) ≡ true → take 5 q ≡ codes "FIRE "
take-before m q is =
    let long = is_fire-length (take m q) is in
    let within : 5 ≤ m = omega (arith, length-take m q, long) in
    sym (take-take 5 m q within) ∙ is_fire-front (take m q) is

-- a line that can't be for the reader is passed over
pub not_fire : (q : List ℕ) → may_be_fire q ≡ false → is_fire (without_cr q) ≡ false
not_fire q isnt =
    let m = without_cr-take q in
    not_true (is_fire (without_cr q)) (λ is. false≢true (sym isnt ∙ front-before q (take-before m.0 q (sym (ap is_fire m.1) ∙ is))))

pub says-passed_over : (max n : ℕ) (held : Option Kind) (q : List ℕ) → may_be_fire q ≡ false → says max n held (without_cr q) ≡ passes
says-passed_over max n held q isnt = let e = not_fire q isnt in rw e refl

pub tail_fault-passed_over : (max lines : ℕ) (q : List ℕ) → may_be_fire q ≡ false → tail_fault max lines (without_cr q) ≡ None
tail_fault-passed_over max lines q isnt = let e = not_fire q isnt in rw e refl

-- a line that may be for the reader is too long by its length alone
pub is_too_long-length : (max : ℕ) (q : List ℕ) → may_be_fire q ≡ true → (nat_le 5 (length (without_cr q)) && nat_lt max (length (without_cr q))) ≡ is_too_long max (without_cr q)
is_too_long-length max q may =
    let l : List ℕ = without_cr q in
    let m = without_cr-take q in
    let P : Bool → Type 0 = λ t. nat_le 5 (length l) ≡ t → (t && nat_lt max (length l)) ≡ is_too_long max l in
    let both : (t : Bool) → P t = λ t. elim t as P [
      | true ↦ λ long.
          let five : 5 ≤ length (take m.0 q) = subst (λ (x : List ℕ). 5 ≤ length x) m.1 (leb-true _ _ long) in
          let front : take 5 l ≡ codes "FIRE " = ap (take 5) m.1 ∙ take-take 5 m.0 q (omega (arith, length-take m.0 q)) ∙ whole_front q (omega (arith, length-take m.0 q)) may in
          let is : is_fire l ≡ true = front-is_fire l front in
          rw is refl
      | false ↦ λ short.
          let few : length l < 5 = leb-false _ _ short in
          let isnt : is_fire l ≡ false = not_true (is_fire l) (λ is. omega (arith, is_fire-length l is)) in
          rw isnt refl
    ] in
    both (nat_le 5 (length l)) refl

-- the CR of a text is that of its last piece
without_cr-cons : (x y : ℕ) (l : List ℕ) → without_cr (x ∷ y ∷ l) ≡ x ∷ without_cr (y ∷ l)
without_cr-cons x y l =
    let one : suc (suc (length l)) - 1 ≡ suc (length l) = omega arith in
    let two : suc (length l) - 1 ≡ length l = omega arith in
    let P : Bool → Type 0 = λ t. cond t (x ∷ take (length l) (y ∷ l)) (x ∷ y ∷ l) ≡ x ∷ cond t (take (length l) (y ∷ l)) (y ∷ l) in
    rw (one, two) (elim (eqb (get_or (y ∷ l) (length l) 0) 13) as P [ true ↦ refl | false ↦ refl ])

pub without_cr-append : (a b : List ℕ) → 0 < length b → without_cr (a ++ b) ≡ a ++ without_cr b
without_cr-append [] b some = refl
without_cr-append (x ∷ a) [] some = absurd (omega arith)
without_cr-append (x ∷ []) (y ∷ b) some = without_cr-cons x y b
without_cr-append (x ∷ x' ∷ a) (y ∷ b) some = without_cr-cons x x' (a ++ (y ∷ b)) ∙ ap (λ l. x ∷ l) (without_cr-append (x' ∷ a) (y ∷ b) some)

-- what is kept of a line in progress
pub kept-some : (l tail : List ℕ) → Some l ≡ kept tail → (l ≡ tail) × (may_be_fire tail ≡ true)
kept-some l tail is =
    let P : Bool → Type 0 = λ t. may_be_fire tail ≡ t → Some l ≡ cond t (Some tail) None → (l ≡ tail) × (may_be_fire tail ≡ true) in
    let both : (t : Bool) → P t = λ t. elim t as P [ true ↦ λ e k. (cc, e) | false ↦ λ e k. absurd (cc) ] in
    both (may_be_fire tail) refl is

pub kept-none : (tail : List ℕ) → None ≡ kept tail → may_be_fire tail ≡ false
kept-none tail is =
    let P : Bool → Type 0 = λ t. may_be_fire tail ≡ t → None ≡ cond t (Some tail) None → may_be_fire tail ≡ false in
    let both : (t : Bool) → P t = λ t. elim t as P [ true ↦ λ e k. absurd (cc) | false ↦ λ e k. e ] in
    both (may_be_fire tail) refl is

pub kept-may : (tail : List ℕ) → may_be_fire tail ≡ true → kept tail ≡ Some tail
kept-may tail e = rw e refl

pub kept-not : (tail : List ℕ) → may_be_fire tail ≡ false → kept tail ≡ None
kept-not tail e = rw e refl

pub not_fire-append : (a b : List ℕ) → may_be_fire a ≡ false → may_be_fire (a ++ b) ≡ false
not_fire-append a b isnt = not_true (may_be_fire (a ++ b)) (λ is. false≢true (sym isnt ∙ may_be_fire-append a b is))

pub is_long_enough : (max count : ℕ) (q : List ℕ) → may_be_fire q ≡ true → count ≡ length (without_cr q) → 5 ≤ count → nat_lt max count ≡ is_too_long max (without_cr q)
is_long_enough max count q may is long =
    let five : nat_le 5 count ≡ true = le-leb _ _ long in
    sym (ap (λ t. t && nat_lt max count) five) ∙ ap (λ n. nat_le 5 n && nat_lt max n) is ∙ is_too_long-length max q may

pub is_too_short : (max count : ℕ) (q : List ℕ) → may_be_fire q ≡ true → count ≡ length (without_cr q) → count < 5 → nat_le 5 count ≡ is_too_long max (without_cr q)
is_too_short max count q may is short =
    let five : nat_le 5 count ≡ false = lt-leb _ _ short in
    five ∙ sym (ap (λ t. t && nat_lt max count) five) ∙ ap (λ n. nat_le 5 n && nat_lt max n) is ∙ is_too_long-length max q may

-- a reader that passes over the line in progress
pub with_tail-passed_over : (r : ReaderState) (q : List ℕ) → may_be_fire q ≡ false → with_tail q r ≡ record r { partial = None }
with_tail-passed_over r q isnt =
    ap (λ f. in_progress f q r) (tail_fault-passed_over r.max r.lines q isnt) ∙ ap (λ p. record r { partial = p }) (kept-not q isnt)

pub stays_passed_over : (r : ReaderState) (tail bytes : List ℕ) → r.partial ≡ None → r.partial ≡ kept tail
    → (may_be_fire (tail ++ bytes) ≡ false) × (r ≡ with_tail (tail ++ bytes) r)
stays_passed_over r tail bytes none is =
    let isnt = not_fire-append tail bytes (kept-none tail (sym none ∙ is)) in
    (isnt, ap (λ p. record r { partial = p }) none ∙ sym (with_tail-passed_over r (tail ++ bytes) isnt))

pub becomes_passed_over : (r : ReaderState) (tail bytes items : List ℕ) → r.partial ≡ Some items → r.partial ≡ kept tail → may_be_fire (items ++ bytes) ≡ false
    → (may_be_fire (tail ++ bytes) ≡ false) × (record r { partial = None } ≡ with_tail (tail ++ bytes) r)
becomes_passed_over r tail bytes items some is isnt =
    let same = kept-some items tail (sym some ∙ is) in
    let other : may_be_fire (tail ++ bytes) ≡ false = subst (λ (l : List ℕ). may_be_fire (l ++ bytes) ≡ false) same.0 isnt in
    (other, sym (with_tail-passed_over r (tail ++ bytes) other))

-- a line that is too long stays so, whatever follows
take_front : (p x : List ℕ) → take 5 p ≡ codes "FIRE " → is_fire (p ++ x) ≡ true
take_front p x front =
    let five : length (take 5 p) ≡ 5 = ap length front in
    front-is_fire (p ++ x) (take-append-le 5 p x (omega (arith, length-take 5 p)) ∙ front)

long_parts : (max : ℕ) (l : List ℕ) → is_too_long max l ≡ true → (is_fire l ≡ true) × (max < length l)
long_parts max l is =
    let P : Bool → Type 0 = λ t. is_fire l ≡ t → cond t (nat_lt max (length l)) false ≡ true → (is_fire l ≡ true) × (max < length l) in
    let both : (t : Bool) → P t = λ t. elim t as P [ true ↦ λ e h. (e, ltb-true _ _ h) | false ↦ λ e h. absurd (false≢true h) ] in
    both (is_fire l) refl is

long_from : (max : ℕ) (l : List ℕ) → is_fire l ≡ true → max < length l → is_too_long max l ≡ true
long_from max l is long = let e = lt-ltb max (length l) long in rw (is, e) refl

pub is_too_long-append : (max : ℕ) (p q : List ℕ) → is_too_long max (without_cr p) ≡ true → is_too_long max (without_cr (p ++ q)) ≡ true
is_too_long-append max p [] is = ap (λ l. is_too_long max (without_cr l)) (append-nil p) ∙ is
is_too_long-append max p (y ∷ q) is =
    let both = long_parts max (without_cr p) is in
    let m = without_cr-take p in
    let front = take-before m.0 p (sym (ap is_fire m.1) ∙ both.0) in
    let less : length (without_cr p) ≤ length p = rw m.1 (omega (arith, length-take m.0 p)) in
    let whole : without_cr (p ++ (y ∷ q)) ≡ p ++ without_cr (y ∷ q) = without_cr-append p (y ∷ q) (omega arith) in
    rw whole (long_from max (p ++ without_cr (y ∷ q)) (take_front p (without_cr (y ∷ q)) front) (omega (arith, both.1, less, length-append p (without_cr (y ∷ q)))))

pub says-too_long : (max n : ℕ) (held : Option Kind) (l : List ℕ) → is_too_long max l ≡ true → says max n held l ≡ is_bad (TooLong n)
says-too_long max n held l is =
    let both = long_parts max l is in
    let one = both.0 in
    let two = lt-ltb max (length l) both.1 in
    rw (one, two) refl

pub tail_fault-too_long : (max lines : ℕ) (l : List ℕ) → is_too_long max l ≡ true → tail_fault max lines l ≡ Some (TooLong (next_line lines))
tail_fault-too_long max lines l is = rw is refl

pub tail_fault-some : (max lines : ℕ) (l : List ℕ) (f : LineFault) → tail_fault max lines l ≡ Some f → (is_too_long max l ≡ true) × (f ≡ TooLong (next_line lines))
tail_fault-some max lines l f is =
    let P : Bool → Type 0 = λ t. is_too_long max l ≡ t → cond t (Some (TooLong (next_line lines))) None ≡ Some f → (is_too_long max l ≡ true) × (f ≡ TooLong (next_line lines)) in
    let both : (t : Bool) → P t = λ t. elim t as P [ true ↦ λ e h. (e, cc) | false ↦ λ e h. absurd (cc) ] in
    both (is_too_long max l) refl is
