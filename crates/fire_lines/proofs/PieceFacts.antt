-- A text that goes on with a further piece.
use Rattle.std.proofs.Common.{◌≡◌, ℕ, Bool, true, false, cond, eqb, List, [], ◌∷◌, ◌++◌, Option, None, Some, refl, sym, ◌∙◌, ap, subst}
use Rattle.std.proofs.lemmas.Bool.{eqb-true, eq-eqb}
use Rattle.std.proofs.lemmas.List.{append-nil}
use Rattle.block_record.specs.declared.blocks.Kind.{Kind}
use Rattle.fire_lines.specs.declared.faults.LineFault.{LineFault}
use Rattle.fire_lines.specs.declared.faults.LineFault.TheVariants.{TooLong}
use Rattle.fire_lines.specs.Parts.{parts, onto_first, last_part, tail_of, without_cr}
use Rattle.fire_lines.specs.Line.{Saying, passes, opens, brings, is_bad, says, is_too_long}
use Rattle.fire_lines.proofs.FrontFacts.{is_too_long-append, says-too_long, tail_fault-too_long, tail_fault-some}
use Rattle.fire_lines.specs.Text.{Received, ends, after, then_receive, tail_fault, next_line, receive, received}

-- parts whose last one goes on with a piece
pub glue : ℕ → List (List ℕ) → List ℕ → List (List ℕ)
glue separator [] piece = parts separator piece
glue separator (p ∷ []) piece = parts separator (p ++ piece)
glue separator (p ∷ q ∷ more) piece = p ∷ glue separator (q ∷ more) piece

-- there is a first part
onto_some : (b : ℕ) (ps : List (List ℕ)) → (p : List ℕ) × ((more : List (List ℕ)) × (onto_first b ps ≡ p ∷ more))
onto_some b [] = (b ∷ [], ([], refl))
onto_some b (p ∷ more) = (b ∷ p, (more, refl))

pub parts_some : (separator : ℕ) (text : List ℕ) → (p : List ℕ) × ((more : List (List ℕ)) × (parts separator text ≡ p ∷ more))
parts_some separator [] = ([], ([], refl))
parts_some separator (b ∷ text) =
    let P : Bool → Type 0 = λ t. (p : List ℕ) × ((more : List (List ℕ)) × (cond t ([] ∷ parts separator text) (onto_first b (parts separator text)) ≡ p ∷ more)) in
    elim (eqb b separator) as P [ true ↦ ([], (parts separator text, refl)) | false ↦ onto_some b (parts separator text) ]

glue-some : (separator : ℕ) (p : List ℕ) (more : List (List ℕ)) (piece : List ℕ) → (q : List ℕ) × ((rest : List (List ℕ)) × (glue separator (p ∷ more) piece ≡ q ∷ rest))
unfolding glue
glue-some separator p [] piece = parts_some separator (p ++ piece)
glue-some separator p (q ∷ more) piece = (p, (glue separator (q ∷ more) piece, refl))

glue-onto : (separator b : ℕ) (p : List ℕ) (more : List (List ℕ)) (piece : List ℕ) → eqb b separator ≡ false
    → glue separator (onto_first b (p ∷ more)) piece ≡ onto_first b (glue separator (p ∷ more) piece)
unfolding glue
glue-onto separator b p [] piece other = rw other refl
glue-onto separator b p (q ∷ more) piece other = refl

glue-first : (separator : ℕ) (ps : List (List ℕ)) (piece : List ℕ) → ((p : List ℕ) × ((more : List (List ℕ)) × (ps ≡ p ∷ more))) → glue separator ([] ∷ ps) piece ≡ [] ∷ glue separator ps piece
unfolding glue
glue-first separator ps piece some = rw some.1.1 refl

pub parts-append : (separator : ℕ) (text piece : List ℕ) → parts separator (text ++ piece) ≡ glue separator (parts separator text) piece
unfolding glue
parts-append separator [] piece = refl
parts-append separator (b ∷ text) piece =
    let later = parts-append separator text piece in
    let some = parts_some separator text in
    let P : Bool → Type 0 = λ t. eqb b separator ≡ t → cond t ([] ∷ parts separator (text ++ piece)) (onto_first b (parts separator (text ++ piece)))
    ≡ glue separator (cond t ([] ∷ parts separator text) (onto_first b (parts separator text))) piece in
    let both : (t : Bool) → P t = λ t. elim t as P [
      | true ↦ λ e. ap (λ l. [] ∷ l) later ∙ sym (glue-first separator (parts separator text) piece some)
      | false ↦ λ e. ap (onto_first b) later ∙ (rw some.1.1 (sym (glue-onto separator b some.0 some.1.0 piece e)))
    ] in
    both (eqb b separator) refl

onto_last : (separator b : ℕ) (p : List ℕ) (more : List (List ℕ)) → eqb b separator ≡ false → parts separator (last_part (p ∷ more)) ≡ last_part (p ∷ more) ∷ []
    → parts separator (last_part (onto_first b (p ∷ more))) ≡ last_part (onto_first b (p ∷ more)) ∷ []
onto_last separator b p [] other one = rw (other, one) refl
onto_last separator b p (q ∷ more) other one = one

first_last : (separator : ℕ) (ps : List (List ℕ)) → ((p : List ℕ) × ((more : List (List ℕ)) × (ps ≡ p ∷ more))) → parts separator (last_part ps) ≡ last_part ps ∷ []
    → parts separator (last_part ([] ∷ ps)) ≡ last_part ([] ∷ ps) ∷ []
first_last separator [] some one = absurd (let e = some.1.1 in cc)
first_last separator (p ∷ more) some one = one

both_last : (separator b : ℕ) (ps : List (List ℕ)) → ((p : List ℕ) × ((more : List (List ℕ)) × (ps ≡ p ∷ more))) → eqb b separator ≡ false → parts separator (last_part ps) ≡ last_part ps ∷ []
    → parts separator (last_part (onto_first b ps)) ≡ last_part (onto_first b ps) ∷ []
both_last separator b [] some other one = absurd (let e = some.1.1 in cc)
both_last separator b (p ∷ more) some other one = onto_last separator b p more other one

-- what follows the last separator has none
pub parts-tail : (separator : ℕ) (text : List ℕ) → parts separator (last_part (parts separator text)) ≡ last_part (parts separator text) ∷ []
parts-tail separator [] = refl
parts-tail separator (b ∷ text) =
    let some = parts_some separator text in
    let later = parts-tail separator text in
    let P : Bool → Type 0 = λ t. eqb b separator ≡ t → (let ps : List (List ℕ) = cond t ([] ∷ parts separator text) (onto_first b (parts separator text)) in parts separator (last_part ps) ≡ last_part ps ∷ []) in
    let both : (t : Bool) → P t = λ t. elim t as P [
      | true ↦ λ e. first_last separator (parts separator text) some later
      | false ↦ λ e. both_last separator b (parts separator text) some e later
    ] in
    both (eqb b separator) refl

-- the first part goes on with what stands before it
onto_parts : (b : ℕ) (p' : List ℕ) (ps : List (List ℕ)) → onto_first b ps ≡ (b ∷ p') ∷ [] → ((p : List ℕ) × ((more : List (List ℕ)) × (ps ≡ p ∷ more))) → ps ≡ p' ∷ []
onto_parts b p' [] is some = absurd (let e = some.1.1 in cc)
onto_parts b p' (x ∷ xs) is some = cc

pub parts-onto : (separator : ℕ) (p piece q : List ℕ) (qs : List (List ℕ)) → parts separator p ≡ p ∷ [] → parts separator piece ≡ q ∷ qs → parts separator (p ++ piece) ≡ (p ++ q) ∷ qs
parts-onto separator [] piece q qs one cut = cut
parts-onto separator (b ∷ p) piece q qs one cut =
    let some = parts_some separator p in
    let P : Bool → Type 0 = λ t. cond t ([] ∷ parts separator p) (onto_first b (parts separator p)) ≡ (b ∷ p) ∷ []
    → cond t ([] ∷ parts separator (p ++ piece)) (onto_first b (parts separator (p ++ piece))) ≡ (b ∷ (p ++ q)) ∷ qs in
    let both : (t : Bool) → P t = λ t. elim t as P [
      | true ↦ λ is. absurd (cc)
      | false ↦ λ is. ap (onto_first b) (parts-onto separator p piece q qs (onto_parts b p (parts separator p) is some) cut)
    ] in
    both (eqb b separator) one

-- ---- a line and the separator after it

-- the text of some parts, with the separator between each two
abbrev joined : ℕ → List (List ℕ) → List ℕ
joined separator [] = []
joined separator (p ∷ []) = p
joined separator (p ∷ q ∷ more) = p ++ (separator ∷ joined separator (q ∷ more))

joined-first : (separator : ℕ) (p : List ℕ) (ps : List (List ℕ)) → ((q : List ℕ) × ((more : List (List ℕ)) × (ps ≡ q ∷ more))) → joined separator (p ∷ ps) ≡ p ++ (separator ∷ joined separator ps)
joined-first separator p [] some = absurd (let e = some.1.1 in cc)
joined-first separator p (q ∷ more) some = refl

joined-onto : (separator b : ℕ) (ps : List (List ℕ)) → ((q : List ℕ) × ((more : List (List ℕ)) × (ps ≡ q ∷ more))) → joined separator (onto_first b ps) ≡ b ∷ joined separator ps
joined-onto separator b [] some = absurd (let e = some.1.1 in cc)
joined-onto separator b (p ∷ []) some = refl
joined-onto separator b (p ∷ q ∷ more) some = refl

joined-parts : (separator : ℕ) (text : List ℕ) → joined separator (parts separator text) ≡ text
joined-parts separator [] = refl
joined-parts separator (b ∷ text) =
    let later = joined-parts separator text in
    let some = parts_some separator text in
    let P : Bool → Type 0 = λ t. eqb b separator ≡ t → joined separator (cond t ([] ∷ parts separator text) (onto_first b (parts separator text))) ≡ b ∷ text in
    let both : (t : Bool) → P t = λ t. elim t as P [
      | true ↦ λ e. joined-first separator [] (parts separator text) some ∙ ap (λ l. separator ∷ l) later ∙ ap (λ (x : ℕ). x ∷ text) (sym (eqb-true b separator e))
      | false ↦ λ e. joined-onto separator b (parts separator text) some ∙ ap (λ l. b ∷ l) later
    ] in
    both (eqb b separator) refl

-- a text is its first part, the separator, and what the other parts are of
pub cut_whole : (separator : ℕ) (text p rest : List ℕ) → parts separator text ≡ p ∷ parts separator rest → text ≡ p ++ (separator ∷ rest)
cut_whole separator text p rest cut =
    sym (joined-parts separator text) ∙ ap (joined separator) cut ∙ joined-first separator p (parts separator rest) (parts_some separator rest)
    ∙ ap (λ (l : List ℕ). p ++ (separator ∷ l)) (joined-parts separator rest)

same_first : (x y : List ℕ) (xs ys : List (List ℕ)) → x ∷ xs ≡ y ∷ ys → x ≡ y
same_first x y xs ys e = cc

onto_one : (separator b : ℕ) (p : List ℕ) → eqb b separator ≡ false → parts separator p ≡ p ∷ [] → parts separator (b ∷ p) ≡ (b ∷ p) ∷ []
onto_one separator b p other one = rw (other, one) refl

-- the first part has no separator
first_one : (separator : ℕ) (text p : List ℕ) (more : List (List ℕ)) → parts separator text ≡ p ∷ more → parts separator p ≡ p ∷ []
first_one separator [] p more is = subst (λ (q : List ℕ). parts separator q ≡ q ∷ []) (same_first [] p [] more is) refl
first_one separator (b ∷ text) p more is =
    let some = parts_some separator text in
    let later = first_one separator text some.0 some.1.0 some.1.1 in
    let P : Bool → Type 0 = λ t. eqb b separator ≡ t → cond t ([] ∷ parts separator text) (onto_first b (parts separator text)) ≡ p ∷ more → parts separator p ≡ p ∷ [] in
    let both : (t : Bool) → P t = λ t. elim t as P [
      | true ↦ λ e first. subst (λ (q : List ℕ). parts separator q ≡ q ∷ []) (same_first [] p (parts separator text) more first) refl
      | false ↦ λ e first. subst (λ (q : List ℕ). parts separator q ≡ q ∷ []) (same_first (b ∷ some.0) p some.1.0 more (sym (ap (onto_first b) some.1.1) ∙ first)) (onto_one separator b some.0 e later)
    ] in
    both (eqb b separator) refl is

-- the same first part with anything else after the separator
pub cut_again : (separator : ℕ) (text p rest other : List ℕ) → parts separator text ≡ p ∷ parts separator rest → parts separator (p ++ (separator ∷ other)) ≡ p ∷ parts separator other
cut_again separator text p rest other cut =
    let same : eqb separator separator ≡ true = eq-eqb separator separator refl in
    let next : parts separator (separator ∷ other) ≡ [] ∷ parts separator other = rw same refl in
    parts-onto separator p (separator ∷ other) [] (parts separator other) (first_one separator text p (parts separator rest) cut) next
    ∙ ap (λ (l : List ℕ). l ∷ parts separator other) (append-nil p)

glue-last : (separator : ℕ) (p : List ℕ) (more : List (List ℕ)) (piece : List ℕ) → last_part (glue separator (p ∷ more) piece) ≡ last_part (parts separator (last_part (p ∷ more) ++ piece))
unfolding glue
glue-last separator p [] piece = refl
glue-last separator p (q ∷ more) piece =
    let later = glue-last separator q more piece in
    let some = glue-some separator q more piece in
    let P : List (List ℕ) → Type 0 = λ ps. last_part (p ∷ ps) ≡ last_part ps in
    subst P (sym some.1.1) refl ∙ later

-- the tail of a text that goes on with a piece
pub tail_of-append : (text piece : List ℕ) → tail_of (text ++ piece) ≡ tail_of (tail_of text ++ piece)
tail_of-append text piece =
    let some = parts_some 10 text in
    let P : List (List ℕ) → Type 0 = λ ps. last_part (glue 10 ps piece) ≡ last_part (parts 10 (last_part ps ++ piece)) in
    ap last_part (parts-append 10 text piece) ∙ subst P (sym some.1.1) (glue-last 10 some.0 some.1.0 piece)

-- a line before further parts
pub receive-cons : (max lines : ℕ) (kind : Option Kind) (line : List ℕ) (ps : List (List ℕ)) → ((p : List ℕ) × ((more : List (List ℕ)) × (ps ≡ p ∷ more)))
    → receive max lines kind (line ∷ ps) ≡ then_receive (says max (next_line lines) kind (without_cr line)) lines kind (λ k. receive max (next_line lines) k ps)
receive-cons max lines kind line [] some = absurd (let e = some.1.1 in cc)
receive-cons max lines kind line (p ∷ more) some = refl

then_goes_on : (s : Saying) (lines : ℕ) (kind : Option Kind) (F G : Option Kind → Received) (rest : ℕ → Option Kind → Received)
    → ((k : Option Kind) → (F k).fault ≡ None → G k ≡ after (F k).slips (rest (F k).lines (F k).kind))
    → (then_receive s lines kind F).fault ≡ None
    → then_receive s lines kind G ≡ after (then_receive s lines kind F).slips (rest (then_receive s lines kind F).lines (then_receive s lines kind F).kind)
then_goes_on passes lines kind F G rest h good = h kind good
then_goes_on (opens k) lines kind F G rest h good = h (Some k) good
then_goes_on (brings s) lines kind F G rest h good = ap (after (s ∷ [])) (h kind good)
then_goes_on (is_bad f) lines kind F G rest h good = absurd (cc)

receive-goes_on : (max : ℕ) (p : List ℕ) (more : List (List ℕ)) (piece : List ℕ) (lines : ℕ) (kind : Option Kind) → (receive max lines kind (p ∷ more)).fault ≡ None
    → receive max lines kind (glue 10 (p ∷ more) piece)
    ≡ after (receive max lines kind (p ∷ more)).slips (receive max (receive max lines kind (p ∷ more)).lines (receive max lines kind (p ∷ more)).kind (parts 10 (last_part (p ∷ more) ++ piece)))
unfolding glue
receive-goes_on max p [] piece lines kind good = refl
receive-goes_on max p (q ∷ more) piece lines kind good =
    receive-cons max lines kind p (glue 10 (q ∷ more) piece) (glue-some 10 q more piece)
    ∙ then_goes_on (says max (next_line lines) kind (without_cr p)) lines kind (λ k. receive max (next_line lines) k (q ∷ more)) (λ k. receive max (next_line lines) k (glue 10 (q ∷ more) piece))
    (λ n k. receive max n k (parts 10 (last_part (q ∷ more) ++ piece))) (λ k. receive-goes_on max q more piece (next_line lines) k) good

-- what a text with no fault says with a further piece: its blocks, and then what its tail and the piece say
pub received-append : (max : ℕ) (text piece : List ℕ) → (received max text).fault ≡ None
    → received max (text ++ piece) ≡ after (received max text).slips (receive max (received max text).lines (received max text).kind (parts 10 (tail_of text ++ piece)))
received-append max text piece good =
    let some = parts_some 10 text in
    let P : List (List ℕ) → Type 0 = λ ps. (receive max 0 None ps).fault ≡ None
    → receive max 0 None (glue 10 ps piece) ≡ after (receive max 0 None ps).slips (receive max (receive max 0 None ps).lines (receive max 0 None ps).kind (parts 10 (last_part ps ++ piece))) in
    let all : P (parts 10 text) = subst P (sym some.1.1) (receive-goes_on max some.0 some.1.0 piece 0 None) in
    ap (receive max 0 None) (parts-append 10 text piece) ∙ all good

then_stops : (s : Saying) (lines : ℕ) (kind : Option Kind) (F G : Option Kind → Received) (f : LineFault)
    → ((k : Option Kind) → (F k).fault ≡ Some f → G k ≡ F k) → (then_receive s lines kind F).fault ≡ Some f → then_receive s lines kind G ≡ then_receive s lines kind F
then_stops passes lines kind F G f h bad = h kind bad
then_stops (opens k) lines kind F G f h bad = h (Some k) bad
then_stops (brings s) lines kind F G f h bad = ap (after (s ∷ [])) (h kind bad)
then_stops (is_bad g) lines kind F G f h bad = refl

long_tail : (max lines : ℕ) (kind : Option Kind) (p piece : List ℕ) (f : LineFault) → parts 10 p ≡ p ∷ [] → tail_fault max lines (without_cr p) ≡ Some f
    → receive max lines kind (parts 10 (p ++ piece)) ≡ ends kind lines (tail_fault max lines (without_cr p))
long_tail max lines kind p piece f one bad =
    let some = parts_some 10 piece in
    let whole = parts-onto 10 p piece some.0 some.1.0 one some.1.1 in
    let long = is_too_long-append max p some.0 (tail_fault-some max lines (without_cr p) f bad).0 in
    let same : tail_fault max lines (without_cr p) ≡ Some (TooLong (next_line lines)) = tail_fault-too_long max lines (without_cr p) (tail_fault-some max lines (without_cr p) f bad).0 in
    ap (receive max lines kind) whole ∙ by_parts (p ++ some.0) some.1.0 long ∙ ap (ends kind lines) (sym same)
  where
    by_parts : (line : List ℕ) (qs : List (List ℕ)) → is_too_long max (without_cr line) ≡ true → receive max lines kind (line ∷ qs) ≡ ends kind lines (Some (TooLong (next_line lines)))
    by_parts line [] is = ap (ends kind lines) (tail_fault-too_long max lines (without_cr line) is)
    by_parts line (q ∷ qs) is = ap (λ s. then_receive s lines kind (λ k. receive max (next_line lines) k (q ∷ qs))) (says-too_long max (next_line lines) kind (without_cr line) is)

receive-stops : (max : ℕ) (p : List ℕ) (more : List (List ℕ)) (piece : List ℕ) (f : LineFault) → parts 10 (last_part (p ∷ more)) ≡ last_part (p ∷ more) ∷ [] → (lines : ℕ) (kind : Option Kind)
    → (receive max lines kind (p ∷ more)).fault ≡ Some f → receive max lines kind (glue 10 (p ∷ more) piece) ≡ receive max lines kind (p ∷ more)
unfolding glue
receive-stops max p [] piece f one lines kind bad = long_tail max lines kind p piece f one bad
receive-stops max p (q ∷ more) piece f one lines kind bad =
    receive-cons max lines kind p (glue 10 (q ∷ more) piece) (glue-some 10 q more piece)
    ∙ then_stops (says max (next_line lines) kind (without_cr p)) lines kind (λ k. receive max (next_line lines) k (q ∷ more)) (λ k. receive max (next_line lines) k (glue 10 (q ∷ more) piece)) f
    (λ k. receive-stops max q more piece f one (next_line lines) k) bad

-- a text with a fault says the same with a further piece
pub received-stopped : (max : ℕ) (text piece : List ℕ) (f : LineFault) → (received max text).fault ≡ Some f → received max (text ++ piece) ≡ received max text
received-stopped max text piece f bad =
    let some = parts_some 10 text in
    let P : List (List ℕ) → Type 0 = λ ps. parts 10 (last_part ps) ≡ last_part ps ∷ [] → (receive max 0 None ps).fault ≡ Some f → receive max 0 None (glue 10 ps piece) ≡ receive max 0 None ps in
    let all : P (parts 10 text) = subst P (sym some.1.1) (λ one. receive-stops max some.0 some.1.0 piece f one 0 None) in
    ap (receive max 0 None) (parts-append 10 text piece) ∙ all (parts-tail 10 text) bad
