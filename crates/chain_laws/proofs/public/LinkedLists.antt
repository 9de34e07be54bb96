-- Lists of blocks, each a child of the next, and turned round.
use Rattle.std.proofs.Common.{arith, ◌≡◌, ℕ, zero, suc, true, List, [], ◌∷◌, ◌++◌, reverse, length, map, Some, None, refl, sym, ◌∙◌, ap, append_assoc}
use Rattle.std.specs.List.{slice_get}
use Rattle.std.proofs.lemmas.List.{reverse-append, length-reverse, length-map, map-append}
use Rattle.block_record.specs.declared.blocks.BlockRef.{BlockRef}
use Rattle.block_record.specs.declared.blocks.Slip.{Slip}
use Rattle.chain_model.specs.Steps.{ref_of}
use Rattle.chain_model.specs.Fold.{follows_last}

-- each block is a child of the one after it
abbrev pub Linked : List Slip → Type 0
Linked [] = Unit {0}
Linked (s ∷ rest) = (follows_last None (map ref_of rest) s ≡ true) × Linked rest

-- the first of a list, turned round, comes before what follows
pub reverse-cons : {X : Type 0} (x : X) (xs ys : List X) → reverse (x ∷ xs) ++ ys ≡ reverse xs ++ (x ∷ ys)
reverse-cons {X} x xs ys = ap (λ l. l ++ ys) (reverse-append (x ∷ []) xs) ∙ append_assoc (reverse xs) (x ∷ []) ys

slice_get_after : (a b : List BlockRef) (x : BlockRef) (k : ℕ) → k ≡ length a → slice_get (a ++ x ∷ b) k ≡ Some x
slice_get_after [] b x k e = rw e refl
slice_get_after (y ∷ a) b x zero e = absurd (omega arith)
slice_get_after (y ∷ a) b x (suc k) e = slice_get_after a b x k (omega arith)

-- what a client has at a place of its list, upwards
pub slice_get_reverse : (P L line : List Slip) (x : Slip) (k : ℕ) → line ≡ P ++ (x ∷ L) → k ≡ length L → slice_get (reverse (map ref_of line)) k ≡ Some (ref_of x)
slice_get_reverse P L line x k e n =
    let refs : map ref_of line ≡ map ref_of P ++ (ref_of x ∷ map ref_of L) = ap (map ref_of) e ∙ map-append ref_of P (x ∷ L) in
    let turned : reverse (map ref_of line) ≡ reverse (map ref_of L) ++ (ref_of x ∷ reverse (map ref_of P)) =
    ap reverse refs ∙ reverse-append (map ref_of P) (ref_of x ∷ map ref_of L) ∙ reverse-cons (ref_of x) (map ref_of L) (reverse (map ref_of P)) in
    rw turned (slice_get_after (reverse (map ref_of L)) (reverse (map ref_of P)) (ref_of x) k (n ∙ sym (length-map L ref_of) ∙ sym (length-reverse (map ref_of L))))
