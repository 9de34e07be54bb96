-- Bytes taken of a source, piece by piece.
use Rattle.std.proofs.Common.{◌++◌, ℕ, List, [], Option, None, Some, refl, sym, ◌∙◌, ap, append_assoc}
use Rattle.std.proofs.lemmas.List.{append-nil}
use Rattle.std.specs.Io.KnownBytes.{Consumes, append_known}
use Rattle.outer_world.specs.Told.{Gains, Took}

consumes_twice : (a b c : Option (List ℕ)) (xs ys : List ℕ) → Consumes a b xs → Consumes b c ys → Consumes a c (xs ++ ys)
consumes_twice None b c xs ys g h = tt
consumes_twice (Some x) None c xs ys g h = absurd g
consumes_twice (Some x) (Some y) None xs ys g h = absurd h
consumes_twice (Some x) (Some y) (Some z) xs ys g h = g ∙ ap (λ l. xs ++ l) h ∙ sym (append_assoc xs ys z)

-- bytes gained in two parts
gains_twice : (a b c : Option (List ℕ)) (xs ys : List ℕ) → Gains a b xs → Gains b c ys → Gains a c (xs ++ ys)
gains_twice None b c xs ys g h = h ∙ ap (λ known. append_known known ys) g
gains_twice (Some x) b c xs ys g h = h ∙ ap (λ known. append_known known ys) g ∙ ap Some (append_assoc x xs ys)

-- what gains no byte is as it was
pub gains_none : (a : Option (List ℕ)) → Gains a a []
gains_none None = refl
gains_none (Some x) = ap Some (sym (append-nil x))

-- nothing was taken of a source
pub took_nothing : (left given : Option (List ℕ)) → Took left left given given []
took_nothing None given = record { first = tt; last = gains_none given }
took_nothing (Some x) given = record { first = refl; last = gains_none given }

-- and then some more
pub took_more : (a b c x y z : Option (List ℕ)) (taken more : List ℕ) → Took a b x y taken → Consumes b c more → Gains y z more → Took a c x z (taken ++ more)
took_more a b c x y z taken more t left given = record {
  first = consumes_twice a b c taken more t.first left;
  last = gains_twice x y z taken more t.last given;
}
