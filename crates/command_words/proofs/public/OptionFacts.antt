-- The options of some words, one after another.
use Rattle.std.proofs.Common.{◌≡◌, ◌+◌, ℕ, List, [], ◌∷◌, take, drop, Option, None, Some, refl, ap, ◌∙◌, option_and_then}
use Rattle.std.specs.Prelude.{if◌then◌else◌}
use Rattle.std.specs.Option.{is_some}
use Rattle.std.specs.List.{position}
use Rattle.command_words.specs.Options.{Named, option_of, option_at, is_equals, with_rest, first_option, all_options}

put_alone : {F : Type 0} (put : F → Named → Option F) (p : Option F) → p ≡ option_and_then (λ f. all_options put f []) p
put_alone put None = refl
put_alone put (Some f) = refl

-- the first option is put, and then those after it
pub one_option : {F : Type 0} (put : F → Named → Option F) (found : F) (word : List ℕ) (rest : List (List ℕ))
    → all_options put found (word ∷ rest) ≡ option_and_then (λ o. option_and_then (λ f. all_options put f o.1) (put found o.0)) (first_option (word ∷ rest))
one_option put found word [] = go (position is_equals word)
  where
    none_left : (o : Option Named) → option_and_then (λ x. put found x.0) (with_rest [] o) ≡ option_and_then (λ x. option_and_then (λ f. all_options put f x.1) (put found x.0)) (with_rest [] o)
    none_left None = refl
    none_left (Some x) = put_alone put (put found x)

    go : (at : Option ℕ) → option_and_then (λ x. put found x.0) (option_at word [] at) ≡ option_and_then (λ x. option_and_then (λ f. all_options put f x.1) (put found x.0)) (option_at word [] at)
    go None = refl
    go (Some at) = none_left (option_of (take at word) (drop (at + 1) word))
one_option put found word (next ∷ more) = go (position is_equals word)
  where
    rested : (left : List (List ℕ)) (o : Option Named) → option_and_then (λ x. option_and_then (λ f. all_options put f left) (put found x.0)) (with_rest left o) ≡ option_and_then (λ x. option_and_then (λ f. all_options put f x.1) (put found x.0)) (with_rest left o)
    rested left None = refl
    rested left (Some x) = refl

    go : (at : Option ℕ) → (if is_some at then option_and_then (λ x. option_and_then (λ f. all_options put f (next ∷ more)) (put found x.0)) (option_at word (next ∷ more) at) else option_and_then (λ x. option_and_then (λ f. all_options put f more) (put found x.0)) (option_at word (next ∷ more) at))
        ≡ option_and_then (λ x. option_and_then (λ f. all_options put f x.1) (put found x.0)) (option_at word (next ∷ more) at)
    go None = rested more (option_of word next)
    go (Some at) = rested (next ∷ more) (option_of (take at word) (drop (at + 1) word))

-- where the first option is put, those after it are left
pub option_put : {F : Type 0} (put : F → Named → Option F) (found next : F) (words rest : List (List ℕ)) (o : Named) → first_option words ≡ Some (o, rest) → put found o ≡ Some next
    → all_options put found words ≡ all_options put next rest
option_put put found next [] rest o first taken = absurd (none_is_not_some (o, rest) first)
  where
    none_is_not_some : (x : Named × List (List ℕ)) → None ≡ Some x → ⊥
    none_is_not_some x e = cc
option_put put found next (word ∷ words) rest o first taken =
    one_option put found word words ∙ ap (option_and_then (λ x. option_and_then (λ f. all_options put f x.1) (put found x.0))) first ∙ ap (option_and_then (λ f. all_options put f rest)) taken
