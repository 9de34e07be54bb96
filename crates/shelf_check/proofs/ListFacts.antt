-- Lists that are read one after another, and told with the last one first.
use Rattle.std.proofs.Common.{◌≡◌, ◌<◌, ◌+◌, ℕ, suc, List, [], ◌∷◌, ◌++◌, length, map, reverse, take, drop, get_or, refl, sym, ap, ◌∙◌, append_assoc}
use Rattle.std.proofs.lemmas.List.{take_more, take-append-drop, reverse-append, reverse-reverse, map-append}
use Rattle.block_record.proofs.public.ListFacts.{map_reverse}
use Rattle.std.proofs.Math.Seq.{drop-cons}

-- one more
pub map_reverse_more : {A B : Type 0} (f : A → B) (x : A) (older : List A) → map f (reverse (x ∷ older)) ≡ map f (reverse older) ++ f x ∷ []
map_reverse_more f x older = ap (map f) (reverse-append (x ∷ []) older) ∙ map-append f (reverse older) (x ∷ [])

-- those that were read with the next one, where it is the one that the last one gives
pub taken_more : {A B : Type 0} (f : A → B) (x : A) (older : List A) (ys : List B) (i : ℕ) (y : B) → i < length ys → y ≡ get_or ys i y → y ≡ f x → take i ys ≡ map f (reverse older) → take (i + 1) ys ≡ map f (reverse (x ∷ older))
taken_more {A} {B} f x older ys i y within item is read =
    take_more ys i y within ∙ ap (λ (z : B). take i ys ++ z ∷ []) (sym item ∙ is) ∙ ap (λ (zs : List B). zs ++ f x ∷ []) read ∙ sym (map_reverse_more f x older)

-- those that were read, and the next one
pub next_taken : {A : Type 0} (ys : List A) (i : ℕ) (y : A) → i < length ys → y ≡ get_or ys i y → take (i + 1) ys ≡ take i ys ++ y ∷ []
next_taken {A} ys i y within item = take_more ys i y within ∙ ap (λ (z : A). take i ys ++ z ∷ []) (sym item)

-- those that were read, the next one, and those after it
pub cut_at : {A : Type 0} (ys front : List A) (i : ℕ) (y : A) → i < length ys → y ≡ get_or ys i y → take i ys ≡ front → ys ≡ front ++ y ∷ drop (suc i) ys
cut_at {A} ys front i y within item read =
    sym (take-append-drop i ys) ∙ ap (λ (zs : List A). zs ++ drop i ys) read
    ∙ ap (λ (zs : List A). front ++ zs) (drop-cons ys i y within ∙ ap (λ (z : A). z ∷ drop (suc i) ys) (sym item))

pub first_same : {A : Type 0} (x y : A) (xs ys : List A) → (let l : List A = x ∷ xs in l) ≡ y ∷ ys → x ≡ y
first_same x y xs ys e = cc e

pub rest_same : {A : Type 0} (x y : A) (xs ys : List A) → (let l : List A = x ∷ xs in l) ≡ y ∷ ys → xs ≡ ys
rest_same x y xs ys e = cc e

-- ---- turned over

-- what begins with a list, where the last one stands first, ends with it
pub turned : {A : Type 0} (xs done : List A) (x : A) (rest : List A) → reverse xs ≡ reverse done ++ x ∷ rest → xs ≡ reverse rest ++ x ∷ done
turned {A} xs done x rest e =
    sym (reverse-reverse xs) ∙ ap reverse e ∙ reverse-append (reverse done) (x ∷ rest)
    ∙ ap (λ (l : List A). reverse (x ∷ rest) ++ l) (reverse-reverse done)
    ∙ ap (λ (l : List A). l ++ done) (reverse-append (x ∷ []) rest)
    ∙ append_assoc (reverse rest) (x ∷ []) done

-- lists whose values are the same in one order have the same in the other
pub map_turned : {A B : Type 0} (f : A → B) (xs ys : List A) → map f (reverse xs) ≡ map f (reverse ys) → map f xs ≡ map f ys
map_turned f xs ys e = sym (reverse-reverse (map f xs)) ∙ ap reverse (sym (map_reverse f xs) ∙ e ∙ map_reverse f ys) ∙ reverse-reverse (map f ys)

-- an element of this value, and before it those of the values of a list
pub record Split {A B : Type 0} (f : A → B) (xs : List A) (y : B) (ys : List A) : Type 0 where
  pub newer : List A
  pub x : A
  pub older : List A
  pub whole : xs ≡ newer ++ x ∷ older
  pub item : f x ≡ y
  pub same : map f older ≡ map f ys

split_after : {A B : Type 0} (f : A → B) (xs : List A) (front : List B) (y : B) (ys : List A) → map f xs ≡ front ++ y ∷ map f ys → Split f xs y ys
split_after f [] [] y ys e = absurd (cc e)
split_after f [] (z ∷ front) y ys e = absurd (cc e)
split_after {A} {B} f (x ∷ xs) [] y ys e =
    let item : f x ≡ y = cc e in
    let same : map f xs ≡ map f ys = cc e in
    record { newer = []; x = x; older = xs; whole = refl; item = item; same = same }
split_after {A} {B} f (x ∷ xs) (z ∷ front) y ys e =
    let tail : map f xs ≡ front ++ y ∷ map f ys = cc e in
    let s = split_after f xs front y ys tail in
    record { newer = x ∷ s.newer; x = s.x; older = s.older; whole = ap (λ (l : List A). x ∷ l) s.whole; item = s.item; same = s.same }

pub split_at : {A B : Type 0} (f : A → B) (xs ys : List A) (y : B) (more : List B) → map f (reverse xs) ≡ map f (reverse ys) ++ y ∷ more → Split f xs y ys
split_at {A} {B} f xs ys y more e =
    split_after f xs (reverse more) y ys
    (turned (map f xs) (map f ys) y more (sym (map_reverse f xs) ∙ e ∙ ap (λ (l : List B). l ++ y ∷ more) (map_reverse f ys)))
