-- Where the parent of a block stands.
use Rattle.std.proofs.Common.{arith, ◌≡◌, ◌<◌, ◌==◌, ℕ, Bool, true, false, cond, List, [], ◌∷◌, length, Option, Some, None, refl, sym, subst, IsSomeAnd}
use Rattle.std.proofs.lemmas.Option.{same_Some}
use Rattle.block_record.specs.Ids.{same_id, same_id_refl}
use Rattle.block_record.specs.declared.blocks.Slip.{Slip}
use Rattle.chain_model.specs.Ancestry.{find_id, IsHistory}
use Rattle.chain_laws.proofs.public.Lines.{IsHistory-rest, some_and, other_id, has_id-find_id, find_id_at}
use Rattle.link_rows.specs.Tree.{IsNext}
use Rattle.block_tree.specs.Places.{place_of, slip_at, parent_places}
use Rattle.block_tree.proofs.public.PlaceFacts.{length_places}

more_room : (o : Option ℕ) (n m : ℕ) → n < m → IsSomeAnd o (λ p. p < n) → IsSomeAnd o (λ p. p < m)
more_room None n m lt h = absurd h
more_room (Some p) n m lt h = omega arith

-- the parent's place may come next
found_place : (newest : List Slip) (id : List ℕ) (q : Slip) → find_id newest id ≡ Some q → IsSomeAnd (place_of newest id) (λ p. p < length newest)
found_place [] id q e = absurd (grind arith)
found_place (s ∷ older) id q e =
    let P : Bool → Type 0 = λ b. cond b (Some s) (find_id older id) ≡ Some q → IsSomeAnd (cond b (Some (length older)) (place_of older id)) (λ p. p < length (s ∷ older)) in
    (elim (same_id s.id id) as P [
      | true ↦ λ f. (let g : length older < length (s ∷ older) = omega arith in g)
      | false ↦ λ f. more_room (place_of older id) (length older) (length (s ∷ older)) (omega arith) (found_place older id q f)
    ]) e

pub next_fits : (s : Slip) (newest : List Slip) → IsHistory (s ∷ newest) → IsNext (parent_places newest) (place_of newest s.parent_id)
next_fits s [] h = refl
next_fits s (t ∷ older) h =
    let parent = some_and (find_id (t ∷ older) s.parent_id) (λ q. q.num ≡ s.parent_num) h.0.parent in
    subst (λ n. IsSomeAnd (place_of (t ∷ older) s.parent_id) (λ p. p < n)) (sym (length_places (t ∷ older))) (found_place (t ∷ older) s.parent_id parent.0 parent.1)

pub found_at : (newest : List Slip) (at : ℕ) (s : Slip) → IsHistory newest → slip_at newest at ≡ Some s → find_id newest s.id ≡ Some s
found_at [] at s h e = absurd (grind arith)
found_at (t ∷ older) at s h e =
    let P : Bool → Type 0 = λ b. cond b (Some t) (slip_at older at) ≡ Some s → find_id (t ∷ older) s.id ≡ Some s in
    (elim (at == length older) as P [
      | true ↦ λ f. subst (λ (x : Slip). find_id (t ∷ older) x.id ≡ Some x) (same_Some t s f) (find_id_at t older t.id (same_id_refl t.id))
      | false ↦ λ f.
          let rest = found_at older at s (IsHistory-rest t older h) f in
          rw (other_id t older h s.id (has_id-find_id older s.id s rest)) rest
    ]) e
