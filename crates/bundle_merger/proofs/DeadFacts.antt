-- The files of blocks off the final path, one after another.
use Rattle.std.proofs.Common.{◌≡◌, ◌≤◌, ◌<◌, ◌+◌, ℕ, List, [], ◌∷◌, ◌++◌, length, take, drop, get_or, Option, refl, sym, ◌∙◌, ap, subst}
use Rattle.std.specs.Arc.{arc_value}
use Rattle.std.specs.declared.sync.Arc.{Arc}
use Rattle.std.proofs.lemmas.List.{map-append, map_push, take-append-drop}
use Rattle.block_record.specs.declared.blocks.Block.{Block}
use Rattle.block_record.specs.declared.blocks.Kind.{Kind}
use Rattle.outer_world.specs.Files.{Files}
use Rattle.one_block.specs.Files.{forked_text}
use Rattle.one_block.specs.declared.faults.StoreFault.{StoreFault}
use Rattle.bundle_merger.specs.Containers.{blocks_of, bundle_text}
use Rattle.bundle_merger.specs.Writes.{IsStopped, Refuses, Writes, dead_file, dead_files, one_file, told_with_all}
use Rattle.bundle_merger.proofs.WriteFacts.{stopped_first, stopped_front, stopped_rest, told_on}
use Rattle.bundle_merger.proofs.MessageFacts.{shared_more}

-- a block was shared alone, and its name was made
pub record IsOne {Z : Type 0} (xs : List (Arc Block Z)) (i : ℕ) (name : List ℕ) (alone : List (Arc Block Z)) : Type 0 where
  pub x : Arc Block Z
  pub within : i < length xs
  pub item : x ≡ get_or xs i x
  pub alone_is : alone ≡ x ∷ []
  pub named : name ≡ forked_text (arc_value x).num (arc_value x).id

dead_push : (kind : Kind) (bs : List Block) (b : Block) → dead_files kind (bs ++ b ∷ []) ≡ dead_files kind bs ++ dead_file kind b ∷ []
dead_push kind bs b = map_push (dead_file kind) bs b

-- the files of the first so many, and of one more
pub dead_more : {Z : Type 0} (kind : Kind) (xs : List (Arc Block Z)) (i : ℕ) (name : List ℕ) (alone : List (Arc Block Z)) → IsOne xs i name alone
    → dead_files kind (blocks_of (take i xs)) ++ one_file name (bundle_text kind (blocks_of alone)) ≡ dead_files kind (blocks_of (take (i + 1) xs))
dead_more kind xs i name alone one =
    ap (λ n. dead_files kind (blocks_of (take i xs)) ++ one_file n (bundle_text kind (blocks_of alone))) one.named
    ∙ ap (λ a. dead_files kind (blocks_of (take i xs)) ++ one_file (forked_text (arc_value one.x).num (arc_value one.x).id) (bundle_text kind (blocks_of a))) one.alone_is
    ∙ sym (ap (dead_files kind) (shared_more xs i one.x (arc_value one.x) one.within one.item refl) ∙ dead_push kind (blocks_of (take i xs)) (arc_value one.x))

shared-append : {Z : Type 0} (kind : Kind) (xs ys : List (Arc Block Z)) → dead_files kind (blocks_of (xs ++ ys)) ≡ dead_files kind (blocks_of xs) ++ dead_files kind (blocks_of ys)
shared-append kind xs ys = ap (dead_files kind) (map-append arc_value xs ys) ∙ map-append (dead_file kind) (blocks_of xs) (blocks_of ys)

-- the files of all, cut at a place
dead_split : {Z : Type 0} (kind : Kind) (xs : List (Arc Block Z)) (n : ℕ) → dead_files kind (blocks_of (take n xs)) ++ dead_files kind (blocks_of (drop n xs)) ≡ dead_files kind (blocks_of xs)
dead_split kind xs n = sym (shared-append kind (take n xs) (drop n xs)) ∙ ap (λ l. dead_files kind (blocks_of l)) (take-append-drop n xs)

-- the next file was written
pub dead_written : {Z : Type 0} (kind : Kind) (xs : List (Arc Block Z)) (i : ℕ) (name : List ℕ) (alone : List (Arc Block Z)) (old mid new : Option Files) → IsOne xs i name alone
    → mid ≡ told_with_all (dead_files kind (blocks_of (take i xs))) old → new ≡ told_with_all (one_file name (bundle_text kind (blocks_of alone))) mid
    → new ≡ told_with_all (dead_files kind (blocks_of (take (i + 1) xs))) old
dead_written kind xs i name alone old mid new one before put =
    told_on (dead_files kind (blocks_of (take i xs))) (one_file name (bundle_text kind (blocks_of alone))) old mid new before put
    ∙ ap (λ (w : Writes). told_with_all w old) (dead_more kind xs i name alone one)

-- or it was refused
pub dead_stopped : {Z : Type 0} (kind : Kind) (xs : List (Arc Block Z)) (i : ℕ) (name : List ℕ) (alone : List (Arc Block Z)) (old mid new : Option Files) (before between now : ℕ) (fault : StoreFault) → IsOne xs i name alone
    → mid ≡ told_with_all (dead_files kind (blocks_of (take i xs))) old → before ≤ between → IsStopped (one_file name (bundle_text kind (blocks_of alone))) mid new between now fault
    → IsStopped (dead_files kind (blocks_of xs)) old new before now fault
dead_stopped kind xs i name alone old mid new before between now fault one so_far le s =
    let first : Writes = dead_files kind (blocks_of (take i xs)) in
    let this : Writes = one_file name (bundle_text kind (blocks_of alone)) in
    let here : IsStopped (first ++ this) old new before now fault = stopped_rest first this old mid new before between now fault so_far le s in
    let there : IsStopped (dead_files kind (blocks_of (take (i + 1) xs))) old new before now fault = subst (λ (w : Writes). IsStopped w old new before now fault) (dead_more kind xs i name alone one) here in
    subst (λ (w : Writes). IsStopped w old new before now fault) (dead_split kind xs (i + 1)) (stopped_front (dead_files kind (blocks_of (take (i + 1) xs))) (dead_files kind (blocks_of (drop (i + 1) xs))) old new before now fault there)

-- or there was no memory for its name
pub dead_unnamed : {Z : Type 0} (kind : Kind) (xs : List (Arc Block Z)) (i : ℕ) (old mid : Option Files) (before between : ℕ) (fault : StoreFault)
    → mid ≡ told_with_all (dead_files kind (blocks_of (take i xs))) old → before ≤ between → Refuses fault between between → IsStopped (dead_files kind (blocks_of xs)) old mid before between fault
dead_unnamed kind xs i old mid before between fault so_far le r =
    let first : Writes = dead_files kind (blocks_of (take i xs)) in
    let rest : Writes = dead_files kind (blocks_of (drop i xs)) in
    subst (λ (w : Writes). IsStopped w old mid before between fault) (dead_split kind xs i)
    (stopped_rest first rest old mid mid before between between fault so_far le (stopped_first rest mid mid between between fault refl r))
