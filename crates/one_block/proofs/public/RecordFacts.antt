-- Messages and the blocks whose records they are.
use Rattle.std.proofs.Common.{◌≡◌, ℕ, List, [], ◌∷◌, ◌++◌, length, reverse, refl, sym, ap, subst, ◌∙◌}
use Rattle.std.proofs.lemmas.List.{length-reverse, reverse-append, reverse-reverse}
use Rattle.block_record.specs.declared.blocks.Block.{Block}
use Rattle.one_block.specs.Containers.{IsRecordOf}
use Rattle.one_block.specs.Heads.{AreRecords, AreRecordsOf}
use Rattle.one_block.proofs.public.ContainerFacts.{one_block}

-- one more at the end
records_push : (ms : List (List ℕ)) (bs : List Block) (m : List ℕ) (b : Block) → AreRecordsOf ms bs → IsRecordOf m b → AreRecordsOf (ms ++ m ∷ []) (bs ++ b ∷ [])
records_push [] [] m b all one = (one, tt)
records_push [] (x ∷ bs) m b all one = absurd all
records_push (n ∷ ms) [] m b all one = absurd all
records_push (n ∷ ms) (x ∷ bs) m b all one = (all.0, records_push ms bs m b all.1 one)

pub records_more : (ms : List (List ℕ)) (older : List Block) (m : List ℕ) (b : Block) → AreRecords ms older → IsRecordOf m b → AreRecords (ms ++ m ∷ []) (b ∷ older)
records_more ms older m b all one = record { records = subst (AreRecordsOf (ms ++ m ∷ [])) (sym (reverse-append (b ∷ []) older)) (records_push ms (reverse older) m b all.records one) }

-- there are as many of both
length_of : (ms : List (List ℕ)) (bs : List Block) → AreRecordsOf ms bs → length ms ≡ length bs
length_of [] [] all = refl
length_of [] (b ∷ bs) all = absurd all
length_of (m ∷ ms) [] all = absurd all
length_of (m ∷ ms) (b ∷ bs) all = rw (length_of ms bs all.1) refl

pub length_records : (ms : List (List ℕ)) (blocks : List Block) → AreRecords ms blocks → length ms ≡ length blocks
length_records ms blocks all = length_of ms (reverse blocks) all.records ∙ length-reverse blocks

-- messages are the records of one list of blocks
one_list : (ms : List (List ℕ)) (xs ys : List Block) → AreRecordsOf ms xs → AreRecordsOf ms ys → xs ≡ ys
one_list [] [] [] a b = refl
one_list [] [] (y ∷ ys) a b = absurd b
one_list [] (x ∷ xs) ys a b = absurd a
one_list (m ∷ ms) [] ys a b = absurd a
one_list (m ∷ ms) (x ∷ xs) [] a b = absurd b
one_list (m ∷ ms) (x ∷ xs) (y ∷ ys) a b = ap (λ (z : Block). z ∷ xs) (one_block m x y a.0 b.0) ∙ ap (λ (zs : List Block). y ∷ zs) (one_list ms xs ys a.1 b.1)

pub same_blocks : (ms : List (List ℕ)) (xs ys : List Block) → AreRecords ms xs → AreRecords ms ys → xs ≡ ys
same_blocks ms xs ys a b = sym (reverse-reverse xs) ∙ ap reverse (one_list ms (reverse xs) (reverse ys) a.records b.records) ∙ reverse-reverse ys

-- blocks whose records begin with those of others begin with the others
pub record Begins (rs ds : List Block) (m : List ℕ) : Type 0 where
  pub block : Block
  pub rest : List Block
  pub whole : rs ≡ ds ++ block ∷ rest
  pub record_is : IsRecordOf m block

pub begins : (front : List (List ℕ)) (ds rs : List Block) (m : List ℕ) (more : List (List ℕ)) → AreRecordsOf (front ++ m ∷ more) rs → AreRecordsOf front ds → Begins rs ds m
begins [] [] [] m more ar ad = absurd ar
begins [] [] (r ∷ rs) m more ar ad = record { block = r; rest = rs; whole = refl; record_is = ar.0 }
begins [] (d ∷ ds) rs m more ar ad = absurd ad
begins (f ∷ front) [] rs m more ar ad = absurd ad
begins (f ∷ front) (d ∷ ds) [] m more ar ad = absurd ar
begins (f ∷ front) (d ∷ ds) (r ∷ rs) m more ar ad =
    let b = begins front ds rs m more ar.1 ad.1 in
    record {
      block = b.block;
      rest = b.rest;
      whole = ap (λ (x : Block). x ∷ rs) (one_block f r d ar.0 ad.0) ∙ ap (λ (l : List Block). d ∷ l) b.whole;
      record_is = b.record_is;
    }
