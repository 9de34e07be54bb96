-- What a piece of a run says, and what it leaves.
use Rattle.std.proofs.Common.{◌≡◌, ℕ, Bool, true, false, cond, inl, inr, List, [], ◌++◌, length, drop, Option, None, Some, refl, sym, ◌∙◌, ap, subst, append_assoc}
use Rattle.std.proofs.Math.Seq.{drop-append_seam}
use Rattle.std.proofs.lemmas.Bool.{false≢true}
use Rattle.std.proofs.lemmas.List.{append-nil}
use Rattle.std.specs.Prelude.{Result, Ok, Err}
use Rattle.block_record.specs.declared.blocks.Kind.{Kind}
use Rattle.block_record.specs.declared.blocks.Slip.{Slip}
use Rattle.fire_lines.specs.declared.faults.LineFault.{LineFault}
use Rattle.fire_lines.specs.Reader.{AreFurther}
use Rattle.fire_lines.specs.Text.{received}
use Rattle.one_block.specs.declared.faults.StoreFault.{StoreFault}
use Rattle.replay_text.specs.Lines.{bad_line}
use Rattle.node_feed.specs.Feeding.{Brought, brought, feed_kind, with_bad_line, further}
use Rattle.node_feed.specs.Outcomes.{Outside, IsBrought, IsBadTold, KindAnswers, ReadAnswers}
use Rattle.node_feed.specs.Readers.{NodeState, IsPieceRead, PieceAnswers}

-- the slips that a piece adds
further_is : (max : ℕ) (text piece : List ℕ) (more : List Slip) → AreFurther max text piece more → further max text piece ≡ more
unfolding further
further_is max text piece more h = ap (drop (length (received max text).slips)) h ∙ drop-append_seam (received max text).slips more

-- ---- the blocks, and a bad line after them

-- the blocks ended the reader
over_bad : (name : List ℕ) (bad : Option LineFault) (b : Brought) → b.over ≡ true → with_bad_line name bad b ≡ b
over_bad name None b over = refl
over_bad name (Some f) b over = ap (λ t. cond t b (brought b.told (b.lines ++ bad_line name f) true)) over

module _ (name : List ℕ) (kind : Option Kind) (slips : List Slip) (bad : Option LineFault) (o m : Outside) where
  pub over_read : (over : Bool) → over ≡ true → KindAnswers name kind slips o m (Ok over) → ReadAnswers name kind slips bad o m (Ok true)
  over_read over is (inl h) =
      let b = feed_kind name o.told kind slips in
      inl (subst (λ (x : Brought). IsBrought x o m true) (sym (over_bad name bad b (sym h.over_is ∙ is))) (record { told = h.told; text = h.text; over_is = sym is ∙ h.over_is }))
  over_read over is (inr h) = inr (h.0, refl)

  -- the bad line was told, where there is one
  pub told_read : (over ended : Bool) (after : List ℕ) → over ≡ false → KindAnswers name kind slips o m (Ok over) → IsBadTold name bad m.text after ended
      → ReadAnswers name kind slips bad o (record m { text = after }) (Ok ended)
  told_read over ended after is (inl h) t = inl (go bad t)
    where
      b : Brought
      b = feed_kind name o.told kind slips

      unended : b.over ≡ false
      unended = sym h.over_is ∙ is

      go : (bad : Option LineFault) → IsBadTold name bad m.text after ended → IsBrought (with_bad_line name bad b) o (record m { text = after }) ended
      go None t = record { told = h.told; text = t.text ∙ append-nil m.text ∙ h.text; over_is = t.over_is ∙ sym unended }
      go (Some f) t =
          let e : with_bad_line name (Some f) b ≡ brought b.told (b.lines ++ bad_line name f) true = ap (λ x. cond x b (brought b.told (b.lines ++ bad_line name f) true)) unended in
          subst (λ (x : Brought). IsBrought x o (record m { text = after }) ended) (sym e)
          (record {
            told = h.told;
            text = t.text ∙ ap (λ l. l ++ bad_line name f) h.text ∙ append_assoc o.text b.lines (bad_line name f);
            over_is = t.over_is;
          })
  told_read over ended after is (inr h) t = absurd (false≢true (sym is ∙ h.1))

-- ---- a piece of a run

module _ (text piece : List ℕ) (r now : NodeState) (kind : Option Kind) (bad : Option LineFault) (before slips : List Slip) (o n : Outside) where
  -- what was read of it is what it says
  same_read : IsPieceRead r.lines.max text piece bad now.lines before slips → before ≡ [] → kind ≡ now.lines.kind → (a : Result Bool StoreFault) → ReadAnswers r.name kind slips bad o n a
      → ReadAnswers r.name (received r.lines.max (text ++ piece)).kind (further r.lines.max text piece) (received r.lines.max (text ++ piece)).fault o n a
  same_read p none kind_is a h =
      let k : kind ≡ (received r.lines.max (text ++ piece)).kind = kind_is ∙ ap (λ s. s.kind) p.state in
      let s : slips ≡ further r.lines.max text piece = p.blocks ∙ ap (λ l. l ++ p.more) none ∙ sym (further_is r.lines.max text piece p.more p.adds) in
      subst (λ (x : Option LineFault). ReadAnswers r.name (received r.lines.max (text ++ piece)).kind (further r.lines.max text piece) x o n a) (sym p.bad_is)
      (subst (λ (x : List Slip). ReadAnswers r.name (received r.lines.max (text ++ piece)).kind x bad o n a) s (subst (λ (x : Option Kind). ReadAnswers r.name x slips bad o n a) k h))

  pub piece_answered : IsPieceRead r.lines.max text piece bad now.lines before slips → before ≡ [] → kind ≡ now.lines.kind → (a : Result Bool StoreFault) → ReadAnswers r.name kind slips bad o n a
      → PieceAnswers text piece r now o n a
  piece_answered p none kind_is a h = go a (same_read p none kind_is a h)
    where
      go : (a : Result Bool StoreFault) → ReadAnswers r.name (received r.lines.max (text ++ piece)).kind (further r.lines.max text piece) (received r.lines.max (text ++ piece)).fault o n a
          → PieceAnswers text piece r now o n a
      go (Ok over) x = record { lines_are = p.state; outcome = x }
      go (Err f) x = x
