use Rattle.std.proofs.Common.{inl, inr, refl, ◌+◌, length, ap, sym, ◌∙◌, List, ℕ}
use Rattle.std.proofs.lemmas.Bool.{false≢true}
use Rattle.dbin_file.specs.Contents.{told}
use Rattle.one_block.specs.Forms.{own_name}
use Rattle.one_block.proofs.singles.only_block.Goals as goal

pub returns-then-not-branch : goal.returns-then-not-branch
returns-then-not-branch c = inr (inl (record {
  block = c.in_ok-block.block;
  record_is = rw c.as_bytes.ensures at c.in_ok-block.ensures;
  other = λ own. false≢true (sym c.if-not-branch.true ∙ c.in_ok-fits.ensures.1 (own ∙ ap (λ s. own_name c.args.form.now s) (sym c.in_ok-slip.ensures)));
  place = refl;
}))

pub returns-then-goes_on : goal.returns-then-goes_on
returns-then-goes_on c = inr (inr (record {
  block = c.in_ok-block.block;
  record_is = rw c.as_bytes.ensures at c.in_ok-block.ensures;
  named = c.in_ok-fits.ensures.0 c.if-not-branch.false ∙ ap (λ s. own_name c.args.form.now s) c.in_ok-slip.ensures;
  follows = c.if-goes_on.true;
  at_is = c.saturating_add.ensures ∙ ap (λ (l : List ℕ). told (c.args.place + length l)) c.as_bytes-then-goes_on.ensures;
}))

pub returns : goal.returns
returns c = record {
  record_is = rw c.as_bytes.ensures at c.in_ok-block.ensures;
  named = c.in_ok-fits.ensures.0 c.if-not-branch.false ∙ ap (λ s. own_name c.args.form.now s) c.in_ok-slip.ensures;
  ends = c.if-goes_on.false;
}
