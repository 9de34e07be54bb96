-- The text of a block's own file.
use Rattle.std.proofs.Common.{◌≡◌, ℕ, List, [], ◌∷◌, ◌++◌, None, sym, ap, subst, ◌∙◌}
use Rattle.std.proofs.lemmas.List.{append-nil}
use Rattle.dbin_file.specs.Header.{header_text}
use Rattle.dbin_file.specs.Messages.{message_text}
use Rattle.dbin_file.specs.Contents.{container_text}
use Rattle.one_block.specs.declared.forms.Form.TheVariants.{ByReader}
use Rattle.one_block.specs.declared.singles.SingleRead.{SingleRead}
use Rattle.one_block.specs.Puts.{HoldsSlip}
use Rattle.one_block.specs.Singles.{IsSingleRead}

-- a header and one message are a container of that message
pub one_message : (block_type only head shown message kept whole : List ℕ) → head ≡ header_text block_type → shown ≡ only → message ≡ message_text shown → kept ≡ message → whole ≡ head ++ kept
    → whole ≡ container_text block_type (only ∷ [])
one_message block_type only head shown message kept whole head_is shown_is message_is kept_is whole_is =
    whole_is ∙ ap (λ (l : List ℕ). l ++ kept) head_is
    ∙ ap (λ (l : List ℕ). header_text block_type ++ l) (kept_is ∙ message_is ∙ ap message_text shown_is ∙ sym (append-nil (message_text only)))

-- a file that was read as this reader's holds the slip that was read
pub holds_slip : (by file text own : List ℕ) (read : SingleRead) → own ≡ by → IsSingleRead (ByReader own) file text None read → HoldsSlip by file text read.slip
holds_slip by file text own read e r = subst (λ (o : List ℕ). HoldsSlip o file text read.slip) e (record { block = r.block; block_type = read.block_type; slip_is = r.slip_is; single = r.single })
