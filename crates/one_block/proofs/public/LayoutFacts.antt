-- The text of the layout of a size is read as the size, and no other text is.
use Rattle.std.proofs.Common.{◌≡◌, ℕ, inl, inr, Bool, true, false, cond, List, refl, sym, ap, ◌∙◌, Result, Ok, Err}
use Rattle.std.specs.Str.{bytes_eq}
use Rattle.std.proofs.lemmas.Slice.Eq.{bytes_eq-Decides}
use Rattle.one_block.specs.Files.{IsSize}
use Rattle.one_block.specs.Layout.{layout_text, size_told, bad_place}
use Rattle.one_block.specs.Laws.{LayoutsAreRead}

pub layout_again : (size : ℕ) → IsSize size → size_told (layout_text size) ≡ Ok size
layout_again size (inl hundred) = rw hundred refl
layout_again size (inr thousand) = rw thousand refl

pub layout_spelled : (size : ℕ) (text : List ℕ) → size_told text ≡ Ok size → IsSize size × (text ≡ layout_text size)
layout_spelled size text e = by_first (bytes_eq text (layout_text 100)) refl e
  where
    by_second : (t : Bool) → bytes_eq text (layout_text 1000) ≡ t → (let told : Result ℕ ℕ = cond t (Ok 1000) (Err (bad_place text)) in told) ≡ Ok size → IsSize size × (text ≡ layout_text size)
    by_second false is e = absurd (cc e)
    by_second true is e =
        let size_is : 1000 ≡ size = cc e in
        (inr (sym size_is), (bytes_eq-Decides _ _).0 is ∙ ap layout_text size_is)

    by_first : (t : Bool) → bytes_eq text (layout_text 100) ≡ t → (let told : Result ℕ ℕ = cond t (Ok 100) (cond (bytes_eq text (layout_text 1000)) (Ok 1000) (Err (bad_place text))) in told) ≡ Ok size → IsSize size × (text ≡ layout_text size)
    by_first true is e =
        let size_is : 100 ≡ size = cc e in
        (inl (sym size_is), (bytes_eq-Decides _ _).0 is ∙ ap layout_text size_is)
    by_first false is e = by_second (bytes_eq text (layout_text 1000)) refl e

pub layouts_are_read : LayoutsAreRead
layouts_are_read = record { again = layout_again; spelled = layout_spelled }
