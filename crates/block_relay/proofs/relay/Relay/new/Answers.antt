use Rattle.std.proofs.Common.{arith, ◌≡◌, ◌∷◌, List, [], None, false, length, reverse, refl, ap, subst, sym, ◌∙◌}
use Rattle.std.specs.List.{slice_get}
use Rattle.relay_model.specs.Chronicles.{Entry, Opened, stored_of}
use Rattle.relay_model.specs.Runs.{empty_world}
use Rattle.relay_model.specs.Worlds.{World}
use Rattle.relay_model.proofs.public.Sound.{empty_sound}
use Rattle.stored_blocks.specs.Stored.{is_gone, no_forks}
use Rattle.block_relay.specs.Chronicle.{entries_by, has_kind_mark, limits_told}
use Rattle.block_relay.specs.Held.{AreGone}
use Rattle.block_relay.proofs.AdmissionFacts.{kept_as}
use Rattle.block_relay.proofs.KeptFacts.{opens}
use Rattle.block_relay.proofs.StoredFacts.{index_on}
use Rattle.block_relay.proofs.relay.Relay.new.Goals as goal

pub invariant_of-result : goal.invariant_of-result
invariant_of-result c =
    let t = c.in_ok-intake.intake in
    let limits = limits_told c.args.limits in
    let w = c.in_ok-intake.ensures.world in
    let first : t.first ≡ c.args.first = ap (λ (v : World). v.first) w in
    let history : t.forks.history ≡ [] = ap (λ (v : World). v.history) w in
    let marks = c.in_ok-marks.ensures.items in
    let entries : entries_by (Opened t.first c.args.run limits 100) None (reverse c.in_ok-marks.marks.items) t.forks.history (reverse c.new-3.result.items) ≡ Opened c.args.first c.args.run limits 100 ∷ [] =
    ap (λ ms. entries_by (Opened t.first c.args.run limits 100) None (reverse ms) t.forks.history (reverse c.new-3.result.items)) marks
    ∙ ap (λ n. Opened n c.args.run limits 100 ∷ []) first in
    let told = w ∙ ap (λ l. empty_world c.args.first 0 l) c.intake_limits.ensures in (
      kept_as _ (Opened c.args.first c.args.run limits 100 ∷ []) _ [] t None None false c.args.run 100 entries (ap reverse c.new-4.ensures.items) refl
          (opens t c.args.first c.args.run 100 limits told (empty_sound c.args.first c.args.run limits)),
      omega (arith, c.in_ok-marks.ensures.len, c.in_ok-marks.ensures.capacity, ap length history),
      λ _. ap (λ l. has_kind_mark (reverse l)) marks,
      c.in_ok-intake.ensures.waiting,
      index_on no_forks t.forks c.new-2.result c.new-2.result.room history c.in_ok-intake.ensures.held c.new-2.ensures.index,
      subst (λ (es : List Entry). AreGone (stored_of es) t.forks.held) (sym entries)
          (λ at. ap (λ l. is_gone (slice_get l at)) (sym c.in_ok-intake.ensures.held)),
      refl,
    )
