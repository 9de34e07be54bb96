-- What nodes that say their kind leave, and the blocks after that.
use Rattle.std.proofs.Common.{◌≡◌, ℕ, true, false, List, ◌++◌, Option, None, Some, refl, sym, ◌∙◌, ap, subst}
use Rattle.std.specs.Option.{option_map}
use Rattle.block_record.specs.declared.blocks.Kind.{Kind}
use Rattle.block_reader.specs.Kept.{KeepsTold}
use Rattle.block_relay.specs.Chronicle.{Told, world_told, greeted, may_greet}
use Rattle.block_relay.specs.declared.answers.KindFault.TheVariants.{KindClash}
use Rattle.outer_world.specs.Files.{Files}
use Rattle.relay_model.specs.Chronicles.{Entry, history_of, waiting_of, stored_of}
use Rattle.relay_model.specs.Worlds.{World}
use Rattle.replay_text.specs.Lines.{kind_fault_line}
use Rattle.store_files.specs.Kept.{IsWholeKept}
use Rattle.node_feed.specs.Feeding.{told_greeted, greets, kind_clash_line, clash_line}
use Rattle.node_feed.specs.Outcomes.{IsGreeted}

-- ---- what the files keep

kept_parts : (files : Files) (w v : World) → IsWholeKept files w → IsWholeKept files (record v { history = w.history; waiting = w.waiting; stored = w.stored })
kept_parts files w v k = record {
  formed = k.formed;
  keeping = record {
    keeps = record {
      bundles = k.keeping.keeps.bundles;
      history = k.keeping.keeps.history;
      waiting = k.keeping.keeps.waiting;
      forked = k.keeping.keeps.forked;
    };
    stored = k.keeping.stored;
  };
}

kept_alike : (files : Files) (w v : World) → v.history ≡ w.history → v.waiting ≡ w.waiting → v.stored ≡ w.stored → IsWholeKept files w → IsWholeKept files v
kept_alike files w v history waiting stored k =
    let whole : record v { history = w.history; waiting = w.waiting; stored = w.stored } ≡ v = λ i. record v { history = sym history i; waiting = sym waiting i; stored = sym stored i } in
    subst (IsWholeKept files) whole (kept_parts files w v k)

told_alike : (files : Option Files) (w v : World) → v.history ≡ w.history → v.waiting ≡ w.waiting → v.stored ≡ w.stored → KeepsTold files w → KeepsTold files v
told_alike None w v history waiting stored k = k
told_alike (Some files) w v history waiting stored k = kept_alike files w v history waiting stored k

greeted_alike : {A : Type 0} (f : List Entry → A) (kind : Option Kind) (k : Kind) (es : List Entry) → ((k : Kind) → f (greeted None k es) ≡ f es) → f (greeted kind k es) ≡ f es
greeted_alike f None k es h = h k
greeted_alike f (Some held) k es h = refl

-- a kind that is told takes nothing from what the files keep
pub greeted_kept : (k : Kind) (was is : Told) → is.entries ≡ greeted (world_told was).kind k was.entries → (files : Option Files) → KeepsTold files (world_told was) → KeepsTold files (world_told is)
greeted_kept k was is e files kept =
    told_alike files (world_told was) (world_told is)
    (ap history_of e ∙ greeted_alike history_of (world_told was).kind k was.entries (λ _. refl))
    (ap waiting_of e ∙ greeted_alike waiting_of (world_told was).kind k was.entries (λ _. refl))
    (ap stored_of e ∙ greeted_alike stored_of (world_told was).kind k was.entries (λ _. refl)) kept

pub same_kept : (was is : Told) → is.entries ≡ was.entries → (files : Option Files) → KeepsTold files (world_told was) → KeepsTold files (world_told is)
same_kept was is e files kept = told_alike files (world_told was) (world_told is) (ap history_of e) (ap waiting_of e) (ap stored_of e) kept

-- ---- the answer to a kind

pub greeted_well : (name : List ℕ) (k : Kind) (was is : Told) (text : List ℕ) → may_greet (world_told was).kind k ≡ true → is.entries ≡ greeted (world_told was).kind k was.entries → is.conflicts ≡ was.conflicts
    → IsGreeted name k was is text text false
unfolding told_greeted greets
greeted_well name k was is text may entries conflicts = record {
  may = may;
  told = λ i. record { entries = entries i; conflicts = conflicts i };
  text = refl;
}

-- the line of two types is that of the kept kind and the other
clash_by : (name : List ℕ) (kind : Option Kind) (k : Kind) (held offered : List ℕ) → option_map (λ x. x.block_type) kind ≡ Some held → k.block_type ≡ offered
    → kind_fault_line name (KindClash held offered) ≡ kind_clash_line name kind k
clash_by name None k held offered h o = absurd (cc h)
clash_by name (Some x) k held offered h o =
    let e : x.block_type ≡ held = cc h in
    sym (ap (λ t. kind_fault_line name (KindClash t k.block_type)) e ∙ ap (λ t. kind_fault_line name (KindClash held t)) o)

pub greeted_badly : (name shown : List ℕ) (k : Kind) (was is : Told) (before after : List ℕ) (held offered : List ℕ) → may_greet (world_told was).kind k ≡ false → option_map (λ x. x.block_type) (world_told was).kind ≡ Some held
    → k.block_type ≡ offered → is.entries ≡ was.entries → is.conflicts ≡ was.conflicts → shown ≡ name → after ≡ before ++ kind_fault_line shown (KindClash held offered) → IsGreeted name k was is before after true
unfolding clash_line greets
greeted_badly name shown k was is before after held offered may h o entries conflicts named text = record {
  may = may;
  told = λ i. record { entries = entries i; conflicts = conflicts i };
  text = text ∙ ap (λ l. before ++ kind_fault_line l (KindClash held offered)) named ∙ ap (λ l. before ++ l) (clash_by name (world_told was).kind k held offered h o);
}
