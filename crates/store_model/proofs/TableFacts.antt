-- The table, by computing.
use Rattle.std.proofs.Common.{arith, ◌≡◌, true, inl, inr, List, [], ◌∷◌, refl, sym, ◌∙◌, subst}
use Rattle.block_record.specs.declared.blocks.Slip.{Slip}
use Rattle.block_record.specs.Ids.{same_id, same_id_refl}
use Rattle.chain_model.specs.Ancestry.{has_id}
use Rattle.relay_model.proofs.public.Admits.{admits_root}
use Rattle.bundle_model.specs.Members.{Among}
use Rattle.store_model.specs.Loads.{taken}
use Rattle.store_model.specs.Clean.{root, ClaimsAgreeFrom}
use Rattle.store_model.specs.Laws.{IsReloadable}
use Rattle.store_model.specs.Tables.{a1, alone, lone, ShelfTable}

only : (s : Slip) → Among (a1 ∷ []) s → s ≡ a1
only s (inl e) = sym e
only s (inr h) = absurd h

has_first : (t : Slip) (rest : List Slip) → has_id (t ∷ rest) t.id ≡ true
has_first t rest = rw (same_id_refl t.id) refl

lone_agrees : ClaimsAgreeFrom (taken alone) (root lone.history)
lone_agrees [] history all e = λ a b x y fa. absurd (grind (arith, fa))
lone_agrees (s ∷ []) history all e = (admits_root s).agreed
lone_agrees (s ∷ t ∷ older) history all e =
    absurd (history.0.fresh (subst (λ (x : Slip). has_id (t ∷ older) x.id ≡ true) (only t all.1.0 ∙ sym (only s all.0)) (has_first t older)))

lone_reloads : IsReloadable alone lone
unfolding same_id
lone_reloads = record {
  size = omega arith;
  sound = record {
    history = tt;
    agreed = (admits_root a1).agreed;
    kind = λ none. absurd (grind (arith, none));
    stored = tt;
    distinct = tt;
    apart = tt;
    orphans = tt;
    above = tt;
    rises = tt;
  };
  blocks = (refl, tt);
  kept = record { bundles = ([], refl); history = (inr (inl (inl refl)), tt); waiting = tt; forked = tt };
  clean = record { one_each = (tt, tt); parents = (inl refl, tt); agreed = lone_agrees; starts = refl };
}

pub shelf_by_table : ShelfTable
unfolding same_id
shelf_by_table = record {
  stopped_taken = refl;
  stopped_history = refl;
  stopped_stored = refl;
  stopped_refused = refl;
  forked_history = refl;
  forked_stored = refl;
  early_history = refl;
  early_root = refl;
  stray_history = refl;
  stray_waiting = refl;
  stray_root = refl;
  reloadable = lone_reloads;
}
