-- That taking blocks, offering them again and storing the late ones is loading.
use Rattle.std.proofs.Common.{◌≡◌, ℕ, List, [], ◌++◌, length, reverse, sym, ap, subst, ◌∙◌}
use Rattle.std.specs.List.{filter}
use Rattle.chain_model.specs.Ancestry.{IsHistory}
use Rattle.store_model.specs.Laws.{IsEmpty}
use Rattle.bundle_model.proofs.public.RetainedFacts.{any_is}
use Rattle.block_record.specs.declared.blocks.Slip.{Slip}
use Rattle.relay_model.specs.Worlds.{World}
use Rattle.bundle_model.specs.Members.{Among}
use Rattle.bundle_model.specs.Bundles.{blocks_of}
use Rattle.bundle_model.specs.Plans.{at_places}
use Rattle.bundle_model.specs.Shedding.{stored_after}
use Rattle.bundle_model.proofs.public.StoredFacts.{among_any}
use Rattle.store_model.specs.Shown.{Shown, slips}
use Rattle.store_model.specs.Loads.{counts_as_stored, round_of}
use Rattle.shelf_load.specs.Taking.{stage}
use Rattle.shelf_load.specs.Ending.{round_at}
use Rattle.shelf_load.specs.LoadLaws.{TakingIsLoading, all_taken, nothing, offered_again, stored_taken, with_stored}
use Rattle.shelf_load.proofs.LoadingFacts.{loads_as, round_grows}
use Rattle.shelf_load.proofs.MarkFacts.{AreBelow, AreMarked, Marks, all_marks, ends_marked, marked_filter}
use Rattle.store_model.proofs.public.PlacesFacts.{places_filter}

-- nothing is marked in an empty world
begins : (shown : Shown) (w : World) → IsEmpty w → Marks [] (stage (record w { size = shown.size }) nothing)
begins shown w empty = record {
  low = subst (λ (ps : List ℕ). AreBelow (length w.history) ps) (sym empty.stored) tt;
  only = λ s h. subst (λ (l : List Slip). Among (at_places w.stored l) s) empty.history h;
  each = λ s h. absurd h;
  late = λ s h. absurd h;
}

pub taking_is_loading : TakingIsLoading
taking_is_loading shown w ts sound empty is room =
    let g = all_taken shown w ts in
    let r = offered_again g in
    let h = round_of shown w in
    let newest = r.world.history in
    let late = reverse g.aside.late in
    let ss = blocks_of shown.merged ++ slips shown.forked in
    let p = counts_as_stored shown in
    let like = loads_as shown w [] 0 ts sound is.blocks is.all room in
    let same : newest ≡ h.world.history = ap (λ (v : World). v.history) like.world in
    let history : IsHistory newest = subst IsHistory (sym same) like.sound.history in
    let marks = all_marks (stage (record w { size = shown.size }) nothing) ts (begins shown w empty) in
    let grows = round_grows (round_at g.world) g.aside.put_by in
    let am : AreMarked (stored_taken ts) newest (stored_after newest g.world.stored late) = ends_marked (stored_taken ts) g newest grows.0 grows.1 marks in
    record {
      world = record {
        world = ap (with_stored (stored_after newest r.world.stored late)) like.world;
        stored =
            ap (λ (ps : List ℕ). at_places (stored_after newest ps late) newest) like.kept
            ∙ marked_filter p (stored_after newest g.world.stored late) newest history
            (λ s k. among_any ss s (is.stored s (am.only s k)))
            (λ s k t. am.each s k (is.told s (any_is ss s t)))
            ∙ ap (filter p) same ∙ sym (places_filter p h.world.history);
      };
      full = like.full;
    }
