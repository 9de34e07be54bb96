-- How what is told of a relay grows by an offer, and by nodes that say their kind.
use Rattle.std.proofs.Common.{◌≡◌, Bool, true, false, inl, inr, ◌⊎◌, [], ◌∷◌, ◌++◌, List, Option, None, Some, IfSome, refl, sym, ◌∙◌, ap, subst, append_assoc}
use Rattle.std.specs.Prelude.{Result}
use Rattle.block_record.specs.declared.blocks.Kind.{Kind}
use Rattle.block_record.specs.declared.blocks.Slip.{Slip}
use Rattle.block_intake.specs.Answers.{is_mem}
use Rattle.block_intake.specs.declared.answers.Offered.{Offered}
use Rattle.block_intake.specs.declared.answers.OfferFault.{OfferFault}
use Rattle.block_reader.specs.Takes.{IsOffered}
use Rattle.block_relay.specs.Chronicle.{Told, world_told, greeted}
use Rattle.relay_model.specs.Chronicles.{Kind as KindEntry, added, first_of, run_of, limits_of, size_of, kind_of, closed_of}
use Rattle.relay_model.specs.Offers.{judge, kind_after, world_by}
use Rattle.relay_model.specs.Verdicts.{Verdict}
use Rattle.relay_model.specs.Verdicts as verdict
use Rattle.relay_model.specs.Worlds.{World}
use Rattle.node_feed.specs.Feeding.{told_after}
use Rattle.node_feed.specs.Growing.{KeepsRules, IsGrown}

-- what is there is there
some_self : (kind : Option Kind) → IfSome kind (λ k. kind ≡ Some k)
some_self None = tt
some_self (Some k) = refl

-- a kept kind stays one after another
some_then : (a b c : Option Kind) → IfSome a (λ k. b ≡ Some k) → IfSome b (λ k. c ≡ Some k) → IfSome a (λ k. c ≡ Some k)
some_then None b c h i = tt
some_then (Some k) b c h i =
    let P : Option Kind → Type 0 = λ x. IfSome x (λ k. c ≡ Some k) in
    subst P h i

kept_kind : (kind : Option Kind) (newest : List Slip) → IfSome kind (λ k. kind_after kind newest ≡ Some k)
kept_kind None newest = tt
kept_kind (Some k) newest = refl

same_rules : (w : World) → KeepsRules w w
same_rules w = record {
  first_is = refl;
  run_is = refl;
  limits_are = refl;
  size_is = refl;
  closed_is = refl;
  kind_is = some_self w.kind;
}

rules_then : (a b c : World) → KeepsRules a b → KeepsRules b c → KeepsRules a c
rules_then a b c h i = record {
  first_is = i.first_is ∙ h.first_is;
  run_is = i.run_is ∙ h.run_is;
  limits_are = i.limits_are ∙ h.limits_are;
  size_is = i.size_is ∙ h.size_is;
  closed_is = i.closed_is ∙ h.closed_is;
  kind_is = some_then a.kind b.kind c.kind h.kind_is i.kind_is;
}

rules_by : (w : World) (s : Slip) (v : Verdict) → KeepsRules w (world_by w s v)
rules_by w s verdict.Closed = same_rules w
rules_by w s verdict.Duplicate = same_rules w
rules_by w s (verdict.Conflict c) = record { first_is = refl; run_is = refl; limits_are = refl; size_is = refl; closed_is = refl; kind_is = some_self w.kind }
rules_by w s verdict.Early = same_rules w
rules_by w s verdict.Stale = same_rules w
rules_by w s verdict.WaitFull = same_rules w
rules_by w s verdict.Waiting = record { first_is = refl; run_is = refl; limits_are = refl; size_is = refl; closed_is = refl; kind_is = some_self w.kind }
rules_by w s (verdict.HistoryFull need) = same_rules w
rules_by w s verdict.Admitted = record { first_is = refl; run_is = refl; limits_are = refl; size_is = refl; closed_is = refl; kind_is = kept_kind w.kind w.history }

pub grown_same : (t : Told) → IsGrown t t
grown_same t = record { more = []; entries_are = refl; rules = same_rules (world_told t) }

pub grown_then : (a b c : Told) → IsGrown a b → IsGrown b c → IsGrown a c
grown_then a b c h i = record {
  more = i.more ++ h.more;
  entries_are = i.entries_are ∙ ap (λ es. i.more ++ es) h.entries_are ∙ sym (append_assoc i.more h.more a.entries);
  rules = rules_then (world_told a) (world_told b) (world_told c) h.rules i.rules;
}

-- an offer that was answered makes it grow
pub offer_grown : (was is : Told) (s : Slip) (a : Result Offered OfferFault) → IsOffered was is s a → IsGrown was is
offer_grown was is s a o = go (is_mem a) refl
  where
    go : (b : Bool) → is_mem a ≡ b → IsGrown was is
    go true e = subst (IsGrown was) (sym (o.unchanged e)) (grown_same was)
    go false e = record {
      more = added (world_told was) s;
      entries_are = o.entries e;
      rules = subst (KeepsRules (world_told was)) (sym (o.world e)) (rules_by (world_told was) s (judge (world_told was) s));
    }

-- what is told after an offer that was answered
pub offer_told : (was is : Told) (s : Slip) (a : Result Offered OfferFault) → IsOffered was is s a → is_mem a ≡ false → is ≡ told_after was s
unfolding told_after
offer_told was is s a o e = λ i. record { entries = o.entries e i; conflicts = (o.world e i).conflicts }

pub offer_or : (was is : Told) (s : Slip) (a : Result Offered OfferFault) → IsOffered was is s a → (is ≡ was) ⊎ (is ≡ told_after was s)
offer_or was is s a o = go (is_mem a) refl
  where
    go : (b : Bool) → is_mem a ≡ b → (is ≡ was) ⊎ (is ≡ told_after was s)
    go true e = inl (o.unchanged e)
    go false e = inr (offer_told was is s a o e)

-- nodes that say their kind make it grow
greeted_by : (kind : Option Kind) (k : Kind) (t is : Told) → (world_told t).kind ≡ kind → is.entries ≡ greeted kind k t.entries → IsGrown t is
greeted_by None k t is e h = record {
  more = KindEntry k ∷ [];
  entries_are = h;
  rules = record {
    first_is = ap first_of h;
    run_is = ap run_of h;
    limits_are = ap limits_of h;
    size_is = ap size_of h;
    closed_is = ap closed_of h;
    kind_is =
        let P : Option Kind → Type 0 = λ x. IfSome x (λ j. kind_of is.entries ≡ Some j) in
        subst P (sym e) tt;
  };
}
greeted_by (Some held) k t is e h = record {
  more = [];
  entries_are = h;
  rules = record {
    first_is = ap first_of h;
    run_is = ap run_of h;
    limits_are = ap limits_of h;
    size_is = ap size_of h;
    closed_is = ap closed_of h;
    kind_is =
        let P : Option Kind → Type 0 = λ x. IfSome x (λ j. kind_of is.entries ≡ Some j) in
        subst P (sym e) (ap kind_of h ∙ e);
  };
}

pub greeted_grown : (k : Kind) (t is : Told) → is.entries ≡ greeted (world_told t).kind k t.entries → IsGrown t is
greeted_grown k t is h = greeted_by (world_told t).kind k t is refl h
