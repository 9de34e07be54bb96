-- What a piece of a reader's node makes of a plant.
use Rattle.std.proofs.Common.{◌≡◌, ◌++◌, ℕ, Bool, true, false, List, [], ◌∷◌, Option, None, Some, IfSome, IfErr, OnOk, Result, Ok, Err, get_or, inl, inr, ◌⊎◌, refl, sym, ◌∙◌, ap, subst}
use Rattle.std.specs.List.{AllByRecursion}
use Rattle.std.proofs.Math.ListN.{set}
use Rattle.block_record.specs.declared.blocks.Kind.{Kind}
use Rattle.block_record.specs.Texts.{IsReaderName}
use Rattle.block_reader.specs.Changes.{shelved}
use Rattle.block_reader.specs.Kept.{AreOwn}
use Rattle.block_relay.specs.Chronicle.{Told, world_told}
use Rattle.fire_lines.specs.Reader.{state_after}
use Rattle.node_feed.specs.Growing.{IsGrown}
use Rattle.node_feed.specs.Outcomes.{outside}
use Rattle.node_feed.specs.Readers.{IsFed, IsStoppedFeed, NodeState, OverAnswers, end_lines, ended, state_ended}
use Rattle.one_block.specs.declared.faults.StoreFault.{StoreFault}
use Rattle.outer_world.specs.Files.{Files}
use Rattle.own_laws.specs.Away.{AreBy, TakesAway}
use Rattle.own_laws.proofs.public.AwayFacts.{own_stay_by}
use Rattle.relay_session.specs.Growing.{HasGrown}
use Rattle.relay_session.proofs.public.Growing.{grown_by}
use Rattle.script_clients.specs.Laws.{ServedStay}
use Rattle.plant_core.specs.declared.readers.Reader.{Reader}
use Rattle.plant_core.specs.Events.{HasFed, IsFedCutOff, TookPiece, WasOver, after_end, outside_of}
use Rattle.plant_core.specs.Moments.{AllOwn, AreApart, IsReader, IsSteady, Moment, PlantState, StandsAt, is_named, moment, reader_of, with_reader}
use Rattle.plant_core.proofs.ReaderFacts.{apart_set, at_place, each_at, each_set, get_same, named_found, own_set, same_name}

-- ---- the readers

-- of two readers of one name the later stands
pub with_twice : (now one : Reader) (readers : List Reader) → now.node.name ≡ one.node.name → with_reader now (with_reader one readers) ≡ with_reader now readers
with_twice now one readers same = go readers
  where
    here : is_named now.node.name one ≡ true
    here = subst (λ (n : List ℕ). is_named n one ≡ true) (sym same) (same_name one.node.name)

    go : (rs : List Reader) → with_reader now (with_reader one rs) ≡ with_reader now rs
    go [] = rw here refl
    go (r ∷ rs) = by (is_named one.node.name r) refl (go rs)
      where
        by : (b : Bool) → is_named one.node.name r ≡ b → with_reader now (with_reader one rs) ≡ with_reader now rs → with_reader now (with_reader one (r ∷ rs)) ≡ with_reader now (r ∷ rs)
        by true e rest =
            let also : is_named now.node.name r ≡ true = subst (λ (n : List ℕ). is_named n r ≡ true) (sym same) e in
            rw (e, here, also) refl
        by false e rest =
            let also : is_named now.node.name r ≡ false = subst (λ (n : List ℕ). is_named n r ≡ false) (sym same) e in
            rw (e, also) (ap (λ (l : List Reader). r ∷ l) rest)

none_own : (files : Option Files) → AreOwn files []
none_own None = tt
none_own (Some files) = tt

-- a reader who is new has no own files
pub own_enrolled : (max : ℕ) (name : List ℕ) (files : Option Files) (readers : List Reader) → AllOwn files readers → AllOwn files (with_reader (reader_of max name readers) readers)
own_enrolled max name files [] all = (none_own files, tt)
own_enrolled max name files (r ∷ readers) all = by (is_named name r) refl (own_enrolled max name files readers all.1)
  where
    by : (b : Bool) → is_named name r ≡ b → AllOwn files (with_reader (reader_of max name readers) readers) → AllOwn files (with_reader (reader_of max name (r ∷ readers)) (r ∷ readers))
    by true e rest = rw e (rw (same_name r.node.name) all)
    by false e rest =
        let apart : is_named (reader_of max name readers).node.name r ≡ false = subst (λ (n : List ℕ). is_named n r ≡ false) (sym (named_found max name readers)) e in
        let found : reader_of max name (r ∷ readers) ≡ reader_of max name readers = rw e refl in
        subst (λ (x : Reader). AllOwn files (with_reader x (r ∷ readers))) (sym found) (rw apart (all.0, rest))

-- what holds at each answer
pub on_ok : {T E : Type 0} {A : Type 0} (result : Result T E) → A → OnOk result A
on_ok (Ok v) holds = holds
on_ok (Err e) holds = tt

-- ---- a piece

-- a reader was enrolled
pub record IsEnrolled (p : PlantState) (name : List ℕ) (readers : List Reader) (place : ℕ) (one : Reader) : Type 0 where
  pub steady : IsSteady p
  pub there : StandsAt readers place (reader_of p.limits.line name p.readers)
  pub readers_are : readers ≡ with_reader (reader_of p.limits.line name p.readers) p.readers
  pub each : AllByRecursion IsReader readers
  pub apart : AreApart readers
  pub one_is : one ≡ get_or readers place one

-- and was fed
pub record WasFed (piece : List ℕ) (told told' : Told) (files after : Option Files) (a b : ℕ) (before text : List ℕ) (one now : Reader) (result : Result Unit StoreFault) : Type 0 where
  pub over : one.node.over ≡ true → OverAnswers one.node.name (outside told files one.own a before) (outside told' after now.own b text) result
  pub stays : one.node.over ≡ true → now.node ≡ one.node
  pub fed : one.node.over ≡ false → (read : List ℕ) → one.node.lines ≡ state_after one.node.lines.max read
      → OnOk result (IsFed read piece one.node now.node (outside told files one.own a before) (outside told' after now.own b text))
  pub front : one.node.over ≡ false → (read : List ℕ) → one.node.lines ≡ state_after one.node.lines.max read
      → IfErr result (IsStoppedFeed read piece one.node (outside told files one.own a before) (outside told' after now.own b text))
  pub named : now.node.name ≡ one.node.name
  pub limit : now.node.lines.max ≡ one.node.lines.max
  pub grows : IsGrown told told'
  pub own : AreOwn after now.own
  pub away : TakesAway one.node.name (shelved files one.own) (shelved after now.own)

-- the plant after it
abbrev pub plant_fed : PlantState → Told → List Reader → PlantState
plant_fed p told readers = record p { told = told; readers = readers }

-- the reader that was enrolled is the one of the name
the_one : (p : PlantState) (name : List ℕ) (readers : List Reader) (place : ℕ) (one : Reader) → IsEnrolled p name readers place one
    → reader_of p.limits.line name p.readers ≡ one
the_one p name readers place one e =
    let r : Reader = reader_of p.limits.line name p.readers in
    e.there.is ∙ get_same readers place r one e.there.within ∙ sym e.one_is

readers_fed : (p : PlantState) (name : List ℕ) (readers : List Reader) (place : ℕ) (one now : Reader) → IsEnrolled p name readers place one
    → now.node.name ≡ one.node.name → set readers place now ≡ with_reader now p.readers
readers_fed p name readers place one now e same =
    (at_place p.limits.line readers place one now e.apart e.there.within e.one_is same).1
    ∙ ap (with_reader now) e.readers_are
    ∙ ap (λ (r : Reader). with_reader now (with_reader r p.readers)) (the_one p name readers place one e)
    ∙ with_twice now one p.readers same

all_enrolled : (p : PlantState) (name : List ℕ) (files : Option Files) (readers : List Reader) (place : ℕ) (one : Reader) → IsEnrolled p name readers place one → AllOwn files p.readers → AllOwn files readers
all_enrolled p name files readers place one e all = subst (AllOwn files) (sym e.readers_are) (own_enrolled p.limits.line name files p.readers all)

-- its own files are there
pub one_own : (p : PlantState) (name : List ℕ) (files : Option Files) (readers : List Reader) (place : ℕ) (one : Reader) → IsEnrolled p name readers place one → AllOwn files p.readers → AreOwn files one.own
one_own p name files readers place one e all =
    each_at (λ r. AreOwn files r.own) readers place one (all_enrolled p name files readers place one e all) e.there.within e.one_is

module _ (p : PlantState) (name piece : List ℕ) (told : Told) (files after : Option Files) (a b : ℕ) (before text : List ℕ) (readers : List Reader) (place : ℕ) (one now : Reader) where
  abbrev old : Moment
  old = moment p files a before

  abbrev new : Moment
  new = moment (plant_fed p told (set readers place now)) after b text

  was_over : (v : Unit) → WasFed piece p.told told files after a b before text one now (Ok v) → one.node.over ≡ true → WasOver one now old new
  was_over v x over =
      let told_is = x.over over in
      record {
        over = over;
        same = λ i. record { node = x.stays over i; own = (told_is i).files.own };
        told = told_is;
      }

  fed_as : (v : Unit) → WasFed piece p.told told files after a b before text one now (Ok v) → WasOver one now old new ⊎ TookPiece piece one now old new
  fed_as v x = by one.node.over refl
    where
      by : (over : Bool) → one.node.over ≡ over → WasOver one now old new ⊎ TookPiece piece one now old new
      by true is = inl (was_over v x is)
      by false is = inr (record { goes_on = is; fed = x.fed is })

  pub fed_ok : (result : Result Unit StoreFault) → IsEnrolled p name readers place one → WasFed piece p.told told files after a b before text one now result → OnOk result (HasFed name piece old new)
  fed_ok (Ok v) e x = record {
    now = now;
    fed = subst (λ (r : Reader). WasOver r now old new ⊎ TookPiece piece r now old new) (sym (the_one p name readers place one e)) (fed_as v x);
    plant = ap (plant_fed p told) (readers_fed p name readers place one now e x.named);
  }
  fed_ok (Err fault) e x = tt

  -- a front of it was brought by this reader
  abbrev pub IsFront : StoreFault → Reader → Type 0
  IsFront fault r = (r.node.over ≡ false) × ((read : List ℕ) → r.node.lines ≡ state_after r.node.lines.max read → IsStoppedFeed read piece r.node (outside_of old r) (outside_of new now) fault)

  pub fed_err : (result : Result Unit StoreFault) → IsEnrolled p name readers place one → WasFed piece p.told told files after a b before text one now result → IfErr result (IsFedCutOff name piece old new)
  fed_err (Ok v) e x = tt
  fed_err (Err fault) e x = by one.node.over refl
    where
      by : (over : Bool) → one.node.over ≡ over → IsFedCutOff name piece old new fault
      by true is = inl (record { mem = (x.over is).mem; text = ap (λ o. o.text) (x.over is).same })
      by false is =
          let at = subst (IsFront fault) (sym (the_one p name readers place one e)) (is, x.front is) in
          inr (record { now = now; goes_on = at.0; fed = at.1 })

  -- the reader is still one of its name
  fed_reader : (v : Unit) → WasFed piece p.told told files after a b before text one now (Ok v) → IsReader one → IsReader now
  fed_reader v x it = by one.node.over refl
    where
      owned : AreBy now.node.name now.own
      owned = subst (λ (n : List ℕ). AreBy n now.own) (sym x.named) (own_stay_by one.node.name (shelved files one.own) (shelved after now.own) x.away it.own)

      by : (over : Bool) → one.node.over ≡ over → IsReader now
      by true is = record {
        name = subst IsReaderName (sym x.named) it.name;
        own = owned;
        read = it.read;
        lines = subst (λ (r : NodeState). r.lines ≡ state_after r.lines.max it.read) (sym (x.stays is)) it.lines;
      }
      by false is = record {
        name = subst IsReaderName (sym x.named) it.name;
        own = owned;
        read = it.read ++ piece;
        lines = (x.fed is it.read it.lines).lines_are ∙ ap (λ (m : ℕ). state_after m (it.read ++ piece)) (sym x.limit);
      }

  grown : IsGrown p.told told → HasGrown (world_told p.told) (world_told told)
  grown g = grown_by p.told told g.more g.entries_are g.rules.run_is
      (λ k is. subst (λ (o : Option Kind). IfSome o (λ (j : Kind). (world_told told).kind ≡ Some j)) is g.rules.kind_is)

  pub fed_steady : (result : Result Unit StoreFault) → ServedStay → IsEnrolled p name readers place one → WasFed piece p.told told files after a b before text one now result
      → OnOk result (IsSteady (plant_fed p told (set readers place now)))
  fed_steady (Ok v) stay e x = record {
    run_is = x.grows.rules.run_is ∙ e.steady.run_is;
    served = stay p.told told p.clients (grown x.grows) e.steady.served;
    readers = each_set IsReader readers place now e.each (fed_reader v x (each_at IsReader readers place one e.each e.there.within e.one_is));
    apart = apart_set readers place one now e.there.within e.one_is x.named e.apart;
  }
  fed_steady (Err fault) stay e x = tt

  pub fed_own : IsEnrolled p name readers place one → AllOwn files p.readers → TakesAway one.node.name (shelved files one.own) (shelved after now.own) → AreOwn after now.own → AllOwn after (set readers place now)
  fed_own e all away own =
      own_set readers place one now files after e.apart e.each e.there.within e.one_is away.files own (all_enrolled p name files readers place one e all)

-- ---- the end of a run

-- what was read of a run that ends is some text of the next
ended_lines : (r : NodeState) (read : List ℕ) → r.lines ≡ state_after r.lines.max read → (over : Bool) → (text : List ℕ) × ((state_ended over r).lines ≡ state_after (state_ended over r).lines.max text)
ended_lines r read is true = (read, is)
ended_lines r read is false = ([], refl)

ended_name : (r : NodeState) (over : Bool) → (state_ended over r).name ≡ r.name
ended_name r true = refl
ended_name r false = refl

module _ (p : PlantState) (name : List ℕ) (readers : List Reader) (place : ℕ) (one : Reader) (node : NodeState) (enrolled : IsEnrolled p name readers place one) (ends : node ≡ ended one.node) where
  abbrev now : Reader
  now = record one { node = node }

  named : node.name ≡ one.node.name
  named = ap (λ (r : NodeState). r.name) ends ∙ ended_name one.node one.node.over

  readers_ended : set readers place now ≡ with_reader (record one { node = ended one.node }) p.readers
  readers_ended = readers_fed p name readers place one now enrolled named ∙ ap (λ (n : NodeState). with_reader (record one { node = n }) p.readers) ends

  pub ended_told : (before text : List ℕ) → text ≡ before ++ end_lines one.node → (files : Option Files) (faults : ℕ)
      → moment (record p { readers = set readers place now }) files faults text ≡ after_end (reader_of p.limits.line name p.readers) (moment p files faults before)
  ended_told before text told files faults =
      subst (λ (r : Reader). moment (record p { readers = set readers place now }) files faults text ≡ after_end r (moment p files faults before)) (sym (the_one p name readers place one enrolled))
      (λ i. moment (record p { readers = readers_ended i }) files faults (told i))

  pub ended_steady : IsSteady (record p { readers = set readers place now })
  ended_steady =
      let it : IsReader one = each_at IsReader readers place one enrolled.each enrolled.there.within enrolled.one_is in
      let lines = ended_lines one.node it.read it.lines one.node.over in
      let reader : IsReader (record one { node = ended one.node }) = record {
        name = subst IsReaderName (sym (ended_name one.node one.node.over)) it.name;
        own = subst (λ (n : List ℕ). AreBy n one.own) (sym (ended_name one.node one.node.over)) it.own;
        read = lines.0;
        lines = lines.1;
      } in
      record {
        run_is = enrolled.steady.run_is;
        served = enrolled.steady.served;
        readers = each_set IsReader readers place now enrolled.each (subst (λ (n : NodeState). IsReader (record one { node = n })) (sym ends) reader);
        apart = apart_set readers place one now enrolled.there.within enrolled.one_is named enrolled.apart;
      }

  pub ended_own : (files : Option Files) → AllOwn files p.readers → AllOwn files (set readers place now)
  ended_own files all =
      each_set (λ r. AreOwn files r.own) readers place now (all_enrolled p name files readers place one enrolled all) (one_own p name files readers place one enrolled all)
