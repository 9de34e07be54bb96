use Rattle.std.proofs.Common.{◌≡◌, ℕ, Option, sym, subst}
use Rattle.std.proofs.Math.ListN.{set}
use Rattle.outer_world.specs.Files.{Files}
use Rattle.plant_core.specs.Events.{after_end}
use Rattle.plant_core.specs.Moments.{AllOwn, IsSteady, PlantState, moment, reader_of}
use Rattle.plant_core.proofs.FeedFacts.{IsEnrolled, ended_own, ended_steady, ended_told}
use Rattle.plant_core.proofs.plant.Plant.end_run.Goals as goal

pub returns-in_err-end-clause-own : goal.returns-in_err-end-clause-own
returns-in_err-end-clause-own c =
    let p : PlantState = record { told = c.self.inside.relay; run = c.self.inside.run; limits = c.self.inside.limits; readers = c.self.inside.readers.items; clients = c.self.inside.clients } in
    let readers = c.enrol.new.readers.items in
    let place = c.in_ok-place.place in
    let one = c.index_mut.result.now in
    let e : IsEnrolled p c.args.reader.now readers place one = record {
      steady = subst IsSteady (sym c.self.view_is) c.requires.steady;
      there = c.in_ok-place.ensures.there;
      readers_are = c.in_ok-place.ensures.readers;
      each = c.in_ok-place.ensures.each;
      apart = c.in_ok-place.ensures.apart;
      one_is = c.index_mut.ensures.value;
    } in
    λ files all. ended_own p c.args.reader.now readers place one c.end.new.self e c.end.ensures.reader files (subst (λ (q : PlantState). AllOwn files q.readers) (sym c.self.view_is) all)

pub returns-clause-ok : goal.returns-clause-ok
returns-clause-ok c =
    let p : PlantState = record { told = c.self.inside.relay; run = c.self.inside.run; limits = c.self.inside.limits; readers = c.self.inside.readers.items; clients = c.self.inside.clients } in
    let readers = c.enrol.new.readers.items in
    let place = c.in_ok-place.place in
    let one = c.index_mut.result.now in
    let e : IsEnrolled p c.args.reader.now readers place one = record {
      steady = subst IsSteady (sym c.self.view_is) c.requires.steady;
      there = c.in_ok-place.ensures.there;
      readers_are = c.in_ok-place.ensures.readers;
      each = c.in_ok-place.ensures.each;
      apart = c.in_ok-place.ensures.apart;
      one_is = c.index_mut.ensures.value;
    } in
    let text = c.end.new.out.items in
    subst (λ (q : PlantState). (files : Option Files) (faults : ℕ) → moment (record p { readers = set readers place (record one { node = c.end.new.self }) }) files faults text
    ≡ after_end (reader_of q.limits.line c.args.reader.now q.readers) (moment q files faults c.args.out.now.items)) c.self.view_is
    (ended_told p c.args.reader.now readers place one c.end.new.self e c.end.ensures.reader c.args.out.now.items text c.in_ok-end.ensures.lines)

pub returns-clause-steady : goal.returns-clause-steady
returns-clause-steady c =
    let p : PlantState = record { told = c.self.inside.relay; run = c.self.inside.run; limits = c.self.inside.limits; readers = c.self.inside.readers.items; clients = c.self.inside.clients } in
    let readers = c.enrol.new.readers.items in
    let place = c.in_ok-place.place in
    let one = c.index_mut.result.now in
    let e : IsEnrolled p c.args.reader.now readers place one = record {
      steady = subst IsSteady (sym c.self.view_is) c.requires.steady;
      there = c.in_ok-place.ensures.there;
      readers_are = c.in_ok-place.ensures.readers;
      each = c.in_ok-place.ensures.each;
      apart = c.in_ok-place.ensures.apart;
      one_is = c.index_mut.ensures.value;
    } in
    ended_steady p c.args.reader.now readers place one c.end.new.self e c.end.ensures.reader

pub returns-clause-own : goal.returns-clause-own
returns-clause-own c =
    let p : PlantState = record { told = c.self.inside.relay; run = c.self.inside.run; limits = c.self.inside.limits; readers = c.self.inside.readers.items; clients = c.self.inside.clients } in
    let readers = c.enrol.new.readers.items in
    let place = c.in_ok-place.place in
    let one = c.index_mut.result.now in
    let e : IsEnrolled p c.args.reader.now readers place one = record {
      steady = subst IsSteady (sym c.self.view_is) c.requires.steady;
      there = c.in_ok-place.ensures.there;
      readers_are = c.in_ok-place.ensures.readers;
      each = c.in_ok-place.ensures.each;
      apart = c.in_ok-place.ensures.apart;
      one_is = c.index_mut.ensures.value;
    } in
    λ files all. ended_own p c.args.reader.now readers place one c.end.new.self e c.end.ensures.reader files (subst (λ (q : PlantState). AllOwn files q.readers) (sym c.self.view_is) all)
