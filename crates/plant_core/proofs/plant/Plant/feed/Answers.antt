use Rattle.std.proofs.Common.{sym, subst, IfErr, OnOk}
use Rattle.plant_core.specs.declared.readers.Reader.{Reader}
use Rattle.plant_core.specs.Events.{HasFed, IsFedCutOff}
use Rattle.plant_core.specs.Moments.{AllOwn, IsSteady, PlantState, moment}
use Rattle.plant_core.proofs.FeedFacts.{IsEnrolled, WasFed, fed_err, fed_ok, fed_own, fed_steady, one_own, on_ok, plant_fed}
use Rattle.std.proofs.Math.ListN.{set}
use Rattle.plant_core.proofs.plant.Plant.feed.Goals as goal

pub feed-requires : goal.feed-requires
feed-requires g c =
    let p : PlantState = record { told = c.self.inside.relay; run = c.self.inside.run; limits = c.self.inside.limits; readers = c.self.inside.readers.items; clients = c.self.inside.clients } in
    let files = g.S.Shelf.files c.args.shelf.now in
    let readers = c.enrol.new.readers.items in
    let place = c.in_ok-place.place in
    let one = c.index_mut-reader.result.now in
    let e : IsEnrolled p c.args.reader.now readers place one = record {
      steady = subst IsSteady (sym c.self.view_is) c.requires.steady;
      there = c.in_ok-place.ensures.there;
      readers_are = c.in_ok-place.ensures.readers;
      each = c.in_ok-place.ensures.each;
      apart = c.in_ok-place.ensures.apart;
      one_is = c.index_mut-reader.ensures.value;
    } in
    let all : AllOwn files p.readers = subst (λ (q : PlantState). AllOwn files q.readers) (sym c.self.view_is) c.requires.own in
    record { own = one_own p c.args.reader.now files readers place one e all }

pub returns-clause-ok : goal.returns-clause-ok
returns-clause-ok g c =
    let p : PlantState = record { told = c.self.inside.relay; run = c.self.inside.run; limits = c.self.inside.limits; readers = c.self.inside.readers.items; clients = c.self.inside.clients } in
    let files = g.S.Shelf.files c.args.shelf.now in
    let readers = c.enrol.new.readers.items in
    let place = c.in_ok-place.place in
    let one = c.index_mut-reader.result.now in
    let e : IsEnrolled p c.args.reader.now readers place one = record {
      steady = subst IsSteady (sym c.self.view_is) c.requires.steady;
      there = c.in_ok-place.ensures.there;
      readers_are = c.in_ok-place.ensures.readers;
      each = c.in_ok-place.ensures.each;
      apart = c.in_ok-place.ensures.apart;
      one_is = c.index_mut-reader.ensures.value;
    } in
    let after = g.S.Shelf.files c.feed.new.shelf in
    let a = g.S.Shelf.shelf_faults c.args.shelf.now in
    let b = g.S.Shelf.shelf_faults c.feed.new.shelf in
    let before = c.args.out.now.items in
    let text = c.feed.new.out.items in
    let now : Reader = record { node = c.feed.new.self; own = c.feed.new.own } in
    let x : WasFed c.args.piece.now p.told c.feed.new.relay files after a b before text one now c.feed.result = record {
      over = c.feed.ensures.over;
      stays = c.feed.ensures.stays;
      fed = c.feed.ensures.fed;
      front = c.feed.ensures.front;
      named = c.feed.ensures.named;
      limit = c.feed.ensures.limit;
      grows = c.feed.ensures.grows;
      own = c.feed.ensures.own;
      away = c.feed.ensures.away;
    } in
    subst (λ (q : PlantState). OnOk c.feed.result (HasFed c.args.reader.now c.args.piece.now (moment q files a before) (moment (plant_fed p c.feed.new.relay (set readers place now)) after b text))) c.self.view_is
    (fed_ok p c.args.reader.now c.args.piece.now c.feed.new.relay files after a b before text readers place one now c.feed.result e x)

pub returns-clause-err : goal.returns-clause-err
returns-clause-err g c =
    let p : PlantState = record { told = c.self.inside.relay; run = c.self.inside.run; limits = c.self.inside.limits; readers = c.self.inside.readers.items; clients = c.self.inside.clients } in
    let files = g.S.Shelf.files c.args.shelf.now in
    let readers = c.enrol.new.readers.items in
    let place = c.in_ok-place.place in
    let one = c.index_mut-reader.result.now in
    let e : IsEnrolled p c.args.reader.now readers place one = record {
      steady = subst IsSteady (sym c.self.view_is) c.requires.steady;
      there = c.in_ok-place.ensures.there;
      readers_are = c.in_ok-place.ensures.readers;
      each = c.in_ok-place.ensures.each;
      apart = c.in_ok-place.ensures.apart;
      one_is = c.index_mut-reader.ensures.value;
    } in
    let after = g.S.Shelf.files c.feed.new.shelf in
    let a = g.S.Shelf.shelf_faults c.args.shelf.now in
    let b = g.S.Shelf.shelf_faults c.feed.new.shelf in
    let before = c.args.out.now.items in
    let text = c.feed.new.out.items in
    let now : Reader = record { node = c.feed.new.self; own = c.feed.new.own } in
    let x : WasFed c.args.piece.now p.told c.feed.new.relay files after a b before text one now c.feed.result = record {
      over = c.feed.ensures.over;
      stays = c.feed.ensures.stays;
      fed = c.feed.ensures.fed;
      front = c.feed.ensures.front;
      named = c.feed.ensures.named;
      limit = c.feed.ensures.limit;
      grows = c.feed.ensures.grows;
      own = c.feed.ensures.own;
      away = c.feed.ensures.away;
    } in
    subst (λ (q : PlantState). IfErr c.feed.result (IsFedCutOff c.args.reader.now c.args.piece.now (moment q files a before) (moment (plant_fed p c.feed.new.relay (set readers place now)) after b text))) c.self.view_is
    (fed_err p c.args.reader.now c.args.piece.now c.feed.new.relay files after a b before text readers place one now c.feed.result e x)

pub returns-clause-steady : goal.returns-clause-steady
returns-clause-steady g c =
    let p : PlantState = record { told = c.self.inside.relay; run = c.self.inside.run; limits = c.self.inside.limits; readers = c.self.inside.readers.items; clients = c.self.inside.clients } in
    let files = g.S.Shelf.files c.args.shelf.now in
    let readers = c.enrol.new.readers.items in
    let place = c.in_ok-place.place in
    let one = c.index_mut-reader.result.now in
    let e : IsEnrolled p c.args.reader.now readers place one = record {
      steady = subst IsSteady (sym c.self.view_is) c.requires.steady;
      there = c.in_ok-place.ensures.there;
      readers_are = c.in_ok-place.ensures.readers;
      each = c.in_ok-place.ensures.each;
      apart = c.in_ok-place.ensures.apart;
      one_is = c.index_mut-reader.ensures.value;
    } in
    let after = g.S.Shelf.files c.feed.new.shelf in
    let a = g.S.Shelf.shelf_faults c.args.shelf.now in
    let b = g.S.Shelf.shelf_faults c.feed.new.shelf in
    let before = c.args.out.now.items in
    let text = c.feed.new.out.items in
    let now : Reader = record { node = c.feed.new.self; own = c.feed.new.own } in
    let x : WasFed c.args.piece.now p.told c.feed.new.relay files after a b before text one now c.feed.result = record {
      over = c.feed.ensures.over;
      stays = c.feed.ensures.stays;
      fed = c.feed.ensures.fed;
      front = c.feed.ensures.front;
      named = c.feed.ensures.named;
      limit = c.feed.ensures.limit;
      grows = c.feed.ensures.grows;
      own = c.feed.ensures.own;
      away = c.feed.ensures.away;
    } in
    fed_steady p c.args.reader.now c.args.piece.now c.feed.new.relay files after a b before text readers place one now c.feed.result c.served_stay.ensures e x

pub returns-clause-own : goal.returns-clause-own
returns-clause-own g c =
    let p : PlantState = record { told = c.self.inside.relay; run = c.self.inside.run; limits = c.self.inside.limits; readers = c.self.inside.readers.items; clients = c.self.inside.clients } in
    let files = g.S.Shelf.files c.args.shelf.now in
    let readers = c.enrol.new.readers.items in
    let place = c.in_ok-place.place in
    let one = c.index_mut-reader.result.now in
    let e : IsEnrolled p c.args.reader.now readers place one = record {
      steady = subst IsSteady (sym c.self.view_is) c.requires.steady;
      there = c.in_ok-place.ensures.there;
      readers_are = c.in_ok-place.ensures.readers;
      each = c.in_ok-place.ensures.each;
      apart = c.in_ok-place.ensures.apart;
      one_is = c.index_mut-reader.ensures.value;
    } in
    let after = g.S.Shelf.files c.feed.new.shelf in
    let a = g.S.Shelf.shelf_faults c.args.shelf.now in
    let b = g.S.Shelf.shelf_faults c.feed.new.shelf in
    let before = c.args.out.now.items in
    let text = c.feed.new.out.items in
    let now : Reader = record { node = c.feed.new.self; own = c.feed.new.own } in
    let all : AllOwn files p.readers = subst (λ (q : PlantState). AllOwn files q.readers) (sym c.self.view_is) c.requires.own in
    on_ok c.feed.result (fed_own p c.args.reader.now c.args.piece.now c.feed.new.relay files after a b before text readers place one now e all c.feed.ensures.away c.feed.ensures.own)
