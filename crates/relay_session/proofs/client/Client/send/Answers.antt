use Rattle.std.proofs.Common.{arith, ℕ, Option, refl, sym, ◌∙◌, subst}
use Rattle.std.proofs.lemmas.Result.{err_from_is_err_and}
use Rattle.outer_world.specs.Files.{Files}
use Rattle.relay_session.specs.Turns.{HasCause}
use Rattle.relay_session.proofs.NextFacts.{cause_since}
use Rattle.client_stream.specs.Sessions.{State, IsNeed}
use Rattle.block_relay.specs.Chronicle.{world_told}
use Rattle.relay_session.proofs.GivenFacts.{SoFar, chunk_more, chunk_served, closed_rest, fewer_left, none_so_far, so_far_given, so_far_told, some_more, spent_rest, within_limit}
use Rattle.relay_session.proofs.client.Client.send.Goals as goal

pub loop-alloc-init : goal.loop-alloc-init
loop-alloc-init g c = record {
  served = c.requires;
  so_far = none_so_far c.args.relay.now c.args.most c.args.self.now c.args.out.now.items;
  files = refl;
  staged = refl;
  later = omega arith;
}

pub returns-in_default : goal.returns-in_default
returns-in_default g c =
    let i = c.loop-alloc.invariant in
    let n = subst (λ (s : State). IsNeed s c.need.result) c.self.view_is c.need.ensures.need in
    record {
      told = so_far_told c.know_sound.ensures.stays c.args.relay.now c.args.most c.loop-alloc.left c.args.self.now c.loop-alloc.self c.args.out.now.items c.loop-alloc.out.items c.know_sound.ensures.sound i.so_far;
      given = so_far_given c.args.relay.now c.args.most c.loop-alloc.left c.args.self.now c.loop-alloc.self c.args.out.now.items c.loop-alloc.out.items i.so_far;
      rest = closed_rest c.args.relay.now c.args.most c.loop-alloc.left c.args.self.now c.loop-alloc.self c.need.result c.args.out.now.items c.loop-alloc.out.items i.so_far n c.in_default.not-Chunk;
      refused = tt;
      files = i.files;
      staged = i.staged;
      later = i.later;
    }

pub returns-in_err-given-clause-told : goal.returns-in_err-given-clause-told
returns-in_err-given-clause-told g c =
    let f = some_more c.args.relay.now c.args.most c.loop-alloc.left c.chunk_size-max.result c.args.self.now c.loop-alloc.self c.send_chunk.new.self c.args.out.now.items c.loop-alloc.out.items c.send_chunk.new.out.items
    c.loop-alloc.invariant.so_far c.chunk_size-max.ensures.few c.in_err-given.ensures.gave in
    so_far_told c.know_sound.ensures.stays c.args.relay.now c.args.most f.0 c.args.self.now c.send_chunk.new.self c.args.out.now.items c.send_chunk.new.out.items c.know_sound.ensures.sound f.1

pub returns-in_err-given-clause-given : goal.returns-in_err-given-clause-given
returns-in_err-given-clause-given g c =
    let f = some_more c.args.relay.now c.args.most c.loop-alloc.left c.chunk_size-max.result c.args.self.now c.loop-alloc.self c.send_chunk.new.self c.args.out.now.items c.loop-alloc.out.items c.send_chunk.new.out.items
    c.loop-alloc.invariant.so_far c.chunk_size-max.ensures.few c.in_err-given.ensures.gave in
    so_far_given c.args.relay.now c.args.most f.0 c.args.self.now c.send_chunk.new.self c.args.out.now.items c.send_chunk.new.out.items f.1

pub loop-alloc-preserved : goal.loop-alloc-preserved
loop-alloc-preserved g c =
    let i = c.loop-alloc.invariant in
    let e = c.in_ok-given.ensures in
    let k = c.in_ok-given.given in
    let few = within_limit c.loop-alloc.left k c.chunk_size-max.result c.chunk_size-max.ensures.few e.few in
    let more = chunk_more c.args.relay.now c.args.most c.loop-alloc.left k c.args.self.now c.loop-alloc.self c.send_chunk.new.self c.args.out.now.items c.loop-alloc.out.items c.send_chunk.new.out.items i.so_far few e.all in
    record {
      served = chunk_served c.know_sound.ensures.stays c.args.relay.now k c.loop-alloc.self c.send_chunk.new.self c.loop-alloc.out.items c.send_chunk.new.out.items c.know_sound.ensures.sound i.served e.all;
      so_far = subst (λ (o : Option ℕ). SoFar c.args.relay.now c.args.most o c.args.self.now c.send_chunk.new.self c.args.out.now.items c.send_chunk.new.out.items) (sym c.rest_of-left.ensures) more;
      files = e.files ∙ i.files;
      staged = e.staged ∙ i.staged;
      later = omega (arith, i.later, e.later);
    }

pub rest_of-left-requires : goal.rest_of-left-requires
rest_of-left-requires g c = within_limit c.loop-alloc.left c.in_ok-given.given c.chunk_size-max.result c.chunk_size-max.ensures.few c.in_ok-given.ensures.few

pub loop-alloc-smaller : goal.loop-alloc-smaller
loop-alloc-smaller g c =
    fewer_left c.know_sound.ensures.stays c.args.relay.now c.in_ok-given.given c.loop-alloc.self c.send_chunk.new.self c.loop-alloc.out.items c.send_chunk.new.out.items c.know_sound.ensures.sound
    c.loop-alloc.invariant.served c.in_ok-given.ensures.some c.in_ok-given.ensures.all

pub returns-clause-told : goal.returns-clause-told
returns-clause-told g c =
    so_far_told c.know_sound.ensures.stays c.args.relay.now c.args.most c.loop-alloc.left c.args.self.now c.loop-alloc.self c.args.out.now.items c.loop-alloc.out.items c.know_sound.ensures.sound c.loop-alloc.invariant.so_far

pub returns-clause-given : goal.returns-clause-given
returns-clause-given g c = so_far_given c.args.relay.now c.args.most c.loop-alloc.left c.args.self.now c.loop-alloc.self c.args.out.now.items c.loop-alloc.out.items c.loop-alloc.invariant.so_far

pub returns-clause-rest : goal.returns-clause-rest
returns-clause-rest g c =
    spent_rest c.args.relay.now c.args.most c.loop-alloc.left c.args.self.now c.loop-alloc.self c.args.out.now.items c.loop-alloc.out.items c.loop-alloc.invariant.so_far (sym c.is_spent.ensures ∙ c.loop-alloc-test.false)

pub send_chunk-requires-clause-served : goal.send_chunk-requires-clause-served
send_chunk-requires-clause-served g c = c.loop-alloc.invariant.served

pub returns-in_err-given-clause-files : goal.returns-in_err-given-clause-files
returns-in_err-given-clause-files g c = c.in_err-given.ensures.files ∙ c.loop-alloc.invariant.files

pub returns-in_err-given-clause-staged : goal.returns-in_err-given-clause-staged
returns-in_err-given-clause-staged g c = c.in_err-given.ensures.staged ∙ c.loop-alloc.invariant.staged

pub returns-in_err-given-clause-later : goal.returns-in_err-given-clause-later
returns-in_err-given-clause-later g c = omega (arith, c.loop-alloc.invariant.later, c.in_err-given.ensures.later)

pub returns-clause-files : goal.returns-clause-files
returns-clause-files g c = c.loop-alloc.invariant.files

pub returns-clause-staged : goal.returns-clause-staged
returns-clause-staged g c = c.loop-alloc.invariant.staged

pub returns-clause-later : goal.returns-clause-later
returns-clause-later g c = c.loop-alloc.invariant.later

pub returns-in_err-given-clause-refused : goal.returns-in_err-given-clause-refused
returns-in_err-given-clause-refused g c =
    let p = err_from_is_err_and c.from_residual.result c.from_residual.ensures.1 in
    let newest = (world_told c.args.relay.now).history in
    let before = g.S.Shelf.shelf_faults c.args.shelf.now in
    let now = g.S.Shelf.shelf_faults c.send_chunk.new.shelf in
    let q = c.send_chunk.new.self.progress in
    rw (p.1, p.2)
    (subst (λ (f : Option Files). HasCause newest f before now q c.in_err-given.field-0.0) c.loop-alloc.invariant.files
    (cause_since newest (g.S.Shelf.files c.loop-alloc.shelf) before (g.S.Shelf.shelf_faults c.loop-alloc.shelf) now q c.in_err-given.field-0.0 c.loop-alloc.invariant.later
    c.in_err-given.ensures.refused))
