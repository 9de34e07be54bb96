use Rattle.std.proofs.Common.{◌≡◌, Some, sym, ap, ◌∙◌}
use Rattle.std.specs.Option.{option_copied}
use Rattle.chain_laws.specs.Oldest.{oldest}
use Rattle.block_relay.specs.Chronicle.{world_told}
use Rattle.relay_session.proofs.NextFacts.{AreNextItems, given_now, next_are}
use Rattle.relay_session.proofs.ServedFacts.{sent_now}
use Rattle.relay_session.proofs.sending.next_items.Goals as goal

pub chunk-requires : goal.chunk-requires
chunk-requires c =
    let s = c.requires.served in
    let p = c.args.session.now.progress in
    let newest = (world_told c.args.relay.now).history in
    let batch = c.unwrap-batch.result.now in
    let is : c.args.session.now.batch ≡ Some batch = sym c.batch.ensures ∙ ap option_copied c.unwrap-batch.ensures in
    let sent = sent_now c.know_sound.ensures.stays c.args.relay.now s.older s.type c.args.session.now s.text c.know_sound.ensures.sound s.serves in
    record { older = oldest batch.seen newest; mode = p.request.mode; stop = p.request.stop; given = given_now newest p c.args.session.now.batch batch is sent.batch }

are_next : (c : goal.In_ok-chunk) → AreNextItems (world_told c.args.relay.now).history c.args.session.now c.args.max c.chunk.new.out.items
are_next c =
    let s = c.requires.served in
    let p = c.args.session.now.progress in
    let newest = (world_told c.args.relay.now).history in
    let batch = c.unwrap-batch.result.now in
    let sound = c.know_sound.ensures.sound in
    let is : c.args.session.now.batch ≡ Some batch = sym c.batch.ensures ∙ ap option_copied c.unwrap-batch.ensures in
    let sent = sent_now c.know_sound.ensures.stays c.args.relay.now s.older s.type c.args.session.now s.text sound s.serves in
    next_are newest s.type c.args.session.now s.text batch c.args.from c.args.max c.new-items.result.items c.chunk.new.out.items sound.history sound.agreed sent is c.requires.next c.new-items.ensures.items
    (c.in_ok-chunk.ensures.ok (oldest batch.seen newest) p.request.mode p.request.stop (given_now newest p c.args.session.now.batch batch is sent.batch)) c.requires.some

pub returns-clause-next : goal.returns-clause-next
returns-clause-next c = (are_next c).next

pub returns-clause-some : goal.returns-clause-some
returns-clause-some c = (are_next c).some

pub returns-clause-few : goal.returns-clause-few
returns-clause-few c = (are_next c).few
