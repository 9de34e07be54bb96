use Rattle.block_relay.specs.Chronicle.{world_told}
use Rattle.relay_session.proofs.ServedFacts.{none_on, sent_now}
use Rattle.relay_session.proofs.asking.ask.Goals as goal

pub look-look-requires : goal.look-look-requires
look-look-requires c =
    let s = c.requires in
    c.in-Look.ensures.asked (world_told c.args.relay.now).history s.type s.text (sent_now c.know_sound.ensures.stays c.args.relay.now s.older s.type c.args.session.now s.text c.know_sound.ensures.sound s.serves)

pub returns-in-Chunk-clause-told : goal.returns-in-Chunk-clause-told
returns-in-Chunk-clause-told c = none_on c.know_sound.ensures.stays c.args.relay.now c.args.session.now c.args.out.now.items c.know_sound.ensures.sound

pub returns-in-Over-clause-told : goal.returns-in-Over-clause-told
returns-in-Over-clause-told c = none_on c.know_sound.ensures.stays c.args.relay.now c.args.session.now c.args.out.now.items c.know_sound.ensures.sound
