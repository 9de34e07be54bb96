use Rattle.std.proofs.Common.{sym, subst}
use Rattle.block_relay.specs.Chronicle.{world_told}
use Rattle.client_stream.specs.Answers.{said_of, batch_in, total_of, type_of}
use Rattle.reply_text.specs.Replies.{reply_text}
use Rattle.session_model.specs.Progress.{look_replies}
use Rattle.relay_session.specs.Asking.{IsLookTaken}
use Rattle.relay_session.specs.declared.turn.Turn.{Turn}
use Rattle.relay_session.proofs.ServedFacts.{none_on, same_on, sent_now}
use Rattle.relay_session.proofs.LookFacts.{kind_given, look_goes_on, look_taken}
use Rattle.relay_session.proofs.asking.give.Goals as goal

pub returns-in_err-turn-clause-told : goal.returns-in_err-turn-clause-told
returns-in_err-turn-clause-told c = none_on c.know_sound.ensures.stays c.args.relay.now c.args.session.now c.args.out.now.items c.know_sound.ensures.sound

pub give_look-requires-clause-kind : goal.give_look-requires-clause-kind
give_look-requires-clause-kind c =
    let s = c.requires.served in
    kind_given (world_told c.args.relay.now) s.type c.args.session.now s.text c.args.look c.kind.result
    (sent_now c.know_sound.ensures.stays c.args.relay.now s.older s.type c.args.session.now s.text c.know_sound.ensures.sound s.serves) c.requires.look c.kind.ensures.some

pub returns-in_err-give_look-clause-told : goal.returns-in_err-give_look-clause-told
returns-in_err-give_look-clause-told c =
    same_on c.know_sound.ensures.stays c.args.relay.now c.args.session.now c.give_look.new.self c.args.out.now.items c.give_look.new.out.items c.know_sound.ensures.sound
    c.in_err-give_look.ensures.same c.in_err-give_look.ensures.err

pub returns-clause-told : goal.returns-clause-told
returns-clause-told c =
    look_goes_on c.know_sound.ensures.stays c.args.relay.now c.args.session.now c.give_look.new.self c.args.look c.kind.result c.args.out.now.items c.give_look.new.out.items
    c.know_sound.ensures.sound c.requires.look c.kind.ensures.kind c.kind.ensures.some c.in_ok-give_look.ensures.progress c.in_ok-give_look.ensures.lines
    (λ w newest type text h a. c.in_ok-give_look.ensures.told w newest type text
    (reply_text (look_replies (total_of (batch_in c.args.look)) (type_of c.kind.result) c.args.session.now.progress (said_of c.args.look))) h a c.in_ok-give_look.ensures.lines)

pub returns-clause-taken : goal.returns-clause-taken
returns-clause-taken c =
    subst (λ (t : Turn). IsLookTaken (world_told c.args.relay.now) c.args.session.now.progress c.give_look.new.self.progress t) (sym c.in_ok-turn.ensures.turn)
    (look_taken (world_told c.args.relay.now) c.args.session.now.progress c.give_look.new.self.progress c.args.look c.requires.look c.in_ok-turn.ensures.some c.in_ok-give_look.ensures.progress)
