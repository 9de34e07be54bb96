use Rattle.std.proofs.Common.{subst}
use Rattle.client_stream.specs.Sessions.{State}
use Rattle.relay_session.specs.Serving.{GoesOn}
use Rattle.relay_session.proofs.ServedFacts.{goes_further, served_on}
use Rattle.relay_session.proofs.client.Client.look.Goals as goal

pub send-requires : goal.send-requires
send-requires g c =
    served_on c.args.relay.now c.args.self.now c.ask.new.session c.args.out.now.items c.ask.new.out.items c.requires
    (subst (λ (s : State). GoesOn c.args.relay.now s c.ask.new.session c.args.out.now.items c.ask.new.out.items) c.self.view_is c.in_ok-turn.ensures.told)

pub returns-in_err-send-in-Sent-clause-told : goal.returns-in_err-send-in-Sent-clause-told
returns-in_err-send-in-Sent-clause-told g c =
    goes_further c.args.relay.now c.args.self.now c.ask.new.session c.send.new.self c.args.out.now.items c.ask.new.out.items c.send.new.out.items
    (subst (λ (s : State). GoesOn c.args.relay.now s c.ask.new.session c.args.out.now.items c.ask.new.out.items) c.self.view_is c.in_ok-turn.ensures.told) c.in_err-send-in-Sent.ensures.told

pub returns-in_ok-send-in-Sent-clause-told : goal.returns-in_ok-send-in-Sent-clause-told
returns-in_ok-send-in-Sent-clause-told g c =
    goes_further c.args.relay.now c.args.self.now c.ask.new.session c.send.new.self c.args.out.now.items c.ask.new.out.items c.send.new.out.items
    (subst (λ (s : State). GoesOn c.args.relay.now s c.ask.new.session c.args.out.now.items c.ask.new.out.items) c.self.view_is c.in_ok-turn.ensures.told) c.in_ok-send-in-Sent.ensures.told
