use Rattle.std.proofs.Common.{IfSome}
use Rattle.kanal_channel.specs.Deadlines.{GivesBack}
use Rattle.kanal_events.specs.declared.event.Event.TheVariants.{Send}
use Rattle.std.specs.Duration.{as_nanos}
use Rattle.kanal_state.specs.Handles.{SendsInTime}
use Rattle.kanal.proofs.Calling.{by_caller}
use Rattle.kanal.proofs.sender_view.SenderView.send_option_timeout.Goals as goal

pub returns-clause-sends : goal.returns-clause-sends
returns-clause-sends g c =
    by_caller (λ old new. IfSome c.args.option.now (λ m. SendsInTime g.H.History.relations old new
    (g.C.Clock.answers c.args.clock.now) (as_nanos c.args.duration) m c.send_option_timeout-answer.result))
    c.enter-rt.ensures.before c.exit.ensures.back c.enter-rt.ensures.owed c.send_option_timeout-answer.ensures.sends

pub returns-clause-back : goal.returns-clause-back
returns-clause-back g c made =
    by_caller (λ old new. IfSome c.args.option.now (λ m. GivesBack g.H.History.relations old new (Send m) c.send_option_timeout-answer.new.option))
    c.enter-rt.ensures.before c.exit.ensures.back c.enter-rt.ensures.owed (c.send_option_timeout-answer.ensures.back made)
