use Rattle.std.proofs.Common.{rules, ◌∷◌, Ok, append_assoc}
use Rattle.std.specs.Option.{option_to_list}
use Rattle.kanal_channel.proofs.Common.{[], ◌++◌, ◌∙◌, ap, sym}
use Rattle.kanal_channel.proofs.Batching.{folds_more, sends_at_once}
use Rattle.kanal_state.specs.Handles.{Sends}
use Rattle.kanal_channel.proofs.sending.push_each.Goals as goal

pub loop-next-preserved : goal.loop-next-preserved
loop-next-preserved g c =
    let w = g.H.History.relations in
    let old = c.loop-next.pass in
    let new = c.push.new.pass in
    let message = c.in-Some.message in
    let sent = c.loop-next.invariant.sent in
    let more = sent.0 ++ message ∷ [] in
    let here = sends_at_once w old new message c.in_ok-push.ensures.made c.in_ok-push.ensures.told in
    let is = ap (λ next. sent.0 ++ option_to_list next ++ c.loop-next.behind.items) c.in-Some.is
    ∙ ap (λ xs. more ++ xs) c.pop_front-next.ensures.items
    ∙ sym (append_assoc more (option_to_list c.pop_front-next.result) c.pop_front-next.new.self.items) in
    record {
      sent = (more, folds_more (λ p m q. Sends w p q m (Ok tt)) c.args.pass.now old new sent.0 message sent.1 here, sent.2 ∙ is);
      rest = search rules;
    }
