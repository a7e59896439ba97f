use Rattle.std.proofs.Common.{◌∙◌, [], ◌∷◌, ◌++◌, ap, append_assoc, of_calls, sym}
use denote.Param.Members.{Called}
use Rattle.kanal_channel.proofs.Batching.{folds_more}
use Rattle.kanal.proofs.each.hand_each.Goals as goal

pub loop-message-preserved : goal.loop-message-preserved
loop-message-preserved g c =
    let message = c.in-Some.message in
    let callable = c.loop-message.invariant.0 in
    let done = c.loop-message.invariant.1 in
    let more = done.0 ++ message ∷ [] in
    let left = c.pop_front.new.self.items in (
      search of_calls,
      (
        more,
        folds_more (λ f m h. Called g.F.FnMut f (m, tt) tt h) c.args.call.now c.loop-message.call c.call.new.self done.0 message done.1 (record { met = c.call.ensures.met }),
        done.2 ∙ ap (λ xs. done.0 ++ xs) c.in-Some.ensures.items ∙ sym (append_assoc done.0 (message ∷ []) left),
      ),
    )
