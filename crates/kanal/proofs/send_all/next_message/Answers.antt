use Rattle.std.proofs.Common.{◌∙◌, [], ◌∷◌, Some, sym, subst}
use Rattle.kanal.specs.Sends.{Behind, StillGives}
use Rattle.kanal.proofs.Queues.{none_first}
use Rattle.kanal.proofs.send_all.next_message.Goals as goal

pub returns-clause-came : goal.returns-clause-came
returns-clause-came g c =
    let before = StillGives g.S.Stream.yields c.args.stream.now in
    let after = StillGives g.S.Stream.yields c.next_item.new.stream in
    let message = c.in_ok-message.message in
    let came = c.in_ok-message.ensures.came in
    let none = none_first c.pop_front.result c.args.ready.now.queue c.pop_front.ensures.variant c.in_default.is in
    let left = sym c.in_default.ensures.items ∙ none in (
      subst (λ xs. Behind xs before [] (Some message)) (sym none) came.0,
      λ items last given.
          subst (λ xs. Behind xs before (message ∷ items) last) (sym none)
          (came.1 items last (subst (λ xs. Behind xs after items last) left (c.look_ahead.ensures.same items last given))),
    )
