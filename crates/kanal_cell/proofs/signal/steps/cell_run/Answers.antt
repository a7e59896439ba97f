use Rattle.std.proofs.Common.{rules, ◌≡◌, ◌<◌, length, ◌++◌, ◌∷◌, [], ◌∙◌, subst, arith}
use Rattle.kanal_cell.proofs.CellPlaces.{starts, StateAt, state_kept, said_more, word_is, owner_is, all_said}
use Rattle.kanal_cell.proofs.signal.steps.cell_run.Goals as goal

pub loop-step-preserved : goal.loop-step-preserved
loop-step-preserved c = let more : c.push.new.self.items ≡ c.loop-step.replies.items ++ c.step.result ∷ [] = search rules in let near : c.loop-step.step-index < length c.args.steps.now = omega arith in record {
  long = search rules;
  state = state_kept c.args.steps.now c.loop-step.step-index _ c.loop-step.core _ near c.loop-step.invariant.state c.step.ensures.state;
  said = said_more c.args.steps.now c.loop-step.step-index _ c.loop-step.core c.step.result c.loop-step.replies.items _ near c.loop-step.invariant.long c.loop-step.invariant.state c.step.ensures.reply more c.loop-step.invariant.said;
}

pub loop-step-init : goal.loop-step-init
loop-step-init c = record {
  long = search rules;
  state = subst (λ d. StateAt c.args.steps.now 0 d) (search rules) (starts c.args.steps.now);
  said = λ k x h e. absurd (omega arith);
}

pub returns-clause-history : goal.returns-clause-history
returns-clause-history c =
    let i = c.loop-step.invariant in
    let end : c.loop-step.step-index ≡ length c.args.steps.now = omega arith in
    let last = subst (λ n. StateAt c.args.steps.now n c.loop-step.core) end i.state in record {
      replies = all_said c.args.steps.now c.loop-step.replies.items (i.long ∙ end) (λ k x h e. i.said k x (omega (arith, h, end)) e);
      word = c.word.ensures ∙ word_is c.args.steps.now c.loop-step.core last;
      owner = c.owner.ensures ∙ owner_is c.args.steps.now c.loop-step.core last;
    }
