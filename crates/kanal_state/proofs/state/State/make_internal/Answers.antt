use Rattle.kanal_core.specs.Channel.{line_of}
use Rattle.kanal_state.proofs.Noting.{drop_on}
use Rattle.kanal_state.proofs.Settling.{all_shown, made_settled}
use Rattle.kanal_state.proofs.state.State.make_internal.Goals as goal

pub append_internal-requires : goal.append_internal-requires
append_internal-requires g c =
    let on = drop_on (line_of c.self.inside.core) _ c.args.event c.of-asked.result.value c.make-made.result c.of-asked.ensures c.requires.drops c.make-made.ensures.told in
    record { told = (line_of c.self.inside.core, c.self.invariant, on.0); no_message = on.1 }

pub returns-clause-seen : goal.returns-clause-seen
returns-clause-seen g c =
    let w = g.H.History.internal_relations in
    all_shown w g.H.History.shows c.append_internal.new.internal_pass c.internal_prefix-prefix.result c.internal_prefix-prefix.ensures.settled _ (made_settled w g.met.H.History.internal_sound c.self.inside.internal_pass c.append_internal.new.internal_pass _ c.append_internal.ensures.made)
