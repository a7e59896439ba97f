use Rattle.kanal_recorded.proofs.pass.Pass.close.Goals as goal

pub returns : goal.returns
returns g c = c.call.ensures
