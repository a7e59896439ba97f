use Rattle.kanal_recorded.proofs.pass.Pass.drop_tx.Goals as goal

pub returns : goal.returns
returns g c = c.call.ensures
