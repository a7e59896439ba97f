use Rattle.kanal_log.proofs.log.Writer.add.Given as goal

-- what the two values are the reason to add
abbrev pub ghosts-extend : goal.ghosts-extend
ghosts-extend g a = record { more = g.P.Adds.adds a.about.now a.answer.now }
