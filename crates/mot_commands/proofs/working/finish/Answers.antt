use Rattle.mot_commands.proofs.working.finish.Goals as goal

pub returns-clause-ended : goal.returns-clause-ended
returns-clause-ended g c = (c.nothing.result, c.of_file.ensures)
