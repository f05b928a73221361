use Rattle.mot_endpoints.proofs.packets.OpenPackets.take_away.Goals as goal

pub returns-in-File-clause-calls : goal.returns-in-File-clause-calls
returns-in-File-clause-calls g c =
    rw c.in-File.is (rw c.as_str.ensures.value at c.take_away.ensures)
