use Rattle.party_gate.proofs.top.gate.Given as goal

abbrev pub ghosts-pass_on : goal.ghosts-pass_on
ghosts-pass_on g a = record { name = a.name }
