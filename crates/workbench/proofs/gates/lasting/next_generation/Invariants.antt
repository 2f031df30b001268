use Rattle.workbench.proofs.gates.lasting.next_generation.Given as goal

-- the ledger of the blank that was just made
abbrev pub ghosts-generation : goal.ghosts-generation
ghosts-generation g a = record { name = a.blank.name; parts = a.blank.parts }
