use Rattle.workbench.proofs.again.passes.put_passes.Given as goal

-- the ledger of the blank that was just made
abbrev pub ghosts-take_all : goal.ghosts-take_all
ghosts-take_all g a = record { name = a.blank.name; parts = a.blank.parts }
