use Rattle.workbench.proofs.again.served.serve_one.Given as goal

-- the ledger of the blank that was just made
abbrev pub ghosts-serve_over : goal.ghosts-serve_over
ghosts-serve_over g a = record { name = a.blank.name; parts = a.blank.parts }
