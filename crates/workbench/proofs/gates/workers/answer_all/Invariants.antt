use Rattle.workbench.proofs.gates.workers.answer_all.Given as goal

-- the ledger of the blank that was just made
abbrev pub ghosts-put_all : goal.ghosts-put_all
ghosts-put_all g a = record { name = a.blank.name; parts = a.blank.parts }
