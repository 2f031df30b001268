use Rattle.workbench.proofs.again.failing.answer_all.Given as goal

-- the ledger of the blank that was just made
abbrev pub ghosts-answer : goal.ghosts-answer
ghosts-answer g a = record { name = a.blank.name; parts = a.blank.parts }
