-- The ledger that the blank names.
use Rattle.recline.proofs.generation.next_generation.Given as goal

abbrev pub ghosts-generation : goal.ghosts-generation
ghosts-generation g a = record { name = a.blank.name; parts = a.blank.parts }
