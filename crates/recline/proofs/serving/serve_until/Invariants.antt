-- `serve_until`: the ledger that the blank names.
use Rattle.recline.proofs.serving.serve_until.Given as goal

abbrev pub ghosts-serve_desk : goal.ghosts-serve_desk
ghosts-serve_desk g a = record { name = a.blank.name; parts = a.blank.parts }
