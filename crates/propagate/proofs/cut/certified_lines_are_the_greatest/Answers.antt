-- What certifies is the greatest stamp-consistent cut, and so the greatest closed one.
use Rattle.reasons.specs.Certificates.{positions_of}
use Rattle.knows_row.proofs.Lawful.{lawful}
use Rattle.law_lines.proofs.Lines.{line_of_histories}
use Rattle.propagate.proofs.Certified.{certified_is_greatest}
use Rattle.propagate.proofs.cut.certified_lines_are_the_greatest.Goals as goal

pub returns-clause-cut : goal.returns-clause-cut
returns-clause-cut c = λ held certificate folded h. certified_is_greatest held certificate (lawful held.accepted folded) h

pub returns-clause-of_histories : goal.returns-clause-of_histories
returns-clause-of_histories c = λ held certificate folded h.
    line_of_histories held.accepted certificate.failed (positions_of certificate.line) folded (certified_is_greatest held certificate (lawful held.accepted folded) h)
