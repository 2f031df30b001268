-- Whether the target of a retirement retired.
use Rattle.std.proofs.Common.{◌≡◌, List, Option, None, sym, ap}
use Rattle.std.specs.Option.{option_map}
use Rattle.report_line.specs.declared.report.Report.{Report}
use Rattle.chains.specs.Processes.{Name, IsKnown, target_after, target_of}
use Rattle.chains.specs.Folded.{IsFolded}
use Rattle.chains.proofs.Reaching.{well_made}
use Rattle.record_show.specs.Processes.{if_retired}

pub it_lives : (accepted : List Report) (q : Name) → None ≡ target_of q accepted → None ≡ if_retired accepted q
it_lives accepted q e = ap (λ (o : Option Name). option_map (λ target. q) o) e

pub unknown_lives : (accepted : List Report) (q : Name) → IsFolded accepted → ¬ IsKnown accepted q → None ≡ if_retired accepted q
unknown_lives accepted q folded unknown = it_lives accepted q (sym (ap target_after ((well_made accepted folded).unreported q unknown)))
