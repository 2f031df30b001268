use Rattle.std.proofs.Common.{sym, ap, ◌∙◌, Some}
use Rattle.std.proofs.lemmas.Option.{slice_get-get_or}
use Rattle.chains.specs.Processes.{known}
use Rattle.chains.proofs.LookUps.{absent, found_name}
use Rattle.chains.proofs.chains.Chains.number_of.Goals as goal

pub returns-in-None : goal.returns-in-None
returns-in-None c =
    rw (← c.self.view_is) (absent c.self.inside.names.keys c.self.inside.reports.items c.args.name.now c.self.invariant.fields.named (sym c.in-None.ensures.found))

pub returns-in-Some : goal.returns-in-Some
returns-in-Some c =
    let accepted = c.self.inside.reports.items in
    let there = found_name c.self.inside.names.keys accepted c.args.name.now c.in-Some.place c.self.invariant.fields.named (sym c.in-Some.ensures.index) in
    rw (← c.self.view_is) (slice_get-get_or (known accepted) c.in-Some.place c.args.name.now there.0 ∙ ap (λ n. Some n) there.1)
