use Rattle.std.proofs.Common.{◌≡◌, ◌++◌, ◌∷◌, rules}
use Rattle.report_line.specs.Cuts.{Lacks}
use Rattle.report_line.specs.Names.{AreNames, parts_in}
use Rattle.report_line.proofs.Rows.{last_name, first_name, last_part, first_part, first_taken_are}
use Rattle.report_line.proofs.row.NamesLeft.next.Goals as goal

pub name_of-requires : goal.name_of-requires
name_of-requires c =
    let are : AreNames (parts_in c.in_ok-rest.rest.now) = search rules in
    last_name c.in_ok-rest.rest.now c.in-None.ensures are

pub returns-in-None-clause-name : goal.returns-in-None-clause-name
returns-in-None-clause-name c =
    let now : c.args.self.now ≡ parts_in c.in_ok-rest.rest.now = search rules in
    rw (now, c.name_of.ensures) (last_part c.in_ok-rest.rest.now c.in-None.ensures)

pub invariant_of-self-in-Some : goal.invariant_of-self-in-Some
invariant_of-self-in-Some c =
    let are : AreNames (parts_in c.in_ok-rest.rest.now) = search rules in
    let cut : Lacks 44 c.in-Some.part.now × (c.in_ok-rest.rest.now ≡ c.in-Some.part.now ++ 44 ∷ c.in-Some.behind.now) = c.in-Some.ensures in
    first_taken_are c.in_ok-rest.rest.now c.in-Some.part.now c.in-Some.behind.now cut.0 cut.1 are

pub name_of-requires-in-Some : goal.name_of-requires-in-Some
name_of-requires-in-Some c =
    let are : AreNames (parts_in c.in_ok-rest.rest.now) = search rules in
    let cut : Lacks 44 c.in-Some.part.now × (c.in_ok-rest.rest.now ≡ c.in-Some.part.now ++ 44 ∷ c.in-Some.behind.now) = c.in-Some.ensures in
    first_name c.in_ok-rest.rest.now c.in-Some.part.now c.in-Some.behind.now cut.0 cut.1 are

pub returns-in-Some-clause-name : goal.returns-in-Some-clause-name
returns-in-Some-clause-name c =
    let now : c.args.self.now ≡ parts_in c.in_ok-rest.rest.now = search rules in
    let cut : Lacks 44 c.in-Some.part.now × (c.in_ok-rest.rest.now ≡ c.in-Some.part.now ++ 44 ∷ c.in-Some.behind.now) = c.in-Some.ensures in
    rw (now, c.name_of-in-Some.ensures) (first_part c.in_ok-rest.rest.now c.in-Some.part.now c.in-Some.behind.now cut.0 cut.1)
