-- Working definitions: how the logic stores what a world is seen as.
use Rattle.std.specs.Prelude.{ℕ, List, refl}
use Rattle.std.specs.Coded.{Coded, code_by, coded×, coded_ℕ, coded_list}
use Rattle.report_line.specs.declared.step.Step.{Step as Taken}
use Rattle.report_line.specs.working.StepCodes.{step_code}
use Rattle.driver.specs.Chronicle.{Chronicle}

abbrev pub chronicle_code : Coded Chronicle
chronicle_code =
    code_by (List ℕ × (ℕ × List Taken)) (coded× (coded_list coded_ℕ) (coded× coded_ℕ (coded_list step_code)))
    (λ c. (c.root, (c.epoch, c.history))) (λ p. record { root = p.0; epoch = p.1.0; history = p.1.1 }) (λ _. refl)
