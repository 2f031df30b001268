-- How the logic stores steps.
use Rattle.std.specs.Prelude.{◌≡◌, ℕ, ◌==◌, cond, List, [], refl}
use Rattle.std.specs.Coded.{Coded, code_by, coded×, coded_ℕ, coded_list}
use Rattle.id_tree.specs.IdTree.{IdTree, Zero, id_tree_code}
use Rattle.stamp.specs.declared.stamp.Stamp.{Stamp}
use Rattle.report_line.specs.working.Codes.{stamp_code}
use Rattle.report_line.specs.declared.step.StepKind.{StepKind}
use Rattle.report_line.specs.declared.step.StepKind.TheVariants.{Work, Check, Present, Send, Receive, Fork, Retire, Absorb}
use Rattle.report_line.specs.declared.step.Step.{Step}

abbrev pub StepKindFields : Type 0
StepKindFields = ℕ × (List ℕ × IdTree)

abbrev pub step_kind_fields : StepKind → StepKindFields
step_kind_fields Work = (0, ([], Zero))
step_kind_fields Check = (1, ([], Zero))
step_kind_fields Present = (2, ([], Zero))
step_kind_fields (Send m) = (3, (m, Zero))
step_kind_fields (Receive m) = (4, (m, Zero))
step_kind_fields (Fork c i) = (5, (c, i))
step_kind_fields (Retire q) = (6, (q, Zero))
step_kind_fields (Absorb r) = (7, (r, Zero))

abbrev pub step_kind_by : ℕ → List ℕ → IdTree → StepKind
step_kind_by t n i =
    cond (t == 0) Work (cond (t == 1) Check (cond (t == 2) Present (cond (t == 3) (Send n)
    (cond (t == 4) (Receive n) (cond (t == 5) (Fork n i) (cond (t == 6) (Retire n) (Absorb n)))))))

pub step_kind_by-step_kind_fields : (d : StepKind) → step_kind_by (step_kind_fields d).0 (step_kind_fields d).1.0 (step_kind_fields d).1.1 ≡ d
step_kind_by-step_kind_fields Work = refl
step_kind_by-step_kind_fields Check = refl
step_kind_by-step_kind_fields Present = refl
step_kind_by-step_kind_fields (Send m) = refl
step_kind_by-step_kind_fields (Receive m) = refl
step_kind_by-step_kind_fields (Fork c i) = refl
step_kind_by-step_kind_fields (Retire q) = refl
step_kind_by-step_kind_fields (Absorb r) = refl

abbrev pub step_kind_code : Coded StepKind
step_kind_code = code_by StepKindFields (coded× coded_ℕ (coded× (coded_list coded_ℕ) id_tree_code)) step_kind_fields (λ f. step_kind_by f.0 f.1.0 f.1.1) step_kind_by-step_kind_fields

abbrev pub step_code : Coded Step
step_code =
    code_by (List ℕ × (StepKind × Stamp)) (coded× (coded_list coded_ℕ) (coded× step_kind_code stamp_code)) (λ s. (s.process, (s.step_kind, s.stamp))) (λ f. record { process = f.0; step_kind = f.1.0; stamp = f.1.1 }) (λ _. refl)
