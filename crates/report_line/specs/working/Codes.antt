-- How the logic stores what reports are seen as.
use Rattle.std.specs.Prelude.{◌≡◌, ◌⊎◌, ℕ, zero, suc, List, refl}
use Rattle.std.specs.Coded.{Coded, code_by, coded×, coded⊎, coded_ℕ, coded_list}
use Rattle.std.proofs.Common.{inl, inr}
use Rattle.id_tree.specs.IdTree.{IdTree, id_tree_code}
use Rattle.event_tree.specs.EventTree.{EventTree, event_tree_code}
use Rattle.stamp.specs.declared.stamp.Stamp.{Stamp}
use Rattle.report_line.specs.declared.report.ReportKind.{ReportKind}
use Rattle.report_line.specs.declared.report.ReportKind.TheVariants.{Check, Present, Fork, Retire, Absorb}
use Rattle.report_line.specs.declared.report.NumberedReport.{NumberedReport}
use Rattle.report_line.specs.declared.report.Report.{Report}
use Rattle.report_line.specs.declared.report.Report.TheVariants.{Begin, Numbered}

abbrev pub stamp_code : Coded Stamp
stamp_code = code_by (IdTree × EventTree) (coded× id_tree_code event_tree_code) (λ s. (s.id, s.events)) (λ p. record { id = p.0; events = p.1 }) (λ _. refl)

abbrev pub ActionFields : Type 0
ActionFields = ℕ ⊎ ((IdTree × (List ℕ × IdTree)) ⊎ (List ℕ ⊎ List ℕ))

abbrev pub action_fields : ReportKind → ActionFields
action_fields Check = inl 0
action_fields Present = inl 1
action_fields (Fork f) = inr (inl (f.kept, (f.child, f.given)))
action_fields (Retire target) = inr (inr (inl target))
action_fields (Absorb retired) = inr (inr (inr retired))

abbrev pub action_of : ActionFields → ReportKind
action_of (inl zero) = Check
action_of (inl (suc n)) = Present
action_of (inr (inl f)) = Fork (record { kept = f.0; child = f.1.0; given = f.1.1 })
action_of (inr (inr (inl target))) = Retire target
action_of (inr (inr (inr retired))) = Absorb retired

pub action_of-action_fields : (a : ReportKind) → action_of (action_fields a) ≡ a
action_of-action_fields Check = refl
action_of-action_fields Present = refl
action_of-action_fields (Fork f) = refl
action_of-action_fields (Retire target) = refl
action_of-action_fields (Absorb retired) = refl

abbrev pub action_code : Coded ReportKind
action_code =
    code_by ActionFields (coded⊎ coded_ℕ (coded⊎ (coded× id_tree_code (coded× (coded_list coded_ℕ) id_tree_code)) (coded⊎ (coded_list coded_ℕ) (coded_list coded_ℕ)))) action_fields action_of action_of-action_fields

abbrev pub numbered_code : Coded NumberedReport
numbered_code =
    code_by (List ℕ × (ℕ × (Stamp × ReportKind))) (coded× (coded_list coded_ℕ) (coded× coded_ℕ (coded× stamp_code action_code))) (λ r. (r.process, (r.number, (r.stamp, r.action))))
    (λ p. record { process = p.0; number = p.1.0; stamp = p.1.1.0; action = p.1.1.1 }) (λ _. refl)

abbrev pub Fields : Type 0
Fields = List ℕ ⊎ NumberedReport

abbrev pub fields_of : Report → Fields
fields_of (Begin p) = inl p
fields_of (Numbered r) = inr r

abbrev pub report_of : Fields → Report
report_of (inl p) = Begin p
report_of (inr r) = Numbered r

pub report_of-fields_of : (r : Report) → report_of (fields_of r) ≡ r
report_of-fields_of (Begin p) = refl
report_of-fields_of (Numbered r) = refl

abbrev pub report_code : Coded Report
report_code = code_by Fields (coded⊎ (coded_list coded_ℕ) numbered_code) fields_of report_of report_of-fields_of
