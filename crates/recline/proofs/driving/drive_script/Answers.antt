-- A script is driven in its form.
use Rattle.std.proofs.Common.{◌≡◌, ℕ, List, refl, sym, subst, ◌∙◌}
use Rattle.script.specs.declared.end.End.{End}
use Rattle.script.specs.declared.end.End.TheVariants.{Done, Refused, Memory}
use Rattle.script.specs.Driven.{IsDriven}
use Rattle.recline.specs.Commented.{number_in}
use Rattle.recline.specs.working.Commented.{lines_of}
use Rattle.recline.specs.declared.commented.ScriptForm.{ScriptForm}
use Rattle.recline.specs.declared.commented.ScriptForm.TheVariants as forms
use Rattle.recline.specs.declared.driving.ReadScript.{ReadScript}
use Rattle.recline.specs.declared.driving.ReadScript.TheVariants as scripts
use Rattle.recline.specs.Driving.{IsDrivenIn, numbered_by}
use Rattle.recline.specs.working.Driving.{IsIn, line_in, script_of, steps_of}
use Rattle.recline.proofs.StepLines.{lines_are}
use Rattle.recline.proofs.driving.drive_script.Goals as goal

plain_end : (script : _) (end : End) → numbered_by (line_in (scripts.Plain script)) end ≡ end
plain_end script Done = refl
plain_end script (Refused step cause) = refl
plain_end script Memory = refl

commented_end : (script steps : _) (end : End) → numbered_by (line_in (scripts.Commented script steps)) end ≡ numbered_by (number_in (lines_of script.items)) end
commented_end script steps Done = refl
commented_end script steps (Refused step cause) = refl
commented_end script steps Memory = refl

driven_in : (form : ScriptForm) (script : ReadScript) (text : List ℕ) (passed end : End) → IsDriven (steps_of script) text passed → end ≡ numbered_by (line_in script) passed → IsIn form script → IsDrivenIn form (script_of script) text end
driven_in forms.Plain (scripts.Plain script) text passed end driven is written = subst (λ (e : End). IsDriven script.items text e) (sym (is ∙ plain_end script passed)) driven
driven_in forms.Plain (scripts.Commented script steps) text passed end driven is written = absurd written
driven_in forms.Commented (scripts.Plain script) text passed end driven is written = absurd written
driven_in forms.Commented (scripts.Commented script steps) text passed end driven is written = record {
  lines = lines_of script.items;
  lines_are = lines_are script.items;
  passed_end = passed;
  driven = subst (λ (l : List ℕ). IsDriven l text passed) written driven;
  end_is = is ∙ commented_end script steps passed;
}

pub returns : goal.returns
returns c form written =
    driven_in form c.args.script.now c.drive-text.result.0.items c.drive-text.result.1 c.end_of.result (subst (λ (l : List ℕ). IsDriven l c.drive-text.result.0.items c.drive-text.result.1) c.steps.ensures c.drive-text.ensures) c.end_of.ensures written
