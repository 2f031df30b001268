use Rattle.std.proofs.Common.{subst}
use Rattle.chains.specs.Held.{held_of}
use Rattle.reason_check.specs.Causes.{IsVerdict}
use Rattle.reason_check.specs.declared.answer.Verdict.{Verdict}
use Rattle.recline.proofs.checking.verdict_on.Goals as goal

pub returns : goal.returns
returns c =
    let held = held_of c.args.chains.now in
    record {
      verdict_is = c.check.ensures.verdict;
      of_histories = λ yes.
          c.certified_lines_are_the_greatest.ensures.of_histories held c.args.certificate.now c.recall_lawful.ensures.folded
          (subst (λ (v : Verdict). IsVerdict held c.args.certificate.now v) yes c.check.ensures.verdict);
    }
