use Rattle.std.proofs.Common.{inl, inr, refl, sym, ◌∙◌, arith}
use Rattle.std.proofs.lemmas.Bool.{true≢false}
use Rattle.chains.specs.Held.{held_of}
use Rattle.chains.specs.Admission.{report_limit}
use Rattle.chains.proofs.Refusing.{refused_with}
use Rattle.chains.proofs.chains.Chains.may_settle.Goals as goal

pub returns-then-front-clause-err : goal.returns-then-front-clause-err
returns-then-front-clause-err c =
    let held = held_of c.args.self.now in
    refused_with held c.args.front c.args.names.now c.with_number.result _ c.front-then-front.result held.front c.front-then-front.ensures c.with_number.ensures
    (inr (λ e. true≢false (sym (c.is_empty.ensures.1 e) ∙ c.if-is_empty.false), inr (c.in-None.ensures, inl (λ e. c.if-front.true (e ∙ sym c.front.ensures), refl))))

pub returns-then-front-ge-REPORT_LIMIT-clause-err : goal.returns-then-front-ge-REPORT_LIMIT-clause-err
returns-then-front-ge-REPORT_LIMIT-clause-err c =
    let held = held_of c.args.self.now in
    refused_with held c.args.front c.args.names.now c.with_number-then-front-ge-REPORT_LIMIT.result _ report_limit report_limit refl c.with_number-then-front-ge-REPORT_LIMIT.ensures
    (inr (
      λ e. true≢false (sym (c.is_empty.ensures.1 e) ∙ c.if-is_empty.false),
      inr (
        c.in-None.ensures,
        inr (
          λ other. other (c.if-front.false ∙ c.front.ensures),
          inl (omega (arith, c.front-2.ensures, c.if-front-ge-REPORT_LIMIT.true), refl),
        ),
      ),
    ))
