use Rattle.chains.proofs.Lists.{refuted}
use Rattle.reasons.proofs.shape.is_certificate.Goals as goal

pub returns-then-not-has_texts : goal.returns-then-not-has_texts
returns-then-not-has_texts c = (
  (λ yes. absurd cc),
  (λ is. absurd (refuted c.has_texts.result c.has_texts.ensures c.if-not-has_texts.true (is.0.failed, (λ k d l. tt), is.1.failed))),
)

pub returns : goal.returns
returns c = (
  (λ yes.
      let texts = c.has_texts.ensures.0 c.if-not-has_texts.false in
      let front = c.has_front.ensures.0 c.if-not-has_front.false in
      let places = c.has_places.ensures.0 c.if-not-has_places.false in
      let chains = c.has_chains.ensures.0 yes in (
        (record { failed = texts.0; front = front.0; line = places.0; reasons = chains.0 }),
        (record {
          four = c.member_count.ensures.0 c.if-member_count-ne4.false;
          failed = texts.2;
          front = front.2;
          line = places.2;
          reasons = chains.2;
          small_front = front.1;
          small_line = places.1;
          small_reasons = chains.1;
        }),
      )),
  (λ is. c.has_chains.ensures.1 (is.0.reasons, is.1.small_reasons, is.1.reasons)),
)
