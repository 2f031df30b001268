use Rattle.std.proofs.Common.{◌≡◌, ℕ, List, Ok, Err, inl, subst, ◌∙◌}
use Rattle.report_line.specs.Cutting.{ended}
use Rattle.reasons.specs.CertificateReading.{IsReadAs}
use Rattle.reason_check.specs.Texts.{verdict_text}
use Rattle.recline.specs.Driving.{WritesPart}
use Rattle.recline.proofs.Reading.{part_behind, read_whole}
use Rattle.recline.proofs.checking.check_over.Goals as goal

pub returns-in-Err : goal.returns-in-Err
returns-in-Err g c =
    let read = c.in-Ok.ensures in (
      c.in-Err.fault,
      c.cause_of.ensures,
      record {
        text = c.in-Ok.text.items;
        only = read.only;
        at_end = read.at_end;
        sound = read.sound;
        text_is = subst (λ (l : List ℕ). IsReadAs c.args.chains.now.accepted l (Err c.in-Err.fault)) c.deref.ensures.value c.in-Err.ensures;
      },
    )

pub returns : goal.returns
returns g c =
    let read = c.in-Ok.ensures in
    let verdict = c.verdict_on-verdict.result in
    let line : c.deref-2.result.now ≡ ended (verdict_text verdict) = c.deref-2.ensures.value ∙ c.in-Ok-line_of.ensures in
    inl (
      verdict,
      record {
        text = c.in-Ok.text.items;
        certificate = c.in-Ok-from_json.certificate;
        read = read_whole _ _ _ _ read c.write_all.ensures.left c.write_all.ensures.reads;
        text_is = subst (λ (l : List ℕ). IsReadAs c.args.chains.now.accepted l (Ok c.in-Ok-from_json.certificate)) c.deref.ensures.value c.in-Ok-from_json.ensures;
        verdict_on = c.verdict_on-verdict.ensures;
      },
      subst (λ (l : List ℕ). WritesPart (g.K.Link.told c.args.client.now) (g.K.Link.told c.write_all.new.link) l) line (part_behind _ _ _ _ _ read c.in-Err-write_all.ensures.writes),
    )
