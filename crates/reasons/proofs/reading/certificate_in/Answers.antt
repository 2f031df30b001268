use Rattle.std.proofs.Common.{◌≡◌, List, map, Vec, Global, sym, ◌∙◌}
use Rattle.std.proofs.lemmas.Result.{err_from_is_err_and}
use Rattle.std.specs.Prelude.{Some, flat_map}
use Rattle.chains.specs.declared.position.Place.{Place}
use Rattle.chains.specs.Processes.{Name}
use Rattle.reasons.specs.declared.certificate.Certificate.{Certificate}
use Rattle.reasons.specs.CertificateReading.{NamedPlace, NamedCertificate, place_named, IsNumbered}
use Rattle.reasons.proofs.Taking.{fault_second, fault_third, all_three, member_is, number_is}
use Rattle.reasons.proofs.reading.certificate_in.Goals as goal

abbrev line_names : NamedCertificate → List Name
line_names named = map (λ (x : NamedPlace). x.name) named.line

abbrev reason_names : NamedCertificate → List Name
reason_names named = flat_map (λ (chain : List NamedPlace). map (λ (x : NamedPlace). x.name) chain) named.reasons

pub returns-in_err-line : goal.returns-in_err-line
returns-in_err-line c named v =
    let p = err_from_is_err_and c.from_residual-in_err-line.result c.from_residual-in_err-line.ensures.1 in
    let failed = c.in_ok-failed.ensures named.failed (member_is _ _ _ c.in_ok-member.ensures v.failed) in
    rw (p.1, p.2) (fault_second (Vec Place Global) Certificate c.args.chains.now.accepted named.failed (line_names named) (reason_names named)
    (λ (w : Vec Place Global). map (place_named c.args.chains.now.accepted) w.items ≡ map Some named.line) (IsNumbered c.args.chains.now.accepted named) c.in_err-line.field-0.0 failed.0
    (c.in_err-line.ensures named.line v.small_line (member_is _ _ _ c.in_ok-member-2.ensures v.line)))

pub returns-in_err-reasons : goal.returns-in_err-reasons
returns-in_err-reasons c named v =
    let p = err_from_is_err_and c.from_residual-in_err-reasons.result c.from_residual-in_err-reasons.ensures.1 in
    let failed = c.in_ok-failed.ensures named.failed (member_is _ _ _ c.in_ok-member.ensures v.failed) in
    let line = c.in_ok-line.ensures named.line v.small_line (member_is _ _ _ c.in_ok-member-2.ensures v.line) in
    rw (p.1, p.2) (fault_third (List (List Place)) Certificate c.args.chains.now.accepted named.failed (line_names named) (reason_names named)
    (λ (w : List (List Place)). map (λ (chain : List Place). map (place_named c.args.chains.now.accepted) chain) w ≡ map (λ (chain : List NamedPlace). map Some chain) named.reasons) (IsNumbered c.args.chains.now.accepted named) c.in_err-reasons.field-0.0
    failed.0 line.0 (c.in_err-reasons.ensures named.reasons v.small_reasons (member_is _ _ _ c.in_ok-member-3.ensures v.reasons)))

pub returns-in-Some : goal.returns-in-Some
returns-in-Some c named v =
    let failed = c.in_ok-failed.ensures named.failed (member_is _ _ _ c.in_ok-member.ensures v.failed) in
    let line = c.in_ok-line.ensures named.line v.small_line (member_is _ _ _ c.in_ok-member-2.ensures v.line) in
    let reasons = c.in_ok-reasons.ensures named.reasons v.small_reasons (member_is _ _ _ c.in_ok-member-3.ensures v.reasons) in (
      all_three c.args.chains.now.accepted named.failed (line_names named) (reason_names named) failed.0 line.0 reasons.0,
      (record {
        failed = rw c.from_vec.ensures failed.1;
        front = number_is _ _ (sym c.in-Some.ensures ∙ member_is _ _ _ c.in_ok-member-4.ensures v.front);
        line = rw c.from_vec-in-Some.ensures line.1;
        reasons = reasons.1;
      }),
    )
