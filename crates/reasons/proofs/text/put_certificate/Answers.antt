use Rattle.reasons.proofs.Writing.{all_put}
use Rattle.reasons.proofs.text.put_certificate.Goals as goal

pub returns : goal.returns
returns c =
    all_put _ _ _ _ _ c.args.certificate.now.front (record {
      opened = _;
      failed = _;
      front_key = _;
      front_put = _;
      line_key = _;
      line = _;
      reasons_key = _;
      reasons = _;
      opened_is = c.in_ok-put_first_key.ensures;
      failed_is = rw c.as_slice.ensures at c.in_ok-put_names.ensures;
      front_key_is = c.in_ok-push_str.ensures.bytes;
      front_is = rw c.format.ensures.text at c.in_ok-push_str-2.ensures.bytes;
      line_key_is = c.in_ok-push_str-3.ensures.bytes;
      line_is = rw c.as_slice-2.ensures at c.in_ok-put_places.ensures;
      reasons_key_is = c.in_ok-push_str-4.ensures.bytes;
      reasons_is = rw c.as_slice-3.ensures at c.in_ok-put_reasons.ensures;
      closed = c.in_ok-push_str-5.ensures.bytes;
    })
