use Rattle.std.proofs.Common.{◌≡◌, ℕ, ◌+◌, ◌-◌, List, [], ◌∷◌, ◌++◌, length, drop, sym, ◌∙◌, ap, subst, arith, rules, length-drop}
use Rattle.std.proofs.lemmas.List.{append-nil, map_push}
use Rattle.record_file.specs.File.{Said, IsNoRecord, bytes_in}
use Rattle.record_file.specs.Kept.{said_in}
use Rattle.record_file.specs.Reading.{IsSoFar}
use Rattle.record_file.proofs.Walking.{length-said, one_so_far, split_more, no_record_more, behind_is, gate_then}
use Rattle.record_file.proofs.reading.walk.Goals as goal
use Rattle.record_file.proofs.reading.walk.Goals.{then-last-via-then-last, then-last-via-else-last+then-after-ge-MAX_RECORD}

pub returns-then-last-clause-damaged : goal.returns-then-last-clause-damaged
returns-then-last-clause-damaged c = λ file behind so_far ends.
    let after = c.split_at.result.1.now in
    let none : IsNoRecord c.args.version after = c.in_default.ensures.none in
    record {
      said = said_in c.loop-at.records.items;
      number = omega (arith, c.len.ensures, c.loop-at.records.ok, length-said c.loop-at.records.items);
      rest = after ++ behind;
      none = elim c.then-last.branch [
        | then-last-via-then-last w ↦ subst (IsNoRecord c.args.version) (sym (append-nil after) ∙ ap (λ (l : List ℕ). after ++ l) (sym (ends w.if-last.true))) none
        | then-last-via-else-last+then-after-ge-MAX_RECORD w ↦ no_record_more c.args.version after behind w.if-after-ge-MAX_RECORD.true none
      ];
      so_far = subst (IsSoFar c.args.version file (said_in c.loop-at.records.items)) (gate_then c.args.bytes.now after behind c.loop-at.at 1 c.loop-at.invariant.inside c.loop-at-test.true c.split_at.ensures.back)
          (c.loop-at.invariant.so_far file behind so_far);
    }

pub loop-at-preserved : goal.loop-at-preserved
loop-at-preserved c =
    let said = said_in c.loop-at.records.items in
    let bytes = c.args.bytes.now in
    let epoch = c.in-Some.epoch in
    let line = c.in-Some.line.now in
    let rest = c.in-Some.behind.now in
    let after = c.split_at.result.1.now in
    let split = c.in-Some.ensures.some in
    let copied : c.in_ok-to_vec.field-0.items ≡ line = search rules in
    let same : said_in c.push.new.self.items ≡ said ++ (epoch, line) ∷ [] =
    ap said_in c.in_ok-push.ensures.items ∙ map_push (λ r. (r.0, r.1.items)) c.loop-at.records.items (epoch, c.in_ok-to_vec.field-0) ∙ ap (λ (l : List ℕ). said ++ (epoch, l) ∷ []) copied in
    let from : drop (length bytes - length rest) bytes ≡ rest =
    behind_is bytes (bytes_in split.form epoch line) rest (c.loop-at.at + 1) (omega (arith, c.loop-at.invariant.inside)) (sym c.split_at.ensures.back ∙ split.is) in
    record {
      inside = omega (arith, split.some, ap length from, length-drop (length bytes - length rest) bytes);
      so_far = λ file behind so_far.
          subst (λ (l : List ℕ). IsSoFar c.args.version file (said_in c.push.new.self.items) (l ++ behind)) (sym from)
          (subst (λ (ss : List Said). IsSoFar c.args.version file ss (rest ++ behind)) (sym same)
          (one_so_far c.args.version file said (drop c.loop-at.at bytes ++ behind) epoch line (rest ++ behind) (after ++ behind) (c.loop-at.invariant.so_far file behind so_far)
          (gate_then bytes after behind c.loop-at.at 1 c.loop-at.invariant.inside c.loop-at-test.true c.split_at.ensures.back) (split_more c.args.version epoch line rest after behind split)));
    }
