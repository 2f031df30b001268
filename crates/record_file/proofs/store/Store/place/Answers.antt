use Rattle.std.proofs.Common.{◌≡◌, ℕ, List, [], ◌∷◌, ◌++◌, length, take, drop, refl, sym, ◌∙◌, ap, arith, rules}
use Rattle.std.proofs.lemmas.List.{take_at}
use Rattle.record_file.specs.File.{Said, record_of, IsFit}
use Rattle.record_file.specs.Staging.{long_record}
use Rattle.record_file.specs.Store.{HasRecords}
use Rattle.record_file.proofs.Appending.{stage_crash, stage_any, stage_before, was_staged, gate_any, gate_crash, done, at_rest_stands, on_ok}
use Rattle.record_file.proofs.store.Store.place.Goals as goal
use Rattle.record_file.proofs.store.Store.place.Goals.{After-write_durably, After-write_durably-2}

-- what is written is the record with a closed gate behind it
is_record : (g : _) (c : After-write_durably g) → take c.fill-n.result c.deref.result.now ≡ record_of (long_record (c.args.epoch, c.args.line.now)) ++ 0 ∷ []
is_record g c =
    ap (λ (l : List ℕ). take c.fill-n.result l) (c.deref.ensures.value ∙ take_at c.fill-n.new.buffer (drop (length c.fill-n.new.buffer) c.args.self.now.buffer.items) c.args.self.now.buffer.len (search rules))
    ∙ c.fill-n.ensures.bytes

pub returns-then-is_err-clause-append : goal.returns-then-is_err-clause-append
returns-then-is_err-clause-append g c =
    let one : Said = (c.args.epoch, c.args.line.now) in
    let fits : IsFit c.args.self.now.version (long_record one) = ((c.requires.some, c.requires.fits), (c.requires.second, c.ranges.epoch.fits)) in
    let bytes = is_record g (goal.at.returns-then-is_err-clause-append g c).After-write_durably in
    record {
      done = search rules;
      any_moment = λ said keeps s. stage_any _ said one _ c.args.self.now.end _ _ _ s fits refl bytes (c.write_durably.ensures.crash keeps);
      after = λ said keeps s. stage_crash _ said one _ c.args.self.now.end _ _ _ s fits refl bytes (c.write_durably.ensures.crash keeps);
      so_far = λ said keeps s. stage_before _ said one _ c.args.self.now.end _ _ _ s fits refl bytes (c.write_durably.ensures.crash keeps);
      stops = search rules;
      cause = search rules;
      premise = search rules;
      found = search rules;
    }

pub returns-then-is_err-2-clause-append : goal.returns-then-is_err-2-clause-append
returns-then-is_err-2-clause-append g c =
    let one : Said = (c.args.epoch, c.args.line.now) in
    let fits : IsFit c.args.self.now.version (long_record one) = ((c.requires.some, c.requires.fits), (c.requires.second, c.ranges.epoch.fits)) in
    let bytes = is_record g (goal.at.returns-then-is_err-2-clause-append g c).After-write_durably in
    let good = sym c.is_err.ensures.value ∙ c.if-is_err.false in
    record {
      done = search rules;
      any_moment = λ said keeps s.
          let again = c.write_durably.ensures.premise.1 keeps in
          gate_any _ said one _ c.args.self.now.end _ _ _ s fits refl bytes (c.write_durably.ensures.crash keeps) _ (on_ok c.write_durably.result good (c.write_durably.ensures.written keeps))
          (on_ok c.write_durably.result good (c.write_durably.ensures.durable keeps)) (c.write_durably-2.ensures.crash again);
      after = λ said keeps s.
          let again = c.write_durably.ensures.premise.1 keeps in
          gate_crash _ said one _ c.args.self.now.end _ _ _ s fits refl bytes (c.write_durably.ensures.crash keeps) _ (on_ok c.write_durably.result good (c.write_durably.ensures.written keeps))
          (on_ok c.write_durably.result good (c.write_durably.ensures.durable keeps)) (c.write_durably-2.ensures.crash again);
      so_far = λ said keeps s.
          let again = c.write_durably.ensures.premise.1 keeps in
          was_staged _ said one _ c.args.self.now.end _ _ _ s fits refl bytes (c.write_durably.ensures.crash keeps) _ (on_ok c.write_durably.result good (c.write_durably.ensures.written keeps))
          (on_ok c.write_durably.result good (c.write_durably.ensures.durable keeps)) (c.write_durably-2.ensures.crash again) (g.met.D.Disk.read_is_left _ again);
      stops = search rules;
      cause = search rules;
      premise = search rules;
      found = search rules;
    }

pub returns-clause-append : goal.returns-clause-append
returns-clause-append g c =
    let one : Said = (c.args.epoch, c.args.line.now) in
    let fits : IsFit c.args.self.now.version (long_record one) = ((c.requires.some, c.requires.fits), (c.requires.second, c.ranges.epoch.fits)) in
    let bytes = is_record g (goal.at.returns-clause-append g c).After-write_durably in
    let good = sym c.is_err.ensures.value ∙ c.if-is_err.false in
    let good_too = sym c.is_err-2.ensures.value ∙ c.if-is_err-2.false in
    let rests : (said : List Said) → g.D.Disk.keeps c.args.self.now.disk → HasRecords g.D.Disk.view c.args.self.now said → _ = λ said keeps s.
    let again = c.write_durably.ensures.premise.1 keeps in
    done _ said one _ c.args.self.now.end _ _ _ s fits refl bytes (c.write_durably.ensures.crash keeps) _ (on_ok c.write_durably.result good (c.write_durably.ensures.written keeps))
    (on_ok c.write_durably.result good (c.write_durably.ensures.durable keeps)) (c.write_durably-2.ensures.crash again) c.fill-n.result (omega (arith, c.fill-n.ensures.size))
    (on_ok c.write_durably-2.result good_too (c.write_durably-2.ensures.written again)) (on_ok c.write_durably-2.result good_too (c.write_durably-2.ensures.durable again)) in
    record {
      done = rests;
      any_moment = λ said keeps s.
          let again = c.write_durably.ensures.premise.1 keeps in
          gate_any _ said one _ c.args.self.now.end _ _ _ s fits refl bytes (c.write_durably.ensures.crash keeps) _ (on_ok c.write_durably.result good (c.write_durably.ensures.written keeps))
          (on_ok c.write_durably.result good (c.write_durably.ensures.durable keeps)) (c.write_durably-2.ensures.crash again);
      after = λ said keeps s. at_rest_stands _ _ _ _ (rests said keeps s);
      so_far = λ said keeps s.
          let again = c.write_durably.ensures.premise.1 keeps in
          was_staged _ said one _ c.args.self.now.end _ _ _ s fits refl bytes (c.write_durably.ensures.crash keeps) _ (on_ok c.write_durably.result good (c.write_durably.ensures.written keeps))
          (on_ok c.write_durably.result good (c.write_durably.ensures.durable keeps)) (c.write_durably-2.ensures.crash again) (g.met.D.Disk.read_is_left _ again);
      stops = search rules;
      cause = search rules;
      premise = search rules;
      found = search rules;
    }
