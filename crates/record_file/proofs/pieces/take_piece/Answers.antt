use Rattle.std.proofs.Common.{◌≡◌, ◌-◌, ◌++◌, take, drop, sym, ◌∙◌, subst, arith, length-drop, rules}
use Rattle.std.proofs.lemmas.List.{drop_all}
use Rattle.std.proofs.lemmas.Result.{err_from_is_err_and}
use Rattle.record_file.specs.Kept.{said_in}
use Rattle.record_file.specs.Reading.{IsSoFar}
use Rattle.record_file.proofs.Walking.{piece_then, piece_from, refused_by}
use Rattle.record_file.proofs.pieces.take_piece.Goals as goal

pub returns-in_err-n-clause-refused : goal.returns-in_err-n-clause-refused
returns-in_err-n-clause-refused g c = λ keeps so_far is.
    let p = err_from_is_err_and c.from_residual-in_err-n.result c.from_residual-in_err-n.ensures.1 in
    let file = (g.D.Disk.view c.args.disk.now).seen in
    let at = c.args.reading.now.at in
    let n = c.args.reading.now.end - at in
    let version = c.args.reading.now.version in
    let piece : c.deref.result.now ≡ take n (drop at file) = c.deref.ensures.value ∙ c.in_ok-piece.ensures.bytes keeps in
    let whole : IsSoFar version (drop 8 file) (said_in c.args.reading.now.records.items) (c.deref.result.now ++ drop n (drop at file)) =
    subst (IsSoFar version (drop 8 file) (said_in c.args.reading.now.records.items)) (sym (piece_then file c.deref.result.now at n piece)) so_far in
    rw (p.1, p.2) (refused_by file version c.in_err-n.field-0.0 (omega (arith, c.requires keeps, c.args.reading.now.long_enough)) is
    (c.in_err-n.ensures.damaged (drop 8 file) (drop n (drop at file)) whole (λ last. let ends : c.args.reading.now.end ≡ c.args.reading.now.len = search rules in drop_all n (drop at file) (omega (arith, c.requires keeps, length-drop at file, ends)))))

pub returns-clause-read : goal.returns-clause-read
returns-clause-read g c = λ keeps so_far.
    let file = (g.D.Disk.view c.args.disk.now).seen in
    let at = c.args.reading.now.at in
    let n = c.args.reading.now.end - at in
    let piece : c.deref.result.now ≡ take n (drop at file) = c.deref.ensures.value ∙ c.in_ok-piece.ensures.bytes keeps in
    let P = IsSoFar c.args.reading.now.version (drop 8 file) in
    subst (P (said_in c.walk.new.records.items)) (piece_from file c.deref.result.now at n c.in_ok-n.n piece c.in_ok-n.ensures.inside)
    (c.in_ok-n.ensures.walked (drop 8 file) (drop n (drop at file)) (subst (P (said_in c.args.reading.now.records.items)) (sym (piece_then file c.deref.result.now at n piece)) so_far))
