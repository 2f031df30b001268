use Rattle.std.proofs.Common.{inl, [], ◌∷◌, ◌++◌, refl, arith}
use Rattle.std.proofs.lemmas.Result.{err_from_is_err_and}
use Rattle.record_file.specs.File.{header, second_version}
use Rattle.earlier_file.proofs.cutting.first_of_none.Goals as goal

pub returns-in_err-to_vec-clause-refused : goal.returns-in_err-to_vec-clause-refused
returns-in_err-to_vec-clause-refused c = λ file short.
    let p = err_from_is_err_and c.from_residual.result c.from_residual.ensures.1 in
    rw (p.1, p.2) (header second_version ++ 0 ∷ [], inl (short, omega arith, refl))
