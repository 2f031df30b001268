use Rattle.std.proofs.Common.{◌≡◌, ◌++◌, map, take}
use Rattle.std.specs.Prelude.{string_bytes}
use Rattle.std.specs.List.{join_with_byte}
use Rattle.reasons.specs.CertificateText.{quoted, shown_name}
use Rattle.reasons.proofs.text.put_names.Given as goal

abbrev pub invariant-loop-i : goal.invariant-loop-i
invariant-loop-i l = string_bytes l.out ≡ string_bytes l.initial.out ++ join_with_byte 44 (map (λ p. quoted (shown_name l.chains.accepted p)) (take l.i l.numbers))
