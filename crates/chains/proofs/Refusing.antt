-- A settlement that is refused with a number.
use Rattle.std.proofs.Common.{◌≡◌, inl, inr, ℕ, List, Some, None, sym, ap, subst}
use Rattle.std.specs.Fmt.{decimal}
use Rattle.report_line.specs.declared.code.Code.{Code}
use Rattle.report_line.specs.declared.reply.Reply.TheVariants as replies
use Rattle.chains.specs.declared.refusal.No.{No}
use Rattle.chains.specs.Processes.{Name}
use Rattle.chains.specs.Held.{Held}
use Rattle.chains.specs.Turns.{IsSettling}
use Rattle.chains.specs.Answers.{IsSettleRefusal}
use Rattle.chains.specs.working.Testing.{IsRefusalWith}

pub refused_with : (held : Held) (front : ℕ) (names : List Name) (refusal : No) (code : Code) (told n : ℕ) → told ≡ n → IsRefusalWith refusal code told
    → IsSettling held front names (replies.No code None (Some (decimal n))) → IsSettleRefusal held front names refusal
refused_with held front names refusal code told n same (inl is) h =
    let settling = subst (λ (k : ℕ). IsSettling held front names (replies.No code None (Some (decimal k)))) (sym same) h in
    inl (subst (λ (r : No). IsSettling held front names (replies.No r.code r.name r.value)) (sym is) settling)
refused_with held front names refusal code told n same (inr is) h =
    inr (replies.No code None (Some (decimal n)), h, tt, ap (λ (r : No). r.code) is, ap (λ (r : No). r.name) is, ap (λ (r : No). r.value) is)
