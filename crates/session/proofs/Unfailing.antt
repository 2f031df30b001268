-- Exchanges behind which the store is not stopped show no failure of a device.
use Rattle.std.proofs.Common.{◌≡◌, ◌≢◌, Bool, true, false, List, [], ◌∷◌, inl, inr, sym, ap, subst, ◌∙◌, refl}
use Rattle.std.specs.List.{AllByRecursion}
use Rattle.std.proofs.lemmas.Bool.{true≢false}
use Rattle.report_line.specs.declared.call.Call.{Call}
use Rattle.report_line.specs.declared.call.Call.TheVariants as calls
use Rattle.report_line.specs.declared.reply.Outcome.{Outcome}
use Rattle.report_line.specs.declared.reply.Reply.{Reply}
use Rattle.report_line.specs.declared.reply.Reply.TheVariants.{Fail, Taken}
use Rattle.chains.specs.Processes.{Name, known}
use Rattle.chains.specs.Held.{Held}
use Rattle.chains.specs.Turns.{IsTurn}
use Rattle.chains.proofs.Unfailing.{no_failure, stays_stopped}
use Rattle.reasons.specs.Shown.{IsLineShown, IsShown}
use Rattle.session.specs.Exchanges.{Exchange}
use Rattle.session.specs.Turned.{IsExchange, AreExchanges, ShowsFailure}

-- what is shown for a reply that is no failure is none
line_shown : (held : Held) (names : List Name) (reply shown : Reply) → ((o : Outcome) → reply ≢ Fail o) → IsLineShown held names reply shown → (o : Outcome) → shown ≢ Fail o
line_shown held names (Taken front) shown other (inl (text, is, certified)) o e = cc
line_shown held names (Taken front) shown other (inr is) o e = cc
line_shown held names reply shown other is o e = other o (sym is ∙ e)

shown_for : (held : Held) (call : Call) (reply shown : Reply) → ((o : Outcome) → reply ≢ Fail o) → IsShown held call reply shown → (o : Outcome) → shown ≢ Fail o
shown_for held (calls.Report m) reply shown other is o e = other o (sym is ∙ e)
shown_for held (calls.Settle front names) reply shown other is o e = other o (sym is ∙ e)
shown_for held (calls.Line names) reply shown other is o e = line_shown held names reply shown other is o e
shown_for held calls.Garbage reply shown other is o e = line_shown held (known held.accepted) reply shown other is o e
shown_for held (calls.State p) reply shown other is o e = other o (sym is ∙ e)
shown_for held calls.Bye reply shown other is o e = other o (sym is ∙ e)
shown_for held (calls.Bad n) reply shown other is o e = other o (sym is ∙ e)
shown_for held calls.Unread reply shown other is o e = other o (sym is ∙ e)

one_shown : (held after : Held) (e : Exchange) → held.stopped ≡ false → after.stopped ≡ false → IsExchange held e after → ¬ ShowsFailure e
one_shown held after e up still shows (o, is) =
    shown_for held e.call e.reply e.shown (λ x fails. no_failure held after e.call x up still (subst (λ (r : Reply). IsTurn held e.call r after) fails shows.turned)) shows.fits o is

-- a stopped store is stopped behind all later exchanges
stopped_then : (held after : Held) (es : List Exchange) → held.stopped ≡ true → AreExchanges held es after → after.stopped ≡ true
stopped_then held after [] down s = ap (λ (h : Held). h.stopped) s ∙ down
stopped_then held after (e ∷ es) down s =
    let same = stays_stopped held s.0 e.call e.reply down s.1.turned in
    stopped_then s.0 after es (ap (λ (h : Held). h.stopped) same ∙ down) s.2

pub none_fails : (held after : Held) (es : List Exchange) → held.stopped ≡ false → after.stopped ≡ false → AreExchanges held es after → AllByRecursion (λ e. ¬ ShowsFailure e) es
none_fails held after [] up still s = tt
none_fails held after (e ∷ es) up still s = by s.0.stopped refl (λ between. none_fails s.0 after es between still s.2)
  where
    by : (b : Bool) → s.0.stopped ≡ b → (s.0.stopped ≡ false → AllByRecursion (λ x. ¬ ShowsFailure x) es) → (¬ ShowsFailure e) × AllByRecursion (λ x. ¬ ShowsFailure x) es
    by true down later = absurd (true≢false (sym (stopped_then s.0 after es down s.2) ∙ still))
    by false between later = (one_shown held s.0 e up between s.1, later between)
