-- What exchanges come to, and what each turn keeps of it.
use Rattle.std.proofs.Common.{◌≡◌, ◌≤◌, List, [], ◌∷◌, ◌++◌, ◌∙◌, refl, sym, subst, arith}
use Rattle.report_line.specs.declared.call.Call.{Call}
use Rattle.report_line.specs.declared.reply.Reply.{Reply}
use Rattle.chains.specs.Held.{Held}
use Rattle.chains.specs.Reachable.{IsReachable}
use Rattle.chains.specs.Folded.{IsReached}
use Rattle.chains.specs.Turns.{IsTurn}
use Rattle.chains.proofs.Turning.{turn_reached}
use Rattle.desk.specs.Lawful.{unstopped}
use Rattle.desk.proofs.OneTurn.{turn_once}
use Rattle.desk.proofs.Reachables.{still_reachable}
use Rattle.coordinator.proofs.Telling.{tells}
use Rattle.session.specs.Exchanges.{Exchange, ReplayTo}
use Rattle.session.specs.Turned.{IsExchange, AreExchanges}

pub comes_once : (held a b : Held) (es : List Exchange) → ReplayTo held es a → ReplayTo held es b → a ≡ b
comes_once held a b [] first second = first ∙ sym second
comes_once held a b (e ∷ es) (mid, turned, later) (other, took, more) =
    comes_once other a b es (subst (λ (h : Held). ReplayTo h es a) (turn_once held mid other e.call e.reply turned took) later) more

-- what exchanges that were served come to, and the first of them
pub served_before : (held after : Held) (before later : List Exchange) → AreExchanges held (before ++ later) after → (at : Held) × ReplayTo held before at
served_before held after [] later s = (held, refl)
served_before held after (e ∷ es) later s = let rest = served_before s.0 after es later s.2 in (rest.0, (s.0, s.1.turned, rest.1))

pub comes_before : (held after : Held) (exchanges before later : List Exchange) → AreExchanges held exchanges after → exchanges ≡ before ++ later → (at : Held) × ReplayTo held before at
comes_before held after exchanges before later s e = served_before held after before later (subst (λ (es : List Exchange). AreExchanges held es after) e s)

pub served_comes : (held after : Held) (exchanges : List Exchange) → AreExchanges held exchanges after → ReplayTo held exchanges after
served_comes held after [] s = s
served_comes held after (e ∷ es) s = (s.0, s.1.turned, served_comes s.0 after es s.2)

-- what each turn keeps
module _ (P : Held → Type 0) (keeps : (held after : Held) (call : Call) (reply : Reply) → P held → IsTurn held call reply after → P after) where
  pub kept_by : (held after : Held) (es : List Exchange) → P held → ReplayTo held es after → P after
  kept_by held after [] here comes = subst P (sym comes) here
  kept_by held after (e ∷ es) here (mid, turned, later) = kept_by mid after es (keeps held mid e.call e.reply here turned) later

pub comes_reached : (held after : Held) (es : List Exchange) → IsReached held → ReplayTo held es after → IsReached after
comes_reached = kept_by IsReached turn_reached

pub comes_reachable : (held after : Held) (es : List Exchange) → IsReachable (unstopped held) → ReplayTo held es after → IsReachable (unstopped after)
comes_reachable = kept_by (λ held. IsReachable (unstopped held)) still_reachable

-- the front never falls
pub front_stays : (held after : Held) (es : List Exchange) → ReplayTo held es after → held.front ≤ after.front
front_stays held after es comes =
    kept_by (λ h. held.front ≤ h.front) (λ h later call reply here turn. let told = (tells h later call reply turn).1 in omega (arith, here, told)) held after es (omega arith) comes

-- what is held at an exchange is what those before it come to
pub served_at : (held after at : Held) (before later : List Exchange) (exchange : Exchange) → AreExchanges held (before ++ exchange ∷ later) after → ReplayTo held before at
    → (between : Held) × IsExchange at exchange between
served_at held after at [] later exchange s comes = subst (λ (h : Held). (between : Held) × IsExchange h exchange between) (sym comes) (s.0, s.1)
served_at held after at (e ∷ es) later exchange s (mid, turned, rest) =
    served_at s.0 after at es later exchange s.2 (subst (λ (h : Held). ReplayTo h es at) (turn_once held mid s.0 e.call e.reply turned s.1.turned) rest)
