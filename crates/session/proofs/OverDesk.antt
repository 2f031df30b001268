-- Turns of a desk, one after the other.
use Rattle.std.proofs.Common.{◌≡◌, ℕ, ◌+◌, List, [], ◌∷◌, ◌++◌, length, Some, refl, sym, ap, subst, ◌∙◌, append_assoc, append-nil, arith}
use Rattle.std.proofs.lemmas.List.{length-append}
use Rattle.chains.specs.Held.{Held}
use Rattle.chains.specs.Folded.{IsReached}
use Rattle.desk.specs.Desks.{DeskState}
use Rattle.desk.specs.Files.{MayWantMemory}
use Rattle.desk.specs.Lawful.{turn_limit}
use Rattle.desk.specs.declared.turn.Turn.{Turn}
use Rattle.desk.specs.declared.turn.TurnFault.{TurnFault}
use Rattle.desk.specs.declared.turn.TurnFault.TheVariants as refusals
use Rattle.report_line.specs.declared.call.Call.{Call}
use Rattle.report_line.specs.declared.call.Call.TheVariants as calls
use Rattle.session.specs.Exchanges.{Exchange}
use Rattle.session.specs.declared.kind.SessionEndKind.{SessionEndKind}
use Rattle.session.specs.declared.flush_policy.FlushPolicy.{FlushPolicy}
use Rattle.client_link.specs.Links.{LinkState}
use Rattle.session.specs.SessionText.{Means, IsQuestion, ServedOver, at_desk}
use Rattle.session.specs.Turned.{AreExchanges, EachLineIsChosen, turns_of, MakesTurns}
use Rattle.session.specs.Ends.{Ended}
use Rattle.session.specs.working.Parts.{AreLawful, TakesNone, ended_by, one_reply, Serves, Ran}
use Rattle.desk.proofs.OneTurn.{turn_once}
use Rattle.session.proofs.RightLines.{lines_are_right}
use Rattle.session.proofs.ServeSteps.{unmade, worn_out}

abbrev Exchanges : Type 0
Exchanges = List Exchange

pub served_then : (held mid after : Held) (es fs : Exchanges) → AreExchanges held es mid → AreExchanges mid fs after → AreExchanges held (es ++ fs) after
served_then held mid after [] fs s t = subst (λ (x : Held). AreExchanges x fs after) s t
served_then held mid after (e ∷ es) fs s t = (s.0, s.1, served_then s.0 mid after es fs s.2 t)

chosen_then : (held mid : Held) (es fs : Exchanges) → AreExchanges held es mid → EachLineIsChosen held es → EachLineIsChosen mid fs → EachLineIsChosen held (es ++ fs)
chosen_then held mid [] fs s p q = subst (λ (x : Held). EachLineIsChosen x fs) s q
chosen_then held mid (e ∷ es) fs s p q =
    (p.0, λ between turned. chosen_then between mid es fs (subst (λ (x : Held). AreExchanges x es mid) (turn_once held s.0 between e.call e.reply s.1.turned turned) s.2) (p.1 between turned) q)

turns_then : (made : ℕ) (es fs : Exchanges) → turns_of made es ++ turns_of (made + length es) fs ≡ turns_of made (es ++ fs)
turns_then made [] fs = ap (λ (n : ℕ). turns_of n fs) (omega arith)
turns_then made (e ∷ es) fs =
    ap (λ (l : List Turn). record { call = e.call; receipt = record { turn = made + 1; reply = e.reply } } ∷ l)
    (ap (λ (n : ℕ). turns_of (made + 1) es ++ turns_of n fs) (omega arith) ∙ turns_then (made + 1) es fs)

-- as many turns as exchanges
turns_length : (made : ℕ) (es : Exchanges) → length (turns_of made es) ≡ length es
turns_length made [] = refl
turns_length made (e ∷ es) = let h = turns_length (made + 1) es in omega arith

pub made_then : {D : Type 0} (keeps : D → Type 0) (desk after : DeskState D) (es : Exchanges) → MakesTurns keeps desk es after → length after.turns ≡ length desk.turns + length es
made_then keeps desk after es t = ap length t.turns ∙ length-append desk.turns (turns_of (length desk.turns) es) ∙ ap (λ (n : ℕ). length desk.turns + n) (turns_length (length desk.turns) es)

pub no_turns : {D : Type 0} (keeps : D → Type 0) (desk : DeskState D) → MakesTurns keeps desk [] desk
no_turns keeps desk = record { served = refl; chosen = tt; turns = sym (append-nil desk.turns); opening = refl; found = refl; premise = (λ k. k, λ k. k) }

pub makes_then : {D : Type 0} (keeps : D → Type 0) (desk mid after : DeskState D) (es fs : Exchanges) → MakesTurns keeps desk es mid → MakesTurns keeps mid fs after → MakesTurns keeps desk (es ++ fs) after
makes_then keeps desk mid after es fs s t =
    record {
      served = served_then desk.held mid.held after.held es fs s.served t.served;
      chosen = chosen_then desk.held mid.held es fs s.served s.chosen t.chosen;
      turns = t.turns ∙ ap (λ (l : List Turn). l ++ turns_of (length mid.turns) fs) s.turns ∙ append_assoc desk.turns (turns_of (length desk.turns) es) (turns_of (length mid.turns) fs)
          ∙ ap (λ (n : ℕ). desk.turns ++ (turns_of (length desk.turns) es ++ turns_of n fs)) (made_then keeps desk mid es s) ∙ ap (λ (l : List Turn). desk.turns ++ l) (turns_then (length desk.turns) es fs);
      opening = t.opening ∙ s.opening;
      found = t.found ∙ s.found;
      premise = (λ k. s.premise.0 (t.premise.0 k), λ k. t.premise.1 (s.premise.1 k));
    }

-- what a session text knows of a desk
abbrev grounds_of : {D : Type 0} → DeskState D → ServedOver
grounds_of desk = at_desk (length desk.turns)

worn_then : {D : Type 0} (keeps : D → Type 0) (desk mid : DeskState D) (es fs : Exchanges) → MakesTurns keeps desk es mid → length mid.turns + length fs ≡ turn_limit → length desk.turns + length (es ++ fs) ≡ turn_limit
worn_then keeps desk mid es fs made worn = omega (arith, length-append es fs, made_then keeps desk mid es made, worn)

worn_since : {D : Type 0} (keeps : D → Type 0) (desk mid : DeskState D) (es fs : Exchanges) → MakesTurns keeps desk es mid → length desk.turns + length (es ++ fs) ≡ turn_limit → length mid.turns + length fs ≡ turn_limit
worn_since keeps desk mid es fs made worn = omega (arith, length-append es fs, made_then keeps desk mid es made, worn)

pub desk_lawful : {D : Type 0} (keeps : D → Type 0) → AreLawful (MakesTurns keeps) (λ (desk : DeskState D). at_desk (length desk.turns))
desk_lawful keeps =
    record {
      none = no_turns keeps;
      one_by_one = makes_then keeps;
      worn = worn_then keeps;
      unmade = λ desk mid later es fs made u. (u.0, λ worn. u.1 (worn_since keeps desk mid es fs made worn));
      foreign = λ desk mid es fs made f. f;
    }

-- a call of which memory may be wanting asks for a state
asks_state : (held : Held) (call : Call) → MayWantMemory held call → IsQuestion call
asks_state held (calls.State p) may = tt
asks_state held (calls.Report m) may = absurd may
asks_state held (calls.Settle front names) may = absurd may
asks_state held (calls.Line names) may = absurd may
asks_state held calls.Garbage may = absurd may
asks_state held calls.Bye may = absurd may
asks_state held (calls.Bad n) may = absurd may
asks_state held calls.Unread may = absurd may

-- a line without a turn: a question without memory, or behind the last turn
pub none_said : {D : Type 0} (keeps : D → Type 0) (s : LinkState) (line : List ℕ) (desk after : DeskState D) (call : Call) (fault : TurnFault) → Means line call → after ≡ desk → TakesNone desk call fault
    → Serves (MakesTurns keeps) (λ (d : DeskState D). at_desk (length d.turns)) s s (line ∷ []) desk after (Some (ended_by fault)) (one_reply (Some (ended_by fault)))
none_said {D} keeps s line desk after call refusals.Worn means same none = worn_out (MakesTurns keeps) (λ (d : DeskState D). at_desk (length d.turns)) (desk_lawful keeps) s line desk after same (omega (arith, none))
none_said {D} keeps s line desk after call refusals.Memory means same none =
    unmade (MakesTurns keeps) (λ (d : DeskState D). at_desk (length d.turns)) (desk_lawful keeps) s line desk after same
    (record { line = line; later = []; call = call; lines_are = refl; means = means; question = asks_state desk.held call none.1 }, λ worn. none.0 (omega (arith, worn)))

-- what ran over a desk
pub ended_at_desk : {D K : Type 0} (keeps : D → Type 0) (told : K → LinkState) (when : FlushPolicy) (link final : K) (desk after : DeskState D) (kind : SessionEndKind) (count : ℕ) → IsReached desk.held
    → Ran (MakesTurns keeps) (λ (d : DeskState D). at_desk (length d.turns)) told when link final desk after kind count → Ended keeps told when link final desk after kind count
ended_at_desk keeps told when link final desk after kind count reach r =
    record {
      pieces = r.pieces;
      turned = r.turned;
      text = r.text;
      session = r.session;
      turns = r.turns;
      consumed = r.consumed;
      written = r.written;
      reads = r.reads;
      few = r.few;
      prompt = r.prompt;
      gone = r.gone;
      lines = lines_are_right desk.held after.held r.turned reach r.turns.served;
      chosen = r.turns.chosen;
    }
