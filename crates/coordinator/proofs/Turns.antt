-- One turn more for a pass.
use Rattle.std.proofs.Common.{◌≡◌, ℕ, ◌+◌, ◌≤◌, List, [], ◌∷◌, ◌++◌, length, Option, Some, None, refl, sym, ap, ◌∙◌, arith}
use Rattle.std.specs.Prelude.{MatchOption, unwrap_or}
use Rattle.std.proofs.lemmas.List.{same_from_push}
use Rattle.report_line.specs.declared.call.Call.{Call}
use Rattle.report_line.specs.declared.reply.Reply.TheVariants.{Taken}
use Rattle.desk.specs.declared.turn.Receipt.{Receipt}
use Rattle.desk.specs.Desks.{DeskState}
use Rattle.desk.specs.Lawful.{unstopped}
use Rattle.desk.specs.Records.{IsOpened}
use Rattle.coordinator.specs.Passes.{PassEntry, PassState, Rises, last_turn, front_of}
use Rattle.coordinator.specs.working.Parts.{first_shown, LastTaken}
use Rattle.coordinator.specs.Calls.{IsOneTurn, IsTurnFor}
use Rattle.coordinator.proofs.Rising.{rises-below}
use Rattle.coordinator.proofs.Telling.{tells, shown_first}

sees : (o : Option ℕ) (old n : ℕ) → ((front : ℕ) → o ≡ Some front → n ≡ front) → old ≤ n
    → MatchOption o (unwrap_or o old ≡ old) (λ front. (old ≤ front) × (unwrap_or o old ≡ front))
sees None old n is le = refl
sees (Some front) old n is le = (omega (arith, is front refl), refl)

abbrev pub entry_of : Call → Receipt → PassEntry
entry_of call receipt = record { call = call; receipt = receipt; shown = first_shown receipt.reply }

abbrev pub more : PassState → Receipt → ℕ → List PassEntry → PassState
more old receipt share entries = record { number = old.number; front = unwrap_or (front_of receipt.reply) old.front; share = share; entries = entries }

pub turn-one : {D : Type 0} (before after : DeskState D) (old : PassState) (call copy : Call) (receipt : Receipt) (share : ℕ) (entries : List PassEntry)
    → IsOpened (unstopped after.held) → IsOneTurn before call receipt after → old.front ≤ before.held.front → last_turn old.entries ≤ length before.turns
    → Rises 0 old.entries → copy ≡ call → share ≡ old.share + 1 → entries ≡ old.entries ++ entry_of copy receipt ∷ []
    → IsTurnFor before after old call (more old receipt share entries)
turn-one before after old call copy receipt share entries opened one seen last rises same counted added =
    let told = tells before.held after.held call receipt.reply one.step in
    record {
      entry = entry_of copy receipt;
      one = record {
        number = refl;
        entries = added;
        call_is = same;
        above = λ k d in_range. rises-below 0 old.entries receipt.turn rises (omega (arith, one.number)) k d in_range;
        share = counted;
        front = sees (front_of receipt.reply) old.front after.held.front told.0 (omega (arith, told.1));
      };
      turn = one;
      shows = shown_first before.held after.held call receipt.reply opened one.step;
    }

-- where a line was taken, it was at the front that is held
pub taken-front : {D : Type 0} (before after : DeskState D) (old : PassState) (call : Call) (new : PassState) (made : IsTurnFor before after old call new) (front : ℕ) → LastTaken new.entries front
    → made.entry.receipt.reply ≡ Taken after.held.front
taken-front before after old call new made front is =
    let same : made.entry ≡ is.1 = (same_from_push old.entries is.0 made.entry is.1 (sym made.one.entries ∙ is.2)).1 in
    let reply : made.entry.receipt.reply ≡ Taken front = ap (λ (e : PassEntry). e.receipt.reply) same ∙ is.3 in
    let told = tells before.held after.held call made.entry.receipt.reply made.turn.step in
    reply ∙ ap Taken (sym (told.0 front (ap front_of reply)))
