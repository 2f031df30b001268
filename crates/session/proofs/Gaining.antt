-- Entries that a pass gained, one after the other.
use Rattle.std.proofs.Common.{◌≡◌, ◌≢◌, ℕ, ◌<◌, List, [], ◌∷◌, ◌++◌, length, Option, Some, None, Result, Ok, Err, refl, sym, ap, subst, ◌∙◌, append_assoc, append-nil, inl, inr, arith}
use Rattle.std.specs.Prelude.{◌⊎◌}
use Rattle.std.specs.Io.KnownBytes.{Appends, Consumes}
use Rattle.std.specs.List.{slice_get}
use Rattle.std.proofs.lemmas.List.{length-append}
use Rattle.std.proofs.lemmas.Option.{same_Some}
use Rattle.chains.proofs.Showing.{get_behind}
use Rattle.line_disk.specs.Disk.{View}
use Rattle.coordinator.specs.Passes.{PassEntry, PassState, LastShown, last_turn}
use Rattle.coordinator.specs.Standing.{IsStandingTurn}
use Rattle.coordinator.specs.Calls.{IsForeignOnly}
use Rattle.coordinator.specs.declared.fault.CallFault.{CallFault}
use Rattle.coordinator.specs.declared.fault.CallFault.TheVariants as refused
use Rattle.report_line.specs.declared.call.Call.{Call}
use Rattle.report_line.specs.declared.call.Call.TheVariants as calls
use Rattle.report_line.specs.declared.reply.Reply.{Reply}
use Rattle.report_line.specs.Cutting.{ended}
use Rattle.report_line.specs.Replies.{reply_text}
use Rattle.session.specs.Exchanges.{Exchange}
use Rattle.session.specs.declared.kind.SessionEndKind.{SessionEndKind}
use Rattle.session.specs.declared.kind.SessionEndKind.TheVariants as kinds
use Rattle.session.specs.declared.flush_policy.FlushPolicy.TheVariants as flush_policies
use Rattle.client_link.specs.Links.{LinkState, IsEnd, Puts}
use Rattle.session.specs.SessionText.{Means, joined, at_pass, IsForeign}
use Rattle.session.specs.Ends.{Leaves}
use Rattle.session.specs.Gained.{exchange_of, GainsEach, Gains, LinkServed}
use Rattle.session.specs.working.Parts.{AreLawful, PutsLast, WritesNothing, refused_as, one_reply, Serves, Ran}
use Rattle.session.proofs.ServeSteps.{said_on, said_bye, said_part, unmade, worn_out, foreign}

abbrev Exchanges : Type 0
Exchanges = List Exchange

module _ {D : Type 0} (keeps : D → Type 0) (view : D → View) where
  pub gains_then : (old mid new : PassState) (es fs : Exchanges) → GainsEach keeps view old es mid → GainsEach keeps view mid fs new → GainsEach keeps view old (es ++ fs) new
  gains_then old mid new [] fs s t = subst (λ (p : PassState). GainsEach keeps view p fs new) s t
  gains_then old mid new (e ∷ es) fs s t = (s.0, s.1, gains_then s.0 mid new es fs s.2 t)

  foreign_then : (old mid : PassState) (es fs : Exchanges) → GainsEach keeps view old es mid → IsForeign (at_pass mid) fs → IsForeign (at_pass old) (es ++ fs)
  foreign_then old mid [] fs s f = subst (λ (p : PassState). IsForeign (at_pass p) fs) s f
  foreign_then old mid (e ∷ es) fs s f = inl (λ none. cc)

  pub pass_lawful : AreLawful (GainsEach keeps view) at_pass
  pass_lawful =
      record {
        none = λ pass. refl;
        one_by_one = gains_then;
        worn = λ pass mid es fs made worn. tt;
        unmade = λ pass mid later es fs made some. some;
        foreign = foreign_then;
      }

  -- one entry more
  pub gains_one : (old new : PassState) (call : Call) → (a : IsStandingTurn keeps view old call new) → GainsEach keeps view old (exchange_of a.entry ∷ []) new
  gains_one old new call a = (new, (subst (λ (c : Call). (made : IsStandingTurn keeps view old c new) × (exchange_of a.entry ≡ exchange_of made.entry)) (sym a.one.call_is) (a, refl)), refl)

-- why a call made no turn
some_seen : (front seen turns last : ℕ) (entries : List PassEntry) → last ≡ last_turn entries → (front < seen) ⊎ (turns < last) → (0 < seen) ⊎ (entries ≢ [])
some_seen front seen turns last entries is (inl more) = inl (omega arith)
some_seen front seen turns last entries is (inr later) = inr (λ none. absurd (let e = rw none at is in omega arith))

is_foreign : (pass : PassState) (front seen turns last : ℕ) → IsForeignOnly pass (refused.Foreign front seen turns last) → IsForeign (at_pass pass) []
is_foreign pass front seen turns last f = inr (subst (λ (n : ℕ). (0 < n) ⊎ (pass.entries ≢ [])) f.0 (some_seen front seen turns last pass.entries f.1 f.2))

module _ {D : Type 0} (keeps : D → Type 0) (view : D → View) where
  pub none_made : (s : LinkState) (line : List ℕ) (pass after : PassState) (fault : CallFault) → after ≡ pass → IsForeignOnly pass fault
      → Serves (GainsEach keeps view) at_pass s s (line ∷ []) pass after (Some (refused_as fault)) (one_reply (Some (refused_as fault)))
  none_made s line pass after (refused.Foreign front seen turns last) same why = foreign (GainsEach keeps view) at_pass (pass_lawful keeps view) s line pass after same (is_foreign pass front seen turns last why)
  none_made s line pass after refused.Worn same why = worn_out (GainsEach keeps view) at_pass (pass_lawful keeps view) s line pass after same tt
  none_made s line pass after refused.Memory same why = unmade (GainsEach keeps view) at_pass (pass_lawful keeps view) s line pass after same (λ none. cc)

-- nothing was written then
pub untouched : {K : Type 0} (fault : CallFault) (link : K) → WritesNothing (Some (refused_as fault)) link link
untouched (refused.Foreign front seen turns last) link = refl
untouched refused.Worn link = refl
untouched refused.Memory link = refl

-- ---- one line

-- the last of the entries
last_same : (es before others : List PassEntry) (x y : PassEntry) → es ≡ before ++ x ∷ [] → es ≡ others ++ y ∷ [] → x ≡ y
last_same es before others x y p q =
    let same : before ++ x ∷ [] ≡ others ++ y ∷ [] = sym p ∙ q in
    let n : length before ≡ length others = omega (arith, ap length same, length-append before (x ∷ []), length-append others (y ∷ [])) in
    same_Some x y (sym (get_behind before (x ∷ [])) ∙ ap (λ (l : List PassEntry). slice_get l (length before)) same ∙ ap (λ (i : ℕ). slice_get (others ++ y ∷ []) i) n ∙ get_behind others (y ∷ []))

-- what was sent is what the pass shows last
pub puts_last : {E : Type 0} (entries : List PassEntry) (old new : LinkState) (result : Result (Unit {0}) E) (shown : Reply) → LastShown entries (Some shown) → Puts old new result (ended (reply_text shown)) → PutsLast entries old new result
puts_last entries old new result shown is puts before last at =
    subst (λ (r : Reply). Puts old new result (ended (reply_text r))) (is.3 ∙ ap (λ (e : PassEntry). e.shown) (last_same entries is.0 before is.1 last is.2 at)) puts

-- ---- its turn was made

module _ {D : Type 0} (keeps : D → Type 0) (view : D → View) where
  -- a pass that was answered has an entry
  pub some_entries : (old new : PassState) (call : Call) → IsStandingTurn keeps view old call new → new.entries ≢ []
  some_entries old new call a none = absurd (let n = ap length (sym a.one.entries ∙ none) in let m = length-append old.entries (a.entry ∷ []) in omega arith)

  -- a call that was answered, and whose reply was written whole, and was no bye, or was one
  pub answered_on : {E : Type 0} (old new : LinkState) (line : List ℕ) (pass after : PassState) (call : Call) (u : Unit {0}) → Means line call → IsStandingTurn keeps view pass call after → PutsLast {E = E} after.entries old new (Ok u) → ¬ (call ≡ calls.Bye)
      → Serves (GainsEach keeps view) at_pass old new (line ∷ []) pass after None 1
  answered_on old new line pass after call u means a puts on =
      said_on (GainsEach keeps view) at_pass (pass_lawful keeps view) old new line pass after (exchange_of a.entry) u (subst (Means line) (sym a.one.call_is) means) (gains_one keeps view pass after call a) (puts pass.entries a.entry a.one.entries) (λ bye. on (sym a.one.call_is ∙ bye))

  pub answered_bye : {E : Type 0} (old new : LinkState) (line : List ℕ) (pass after : PassState) (call : Call) (u : Unit {0}) → Means line call → IsStandingTurn keeps view pass call after → PutsLast {E = E} after.entries old new (Ok u) → call ≡ calls.Bye
      → Serves (GainsEach keeps view) at_pass old new (line ∷ []) pass after (Some kinds.Bye) 1
  answered_bye old new line pass after call u means a puts bye =
      said_bye (GainsEach keeps view) at_pass (pass_lawful keeps view) old new line pass after (exchange_of a.entry) u (subst (Means line) (sym a.one.call_is) means) (gains_one keeps view pass after call a) (puts pass.entries a.entry a.one.entries) (a.one.call_is ∙ bye)

  -- and whose reply was cut
  pub answered_part : {E : Type 0} (old new : LinkState) (line : List ℕ) (pass after : PassState) (call : Call) (fault : E) → Means line call → IsStandingTurn keeps view pass call after → PutsLast after.entries old new (Err fault)
      → Serves (GainsEach keeps view) at_pass old new (line ∷ []) pass after (Some kinds.WriteFailed) 0
  answered_part old new line pass after call fault means a puts =
      said_part (GainsEach keeps view) at_pass (pass_lawful keeps view) old new line pass after (exchange_of a.entry) fault (subst (Means line) (sym a.one.call_is) means) (gains_one keeps view pass after call a) (puts pass.entries a.entry a.one.entries)

  -- ---- a session

  -- what the pass gained in all
  pub each_gained : (old new : PassState) (es : Exchanges) → GainsEach keeps view old es new → Gains keeps view old es new
  each_gained old new [] s = record { each = s; entries = []; gained = ap (λ (p : PassState). p.entries) s ∙ sym (append-nil old.entries); exchanges_are = refl; number = ap (λ (p : PassState). p.number) s }
  each_gained old new (e ∷ es) s =
      let answered = s.1.0 in
      let rest = each_gained s.0 new es s.2 in
      record {
        each = s;
        entries = answered.entry ∷ rest.entries;
        gained = rest.gained ∙ ap (λ (l : List PassEntry). l ++ rest.entries) answered.one.entries ∙ append_assoc old.entries (answered.entry ∷ []) rest.entries;
        exchanges_are = ap (λ (x : Exchange). x ∷ es) s.1.1 ∙ ap (λ (l : Exchanges). exchange_of answered.entry ∷ l) rest.exchanges_are;
        number = rest.number ∙ answered.one.number;
      }

  -- more in two parts
  pub gained_then : (old mid new : PassState) (es fs : Exchanges) → Gains keeps view old es mid → Gains keeps view mid fs new → Gains keeps view old (es ++ fs) new
  gained_then old mid new es fs p q = each_gained old new (es ++ fs) (gains_then keeps view old mid new es fs p.each q.each)

  -- what ran over a pass
  pub link_served : {K : Type 0} (told : K → LinkState) (link final now : K) (pass after : PassState) (kind : SessionEndKind) (count : ℕ) → Ran (GainsEach keeps view) at_pass told flush_policies.EachReply link final pass after kind count → Leaves kind (told link) (told final) → IsEnd (told final) (told now)
      → LinkServed keeps view told link now pass after kind count
  link_served told link final now pass after kind count r leaves ends =
      record {
        pieces = r.pieces;
        turned = r.turned;
        text = r.text;
        session = r.session;
        gains = each_gained pass after r.turned r.turns;
        consumed = subst (λ (l : Option (List ℕ)). Consumes (told link).left l (joined r.pieces)) (sym (ap (λ (s : LinkState). s.left) ends)) r.consumed;
        written = subst (λ (l : Option (List ℕ)). Appends (told link).held l r.text) (sym (ap (λ (s : LinkState). s.held) ends)) r.written;
        reads = ap (λ (s : LinkState). s.reads) ends ∙ r.reads;
        few = r.few;
        prompt = r.prompt;
        gone = r.gone refl;
        last = final;
        leaves = leaves;
        ends = ends;
      }
