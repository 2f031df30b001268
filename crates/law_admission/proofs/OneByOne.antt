-- Handing over reports one by one.
use Rattle.std.proofs.Common.{◌≡◌, ◌≢◌, ◌⊎◌, ◌+◌, ◌<◌, ◌≤◌, ℕ, zero, suc, List, [], ◌∷◌, ◌++◌, All, length, get_or, take, Option, Some, None, Result, Ok, Err, refl, sym, ◌∙◌, ap, subst, inl, inr, append_assoc}
use Rattle.std.specs.Prelude.{Contains, slice_get, ⊤}
use Rattle.std.proofs.lemmas.List.Elements.{All-push, All-nil, All-take, All-contains, Contains-append_left, Contains-append_right, Contains-push}
use Rattle.std.proofs.lemmas.Option.{slice_get-get_or}
use Rattle.std.proofs.lemmas.List.{take_more, take_all}
use Rattle.report_line.specs.declared.code.Code.{Code}
use Rattle.report_line.specs.declared.code.Code.TheVariants.{Full, OutOfMemory}
use Rattle.report_line.specs.declared.call.Call.TheVariants as calls
use Rattle.report_line.specs.declared.report.Report.{Report}
use Rattle.report_line.specs.declared.reply.Outcome.{Outcome}
use Rattle.report_line.specs.declared.reply.Reply.{Reply}
use Rattle.report_line.specs.declared.reply.Reply.TheVariants.{Accepted, No, Fail}
use Rattle.report_line.specs.histories.History.{Name, History}
use Rattle.chains.specs.declared.refusal.Admitted.{Admitted}
use Rattle.chains.specs.declared.refusal.Admitted.TheVariants as admitted
use Rattle.chains.specs.declared.refusal.No.{No as Refusal}
use Rattle.chains.specs.Answers.{reply_of}
use Rattle.chains.specs.Held.{Held, present, held_of}
use Rattle.chains.specs.Kept.{Kept}
use Rattle.chains.specs.Turns.{Fate, fine, memory, before, unknown, IsDeviceFree, IsReportTurn, IsTurn}
use Rattle.law_admission.specs.declared.handing.Refused.{Refused}
use Rattle.law_admission.specs.HandedOver.{handed_over, IsTargetBorn, IsReportable}
use Rattle.law_admission.specs.Accepting.{IsFull, IsRoomTurn, AreTurns}
use Rattle.law_admission.specs.FirstRefusal.{IsTaken, AreTaken, IsFirstRefusal, IsHandedOver, IsFirstRefusalForRoom, AreAcceptedInOrder}
use Rattle.law_admission.proofs.Going.{turns_refuse_for_room_alone, up_to_refusal, HasAccepted, all_accepted}

-- ---- one report more

turns_push : (held : Held) (xs : List Report) (replies : List Reply) (mid after : Held) (r : Report) (reply : Reply)
    → AreTurns held xs replies mid → IsTurn mid (calls.Report (present mid r)) reply after → AreTurns held (xs ++ r ∷ []) (replies ++ reply ∷ []) after
turns_push held [] [] mid after r reply is turn = (after, subst (λ (k : Held). IsTurn k (calls.Report (present k r)) reply after) is turn, refl)
turns_push held [] (x ∷ replies) mid after r reply is turn = absurd is
turns_push held (x ∷ xs) [] mid after r reply is turn = absurd is
turns_push held (x ∷ xs) (y ∷ replies) mid after r reply (between, first, more) turn = (between, first, turns_push between xs replies mid after r reply more turn)

taken_push : (held : Held) (xs : List Report) (mid after : Held) (r : Report) (reply : Reply)
    → AreTaken held xs mid → IsTurn mid (calls.Report (present mid r)) reply after → IsTaken reply → AreTaken held (xs ++ r ∷ []) after
taken_push held xs mid after r reply (replies, turns, all) turn taken =
    (replies ++ reply ∷ [], turns_push held xs replies mid after r reply turns turn, All-push IsTaken replies reply all taken)

-- what admitting answers is a turn
pub one_turn : (k j : Kept) (epoch : ℕ) (r : Report) (result : Result Admitted Refusal) → epoch ≡ k.epoch
    → (fate : Fate) × IsDeviceFree fate × IsReportTurn fate (held_of k) (record { epoch = epoch; report = r }) (reply_of result) (held_of j)
    → IsTurn (held_of k) (calls.Report (present (held_of k) r)) (reply_of result) (held_of j)
one_turn k j epoch r result is (fate, free, turn) = subst (λ (n : ℕ). IsTurn (held_of k) (calls.Report (record { epoch = n; report = r })) (reply_of result) (held_of j)) is (fate, turn)

is_taken : (x : Admitted) → IsTaken (reply_of (Ok x))
is_taken (admitted.Accepted front) = tt
is_taken (admitted.Old front) = tt

pub taken_more : (held : Held) (reports : List Report) (i : ℕ) (mid : Kept) (after : Kept) (r : Report) (x : Admitted) → i < length reports → r ≡ get_or reports i r
    → AreTaken held (take i reports) (held_of mid) → IsTurn (held_of mid) (calls.Report (present (held_of mid) r)) (reply_of (Ok x)) (held_of after) → AreTaken held (take (i + 1) reports) (held_of after)
taken_more held reports i mid after r x within is taken turn =
    subst (λ (xs : List Report). AreTaken held xs (held_of after)) (sym (take_more reports i r within ∙ ap (λ (y : Report). take i reports ++ y ∷ []) (sym is)))
    (taken_push held (take i reports) (held_of mid) (held_of after) r (reply_of (Ok x)) taken turn (is_taken x))

pub none_taken : (held : Held) (reports : List Report) → AreTaken held (take 0 reports) held
none_taken held reports = ([], refl, All-nil IsTaken)

pub all_taken : (held : Held) (reports : List Report) (i : ℕ) (after : Held) → length reports ≤ i → AreTaken held (take i reports) after → AreTaken held reports after
all_taken held reports i after past taken = subst (λ (xs : List Report). AreTaken held xs after) (take_all i reports past) taken

pub first_refused : (held : Held) (reports : List Report) (place : ℕ) (mid after : Kept) (r : Report) (why : Refusal) → place < length reports → r ≡ get_or reports place r
    → AreTaken held (take place reports) (held_of mid) → IsTurn (held_of mid) (calls.Report (present (held_of mid) r)) (reply_of (Err why)) (held_of after)
    → IsFirstRefusal held reports (record { place = place; why = why }) (held_of after)
first_refused held reports place mid after r why within is taken turn =
    let same = refused_changes_nothing mid after r why turn in
    record {
      report = r;
      there = slice_get-get_or reports place r within ∙ ap (λ (y : Report). Some y) (sym is);
      taken = subst (λ (k : Held). AreTaken held (take place reports) k) (sym same) taken;
      refusal = subst (λ (k : Held). IsTurn k (calls.Report (present k r)) (reply_of (Err why)) (held_of after)) (sym same) turn;
    }
  where
    refused_changes_nothing : (mid after : Kept) (r : Report) (why : Refusal) → IsTurn (held_of mid) (calls.Report (present (held_of mid) r)) (reply_of (Err why)) (held_of after) → held_of after ≡ held_of mid
    refused_changes_nothing mid after r why (fine, turn) = turn.1
    refused_changes_nothing mid after r why (memory, turn) = turn.4
    refused_changes_nothing mid after r why (before, turn) = absurd (cc)
    refused_changes_nothing mid after r why (unknown, turn) = absurd (cc)

-- ---- of a lawful history

split_at : (xs : List Report) (i : ℕ) (r : Report) → slice_get xs i ≡ Some r → (rest : List Report) × (xs ≡ take i xs ++ r ∷ rest)
split_at [] i r is = absurd (cc)
split_at (x ∷ xs) zero r is = (let same : x ≡ r = cc in (xs, ap (λ (y : Report). y ∷ xs) same))
split_at (x ∷ xs) (suc i) r is = (let w = split_at xs i r is in (w.0, ap (λ (l : List Report). x ∷ l) w.1))

refused_code : (code c : Code) (name n : Option Name) (value v : Option (List ℕ)) → No code name value ≡ No c n v → code ≡ c
refused_code code c name n value v is = cc

not_accepted : (code : Code) (name : Option Name) (value : Option (List ℕ)) (front : ℕ) → No code name value ≢ Accepted front
not_accepted code name value front is = cc

not_failed : (code : Code) (name : Option Name) (value : Option (List ℕ)) (outcome : Outcome) → No code name value ≢ Fail outcome
not_failed code name value outcome is = cc

why : (held : Held) (r : Report) (refusal : Refusal) (fate : Fate) (after : Held) → IsRoomTurn fate held r (No refusal.code refusal.name refusal.value) after
    → ((refusal.code ≡ Full) × IsFull held r) ⊎ (refusal.code ≡ OutOfMemory)
why held r refusal fine after (inl w) = absurd (not_accepted refusal.code refusal.name refusal.value _ w.1)
why held r refusal fine after (inr w) = inl (refused_code refusal.code Full refusal.name None refusal.value w.1.0 w.1.1, w.0)
why held r refusal memory after w = inr (refused_code refusal.code OutOfMemory refusal.name None refusal.value None w.0)
why held r refusal before after w = absurd (not_failed refusal.code refusal.name refusal.value _ w.0)
why held r refusal unknown after w = absurd (not_failed refusal.code refusal.name refusal.value _ w.0)

behind : (xs ys zs : List Report) (r : Report) (rest more : List Report) → ys ≡ zs ++ r ∷ rest → xs ++ (ys ++ more) ≡ (xs ++ zs) ++ r ∷ (rest ++ more)
behind xs ys zs r rest more is =
    ap (λ (l : List Report). xs ++ (l ++ more)) is
    ∙ (ap (λ (l : List Report). xs ++ l) (append_assoc zs (r ∷ rest) more) ∙ sym (append_assoc xs zs (r ∷ (rest ++ more))))

module _ (k j : Kept) (root : Name) (h : History) (rest : List Report) (w : IsReportable root h) where
  taken_in_order : (rs more : List Report) → handed_over root h ≡ k.accepted ++ (rs ++ more) → All (IsTargetBorn root h) rs → AreTaken (held_of k) rs (held_of j) → HasAccepted (held_of k) rs (held_of j)
  taken_in_order rs more parts born (replies, turns, all) =
      all_accepted (held_of k) rs replies (held_of j) (up_to_refusal root h (held_of k) rs more replies (held_of j) w refl parts born turns) all

  refused_in_order : (reports : List Report) (refused : Refused) → handed_over root h ≡ k.accepted ++ (reports ++ rest) → All (IsTargetBorn root h) reports → IsFirstRefusal (held_of k) reports refused (held_of j)
      → IsFirstRefusalForRoom (held_of k) reports refused (held_of j)
  refused_in_order reports refused parts born f =
      let place = split_at reports refused.place f.report f.there in
      let front = take refused.place reports in
      let whole : handed_over root h ≡ k.accepted ++ (front ++ (f.report ∷ (place.0 ++ rest))) =
      parts ∙ ap (λ (l : List Report). k.accepted ++ l) (ap (λ (l : List Report). l ++ rest) place.1 ∙ append_assoc front (f.report ∷ place.0) rest) in
      let there : Contains reports f.report =
      subst (λ (l : List Report). Contains l f.report) (sym place.1)
      (Contains-append_right front (f.report ∷ place.0) f.report (Contains-append_left (f.report ∷ []) place.0 f.report (Contains-push [] f.report))) in
      let all = taken_in_order front (f.report ∷ (place.0 ++ rest)) whole (All-take (IsTargetBorn root h) refused.place reports born) f.taken in
      let following : handed_over root h ≡ j.accepted ++ f.report ∷ (place.0 ++ rest) =
      whole ∙ (sym (append_assoc k.accepted front (f.report ∷ (place.0 ++ rest))) ∙ ap (λ (l : List Report). l ++ f.report ∷ (place.0 ++ rest)) (sym all.accepted)) in
      record {
        report = f.report;
        there = f.there;
        accepted_before = all.accepted;
        why = why (held_of j) f.report refused.why f.refusal.0 (held_of j)
            (turns_refuse_for_room_alone root h (held_of j) (held_of j) f.report _ f.refusal.0 w (place.0 ++ rest, following) (All-contains (IsTargetBorn root h) reports f.report born there) refl f.refusal.1);
      }

pub accepted_in_order : (k j : Kept) (reports : List Report) (result : Result ⊤ Refused) → IsHandedOver (held_of k) reports result (held_of j)
    → AreAcceptedInOrder (held_of k) reports result (held_of j)
accepted_in_order k j reports (Ok done) handed root h rest w parts born = (taken_in_order k j root h rest w reports rest parts born handed).accepted
accepted_in_order k j reports (Err refused) handed root h rest w parts born = refused_in_order k j root h rest w reports refused parts born handed
