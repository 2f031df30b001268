-- What a turn did to the store, told of its record.
use Rattle.std.proofs.Common.{◌≡◌, ◌↔◌, inl, inr, ℕ, List, [], ◌∷◌, ◌++◌, false, refl, sym, ap, subst, ◌∙◌, append-nil}
use Rattle.line_disk.specs.Disk.{View, Leaves, LeavesAlways, one_more}
use Rattle.line_disk.specs.declared.disk.Disk.{Ghosts}
use Rattle.record_file.specs.File.{Said, Stands}
use Rattle.record_file.specs.Resting.{IsBeforeOrAfter}
use Rattle.record_file.specs.Staging.{WasStaged}
use Rattle.record_file.specs.Store.{disk_of, found_records, is_stopped, HasRecords}
use Rattle.record_file.specs.declared.store.Store.{Store}
use Rattle.record_file.proofs.Appending.{at_rest_stands}
use Rattle.record_file.proofs.Moments.{starts}
use Rattle.report_line.specs.declared.marked.MarkedReport.{MarkedReport}
use Rattle.report_line.specs.declared.call.Call.{Call}
use Rattle.report_line.specs.declared.call.Call.TheVariants as calls
use Rattle.report_line.specs.declared.reply.Outcome.TheVariants.{Before, Unknown}
use Rattle.report_line.specs.declared.reply.Reply.{Reply}
use Rattle.report_line.specs.declared.reply.Reply.TheVariants.{Accepted, Settled, Fail}
use Rattle.chains.specs.Processes.{Name}
use Rattle.desk.specs.Records.{said_of, said_settled, IsRecordOf, report_recorded, settlement_recorded, recorded_by}
use Rattle.desk.specs.Files.{UsesDevice, CountsReply}
use Rattle.desk.specs.Placed.{IsPlaced}
use Rattle.desk.specs.working.Parts.{StandsWith, Writes, StandsBy, WritesBy}

pub always_weaker : (P Q : List ℕ → Type 0) (a b : View) → ((c : List ℕ) → P c → Q c) → LeavesAlways P a b → LeavesAlways Q a b
always_weaker P Q a b f always = record {
  later = always.later;
  past = always.past;
  each = λ k c le above left. f c (always.each k c le above left);
}

stands_same : (said others : List Said) (c : List ℕ) → said ≡ others → Stands said c → Stands others c
stands_same said others c same stands = subst (λ (ss : List Said). Stands ss c) same stands

-- ---- replies of turns that did not call the device

quiet_counts : (reply : Reply) (n : ℕ) → ¬ UsesDevice reply → CountsReply reply n n
quiet_counts (Fail Before) n quiet = absurd (quiet tt)
quiet_counts (Fail Unknown) n quiet = absurd (quiet tt)
quiet_counts _ n quiet = refl

quiet_placed : (reply : Reply) (said : List Said) (one : Said) (a b : View) → ¬ UsesDevice reply → IsPlaced reply said one a b
quiet_placed (Accepted front) said one a b quiet = absurd (quiet tt)
quiet_placed (Settled epoch front) said one a b quiet = absurd (quiet tt)
quiet_placed (Fail Before) said one a b quiet = absurd (quiet tt)
quiet_placed (Fail Unknown) said one a b quiet = absurd (quiet tt)
quiet_placed _ said one a b quiet = tt

module _ {D : Type 0} {g : Ghosts D} (keeps : D → Type 0) (view : D → View) (failed : D → ℕ) where
  -- nothing was written
  pub writes_nothing : (store : Store D g) (one : Said) (more : List Said) (reply : Reply) → more ≡ [] → ¬ UsesDevice reply → Writes keeps view failed store store one more reply
  writes_nothing store one more reply none quiet =
      let same = λ (said : List Said). sym (ap (λ (ms : List Said). said ++ ms) none ∙ append-nil said) in
      record {
        found = refl;
        records = λ said here has runs. subst (λ (ss : List Said). HasRecords view store ss) (same said) has;
        left = λ said here has c left. inl (stands_same said _ c (same said) (at_rest_stands _ _ _ _ has c left));
        placed = λ said here has. quiet_placed reply said one _ _ quiet;
        any_moment = λ said here has. starts (StandsWith said one) (view (disk_of store)) (λ c left. inl (at_rest_stands _ _ _ _ has c left));
        unmoved = λ _. refl;
        cause = quiet_counts reply (failed (disk_of store)) quiet;
        premise = (λ k. k, λ k. k);
      }

  pub writes_same : (store after : Store D g) (one : Said) (more : List Said) (reply : Reply) → after ≡ store → more ≡ [] → ¬ UsesDevice reply → Writes keeps view failed store after one more reply
  writes_same store after one more reply same none quiet =
      subst (λ (s : Store D g). Writes keeps view failed store s one more reply) (sym same) (writes_nothing store one more reply none quiet)

  -- what an append tells
  pub record Appends (old new : Store D g) (one : Said) : Type 0 where
    pub found : found_records new ≡ found_records old
    pub any_moment : (said : List Said) → keeps (disk_of old) → HasRecords view old said → LeavesAlways (IsBeforeOrAfter said one) (view (disk_of old)) (view (disk_of new))
    pub premise : keeps (disk_of new) ↔ keeps (disk_of old)

  pub appends : (old new : Store D g) (told one : Said) → told ≡ one → found_records new ≡ found_records old
      → ((said : List Said) → keeps (disk_of old) → HasRecords view old said → LeavesAlways (IsBeforeOrAfter said told) (view (disk_of old)) (view (disk_of new)))
      → keeps (disk_of new) ↔ keeps (disk_of old) → Appends old new one
  appends old new told one is found moments premise =
      subst (λ (s : Said). Appends old new s) is (record { found = found; any_moment = moments; premise = premise })

  module _ (old new : Store D g) (told one : Said) (is : told ≡ one) (tells : Appends old new one) where
    moments : (said : List Said) → keeps (disk_of old) → HasRecords view old said → LeavesAlways (StandsWith said one) (view (disk_of old)) (view (disk_of new))
    moments said here has = always_weaker _ _ _ _ (λ c h. h) (tells.any_moment said here has)

    -- the record was written
    pub writes_done : (more : List Said) (reply : Reply) → more ≡ one ∷ [] → ((said : List Said) (a b : View) → WasStaged said one a b → ((c : List ℕ) → Leaves b c → Stands (said ++ one ∷ []) c) → IsPlaced reply said one a b)
        → UsesDevice reply → ((n : ℕ) → CountsReply reply n n)
        → ((said : List Said) → keeps (disk_of old) → HasRecords view old said → HasRecords view new (said ++ told ∷ []))
        → ((said : List Said) → keeps (disk_of old) → HasRecords view old said → (c : List ℕ) → Leaves (view (disk_of new)) c → Stands (said ++ told ∷ []) c)
        → ((said : List Said) → keeps (disk_of old) → HasRecords view old said → WasStaged said told (view (disk_of old)) (view (disk_of new)))
        → failed (disk_of new) ≡ failed (disk_of old) → Writes keeps view failed old new one more reply
    writes_done more reply is_more place uses counts done after so_far cause =
        let same = λ (said : List Said). ap (λ (s : Said). said ++ s ∷ []) is ∙ sym (ap (λ (ms : List Said). said ++ ms) is_more) in
        record {
          found = tells.found;
          records = λ said here has runs. subst (λ (ss : List Said). HasRecords view new ss) (same said) (done said here has);
          left = λ said here has c left. inl (stands_same _ _ c (same said) (after said here has c left));
          placed = λ said here has.
              place said _ _ (subst (λ (s : Said). WasStaged said s (view (disk_of old)) (view (disk_of new))) is (so_far said here has))
              (λ c left. stands_same _ _ c (ap (λ (s : Said). said ++ s ∷ []) is) (after said here has c left));
          any_moment = moments;
          unmoved = λ quiet. absurd (quiet uses);
          cause = subst (λ (n : ℕ). CountsReply reply (failed (disk_of old)) n) (sym cause) (counts (failed (disk_of old)));
          premise = tells.premise;
        }

    -- the device failed before the gate was written
    pub writes_before : (more : List Said) (reply : Reply) → reply ≡ Fail Before → more ≡ []
        → (is_stopped new ≡ false → ⊥)
        → ((said : List Said) → keeps (disk_of old) → HasRecords view old said → (c : List ℕ) → Leaves (view (disk_of new)) c → Stands said c)
        → ((said : List Said) → keeps (disk_of old) → HasRecords view old said → LeavesAlways (Stands said) (view (disk_of old)) (view (disk_of new)))
        → failed (disk_of new) ≡ one_more (failed (disk_of old)) → Writes keeps view failed old new one more reply
    writes_before more reply says none stops after so_far cause =
        let same = λ (said : List Said). sym (ap (λ (ms : List Said). said ++ ms) none ∙ append-nil said) in
        record {
          found = tells.found;
          records = λ said here has runs. absurd (stops runs);
          left = λ said here has c left. inl (stands_same _ _ c (same said) (after said here has c left));
          placed = λ said here has. subst (λ (x : Reply). IsPlaced x said one (view (disk_of old)) (view (disk_of new))) (sym says) (so_far said here has);
          any_moment = moments;
          unmoved = λ quiet. absurd (subst (λ (x : Reply). ¬ UsesDevice x) says quiet tt);
          cause = subst (λ (x : Reply). CountsReply x (failed (disk_of old)) (failed (disk_of new))) (sym says) cause;
          premise = tells.premise;
        }

    -- the device failed as the gate was written
    pub writes_unknown : (more : List Said) (reply : Reply) → reply ≡ Fail Unknown → more ≡ []
        → (is_stopped new ≡ false → ⊥)
        → ((said : List Said) → keeps (disk_of old) → HasRecords view old said → (c : List ℕ) → Leaves (view (disk_of new)) c → IsBeforeOrAfter said told c)
        → ((said : List Said) → keeps (disk_of old) → HasRecords view old said → WasStaged said told (view (disk_of old)) (view (disk_of new)))
        → failed (disk_of new) ≡ one_more (failed (disk_of old)) → Writes keeps view failed old new one more reply
    writes_unknown more reply says none stops after so_far cause =
        let same = λ (said : List Said). sym (ap (λ (ms : List Said). said ++ ms) none ∙ append-nil said) in
        record {
          found = tells.found;
          records = λ said here has runs. absurd (stops runs);
          left = λ said here has c left. elim (subst (λ (s : Said). IsBeforeOrAfter said s c) is (after said here has c left)) [
            | inl stands ↦ inl (stands_same _ _ c (same said) stands)
            | inr stands ↦ inr (says, stands)
          ];
          placed = λ said here has.
              subst (λ (x : Reply). IsPlaced x said one (view (disk_of old)) (view (disk_of new))) (sym says)
              (subst (λ (s : Said). WasStaged said s (view (disk_of old)) (view (disk_of new))) is (so_far said here has));
          any_moment = moments;
          unmoved = λ quiet. absurd (subst (λ (x : Reply). ¬ UsesDevice x) says quiet tt);
          cause = subst (λ (x : Reply). CountsReply x (failed (disk_of old)) (failed (disk_of new))) (sym says) cause;
          premise = tells.premise;
        }

  -- ---- of a call

  pub by_record : (old new : Store D g) (epoch : ℕ) (call : Call) (one : Said) (reply : Reply) → IsRecordOf epoch call one → ((other : Said) → IsRecordOf epoch call other → one ≡ other)
      → Writes keeps view failed old new one (recorded_by call reply) reply → WritesBy keeps view failed old new epoch call reply
  by_record old new epoch call one reply of_call only writes = record {
    found = writes.found;
    records = writes.records;
    left = λ said here has c left. elim (writes.left said here has c left) [
      | inl stands ↦ inl stands
      | inr way ↦ inr (one, of_call, way.0, way.1)
    ];
    placed = λ said other here has is. subst (λ (s : Said). IsPlaced reply said s (view (disk_of old)) (view (disk_of new))) (only other is) (writes.placed said here has);
    any_moment = λ said here has. always_weaker _ _ _ _ (by_one said) (writes.any_moment said here has);
    unmoved = writes.unmoved;
    cause = writes.cause;
    premise = writes.premise;
  }
    where
      by_one : (said : List Said) (c : List ℕ) → StandsWith said one c → StandsBy said epoch call c
      by_one said c (inl stands) = inl stands
      by_one said c (inr stands) = inr (one, of_call, stands)

  pub by_report : (old new : Store D g) (epoch : ℕ) (call : Call) (m : MarkedReport) (reply : Reply) → call ≡ calls.Report m → Writes keeps view failed old new (said_of m) (report_recorded m reply) reply → WritesBy keeps view failed old new epoch call reply
  by_report old new epoch call m reply is writes =
      subst (λ (k : Call). WritesBy keeps view failed old new epoch k reply) (sym is) (by_record old new epoch (calls.Report m) (said_of m) reply refl (λ other same. sym same) writes)

  pub by_settlement : (old new : Store D g) (epoch : ℕ) (call : Call) (front : ℕ) (names : List Name) (reply : Reply) → call ≡ calls.Settle front names
      → Writes keeps view failed old new (said_settled epoch front names) (settlement_recorded front names reply) reply → WritesBy keeps view failed old new epoch call reply
  by_settlement old new epoch call front names reply is writes =
      subst (λ (k : Call). WritesBy keeps view failed old new epoch k reply) (sym is) (by_record old new epoch (calls.Settle front names) (said_settled epoch front names) reply refl (λ other same. sym same) writes)

  -- of a call without a record
  pub by_nothing : (store after : Store D g) (epoch : ℕ) (call : Call) (reply : Reply) → after ≡ store → recorded_by call reply ≡ [] → ¬ UsesDevice reply → WritesBy keeps view failed store after epoch call reply
  by_nothing store after epoch call reply unmoved none quiet =
      let same = λ (said : List Said). sym (ap (λ (ms : List Said). said ++ ms) none ∙ append-nil said) in
      subst (λ (s : Store D g). WritesBy keeps view failed store s epoch call reply) (sym unmoved)
      (record {
        found = refl;
        records = λ said here has runs. subst (λ (ss : List Said). HasRecords view store ss) (same said) has;
        left = λ said here has c left. inl (stands_same said _ c (same said) (at_rest_stands _ _ _ _ has c left));
        placed = λ said one here has is. quiet_placed reply said one _ _ quiet;
        any_moment = λ said here has. starts (StandsBy said epoch call) (view (disk_of store)) (λ c left. inl (at_rest_stands _ _ _ _ has c left));
        unmoved = λ _. refl;
        cause = quiet_counts reply (failed (disk_of store)) quiet;
        premise = (λ k. k, λ k. k);
      })

abbrev pub says : ℕ → List ℕ → Said
says e l = (e, l)

pub told_same : (e : ℕ) (l : List ℕ) (one : Said) → e ≡ one.0 → l ≡ one.1 → says e l ≡ one
told_same e l one first second = ap (λ (n : ℕ). says n l) first ∙ ap (says one.0) second

-- ---- the reply to a record that was written

module _ (reply : Reply) where
  pub accepted_placed : (front : ℕ) → reply ≡ Accepted front → (said : List Said) (one : Said) (a b : View) → WasStaged said one a b → ((c : List ℕ) → Leaves b c → Stands (said ++ one ∷ []) c) → IsPlaced reply said one a b
  accepted_placed front is said one a b was stands = subst (λ (x : Reply). IsPlaced x said one a b) (sym is) (was, stands)

  pub accepted_uses : (front : ℕ) → reply ≡ Accepted front → UsesDevice reply
  accepted_uses front is = subst UsesDevice (sym is) tt

  pub accepted_counts : (front : ℕ) → reply ≡ Accepted front → (n : ℕ) → CountsReply reply n n
  accepted_counts front is n = subst (λ (x : Reply). CountsReply x n n) (sym is) refl

  pub settled_placed : (epoch front : ℕ) → reply ≡ Settled epoch front → (said : List Said) (one : Said) (a b : View) → WasStaged said one a b → ((c : List ℕ) → Leaves b c → Stands (said ++ one ∷ []) c) → IsPlaced reply said one a b
  settled_placed epoch front is said one a b was stands = subst (λ (x : Reply). IsPlaced x said one a b) (sym is) (was, stands)

  pub settled_uses : (epoch front : ℕ) → reply ≡ Settled epoch front → UsesDevice reply
  settled_uses epoch front is = subst UsesDevice (sym is) tt

  pub settled_counts : (epoch front : ℕ) → reply ≡ Settled epoch front → (n : ℕ) → CountsReply reply n n
  settled_counts epoch front is n = subst (λ (x : Reply). CountsReply x n n) (sym is) refl
