-- The account of every kind of call but a return, step by step.
use Rattle.std.proofs.Common.{◌≡◌, ◌≢◌, ℕ, ◌<◌, min, true, false, Some, List, [], ◌∷◌, inl, inr, refl, sym, ◌∙◌, ap, subst, arith}
use Rattle.std.specs.Prelude.{Contains, IsTrue, ◌==◌, ◌^◌, ⊤}
use Rattle.id_tree.specs.IdTree.{IdTree, Zero, One}
use Rattle.id_tree.specs.NormalForm.{IsId}
use Rattle.id_tree.specs.Split.{IsSplit}
use Rattle.event_tree.specs.EventTree.{EventTree, Leaf, Node}
use Rattle.event_tree.specs.NormalForm.{IsNormal, IsEvents}
use Rattle.event_tree.specs.Norm.{normal_node}
use Rattle.event_tree.specs.Event.{fill, grow, IsEventStep}
use Rattle.event_tree.specs.Grown.{IsGrown}
use Rattle.event_tree.specs.Join.{IsJoin}
use Rattle.event_tree.proofs.Steps.{step_grown}
use Rattle.stamp.specs.declared.stamp.Stamp.{Stamp}
use Rattle.report_line.specs.declared.call.Call.TheVariants as calls
use Rattle.report_line.specs.declared.report.ReportKind.{ReportKind}
use Rattle.report_line.specs.declared.report.ReportKind.TheVariants as reported
use Rattle.report_line.specs.Names.{is_name}
use Rattle.report_line.specs.Spelling.{IsCount, IsAction}
use Rattle.report_line.specs.declared.step.StepKind.TheVariants as step_kinds
use Rattle.report_line.specs.histories.History.{Name, History, event_of, sending}
use Rattle.report_line.specs.Reading.{Spells}
use Rattle.law_histories.specs.Example.{a, b, left, right, halves, act, told, forked}
use Rattle.law_histories.proofs.ExampleForms.{name_a, name_b, on_one, on_left, on_right, flat, halved}
use Rattle.law_histories.proofs.Example.{apart, both, some_left, some_right, above, below}
use Rattle.law_lines.proofs.Listed.{first_in, in_cases, none_in}
use Rattle.law_lines.specs.Runs.{Run, Made, epoch, current}
use Rattle.process.specs.declared.handed.Start.{Start}
use Rattle.process.specs.declared.handed.Retirement.{Retirement}
use Rattle.process.specs.Steps.{Counts, Works, Sends, HandsOver, Tells, Receives, Forks, Retires, Absorbs}
use Rattle.law_process.specs.Accounts.{Act, Work, Send, Again, Receive, Check, Present, Fork, Begin, Retire, Absorb, Doing, Did, made}
use Rattle.law_process.specs.Handing.{Past, newest, IsNewName, IsUnbegun, IsUnabsorbed, WasSent, AreHandedOver}
use Rattle.law_process.proofs.Standing.{sends_now}
use Rattle.law_process.specs.Example.{line_of, a0, a1, a2, a3, a4, a5, b0, b1, b2, b3, start_of_b, message, end_of_b, AFamilyIsPossible}

-- ---- lines

pub spells : (epoch : ℕ) (p : Name) (n : ℕ) (i : IdTree) (e : EventTree) (x : ReportKind) → epoch < 2 ^ 32 → IsTrue (is_name p) → IsCount n → IsId i → IsEvents e → IsAction x
    → Spells (calls.Report (record { epoch = epoch; report = told p n i e x })) (line_of epoch (told p n i e x))
spells epoch p n i e x low name count id events action =
    ((low, record { name = name; count = count; stamped = record { id = id; events = events }; acted = action }), refl)

-- ---- steps of the clock

abbrev pub stamp : IdTree → EventTree → Stamp
stamp i e = record { id = i; events = e }

pub grows : (i : IdTree) (e f : EventTree) → fill i e ≡ e → f ≡ grow i e → IsEventStep i e f
grows i e f same is = record { filled = λ differs. absurd (differs same); grown = λ again. is }

pub fills : (i : IdTree) (e f : EventTree) → fill i e ≢ e → f ≡ fill i e → IsEventStep i e f
fills i e f differs is = record { filled = λ again. is; grown = λ same. absurd (differs same) }

pub left_some : left ≢ Zero
left_some is = cc

pub right_some : right ≢ Zero
right_some is = cc

pub one_some : One ≢ Zero
one_some is = cc

pub grown_of : (i : IdTree) (e f : EventTree) → IsId i → i ≢ Zero → IsNormal e → IsEventStep i e f → IsGrown i e f
grown_of i e f id some normal step = step_grown i e f id.normal some normal step

pub counts : (i : IdTree) (e f : EventTree) → IsId i → i ≢ Zero → IsNormal e → IsEventStep i e f → Counts (stamp i e) (stamp i f)
counts i e f id some normal step = record { event = record { id = refl; step = step }; grown = step_grown i e f id.normal some normal step }

pub halves_it : IsSplit One left right
halves_it = record { left = some_left; right = some_right; disjoint = apart; together = both }

fork_step : IsEventStep One (Leaf 0) (Leaf 1)
fork_step = grows One (Leaf 0) (Leaf 1) refl refl

pub work_step : IsEventStep left (Leaf 1) (halves 1 1 0)
work_step = grows left (Leaf 1) (halves 1 1 0) refl refl

pub send_step : IsEventStep left (halves 1 1 0) (halves 1 2 0)
unfolding normal_node
send_step = grows left (halves 1 1 0) (halves 1 2 0) refl refl

present_step : IsEventStep left (halves 1 2 0) (halves 1 3 0)
unfolding normal_node
present_step = grows left (halves 1 2 0) (halves 1 3 0) refl refl

last_step : IsEventStep left (halves 1 3 0) (halves 1 4 0)
unfolding normal_node
last_step = grows left (halves 1 3 0) (halves 1 4 0) refl refl

leaf_no_node : (n m : ℕ) (e f : EventTree) → Leaf n ≢ Node m e f
leaf_no_node n m e f is = cc

receive_step : IsEventStep right (halves 1 2 0) (Leaf 3)
unfolding normal_node
receive_step = fills right (halves 1 2 0) (Leaf 3) (leaf_no_node 3 1 (Leaf 2) (Leaf 0)) refl

check_step : IsEventStep right (Leaf 3) (halves 3 0 1)
check_step = grows right (Leaf 3) (halves 3 0 1) refl refl

retire_step : IsEventStep right (halves 3 0 1) (halves 3 0 2)
unfolding normal_node
retire_step = grows right (halves 3 0 1) (halves 3 0 2) refl refl

pub normal : (n x y : ℕ) → min x y ≡ 0 → (x == y) ≡ false → IsNormal (halves n x y)
normal n x y least differs = (tt, tt, least, differs)

received_join : IsJoin (Leaf 1) (halves 1 2 0) (halves 1 2 0)
received_join [] = refl
received_join (false ∷ p) = refl
received_join (true ∷ p) = refl

absorbed_join : IsJoin (halves 1 4 0) (halves 3 0 2) (Leaf 5)
absorbed_join [] = refl
absorbed_join (false ∷ p) = refl
absorbed_join (true ∷ p) = refl

-- ---- the calls do what they are said to do

pub forks_b : Forks a0 a1 start_of_b (line_of 0 (told a 1 One (Leaf 1) (forked b)))
forks_b = record {
  goes = record { name = refl; epoch = refl; reports = refl };
  step = fork_step;
  grown = grown_of One (Leaf 0) (Leaf 1) on_one one_some tt fork_step;
  other_name = above 98 97 (omega arith);
  epoch = refl;
  same = refl;
  split = halves_it;
  reported = spells 0 a 1 One (Leaf 1) (forked b) (omega arith) name_a (omega arith, omega arith) on_one (flat 1 (omega arith)) (on_left, name_b, on_right);
}

works_a : Works a1 a2
works_a = record { goes = record { name = refl; epoch = refl; reports = refl }; stamped = counts left (Leaf 1) (halves 1 1 0) on_left left_some tt work_step }

sends_a : Sends a2 a3 message
sends_a = record {
  works = record {
    goes = record { name = refl; epoch = refl; reports = refl };
    stamped = counts left (halves 1 1 0) (halves 1 2 0) on_left left_some (normal 1 1 0 refl refl) send_step;
  };
  epoch = refl;
  events = refl;
}

receives_b : Receives b0 message b1
receives_b = record {
  epoch = refl;
  goes = record { name = refl; epoch = refl; reports = refl };
  stamped = record {
    id = refl;
    joined = halves 1 2 0;
    is_join = record { join = received_join; normal = normal 1 2 0 refl refl };
    step = receive_step;
    grown = grown_of right (halves 1 2 0) (Leaf 3) on_right right_some (normal 1 2 0 refl refl) receive_step;
  };
}

checks_b : Tells b1 b2 reported.Check (line_of 0 (told b 1 right (halves 3 0 1) reported.Check))
checks_b = record {
  goes = record { name = refl; epoch = refl; reports = refl };
  stamped = counts right (Leaf 3) (halves 3 0 1) on_right right_some tt check_step;
  reported = spells 0 b 1 right (halves 3 0 1) reported.Check (omega arith) name_b (omega arith, omega arith) on_right (halved 3 0 1 refl refl (omega arith)) tt;
}

presents_a : Tells a3 a4 reported.Present (line_of 0 (told a 2 left (halves 1 3 0) reported.Present))
presents_a = record {
  goes = record { name = refl; epoch = refl; reports = refl };
  stamped = counts left (halves 1 2 0) (halves 1 3 0) on_left left_some (normal 1 2 0 refl refl) present_step;
  reported = spells 0 a 2 left (halves 1 3 0) reported.Present (omega arith) name_a (omega arith, omega arith) on_left (halved 1 3 0 refl refl (omega arith)) tt;
}

retires_b : Retires b2 a end_of_b (line_of 0 (told b 2 right (halves 3 0 2) (reported.Retire a)))
retires_b = record {
  other = below 97 98 (omega arith);
  process = refl;
  epoch = refl;
  target_is = refl;
  stamped = counts right (halves 3 0 1) (halves 3 0 2) on_right right_some (normal 3 0 1 refl refl) retire_step;
  reported = spells 0 b 2 right (halves 3 0 2) (reported.Retire a) (omega arith) name_b (omega arith, omega arith) on_right (halved 3 0 2 refl refl (omega arith)) name_a;
}

absorbs_a : Absorbs a4 end_of_b a5 (line_of 0 (told a 3 One (Leaf 5) (reported.Absorb b)))
absorbs_a = record {
  into_this = refl;
  other = λ same. retires_b.other (sym same);
  goes = record { name = refl; epoch = refl; reports = refl };
  stamped = record {
    after = halves 1 4 0;
    step = last_step;
    grown = grown_of left (halves 1 3 0) (halves 1 4 0) on_left left_some (normal 1 3 0 refl refl) last_step;
    join = absorbed_join;
    disjoint = apart;
    together = both;
  };
  reported = spells 0 a 3 One (Leaf 5) (reported.Absorb b) (omega arith) name_a (omega arith, omega arith) on_one (flat 5 (omega arith)) name_b;
}

-- ---- they may

-- a fact of each call so far
abbrev pub Each : (Act → Type 0) → Past → Type 0
Each P [] = ⊤
Each P (d ∷ past) = P d.act × Each P past

pub each_is : (P : Act → Type 0) (past : Past) → Each P past → (d : Doing) → Contains past d → P d.act
each_is P [] each d at = absurd (none_in d at)
each_is P (x ∷ past) each d at =
    elim (in_cases x d past at) [
      | inl same ↦ subst (λ (y : Doing). P y.act) same each.0
      | inr before ↦ each_is P past each.1 d before
    ]

pub unbegun : (past : Past) (from : ℕ) → Each (λ act. (s : Start) → act ≢ Begin from s) past → IsUnbegun past from
unbegun past from each d s at = each_is (λ act. (t : Start) → act ≢ Begin from t) past each d at s

pub unabsorbed : (past : Past) (from : ℕ) → Each (λ act. (r : Retirement) (line : List ℕ) → act ≢ Absorb from r line) past → IsUnabsorbed past from
unabsorbed past from each d r line at = each_is (λ act. (q : Retirement) (given : List ℕ) → act ≢ Absorb from q given) past each d at r line

abbrev p1 : Past
p1 = made (Fork start_of_b (line_of 0 (told a 1 One (Leaf 1) (forked b)))) a0 a1 ∷ []

abbrev p2 : Past
p2 = made (Begin 0 start_of_b) b0 b0 ∷ p1

abbrev p3 : Past
p3 = made Work a1 a2 ∷ p2

abbrev p4 : Past
p4 = made (Send message) a2 a3 ∷ p3

abbrev p5 : Past
p5 = made (Again 3 message message) a3 a3 ∷ p4

abbrev p6 : Past
p6 = made (Receive 3 message) b0 b1 ∷ p5

abbrev p7 : Past
p7 = made (Check (line_of 0 (told b 1 right (halves 3 0 1) reported.Check))) b1 b2 ∷ p6

abbrev p8 : Past
p8 = made (Present (line_of 0 (told a 2 left (halves 1 3 0) reported.Present))) a3 a4 ∷ p7

abbrev p9 : Past
p9 = made (Retire a end_of_b (line_of 0 (told b 2 right (halves 3 0 2) (reported.Retire a)))) b2 b3 ∷ p8

from0 : newest a [] a ≡ Some a0
unfolding newest
from0 = refl

from2 : newest a p2 a ≡ Some a1
unfolding newest
from2 = refl

from3 : newest a p3 a ≡ Some a2
unfolding newest
from3 = refl

from4 : newest a p4 a ≡ Some a3
unfolding newest
from4 = refl

from5 : newest a p5 b ≡ Some b0
unfolding newest
from5 = refl

from6 : newest a p6 b ≡ Some b1
unfolding newest
from6 = refl

from7 : newest a p7 a ≡ Some a3
unfolding newest
from7 = refl

from8 : newest a p8 b ≡ Some b2
unfolding newest
from8 = refl

from9 : newest a p9 a ≡ Some a4
unfolding newest
from9 = refl

pub b_is_new : IsNewName a [] b
b_is_new = (above 98 97 (omega arith), λ d s line at. absurd (none_in d at))

unbegun_1 : IsUnbegun p1 0
unbegun_1 = unbegun p1 0 (λ s is. cc, tt)

unabsorbed_9 : IsUnabsorbed p9 8
unabsorbed_9 =
    unabsorbed p9 8 (λ r l is. cc, (λ r l is. cc, (λ r l is. cc, (λ r l is. cc, (λ r l is. cc, (λ r l is. cc, (λ r l is. cc, (λ r l is. cc, (λ r l is. cc, tt)))))))))

-- the steps of the calls up to the sending
abbrev steps_so_far : Run
steps_so_far =
    Made 0 (act a (step_kinds.Send (3 ∷ [])) left (halves 1 2 0))
    ∷ Made 0 (act a step_kinds.Work left (halves 1 1 0))
    ∷ Made 0 (act a (step_kinds.Fork b right) left (Leaf 1))
    ∷ []

abbrev before_sending : History
before_sending = act a step_kinds.Work left (halves 1 1 0) ∷ act a (step_kinds.Fork b right) left (Leaf 1) ∷ []

history_so_far : current steps_so_far ≡ act a (step_kinds.Send (3 ∷ [])) left (halves 1 2 0) ∷ before_sending
unfolding epoch current
history_so_far = refl

was_sent : WasSent steps_so_far 3 (halves 1 2 0)
was_sent = (
  event_of before_sending (act a (step_kinds.Send (3 ∷ [])) left (halves 1 2 0)),
  ap (λ (h : History). sending h (3 ∷ [])) history_so_far
      ∙ sends_now before_sending (act a (step_kinds.Send (3 ∷ [])) left (halves 1 2 0)) (3 ∷ []) refl,
  refl,
)

hands_over : HandsOver a3 message message
hands_over = record { not_newer = omega arith; known = λ p. omega arith; epoch = refl; events = refl }

-- ---- all of it, from the last call back

rest9 : (run : Run) → AreHandedOver a run p9 (Did (made (Absorb 8 end_of_b (line_of 0 (told a 3 One (Leaf 5) (reported.Absorb b)))) a4 a5) ∷ [])
rest9 run = (
  absorbs_a,
  (
    from9,
    (made (Retire a end_of_b (line_of 0 (told b 2 right (halves 3 0 2) (reported.Retire a)))) b2 b3, a, line_of 0 (told b 2 right (halves 3 0 2) (reported.Retire a)), record { later = []; earlier = p8; past_is = refl; number = refl }, refl),
    inl (refl, unabsorbed_9),
  ),
  tt,
)

pub a_family_is_possible : AFamilyIsPossible
a_family_is_possible = (
  forks_b,
  (from0, b_is_new),
  (
    refl,
    ((made (Fork start_of_b (line_of 0 (told a 1 One (Leaf 1) (forked b)))) a0 a1, line_of 0 (told a 1 One (Leaf 1) (forked b)), record { later = []; earlier = []; past_is = refl; number = refl }, refl), unbegun_1),
    (
      works_a,
      from2,
      (
        sends_a,
        from3,
        (
          (hands_over, refl),
          (from4, λ now. was_sent),
          (
            receives_b,
            (from5, inr (inl (made (Again 3 message message) a3 a3, message, first_in (made (Again 3 message message) a3 a3) p4, refl))),
            (checks_b, from6, (presents_a, from7, ((retires_b, refl), from8, rest9 _))),
          ),
        ),
      ),
    ),
  ),
)
