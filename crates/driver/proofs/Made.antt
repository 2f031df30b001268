-- The steps that are made: stamped as asked, allowed, and refused by no cause.
use Rattle.std.proofs.Common.{◌≡◌, ◌≢◌, ℕ, Some, None, refl, sym, ◌∙◌, ap, subst}
use Rattle.id_tree.specs.IdTree.{IdTree}
use Rattle.id_tree.specs.Points.{owns}
use Rattle.stamp.specs.declared.stamp.Stamp.{Stamp}
use Rattle.event_tree.specs.EventTree.{EventTree}
use Rattle.stamp.specs.Operations.{IsFork, IsNormalJoin}
use Rattle.report_line.specs.declared.report.ReportKind.TheVariants as report_kinds
use Rattle.report_line.specs.declared.step.StepKind.{StepKind}
use Rattle.report_line.specs.declared.step.StepKind.TheVariants as step_kinds
use Rattle.report_line.specs.histories.History.{Name, History, Event, Unborn, Retired, status, sending}
use Rattle.report_line.specs.histories.Lawful.{IsOwnWork}
use Rattle.report_line.specs.histories.StepReports.{reporting_steps, id_of}
use Rattle.law_histories.proofs.Status.{root_born}
use Rattle.driver.specs.declared.step.StepRequest.TheVariants.{Work, Check, Present, Send, Receive, Fork, Retire, Absorb}
use Rattle.driver.specs.declared.process_status.ProcessStatus.TheVariants.{Born, Gone}
use Rattle.driver.specs.working.Made.{Made, step_of, silently, openly}
use Rattle.driver.specs.declared.steps.Alive.{Alive}
use Rattle.driver.specs.declared.steps.NextReport.{NextReport}
use Rattle.driver.specs.declared.steps.ForkParts.{ForkParts}
use Rattle.driver.specs.Stamping.{stamp_of}
use Rattle.driver.specs.working.Making.{IsAlive, IsEventMade, IsForkMade, IsReceiveMade, IsAbsorbMade, report_after, parts_after, Makes}
use Rattle.driver.proofs.Verdicts.{passed}

-- an event on the own stamp is the own work
pub own_work : (e : Event) (p : Name) (d : StepKind) (t : Stamp) → IsEventMade (stamp_of e) t → IsOwnWork e e.values (step_of p d t)
own_work e p d t w = record { same_id = λ point. ap (λ (i : IdTree). owns i point) w.event.id; grown = w.grown }

pub from_last : (s t : Stamp) (e : Event) → s ≡ stamp_of e → IsEventMade s t → IsEventMade (stamp_of e) t
from_last s t e is w = subst (λ (x : Stamp). IsEventMade x t) is w

-- it is the next one after those that the process made
counts : (root : Name) (h : History) (p : Name) (a : Alive) (t : Stamp) (r : NextReport) → IsAlive root h p a → r ≡ report_after a.reports t → r ≡ report_after (reporting_steps p h) t
counts root h p a t r alive is = is ∙ ap (λ (n : ℕ). report_after n t) alive.reports

pub makes_work : (root : Name) (h : History) (p : Name) (a : Alive) (t : Stamp) (made : Made) → IsAlive root h p a → IsEventMade a.stamp.now t
    → made ≡ silently p step_kinds.Work t a.reports → Makes root h p Work made
makes_work root h p a t made alive event is = subst (λ (m : Made). Makes root h p Work m) (sym is)
    (let w = from_last a.stamp.now t alive.last alive.stamp event in record {
      process = refl;
      before = alive.last;
      living = alive.lives;
      stamped = (refl, w.event);
      allowed = own_work alive.last p step_kinds.Work t w;
      verdict = passed root h p Work alive.last alive.lives (λ no. no) (λ no. no) (λ no. no) (λ no. no) (λ no. no) w.fits (λ no. no);
      changes = record { reports = alive.reports; other = refl; report = refl };
    })

pub makes_check : (root : Name) (h : History) (p : Name) (a : Alive) (t : Stamp) (c : NextReport) (made : Made) → IsAlive root h p a → IsEventMade a.stamp.now t
    → c ≡ report_after a.reports t → made ≡ openly p step_kinds.Check t None c.number c.reported report_kinds.Check → Makes root h p Check made
makes_check root h p a t c made alive event count is = subst (λ (m : Made). Makes root h p Check m)
    (sym (is ∙ ap (λ (x : NextReport). openly p step_kinds.Check t None x.number x.reported report_kinds.Check) (counts root h p a t c alive count)))
    (let w = from_last a.stamp.now t alive.last alive.stamp event in record {
      process = refl;
      before = alive.last;
      living = alive.lives;
      stamped = (refl, w.event);
      allowed = own_work alive.last p step_kinds.Check t w;
      verdict = passed root h p Check alive.last alive.lives (λ no. no) (λ no. no) (λ no. no) (λ no. no) (λ no. no) w.fits (λ no. no);
      changes = record { reports = refl; other = refl; report = refl };
    })

pub makes_present : (root : Name) (h : History) (p : Name) (a : Alive) (t : Stamp) (c : NextReport) (made : Made) → IsAlive root h p a → IsEventMade a.stamp.now t
    → c ≡ report_after a.reports t → made ≡ openly p step_kinds.Present t None c.number c.reported report_kinds.Present → Makes root h p Present made
makes_present root h p a t c made alive event count is = subst (λ (m : Made). Makes root h p Present m)
    (sym (is ∙ ap (λ (x : NextReport). openly p step_kinds.Present t None x.number x.reported report_kinds.Present) (counts root h p a t c alive count)))
    (let w = from_last a.stamp.now t alive.last alive.stamp event in record {
      process = refl;
      before = alive.last;
      living = alive.lives;
      stamped = (refl, w.event);
      allowed = own_work alive.last p step_kinds.Present t w;
      verdict = passed root h p Present alive.last alive.lives (λ no. no) (λ no. no) (λ no. no) (λ no. no) (λ no. no) w.fits (λ no. no);
      changes = record { reports = refl; other = refl; report = refl };
    })

pub makes_send : (root : Name) (h : History) (p m y : Name) (a : Alive) (t : Stamp) (made : Made) → IsAlive root h p a → IsEventMade a.stamp.now t
    → sending h m ≡ None → y ≡ m → made ≡ silently p (step_kinds.Send y) t a.reports → Makes root h p (Send m) made
makes_send root h p m y a t made alive event free is_y is = subst (λ (made' : Made). Makes root h p (Send m) made')
    (sym (is ∙ ap (λ (z : Name). silently p (step_kinds.Send z) t a.reports) is_y))
    (let w = from_last a.stamp.now t alive.last alive.stamp event in record {
      process = refl;
      before = alive.last;
      living = alive.lives;
      stamped = (refl, w.event);
      allowed = (own_work alive.last p (step_kinds.Send m) t w, free);
      verdict = passed root h p (Send m) alive.last alive.lives (λ no. no) (λ no. no) (λ taken. taken free) (λ no. no) (λ no. no) w.fits (λ no. no);
      changes = record { reports = alive.reports; other = refl; report = refl };
    })

pub makes_receive : (root : Name) (h : History) (p m y : Name) (a : Alive) (t : Stamp) (came : EventTree) (sent : Event) (made : Made) → IsAlive root h p a
    → sending h m ≡ Some sent → came ≡ sent.values → IsReceiveMade a.stamp.now came t → y ≡ m
    → made ≡ silently p (step_kinds.Receive y) t a.reports → Makes root h p (Receive m) made
makes_receive root h p m y a t came sent made alive is_sent is_came receive is_y is = subst (λ (made' : Made). Makes root h p (Receive m) made')
    (sym (is ∙ ap (λ (z : Name). silently p (step_kinds.Receive z) t a.reports) is_y))
    (let w : IsReceiveMade (stamp_of alive.last) sent.values t =
    subst (λ (s : Stamp). IsReceiveMade s sent.values t) alive.stamp (subst (λ (e : EventTree). IsReceiveMade a.stamp.now e t) is_came receive) in record {
      process = refl;
      before = alive.last;
      living = alive.lives;
      stamped = (sent, refl, is_sent, w.receive);
      allowed = record {
        sent = sent;
        is_sent = is_sent;
        joined = w.receive.joined;
        is_join = w.receive.is_join.join;
        own = record { same_id = λ point. ap (λ (i : IdTree). owns i point) w.receive.id; grown = w.receive.grown };
      };
      verdict = passed root h p (Receive m) alive.last alive.lives (λ no. no) (λ no. no) (λ no. no) (λ none. none_sent sent (sym is_sent ∙ none)) (λ no. no)
          (λ full. w.fits (full.1, subst (λ (e : Event). IsNormalJoin alive.last.values e.values full.1) (same_sent full.0 sent (sym full.2 ∙ is_sent)) full.3, full.4)) (λ no. no);
      changes = record { reports = alive.reports; other = refl; report = refl };
    })
  where
    none_sent : (e : Event) → Some e ≢ None
    none_sent e is = cc

    same_sent : (d e : Event) → Some d ≡ Some e → d ≡ e
    same_sent d e is = cc

-- the step of a fork, of a retirement and of an absorption, of the parts that are made for it
abbrev pub forking : Name → Stamp → ForkParts → Name → Name → Stamp → Made
forking p t v y x b = openly p (step_kinds.Fork y v.given) t (Some (record { name = x; known = Born b })) v.number v.reported v.action

abbrev pub retiring : Name → Stamp → NextReport → Name → Name → Made
retiring p t v x z = openly p (step_kinds.Retire x) t None v.number v.reported (report_kinds.Retire z)

abbrev pub absorbing : Name → Stamp → NextReport → Name → Name → Name → Made
absorbing p t v x y z = openly p (step_kinds.Absorb x) t (Some (record { name = y; known = Gone })) v.number v.reported (report_kinds.Absorb z)

pub makes_fork : (root : Name) (h : History) (p c x y : Name) (a : Alive) (t begun : Stamp) (parts : ForkParts) (made : Made)
    → IsAlive root h p a → status root h c ≡ Unborn → IsForkMade a.stamp.now t begun → parts ≡ parts_after a.reports a.stamp.now.id t c begun.id → x ≡ c → y ≡ c
    → made ≡ forking p t parts y x begun
    → Makes root h p (Fork c) made
makes_fork root h p c x y a t begun parts made alive unborn fork parted is_x is_y is =
    subst (λ (made' : Made). Makes root h p (Fork c) made') (sym (is ∙ same))
    (let w : IsForkMade (stamp_of alive.last) t begun = subst (λ (s : Stamp). IsForkMade s t begun) alive.stamp fork in record {
      process = refl;
      before = alive.last;
      living = alive.lives;
      stamped = (begun.id, refl, subst (λ (s : Stamp). IsFork (stamp_of alive.last) t s) begun_is w.fork);
      allowed = record {
        grown = w.grown;
        new_name = unborn;
        not_root = λ is_root. root_born root h (ap (status root h) (sym is_root) ∙ unborn);
        disjoint = w.split.disjoint;
        not_empty = w.split.left;
        child_not_empty = w.split.right;
        together = w.split.together;
      };
      verdict = passed root h p (Fork c) alive.last alive.lives (λ no. no) (λ no. no) (λ taken. taken unborn) (λ no. no) (λ no. no) w.fits w.shallow;
      changes = record { reports = refl; other = refl; report = refl };
    })
  where
    begun_is : begun ≡ record { id = begun.id; events = t.events }
    begun_is = ap (λ (e : EventTree). record { id = begun.id; events = e }) fork.fork.same

    is_before : a.stamp.now.id ≡ id_of (status root h p)
    is_before = ap (λ (s : Stamp). s.id) alive.stamp ∙ ap id_of (sym alive.lives)

    same : forking p t parts y x begun ≡ forking p t (parts_after (reporting_steps p h) (id_of (status root h p)) t c begun.id) c c (record { id = begun.id; events = t.events })
    same =
        ap (λ (v : ForkParts). forking p t v y x begun) (parted ∙ (ap (λ (n : ℕ). parts_after n a.stamp.now.id t c begun.id) alive.reports
        ∙ ap (λ (i : IdTree). parts_after (reporting_steps p h) i t c begun.id) is_before))
        ∙ (ap (λ (v : Name). forking p t (parts_after (reporting_steps p h) (id_of (status root h p)) t c begun.id) v x begun) is_y
        ∙ (ap (λ (v : Name). forking p t (parts_after (reporting_steps p h) (id_of (status root h p)) t c begun.id) c v begun) is_x
        ∙ ap (λ (v : Stamp). forking p t (parts_after (reporting_steps p h) (id_of (status root h p)) t c begun.id) c c v) begun_is))

pub makes_retire : (root : Name) (h : History) (p q x z : Name) (a : Alive) (t : Stamp) (c : NextReport) (made : Made)
    → IsAlive root h p a → IsEventMade a.stamp.now t → status root h q ≢ Unborn → q ≢ p → c ≡ report_after a.reports t → x ≡ q → z ≡ q
    → made ≡ retiring p t c x z → Makes root h p (Retire q) made
makes_retire root h p q x z a t c made alive event born other count is_x is_z is =
    subst (λ (made' : Made). Makes root h p (Retire q) made') (sym (is ∙ same))
    (let w = from_last a.stamp.now t alive.last alive.stamp event in record {
      process = refl;
      before = alive.last;
      living = alive.lives;
      stamped = (refl, w.event);
      allowed = (own_work alive.last p (step_kinds.Retire q) t w, other);
      verdict = passed root h p (Retire q) alive.last alive.lives born other (λ no. no) (λ no. no) (λ no. no) w.fits (λ no. no);
      changes = record { reports = refl; other = refl; report = refl };
    })
  where
    same : retiring p t c x z ≡ retiring p t (report_after (reporting_steps p h) t) q q
    same =
        ap (λ (v : NextReport). retiring p t v x z) (counts root h p a t c alive count)
        ∙ (ap (λ (v : Name). retiring p t (report_after (reporting_steps p h) t) v z) is_x
        ∙ ap (λ (v : Name). retiring p t (report_after (reporting_steps p h) t) q v) is_z)

pub makes_absorb : (root : Name) (h : History) (p r x y z : Name) (a : Alive) (retired t : Stamp) (e : Event) (c : NextReport) (made : Made)
    → IsAlive root h p a → status root h r ≡ Retired e p → retired ≡ stamp_of e → IsAbsorbMade a.stamp.now retired t → c ≡ report_after a.reports t → x ≡ r → y ≡ r → z ≡ r
    → made ≡ absorbing p t c x y z → Makes root h p (Absorb r) made
makes_absorb root h p r x y z a retired t e c made alive waits is_retired absorb count is_x is_y is_z is =
    subst (λ (made' : Made). Makes root h p (Absorb r) made') (sym (is ∙ same))
    (let w : IsAbsorbMade (stamp_of alive.last) (stamp_of e) t =
    subst (λ (s : Stamp). IsAbsorbMade s (stamp_of e) t) alive.stamp (subst (λ (s : Stamp). IsAbsorbMade a.stamp.now s t) is_retired absorb) in record {
      process = refl;
      before = alive.last;
      living = alive.lives;
      stamped = (e, refl, waits, w.absorb);
      allowed = record {
        retirement = e;
        into_this = waits;
        between = w.absorb.after;
        grown = w.absorb.grown;
        joined = w.absorb.join;
        disjoint = w.absorb.disjoint;
        together = w.absorb.together;
      };
      verdict = passed root h p (Absorb r) alive.last alive.lives (λ no. no) (λ no. no) (λ no. no) (λ no. no) (λ none. none e waits) w.fits (λ no. no);
      changes = record { reports = refl; other = refl; report = refl };
    })
  where
    same : absorbing p t c x y z ≡ absorbing p t (report_after (reporting_steps p h) t) r r r
    same =
        ap (λ (v : NextReport). absorbing p t v x y z) (counts root h p a t c alive count)
        ∙ (ap (λ (v : Name). absorbing p t (report_after (reporting_steps p h) t) v y z) is_x
        ∙ (ap (λ (v : Name). absorbing p t (report_after (reporting_steps p h) t) r v z) is_y
        ∙ ap (λ (v : Name). absorbing p t (report_after (reporting_steps p h) t) r r v) is_z))
