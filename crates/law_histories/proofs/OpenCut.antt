-- What the open cut keeps is not lawful, and so the cut is not closed.
use Rattle.std.proofs.Common.{◌≡◌, Option, Some, None, [], ◌∷◌, refl, subst}
use Rattle.report_line.specs.declared.step.StepKind.TheVariants.{Send, Receive}
use Rattle.report_line.specs.histories.History.{History, Event, event_of, sending}
use Rattle.report_line.specs.histories.Lawful.{IsLawful}
use Rattle.report_line.specs.histories.Events.{to_receive}
use Rattle.event_tree.specs.EventTree.{Leaf}
use Rattle.id_tree.specs.IdTree.{One}
use Rattle.law_histories.specs.Example.{a, m, act}
use Rattle.law_histories.proofs.Rules.{last_step}
use Rattle.law_histories.specs.Kept.{kept, IsClosed}
use Rattle.law_histories.specs.OpenCut.{sent_and_received, receive_alone, OpenCutIsRefused}

kept_alone : kept receive_alone sent_and_received ≡ act a (Receive m) One (Leaf 2) ∷ []
unfolding kept
kept_alone = refl

none_sent : (e : Event) → (let o : Option Event = None in o) ≡ Some e → ⊥
none_sent e is = cc

not_sent : (e : Event) → sending [] m ≡ Some e → ⊥
unfolding sending
not_sent e is = none_sent e is

not_lawful : ¬ IsLawful a (act a (Receive m) One (Leaf 2) ∷ [])
not_lawful lawful =
    let w = last_step lawful (act a (Receive m) One (Leaf 2)) [] refl in
    let receives = w.2 in
    not_sent receives.sent receives.is_sent

was_sent : sending (act a (Send m) One (Leaf 1) ∷ []) m ≡ Some (event_of [] (act a (Send m) One (Leaf 1)))
unfolding sending
was_sent = refl

not_closed : ¬ IsClosed a sent_and_received receive_alone
not_closed closed =
    let inside = closed (event_of [] (act a (Send m) One (Leaf 1))) (event_of (act a (Send m) One (Leaf 1) ∷ []) (act a (Receive m) One (Leaf 2)))
    (to_receive refl was_sent) refl in
    absurd (cc)

pub open_cut_is_refused : OpenCutIsRefused
open_cut_is_refused = (kept_alone, λ lawful. not_lawful (subst (λ (h : History). IsLawful a h) kept_alone lawful), not_closed)
