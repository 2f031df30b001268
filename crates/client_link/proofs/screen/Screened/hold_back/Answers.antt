use Rattle.std.proofs.Common.{arith, ◌∙◌, sym}
use Rattle.std.proofs.lemmas.List.{length-set}
use Rattle.client_link.proofs.Screening.{room_for_more, more_says}
use Rattle.client_link.proofs.screen.Screened.hold_back.Goals as goal

pub invariant_of-self : goal.invariant_of-self
invariant_of-self g c =
    let old = c.args.self.now in
    let told = c.look_for_request-self.ensures in
    let room = old.has_room c.requires in
    let none = old.none_given c.requires in
    let long = length-set old.first old.held c.args.byte in
    record {
      eight = long ∙ old.eight;
      in_order = omega (arith, none);
      within = omega (arith, room);
      none_given = λ h. none;
      has_room = λ h. room_for_more c.look_for_request-self.result _ old.held (omega (arith, room, long, old.eight)) told h;
      seen = λ h. sym told ∙ h;
    }

pub returns-clause-same_text : goal.returns-clause-same_text
returns-clause-same_text g c =
    let old = c.args.self.now in
    let room = old.has_room c.requires in
    λ later. more_says c.look_for_request-self.result old.first old.given old.held c.args.byte later (old.none_given c.requires) (omega (arith, room, old.eight)) c.look_for_request-self.ensures
