-- A client is served in one session, wherever that rests, and over all its coordinators.
use Rattle.std.proofs.Common.{◌≡◌, [], refl, subst, List, ◌++◌, Option, Some, None}
use Rattle.std.proofs.Math.Logic.{∥∥₁_map}
use Rattle.std.specs.Prelude.{IfSome}
use Rattle.line_disk.specs.Disk.{View}
use Rattle.coordinator.specs.Passes.{PassState, IsNewPass}
use Rattle.client_link.specs.Links.{LinkState}
use Rattle.session.specs.Exchanges.{Exchange}
use Rattle.session.specs.Lasting.{LastingState, Rests, ComesTo, IsAnswered}
use Rattle.session.specs.Guests.{IsServedBy, IsGuest, IsSeated, IsPassOfGuest, IsOpen, IsGiven, HasGained, with_pass}
use Rattle.session.specs.declared.rest.Rest.{Rest}
use Rattle.session.specs.declared.rest.Rest.TheVariants as rests
use Rattle.session.proofs.Gaining.{each_gained}
use Rattle.session.proofs.Resting.{another_pass, answered_more}

-- what a client has by now is a pass with no entries added, or none
pub no_more : {D : Type 0} (keeps : D → Type 0) (view : D → View) (pass : Option PassState) → HasGained keeps view pass pass
no_more keeps view None = tt
no_more keeps view (Some pass) = ∣ ([], each_gained keeps view pass pass [] refl) ∣₁

pub given_none : {D : Type 0} (keeps : D → Type 0) (view : D → View) (old new : Option PassState) → IsGiven old new → new ≡ None → HasGained keeps view old new
given_none keeps view None None given none = tt
given_none keeps view (Some pass) None given none = absurd cc
given_none keeps view old (Some pass) given none = absurd cc

pub given_then : {D : Type 0} (keeps : D → Type 0) (view : D → View) (old between new : Option PassState) → IsGiven old between → HasGained keeps view between new → HasGained keeps view old new
given_then keeps view None None new given gained = gained
given_then keeps view None (Some pass) None given gained = absurd gained
given_then keeps view None (Some pass) (Some new) given gained = ∥∥₁_map gained (λ g. (pass, (given, g)))
given_then keeps view (Some pass) between new given gained = subst (λ (b : Option PassState). HasGained keeps view b new) given gained

rests_open : {K : Type 0} (rest : Rest) (told : K → LinkState) (begun now : K) (state : LastingState) (turned : List Exchange) → IsOpen rest → ComesTo rest told begun now state turned → Rests told begun now state turned
rests_open rests.Read told begun now state turned goes comes = comes
rests_open rests.Write told begun now state turned goes comes = comes
rests_open rests.Receive told begun now state turned goes comes = comes
rests_open rests.Due told begun now state turned goes comes = comes
rests_open rests.Renewal told begun now state turned goes comes = comes
rests_open (rests.Over kind) told begun now state turned goes comes = absurd goes

module _ {D K : Type 0} (keeps : D → Type 0) (view : D → View) (told : K → LinkState) (now : K) (state : LastingState) (rest : Rest) where
  moved : (begun new : K) (after : LastingState) (next : Rest) (passes : List PassState) → IsOpen rest
      → ((turned : List Exchange) → Rests told begun now state turned → ComesTo next told begun new after turned)
      → IsServedBy keeps view told begun now state rest passes → IsServedBy keeps view told begun new after next passes
  moved begun new after next passes goes step s = record { turned = s.turned; are = s.are; comes = step s.turned (rests_open rest told begun now state s.turned goes s.comes) }

  -- it began
  pub guest_begins : (told now).reads ≡ 0 → ComesTo rest told now now state [] → ∥ IsGuest keeps view told now state rest ∥₁
  guest_begins unread comes = ∣ record { begun = now; unread = unread; passes = []; served = record { turned = []; are = refl; comes = comes } } ∣₁

  -- it was read on
  pub guest_read : (new : K) (after : LastingState) (next : Rest) → IsOpen rest
      → ((begun : K) (turned : List Exchange) → Rests told begun now state turned → ComesTo next told begun new after turned)
      → ∥ IsGuest keeps view told now state rest ∥₁ → ∥ IsGuest keeps view told new after next ∥₁
  guest_read new after next goes step t = ∥∥₁_map t (λ g. record { begun = g.begun; unread = g.unread; passes = g.passes; served = moved g.begun new after next g.passes goes (step g.begun) g.served })

  pub seat_read : (new : K) (after : LastingState) (next : Rest) (pass : Option PassState) → IsOpen rest
      → ((begun : K) (turned : List Exchange) → Rests told begun now state turned → ComesTo next told begun new after turned)
      → ∥ IsSeated keeps view told now state rest pass ∥₁ → ∥ IsSeated keeps view told new after next pass ∥₁
  seat_read new after next pass goes step t = ∥∥₁_map t (λ s. record { begun = s.begun; unread = s.unread; earlier = s.earlier; served = moved s.begun new after next (with_pass pass s.earlier) goes (step s.begun) s.served })

  -- it waits for another coordinator
  pub seat_waits : (pass : Option PassState) → IsOpen rest → ∥ IsSeated keeps view told now state rest pass ∥₁ → ∥ IsSeated keeps view told now state rests.Renewal pass ∥₁
  seat_waits pass goes = seat_read now state rests.Renewal pass goes (λ begun turned r. r)

  -- it has a pass
  pub seat_given : (pass : PassState) → IsNewPass pass → ∥ IsSeated keeps view told now state rest None ∥₁ → ∥ IsSeated keeps view told now state rest (Some pass) ∥₁
  seat_given pass fresh t = ∥∥₁_map t (λ s. record {
    begun = s.begun;
    unread = s.unread;
    earlier = s.earlier;
    served = record { turned = s.served.turned; are = another_pass keeps view s.earlier s.served.turned pass s.served.are fresh; comes = s.served.comes };
  })

  -- it was answered
  pub seat_answered : (new : K) (after : LastingState) (next : Rest) (old pass : PassState) → IsOpen rest
      → ((begun : K) (turned : List Exchange) → Rests told begun now state turned → IsAnswered keeps view told begun new after turned old pass next)
      → ∥ IsSeated keeps view told now state rest (Some old) ∥₁ → ∥ IsSeated keeps view told new after next (Some pass) ∥₁
  seat_answered new after next old pass goes step t = ∥∥₁_map t (λ s.
      let a = step s.begun s.served.turned (rests_open rest told s.begun now state s.served.turned goes s.served.comes) in
      record {
        begun = s.begun;
        unread = s.unread;
        earlier = s.earlier;
        served = record {
          turned = s.served.turned ++ a.more;
          are = answered_more keeps view s.earlier s.served.turned a.more old pass s.served.are a.gains;
          comes = a.comes;
        };
      })

  -- the pass gained what was answered
  pub seat_gained : (new : K) (after : LastingState) (next : Rest) (old pass : PassState) → IsOpen rest
      → ((begun : K) (turned : List Exchange) → Rests told begun now state turned → IsAnswered keeps view told begun new after turned old pass next)
      → ∥ IsSeated keeps view told now state rest (Some old) ∥₁ → HasGained keeps view (Some old) (Some pass)
  seat_gained new after next old pass goes step t = ∥∥₁_map t (λ s.
      let a = step s.begun s.served.turned (rests_open rest told s.begun now state s.served.turned goes s.served.comes) in
      (a.more, a.gains))

  -- at a coordinator, and after it
  pub guest_sits : ∥ IsGuest keeps view told now state rest ∥₁ → ∥ IsSeated keeps view told now state rest None ∥₁
  guest_sits t = ∥∥₁_map t (λ g. record { begun = g.begun; unread = g.unread; earlier = g.passes; served = g.served })

  pub seat_stands : (pass : Option PassState) → ∥ IsSeated keeps view told now state rest pass ∥₁ → ∥ IsGuest keeps view told now state rest ∥₁
  seat_stands pass t = ∥∥₁_map t (λ s. record { begun = s.begun; unread = s.unread; passes = with_pass pass s.earlier; served = s.served })

  seat_shows : (pass : PassState) → ∥ IsSeated keeps view told now state rest (Some pass) ∥₁ → ∥ IsPassOfGuest keeps view told pass ∥₁
  seat_shows pass t = ∥∥₁_map t (λ s. record { begun = s.begun; unread = s.unread; now = now; state = state; rest = rest; earlier = s.earlier; served = s.served })

  pub seat_shows_all : (pass : Option PassState) → ∥ IsSeated keeps view told now state rest pass ∥₁ → IfSome pass (λ p. ∥ IsPassOfGuest keeps view told p ∥₁)
  seat_shows_all None t = tt
  seat_shows_all (Some pass) t = seat_shows pass t
