-- Two openings of one file with a settlement in the second, written out: so the law of openings speaks of something.
use Rattle.std.specs.Prelude.{◌≡◌, [], ◌++◌, take, drop}
use Rattle.law_histories.specs.Example.{a}
use Rattle.chains.specs.Held.{Held}
use Rattle.law_turns.specs.Traces.{Trace, ProcessesObey}
use Rattle.law_turns.specs.Example.{settled_once, held_then}
use Rattle.session.specs.Current.{recorded_in}
use Rattle.session.specs.Openings.{AreRecordable, IsHeldOver}

-- what happened until the settlement, over a new file
abbrev pub in_the_first : Trace
in_the_first = take 5 settled_once

-- and from the settlement on, over this file opened again
abbrev pub in_the_second : Trace
in_the_second = drop 5 settled_once

-- All that is premised of what happened and of what is held holds of these.
abbrev pub TwoOpeningsArePossible : Type 0
TwoOpeningsArePossible =
    ProcessesObey a [] (in_the_first ++ in_the_second)
    × AreRecordable (in_the_first ++ in_the_second)
    × ((first : Held) × IsHeldOver (recorded_in in_the_first) first
    × ((later : IsHeldOver (recorded_in in_the_first ++ recorded_in in_the_second) held_then) × (later.found ≡ recorded_in in_the_first)))
