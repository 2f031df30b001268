use Rattle.std.proofs.Common.{None, refl, ◌∙◌, List, ℕ}
use Rattle.std.specs.Str.{bytes_eq}
use Rattle.indexmap.specs.IndexMap.{get}
use Rattle.driver.proofs.Sound.{adds}
use Rattle.driver.proofs.recording.add.Goals as goal

pub returns : goal.returns
returns c =
    adds c.args.tables.now _ (record { step = c.args.step; reports = c.args.reports; other = c.args.other; report = None })
    c.copy.result c.len-place.result c.after_of-after.result (λ (q : List ℕ). get bytes_eq c.note_other.new.known q) c.requires.sound c.requires.ready
    c.note_other.ensures.noted c.copy.ensures c.note.ensures c.after_of-after.ensures (c.len-place.ensures ∙ c.args.tables.now.steps.ok.0) c.note_message.ensures c.push_reserved.ensures.items refl refl
