use Rattle.std.proofs.Common.{◌≡◌, [], ◌++◌, map, sym, ap, ◌∙◌}
use Rattle.report_line.specs.Cutting.{cut_of}
use Rattle.report_line.specs.working.Parts.{part_of}
use Rattle.report_line.proofs.Streams.{joined_cut, lines_fit}
use Rattle.report_line.proofs.Parts.{rest_of_parts}
use Rattle.report_line.proofs.feed.cut_piece.Goals as goal

pub returns-clause-cut : goal.returns-clause-cut
returns-clause-cut c =
    let nothing : c.in_ok-bytes.bytes.items ≡ [] = c.in_ok-bytes.ensures.items in
    let bytes : c.extend_from_slice-2.new.self.items ≡ c.args.rest.now ++ c.args.piece.now =
    c.in_ok-extend_from_slice-2.ensures.items ∙ ap (λ l. l ++ c.args.piece.now) (c.in_ok-extend_from_slice.ensures.items ∙ ap (λ l. l ++ c.args.rest.now) nothing) in
    sym (joined_cut c.args.rest.now c.args.piece.now c.requires) ∙ ap cut_of (sym bytes) ∙ rw c.deref.ensures.value at c.in_ok-parts.ensures.cut

pub returns-clause-lines : goal.returns-clause-lines
returns-clause-lines c = lines_fit c.args.rest.now c.args.piece.now _ _ c.requires (returns-clause-cut c)

pub returns-clause-rest : goal.returns-clause-rest
returns-clause-rest c =
    rest_of_parts c.args.rest.now c.args.piece.now c.extend_from_slice-2.new.self.items (map (part_of c.extend_from_slice-2.new.self.items) c.in_ok-parts.parts.items) c.in_ok-parts.rest c.requires (returns-clause-cut c)
    (rw c.deref.ensures.value at c.in_ok-parts.ensures.within)
