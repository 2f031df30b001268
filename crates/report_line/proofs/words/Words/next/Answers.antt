use Rattle.std.proofs.Common.{◌≡◌, ◌∷◌, ◌++◌, ◌∙◌, rules}
use Rattle.report_line.specs.Cuts.{Lacks, words_in}
use Rattle.report_line.proofs.Parting.{one_word, word_and_rest}
use Rattle.report_line.proofs.words.Words.next.Goals as goal

pub returns-in-None-clause-word : goal.returns-in-None-clause-word
returns-in-None-clause-word c =
    let now : c.args.self.now ≡ words_in c.in_ok-rest.rest.now = search rules in
    let lacks : Lacks 32 c.in_ok-rest.rest.now = c.in-None.ensures in
    now ∙ one_word c.in_ok-rest.rest.now lacks

pub returns-in-Some-clause-word : goal.returns-in-Some-clause-word
returns-in-Some-clause-word c =
    let now : c.args.self.now ≡ words_in c.in_ok-rest.rest.now = search rules in
    let cut : Lacks 32 c.in-Some.word.now × (c.in_ok-rest.rest.now ≡ c.in-Some.word.now ++ 32 ∷ c.in-Some.behind.now) = c.in-Some.ensures in
    now ∙ word_and_rest c.in_ok-rest.rest.now c.in-Some.word.now c.in-Some.behind.now cut.0 cut.1
