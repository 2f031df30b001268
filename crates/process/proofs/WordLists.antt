-- Words of one line: what is read of the words is read of the line, and no line is that of two lists of words.
use Rattle.std.proofs.Common.{◌≡◌, ◌≢◌, ℕ, List, [], ◌∷◌, Result, Ok, Err, sym, ap, ◌∙◌}
use Rattle.std.specs.List.{join_with_byte, AllByRecursion}
use Rattle.std.specs.Fmt.{decimal}
use Rattle.stamp.specs.Stamps.{stamp_text}
use Rattle.report_line.specs.declared.fault.LineFault.{LineFault}
use Rattle.report_line.specs.declared.fault.LineFault.TheVariants.{Grammar, Memory}
use Rattle.report_line.specs.Cuts.{Lacks, words_in}
use Rattle.report_line.specs.Reading.{Finds, Takes}
use Rattle.process.specs.declared.process.Process.{Process}
use Rattle.process.specs.Texts.{IsNumber, IsProcess, process_words}
use Rattle.report_line.proofs.Parting.{words_joined, joined_words}

-- words without a space are those of the line that they make
pub again : (word : List ℕ) (words : List (List ℕ)) → AllByRecursion (Lacks 32) (word ∷ words) → words_in (join_with_byte 32 (word ∷ words)) ≡ word ∷ words
again = joined_words

-- what is read of the words of a line is read of the line
pub finds_line : (X : Type 0) (P : X → Type 0) (words : X → List (List ℕ)) → ((x : X) → P x → words_in (join_with_byte 32 (words x)) ≡ words x)
    → (line : List ℕ) (r : Result X LineFault) → Finds r (λ x. P x × (words_in line ≡ words x)) → Finds r (λ x. P x × (line ≡ join_with_byte 32 (words x)))
finds_line X P words back line (Ok x) h = (h.0, sym (words_joined line) ∙ ap (join_with_byte 32) h.1)
finds_line X P words back line (Err Grammar) h = λ x is. h x (is.0, ap words_in is.1 ∙ back x is.0)
finds_line X P words back line (Err Memory) h = tt

-- two lists of words that make one line are one list
pub same_words : (v w : List (List ℕ)) → words_in (join_with_byte 32 v) ≡ v → words_in (join_with_byte 32 w) ≡ w → join_with_byte 32 v ≡ join_with_byte 32 w → v ≡ w
same_words v w g h e = sym g ∙ ap words_in e ∙ h

pub both_words : (x y : List ℕ) (xs ys : List (List ℕ)) → x ∷ xs ≡ y ∷ ys → (x ≡ y) × (xs ≡ ys)
both_words x y xs ys e = (cc, cc)

-- where the number of reports is not read, no process is
no_number_there : (old behind rest more : List (List ℕ)) (kind name : List ℕ) (epoch : ℕ) → old ≡ kind ∷ behind → behind ≡ name ∷ rest → rest ≡ decimal epoch ∷ more
    → ((n : ℕ) → IsNumber n → (last : List (List ℕ)) → more ≢ decimal n ∷ last) → (p : Process) → IsProcess p → old ≢ process_words p
no_number_there old behind rest more kind name epoch e f g none p is same =
    let one = both_words _ _ _ _ (sym e ∙ same) in
    let two = both_words _ _ _ _ (sym f ∙ one.1) in
    let three = both_words _ _ _ _ (sym g ∙ two.1) in
    none p.reports is.reports (stamp_text p.stamp ∷ []) three.1

pub no_reports : (fault : LineFault) (old behind rest more new : List (List ℕ)) (kind name : List ℕ) (epoch : ℕ) → old ≡ kind ∷ behind → behind ≡ name ∷ rest → rest ≡ decimal epoch ∷ more
    → Takes {X = ℕ} (Err fault) IsNumber decimal more new → Finds {X = Process} (Err fault) (λ p. IsProcess p × (old ≡ process_words p))
no_reports Grammar old behind rest more new kind name epoch e f g none = λ p is. no_number_there old behind rest more kind name epoch e f g none p is.0 is.1
no_reports Memory old behind rest more new kind name epoch e f g none = tt
