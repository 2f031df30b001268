-- No words are those of two calls, and no line is that of two calls.
use Rattle.std.proofs.Common.{◌≡◌, ◌≢◌, ℕ, ◌+◌, ◌*◌, eqb, List, [], ◌∷◌, ◌++◌, cond, Result, Ok, Err, refl, sym, ap, ◌∙◌, arith}
use Rattle.std.specs.Prelude.{MatchResult, IfOk, codes, ⊤}
use Rattle.std.specs.List.{join_with_byte}
use Rattle.std.specs.Fmt.{decimal}
use Rattle.std.proofs.lemmas.Fmt.{decimal_injective}
use Rattle.id_tree.specs.IdTree.{IdTree}
use Rattle.id_tree.specs.NormalForm.{IsId}
use Rattle.id_tree.specs.Spelling as ids
use Rattle.id_tree.proofs.Texts as ids_texts
use Rattle.stamp.specs.declared.stamp.Stamp.{Stamp}
use Rattle.stamp.specs.Stamps.{stamp_text}
use Rattle.stamp.proofs.Texts.{one_text}
use Rattle.report_line.specs.declared.report.ReportKind.{ReportKind}
use Rattle.report_line.specs.declared.report.ReportKind.TheVariants.{Check, Present, Fork, Retire, Absorb}
use Rattle.report_line.specs.declared.report.NumberedReport.{NumberedReport}
use Rattle.report_line.specs.declared.report.Report.{Report}
use Rattle.report_line.specs.declared.report.Report.TheVariants as reports
use Rattle.report_line.specs.declared.call.Call.{Call}
use Rattle.report_line.specs.declared.call.Call.TheVariants as calls
use Rattle.report_line.specs.declared.fault.LineFault.{LineFault}
use Rattle.report_line.specs.declared.fault.LineFault.TheVariants.{Grammar, Memory}
use Rattle.report_line.specs.Spelling.{AreFields, mark_text, action_word, action_fields, report_words, words_of, spelling, IsAction, IsSpelledIn, HasSpelling}
use Rattle.report_line.specs.Cuts.{Lacks, words_in}
use Rattle.report_line.specs.Reading.{Finds, Reads, Takes, IsCallOf, IsActionOf, IsNumberedOf, IsMarkedWord, IsOtherKind}
use Rattle.report_line.proofs.Parting.{words_joined, joined_words}
use Rattle.report_line.proofs.Marks.{one_word_and_epoch}
use Rattle.report_line.proofs.Plain.{ArePlain, plain_words}
use Rattle.report_line.proofs.Rows.{row_again}

-- ---- one kind for each first word

-- the first two letters of a word, by which the words of the kinds differ
abbrev mark : List ℕ → ℕ
mark [] = 0
mark (x ∷ []) = 0
mark (x ∷ y ∷ zs) = x * 256 + y

abbrev kind_in : List (List ℕ) → ℕ
kind_in [] = 0
kind_in (w ∷ ws) =
    cond (eqb (mark w) (mark (codes "BEGIN"))) 1
    (cond (eqb (mark w) (mark (codes "LINE"))) 2
    (cond (eqb (mark w) (mark (codes "STATE"))) 3
    (cond (eqb (mark w) (mark (codes "BYE"))) 4
    (cond (eqb (mark w) (mark (codes "GARBAGE"))) 6
    (cond (eqb (mark w) (mark (codes "SETTLE"))) 7 5)))))

abbrev report_kind : Report → ℕ
report_kind (reports.Begin p) = 1
report_kind (reports.Numbered r) = 5

abbrev kind_of : Call → ℕ
kind_of (calls.Report m) = report_kind m.report
kind_of (calls.Line ns) = 2
kind_of calls.Garbage = 6
kind_of (calls.Settle front ns) = 7
kind_of (calls.State p) = 3
kind_of calls.Bye = 4
kind_of (calls.Bad n) = 0
kind_of calls.Unread = 0

numbered_kind : (a : ReportKind) (text : List ℕ) (words : List (List ℕ)) → kind_in ((action_word a ++ text) ∷ words) ≡ 5
numbered_kind Check text words = refl
numbered_kind Present text words = refl
numbered_kind (Fork f) text words = refl
numbered_kind (Retire target) text words = refl
numbered_kind (Absorb retired) text words = refl

report_kind_is : (epoch : ℕ) (r : Report) → kind_in (report_words epoch r) ≡ report_kind r
report_kind_is epoch (reports.Begin p) = refl
report_kind_is epoch (reports.Numbered r) = numbered_kind r.action (mark_text epoch) (r.process ∷ decimal r.number ∷ stamp_text r.stamp ∷ action_fields r.action)

kind_is : (c : Call) → kind_in (words_of c) ≡ kind_of c
kind_is (calls.Report m) = report_kind_is m.epoch m.report
kind_is (calls.Settle front ns) = refl
kind_is (calls.Line ns) = refl
kind_is calls.Garbage = refl
kind_is (calls.State p) = refl
kind_is calls.Bye = refl
kind_is (calls.Bad n) = refl
kind_is calls.Unread = refl

-- ---- one call for each list of words

parts : (x y : List ℕ) (xs ys : List (List ℕ)) → x ∷ xs ≡ y ∷ ys → (x ≡ y) × (xs ≡ ys)
parts x y xs ys e = (cc, cc)

same_fork : (i k : IdTree) (c d : List ℕ) (j l : IdTree) → i ≡ k → c ≡ d → j ≡ l
    → Fork (record { kept = i; child = c; given = j }) ≡ Fork (record { kept = k; child = d; given = l })
same_fork i k c d j l e f g = cc

same_action : (a b : ReportKind) → mark (action_word a) ≡ mark (action_word b) → action_fields a ≡ action_fields b → a ≡ b
same_action Check Check k e = refl
same_action Present Present k e = refl
same_action (Fork f) (Fork g) is e =
    let first = parts _ _ _ _ e in
    let second = parts _ _ _ _ first.1 in
    same_fork f.kept g.kept f.child g.child f.given g.given (ids_texts.one_spelling f.kept g.kept first.0) second.0 (ids_texts.one_spelling f.given g.given (parts _ _ _ _ second.1).0)
same_action (Retire p) (Retire q) k e = ap Retire (parts p q [] [] e).0
same_action (Absorb p) (Absorb q) k e = ap Absorb (parts p q [] [] e).0
same_action a b k e = absurd (omega (arith, k))

same_fields : (p q : List ℕ) (n m : ℕ) (s t : Stamp) (a b : ReportKind) → p ≡ q → n ≡ m → s ≡ t → a ≡ b
    → reports.Numbered (record { process = p; number = n; stamp = s; action = a }) ≡ reports.Numbered (record { process = q; number = m; stamp = t; action = b })
same_fields p q n m s t a b e f g h = cc

same_numbered : (r t : NumberedReport) → AreFields r → AreFields t → action_word r.action ≡ action_word t.action
    → r.process ∷ decimal r.number ∷ stamp_text r.stamp ∷ action_fields r.action ≡ t.process ∷ decimal t.number ∷ stamp_text t.stamp ∷ action_fields t.action → reports.Numbered r ≡ reports.Numbered t
same_numbered r t g h kind e =
    let process = parts _ _ _ _ e in
    let number = parts _ _ _ _ process.1 in
    let stamp = parts _ _ _ _ number.1 in
    same_fields r.process t.process r.number t.number r.stamp t.stamp r.action t.action process.0 (decimal_injective r.number t.number (omega (arith, g.count.1)) (omega (arith, h.count.1)) number.0)
    (one_text r.stamp t.stamp stamp.0 g.stamped h.stamped) (same_action r.action t.action (ap mark kind) stamp.1)

same_marked : (k l : ℕ) (r t : Report) → k ≡ l → r ≡ t → calls.Report (record { epoch = k; report = r }) ≡ calls.Report (record { epoch = l; report = t })
same_marked k l r t e f = cc

-- a word of an action has no `@`
pub unmarked_word : (a : ReportKind) → Lacks 64 (action_word a)
unmarked_word Check = (refl, (refl, (refl, (refl, (refl, tt)))))
unmarked_word Present = (refl, (refl, (refl, (refl, (refl, (refl, (refl, tt)))))))
unmarked_word (Fork f) = (refl, (refl, (refl, (refl, tt))))
unmarked_word (Retire target) = (refl, (refl, (refl, (refl, (refl, (refl, tt))))))
unmarked_word (Absorb retired) = (refl, (refl, (refl, (refl, (refl, (refl, tt))))))

same_report : (k l : ℕ) (r t : Report) → IsSpelledIn k r → IsSpelledIn l t → report_kind r ≡ report_kind t → report_words k r ≡ report_words l t
    → calls.Report (record { epoch = k; report = r }) ≡ calls.Report (record { epoch = l; report = t })
same_report k l (reports.Begin p) (reports.Begin q) g h kind e = same_marked k l _ _ (g.0 ∙ sym h.0) (ap reports.Begin (parts p q [] [] (parts _ _ _ _ e).1).0)
same_report k l (reports.Begin p) (reports.Numbered t) g h kind e = absurd (omega (arith, kind))
same_report k l (reports.Numbered r) (reports.Begin q) g h kind e = absurd (omega (arith, kind))
same_report k l (reports.Numbered r) (reports.Numbered t) g h kind e =
    let first = parts _ _ _ _ e in
    let cut = one_word_and_epoch (action_word r.action) (action_word t.action) k l (unmarked_word r.action) (unmarked_word t.action) g.0 h.0 first.0 in
    same_marked k l _ _ cut.1 (same_numbered r t g.1 h.1 cut.0 first.1)

same_settle : (f i : ℕ) (ns ms : List (List ℕ)) → f ≡ i → ns ≡ ms → calls.Settle f ns ≡ calls.Settle i ms
same_settle f i ns ms e g = cc

-- whether the call is a report
abbrev IsReport : Call → Type 0
IsReport (calls.Report m) = ⊤
IsReport _ = ⊥

-- no other call has the kind of a report
other_report : (r : Report) (c : Call) → report_kind r ≡ kind_of c → ¬ IsReport c → ⊥
other_report r (calls.Report m) k other = other tt
other_report (reports.Begin p) c k other = absurd (omega (arith, k))
other_report (reports.Numbered t) c k other = absurd (omega (arith, k))

same_call : (c d : Call) → HasSpelling c → HasSpelling d → kind_of c ≡ kind_of d → words_of c ≡ words_of d → c ≡ d
same_call (calls.Bad n) d g h k e = absurd g
same_call calls.Unread d g h k e = absurd g
same_call (calls.Report m) (calls.Report n) g h k e = same_report m.epoch n.epoch m.report n.report g h k e
same_call (calls.Settle f ns) (calls.Settle i ms) g h k e =
    let front = parts _ _ _ _ (parts _ _ _ _ e).1 in
    same_settle f i ns ms (decimal_injective f i (omega (arith, g.0.1)) (omega (arith, h.0.1)) front.0) (row_again ns ms g.1 h.1 (parts _ _ [] [] front.1).0)
same_call (calls.Line ns) (calls.Line ms) g h k e = ap calls.Line (row_again ns ms g h (parts _ _ [] [] (parts _ _ _ _ e).1).0)
same_call calls.Garbage calls.Garbage g h k e = refl
same_call (calls.State p) (calls.State q) g h k e = ap calls.State (parts p q [] [] (parts _ _ _ _ e).1).0
same_call calls.Bye calls.Bye g h k e = refl
same_call (calls.Report m) d g h k e = absurd (other_report m.report d k (λ x. x))
same_call c (calls.Report m) g h k e = absurd (other_report m.report c (sym k) (λ x. x))
same_call c d g h k e = absurd (omega (arith, k))

-- ---- one call for each line

some_words : (epoch : ℕ) (r : Report) → report_words epoch r ≢ []
some_words epoch (reports.Begin p) none = absurd cc
some_words epoch (reports.Numbered r) none = absurd cc

again_if : (words : List (List ℕ)) → words ≢ [] → ArePlain words → words_in (join_with_byte 32 words) ≡ words
again_if [] some plain = absurd (some refl)
again_if (w ∷ ws) some plain = joined_words w ws plain

words_again : (c : Call) → HasSpelling c → words_in (spelling c) ≡ words_of c
unfolding spelling
words_again (calls.Report m) h = again_if (report_words m.epoch m.report) (some_words m.epoch m.report) (plain_words (calls.Report m) h)
words_again (calls.Settle front ns) h = joined_words _ _ (plain_words (calls.Settle front ns) h)
words_again (calls.Line ns) h = joined_words _ _ (plain_words (calls.Line ns) h)
words_again calls.Garbage h = joined_words _ _ (plain_words calls.Garbage h)
words_again (calls.State p) h = joined_words _ _ (plain_words (calls.State p) h)
words_again calls.Bye h = joined_words _ _ (plain_words calls.Bye h)
words_again (calls.Bad n) h = absurd h
words_again calls.Unread h = absurd h

pub one_call : (c d : Call) → HasSpelling c → HasSpelling d → spelling c ≡ spelling d → c ≡ d
one_call c d g h e =
    let same : words_of c ≡ words_of d = sym (words_again c g) ∙ ap words_in e ∙ words_again d h in
    same_call c d g h (sym (kind_is c) ∙ ap kind_in same ∙ kind_is d) same

-- ---- what is read of the words is read of the line

pub reads_line : (line : List ℕ) (r : Result Call LineFault) → Finds r (IsCallOf (words_in line)) → Reads r line
unfolding spelling
reads_line line (Ok c) h = (h.0, sym (words_joined line) ∙ ap (join_with_byte 32) h.1)
reads_line line (Err Grammar) h = λ c s. h c (s.0, ap words_in s.1 ∙ words_again c s.0)
reads_line line (Err Memory) h = tt

pub only_reading : (bytes : List ℕ) (r : Result Call LineFault) → Reads r bytes → (c : Call) → HasSpelling c → bytes ≡ spelling c → MatchResult r (λ d. d ≡ c) (λ e. e ≡ Memory)
only_reading bytes (Ok d) reads c h e = one_call d c reads.0 h (sym reads.1 ∙ e)
only_reading bytes (Err Grammar) reads c h e = absurd (reads c (h, e))
only_reading bytes (Err Memory) reads c h e = refl

pub found_reading : (bytes : List ℕ) (r : Result Call LineFault) → Reads r bytes → IfOk r (λ c. HasSpelling c × (bytes ≡ spelling c))
found_reading bytes (Ok c) reads = reads
found_reading bytes (Err fault) reads = tt

pub none_reading : (bytes : List ℕ) (r : Result Call LineFault) → Reads r bytes → r ≡ Err Grammar → (c : Call) → HasSpelling c → bytes ≢ spelling c
none_reading bytes (Ok d) reads is c h e = absurd cc
none_reading bytes (Err Grammar) reads is c h e = reads c (h, e)
none_reading bytes (Err Memory) reads is c h e = absurd cc

-- ---- a fork whose second id is not read

-- no action that is a fork has these fields behind its word
abbrev NoFork : List (List ℕ) → Type 0
NoFork fields = (a : ReportKind) → IsAction a → mark (codes "FORK") ≡ mark (action_word a) → fields ≢ action_fields a

no_fork : (fields behind rest : List (List ℕ)) (kept : IdTree) (child : List ℕ) → fields ≡ ids.spelling kept ∷ behind → behind ≡ child ∷ rest
    → ((i : IdTree) → IsId i → (more : List (List ℕ)) → rest ≢ ids.spelling i ∷ more) → NoFork fields
no_fork fields behind rest kept child e f none (Fork made) is k g =
    let first = parts _ _ _ _ (sym e ∙ g) in
    let second = parts _ _ _ _ (sym f ∙ first.1) in
    none made.given is.2 [] second.1
no_fork fields behind rest kept child e f none a is k g = absurd (omega (arith, k))

pub no_second_id : (fault : LineFault) (fields behind rest new : List (List ℕ)) (kept : IdTree) (child : List ℕ) → fields ≡ ids.spelling kept ∷ behind → behind ≡ child ∷ rest
    → Takes {X = IdTree} (Err fault) IsId ids.spelling rest new → Finds {X = ReportKind} (Err fault) (IsActionOf (codes "FORK") fields)
no_second_id Grammar fields behind rest new kept child e f none = λ a is. no_fork fields behind rest kept child e f none a is.0 (ap mark is.1) is.2
no_second_id Memory fields behind rest new kept child e f none = tt

-- ---- a report whose first word is cut

-- the report of a word without its mark is that of the whole words
pub marked_call : (kind word : List ℕ) (epoch : ℕ) (fields : List (List ℕ)) (r : NumberedReport) → IsMarkedWord kind word epoch → IsNumberedOf word fields r
    → IsCallOf (kind ∷ fields) (calls.Report (record { epoch = epoch; report = reports.Numbered r }))
marked_call kind word epoch fields r cut is =
    let first : kind ≡ action_word r.action ++ mark_text epoch = cut.2 ∙ ap (λ (w : List ℕ). w ++ mark_text epoch) is.1 in
    let rest : fields ≡ r.process ∷ decimal r.number ∷ stamp_text r.stamp ∷ action_fields r.action = is.2 in
    ((cut.1, is.0), cc)

-- a report with a number, of which the first word is this one
record IsMarkedIn (kind : List ℕ) (fields : List (List ℕ)) : Type 0 where
  word : List ℕ
  epoch : ℕ
  report : NumberedReport
  cut : IsMarkedWord kind word epoch
  fits : IsNumberedOf word fields report

marked_report : (kind : List ℕ) (fields : List (List ℕ)) (k : ℕ) (r : Report) → IsOtherKind kind → IsSpelledIn k r → kind ∷ fields ≡ report_words k r → IsMarkedIn kind fields
marked_report kind fields k (reports.Begin p) other is e = absurd (other.no_begin (parts _ _ _ _ e).0)
marked_report kind fields k (reports.Numbered t) other is e =
    let first = parts _ _ _ _ e in
    record { word = action_word t.action; epoch = k; report = t; cut = (unmarked_word t.action, is.0, first.0); fits = (is.1, refl, first.1) }

marked_only : (kind : List ℕ) (fields : List (List ℕ)) (c : Call) → IsOtherKind kind → IsCallOf (kind ∷ fields) c → IsMarkedIn kind fields
marked_only kind fields (calls.Report m) other is = marked_report kind fields m.epoch m.report other is.0 is.1
marked_only kind fields (calls.Line ns) other is = absurd (other.no_line (parts _ _ _ _ is.1).0)
marked_only kind fields calls.Garbage other is = absurd (other.no_garbage (parts _ _ _ _ is.1).0)
marked_only kind fields (calls.Settle front ns) other is = absurd (other.no_settle (parts _ _ _ _ is.1).0)
marked_only kind fields (calls.State p) other is = absurd (other.no_state (parts _ _ _ _ is.1).0)
marked_only kind fields calls.Bye other is = absurd (other.no_bye (parts _ _ _ _ is.1).0)
marked_only kind fields (calls.Bad n) other is = absurd is.0
marked_only kind fields calls.Unread other is = absurd is.0

-- where no report has the word and the fields, no call has them with a mark
pub no_marked : (kind word : List ℕ) (epoch : ℕ) (fields : List (List ℕ)) → IsOtherKind kind → IsMarkedWord kind word epoch → ((r : NumberedReport) → ¬ IsNumberedOf word fields r)
    → (c : Call) → ¬ IsCallOf (kind ∷ fields) c
no_marked kind word epoch fields other cut none c is =
    let found = marked_only kind fields c other is in
    let same = one_word_and_epoch word found.word epoch found.epoch cut.0 found.cut.0 cut.1 found.cut.1 (sym cut.2 ∙ found.cut.2) in
    none found.report (found.fits.0, same.0 ∙ found.fits.1, found.fits.2)

-- where the first word is cut in no way, no call has it
pub no_cut : (kind : List ℕ) (fields : List (List ℕ)) → IsOtherKind kind → ((word : List ℕ) (epoch : ℕ) → ¬ IsMarkedWord kind word epoch) → (c : Call) → ¬ IsCallOf (kind ∷ fields) c
no_cut kind fields other none c is = let found = marked_only kind fields c other is in none found.word found.epoch found.cut

-- where the fields are not read, no call is
pub marked_fault : (fault : LineFault) (kind word : List ℕ) (epoch : ℕ) (fields : List (List ℕ)) → IsOtherKind kind → IsMarkedWord kind word epoch
    → Finds {X = NumberedReport} (Err fault) (IsNumberedOf word fields) → Finds {X = Call} (Err fault) (IsCallOf (kind ∷ fields))
marked_fault Grammar kind word epoch fields other cut none = no_marked kind word epoch fields other cut none
marked_fault Memory kind word epoch fields other cut none = tt
