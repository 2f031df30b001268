-- A call is a first word of some shape, and behind it words as they are wanted.
use Rattle.std.proofs.Common.{◌≡◌, inl, inr, ℕ, ◌<◌, ◌^◌, List, [], ◌∷◌, ◌++◌, refl, sym, ap, subst, ◌∙◌, append_assoc}
use Rattle.std.specs.Prelude.{codes}
use Rattle.std.proofs.lemmas.List.{append-nil}
use Rattle.std.specs.Fmt.{decimal}
use Rattle.id_tree.specs.Spelling as ids
use Rattle.stamp.specs.Stamps.{stamp_text}
use Rattle.report_line.specs.declared.report.ReportKind.{ReportKind}
use Rattle.report_line.specs.declared.report.ReportKind.TheVariants.{Check, Present, Fork, Retire, Absorb}
use Rattle.report_line.specs.declared.report.NumberedReport.{NumberedReport}
use Rattle.report_line.specs.declared.report.Report.{Report}
use Rattle.report_line.specs.declared.report.Report.TheVariants as reports
use Rattle.report_line.specs.declared.call.Call.{Call}
use Rattle.report_line.specs.declared.call.Call.TheVariants as calls
use Rattle.report_line.specs.Spelling.{AreFields, mark_text, action_word, action_fields, report_words, words_of, IsAction, IsSpelledIn, HasSpelling}
use Rattle.report_line.proofs.OneCall.{unmarked_word}
use Rattle.line_explain.specs.declared.wanted.Wanted.{Wanted}
use Rattle.line_explain.specs.declared.wanted.Wanted.TheVariants as wanted
use Rattle.line_explain.specs.declared.kind.Shape.{Shape}
use Rattle.line_explain.specs.declared.kind.Shape.TheVariants.{Bare, Named, Failed, Settling, Reported, Handing, Forking}
use Rattle.line_explain.specs.Begun.{AreOfCall, IsBegun, MayFollow}
use Rattle.line_explain.specs.Wanting.{Fits, Wants}
use Rattle.line_explain.specs.working.Shapes.{wanted_in, IsUnmarked, IsMarkable, IsMarkedKind, IsKindOf, FitAll}
use Rattle.line_explain.proofs.FitLists.{part, none_left, FitAll-append, FitAll-behind, samples}
use Rattle.line_explain.proofs.KindWords.{one_shape}

-- ---- each call has a shape

pub record IsShaped (words : List (List ℕ)) : Type 0 where
  pub shape : Shape
  pub kind : List ℕ
  pub fields : List (List ℕ)
  pub is : words ≡ kind ∷ fields
  pub kind_is : IsKindOf shape kind
  pub fit : FitAll (wanted_in shape) fields

-- the shape of reports of an action
abbrev shape_of : ReportKind → Shape
shape_of Check = Reported
shape_of Present = Reported
shape_of (Fork forked) = Forking
shape_of (Retire target) = Handing
shape_of (Absorb retired) = Handing

markable_word : (a : ReportKind) → IsMarkable (shape_of a) (action_word a)
markable_word Check = inl refl
markable_word Present = inr refl
markable_word (Fork forked) = refl
markable_word (Retire target) = inl refl
markable_word (Absorb retired) = inr refl

fields_fit : (r : NumberedReport) (a : ReportKind) → IsAction a → AreFields r → FitAll (wanted_in (shape_of a)) (r.process ∷ decimal r.number ∷ stamp_text r.stamp ∷ action_fields a)
fields_fit r Check acts are = (are.name, ((r.number, are.count, refl), ((r.stamp, are.stamped, refl), tt)))
fields_fit r Present acts are = (are.name, ((r.number, are.count, refl), ((r.stamp, are.stamped, refl), tt)))
fields_fit r (Fork f) acts are = (are.name, ((r.number, are.count, refl), ((r.stamp, are.stamped, refl), ((f.kept, acts.0, refl), (acts.1, ((f.given, acts.2, refl), tt))))))
fields_fit r (Retire target) acts are = (are.name, ((r.number, are.count, refl), ((r.stamp, are.stamped, refl), (acts, tt))))
fields_fit r (Absorb retired) acts are = (are.name, ((r.number, are.count, refl), ((r.stamp, are.stamped, refl), (acts, tt))))

report_shaped : (epoch : ℕ) (r : Report) → IsSpelledIn epoch r → IsShaped (report_words epoch r)
report_shaped epoch (reports.Begin p) has = record { shape = Named; kind = codes "BEGIN"; fields = p ∷ []; is = refl; kind_is = inl (inl refl); fit = (has.1, tt) }
report_shaped epoch (reports.Numbered r) has = record {
  shape = shape_of r.action;
  kind = action_word r.action ++ mark_text epoch;
  fields = r.process ∷ decimal r.number ∷ stamp_text r.stamp ∷ action_fields r.action;
  is = refl;
  kind_is = inr (record { word = action_word r.action; epoch = epoch; markable = markable_word r.action; marked = (unmarked_word r.action, has.0, refl) });
  fit = fields_fit r r.action has.1.acted has.1;
}

call_shaped : (c : Call) → HasSpelling c → IsShaped (words_of c)
call_shaped (calls.Report m) has = report_shaped m.epoch m.report has
call_shaped (calls.Line ns) has = record { shape = Failed; kind = codes "LINE"; fields = _; is = refl; kind_is = inl refl; fit = ((ns, has, refl), tt) }
call_shaped calls.Garbage has = record { shape = Bare; kind = codes "GARBAGE"; fields = []; is = refl; kind_is = inl (inl refl); fit = tt }
call_shaped (calls.Settle front ns) has = record { shape = Settling; kind = codes "SETTLE"; fields = _; is = refl; kind_is = inl refl; fit = ((front, has.0, refl), ((ns, has.1, refl), tt)) }
call_shaped (calls.State p) has = record { shape = Named; kind = codes "STATE"; fields = p ∷ []; is = refl; kind_is = inl (inr refl); fit = (has, tt) }
call_shaped calls.Bye has = record { shape = Bare; kind = codes "BYE"; fields = []; is = refl; kind_is = inl (inr refl); fit = tt }
call_shaped (calls.Bad n) has = absurd has
call_shaped calls.Unread has = absurd has

pub shaped : (words : List (List ℕ)) → AreOfCall words → IsShaped words
shaped words of_call = subst IsShaped (sym of_call.1.1) (call_shaped of_call.0 of_call.1.0)

-- ---- words of a shape are those of a call

both : (x y : List ℕ) (xs ys : List (List ℕ)) → x ∷ xs ≡ y ∷ ys → (x ≡ y) × (xs ≡ ys)
both x y xs ys e = (cc, cc)

called : (kind : List ℕ) (fields : List (List ℕ)) (c : Call) → HasSpelling c → kind ∷ fields ≡ words_of c → AreOfCall (kind ∷ fields)
called kind fields c has is = (c, (has, is))

-- ---- words, put together again

line_of_one : (kind k w v : List ℕ) (fields behind : List (List ℕ)) → kind ≡ k → fields ≡ w ∷ behind → behind ≡ [] → w ≡ v → kind ∷ fields ≡ k ∷ v ∷ []
line_of_one kind k w v fields behind a b c d = cc

line_of_two : (kind k w v x y : List ℕ) (fields behind rest : List (List ℕ)) → kind ≡ k → fields ≡ w ∷ behind → behind ≡ x ∷ rest → rest ≡ [] → w ≡ v → x ≡ y → kind ∷ fields ≡ k ∷ v ∷ y ∷ []
line_of_two kind k w v x y fields behind rest a b c d e f = cc

three : (p n t m u : List ℕ) (fields behind rest more : List (List ℕ)) → fields ≡ p ∷ behind → behind ≡ n ∷ rest → rest ≡ t ∷ more → n ≡ m → t ≡ u → fields ≡ p ∷ m ∷ u ∷ more
three p n t m u fields behind rest more a b c d e = cc

three_last : (p n t m u : List ℕ) (fields behind rest last : List (List ℕ)) → fields ≡ p ∷ behind → behind ≡ n ∷ rest → rest ≡ t ∷ last → last ≡ [] → p ≡ m → t ≡ u → fields ≡ m ∷ n ∷ u ∷ []
three_last p n t m u fields behind rest last a b c d e f = cc

line_of_report : (kind k p n t : List ℕ) (fields more last : List (List ℕ)) → kind ≡ k → fields ≡ p ∷ n ∷ t ∷ more → more ≡ last → kind ∷ fields ≡ k ∷ p ∷ n ∷ t ∷ last
line_of_report kind k p n t fields more last a b c = cc

-- what stands in front of the fields of an action
record IsHead (kinds : List Wanted) (fields : List (List ℕ)) : Type 0 where
  report : NumberedReport
  more : List (List ℕ)
  is : fields ≡ report.process ∷ decimal report.number ∷ stamp_text report.stamp ∷ more
  fit : FitAll kinds more
  acts : report.action ≡ Check
  are : AreFields report

head_of : (kinds : List Wanted) (fields : List (List ℕ)) → FitAll (wanted.Name ∷ wanted.Number ∷ wanted.Stamp ∷ kinds) fields → IsHead kinds fields
head_of kinds fields fit =
    let one = part wanted.Name (wanted.Number ∷ wanted.Stamp ∷ kinds) fields fit in
    let two = part wanted.Number (wanted.Stamp ∷ kinds) one.behind one.others in
    let third = part wanted.Stamp kinds two.behind two.others in
    record {
      report = record { process = one.word; number = two.fits.0; stamp = third.fits.0; action = Check };
      more = third.behind;
      is = three one.word two.word third.word _ _ fields one.behind two.behind third.behind one.is two.is third.is two.fits.2 third.fits.2;
      fit = third.others;
      acts = refl;
      are = record { name = one.fits; count = two.fits.1; stamped = third.fits.1; acted = tt };
    }

-- the same report with another action
abbrev doing : NumberedReport → ReportKind → NumberedReport
doing r a = record { process = r.process; number = r.number; stamp = r.stamp; action = a }

reported : (kind : List ℕ) (fields : List (List ℕ)) (kinds : List Wanted) (epoch : ℕ) (a : ReportKind) (head : IsHead kinds fields) → epoch < 2 ^ 32 → IsAction a → kind ≡ action_word a ++ mark_text epoch → head.more ≡ action_fields a
    → AreOfCall (kind ∷ fields)
reported kind fields kinds epoch a head small acts kind_is more_is =
    called kind fields (calls.Report (record { epoch = epoch; report = reports.Numbered (doing head.report a) })) (small, record { name = head.are.name; count = head.are.count; stamped = head.are.stamped; acted = acts })
    (line_of_report kind _ _ _ _ fields head.more _ kind_is head.is more_is)

bare_word : (kind : List ℕ) (fields : List (List ℕ)) → IsUnmarked Bare kind → fields ≡ [] → AreOfCall (kind ∷ fields)
bare_word kind fields (inl is) none = called kind fields calls.Garbage tt (rw (is, none) refl)
bare_word kind fields (inr is) none = called kind fields calls.Bye tt (rw (is, none) refl)

named_word : (kind : List ℕ) (fields : List (List ℕ)) → IsUnmarked Named kind → FitAll (wanted.Name ∷ []) fields → AreOfCall (kind ∷ fields)
named_word kind fields (inl is) fit =
    let one = part wanted.Name [] fields fit in
    called kind fields (calls.Report (record { epoch = 0; report = reports.Begin one.word })) (refl, one.fits) (line_of_one kind _ one.word _ fields one.behind is one.is (none_left one.behind one.others) refl)
named_word kind fields (inr is) fit =
    let one = part wanted.Name [] fields fit in
    called kind fields (calls.State one.word) one.fits (line_of_one kind _ one.word _ fields one.behind is one.is (none_left one.behind one.others) refl)

failed_word : (kind : List ℕ) (fields : List (List ℕ)) → IsUnmarked Failed kind → FitAll (wanted.Names ∷ []) fields → AreOfCall (kind ∷ fields)
failed_word kind fields is fit =
    let one = part wanted.Names [] fields fit in
    called kind fields (calls.Line one.fits.0) one.fits.1 (line_of_one kind _ one.word _ fields one.behind is one.is (none_left one.behind one.others) one.fits.2)

settling_word : (kind : List ℕ) (fields : List (List ℕ)) → IsUnmarked Settling kind → FitAll (wanted.Number ∷ wanted.Names ∷ []) fields → AreOfCall (kind ∷ fields)
settling_word kind fields is fit =
    let one = part wanted.Number (wanted.Names ∷ []) fields fit in
    let two = part wanted.Names [] one.behind one.others in
    called kind fields (calls.Settle one.fits.0 two.fits.0) (one.fits.1, two.fits.1) (line_of_two kind _ one.word _ two.word _ fields one.behind two.behind is one.is two.is (none_left two.behind two.others) one.fits.2 two.fits.2)

reported_word : (kind : List ℕ) (fields : List (List ℕ)) → IsMarkedKind Reported kind → FitAll (wanted_in Reported) fields → AreOfCall (kind ∷ fields)
reported_word kind fields is fit =
    let head = head_of [] fields fit in
    let none = none_left head.more head.fit in
    elim is.markable [
      | inl word ↦ reported kind fields [] is.epoch Check head is.marked.1 tt (is.marked.2 ∙ ap (λ (w : List ℕ). w ++ mark_text is.epoch) word) none
      | inr word ↦ reported kind fields [] is.epoch Present head is.marked.1 tt (is.marked.2 ∙ ap (λ (w : List ℕ). w ++ mark_text is.epoch) word) none
    ]

handing_word : (kind : List ℕ) (fields : List (List ℕ)) → IsMarkedKind Handing kind → FitAll (wanted_in Handing) fields → AreOfCall (kind ∷ fields)
handing_word kind fields is fit =
    let head = head_of (wanted.Name ∷ []) fields fit in
    let one = part wanted.Name [] head.more head.fit in
    let more : head.more ≡ one.word ∷ [] = one.is ∙ ap (λ (ws : List (List ℕ)). one.word ∷ ws) (none_left one.behind one.others) in
    elim is.markable [
      | inl word ↦ reported kind fields (wanted.Name ∷ []) is.epoch (Retire one.word) head is.marked.1 one.fits (is.marked.2 ∙ ap (λ (w : List ℕ). w ++ mark_text is.epoch) word) more
      | inr word ↦ reported kind fields (wanted.Name ∷ []) is.epoch (Absorb one.word) head is.marked.1 one.fits (is.marked.2 ∙ ap (λ (w : List ℕ). w ++ mark_text is.epoch) word) more
    ]

forking_word : (kind : List ℕ) (fields : List (List ℕ)) → IsMarkedKind Forking kind → FitAll (wanted_in Forking) fields → AreOfCall (kind ∷ fields)
forking_word kind fields is fit =
    let head = head_of (wanted.Id ∷ wanted.Name ∷ wanted.Id ∷ []) fields fit in
    let kept = part wanted.Id (wanted.Name ∷ wanted.Id ∷ []) head.more head.fit in
    let child = part wanted.Name (wanted.Id ∷ []) kept.behind kept.others in
    let given = part wanted.Id [] child.behind child.others in
    let more : head.more ≡ ids.spelling kept.fits.0 ∷ child.word ∷ ids.spelling given.fits.0 ∷ [] =
    three_last kept.word child.word given.word _ _ head.more kept.behind child.behind given.behind kept.is child.is given.is (none_left given.behind given.others) kept.fits.2 given.fits.2 in
    reported kind fields (wanted.Id ∷ wanted.Name ∷ wanted.Id ∷ []) is.epoch (Fork (record { kept = kept.fits.0; child = child.word; given = given.fits.0 })) head is.marked.1 (kept.fits.1, child.fits, given.fits.1)
    (is.marked.2 ∙ ap (λ (w : List ℕ). w ++ mark_text is.epoch) is.markable) more

pub of_shape : (s : Shape) (kind : List ℕ) (fields : List (List ℕ)) → IsKindOf s kind → FitAll (wanted_in s) fields → AreOfCall (kind ∷ fields)
of_shape Bare kind fields (inl is) fit = bare_word kind fields is (none_left fields fit)
of_shape Named kind fields (inl is) fit = named_word kind fields is fit
of_shape Failed kind fields (inl is) fit = failed_word kind fields is fit
of_shape Settling kind fields (inl is) fit = settling_word kind fields is fit
of_shape Reported kind fields (inl is) fit = absurd is
of_shape Handing kind fields (inl is) fit = absurd is
of_shape Forking kind fields (inl is) fit = absurd is
of_shape Bare kind fields (inr is) fit = absurd is.markable
of_shape Named kind fields (inr is) fit = absurd is.markable
of_shape Failed kind fields (inr is) fit = absurd is.markable
of_shape Settling kind fields (inr is) fit = absurd is.markable
of_shape Reported kind fields (inr is) fit = reported_word kind fields is fit
of_shape Handing kind fields (inr is) fit = handing_word kind fields is fit
of_shape Forking kind fields (inr is) fit = forking_word kind fields is fit

-- ---- and none else are

pub fits_of : (s : Shape) (kind : List ℕ) (fields : List (List ℕ)) → IsKindOf s kind → AreOfCall (kind ∷ fields) → FitAll (wanted_in s) fields
fits_of s kind fields is of_call =
    let found = shaped (kind ∷ fields) of_call in
    let same = both kind found.kind fields found.fields found.is in
    let kinds : found.shape ≡ s = one_shape found.shape s kind (subst (IsKindOf found.shape) (sym same.0) found.kind_is) is in
    subst (λ (t : Shape). FitAll (wanted_in t) fields) kinds (subst (FitAll (wanted_in found.shape)) (sym same.1) found.fit)

-- a word of no shape begins no call
pub no_call_begins : (kind : List ℕ) (behind : List (List ℕ)) → ((s : Shape) → ¬ IsKindOf s kind) → ¬ AreOfCall (kind ∷ behind)
no_call_begins kind behind none of_call =
    let found = shaped (kind ∷ behind) of_call in
    let same = both kind found.kind behind found.fields found.is in
    none found.shape (subst (IsKindOf found.shape) (sym same.0) found.kind_is)

-- ---- what may follow

pub begun : (s : Shape) (kind : List ℕ) (kinds more : List Wanted) (fields : List (List ℕ)) → IsKindOf s kind → wanted_in s ≡ kinds ++ more → FitAll kinds fields → IsBegun (kind ∷ fields)
begun s kind kinds more fields is parts fit =
    ((samples more).0, of_shape s kind (fields ++ (samples more).0) is (subst (λ (ks : List Wanted). FitAll ks (fields ++ (samples more).0)) (sym parts) (FitAll-append kinds more fields (samples more).0 fit (samples more).1)))

-- what stands behind fields of a call that are as wanted is as it is wanted there
follows : (s : Shape) (kind : List ℕ) (kinds more : List Wanted) (fields : List (List ℕ)) (word : List ℕ) → IsKindOf s kind → wanted_in s ≡ kinds ++ more → FitAll kinds fields → (may : MayFollow (kind ∷ fields) word)
    → FitAll more (word ∷ may.0)
follows s kind kinds more fields word is parts fit may =
    let joined : kind ∷ fields ++ word ∷ [] ++ may.0 ≡ kind ∷ (fields ++ word ∷ may.0) = ap (λ (ws : List (List ℕ)). kind ∷ ws) (append_assoc fields (word ∷ []) may.0) in
    let whole : AreOfCall (kind ∷ (fields ++ word ∷ may.0)) = subst AreOfCall joined may.1 in
    FitAll-behind kinds more fields (word ∷ may.0) fit (subst (λ (ks : List Wanted). FitAll ks (fields ++ word ∷ may.0)) parts (fits_of s kind (fields ++ word ∷ may.0) is whole))

-- a word that fits may follow
fitting : (s : Shape) (kind : List ℕ) (kinds more : List Wanted) (wanted : Wanted) (fields : List (List ℕ)) (word : List ℕ) → IsKindOf s kind → wanted_in s ≡ kinds ++ wanted ∷ more → FitAll kinds fields → Fits wanted word
    → MayFollow (kind ∷ fields) word
fitting s kind kinds more wanted fields word is parts fit fits =
    begun s kind (kinds ++ wanted ∷ []) more (fields ++ word ∷ []) is (parts ∙ sym (append_assoc kinds (wanted ∷ []) more)) (FitAll-append kinds (wanted ∷ []) fields (word ∷ []) fit (fits, tt))

pub wants : (s : Shape) (kind : List ℕ) (kinds more : List Wanted) (wanted : Wanted) (fields : List (List ℕ)) → IsKindOf s kind → wanted_in s ≡ kinds ++ wanted ∷ more → FitAll kinds fields → Wants (kind ∷ fields) wanted
wants s kind kinds more wanted fields is parts fit word =
    ((λ may. (follows s kind kinds (wanted ∷ more) fields word is parts fit may).0), (λ fits. fitting s kind kinds more wanted fields word is parts fit fits))

pub none_follows : (s : Shape) (kind : List ℕ) (fields : List (List ℕ)) (word : List ℕ) → IsKindOf s kind → FitAll (wanted_in s) fields → ¬ MayFollow (kind ∷ fields) word
none_follows s kind fields word is fit may = absurd (follows s kind (wanted_in s) [] fields word is (sym (append-nil (wanted_in s))) fit may)

-- fewer words than are wanted are those of no call
pub too_few : (s : Shape) (kind : List ℕ) (kinds more : List Wanted) (wanted : Wanted) (fields : List (List ℕ)) → IsKindOf s kind → wanted_in s ≡ kinds ++ wanted ∷ more → FitAll kinds fields → ¬ AreOfCall (kind ∷ fields)
too_few s kind kinds more wanted fields is parts fit of_call =
    let whole : FitAll (kinds ++ wanted ∷ more) (fields ++ []) =
    subst (λ (ws : List (List ℕ)). FitAll (kinds ++ wanted ∷ more) ws) (sym (append-nil fields)) (subst (λ (ks : List Wanted). FitAll ks fields) parts (fits_of s kind fields is of_call)) in
    absurd (FitAll-behind kinds (wanted ∷ more) fields [] fit whole)
