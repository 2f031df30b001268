-- No space is in a word of a call.
use Rattle.std.proofs.Common.{◌≡◌, ◌≤◌, ℕ, false, List, [], ◌∷◌, ◌++◌, length, refl, IsTrue, arith, leb-true}
use Rattle.std.specs.Prelude.{◌&&◌, nat_le}
use Rattle.std.specs.List.{list_all, AllByRecursion}
use Rattle.id_tree.specs.IdTree.{IdTree}
use Rattle.id_tree.specs.Spelling.{is_tree_byte}
use Rattle.id_tree.specs.Spelling as ids
use Rattle.id_tree.proofs.Texts as ids_texts
use Rattle.stamp.specs.declared.stamp.Stamp.{Stamp}
use Rattle.stamp.specs.Stamps.{IsStamp, stamp_text, is_stamp_byte}
use Rattle.stamp.proofs.Texts as stamps_texts
use Rattle.report_line.specs.declared.report.ReportKind.{ReportKind}
use Rattle.report_line.specs.declared.report.ReportKind.TheVariants.{Check, Present, Fork, Retire, Absorb}
use Rattle.report_line.specs.declared.report.Report.{Report}
use Rattle.report_line.specs.declared.report.Report.TheVariants as reports
use Rattle.report_line.specs.declared.call.Call.{Call}
use Rattle.report_line.specs.declared.call.Call.TheVariants as calls
use Rattle.report_line.specs.Names.{is_letter, is_name_byte, is_name}
use Rattle.report_line.specs.Cuts.{Lacks}
use Rattle.report_line.specs.Spelling.{AreNames, names_text, mark_text, action_word, action_fields, report_words, words_of, IsAction, IsSpelledIn, HasSpelling}
use Rattle.report_line.proofs.Cutting.{and_both, passes_other, Lacks-passing}
use Rattle.report_line.proofs.Numerals.{Lacks-decimal}
use Rattle.report_line.proofs.Marks.{Lacks-append, plain_mark}

pub Lacks-name : (c : ℕ) (word : List ℕ) → is_name_byte c ≡ false → is_letter c ≡ false → IsTrue (is_name word) → Lacks c word
unfolding is_name
Lacks-name c [] fails first is = absurd cc
Lacks-name c (b ∷ bs) fails first is =
    let outer = and_both (is_letter b && nat_le (length bs) 31) (list_all is_name_byte bs) is in
    let inner = and_both (is_letter b) (nat_le (length bs) 31) outer.0 in
    (passes_other is_letter b c inner.0 first, Lacks-passing is_name_byte c bs fails outer.1)

pub short_name : (word : List ℕ) → IsTrue (is_name word) → length word ≤ 32
unfolding is_name
short_name [] is = omega arith
short_name (b ∷ bs) is =
    let outer = and_both (is_letter b && nat_le (length bs) 31) (list_all is_name_byte bs) is in
    let inner = and_both (is_letter b) (nat_le (length bs) 31) outer.0 in
    omega (arith, leb-true _ _ inner.1)

pub byte_32 : is_name_byte 32 ≡ false
unfolding is_name_byte is_letter
byte_32 = refl

pub letter_32 : is_letter 32 ≡ false
unfolding is_letter
letter_32 = refl

pub byte_44 : is_name_byte 44 ≡ false
unfolding is_name_byte is_letter
byte_44 = refl

pub letter_44 : is_letter 44 ≡ false
unfolding is_letter
letter_44 = refl

plain_name : (word : List ℕ) → IsTrue (is_name word) → Lacks 32 word
plain_name word is = Lacks-name 32 word byte_32 letter_32 is

plain_id : (i : IdTree) → Lacks 32 (ids.spelling i)
plain_id i = Lacks-passing is_tree_byte 32 (ids.spelling i) refl (ids_texts.plain i)

plain_stamp : (s : Stamp) → IsStamp s → Lacks 32 (stamp_text s)
plain_stamp s is = Lacks-passing is_stamp_byte 32 (stamp_text s) refl (stamps_texts.plain s is)

plain_cut : (v w : List ℕ) → Lacks 32 v → Lacks 32 w → Lacks 32 (v ++ 44 ∷ w)
plain_cut [] w g h = (refl, h)
plain_cut (b ∷ bs) w g h = (g.0, plain_cut bs w g.1 h)

plain_names : (ns : List (List ℕ)) → AreNames ns → Lacks 32 (names_text ns)
plain_names [] are = (refl, tt)
plain_names (n ∷ []) are = plain_name n are.0
plain_names (n ∷ m ∷ ns) are = plain_cut n (names_text (m ∷ ns)) (plain_name n are.0) (plain_names (m ∷ ns) are.1)

plain_kind : (a : ReportKind) → Lacks 32 (action_word a)
plain_kind Check = (refl, (refl, (refl, (refl, (refl, tt)))))
plain_kind Present = (refl, (refl, (refl, (refl, (refl, (refl, (refl, tt)))))))
plain_kind (Fork f) = (refl, (refl, (refl, (refl, tt))))
plain_kind (Retire target) = (refl, (refl, (refl, (refl, (refl, (refl, tt))))))
plain_kind (Absorb retired) = (refl, (refl, (refl, (refl, (refl, (refl, tt))))))

-- no word has a space
abbrev pub ArePlain : List (List ℕ) → Type 0
ArePlain words = AllByRecursion (Lacks 32) words

plain_fields : (a : ReportKind) → IsAction a → ArePlain (action_fields a)
plain_fields Check is = tt
plain_fields Present is = tt
plain_fields (Fork f) is = (plain_id f.kept, (plain_name f.child is.1, (plain_id f.given, tt)))
plain_fields (Retire target) is = (plain_name target is, tt)
plain_fields (Absorb retired) is = (plain_name retired is, tt)

plain_report : (epoch : ℕ) (r : Report) → IsSpelledIn epoch r → ArePlain (report_words epoch r)
plain_report epoch (reports.Begin p) h = ((refl, (refl, (refl, (refl, (refl, tt))))), (plain_name p h.1, tt))
plain_report epoch (reports.Numbered r) h = (
  Lacks-append 32 (action_word r.action) (mark_text epoch) (plain_kind r.action) (plain_mark epoch h.0),
  (plain_name r.process h.1.name, (Lacks-decimal 32 r.number refl h.1.count.1, (plain_stamp r.stamp h.1.stamped, plain_fields r.action h.1.acted))),
)

pub plain_words : (c : Call) → HasSpelling c → ArePlain (words_of c)
plain_words (calls.Report m) h = plain_report m.epoch m.report h
plain_words (calls.Settle front ns) h = ((refl, (refl, (refl, (refl, (refl, (refl, tt)))))), (Lacks-decimal 32 front refl h.0.1, (plain_names ns h.1, tt)))
plain_words (calls.Line ns) h = ((refl, (refl, (refl, (refl, tt)))), (plain_names ns h, tt))
plain_words calls.Garbage h = ((refl, (refl, (refl, (refl, (refl, (refl, (refl, tt))))))), tt)
plain_words (calls.State p) h = ((refl, (refl, (refl, (refl, (refl, tt))))), (plain_name p h, tt))
plain_words calls.Bye h = ((refl, (refl, (refl, tt))), tt)
plain_words (calls.Bad n) h = absurd h
plain_words calls.Unread h = absurd h
