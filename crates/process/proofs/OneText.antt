-- The words of each text have no space and no LF, and no text is that of two.
use Rattle.std.proofs.Common.{◌≡◌, ℕ, false, List, [], ◌∷◌, refl, arith}
use Rattle.std.specs.Prelude.{codes}
use Rattle.std.specs.Char.{is_ascii_digit}
use Rattle.std.specs.Fmt.{decimal}
use Rattle.std.specs.List.{AllByRecursion, join_with_byte}
use Rattle.std.proofs.lemmas.Fmt.{decimal_injective}
use Rattle.id_tree.specs.Spelling.{is_tree_byte}
use Rattle.event_tree.specs.EventTree.{EventTree}
use Rattle.event_tree.specs.Spelling as events
use Rattle.event_tree.proofs.Texts as events_texts
use Rattle.stamp.specs.declared.stamp.Stamp.{Stamp}
use Rattle.stamp.specs.Stamps.{IsStamp, stamp_text, is_stamp_byte}
use Rattle.stamp.proofs.Texts as stamps_texts
use Rattle.report_line.specs.Cuts.{Lacks, words_in}
use Rattle.report_line.specs.Names.{is_name_byte, is_letter}
use Rattle.report_line.proofs.Cutting.{Lacks-passing}
use Rattle.report_line.proofs.Marks.{Lacks-append}
use Rattle.report_line.proofs.Numerals.{Lacks-decimal}
use Rattle.report_line.proofs.Plain.{Lacks-name}
use Rattle.process.specs.declared.process.Process.{Process}
use Rattle.process.specs.declared.handed.Message.{Message}
use Rattle.process.specs.declared.handed.Start.{Start}
use Rattle.process.specs.declared.handed.Retirement.{Retirement}
use Rattle.process.specs.Texts.{IsNumber, IsProcess, IsMessage, IsStart, IsRetirement, process_words, message_words, start_words, retirement_words, process_text, message_text, start_text, retirement_text}
use Rattle.process.proofs.WordLists.{again, same_words, both_words}

-- a byte that no name, no number and no stamp has
record IsApart (c : ℕ) : Type 0 where
  name_byte : is_name_byte c ≡ false
  letter : is_letter c ≡ false
  digit : is_ascii_digit c ≡ false
  stamp_byte : is_stamp_byte c ≡ false
  tree_byte : is_tree_byte c ≡ false

space : IsApart 32
unfolding is_name_byte is_letter
space = record { name_byte = refl; letter = refl; digit = refl; stamp_byte = refl; tree_byte = refl }

line_feed : IsApart 10
unfolding is_name_byte is_letter
line_feed = record { name_byte = refl; letter = refl; digit = refl; stamp_byte = refl; tree_byte = refl }

lacks_stamp : (c : ℕ) → IsApart c → (s : Stamp) → IsStamp s → Lacks c (stamp_text s)
lacks_stamp c a s is = Lacks-passing is_stamp_byte c (stamp_text s) a.stamp_byte (stamps_texts.plain s is)

abbrev AllLack : ℕ → List (List ℕ) → Type 0
AllLack c words = AllByRecursion (Lacks c) words

process_lacks : (c : ℕ) → IsApart c → Lacks c (codes "process") → (p : Process) → IsProcess p → AllLack c (process_words p)
process_lacks c a k p is =
    (k, (Lacks-name c p.name a.name_byte a.letter is.name, (Lacks-decimal c p.epoch a.digit is.epoch, (Lacks-decimal c p.reports a.digit is.reports, (lacks_stamp c a p.stamp is.stamp, tt)))))

message_lacks : (c : ℕ) → IsApart c → Lacks c (codes "message") → (m : Message) → IsMessage m → AllLack c (message_words m)
message_lacks c a k m is = (k, (Lacks-decimal c m.epoch a.digit is.epoch, (Lacks-passing is_tree_byte c (events.spelling m.events) a.tree_byte (events_texts.plain m.events is.events.small), tt)))

start_lacks : (c : ℕ) → IsApart c → Lacks c (codes "start") → (s : Start) → IsStart s → AllLack c (start_words s)
start_lacks c a k s is = (k, (Lacks-name c s.child a.name_byte a.letter is.child, (Lacks-decimal c s.epoch a.digit is.epoch, (lacks_stamp c a s.stamp is.stamp, tt))))

retirement_lacks : (c : ℕ) → IsApart c → Lacks c (codes "retirement") → (r : Retirement) → IsRetirement r → AllLack c (retirement_words r)
retirement_lacks c a k r is =
    (k, (Lacks-name c r.process a.name_byte a.letter is.process, (Lacks-decimal c r.epoch a.digit is.epoch, (Lacks-name c r.target a.name_byte a.letter is.target, (lacks_stamp c a r.stamp is.stamp, tt)))))

-- ---- the words are read again

pub process_again : (p : Process) → IsProcess p → words_in (join_with_byte 32 (process_words p)) ≡ process_words p
process_again p is = again _ _ (process_lacks 32 space (refl, (refl, (refl, (refl, (refl, (refl, (refl, tt))))))) p is)

pub message_again : (m : Message) → IsMessage m → words_in (join_with_byte 32 (message_words m)) ≡ message_words m
message_again m is = again _ _ (message_lacks 32 space (refl, (refl, (refl, (refl, (refl, (refl, (refl, tt))))))) m is)

pub start_again : (s : Start) → IsStart s → words_in (join_with_byte 32 (start_words s)) ≡ start_words s
start_again s is = again _ _ (start_lacks 32 space (refl, (refl, (refl, (refl, (refl, tt))))) s is)

pub retirement_again : (r : Retirement) → IsRetirement r → words_in (join_with_byte 32 (retirement_words r)) ≡ retirement_words r
retirement_again r is = again _ _ (retirement_lacks 32 space (refl, (refl, (refl, (refl, (refl, (refl, (refl, (refl, (refl, (refl, tt)))))))))) r is)

-- ---- one line each

lacks_joined : (words : List (List ℕ)) → AllLack 10 words → Lacks 10 (join_with_byte 32 words)
lacks_joined [] h = tt
lacks_joined (w ∷ []) h = h.0
lacks_joined (w ∷ v ∷ ws) h = Lacks-append 10 w (32 ∷ join_with_byte 32 (v ∷ ws)) h.0 (refl, lacks_joined (v ∷ ws) h.1)

pub process_line : (p : Process) → IsProcess p → Lacks 10 (process_text p)
process_line p is = lacks_joined (process_words p) (process_lacks 10 line_feed (refl, (refl, (refl, (refl, (refl, (refl, (refl, tt))))))) p is)

pub message_line : (m : Message) → IsMessage m → Lacks 10 (message_text m)
message_line m is = lacks_joined (message_words m) (message_lacks 10 line_feed (refl, (refl, (refl, (refl, (refl, (refl, (refl, tt))))))) m is)

pub start_line : (s : Start) → IsStart s → Lacks 10 (start_text s)
start_line s is = lacks_joined (start_words s) (start_lacks 10 line_feed (refl, (refl, (refl, (refl, (refl, tt))))) s is)

pub retirement_line : (r : Retirement) → IsRetirement r → Lacks 10 (retirement_text r)
retirement_line r is = lacks_joined (retirement_words r) (retirement_lacks 10 line_feed (refl, (refl, (refl, (refl, (refl, (refl, (refl, (refl, (refl, (refl, tt)))))))))) r is)

-- ---- no text is that of two

same_number : (m n : ℕ) → IsNumber m → IsNumber n → decimal m ≡ decimal n → m ≡ n
same_number m n h k e = decimal_injective m n (omega (arith, h)) (omega (arith, k)) e

same_process : (a b : List ℕ) (m n k l : ℕ) (s t : Stamp) → a ≡ b → m ≡ n → k ≡ l → s ≡ t
    → (let p : Process = record { name = a; epoch = m; reports = k; stamp = s } in let q : Process = record { name = b; epoch = n; reports = l; stamp = t } in p ≡ q)
same_process a b m n k l s t e f g h = cc

same_message : (m n : ℕ) (d e : EventTree) → m ≡ n → d ≡ e → (let p : Message = record { epoch = m; events = d } in let q : Message = record { epoch = n; events = e } in p ≡ q)
same_message m n d e f g = cc

same_start : (a b : List ℕ) (m n : ℕ) (s t : Stamp) → a ≡ b → m ≡ n → s ≡ t
    → (let p : Start = record { child = a; epoch = m; stamp = s } in let q : Start = record { child = b; epoch = n; stamp = t } in p ≡ q)
same_start a b m n s t e f h = cc

same_retirement : (a b x y : List ℕ) (m n : ℕ) (s t : Stamp) → a ≡ b → m ≡ n → x ≡ y → s ≡ t
    → (let p : Retirement = record { process = a; epoch = m; target = x; stamp = s } in let q : Retirement = record { process = b; epoch = n; target = y; stamp = t } in p ≡ q)
same_retirement a b x y m n s t e f g h = cc

pub one_process : (p q : Process) → IsProcess p → IsProcess q → process_text p ≡ process_text q → p ≡ q
one_process p q is are e =
    let words = same_words (process_words p) (process_words q) (process_again p is) (process_again q are) e in
    let name = both_words _ _ _ _ (both_words _ _ _ _ words).1 in
    let epoch = both_words _ _ _ _ name.1 in
    let reports = both_words _ _ _ _ epoch.1 in
    let last = both_words _ _ [] [] reports.1 in
    same_process p.name q.name p.epoch q.epoch p.reports q.reports p.stamp q.stamp name.0 (same_number _ _ is.epoch are.epoch epoch.0) (same_number _ _ is.reports are.reports reports.0)
    (stamps_texts.one_text p.stamp q.stamp last.0 is.stamp are.stamp)

pub one_message : (m n : Message) → IsMessage m → IsMessage n → message_text m ≡ message_text n → m ≡ n
one_message m n is are e =
    let words = same_words (message_words m) (message_words n) (message_again m is) (message_again n are) e in
    let epoch = both_words _ _ _ _ (both_words _ _ _ _ words).1 in
    let last = both_words _ _ [] [] epoch.1 in
    same_message m.epoch n.epoch m.events n.events (same_number _ _ is.epoch are.epoch epoch.0) (events_texts.one_spelling m.events n.events is.events are.events last.0)

pub one_start : (s t : Start) → IsStart s → IsStart t → start_text s ≡ start_text t → s ≡ t
one_start s t is are e =
    let words = same_words (start_words s) (start_words t) (start_again s is) (start_again t are) e in
    let child = both_words _ _ _ _ (both_words _ _ _ _ words).1 in
    let epoch = both_words _ _ _ _ child.1 in
    let last = both_words _ _ [] [] epoch.1 in
    same_start s.child t.child s.epoch t.epoch s.stamp t.stamp child.0 (same_number _ _ is.epoch are.epoch epoch.0) (stamps_texts.one_text s.stamp t.stamp last.0 is.stamp are.stamp)

pub one_retirement : (r s : Retirement) → IsRetirement r → IsRetirement s → retirement_text r ≡ retirement_text s → r ≡ s
one_retirement r s is are e =
    let words = same_words (retirement_words r) (retirement_words s) (retirement_again r is) (retirement_again s are) e in
    let process = both_words _ _ _ _ (both_words _ _ _ _ words).1 in
    let epoch = both_words _ _ _ _ process.1 in
    let target = both_words _ _ _ _ epoch.1 in
    let last = both_words _ _ [] [] target.1 in
    same_retirement r.process s.process r.target s.target r.epoch s.epoch r.stamp s.stamp process.0 (same_number _ _ is.epoch are.epoch epoch.0) target.0
    (stamps_texts.one_text r.stamp s.stamp last.0 is.stamp are.stamp)
