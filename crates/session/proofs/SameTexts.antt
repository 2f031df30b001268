-- Runs over the same calls, and over the same lines, have the same exchanges.
use Rattle.std.proofs.Common.{◌≡◌, ◌≢◌, ℕ, List, [], ◌∷◌, ◌++◌, map, refl, sym, ap, subst, ◌∙◌, inl, inr, append-nil}
use Rattle.std.specs.List.{AllByRecursion}
use Rattle.report_line.specs.declared.call.Call.{Call}
use Rattle.report_line.specs.declared.call.Call.TheVariants as calls
use Rattle.report_line.specs.declared.reply.Reply.{Reply}
use Rattle.report_line.specs.declared.reply.Reply.TheVariants as replies
use Rattle.report_line.proofs.OneCall.{one_call}
use Rattle.chains.specs.Held.{Held}
use Rattle.chains.specs.Turns.{IsTurn}
use Rattle.reasons.specs.Shown.{IsShown}
use Rattle.report_line.specs.Cutting.{cut_of}
use Rattle.session.specs.Exchanges.{Exchange}
use Rattle.session.specs.declared.kind.SessionEndKind.TheVariants as kinds
use Rattle.session.specs.SessionText.{Means, Mean, ServedOver, IsSession, joined, session_text}
use Rattle.line_answer.specs.Questions.{IsChosenFor}
use Rattle.session.specs.Turned.{IsExchange, AreExchanges, ShowsChosen, EachLineIsChosen}
use Rattle.session.specs.OneText.{HadEnough, IsUndisturbed}
use Rattle.desk.proofs.OneTurn.{turn_once}
use Rattle.session.proofs.SameTurns.{IsSettled, one_turn, was_read}

abbrev Exchanges : Type 0
Exchanges = List Exchange

-- ---- one exchange

settled : (e : Exchange) → HadEnough e → IsSettled e.shown
settled e enough = record { memory = enough.0; device = λ o is. enough.1 (o, is) }

abbrev make : Call → Reply → Reply → Exchange
make call reply shown = record { call = call; reply = reply; shown = shown }

same_fields : (c d : Call) (x y s t : Reply) → c ≡ d → x ≡ y → s ≡ t → make c x s ≡ make d y t
same_fields c d x y s t e f g = ap (λ (k : Call). make k x s) e ∙ ap (λ (r : Reply). make d r s) f ∙ ap (make d y) g

one_exchange : (held after other : Held) (e f : Exchange) → IsExchange held e after → IsExchange held f other → ShowsChosen held e → ShowsChosen held f → HadEnough e → HadEnough f → e.call ≡ f.call → e ≡ f
one_exchange held after other e f s t p q g h same =
    let turned = subst (λ (c : Call). IsTurn held c f.reply other) (sym same) t.turned in
    let fits = subst (λ (c : Call). IsShown held c f.reply f.shown) (sym same) t.fits in
    let chosen = subst (λ (c : Call). (text : List ℕ) → f.shown ≡ replies.Line text → IsChosenFor held c text) (sym same) q in
    let both = one_turn held after other e.call e.reply f.reply e.shown f.shown s.turned s.fits turned fits (settled e g) (settled f h) p chosen in
    same_fields e.call f.call e.reply f.reply e.shown f.shown same both.0 both.1

-- ---- the same calls

abbrev calls_of : Exchanges → List Call
calls_of es = map (λ (e : Exchange). e.call) es

same_parts : (c d : Call) (cs ds : List Call) → c ∷ cs ≡ d ∷ ds → (c ≡ d) × (cs ≡ ds)
same_parts c d cs ds e = (cc, cc)

same_exchanges : (held after other : Held) (es fs : Exchanges) → AreExchanges held es after → AreExchanges held fs other → EachLineIsChosen held es → EachLineIsChosen held fs → AllByRecursion HadEnough es → AllByRecursion HadEnough fs
    → calls_of es ≡ calls_of fs → es ≡ fs
same_exchanges held after other [] [] s t p q g h same = refl
same_exchanges held after other [] (f ∷ fs) s t p q g h same = absurd cc
same_exchanges held after other (e ∷ es) [] s t p q g h same = absurd cc
same_exchanges held after other (e ∷ es) (f ∷ fs) s t p q g h same =
    let parts = same_parts e.call f.call (calls_of es) (calls_of fs) same in
    let here = one_exchange held s.0 t.0 e f s.1 t.1 p.0 q.0 g.0 h.0 parts.0 in
    let turned = subst (λ (x : Exchange). IsTurn held x.call x.reply s.0) here s.1.turned in
    let theirs = subst (λ (x : Held). AreExchanges x fs other) (turn_once held t.0 s.0 f.call f.reply t.1.turned turned) t.2 in
    ap (λ (x : Exchange). x ∷ es) here ∙ ap (λ (l : Exchanges). f ∷ l) (same_exchanges s.0 after other es fs s.2 theirs (p.1 s.0 s.1.turned) (q.1 s.0 turned) g.1 h.1 parts.1)

pub same_calls : (held : Held) (ours theirs : Exchanges) → IsUndisturbed held ours → IsUndisturbed held theirs → calls_of ours ≡ calls_of theirs → ours ≡ theirs
same_calls held ours theirs a b same = same_exchanges held a.after b.after ours theirs a.served b.served a.chosen b.chosen a.enough b.enough same

-- ---- the same lines

abbrev IsRead : Exchange → Type 0
IsRead e = e.call ≢ calls.Unread

all_read : (held after : Held) (es : Exchanges) → AreExchanges held es after → AllByRecursion HadEnough es → AllByRecursion IsRead es
all_read held after [] s g = tt
all_read held after (e ∷ es) s g = (was_read held s.0 e.call e.reply e.shown s.1.turned s.1.fits (settled e g.0), all_read s.0 after es s.2 g.1)

-- a line that was read is one call
one_meaning : (line : List ℕ) (c d : Call) → Means line c → Means line d → c ≢ calls.Unread → d ≢ calls.Unread → c ≡ d
one_meaning line c d (inl h) (inl k) p q = one_call c d h.0 k.0 (sym h.1 ∙ k.1)
one_meaning line c d (inl h) (inr (inl k)) p q = absurd (k.1 c h)
one_meaning line c d (inl h) (inr (inr k)) p q = absurd (q k)
one_meaning line c d (inr (inl h)) (inl k) p q = absurd (h.1 d k)
one_meaning line c d (inr (inl h)) (inr (inl k)) p q = h.0 ∙ sym k.0
one_meaning line c d (inr (inl h)) (inr (inr k)) p q = absurd (q k)
one_meaning line c d (inr (inr h)) k p q = absurd (p h)

mean_calls : (lines : List (List ℕ)) (es fs : Exchanges) → Mean lines es → Mean lines fs → AllByRecursion IsRead es → AllByRecursion IsRead fs → calls_of es ≡ calls_of fs
mean_calls [] [] [] m n p q = refl
mean_calls [] [] (f ∷ fs) m n p q = absurd n
mean_calls [] (e ∷ es) fs m n p q = absurd m
mean_calls (l ∷ ls) [] fs m n p q = absurd m
mean_calls (l ∷ ls) (e ∷ es) [] m n p q = absurd n
mean_calls (l ∷ ls) (e ∷ es) (f ∷ fs) m n p q =
    ap (λ (c : Call). c ∷ calls_of es) (one_meaning l e.call f.call m.0 n.0 p.0 q.0) ∙ ap (λ (cs : List Call). f.call ∷ cs) (mean_calls ls es fs m.1 n.1 p.1 q.1)

pub same_lines : (held : Held) (lines : List (List ℕ)) (ours theirs : Exchanges) → IsUndisturbed held ours → IsUndisturbed held theirs → Mean lines ours → Mean lines theirs → ours ≡ theirs
same_lines held lines ours theirs a b m n =
    same_calls held ours theirs a b (mean_calls lines ours theirs m n (all_read held a.after ours a.served a.enough) (all_read held b.after theirs b.served b.enough))

-- ---- more lines

-- the exchanges of the front lines
front_turned : (lines more : List (List ℕ)) (fs : Exchanges) → Mean (lines ++ more) fs → (front : Exchanges) × (rest : Exchanges) × (fs ≡ front ++ rest) × Mean lines front
front_turned [] more fs m = ([], fs, refl, tt)
front_turned (l ∷ ls) more [] m = absurd m
front_turned (l ∷ ls) more (f ∷ fs) m = let h = front_turned ls more fs m.1 in (f ∷ h.0, h.1, ap (λ (es : Exchanges). f ∷ es) h.2, (m.0, h.3))

front_served : (held after : Held) (front rest : Exchanges) → AreExchanges held (front ++ rest) after → (mid : Held) × AreExchanges held front mid
front_served held after [] rest s = (held, refl)
front_served held after (e ∷ es) rest s = let h = front_served s.0 after es rest s.2 in (h.0, (s.0, s.1, h.1))

front_chosen : (held : Held) (front rest : Exchanges) → EachLineIsChosen held (front ++ rest) → EachLineIsChosen held front
front_chosen held [] rest p = tt
front_chosen held (e ∷ es) rest p = (p.0, λ between turned. front_chosen between es rest (p.1 between turned))

front_enough : (front rest : Exchanges) → AllByRecursion HadEnough (front ++ rest) → AllByRecursion HadEnough front
front_enough [] rest p = tt
front_enough (e ∷ es) rest p = (p.0, front_enough es rest p.1)

front_undisturbed : (held : Held) (front rest : Exchanges) → IsUndisturbed held (front ++ rest) → IsUndisturbed held front
front_undisturbed held front rest u =
    let served = front_served held u.after front rest u.served in
    record { after = served.0; served = served.1; chosen = front_chosen held front rest u.chosen; enough = front_enough front rest u.enough }

pub more_lines : (held : Held) (lines more : List (List ℕ)) (ours theirs : Exchanges) → IsUndisturbed held ours → IsUndisturbed held theirs → Mean lines ours → Mean (lines ++ more) theirs → (rest : Exchanges) × (theirs ≡ ours ++ rest)
more_lines held lines more ours theirs a b m n =
    let h = front_turned lines more theirs n in
    let whole = subst (λ (es : Exchanges). IsUndisturbed held es) h.2 b in
    let same = same_lines held lines ours h.0 a (front_undisturbed held h.0 h.1 whole) m h.3 in
    (h.1, h.2 ∙ ap (λ (es : Exchanges). es ++ h.1) (sym same))

-- ---- sessions that read all

-- each line got a turn
all_turned : (grounds : ServedOver) (pieces : List (List ℕ)) (turned : Exchanges) (text : List ℕ) (count : ℕ) → IsSession grounds pieces kinds.End turned text count → Mean (cut_of (joined pieces)).0 turned
all_turned grounds pieces turned text count s =
    let all = s.lines_are ∙ ap (λ (l : List (List ℕ)). s.front ++ l) s.ends.0.1 ∙ append-nil s.front in
    subst (λ (l : List (List ℕ)). Mean l turned) (sym all) s.mean

pub same_sessions : (held : Held) (over other : ServedOver) (pieces others : List (List ℕ)) (ours theirs : Exchanges) (text written : List ℕ) (n m : ℕ) → IsUndisturbed held ours → IsUndisturbed held theirs
    → IsSession over pieces kinds.End ours text n → IsSession other others kinds.End theirs written m → joined pieces ≡ joined others → text ≡ written
same_sessions held over other pieces others ours theirs text written n m a b s t same =
    let mean = subst (λ (bytes : List ℕ). Mean (cut_of bytes).0 theirs) (sym same) (all_turned other others theirs written m t) in
    let e = same_lines held (cut_of (joined pieces)).0 ours theirs a b (all_turned over pieces ours text n s) mean in
    s.ends.1.0 ∙ ap (λ (es : Exchanges). session_text es ++ []) e ∙ sym t.ends.1.0
