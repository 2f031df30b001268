-- Lines that are answered, one after the other.
use Rattle.std.proofs.Common.{◌≡◌, ◌≢◌, ℕ, ◌+◌, List, [], ◌∷◌, ◌++◌, length, Option, Some, None, refl, sym, ap, ◌∙◌, append_assoc, append-nil, arith}
use Rattle.std.proofs.lemmas.List.{length-append}
use Rattle.std.proofs.lemmas.List.Concat.{flat_map-append}
use Rattle.session.specs.Exchanges.{Exchange}
use Rattle.session.specs.declared.kind.SessionEndKind.{SessionEndKind}
use Rattle.session.specs.declared.kind.SessionEndKind.TheVariants as kinds
use Rattle.session.specs.SessionText.{Mean, NoBye, LastSaysBye, StartsWithQuestion, ServedOver, at_desk, at_pass, at_passes, IsUnmade, exchange_line, session_text, IsCutInReply}
use Rattle.session.specs.working.Parts.{AreLawful, IsSaid, HowFar}

abbrev Lines : Type 0
Lines = List (List ℕ)

abbrev Exchanges : Type 0
Exchanges = List Exchange

pub mean_then : (lines more : Lines) (es fs : Exchanges) → Mean lines es → Mean more fs → Mean (lines ++ more) (es ++ fs)
mean_then [] more [] fs p q = q
mean_then (l ∷ ls) more (e ∷ es) fs p q = (p.0, mean_then ls more es fs p.1 q)
mean_then [] more (e ∷ es) fs p q = absurd p
mean_then (l ∷ ls) more [] fs p q = absurd p

-- as many lines as exchanges
pub mean_length : (lines : Lines) (es : Exchanges) → Mean lines es → length lines ≡ length es
mean_length [] [] p = refl
mean_length (l ∷ ls) (e ∷ es) p = let h = mean_length ls es p.1 in omega arith
mean_length [] (e ∷ es) p = absurd p
mean_length (l ∷ ls) [] p = absurd p

pub no_bye_then : (es fs : Exchanges) → NoBye es → NoBye fs → NoBye (es ++ fs)
no_bye_then [] fs p q = q
no_bye_then (e ∷ es) fs p q = (p.0, no_bye_then es fs p.1 q)

pub bye_then : (es fs : Exchanges) → NoBye es → LastSaysBye fs → LastSaysBye (es ++ fs)
bye_then es fs none b =
    record {
      before = es ++ b.before;
      last = b.last;
      exchanges_are = ap (λ (l : Exchanges). es ++ l) b.exchanges_are ∙ sym (append_assoc es b.before (b.last ∷ []));
      none_before = no_bye_then es b.before none b.none_before;
      bye = b.bye;
    }

text_then : (es fs : Exchanges) → session_text es ++ session_text fs ≡ session_text (es ++ fs)
text_then es fs = sym (flat_map-append exchange_line es fs)

pub said_then : (es fs : Exchanges) (text more : List ℕ) (m n : ℕ) → IsSaid es text m → IsSaid fs more n → IsSaid (es ++ fs) (text ++ more) (m + n)
said_then es fs text more m n p q = (
  ap (λ (t : List ℕ). t ++ more) p.0 ∙ ap (λ (t : List ℕ). session_text es ++ t) q.0 ∙ text_then es fs,
  omega (arith, length-append es fs, p.1, q.1),
)

pub cut_then : (es fs : Exchanges) (text more : List ℕ) (m n : ℕ) → NoBye es → IsSaid es text m → IsCutInReply fs more n → IsCutInReply (es ++ fs) (text ++ more) (m + n)
cut_then es fs text more m n none p c =
    record {
      before = es ++ c.before;
      last = c.last;
      turned_are = ap (λ (l : Exchanges). es ++ l) c.turned_are ∙ sym (append_assoc es c.before (c.last ∷ []));
      none_before = no_bye_then es c.before none c.none_before;
      part = c.part;
      cut = c.cut;
      text_is = ap (λ (t : List ℕ). t ++ more) p.0 ∙ ap (λ (t : List ℕ). session_text es ++ t) c.text_is ∙ sym (append_assoc (session_text es) (session_text c.before) c.part)
          ∙ ap (λ (t : List ℕ). t ++ c.part) (text_then es c.before);
      count_is = omega (arith, length-append es c.before, p.1, c.count_is);
    }

pub question_then : (lines more : Lines) → StartsWithQuestion lines → StartsWithQuestion (lines ++ more)
question_then lines more q =
    record {
      line = q.line;
      later = q.later ++ more;
      call = q.call;
      lines_are = ap (λ (l : Lines). l ++ more) q.lines_are;
      means = q.means;
      question = q.question;
    }

pub some_then : (lines more : Lines) → lines ≢ [] → (lines ++ more) ≢ []
some_then [] more some e = some refl
some_then (l ∷ ls) more some e = cc

pub unmade_more : (grounds : ServedOver) (later more : Lines) (es : Exchanges) → IsUnmade grounds later es → IsUnmade grounds (later ++ more) es
unmade_more (at_desk made) later more es u = (question_then later more u.0, u.1)
unmade_more (at_pass pass) later more es u = some_then later more u
unmade_more at_passes later more es u = some_then later more u

-- where some lines were all answered, and the next ones as far as this, so were both; more lines follow only where it ends
pub far_then : {S : Type 0} (makes : S → Exchanges → S → Type 0) (grounds : S → ServedOver) (laws : AreLawful makes grounds) (end : Option SessionEndKind) (s mid : S) (later more : Lines) (es fs : Exchanges) (text line : List ℕ) (m n : ℕ) → makes s es mid → NoBye es
    → IsSaid es text m → (end ≡ None → more ≡ []) → HowFar end (grounds mid) later fs line n → HowFar end (grounds s) (later ++ more) (es ++ fs) (text ++ line) (m + n)
far_then makes grounds laws None s mid later more es fs text line m n made none said nothing far = (
  no_bye_then es fs none far.0,
  ap (λ (l : Lines). later ++ l) (nothing refl) ∙ append-nil later ∙ far.1,
  said_then es fs text line m n said far.2,
)
far_then makes grounds laws (Some kinds.Bye) s mid later more es fs text line m n made none said nothing far = (bye_then es fs none far.0, said_then es fs text line m n said far.1)
far_then makes grounds laws (Some kinds.Worn) s mid later more es fs text line m n made none said nothing far =
    (no_bye_then es fs none far.0, (some_then later more far.1.0, laws.worn s mid es fs made far.1.1), said_then es fs text line m n said far.2)
far_then makes grounds laws (Some kinds.Foreign) s mid later more es fs text line m n made none said nothing far =
    (no_bye_then es fs none far.0, (some_then later more far.1.0, laws.foreign s mid es fs made far.1.1), said_then es fs text line m n said far.2)
far_then makes grounds laws (Some kinds.Memory) s mid later more es fs text line m n made none said nothing far =
    (no_bye_then es fs none far.0, unmade_more (grounds s) later more (es ++ fs) (laws.unmade s mid later es fs made far.1), said_then es fs text line m n said far.2)
far_then makes grounds laws (Some kinds.WriteFailed) s mid later more es fs text line m n made none said nothing far = cut_then es fs text line m n none said far
far_then makes grounds laws (Some kinds.End) s mid later more es fs text line m n made none said nothing far = absurd far
far_then makes grounds laws (Some kinds.TooLong) s mid later more es fs text line m n made none said nothing far = absurd far
far_then makes grounds laws (Some kinds.ReadFailed) s mid later more es fs text line m n made none said nothing far = absurd far
far_then makes grounds laws (Some kinds.Endless) s mid later more es fs text line m n made none said nothing far = absurd far
