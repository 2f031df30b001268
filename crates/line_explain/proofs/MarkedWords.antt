-- First words with a mark, and words that are none for an `@` in them.
use Rattle.std.proofs.Common.{◌≡◌, inr, ℕ, true, false, List, [], ◌∷◌, ◌++◌, Option, Some, None, refl, sym, subst, ◌∙◌, IsTrue}
use Rattle.std.specs.Prelude.{◌↔◌, MatchOption}
use Rattle.report_line.specs.Cuts.{Lacks}
use Rattle.report_line.proofs.Cutting.{cut_same}
use Rattle.report_line.proofs.Marks.{no_mark, some_mark, wrong_mark, one_word_and_epoch}
use Rattle.line_explain.specs.declared.kind.Shape.{Shape}
use Rattle.line_explain.specs.declared.wanted.Wanted.TheVariants as wanted
use Rattle.line_explain.specs.Wanting.{Fits}
use Rattle.line_explain.specs.Reasons.{IsMarked}
use Rattle.line_explain.specs.working.Shapes.{wanted_in, IsUnmarked, IsMarkable, IsMarkedKind, IsKindOf}
use Rattle.line_explain.proofs.KindWords.{no_shape}
use Rattle.line_explain.proofs.ShapedCalls.{begun, no_call_begins}

-- ---- the shapes of words with a mark

pub no_epoch : (kind word digits : List ℕ) → Lacks 64 word → kind ≡ word ++ 64 ∷ digits → ¬ Fits wanted.Number digits → (s : Shape) → ¬ IsMarkedKind s kind
no_epoch kind word digits lacks is none s found = wrong_mark kind word digits lacks is (λ n count same. none (n, count, same)) found.word found.epoch found.marked

pub shape_behind : (r : Option Shape) (kind word digits : List ℕ) → Lacks 64 word → kind ≡ word ++ 64 ∷ digits → Fits wanted.Number digits → MatchOption r ((s : Shape) → ¬ IsMarkable s word) (λ s. IsMarkable s word)
    → MatchOption r ((s : Shape) → ¬ IsMarkedKind s kind) (λ s. IsMarkedKind s kind)
shape_behind (Some s) kind word digits lacks is fits markable = record { word = word; epoch = fits.0; markable = markable; marked = some_mark kind word digits fits.0 lacks is fits.1 fits.2 }
shape_behind None kind word digits lacks is fits none = λ s found.
    let here = some_mark kind word digits fits.0 lacks is fits.1 fits.2 in
    let same = one_word_and_epoch found.word word found.epoch fits.0 found.marked.0 lacks found.marked.1 here.1 (sym found.marked.2 ∙ here.2) in
    none s (subst (IsMarkable s) same.0 found.markable)

pub shape_without : (r : Option Shape) (kind : List ℕ) → Lacks 64 kind → MatchOption r ((s : Shape) → ¬ IsMarkable s kind) (λ s. IsMarkable s kind) → MatchOption r ((s : Shape) → ¬ IsMarkedKind s kind) (λ s. IsMarkedKind s kind)
shape_without (Some s) kind lacks markable = record { word = kind; epoch = 0; markable = markable; marked = no_mark kind lacks }
shape_without None kind lacks none = λ s found.
    let here = no_mark kind lacks in
    let same = one_word_and_epoch found.word kind found.epoch 0 found.marked.0 lacks found.marked.1 here.1 (sym found.marked.2 ∙ here.2) in
    none s (subst (IsMarkable s) same.0 found.markable)

pub shape_either : (r : Option Shape) (kind : List ℕ) → ((s : Shape) → ¬ IsUnmarked s kind) → MatchOption r ((s : Shape) → ¬ IsMarkedKind s kind) (λ s. IsMarkedKind s kind)
    → MatchOption r ((s : Shape) → ¬ IsKindOf s kind) (λ s. IsKindOf s kind)
shape_either (Some s) kind none marked = inr marked
shape_either None kind none others = no_shape kind none others

-- ---- whether a word is a first word and an `@` with something behind it

pub marked_yes : (kind word mark : List ℕ) (s : Shape) → Lacks 64 word → kind ≡ word ++ 64 ∷ mark → IsKindOf s word → IsTrue true ↔ IsMarked kind
marked_yes kind word mark s lacks parts is = ((λ yes. record { bare = word; mark = mark; parts = parts; lacks = lacks; begun = begun s word [] (wanted_in s) [] is refl tt }), (λ marked. refl))

pub marked_no : (kind word mark : List ℕ) → Lacks 64 word → kind ≡ word ++ 64 ∷ mark → ((s : Shape) → ¬ IsKindOf s word) → IsTrue false ↔ IsMarked kind
marked_no kind word mark lacks parts none = (
  (λ no. absurd cc),
  (λ marked.
      let same = cut_same 64 marked.bare word marked.mark mark marked.lacks lacks (sym marked.parts ∙ parts) in
      absurd (no_call_begins marked.bare marked.begun.0 (subst (λ (w : List ℕ). (s : Shape) → ¬ IsKindOf s w) (sym same.0) none) marked.begun.1)),
)
