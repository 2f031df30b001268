-- Opening records comes to one thing that is held.
use Rattle.std.proofs.Common.{◌≡◌, ◌≢◌, ℕ, List, [], ◌∷◌, ◌++◌, refl, sym, subst, ◌∙◌}
use Rattle.record_file.specs.File.{Said, Stands}
use Rattle.record_file.proofs.Openings.{one_list}
use Rattle.report_line.proofs.OneCall.{one_call}
use Rattle.report_line.specs.declared.call.Call.{Call}
use Rattle.report_line.specs.declared.call.Call.TheVariants as calls
use Rattle.chains.specs.Held.{Held}
use Rattle.propagate.proofs.Outcomes.{one_outcome}
use Rattle.desk.specs.Records.{IsLineOf, AdmitsCall, Admits, Opens, no_records, one_more}

-- ---- lists that end with an element

no_push : (said : List Said) (one : Said) → said ++ one ∷ [] ≢ []
no_push [] one e = cc
no_push (x ∷ said) one e = cc

pub first_same : (x y : Said) (xs ys : List Said) → x ∷ xs ≡ y ∷ ys → x ≡ y
first_same x y xs ys e = cc

pub rest_same : (x y : Said) (xs ys : List Said) → x ∷ xs ≡ y ∷ ys → xs ≡ ys
rest_same x y xs ys e = cc

pub both_same : (x y : Said) (xs ys : List Said) → x ≡ y → xs ≡ ys → x ∷ xs ≡ y ∷ ys
both_same x y xs ys e f = cc

pub push_same : (said others : List Said) (one other : Said) → said ++ one ∷ [] ≡ others ++ other ∷ [] → (said ≡ others) × (one ≡ other)
push_same [] [] one other e = (refl, first_same one other [] [] e)
push_same [] (y ∷ others) one other e = absurd (no_push others other (sym (rest_same one y [] (others ++ other ∷ []) e)))
push_same (x ∷ said) [] one other e = absurd (no_push said one (rest_same x other (said ++ one ∷ []) [] e))
push_same (x ∷ said) (y ∷ others) one other e =
    let later = push_same said others one other (rest_same x y (said ++ one ∷ []) (others ++ other ∷ []) e) in
    (both_same x y said others (first_same x y (said ++ one ∷ []) (others ++ other ∷ []) e) later.0, later.1)

-- ---- one record

-- the line of a call is that of no other
pub same_call : (one : Said) (call other : Call) → IsLineOf one call → IsLineOf one other → call ≡ other
same_call one call other is was = one_call call other is.spelled was.spelled (sym is.line ∙ was.line)

admitted_once : (held : Held) (epoch : ℕ) (call : Call) (a b : Held) → AdmitsCall held epoch call a → AdmitsCall held epoch call b → a ≡ b
admitted_once held epoch (calls.Report m) a b (passes, is) (again, was) = is ∙ sym was
admitted_once held epoch (calls.Settle front names) a b first second = one_outcome held names a b first.2 second.2
admitted_once held epoch _ a b first second = absurd first

pub admits_once : (held : Held) (one : Said) (a b : Held) → Admits held one a → Admits held one b → a ≡ b
admits_once held one a b first second =
    admitted_once held one.0 second.call a b (subst (λ (c : Call). AdmitsCall held one.0 c a) (same_call one first.call second.call first.is_line second.is_line) first.admits) second.admits

-- ---- all records

opens_once : (said others : List Said) (a b : Held) → Opens said a → Opens others b → said ≡ others → a ≡ b
opens_once _ _ _ _ no_records no_records same = refl
opens_once _ _ _ b no_records (one_more {said} {held} one after opens admits) same = absurd (no_push said one (sym same))
opens_once _ _ a _ (one_more {said} {held} one after opens admits) no_records same = absurd (no_push said one same)
opens_once _ _ _ _ (one_more {said = said} {held = held} one after opens admits) (one_more {said = others} {held = beside} other then_held opened admitted) same =
    let both = push_same said others one other same in
    let before = opens_once said others held beside opens opened both.0 in
    admits_once beside other after then_held (subst (λ (s : Said). Admits beside s after) both.1 (subst (λ (h : Held). Admits h one after) before admits)) admitted

pub one_opening : (said : List Said) (held other : Held) → Opens said held → Opens said other → held ≡ other
one_opening said held other opens opened = opens_once said said held other opens opened refl

pub one_of_file : (file : List ℕ) (said others : List Said) (held other : Held) → Stands said file → Stands others file → Opens said held → Opens others other → held ≡ other
one_of_file file said others held other stands stood opens opened = opens_once said others held other opens opened (one_list said others file stands stood)
