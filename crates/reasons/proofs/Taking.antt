-- Parts of a certificate that are read one after another.
use Rattle.std.proofs.Common.{◌≡◌, ℕ, zero, suc, ◌+◌, ◌<◌, ◌≤◌, List, [], ◌∷◌, ◌++◌, length, take, get_or, map, Result, Ok, Err, refl, sym, ap, ap₂, ◌∙◌, subst, arith, append_assoc, append-nil}
use Rattle.std.proofs.lemmas.List.{take_more, take_all}
use Rattle.std.specs.Prelude.{Option, Some, All, flat_map, string_bytes}
use Rattle.report_line.specs.declared.report.Report.{Report}
use Rattle.chains.specs.Processes.{Name}
use Rattle.serde_json.specs.Data.{Data, array, number, unsigned}
use Rattle.serde_json.specs.View.{view, items_view}
use Rattle.serde_json.specs.declared.value.Value.{Value}
use Rattle.reasons.specs.declared.fault.CertificateFault.{CertificateFault}
use Rattle.reasons.specs.declared.fault.CertificateFault.TheVariants.{NotJson, Shape, Unknown, Memory}
use Rattle.reasons.specs.CertificateReading.{items_by, IsNameKnown, IsFirstUnknownText}
use Rattle.reasons.specs.working.Reading.{ReadsAs}
use Rattle.reasons.proofs.InLists.{same_length, stands_at, items_of_list}

-- ---- faults in parts

pub all_both : (accepted : List Report) (xs ys : List Name) → All (IsNameKnown accepted) xs → All (IsNameKnown accepted) ys → All (IsNameKnown accepted) (xs ++ ys)
all_both accepted [] ys first rest k d l = rest k d l
all_both accepted (x ∷ xs) ys first rest zero d l = first 0 d (omega arith)
all_both accepted (x ∷ xs) ys first rest (suc k) d l = all_both accepted xs ys (λ j e m. first (suc j) e (omega arith)) rest k d (omega arith)

-- the fault of a part is that of the whole, where all names before are known
pub reads_later : (T U : Type 0) (accepted : List Report) (before names after : List Name) (is : T → Type 0) (made : U → Type 0) (e : CertificateFault) → All (IsNameKnown accepted) before
    → ReadsAs {T = T} accepted names is (Err e) → ReadsAs {T = U} accepted (before ++ (names ++ after)) made (Err e)
reads_later T U accepted before names after is made NotJson known reads = reads
reads_later T U accepted before names after is made Shape known reads = reads
reads_later T U accepted before names after is made Memory known reads = tt
reads_later T U accepted before names after is made (Unknown text) known reads =
    record {
      before = before ++ reads.before;
      rest = reads.rest ++ after;
      parts = ap (λ (ns : List Name). before ++ (ns ++ after)) reads.parts ∙ regroup before reads.before (string_bytes text) reads.rest after;
      known_before = all_both accepted before reads.before known reads.known_before;
      unknown = reads.unknown;
    }
  where
    regroup : (a b : List Name) (t : Name) (c d : List Name) → a ++ ((b ++ t ∷ c) ++ d) ≡ (a ++ b) ++ t ∷ (c ++ d)
    regroup a b t c d = simp append_assoc

-- no part reads where there is none that it stands for
pub flat_map_append : (T : Type 0) (f : T → List Name) (xs ys : List T) → flat_map f (xs ++ ys) ≡ flat_map f xs ++ flat_map f ys
flat_map_append T f [] ys = refl
flat_map_append T f (x ∷ xs) ys = ap (λ (ns : List Name). f x ++ ns) (flat_map_append T f xs ys) ∙ sym (append_assoc (f x) (flat_map f xs) (flat_map f ys))

-- a list by what stands around an index
split_at : (T : Type 0) (xs : List T) (i : ℕ) (d : T) → i < length xs → (rest : List T) × (xs ≡ take i xs ++ get_or xs i d ∷ rest)
split_at T [] i d l = absurd (omega arith)
split_at T (x ∷ xs) zero d l = (xs, refl)
split_at T (x ∷ xs) (suc i) d l = let r = split_at T xs i d (omega arith) in (r.0, ap (λ (ys : List T). x ∷ ys) r.1)

-- ---- lists of parts

-- the first values of a list are read: they have these names, all known, and these things are what they stand for
abbrev pub TakenSoFar : (T U W : Type 0) → List Report → (T → Type 0) → (T → Data) → (T → List Name) → (U → W) → (T → W) → List Value → ℕ → List U → Type 0
TakenSoFar T U W accepted is f names g h vs i us =
    (xs : List T) → All is xs → items_view vs ≡ items_by f xs → All (IsNameKnown accepted) (flat_map names (take i xs)) × (map g us ≡ map h (take i xs))

-- what the value at an index is read as
abbrev pub TakesAt : (T U W : Type 0) → List Report → (T → Type 0) → (T → Data) → (T → List Name) → (U → W) → (T → W) → Value → Result U CertificateFault → Type 0
TakesAt T U W accepted is f names g h v result = (x : T) → is x → view v ≡ f x → ReadsAs {T = U} accepted (names x) (λ (u : U). g u ≡ h x) result

map_push : (U W : Type 0) (g : U → W) (us : List U) (u : U) → map g (us ++ u ∷ []) ≡ map g us ++ g u ∷ []
map_push U W g [] u = refl
map_push U W g (v ∷ us) u = ap (λ (ws : List W). g v ∷ ws) (map_push U W g us u)

pub taken_more : (T U W : Type 0) (accepted : List Report) (is : T → Type 0) (f : T → Data) (names : T → List Name) (g : U → W) (h : T → W) (vs : List Value) (i : ℕ) (us : List U) (u : U) (v : Value)
    → i < length vs → TakenSoFar T U W accepted is f names g h vs i us → TakesAt T U W accepted is f names g h (get_or vs i v) (Ok u) → TakenSoFar T U W accepted is f names g h vs (i + 1) (us ++ u ∷ [])
taken_more T U W accepted is f names g h vs i us u v within taken takes [] all same = absurd (omega (arith, same_length T f vs [] same))
taken_more T U W accepted is f names g h vs i us u v within taken takes (x ∷ xs) all same =
    let there : i < length (x ∷ xs) = omega (arith, same_length T f vs (x ∷ xs) same) in
    let one = takes (get_or (x ∷ xs) i x) (all i x there) (stands_at T f vs (x ∷ xs) same i v x within) in
    let before = taken (x ∷ xs) all same in
    let more : take (i + 1) (x ∷ xs) ≡ take i (x ∷ xs) ++ get_or (x ∷ xs) i x ∷ [] = take_more (x ∷ xs) i x there in (
      subst (λ (ys : List T). All (IsNameKnown accepted) (flat_map names ys)) (sym more)
          (subst (λ (ns : List Name). All (IsNameKnown accepted) ns) (sym (flat_map_append T names (take i (x ∷ xs)) (get_or (x ∷ xs) i x ∷ [])))
          (all_both accepted (flat_map names (take i (x ∷ xs))) _ before.0 (subst (λ (ns : List Name). All (IsNameKnown accepted) ns) (sym (append-nil (names (get_or (x ∷ xs) i x)))) one.0))),
      map_push U W g us u ∙ ap₂ (λ (ws : List W) (w : W). ws ++ w ∷ []) before.1 one.1 ∙ sym (map_push T W h (take i (x ∷ xs)) (get_or (x ∷ xs) i x)) ∙ ap (map h) (sym more),
    )

pub taken_all : (T U W : Type 0) (accepted : List Report) (is : T → Type 0) (f : T → Data) (names : T → List Name) (g : U → W) (h : T → W) (d : Data) (vs : List Value) (i : ℕ) (us : List U)
    → d ≡ array (items_view vs) → length vs ≤ i → TakenSoFar T U W accepted is f names g h vs i us → (xs : List T) → All is xs → d ≡ array (items_by f xs)
    → All (IsNameKnown accepted) (flat_map names xs) × (map g us ≡ map h xs)
taken_all T U W accepted is f names g h d vs i us list past taken xs all same =
    let items = items_of_list T f d vs xs list same in
    let whole : take i xs ≡ xs = take_all i xs (omega (arith, same_length T f vs xs items)) in
    subst (λ (ys : List T). All (IsNameKnown accepted) (flat_map names ys) × (map g us ≡ map h ys)) whole (taken xs all items)

pub taken_fails : (T U V W : Type 0) (accepted : List Report) (is : T → Type 0) (f : T → Data) (names : T → List Name) (g : U → W) (h : T → W) (made : V → Type 0) (d : Data) (vs : List Value) (i : ℕ) (us : List U) (e : CertificateFault) (v : Value)
    → d ≡ array (items_view vs) → i < length vs → TakenSoFar T U W accepted is f names g h vs i us → TakesAt T U W accepted is f names g h (get_or vs i v) (Err e)
    → (xs : List T) → All is xs → d ≡ array (items_by f xs) → ReadsAs {T = V} accepted (flat_map names xs) made (Err e)
taken_fails T U V W accepted is f names g h made d vs i us e v list within taken takes [] all same = absurd (omega (arith, same_length T f vs [] (items_of_list T f d vs [] list same)))
taken_fails T U V W accepted is f names g h made d vs i us e v list within taken takes (x ∷ xs) all same =
    let items = items_of_list T f d vs (x ∷ xs) list same in
    let there : i < length (x ∷ xs) = omega (arith, same_length T f vs (x ∷ xs) items) in
    let one = takes (get_or (x ∷ xs) i x) (all i x there) (stands_at T f vs (x ∷ xs) items i v x within) in
    let parts = split_at T (x ∷ xs) i x there in
    subst (λ (ns : List Name). ReadsAs {T = V} accepted ns made (Err e)) (sym (ap (flat_map names) parts.1 ∙ flat_map_append T names (take i (x ∷ xs)) (get_or (x ∷ xs) i x ∷ parts.0)))
    (reads_later U V accepted (flat_map names (take i (x ∷ xs))) (names (get_or (x ∷ xs) i x)) (flat_map names parts.0) (λ (u : U). g u ≡ h (get_or (x ∷ xs) i x)) made e (taken (x ∷ xs) all items).0 one)

-- ---- one name each

pub each_alone : (T : Type 0) (f : T → Name) (xs : List T) → flat_map (λ (x : T). f x ∷ []) xs ≡ map f xs
each_alone T f [] = refl
each_alone T f (x ∷ xs) = ap (λ (ns : List Name). f x ∷ ns) (each_alone T f xs)

pub map_itself : (T : Type 0) (xs : List T) → map (λ (x : T). x) xs ≡ xs
map_itself T [] = refl
map_itself T (x ∷ xs) = ap (λ (ys : List T). x ∷ ys) (map_itself T xs)

-- a name alone
pub alone : (accepted : List Report) (text shown : Name) → shown ≡ text → ¬ IsNameKnown accepted text → IsFirstUnknownText accepted (text ∷ []) shown
alone accepted text shown same unknown =
    record {
      before = [];
      rest = [];
      parts = ap (λ (t : Name). t ∷ []) (sym same);
      known_before = λ k d l. absurd (omega arith);
      unknown = subst (λ (t : Name). ¬ IsNameKnown accepted t) (sym same) unknown;
    }

-- ---- three parts

pub fault_first : (T U : Type 0) (accepted : List Report) (a b c : List Name) (is : T → Type 0) (made : U → Type 0) (e : CertificateFault)
    → ReadsAs {T = T} accepted a is (Err e) → ReadsAs {T = U} accepted (a ++ b ++ c) made (Err e)
fault_first T U accepted a b c is made e reads =
    subst (λ (ns : List Name). ReadsAs {T = U} accepted ns made (Err e)) (sym (append_assoc a b c)) (reads_later T U accepted [] a (b ++ c) is made e (λ k d l. absurd (omega arith)) reads)

pub fault_second : (T U : Type 0) (accepted : List Report) (a b c : List Name) (is : T → Type 0) (made : U → Type 0) (e : CertificateFault) → All (IsNameKnown accepted) a
    → ReadsAs {T = T} accepted b is (Err e) → ReadsAs {T = U} accepted (a ++ b ++ c) made (Err e)
fault_second T U accepted a b c is made e known reads =
    subst (λ (ns : List Name). ReadsAs {T = U} accepted ns made (Err e)) (sym (append_assoc a b c)) (reads_later T U accepted a b c is made e known reads)

pub fault_third : (T U : Type 0) (accepted : List Report) (a b c : List Name) (is : T → Type 0) (made : U → Type 0) (e : CertificateFault) → All (IsNameKnown accepted) a → All (IsNameKnown accepted) b
    → ReadsAs {T = T} accepted c is (Err e) → ReadsAs {T = U} accepted (a ++ b ++ c) made (Err e)
fault_third T U accepted a b c is made e first second reads =
    subst (λ (ns : List Name). ReadsAs {T = U} accepted (a ++ b ++ ns) made (Err e)) (append-nil c) (reads_later T U accepted (a ++ b) c [] is made e (all_both accepted a b first second) reads)

pub all_three : (accepted : List Report) (a b c : List Name) → All (IsNameKnown accepted) a → All (IsNameKnown accepted) b → All (IsNameKnown accepted) c → All (IsNameKnown accepted) (a ++ b ++ c)
all_three accepted a b c first second third = all_both accepted (a ++ b) c (all_both accepted a b first second) third

-- one member by one key
pub member_is : (o : Option Data) (a b : Data) → o ≡ Some a → o ≡ Some b → a ≡ b
member_is o a b is also = let same : Some a ≡ Some b = sym is ∙ also in cc

pub number_is : (m n : ℕ) → number (unsigned m) ≡ number (unsigned n) → m ≡ n
number_is m n same = cc
