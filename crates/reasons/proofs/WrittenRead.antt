-- Written certificates are read as what they were.
use Rattle.std.proofs.Common.{◌≡◌, ℕ, zero, suc, ◌<◌, List, [], ◌∷◌, ◌++◌, codes, map, length, Some, None, Result, Ok, Err, IsTrue, inl, inr, ◌⊎◌, refl, sym, ap, ap₂, subst, ◌∙◌, arith}
use Rattle.std.proofs.Math.Seq.{get_or-append_seam}
use Rattle.std.proofs.lemmas.List.{length-append}
use Rattle.std.proofs.lemmas.Option.{slice_get_within, get_or_from_slice_get}
use Rattle.std.specs.Prelude.{All, Option, unwrap_or, flat_map, string_bytes}
use Rattle.std.specs.Option.{option_map}
use Rattle.report_line.specs.declared.report.Report.{Report}
use Rattle.report_line.specs.Names.{is_name}
use Rattle.chains.specs.declared.position.Position.{Position}
use Rattle.chains.specs.declared.position.Position.TheVariants.{At, Retired}
use Rattle.chains.specs.declared.position.Place.{Place}
use Rattle.chains.specs.Folded.{IsFolded}
use Rattle.chains.specs.Processes.{Name, known}
use Rattle.chains.specs.Elements.{name_of}
use Rattle.chains.proofs.Distinct.{distinct_known}
use Rattle.chains.proofs.Keeps.{named}
use Rattle.chains.proofs.LookUps.{known_from}
use Rattle.json.proofs.Printed.Utf8.{IsUtf8-are_ascii}
use Rattle.serde_json.proofs.OnLiterals.{serde_json_on_literals}
use Rattle.serde_json.specs.Data.{Data, string, number, unsigned, array, Items, no_items, item}
use Rattle.reasons.specs.declared.certificate.Certificate.{Certificate}
use Rattle.reasons.specs.declared.fault.CertificateFault.{CertificateFault}
use Rattle.reasons.specs.declared.fault.CertificateFault.TheVariants.{NotJson, Shape, Unknown, Memory}
use Rattle.reasons.specs.CertificateText.{quoted, bracketed, position_text, shown_name, place_text, certificate_text}
use Rattle.reasons.specs.CertificateReading.{NamedPlace, NamedCertificate, items_by, position_data, place_data, places_data, IsSmall, HasSmallPosition, IsValueOf, names_in, IsNameKnown, IsFirstUnknownText, place_named, IsNumbered, IsKnownPlace, HasKnownNumbers, IsCertificateText, IsReadAs}
use Rattle.reasons.specs.working.Json.{IsJsonText}
use Rattle.reasons.proofs.PlainNames.{name_bytes, name_utf8, plain_text}
use Rattle.reasons.proofs.ReadBack.{IsReadBack, string_back, number_back, pair_back, each_back, each_written, array_back, object_back, weaker, text_of_back, broken_text_of_back, four_members}
use Rattle.reasons.proofs.Taking.{all_both, all_three}
use Rattle.reasons.proofs.Writing.{array_written, object_written}

-- the names of known processes are names
abbrev pub AreNames : List Report → Type 0
AreNames accepted = (p : ℕ) (name : Name) → name_of accepted p ≡ Some name → IsTrue (is_name name)

-- ---- a certificate with the names that are shown for its numbers

abbrev shown_place : List Report → Place → NamedPlace
shown_place accepted x = record { name = shown_name accepted x.process; position = x.position }

abbrev with_names : List Report → Certificate → NamedCertificate
with_names accepted c =
    record {
      failed = map (shown_name accepted) c.failed;
      front = c.front;
      line = map (shown_place accepted) c.line;
      reasons = map (λ (chain : List Place). map (shown_place accepted) chain) c.reasons;
    }

shown_is : (accepted : List Report) (p : ℕ) → p < length (known accepted) → name_of accepted p ≡ Some (shown_name accepted p)
shown_is accepted p there = let n = named accepted p there in n.1 ∙ ap Some (sym (ap (λ (o : Option Name). unwrap_or o []) n.1))

shown_plain : (accepted : List Report) → AreNames accepted → (p : ℕ) → p < length (known accepted) → IsTrue (is_name (shown_name accepted p))
shown_plain accepted names p there = names p (shown_name accepted p) (shown_is accepted p there)

shown_known : (accepted : List Report) → AreNames accepted → (p : ℕ) → p < length (known accepted) → IsNameKnown accepted (shown_name accepted p)
shown_known accepted names p there = (shown_plain accepted names p there, known_from accepted p _ (shown_is accepted p there))

-- ---- read back

position_back : (k : Position) → IsSmall k → IsReadBack (position_data k) 0
position_back (At k) small = number_back k (omega (arith, small))
position_back Retired small = string_back (codes "retired") (IsUtf8-are_ascii (codes "retired") refl)

name_back : (accepted : List Report) → AreNames accepted → (p : ℕ) → p < length (known accepted) → IsReadBack (string (shown_name accepted p)) 0
name_back accepted names p there = string_back _ (name_utf8 _ (shown_plain accepted names p there))

place_back : (accepted : List Report) → AreNames accepted → (x : Place) → IsKnownPlace accepted x → IsReadBack (place_data (shown_place accepted x)) 1
place_back accepted names x is = pair_back _ _ 0 (name_back accepted names x.process is.0) (position_back x.position is.1)

places_back : (accepted : List Report) → AreNames accepted → (xs : List Place) → All (IsKnownPlace accepted) xs → IsReadBack (places_data (map (shown_place accepted) xs)) 2
places_back accepted names xs all = array_back _ 1 (each_back Place NamedPlace (IsKnownPlace accepted) (shown_place accepted) place_data 1 (place_back accepted names) xs all)

-- ---- written

position_written : (k : Position) → IsJsonText (position_data k) (position_text k)
unfolding serde_json_on_literals
position_written (At k) = record { no_float = refl; text_is = refl }
position_written Retired = record { no_float = refl; text_is = refl }

name_is_written : (accepted : List Report) → AreNames accepted → (p : ℕ) → p < length (known accepted) → IsJsonText (string (shown_name accepted p)) (quoted (shown_name accepted p))
name_is_written accepted names p there = record { no_float = refl; text_is = plain_text _ (name_bytes _ (shown_plain accepted names p there)) }

place_written : (accepted : List Report) → AreNames accepted → (x : Place) → IsKnownPlace accepted x → IsJsonText (place_data (shown_place accepted x)) (place_text accepted x)
place_written accepted names x is =
    array_written (item (string (shown_name accepted x.process)) (item (position_data x.position) no_items)) (quoted (shown_name accepted x.process) ∷ position_text x.position ∷ [])
    (name_is_written accepted names x.process is.0, (position_written x.position, tt))

places_written : (accepted : List Report) → AreNames accepted → (xs : List Place) → All (IsKnownPlace accepted) xs → IsJsonText (places_data (map (shown_place accepted) xs)) (bracketed (map (place_text accepted) xs))
places_written accepted names xs all = array_written _ _ (each_written Place NamedPlace (IsKnownPlace accepted) (shown_place accepted) place_data (place_text accepted) (place_written accepted names) xs all)

-- ---- the whole

abbrev data_of : List Report → Certificate → Data
data_of accepted c =
    let n = with_names accepted c in
    four_members (array (items_by string n.failed)) (number (unsigned n.front)) (places_data n.line) (array (items_by places_data n.reasons))

text_written : (accepted : List Report) → AreNames accepted → (c : Certificate) → HasKnownNumbers accepted c → IsJsonText (data_of accepted c) (certificate_text accepted c)
text_written accepted names c k =
    object_written _ _ _ c.front _ _ _
    (array_written _ _ (each_written ℕ Name (λ p. p < length (known accepted)) (shown_name accepted) string (λ (p : ℕ). quoted (shown_name accepted p)) (name_is_written accepted names) c.failed k.failed))
    (places_written accepted names c.line k.line)
    (array_written _ _ (each_written (List Place) (List NamedPlace) (All (IsKnownPlace accepted)) (λ (chain : List Place). map (shown_place accepted) chain) places_data
    (λ (chain : List Place). bracketed (map (place_text accepted) chain)) (places_written accepted names) c.reasons k.reasons))

data_back : (accepted : List Report) → AreNames accepted → (c : Certificate) → HasKnownNumbers accepted c → IsReadBack (data_of accepted c) 4
data_back accepted names c k =
    object_back _ _ _ _ 3
    (weaker _ 1 3 (omega arith) (array_back _ 0 (each_back ℕ Name (λ p. p < length (known accepted)) (shown_name accepted) string 0 (name_back accepted names) c.failed k.failed)))
    (weaker _ 0 3 (omega arith) (number_back c.front k.front))
    (weaker _ 2 3 (omega arith) (places_back accepted names c.line k.line))
    (array_back _ 2 (each_back (List Place) (List NamedPlace) (All (IsKnownPlace accepted)) (λ (chain : List Place). map (shown_place accepted) chain) places_data 2 (places_back accepted names) c.reasons k.reasons))

all_mapped : (U T : Type 0) (is : U → Type 0) (so : T → Type 0) (g : U → T) → ((u : U) → is u → so (g u)) → (us : List U) → All is us → All so (map g us)
all_mapped U T is so g one [] all k d l = absurd (omega arith)
all_mapped U T is so g one (u ∷ us) all zero d l = one u (all 0 u (omega arith))
all_mapped U T is so g one (u ∷ us) all (suc k) d l = all_mapped U T is so g one us (λ j e m. all (suc j) e (omega arith)) k d (omega arith)

data_is : (accepted : List Report) (c : Certificate) → HasKnownNumbers accepted c → IsValueOf (data_of accepted c) (with_names accepted c)
unfolding serde_json_on_literals
data_is accepted c k =
    record {
      four = refl;
      failed = refl;
      front = refl;
      line = refl;
      reasons = refl;
      small_front = k.front;
      small_line = all_mapped Place NamedPlace (IsKnownPlace accepted) HasSmallPosition (shown_place accepted) (λ x is. is.1) c.line k.line;
      small_reasons =
          all_mapped (List Place) (List NamedPlace) (All (IsKnownPlace accepted)) (All HasSmallPosition) (λ (chain : List Place). map (shown_place accepted) chain)
          (λ chain all. all_mapped Place NamedPlace (IsKnownPlace accepted) HasSmallPosition (shown_place accepted) (λ x is. is.1) chain all) c.reasons k.reasons;
    }

pub is_its_text : (accepted : List Report) → AreNames accepted → (c : Certificate) → HasKnownNumbers accepted c → IsCertificateText (certificate_text accepted c) (with_names accepted c)
is_its_text accepted names c k = (data_of accepted c, text_of_back _ _ 4 (omega arith) (text_written accepted names c k) (data_back accepted names c k), data_is accepted c k)

-- ---- no other certificate has the text

some_one : (T : Type 0) (x y : T) → Some x ≡ Some y → x ≡ y
some_one T x y same = cc

items_one : (T : Type 0) (f : T → Data) → ((x y : T) → f x ≡ f y → x ≡ y) → (xs ys : List T) → items_by f xs ≡ items_by f ys → xs ≡ ys
items_one T f one [] [] same = refl
items_one T f one [] (y ∷ ys) same = absurd cc
items_one T f one (x ∷ xs) [] same = absurd cc
items_one T f one (x ∷ xs) (y ∷ ys) same =
    let first : f x ≡ f y = cc in
    let rest : items_by f xs ≡ items_by f ys = cc in
    ap₂ (λ (z : T) (zs : List T). z ∷ zs) (one x y first) (items_one T f one xs ys rest)

string_one : (a b : Name) → string a ≡ string b → a ≡ b
string_one a b same = cc

position_one : (j k : Position) → position_data j ≡ position_data k → j ≡ k
position_one (At j) (At k) same = let is : j ≡ k = cc in ap At is
position_one (At j) Retired same = absurd cc
position_one Retired (At k) same = absurd cc
position_one Retired Retired same = refl

place_one : (x y : NamedPlace) → place_data x ≡ place_data y → x ≡ y
place_one x y same =
    let name : x.name ≡ y.name = cc in
    let position : position_data x.position ≡ position_data y.position = cc in
    ap₂ (λ (n : Name) (k : Position). record { name = n; position = k }) name (position_one x.position y.position position)

places_one : (xs ys : List NamedPlace) → places_data xs ≡ places_data ys → xs ≡ ys
places_one xs ys same = let items : items_by place_data xs ≡ items_by place_data ys = cc in items_one NamedPlace place_data place_one xs ys items

number_one : (m n : ℕ) → number (unsigned m) ≡ number (unsigned n) → m ≡ n
number_one m n same = cc

abbrev named_by : List Name → ℕ → List NamedPlace → List (List NamedPlace) → NamedCertificate
named_by f n l r = record { failed = f; front = n; line = l; reasons = r }

parts_one : (f f' : List Name) (n n' : ℕ) (l l' : List NamedPlace) (r r' : List (List NamedPlace)) → f ≡ f' → n ≡ n' → l ≡ l' → r ≡ r'
    → named_by f n l r ≡ named_by f' n' l' r'
parts_one f f' n n' l l' r r' a b c d = rw (a, b, c, d)

list_one : (a b : Items) → array a ≡ array b → a ≡ b
list_one a b same = cc

value_one : (d : Data) (a b : NamedCertificate) → IsValueOf d a → IsValueOf d b → a ≡ b
value_one d a b x y =
    parts_one a.failed b.failed a.front b.front a.line b.line a.reasons b.reasons
    (items_one Name string string_one _ _ (list_one _ _ (some_one Data _ _ (sym x.failed ∙ y.failed))))
    (number_one _ _ (some_one Data _ _ (sym x.front ∙ y.front)))
    (places_one _ _ (some_one Data _ _ (sym x.line ∙ y.line)))
    (items_one (List NamedPlace) places_data places_one _ _ (list_one _ _ (some_one Data _ _ (sym x.reasons ∙ y.reasons))))

text_one : (text : List ℕ) (a b : NamedCertificate) → IsCertificateText text a → IsCertificateText text b → a ≡ b
text_one text a b x y =
    let same : x.0 ≡ y.0 = some_one Data _ _ (sym x.1.1 ∙ y.1.1) in
    value_one y.0 a b (subst (λ (d : Data). IsValueOf d a) same x.2) y.2

-- ---- no other numbers have the names

name_one : (accepted : List Report) → IsFolded accepted → (p q : ℕ) (name : Name) → name_of accepted p ≡ Some name → name_of accepted q ≡ Some name → p ≡ q
name_one accepted folded p q name a b =
    distinct_known accepted folded p q name (slice_get_within (known accepted) p name a) (slice_get_within (known accepted) q name b)
    (get_or_from_slice_get (known accepted) p name name a ∙ sym (get_or_from_slice_get (known accepted) q name name b))

maps_one : (U W T : Type 0) (f : U → W) (h : T → W) → ((u v : U) (t : T) → f u ≡ h t → f v ≡ h t → u ≡ v) → (us vs : List U) (ts : List T) → map f us ≡ map h ts → map f vs ≡ map h ts → us ≡ vs
maps_one U W T f h one [] [] ts a b = refl
maps_one U W T f h one [] (v ∷ vs) [] a b = absurd cc
maps_one U W T f h one [] (v ∷ vs) (t ∷ ts) a b = absurd cc
maps_one U W T f h one (u ∷ us) [] [] a b = absurd cc
maps_one U W T f h one (u ∷ us) [] (t ∷ ts) a b = absurd cc
maps_one U W T f h one (u ∷ us) (v ∷ vs) [] a b = absurd cc
maps_one U W T f h one (u ∷ us) (v ∷ vs) (t ∷ ts) a b =
    let au : f u ≡ h t = cc in
    let av : f v ≡ h t = cc in
    let ru : map f us ≡ map h ts = cc in
    let rv : map f vs ≡ map h ts = cc in
    ap₂ (λ (z : U) (zs : List U). z ∷ zs) (one u v t au av) (maps_one U W T f h one us vs ts ru rv)

named_parts : (o : Option Name) (k : Position) (t : NamedPlace) → option_map (λ (name : Name). record { name = name; position = k }) o ≡ Some t → (o ≡ Some t.name) × (k ≡ t.position)
named_parts None k t is = absurd cc
named_parts (Some n) k t is = let same = some_one NamedPlace _ _ is in (ap Some (ap (λ (x : NamedPlace). x.name) same), ap (λ (x : NamedPlace). x.position) same)

place_numbered_one : (accepted : List Report) → IsFolded accepted → (x y : Place) (t : NamedPlace) → place_named accepted x ≡ Some t → place_named accepted y ≡ Some t → x ≡ y
place_numbered_one accepted reachable x y t a b =
    let p = named_parts (name_of accepted x.process) x.position t a in
    let q = named_parts (name_of accepted y.process) y.position t b in
    ap₂ (λ (n : ℕ) (k : Position). record { process = n; position = k }) (name_one accepted reachable x.process y.process t.name p.0 q.0) (p.1 ∙ sym q.1)

abbrev numbered_by : List ℕ → ℕ → List Place → List (List Place) → Certificate
numbered_by f n l r = record { failed = f; front = n; line = l; reasons = r }

certificate_one : (f f' : List ℕ) (n n' : ℕ) (l l' : List Place) (r r' : List (List Place)) → f ≡ f' → n ≡ n' → l ≡ l' → r ≡ r'
    → numbered_by f n l r ≡ numbered_by f' n' l' r'
certificate_one f f' n n' l l' r r' a b c d = rw (a, b, c, d)

numbered_one : (accepted : List Report) → IsFolded accepted → (named : NamedCertificate) (c e : Certificate) → IsNumbered accepted named c → IsNumbered accepted named e → c ≡ e
numbered_one accepted reachable named c e x y =
    certificate_one c.failed e.failed c.front e.front c.line e.line c.reasons e.reasons
    (maps_one ℕ (Option Name) Name (name_of accepted) Some (name_one accepted reachable) c.failed e.failed named.failed x.failed y.failed)
    (x.front ∙ sym y.front)
    (maps_one Place (Option NamedPlace) NamedPlace (place_named accepted) Some (place_numbered_one accepted reachable) c.line e.line named.line x.line y.line)
    (maps_one (List Place) (List (Option NamedPlace)) (List NamedPlace) (λ (chain : List Place). map (place_named accepted) chain) (λ (chain : List NamedPlace). map Some chain)
    (maps_one Place (Option NamedPlace) NamedPlace (place_named accepted) Some (place_numbered_one accepted reachable)) c.reasons e.reasons named.reasons x.reasons y.reasons)

-- ---- the law

map_same : (U W T : Type 0) (is : U → Type 0) (f : U → W) (h : T → W) (g : U → T) → ((u : U) → is u → f u ≡ h (g u)) → (us : List U) → All is us → map f us ≡ map h (map g us)
map_same U W T is f h g one [] all = refl
map_same U W T is f h g one (u ∷ us) all = ap₂ (λ (w : W) (ws : List W). w ∷ ws) (one u (all 0 u (omega arith))) (map_same U W T is f h g one us (λ k d l. all (suc k) d (omega arith)))

place_is : (accepted : List Report) (x : Place) → IsKnownPlace accepted x → place_named accepted x ≡ Some (shown_place accepted x)
place_is accepted x is = ap (option_map (λ (name : Name). record { name = name; position = x.position })) (shown_is accepted x.process is.0)

numbered : (accepted : List Report) (c : Certificate) → HasKnownNumbers accepted c → IsNumbered accepted (with_names accepted c) c
numbered accepted c k =
    record {
      failed = map_same ℕ (Option Name) Name (λ p. p < length (known accepted)) (name_of accepted) Some (shown_name accepted) (shown_is accepted) c.failed k.failed;
      front = refl;
      line = map_same Place (Option NamedPlace) NamedPlace (IsKnownPlace accepted) (place_named accepted) Some (shown_place accepted) (place_is accepted) c.line k.line;
      reasons =
          map_same (List Place) (List (Option NamedPlace)) (List NamedPlace) (All (IsKnownPlace accepted)) (λ (chain : List Place). map (place_named accepted) chain) (λ (chain : List NamedPlace). map Some chain)
          (λ (chain : List Place). map (shown_place accepted) chain)
          (λ chain all. map_same Place (Option NamedPlace) NamedPlace (IsKnownPlace accepted) (place_named accepted) Some (shown_place accepted) (place_is accepted) chain all) c.reasons k.reasons;
    }

names_known : (accepted : List Report) → AreNames accepted → (xs : List Place) → All (IsKnownPlace accepted) xs → All (IsNameKnown accepted) (map (λ (x : NamedPlace). x.name) (map (shown_place accepted) xs))
names_known accepted names xs all =
    all_mapped NamedPlace Name (λ (x : NamedPlace). IsNameKnown accepted x.name) (IsNameKnown accepted) (λ (x : NamedPlace). x.name) (λ x is. is) (map (shown_place accepted) xs)
    (all_mapped Place NamedPlace (IsKnownPlace accepted) (λ (x : NamedPlace). IsNameKnown accepted x.name) (shown_place accepted) (λ x is. shown_known accepted names x.process is.0) xs all)

flat_known : (accepted : List Report) → AreNames accepted → (chains : List (List Place)) → All (All (IsKnownPlace accepted)) chains
    → All (IsNameKnown accepted) (flat_map (λ (chain : List NamedPlace). map (λ (x : NamedPlace). x.name) chain) (map (λ (chain : List Place). map (shown_place accepted) chain) chains))
flat_known accepted names [] all k d l = absurd (omega arith)
flat_known accepted names (chain ∷ chains) all k d l =
    all_both accepted (map (λ (x : NamedPlace). x.name) (map (shown_place accepted) chain)) _ (names_known accepted names chain (all 0 chain (omega arith)))
    (flat_known accepted names chains (λ j e m. all (suc j) e (omega arith))) k d l

all_known : (accepted : List Report) → AreNames accepted → (c : Certificate) → HasKnownNumbers accepted c → All (IsNameKnown accepted) (names_in (with_names accepted c))
all_known accepted names c k =
    all_three accepted _ _ _ (all_mapped ℕ Name (λ p. p < length (known accepted)) (IsNameKnown accepted) (shown_name accepted) (shown_known accepted names) c.failed k.failed)
    (names_known accepted names c.line k.line) (flat_known accepted names c.reasons k.reasons)

pub read_again : (accepted : List Report) → AreNames accepted → (c : Certificate) → HasKnownNumbers accepted c → IsReadAs accepted (certificate_text accepted c) (Ok c)
read_again accepted names c k = (with_names accepted c, is_its_text accepted names c k, all_known accepted names c k, numbered accepted c k)

-- and with a line feed behind it
pub broken_read_again : (accepted : List Report) → AreNames accepted → (c : Certificate) → HasKnownNumbers accepted c → IsReadAs accepted (certificate_text accepted c ++ 10 ∷ []) (Ok c)
broken_read_again accepted names c k = (
  with_names accepted c,
  (data_of accepted c, broken_text_of_back _ (certificate_text accepted c) 4 (omega arith) (text_written accepted names c k) (data_back accepted names c k), data_is accepted c k),
  all_known accepted names c k,
  numbered accepted c k,
)

not_unknown : (accepted : List Report) (names : List Name) (text : Name) → All (IsNameKnown accepted) names → ¬ IsFirstUnknownText accepted names text
not_unknown accepted names text all first =
    first.unknown (rw (get_or-append_seam first.before text first.rest text) at (subst (λ (ns : List Name). All (IsNameKnown accepted) ns) first.parts all (length first.before) text (omega (arith, length-append first.before (text ∷ first.rest)))))

pub read_only : (accepted : List Report) → AreNames accepted → IsFolded accepted → (c : Certificate) → HasKnownNumbers accepted c → (result : Result Certificate CertificateFault)
    → IsReadAs accepted (certificate_text accepted c) result → (result ≡ Ok c) ⊎ (result ≡ Err Memory)
read_only accepted names reachable c k (Ok e) is =
    let same = text_one _ _ _ is.1 (is_its_text accepted names c k) in
    inl (ap Ok (numbered_one accepted reachable (with_names accepted c) e c (subst (λ (n : NamedCertificate). IsNumbered accepted n e) same is.3) (numbered accepted c k)))
read_only accepted names reachable c k (Err NotJson) is = absurd (is _ (is_its_text accepted names c k).1)
read_only accepted names reachable c k (Err Shape) is = absurd (is.1 _ (is_its_text accepted names c k))
read_only accepted names reachable c k (Err (Unknown text)) is =
    let same = text_one _ _ _ is.1 (is_its_text accepted names c k) in
    absurd (not_unknown accepted _ _ (all_known accepted names c k) (subst (λ (n : NamedCertificate). IsFirstUnknownText accepted (names_in n) (string_bytes text)) same is.2))
read_only accepted names reachable c k (Err Memory) is = inr refl
