-- Processes that are shown, one by one.
use Rattle.std.proofs.Common.{◌≡◌, ℕ, ◌+◌, ◌<◌, Bool, List, [], ◌∷◌, ◌++◌, length, get_or, map, take, Option, Some, sym, ap, subst, ◌∙◌}
use Rattle.std.proofs.lemmas.List.{map_more}
use Rattle.std.proofs.lemmas.Option.{slice_get-get_or, same_Some}
use Rattle.id_tree.specs.IdTree.{IdTree}
use Rattle.report_line.specs.declared.report.Report.{Report}
use Rattle.chains.specs.Processes.{Name, known, is_absorbed}
use Rattle.chains.specs.Elements.{name_of}
use Rattle.chains.specs.States.{IsStateOf}
use Rattle.chains.specs.declared.state.State.{State}
use Rattle.record_show.specs.declared.shown.ShownProcess.{ShownProcess}
use Rattle.record_show.specs.Processes.{line_of, maker, lost_in, shown_process}
use Rattle.record_show.specs.working.Processes.{shown_with, IsShownBy}

pub shown_more : (accepted : List Report) (i : ℕ) (shown : ShownProcess) (old new : List ShownProcess) → i < length (known accepted) → old ≡ map (shown_process accepted) (take i (known accepted))
    → ((p : Name) → name_of accepted i ≡ Some p → shown ≡ shown_process accepted p) → new ≡ old ++ shown ∷ [] → new ≡ map (shown_process accepted) (take (i + 1) (known accepted))
shown_more accepted i shown old new lt e is f =
    let one : shown ≡ shown_process accepted (get_or (known accepted) i []) = is (get_or (known accepted) i []) (slice_get-get_or (known accepted) i [] lt) in
    f ∙ ap (λ (l : List ShownProcess). l ++ shown ∷ []) e ∙ ap (λ (s : ShownProcess). map (shown_process accepted) (take i (known accepted)) ++ s ∷ []) one
    ∙ sym (map_more (shown_process accepted) (known accepted) i [] lt)

-- ---- one process

same_with : (n m : Name) (i j : Option IdTree) (a b : Bool) (r s e f : ℕ) (k l : List ℕ) (t u : Option Name) → n ≡ m → i ≡ j → a ≡ b → r ≡ s → e ≡ f → k ≡ l → t ≡ u → shown_with n i a r e k t ≡ shown_with m j b s f l u
same_with n m i j a b r s e f k l t u h1 h2 h3 h4 h5 h6 h7 =
    ap (λ (x : Name). shown_with x i a r e k t) h1 ∙ ap (λ (x : Option IdTree). shown_with m x a r e k t) h2 ∙ ap (λ (x : Bool). shown_with m j x r e k t) h3
    ∙ ap (λ (x : ℕ). shown_with m j b x e k t) h4 ∙ ap (λ (x : ℕ). shown_with m j b s x k t) h5 ∙ ap (λ (x : List ℕ). shown_with m j b s f x t) h6
    ∙ ap (λ (x : Option Name). shown_with m j b s f l x) h7

pub shown_one : (accepted : List Report) (i : ℕ) (name p : Name) (state : State) (absorbed : Bool) (last : List ℕ) (lost : Option Name) (shown : ShownProcess) → name_of accepted i ≡ Some name → name_of accepted i ≡ Some p
    → IsStateOf accepted name state → absorbed ≡ is_absorbed p accepted → last ≡ line_of (maker accepted p state.elements) → lost ≡ lost_in accepted p → IsShownBy name state absorbed last lost shown → shown ≡ shown_process accepted p
shown_one accepted i name p state absorbed last lost shown at named of flag_is last_is lost_is by =
    let same : name ≡ p = same_Some name p (sym at ∙ named) in
    let its = subst (λ (q : Name). IsStateOf accepted q state) same of in
    by.is ∙ same_with _ _ _ _ _ _ _ _ _ _ _ _ _ _ same its.id flag_is its.reports its.elements (last_is ∙ ap (λ (k : ℕ). line_of (maker accepted p k)) its.elements) lost_is
