-- The domain that steps reach, one step after another.
use Rattle.std.proofs.Common.{◌≡◌, refl, sym, ap, ◌∙◌, ℕ, ◌+◌, ◌<◌, ◌≤◌, List, ◌∷◌, length, map, drop, get_or, Option}
use Rattle.std.proofs.lemmas.List.{drop_more, drop_all}
use Rattle.ess_semantics.specs.Trees.{Dom}
use Rattle.ess_numbered_laws.specs.MostItems.{Pick, an_item, a_result, a_component, a_field, dom_along}
use Rattle.ess_rules_numbered.specs.declared.picks.Pick as code
use Rattle.ess_rules_numbered.specs.PickViews.{pure_pick, dom_picked}

along-step : (p : Pick) (ps : List Pick) (o : Option Dom) → dom_along ps (dom_picked p o) ≡ dom_along (p ∷ ps) o
along-step an_item ps o = refl
along-step a_result ps o = refl
along-step (a_component k) ps o = refl
along-step (a_field a) ps o = refl

-- One more step, before those that are left.
pub along_more : (l : List code.Pick) (k : ℕ) (x : code.Pick) (o r : Option Dom) → k < length l → x ≡ get_or l k x
    → dom_along (map pure_pick (drop k l)) o ≡ r → dom_along (map pure_pick (drop (k + 1) l)) (dom_picked (pure_pick x) o) ≡ r
along_more l k x o r lt is before =
    along-step (pure_pick x) (map pure_pick (drop (k + 1) l)) o
    ∙ ap (λ z. dom_along (map pure_pick z) o) (sym (drop_more l k x lt ∙ ap (λ z. z ∷ drop (k + 1) l) (sym is)))
    ∙ before

-- Where none is left, that domain is reached.
pub along_all : (l : List code.Pick) (k : ℕ) (o r : Option Dom) → length l ≤ k → dom_along (map pure_pick (drop k l)) o ≡ r → o ≡ r
along_all l k o r end before = ap (λ z. dom_along (map pure_pick z) o) (sym (drop_all k l end)) ∙ before
