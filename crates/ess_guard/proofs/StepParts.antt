-- Generators under their conditions, one by one, are all of them.
use Rattle.std.proofs.Common.{◌≡◌, refl, sym, ap, ◌∙◌, Bool, false, List, [], ◌∷◌, ◌++◌}
use Rattle.ess_semantics.specs.Values.{Text}
use Rattle.ess_semantics.specs.Names.{Names}
use Rattle.ess_semantics.specs.Trees.{Ex, comp_ex, over, from, cond}
use Rattle.ess_core.specs.TreeViews.{Item, over_item, from_item, cond_item, gens_of}
use Rattle.ess_guard_laws.specs.Origins.{Origin, known_behind, with_over, with_any}
use Rattle.ess_guard_laws.specs.Guard.{guarded, guarded_gens, guarded_dom, conditions, conditions_gens}
use Rattle.ess_guard.specs.Steps.{Step, known_after, step_of, steps_of, items_of, around, around_all}

-- The names behind generators.
pub behind_after : (gs : List Item) (k : Names Origin) → known_behind (gens_of gs) k ≡ known_after gs k
behind_after [] k = refl
behind_after (over_item p d ∷ gs) k = behind_after gs (with_over p d k)
behind_after (from_item p e ∷ gs) k = behind_after gs (with_any p k)
behind_after (cond_item c ∷ gs) k = behind_after gs k

-- The generators made total.
pub gens_guarded : (n : Bool) (x y : Text) (k : Names Origin) (gs : List Item)
    → guarded_gens n x y k (gens_of gs) ≡ gens_of (items_of (steps_of n x y k gs))
gens_guarded n x y k [] = refl
gens_guarded n x y k (over_item p d ∷ gs) =
    ap (over p (guarded_dom n x y k d)) (gens_guarded n x y (with_over p d k) gs)
gens_guarded n x y k (from_item p e ∷ gs) =
    ap (from p (guarded n x y k e)) (gens_guarded n x y (with_any p k) gs)
gens_guarded n x y k (cond_item c ∷ gs) = ap (cond (guarded n x y k c)) (gens_guarded n x y k gs)

-- Their conditions, and those of what stands behind them.
pub gens_asked : (n : Bool) (x y : Text) (k : Names Origin) (gs : List Item) (cs : List Ex)
    → conditions_gens n x y k (gens_of gs) cs ≡ around_all (steps_of n x y k gs) cs
gens_asked n x y k [] cs = refl
gens_asked n x y k (over_item p d ∷ gs) cs = ap (around (step_of n x y k (over_item p d))) (gens_asked n x y (with_over p d k) gs cs)
gens_asked n x y k (from_item p e ∷ gs) cs = ap (around (step_of n x y k (from_item p e))) (gens_asked n x y (with_any p k) gs cs)
gens_asked n x y k (cond_item c ∷ gs) cs = ap (around (step_of n x y k (cond_item c))) (gens_asked n x y k gs cs)

-- A comprehension made total.
pub comp_gens : (n : Bool) (x y : Text) (k h : Names Origin) (e f : Ex) (gs hs : List Item)
    → f ≡ guarded n x y h e
    → h ≡ known_after gs k
    → hs ≡ items_of (steps_of n x y k gs)
    → comp_ex f (gens_of hs) ≡ guarded n x y k (comp_ex e (gens_of gs))
comp_gens n x y k h e f gs hs c b a =
    ap (λ t. comp_ex t (gens_of hs)) (c ∙ ap (λ t. guarded n x y t e) (b ∙ sym (behind_after gs k)))
    ∙ ap (λ t. comp_ex (guarded n x y (known_behind (gens_of gs) k) e) t) (ap gens_of a ∙ sym (gens_guarded n x y k gs))

-- The conditions of a comprehension.
pub comp_conditions : (n : Bool) (x y : Text) (k h : Names Origin) (e : Ex) (gs : List Item) (ss : List Step) (cs ds : List Ex)
    → ds ≡ around_all ss cs
    → ss ≡ steps_of n x y k gs
    → cs ≡ conditions n x y h false e
    → h ≡ known_after gs k
    → ds ≡ conditions_gens n x y k (gens_of gs) (conditions n x y (known_behind (gens_of gs) k) false e)
comp_conditions n x y k h e gs ss cs ds d a c b =
    d ∙ ap (λ t. around_all t cs) a
    ∙ ap (around_all (steps_of n x y k gs)) (c ∙ ap (λ t. conditions n x y t false e) (b ∙ sym (behind_after gs k)))
    ∙ sym (gens_asked n x y k gs (conditions n x y (known_behind (gens_of gs) k) false e))

-- What is asked before steps, where one comes last.
pub around_last : (ss : List Step) (s : Step) (cs : List Ex) → around_all (ss ++ s ∷ []) cs ≡ around_all ss (around s cs)
around_last [] s cs = refl
around_last (t ∷ ss) s cs = ap (around t) (around_last ss s cs)
