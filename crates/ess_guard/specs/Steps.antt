-- Generators under their conditions, one by one: each beside what is asked before it.
use Rattle.std.specs.Prelude.{Bool, false, List, [], ◌∷◌, ◌++◌, map}
use Rattle.ess_semantics.specs.Values.{Text}
use Rattle.ess_semantics.specs.Names.{Names}
use Rattle.ess_semantics.specs.Trees.{Ex, no_gens, over, from}
use Rattle.ess_core.specs.TreeViews.{Item, over_item, from_item, cond_item}
use Rattle.ess_guard_laws.specs.Origins.{Origin, with_any, with_over}
use Rattle.ess_guard_laws.specs.Conditions.{every, given_that}
use Rattle.ess_guard_laws.specs.Guard.{guarded, guarded_dom, conditions, conditions_dom}

-- A generator or condition, with what is asked before it.
abbrev pub Step : Type 0
Step = Item × List Ex

-- The names behind a generator or condition.
abbrev pub known_by : Item → Names Origin → Names Origin
known_by (over_item p d) k = with_over p d k
known_by (from_item p e) k = with_any p k
known_by (cond_item c) k = k

-- The names behind several.
abbrev pub known_after : List Item → Names Origin → Names Origin
known_after [] k = k
known_after (g ∷ gs) k = known_after gs (known_by g k)

-- A generator or condition, made total, with what is asked before it.
abbrev pub step_of : Bool → Text → Text → Names Origin → Item → Step
step_of n x y k (over_item p d) = (over_item p (guarded_dom n x y k d), conditions_dom n x y k d)
step_of n x y k (from_item p e) = (from_item p (guarded n x y k e), conditions n x y k false e)
step_of n x y k (cond_item c) = (cond_item (guarded n x y k c), [])

-- The same of several.
abbrev pub steps_of : Bool → Text → Text → Names Origin → List Item → List Step
steps_of n x y k [] = []
steps_of n x y k (g ∷ gs) = step_of n x y k g ∷ steps_of n x y (known_by g k) gs

-- The generators and conditions of steps.
abbrev pub items_of : List Step → List Item
items_of ss = map (λ s. s.0) ss

-- Conditions that hold behind a step, as they are asked before it.
abbrev pub around : Step → List Ex → List Ex
around (over_item p d, asked) cs = asked ++ every (over p d no_gens) cs
around (from_item p e, asked) cs = asked ++ every (from p e no_gens) cs
around (cond_item c, asked) cs = given_that c cs

-- The same of several steps.
abbrev pub around_all : List Step → List Ex → List Ex
around_all [] cs = cs
around_all (s ∷ ss) cs = around s (around_all ss cs)
