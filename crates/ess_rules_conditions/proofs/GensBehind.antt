-- Generators one row behind another.
use Rattle.std.proofs.Common.{◌≡◌, refl, ap, ◌∙◌, false, List, [], ◌∷◌, ◌++◌, map}
use Rattle.ess_semantics.specs.Trees.{over, from, cond}
use Rattle.ess_core.specs.TreeViews.{Item, over_item, from_item, cond_item, gens_of}
use Rattle.ess_core_nodes.specs.declared.nodes.Gen.{Gen}
use Rattle.ess_core_nodes.specs.NodeViews.{pure_gen, pure_gens}
use Rattle.ess_rules_laws.specs.SpliceRules.{append_gens}
use Rattle.ess_refine_laws.specs.ExtremeRules.{are_none}

items-behind : (is js : List Item) → gens_of (is ++ js) ≡ append_gens (gens_of is) (gens_of js)
items-behind [] js = refl
items-behind (over_item p d ∷ is) js = ap (over p d) (items-behind is js)
items-behind (from_item p e ∷ is) js = ap (from p e) (items-behind is js)
items-behind (cond_item c ∷ is) js = ap (cond c) (items-behind is js)

map-both : (gs hs : List Gen) → map pure_gen (gs ++ hs) ≡ map pure_gen gs ++ map pure_gen hs
map-both [] hs = refl
map-both (g ∷ gs) hs = ap (λ l. pure_gen g ∷ l) (map-both gs hs)

-- What the row of both stands for.
pub gens_behind : (gs hs : List Gen) → pure_gens (gs ++ hs) ≡ append_gens (pure_gens gs) (pure_gens hs)
gens_behind gs hs = ap gens_of (map-both gs hs) ∙ items-behind (map pure_gen gs) (map pure_gen hs)

items-are : (i : Item) (is : List Item) → false ≡ are_none (gens_of (i ∷ is))
items-are (over_item p d) is = refl
items-are (from_item p e) is = refl
items-are (cond_item c) is = refl

-- A row with an item is not empty.
pub some_gens : (g : Gen) (gs : List Gen) → false ≡ are_none (pure_gens (g ∷ gs))
some_gens g gs = items-are (pure_gen g) (map pure_gen gs)
