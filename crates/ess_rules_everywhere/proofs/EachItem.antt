-- What is made of operands and generators one by one is what is made of all of them.
use Rattle.std.proofs.Common.{◌≡◌, refl, ap, List, [], ◌∷◌, map}
use Rattle.ess_semantics.specs.Trees.{Ex, more_exs, over, from, cond}
use Rattle.ess_core.specs.TreeViews.{Item, over_item, from_item, cond_item, exs_of, gens_of}
use Rattle.ess_rules_everywhere.specs.ThereParts.{there, list_there, all_there, lists_there, gens_there, dom_there, item_there}

-- Numbers.
pub each_there : (es : List Ex) → all_there (exs_of es) ≡ exs_of (map there es)
each_there [] = refl
each_there (e ∷ es) = ap (λ l. more_exs (there e) l) (each_there es)

-- Lists.
pub each_list_there : (es : List Ex) → lists_there (exs_of es) ≡ exs_of (map list_there es)
each_list_there [] = refl
each_list_there (e ∷ es) = ap (λ l. more_exs (list_there e) l) (each_list_there es)

-- Generators.
pub each_gen_there : (is : List Item) → gens_there (gens_of is) ≡ gens_of (map item_there is)
each_gen_there [] = refl
each_gen_there (over_item p d ∷ is) = ap (λ l. over p (dom_there d) l) (each_gen_there is)
each_gen_there (from_item p e ∷ is) = ap (λ l. from p e l) (each_gen_there is)
each_gen_there (cond_item c ∷ is) = ap (λ l. cond c l) (each_gen_there is)
