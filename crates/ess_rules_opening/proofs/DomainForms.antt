-- Generators over domains: one by one, and by the parts of a comprehension.
use Rattle.std.proofs.Common.{◌≡◌, refl, List, [], ◌∷◌}
use Rattle.ess_semantics.specs.Lists.{is_none_or}
use Rattle.ess_semantics.specs.Trees.{Ex, comp_ex}
use Rattle.ess_core.specs.TreeViews.{Item, over_item, from_item, cond_item, gens_of}
use Rattle.ess_rules_folds.specs.Forms.{comp_parts}
use Rattle.ess_open_rules_laws.specs.OpenGenerators.{are_over_domains, has_no_source}
use Rattle.ess_rules_opening.specs.OverDomains.{are_over_domains_each}

-- Over domains, one by one.
pub domains_alone : (is : List Item) → are_over_domains (gens_of is) ≡ are_over_domains_each is
domains_alone [] = refl
domains_alone (over_item p d ∷ is) = domains_alone is
domains_alone (from_item p e ∷ is) = refl
domains_alone (cond_item c ∷ is) = domains_alone is

-- By the parts of a comprehension.
pub sources_by_parts : (e : Ex) → has_no_source e ≡ is_none_or (comp_parts e) (λ c. are_over_domains c.1)
sources_by_parts (comp_ex e gs) = refl
sources_by_parts e = refl
