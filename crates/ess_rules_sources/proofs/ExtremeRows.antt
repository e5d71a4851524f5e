-- The numbers of alternatives one by one.
use Rattle.std.proofs.Common.{◌≡◌, refl, ap, List, [], ◌∷◌, map}
use Rattle.ess_semantics.specs.declared.words.Fun.{Fun}
use Rattle.ess_semantics.specs.Trees.{Ex, more_exs}
use Rattle.ess_core.specs.TreeViews.{exs_of}
use Rattle.ess_rules_laws.specs.Listings.{Alternative}
use Rattle.ess_refine_laws.specs.ExtremeAlternatives.{extreme_or, each_extreme, each_size}
use Rattle.ess_rules_sources.specs.PureAlternatives.{item_size}

-- The number of each alternative.
pub extremes_one_by_one : (f : Fun) (m : Ex) (l : List Alternative) → each_extreme f m l ≡ exs_of (map (extreme_or f m) l)
extremes_one_by_one f m [] = refl
extremes_one_by_one f m (a ∷ l) = ap (λ es. more_exs (extreme_or f m a) es) (extremes_one_by_one f m l)

-- The sizes of the items of each.
pub sizes_one_by_one : (l : List Alternative) → each_size l ≡ exs_of (map item_size l)
sizes_one_by_one [] = refl
sizes_one_by_one (a ∷ l) = ap (λ es. more_exs (item_size a) es) (sizes_one_by_one l)
