-- As many names as domains.
use Rattle.std.proofs.Common.{◌≡◌, refl, ap, List, [], ◌∷◌, length, take}
use Rattle.ess_semantics.specs.Values.{Text}
use Rattle.ess_core_nodes.specs.declared.nodes.NodeDom.{NodeDom}
use Rattle.ess_core_nodes.specs.NodeViews.{pure_doms}
use Rattle.ess_kind_rules_laws.specs.ViewListings.{one_each}

-- The first ones, as many as there are domains.
pub first_names : (xs : List Text) (ds : List NodeDom) → take (length ds) xs ≡ one_each xs (pure_doms ds)
first_names [] [] = refl
first_names [] (d ∷ ds) = refl
first_names (x ∷ xs) [] = refl
first_names (x ∷ xs) (d ∷ ds) = ap (λ l. x ∷ l) (first_names xs ds)
