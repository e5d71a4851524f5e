-- An index of several steps, by the first one and the others.
use Rattle.std.proofs.Common.{◌≡◌, refl, Bool, List, [], ◌∷◌, None}
use Rattle.ess_semantics.specs.Trees.{Step, by_value, to_component, to_field, index, Exs, node_ex, no_exs, more_exs}
use Rattle.ess_rules_laws.specs.IndexSteps.{step_apart}
use Rattle.ess_rules_picked.specs.Paths.{first_apart}

-- Of two steps or more.
pub apart_at_two : (b : Bool) (q r : Step) (qs : List Step) (es : Exs)
    → first_apart b q (r ∷ qs) es ≡ step_apart (node_ex b (index (q ∷ r ∷ qs)) es)
apart_at_two b by_value r qs (more_exs m (more_exs i es)) = refl
apart_at_two b by_value r qs (more_exs m no_exs) = refl
apart_at_two b by_value r qs no_exs = refl
apart_at_two b (to_component k) r qs (more_exs t es) = refl
apart_at_two b (to_component k) r qs no_exs = refl
apart_at_two b (to_field a) r qs (more_exs t es) = refl
apart_at_two b (to_field a) r qs no_exs = refl

-- Of one step nothing comes apart.
pub apart_at_one : (b : Bool) (q : Step) (es : Exs) → step_apart (node_ex b (index (q ∷ [])) es) ≡ None
apart_at_one b by_value es = refl
apart_at_one b (to_component k) es = refl
apart_at_one b (to_field a) es = refl
