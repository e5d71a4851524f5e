-- Generators over domains, one by one.
use Rattle.std.specs.Prelude.{Bool, true, false, ◌&&◌, List, [], ◌∷◌}
use Rattle.ess_core.specs.TreeViews.{Item, over_item, from_item, cond_item}

-- Whether it is no generator over a source.
abbrev pub is_over_domain : Item → Bool
is_over_domain (over_item p d) = true
is_over_domain (from_item p e) = false
is_over_domain (cond_item c) = true

-- The same of each.
abbrev pub are_over_domains_each : List Item → Bool
are_over_domains_each [] = true
are_over_domains_each (i ∷ is) = is_over_domain i && are_over_domains_each is
