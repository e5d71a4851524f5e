-- Tuples and records, component by component: the tables of all components side by side, and the values that stand in them.
use Rattle.std.specs.Prelude.{ℕ, Bool, true, false, ◌&&◌, List, [], ◌∷◌, ◌++◌, length, take, drop, Option, Some, None, option_map}
use Rattle.ess_semantics.specs.Lists.{and_then}
use Rattle.ess_semantics.specs.Values.{a_record, Value, node, of_list, tuple}
use Rattle.ess_semantics.specs.Trees.{Reprs, no_reprs, more_reprs}
use Rattle.ess_semantics.specs.Domains.{Domain, tuples, records, domain_list}
use Rattle.ess_semantics.specs.Membership.{member}
use Rattle.ess_semantics.specs.Tables.{Tables}
use Rattle.ess_semantics.specs.Representations.{width, value_of_tables}
use Rattle.ess_semantics.specs.Canonical.{tables_of_value}

-- The canonical tables of each component, one behind the other.
abbrev pub tables_of_components : Reprs → List Domain → List Value → Option Tables
tables_of_components no_reprs ds vs = Some []
tables_of_components (more_reprs r rs) [] vs = None
tables_of_components (more_reprs r rs) (d ∷ ds) [] = None
tables_of_components (more_reprs r rs) (d ∷ ds) (v ∷ vs) =
    and_then (tables_of_value r d v) (λ ts. option_map (λ us. ts ++ us) (tables_of_components rs ds vs))

-- The value of each component, by its part of the tables.
abbrev pub values_of_components : Reprs → List Domain → Tables → Option (List Value)
values_of_components no_reprs ds ts = Some []
values_of_components (more_reprs r rs) [] ts = None
values_of_components (more_reprs r rs) (d ∷ ds) ts =
    and_then (value_of_tables r d (take (width r) ts) []) (λ v. option_map (λ vs. v ∷ vs) (values_of_components rs ds (drop (width r) ts)))

-- A tuple or record of these components.
abbrev pub compound_of : Domain → List Value → Option Value
compound_of (tuples ds) vs = Some (tuple (of_list vs))
compound_of (records fs ds) vs = Some (node (a_record fs) (of_list vs))
compound_of _ vs = None

-- How many components a domain has.
abbrev pub component_count : Domain → ℕ
component_count (tuples ds) = length (domain_list ds)
component_count (records fs ds) = length (domain_list ds)
component_count _ = 0

-- Whether each value is a member of the domain beside it, and there are as many.
abbrev pub members_each : List Domain → List Value → Bool
members_each [] [] = true
members_each (d ∷ ds) (v ∷ vs) = member d v && members_each ds vs
members_each _ _ = false
