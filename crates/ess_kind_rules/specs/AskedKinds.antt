-- The rules of kinds that are asked of a root, in groups, in the order in which they are asked. Folds over a view, and what is picked by
-- the rules of kinds alone, aren't asked: the rules of openings do the same for more roots.
use Rattle.std.specs.Prelude.{List, [], ◌∷◌}
use Rattle.ess_kind_rules_laws.specs.KindRules as kinds
use Rattle.ess_open_rules_laws.specs.OpenRules as openings
use Rattle.ess_open_rules_laws.specs.OpenRules.{KindRuling, of_kind, of_opening}

-- Indices of several steps, relations applied, and views that are parts of other views.
abbrev pub views_asked : List KindRuling
views_asked =
    of_opening openings.step_by_step ∷ of_opening openings.applied_relation ∷ of_kind kinds.cell_of_an_atom
    ∷ of_kind kinds.component_of_a_view ∷ of_kind kinds.truth_in_a_matrix ∷ of_kind kinds.truth_at_an_argument ∷ []

-- Results behind a flag, and tests of members.
abbrev pub tests_asked : List KindRuling
tests_asked =
    of_kind kinds.truth_behind_a_flag ∷ of_kind kinds.asked_of_its_child ∷ of_kind kinds.member_at_a_cell
    ∷ of_kind kinds.member_of_a_multiset ∷ of_kind kinds.argument_with_a_flag ∷ of_kind kinds.member_of_a_part ∷ []

-- Sizes of views.
abbrev pub view_sizes_asked : List KindRuling
view_sizes_asked =
    of_kind kinds.size_at_the_marker ∷ of_kind kinds.size_of_slots ∷ of_kind kinds.size_of_a_multiset
    ∷ of_kind kinds.size_of_a_function ∷ of_kind kinds.size_of_the_parts ∷ []

-- Frequencies in views, parts of partitions, and what is picked.
abbrev pub picks_asked : List KindRuling
picks_asked =
    of_kind kinds.frequency_by_cells ∷ of_kind kinds.lie_together ∷ of_kind kinds.party_by_number ∷ of_opening openings.of_a_pick
    ∷ of_opening openings.without_repeats ∷ of_opening openings.a_pick_alone ∷ []

-- Sources at the first generator that isn't plain: these put one in.
abbrev pub sources_asked : List KindRuling
sources_asked =
    of_opening openings.over_one_source ∷ of_opening openings.over_what_is_picked ∷ of_opening openings.in_order_of_its_source
    ∷ of_opening openings.least_over_several ∷ of_opening openings.set_over_several ∷ []

-- Folds behind plain generators, lists told apart by counts, and sets of what isn't laid open.
abbrev pub folds_behind_asked : List KindRuling
folds_behind_asked =
    of_opening openings.different_by_counts ∷ of_opening openings.fold_of_folds ∷ of_opening openings.without_its_indices
    ∷ of_opening openings.set_of_a_term ∷ []
