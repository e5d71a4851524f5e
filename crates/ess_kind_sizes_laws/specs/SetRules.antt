-- The rules that read views of sets.
use Rattle.std.specs.Prelude.{Bool, true, false}
use Rattle.ess_kind_rules_laws.specs.KindRules.{KindRule, cell_of_an_atom, over_a_view, of_one_view, member_at_a_cell, size_at_the_marker, size_of_slots}

-- The rules that rewrite views of sets, and of the atoms in them.
abbrev pub is_of_sets : KindRule → Bool
is_of_sets cell_of_an_atom = true
is_of_sets over_a_view = true
is_of_sets of_one_view = true
is_of_sets member_at_a_cell = true
is_of_sets size_at_the_marker = true
is_of_sets size_of_slots = true
is_of_sets r = false
