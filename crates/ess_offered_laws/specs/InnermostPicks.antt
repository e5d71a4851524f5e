-- The innermost of the picks of which one picks within the next, and whether what it picks is left to other rules.
use Rattle.std.specs.Prelude.{ℕ, suc, Bool, true, false, ◌&&◌, not, if◌then◌else◌, [], ◌∷◌, Option, Some}
use Rattle.ess_semantics.specs.Values.{a_matrix}
use Rattle.ess_semantics.specs.Names.{Names}
use Rattle.ess_semantics.specs.Kinds.{fits}
use Rattle.ess_semantics.specs.Trees.{index, application, Ex, name_ex, node_ex, comp_ex, seen_ex, more_exs}
use Rattle.ess_semantics.specs.Types.{Ty, compound2}
use Rattle.ess_semantics.specs.Typing.{type_of}
use Rattle.ess_rules_laws.specs.Progress.{is_told}
use Rattle.ess_kind_rules_laws.specs.TermLookups.{picks}
use Rattle.ess_kind_rules_laws.specs.KindRules.{asks_truth}
use Rattle.ess_open_rules_laws.specs.OpenRules.{is_relation_ty}
use Rattle.ess_offered_laws.specs.Containers.{is_container}

-- ---- picks within picks

-- The pick within which nothing is picked.
abbrev pub innermost : Ex → Ex
innermost (node_ex b (index (q ∷ [])) (more_exs t es)) =
    if picks t then innermost t else node_ex b (index (q ∷ [])) (more_exs t es)
innermost e = e

-- How many picks there are, one within the next. Each takes a name.
abbrev pub depth_of_picks : Ex → ℕ
depth_of_picks (node_ex b (index (q ∷ [])) (more_exs t es)) = if picks t then suc (depth_of_picks t) else 1
depth_of_picks e = 1

-- ---- what is known of the innermost pick

-- Whether the type is of matrices.
abbrev pub is_matrix_ty : Option Ty → Bool
is_matrix_ty (Some (compound2 a_matrix i t)) = true
is_matrix_ty t = false

-- Whether the representation of a view fits its domain, which is one of containers.
abbrev pub is_seen_container : Ex → Bool
is_seen_container (seen_ex r d ns js) = fits r d && is_container d
is_seen_container e = true

-- Whether a pick is what its form says: an item of a matrix, whose root isn't Boolean and whose representation fits where it is a
-- view, or the result of a term that has a type other than that of the members of an empty literal.
abbrev pub is_told_pick : Names Ty → Ex → Bool
is_told_pick g (node_ex b (index qs) (more_exs t es)) = is_matrix_ty (type_of t g) && (not (asks_truth t) && is_seen_container t)
is_told_pick g (node_ex b application (more_exs f es)) = is_told (type_of f g)
is_told_pick g e = true

-- ---- what is left

-- Whether a matrix of which an item is picked isn't known by its form: a name, a comprehension, and a part of a term that isn't picked.
-- All others are list literals, literals with an index domain, and views.
abbrev pub is_left_matrix : Ex → Bool
is_left_matrix (name_ex a) = true
is_left_matrix (comp_ex e gs) = true
is_left_matrix (node_ex b (index qs) es) = true
is_left_matrix e = false

-- Whether the pick is left: an item of such a matrix, and a relation that is applied, which is a test of a member. All other results,
-- each `image` and each `party` are looked up.
abbrev pub is_left_pick : Names Ty → Ex → Bool
is_left_pick g (node_ex b (index qs) (more_exs t es)) = is_left_matrix t
is_left_pick g (node_ex b application (more_exs f es)) = is_relation_ty (type_of f g)
is_left_pick g e = false
