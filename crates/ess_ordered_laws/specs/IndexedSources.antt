-- Sources by their indices, where the order of items counts: a generator over a term t, whose index domain d is told, becomes one over
-- `[t[x] | x : d]`. So it is of literals, of items of matrices that cells pick, and of lists that are picked out of a term which tells their
-- index domain: a condition on cells can't stay in such a list.
use Rattle.std.specs.Prelude.{Bool, true, false, ◌||◌, [], ◌∷◌, Option, None, option_map, is_some, if◌then◌else◌}
use Rattle.ess_semantics.specs.Lists.{and_then}
use Rattle.ess_semantics.specs.Values.{Text}
use Rattle.ess_semantics.specs.Names.{Names}
use Rattle.ess_semantics.specs.Occurrences.{has_cells}
use Rattle.ess_semantics.specs.Trees.{by_value, index, matrix_literal, name_pat, Ex, name_ex, node_ex, matrix_ex, comp_ex, no_exs, more_exs, no_gens, over, from, Dom}
use Rattle.ess_semantics.specs.Types.{Ty}
use Rattle.ess_semantics.specs.Typing.{type_of}
use Rattle.ess_semantics.specs.NamesAt.{names_behind}
use Rattle.ess_rules_laws.specs.MatrixRules.{item_of}
use Rattle.ess_refine_laws.specs.IndexedLists.{of_matrix}
use Rattle.ess_open_rules_laws.specs.OpenGenerators.{behind_plain}
use Rattle.ess_ordered_laws.specs.ToldAxes.{picked_axis, told_axis}

-- Whether an item of a matrix is picked by what reads cells.
abbrev pub has_open_index : Ex → Bool
has_open_index (node_ex b (index (by_value ∷ [])) (more_exs m (more_exs i no_exs))) = has_cells i || has_open_index m
has_open_index e = false

-- Whether the term is such a source.
abbrev pub is_by_index : Ex → Bool
is_by_index (node_ex false matrix_literal es) = true
is_by_index (matrix_ex es d) = true
is_by_index t = has_open_index t || is_some (picked_axis t)

-- `[t[x] | x : d]`; u is the type of the items.
abbrev pub items_at : Text → Dom → Ex → Ty → Ex
items_at x d t u = comp_ex (item_of u t (name_ex x)) (over (name_pat x) d no_gens)

-- The term by its indices, each of which is called x.
abbrev pub indexed_term : Names Ty → Text → Ex → Option Ex
indexed_term g x t =
    if is_by_index t then and_then (told_axis t) (λ d. of_matrix (type_of t g) (items_at x d t)) else None

-- A comprehension whose first generator runs over such a term.
abbrev pub indexed_source : Names Ty → Text → Ex → Option Ex
indexed_source g x (comp_ex e (from (name_pat y) t hs)) = option_map (λ l. comp_ex e (from (name_pat y) l hs)) (indexed_term g x t)
indexed_source g x e = None

-- The same at the first generator that isn't plain.
abbrev pub indexed_behind : Names Ty → Text → Ex → Option Ex
indexed_behind g x e = behind_plain (λ gs. indexed_source (names_behind gs g) x) e
