-- Lists in place of matrices that aren't numbered from 1: a matrix by its form, and the items of a literal.
use Rattle.std.specs.Prelude.{ℕ, zero, suc, true, false, Option, Some, option_map}
use Rattle.ess_semantics.specs.declared.words.Op2.{Op2}
use Rattle.ess_semantics.specs.Lists.{or_else}
use Rattle.ess_semantics.specs.Values.{Text}
use Rattle.ess_semantics.specs.Names.{Names}
use Rattle.ess_semantics.specs.Trees.{matrix_literal, Ex, node_ex, matrix_ex, seen_ex, ex2}
use Rattle.ess_semantics.specs.Types.{Ty, type_of_dom}
use Rattle.ess_guard_laws.specs.IndexDomains.{first_index, plain_axis}
use Rattle.ess_refine_laws.specs.AllRules.{Supply}
use Rattle.ess_numbered_laws.specs.ListedPicks.{shifted_axis, literal_as_list, view_as_list, each_with_lists, listed_behind}

-- A matrix itself, where it is a literal over a domain or a view.
abbrev pub as_list : Text → Ex → Ex
as_list z (matrix_ex es d) = literal_as_list es d
as_list z (seen_ex r d ns es) = view_as_list z (seen_ex r d ns es) (type_of_dom d) (shifted_axis (plain_axis (first_index (Some d))))
as_list z e = e

-- The items of a literal, with as many indices more.
abbrev pub within_items : Text → ℕ → Ex → Ex
within_items z k (node_ex false matrix_literal es) = node_ex false matrix_literal (each_with_lists z k es)
within_items z k (matrix_ex es d) = matrix_ex (each_with_lists z k es) d
within_items z k e = e

-- A term that isn't an item of a list.
abbrev pub lists_here : Text → ℕ → Ex → Ex
lists_here z zero e = as_list z e
lists_here z (suc k) e = within_items z k e

-- A sign between two sides, the first of which has lists put in place, else the second.
abbrev pub listed_sides : Supply → Names Ty → Op2 → Ex → Ex → Option Ex
listed_sides s g o a b =
    or_else (option_map (λ c. ex2 true o c b) (listed_behind s g a)) (option_map (λ c. ex2 true o a c) (listed_behind s g b))
