-- Counted sources where one of what may be picked is a matrix that isn't numbered from 1, as `[1, 2; int(0..1)]` or `[3]` picked out of
-- `[[1, 2; int(0..1)], [3]]` by a table. A generator takes the items of its source in order, whatever their indices: so a list of the same
-- items takes the place of each such matrix.
use Rattle.std.specs.Prelude.{ℕ, zero, suc, true, false, ◌&&◌, not, [], ◌∷◌, Option, Some, None, option_map, is_some, if◌then◌else◌}
use Rattle.ess_semantics.specs.Lists.{or_else, or_default}
use Rattle.ess_semantics.specs.Values.{Text}
use Rattle.ess_semantics.specs.Names.{Names}
use Rattle.ess_semantics.specs.Trees.{by_value, index, matrix_literal, name_pat, Ex, Exs, node_ex, matrix_ex, comp_ex, seen_ex, no_exs, more_exs, from, Dom, int_dom, ex2}
use Rattle.ess_semantics.specs.Types.{Ty, type_of_dom}
use Rattle.ess_semantics.specs.NamesAt.{names_behind}
use Rattle.ess_guard_laws.specs.IndexDomains.{first_index, plain_axis}
use Rattle.ess_rules_laws.specs.SourceRules.{list_of}
use Rattle.ess_refine_laws.specs.AllRules.{Supply}
use Rattle.ess_refine_laws.specs.IndexedLists.{of_matrix}
use Rattle.ess_open_rules_laws.specs.OpenGenerators.{behind_plain}
use Rattle.ess_ordered_laws.specs.NumberedItems.{is_from_one}
use Rattle.ess_ordered_laws.specs.IndexedSources.{items_at}
use Rattle.ess_numbered_laws.specs.MostItems.{most_items}
use Rattle.ess_numbered_laws.specs.CountedSources.{is_counted, sees_order}

-- ---- a matrix as a list

-- The index domain, where it is one of numbers other than `int(1..n)`.
abbrev pub shifted_axis : Option Dom → Option Dom
shifted_axis (Some (int_dom rs es)) = if is_from_one (int_dom rs es) then None else Some (int_dom rs es)
shifted_axis o = None

-- The items of a literal over d: a list, where d is so. One without items stays: `[]` is of another type.
abbrev pub literal_as_list : Exs → Dom → Ex
literal_as_list no_exs d = matrix_ex no_exs d
literal_as_list es d = if is_some (shifted_axis (Some d)) then list_of es else matrix_ex es d

-- A view with values of the type t, where its index domain is so: `[v[z] | z : i]`.
abbrev pub view_as_list : Text → Ex → Ty → Option Dom → Ex
view_as_list z v t None = v
view_as_list z v t (Some i) = or_default (of_matrix (Some t) (items_at z i v)) v

-- ---- what is picked

abbrev mutual
  -- The term with a list in place of each such matrix that as many indices reach: through literals, and the indices of terms that are
  -- picked in turn.
  pub with_lists : Text → ℕ → Ex → Ex
  with_lists z k (node_ex false (index (by_value ∷ [])) (more_exs t (more_exs i no_exs))) =
      node_ex false (index (by_value ∷ [])) (more_exs (with_lists z (suc k) t) (more_exs i no_exs))
  with_lists z (suc k) (node_ex false matrix_literal es) = node_ex false matrix_literal (each_with_lists z k es)
  with_lists z (suc k) (matrix_ex es d) = matrix_ex (each_with_lists z k es) d
  with_lists z zero (matrix_ex es d) = literal_as_list es d
  with_lists z zero (seen_ex r d ns es) =
      view_as_list z (seen_ex r d ns es) (type_of_dom d) (shifted_axis (plain_axis (first_index (Some d))))
  with_lists z k e = e

  -- The same of several.
  pub each_with_lists : Text → ℕ → Exs → Exs
  each_with_lists z k no_exs = no_exs
  each_with_lists z k (more_exs e es) = more_exs (with_lists z k e) (each_with_lists z k es)

-- ---- a source

-- A counted term so, where only that tells how many items it has at most.
abbrev pub listed_term : Supply → Names Ty → Ex → Option Ex
listed_term s g t =
    if is_counted s g t && (not (is_some (most_items s.third t)) && is_some (most_items s.third (with_lists s.one zero t)))
    then Some (with_lists s.one zero t) else None

-- A comprehension whose first generator runs over such a term.
abbrev pub listed_source : Supply → Names Ty → Ex → Option Ex
listed_source s g (comp_ex e (from (name_pat y) t hs)) = option_map (λ l. comp_ex e (from (name_pat y) l hs)) (listed_term s g t)
listed_source s g e = None

-- The same at the first generator that isn't plain.
abbrev pub listed_behind : Supply → Names Ty → Ex → Option Ex
listed_behind s g e = behind_plain (λ gs. listed_source s (names_behind gs g)) e

-- ---- where order counts

-- An item of such a comprehension by its number; `a = b`, and signs between lists, where a is such a comprehension, or b.
abbrev pub lists_picked : Supply → Names Ty → Ex → Option Ex
lists_picked s g (node_ex b (index (by_value ∷ [])) (more_exs a (more_exs i no_exs))) =
    option_map (λ c. node_ex b (index (by_value ∷ [])) (more_exs c (more_exs i no_exs))) (listed_behind s g a)
lists_picked s g (ex2 true o a b) =
    if sees_order o
    then or_else (option_map (λ c. ex2 true o c b) (listed_behind s g a)) (option_map (λ c. ex2 true o a c) (listed_behind s g b))
    else None
lists_picked s g e = None
