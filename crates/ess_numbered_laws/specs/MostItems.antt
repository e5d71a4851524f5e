-- How many items a list has at most, whatever picks it: by the forms of all lists that may be picked, and by the domain that a view follows.
-- What picks a list is left out, and so is each condition that reads a table, where what stands behind it has a value without it. Each of
-- the lists is numbered from 1.
use Rattle.std.specs.Prelude.{ℕ, zero, suc, false, List, [], ◌∷◌, pos, Option, Some, None, option_map, if◌then◌else◌}
use Rattle.ess_semantics.specs.declared.words.Op2.{Op2}
use Rattle.ess_semantics.specs.declared.words.Fun.{Fun}
use Rattle.ess_semantics.specs.Lists.{and_then}
use Rattle.ess_semantics.specs.Values.{Text}
use Rattle.ess_semantics.specs.Order.{same_text}
use Rattle.ess_semantics.specs.Constants.{operand_count}
use Rattle.ess_semantics.specs.Occurrences.{free_of, has_cells}
use Rattle.ess_semantics.specs.Trees.{Step, by_value, to_component, to_field, index, application, word, tuple_literal, matrix_literal, function_literal, record_literal, Pat, name_pat, Ex, Exs, number_ex, node_ex, matrix_ex, comp_ex, seen_ex, no_exs, more_exs, Gens, no_gens, over, from, cond, Dom, ex2, fun1}
use Rattle.ess_guard_laws.specs.IndexDomains.{first_index, plain_axis}
use Rattle.ess_rules_laws.specs.SourceRules.{list_of}
use Rattle.ess_ordered_laws.specs.NumberedItems.{is_from_one}
use Rattle.ess_numbered_laws.specs.ThereByForm.{is_there}
use Rattle.ess_ordered_laws.specs.ToldAxes.{results_of, component_dom, field_dom, items_dom}

-- ---- what is picked out of a term

-- A step from a value to a part of it: to an item of a matrix, a result of a function, a component, a field.
pub data Pick : Type 0 where
  an_item a_result : Pick
  a_component : ℕ → Pick
  a_field : Text → Pick

-- The step of an index.
abbrev pub pick_of : Step → Pick
pick_of by_value = an_item
pick_of (to_component k) = a_component k
pick_of (to_field a) = a_field a

-- The domain that the steps reach from one.
abbrev pub dom_along : List Pick → Option Dom → Option Dom
dom_along [] o = o
dom_along (an_item ∷ ps) o = dom_along ps (items_dom o)
dom_along (a_result ∷ ps) o = dom_along ps (results_of o)
dom_along (a_component k ∷ ps) o = dom_along ps (component_dom k o)
dom_along (a_field a ∷ ps) o = dom_along ps (field_dom a o)

-- The index domain of a list, where it is numbered from 1.
abbrev pub list_axis : Option Dom → Option Dom
list_axis (Some d) = if is_from_one d then plain_axis (Some d) else None
list_axis None = None

-- ---- numbers

-- `sum([n | gs])`.
abbrev pub sum_at : Ex → Gens → Ex
sum_at n gs = fun1 false Fun.Sum (comp_ex n gs)

-- `sum([1 | z : d])`: how many members d has.
abbrev pub members_counted : Text → Dom → Ex
members_counted z d = sum_at (number_ex (pos 1)) (over (name_pat z) d no_gens)

-- `sum([n, ..])`.
abbrev pub all_summed : Exs → Ex
all_summed ns = fun1 false Fun.Sum (list_of ns)

-- Behind a condition: `sum([n | c])`, where it reads no table, else n, if that has a value without the condition.
abbrev pub behind_condition : Ex → Ex → Option Ex
behind_condition c n = if has_cells c then (if is_there n then Some n else None) else Some (sum_at n (cond c no_gens))

-- Behind a name that runs over k items: `k * n`, where n doesn't speak of it.
abbrev pub so_often : Pat → Ex → Ex → Option Ex
so_often (name_pat y) k n = if free_of (y ∷ []) (more_exs n no_exs) then Some (ex2 false Op2.Times k n) else None
so_often p k n = None

-- ---- the number

abbrev mutual
  -- How many items the list has at most that the steps reach from the term. Where several may be reached it is the sum of their numbers. The
  -- name is for members of index domains.
  pub most : Text → List Pick → Ex → Option Ex
  most z ps (node_ex b (index (q ∷ [])) (more_exs t is)) = most z (pick_of q ∷ ps) t
  most z ps (node_ex b application (more_exs f is)) = most z (a_result ∷ ps) f
  most z ps (node_ex b (word Fun.Image) (more_exs f is)) = most z (a_result ∷ ps) f
  most z [] (node_ex false matrix_literal es) = Some (number_ex (pos (operand_count es)))
  most z (an_item ∷ ps) (node_ex false matrix_literal es) = option_map all_summed (most_of_each z ps es)
  most z (a_component k ∷ ps) (node_ex false tuple_literal es) = most_at k z ps es
  most z (a_field a ∷ ps) (node_ex false (record_literal fs) es) = most_of_field a fs z ps es
  most z (a_result ∷ ps) (node_ex false function_literal es) = option_map all_summed (most_of_each z (a_component 2 ∷ ps) es)
  most z [] (matrix_ex es d) = if is_from_one d then Some (number_ex (pos (operand_count es))) else None
  most z (an_item ∷ ps) (matrix_ex es d) = option_map all_summed (most_of_each z ps es)
  most z [] (comp_ex e gs) = most_behind z gs (number_ex (pos 1))
  most z (an_item ∷ ps) (comp_ex e gs) = and_then (most z ps e) (most_behind z gs)
  most z ps (seen_ex r d ns es) = option_map (members_counted z) (list_axis (first_index (dom_along ps (Some d))))
  most z ps e = None

  -- n at each binding of generators.
  pub most_behind : Text → Gens → Ex → Option Ex
  most_behind z no_gens n = Some n
  most_behind z (over p d gs) n = option_map (λ m. sum_at m (over p d no_gens)) (most_behind z gs n)
  most_behind z (from p t gs) n = and_then (most z [] t) (λ k. and_then (most_behind z gs n) (so_often p k))
  most_behind z (cond c gs) n = and_then (most_behind z gs n) (behind_condition c)

  -- Of each of these.
  pub most_of_each : Text → List Pick → Exs → Option Exs
  most_of_each z ps no_exs = Some no_exs
  most_of_each z ps (more_exs e es) = and_then (most z ps e) (λ n. option_map (more_exs n) (most_of_each z ps es))

  -- Of the k-th of these, from 1.
  pub most_at : ℕ → Text → List Pick → Exs → Option Ex
  most_at k z ps no_exs = None
  most_at zero z ps (more_exs e es) = None
  most_at (suc zero) z ps (more_exs e es) = most z ps e
  most_at (suc (suc k)) z ps (more_exs e es) = most_at (suc k) z ps es

  -- Of the one at the field.
  pub most_of_field : Text → List Text → Text → List Pick → Exs → Option Ex
  most_of_field a (f ∷ fs) z ps (more_exs e es) = if same_text f a then most z ps e else most_of_field a fs z ps es
  most_of_field a fs z ps es = None

-- How many items the list has at most that the term is.
abbrev pub most_items : Text → Ex → Option Ex
most_items z t = most z [] t
