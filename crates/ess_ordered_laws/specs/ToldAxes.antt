-- Index domains of lists that are picked out of a term: as the domain tells them that their values follow, else by the number of their items,
-- where the picked lists are written and no table says which one is picked.
use Rattle.std.specs.Prelude.{ℕ, zero, suc, true, false, List, [], ◌∷◌, ◌++◌, pos, Option, Some, None, option_map, if◌then◌else◌}
use Rattle.ess_semantics.specs.declared.words.Op2.{Op2}
use Rattle.ess_semantics.specs.declared.words.Fun.{Fun}
use Rattle.ess_semantics.specs.Lists.{and_then, or_else}
use Rattle.ess_semantics.specs.Values.{Text}
use Rattle.ess_semantics.specs.Order.{same_text}
use Rattle.ess_semantics.specs.Occurrences.{has_cells}
use Rattle.ess_semantics.specs.Constants.{operand_count}
use Rattle.ess_semantics.specs.Trees.{by_value, to_component, to_field, index, application, word, matrix_literal, Ex, Exs, number_ex, node_ex, comp_ex, seen_ex, no_exs, more_exs, Gens, no_gens, cond, Dom, Doms, tuple_dom, record_dom, matrix_dom, function_dom, no_doms, more_doms, ex2, fun1}
use Rattle.ess_guard_laws.specs.IndexDomains.{one_up_to, first_index, plain_axis, index_dom}
use Rattle.ess_rules_laws.specs.SourceRules.{list_of}
use Rattle.ess_rules_laws.specs.SpliceRules.{append_gens}
use Rattle.ess_rules_laws.specs.Listings.{Alternative}
use Rattle.ess_kind_rules_laws.specs.TermLookups.{picks}
use Rattle.ess_open_rules_laws.specs.OpenGenerators.{are_over_domains}

-- ---- the domain that a term follows

-- The k-th of domains, from 1.
abbrev pub dom_at : ℕ → Doms → Option Dom
dom_at k no_doms = None
dom_at zero (more_doms d ds) = None
dom_at (suc zero) (more_doms d ds) = Some d
dom_at (suc (suc k)) (more_doms d ds) = dom_at (suc k) ds

-- The domain of the field of this name.
abbrev pub dom_of_field : Text → List Text → Doms → Option Dom
dom_of_field a (f ∷ fs) (more_doms d ds) = if same_text f a then Some d else dom_of_field a fs ds
dom_of_field a fs ds = None

-- The domain of the results of functions, of a component of tuples, of a field of records, and of what an index picks out of matrices.
abbrev pub results_of : Option Dom → Option Dom
results_of (Some (function_dom ms es d c)) = Some c
results_of o = None

abbrev pub component_dom : ℕ → Option Dom → Option Dom
component_dom k (Some (tuple_dom ds)) = dom_at k ds
component_dom k o = None

abbrev pub field_dom : Text → Option Dom → Option Dom
field_dom a (Some (record_dom fs ds)) = dom_of_field a fs ds
field_dom a o = None

abbrev pub items_dom : Option Dom → Option Dom
items_dom (Some (matrix_dom (more_doms i no_doms) d)) = Some d
items_dom (Some (matrix_dom (more_doms i (more_doms j is)) d)) = Some (matrix_dom (more_doms j is) d)
items_dom o = None

-- The domain that the values of a term follow: of a view, and of what is picked out of such a term.
abbrev pub dom_told : Ex → Option Dom
dom_told (seen_ex r d ns es) = Some d
dom_told (node_ex b application (more_exs f (more_exs a no_exs))) = results_of (dom_told f)
dom_told (node_ex b (word Fun.Image) (more_exs f (more_exs a no_exs))) = results_of (dom_told f)
dom_told (node_ex b (index (to_component k ∷ [])) (more_exs t no_exs)) = component_dom k (dom_told t)
dom_told (node_ex b (index (to_field a ∷ [])) (more_exs t no_exs)) = field_dom a (dom_told t)
dom_told (node_ex b (index (by_value ∷ [])) (more_exs m (more_exs i no_exs))) = items_dom (dom_told m)
dom_told e = None

-- ---- how many items a picked list has

-- The items of a literal where i is their number, from k on, behind generators.
abbrev pub cases_behind : Gens → ℕ → Ex → Exs → List Alternative
cases_behind gs k i no_exs = []
cases_behind gs k i (more_exs e es) =
    record { gens = append_gens gs (cond (ex2 true Op2.Eq i (number_ex (pos k))) no_gens); item = e } ∷ cases_behind gs (suc k) i es

-- The same of a term, where it is a literal.
abbrev pub cases_of : Gens → Ex → Ex → Option (List Alternative)
cases_of gs i (node_ex false matrix_literal es) = Some (cases_behind gs 1 i es)
cases_of gs i e = None

-- Those of each alternative.
abbrev pub cases_at : Ex → List Alternative → Option (List Alternative)
cases_at i [] = Some []
cases_at i (a ∷ l) = and_then (cases_of a.gens i a.item) (λ r. option_map (λ rs. r ++ rs) (cases_at i l))

-- What a term is, case by case: an item of a literal at an index, at any depth; else the term itself.
abbrev pub written_cases : Ex → Option (List Alternative)
written_cases (node_ex b (index (by_value ∷ [])) (more_exs m (more_exs i no_exs))) = and_then (written_cases m) (cases_at i)
written_cases e = Some (record { gens = no_gens; item = e } ∷ [])

-- How many items a list has by its form: a literal, or a comprehension over domains.
abbrev pub number_written : Ex → Option Ex
number_written (node_ex false matrix_literal es) = Some (number_ex (pos (operand_count es)))
number_written (comp_ex e gs) =
    if are_over_domains gs then Some (fun1 false Fun.Sum (comp_ex (number_ex (pos 1)) gs)) else None
number_written e = None

-- The number in each case.
abbrev pub numbers_written : List Alternative → Option Exs
numbers_written [] = Some no_exs
numbers_written (a ∷ l) =
    and_then (number_written a.item) (λ n. option_map (more_exs (fun1 false Fun.Sum (comp_ex n a.gens))) (numbers_written l))

-- How many items a list has that is picked out of literals: the sum of the numbers of the cases.
abbrev pub number_picked : Ex → Option Ex
number_picked t = and_then (written_cases t) (λ l. option_map (λ es. fun1 false Fun.Sum (list_of es)) (numbers_written l))

-- Its index domain, where no table says which list is picked.
abbrev pub counted_axis : Ex → Option Dom
counted_axis t = and_then (number_picked t) (λ n. if has_cells n then None else Some (one_up_to n))

-- ---- the index domain

-- That of a list that is picked.
abbrev pub picked_axis : Ex → Option Dom
picked_axis t = if picks t then or_else (plain_axis (first_index (dom_told t))) (counted_axis t) else None

-- That of any list.
abbrev pub told_axis : Ex → Option Dom
told_axis t = or_else (index_dom t) (picked_axis t)
