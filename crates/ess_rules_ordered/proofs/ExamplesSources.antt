-- Worked examples: domains that operators tell, one case of what is picked out of written lists, and sources that are items.
use Rattle.std.proofs.Common.{◌≡◌, refl, true, false, [], ◌∷◌, pos, Some, None}
use Rattle.ess_semantics.specs.declared.words.Op2.{Op2}
use Rattle.ess_semantics.specs.declared.words.Fun.{Fun}
use Rattle.ess_semantics.specs.declared.words.ReprKind.{ReprKind}
use Rattle.ess_semantics.specs.Trees.{by_value, to_component, index, repr, no_reprs, name_pat, Ex, number_ex, name_ex, node_ex, comp_ex}
use Rattle.ess_semantics.specs.Trees.{seen_ex, no_exs, more_exs, Gens, no_gens, over, from, cond, Dom, bool_dom, tuple_dom, matrix_dom}
use Rattle.ess_semantics.specs.Trees.{no_doms, more_doms, ex2, fun1}
use Rattle.ess_rules_laws.specs.SourceRules.{list_of}
use Rattle.ess_refine_laws.specs.AllRules.{Supply}
use Rattle.ess_rules_opening.specs.OpenedViews.{WordParts}
use Rattle.ess_ordered_laws.specs.NumberedItems.{numbered_item}
use Rattle.ess_rules_ordered.specs.CaseForms.{itself, case_at, number_of_case}
use Rattle.ess_rules_ordered.specs.IndexForms.{is_written}
use Rattle.ess_rules_ordered.specs.ItemForms.{under_word, gens_over, item_gens}
use Rattle.ess_rules_ordered.specs.Supplies.{supply_with}
use Rattle.ess_rules_ordered.specs.ToldForms.{matrix_parts, only_step, told_at}

-- ---- domains

-- A matrix of truth values has one index domain; truth values have none.
abbrev truths : Dom
truths = matrix_dom (more_doms bool_dom no_doms) bool_dom

of_truths : matrix_parts (Some truths) ≡ Some (more_doms bool_dom no_doms, bool_dom)
of_truths = refl

no_matrix : matrix_parts (Some bool_dom) ≡ None
no_matrix = refl

-- One step is the only one; of two none is.
one_step : only_step (by_value ∷ []) ≡ Some by_value
one_step = refl

two_steps : only_step (by_value ∷ by_value ∷ []) ≡ None
two_steps = refl

-- The first component of a view of such matrices in a tuple is such a matrix, and an item of it is a truth value; a name tells no domain,
-- nor is there a second component.
abbrev view : Ex
view = seen_ex (repr ReprKind.Atom no_reprs) (tuple_dom (more_doms truths no_doms)) [] no_exs

abbrev first : Ex
first = node_ex false (index (to_component 1 ∷ [])) (more_exs view no_exs)

of_the_first : told_at (index (to_component 1 ∷ [])) (more_exs view no_exs) ≡ Some truths
of_the_first = refl

of_an_item : told_at (index (by_value ∷ [])) (more_exs first (more_exs (number_ex (pos 1)) no_exs)) ≡ Some bool_dom
of_an_item = refl

of_a_name : told_at (index (to_component 1 ∷ [])) (more_exs (name_ex (109 ∷ [])) no_exs) ≡ None
of_a_name = refl

no_second : told_at (index (to_component 2 ∷ [])) (more_exs view no_exs) ≡ None
no_second = refl

-- ---- written lists

abbrev seven : Ex
seven = list_of (more_exs (number_ex (pos 7)) no_exs)

-- `[7]` is written; a name isn't.
list_written : is_written seven ≡ true
list_written = refl

name_unwritten : is_written (name_ex (109 ∷ [])) ≡ false
name_unwritten = refl

-- The second item behind `x : bool`.
abbrev second : Gens
second = cond (ex2 true Op2.Eq (name_ex (105 ∷ [])) (number_ex (pos 2))) no_gens

second_case : case_at (over (name_pat (120 ∷ [])) bool_dom no_gens) 2 (name_ex (105 ∷ [])) seven
    ≡ record { gens = over (name_pat (120 ∷ [])) bool_dom second; item = seven }
second_case = refl

-- Where `[7]` is the second one, there is one item; how many there are of a name isn't told.
one_there : number_of_case (case_at no_gens 2 (name_ex (105 ∷ [])) seven) ≡ Some (fun1 false Fun.Sum (comp_ex (number_ex (pos 1)) second))
one_there = refl

none_told : number_of_case (itself (name_ex (109 ∷ []))) ≡ None
none_told = refl

-- ---- sources that are items

abbrev names : Supply
names = supply_with (97 ∷ []) (98 ∷ []) (99 ∷ []) ((100 ∷ []) ∷ [])

-- `y <- [x | x : bool][1]` is `b <- [x | ..], y <- b`, also where no table may decide it; of a name it isn't, nor of an item of a literal.
abbrev over_first : Ex → Gens
over_first t = from (name_pat (121 ∷ [])) (node_ex false (index (by_value ∷ [])) (more_exs t (more_exs (number_ex (pos 1)) no_exs))) no_gens

abbrev values : Ex
values = comp_ex (name_ex (120 ∷ [])) (over (name_pat (120 ∷ [])) bool_dom no_gens)

abbrev over_values : Gens
over_values =
    gens_over (98 ∷ []) (121 ∷ []) (numbered_item (99 ∷ []) (120 ∷ []) bool_dom (name_ex (120 ∷ [])) (number_ex (pos 1))) no_gens

anywhere : item_gens names false (over_first values) ≡ Some over_values
anywhere = refl

not_of_a_name : item_gens names true (over_first (name_ex (109 ∷ []))) ≡ None
not_of_a_name = refl

not_of_a_literal : item_gens names true (over_first seven) ≡ None
not_of_a_literal = refl

-- So it is under `sum`, and not under `freq`.
abbrev body_over : Fun → WordParts
body_over f = record { mark = false; fun = f; body = name_ex (121 ∷ []); gens = over_first values }

under_a_sum : under_word names (body_over Fun.Sum) ≡ Some (fun1 false Fun.Sum (comp_ex (name_ex (121 ∷ [])) over_values))
under_a_sum = refl

not_under_freq : under_word names (body_over Fun.Freq) ≡ None
not_under_freq = refl
