-- Worked examples: `[q | q <- [m, [3]][x]]`, where m is a matrix of two numbers, and x a number that a table holds.
use Rattle.std.specs.Prelude.{◌≡◌, refl, Bool, true, false, [], ◌∷◌, codes, pos, Some, IsTrue}
use Rattle.ess_semantics.specs.declared.words.Op2.{Op2}
use Rattle.ess_semantics.specs.declared.words.Fun.{Fun}
use Rattle.ess_semantics.specs.declared.words.ReprKind.{ReprKind}
use Rattle.ess_semantics.specs.Values.{Text}
use Rattle.ess_semantics.specs.Trees.{both_ends, repr, no_reprs, more_reprs, by_value, index, matrix_literal, name_pat, Ex, number_ex, name_ex, node_ex, comp_ex, cell_ex, seen_ex, ex2, fun1, no_exs, more_exs, no_gens, over, from, cond, Dom, int_dom, matrix_dom, no_doms, more_doms}
use Rattle.ess_refine_laws.specs.AllRules.{Supply}
use Rattle.ess_numbered_laws.specs.MostItems.{most_items}
use Rattle.ess_numbered_laws.specs.NumberRules.{item_of_a_list, number_rewrite}
use Rattle.conjure_model_laws.specs.ToldApart.{reserved}
use Rattle.ess_chain_names_laws.specs.Steps.{supply_at}
use Rattle.ess_numbered_names_laws.specs.NumberedNames.{ThreeHave}

abbrev q : Text
q = codes "q"

abbrev up_to_two : Dom
up_to_two = int_dom (both_ends ∷ []) (more_exs (number_ex (pos 1)) (more_exs (number_ex (pos 2)) no_exs))

abbrev m : Ex
m = seen_ex (repr ReprKind.Matrix (more_reprs (repr ReprKind.Atom no_reprs) no_reprs)) (matrix_dom (more_doms up_to_two no_doms) up_to_two)
    (codes "m" ∷ []) no_exs

abbrev list_of_three : Ex
list_of_three = node_ex false matrix_literal (more_exs (number_ex (pos 3)) no_exs)

abbrev x : Ex
x = cell_ex false (codes "x") no_exs

abbrev picked : Ex
picked = node_ex false (index (by_value ∷ []))
    (more_exs (node_ex false matrix_literal (more_exs m (more_exs list_of_three no_exs))) (more_exs x no_exs))

abbrev copied : Ex
copied = comp_ex (name_ex q) (from (name_pat q) picked no_gens)

abbrev names : Supply
names = supply_at 0 0

-- `sum([sum([1 | z : int(1..2)]), 1])`, where z is the third name: the members of index domains are counted by it.
abbrev at_most : Ex
at_most = fun1 false Fun.Sum (node_ex false matrix_literal (more_exs
    (fun1 false Fun.Sum (comp_ex (number_ex (pos 1)) (over (name_pat (reserved 2)) up_to_two no_gens)))
    (more_exs (number_ex (pos 1)) no_exs)))

third_counts_members : most_items names.third picked ≡ Some at_most
third_counts_members = refl

-- The first name is for numbers, the other one for items that are counted.
abbrev numbered : Ex
numbered = comp_ex (node_ex false (index (by_value ∷ [])) (more_exs picked (more_exs (name_ex (reserved 0)) no_exs)))
    (over (name_pat (reserved 0)) (int_dom (both_ends ∷ []) (more_exs (number_ex (pos 1)) (more_exs at_most no_exs)))
    (cond (ex2 true Op2.Le (name_ex (reserved 0))
    (fun1 false Fun.Sum (comp_ex (number_ex (pos 1)) (from (name_pat (reserved 1)) picked no_gens)))) no_gens))

abbrev second_of : Ex → Ex
second_of a = node_ex false (index (by_value ∷ [])) (more_exs a (more_exs (number_ex (pos 2)) no_exs))

item_by_number : number_rewrite names [] item_of_a_list (second_of copied)
    ≡ Some (second_of (comp_ex (name_ex q) (from (name_pat q) numbered no_gens)))
item_by_number = refl

-- So the law asks for these three and those of the tree.
module _ (u : Text → Bool) where
  three_names : ThreeHave u names → IsTrue (u (reserved 0)) × IsTrue (u (reserved 1)) × IsTrue (u (reserved 2))
  three_names h = (h.one, h.other, h.third)
