-- Worked examples of lists in place of matrices that aren't numbered from 1.
use Rattle.std.specs.Prelude.{◌≡◌, refl, true, zero, suc, [], ◌∷◌, pos, codes, Some, None, is_some}
use Rattle.ess_semantics.specs.declared.words.Op2.{Op2}
use Rattle.ess_semantics.specs.declared.words.ReprKind.{ReprKind}
use Rattle.ess_semantics.specs.Tables.{one_cell, row_of}
use Rattle.ess_semantics.specs.Trees.{repr, no_reprs, more_reprs, one_value, name_pat, Ex, matrix_ex, comp_ex, seen_ex, no_exs, no_gens, over, Dom, bool_dom, int_dom, name_dom, matrix_dom, no_doms, more_doms, ex2}
use Rattle.ess_semantics.specs.Operators.{list_value}
use Rattle.ess_semantics.specs.Meaning.{Env, empty_env, meaning}
use Rattle.ess_semantics.proofs.Shorthands.{N, n, v, es1, es2, bi, range, upto, at}
use Rattle.ess_rules_laws.specs.Rules.{Unused}
use Rattle.ess_rules_laws.specs.SourceRules.{list_of}
use Rattle.ess_ordered_laws.specs.Laws.{MatrixOver}
use Rattle.ess_numbered_laws.specs.MostItems.{all_summed, members_counted, most_items}
use Rattle.ess_numbered_laws.specs.CountedSources.{numbered_term, within_an_item, within_a_pair}
use Rattle.ess_numbered_laws.specs.EqualByNumber.{equal_by_number}
use Rattle.ess_numbered_laws.specs.ListedPicks.{shifted_axis, literal_as_list, with_lists, listed_term, lists_picked}
use Rattle.ess_numbered_laws.specs.ListedLaws.{PicksTold}
use Rattle.ess_numbered_laws.proofs.ExamplesCounted.{q, w, names, k, products}

-- ---- index domains

abbrev nought_or_one : Dom
nought_or_one = range (n 0) (n 1)

-- `int(0..1)` and `int(1, 2)` are numbered otherwise. Those from 1, and others than of numbers, stay.
domains : (shifted_axis (Some nought_or_one) ≡ Some nought_or_one)
    × (is_some (shifted_axis (Some (int_dom (one_value ∷ one_value ∷ []) (es2 (n 1) (n 2))))) ≡ true)
    × (shifted_axis (Some (upto 2)) ≡ None) × (shifted_axis (Some bool_dom) ≡ None) × (shifted_axis (Some (name_dom q)) ≡ None)
domains = (refl, refl, refl, refl, refl)

-- ---- literals

-- `[1, 2; int(0..1)]` is `[1, 2]`; over `int(1..2)` it stays, and without items.
abbrev from_nought : Ex
from_nought = matrix_ex (es2 (n 1) (n 2)) nought_or_one

as_lists : (literal_as_list (es2 (n 1) (n 2)) nought_or_one ≡ list_of (es2 (n 1) (n 2)))
    × (literal_as_list (es2 (n 1) (n 2)) (upto 2) ≡ matrix_ex (es2 (n 1) (n 2)) (upto 2))
    × (literal_as_list no_exs (range (n 1) (n 0)) ≡ matrix_ex no_exs (range (n 1) (n 0)))
    × (literal_as_list no_exs (range (n 2) (n 1)) ≡ matrix_ex no_exs (range (n 2) (n 1)))
as_lists = (refl, refl, refl, refl)

-- `[[1, 2; int(0..1)], [3]][k]` with another first list.
abbrev either : Ex → Ex → Ex
either l i = at (list_of (es2 l (list_of (es1 (n 3))))) i

-- So it is of what is picked, also over a domain, and of what is picked out of that. Beside an index nothing changes, nor at another depth.
within : (with_lists w zero (either from_nought k) ≡ either (list_of (es2 (n 1) (n 2))) k)
    × (with_lists w zero (at (matrix_ex (es2 from_nought from_nought) nought_or_one) k)
    ≡ at (matrix_ex (es2 (list_of (es2 (n 1) (n 2))) (list_of (es2 (n 1) (n 2)))) nought_or_one) k)
    × (with_lists w zero (either (either from_nought k) k) ≡ either (either (list_of (es2 (n 1) (n 2))) k) k)
    × (with_lists w zero (at (list_of (es1 (list_of (es1 (n 3))))) (at from_nought k))
    ≡ at (list_of (es1 (list_of (es1 (n 3))))) (at from_nought k))
    × (with_lists w (suc zero) from_nought ≡ from_nought)
within = (refl, refl, refl, refl, refl)

-- ---- views

-- A view of a matrix over d, and an env where it has the items 2 and 1 over `int(0..1)`, and the cell k has the value 1.
abbrev view : Dom → Ex
view d = seen_ex (repr ReprKind.Matrix (more_reprs (repr ReprKind.Atom no_reprs) no_reprs)) (matrix_dom (more_doms d no_doms) (upto 2))
    (codes "m" ∷ []) no_exs

abbrev env : Env
env = record empty_env { cells = (codes "m", row_of (pos 0 ∷ pos 1 ∷ []) (pos 2 ∷ pos 1 ∷ [])) ∷ (codes "k", one_cell (pos 1)) ∷ [] }

-- `[m[w] | w : int(0..1)]`.
abbrev items : Ex
items = comp_ex (at (view nought_or_one) (N w)) (over (name_pat w) nought_or_one no_gens)

-- A view over another domain stays, as `int(1..2)`, `bool`, and one whose bounds aren't plain.
views : (with_lists w zero (either (view nought_or_one) k) ≡ either items k)
    × (with_lists w zero (view (upto 2)) ≡ view (upto 2)) × (with_lists w zero (view bool_dom) ≡ view bool_dom)
    × (with_lists w zero (view (range (n 0) (bi Op2.Div (n 2) (n 2)))) ≡ view (range (n 0) (bi Op2.Div (n 2) (n 2))))
views = (refl, refl, refl, refl)

-- It has the same items, numbered from 1.
same_items : (meaning items env ≡ Some (list_value (v 2 ∷ v 1 ∷ [])))
    × (meaning (either items k) env ≡ Some (list_value (v 2 ∷ v 1 ∷ [])))
same_items = (refl, refl)

-- ---- what is counted on

-- Of a literal that may be picked, that it has a value; of a view, that it is a matrix over its index domain.
literal_told : PicksTold w zero (either from_nought k) env
literal_told = (refl, (tt, tt))

view_told : PicksTold w zero (either (view nought_or_one) k) env
view_told = ((new_name, (over_its_domain, λ b. cc)), (tt, tt))
  where
    new_name : Unused w (view nought_or_one)
    new_name = ((((tt, (tt, tt)), tt), (tt, (tt, tt))), tt)

    over_its_domain : MatrixOver (view nought_or_one) nought_or_one env
    over_its_domain = record {
      indices = v 0 ∷ v 1 ∷ [];
      items = v 2 ∷ v 1 ∷ [];
      value = refl;
      as_many = refl;
      axis = refl;
      met = (tt, (tt, tt));
    }

-- ---- sources

-- Where the number of items is told so, lists are put in place, and then the term is by the numbers of its items.
terms : (listed_term names [] (either from_nought k) ≡ Some (either (list_of (es2 (n 1) (n 2))) k))
    × (listed_term names [] (either (view nought_or_one) k) ≡ Some (either items k))
    × (most_items (codes "z") (either items k) ≡ Some (all_summed (es2 (members_counted w nought_or_one) (n 1))))
    × (is_some (numbered_term names [] (either items k)) ≡ true)
terms = (refl, refl, refl, refl)

-- Where it is told before, or isn't told then, they aren't, nor where the term isn't counted.
no_terms : (listed_term names [] (either (list_of (es2 (n 1) (n 2))) k) ≡ None)
    × (listed_term names [] (either (view bool_dom) k) ≡ None) × (listed_term names [] from_nought ≡ None)
no_terms = (refl, refl, refl)

-- ---- where order counts

-- An item of a comprehension over such a term, and a comparison of it: on the first side, where both are such.
abbrev made : Ex
made = products (either (list_of (es2 (n 1) (n 2))) k)

abbrev over_either : Ex
over_either = products (either from_nought k)

roots : (lists_picked names [] (at over_either (n 2)) ≡ Some (at made (n 2)))
    × (lists_picked names [] (ex2 true Op2.Eq (list_of (es1 (n 3))) over_either) ≡ Some (ex2 true Op2.Eq (list_of (es1 (n 3))) made))
    × (lists_picked names [] (ex2 true Op2.LexLe over_either over_either) ≡ Some (ex2 true Op2.LexLe made over_either))
    × (lists_picked names [] (ex2 true Op2.Ne over_either (list_of (es1 (n 3)))) ≡ None)
    × (lists_picked names [] (ex2 true Op2.Eq made (list_of (es1 (n 3)))) ≡ None)
roots = (refl, refl, refl, refl, refl)

-- Before them the other rules make nothing of these, and then they do.
then_numbered : (within_an_item names [] (at over_either (n 2)) ≡ None) × (is_some (within_an_item names [] (at made (n 2))) ≡ true)
    × (equal_by_number names [] (ex2 true Op2.Eq over_either (list_of (es1 (n 3)))) ≡ None)
    × (is_some (equal_by_number names [] (ex2 true Op2.Eq made (list_of (es1 (n 3))))) ≡ true)
    × (within_a_pair names [] (ex2 true Op2.Eq over_either (list_of (es1 (n 3)))) ≡ None)
then_numbered = (refl, refl, refl, refl, refl)
