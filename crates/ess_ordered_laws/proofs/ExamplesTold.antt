-- Worked examples of lists that are picked by indices, and of sources that are items.
use Rattle.std.specs.Prelude.{◌≡◌, refl, true, false, ℕ, [], ◌∷◌, pos, codes, Option, Some, None, is_some}
use Rattle.ess_semantics.specs.declared.words.Op2.{Op2}
use Rattle.ess_semantics.specs.declared.words.Fun.{Fun}
use Rattle.ess_semantics.specs.declared.words.ReprKind.{ReprKind}
use Rattle.ess_semantics.specs.Lists.{and_then}
use Rattle.ess_semantics.specs.Values.{Value}
use Rattle.ess_semantics.specs.Tables.{one_cell}
use Rattle.ess_semantics.specs.Trees.{to_component, to_field, index, repr, no_reprs, name_pat, Ex, node_ex, comp_ex, seen_ex, no_exs, Gens, no_gens, over, from, cond, Dom, bool_dom, tuple_dom, record_dom, matrix_dom, function_dom, no_doms, more_doms}
use Rattle.ess_semantics.specs.Meaning.{Env, empty_env, meaning}
use Rattle.ess_semantics.proofs.Shorthands.{N, n, v, es1, es2, bi, fn, ds2, range, upto, app, at}
use Rattle.ess_guard_laws.specs.IndexDomains.{one_up_to, index_dom}
use Rattle.ess_rules_laws.specs.SourceRules.{list_of}
use Rattle.ess_ordered_laws.specs.ToldAxes.{number_picked, picked_axis, told_axis}
use Rattle.ess_ordered_laws.specs.IndexedSources.{is_by_index, indexed_term, indexed_source}
use Rattle.ess_ordered_laws.specs.SourcesOfItems.{over_an_item}
use Rattle.ess_ordered_laws.specs.OrderedRules.{source_of_an_item, ordered_rewrite}
use Rattle.ess_ordered_laws.proofs.ExamplesOrdered.{q, y, w, r, k, names}

-- ---- domains that tell indices

-- A view that declares these values, and a function's that has them as results.
abbrev view : Dom → Ex
view d = seen_ex (repr ReprKind.Atom no_reprs) d (codes "f" ∷ []) no_exs

abbrev result : Dom → Ex → Ex
result d i = app (view (function_dom [] no_exs (upto 2) d)) i

abbrev row : Ex → Dom
row m = matrix_dom (more_doms (range (n 0) m) no_doms) (upto 9)

abbrev component : ℕ → Ex → Ex
component i t = node_ex false (index (to_component i ∷ [])) (es1 t)

abbrev field : Ex → Ex
field t = node_ex false (index (to_field (codes "b") ∷ [])) (es1 t)

-- `f(q)`, `f(q)[2]` and `f(q)[b]`, where f is a function to matrices, to pairs with one, or to records with one. The cell picks, and the
-- domain tells.
by_domain : (told_axis (result (row (n 3)) (N q)) ≡ Some (range (n 0) (n 3)))
    × (told_axis (result (row (n 3)) k) ≡ Some (range (n 0) (n 3)))
    × (told_axis (component 2 (result (tuple_dom (ds2 bool_dom (row (n 3)))) (N q))) ≡ Some (range (n 0) (n 3)))
    × (told_axis (component 1 (result (tuple_dom (ds2 bool_dom (row (n 3)))) (N q))) ≡ None)
    × (told_axis (field (result (record_dom (codes "a" ∷ codes "b" ∷ []) (ds2 bool_dom (row (n 3)))) (N q))) ≡ Some (range (n 0) (n 3)))
by_domain = (refl, refl, refl, refl, refl)

-- `f(q)[1]` of a function to matrices of two indices has the second; so has a matrix of functions to matrices at an index, applied.
second_index : (told_axis (at (result (matrix_dom (ds2 (upto 2) (range (n 0) (n 3))) bool_dom) (N q)) (n 1)) ≡ Some (range (n 0) (n 3)))
    × (told_axis (app (at (view (matrix_dom (more_doms (upto 2) no_doms) (function_dom [] no_exs (upto 2) (row (n 3))))) k) (N q))
    ≡ Some (range (n 0) (n 3)))
second_index = (refl, refl)

-- No bound but a plain one is copied, and nothing is told of what isn't picked.
not_told : (told_axis (result (row (fn Fun.Sum (list_of (es1 (n 3))))) (N q)) ≡ None) × (picked_axis (view (row (n 3))) ≡ None)
    × (told_axis (N q) ≡ None)
not_told = (refl, refl, refl)

-- ---- written lists

-- `[[1, 2], [3]]`.
abbrev uneven : Ex
uneven = list_of (es2 (list_of (es2 (n 1) (n 2))) (list_of (es1 (n 3))))

-- `[[1, 2], [3]][i]` has `sum([sum([2 | i = 1]), sum([1 | i = 2])])` items: two, one, and none where there is no such list.
abbrev where_it : Ex → ℕ → ℕ → Ex
where_it i k m = fn Fun.Sum (comp_ex (n m) (cond (bi Op2.Eq i (n k)) no_gens))

by_cases : number_picked (at uneven (N q)) ≡ Some (fn Fun.Sum (list_of (es2 (where_it (N q) 1 2) (where_it (N q) 2 1))))
by_cases = refl

abbrev number_at : ℕ → Option Value
number_at k = and_then (number_picked (at uneven (n k))) (λ e. meaning e empty_env)

how_many : (number_at 1 ≡ Some (v 2)) × (number_at 2 ≡ Some (v 1)) × (number_at 3 ≡ Some (v 0))
how_many = (refl, refl, refl)

-- `[[[1, 2], [3]], [[4]]][i][j]`: a list is picked at two indices, in one case of which it isn't there.
abbrev deep : ℕ → ℕ → Ex
deep i j = at (at (list_of (es2 uneven (list_of (es1 (list_of (es1 (n 4))))))) (n i)) (n j)

abbrev number_deep : ℕ → ℕ → Option Value
number_deep i j = and_then (number_picked (deep i j)) (λ e. meaning e empty_env)

how_many_deep : (number_deep 1 1 ≡ Some (v 2)) × (number_deep 1 2 ≡ Some (v 1)) × (number_deep 2 1 ≡ Some (v 1))
    × (number_deep 2 2 ≡ Some (v 0))
how_many_deep = (refl, refl, refl, refl)

-- A comprehension over a domain is counted, one over a term isn't.
abbrev listed : Gens → Ex
listed gs = list_of (es2 (comp_ex (N r) gs) (list_of (es1 (n 3))))

counted_items : (is_some (number_picked (at (listed (over (name_pat r) (upto 3) no_gens)) (N q))) ≡ true)
    × (number_picked (at (listed (from (name_pat r) uneven no_gens)) (N q)) ≡ None)
counted_items = (refl, refl)

-- So the index domain is told at a name; at a cell a table would say which list it is, and there is none.
told_by_cases : (told_axis (at uneven (N q)) ≡ Some (one_up_to (fn Fun.Sum (list_of (es2 (where_it (N q) 1 2) (where_it (N q) 2 1))))))
    × (index_dom (at uneven (N q)) ≡ None) × (told_axis (at uneven k) ≡ None)
told_by_cases = (refl, refl, refl)

-- ---- sources by such indices

by_such : (is_by_index (result (row (n 3)) k) ≡ true) × (is_by_index (at uneven (N q)) ≡ true) × (indexed_term [] w (at uneven k) ≡ None)
by_such = (refl, refl, refl)

-- `[y * 2 | y <- [[1, 2], [3]][1]]` is `[y * 2 | y <- [[[1, 2], [3]][1][w] | w : int(1..n)]]`, where n is that number.
abbrev doubled : Ex → Ex
doubled s = comp_ex (bi Op2.Times (N y) (n 2)) (from (name_pat y) s no_gens)

abbrev by_index : ℕ → Ex
by_index i = comp_ex (at (at uneven (n i)) (N w))
    (over (name_pat w) (one_up_to (fn Fun.Sum (list_of (es2 (where_it (n i) 1 2) (where_it (n i) 2 1))))) no_gens)

picked_source : indexed_source [] w (doubled (at uneven (n 1))) ≡ Some (doubled (by_index 1))
picked_source = refl

-- Both are `[2, 4]` at 1, and `[6]` at 2.
picked_means : (meaning (doubled (at uneven (n 1))) empty_env ≡ meaning (doubled (by_index 1)) empty_env)
    × (meaning (doubled (at uneven (n 2))) empty_env ≡ meaning (doubled (by_index 2)) empty_env)
    × (meaning (doubled (by_index 2)) empty_env ≡ meaning (list_of (es1 (n 6))) empty_env)
picked_means = (refl, refl, refl)

-- ---- sources that are items

-- `[y * 2 | y <- [[r, r + 1] | r : int(1..2)][i]]` is `[y * 2 | o <- [[r, r + 1] | r : int(1..2), r = i], y <- o]`.
abbrev pairs : Gens → Ex
pairs gs = comp_ex (list_of (es2 (N r) (bi Op2.Plus (N r) (n 1)))) (over (name_pat r) (upto 2) gs)

abbrev of_item : Ex → Ex
of_item i = doubled (at (pairs no_gens) i)

abbrev through_item : Ex → Ex
through_item i = comp_ex (bi Op2.Times (N y) (n 2))
    (from (name_pat (codes "o")) (pairs (cond (bi Op2.Eq (N r) i) no_gens)) (from (name_pat y) (N (codes "o")) no_gens))

item_at_name : (ordered_rewrite names [] source_of_an_item (of_item (N q)) ≡ Some (through_item (N q)))
    × (over_an_item names (fn Fun.Sum (of_item (N q))) ≡ Some (fn Fun.Sum (through_item (N q))))
item_at_name = (refl, refl)

-- At a cell the condition reads a table: so it is made at a word that forgets order, and not alone, nor is it made at a sign.
item_at_cell : (over_an_item names (fn Fun.Sum (of_item k)) ≡ Some (fn Fun.Sum (through_item k)))
    × (over_an_item names (fn Fun.Max (of_item k)) ≡ Some (fn Fun.Max (through_item k)))
    × (over_an_item names (of_item k) ≡ None) × (over_an_item names (bi Op2.Eq (of_item (N q)) (list_of (es1 (n 6)))) ≡ None)
item_at_cell = (refl, refl, refl, refl)

-- Nothing is made of an item of a written list, which has the rules of kinds.
written_stays : over_an_item names (fn Fun.Sum (doubled (at uneven (n 1)))) ≡ None
written_stays = refl

-- Both are `[4, 6]` at 2, and so both sums are 10.
item_means : (meaning (of_item (n 2)) empty_env ≡ meaning (list_of (es2 (n 4) (n 6))) empty_env)
    × (meaning (through_item (n 2)) empty_env ≡ meaning (list_of (es2 (n 4) (n 6))) empty_env)
    × (meaning (fn Fun.Sum (of_item (n 2))) empty_env ≡ Some (v 10)) × (meaning (fn Fun.Sum (through_item (n 2))) empty_env ≡ Some (v 10))
item_means = (refl, refl, refl, refl)

-- At 3 there is no such item: the old sum has no value, and the new one no items. So the rule counts on that the source has a value.
no_such_item : (meaning (fn Fun.Sum (of_item (n 3))) empty_env ≡ None) × (meaning (fn Fun.Sum (through_item (n 3))) empty_env ≡ Some (v 0))
no_such_item = (refl, refl)

-- The same sums where the cell has 2, and where it has 1.
abbrev with_cell : ℕ → Env
with_cell i = record empty_env { cells = (codes "k", one_cell (pos i)) ∷ [] }

cell_means : (meaning (fn Fun.Sum (of_item k)) (with_cell 2) ≡ Some (v 10))
    × (meaning (fn Fun.Sum (through_item k)) (with_cell 2) ≡ Some (v 10))
    × (meaning (fn Fun.Sum (of_item k)) (with_cell 1) ≡ Some (v 6)) × (meaning (fn Fun.Sum (through_item k)) (with_cell 1) ≡ Some (v 6))
cell_means = (refl, refl, refl, refl)

-- It is made behind plain generators too.
behind_others : over_an_item names (comp_ex (N y) (over (name_pat q) (upto 2) (from (name_pat y) (at (pairs no_gens) (N q)) no_gens)))
    ≡ Some (comp_ex (N y) (over (name_pat q) (upto 2)
    (from (name_pat (codes "o")) (pairs (cond (bi Op2.Eq (N r) (N q)) no_gens)) (from (name_pat y) (N (codes "o")) no_gens))))
behind_others = refl
