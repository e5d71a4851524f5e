-- Worked examples of comprehensions whose items have an order.
use Rattle.std.specs.Prelude.{◌≡◌, refl, true, false, [], ◌∷◌, codes, Option, Some, None}
use Rattle.ess_semantics.specs.declared.words.Op2.{Op2}
use Rattle.ess_semantics.specs.declared.words.Fun.{Fun}
use Rattle.ess_semantics.specs.Lists.{and_then}
use Rattle.ess_semantics.specs.Values.{Text, Value}
use Rattle.ess_semantics.specs.Trees.{to_component, index, tuple_literal, name_pat, Ex, node_ex, matrix_ex, comp_ex, cell_ex, no_exs, Gens, no_gens, over, from, cond, bool_dom, fun1}
use Rattle.ess_semantics.specs.Meaning.{empty_env, meaning}
use Rattle.ess_semantics.proofs.Shorthands.{N, n, v, es1, es2, bi, fn, range, upto, at}
use Rattle.ess_rules_laws.specs.SourceRules.{list_of}
use Rattle.ess_refine_laws.specs.AllRules.{Supply}
use Rattle.ess_ordered_laws.specs.NumberedItems.{is_from_one, place_in, numbered_lookup, ordered_lookup}
use Rattle.ess_ordered_laws.specs.IndexedSources.{has_open_index, is_by_index, indexed_term, indexed_source}
use Rattle.ess_ordered_laws.specs.OrderedRules.{an_item, of_an_item, source_by_indices, ordered_rewrite}

abbrev pub q : Text
q = codes "q"

abbrev pub y : Text
y = codes "y"

abbrev pub z : Text
z = codes "z"

abbrev pub w : Text
w = codes "w"

abbrev pub r : Text
r = codes "r"

-- New names for generators.
abbrev pub a : Text
a = codes "a"

abbrev pub b : Text
b = codes "b"

abbrev pub c : Text
c = codes "c"

-- New names, with those for what is picked within and for generators.
abbrev pub names : Supply
names = record {
  one = w;
  other = codes "o";
  third = z;
  parts = y ∷ a ∷ b ∷ c ∷ codes "p" ∷ [];
  index_domain = λ e. bool_dom;
  copy = λ e. e;
}

-- What is made of an item alone, and of an operator on what is in order.
abbrev pub alone_means : Ex → Option Value
alone_means e = and_then (ordered_rewrite names [] an_item e) (λ f. meaning f empty_env)

abbrev pub over_item_means : Ex → Option Value
over_item_means e = and_then (ordered_rewrite names [] of_an_item e) (λ f. meaning f empty_env)

abbrev pub tuple : Ex → Ex → Ex
tuple t u = node_ex false tuple_literal (es2 t u)

-- ---- items by number

-- `[q * q | q : int(1..3)][2]` is `sum([w | w <- [q * q | q : int(1..3), q = 2]])`.
abbrev squares : Gens → Ex
squares gs = comp_ex (bi Op2.Times (N q) (N q)) gs

abbrev over_three : Gens → Gens
over_three gs = over (name_pat q) (upto 3) gs

abbrev the_one : Gens → Ex
the_one gs = fn Fun.Sum (list_of (es1 (fn Fun.Sum (comp_ex (N w) (from (name_pat w) (squares gs) no_gens)))))

second : ordered_rewrite names [] an_item (at (squares (over_three no_gens)) (n 2))
    ≡ Some (the_one (over_three (cond (bi Op2.Eq (N q) (n 2)) no_gens)))
second = refl

-- Both are 4.
second_means : (meaning (at (squares (over_three no_gens)) (n 2)) empty_env ≡ Some (v 4))
    × (meaning (the_one (over_three (cond (bi Op2.Eq (N q) (n 2)) no_gens))) empty_env ≡ Some (v 4))
second_means = (refl, refl)

-- Over `int(3..5)` the number of q is `sum([1 | z : int(3..5), z < q]) + 1`.
abbrev counted : Ex
counted = bi Op2.Plus (fn Fun.Sum (comp_ex (n 1) (over (name_pat z) (range (n 3) (n 5)) (cond (bi Op2.Lt (N z) (N q)) no_gens)))) (n 1)

later_range : (is_from_one (upto 3) ≡ true) × (is_from_one (range (n 3) (n 5)) ≡ false) × (place_in z q (range (n 3) (n 5)) ≡ counted)
later_range = (refl, refl, refl)

-- So the second square is 16.
later_means : (meaning (at (squares (over (name_pat q) (range (n 3) (n 5)) no_gens)) (n 2)) empty_env ≡ Some (v 16))
    × (meaning (the_one (over (name_pat q) (range (n 3) (n 5)) (cond (bi Op2.Eq counted (n 2)) no_gens))) empty_env ≡ Some (v 16))
later_means = (refl, refl)

-- A comprehension over a term has no such lookup.
terms_stay : numbered_lookup z (a ∷ b ∷ c ∷ []) (at (squares (from (name_pat q) (list_of (es1 (n 7))) no_gens)) (n 2)) ≡ None
terms_stay = refl

-- `[(q, 7) | q : int(1..3)][2][1]`: a component of an item.
abbrev pairs : Ex
pairs = comp_ex (tuple (N q) (n 7)) (over_three no_gens)

abbrev component : Ex → Ex
component t = node_ex false (index (to_component 1 ∷ [])) (es1 t)

within : ordered_lookup z (y ∷ codes "p" ∷ []) (component (at pairs (n 2))) ≡ Some (record {
  gens = from (name_pat y) (comp_ex (tuple (N q) (n 7)) (over_three (cond (bi Op2.Eq (N q) (n 2)) no_gens))) no_gens;
  item = component (N y);
} ∷ [])
within = refl

-- Too few names are left for what is picked within.
few_names : ordered_lookup z (y ∷ []) (component (at pairs (n 2))) ≡ None
few_names = refl

-- `[(q, 7) | q : int(1..3)][2] = (2, 7)`: an operator on a compound item. Of a scalar one the item itself is rewritten.
compound_item : ordered_rewrite names [] of_an_item (bi Op2.Eq (at pairs (n 2)) (tuple (n 2) (n 7)))
    ≡ Some (fun1 true Fun.Or (list_of (es1 (fun1 true Fun.Or (comp_ex
    (bi Op2.Eq (N w) (tuple (n 2) (n 7)))
    (from (name_pat w) (comp_ex (tuple (N q) (n 7)) (over_three (cond (bi Op2.Eq (N q) (n 2)) no_gens))) no_gens))))))
compound_item = refl

scalar_item : ordered_rewrite names [] of_an_item (bi Op2.Eq (at (squares (over_three no_gens)) (n 2)) (n 4)) ≡ None
scalar_item = refl

-- ---- sources by indices

-- `[y * 2 | y <- [7, 5]]` is `[y * 2 | y <- [[7, 5][w] | w : int(1..2)]]`.
abbrev numbers : Ex
numbers = list_of (es2 (n 7) (n 5))

abbrev doubled : Ex → Ex
doubled s = comp_ex (bi Op2.Times (N y) (n 2)) (from (name_pat y) s no_gens)

abbrev by_index : Ex
by_index = comp_ex (at numbers (N w)) (over (name_pat w) (upto 2) no_gens)

literal_source : indexed_source [] w (doubled numbers) ≡ Some (doubled by_index)
literal_source = refl

-- Both are `[14, 10]`.
in_order : meaning (doubled numbers) empty_env ≡ meaning (doubled by_index) empty_env
in_order = refl

-- Behind plain generators too; the index domain of a literal is the one that it has.
behind_plain_ones : ordered_rewrite names [] source_by_indices (comp_ex (N y) (over_three (from (name_pat y) numbers no_gens)))
    ≡ Some (comp_ex (N y) (over_three (from (name_pat y) by_index no_gens)))
behind_plain_ones = refl

over_a_domain : indexed_term [] w (matrix_ex (es2 (n 7) (n 5)) (range (n 3) (n 4)))
    ≡ Some (comp_ex (at (matrix_ex (es2 (n 7) (n 5)) (range (n 3) (n 4))) (N w)) (over (name_pat w) (range (n 3) (n 4)) no_gens))
over_a_domain = refl

-- Items that cells pick are run over by index; those that names pick have the rules of kinds.
abbrev pub k : Ex
k = cell_ex false (codes "k") no_exs

picked_by_cells : (has_open_index (at (N y) k) ≡ true) × (has_open_index (at (at (N y) k) (n 1)) ≡ true)
    × (has_open_index (at (N y) (bi Op2.Plus (N q) (n 1))) ≡ false) × (is_by_index (N y) ≡ false)
picked_by_cells = (refl, refl, refl, refl)
