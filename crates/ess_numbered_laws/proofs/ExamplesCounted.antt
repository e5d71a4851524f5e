-- Worked examples of comprehensions over lists whose items are counted.
use Rattle.std.specs.Prelude.{◌≡◌, refl, true, false, ℕ, [], ◌∷◌, pos, codes, Some, None, is_some}
use Rattle.ess_semantics.specs.declared.words.Op2.{Op2}
use Rattle.ess_semantics.specs.Values.{Text}
use Rattle.ess_semantics.specs.Tables.{one_cell}
use Rattle.ess_semantics.specs.Trees.{name_pat, Ex, matrix_ex, comp_ex, cell_ex, no_exs, no_gens, over, from, cond, bool_dom, ex2}
use Rattle.ess_semantics.specs.Types.{int_ty}
use Rattle.ess_semantics.specs.Operators.{list_value}
use Rattle.ess_semantics.specs.Meaning.{Env, empty_env, meaning}
use Rattle.ess_semantics.proofs.Shorthands.{N, n, v, es1, es2, bi, range, upto, at}
use Rattle.ess_guard_laws.specs.IndexDomains.{one_up_to}
use Rattle.ess_rules_laws.specs.SourceRules.{list_of}
use Rattle.ess_refine_laws.specs.AllRules.{Supply}
use Rattle.ess_numbered_laws.specs.MostItems.{all_summed, most_items}
use Rattle.ess_numbered_laws.specs.CountedSources.{is_counted, is_number_of, numbered_items, numbered_term, numbered_behind, within_an_item, within_a_pair}

abbrev pub q : Text
q = codes "q"

abbrev pub y : Text
y = codes "y"

abbrev pub w : Text
w = codes "w"

abbrev pub o : Text
o = codes "o"

-- New names.
abbrev pub names : Supply
names = record {
  one = w;
  other = o;
  third = codes "z";
  parts = codes "a" ∷ codes "b" ∷ codes "c" ∷ codes "d" ∷ [];
  index_domain = λ e. bool_dom;
  copy = λ e. e;
}

-- A cell, and an env where it has the value i.
abbrev pub k : Ex
k = cell_ex false (codes "k") no_exs

abbrev pub with_cell : ℕ → Env
with_cell i = record empty_env { cells = (codes "k", one_cell (pos i)) ∷ [] }

-- ---- a term

-- `[[1, 2], [3]][i]`.
abbrev pub uneven : Ex → Ex
uneven i = at (list_of (es2 (list_of (es2 (n 1) (n 2))) (list_of (es1 (n 3))))) i

-- A cell picks it: so its items are counted. At a name a number would tell its index domain, and a literal needs no picking.
counted : (is_counted names [] (uneven k) ≡ true) × (is_counted names [] (uneven (N q)) ≡ false)
    × (is_counted names [] (list_of (es1 (n 3))) ≡ false)
counted = (refl, refl, refl)

-- It has `sum([2, 1])` items at most.
abbrev pub three : Ex
three = all_summed (es2 (n 2) (n 1))

at_most_three : most_items (codes "z") (uneven k) ≡ Some three
at_most_three = refl

-- `[[[1, 2], [3]][k][w] | w : int(1..sum([2, 1])), w <= sum([1 | o <- [[1, 2], [3]][k]])]`.
abbrev pub by_numbers : Ex → Ex
by_numbers i = comp_ex (at (uneven i) (N w)) (over (name_pat w) (one_up_to three) (cond (is_number_of w o (uneven i)) no_gens))

numbered : numbered_term names [] (uneven k) ≡ Some (by_numbers k)
numbered = refl

-- It is `[1, 2]` where the cell has 1, and `[3]` where that has 2.
same_items : (meaning (by_numbers k) (with_cell 1) ≡ Some (list_value (v 1 ∷ v 2 ∷ [])))
    × (meaning (by_numbers k) (with_cell 2) ≡ Some (list_value (v 3 ∷ [])))
same_items = (refl, refl)

-- Where there is no such list the term has no value, and there is no number.
no_such_list : (meaning (uneven k) (with_cell 3) ≡ None) × (meaning (by_numbers k) (with_cell 3) ≡ Some (list_value []))
no_such_list = (refl, refl)

-- ---- no list

-- `[[1, 2; int(0..1)], [3]][k]`: the first has the indices 0 and 1, of which 2 is none. So nothing is made of it.
abbrev from_nought : Ex
from_nought = at (list_of (es2 (matrix_ex (es2 (n 1) (n 2)) (range (n 0) (n 1))) (list_of (es1 (n 3))))) k

not_counted : (most_items (codes "z") from_nought ≡ None) × (numbered_term names [] from_nought ≡ None)
not_counted = (refl, refl)

by_wrong_numbers : (is_some (meaning from_nought (with_cell 1)) ≡ true)
    × (meaning (numbered_items w o from_nought three int_ty) (with_cell 1) ≡ None)
by_wrong_numbers = (refl, refl)

-- With the indices 1 and 2 it is.
from_one : is_some (numbered_term names [] (at (list_of (es2 (matrix_ex (es2 (n 1) (n 2)) (upto 2)) (list_of (es1 (n 3))))) k)) ≡ true
from_one = refl

-- ---- comprehensions, and items of them

-- `[q * y | q : int(1..2), y <- [[1, 2], [3]][k]]` with another source.
abbrev pub products : Ex → Ex
products s = comp_ex (bi Op2.Times (N q) (N y)) (over (name_pat q) (upto 2) (from (name_pat y) s no_gens))

behind_a_name : (numbered_behind names [] (products (uneven k)) ≡ Some (products (by_numbers k)))
    × (within_an_item names [] (at (products (uneven k)) (n 2)) ≡ Some (at (products (by_numbers k)) (n 2)))
behind_a_name = (refl, refl)

-- Where the cell has 1 the items are 1, 2, 2, 4; where it has 2, 3, 6.
an_item : (meaning (at (products (by_numbers k)) (n 3)) (with_cell 1) ≡ Some (v 2))
    × (meaning (at (products (by_numbers k)) (n 2)) (with_cell 2) ≡ Some (v 6))
    × (meaning (at (products (by_numbers k)) (n 3)) (with_cell 2) ≡ meaning (at (products (uneven k)) (n 3)) (with_cell 2))
an_item = (refl, refl, refl)

-- Nothing is made of an item of another one, nor of the comprehension alone.
not_within : (within_an_item names [] (at (products (list_of (es1 (n 3)))) (n 2)) ≡ None)
    × (within_an_item names [] (products (uneven k)) ≡ None)
not_within = (refl, refl)

-- `[q | q : int(1..2), y <- [[1, 2], [3]][k], x <- y]` with another source: nothing tells how many items it has at most.
abbrev pub beyond : Ex → Ex
beyond s = comp_ex (N q) (over (name_pat q) (upto 2) (from (name_pat y) s (from (name_pat (codes "x")) (N y) no_gens)))

-- So it is made on a side of an equality and of a sign between lists, on the first one where both are such.
sides : (within_a_pair names [] (ex2 true Op2.Eq (list_of (es1 (n 3))) (beyond (uneven k)))
    ≡ Some (ex2 true Op2.Eq (list_of (es1 (n 3))) (beyond (by_numbers k))))
    × (within_a_pair names [] (ex2 true Op2.LexLt (beyond (uneven k)) (beyond (uneven k)))
    ≡ Some (ex2 true Op2.LexLt (beyond (by_numbers k)) (beyond (uneven k))))
    × (within_a_pair names [] (ex2 true Op2.Ne (beyond (uneven k)) (list_of (es1 (n 3)))) ≡ None)
sides = (refl, refl, refl)

-- Where that is told, the sides are compared by their numbers as they stand.
bounded_side : within_a_pair names [] (ex2 true Op2.Eq (list_of (es1 (n 3))) (products (uneven k))) ≡ None
bounded_side = refl
