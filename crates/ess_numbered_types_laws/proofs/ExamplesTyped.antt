-- Worked examples: what these rules make keeps the type, and where types wouldn't stay, so that what they ask is needed.
use Rattle.std.specs.Prelude.{◌≡◌, refl, true, false, [], ◌∷◌, codes, pos, Some, None}
use Rattle.ess_semantics.specs.declared.words.Op2.{Op2}
use Rattle.ess_semantics.specs.Values.{Text, a_matrix}
use Rattle.ess_semantics.specs.Trees.{by_value, index, matrix_literal, both_ends, name_pat, Ex, number_ex, name_ex, node_ex, matrix_ex, comp_ex, cell_ex, ex2, no_exs, more_exs, no_gens, from, Dom, int_dom}
use Rattle.ess_semantics.specs.Types.{any_ty, bool_ty, int_ty, named_ty, compound2}
use Rattle.ess_semantics.specs.Typing.{type_of}
use Rattle.ess_numbered_laws.specs.MostItems.{so_often}
use Rattle.ess_numbered_laws.specs.CountedSources.{numbered_items}
use Rattle.ess_numbered_laws.specs.EqualByNumber.{items_compared}
use Rattle.ess_numbered_laws.specs.ListedPicks.{literal_as_list}

abbrev x : Text
x = codes "x"

abbrev y : Text
y = codes "y"

abbrev z : Text
z = codes "z"

abbrev two : Ex
two = number_ex (pos 2)

-- A list of lists at a number that a table holds.
abbrev picked : Ex
picked = node_ex false (index (by_value ∷ [])) (more_exs
    (node_ex false matrix_literal (more_exs (node_ex false matrix_literal (more_exs two no_exs)) no_exs))
    (more_exs (cell_ex false (codes "c") no_exs) no_exs))

-- ---- sources by numbers

-- The items at numbers have the type of the term, and so has a comprehension over them.
of_numbers : (type_of picked [] ≡ Some (compound2 a_matrix int_ty int_ty))
    × (type_of (numbered_items x z picked two int_ty) [] ≡ Some (compound2 a_matrix int_ty int_ty))
    × (type_of (comp_ex (name_ex y) (from (name_pat y) (numbered_items x z picked two int_ty) no_gens)) []
    ≡ Some (compound2 a_matrix int_ty int_ty))
of_numbers = (refl, refl, refl)

-- Where numbers are no indices of the term no number picks an item of it.
of_other_indices : type_of (numbered_items x z (name_ex y) two int_ty) ((y, compound2 a_matrix bool_ty int_ty) ∷ []) ≡ None
of_other_indices = refl

-- And where the new name is that of the term, it is the number itself that is picked from.
of_the_new_name : type_of (numbered_items x z (name_ex x) two int_ty) ((x, compound2 a_matrix int_ty int_ty) ∷ []) ≡ None
of_the_new_name = refl

-- ---- comparisons

-- The items at a number.
of_two_lists : type_of (items_compared Op2.Lt int_ty int_ty x picked picked) ((x, int_ty) ∷ []) ≡ Some bool_ty
of_two_lists = refl

-- A side of an equality, and the same by numbers.
abbrev against_two : Ex → Ex
against_two u = ex2 true Op2.Eq (comp_ex (name_ex y) (from (name_pat y) u no_gens)) (node_ex false matrix_literal (more_exs two no_exs))

of_a_side : (type_of (against_two picked) [] ≡ Some bool_ty)
    × (type_of (against_two (numbered_items x z picked two int_ty)) [] ≡ Some bool_ty)
of_a_side = (refl, refl)

-- ---- lists in place of other matrices

-- `int(0..1)`.
abbrev nought_or_one : Dom
nought_or_one = int_dom (both_ends ∷ []) (more_exs (number_ex (pos 0)) (more_exs (number_ex (pos 1)) no_exs))

-- `[2, 2]` has the type of `[2, 2; int(0..1)]`.
of_a_list : (type_of (matrix_ex (more_exs two (more_exs two no_exs)) nought_or_one) [] ≡ Some (compound2 a_matrix int_ty int_ty))
    × (type_of (literal_as_list (more_exs two (more_exs two no_exs)) nought_or_one) [] ≡ Some (compound2 a_matrix int_ty int_ty))
of_a_list = (refl, refl)

-- `[]` hasn't that of a matrix over numbers without items: so that stays.
of_no_items : (type_of (matrix_ex no_exs nought_or_one) [] ≡ Some (compound2 a_matrix int_ty any_ty))
    × (type_of (node_ex false matrix_literal no_exs) [] ≡ Some (compound2 a_matrix any_ty any_ty))
    × (literal_as_list no_exs nought_or_one ≡ matrix_ex no_exs nought_or_one)
of_no_items = (refl, refl, refl)

-- ---- names of tables

abbrev cell : Ex
cell = cell_ex false y no_exs

-- A number behind `y <- t` that reads a table called y doesn't use that name: so it is multiplied outside of the generator. There its table
-- isn't of the named type that y has.
of_a_table : (so_often (name_pat y) two cell ≡ Some (ex2 false Op2.Times two cell))
    × (type_of cell ((y, named_ty z) ∷ []) ≡ Some (named_ty z))
    × (type_of cell [] ≡ Some int_ty)
of_a_table = (refl, refl, refl)
