-- Worked examples: where types wouldn't stay, so what these rules ask is needed.
use Rattle.std.specs.Prelude.{◌≡◌, refl, true, false, [], ◌∷◌, codes, pos, Some, None}
use Rattle.ess_semantics.specs.declared.words.Op2.{Op2}
use Rattle.ess_semantics.specs.declared.words.Fun.{Fun}
use Rattle.ess_semantics.specs.Values.{Text, a_matrix}
use Rattle.ess_semantics.specs.Trees.{name_pat, Ex, number_ex, name_ex, cell_ex, matrix_ex, comp_ex, ex2, fun1, no_exs, more_exs, no_gens, over, from, cond, bool_dom}
use Rattle.ess_semantics.specs.Types.{bool_ty, int_ty, named_ty, compound2}
use Rattle.ess_semantics.specs.Typing.{type_of}
use Rattle.ess_ordered_laws.specs.IndexedSources.{items_at, indexed_source}
use Rattle.ess_ordered_laws.specs.SourcesOfItems.{over_the_item}
use Rattle.ess_gathered_laws.specs.GatheredConditions.{conditions_gathered}

abbrev x : Text
x = codes "x"

abbrev y : Text
y = codes "y"

abbrev one : Ex
one = number_ex (pos 1)

-- ---- sources by their indices

-- `[y | y <- [x, x; bool]]`: where the new name is x itself, the items are called by the name that is bound to their index.
abbrev matrix : Ex
matrix = matrix_ex (more_exs (name_ex x) (more_exs (name_ex x) no_exs)) bool_dom

abbrev listed : Ex
listed = comp_ex (name_ex y) (from (name_pat y) matrix no_gens)

abbrev by_indices : Ex
by_indices = comp_ex (name_ex y) (from (name_pat y) (items_at x bool_dom matrix int_ty) no_gens)

by_its_indices : (type_of listed ((x, int_ty) ∷ []) ≡ Some (compound2 a_matrix int_ty int_ty))
    × (indexed_source ((x, int_ty) ∷ []) x listed ≡ Some by_indices)
    × (type_of by_indices ((x, int_ty) ∷ []) ≡ Some (compound2 a_matrix int_ty bool_ty))
by_its_indices = (refl, refl, refl)

-- Indices of another type than the domain's pick nothing that has a type.
of_other_indices : type_of (items_at x bool_dom (name_ex y) int_ty) ((y, compound2 a_matrix int_ty int_ty) ∷ []) ≡ None
of_other_indices = refl

-- ---- sources that are items

-- `[x | y <- t]` over an item that is picked: where the new name is x itself, the body is what is picked.
of_the_new_name : (type_of (comp_ex (name_ex x) (from (name_pat y) (name_ex y) no_gens))
    ((x, int_ty) ∷ (y, compound2 a_matrix int_ty bool_ty) ∷ []) ≡ Some (compound2 a_matrix int_ty int_ty))
    × (type_of (over_the_item x y (name_ex x) no_gens (record { gens = no_gens; item = name_ex y }))
    ((x, int_ty) ∷ (y, compound2 a_matrix int_ty bool_ty) ∷ [])
    ≡ Some (compound2 a_matrix int_ty (compound2 a_matrix int_ty bool_ty)))
of_the_new_name = (refl, refl)

-- ---- gathered conditions

-- `min([1 | y = c, y : bool, c = c])` where y is a number and c a cell: behind `y : bool` the first condition has no type.
abbrev cell : Ex
cell = cell_ex false (codes "c") no_exs

abbrev gathered : Ex
gathered = fun1 false Fun.Min (comp_ex one (cond (ex2 true Op2.Eq (name_ex y) cell) (over (name_pat y) bool_dom
    (cond (ex2 true Op2.Eq cell cell) no_gens))))

abbrev behind : Ex
behind = fun1 false Fun.Min (comp_ex one (over (name_pat y) bool_dom
    (cond (ex2 true Op2.And (ex2 true Op2.Eq (name_ex y) cell) (ex2 true Op2.Eq cell cell)) no_gens)))

of_a_bound_name : (type_of gathered ((y, int_ty) ∷ []) ≡ Some int_ty) × (conditions_gathered gathered ≡ Some behind)
    × (type_of behind ((y, int_ty) ∷ []) ≡ None)
of_a_bound_name = (refl, refl, refl)

-- A table that has the name of what is bound gives another type.
of_a_bound_table : (type_of cell [] ≡ Some int_ty)
    × (type_of cell ((codes "c", named_ty (codes "colour")) ∷ []) ≡ Some (named_ty (codes "colour")))
of_a_bound_table = (refl, refl)
