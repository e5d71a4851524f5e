-- Which plans are of scalars and of sizes, on small cases.
use Rattle.std.proofs.Common.{◌≡◌, refl, [], ◌∷◌, Some, None, codes}
use Rattle.ess_semantics.specs.declared.words.ReprKind.{ReprKind}
use Rattle.ess_semantics.specs.Trees.{repr, no_reprs, more_reprs, bool_dom}
use Rattle.ess_semantics.specs.Plans.{finds_side, size_plan, value_plan}
use Rattle.ess_model_views.specs.Sizes.{size_cell}
use Rattle.ess_model_views.specs.Scalars.{scalar_cell}

-- A number is kept in the cell of its name.
a_scalar : scalar_cell (repr ReprKind.Atom no_reprs) ((codes "x", 0) ∷ []) ≡ Some (codes "x")
a_scalar = refl

-- A set by occurrences isn't a scalar, though it has one table.
a_set : scalar_cell (repr ReprKind.Occurrence (more_reprs (repr ReprKind.Atom no_reprs) no_reprs)) ((codes "s_Occurrence", 1) ∷ []) ≡ None
a_set = refl

-- The size of a type is kept in the cell of its plan.
a_size : size_cell (size_plan (codes "t") (codes "t_size")) (codes "t") ≡ Some (codes "t_size")
a_size = refl

-- Another type's isn't, nor is it in the cell of a find that has the type's name.
another_size : size_cell (size_plan (codes "t") (codes "t_size")) (codes "u") ≡ None
another_size = refl

a_find : size_cell (value_plan finds_side (codes "t") (repr ReprKind.Atom no_reprs) bool_dom ((codes "t", 0) ∷ [])) (codes "t") ≡ None
a_find = refl
