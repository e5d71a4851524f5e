-- Worked examples of generators over axes.
use Rattle.std.proofs.Common.{◌≡◌, refl, [], ◌∷◌, codes}
use Rattle.ess_semantics.specs.Trees.{name_pat, bool_dom, name_dom}
use Rattle.ess_core.specs.TreeViews.{over_item}
use Rattle.conjure_model_laws.specs.ToldApart.{reserved}
use Rattle.ess_structure_terms.specs.RowItems.{row_items}

-- No axes, and two of them: the names are numbered on.
no_axes : row_items 4 [] ≡ []
no_axes = refl

two_axes : row_items 4 (bool_dom ∷ name_dom (codes "t") ∷ [])
    ≡ over_item (name_pat (reserved 4)) bool_dom ∷ over_item (name_pat (reserved 5)) (name_dom (codes "t")) ∷ []
two_axes = refl
