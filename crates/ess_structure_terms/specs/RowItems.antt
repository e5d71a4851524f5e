-- Generators over axes, one by one.
use Rattle.std.specs.Prelude.{ℕ, suc, List, [], ◌∷◌}
use Rattle.ess_semantics.specs.Trees.{name_pat, Dom}
use Rattle.ess_core.specs.TreeViews.{Item, over_item}
use Rattle.conjure_model_laws.specs.ToldApart.{reserved}

-- Generators over axes, which bind the names from this number on.
abbrev pub row_items : ℕ → List Dom → List Item
row_items l [] = []
row_items l (a ∷ as') = over_item (name_pat (reserved l)) a ∷ row_items (suc l) as'
