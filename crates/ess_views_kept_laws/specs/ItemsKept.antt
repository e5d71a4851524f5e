-- An item of a view of a matrix keeps its meaning as the view at its index.
use Rattle.std.specs.Prelude.{◌≡◌, Some}
use Rattle.ess_semantics.specs.Trees.{Ex, node_ex, seen_ex, no_exs, more_exs, more_doms, matrix_dom}
use Rattle.ess_semantics.specs.Meaning.{Env}
use Rattle.ess_semantics.specs.Kept.{Keeps}
use Rattle.ess_rules_laws.specs.FunctionKeys.{IsMember}
use Rattle.ess_views_laws.specs.MatrixViews.{item_view}
use Rattle.ess_views_kept_laws.specs.ComponentsKept.{FitsMark}

-- The index is a member of the first index domain of the matrix.
abbrev pub IndexHeld : Ex → Env → Type 0
IndexHeld (node_ex b op (more_exs (seen_ex r (matrix_dom (more_doms i is) d) ns js) (more_exs a no_exs))) env = IsMember a i env
IndexHeld e env = Unit {0}

-- Where the tables meet the structure of the view, the item means what the view at the index does, and they meet its structure.
abbrev pub ItemViewsKeep : Type 0
ItemViewsKeep = (e f : Ex) → item_view e ≡ Some f → FitsMark e f → (env : Env) → IndexHeld e env → Keeps e f env
