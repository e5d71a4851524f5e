-- The law of declared tables, stated at a function that does nothing.
use Rattle.std.specs.Prelude.{◌≡◌, true, List}
use Rattle.ess_semantics.specs.Values.{Text}
use Rattle.ess_semantics.specs.Trees.{Repr, Dom}
use Rattle.ess_semantics.specs.Kinds.{fits}
use Rattle.ess_semantics.specs.DeclaredTables.{Declares}
use Rattle.ess_repr_declare_laws.specs.DeclaredTrees.{declared_trees}
use Rattle.ess_repr_declare_laws.specs.Laws.{Sound}
use Rattle.ess_repr_members_laws.specs.Fields.{Fielded}

-- The declared trees of a representation that fits declare its tables: they have their names in order, and under each env in which the
-- domain denotes one without an attribute value below 0, each axis has the members of its table's axis, rising, and each cell domain those
-- of its table's cells, 0 included where a cell can be out of use.
abbrev pub DeclaredTreesDeclare : Type 0
DeclaredTreesDeclare = (r : Repr) (d : Dom) (x : Text) (taken : List Text) → Sound d → Fielded d → fits r d ≡ true →
    Declares r d x taken (declared_trees r d x taken)
