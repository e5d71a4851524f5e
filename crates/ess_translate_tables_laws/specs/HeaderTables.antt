-- The tables that a model declares for its header: for each given and find of the header's specification those of its
-- representations, and for each given enumerated type the cell for its number of values.
use Rattle.std.specs.Prelude.{◌≡◌, map}
use Rattle.ess_semantics.specs.DeclaredTables.{decl_name}
use Rattle.ess_semantics.specs.Plans.{givens_side, finds_side, table_list}
use Rattle.ess_semantics.specs.ModelTrees.{Header, Model}

-- The names of the model's givens and of its finds, with their numbers of axes, are in order those of the header's tables.
pub record DeclaresTables (H : Header) (E : Model) : Type 0 where
  pub givens : map decl_name E.givens ≡ table_list givens_side H.statements H.reprs
  pub finds : map decl_name E.finds ≡ table_list finds_side H.statements H.reprs
