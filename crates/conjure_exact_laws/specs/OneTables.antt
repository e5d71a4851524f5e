-- The tables of a solution: those that satisfy the model and stand for it, and no others.
use Rattle.std.specs.Prelude.{◌≡◌, List}
use Rattle.ess_semantics.specs.Names.{Names}
use Rattle.ess_semantics.specs.Trees.{Stm}
use Rattle.ess_semantics.specs.Tables.{Table}
use Rattle.ess_semantics.specs.Assignments.{Assignment}
use Rattle.ess_semantics.specs.Plans.{Options, values_stood_for}
use Rattle.ess_semantics.specs.ModelTrees.{Model}
use Rattle.ess_semantics.specs.Satisfaction.{Sat}

-- Exactly one list of found tables satisfies the model over the given tables q and stands for the values of a.
pub record HasItsTables (S : List Stm) (o : Options) (E : Model) (p : Assignment) (q : Names Table) (a : Assignment) : Type 0 where
  pub tables : Names Table
  pub satisfy : Sat E q tables
  pub stood_for : values_stood_for S o p tables ≡ a.vals
  pub only : (d : Names Table) → Sat E q d → values_stood_for S o p d ≡ a.vals → d ≡ tables
