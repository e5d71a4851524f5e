-- The assignment of the finds that found tables stand for under a parameter.
use Rattle.std.specs.Prelude.{◌≡◌, Bool, List, [], Option, IsTrue, is_some}
use Rattle.std.specs.List.{list_all}
use Rattle.ess_semantics.specs.Values.{Text, Value}
use Rattle.ess_semantics.specs.Names.{Names}
use Rattle.ess_semantics.specs.Trees.{Stm}
use Rattle.ess_semantics.specs.Tables.{Table}
use Rattle.ess_semantics.specs.Assignments.{Assignment}
use Rattle.ess_semantics.specs.Solutions.{Sol, valid, verdict}
use Rattle.ess_semantics.specs.Plans.{Options, Stands, values_stood_for}

-- Whether the name has a value.
abbrev pub is_there : Text × Option Value → Bool
is_there b = is_some b.1

-- Each find has the value for which the tables stand by all of its representations, or none.
abbrev pub stood : List Stm → Options → Assignment → Names Table → Assignment
stood S o p c = record { types = []; vals = values_stood_for S o p c }

-- The tables c stand for a solution under the parameter p: each find has a value, and these values are a solution and are valid.
pub record StandForSolution (S : List Stm) (o : Options) (p : Assignment) (c : Names Table) : Type 0 where
  pub there : IsTrue (list_all is_there (values_stood_for S o p c))
  pub stands : Stands S o p (stood S o p c) c
  pub solution : Sol S p (stood S o p c)
  pub judged : verdict S p (stood S o p c) ≡ valid
