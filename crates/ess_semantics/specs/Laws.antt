-- Laws over the definitions, each stated at a function that does nothing, so that its proof is checked with the code.
use Rattle.std.specs.Prelude.{◌≡◌, Bool, true, List, Some}
use Rattle.std.specs.Cmp.{IsTotalOrder}
use Rattle.std.specs.declared.cmp.Ordering.TheVariants.{Equal}
use Rattle.ess_semantics.specs.Values.{Value, truth, items_of, itself}
use Rattle.ess_semantics.specs.Order.{order}
use Rattle.ess_semantics.specs.Collections.{holds, rises, set_of}
use Rattle.ess_semantics.specs.Names.{Names}
use Rattle.ess_semantics.specs.Tables.{Table}
use Rattle.ess_semantics.specs.Trees.{Op, Exs, node_ex, Stm}
use Rattle.ess_semantics.specs.Types.{Ty, is_bool}
use Rattle.ess_semantics.specs.Typing.{type_of}
use Rattle.ess_semantics.specs.Resolving.{resolve}
use Rattle.ess_semantics.specs.Meaning.{Env, meaning}
use Rattle.ess_semantics.specs.Assignments.{Assignment}
use Rattle.ess_semantics.specs.Parameters.{Param, fits_param, param_verdict}
use Rattle.ess_semantics.specs.Solutions.{Sol, valid, verdict}
use Rattle.ess_semantics.specs.Plans.{Options, Stands, given_tables}
use Rattle.ess_semantics.specs.ModelTrees.{Header, Model}
use Rattle.ess_semantics.specs.Satisfaction.{Sat}
use Rattle.ess_semantics.specs.Models.{Models}

-- The order of values is total, and Equal only at equal values.
pub record OrderIsTotal : Type 0 where
  pub total : IsTotalOrder order
  pub exact : (a b : Value) → order a b ≡ Equal → a ≡ b

-- The canonical list of a set rises strictly and has exactly the given members.
abbrev pub SetsHaveTheirMembers : Type 0
SetsHaveTheirMembers = (xs : List Value) → (rises itself (items_of (set_of xs)) ≡ true) × ((v : Value) → holds (items_of (set_of xs)) v ≡ holds xs v)

-- Resolved, an operator's node of type bool has a truth value, whatever the names stand for.
abbrev pub BooleansHaveTruthValues : Type 0
BooleansHaveTruthValues = (b : Bool) (op : Op) (es : Exs) (g : Names Ty) (env : Env) → is_bool (type_of (node_ex b op es) g) ≡ true →
    (t : Bool) × (meaning (resolve (node_ex b op es) g) env ≡ Some (truth t))

-- A parameter is one exactly where the verdict says that it fits.
abbrev pub ParameterFits : Type 0
ParameterFits = (S : List Stm) (p : Assignment) → (param_verdict S p ≡ fits_param → Param S p) × (Param S p → param_verdict S p ≡ fits_param)

-- An assignment is a solution exactly where the verdict says that it is valid.
abbrev pub SolutionIsValid : Type 0
SolutionIsValid = (S : List Stm) (p a : Assignment) → (verdict S p a ≡ valid → Sol S p a) × (Sol S p a → verdict S p a ≡ valid)

-- What a satisfying assignment of a model stands for is a solution.
abbrev pub StoodForIsSolution : Type 0
StoodForIsSolution = (S : List Stm) (o : Options) (H : Header) (E : Model) (p a : Assignment) (q c : Names Table) →
    Models S o H E → Param S p → given_tables S o p ≡ Some q → Sat E q c → Stands S o p a c → Sol S p a
