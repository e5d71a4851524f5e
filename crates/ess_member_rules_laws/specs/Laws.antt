-- The laws of what is written for a membership, each stated at a function that does nothing.
use Rattle.std.specs.Prelude.{◌≡◌, true, List, [], codes}
use Rattle.ess_semantics.specs.Values.{Text, Value}
use Rattle.ess_semantics.specs.Names.{Names}
use Rattle.ess_semantics.specs.Trees.{Ex, Dom}
use Rattle.ess_semantics.specs.Tables.{Table}
use Rattle.ess_semantics.specs.DeclaredTables.{TableDecl}
use Rattle.ess_semantics.specs.Refined.{is_refined}
use Rattle.ess_semantics.specs.Meaning.{is_true}
use Rattle.ess_semantics.specs.ModelMeaning.{model_value}
use Rattle.ess_simplify_laws.specs.Simplifying.{simplified}
use Rattle.ess_keys_laws.specs.Keyed.{nothing_around, keyed}
use Rattle.conjure_model_laws.specs.Printed.{printed_name, printed}
use Rattle.ess_member_trees_laws.specs.Memberships.{Literal, Axis, Family}
use Rattle.ess_member_rules_laws.specs.WrittenForms.{at_number, Written, IsTable}

-- What is written for a refined tree of a membership has one of three forms. Each says over tables what the cell of the value says, where
-- the bound name is printed as the first of all.
pub record MembershipsAreWritten : Type 0 where
  pub forms : (n : Text) (A : Dom) (L : Ex) → Axis A → Literal L → (taken : List Text) (e : Ex) → Family n A L e → is_refined e ≡ true →
      Written n A L (printed_name taken 0) (printed taken (simplified (keyed nothing_around (simplified e))) [])
  pub means : (ds : List TableDecl) (tc : Names Table) (n : Text) (A : Dom) (L : Ex) (t : Table) (ms : List Value) → Axis A →
      IsTable ds tc n A L t ms → (r : Ex) → Written n A L (codes "q1") r →
      is_true (model_value ds tc r) ≡ is_true (model_value ds tc (at_number n A L))
