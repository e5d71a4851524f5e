-- Laws of what tables of finds stand for, each stated at a function that does nothing, so that its proof is checked with the code.
use Rattle.std.specs.Prelude.{◌≡◌, true, [], Some}
use Rattle.ess_semantics.specs.Values.{Value}
use Rattle.ess_semantics.specs.Names.{Names, keys}
use Rattle.ess_semantics.specs.Trees.{Repr}
use Rattle.ess_semantics.specs.Domains.{Domain}
use Rattle.ess_semantics.specs.Tables.{Table, Tables}
use Rattle.ess_semantics.specs.Representations.{value_of_tables}
use Rattle.ess_semantics.specs.Positions.{domain_with_positions}
use Rattle.ess_semantics.specs.Contexts.{Each}
use Rattle.ess_semantics.specs.Assignments.{Assignment}
use Rattle.ess_semantics.specs.Parameters.{Param}
use Rattle.ess_semantics.specs.ModelTrees.{Header}
use Rattle.ess_semantics.specs.Plans.{finds_side, plans_for, table_list, declared_under}
use Rattle.conjure_laws.specs.Premises.{here, tables_are}
use Rattle.ess_translate_header_laws.specs.Headers.{IsOurs}
use Rattle.ess_translate_positions_laws.specs.Forms.{has_form}
use Rattle.ess_translate_given_laws.specs.Ready.{Ready}
use Rattle.ess_translate_values_laws.specs.ReadyPlans.{AreReady, IsReady, tables_of}

-- Under a parameter of a header of this tool, tables that stand under the names of the plans of its finds, in order, over the declared
-- axes and in the declared domains: there each of these plans is ready.
abbrev pub FindsAreReady : Type 0
FindsAreReady = (H : Header) (p : Assignment) (c : Names Table) → IsOurs H → Ready H.statements → Param H.statements p →
    keys c ≡ keys (table_list finds_side H.statements H.reprs) →
    tables_are (declared_under finds_side H.statements H.reprs p) (tables_of c) ≡ true →
    Each (plans_for finds_side H.statements H.reprs) (IsReady (here H.statements p) c)

-- What tables that are ready stand for has the domain's form.
abbrev pub ReadyValuesHaveForm : Type 0
ReadyValuesHaveForm = (r : Repr) (e : Domain) (ts : Tables) (v : Value) → AreReady r e ts →
    value_of_tables r (domain_with_positions e) ts [] ≡ Some v → has_form e v ≡ true
