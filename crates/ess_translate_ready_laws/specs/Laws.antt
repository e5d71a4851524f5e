-- Laws of headers, each stated at a function that does nothing, so that its proof is checked with the code.
use Rattle.std.specs.Prelude.{◌≡◌, true, map}
use Rattle.ess_semantics.specs.Values.{Text}
use Rattle.ess_semantics.specs.Names.{Names, keys}
use Rattle.ess_semantics.specs.Tables.{Table, Tables}
use Rattle.ess_semantics.specs.Contexts.{Each}
use Rattle.ess_semantics.specs.DeclaredTables.{DeclaredAs}
use Rattle.ess_semantics.specs.Assignments.{Assignment}
use Rattle.ess_semantics.specs.Parameters.{Param}
use Rattle.ess_semantics.specs.Plans.{givens_side, finds_side, plans, plans_for, table_list, declared_under}
use Rattle.ess_semantics.specs.ModelTrees.{Header, Model, all_decls}
use Rattle.ess_semantics.specs.ModelMeaning.{model_domain}
use Rattle.ess_semantics.specs.Satisfaction.{tables_fit}
use Rattle.conjure_laws.specs.Premises.{tables_are}
use Rattle.ess_translate_header_laws.specs.Headers.{IsOurs, HasHeader}
use Rattle.ess_translate_tables_laws.specs.HeaderTables.{DeclaresTables}
use Rattle.ess_translate_given_laws.specs.Ready.{Ready}
use Rattle.ess_translate_ready_laws.specs.PlanFacts.{HasDomain, HasMember}

-- Where a text begins with a header of this tool, its statements say at their places what they say behind all of them, its records have
-- a name for each component, and its domains are typed under each parameter.
abbrev pub HeadersAreReady : Type 0
HeadersAreReady = (text : Text) (H : Header) → HasHeader text H → Ready H.statements

-- Under a parameter each plan of a header has its domain, and each plan of a given has a member of it.
pub record PlansAreKnown : Type 0 where
  pub domains : (H : Header) (p : Assignment) → IsOurs H → Ready H.statements → Param H.statements p →
      Each (plans H.statements H.reprs) (HasDomain H.statements p)
  pub members : (H : Header) (p : Assignment) → IsOurs H → Ready H.statements → Param H.statements p →
      Each (plans_for givens_side H.statements H.reprs) (HasMember H.statements p)

-- The tables of a map, in its order.
abbrev pub tables_of : Names Table → Tables
tables_of c = map (λ b. b.1) c

-- Over the given tables q, tables fit what a model is to find exactly where they stand in order under the names of the header's tables,
-- over the declared axes and with items in the declared domains. The model declares these tables with their members.
pub record CellsAreDeclared : Type 0 where
  pub declared : (H : Header) (E : Model) (p : Assignment) (q c : Names Table) → DeclaresTables H E →
      DeclaredAs (model_domain (all_decls E) q) E.finds (declared_under finds_side H.statements H.reprs p) →
      tables_fit (all_decls E) q E.finds c ≡ true →
      (keys c ≡ keys (table_list finds_side H.statements H.reprs)) ×
      (tables_are (declared_under finds_side H.statements H.reprs p) (tables_of c) ≡ true)
  pub fit : (H : Header) (E : Model) (p : Assignment) (q c : Names Table) → DeclaresTables H E →
      DeclaredAs (model_domain (all_decls E) q) E.finds (declared_under finds_side H.statements H.reprs p) →
      keys c ≡ keys (table_list finds_side H.statements H.reprs) →
      tables_are (declared_under finds_side H.statements H.reprs p) (tables_of c) ≡ true → tables_fit (all_decls E) q E.finds c ≡ true
