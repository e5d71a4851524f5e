-- Laws of given tables, each stated at a function that does nothing, so that its proof is checked with the code.
use Rattle.std.specs.Prelude.{◌≡◌, true, ◌+◌, List, [], ◌∷◌, ◌++◌, Some, option_map}
use Rattle.ess_semantics.specs.Lists.{and_then}
use Rattle.ess_semantics.specs.Values.{Text}
use Rattle.ess_semantics.specs.Names.{Names}
use Rattle.ess_semantics.specs.Trees.{Stm}
use Rattle.ess_semantics.specs.Tables.{Table}
use Rattle.ess_semantics.specs.DeclaredTables.{TableDecl, DeclaredAs}
use Rattle.ess_semantics.specs.ModelMeaning.{model_domain}
use Rattle.ess_semantics.specs.Satisfaction.{tables_fit}
use Rattle.ess_semantics.specs.Meaning.{Env}
use Rattle.ess_semantics.specs.ModelTrees.{Header, Model, all_decls}
use Rattle.ess_semantics.specs.Contexts.{Each}
use Rattle.ess_semantics.specs.Assignments.{Assignment}
use Rattle.ess_semantics.specs.Parameters.{Param}
use Rattle.ess_semantics.specs.Plans.{kept_names, givens_side, given_tables, Options, Side, Plan, plans, declared_under, cells_of_name, canonical_tables}
use Rattle.ess_grammar.specs.Models.{is_readable_model}
use Rattle.eprime_cells_laws.specs.CellsText.{cells_text}
use Rattle.eprime_cells_laws.specs.Laws.{are_printable_tables, ReadsAsTables}
use Rattle.conjure_laws.specs.Fields.{HasItsFields, PlainMarks}
use Rattle.conjure_laws.specs.Premises.{here, Settled, PlanFits}
use Rattle.ess_translate_tables_laws.specs.HeaderTables.{DeclaresTables}
use Rattle.ess_translate_header_laws.specs.Headers.{IsOurs}
use Rattle.ess_translate_given_laws.specs.Ready.{Ready, GivenTables}
use Rattle.ess_translate_given_laws.specs.ByPlans.{tables_on, tables_by_plans, declared_on, declared_by_plans, cells_on, cells_by_plans}
use Rattle.ess_translate_given_laws.specs.Printable.{are_in_64_bits}
use Rattle.ess_translate_given_laws.specs.Counts.{too_many, first_plan_above}

-- Each plan of a header of this tool fits its domain. Where no relation has an attribute without a number the domains are typed.
pub record HeadersFit : Type 0 where
  pub plans_fit : (H : Header) → IsOurs H → Ready H.statements → Each (plans H.statements H.reprs) (PlanFits H.statements)
  pub plain : (H : Header) → IsOurs H → Settled H.statements → Each H.statements HasItsFields →
      Each (kept_names H.statements) (λ x. PlainMarks x.1) → Ready H.statements

-- A parameter of a header of this tool has its given tables.
abbrev pub GivenTablesAreThere : Type 0
GivenTablesAreThere = (H : Header) (p : Assignment) → IsOurs H → Ready H.statements → Param H.statements p →
    GivenTables H.statements H.reprs p

-- Canonical tables, declarations and numbers of cells are those that the plans add one after the other. Each plan adds its own: to what
-- plans before it have, and in front of what is still to come behind tables that are there.
pub record PlansAddOneByOne : Type 0 where
  pub tables : (f : Side) (S : List Stm) (o : Options) (p a : Assignment) →
      canonical_tables f S o p a ≡ tables_by_plans f (here S p) a (plans S o)
  pub declared : (f : Side) (S : List Stm) (o : Options) (p : Assignment) →
      declared_under f S o p ≡ declared_by_plans f (here S p) (plans S o)
  pub cells : (S : List Stm) (o : Options) (p : Assignment) (x : Text) → cells_of_name S o p x ≡ cells_by_plans x (here S p) (plans S o)
  pub tables_more : (f : Side) (env : Env) (a : Assignment) (q c : Names Table) (P : Plan) (Ps : List Plan) →
      tables_on f env a P ≡ Some c →
      option_map (λ d. q ++ d) (tables_by_plans f env a (P ∷ Ps)) ≡ option_map (λ d. (q ++ c) ++ d) (tables_by_plans f env a Ps)
  pub tables_behind : (f : Side) (env : Env) (a : Assignment) (Ps : List Plan) (P : Plan) →
      tables_by_plans f env a (Ps ++ (P ∷ [])) ≡
      and_then (tables_by_plans f env a Ps) (λ q. option_map (λ c. q ++ c) (tables_on f env a P))
  pub declared_behind : (f : Side) (env : Env) (Ps : List Plan) (P : Plan) →
      declared_by_plans f env (Ps ++ (P ∷ [])) ≡ declared_by_plans f env Ps ++ declared_on f env P
  pub cells_behind : (x : Text) (env : Env) (Ps : List Plan) (P : Plan) →
      cells_by_plans x env (Ps ++ (P ∷ [])) ≡ cells_by_plans x env Ps + cells_on x env P

-- The first given or find of a header of this tool that has too many cells is the name of the first plan whose name has.
abbrev pub TooManyByPlans : Type 0
TooManyByPlans = (H : Header) (p : Assignment) → IsOurs H →
    too_many H p ≡ first_plan_above (cells_of_name H.statements H.reprs p) (plans H.statements H.reprs)

-- The given tables of a parameter fit the declarations of a model that declares the header's tables with their members. Tables that fit
-- the given declarations of a model that some text has, with numbers in 64 bits, may be printed: their text is read as them.
pub record GivenTablesArePrinted : Type 0 where
  pub fit : (H : Header) (E : Model) (p : Assignment) (q : Names Table) → IsOurs H → Ready H.statements → Param H.statements p →
      DeclaresTables H E → given_tables H.statements H.reprs p ≡ Some q →
      DeclaredAs (model_domain (all_decls E) q) E.givens (declared_under givens_side H.statements H.reprs p) →
      tables_fit (all_decls E) q E.givens q ≡ true
  pub printable : (E : Model) (known : List TableDecl) (q c : Names Table) → is_readable_model E ≡ true →
      tables_fit known q E.givens c ≡ true → are_in_64_bits c ≡ true → are_printable_tables c ≡ true
  pub read : (E : Model) (known : List TableDecl) (q c : Names Table) → is_readable_model E ≡ true →
      tables_fit known q E.givens c ≡ true → are_in_64_bits c ≡ true → ReadsAsTables (cells_text E.givens c) known q E.givens c
