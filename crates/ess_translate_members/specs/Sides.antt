-- Whether a model declares the tables of plans over their domains, of givens and of finds.
use Rattle.std.specs.Prelude.{List, Option}
use Rattle.ess_semantics.specs.Names.{Names}
use Rattle.ess_semantics.specs.Domains.{Domain}
use Rattle.ess_semantics.specs.Tables.{Table}
use Rattle.ess_semantics.specs.DeclaredTables.{DeclaredAs}
use Rattle.ess_semantics.specs.ModelTrees.{Model, all_decls}
use Rattle.ess_semantics.specs.ModelMeaning.{model_domain}
use Rattle.ess_semantics.specs.Plans.{givens_side, finds_side, Plan}
use Rattle.ess_translate_members_laws.specs.PlanDomains.{tables_of_side}

-- Both sides have, over the given tables q, the members of the tables of these plans over these domains.
pub record SidesDeclared (E : Model) (q : Names Table) (ps : List Plan) (os : List (Option Domain)) : Type 0 where
  pub givens : DeclaredAs (model_domain (all_decls E) q) E.givens (tables_of_side givens_side ps os)
  pub finds : DeclaredAs (model_domain (all_decls E) q) E.finds (tables_of_side finds_side ps os)
