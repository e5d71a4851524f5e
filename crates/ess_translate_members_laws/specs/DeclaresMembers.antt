-- Whether a model declares the members of its header's tables under a parameter.
use Rattle.ess_semantics.specs.Names.{Names}
use Rattle.ess_semantics.specs.Tables.{Table}
use Rattle.ess_semantics.specs.Assignments.{Assignment}
use Rattle.ess_semantics.specs.DeclaredTables.{DeclaredAs}
use Rattle.ess_semantics.specs.ModelTrees.{Header, Model, all_decls}
use Rattle.ess_semantics.specs.ModelMeaning.{model_domain}
use Rattle.ess_semantics.specs.Plans.{givens_side, finds_side, declared_under}

-- The declared axes and cell domains have, over the given tables q, the members that the header's tables have under the
-- parameter p.
pub record DeclaresMembers (H : Header) (E : Model) (p : Assignment) (q : Names Table) : Type 0 where
  pub givens : DeclaredAs (model_domain (all_decls E) q) E.givens (declared_under givens_side H.statements H.reprs p)
  pub finds : DeclaredAs (model_domain (all_decls E) q) E.finds (declared_under finds_side H.statements H.reprs p)
