-- Whether some number on the way to the meaning of a model lies outside 64 bits: in a declared domain over the given tables,
-- and in the objective and the constraints over given and found ones.
use Rattle.std.specs.Prelude.{Bool, false, ◌||◌, List, [], ◌++◌}
use Rattle.std.specs.List.{list_any}
use Rattle.ess_semantics.specs.DeclaredTables.{TableDecl}
use Rattle.ess_semantics.specs.Names.{Names}
use Rattle.ess_semantics.specs.Trees.{Ex, Dom}
use Rattle.ess_semantics.specs.Tables.{Table}
use Rattle.ess_semantics.specs.Large.{is_large, is_large_dom}
use Rattle.ess_semantics.specs.ModelTrees.{Goal, no_goal, least, greatest, Model, all_decls}
use Rattle.ess_semantics.specs.ModelMeaning.{kinded, kinded_dom, env_of_tables}

-- Whether an expression has a number outside 64 bits over the tables c, under the declarations ds.
abbrev pub ex_is_large : List TableDecl → Names Table → Ex → Bool
ex_is_large ds c e = is_large (kinded ds e []).0 (env_of_tables c)

-- The same of a declared domain.
abbrev pub dom_is_large : List TableDecl → Names Table → Dom → Bool
dom_is_large ds c d = is_large_dom (kinded_dom ds d []) (env_of_tables c)

-- The same of a declaration.
abbrev pub decl_is_large : List TableDecl → Names Table → TableDecl → Bool
decl_is_large ds c d = list_any (dom_is_large ds c) d.axes || dom_is_large ds c d.cell

-- The same of an objective.
abbrev pub goal_is_large : List TableDecl → Names Table → Goal → Bool
goal_is_large ds c no_goal = false
goal_is_large ds c (least e) = ex_is_large ds c e
goal_is_large ds c (greatest e) = ex_is_large ds c e

-- Some declared domain has a number outside 64 bits over the given tables.
abbrev pub declares_large : Model → Names Table → Bool
declares_large E q = list_any (decl_is_large (all_decls E) q) (all_decls E)

-- Some declared domain, the objective or a constraint has one over the given tables q and the found tables c.
abbrev pub model_is_large : Model → Names Table → Names Table → Bool
model_is_large E q c = declares_large E q || goal_is_large (all_decls E) (q ++ c) E.goal || list_any (ex_is_large (all_decls E) (q ++ c)) E.rules
