use Rattle.std.proofs.Common.{◌≡◌, map, take}
use Rattle.ess_semantics.specs.DeclaredTables.{decl_name}
use Rattle.ess_core.specs.TableViews.{pure_decl}
use Rattle.ess_translate_plans.specs.Views.{pure_table_name}
use Rattle.ess_translate_plans.proofs.naming.table_list.Given as goal

abbrev pub invariant-loop-decl : goal.invariant-loop-decl
invariant-loop-decl l = map pure_table_name l.names ≡ map decl_name (map pure_decl (take l.decl-index l.decls))
