use Rattle.std.proofs.Common.{◌≡◌, ◌++◌, [], map, drop}
use Rattle.ess_core.specs.TableViews.{pure_decl}
use Rattle.ess_repr_declare_laws.specs.DeclaredTrees.{named_trees}
use Rattle.ess_repr.specs.Fronts.{decl_text}
use Rattle.ess_repr.proofs.declaring.with_free_names.Given as goal

abbrev pub invariant-loop-table : goal.invariant-loop-table
invariant-loop-table l =
    map pure_decl l.named ++ named_trees [] (map pure_decl (drop l.table-index l.tables)) (map decl_text l.named ++ l.taken)
    ≡ named_trees [] (map pure_decl l.tables) l.taken
