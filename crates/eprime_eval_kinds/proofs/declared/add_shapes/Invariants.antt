use Rattle.std.proofs.Common.{◌≡◌, ◌++◌, map, take}
use Rattle.eprime_eval_kinds.specs.Shapes.{decl_shape}
use Rattle.eprime_eval_kinds.proofs.declared.add_shapes.Given as goal

abbrev pub invariant-loop-decl : goal.invariant-loop-decl
invariant-loop-decl l = l.shapes ≡ l.initial.shapes ++ map decl_shape (take l.decl-index l.decls)
