use Rattle.std.proofs.Common.{◌≡◌, ◌++◌, map, take}
use Rattle.eprime_eval.proofs.knowing.add_names.Given as goal

abbrev pub invariant-loop-decl : goal.invariant-loop-decl
invariant-loop-decl l = l.names ≡ l.initial.names ++ map (λ d. d.name) (take l.decl-index l.decls)
