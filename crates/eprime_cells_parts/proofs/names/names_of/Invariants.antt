use Rattle.std.proofs.Common.{◌≡◌, take}
use Rattle.eprime_cells_parts.specs.DeclaredNames.{declared_names}
use Rattle.eprime_cells_parts.proofs.names.names_of.Given as goal

abbrev pub invariant-loop-decl : goal.invariant-loop-decl
invariant-loop-decl l = l.names ≡ declared_names (take l.decl-index l.decls)
