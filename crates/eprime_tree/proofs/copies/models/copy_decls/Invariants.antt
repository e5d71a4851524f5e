use Rattle.std.proofs.Common.{◌≡◌, take}
use Rattle.eprime_tree.proofs.copies.models.copy_decls.Given as goal

abbrev pub invariant-loop-decl : goal.invariant-loop-decl
invariant-loop-decl l = l.copies ≡ take l.decl-index l.decl-items
