use Rattle.std.proofs.Common.{◌≡◌, map, drop}
use Rattle.ess_semantics.specs.Types.{parts_of_ty, bind_all_types}
use Rattle.ess_core.specs.TypeViews.{pure_ty}
use Rattle.ess_core.specs.TreeViews.{pure_pat, pats_of}
use Rattle.ess_types_operators.specs.Parts.{tys_from, newest_first}
use Rattle.ess_types_operators.proofs.patterns.+bind_types.Given as goal

abbrev pub invariant-bind_parts-loop-i : goal.invariant-bind_parts-loop-i
invariant-bind_parts-loop-i l =
    bind_all_types (pats_of (map pure_pat l.pats)) (parts_of_ty (pure_ty l.ty)) (newest_first l.initial.names)
    ≡ bind_all_types (pats_of (map pure_pat (drop l.i l.pats))) (tys_from l.i (parts_of_ty (pure_ty l.ty))) (newest_first l.names)
