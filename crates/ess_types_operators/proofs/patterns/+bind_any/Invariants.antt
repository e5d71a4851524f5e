use Rattle.std.proofs.Common.{◌≡◌, map, drop}
use Rattle.ess_semantics.specs.Types.{no_tys, bind_all_types}
use Rattle.ess_core.specs.TreeViews.{pure_pat, pats_of}
use Rattle.ess_types_operators.specs.Parts.{newest_first}
use Rattle.ess_types_operators.proofs.patterns.+bind_any.Given as goal

abbrev pub invariant-bind_each_any-loop-pat : goal.invariant-bind_each_any-loop-pat
invariant-bind_each_any-loop-pat l =
    bind_all_types (pats_of (map pure_pat l.pats)) no_tys (newest_first l.initial.names)
    ≡ bind_all_types (pats_of (map pure_pat (drop l.pat-index l.pats))) no_tys (newest_first l.names)
