use Rattle.std.proofs.Common.{◌≡◌, map, drop}
use Rattle.ess_core.specs.TreeViews.{pure_pat, pats_of}
use Rattle.ess_guard_laws.specs.Origins.{with_all_any}
use Rattle.ess_guard_forms.specs.KnownNames.{pure_known}
use Rattle.ess_guard_forms.proofs.known.+bind.Given as goal

abbrev pub invariant-bind_all_any-loop-pat : goal.invariant-bind_all_any-loop-pat
invariant-bind_all_any-loop-pat l = with_all_any (pats_of (map pure_pat (drop l.pat-index l.pats))) (pure_known l.known)
    ≡ with_all_any (pats_of (map pure_pat l.pats)) (pure_known l.initial.known)
