use Rattle.std.proofs.Common.{◌≡◌, map, drop, take, length}
use Rattle.ess_semantics.specs.Meaning.{bind_all}
use Rattle.ess_core.specs.ValueViews.{pure_val}
use Rattle.ess_core.specs.TableViews.{pure_bindings}
use Rattle.ess_core.specs.TreeViews.{pure_pat, pats_of}
use Rattle.ess_eval.proofs.patterns.+bind.Given as goal

abbrev pub invariant-bind_all-loop-index : goal.invariant-bind_all-loop-index
invariant-bind_all-loop-index l = record {
  left : bind_all (pats_of (map pure_pat (drop l.index l.pats))) (map pure_val (drop l.index l.parts)) (pure_bindings l.bound)
      ≡ bind_all (pats_of (map pure_pat l.pats)) (map pure_val l.parts) (pure_bindings l.initial.bound);
  kept : take (length l.initial.bound) l.bound ≡ l.initial.bound;
}
