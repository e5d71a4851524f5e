use Rattle.std.proofs.Common.{◌≡◌, ◌-◌, ◌++◌, map, drop, length}
use Rattle.ess_semantics.specs.Types.{named_ty}
use Rattle.ess_types_names.specs.Tables.{pure_declared}
use Rattle.ess_types_entering.proofs.statements.declare_values.Given as goal

abbrev pub invariant-loop-k : goal.invariant-loop-k
invariant-loop-k l = record {
  bound : l.table.bound ≡ l.initial.table.bound;
  done : pure_declared l.table.declared
      ≡ map (λ n. (n, named_ty l.name)) (drop (length l.values - l.k) l.values) ++ pure_declared l.initial.table.declared;
}
