use Rattle.std.proofs.Common.{◌≡◌, ◌++◌, map, drop, true}
use Rattle.ess_semantics.specs.Meaning.{empty_env}
use Rattle.ess_core.specs.StatementViews.{pure_stm}
use Rattle.ess_core.specs.TableViews.{pure_env}
use Rattle.ess_parse.specs.LettingViews.{pure_letting}
use Rattle.ess_domains.specs.Assignments.{pure_assignment, pure_named_value, pure_type_names}
use Rattle.ess_translate_laws.specs.FileAssignments.{values_from}
use Rattle.ess_translate.specs.Sides.{pure_side}
use Rattle.ess_translate.specs.Walks.{types_for, declare_large_number}
use Rattle.ess_translate.proofs.walk.values_from.Given as goal

abbrev pub invariant-loop-stm : goal.invariant-loop-stm
invariant-loop-stm l =
    record {
      types : map pure_type_names l.here.types ≡ types_for (pure_side l.side) (map pure_letting l.file);
      values : map pure_named_value l.vals
          ++ values_from (pure_side l.side) (map pure_letting l.file) (pure_assignment l.param) (map pure_stm (drop l.stm-index l.stms))
          (pure_env l.env)
          ≡ values_from (pure_side l.side) (map pure_letting l.file) (pure_assignment l.param) (map pure_stm l.stms) empty_env;
      large : declare_large_number (pure_side l.side) (map pure_letting l.file) (pure_assignment l.param)
          (map pure_stm (drop l.stm-index l.stms)) (pure_env l.env) ≡ true
          → declare_large_number (pure_side l.side) (map pure_letting l.file) (pure_assignment l.param) (map pure_stm l.stms) empty_env
          ≡ true;
    }
