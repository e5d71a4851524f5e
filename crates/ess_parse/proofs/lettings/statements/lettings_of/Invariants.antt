use Rattle.std.proofs.Common.{◌≡◌, ◌++◌, map, length}
use Rattle.std.specs.Vec.Iter.{into_iter_items, into_iter_len}
use Rattle.ess_core.specs.StatementViews.{pure_stm}
use Rattle.ess_parse.specs.LettingViews.{pure_letting}
use Rattle.ess_parse.proofs.lettings.statements.lettings_of.Given as goal

abbrev pub invariant-loop-stm : goal.invariant-loop-stm
invariant-loop-stm l =
    record {
      can : (goal.iterator-loop-stm).can_next l.stm-iterator;
      finite : (goal.iterator-loop-stm).is_finite l.stm-iterator;
      lengths : into_iter_len l.stm-iterator ≡ length (into_iter_items l.stm-iterator);
      kept : map pure_letting l.list ++ map pure_stm (into_iter_items l.stm-iterator) ≡ map pure_stm l.fn.stms;
    }
