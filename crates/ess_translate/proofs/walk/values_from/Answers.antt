use Rattle.std.proofs.Common.{sym, ap, ◌∙◌, map, ◌++◌, ◌+◌, drop}
use Rattle.ess_core.specs.StatementViews.{pure_stm}
use Rattle.ess_core.specs.TableViews.{pure_env}
use Rattle.ess_parse.specs.LettingViews.{pure_letting}
use Rattle.ess_domains.specs.Assignments.{pure_assignment, pure_named_value}
use Rattle.ess_semantics.specs.Meaning.{empty_env}
use Rattle.ess_translate_laws.specs.FileAssignments.{values_from}
use Rattle.ess_translate.specs.Sides.{pure_side}
use Rattle.ess_translate.specs.Walks.{declare_large_number}
use Rattle.ess_translate.proofs.Walking.{walk_on, large_on, statements_left}
use Rattle.ess_translate.proofs.walk.values_from.Goals as goal

-- src/walk.rt:63:5
pub loop-stm-preserved : goal.loop-stm-preserved
loop-stm-preserved c =
    let f = pure_side c.args.side in
    let F = map pure_letting c.args.file.now in
    let p = pure_assignment c.args.param.now in
    let s = pure_stm c.stm-item.result in
    let ss = map pure_stm (drop (c.loop-stm.stm-index + 1) c.args.stms.now) in
    let left = statements_left c.args.stms.now c.loop-stm.stm-index c.stm-item.result c.stm-item.is c.loop-stm-test.true in
    record {
      types = c.loop-stm.invariant.types;
      values = ap (λ us. map pure_named_value us ++ values_from f F p ss (pure_env c.go_on_here.new.env)) c.in_ok-append.ensures.ok ∙
          walk_on f F p c.loop-stm.here.types c.loop-stm.vals c.in_ok-here.field-0 s ss (pure_env c.loop-stm.env)
          (pure_env c.go_on_here.new.env)
          (values_from f F p (map pure_stm c.args.stms.now) empty_env)
          c.loop-stm.invariant.types c.in_ok-here.ensures c.in_ok-go_on_here.ensures.ok
          (ap (λ ts. map pure_named_value c.loop-stm.vals ++ values_from f F p ts (pure_env c.loop-stm.env)) (sym left)
          ∙ c.loop-stm.invariant.values);
      large = large_on f F p c.loop-stm.here.types c.in_ok-here.field-0 s ss (pure_env c.loop-stm.env) (pure_env c.go_on_here.new.env)
          (declare_large_number f F p (map pure_stm c.args.stms.now) empty_env)
          c.loop-stm.invariant.types c.in_ok-here.ensures c.in_ok-go_on_here.ensures.ok
          (λ l. c.loop-stm.invariant.large (ap (λ ts. declare_large_number f F p ts (pure_env c.loop-stm.env)) left ∙ l));
    }
