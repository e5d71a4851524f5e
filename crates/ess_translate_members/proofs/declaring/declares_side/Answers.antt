use Rattle.std.proofs.Common.{rules, map, option_map}
use Rattle.ess_eval_domains.specs.ClosedViews.{pure_closed}
use Rattle.ess_translate_plans.specs.Views.{pure_side, pure_plan}
use Rattle.ess_translate_members_laws.specs.PlanDomains.{tables_of_side}
use Rattle.ess_translate_members.proofs.DeclaredSides.{side_decided, side_undefined}
use Rattle.ess_translate_members.proofs.declaring.declares_side.Goals as goal

pub returns-in-Ok-are_declared-clause-ok : goal.returns-in-Ok-are_declared-clause-ok
returns-in-Ok-are_declared-clause-ok c =
    side_decided c.args.under.now c.args.decls.now c.in-Ok.tables
    (tables_of_side (pure_side c.args.side) (map pure_plan c.args.plans.now) (map
    (option_map pure_closed) c.args.closed.now)) c.in-Ok-are_declared.declared
    c.in-Ok.ensures.ok (rw c.as_slice.ensures at c.in-Ok-are_declared.ensures)

pub returns-in-Err-Undefined-clause-ok : goal.returns-in-Err-Undefined-clause-ok
returns-in-Err-Undefined-clause-ok c =
    side_undefined c.args.under.now c.args.decls.now
    (tables_of_side (pure_side c.args.side) (map pure_plan c.args.plans.now) (map (option_map pure_closed) c.args.closed.now))
    (c.closed_tables.ensures.undefined (search rules))
