use Rattle.std.proofs.Common.{map, option_map}
use Rattle.ess_core.specs.TableViews.{pure_named_table}
use Rattle.ess_eval_domains.specs.ClosedViews.{pure_closed}
use Rattle.eprime_tree.specs.Views.{pure_model}
use Rattle.ess_translate_plans.specs.Views.{pure_plan}
use Rattle.ess_translate_members.proofs.DeclaredSides.{by_sides, with_given_alone}
use Rattle.ess_translate_members.proofs.declaring.declares_members.Goals as goal

pub returns-in-Ok-clause-ok : goal.returns-in-Ok-clause-ok
returns-in-Ok-clause-ok c H p a o =
    by_sides H (pure_model c.args.model.now) p (map pure_named_table c.args.given.now) (map pure_plan c.args.plans.now)
    (map (option_map pure_closed) c.args.closed.now) c.in-Ok.declared a o
    (c.in-Ok.ensures.ok (map pure_named_table c.args.given.now)
    (with_given_alone c.in_ok-under.under c.args.model.now c.args.given.now (rw
    (c.as_slice.ensures, c.as_slice-2.ensures) at c.in_ok-under.ensures)))
