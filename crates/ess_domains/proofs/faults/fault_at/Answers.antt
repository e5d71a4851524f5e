use Rattle.std.proofs.Common.{option_map}
use Rattle.std.specs.Option.{option_copied}
use Rattle.ess_core.specs.ValueViews.{pure_val}
use Rattle.ess_core.specs.TreeViews.{pure_dom}
use Rattle.ess_core.specs.TableViews.{pure_env}
use Rattle.ess_domains.specs.Assignments.{pure_assignment}
use Rattle.ess_domains.proofs.Told.{given_ok}
use Rattle.ess_domains.proofs.faults.fault_at.Goals as goal

pub returns-in-Given-clause-ok : goal.returns-in-Given-clause-ok
returns-in-Given-clause-ok c =
    let e = given_ok c.given_fault.result (pure_assignment c.args.param.now) c.in-Given.name (pure_dom c.get.result.now) (pure_env c.args.env.now)
    (option_map pure_val (option_copied c.value_of.result)) c.value_of.ensures c.given_fault.ensures.ok in
    rw (c.in-Given.is, ← c.get.ensures) e
