use Rattle.std.proofs.Common.{ap, ◌∙◌, map}
use Rattle.ess_semantics.specs.Plans.{plans}
use Rattle.ess_translate_members_laws.specs.PlanDomains.{plan_closed}
use Rattle.ess_translate_files.specs.Wholes.{file_header}
use Rattle.ess_translate_files.proofs.givens.given_by.Goals as goal

-- src/givens.rt
pub returns-clause-holds : goal.returns-clause-holds
returns-clause-holds c =
    let H = file_header c.args.file.now in
    record {
      env = c.in_ok-env.ensures.ok;
      closed = c.in-Ok.ensures.ok ∙ ap (λ v. map (plan_closed v) (plans H.statements H.reprs)) c.in_ok-env.ensures.ok;
      has = c.in_ok-tables.ensures.ok;
    }
