use Rattle.std.proofs.Common.{sym, ap, ◌∙◌, subst, map, option_map}
use Rattle.ess_semantics.specs.Contexts.{Each}
use Rattle.ess_semantics.specs.Plans.{finds_side, plans_for, values_stood_for}
use Rattle.ess_semantics.specs.Solutions.{finds}
use Rattle.conjure_laws.specs.Premises.{here}
use Rattle.ess_core.specs.StatementViews.{pure_stm}
use Rattle.ess_core.specs.TableViews.{pure_named_table}
use Rattle.ess_eval_domains.specs.ClosedViews.{pure_closed}
use Rattle.ess_domains.specs.Assignments.{pure_assignment}
use Rattle.ess_translate_plans.specs.Views.{pure_plan}
use Rattle.ess_translate_values_laws.specs.ReadyPlans.{IsReady}
use Rattle.ess_translate_files.specs.Wholes.{file_header}
use Rattle.ess_translate_files.proofs.Solved.{finds_of_file_ready}
use Rattle.ess_translate_solutions.proofs.solutions.values_in.Goals as goal

-- src/solutions.rt
pub returns-in-Ok-clause-ok : goal.returns-in-Ok-clause-ok
returns-in-Ok-clause-ok c =
    let S = (file_header c.args.file.now).statements in
    let o = (file_header c.args.file.now).reprs in
    let p = pure_assignment c.args.given.now.param in
    let names = c.as_slice-4.ensures ∙ c.in_ok-names.ensures ∙ ap (λ s. finds (map pure_stm s)) c.as_slice.ensures in
    let ready = finds_of_file_ready c.args.file.now c.args.given.now c.args.found.now c.requires.whole c.requires.given
    c.requires.satisfied in
    c.in-Ok.ensures S o p (ap (map pure_plan) c.as_slice-2.ensures ∙ c.requires.whole.plans)
    (ap (map (option_map pure_closed)) c.as_slice-3.ensures ∙ c.requires.given.closed) names
    (subst (λ l. Each (plans_for finds_side S o) (IsReady (here S p) (map pure_named_table l))) (sym c.as_slice-5.ensures) ready)
    ∙ ap (λ l. values_stood_for S o p (map pure_named_table l)) c.as_slice-5.ensures
