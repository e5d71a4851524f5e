use Rattle.std.proofs.Common.{ap, sym, ◌∙◌, map, Some}
use Rattle.ess_semantics.specs.Domains.{int_members}
use Rattle.ess_semantics.specs.DeclaredTables.{axis_members}
use Rattle.eprime_eval_scalars.specs.Runs.{pure_run}
use Rattle.eprime_eval.specs.ClosedDomains.{pure_closed}
use Rattle.eprime_eval.proofs.MemberLists.{codes}
use Rattle.eprime_eval.proofs.members.numbers_of.Goals as goal

pub returns-in_ok-numbers-in-Numbers : goal.returns-in_ok-numbers-in-Numbers
returns-in_ok-numbers-in-Numbers c =
    codes c.in_ok-numbers-in-Numbers.numbers c.in-Numbers.runs
    (c.in_ok-numbers-in-Numbers.ensures ∙ ap (λ rs. int_members (map pure_run rs)) c.as_slice.ensures)
    ∙ ap (λ d. axis_members (Some (pure_closed d))) (sym c.in-Numbers.is)
