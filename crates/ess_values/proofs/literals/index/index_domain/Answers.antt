use Rattle.std.proofs.Common.{sym, ap, ◌∙◌}
use Rattle.ess_core.specs.TreeViews.{pure_dom}
use Rattle.ess_core.specs.TableViews.{pure_env}
use Rattle.ess_core.proofs.DomainEquations.{pure_bool, pure_int}
use Rattle.ess_values.specs.TypedLiterals.{index_of}
use Rattle.ess_values.specs.Literals.{pure_int_dom}
use Rattle.ess_values.proofs.literals.index.index_domain.Goals as goal

pub returns-in_ok-booleans-in-Bool : goal.returns-in_ok-booleans-in-Bool
returns-in_ok-booleans-in-Bool c =
    let env = pure_env c.args.env.now in
    c.in_ok-booleans-in-Bool.ensures env ∙ ap (λ d. index_of d c.args.count env) (sym (ap pure_dom c.in-Bool.is ∙ pure_bool))

pub returns-in_ok-numbers-in-Int : goal.returns-in_ok-numbers-in-Int
returns-in_ok-numbers-in-Int c =
    let env = pure_env c.args.env.now in
    c.in_ok-numbers-in-Int.ensures env ∙ ap (λ rs. index_of (pure_int_dom rs) c.args.count env) c.as_slice.ensures
    ∙ ap (λ d. index_of d c.args.count env) (sym (ap pure_dom c.in-Int.is ∙ pure_int c.in-Int.ranges))
