use Rattle.std.proofs.Common.{◌≡◌, [], ◌∷◌, option_map}
use Rattle.std.proofs.lemmas.Result.{IfOk-weaker}
use Rattle.ess_core.specs.TreeViews.{exs_of, span, pure_ex}
use Rattle.ess_repr_declare_laws.specs.SizeTerms.{between_ex, count_ex}
use Rattle.ess_repr.proofs.SizeSteps.{span_both}
use Rattle.ess_repr.proofs.sizes.span_count.Goals as goal

pub returns-in-Some-high : goal.returns-in-Some-high
returns-in-Some-high c =
    IfOk-weaker c.between.result (λ e. pure_ex e ≡ between_ex (pure_ex c.in-Some.low) (pure_ex c.in-Some-high.high))
    (λ e. pure_ex e
    ≡ count_ex ((span (option_map pure_ex c.args.low.now) (option_map pure_ex c.args.high.now)).0 ∷ [])
    (exs_of (span (option_map pure_ex c.args.low.now) (option_map pure_ex c.args.high.now)).1))
    (λ e p. span_both c.args.low.now c.args.high.now c.in-Some.low c.in-Some-high.high (pure_ex e) c.in-Some.is c.in-Some-high.is p)
    c.between.ensures
