use Rattle.std.proofs.Common.{◌≡◌, [], ◌∷◌}
use Rattle.std.proofs.lemmas.Result.{IfOk-weaker}
use Rattle.ess_semantics.specs.Trees.{both_ends, one_value, no_exs, more_exs, int_dom}
use Rattle.ess_core.specs.TreeViews.{pure_ex, pure_dom}
use Rattle.ess_repr_declare_laws.specs.SizeTerms.{next_ex}
use Rattle.ess_repr_declare_laws.specs.DeclaredTrees.{with_dummy as with_dummy_dom}
use Rattle.ess_repr.proofs.CellDomains.{dummy_here}
use Rattle.ess_repr.proofs.cells.dummy_of_bounds.Goals as goal

pub returns-in-Some-high : goal.returns-in-Some-high
returns-in-Some-high c =
    IfOk-weaker c.with_end.result
    (λ d. pure_dom d
    ≡ int_dom (both_ends ∷ one_value ∷ [])
    (more_exs (pure_ex c.in-Some.low) (more_exs (pure_ex c.in-Some-high.high) (more_exs (next_ex (pure_ex c.in-Some-high.high)) no_exs))))
    (λ d. pure_dom d ≡ with_dummy_dom (pure_dom c.args.dom.now))
    (λ d e. dummy_here (pure_dom c.args.dom.now) (pure_dom d) c.args.low.now c.args.high.now c.in-Some.low c.in-Some-high.high
    c.in-Some.is c.in-Some-high.is c.requires e)
    c.with_end.ensures
