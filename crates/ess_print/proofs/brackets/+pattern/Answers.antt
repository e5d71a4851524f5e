use Rattle.std.proofs.Common.{sym, ap, ◌∙◌}
use Rattle.ess_core.specs.TreeViews.{pure_ex}
use Rattle.ess_core.proofs.ExpressionEquations.{pure_cell}
use Rattle.ess_print_laws.specs.Brackets.{is_written_as_pattern}
use Rattle.ess_print.proofs.PatternLaws.{none-where-empty, pattern-more, pattern-stops, pattern-end}
use Rattle.ess_print.proofs.brackets.+pattern.Goals as goal

pub is_pattern-returns-in-Cell : goal.is_pattern-returns-in-Cell
is_pattern-returns-in-Cell t c =
    none-where-empty c.is_empty.result c.in-Cell.at c.is_empty.ensures
    ∙ sym (ap (λ e. is_written_as_pattern (pure_ex e)) c.in-Cell.is ∙ ap is_written_as_pattern (pure_cell c.in-Cell.field-0 c.in-Cell.field-1 c.in-Cell.at))

pub are_patterns-returns-then-not-is_pattern : goal.are_patterns-returns-then-not-is_pattern
are_patterns-returns-then-not-is_pattern t c =
    pattern-stops c.args.exs.now c.loop-ex.ex-index c.ex-item.result c.loop-ex-test.true c.ex-item.is c.loop-ex.invariant c.if-not-is_pattern.ensures

pub are_patterns-loop-ex-preserved : goal.are_patterns-loop-ex-preserved
are_patterns-loop-ex-preserved t c =
    pattern-more c.args.exs.now c.loop-ex.ex-index c.ex-item.result c.loop-ex-test.true c.ex-item.is c.loop-ex.invariant c.if-not-is_pattern.ensures

pub are_patterns-returns : goal.are_patterns-returns
are_patterns-returns t c = pattern-end c.args.exs.now c.loop-ex.ex-index c.loop-ex-test.false c.loop-ex.invariant
