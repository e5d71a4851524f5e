use Rattle.std.proofs.Common.{ap, ◌∙◌}
use Rattle.ess_translate_header.specs.Views.{are_left}
use Rattle.ess_translate_header.proofs.NamesFit.{left_more, left_fails, left_all}
use Rattle.ess_translate_header.proofs.represented.are_reprs_of.Goals as goal

pub returns-in-None : goal.returns-in-None
returns-in-None c =
    left_fails _ _ _ _ _ c.stm-item.is c.loop-stm-test.true c.loop-stm.invariant
    (λ xs. c.behind_statement.ensures xs ∙ ap (are_left xs) c.in-None.is)

pub loop-stm-preserved : goal.loop-stm-preserved
loop-stm-preserved c =
    left_more _ _ _ _ _ _ c.stm-item.is c.loop-stm-test.true c.loop-stm.invariant
    (λ xs. c.behind_statement.ensures xs ∙ ap (are_left xs) c.in-Some.is)

pub returns : goal.returns
returns c = c.is_empty.ensures ∙ left_all _ _ _ _ c.loop-stm-test.false c.loop-stm.invariant
