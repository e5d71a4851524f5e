use Rattle.std.proofs.Common.{sym, ap, ◌≡◌, ◌∙◌, ◌<◌, ◌≤◌, length, arith}
use Rattle.std.proofs.lemmas.Bool.{lt-leb}
use Rattle.ess_semantics.specs.Trees.{tuple_dom}
use Rattle.ess_core.specs.TreeViews.{pure_dom, pure_doms}
use Rattle.ess_core.proofs.DomainEquations.{pure_tuple}
use Rattle.ess_print_laws.specs.Brackets.{begins_as_attributes}
use Rattle.ess_print.proofs.PatternLaws.{tuple-begins, short-begins, none-begins}
use Rattle.ess_print.proofs.brackets.would_begin_attributes.Goals as goal

pub returns-then-len-ge2 : goal.returns-then-len-ge2
returns-then-len-ge2 c =
    let h : 2 ≤ length c.in-Tuple.doms = omega arith in
    tuple-begins c.in-Tuple.doms c.in-Some.first.now c.is_attribute_name.result h c.in-Some.ensures c.is_attribute_name.ensures
    ∙ sym (ap (λ d. begins_as_attributes (pure_dom d)) c.in-Tuple.is ∙ ap begins_as_attributes (pure_tuple c.in-Tuple.doms))

pub returns-else-len-ge2 : goal.returns-else-len-ge2
returns-else-len-ge2 c =
    let h : length c.in-Tuple.doms < 2 = omega arith in
    lt-leb 2 c.len.result c.if-len-ge2.false ∙ short-begins c.in-Tuple.doms h
    ∙ sym (ap (λ d. begins_as_attributes (pure_dom d)) c.in-Tuple.is ∙ ap begins_as_attributes (pure_tuple c.in-Tuple.doms))

pub returns-in-None : goal.returns-in-None
returns-in-None c = none-begins c.in-Tuple.doms c.in-None.ensures ∙ sym (ap (λ d. begins_as_attributes (pure_dom d)) c.in-Tuple.is ∙ ap begins_as_attributes (pure_tuple c.in-Tuple.doms))
