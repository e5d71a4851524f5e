use Rattle.std.proofs.Common.{refl, ap, ◌∙◌, ◌+◌}
use Rattle.ess_core_nodes.specs.NodeViews.{pure_node}
use Rattle.ess_node_types.specs.TypedNames.{pure_names}
use Rattle.conjure_model_laws.specs.ToldApart.{reserved}
use Rattle.ess_rules.specs.Ruled.{reserved_from, first_asked, later_asked}
use Rattle.ess_rules.proofs.Turned.{turned_by, turned_sourced, turned_behind}
use Rattle.ess_rules.proofs.NoneFires.{none_fire}
use Rattle.ess_rules.proofs.turns.rule_at.Goals as goal

pub returns-in-Some : goal.returns-in-Some
returns-in-Some c =
    turned_by first_asked c.args.next.now c.component_count-count.result c.in_ok-behind.behind c.in_ok-behind.behind
    (pure_names c.args.names.now) (pure_node c.args.node.now) c.in_ok-one.one c.in_ok-other.other c.in_ok-third.third
    c.as_slice.result.now c.in_ok-new.field-0 c.in-Some.new
    c.in_ok-one.ensures (c.in_ok-other.ensures ∙ ap reserved c.in_ok-counted.ensures)
    (c.in_ok-third.ensures ∙ ap reserved c.in_ok-counted-2.ensures)
    (c.as_slice.ensures ∙ c.in_ok-parts.ensures ∙ ap (λ u. reserved_from u c.component_count-count.result) c.in_ok-from.ensures)
    (c.in_ok-behind.ensures ∙ ap (λ u. u + c.component_count-count.result) c.in_ok-from.ensures)
    c.in_ok-new.ensures c.in-Some.is refl

pub returns-in-Some-2 : goal.returns-in-Some-2
returns-in-Some-2 c =
    turned_sourced c.args.next.now c.component_count-count.result c.in_ok-behind.behind c.of_a_source.new.end
    (pure_names c.args.names.now) (pure_node c.args.node.now) c.in_ok-one.one c.in_ok-other.other c.in_ok-third.third
    c.as_slice.result.now c.in_ok-new-2.field-0 c.in-Some-2.new
    c.in_ok-one.ensures (c.in_ok-other.ensures ∙ ap reserved c.in_ok-counted.ensures)
    (c.in_ok-third.ensures ∙ ap reserved c.in_ok-counted-2.ensures)
    (c.as_slice.ensures ∙ c.in_ok-parts.ensures ∙ ap (λ u. reserved_from u c.component_count-count.result) c.in_ok-from.ensures)
    (c.in_ok-behind.ensures ∙ ap (λ u. u + c.component_count-count.result) c.in_ok-from.ensures)
    c.in_ok-new-2.ensures c.in-Some-2.is

pub returns-in-Some-3 : goal.returns-in-Some-3
returns-in-Some-3 c =
    turned_by later_asked c.args.next.now c.component_count-count.result c.in_ok-behind.behind c.in_ok-behind.behind
    (pure_names c.args.names.now) (pure_node c.args.node.now) c.in_ok-one.one c.in_ok-other.other c.in_ok-third.third
    c.as_slice.result.now c.in_ok-new-3.field-0 c.in-Some-3.new
    c.in_ok-one.ensures (c.in_ok-other.ensures ∙ ap reserved c.in_ok-counted.ensures)
    (c.in_ok-third.ensures ∙ ap reserved c.in_ok-counted-2.ensures)
    (c.as_slice.ensures ∙ c.in_ok-parts.ensures ∙ ap (λ u. reserved_from u c.component_count-count.result) c.in_ok-from.ensures)
    (c.in_ok-behind.ensures ∙ ap (λ u. u + c.component_count-count.result) c.in_ok-from.ensures)
    c.in_ok-new-3.ensures c.in-Some-3.is refl

pub returns-in-Some-4 : goal.returns-in-Some-4
returns-in-Some-4 c =
    turned_behind c.args.next.now c.component_count-count.result c.in_ok-behind.behind c.least_under_a_condition.new.end
    (pure_names c.args.names.now) (pure_node c.args.node.now) c.in_ok-one.one c.in_ok-other.other c.in_ok-third.third
    c.as_slice.result.now c.in_ok-new-4.field-0 c.in-Some-4.new
    c.in_ok-one.ensures (c.in_ok-other.ensures ∙ ap reserved c.in_ok-counted.ensures)
    (c.in_ok-third.ensures ∙ ap reserved c.in_ok-counted-2.ensures)
    (c.as_slice.ensures ∙ c.in_ok-parts.ensures ∙ ap (λ u. reserved_from u c.component_count-count.result) c.in_ok-from.ensures)
    (c.in_ok-behind.ensures ∙ ap (λ u. u + c.component_count-count.result) c.in_ok-from.ensures)
    c.in_ok-new-4.ensures c.in-Some-4.is

pub returns : goal.returns
returns c = (
  refl,
  none_fire c.args.next.now c.component_count-count.result c.in_ok-behind.behind c.of_a_source.new.end c.least_under_a_condition.new.end
      (pure_names c.args.names.now) (pure_node c.args.node.now) c.in_ok-one.one c.in_ok-other.other c.in_ok-third.third
      c.as_slice.result.now c.in_ok-new.field-0 c.in_ok-new-2.field-0 c.in_ok-new-3.field-0 c.in_ok-new-4.field-0
      c.in_ok-one.ensures (c.in_ok-other.ensures ∙ ap reserved c.in_ok-counted.ensures)
      (c.in_ok-third.ensures ∙ ap reserved c.in_ok-counted-2.ensures)
      (c.as_slice.ensures ∙ c.in_ok-parts.ensures ∙ ap (λ u. reserved_from u c.component_count-count.result) c.in_ok-from.ensures)
      (c.in_ok-behind.ensures ∙ ap (λ u. u + c.component_count-count.result) c.in_ok-from.ensures)
      c.in_ok-new.ensures c.in_default.is c.in_ok-new-2.ensures c.in_default-2.is c.in_ok-new-3.ensures c.in_default-3.is
      c.in_ok-new-4.ensures c.in_default-4.is,
)
