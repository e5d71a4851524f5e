-- Rules of comprehensions whose items have an order: of their items by number, and of their sources by indices.
use Rattle.std.specs.Prelude.{ℕ, Bool, true, ◌&&◌, not, List, Option, None, if◌then◌else◌}
use Rattle.ess_semantics.specs.Lists.{and_then, or_else}
use Rattle.ess_semantics.specs.Names.{Names}
use Rattle.ess_semantics.specs.Trees.{Ex, node_ex}
use Rattle.ess_semantics.specs.Types.{Ty}
use Rattle.ess_semantics.specs.Typing.{type_of}
use Rattle.ess_semantics.specs.ExpressionJudgements.{forgets_order}
use Rattle.ess_rules_laws.specs.LiteralRules.{nth}
use Rattle.ess_rules_laws.specs.Listings.{Alternative}
use Rattle.ess_rules_laws.specs.AlternativeLookups.{select_each, select_whole_each}
use Rattle.ess_refine_laws.specs.AllRules.{Supply}
use Rattle.ess_open_rules_laws.specs.OpenRules.{gives_scalar, is_compound_ty}
use Rattle.ess_ordered_laws.specs.NumberedItems.{ordered_lookup}
use Rattle.ess_ordered_laws.specs.IndexedSources.{indexed_behind}
use Rattle.ess_ordered_laws.specs.PickedSources.{picked_source}
use Rattle.ess_ordered_laws.specs.SourcesOfItems.{over_an_item}

-- The rules, by what they rewrite.
pub data OrderedRule : Type 0 where
  -- A scalar that is an item, or is picked out of one; an operator on a compound one.
  an_item of_an_item : OrderedRule
  -- A source: by its indices, and one that is an item.
  source_by_indices source_of_an_item : OrderedRule

-- A picked scalar by itself.
abbrev pub item_alone : Supply → Names Ty → Ex → Option Ex
item_alone s g e =
    and_then (ordered_lookup s.third s.parts e) (λ l. if gives_scalar g e then select_whole_each s.one l e else None)

-- Whether order counts in the operands of the root. Words that forget it have rules of sources of their own.
abbrev pub keeps_order : Ex → Bool
keeps_order (node_ex b op es) = not (forgets_order op)
keeps_order e = true

-- What an operand t of e offers in order: what is picked out of an item, or a comprehension over what is picked, where order counts.
abbrev pub operand_lookup : Supply → Names Ty → Ex → Ex → Option (List Alternative)
operand_lookup s g e t = or_else (ordered_lookup s.third s.parts t) (if keeps_order e then picked_source s g t else None)

-- A scalar root over its k-th operand t, which is such a one and compound.
abbrev pub over_operand : Supply → Names Ty → ℕ → Ex → Ex → Option Ex
over_operand s g k e t = and_then (operand_lookup s g e t)
    (λ l. if gives_scalar g e && is_compound_ty (type_of t g) then select_each s.one k l e else None)

-- The same where there is such an operand.
abbrev pub at_operand : Supply → Names Ty → ℕ → Ex → Option Ex
at_operand s g k (node_ex b op es) = and_then (nth es k) (over_operand s g k (node_ex b op es))
at_operand s g k e = None

-- What the rule makes of the root, where it fires. An operator has at most two operands that a container can be.
abbrev pub ordered_rewrite : Supply → Names Ty → OrderedRule → Ex → Option Ex
ordered_rewrite s g an_item e = item_alone s g e
ordered_rewrite s g of_an_item e = or_else (at_operand s g 1 e) (at_operand s g 2 e)
ordered_rewrite s g source_by_indices e = indexed_behind g s.one e
ordered_rewrite s g source_of_an_item e = over_an_item s e
