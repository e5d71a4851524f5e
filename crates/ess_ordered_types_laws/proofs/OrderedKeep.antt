-- Rules of comprehensions whose items have an order keep types and marks.
use Rattle.std.proofs.Common.{◌≡◌, subst, Some}
use Rattle.ess_semantics.specs.Names.{Names}
use Rattle.ess_semantics.specs.Trees.{Ex}
use Rattle.ess_semantics.specs.Types.{Ty}
use Rattle.ess_refine_laws.specs.AllRules.{Supply}
use Rattle.ess_ordered_laws.specs.OrderedRules.{OrderedRule, an_item, of_an_item, source_by_indices, source_of_an_item, ordered_rewrite}
use Rattle.ess_open_types_laws.proofs.TypesBehind.{KeepsBoth, BothKept}
use Rattle.ess_ordered_types_laws.specs.OrderedTyped.{OrderedTyped, OrderedMarked, OrderedRulesKeepTypes, OrderedRulesKeepMarks}
use Rattle.ess_ordered_types_laws.proofs.SourcesTyped.{by-indices, of-an-item}
use Rattle.ess_ordered_types_laws.proofs.ItemsTyped.{item-alone, over-item}

each-keeps : (s : Supply) (g : Names Ty) (r : OrderedRule) (e : Ex) → OrderedTyped s g r e →
    BothKept g (OrderedMarked s g r e) e (ordered_rewrite s g r e)
each-keeps s g an_item e h = item-alone s g e h
each-keeps s g of_an_item e h = over-item s g e h
each-keeps s g source_by_indices e h = by-indices s g e h
each-keeps s g source_of_an_item e h = of-an-item s g e h

answered : (s : Supply) (g : Names Ty) (r : OrderedRule) (e f : Ex) → ordered_rewrite s g r e ≡ Some f →
    OrderedTyped s g r e → KeepsBoth g (OrderedMarked s g r e) e f
answered s g r e f q h = subst (λ z. BothKept g (OrderedMarked s g r e) e z) q (each-keeps s g r e h)

-- Types stay.
pub ordered-rules-keep-types : OrderedRulesKeepTypes
ordered-rules-keep-types s g r e f q h = (answered s g r e f q h).0

-- And marks.
pub ordered-rules-keep-marks : OrderedRulesKeepMarks
ordered-rules-keep-marks s g r e f q h w t p m = (answered s g r e f q h).1 w t p m
