-- Each rule of comprehensions whose items have an order, or are counted, that fires is one of all rules.
use Rattle.std.proofs.Common.{◌≡◌, refl, sym, ap, ◌∙◌, List, Option, Some, None}
use Rattle.std.specs.Prelude.{option_map}
use Rattle.ess_semantics.specs.Names.{Names}
use Rattle.ess_semantics.specs.Trees.{Ex}
use Rattle.ess_semantics.specs.Types.{Ty}
use Rattle.ess_core_nodes.specs.declared.nodes.Node.{Node}
use Rattle.ess_core_nodes.specs.NodeViews.{pure_node}
use Rattle.ess_refine_laws.specs.AllRules.{Supply}
use Rattle.ess_ordered_laws.specs.IndexedSources.{indexed_behind}
use Rattle.ess_ordered_laws.specs.OrderedRules.{OrderedRule, source_by_indices, ordered_rewrite}
use Rattle.ess_numbered_laws.specs.NumberRules.{NumberRule, number_rewrite}
use Rattle.ess_rules_ordered.specs.Supplies.{supply_with}
use Rattle.ess_rules_ordered.proofs.SuppliesAlike.{takes-four}
use Rattle.ess_rules_numbered.proofs.NumbersAlike.{numbers-take_four}
use Rattle.ess_kind_rules.proofs.NoneOfKinds.{none_fires}
use Rattle.ess_rules.specs.Ruled.{Ruling, in_order, by_number, MayRule}
use Rattle.ess_rules.specs.Supplies.{IsRewritten}

-- One that takes four parts of the supply.
pub ruled_in_order : (asked : List Ruling) (s : Supply) (g : Names Ty) (r : OrderedRule) (a : Ex) (o : Option Node) (x : Node)
    → option_map pure_node o ≡ ordered_rewrite (supply_with s.one s.other s.third s.parts) g r a → o ≡ Some x
    → IsRewritten asked s g a (Some (pure_node x))
ruled_in_order asked s g r a o x h e =
    (in_order r, sym (h ∙ takes-four s g r a) ∙ ap (option_map pure_node) e, λ j. refl, tt, refl)

-- That of sources, which takes one.
pub ruled_by_indices : (asked : List Ruling) (s : Supply) (g : Names Ty) (a : Ex) (o : Option Node) (x : Node)
    → option_map pure_node o ≡ indexed_behind g s.one a → o ≡ Some x → IsRewritten asked s g a (Some (pure_node x))
ruled_by_indices asked s g a o x h e = (in_order source_by_indices, sym h ∙ ap (option_map pure_node) e, λ j. refl, tt, refl)

-- One by the numbers of items, which takes four.
pub ruled_by_number : (asked : List Ruling) (s : Supply) (g : Names Ty) (r : NumberRule) (a : Ex) (o : Option Node) (x : Node)
    → option_map pure_node o ≡ number_rewrite (supply_with s.one s.other s.third s.parts) g r a → o ≡ Some x
    → IsRewritten asked s g a (Some (pure_node x))
ruled_by_number asked s g r a o x h e =
    (by_number r, sym (h ∙ numbers-take_four s g r a) ∙ ap (option_map pure_node) e, λ j. refl, tt, refl)

-- ---- where the code answers nothing the rule doesn't fire

module _ {T : Type 0} (s : Supply) (g : Names Ty) where
  -- One that takes four parts of the supply, and those behind it.
  pub none_in_order : (r : OrderedRule) (a : Ex) (o : Option Node)
      → option_map pure_node o ≡ ordered_rewrite (supply_with s.one s.other s.third s.parts) g r a → o ≡ None → T
      → (MayRule g (in_order r) a → ordered_rewrite s g r a ≡ None) × T
  none_in_order r a o h e t = (λ m. none_fires o (h ∙ takes-four s g r a) e, t)

  -- One by the numbers of items.
  pub none_by_number : (r : NumberRule) (a : Ex) (o : Option Node)
      → option_map pure_node o ≡ number_rewrite (supply_with s.one s.other s.third s.parts) g r a → o ≡ None → T
      → (MayRule g (by_number r) a → number_rewrite s g r a ≡ None) × T
  none_by_number r a o h e t = (λ m. none_fires o (h ∙ numbers-take_four s g r a) e, t)
