-- What a rule of ordered comprehensions makes depends on four parts of a supply alone.
use Rattle.std.proofs.Common.{◌≡◌, refl}
use Rattle.ess_semantics.specs.Names.{Names}
use Rattle.ess_semantics.specs.Trees.{Ex, node_ex}
use Rattle.ess_semantics.specs.Types.{Ty}
use Rattle.ess_refine_laws.specs.AllRules.{Supply}
use Rattle.ess_ordered_laws.specs.OrderedRules.{OrderedRule, an_item, of_an_item, source_by_indices, source_of_an_item, ordered_rewrite}
use Rattle.ess_rules_ordered.specs.Supplies.{supply_with}

-- So it makes the same with whatever else stands in it.
pub takes-four : (s : Supply) (g : Names Ty) (r : OrderedRule) (e : Ex)
    → ordered_rewrite (supply_with s.one s.other s.third s.parts) g r e ≡ ordered_rewrite s g r e
takes-four s g an_item e = refl
takes-four s g source_by_indices e = refl
takes-four s g of_an_item (node_ex b op es) = refl
takes-four s g of_an_item e = refl
takes-four s g source_of_an_item e = refl
