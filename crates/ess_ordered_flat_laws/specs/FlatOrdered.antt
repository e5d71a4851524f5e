-- Flat trees over cells have no comprehension, so no rule of comprehensions whose items have an order fires at one.
use Rattle.std.specs.Prelude.{◌≡◌, Bool, Option, None}
use Rattle.ess_semantics.specs.Values.{Text}
use Rattle.ess_semantics.specs.Names.{Names}
use Rattle.ess_semantics.specs.Trees.{Ex}
use Rattle.ess_semantics.specs.Types.{Ty}
use Rattle.ess_refine_laws.specs.AllRules.{Supply}
use Rattle.ess_flat_laws.specs.Flat.{Flat, none_marked}
use Rattle.ess_ordered_laws.specs.OrderedRules.{OrderedRule, ordered_rewrite}

abbrev pub FlatTreesHaveNoOrder : Type 0
FlatTreesHaveNoOrder = (cells : Text → Option Bool) (s : Supply) (g : Names Ty) (r : OrderedRule) (e : Ex) (m : Bool) →
    Flat none_marked cells e m → ordered_rewrite s g r e ≡ None
