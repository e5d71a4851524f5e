-- Trees of a membership pick nothing, and run over no source by its indices, nor over an item: so no rule of comprehensions whose items
-- have an order fires at a part of one.
use Rattle.std.specs.Prelude.{◌≡◌, None}
use Rattle.ess_semantics.specs.Values.{Text}
use Rattle.ess_semantics.specs.Names.{Names}
use Rattle.ess_semantics.specs.Trees.{Ex, Dom}
use Rattle.ess_semantics.specs.Types.{Ty}
use Rattle.ess_refine_laws.specs.AllRules.{Supply}
use Rattle.ess_member_trees_laws.specs.Memberships.{Literal, Axis, Part}
use Rattle.ess_ordered_laws.specs.OrderedRules.{OrderedRule, ordered_rewrite}

abbrev pub MembershipsHaveNoOrder : Type 0
MembershipsHaveNoOrder = (n : Text) (A : Dom) (L : Ex) → Axis A → Literal L → (s : Supply) (g : Names Ty) (r : OrderedRule) (a : Ex) →
    Part n A L g a → ordered_rewrite s g r a ≡ None
