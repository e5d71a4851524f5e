-- Flat trees over cells have no comprehension, so no rule of sources whose items are counted fires at one.
use Rattle.std.specs.Prelude.{◌≡◌, Bool, Option, None}
use Rattle.ess_semantics.specs.Values.{Text}
use Rattle.ess_semantics.specs.Names.{Names}
use Rattle.ess_semantics.specs.Trees.{Ex}
use Rattle.ess_semantics.specs.Types.{Ty}
use Rattle.ess_refine_laws.specs.AllRules.{Supply}
use Rattle.ess_flat_laws.specs.Flat.{Flat, none_marked}
use Rattle.ess_numbered_laws.specs.NumberRules.{NumberRule, number_rewrite}

abbrev pub FlatTreesHaveNoNumbers : Type 0
FlatTreesHaveNoNumbers = (cells : Text → Option Bool) (s : Supply) (g : Names Ty) (r : NumberRule) (e : Ex) (m : Bool) →
    Flat none_marked cells e m → number_rewrite s g r e ≡ None
