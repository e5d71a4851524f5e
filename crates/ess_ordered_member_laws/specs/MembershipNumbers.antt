-- Trees of a membership run over a view and over domains, and over nothing that is picked: so no rule of sources whose items are counted
-- fires at a part of one.
use Rattle.std.specs.Prelude.{◌≡◌, None}
use Rattle.ess_semantics.specs.Values.{Text}
use Rattle.ess_semantics.specs.Names.{Names}
use Rattle.ess_semantics.specs.Trees.{Ex, Dom}
use Rattle.ess_semantics.specs.Types.{Ty}
use Rattle.ess_refine_laws.specs.AllRules.{Supply}
use Rattle.ess_member_trees_laws.specs.Memberships.{Literal, Part}
use Rattle.ess_numbered_laws.specs.NumberRules.{NumberRule, number_rewrite}

abbrev pub MembershipsHaveNoNumbers : Type 0
MembershipsHaveNoNumbers = (n : Text) (A : Dom) (L : Ex) → Literal L → (s : Supply) (g : Names Ty) (r : NumberRule) (a : Ex) →
    Part n A L g a → number_rewrite s g r a ≡ None
