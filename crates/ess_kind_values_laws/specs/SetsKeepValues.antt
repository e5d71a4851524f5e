-- Rules of views of sets that keep at their root that each part of the tree has a value wherever its context holds, but for numbers in
-- natural places.
use Rattle.std.specs.Prelude.{◌≡◌, Bool, true, Some}
use Rattle.ess_semantics.specs.Names.{Names}
use Rattle.ess_semantics.specs.Trees.{Ex}
use Rattle.ess_semantics.specs.Types.{Ty}
use Rattle.ess_semantics.specs.Meaning.{Env}
use Rattle.ess_semantics.specs.Meets.{Meets}
use Rattle.ess_refine_laws.specs.AllRules.{Supply}
use Rattle.ess_values_along_laws.specs.Valued.{Valued}
use Rattle.ess_kind_rules_laws.specs.KindRules.{KindRule, kind_rewrite}
use Rattle.ess_kind_sizes_laws.specs.SetRules.{is_of_sets}
use Rattle.ess_kind_steps_laws.specs.SetsAtHand.{AtHand}

-- Such a rule keeps it where it has at hand what its views have, and tables meet the structures; w says that the tree stands in a natural
-- place.
abbrev pub SetRulesKeepValues : Type 0
SetRulesKeepValues = (s : Supply) (g : Names Ty) (r : KindRule) (e f : Ex) → kind_rewrite s g r e ≡ Some f → is_of_sets r ≡ true →
    (env : Env) → AtHand s g r e env → (w : Bool) → Meets e env → Valued w e env → Valued w f env
