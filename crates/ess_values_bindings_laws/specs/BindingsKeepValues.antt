-- Rules over bindings that keep at their root that each part of the tree has a value wherever its context holds, but for numbers in natural
-- places. A condition that leaves a fold of numbers doesn't: nothing guards then what the number is made of (a worked example says so).
use Rattle.std.specs.Prelude.{◌≡◌, Bool, true, false, Some}
use Rattle.ess_semantics.specs.Values.{Text}
use Rattle.ess_semantics.specs.Names.{Names}
use Rattle.ess_semantics.specs.Trees.{Ex, fun1}
use Rattle.ess_semantics.specs.Types.{Ty}
use Rattle.ess_semantics.specs.Meaning.{Env, meaning}
use Rattle.ess_semantics.specs.Meets.{Meets}
use Rattle.ess_rules_laws.specs.SplitRules.{DomainApart}
use Rattle.ess_refine_laws.specs.AllRules.{Rule, over_a_made_set, over_tuples, over_a_tuple, over_a_record, condition, Supply, rewrite}
use Rattle.ess_values_along_laws.specs.Valued.{Valued}

-- Rules of which it is shown here.
abbrev pub is_of_bindings : Rule → Bool
is_of_bindings over_a_made_set = true
is_of_bindings over_tuples = true
is_of_bindings over_a_tuple = true
is_of_bindings over_a_record = true
is_of_bindings condition = true
is_of_bindings r = false

-- A condition leaves a fold of truth values, and the names that a pattern binds stand in none of the domains that it is over.
abbrev pub BindsApart : Rule → Ex → Type 0
BindsApart condition (fun1 m f l) = m ≡ true
BindsApart over_tuples e = (r : Text → Bool) × DomainApart r e
BindsApart r e = Unit {0}

-- Such a rule keeps values where it keeps the meaning and structures are met.
abbrev pub BindingsKeepValues : Type 0
BindingsKeepValues = (s : Supply) (g : Names Ty) (r : Rule) (e f : Ex) → rewrite s g r e ≡ Some f → is_of_bindings r ≡ true →
    BindsApart r e → (env : Env) → Meets e env → meaning e env ≡ meaning f env → (w : Bool) → Valued w e env → Valued w f env
