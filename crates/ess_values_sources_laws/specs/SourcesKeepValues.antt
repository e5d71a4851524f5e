-- Rules over sources that keep at their root that each part of the tree has a value wherever its context holds, but for numbers in natural
-- places: the generators of what lists the source stand in the place of the generator over it, and the item in the place of its name.
use Rattle.std.specs.Prelude.{◌≡◌, Bool, true, false, Some}
use Rattle.ess_semantics.specs.declared.words.Fun.{Fun}
use Rattle.ess_semantics.specs.Names.{Names}
use Rattle.ess_semantics.specs.Trees.{Ex, comp_ex, fun1, from, over}
use Rattle.ess_semantics.specs.Types.{Ty}
use Rattle.ess_semantics.specs.Meaning.{Env, meaning}
use Rattle.ess_rules_laws.specs.Rules.{Unused}
use Rattle.ess_refine_laws.specs.AllRules.{Rule, over_a_literal, over_a_source, of_one_source, over_a_comprehension, least_of_alternatives, Supply, rewrite}
use Rattle.ess_refine_laws.specs.WhatRulesCountOn.{CountsOn}
use Rattle.ess_values_along_laws.specs.Valued.{Valued}

-- Rules of which it is shown here.
abbrev pub is_of_sources : Rule → Bool
is_of_sources over_a_literal = true
is_of_sources over_a_source = true
is_of_sources of_one_source = true
is_of_sources over_a_comprehension = true
is_of_sources least_of_alternatives = true
is_of_sources r = false

-- Whether the expression is the set of the items of a comprehension that begins with a generator over a domain.
abbrev pub is_set_over : Ex → Bool
is_set_over (fun1 false Fun.ToSet (comp_ex e (over p d gs))) = true
is_set_over e = false

-- The first source of what a word stands on is none.
abbrev pub OverNoSuchSet : Rule → Ex → Type 0
OverNoSuchSet over_a_source (fun1 m f (comp_ex e (from p t hs))) = is_set_over t ≡ false
OverNoSuchSet of_one_source (fun1 m f (comp_ex e (from p t hs))) = is_set_over t ≡ false
OverNoSuchSet least_of_alternatives (fun1 m f (comp_ex e (from p t hs))) = is_set_over t ≡ false
OverNoSuchSet r e = Unit {0}

-- Such a rule keeps values where it keeps the meaning, has what it counts on, and the name that it binds is new.
abbrev pub SourcesKeepValues : Type 0
SourcesKeepValues = (s : Supply) (g : Names Ty) (r : Rule) (e f : Ex) → rewrite s g r e ≡ Some f → is_of_sources r ≡ true →
    Unused s.one e → OverNoSuchSet r e → (env : Env) → CountsOn s g r e env → meaning e env ≡ meaning f env → (w : Bool) →
    Valued w e env → Valued w f env
