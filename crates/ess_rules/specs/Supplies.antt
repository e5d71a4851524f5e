-- What one of the rules makes of a root, in the code.
use Rattle.std.specs.Prelude.{◌≡◌, true, false, ℕ, ◌≤◌, List, [], Option, Some, None}
use Rattle.ess_semantics.specs.Names.{Names}
use Rattle.ess_semantics.specs.Trees.{Ex}
use Rattle.ess_semantics.specs.Types.{Ty}
use Rattle.ess_refine_laws.specs.AllRules.{Supply, rewrite, least_under_a_condition}
use Rattle.ess_rules.specs.WaitingConditions.{may_leave}
use Rattle.ess_rules.specs.Ruled.{
  Ruling,
  puts_source,
  MayRule,
  ruled,
  with_new_source,
  behind_copy,
  behind_ruling,
  NoneOf,
  source_rules_asked,
}

-- One of the rules that take no copy and put no source in makes this of the root; where nothing is made, none of those that are asked
-- fires.
abbrev pub IsRewritten : List Ruling → Supply → Names Ty → Ex → Option Ex → Type 0
IsRewritten asked s g a None = NoneOf (ruled s g) g asked a
IsRewritten asked s g a (Some b) =
    (r : Ruling) × (ruled s g r a ≡ Some b) × ((j : ℕ) → behind_ruling j r a ≡ j) × (MayRule g r a) × (puts_source r ≡ false)

-- One of the rules that put a source in does, or none of them fires.
abbrev pub IsSourced : Supply → Names Ty → Ex → Option Ex → Type 0
IsSourced s g a None = NoneOf (ruled s g) g source_rules_asked a
IsSourced s g a (Some b) =
    (r : Ruling) × (ruled s g r a ≡ Some b) × ((j : ℕ) (e : Ex) → behind_ruling j r e ≡ j) × ((e : Ex) → MayRule g r e)
    × (puts_source r ≡ true)

-- One of them does, where the source is told apart with names from the j-th on and none from the m-th on.
abbrev pub IsSourcedBehind : Supply → Names Ty → Ex → Option Ex → ℕ → ℕ → Type 0
IsSourcedBehind s g a None j m = NoneOf (ruled s g) g source_rules_asked (with_new_source j a).0
IsSourcedBehind s g a (Some b) j m =
    (r : Ruling) × (ruled s g r (with_new_source j a).0 ≡ Some b) × ((j : ℕ) (e : Ex) → behind_ruling j r e ≡ j)
    × ((e : Ex) → MayRule g r e) × (puts_source r ≡ true) × ((with_new_source j a).1 ≤ m)

-- The rule that takes a copy makes this of the root, with names from the j-th on and none from the m-th on; where nothing is made, it
-- doesn't fire where it may be used.
abbrev pub IsRewrittenBehind : Supply → Ex → Option Ex → ℕ → ℕ → Type 0
IsRewrittenBehind s a None j m = may_leave a ≡ true → rewrite s [] least_under_a_condition a ≡ None
IsRewrittenBehind s a (Some b) j m = (rewrite s [] least_under_a_condition a ≡ Some b) × (behind_copy j a ≤ m) × (may_leave a ≡ true)
