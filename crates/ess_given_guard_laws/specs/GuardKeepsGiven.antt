-- Conditions under which terms have values: what is given in the tree is given at its place in the tree with conditions, and comprehensions
-- are in order there.
use Rattle.std.specs.Prelude.{◌≡◌, Bool, true, [], ℕ, ◌≤◌, ◌^◌}
use Rattle.ess_semantics.specs.Values.{Text}
use Rattle.ess_semantics.specs.Trees.{Ex}
use Rattle.ess_guard_laws.specs.Guard.{guarded}
use Rattle.conjure_model_laws.specs.ToldApart.{told}
use Rattle.ess_given_laws.specs.Given.{is_fixed, GivenIn}
use Rattle.ess_given_conditions_laws.specs.InScope.{is_fixed_in, is_given_in}
use Rattle.ess_given_conditions_laws.specs.GrowingNames.{HasNoneFrom}
use Rattle.ess_given_order_laws.specs.InOrder.{Ordered}
use Rattle.ess_given_order_laws.specs.OrderInScope.{is_ordered_in, OrderedApart}

-- So it is, with natural places or without, whatever the two names are that conditions bind; they may be bound at several places. Told
-- apart such a tree has what is given, and comprehensions in order, for names that grow by reserved ones.
pub record GuardKeepsGiven : Type 0 where
  pub given : (u : Text → Bool) (natural : Bool) (x y : Text) (e : Ex) → GivenIn u e → Ordered u e →
      is_given_in u u (guarded natural x y [] e) ≡ true
  pub ordered : (u : Text → Bool) (natural : Bool) (x y : Text) (e : Ex) → GivenIn u e → Ordered u e →
      is_ordered_in u u (guarded natural x y [] e) ≡ true
  pub fixed : (u : Text → Bool) (natural : Bool) (x y : Text) (e : Ex) → is_fixed u e ≡ true →
      is_fixed_in u u (guarded natural x y [] e) ≡ true
  pub told_apart : (u : Text → Bool) (natural : Bool) (x y : Text) (n : ℕ) (e : Ex) → HasNoneFrom n u →
      (told (guarded natural x y [] e) [] n).1 ≤ 2 ^ 64 → GivenIn u e → Ordered u e → OrderedApart n u (guarded natural x y [] e)
