-- A tree that is told apart has what is given: its new names belong to what is fixed where the old ones are fixed at their places.
use Rattle.std.specs.Prelude.{◌≡◌, Bool, true, [], ℕ, ◌≤◌, ◌^◌}
use Rattle.ess_semantics.specs.Values.{Text}
use Rattle.ess_semantics.specs.Trees.{Ex}
use Rattle.ess_given_laws.specs.conjure_model_laws.ToldApart.{told, told_apart}
use Rattle.ess_given_laws.specs.Given.{is_fixed, GivenIn}
use Rattle.ess_given_conditions_laws.specs.InScope.{is_fixed_in, is_given_in}
use Rattle.ess_given_conditions_laws.specs.GrowingNames.{HasNoneFrom, Grows}

-- The tree with its bound names told apart, with reserved names from the n-th on, has what is given, where t grows by such names.
pub record GivenApart (n : ℕ) (t : Text → Bool) (e : Ex) : Type 0 where
  pub names : Text → Bool
  pub grow : Grows n (told e [] n).1 t names
  pub given : GivenIn names (told_apart n e)

-- So it is where what is given is given at its place, whatever names stand there for several things: t has the tables of givens, the free
-- names that are fixed, and the names that domains of views bind. And what is given is given at its place.
pub record ToldTreesAreGiven : Type 0 where
  pub apart : (t : Text → Bool) (n : ℕ) (e : Ex) → HasNoneFrom n t → (told e [] n).1 ≤ 2 ^ 64 → is_given_in t t e ≡ true → GivenApart n t e
  pub at_their_places : (u : Text → Bool) (e : Ex) → GivenIn u e → is_given_in u u e ≡ true
  pub fixed_at_their_places : (u : Text → Bool) (e : Ex) → is_fixed u e ≡ true → is_fixed_in u u e ≡ true
