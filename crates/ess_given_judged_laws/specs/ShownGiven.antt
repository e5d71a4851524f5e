-- Views, cells and positions in the place of names: what is given in a tree is given in the tree over tables.
use Rattle.std.specs.Prelude.{◌≡◌, Bool, true}
use Rattle.ess_semantics.specs.Values.{Text}
use Rattle.ess_semantics.specs.Trees.{Ex}
use Rattle.conjure_model_laws.specs.Shown.{Shows, shown, in_place, range_of_type}
use Rattle.ess_given_laws.specs.Given.{is_fixed, is_fixed_dom, GivenIn}

-- What stands in the place of names is given, and it is fixed where the name is: so the views of givens read tables of givens alone, and
-- the domains of all views are fixed. The numbers of values of types are fixed. Who makes the views delivers it: declared domains have
-- fixed numbers.
pub record ShowsGiven (sh : Shows) (u : Text → Bool) : Type 0 where
  pub first : (a : Text) → GivenIn u (in_place sh.first a)
  pub last : (a : Text) → GivenIn u (in_place sh.last a)
  pub first_fixed : (a : Text) → u a ≡ true → is_fixed u (in_place sh.first a) ≡ true
  pub last_fixed : (a : Text) → u a ≡ true → is_fixed u (in_place sh.last a) ≡ true
  pub sizes : (a : Text) → is_fixed_dom u (range_of_type sh.sizes a) ≡ true

-- So it stays.
pub record ShownTreesAreGiven : Type 0 where
  pub given : (u : Text → Bool) (sh : Shows) → ShowsGiven sh u → (e : Ex) → GivenIn u e → GivenIn u (shown sh e)
  pub fixed : (u : Text → Bool) (sh : Shows) → ShowsGiven sh u → (e : Ex) → is_fixed u e ≡ true → is_fixed u (shown sh e) ≡ true
