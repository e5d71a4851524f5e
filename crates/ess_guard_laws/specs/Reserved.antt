-- Names that are reserved at a tree: they are two, they aren't in scope, and the tree binds neither.
use Rattle.std.specs.Prelude.{◌≡◌, Bool, true, false, ◌&&◌, not}
use Rattle.ess_semantics.specs.Values.{Text}
use Rattle.ess_semantics.specs.Order.{same_text}
use Rattle.ess_semantics.specs.Trees.{Ex}
use Rattle.ess_semantics.specs.Substitution.{NamesAre}

-- Whether a name is neither of the two.
abbrev pub is_other : Text → Text → Text → Bool
is_other x y a = not (same_text a x) && not (same_text a y)

-- x and y are reserved at e, where s are the names in scope.
pub record AreReserved (x y : Text) (s : Text → Bool) (e : Ex) : Type 0 where
  pub differ : same_text y x ≡ false
  pub first_out : s x ≡ false
  pub second_out : s y ≡ false
  pub unbound : NamesAre (λ a. true) (is_other x y) e
