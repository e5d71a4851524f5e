-- What operators give for numbers and truth values.
use Rattle.std.proofs.Common.{◌≡◌, refl, ◌∷◌, [], Some, pos}
use Rattle.std.specs.Prelude.{nat_abs, ◌-ℤ◌}
use Rattle.ess_semantics.specs.declared.words.Op1.{Op1}
use Rattle.ess_semantics.specs.declared.words.Op2.{Op2}
use Rattle.ess_semantics.specs.Trees.{unary}
use Rattle.ess_semantics.specs.Operators.{whole, number_in, value_of_binary, value_of_node}
use Rattle.eprime_eval_scalars.specs.declared.scalars.Scalar.{Scalar}
use Rattle.eprime_eval_scalars.specs.declared.scalars.Scalar.TheVariants.{Num, Truth}
use Rattle.eprime_eval_scalars.specs.ScalarViews.{pure_scalar}

-- The difference of two scalars.
pub minus_scalars : (a b : Scalar) → value_of_binary Op2.Minus (pure_scalar a) (pure_scalar b) ≡ whole (number_in (pure_scalar a) -ℤ number_in (pure_scalar b))
minus_scalars (Num n) b = refl
minus_scalars (Truth t) b = refl

-- The size of a scalar.
pub size_scalar : (a : Scalar) → value_of_node (unary Op1.Bar) (Some (pure_scalar a) ∷ []) ≡ whole (pos (nat_abs (number_in (pure_scalar a))))
size_scalar (Num n) = refl
size_scalar (Truth t) = refl

pub ruleset one_operand = (size_scalar)
