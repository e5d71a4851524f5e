-- The pure values of numbers and truth values.
use Rattle.ess_semantics.specs.Values.{Value, number, truth}
use Rattle.eprime_eval_scalars.specs.declared.scalars.Scalar.{Scalar}
use Rattle.eprime_eval_scalars.specs.declared.scalars.Scalar.TheVariants.{Num, Truth}

-- The pure value of a scalar.
abbrev pub pure_scalar : Scalar → Value
pure_scalar (Num n) = number n
pure_scalar (Truth b) = truth b
