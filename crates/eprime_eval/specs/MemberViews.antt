-- The values that the members of a domain are, as they are held.
use Rattle.std.specs.Prelude.{List, map}
use Rattle.ess_semantics.specs.Values.{Value}
use Rattle.ess_semantics.specs.Domains.{numbers_up}
use Rattle.eprime_eval_scalars.specs.ScalarViews.{pure_scalar}
use Rattle.eprime_eval.specs.declared.members.Members.{Members}
use Rattle.eprime_eval.specs.declared.members.Members.TheVariants.{Run, Listed}

-- The values.
abbrev pub member_values : Members → List Value
member_values (Run a n) = numbers_up a n
member_values (Listed vs) = map pure_scalar vs
