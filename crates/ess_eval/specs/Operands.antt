-- Operands that are names, which are looked into where they lie, and functions at operands.
use Rattle.std.specs.Prelude.{Option, None, List, [], ◌∷◌, option_map}
use Rattle.ess_semantics.specs.Lists.{and_then}
use Rattle.ess_semantics.specs.Values.{Value, truth}
use Rattle.ess_semantics.specs.Collections.{holds, value_at}
use Rattle.ess_semantics.specs.Names.{look}
use Rattle.ess_semantics.specs.Trees.{Ex, name_ex, tuple_literal}
use Rattle.ess_semantics.specs.Operators.{value_of_node}
use Rattle.ess_semantics.specs.Meaning.{Env}

-- The value of a name in the env; of any other operand, what was found.
abbrev pub operand_value : Ex → Env → Option Value → Option Value
operand_value (name_ex a) env o = look env.vals a
operand_value _ env o = o

-- The value of a function, given by its pairs, at operands: nothing but at one that has a value.
abbrev pub value_of_function : List Value → List (Option Value) → Option Value
value_of_function ps (o ∷ []) = and_then o (value_at ps)
value_of_function ps _ = None

-- Whether the tuple of the operands is among these: nothing where one has no value.
abbrev pub value_of_relation : List Value → List (Option Value) → Option Value
value_of_relation ts os = option_map (λ t. truth (holds ts t)) (value_of_node tuple_literal os)
