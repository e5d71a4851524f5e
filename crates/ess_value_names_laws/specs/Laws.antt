-- Laws of names of values, each stated at a function that does nothing, so that its proof is checked with the code.
use Rattle.std.specs.Prelude.{◌≡◌, false, List, None}
use Rattle.ess_semantics.specs.Trees.{Stm}
use Rattle.ess_semantics.specs.Contexts.{Each}
use Rattle.ess_semantics.specs.Judgements.{fault}
use Rattle.ess_semantics.specs.Assignments.{Assignment, placed}
use Rattle.ess_semantics.specs.Parameters.{Param}
use Rattle.ess_semantics.specs.LargeSpecifications.{parameter_is_large}
use Rattle.ess_grammar.specs.Readable.{ReadableStms}
use Rattle.ess_values_laws.specs.ItemNames.{item_name}
use Rattle.conjure_laws.specs.Premises.{here}
use Rattle.ess_value_names_laws.specs.ValueNames.{HasValueNames}

-- At each statement of a well typed specification that a text can have, under each parameter without a number outside 64 bits and for
-- all values of the finds, the values of named types have the names that the types behind all statements give them.
abbrev pub ValuesHaveNames : Type 0
ValuesHaveNames = (S : List Stm) (p a : Assignment) → fault S ≡ None → ReadableStms S → Param S p → parameter_is_large S p ≡ false →
    Each (placed S p a) (λ l. HasValueNames (item_name (here S p).types) l.env)
