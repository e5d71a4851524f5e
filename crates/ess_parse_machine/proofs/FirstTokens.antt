-- What the first token of a letting's value does, and that of an attribute's number.
use Rattle.std.proofs.Common.{arith, ◌≡◌, false, List, [], ◌∷◌}
use Rattle.ess_semantics.specs.declared.words.Key.{Key}
use Rattle.ess_semantics.specs.Trees.{Stm}
use Rattle.ess_grammar.specs.Words.{Text, Token}
use Rattle.ess_parse_laws.specs.Frames.{Frame, letting_frame}
use Rattle.ess_parse_laws.specs.Operands.{step_operand_wanted}
use Rattle.ess_parse_laws.specs.StatementSteps.{step_be_read}
use Rattle.ess_parse_laws.specs.AttributeSteps.{begin_value}
use Rattle.ess_parse_domains.specs.Attributes.{before_value}
use Rattle.ess_parse_machine.specs.Firsts.{names_no_value, operand_wanted_in}

-- behind `be`, any token but `domain` and `new` begins a value, or nothing does
pub value_of_letting : (t : Token) (a : Text) (ss : List Stm) → names_no_value t ≡ false → step_be_read t a ss ≡ step_operand_wanted t (letting_frame a ss ∷ [])
value_of_letting = grind arith

-- the first token of an attribute's number stands in the frames of that number
pub number_of_attribute : (t : Token) (k : Key) (fs : List Frame) → begin_value t k fs ≡ operand_wanted_in t (before_value k fs)
number_of_attribute = grind arith
