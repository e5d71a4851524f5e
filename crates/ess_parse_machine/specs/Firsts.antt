-- Tests of the first token of a part, and what that token does in frames that may be.
use Rattle.std.specs.Prelude.{Bool, true, false, List, Option, Some, None}
use Rattle.ess_grammar.specs.Words.{Token, word, domain_word, new_word}
use Rattle.ess_parse_laws.specs.Frames.{Frame}
use Rattle.ess_parse_laws.specs.Modes.{State}
use Rattle.ess_parse_laws.specs.Operands.{step_operand_wanted}

-- Whether the token behind `be` says that the letting is one of no value.
abbrev pub names_no_value : Token → Bool
names_no_value (word domain_word) = true
names_no_value (word new_word) = true
names_no_value _ = false

-- An operand is wanted in these frames, if there are any.
abbrev pub operand_wanted_in : Token → Option (List Frame) → Option State
operand_wanted_in t None = None
operand_wanted_in t (Some fs) = step_operand_wanted t fs
