-- What a token does in the attributes of a domain. The words of attributes are plain names elsewhere. Behind `function (`
-- an attribute's word begins attributes, and any other token a tuple.
use Rattle.std.specs.Prelude.{Bool, List, None, Option, Some, [], false, true, ◌∷◌}
use Rattle.ess_semantics.specs.declared.words.Key.{Key}
use Rattle.ess_semantics.specs.Trees.{flag, no_doms, no_exs}
use Rattle.ess_grammar.specs.Words.{Token, close_round, comma, key_of, name, symbol}
use Rattle.ess_parse_laws.specs.Frames.{Frame, attribute_value_frame, attributes_frame, function_from_frame, function_owner, tuple_domains_frame}
use Rattle.ess_parse_laws.specs.Modes.{State, at_state, attribute_read, attribute_wanted}
use Rattle.ess_parse_laws.specs.AfterOperands.{end_attributes}
use Rattle.ess_parse_laws.specs.Reversed.{reverse_exs, reverse_list}
use Rattle.ess_parse_laws.specs.Domains.{step_domain_wanted}
use Rattle.ess_parse_laws.specs.Operands.{step_operand_wanted}

-- The attribute that a token is, where it is one.
abbrev pub attribute_of : Token → Option Key
attribute_of (name a) = key_of a
attribute_of _ = None

-- Behind `function (`.
abbrev pub step_function_bracket_read : Token → List Frame → Option State
step_function_bracket_read t fs =
    elim (attribute_of t) [
      | Some k ↦ at_state (attribute_read k) (attributes_frame function_owner [] no_exs ∷ fs)
      | None ↦ step_domain_wanted t (tuple_domains_frame true no_doms ∷ function_from_frame [] no_exs ∷ fs)
    ]

-- Where an attribute is wanted.
abbrev pub step_attribute_wanted : Token → List Frame → Option State
step_attribute_wanted t fs = elim (attribute_of t) [ Some k ↦ at_state (attribute_read k) fs | None ↦ None ]

-- Whether the token ends an attribute without a number.
abbrev pub ends_flag : Token → Bool
ends_flag (symbol comma) = true
ends_flag (symbol close_round) = true
ends_flag _ = false

-- Behind that token.
abbrev pub end_flag : Token → Key → List Frame → Option State
end_flag (symbol comma) k (attributes_frame o ms es ∷ fs) = at_state attribute_wanted (attributes_frame o (flag k ∷ ms) es ∷ fs)
end_flag (symbol close_round) k (attributes_frame o ms es ∷ fs) = end_attributes o (reverse_list (flag k ∷ ms) []) (reverse_exs es no_exs) fs
end_flag _ k fs = None

-- The first token of an attribute's number.
abbrev pub begin_value : Token → Key → List Frame → Option State
begin_value t k (attributes_frame o ms es ∷ fs) = step_operand_wanted t (attribute_value_frame o k ms es ∷ fs)
begin_value t k fs = None

-- Behind an attribute's word.
abbrev pub step_attribute_read : Token → Key → List Frame → Option State
step_attribute_read t k fs = elim (ends_flag t) [ true ↦ end_flag t k fs | false ↦ begin_value t k fs ]
