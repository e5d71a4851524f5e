-- Reducing: an expression, or a domain, that ends closes the frames that end with it. How far it goes is said by the
-- levels of operators (`ess_grammar`, Levels).
use Rattle.std.specs.Prelude.{Bool, List, if◌then◌else◌, nat_lt, true, ℕ, ◌∷◌, false}
use Rattle.ess_semantics.specs.declared.words.Op1.{Op1}
use Rattle.ess_semantics.specs.Trees.{Dom, Ex, Exs, Mark, function_dom, matrix_dom, mset_dom, partition_dom, set_dom}
use Rattle.ess_grammar.specs.Words.{Token, Word, from_word, of_word, operator}
use Rattle.ess_grammar.specs.Grammar.{binary_ex, quantified, unary_ex}
use Rattle.ess_grammar.specs.Levels.{level, right_least}
use Rattle.ess_parse_laws.specs.Frames.{Frame, Inner, binary_frame, body_frame, element_frame, function_to_frame, inner_domain_frame, minus_frame, mset_inner, not_frame, partition_inner, set_inner}
use Rattle.ess_parse_laws.specs.Modes.{State, domain_read}

-- An expression before a token that goes on with none of its atoms, with the frames that stay open: whether it ends in a
-- quantifier's body, whether it is written as a pattern, and its level.
pub record Reduced : Type 0 where
  pub frames : List Frame
  pub ends_in_body : Bool
  pub pattern : Bool
  pub level : ℕ
  pub operand : Ex

-- The same from its parts.
abbrev pub reduced : List Frame → Bool → Bool → ℕ → Ex → Reduced
reduced fs w p l e = record { frames = fs; ends_in_body = w; pattern = p; level = l; operand = e }

-- Closes the frames whose right operand ends before an operator of level n. Tokens that are no operators count as 0.
abbrev pub reduce : ℕ → List Frame → Bool → Bool → ℕ → Ex → Reduced
reduce n (minus_frame ∷ fs) w p l e = if nat_lt n 9 then reduce n fs w false 9 (unary_ex Op1.Minus e) else reduced (minus_frame ∷ fs) w p l e
reduce n (not_frame ∷ fs) w p l e = if nat_lt n 9 then reduce n fs w false 9 (unary_ex Op1.Not e) else reduced (not_frame ∷ fs) w p l e
reduce n (binary_frame o a ∷ fs) w p l e = if nat_lt n (right_least o) then reduce n fs w false (level o) (binary_ex o a e) else reduced (binary_frame o a ∷ fs) w p l e
reduce n (body_frame f gs ∷ fs) w p l e = if nat_lt n 1 then reduce n fs true false 10 (quantified f gs e) else reduced (body_frame f gs ∷ fs) w p l e
reduce n fs w p l e = reduced fs w p l e

-- The domain of a kind with one inner domain.
abbrev pub inner_domain : Inner → List Mark → Exs → Dom → Dom
inner_domain set_inner ms es d = set_dom ms es d
inner_domain mset_inner ms es d = mset_dom ms es d
inner_domain partition_inner ms es d = partition_dom ms es d

-- The word before the inner domain.
abbrev pub joining_word : Inner → Word
joining_word set_inner = of_word
joining_word mset_inner = of_word
joining_word partition_inner = from_word

-- Closes the frames that end with a domain.
abbrev pub reduce_domain : List Frame → Dom → State
reduce_domain (inner_domain_frame k ms es ∷ fs) d = reduce_domain fs (inner_domain k ms es d)
reduce_domain (element_frame ds ∷ fs) d = reduce_domain fs (matrix_dom ds d)
reduce_domain (function_to_frame ms es c ∷ fs) d = reduce_domain fs (function_dom ms es c d)
reduce_domain fs d = record { mode = domain_read d; frames = fs }

-- The level of a token: that of an operator, and 0 of any other.
abbrev pub precedence : Token → ℕ
precedence (operator o) = level o
precedence _ = 0
