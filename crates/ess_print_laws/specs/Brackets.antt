-- Which parts stand in brackets, or behind a word, so that the text is read as its tree: an operator's expression as an operand,
-- and what the grammar would read as something else (a condition that is written as a pattern before a generator, the first
-- operand of `sum` before others where all are patterns, a tuple of domains that begins as attributes do).
use Rattle.std.specs.Prelude.{Bool, true, false, ◌&&◌, not}
use Rattle.std.specs.Option.{is_some}
use Rattle.ess_semantics.specs.declared.words.Op1.{Op1}
use Rattle.ess_semantics.specs.declared.words.Fun.{Fun}
use Rattle.ess_semantics.specs.Trees.{Op, unary, binary, tuple_literal, Ex, Exs, name_ex, node_ex, cell_ex, no_exs, more_exs, Gens, over, from, Dom, name_dom, tuple_dom, more_doms}
use Rattle.ess_grammar.specs.Words.{key_of}
use Rattle.ess_grammar.specs.Patterns.{are_several, may_hold}

-- Whether an operator has expressions of its own level: the bars have not.
abbrev pub is_operator : Op → Bool
is_operator (unary Op1.Minus) = true
is_operator (unary Op1.Not) = true
is_operator (binary o) = true
is_operator _ = false

-- Whether the expression is an operator's, which stands in brackets as an operand.
abbrev pub is_operators : Ex → Bool
is_operators (node_ex b op es) = is_operator op
is_operators _ = false

-- Whether there is none.
abbrev pub are_none : Exs → Bool
are_none no_exs = true
are_none (more_exs e es) = false

-- Whether it is a tuple's literal.
abbrev pub is_tuple : Op → Bool
is_tuple tuple_literal = true
is_tuple _ = false

abbrev mutual
  -- Whether the expression is printed as a pattern is: as a name, or as two or more patterns in round brackets.
  pub is_written_as_pattern : Ex → Bool
  is_written_as_pattern (name_ex a) = true
  is_written_as_pattern (node_ex b op es) = is_tuple op && (are_several es && are_written_as_patterns es)
  is_written_as_pattern (cell_ex b a es) = are_none es
  is_written_as_pattern _ = false

  -- The same of several.
  pub are_written_as_patterns : Exs → Bool
  are_written_as_patterns no_exs = true
  are_written_as_patterns (more_exs e es) = is_written_as_pattern e && are_written_as_patterns es

-- Whether a generator comes first.
abbrev pub starts_generator : Gens → Bool
starts_generator (over p d gs) = true
starts_generator (from p e gs) = true
starts_generator _ = false

-- Whether a domain is one of the attribute words.
abbrev pub is_attribute_word : Dom → Bool
is_attribute_word (name_dom a) = is_some (key_of a)
is_attribute_word d = false

-- Whether the first domain of a function is a tuple that begins with an attribute word: in brackets alone it would be read as
-- attributes.
abbrev pub begins_as_attributes : Dom → Bool
begins_as_attributes (tuple_dom (more_doms d (more_doms c ds))) = is_attribute_word d
begins_as_attributes d = false

-- Whether the first operand of a call stands in brackets: `sum (x, y)` with two or more patterns would begin a quantifier.
abbrev pub begins_as_quantifier : Fun → Exs → Bool
begins_as_quantifier f es = not (may_hold (Op.word f) (are_written_as_patterns es) es)

-- Whether a condition stands in brackets before these items: a pattern before a generator would be one of its patterns.
abbrev pub begins_as_pattern : Ex → Gens → Bool
begins_as_pattern e gs = starts_generator gs && is_written_as_pattern e
