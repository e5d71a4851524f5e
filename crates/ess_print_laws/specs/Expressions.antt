-- The pieces of expressions and domains as they are printed, for the whole grammar (Essence, Constraints 13, 2008; the Conjure
-- manual). Each function puts the pieces of a tree before those that follow. An operand of an operator stands in brackets
-- where it is itself an operator's expression, so no precedence is needed. One space stands round binary operators and the
-- signs of generators and none round `..`. Quantifiers are calls over comprehensions, as their trees are. A cell of a table
-- is a name with indices. What no text has, as a view, is printed as nothing.
use Rattle.std.specs.Prelude.{Bool, List, [], ◌∷◌, map}
use Rattle.ess_semantics.specs.declared.words.Op1.{Op1}
use Rattle.ess_semantics.specs.declared.words.Op2.{Op2}
use Rattle.ess_semantics.specs.Values.{Text}
use Rattle.ess_semantics.specs.Trees.{Op, unary, binary, index, application, tuple_literal, set_literal, mset_literal, function_literal, relation_literal, partition_literal, matrix_literal, record_literal, Ends, one_value, both_ends, low_end, high_end, Mark, flag, valued, Ex, Exs, number_ex, truth_ex, name_ex, node_ex, matrix_ex, comp_ex, cell_ex, seen_ex, no_exs, more_exs, Gens, no_gens, over, from, cond, Dom, bool_dom, int_dom, name_dom, tuple_dom, record_dom, matrix_dom, set_dom, mset_dom, function_dom, relation_dom, partition_dom, Doms, no_doms, more_doms}
use Rattle.ess_grammar.specs.Words.{operator, function, mset_word, relation_word, partition_word, function_word, record_word, bool_word, int_word, matrix_word, indexed_word, by_word, set_word, of_word, from_word, open_round, close_round, open_square, close_square, open_curly, close_curly, semicolon, colon, dots, bar, exclamation, drawn_from, maps_to}
use Rattle.ess_print_laws.specs.TokenTexts.{key_text}
use Rattle.ess_print_laws.specs.Pieces.{token, space, Printer, reserved, sign, named, listed, within}
use Rattle.ess_print_laws.specs.Brackets.{is_operators, begins_as_quantifier, begins_as_pattern, begins_as_attributes}
use Rattle.ess_print_laws.specs.Parts.{comma_space, commas, times, bracketed, worded, number_pieces, truth_piece, tuple_pieces, pat_pieces}

-- ---- from operands that are printed

-- An operand: as it is, as an operator's operand, and as a pair of a function.
pub record Operand : Type 0 where
  pub whole : Printer
  pub part : Printer
  pub pair : Printer

-- Each as it is.
abbrev pub wholes : List Operand → List Printer
wholes os = map (λ o. o.whole) os

-- A pair of a function: `1 --> 2`.
abbrev pub maps_pieces : List Operand → Printer
maps_pieces (a ∷ b ∷ []) us = a.whole (space ∷ sign maps_to ∷ space ∷ b.whole us)
maps_pieces os us = us

-- Fields with their values: `a = 1`.
abbrev pub field_printers : List Text → List Operand → List Printer
field_printers (a ∷ ns) (o ∷ os) = (λ us. named a ∷ space ∷ token (operator Op2.Eq) ∷ space ∷ o.whole us) ∷ field_printers ns os
field_printers ns os = []

-- A prefix before its operand, or bars round it.
abbrev pub prefix_pieces : Op1 → Operand → Printer
prefix_pieces Op1.Minus a us = token (operator Op2.Minus) ∷ a.part us
prefix_pieces Op1.Not a us = sign exclamation ∷ a.part us
prefix_pieces Op1.Bar a us = within bar bar a.whole us

-- The operands of a call; the first one stands in brackets where the condition holds.
abbrev pub call_printers : Bool → List Operand → List Printer
call_printers b [] = []
call_printers b (a ∷ os) = bracketed b a.whole ∷ wholes os

-- Indices in square brackets, or none.
abbrev pub index_pieces : List Operand → Printer
index_pieces [] us = us
index_pieces (o ∷ os) us = within open_square close_square (commas (wholes (o ∷ os))) us

-- An operator's node.
abbrev pub node_pieces : Op → Exs → List Operand → Printer
node_pieces (unary o) es (a ∷ []) us = prefix_pieces o a us
node_pieces (binary o) es (a ∷ b ∷ []) us = a.part (space ∷ token (operator o) ∷ space ∷ b.part us)
node_pieces (Op.word f) es os us = token (function f) ∷ within open_round close_round (commas (call_printers (begins_as_quantifier f es) os)) us
node_pieces (index ss) es (a ∷ os) us = a.part (within open_square close_square (commas (wholes os)) us)
node_pieces application es (a ∷ os) us = a.part (within open_round close_round (commas (wholes os)) us)
node_pieces tuple_literal es os us = tuple_pieces (wholes os) us
node_pieces set_literal es os us = within open_curly close_curly (commas (wholes os)) us
node_pieces mset_literal es os us = reserved mset_word ∷ within open_round close_round (commas (wholes os)) us
node_pieces function_literal es os us = reserved function_word ∷ within open_round close_round (commas (map (λ o. o.pair) os)) us
node_pieces relation_literal es os us = reserved relation_word ∷ within open_round close_round (commas (wholes os)) us
node_pieces partition_literal es os us = reserved partition_word ∷ within open_round close_round (commas (wholes os)) us
node_pieces matrix_literal es os us = within open_square close_square (commas (wholes os)) us
node_pieces (record_literal ns) es os us = reserved record_word ∷ space ∷ within open_curly close_curly (commas (field_printers ns os)) us
node_pieces _ es os us = us

-- Ranges, each with its bounds.
abbrev pub range_printers : List Ends → List Operand → List Printer
range_printers (one_value ∷ rs) (a ∷ os) = a.whole ∷ range_printers rs os
range_printers (both_ends ∷ rs) (a ∷ b ∷ os) = (λ us. a.whole (sign dots ∷ b.whole us)) ∷ range_printers rs os
range_printers (low_end ∷ rs) (a ∷ os) = (λ us. a.whole (sign dots ∷ us)) ∷ range_printers rs os
range_printers (high_end ∷ rs) (a ∷ os) = (λ us. sign dots ∷ a.whole us) ∷ range_printers rs os
range_printers rs os = []

-- Ranges in brackets, or none.
abbrev pub ranges_pieces : List Ends → List Operand → Printer
ranges_pieces [] os us = us
ranges_pieces (r ∷ rs) os us = within open_round close_round (commas (range_printers (r ∷ rs) os)) us

-- Attributes, each with its number if it has one.
abbrev pub mark_printers : List Mark → List Operand → List Printer
mark_printers (flag k ∷ ms) os = (λ us. named (key_text k) ∷ us) ∷ mark_printers ms os
mark_printers (valued k ∷ ms) (a ∷ os) = (λ us. named (key_text k) ∷ space ∷ a.whole us) ∷ mark_printers ms os
mark_printers ms os = []

-- Attributes in brackets behind a space, or none.
abbrev pub attributes_pieces : List Mark → List Operand → Printer
attributes_pieces [] os us = us
attributes_pieces (m ∷ ms) os us = space ∷ within open_round close_round (commas (mark_printers (m ∷ ms) os)) us

-- The first domain of a function behind attributes, or behind none.
abbrev pub argument_pieces : List Mark → Dom → Printer → Printer
argument_pieces [] c p us = worded (begins_as_attributes c) p us
argument_pieces (m ∷ ms) c p us = p us

-- Fields with their domains: `a : int`.
abbrev pub field_domains : List Text → List Printer → List Printer
field_domains (a ∷ ns) (p ∷ ps) = (λ us. named a ∷ space ∷ sign colon ∷ space ∷ p us) ∷ field_domains ns ps
field_domains ns ps = []

-- A comma before the items that follow, if there are any.
abbrev pub before_items : Gens → Printer
before_items no_gens us = us
before_items gs us = comma_space us

-- ---- trees

abbrev mutual
  -- An expression.
  pub ex_pieces : Ex → Printer
  ex_pieces (number_ex n) us = number_pieces n us
  ex_pieces (truth_ex b) us = truth_piece b ∷ us
  ex_pieces (name_ex a) us = named a ∷ us
  ex_pieces (node_ex b op es) us = node_pieces op es (operands es) us
  ex_pieces (matrix_ex es d) us = sign open_square ∷ commas (wholes (operands es)) (sign semicolon ∷ space ∷ dom_pieces d (sign close_square ∷ us))
  ex_pieces (comp_ex e gs) us = sign open_square ∷ ex_pieces e (space ∷ sign bar ∷ space ∷ gens_pieces gs (sign close_square ∷ us))
  ex_pieces (cell_ex b a es) us = named a ∷ index_pieces (operands es) us
  ex_pieces (seen_ex r d ns es) us = us

  -- The pair of a function that an expression is.
  pub pair_pieces : Ex → Printer
  pair_pieces (node_ex b op es) us = maps_pieces (operands es) us
  pair_pieces e us = us

  -- Several expressions.
  pub operands : Exs → List Operand
  operands no_exs = []
  operands (more_exs e es) = record { whole = ex_pieces e; part = bracketed (is_operators e) (ex_pieces e); pair = pair_pieces e } ∷ operands es

  -- Generators and conditions with commas between.
  pub gens_pieces : Gens → Printer
  gens_pieces no_gens us = us
  gens_pieces (over p d gs) us = pat_pieces p (space ∷ sign colon ∷ space ∷ dom_pieces d (before_items gs (gens_pieces gs us)))
  gens_pieces (from p e gs) us = pat_pieces p (space ∷ sign drawn_from ∷ space ∷ ex_pieces e (before_items gs (gens_pieces gs us)))
  gens_pieces (cond e gs) us = bracketed (begins_as_pattern e gs) (ex_pieces e) (before_items gs (gens_pieces gs us))

  -- A domain.
  pub dom_pieces : Dom → Printer
  dom_pieces bool_dom us = reserved bool_word ∷ us
  dom_pieces (int_dom rs es) us = reserved int_word ∷ ranges_pieces rs (operands es) us
  dom_pieces (name_dom a) us = named a ∷ us
  dom_pieces (tuple_dom ds) us = tuple_pieces (domains ds) us
  dom_pieces (record_dom ns ds) us = reserved record_word ∷ space ∷ within open_curly close_curly (commas (field_domains ns (domains ds))) us
  dom_pieces (matrix_dom ds d) us =
      reserved matrix_word ∷ space ∷ reserved indexed_word ∷ space ∷ reserved by_word ∷ space
      ∷ within open_square close_square (commas (domains ds)) (space ∷ reserved of_word ∷ space ∷ dom_pieces d us)
  dom_pieces (set_dom ms es d) us = reserved set_word ∷ attributes_pieces ms (operands es) (space ∷ reserved of_word ∷ space ∷ dom_pieces d us)
  dom_pieces (mset_dom ms es d) us = reserved mset_word ∷ attributes_pieces ms (operands es) (space ∷ reserved of_word ∷ space ∷ dom_pieces d us)
  dom_pieces (function_dom ms es c d) us =
      reserved function_word ∷ attributes_pieces ms (operands es) (space ∷ argument_pieces ms c (dom_pieces c) (space ∷ sign maps_to ∷ space ∷ dom_pieces d us))
  dom_pieces (relation_dom ms es ds) us =
      reserved relation_word ∷ attributes_pieces ms (operands es) (space ∷ reserved of_word ∷ space ∷ within open_round close_round (listed times (domains ds)) us)
  dom_pieces (partition_dom ms es d) us = reserved partition_word ∷ attributes_pieces ms (operands es) (space ∷ reserved from_word ∷ space ∷ dom_pieces d us)

  -- Several domains.
  pub domains : Doms → List Printer
  domains no_doms = []
  domains (more_doms d ds) = dom_pieces d ∷ domains ds
