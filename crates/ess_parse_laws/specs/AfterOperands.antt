-- What a token does behind an expression that goes no further. The frames are those that stay open, the flag says whether
-- the expression ends in a quantifier's body.
use Rattle.std.specs.Prelude.{◌&&◌, ◌++◌, Bool, List, None, Option, [], false, nat_le, not, true, ◌∷◌}
use Rattle.ess_semantics.specs.declared.words.Op1.{Op1}
use Rattle.ess_semantics.specs.declared.words.Op2.{Op2}
use Rattle.ess_semantics.specs.Trees.{Ends, Ex, Exs, Mark, Op, both_ends, comp_ex, function_literal, high_end, index, int_dom, let_ex, let_unnamed, matrix_literal, more_exs, needs, no_doms, no_exs, no_gens, one_value, plain_node, record_literal, such_that, tuple_literal, valued}
use Rattle.ess_grammar.specs.Patterns.{all_bound_by, may_hold}
use Rattle.ess_grammar.specs.Words.{Token, bar, close_curly, close_round, close_square, colon, comma, dot, dots, drawn_from, maps_to, operator, semicolon, symbol, word}
use Rattle.ess_grammar.specs.Grammar.{indexed, pair_ex, unary_ex}
use Rattle.ess_grammar.specs.Levels.{left_least}
use Rattle.ess_parse_laws.specs.Frames.{Frame, Owner, attribute_value_frame, attributes_frame, bar_frame, binary_frame, body_frame, comprehension_head, field_value_frame, fields_frame, function_from_frame, function_owner, generator_domain_frame, generator_source_frame, high_bound_frame, index_domain_frame, index_list, inner_domain_frame, inner_owner, items_frame, letting_frame, list_frame, lone_high_bound_frame, node_list, pair_left_frame, pair_right_frame, quantifier_head, ranges_frame, relation_domains_frame, relation_owner, round_list, such_that_frame, sum_head, unnamed_frame, where_frame}
use Rattle.ess_parse_laws.specs.Reducing.{Reduced}
use Rattle.ess_parse_laws.specs.Modes.{State, at_state, attribute_wanted, domain_read, domain_wanted, field_wanted, joining_wanted, letting_wanted, operand_read, operand_wanted, relation_of_wanted}
use Rattle.ess_parse_laws.specs.StatementEnds.{begin_after, stated}
use Rattle.ess_parse_laws.specs.Items.{begin_source, item_ended, may_end_item, may_quantify, settled_head, starts_generator}
use Rattle.ess_parse_laws.specs.Reversed.{push_all_from, push_conditions, reverse_exs, reverse_gens, reverse_list}

-- A binary operator: the expression is its left operand, or `in` makes it a generator's pattern.
abbrev pub operand_then_operator : Op2 → Reduced → Option State
operand_then_operator o r =
    elim (nat_le (left_least o) r.level && not r.ends_in_body) [
      | true ↦ elim (starts_generator o r.pattern r.operand r.frames) [
        | true ↦ begin_source r.frames r.operand
        | false ↦ at_state operand_wanted (binary_frame o r.operand ∷ r.frames)
      ]
      | false ↦ None
    ]

-- A comma goes on with a list, with items, ranges, attributes or a list of statements.
abbrev pub operand_then_comma : List Frame → Bool → Bool → Ex → Option State
operand_then_comma (list_frame q c j es ∷ fs) w p e = at_state operand_wanted (list_frame q c (j && p) (more_exs e es) ∷ fs)
operand_then_comma (pair_right_frame es a ∷ fs) w p e = at_state operand_wanted (pair_left_frame (more_exs (pair_ex a e) es) ∷ fs)
operand_then_comma (field_value_frame as' es ∷ fs) w p e = at_state field_wanted (fields_frame as' (more_exs e es) ∷ fs)
operand_then_comma (items_frame h bs acc pend ∷ fs) false p e = elim (may_end_item h p) [ true ↦ at_state operand_wanted (item_ended h bs acc pend p e ∷ fs) | false ↦ None ]
operand_then_comma (generator_source_frame h bs acc ps ∷ fs) false p e = at_state operand_wanted (items_frame h (bs ++ all_bound_by ps) (push_all_from ps e acc) no_exs ∷ fs)
operand_then_comma (ranges_frame rs es ∷ fs) false p e = at_state operand_wanted (ranges_frame (one_value ∷ rs) (more_exs e es) ∷ fs)
operand_then_comma (high_bound_frame rs es a ∷ fs) false p e = at_state operand_wanted (ranges_frame (both_ends ∷ rs) (more_exs e (more_exs a es)) ∷ fs)
operand_then_comma (lone_high_bound_frame rs es ∷ fs) false p e = at_state operand_wanted (ranges_frame (high_end ∷ rs) (more_exs e es) ∷ fs)
operand_then_comma (attribute_value_frame o k ms es ∷ fs) false p e = at_state attribute_wanted (attributes_frame o (valued k ∷ ms) (more_exs e es) ∷ fs)
operand_then_comma (letting_frame a ss ∷ fs) w p e = at_state (letting_wanted (let_ex a e ∷ ss)) []
operand_then_comma (unnamed_frame a ss ∷ fs) w p e = at_state (letting_wanted (let_unnamed a e ∷ ss)) []
operand_then_comma (where_frame ss ∷ fs) w p e = at_state operand_wanted (where_frame (needs e ∷ ss) ∷ [])
operand_then_comma (such_that_frame ss ∷ fs) w p e = at_state operand_wanted (such_that_frame (such_that e ∷ ss) ∷ [])
operand_then_comma _ w p e = None

-- The whole list of a node, or the first pattern behind `sum`.
abbrev pub end_list : Op → Bool → Exs → List Frame → Option State
end_list o k es fs =
    elim (may_hold o k es) [
      | true ↦ at_state (operand_read false (plain_node o es)) fs
      | false ↦ elim (may_quantify fs) [
        | true ↦ at_state (operand_read true (plain_node tuple_literal es)) (items_frame sum_head [] no_gens no_exs ∷ fs)
        | false ↦ None
      ]
    ]

-- All attributes are read.
abbrev pub end_attributes : Owner → List Mark → Exs → List Frame → Option State
end_attributes (inner_owner k) ms es fs = at_state (joining_wanted k) (inner_domain_frame k ms es ∷ fs)
end_attributes relation_owner ms es fs = at_state relation_of_wanted (relation_domains_frame ms es no_doms ∷ fs)
end_attributes function_owner ms es fs = at_state domain_wanted (function_from_frame ms es ∷ fs)

-- All ranges of an int domain are read.
abbrev pub end_ranges : List Ends → Exs → List Frame → Option State
end_ranges rs es fs = at_state (domain_read (int_dom (reverse_list rs []) (reverse_exs es no_exs))) fs

-- A closing round bracket.
abbrev pub operand_then_close_round : List Frame → Bool → Bool → Ex → Option State
operand_then_close_round (list_frame round_list close_round j no_exs ∷ fs) w p e = at_state (operand_read false e) fs
operand_then_close_round (list_frame round_list close_round j (more_exs a es) ∷ fs) w p e = at_state (operand_read (j && p) (plain_node tuple_literal (reverse_exs (more_exs a es) (more_exs e no_exs)))) fs
operand_then_close_round (list_frame (node_list o) close_round j es ∷ fs) w p e = end_list o (j && p) (reverse_exs es (more_exs e no_exs)) fs
operand_then_close_round (attribute_value_frame o k ms es ∷ fs) false p e = end_attributes o (reverse_list (valued k ∷ ms) []) (reverse_exs (more_exs e es) no_exs) fs
operand_then_close_round (pair_right_frame es a ∷ fs) w p e = at_state (operand_read false (plain_node function_literal (reverse_exs es (more_exs (pair_ex a e) no_exs)))) fs
operand_then_close_round (ranges_frame rs es ∷ fs) false p e = end_ranges (one_value ∷ rs) (more_exs e es) fs
operand_then_close_round (high_bound_frame rs es a ∷ fs) false p e = end_ranges (both_ends ∷ rs) (more_exs e (more_exs a es)) fs
operand_then_close_round (lone_high_bound_frame rs es ∷ fs) false p e = end_ranges (high_end ∷ rs) (more_exs e es) fs
operand_then_close_round _ w p e = None

-- What is indexed, with the expressions in the brackets behind it.
abbrev pub indexed_of : Exs → Ex
indexed_of (more_exs a es) = indexed a es
indexed_of no_exs = plain_node (index []) no_exs

-- A closing square bracket.
abbrev pub operand_then_close_square : List Frame → Bool → Bool → Ex → Option State
operand_then_close_square (list_frame index_list close_square j (more_exs a es) ∷ fs) w p e = at_state (operand_read false (indexed_of (reverse_exs (more_exs a es) (more_exs e no_exs)))) fs
operand_then_close_square (list_frame (node_list o) close_square j es ∷ fs) w p e = at_state (operand_read false (plain_node o (reverse_exs es (more_exs e no_exs)))) fs
operand_then_close_square (items_frame (comprehension_head x) bs acc pend ∷ fs) false p e = at_state (operand_read false (comp_ex x (reverse_gens (push_conditions (more_exs e pend) acc) no_gens))) fs
operand_then_close_square (generator_source_frame (comprehension_head x) bs acc ps ∷ fs) false p e = at_state (operand_read false (comp_ex x (reverse_gens (push_all_from ps e acc) no_gens))) fs
operand_then_close_square _ w p e = None

-- A closing curly bracket.
abbrev pub operand_then_close_curly : List Frame → Bool → Bool → Ex → Option State
operand_then_close_curly (list_frame (node_list o) close_curly j es ∷ fs) w p e = at_state (operand_read false (plain_node o (reverse_exs es (more_exs e no_exs)))) fs
operand_then_close_curly (field_value_frame as' es ∷ fs) w p e = at_state (operand_read false (plain_node (record_literal (reverse_list as' [])) (reverse_exs es (more_exs e no_exs)))) fs
operand_then_close_curly _ w p e = None

-- A dot ends the items of a quantifier.
abbrev pub operand_then_dot : List Frame → Bool → Bool → Ex → Option State
operand_then_dot (items_frame (quantifier_head f) bs acc pend ∷ fs) false p e = at_state operand_wanted (body_frame f (reverse_gens (push_conditions (more_exs e pend) acc) no_gens) ∷ fs)
operand_then_dot (generator_source_frame (quantifier_head f) bs acc ps ∷ fs) false p e = at_state operand_wanted (body_frame f (reverse_gens (push_all_from ps e acc) no_gens) ∷ fs)
operand_then_dot _ w p e = None

-- A bar ends a bar's expression, or the body of a comprehension.
abbrev pub operand_then_bar : List Frame → Bool → Bool → Ex → Option State
operand_then_bar (bar_frame ∷ fs) false p e = at_state (operand_read false (unary_ex Op1.Bar e)) fs
operand_then_bar (list_frame (node_list matrix_literal) close_square j no_exs ∷ fs) w p e = at_state operand_wanted (items_frame (comprehension_head e) [] no_gens no_exs ∷ fs)
operand_then_bar _ w p e = None

-- A semicolon stands before the index domain of a matrix.
abbrev pub operand_then_semicolon : List Frame → Bool → Bool → Ex → Option State
operand_then_semicolon (list_frame (node_list matrix_literal) close_square j es ∷ fs) w p e = at_state domain_wanted (index_domain_frame (reverse_exs es (more_exs e no_exs)) ∷ fs)
operand_then_semicolon _ w p e = None

-- A long arrow stands between the parts of a pair.
abbrev pub operand_then_maps_to : List Frame → Bool → Bool → Ex → Option State
operand_then_maps_to (pair_left_frame es ∷ fs) w p e = at_state operand_wanted (pair_right_frame es e ∷ fs)
operand_then_maps_to _ w p e = None

-- A colon makes patterns those of a generator over a domain.
abbrev pub operand_then_colon : List Frame → Bool → Bool → Ex → Option State
operand_then_colon (items_frame h bs acc pend ∷ fs) w true e = at_state domain_wanted (generator_domain_frame (settled_head h) bs acc (reverse_exs pend (more_exs e no_exs)) ∷ fs)
operand_then_colon _ w p e = None

-- `<-` makes patterns those of a generator over a value.
abbrev pub operand_then_drawn_from : List Frame → Bool → Bool → Ex → Option State
operand_then_drawn_from fs w true e = begin_source fs e
operand_then_drawn_from fs w p e = None

-- Two dots stand behind the lower bound of a range.
abbrev pub operand_then_dots : List Frame → Bool → Bool → Ex → Option State
operand_then_dots (ranges_frame rs es ∷ fs) false p e = at_state operand_wanted (high_bound_frame rs es e ∷ fs)
operand_then_dots _ w p e = None

-- What the token does.
abbrev pub operand_then : Token → Reduced → Option State
operand_then (operator o) r = operand_then_operator o r
operand_then (symbol comma) r = operand_then_comma r.frames r.ends_in_body r.pattern r.operand
operand_then (symbol close_round) r = operand_then_close_round r.frames r.ends_in_body r.pattern r.operand
operand_then (symbol close_square) r = operand_then_close_square r.frames r.ends_in_body r.pattern r.operand
operand_then (symbol close_curly) r = operand_then_close_curly r.frames r.ends_in_body r.pattern r.operand
operand_then (symbol dot) r = operand_then_dot r.frames r.ends_in_body r.pattern r.operand
operand_then (symbol bar) r = operand_then_bar r.frames r.ends_in_body r.pattern r.operand
operand_then (symbol semicolon) r = operand_then_semicolon r.frames r.ends_in_body r.pattern r.operand
operand_then (symbol maps_to) r = operand_then_maps_to r.frames r.ends_in_body r.pattern r.operand
operand_then (symbol colon) r = operand_then_colon r.frames r.ends_in_body r.pattern r.operand
operand_then (symbol drawn_from) r = operand_then_drawn_from r.frames r.ends_in_body r.pattern r.operand
operand_then (symbol dots) r = operand_then_dots r.frames r.ends_in_body r.pattern r.operand
operand_then (word x) r = begin_after x (stated r.frames r.operand)
operand_then _ r = None
