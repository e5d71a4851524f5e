-- What a token does behind a domain that goes no further. The frames are those that stay open.
use Rattle.std.specs.Prelude.{◌++◌, List, None, Option, [], false, true, ◌∷◌}
use Rattle.ess_semantics.specs.declared.words.Op2.{Op2}
use Rattle.ess_semantics.specs.Trees.{Dom, comp_ex, let_dom, matrix_ex, more_doms, no_doms, no_exs, no_gens, relation_dom, tuple_dom}
use Rattle.ess_grammar.specs.Words.{Token, close_curly, close_round, close_square, comma, dot, maps_to, operator, symbol, word}
use Rattle.ess_grammar.specs.Patterns.{all_bound_by}
use Rattle.ess_grammar.specs.Grammar.{sorted_record}
use Rattle.ess_parse_laws.specs.Frames.{Frame, axes_frame, body_frame, comprehension_head, declaration_frame, element_frame, field_domain_frame, field_names_frame, function_from_frame, function_to_frame, generator_domain_frame, index_domain_frame, items_frame, letting_domain_frame, quantifier_head, relation_domains_frame, tuple_domains_frame}
use Rattle.ess_parse_laws.specs.Modes.{State, at_state, axes_read, domain_read, domain_wanted, field_name_wanted, letting_wanted, names_wanted, operand_read, operand_wanted}
use Rattle.ess_parse_laws.specs.StatementEnds.{begin_after, declarations, declared}
use Rattle.ess_parse_laws.specs.Reversed.{push_all_over, reverse_doms, reverse_gens, reverse_list}

-- A comma goes on with items, domains of a list, or a list of statements.
abbrev pub domain_then_comma : List Frame → Dom → Option State
domain_then_comma (generator_domain_frame h bs acc ps ∷ fs) d = at_state operand_wanted (items_frame h (bs ++ all_bound_by ps) (push_all_over ps d acc) no_exs ∷ fs)
domain_then_comma (axes_frame ds ∷ fs) d = at_state domain_wanted (axes_frame (more_doms d ds) ∷ fs)
domain_then_comma (tuple_domains_frame b ds ∷ fs) d = at_state domain_wanted (tuple_domains_frame b (more_doms d ds) ∷ fs)
domain_then_comma (field_domain_frame ns ds ∷ fs) d = at_state field_name_wanted (field_names_frame ns (more_doms d ds) ∷ fs)
domain_then_comma (declaration_frame g as' ss ∷ fs) d = at_state (names_wanted g [] (declarations g as' d ss)) []
domain_then_comma (letting_domain_frame a ss ∷ fs) d = at_state (letting_wanted (let_dom a d ∷ ss)) []
domain_then_comma _ d = None

-- A dot ends the items of a quantifier.
abbrev pub domain_then_dot : List Frame → Dom → Option State
domain_then_dot (generator_domain_frame (quantifier_head f) bs acc ps ∷ fs) d = at_state operand_wanted (body_frame f (reverse_gens (push_all_over ps d acc) no_gens) ∷ fs)
domain_then_dot _ d = None

-- A closing square bracket.
abbrev pub domain_then_close_square : List Frame → Dom → Option State
domain_then_close_square (generator_domain_frame (comprehension_head x) bs acc ps ∷ fs) d = at_state (operand_read false (comp_ex x (reverse_gens (push_all_over ps d acc) no_gens))) fs
domain_then_close_square (index_domain_frame es ∷ fs) d = at_state (operand_read false (matrix_ex es d)) fs
domain_then_close_square (axes_frame ds ∷ fs) d = at_state axes_read (element_frame (reverse_doms ds (more_doms d no_doms)) ∷ fs)
domain_then_close_square _ d = None

-- A closing round bracket. A tuple without its word, and a relation, have two domains or more.
abbrev pub domain_then_close_round : List Frame → Dom → Option State
domain_then_close_round (tuple_domains_frame false ds ∷ fs) d = at_state (domain_read (tuple_dom (reverse_doms ds (more_doms d no_doms)))) fs
domain_then_close_round (tuple_domains_frame true (more_doms c ds) ∷ fs) d = at_state (domain_read (tuple_dom (reverse_doms (more_doms c ds) (more_doms d no_doms)))) fs
domain_then_close_round (relation_domains_frame ms es (more_doms c ds) ∷ fs) d = at_state (domain_read (relation_dom ms es (reverse_doms (more_doms c ds) (more_doms d no_doms)))) fs
domain_then_close_round _ d = None

-- A closing curly bracket ends the fields of a record.
abbrev pub domain_then_close_curly : List Frame → Dom → Option State
domain_then_close_curly (field_domain_frame ns ds ∷ fs) d = at_state (domain_read (sorted_record (reverse_list ns []) (reverse_doms ds (more_doms d no_doms)))) fs
domain_then_close_curly _ d = None

-- A long arrow stands between the domains of a function.
abbrev pub domain_then_maps_to : List Frame → Dom → Option State
domain_then_maps_to (function_from_frame ms es ∷ fs) d = at_state domain_wanted (function_to_frame ms es d ∷ fs)
domain_then_maps_to _ d = None

-- A star stands between the domains of a relation.
abbrev pub domain_then_times : List Frame → Dom → Option State
domain_then_times (relation_domains_frame ms es ds ∷ fs) d = at_state domain_wanted (relation_domains_frame ms es (more_doms d ds) ∷ fs)
domain_then_times _ d = None

-- What the token does.
abbrev pub domain_then : Token → List Frame → Dom → Option State
domain_then (symbol comma) fs d = domain_then_comma fs d
domain_then (symbol dot) fs d = domain_then_dot fs d
domain_then (symbol close_square) fs d = domain_then_close_square fs d
domain_then (symbol close_round) fs d = domain_then_close_round fs d
domain_then (symbol close_curly) fs d = domain_then_close_curly fs d
domain_then (symbol maps_to) fs d = domain_then_maps_to fs d
domain_then (operator Op2.Times) fs d = domain_then_times fs d
domain_then (word x) fs d = begin_after x (declared fs d)
domain_then _ fs d = None

-- What the token does in a state that has just read a domain.
abbrev pub reduced_domain_then : Token → State → Option State
reduced_domain_then t r = elim r.mode [ domain_read d ↦ domain_then t r.frames d | _ ↦ None ]
