-- The frames, modes and states of the machine that those of the parser stand for.
use Rattle.std.specs.Prelude.{◌≡◌, Bool, true, false, List, [], ◌∷◌, map, Option}
use Rattle.std.specs.Option.{option_map}
use Rattle.ess_semantics.specs.Trees as pure
use Rattle.ess_semantics.specs.Trees.{Op, word, application, tuple_literal, set_literal, mset_literal, relation_literal, partition_literal, matrix_literal, no_exs, more_exs}
use Rattle.ess_grammar.specs.Words.{Symbol, Word, close_round, close_square, close_curly, language_word, given_word, letting_word}
use Rattle.ess_parse_laws.specs.Frames as machine
use Rattle.ess_parse_laws.specs.Frames.{round_list, index_list, node_list, set_inner, mset_inner, partition_inner, inner_owner, relation_owner, function_owner, quantifier_head, sum_head, comprehension_head, minus_frame, not_frame, bar_frame, binary_frame, body_frame, list_frame, pair_left_frame, pair_right_frame, fields_frame, field_value_frame, items_frame, generator_source_frame, generator_domain_frame, index_domain_frame, ranges_frame, high_bound_frame, lone_high_bound_frame, axes_frame, element_frame, tuple_domains_frame, field_names_frame, field_domain_frame, inner_domain_frame, relation_domains_frame, function_from_frame, function_to_frame, attributes_frame, attribute_value_frame, letting_frame, unnamed_frame, letting_domain_frame, where_frame, such_that_frame, objective_frame, declaration_frame}
use Rattle.ess_parse_laws.specs.Modes as modes
use Rattle.ess_parse_laws.specs.Modes.{operand_wanted, operand_read, function_word_read, literal_begun, function_literal_begun, record_literal_begun, field_wanted, field_read, domain_wanted, domain_read, int_read, matrix_begun, indexed_read, by_read, axes_read, tuple_begun, record_begun, field_name_wanted, field_name_read, inner_begun, joining_wanted, relation_begun, relation_of_wanted, relation_of_read, function_begun, function_bracket_read, attribute_wanted, attribute_read, nothing_read, language_read, language_name_read, first_number_read, language_dot_read, names_wanted, name_read, given_new_read, given_type_read, letting_wanted, letting_name_read, be_read, letting_new_read, letting_type_read, enum_read, of_read, value_name_wanted, value_name_read, such_read, statement_read, expression_answer, domain_answer, specification_answer}
use Rattle.ess_parse_laws.specs.Reversed.{reverse_list}
use Rattle.ess_core.specs.TreeViews.{pure_ex, pure_exs, pure_dom, pure_doms, pure_gens}
use Rattle.ess_core.specs.StatementViews.{pure_stm}
use Rattle.ess_parse_frames.specs.Rows.{back_pairs, back_names, back_field_names, back_field_values, back_gens, back_ends, back_bounds, back_doms, back_dom_names, back_field_doms, marks_of, numbers_of, back_marks, back_numbers, back_stms}
use Rattle.ess_parse_frames.specs.Patterns.{pats_in_order, back_pats, view_operand, is_pattern_operand, back_listed, are_patterns}
use Rattle.ess_parse_frames.specs.declared.frames.Literal.{Literal}
use Rattle.ess_parse_frames.specs.declared.frames.Literal.TheVariants as L
use Rattle.ess_parse_frames.specs.declared.frames.Listing.{Listing}
use Rattle.ess_parse_frames.specs.declared.frames.Listing.TheVariants as K
use Rattle.ess_parse_frames.specs.declared.frames.Inner.{Inner}
use Rattle.ess_parse_frames.specs.declared.frames.Inner.TheVariants as I
use Rattle.ess_parse_frames.specs.declared.frames.Owner.{Owner}
use Rattle.ess_parse_frames.specs.declared.frames.Owner.TheVariants as O
use Rattle.ess_parse_frames.specs.declared.frames.AtLeast.{AtLeast}
use Rattle.ess_parse_frames.specs.declared.frames.AtLeast.TheVariants as N
use Rattle.ess_parse_frames.specs.declared.frames.Declaring.{Declaring}
use Rattle.ess_parse_frames.specs.declared.frames.Declaring.TheVariants as D
use Rattle.ess_parse_frames.specs.declared.frames.Sense.{Sense}
use Rattle.ess_parse_frames.specs.declared.frames.Sense.TheVariants as S
use Rattle.ess_parse_frames.specs.declared.frames.Head.{Head}
use Rattle.ess_parse_frames.specs.declared.frames.Head.TheVariants as H
use Rattle.ess_parse_frames.specs.declared.frames.Frame.{Frame}
use Rattle.ess_parse_frames.specs.declared.frames.Frame.TheVariants as F
use Rattle.ess_parse_frames.specs.declared.modes.Opening.{Opening}
use Rattle.ess_parse_frames.specs.declared.modes.Opening.TheVariants as B
use Rattle.ess_parse_frames.specs.declared.modes.Mode.{Mode}
use Rattle.ess_parse_frames.specs.declared.modes.Mode.TheVariants as M
use Rattle.ess_parse_frames.specs.declared.states.State.{State}
use Rattle.ess_parse_frames.specs.declared.states.Answer.{Answer}
use Rattle.ess_parse_frames.specs.declared.states.Answer.TheVariants as A

-- ---- the parts of frames

-- The node of a literal that a word begins.
abbrev pub literal_op : Literal → Op
literal_op L.Tuple = tuple_literal
literal_op L.MSet = mset_literal
literal_op L.Relation = relation_literal
literal_op L.Partition = partition_literal

-- What a list becomes.
abbrev pub view_listing : Listing → machine.Listing
view_listing K.Round = round_list
view_listing (K.Index e) = index_list
view_listing (K.Application e) = node_list application
view_listing (K.Call f) = node_list (word f)
view_listing (K.Literal l) = node_list (literal_op l)
view_listing K.Set = node_list set_literal
view_listing K.Matrix = node_list matrix_literal

-- The symbol that closes a list.
abbrev pub list_end : Listing → Symbol
list_end (K.Index e) = close_square
list_end K.Set = close_curly
list_end K.Matrix = close_square
list_end _ = close_round

-- What stands before the items of a list, as its first item.
abbrev pub list_start : Listing → pure.Exs
list_start (K.Index e) = more_exs (pure_ex e) no_exs
list_start (K.Application e) = more_exs (pure_ex e) no_exs
list_start _ = no_exs

-- The kind of a domain with one inner domain.
abbrev pub view_inner : Inner → machine.Inner
view_inner I.Set = set_inner
view_inner I.MSet = mset_inner
view_inner I.Partition = partition_inner

-- The kind of a domain with attributes.
abbrev pub view_owner : Owner → machine.Owner
view_owner (O.Inner k) = inner_owner (view_inner k)
view_owner O.Relation = relation_owner
view_owner O.Function = function_owner

-- Whether a tuple needs two domains.
abbrev pub two_needed : AtLeast → Bool
two_needed N.One = false
two_needed N.Two = true

-- Whether the word gives names.
abbrev pub is_given : Declaring → Bool
is_given D.Given = true
is_given D.Find = false

-- Whether an objective is to be maximised.
abbrev pub is_maximising : Sense → Bool
is_maximising S.Maximising = true
is_maximising S.Minimising = false

-- What items belong to.
abbrev pub view_head : Head → machine.Head
view_head (H.Quantifier f) = quantifier_head f
view_head H.Sum = sum_head
view_head (H.Comprehension e) = comprehension_head (pure_ex e)

-- ---- frames

-- The frame of the machine.
abbrev pub view_frame : Frame → machine.Frame
view_frame F.Minus = minus_frame
view_frame F.Not = not_frame
view_frame F.Bar = bar_frame
view_frame (F.Binary o e) = binary_frame o (pure_ex e)
view_frame (F.Body f gs) = body_frame f (pure_gens gs)
view_frame (F.List q es) = list_frame (view_listing q) (list_end q) (are_patterns es) (back_listed es (list_start q))
view_frame (F.PairLeft ps) = pair_left_frame (back_pairs ps)
view_frame (F.PairRight ps e) = pair_right_frame (back_pairs ps) (pure_ex e)
view_frame (F.Fields fs) = fields_frame (back_field_names fs) (back_field_values fs)
view_frame (F.FieldValue fs a) = field_value_frame (a ∷ back_field_names fs) (back_field_values fs)
view_frame (F.Items h bs gs ps) = items_frame (view_head h) bs (back_gens gs) (back_pats ps no_exs)
view_frame (F.GeneratorSource h bs gs ps) = generator_source_frame (view_head h) bs (back_gens gs) (pats_in_order ps)
view_frame (F.GeneratorDomain h bs gs ps) = generator_domain_frame (view_head h) bs (back_gens gs) (pats_in_order ps)
view_frame (F.IndexDomain es) = index_domain_frame (pure_exs es)
view_frame (F.Ranges rs) = ranges_frame (back_ends rs) (back_bounds rs)
view_frame (F.HighBound rs e) = high_bound_frame (back_ends rs) (back_bounds rs) (pure_ex e)
view_frame (F.LoneHighBound rs) = lone_high_bound_frame (back_ends rs) (back_bounds rs)
view_frame (F.Axes ds) = axes_frame (back_doms ds)
view_frame (F.Element ds) = element_frame (pure_doms ds)
view_frame (F.TupleDomains n ds) = tuple_domains_frame (two_needed n) (back_doms ds)
view_frame (F.FieldNames fs) = field_names_frame (back_dom_names fs) (back_field_doms fs)
view_frame (F.FieldDomain fs a) = field_domain_frame (a ∷ back_dom_names fs) (back_field_doms fs)
view_frame (F.InnerDomain k as') = inner_domain_frame (view_inner k) (marks_of as') (numbers_of as')
view_frame (F.RelationDomains as' ds) = relation_domains_frame (marks_of as') (numbers_of as') (back_doms ds)
view_frame (F.FunctionFrom as') = function_from_frame (marks_of as') (numbers_of as')
view_frame (F.FunctionTo as' d) = function_to_frame (marks_of as') (numbers_of as') (pure_dom d)
view_frame (F.Attributes o as') = attributes_frame (view_owner o) (back_marks as') (back_numbers as')
view_frame (F.AttributeValue o k as') = attribute_value_frame (view_owner o) k (back_marks as') (back_numbers as')
view_frame (F.Letting a ss) = letting_frame a (back_stms ss)
view_frame (F.Unnamed a ss) = unnamed_frame a (back_stms ss)
view_frame (F.LettingDomain a ss) = letting_domain_frame a (back_stms ss)
view_frame (F.Where ss) = where_frame (back_stms ss)
view_frame (F.SuchThat ss) = such_that_frame (back_stms ss)
view_frame (F.Objective s ss) = objective_frame (is_maximising s) (back_stms ss)
view_frame (F.Declaration w ns ss) = declaration_frame (is_given w) (back_names ns) (back_stms ss)

-- The frames of the machine, the innermost first.
unfoldable pub view_frames : List Frame → List machine.Frame
view_frames fs = reverse_list (map view_frame fs) []

-- ---- modes

-- The word that began a statement.
abbrev pub opening_word : Opening → Word
opening_word B.Language = language_word
opening_word B.Given = given_word
opening_word B.Letting = letting_word

-- The mode of the machine.
abbrev pub view_mode : Mode → modes.Mode
view_mode M.OperandWanted = operand_wanted
view_mode (M.OperandRead a) = operand_read (is_pattern_operand a) (view_operand a)
view_mode (M.FunctionWordRead f) = function_word_read f
view_mode (M.LiteralBegun l) = literal_begun (literal_op l)
view_mode M.FunctionLiteralBegun = function_literal_begun
view_mode M.RecordLiteralBegun = record_literal_begun
view_mode M.FieldWanted = field_wanted
view_mode (M.FieldRead a) = field_read a
view_mode M.DomainWanted = domain_wanted
view_mode (M.DomainRead d) = domain_read (pure_dom d)
view_mode M.IntRead = int_read
view_mode M.MatrixBegun = matrix_begun
view_mode M.IndexedRead = indexed_read
view_mode M.ByRead = by_read
view_mode M.AxesRead = axes_read
view_mode M.TupleBegun = tuple_begun
view_mode M.RecordBegun = record_begun
view_mode M.FieldNameWanted = field_name_wanted
view_mode (M.FieldNameRead a) = field_name_read a
view_mode (M.InnerBegun k) = inner_begun (view_inner k)
view_mode (M.JoiningWanted k) = joining_wanted (view_inner k)
view_mode M.RelationBegun = relation_begun
view_mode M.RelationOfWanted = relation_of_wanted
view_mode M.RelationOfRead = relation_of_read
view_mode M.FunctionBegun = function_begun
view_mode M.FunctionBracketRead = function_bracket_read
view_mode M.AttributeWanted = attribute_wanted
view_mode (M.AttributeRead k) = attribute_read k
view_mode M.NothingRead = nothing_read
view_mode M.LanguageRead = language_read
view_mode M.LanguageNameRead = language_name_read
view_mode M.FirstNumberRead = first_number_read
view_mode M.LanguageDotRead = language_dot_read
view_mode (M.NamesWanted w ns ss) = names_wanted (is_given w) (back_names ns) (back_stms ss)
view_mode (M.NameRead w ns ss) = name_read (is_given w) (back_names ns) (back_stms ss)
view_mode (M.GivenNewRead a ss) = given_new_read a (back_stms ss)
view_mode (M.GivenTypeRead a ss) = given_type_read a (back_stms ss)
view_mode (M.LettingWanted ss) = letting_wanted (back_stms ss)
view_mode (M.LettingNameRead a ss) = letting_name_read a (back_stms ss)
view_mode (M.BeRead a ss) = be_read a (back_stms ss)
view_mode (M.LettingNewRead a ss) = letting_new_read a (back_stms ss)
view_mode (M.LettingTypeRead a ss) = letting_type_read a (back_stms ss)
view_mode (M.EnumRead a ss) = enum_read a (back_stms ss)
view_mode (M.OfRead a ss) = of_read a (back_stms ss)
view_mode (M.ValueNameWanted a ns ss) = value_name_wanted a (back_names ns) (back_stms ss)
view_mode (M.ValueNameRead a ns ss) = value_name_read a (back_names ns) (back_stms ss)
view_mode (M.SuchRead ss) = such_read (back_stms ss)
view_mode (M.StatementRead b ss) = statement_read (opening_word b) (back_stms ss)

-- ---- states

-- The state of the machine.
abbrev pub view : State → modes.State
view s = record { mode = view_mode s.mode; frames = view_frames s.frames }

-- The machine's answer.
abbrev pub view_answer : Answer → modes.Answer
view_answer (A.Expression e) = expression_answer (pure_ex e)
view_answer (A.Domain d) = domain_answer (pure_dom d)
view_answer (A.Specification ss) = specification_answer (map pure_stm ss)

-- The machine goes to this state, or stops.
abbrev pub Steps : Option modes.State → Option State → Type 0
Steps r s = r ≡ option_map view s

-- The machine gives this answer, or none.
abbrev pub Answers : Option modes.Answer → Option Answer → Type 0
Answers a b = a ≡ option_map view_answer b
