-- What a token does where a domain is wanted, and behind the words of domains.
use Rattle.std.specs.Prelude.{List, None, Option, [], false, true, ◌∷◌}
use Rattle.ess_semantics.specs.Values.{Text}
use Rattle.ess_semantics.specs.Trees.{bool_dom, int_dom, name_dom, no_doms, no_exs}
use Rattle.ess_grammar.specs.Words.{Token, bool_word, by_word, colon, from_word, function_word, indexed_word, int_word, matrix_word, mset_word, name, of_word, open_curly, open_round, open_square, partition_word, record_word, relation_word, set_word, symbol, tuple_word, word}
use Rattle.ess_parse_laws.specs.Frames.{Frame, Inner, attributes_frame, axes_frame, field_domain_frame, field_names_frame, function_from_frame, inner_domain_frame, inner_owner, mset_inner, partition_inner, ranges_frame, relation_domains_frame, relation_owner, set_inner, tuple_domains_frame}
use Rattle.ess_parse_laws.specs.Modes.{State, at_state, attribute_wanted, by_read, domain_read, domain_wanted, field_name_read, field_name_wanted, function_begun, function_bracket_read, indexed_read, inner_begun, int_read, matrix_begun, operand_wanted, record_begun, relation_begun, relation_of_read, tuple_begun}
use Rattle.ess_parse_laws.specs.Operands.{is_open_round}
use Rattle.ess_parse_laws.specs.Reducing.{reduce_domain}
use Rattle.ess_parse_laws.specs.AfterDomains.{reduced_domain_then}

-- Where a domain is wanted.
abbrev pub step_domain_wanted : Token → List Frame → Option State
step_domain_wanted (word bool_word) fs = at_state (domain_read bool_dom) fs
step_domain_wanted (word int_word) fs = at_state int_read fs
step_domain_wanted (word matrix_word) fs = at_state matrix_begun fs
step_domain_wanted (word set_word) fs = at_state (inner_begun set_inner) fs
step_domain_wanted (word mset_word) fs = at_state (inner_begun mset_inner) fs
step_domain_wanted (word partition_word) fs = at_state (inner_begun partition_inner) fs
step_domain_wanted (word relation_word) fs = at_state relation_begun fs
step_domain_wanted (word function_word) fs = at_state function_begun fs
step_domain_wanted (word tuple_word) fs = at_state tuple_begun fs
step_domain_wanted (word record_word) fs = at_state record_begun fs
step_domain_wanted (symbol open_round) fs = at_state domain_wanted (tuple_domains_frame true no_doms ∷ fs)
step_domain_wanted (name a) fs = at_state (domain_read (name_dom a)) fs
step_domain_wanted _ fs = None

-- Behind `int`.
abbrev pub step_int_read : Token → List Frame → Option State
step_int_read t fs = elim (is_open_round t) [ true ↦ at_state operand_wanted (ranges_frame [] no_exs ∷ fs) | false ↦ reduced_domain_then t (reduce_domain fs (int_dom [] no_exs)) ]

-- Behind `matrix`.
abbrev pub step_matrix_begun : Token → List Frame → Option State
step_matrix_begun (word indexed_word) fs = at_state indexed_read fs
step_matrix_begun _ fs = None

-- Behind `matrix indexed`.
abbrev pub step_indexed_read : Token → List Frame → Option State
step_indexed_read (word by_word) fs = at_state by_read fs
step_indexed_read _ fs = None

-- Behind `matrix indexed by`.
abbrev pub step_by_read : Token → List Frame → Option State
step_by_read (symbol open_square) fs = at_state domain_wanted (axes_frame no_doms ∷ fs)
step_by_read _ fs = None

-- Behind the index domains of a matrix.
abbrev pub step_axes_read : Token → List Frame → Option State
step_axes_read (word of_word) fs = at_state domain_wanted fs
step_axes_read _ fs = None

-- Behind `tuple` in a domain.
abbrev pub step_tuple_begun : Token → List Frame → Option State
step_tuple_begun (symbol open_round) fs = at_state domain_wanted (tuple_domains_frame false no_doms ∷ fs)
step_tuple_begun _ fs = None

-- Behind `record` in a domain.
abbrev pub step_record_begun : Token → List Frame → Option State
step_record_begun (symbol open_curly) fs = at_state field_name_wanted (field_names_frame [] no_doms ∷ fs)
step_record_begun _ fs = None

-- Where the name of a record domain's field is wanted.
abbrev pub step_field_name_wanted : Token → List Frame → Option State
step_field_name_wanted (name a) fs = at_state (field_name_read a) fs
step_field_name_wanted _ fs = None

-- Behind that name.
abbrev pub step_field_name_read : Token → Text → List Frame → Option State
step_field_name_read (symbol colon) a (field_names_frame ns ds ∷ fs) = at_state domain_wanted (field_domain_frame (a ∷ ns) ds ∷ fs)
step_field_name_read _ a fs = None

-- Before an inner domain, where its word is wanted.
abbrev pub step_joining_wanted : Token → Inner → List Frame → Option State
step_joining_wanted (word of_word) set_inner fs = at_state domain_wanted fs
step_joining_wanted (word of_word) mset_inner fs = at_state domain_wanted fs
step_joining_wanted (word from_word) partition_inner fs = at_state domain_wanted fs
step_joining_wanted _ k fs = None

-- Before the domains of a relation, where `of` is wanted.
abbrev pub step_relation_of_wanted : Token → List Frame → Option State
step_relation_of_wanted (word of_word) fs = at_state relation_of_read fs
step_relation_of_wanted _ fs = None

-- Behind that word.
abbrev pub step_relation_of_read : Token → List Frame → Option State
step_relation_of_read (symbol open_round) fs = at_state domain_wanted fs
step_relation_of_read _ fs = None

-- Behind `set`, `mset` or `partition`.
abbrev pub step_inner_begun : Token → Inner → List Frame → Option State
step_inner_begun t k fs = elim (is_open_round t) [ true ↦ at_state attribute_wanted (attributes_frame (inner_owner k) [] no_exs ∷ fs) | false ↦ step_joining_wanted t k (inner_domain_frame k [] no_exs ∷ fs) ]

-- Behind `relation` in a domain.
abbrev pub step_relation_begun : Token → List Frame → Option State
step_relation_begun t fs = elim (is_open_round t) [ true ↦ at_state attribute_wanted (attributes_frame relation_owner [] no_exs ∷ fs) | false ↦ step_relation_of_wanted t (relation_domains_frame [] no_exs no_doms ∷ fs) ]

-- Behind `function` in a domain.
abbrev pub step_function_begun : Token → List Frame → Option State
step_function_begun t fs = elim (is_open_round t) [ true ↦ at_state function_bracket_read fs | false ↦ step_domain_wanted t (function_from_frame [] no_exs ∷ fs) ]
