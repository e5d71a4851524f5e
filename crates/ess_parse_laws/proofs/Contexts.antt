-- What the frames of a state say of the tokens before it. Each frame is a rule read in part, with functions that finish
-- the rule from what is still to come: `OperandContext t0 fs ts` says that the tokens t0 down to ts are those of the
-- frames, and that an operand follows. The block of mutual families stays whole.
use Rattle.std.proofs.Common.{◌&&◌, ◌++◌, Bool, List, Some, [], codes, false, not, true, ◌||◌, ℕ, ◌∷◌, ◌≡◌, ◌≤◌}
use Rattle.ess_semantics.specs.declared.words.Fun.{Fun}
use Rattle.ess_semantics.specs.declared.words.Key.{Key}
use Rattle.ess_semantics.specs.declared.words.Op2.{Op2}
use Rattle.ess_semantics.specs.Trees.{Dom, Doms, Ends, Ex, Exs, Gens, Mark, Op, Stm, application, more_exs, no_doms, no_exs, no_gens}
use Rattle.ess_semantics.specs.Values.{Text}
use Rattle.ess_grammar.specs.Grammar.{Atom, Attributes, Domain, Domains, Expression, Expressions, FieldDomains, Fields, Generator, Items, MaybeAttributes, Opens, Pairs, Quantifier, Ranges, starts_attributes}
use Rattle.ess_grammar.specs.Statements.{IsSpecification, NameList, Parts, Statements}
use Rattle.ess_grammar.specs.Patterns.{Place, Shape, all_bound_by, all_from, binary_shape, in_quantifier, starts_round}
use Rattle.ess_grammar.specs.Words.{Symbol, Token, Word, bar, be_word, by_word, close_round, close_square, colon, comma, domain_word, dot, dots, exclamation, find_word, function, function_word, given_word, indexed_word, int_word, key_of, letting_word, maps_to, matrix_word, maximising_word, minimising_word, mset_word, name, new_word, of_word, open_curly, open_round, open_square, operator, partition_word, record_word, relation_word, semicolon, set_word, such_word, symbol, tuple_word, type_word, where_word, word}
use Rattle.ess_grammar.specs.Levels.{left_least, level}
use Rattle.ess_parse_laws.proofs.ExpressionEnds.{Fits, level_needed}
use Rattle.ess_parse_laws.specs.Frames.{Frame, Head, Inner, Listing, Owner, attribute_value_frame, attributes_frame, axes_frame, bar_frame, binary_frame, body_frame, comprehension_head, declaration_frame, element_frame, field_domain_frame, field_names_frame, field_value_frame, fields_frame, function_from_frame, function_owner, function_to_frame, generator_domain_frame, generator_source_frame, high_bound_frame, index_domain_frame, index_list, inner_domain_frame, inner_owner, items_frame, letting_domain_frame, letting_frame, list_frame, lone_high_bound_frame, minus_frame, mset_inner, node_list, not_frame, objective_frame, pair_left_frame, pair_right_frame, partition_inner, quantifier_head, ranges_frame, relation_domains_frame, relation_owner, round_list, set_inner, such_that_frame, sum_head, tuple_domains_frame, unnamed_frame, where_frame}
use Rattle.ess_parse_laws.proofs.ItemRuns.{StandsIn}
use Rattle.ess_parse_laws.proofs.ListRuns.{are_some}
use Rattle.ess_parse_laws.specs.Reducing.{joining_word}
use Rattle.ess_parse_laws.specs.Reversed.{push_conditions, reverse_doms, reverse_exs, reverse_gens, reverse_list}

-- A whole list, before whose first items the base stands.
pub record WholeList (b : Bool) (base total : Exs) (ts us : List Token) : Type 0 where
  pub es : Exs
  pub is : total ≡ reverse_exs base es
  pub derivation : Expressions b es ts us

-- What opens a list, and the items that stand before it.
pub data ListOpens : Listing → Symbol → Exs → List Token → List Token → Type 0 where
  opens_round : {ts : List Token} → ListOpens round_list close_round no_exs (symbol open_round ∷ ts) ts
  opens_literal : {o : Op} {c : Symbol} {b : Bool} {us ts : List Token} → Opens o c b us ts → ListOpens (node_list o) c no_exs us ts
  opens_index : {p : Bool} {e : Ex} {us ts : List Token} → Atom p e us (symbol open_square ∷ ts) → ListOpens index_list close_square (more_exs e no_exs) us ts
  opens_application : {p : Bool} {e : Ex} {us ts : List Token} → Atom p e us (symbol open_round ∷ ts) → ListOpens (node_list application) close_round (more_exs e no_exs) us ts

-- All items. Where the flag is true they begin as a generator does.
pub record WholeItems (p : Place) (a : Bool) (gs : Gens) (ts us : List Token) : Type 0 where
  pub h : Bool
  pub ok : (h || not a) ≡ true
  pub derivation : Items p [] h gs ts us

-- Parts of a list of the word x may begin at ts, behind the statements ss, which stand in reverse.
abbrev pub PartsMayBegin : List Token → Word → List Stm → List Token → Type 0
PartsMayBegin t0 x ss ts = (rs qs : List Stm) (us : List Token) → Parts x rs ts us → Statements qs us → IsSpecification (reverse_list ss (rs ++ qs)) t0

-- Statements may begin at ts, behind the statements ss, which stand in reverse.
abbrev pub StatementsMayBegin : List Token → List Stm → List Token → Type 0
StatementsMayBegin t0 ss ts = (qs : List Stm) → Statements qs ts → IsSpecification (reverse_list ss qs) t0

-- The word of givens (true) or of finds (false).
abbrev pub declaring_word : Bool → Word
declaring_word true = given_word
declaring_word false = find_word

-- The word of an objective to be maximised (true) or minimised (false).
abbrev objective_word : Bool → Word
objective_word true = maximising_word
objective_word false = minimising_word

-- The word of a kind of domains with one inner domain.
abbrev pub inner_word : Inner → Word
inner_word set_inner = set_word
inner_word mset_inner = mset_word
inner_word partition_inner = partition_word

-- The word of a kind of domains with attributes.
abbrev pub owner_word : Owner → Word
owner_word (inner_owner k) = inner_word k
owner_word relation_owner = relation_word
owner_word function_owner = function_word

-- What begins a tuple's domain: a bracket alone (true), or the word and a bracket.
abbrev tuple_tokens : Bool → List Token → List Token
tuple_tokens true us = symbol open_round ∷ us
tuple_tokens false us = word tuple_word ∷ symbol open_round ∷ us

-- What stands between `function` and its first domain.
pub data FunctionOpens : List Mark → Exs → List Token → List Token → Type 0 where
  function_with_attributes : {ms : List Mark} {es : Exs} {us ts : List Token} → Attributes ms es us (symbol close_round ∷ ts) → FunctionOpens ms es (symbol open_round ∷ us) ts
  function_without_attributes : {ts : List Token} → starts_attributes ts ≡ false → FunctionOpens [] no_exs ts ts

mutual
  -- The frames before an operand.
  pub data OperandContext (t0 : List Token) : List Frame → List Token → Type 0 where
    nothing_before : OperandContext t0 [] t0
    minus_before : {fs : List Frame} {ts : List Token} → OperandContext t0 fs (operator Op2.Minus ∷ ts) → OperandContext t0 (minus_frame ∷ fs) ts
    not_before : {fs : List Frame} {ts : List Token} → OperandContext t0 fs (symbol exclamation ∷ ts) → OperandContext t0 (not_frame ∷ fs) ts
    bar_before : {fs : List Frame} {ts : List Token} → OperandContext t0 fs (symbol bar ∷ ts) → OperandContext t0 (bar_frame ∷ fs) ts
    operator_before : {fs : List Frame} {o : Op2} {a : Ex} {s : Shape} {l : ℕ} {us ts : List Token} → left_least o ≤ l → level_needed fs ≤ level o → Fits fs (binary_shape o s a) →
        Expression false s l a us (operator o ∷ ts) → OperandContext t0 fs us → OperandContext t0 (binary_frame o a ∷ fs) ts
    items_before : {fs : List Frame} {t : Token} {f : Fun} {h : Bool} {gs : Gens} {us ts : List Token} → Quantifier t f h us → Items in_quantifier [] h gs us (symbol dot ∷ ts) →
        OperandContext t0 fs (t ∷ us) → OperandContext t0 (body_frame f gs ∷ fs) ts
    list_begun_before : {fs : List Frame} {q : Listing} {c : Symbol} {base : Exs} {us ts : List Token} → ListOpens q c base us ts → OperandContext t0 fs us → OperandContext t0 (list_frame q c true base ∷ fs) ts
    list_before : {fs : List Frame} {q : Listing} {c : Symbol} {j : Bool} {a : Ex} {base acc : Exs} {vs us ts : List Token} → ListOpens q c base vs us →
        ((k : Bool) (es : Exs) (xs : List Token) → Expressions k es ts xs → WholeList (j && k) base (reverse_exs (more_exs a acc) es) us xs) → OperandContext t0 fs vs → OperandContext t0 (list_frame q c j (more_exs a acc) ∷ fs) ts
    pairs_begun_before : {fs : List Frame} {ts : List Token} → OperandContext t0 fs (word function_word ∷ symbol open_round ∷ ts) → OperandContext t0 (pair_left_frame no_exs ∷ fs) ts
    pairs_before : {fs : List Frame} {a : Ex} {acc : Exs} {us ts : List Token} → ((es : Exs) (xs : List Token) → Pairs es ts xs → Pairs (reverse_exs (more_exs a acc) es) us xs) →
        OperandContext t0 fs (word function_word ∷ symbol open_round ∷ us) → OperandContext t0 (pair_left_frame (more_exs a acc) ∷ fs) ts
    pair_left_before : {fs : List Frame} {acc : Exs} {v : Bool} {s : Shape} {l : ℕ} {a : Ex} {us vs ts : List Token} → ((es : Exs) (xs : List Token) → Pairs es vs xs → Pairs (reverse_exs acc es) us xs) →
        Expression v s l a vs (symbol maps_to ∷ ts) → OperandContext t0 fs (word function_word ∷ symbol open_round ∷ us) → OperandContext t0 (pair_right_frame acc a ∷ fs) ts
    field_before : {fs : List Frame} {a : Text} {as' : List Text} {acc : Exs} {us ts : List Token} →
        ((bs : List Text) (es : Exs) (xs : List Token) → Fields bs es (name a ∷ operator Op2.Eq ∷ ts) xs → Fields (reverse_list as' bs) (reverse_exs acc es) us xs) →
        OperandContext t0 fs (word record_word ∷ symbol open_curly ∷ us) → OperandContext t0 (field_value_frame (a ∷ as') acc ∷ fs) ts
    -- from vs on stand the patterns that wait
    in_items : {fs : List Frame} {p : Place} {aa : Bool} {hd : Head} {bs : List Text} {acc : Gens} {pend : Exs} {us vs ts : List Token} → StandsIn p hd →
        ((h : Bool) (gs : Gens) (xs : List Token) → Items p bs h gs vs xs → WholeItems p aa (reverse_gens acc gs) us xs) →
        ((k : Bool) (es : Exs) (xs : List Token) → Expressions k es ts xs → Expressions k (reverse_exs pend es) vs xs) →
        ((h : Bool) (gs : Gens) (xs : List Token) → Items p bs h gs ts xs → (h && are_some pend) ≡ false → WholeItems p aa (reverse_gens (push_conditions pend acc) gs) us xs) →
        HeadContext t0 fs hd aa us → OperandContext t0 (items_frame hd bs acc pend ∷ fs) ts
    generator_sign_before : {fs : List Frame} {p : Place} {aa : Bool} {hd : Head} {bs : List Text} {acc : Gens} {ps : Exs} {us vs ts : List Token} → StandsIn p hd →
        ((gs : Gens) (xs : List Token) → Items p bs true gs vs xs → WholeItems p aa (reverse_gens acc gs) us xs) →
        ((s : Shape) (l : ℕ) (e : Ex) (hs : Gens) (xs : List Token) → Expression false s l e ts xs → Generator p bs (all_bound_by ps) hs (all_from ps e hs) vs xs) →
        HeadContext t0 fs hd aa us → OperandContext t0 (generator_source_frame hd bs acc ps ∷ fs) ts
    -- patterns behind `sum`, of which the first stands in brackets
    in_sum_items : {fs : List Frame} {pend : Exs} {us ts : List Token} → starts_round us ≡ true →
        ((k : Bool) (es : Exs) (xs : List Token) → Expressions k es ts xs → Expressions k (reverse_exs pend es) us xs) →
        OperandContext t0 fs (function Fun.Sum ∷ us) → OperandContext t0 (items_frame sum_head [] no_gens pend ∷ fs) ts
    attribute_before : {fs : List Frame} {o : Owner} {a : Text} {k : Key} {ms : List Mark} {acc : Exs} {us ts : List Token} → key_of a ≡ Some k →
        ((ns : List Mark) (es : Exs) (xs : List Token) → Attributes ns es (name a ∷ ts) xs → Attributes (reverse_list ms ns) (reverse_exs acc es) us xs) →
        DomainContext t0 fs (word (owner_word o) ∷ symbol open_round ∷ us) → OperandContext t0 (attribute_value_frame o k ms acc ∷ fs) ts
    letting_before : {a : Text} {ss : List Stm} {ts : List Token} → PartsMayBegin t0 letting_word ss (name a ∷ word be_word ∷ ts) → OperandContext t0 (letting_frame a ss ∷ []) ts
    size_before : {a : Text} {ss : List Stm} {ts : List Token} →
        PartsMayBegin t0 letting_word ss (name a ∷ word be_word ∷ word new_word ∷ word type_word ∷ word of_word ∷ name (codes "size") ∷ ts) → OperandContext t0 (unnamed_frame a ss ∷ []) ts
    where_before : {ss : List Stm} {ts : List Token} → PartsMayBegin t0 where_word ss ts → OperandContext t0 (where_frame ss ∷ []) ts
    such_that_before : {ss : List Stm} {ts : List Token} → PartsMayBegin t0 such_word ss ts → OperandContext t0 (such_that_frame ss ∷ []) ts
    objective_before : {b : Bool} {ss : List Stm} {ts : List Token} → StatementsMayBegin t0 ss (word (objective_word b) ∷ ts) → OperandContext t0 (objective_frame b ss ∷ []) ts
    ranges_before : {fs : List Frame} {qs : List Ends} {acc : Exs} {us ts : List Token} → ((rs : List Ends) (es : Exs) (xs : List Token) → Ranges rs es ts xs → Ranges (reverse_list qs rs) (reverse_exs acc es) us xs) →
        DomainContext t0 fs (word int_word ∷ symbol open_round ∷ us) → OperandContext t0 (ranges_frame qs acc ∷ fs) ts
    low_bound_before : {fs : List Frame} {qs : List Ends} {acc : Exs} {s : Shape} {l : ℕ} {a : Ex} {us vs ts : List Token} →
        ((rs : List Ends) (es : Exs) (xs : List Token) → Ranges rs es vs xs → Ranges (reverse_list qs rs) (reverse_exs acc es) us xs) → Expression false s l a vs (symbol dots ∷ ts) →
        DomainContext t0 fs (word int_word ∷ symbol open_round ∷ us) → OperandContext t0 (high_bound_frame qs acc a ∷ fs) ts
    dots_before : {fs : List Frame} {qs : List Ends} {acc : Exs} {us ts : List Token} →
        ((rs : List Ends) (es : Exs) (xs : List Token) → Ranges rs es (symbol dots ∷ ts) xs → Ranges (reverse_list qs rs) (reverse_exs acc es) us xs) →
        DomainContext t0 fs (word int_word ∷ symbol open_round ∷ us) → OperandContext t0 (lone_high_bound_frame qs acc ∷ fs) ts

  -- The head of items that begin at these tokens.
  pub data HeadContext (t0 : List Token) : List Frame → Head → Bool → List Token → Type 0 where
    quantifier_before : {fs : List Frame} {t : Token} {f : Fun} {aa : Bool} {ts : List Token} → ((h : Bool) → (h || not aa) ≡ true → Quantifier t f h ts) → OperandContext t0 fs (t ∷ ts) → HeadContext t0 fs (quantifier_head f) aa ts
    comprehension_before : {fs : List Frame} {w : Bool} {s : Shape} {l : ℕ} {e : Ex} {us ts : List Token} → Expression w s l e us (symbol bar ∷ ts) → OperandContext t0 fs (symbol open_square ∷ us) → HeadContext t0 fs (comprehension_head e) false ts

  -- The frames before the name of a record literal's field.
  pub data FieldContext (t0 : List Token) : List Frame → List Token → Type 0 where
    fields_before : {fs : List Frame} {as' : List Text} {acc : Exs} {us ts : List Token} →
        ((bs : List Text) (es : Exs) (xs : List Token) → Fields bs es ts xs → Fields (reverse_list as' bs) (reverse_exs acc es) us xs) →
        OperandContext t0 fs (word record_word ∷ symbol open_curly ∷ us) → FieldContext t0 (fields_frame as' acc ∷ fs) ts

  -- The frames before a domain.
  pub data DomainContext (t0 : List Token) : List Frame → List Token → Type 0 where
    no_domain_before : DomainContext t0 [] t0
    colon_before : {fs : List Frame} {p : Place} {aa : Bool} {hd : Head} {bs : List Text} {acc : Gens} {ps : Exs} {us vs ts : List Token} → StandsIn p hd →
        ((gs : Gens) (xs : List Token) → Items p bs true gs vs xs → WholeItems p aa (reverse_gens acc gs) us xs) →
        Expressions true ps vs (symbol colon ∷ ts) → HeadContext t0 fs hd aa us → DomainContext t0 (generator_domain_frame hd bs acc ps ∷ fs) ts
    semicolon_before : {fs : List Frame} {k : Bool} {es : Exs} {us ts : List Token} → Expressions k es us (symbol semicolon ∷ ts) → OperandContext t0 fs (symbol open_square ∷ us) → DomainContext t0 (index_domain_frame es ∷ fs) ts
    names_before : {g : Bool} {ns : List Text} {ss : List Stm} {us ts : List Token} → NameList (reverse_list ns []) us (symbol colon ∷ ts) → PartsMayBegin t0 (declaring_word g) ss us → DomainContext t0 (declaration_frame g ns ss ∷ []) ts
    domain_word_before : {a : Text} {ss : List Stm} {ts : List Token} → PartsMayBegin t0 letting_word ss (name a ∷ word be_word ∷ word domain_word ∷ ts) → DomainContext t0 (letting_domain_frame a ss ∷ []) ts
    axes_before : {fs : List Frame} {acc : Doms} {us ts : List Token} → ((ds : Doms) (xs : List Token) → Domains (symbol comma) ds ts xs → Domains (symbol comma) (reverse_doms acc ds) us xs) →
        DomainContext t0 fs (word matrix_word ∷ word indexed_word ∷ word by_word ∷ symbol open_square ∷ us) → DomainContext t0 (axes_frame acc ∷ fs) ts
    all_axes_before : {fs : List Frame} {ds : Doms} {us ts : List Token} → Domains (symbol comma) ds us (symbol close_square ∷ word of_word ∷ ts) →
        DomainContext t0 fs (word matrix_word ∷ word indexed_word ∷ word by_word ∷ symbol open_square ∷ us) → DomainContext t0 (element_frame ds ∷ fs) ts
    tuple_before : {fs : List Frame} {b : Bool} {acc : Doms} {us ts : List Token} → ((ds : Doms) (xs : List Token) → Domains (symbol comma) ds ts xs → Domains (symbol comma) (reverse_doms acc ds) us xs) →
        DomainContext t0 fs (tuple_tokens b us) → DomainContext t0 (tuple_domains_frame b acc ∷ fs) ts
    field_name_before : {fs : List Frame} {a : Text} {as' : List Text} {acc : Doms} {us ts : List Token} →
        ((ns : List Text) (ds : Doms) (xs : List Token) → FieldDomains ns ds (name a ∷ symbol colon ∷ ts) xs → FieldDomains (reverse_list as' ns) (reverse_doms acc ds) us xs) →
        DomainContext t0 fs (word record_word ∷ symbol open_curly ∷ us) → DomainContext t0 (field_domain_frame (a ∷ as') acc ∷ fs) ts
    inner_word_before : {fs : List Frame} {k : Inner} {ms : List Mark} {es : Exs} {us ts : List Token} → MaybeAttributes ms es us (word (joining_word k) ∷ ts) →
        DomainContext t0 fs (word (inner_word k) ∷ us) → DomainContext t0 (inner_domain_frame k ms es ∷ fs) ts
    relation_word_before : {fs : List Frame} {ms : List Mark} {es : Exs} {acc : Doms} {us vs ts : List Token} → MaybeAttributes ms es us (word of_word ∷ symbol open_round ∷ vs) →
        ((ds : Doms) (xs : List Token) → Domains (operator Op2.Times) ds ts xs → Domains (operator Op2.Times) (reverse_doms acc ds) vs xs) →
        DomainContext t0 fs (word relation_word ∷ us) → DomainContext t0 (relation_domains_frame ms es acc ∷ fs) ts
    function_word_before : {fs : List Frame} {ms : List Mark} {es : Exs} {us ts : List Token} → FunctionOpens ms es us ts → DomainContext t0 fs (word function_word ∷ us) → DomainContext t0 (function_from_frame ms es ∷ fs) ts
    function_arrow_before : {fs : List Frame} {ms : List Mark} {es : Exs} {d : Dom} {us vs ts : List Token} → FunctionOpens ms es us vs → Domain d vs (symbol maps_to ∷ ts) →
        DomainContext t0 fs (word function_word ∷ us) → DomainContext t0 (function_to_frame ms es d ∷ fs) ts

-- The frames before an attribute.
pub data AttributeContext (t0 : List Token) : List Frame → List Token → Type 0 where
  attributes_before : {fs : List Frame} {o : Owner} {ms : List Mark} {acc : Exs} {us ts : List Token} →
      ((ns : List Mark) (es : Exs) (xs : List Token) → Attributes ns es ts xs → Attributes (reverse_list ms ns) (reverse_exs acc es) us xs) →
      DomainContext t0 fs (word (owner_word o) ∷ symbol open_round ∷ us) → AttributeContext t0 (attributes_frame o ms acc ∷ fs) ts

-- The frames behind an attribute's word.
pub record KeyRead (t0 : List Token) (k : Key) (fs : List Frame) (ts : List Token) : Type 0 where
  pub a : Text
  pub is : key_of a ≡ Some k
  pub context : AttributeContext t0 fs (name a ∷ ts)

-- The frames before the word that joins an inner domain.
pub data JoiningContext (t0 : List Token) : Inner → List Frame → List Token → Type 0 where
  joining_before : {fs : List Frame} {k : Inner} {ms : List Mark} {es : Exs} {us ts : List Token} → MaybeAttributes ms es us ts → DomainContext t0 fs (word (inner_word k) ∷ us) → JoiningContext t0 k (inner_domain_frame k ms es ∷ fs) ts

-- The frames before `of` of a relation.
pub data RelationContext (t0 : List Token) : List Frame → List Token → Type 0 where
  relation_begun_before : {fs : List Frame} {ms : List Mark} {es : Exs} {us ts : List Token} → MaybeAttributes ms es us ts → DomainContext t0 fs (word relation_word ∷ us) → RelationContext t0 (relation_domains_frame ms es no_doms ∷ fs) ts

-- The frames before the name of a record domain's field.
pub data FieldNameContext (t0 : List Token) : List Frame → List Token → Type 0 where
  field_domains_before : {fs : List Frame} {as' : List Text} {acc : Doms} {us ts : List Token} →
      ((ns : List Text) (ds : Doms) (xs : List Token) → FieldDomains ns ds ts xs → FieldDomains (reverse_list as' ns) (reverse_doms acc ds) us xs) →
      DomainContext t0 fs (word record_word ∷ symbol open_curly ∷ us) → FieldNameContext t0 (field_names_frame as' acc ∷ fs) ts

-- The frames behind the index domains of a matrix.
pub data AxesContext (t0 : List Token) : List Frame → List Token → Type 0 where
  axes_closed_before : {fs : List Frame} {ds : Doms} {us ts : List Token} → Domains (symbol comma) ds us (symbol close_square ∷ ts) →
      DomainContext t0 fs (word matrix_word ∷ word indexed_word ∷ word by_word ∷ symbol open_square ∷ us) → AxesContext t0 (element_frame ds ∷ fs) ts
