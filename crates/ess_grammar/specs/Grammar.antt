-- The grammar of expressions and domains by rules (Essence, Constraints 13, 2008, its grammar; the Conjure manual, chapters
-- on domains, expressions, quantifiers and comprehensions). A rule reads a first part of the tokens and leaves the rest:
-- in each family the last two lists are the tokens before and behind, and `Expression .. e ts us` says that the tokens ts
-- begin with e and go on with us.
use Rattle.std.specs.Prelude.{ℕ, ◌≡◌, ◌≤◌, Bool, true, false, List, [], ◌∷◌, ◌++◌, map, pos, IsFalse, IsTrue, ◌&&◌, Some}
use Rattle.std.specs.Option.{is_some}
use Rattle.ess_semantics.specs.declared.words.Op1.{Op1}
use Rattle.ess_semantics.specs.declared.words.Op2.{Op2}
use Rattle.ess_semantics.specs.declared.words.Fun.{Fun}
use Rattle.ess_semantics.specs.declared.words.Key.{Key}
use Rattle.ess_semantics.specs.Values.{Text}
use Rattle.ess_semantics.specs.Lists.{zip}
use Rattle.ess_semantics.specs.Names.{Names, keys, by_name}
use Rattle.ess_semantics.specs.Kinds.{dom_list, doms_of}
use Rattle.ess_semantics.specs.Trees.{Step, by_value, Op, unary, binary, index, application, tuple_literal, set_literal, mset_literal, function_literal, relation_literal, partition_literal, matrix_literal, record_literal, Ends, one_value, both_ends, low_end, high_end, Mark, flag, valued, Ex, Exs, number_ex, truth_ex, name_ex, matrix_ex, comp_ex, no_exs, more_exs, Gens, no_gens, cond, Dom, bool_dom, int_dom, name_dom, tuple_dom, record_dom, matrix_dom, set_dom, mset_dom, function_dom, relation_dom, partition_dom, Doms, no_doms, more_doms, plain_node}
use Rattle.ess_grammar.specs.Levels.{level, left_least, right_least}
use Rattle.ess_grammar.specs.Words.{Token, number, name, word, operator, function, symbol, for_all_word, exists_word, tuple_word, mset_word, relation_word, partition_word, function_word, record_word, true_word, false_word, bool_word, int_word, matrix_word, indexed_word, by_word, set_word, of_word, from_word, Symbol, open_round, close_round, open_square, close_square, open_curly, close_curly, comma, semicolon, colon, dot, dots, bar, exclamation, drawn_from, maps_to, key_of}
use Rattle.ess_grammar.specs.Patterns.{Shape, other_shape, atom_shape, is_pattern, binary_shape, all_bound_by, is_one_bound, all_over, all_from, Place, in_quantifier, in_comprehension, may_be_condition, begins_as_generator, may_hold, may_follow_sum}

-- ---- trees as they are read

-- One operand.
pattern abbrev pub one_ex : Ex → Exs
one_ex a = more_exs a no_exs

-- Two operands.
pattern abbrev pub two_exs : Ex → Ex → Exs
two_exs a b = more_exs a (more_exs b no_exs)

-- A prefix operator's, or a bar's, expression.
abbrev pub unary_ex : Op1 → Ex → Ex
unary_ex o a = plain_node (unary o) (one_ex a)

-- A binary operator's expression.
abbrev pub binary_ex : Op2 → Ex → Ex → Ex
binary_ex o a b = plain_node (binary o) (two_exs a b)

-- A pair of a function literal.
abbrev pub pair_ex : Ex → Ex → Ex
pair_ex a b = plain_node tuple_literal (two_exs a b)

-- A quantifier is a fold over a comprehension.
abbrev pub quantified : Fun → Gens → Ex → Ex
quantified f gs e = plain_node (Op.word f) (one_ex (comp_ex e gs))

-- The steps of an index as it is read: one for each expression in the brackets, by its value.
abbrev pub steps_of : Exs → List Step
steps_of no_exs = []
steps_of (more_exs e es) = by_value ∷ steps_of es

-- An index: `m[i, j]` stays as it is written.
abbrev pub indexed : Ex → Exs → Ex
indexed e es = plain_node (index (steps_of es)) (more_exs e es)

-- An application of a function or relation.
abbrev pub applied : Ex → Exs → Ex
applied e es = plain_node application (more_exs e es)

-- The domain of records with these fields, in this order.
abbrev pub record_of : Names Dom → Dom
record_of xs = record_dom (keys xs) (doms_of (map (λ x. x.1) xs))

-- The domain of records with these names of fields and domains beside them. It has its fields in the byte order of their
-- names, whatever the written order is. Fields of one name stay in written order.
abbrev pub sorted_record : List Text → Doms → Dom
sorted_record fs ds = record_of (by_name (zip fs (dom_list ds)))

-- ---- what words and brackets begin

-- A word that begins a quantifier, its fold, and whether its items begin as a generator does, before these tokens.
pub data Quantifier : Token → Fun → Bool → List Token → Type 0 where
  for_all_quantifier : {h : Bool} {ts : List Token} → Quantifier (word for_all_word) Fun.And h ts
  exists_quantifier : {h : Bool} {ts : List Token} → Quantifier (word exists_word) Fun.Or h ts
  sum_quantifier : {h : Bool} {ts : List Token} → IsTrue (may_follow_sum h ts) → Quantifier (function Fun.Sum) Fun.Sum h ts

-- What begins a list that stands at a node: the symbol that closes it, and whether it may be empty.
pub data Opens : Op → Symbol → Bool → List Token → List Token → Type 0 where
  opens_tuple : {ts : List Token} → Opens tuple_literal close_round false (word tuple_word ∷ symbol open_round ∷ ts) ts
  opens_set : {ts : List Token} → Opens set_literal close_curly true (symbol open_curly ∷ ts) ts
  opens_mset : {ts : List Token} → Opens mset_literal close_round true (word mset_word ∷ symbol open_round ∷ ts) ts
  opens_relation : {ts : List Token} → Opens relation_literal close_round true (word relation_word ∷ symbol open_round ∷ ts) ts
  opens_partition : {ts : List Token} → Opens partition_literal close_round true (word partition_word ∷ symbol open_round ∷ ts) ts
  opens_matrix : {ts : List Token} → Opens matrix_literal close_square true (symbol open_square ∷ ts) ts
  opens_call : {f : Fun} {ts : List Token} → Opens (Op.word f) close_round false (function f ∷ symbol open_round ∷ ts) ts

-- Whether the tokens begin with an opening bracket and an attribute word: behind `function` they then begin attributes,
-- and else its first domain.
abbrev pub starts_attributes : List Token → Bool
starts_attributes (symbol open_round ∷ name a ∷ ts) = is_some (key_of a)
starts_attributes _ = false

-- ---- the rules

mutual
  -- What needs no operator, with its indices and applications. The flag says whether it is written as a pattern.
  pub data Atom : Bool → Ex → List Token → List Token → Type 0 where
    number_atom : {n : ℕ} {us : List Token} → Atom false (number_ex (pos n)) (number n ∷ us) us
    true_atom : {us : List Token} → Atom false (truth_ex true) (word true_word ∷ us) us
    false_atom : {us : List Token} → Atom false (truth_ex false) (word false_word ∷ us) us
    name_atom : {a : Text} {us : List Token} → Atom true (name_ex a) (name a ∷ us) us
    bracketed_atom : {w : Bool} {s : Shape} {l : ℕ} {e : Ex} {ts us : List Token} →
        Expression w s l e ts (symbol close_round ∷ us) → Atom false e (symbol open_round ∷ ts) us
    -- a tuple of two or more
    pair_atom : {w k : Bool} {s : Shape} {l : ℕ} {e : Ex} {es : Exs} {ts us vs : List Token} →
        Expression w s l e ts (symbol comma ∷ us) → Expressions k es us (symbol close_round ∷ vs) →
        Atom (is_pattern s && k) (plain_node tuple_literal (more_exs e es)) (symbol open_round ∷ ts) vs
    -- a literal or a call
    list_atom : {o : Op} {c : Symbol} {b k : Bool} {es : Exs} {ts us vs : List Token} → Opens o c b ts us →
        Expressions k es us (symbol c ∷ vs) → IsTrue (may_hold o k es) → Atom false (plain_node o es) ts vs
    empty_atom : {o : Op} {c : Symbol} {ts us : List Token} → Opens o c true ts (symbol c ∷ us) → Atom false (plain_node o no_exs) ts us
    function_atom : {es : Exs} {ts us : List Token} → Pairs es ts (symbol close_round ∷ us) →
        Atom false (plain_node function_literal es) (word function_word ∷ symbol open_round ∷ ts) us
    empty_function_atom : {us : List Token} →
        Atom false (plain_node function_literal no_exs) (word function_word ∷ symbol open_round ∷ symbol close_round ∷ us) us
    record_atom : {fs : List Text} {es : Exs} {ts us : List Token} → Fields fs es ts (symbol close_curly ∷ us) →
        Atom false (plain_node (record_literal fs) es) (word record_word ∷ symbol open_curly ∷ ts) us
    -- a matrix with its index domain
    matrix_atom : {k : Bool} {es : Exs} {d : Dom} {ts us vs : List Token} → Expressions k es ts (symbol semicolon ∷ us) →
        Domain d us (symbol close_square ∷ vs) → Atom false (matrix_ex es d) (symbol open_square ∷ ts) vs
    comprehension_atom : {w h : Bool} {s : Shape} {l : ℕ} {e : Ex} {gs : Gens} {ts us vs : List Token} →
        Expression w s l e ts (symbol bar ∷ us) → Items in_comprehension [] h gs us (symbol close_square ∷ vs) →
        Atom false (comp_ex e gs) (symbol open_square ∷ ts) vs
    -- a bar where an operand may begin opens a bar's expression, any other closes one or begins items
    bar_atom : {s : Shape} {l : ℕ} {e : Ex} {ts us : List Token} →
        Expression false s l e ts (symbol bar ∷ us) → Atom false (unary_ex Op1.Bar e) (symbol bar ∷ ts) us
    index_atom : {p k : Bool} {e : Ex} {es : Exs} {ts us vs : List Token} → Atom p e ts (symbol open_square ∷ us) →
        Expressions k es us (symbol close_square ∷ vs) → Atom false (indexed e es) ts vs
    application_atom : {p k : Bool} {e : Ex} {es : Exs} {ts us vs : List Token} → Atom p e ts (symbol open_round ∷ us) →
        Expressions k es us (symbol close_round ∷ vs) → Atom false (applied e es) ts vs

  -- An expression of a shape and a level. The flag says whether it ends in a quantifier's body. Such an expression is no
  -- left operand, so that a body reaches as far right as it can, and it stands only where the grammar lets a quantifier.
  pub data Expression : Bool → Shape → ℕ → Ex → List Token → List Token → Type 0 where
    atom_expression : {p : Bool} {e : Ex} {ts us : List Token} → Atom p e ts us → Expression false (atom_shape p) 10 e ts us
    minus_expression : {w : Bool} {s : Shape} {l : ℕ} {e : Ex} {ts us : List Token} → 9 ≤ l → Expression w s l e ts us →
        Expression w other_shape 9 (unary_ex Op1.Minus e) (operator Op2.Minus ∷ ts) us
    not_expression : {w : Bool} {s : Shape} {l : ℕ} {e : Ex} {ts us : List Token} → 9 ≤ l → Expression w s l e ts us →
        Expression w other_shape 9 (unary_ex Op1.Not e) (symbol exclamation ∷ ts) us
    binary_expression : {w : Bool} {s z : Shape} {o : Op2} {l m : ℕ} {a b : Ex} {ts us vs : List Token} →
        left_least o ≤ l → right_least o ≤ m →
        Expression false s l a ts (operator o ∷ us) → Expression w z m b us vs →
        Expression w (binary_shape o s a) (level o) (binary_ex o a b) ts vs
    quantifier_expression : {w h : Bool} {s : Shape} {l : ℕ} {t : Token} {f : Fun} {e : Ex} {gs : Gens} {ts us vs : List Token} →
        Quantifier t f h ts → Items in_quantifier [] h gs ts (symbol dot ∷ us) → Expression w s l e us vs →
        Expression true other_shape 10 (quantified f gs e) (t ∷ ts) vs

  -- One or more expressions with commas between. The flag says whether all are written as patterns.
  pub data Expressions : Bool → Exs → List Token → List Token → Type 0 where
    last_expression : {w : Bool} {s : Shape} {l : ℕ} {e : Ex} {ts us : List Token} → Expression w s l e ts us →
        Expressions (is_pattern s) (one_ex e) ts us
    next_expression : {w k : Bool} {s : Shape} {l : ℕ} {e : Ex} {es : Exs} {ts us vs : List Token} →
        Expression w s l e ts (symbol comma ∷ us) → Expressions k es us vs → Expressions (is_pattern s && k) (more_exs e es) ts vs

  -- The pairs of a function literal.
  pub data Pairs : Exs → List Token → List Token → Type 0 where
    last_pair : {v w : Bool} {s z : Shape} {l m : ℕ} {a b : Ex} {ts us vs : List Token} →
        Expression v s l a ts (symbol maps_to ∷ us) → Expression w z m b us vs → Pairs (one_ex (pair_ex a b)) ts vs
    next_pair : {v w : Bool} {s z : Shape} {l m : ℕ} {a b : Ex} {es : Exs} {ts us vs xs : List Token} →
        Expression v s l a ts (symbol maps_to ∷ us) → Expression w z m b us (symbol comma ∷ vs) → Pairs es vs xs →
        Pairs (more_exs (pair_ex a b) es) ts xs

  -- The fields of a record literal, which keeps their order.
  pub data Fields : List Text → Exs → List Token → List Token → Type 0 where
    last_field : {w : Bool} {s : Shape} {l : ℕ} {a : Text} {e : Ex} {ts us : List Token} →
        Expression w s l e ts us → Fields (a ∷ []) (one_ex e) (name a ∷ operator Op2.Eq ∷ ts) us
    next_field : {w : Bool} {s : Shape} {l : ℕ} {a : Text} {fs : List Text} {e : Ex} {es : Exs} {ts us vs : List Token} →
        Expression w s l e ts (symbol comma ∷ us) → Fields fs es us vs → Fields (a ∷ fs) (more_exs e es) (name a ∷ operator Op2.Eq ∷ ts) vs

  -- The items of a quantifier or comprehension, behind items that bind some names. The flag says whether they begin as a
  -- generator does.
  pub data Items : Place → List Text → Bool → Gens → List Token → List Token → Type 0 where
    last_generator : {p : Place} {bs cs : List Text} {gs : Gens} {ts us : List Token} → Generator p bs cs no_gens gs ts us →
        Items p bs true gs ts us
    next_generator : {p : Place} {bs cs : List Text} {h : Bool} {gs hs : Gens} {ts us vs : List Token} →
        Generator p bs cs hs gs ts (symbol comma ∷ us) → Items p (bs ++ cs) h hs us vs → Items p bs true gs ts vs
    last_condition : {p : Place} {s : Shape} {l : ℕ} {bs : List Text} {e : Ex} {ts us : List Token} → IsTrue (may_be_condition p bs s) →
        Expression false s l e ts us → Items p bs (begins_as_generator p s) (cond e no_gens) ts us
    -- a pattern before a generator is one of its patterns
    next_condition : {p : Place} {s : Shape} {l : ℕ} {bs : List Text} {h : Bool} {e : Ex} {hs : Gens} {ts us vs : List Token} →
        IsTrue (may_be_condition p bs s) → IsFalse (h && is_pattern s) →
        Expression false s l e ts (symbol comma ∷ us) → Items p bs h hs us vs → Items p bs (begins_as_generator p s) (cond e hs) ts vs

  -- A generator behind items that bind the names bs. It binds cs and stands before the items hs; with them it is gs.
  pub data Generator : Place → List Text → List Text → Gens → Gens → List Token → List Token → Type 0 where
    over_generator : {p : Place} {bs : List Text} {ps : Exs} {d : Dom} {hs : Gens} {ts us vs : List Token} →
        Expressions true ps ts (symbol colon ∷ us) → Domain d us vs → Generator p bs (all_bound_by ps) hs (all_over ps d hs) ts vs
    from_generator : {p : Place} {s : Shape} {l : ℕ} {bs : List Text} {ps : Exs} {e : Ex} {hs : Gens} {ts us vs : List Token} →
        Expressions true ps ts (symbol drawn_from ∷ us) → Expression false s l e us vs →
        Generator p bs (all_bound_by ps) hs (all_from ps e hs) ts vs
    in_generator : {s : Shape} {l : ℕ} {bs : List Text} {ps : Exs} {e : Ex} {hs : Gens} {ts us vs : List Token} →
        IsFalse (is_one_bound bs ps) →
        Expressions true ps ts (operator Op2.Member ∷ us) → Expression false s l e us vs →
        Generator in_quantifier bs (all_bound_by ps) hs (all_from ps e hs) ts vs

  -- A domain.
  pub data Domain : Dom → List Token → List Token → Type 0 where
    bool_domain : {us : List Token} → Domain bool_dom (word bool_word ∷ us) us
    int_domain : {us : List Token} → Domain (int_dom [] no_exs) (word int_word ∷ us) us
    ranges_domain : {rs : List Ends} {es : Exs} {ts us : List Token} → Ranges rs es ts (symbol close_round ∷ us) →
        Domain (int_dom rs es) (word int_word ∷ symbol open_round ∷ ts) us
    name_domain : {a : Text} {us : List Token} → Domain (name_dom a) (name a ∷ us) us
    -- a tuple of two or more
    pair_domain : {d : Dom} {ds : Doms} {ts us vs : List Token} → Domain d ts (symbol comma ∷ us) →
        Domains (symbol comma) ds us (symbol close_round ∷ vs) →
        Domain (tuple_dom (more_doms d ds)) (symbol open_round ∷ ts) vs
    tuple_domain : {ds : Doms} {ts us : List Token} → Domains (symbol comma) ds ts (symbol close_round ∷ us) →
        Domain (tuple_dom ds) (word tuple_word ∷ symbol open_round ∷ ts) us
    -- its fields are kept by name
    record_domain : {fs : List Text} {ds : Doms} {ts us : List Token} → FieldDomains fs ds ts (symbol close_curly ∷ us) →
        Domain (sorted_record fs ds) (word record_word ∷ symbol open_curly ∷ ts) us
    matrix_domain : {ds : Doms} {d : Dom} {ts us vs : List Token} → Domains (symbol comma) ds ts (symbol close_square ∷ word of_word ∷ us) →
        Domain d us vs → Domain (matrix_dom ds d) (word matrix_word ∷ word indexed_word ∷ word by_word ∷ symbol open_square ∷ ts) vs
    set_domain : {ms : List Mark} {es : Exs} {d : Dom} {ts us vs : List Token} → MaybeAttributes ms es ts (word of_word ∷ us) →
        Domain d us vs → Domain (set_dom ms es d) (word set_word ∷ ts) vs
    mset_domain : {ms : List Mark} {es : Exs} {d : Dom} {ts us vs : List Token} → MaybeAttributes ms es ts (word of_word ∷ us) →
        Domain d us vs → Domain (mset_dom ms es d) (word mset_word ∷ ts) vs
    partition_domain : {ms : List Mark} {es : Exs} {d : Dom} {ts us vs : List Token} → MaybeAttributes ms es ts (word from_word ∷ us) →
        Domain d us vs → Domain (partition_dom ms es d) (word partition_word ∷ ts) vs
    relation_domain : {ms : List Mark} {es : Exs} {d : Dom} {ds : Doms} {ts us vs xs : List Token} →
        MaybeAttributes ms es ts (word of_word ∷ symbol open_round ∷ us) → Domain d us (operator Op2.Times ∷ vs) →
        Domains (operator Op2.Times) ds vs (symbol close_round ∷ xs) →
        Domain (relation_dom ms es (more_doms d ds)) (word relation_word ∷ ts) xs
    function_domain : {ms : List Mark} {es : Exs} {d c : Dom} {ts us vs xs : List Token} → Attributes ms es ts (symbol close_round ∷ us) →
        Domain d us (symbol maps_to ∷ vs) → Domain c vs xs →
        Domain (function_dom ms es d c) (word function_word ∷ symbol open_round ∷ ts) xs
    plain_function_domain : {d c : Dom} {ts us vs : List Token} → IsFalse (starts_attributes ts) → Domain d ts (symbol maps_to ∷ us) →
        Domain c us vs →
        Domain (function_dom [] no_exs d c) (word function_word ∷ ts) vs

  -- One or more domains with the token t between.
  pub data Domains : Token → Doms → List Token → List Token → Type 0 where
    last_domain : {t : Token} {d : Dom} {ts us : List Token} → Domain d ts us → Domains t (more_doms d no_doms) ts us
    next_domain : {t : Token} {d : Dom} {ds : Doms} {ts us vs : List Token} → Domain d ts (t ∷ us) → Domains t ds us vs →
        Domains t (more_doms d ds) ts vs

  -- The fields of a record domain, as they are written.
  pub data FieldDomains : List Text → Doms → List Token → List Token → Type 0 where
    last_field_domain : {a : Text} {d : Dom} {ts us : List Token} → Domain d ts us →
        FieldDomains (a ∷ []) (more_doms d no_doms) (name a ∷ symbol colon ∷ ts) us
    next_field_domain : {a : Text} {fs : List Text} {d : Dom} {ds : Doms} {ts us vs : List Token} → Domain d ts (symbol comma ∷ us) →
        FieldDomains fs ds us vs → FieldDomains (a ∷ fs) (more_doms d ds) (name a ∷ symbol colon ∷ ts) vs

  -- Attributes in brackets, or none.
  pub data MaybeAttributes : List Mark → Exs → List Token → List Token → Type 0 where
    no_attributes : {us : List Token} → MaybeAttributes [] no_exs us us
    some_attributes : {ms : List Mark} {es : Exs} {ts us : List Token} → Attributes ms es ts (symbol close_round ∷ us) →
        MaybeAttributes ms es (symbol open_round ∷ ts) us

  -- One or more attributes.
  pub data Attributes : List Mark → Exs → List Token → List Token → Type 0 where
    last_attribute : {m : Mark} {es : Exs} {ts us : List Token} → Attribute m no_exs es ts us → Attributes (m ∷ []) es ts us
    next_attribute : {m : Mark} {ms : List Mark} {es fs : Exs} {ts us vs : List Token} → Attribute m fs es ts (symbol comma ∷ us) →
        Attributes ms fs us vs → Attributes (m ∷ ms) es ts vs

  -- An attribute before the numbers fs of those behind it; with its own they are es.
  pub data Attribute : Mark → Exs → Exs → List Token → List Token → Type 0 where
    flag_attribute : {a : Text} {k : Key} {fs : Exs} {us : List Token} → key_of a ≡ Some k → Attribute (flag k) fs fs (name a ∷ us) us
    valued_attribute : {a : Text} {s : Shape} {l : ℕ} {k : Key} {e : Ex} {fs : Exs} {ts us : List Token} → key_of a ≡ Some k →
        Expression false s l e ts us → Attribute (valued k) fs (more_exs e fs) (name a ∷ ts) us

  -- One or more ranges.
  pub data Ranges : List Ends → Exs → List Token → List Token → Type 0 where
    last_range : {r : Ends} {es : Exs} {ts us : List Token} → Range r no_exs es ts us → Ranges (r ∷ []) es ts us
    next_range : {r : Ends} {rs : List Ends} {es fs : Exs} {ts us vs : List Token} → Range r fs es ts (symbol comma ∷ us) →
        Ranges rs fs us vs → Ranges (r ∷ rs) es ts vs

  -- A range before the bounds fs of those behind it; with its own they are es.
  pub data Range : Ends → Exs → Exs → List Token → List Token → Type 0 where
    value_range : {s : Shape} {l : ℕ} {a : Ex} {fs : Exs} {ts us : List Token} → Expression false s l a ts us →
        Range one_value fs (more_exs a fs) ts us
    both_range : {s z : Shape} {l m : ℕ} {a b : Ex} {fs : Exs} {ts us vs : List Token} → Expression false s l a ts (symbol dots ∷ us) →
        Expression false z m b us vs → Range both_ends fs (more_exs a (more_exs b fs)) ts vs
    low_range : {s : Shape} {l : ℕ} {a : Ex} {fs : Exs} {ts us : List Token} → Expression false s l a ts (symbol dots ∷ us) →
        Range low_end fs (more_exs a fs) ts us
    high_range : {s : Shape} {l : ℕ} {b : Ex} {fs : Exs} {ts us : List Token} → Expression false s l b ts us →
        Range high_end fs (more_exs b fs) (symbol dots ∷ ts) us
