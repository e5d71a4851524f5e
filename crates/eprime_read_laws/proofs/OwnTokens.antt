-- The tokens of an expression, or a domain, by themselves: a derivation reads a first part of the tokens, and reads it in the
-- same way before any others. No word that begins a statement stands in it. The block of mutual lemmas stays whole, since
-- the rules call each other.
use Rattle.std.proofs.Common.{◌≡◌, refl, sym, ap, ◌∙◌, subst, ℕ, Bool, true, false, ◌||◌, not, List, [], ◌∷◌, ◌++◌, IsTrue, IsFalse}
use Rattle.ess_semantics.specs.declared.words.Op2.{Op2}
use Rattle.ess_semantics.specs.declared.words.Fun.{Fun}
use Rattle.ess_semantics.specs.Values.{Text}
use Rattle.ess_semantics.specs.Trees.{Op, Ends, Mark, Ex, Exs, Gens, Dom, Doms, set_dom, mset_dom, partition_dom, relation_dom, function_dom, matrix_dom, more_doms, no_exs, plain_node, function_literal}
use Rattle.ess_grammar.specs.Words.{Token, number, name, word, operator, function, symbol, tuple_word, mset_word, relation_word, partition_word, function_word, record_word, true_word, false_word, bool_word, int_word, matrix_word, indexed_word, by_word, set_word, of_word, from_word, Symbol, open_round, close_round, open_square, close_square, open_curly, close_curly, comma, semicolon, colon, dot, dots, bar, exclamation, drawn_from, maps_to}
use Rattle.ess_grammar.specs.Patterns.{Shape, Place}
use Rattle.ess_grammar.specs.Grammar.{starts_attributes, Quantifier, for_all_quantifier, exists_quantifier, sum_quantifier, Opens, opens_tuple, opens_set, opens_mset, opens_relation, opens_partition, opens_matrix, opens_call, Atom, Expression, Expressions, Pairs, Fields, Items, Generator, Domain, Domains, FieldDomains, MaybeAttributes, Attributes, Attribute, Ranges, Range, number_atom, true_atom, false_atom, name_atom, bracketed_atom, pair_atom, list_atom, empty_atom, function_atom, empty_function_atom, record_atom, matrix_atom, comprehension_atom, bar_atom, index_atom, application_atom, atom_expression, minus_expression, not_expression, binary_expression, quantifier_expression, last_expression, next_expression, last_pair, next_pair, last_field, next_field, last_generator, next_generator, last_condition, next_condition, over_generator, from_generator, in_generator, bool_domain, int_domain, ranges_domain, name_domain, pair_domain, tuple_domain, record_domain, matrix_domain, set_domain, mset_domain, partition_domain, relation_domain, function_domain, plain_function_domain, last_domain, next_domain, last_field_domain, next_field_domain, no_attributes, some_attributes, last_attribute, next_attribute, flag_attribute, valued_attribute, last_range, next_range, value_range, both_range, low_range, high_range}
use Rattle.eprime_read_laws.proofs.PlainTokens.{is_plain, all_plain, first_token, starts-same, round-same, plain-before}

-- ---- fronts

-- What stands at the front of a list of tokens: put before others it joins them, and has no word that begins a statement.
record Front (front : List Token → List Token) : Type 0 where
  joins : (us vs : List Token) → front (us ++ vs) ≡ front us ++ vs
  plain : (us : List Token) → all_plain (front us) ≡ all_plain us
  first : (us vs : List Token) → first_token (front us) ≡ first_token (front vs)
  second : (us vs : List Token) → starts_attributes (front us) ≡ starts_attributes (front vs)

-- The tokens ts are a front before us, and the rule derives the front before any others.
pub record Own (P : List Token → List Token → Type 0) (ts us : List Token) : Type 0 where
  pub front : List Token → List Token
  is_front : Front front
  pub is : ts ≡ front us
  pub again : (vs : List Token) → P (front vs) vs

-- ---- fronts put together

-- One token.
one : {P : List Token → List Token → Type 0} {us : List Token} (t : Token) → is_plain t ≡ true → ((us vs : List Token) → starts_attributes (t ∷ us) ≡ starts_attributes (t ∷ vs)) → ((vs : List Token) → P (t ∷ vs) vs) → Own P (t ∷ us) us
one t h s k = record { front = λ vs. t ∷ vs; is_front = record { joins = λ us vs. refl; plain = λ us. plain-before t us h; first = λ us vs. refl; second = s }; is = refl; again = k }

-- A token before a front.
begun : {P Q : List Token → List Token → Type 0} {ts us : List Token} (t : Token) → is_plain t ≡ true → Own P ts us → ((xs vs : List Token) → P xs vs → Q (t ∷ xs) vs) → Own Q (t ∷ ts) us
begun t h o k = record {
  front = λ vs. t ∷ o.front vs;
  is_front = record {
    joins = λ us vs. ap (λ xs. t ∷ xs) ((o.is_front).joins us vs);
    plain = λ us. plain-before t (o.front us) h ∙ (o.is_front).plain us;
    first = λ us vs. refl;
    second = λ us vs. starts-same t (o.front us) (o.front vs) ((o.is_front).first us vs);
  };
  is = ap (λ xs. t ∷ xs) o.is;
  again = λ vs. k (o.front vs) vs (o.again vs);
}

-- Two tokens before a front.
begun-two : {P Q : List Token → List Token → Type 0} {ts us : List Token} (s t : Token) → is_plain s ≡ true → is_plain t ≡ true → Own P ts us → ((xs vs : List Token) → P xs vs → Q (s ∷ t ∷ xs) vs) →
    Own Q (s ∷ t ∷ ts) us
begun-two {Q = Q} s t g h o k = begun {Q = Q} s g (begun {Q = λ xs vs. Q (s ∷ xs) vs} t h o k) (λ xs vs q. q)

-- A token behind a front belongs to it.
closed : {P : List Token → List Token → Type 0} {ts us : List Token} (t : Token) → is_plain t ≡ true → Own P ts (t ∷ us) → Own (λ xs vs. P xs (t ∷ vs)) ts us
closed t h o = record {
  front = λ vs. o.front (t ∷ vs);
  is_front = record {
    joins = λ us vs. (o.is_front).joins (t ∷ us) vs;
    plain = λ us. (o.is_front).plain (t ∷ us) ∙ plain-before t us h;
    first = λ us vs. (o.is_front).first (t ∷ us) (t ∷ vs);
    second = λ us vs. (o.is_front).second (t ∷ us) (t ∷ vs);
  };
  is = o.is;
  again = λ vs. o.again (t ∷ vs);
}

-- A front before another.
both : {P R Q : List Token → List Token → Type 0} {ts us vs : List Token} → Own P ts us → Own R us vs → ((xs ys zs : List Token) → P xs ys → R ys zs → Q xs zs) → Own Q ts vs
both o p k = record {
  front = λ vs. o.front (p.front vs);
  is_front = record {
    joins = λ us vs. ap o.front ((p.is_front).joins us vs) ∙ (o.is_front).joins (p.front us) vs;
    plain = λ us. (o.is_front).plain (p.front us) ∙ (p.is_front).plain us;
    first = λ us vs. (o.is_front).first (p.front us) (p.front vs);
    second = λ us vs. (o.is_front).second (p.front us) (p.front vs);
  };
  is = o.is ∙ ap o.front p.is;
  again = λ vs. k (o.front (p.front vs)) (p.front vs) vs (o.again (p.front vs)) (p.again vs);
}

-- A token before two fronts.
begun-both : {P R Q : List Token → List Token → Type 0} {ts us vs : List Token} (t : Token) → is_plain t ≡ true → Own P ts us → Own R us vs → ((xs ys zs : List Token) → P xs ys → R ys zs → Q (t ∷ xs) zs) → Own Q (t ∷ ts) vs
begun-both {Q = Q} t h o p k = begun {Q = Q} t h (both {Q = λ xs vs. Q (t ∷ xs) vs} o p k) (λ xs vs q. q)

-- Two tokens before two fronts.
begun-two-both : {P R Q : List Token → List Token → Type 0} {ts us vs : List Token} (s t : Token) → is_plain s ≡ true → is_plain t ≡ true → Own P ts us → Own R us vs →
    ((xs ys zs : List Token) → P xs ys → R ys zs → Q (s ∷ t ∷ xs) zs) → Own Q (s ∷ t ∷ ts) vs
begun-two-both {Q = Q} s t g h o p k = begun {Q = Q} s g (begun-both {Q = λ xs vs. Q (s ∷ xs) vs} t h o p k) (λ xs vs q. q)

-- Three fronts.
both-three : {P R S Q : List Token → List Token → Type 0} {ts us vs ws : List Token} → Own P ts us → Own R us vs → Own S vs ws →
    ((xs ys zs as' : List Token) → P xs ys → R ys zs → S zs as' → Q xs as') → Own Q ts ws
both-three {P = P} {R = R} {Q = Q} o p q k =
    both {Q = Q} (both {Q = λ xs zs. (ys : List Token) × (P xs ys × R ys zs)} o p (λ xs ys zs a b. (ys, (a, b)))) q (λ xs zs as' a b. k xs a.0 zs as' (a.1).0 (a.1).1 b)

-- What is derived may be said in other words.
same : {P Q : List Token → List Token → Type 0} {ts us : List Token} → Own P ts us → ((xs vs : List Token) → P xs vs → Q xs vs) → Own Q ts us
same o k = record { front = o.front; is_front = o.is_front; is = o.is; again = λ vs. k (o.front vs) vs (o.again vs) }

-- A token, then what the rule P derives.
data Behind (t : Token) (P : List Token → List Token → Type 0) : List Token → List Token → Type 0 where
  behind : {xs vs : List Token} → P xs vs → Behind t P (t ∷ xs) vs

set-behind : {ms : List Mark} {es : Exs} {d : Dom} {ts us vs : List Token} → Behind (word set_word) (MaybeAttributes ms es) ts (word of_word ∷ us) → Domain d us vs → Domain (set_dom ms es d) ts vs
set-behind (behind a) k = set_domain a k

mset-behind : {ms : List Mark} {es : Exs} {d : Dom} {ts us vs : List Token} → Behind (word mset_word) (MaybeAttributes ms es) ts (word of_word ∷ us) → Domain d us vs → Domain (mset_dom ms es d) ts vs
mset-behind (behind a) k = mset_domain a k

partition-behind : {ms : List Mark} {es : Exs} {d : Dom} {ts us vs : List Token} → Behind (word partition_word) (MaybeAttributes ms es) ts (word from_word ∷ us) → Domain d us vs → Domain (partition_dom ms es d) ts vs
partition-behind (behind a) k = partition_domain a k

relation-behind : {ms : List Mark} {es : Exs} {d : Dom} {ds : Doms} {ts us vs xs : List Token} → Behind (word relation_word) (MaybeAttributes ms es) ts (word of_word ∷ symbol open_round ∷ us) →
    Domain d us (operator Op2.Times ∷ vs) → Domains (operator Op2.Times) ds vs (symbol close_round ∷ xs) → Domain (relation_dom ms es (more_doms d ds)) ts xs
relation-behind (behind a) k ks = relation_domain a k ks

-- ---- what looks at the tokens behind it

-- A front that doesn't begin as attributes do.
tested : {P : List Token → List Token → Type 0} {ts us : List Token} → IsFalse (starts_attributes ts) → Own P ts us → Own (λ xs vs. IsFalse (starts_attributes xs) × P xs vs) ts us
tested {us = us} i o = record {
  front = o.front;
  is_front = o.is_front;
  is = o.is;
  again = λ vs. (subst (λ b. IsFalse b) (ap starts_attributes o.is ∙ (o.is_front).second us vs) i, o.again vs);
}

quantifier-plain : {t : Token} {f : Fun} {h : Bool} {ts : List Token} → Quantifier t f h ts → is_plain t ≡ true
quantifier-plain for_all_quantifier = refl
quantifier-plain exists_quantifier = refl
quantifier-plain (sum_quantifier q) = refl

quantifier-again : {t : Token} {f : Fun} {h : Bool} {us : List Token} → Quantifier t f h us → (vs : List Token) → first_token us ≡ first_token vs → Quantifier t f h vs
quantifier-again for_all_quantifier vs e = for_all_quantifier
quantifier-again exists_quantifier vs e = exists_quantifier
quantifier-again {h = h} (sum_quantifier {ts = us} q) vs e = sum_quantifier (subst (λ b. IsTrue (h || not b)) (round-same us vs e) q)

-- Items behind a quantifier's word.
quantified : {t : Token} {f : Fun} {h : Bool} {P : List Token → List Token → Type 0} {ts us : List Token} → Quantifier t f h ts → Own P ts us → Own (λ xs vs. Quantifier t f h xs × P xs vs) ts us
quantified {us = us} q o = record {
  front = o.front;
  is_front = o.is_front;
  is = o.is;
  again = λ vs. (quantifier-again q (o.front vs) (ap first_token o.is ∙ (o.is_front).first us vs), o.again vs);
}

two-tokens : {P : List Token → List Token → Type 0} {us : List Token} (s t : Token) → is_plain s ≡ true → is_plain t ≡ true → ((us vs : List Token) → starts_attributes (s ∷ t ∷ us) ≡ starts_attributes (s ∷ t ∷ vs)) →
    ((vs : List Token) → P (s ∷ t ∷ vs) vs) → Own P (s ∷ t ∷ us) us
two-tokens s t g h r k = record {
  front = λ vs. s ∷ t ∷ vs;
  is_front = record { joins = λ us vs. refl; plain = λ us. plain-before s (t ∷ us) g ∙ plain-before t us h; first = λ us vs. refl; second = r };
  is = refl;
  again = k;
}

opens-own : {o : Op} {c : Symbol} {b : Bool} {ts us : List Token} → Opens o c b ts us → Own (Opens o c b) ts us
opens-own opens_tuple = two-tokens (word tuple_word) (symbol open_round) refl refl (λ us vs. refl) (λ vs. opens_tuple)
opens-own opens_set = one (symbol open_curly) refl (λ us vs. refl) (λ vs. opens_set)
opens-own opens_mset = two-tokens (word mset_word) (symbol open_round) refl refl (λ us vs. refl) (λ vs. opens_mset)
opens-own opens_relation = two-tokens (word relation_word) (symbol open_round) refl refl (λ us vs. refl) (λ vs. opens_relation)
opens-own opens_partition = two-tokens (word partition_word) (symbol open_round) refl refl (λ us vs. refl) (λ vs. opens_partition)
opens-own opens_matrix = one (symbol open_square) refl (λ us vs. refl) (λ vs. opens_matrix)
opens-own (opens_call {f = f}) = two-tokens (function f) (symbol open_round) refl refl (λ us vs. refl) (λ vs. opens_call)

-- ---- the rules

mutual
  atom-own : {p : Bool} {e : Ex} {ts us : List Token} → Atom p e ts us → Own (Atom p e) ts us
  atom-own (number_atom {n = n}) = one (number n) refl (λ us vs. refl) (λ vs. number_atom)
  atom-own true_atom = one (word true_word) refl (λ us vs. refl) (λ vs. true_atom)
  atom-own false_atom = one (word false_word) refl (λ us vs. refl) (λ vs. false_atom)
  atom-own (name_atom {a = a}) = one (name a) refl (λ us vs. refl) (λ vs. name_atom)
  atom-own (bracketed_atom d) = begun (symbol open_round) refl (closed (symbol close_round) refl (expression-own d)) (λ xs vs d. bracketed_atom d)
  atom-own (pair_atom d ds) = begun-both (symbol open_round) refl (closed (symbol comma) refl (expression-own d)) (closed (symbol close_round) refl (expressions-own ds)) (λ xs ys zs d ds. pair_atom d ds)
  atom-own (list_atom {c = c} z ds h) = both (opens-own z) (closed (symbol c) refl (expressions-own ds)) (λ xs ys zs z ds. list_atom z ds h)
  atom-own (empty_atom {c = c} z) = same (closed (symbol c) refl (opens-own z)) (λ xs vs z. empty_atom z)
  atom-own (function_atom ds) = begun-two (word function_word) (symbol open_round) refl refl (closed (symbol close_round) refl (pairs-own ds)) (λ xs vs ds. function_atom ds)
  atom-own empty_function_atom =
      begun {P = λ xs vs. xs ≡ symbol open_round ∷ symbol close_round ∷ vs} {Q = Atom false (plain_node function_literal no_exs)} (word function_word) refl (two-tokens (symbol open_round) (symbol close_round) refl refl (λ us vs. refl) (λ vs. refl))
      (λ xs vs e. subst (λ ts. Atom false (plain_node function_literal no_exs) (word function_word ∷ ts) vs) (sym e) empty_function_atom)
  atom-own (record_atom ds) = begun-two (word record_word) (symbol open_curly) refl refl (closed (symbol close_curly) refl (fields-own ds)) (λ xs vs ds. record_atom ds)
  atom-own (matrix_atom ds d) = begun-both (symbol open_square) refl (closed (symbol semicolon) refl (expressions-own ds)) (closed (symbol close_square) refl (domain-own d)) (λ xs ys zs ds d. matrix_atom ds d)
  atom-own (comprehension_atom d is) = begun-both (symbol open_square) refl (closed (symbol bar) refl (expression-own d)) (closed (symbol close_square) refl (items-own is)) (λ xs ys zs d is. comprehension_atom d is)
  atom-own (bar_atom d) = begun (symbol bar) refl (closed (symbol bar) refl (expression-own d)) (λ xs vs d. bar_atom d)
  atom-own (index_atom d ds) = both (closed (symbol open_square) refl (atom-own d)) (closed (symbol close_square) refl (expressions-own ds)) (λ xs ys zs d ds. index_atom d ds)
  atom-own (application_atom d ds) = both (closed (symbol open_round) refl (atom-own d)) (closed (symbol close_round) refl (expressions-own ds)) (λ xs ys zs d ds. application_atom d ds)

  -- An expression.
  pub expression-own : {w : Bool} {s : Shape} {l : ℕ} {e : Ex} {ts us : List Token} → Expression w s l e ts us → Own (Expression w s l e) ts us
  expression-own (atom_expression d) = same (atom-own d) (λ xs vs d. atom_expression d)
  expression-own (minus_expression k d) = begun (operator Op2.Minus) refl (expression-own d) (λ xs vs d. minus_expression k d)
  expression-own (not_expression k d) = begun (symbol exclamation) refl (expression-own d) (λ xs vs d. not_expression k d)
  expression-own (binary_expression {o = o} p q d g) = both (closed (operator o) refl (expression-own d)) (expression-own g) (λ xs ys zs d g. binary_expression p q d g)
  expression-own (quantifier_expression {t = t} q is d) =
      begun-both t (quantifier-plain q) (closed (symbol dot) refl (quantified q (items-own is))) (expression-own d) (λ xs ys zs p d. quantifier_expression p.0 p.1 d)

  expressions-own : {k : Bool} {es : Exs} {ts us : List Token} → Expressions k es ts us → Own (Expressions k es) ts us
  expressions-own (last_expression d) = same (expression-own d) (λ xs vs d. last_expression d)
  expressions-own (next_expression d ds) = both (closed (symbol comma) refl (expression-own d)) (expressions-own ds) (λ xs ys zs d ds. next_expression d ds)

  pairs-own : {es : Exs} {ts us : List Token} → Pairs es ts us → Own (Pairs es) ts us
  pairs-own (last_pair d g) = both (closed (symbol maps_to) refl (expression-own d)) (expression-own g) (λ xs ys zs d g. last_pair d g)
  pairs-own (next_pair d g ds) = both-three (closed (symbol maps_to) refl (expression-own d)) (closed (symbol comma) refl (expression-own g)) (pairs-own ds) (λ xs ys zs as' d g ds. next_pair d g ds)

  fields-own : {ns : List Text} {es : Exs} {ts us : List Token} → Fields ns es ts us → Own (Fields ns es) ts us
  fields-own (last_field {a = a} d) = begun-two (name a) (operator Op2.Eq) refl refl (expression-own d) (λ xs vs d. last_field d)
  fields-own (next_field {a = a} d ds) = begun-two-both (name a) (operator Op2.Eq) refl refl (closed (symbol comma) refl (expression-own d)) (fields-own ds) (λ xs ys zs d ds. next_field d ds)

  items-own : {p : Place} {bs : List Text} {h : Bool} {gs : Gens} {ts us : List Token} → Items p bs h gs ts us → Own (Items p bs h gs) ts us
  items-own (last_generator g) = same (generator-own g) (λ xs vs g. last_generator g)
  items-own (next_generator g is) = both (closed (symbol comma) refl (generator-own g)) (items-own is) (λ xs ys zs g is. next_generator g is)
  items-own (last_condition k d) = same (expression-own d) (λ xs vs d. last_condition k d)
  items-own (next_condition k i d is) = both (closed (symbol comma) refl (expression-own d)) (items-own is) (λ xs ys zs d is. next_condition k i d is)

  generator-own : {p : Place} {bs cs : List Text} {hs gs : Gens} {ts us : List Token} → Generator p bs cs hs gs ts us → Own (Generator p bs cs hs gs) ts us
  generator-own (over_generator ds d) = both (closed (symbol colon) refl (expressions-own ds)) (domain-own d) (λ xs ys zs ds d. over_generator ds d)
  generator-own (from_generator ds d) = both (closed (symbol drawn_from) refl (expressions-own ds)) (expression-own d) (λ xs ys zs ds d. from_generator ds d)
  generator-own (in_generator i ds d) = both (closed (operator Op2.Member) refl (expressions-own ds)) (expression-own d) (λ xs ys zs ds d. in_generator i ds d)

  -- A domain.
  pub domain-own : {d : Dom} {ts us : List Token} → Domain d ts us → Own (Domain d) ts us
  domain-own bool_domain = one (word bool_word) refl (λ us vs. refl) (λ vs. bool_domain)
  domain-own int_domain = one (word int_word) refl (λ us vs. refl) (λ vs. int_domain)
  domain-own (ranges_domain rs) = begun-two (word int_word) (symbol open_round) refl refl (closed (symbol close_round) refl (ranges-own rs)) (λ xs vs rs. ranges_domain rs)
  domain-own (name_domain {a = a}) = one (name a) refl (λ us vs. refl) (λ vs. name_domain)
  domain-own (pair_domain d ds) = begun-both (symbol open_round) refl (closed (symbol comma) refl (domain-own d)) (closed (symbol close_round) refl (domains-own ds refl)) (λ xs ys zs d ds. pair_domain d ds)
  domain-own (tuple_domain ds) = begun-two (word tuple_word) (symbol open_round) refl refl (closed (symbol close_round) refl (domains-own ds refl)) (λ xs vs ds. tuple_domain ds)
  domain-own (record_domain ds) = begun-two (word record_word) (symbol open_curly) refl refl (closed (symbol close_curly) refl (field-domains-own ds)) (λ xs vs ds. record_domain ds)
  domain-own (matrix_domain {ds = ds} {d = d} ks k) =
      begun-two {P = λ xs vs. Domain (matrix_dom ds d) (word matrix_word ∷ word indexed_word ∷ xs) vs} (word matrix_word) (word indexed_word) refl refl
      (begun-two-both (word by_word) (symbol open_square) refl refl (closed (word of_word) refl (closed (symbol close_square) refl (domains-own ks refl))) (domain-own k) (λ xs ys zs ks k. matrix_domain ks k))
      (λ xs vs k. k)
  domain-own (set_domain as' d) = both (closed (word of_word) refl (maybe-own as' (word set_word) refl (λ us vs. refl))) (domain-own d) (λ xs ys zs a d. set-behind a d)
  domain-own (mset_domain as' d) = both (closed (word of_word) refl (maybe-own as' (word mset_word) refl (λ us vs. refl))) (domain-own d) (λ xs ys zs a d. mset-behind a d)
  domain-own (partition_domain as' d) = both (closed (word from_word) refl (maybe-own as' (word partition_word) refl (λ us vs. refl))) (domain-own d) (λ xs ys zs a d. partition-behind a d)
  domain-own (relation_domain as' d ds) =
      both-three (closed (symbol open_round) refl (closed (word of_word) refl (maybe-own as' (word relation_word) refl (λ us vs. refl)))) (closed (operator Op2.Times) refl (domain-own d)) (closed (symbol close_round) refl (domains-own ds refl))
      (λ xs ys zs as' a d ds. relation-behind a d ds)
  domain-own (function_domain {ms = ms} {es = es} {d = d} {c = c} as' k g) =
      begun-two {P = λ xs vs. Domain (function_dom ms es d c) (word function_word ∷ symbol open_round ∷ xs) vs} (word function_word) (symbol open_round) refl refl
      (both-three (closed (symbol close_round) refl (attributes-own as')) (closed (symbol maps_to) refl (domain-own k)) (domain-own g) (λ xs ys zs as' a k g. function_domain a k g))
      (λ xs vs k. k)
  domain-own (plain_function_domain i d c) = begun-both (word function_word) refl (closed (symbol maps_to) refl (tested i (domain-own d))) (domain-own c) (λ xs ys zs p c. plain_function_domain p.0 p.1 c)

  domains-own : {t : Token} {ds : Doms} {ts us : List Token} → Domains t ds ts us → is_plain t ≡ true → Own (Domains t ds) ts us
  domains-own (last_domain d) h = same (domain-own d) (λ xs vs d. last_domain d)
  domains-own (next_domain {t = t} d ds) h = both (closed t h (domain-own d)) (domains-own ds h) (λ xs ys zs d ds. next_domain d ds)

  field-domains-own : {ns : List Text} {ds : Doms} {ts us : List Token} → FieldDomains ns ds ts us → Own (FieldDomains ns ds) ts us
  field-domains-own (last_field_domain {a = a} d) = begun-two (name a) (symbol colon) refl refl (domain-own d) (λ xs vs d. last_field_domain d)
  field-domains-own (next_field_domain {a = a} d ds) = begun-two-both (name a) (symbol colon) refl refl (closed (symbol comma) refl (domain-own d)) (field-domains-own ds) (λ xs ys zs d ds. next_field_domain d ds)

  maybe-own : {ms : List Mark} {es : Exs} {ts us : List Token} → MaybeAttributes ms es ts us → (t : Token) → is_plain t ≡ true → ((us vs : List Token) → starts_attributes (t ∷ us) ≡ starts_attributes (t ∷ vs)) →
      Own (Behind t (MaybeAttributes ms es)) (t ∷ ts) us
  maybe-own no_attributes t h s = one t h s (λ vs. behind no_attributes)
  maybe-own {ms = ms} {es = es} (some_attributes as') t h s =
      begun t h (begun {Q = MaybeAttributes ms es} (symbol open_round) refl (closed (symbol close_round) refl (attributes-own as')) (λ xs vs d. some_attributes d)) (λ xs vs d. behind d)

  attributes-own : {ms : List Mark} {es : Exs} {ts us : List Token} → Attributes ms es ts us → Own (Attributes ms es) ts us
  attributes-own (last_attribute k) = same (attribute-own k) (λ xs vs k. last_attribute k)
  attributes-own (next_attribute k ks) = both (closed (symbol comma) refl (attribute-own k)) (attributes-own ks) (λ xs ys zs k ks. next_attribute k ks)

  attribute-own : {m : Mark} {gs es : Exs} {ts us : List Token} → Attribute m gs es ts us → Own (Attribute m gs es) ts us
  attribute-own (flag_attribute {a = a} h) = one (name a) refl (λ us vs. refl) (λ vs. flag_attribute h)
  attribute-own (valued_attribute {a = a} h d) = begun (name a) refl (expression-own d) (λ xs vs d. valued_attribute h d)

  ranges-own : {rs : List Ends} {es : Exs} {ts us : List Token} → Ranges rs es ts us → Own (Ranges rs es) ts us
  ranges-own (last_range k) = same (range-own k) (λ xs vs k. last_range k)
  ranges-own (next_range k ks) = both (closed (symbol comma) refl (range-own k)) (ranges-own ks) (λ xs ys zs k ks. next_range k ks)

  range-own : {r : Ends} {gs es : Exs} {ts us : List Token} → Range r gs es ts us → Own (Range r gs es) ts us
  range-own (value_range d) = same (expression-own d) (λ xs vs d. value_range d)
  range-own (both_range d g) = both (closed (symbol dots) refl (expression-own d)) (expression-own g) (λ xs ys zs d g. both_range d g)
  range-own (low_range d) = same (closed (symbol dots) refl (expression-own d)) (λ xs vs d. low_range d)
  range-own (high_range d) = begun (symbol dots) refl (expression-own d) (λ xs vs d. high_range d)

-- ---- what follows

-- The own tokens of a part, and what the rule derives of them.
pub record OwnPart (P : List Token → List Token → Type 0) (ts us : List Token) : Type 0 where
  pub own : List Token
  pub is : ts ≡ own ++ us
  pub plain : all_plain own ≡ true
  pub alone : P own []

-- The first tokens by themselves.
pub own-part : {P : List Token → List Token → Type 0} {ts us : List Token} → Own P ts us → OwnPart P ts us
own-part {us = us} o = record { own = o.front []; is = o.is ∙ (o.is_front).joins [] us; plain = (o.is_front).plain []; alone = o.again [] }

-- No word that begins a statement stands in the first tokens.
pub plain-tokens : {P : List Token → List Token → Type 0} {ts us : List Token} → Own P ts us → all_plain ts ≡ all_plain us
plain-tokens {us = us} o = ap all_plain o.is ∙ (o.is_front).plain us

-- What is derived of tokens alone, is derived of them before any others.
pub before-others : {P : List Token → List Token → Type 0} {ts : List Token} → Own P ts [] → (us : List Token) → P (ts ++ us) us
before-others {P = P} o us = subst (λ ts. P ts us) ((o.is_front).joins [] us ∙ ap (λ ts. ts ++ us) (sym o.is)) (o.again us)
