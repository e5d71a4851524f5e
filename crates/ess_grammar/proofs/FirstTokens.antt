-- With which tokens expressions and domains begin. So many texts are refused at one token.
use Rattle.std.specs.Prelude.{◌≡◌, refl, ℕ, Bool, true, false, List, [], ◌∷◌}
use Rattle.ess_semantics.specs.declared.words.Op2.{Op2}
use Rattle.ess_semantics.specs.declared.words.Fun.{Fun}
use Rattle.ess_semantics.specs.Trees.{Op, Ex, Dom}
use Rattle.ess_grammar.specs.Words.{Token, number, name, word, operator, function, symbol, for_all_word, exists_word, tuple_word, mset_word, relation_word, partition_word, function_word, record_word, true_word, false_word, bool_word, int_word, matrix_word, set_word, Symbol, open_round, open_square, open_curly, bar, exclamation}
use Rattle.ess_grammar.specs.Patterns.{Shape}
use Rattle.ess_grammar.specs.Grammar.{Quantifier, for_all_quantifier, exists_quantifier, sum_quantifier, Opens, opens_tuple, opens_set, opens_mset, opens_relation, opens_partition, opens_matrix, opens_call, Atom, Expression, Domain, number_atom, true_atom, false_atom, name_atom, bracketed_atom, pair_atom, list_atom, empty_atom, function_atom, empty_function_atom, record_atom, matrix_atom, comprehension_atom, bar_atom, index_atom, application_atom, atom_expression, minus_expression, not_expression, binary_expression, quantifier_expression, bool_domain, int_domain, ranges_domain, name_domain, pair_domain, tuple_domain, record_domain, matrix_domain, set_domain, mset_domain, partition_domain, relation_domain, function_domain, plain_function_domain}

-- Whether an expression may begin with the token.
abbrev pub begins_expression : Token → Bool
begins_expression (number n) = true
begins_expression (name a) = true
begins_expression (function f) = true
begins_expression (operator Op2.Minus) = true
begins_expression (symbol open_round) = true
begins_expression (symbol open_square) = true
begins_expression (symbol open_curly) = true
begins_expression (symbol bar) = true
begins_expression (symbol exclamation) = true
begins_expression (word true_word) = true
begins_expression (word false_word) = true
begins_expression (word tuple_word) = true
begins_expression (word mset_word) = true
begins_expression (word relation_word) = true
begins_expression (word partition_word) = true
begins_expression (word function_word) = true
begins_expression (word record_word) = true
begins_expression (word for_all_word) = true
begins_expression (word exists_word) = true
begins_expression _ = false

-- Whether a domain may begin with the token.
abbrev pub begins_domain : Token → Bool
begins_domain (name a) = true
begins_domain (symbol open_round) = true
begins_domain (word bool_word) = true
begins_domain (word int_word) = true
begins_domain (word tuple_word) = true
begins_domain (word record_word) = true
begins_domain (word matrix_word) = true
begins_domain (word set_word) = true
begins_domain (word mset_word) = true
begins_domain (word function_word) = true
begins_domain (word relation_word) = true
begins_domain (word partition_word) = true
begins_domain _ = false

-- There is a first token, and the test holds of it.
abbrev pub First : (Token → Bool) → List Token → Type 0
First may [] = ⊥
First may (t ∷ ts) = may t ≡ true

opens-first : {o : Op} {c : Symbol} {b : Bool} {ts us : List Token} → Opens o c b ts us → First begins_expression ts
opens-first opens_tuple = refl
opens-first opens_set = refl
opens-first opens_mset = refl
opens-first opens_relation = refl
opens-first opens_partition = refl
opens-first opens_matrix = refl
opens-first opens_call = refl

quantifier-first : {t : Token} {f : Fun} {h : Bool} {ts : List Token} → Quantifier t f h ts → First begins_expression (t ∷ ts)
quantifier-first for_all_quantifier = refl
quantifier-first exists_quantifier = refl
quantifier-first (sum_quantifier q) = refl

mutual
  atom-first : {p : Bool} {e : Ex} {ts us : List Token} → Atom p e ts us → First begins_expression ts
  atom-first number_atom = refl
  atom-first true_atom = refl
  atom-first false_atom = refl
  atom-first name_atom = refl
  atom-first (bracketed_atom d) = refl
  atom-first (pair_atom d ds) = refl
  atom-first (list_atom z ds h) = opens-first z
  atom-first (empty_atom z) = opens-first z
  atom-first (function_atom ds) = refl
  atom-first empty_function_atom = refl
  atom-first (record_atom ds) = refl
  atom-first (matrix_atom ds d) = refl
  atom-first (comprehension_atom d is) = refl
  atom-first (bar_atom d) = refl
  atom-first (index_atom d ds) = atom-first d
  atom-first (application_atom d ds) = atom-first d

  pub expression-first : {w : Bool} {s : Shape} {l : ℕ} {e : Ex} {ts us : List Token} → Expression w s l e ts us →
      First begins_expression ts
  expression-first (atom_expression d) = atom-first d
  expression-first (minus_expression k d) = refl
  expression-first (not_expression k d) = refl
  expression-first (binary_expression p q d g) = expression-first d
  expression-first (quantifier_expression q is d) = quantifier-first q

pub domain-first : {d : Dom} {ts us : List Token} → Domain d ts us → First begins_domain ts
domain-first bool_domain = refl
domain-first int_domain = refl
domain-first (ranges_domain rs) = refl
domain-first name_domain = refl
domain-first (pair_domain d ds) = refl
domain-first (tuple_domain ds) = refl
domain-first (record_domain ds) = refl
domain-first (matrix_domain ds d) = refl
domain-first (set_domain as' d) = refl
domain-first (mset_domain as' d) = refl
domain-first (partition_domain as' d) = refl
domain-first (relation_domain as' d ds) = refl
domain-first (function_domain as' d c) = refl
domain-first (plain_function_domain i d c) = refl
