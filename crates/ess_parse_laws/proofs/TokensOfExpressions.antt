-- The tokens of expressions and domains may all stand in files of lettings: the words of other statements occur in none.
use Rattle.std.proofs.Common.{◌≡◌, refl, ◌∙◌, ℕ, Bool, false, List, ◌∷◌}
use Rattle.ess_semantics.specs.declared.words.Fun.{Fun}
use Rattle.ess_semantics.specs.Values.{Text}
use Rattle.ess_semantics.specs.Trees.{Op, Ends, Mark, Ex, Exs, Gens, Dom, Doms}
use Rattle.ess_grammar.specs.Words.{Token, Symbol}
use Rattle.ess_grammar.specs.Patterns.{Shape, Place}
use Rattle.ess_grammar.specs.Grammar.{Quantifier, for_all_quantifier, exists_quantifier, sum_quantifier, Opens, opens_tuple, opens_set, opens_mset, opens_relation, opens_partition, opens_matrix, opens_call, Atom, Expression, Expressions, Pairs, Fields, Items, Generator, Domain, Domains, FieldDomains, MaybeAttributes, Attributes, Attribute, Ranges, Range, number_atom, true_atom, false_atom, name_atom, bracketed_atom, pair_atom, list_atom, empty_atom, function_atom, empty_function_atom, record_atom, matrix_atom, comprehension_atom, bar_atom, index_atom, application_atom, atom_expression, minus_expression, not_expression, binary_expression, quantifier_expression, last_expression, next_expression, last_pair, next_pair, last_field, next_field, last_generator, next_generator, last_condition, next_condition, over_generator, from_generator, in_generator, bool_domain, int_domain, ranges_domain, name_domain, pair_domain, tuple_domain, record_domain, matrix_domain, set_domain, mset_domain, partition_domain, relation_domain, function_domain, plain_function_domain, last_domain, next_domain, last_field_domain, next_field_domain, no_attributes, some_attributes, last_attribute, next_attribute, flag_attribute, valued_attribute, last_range, next_range, value_range, both_range, low_range, high_range}
use Rattle.ess_parse_laws.specs.Lettings.{all_may_stand}

-- From ts down to us all tokens may stand: what holds behind them holds before them.
abbrev pub MayStand : List Token → List Token → Type 0
MayStand ts us = all_may_stand false ts ≡ all_may_stand false us

opens-stand : {o : Op} {c : Symbol} {b : Bool} {ts us : List Token} → Opens o c b ts us → MayStand ts us
opens-stand opens_tuple = refl
opens-stand opens_set = refl
opens-stand opens_mset = refl
opens-stand opens_relation = refl
opens-stand opens_partition = refl
opens-stand opens_matrix = refl
opens-stand opens_call = refl

quantifier-stands : {t : Token} {f : Fun} {h : Bool} {ts : List Token} → Quantifier t f h ts → MayStand (t ∷ ts) ts
quantifier-stands for_all_quantifier = refl
quantifier-stands exists_quantifier = refl
quantifier-stands (sum_quantifier q) = refl

mutual
  atom-stands : {p : Bool} {e : Ex} {ts us : List Token} → Atom p e ts us → MayStand ts us
  atom-stands number_atom = refl
  atom-stands true_atom = refl
  atom-stands false_atom = refl
  atom-stands name_atom = refl
  atom-stands (bracketed_atom d) = expression-stands d
  atom-stands (pair_atom d ds) = expression-stands d ∙ expressions-stand ds
  atom-stands (list_atom z ds h) = opens-stand z ∙ expressions-stand ds
  atom-stands (empty_atom z) = opens-stand z
  atom-stands (function_atom ds) = pairs-stand ds
  atom-stands empty_function_atom = refl
  atom-stands (record_atom ds) = fields-stand ds
  atom-stands (matrix_atom ds d) = expressions-stand ds ∙ domain-stands d
  atom-stands (comprehension_atom d is) = expression-stands d ∙ items-stand is
  atom-stands (bar_atom d) = expression-stands d
  atom-stands (index_atom d ds) = atom-stands d ∙ expressions-stand ds
  atom-stands (application_atom d ds) = atom-stands d ∙ expressions-stand ds

  -- The tokens of an expression.
  pub expression-stands : {w : Bool} {s : Shape} {l : ℕ} {e : Ex} {ts us : List Token} → Expression w s l e ts us → MayStand ts us
  expression-stands (atom_expression d) = atom-stands d
  expression-stands (minus_expression k d) = expression-stands d
  expression-stands (not_expression k d) = expression-stands d
  expression-stands (binary_expression p q d g) = expression-stands d ∙ expression-stands g
  expression-stands (quantifier_expression q is d) = quantifier-stands q ∙ items-stand is ∙ expression-stands d

  expressions-stand : {k : Bool} {es : Exs} {ts us : List Token} → Expressions k es ts us → MayStand ts us
  expressions-stand (last_expression d) = expression-stands d
  expressions-stand (next_expression d ds) = expression-stands d ∙ expressions-stand ds

  pairs-stand : {es : Exs} {ts us : List Token} → Pairs es ts us → MayStand ts us
  pairs-stand (last_pair d g) = expression-stands d ∙ expression-stands g
  pairs-stand (next_pair d g ds) = expression-stands d ∙ expression-stands g ∙ pairs-stand ds

  fields-stand : {ns : List Text} {es : Exs} {ts us : List Token} → Fields ns es ts us → MayStand ts us
  fields-stand (last_field d) = expression-stands d
  fields-stand (next_field d ds) = expression-stands d ∙ fields-stand ds

  items-stand : {p : Place} {bs : List Text} {h : Bool} {gs : Gens} {ts us : List Token} → Items p bs h gs ts us → MayStand ts us
  items-stand (last_generator g) = generator-stands g
  items-stand (next_generator g is) = generator-stands g ∙ items-stand is
  items-stand (last_condition k d) = expression-stands d
  items-stand (next_condition k i d is) = expression-stands d ∙ items-stand is

  generator-stands : {p : Place} {bs cs : List Text} {hs gs : Gens} {ts us : List Token} → Generator p bs cs hs gs ts us → MayStand ts us
  generator-stands (over_generator ds d) = expressions-stand ds ∙ domain-stands d
  generator-stands (from_generator ds d) = expressions-stand ds ∙ expression-stands d
  generator-stands (in_generator i ds d) = expressions-stand ds ∙ expression-stands d

  -- The tokens of a domain.
  pub domain-stands : {d : Dom} {ts us : List Token} → Domain d ts us → MayStand ts us
  domain-stands bool_domain = refl
  domain-stands int_domain = refl
  domain-stands (ranges_domain rs) = ranges-stand rs
  domain-stands name_domain = refl
  domain-stands (pair_domain d ds) = domain-stands d ∙ domains-stand ds (λ xs. refl)
  domain-stands (tuple_domain ds) = domains-stand ds (λ xs. refl)
  domain-stands (record_domain ds) = field-domains-stand ds
  domain-stands (matrix_domain ds d) = domains-stand ds (λ xs. refl) ∙ domain-stands d
  domain-stands (set_domain as' d) = maybe-attributes-stand as' ∙ domain-stands d
  domain-stands (mset_domain as' d) = maybe-attributes-stand as' ∙ domain-stands d
  domain-stands (partition_domain as' d) = maybe-attributes-stand as' ∙ domain-stands d
  domain-stands (relation_domain as' d ds) = maybe-attributes-stand as' ∙ domain-stands d ∙ domains-stand ds (λ xs. refl)
  domain-stands (function_domain as' d c) = attributes-stand as' ∙ domain-stands d ∙ domain-stands c
  domain-stands (plain_function_domain i d c) = domain-stands d ∙ domain-stands c

  domains-stand : {t : Token} {ds : Doms} {ts us : List Token} → Domains t ds ts us → ((xs : List Token) → MayStand (t ∷ xs) xs) → MayStand ts us
  domains-stand (last_domain d) h = domain-stands d
  domains-stand (next_domain {us = us} d ds) h = domain-stands d ∙ h us ∙ domains-stand ds h

  field-domains-stand : {ns : List Text} {ds : Doms} {ts us : List Token} → FieldDomains ns ds ts us → MayStand ts us
  field-domains-stand (last_field_domain d) = domain-stands d
  field-domains-stand (next_field_domain d ds) = domain-stands d ∙ field-domains-stand ds

  maybe-attributes-stand : {ms : List Mark} {es : Exs} {ts us : List Token} → MaybeAttributes ms es ts us → MayStand ts us
  maybe-attributes-stand no_attributes = refl
  maybe-attributes-stand (some_attributes as') = attributes-stand as'

  attributes-stand : {ms : List Mark} {es : Exs} {ts us : List Token} → Attributes ms es ts us → MayStand ts us
  attributes-stand (last_attribute k) = attribute-stands k
  attributes-stand (next_attribute k ks) = attribute-stands k ∙ attributes-stand ks

  attribute-stands : {m : Mark} {gs es : Exs} {ts us : List Token} → Attribute m gs es ts us → MayStand ts us
  attribute-stands (flag_attribute h) = refl
  attribute-stands (valued_attribute h d) = expression-stands d

  ranges-stand : {rs : List Ends} {es : Exs} {ts us : List Token} → Ranges rs es ts us → MayStand ts us
  ranges-stand (last_range k) = range-stands k
  ranges-stand (next_range k ks) = range-stands k ∙ ranges-stand ks

  range-stands : {r : Ends} {gs es : Exs} {ts us : List Token} → Range r gs es ts us → MayStand ts us
  range-stands (value_range d) = expression-stands d
  range-stands (both_range d g) = expression-stands d ∙ expression-stands g
  range-stands (low_range d) = expression-stands d
  range-stands (high_range d) = expression-stands d
