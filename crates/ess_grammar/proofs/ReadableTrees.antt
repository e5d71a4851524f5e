-- What the rules give for proper tokens is readable, and the tokens that they leave are proper.
use Rattle.std.proofs.Common.{◌≡◌, refl, ℕ, Bool, true, false, ◌&&◌, List, [], ◌∷◌, pos, IsTrue}
use Rattle.ess_semantics.specs.declared.words.Op2.{Op2}
use Rattle.ess_semantics.specs.Values.{Text}
use Rattle.ess_semantics.specs.Trees.{Op, record_literal, Ends, Mark, Ex, Exs, no_exs, more_exs, Gens, Dom, more_doms, Doms}
use Rattle.ess_semantics.specs.Lists.{zip}
use Rattle.ess_semantics.specs.Kinds.{dom_list}
use Rattle.ess_semantics.proofs.Tests.{and-left, and-right, and-both}
use Rattle.ess_grammar.specs.Words.{Token, number, name, Symbol}
use Rattle.ess_grammar.specs.Patterns.{Shape, atom_shape, is_pattern, binary_shape, as_pattern, as_patterns, all_over, all_from, Place, is_member, pattern_shape, member_shape, other_shape}
use Rattle.ess_grammar.specs.Grammar.{Opens, opens_tuple, opens_set, opens_mset, opens_relation, opens_partition, opens_matrix, opens_call, Atom, Expression, Expressions, Pairs, Fields, Items, Generator, Domain, Domains, FieldDomains, MaybeAttributes, Attributes, Ranges, number_atom, true_atom, false_atom, name_atom, bracketed_atom, pair_atom, list_atom, empty_atom, function_atom, empty_function_atom, record_atom, matrix_atom, comprehension_atom, bar_atom, index_atom, application_atom, atom_expression, minus_expression, not_expression, binary_expression, quantifier_expression, last_expression, next_expression, last_pair, next_pair, last_field, next_field, last_generator, next_generator, last_condition, next_condition, over_generator, from_generator, in_generator, bool_domain, int_domain, ranges_domain, name_domain, pair_domain, tuple_domain, record_domain, matrix_domain, set_domain, mset_domain, partition_domain, relation_domain, function_domain, plain_function_domain, last_domain, next_domain, last_field_domain, next_field_domain, no_attributes, some_attributes, last_attribute, next_attribute, flag_attribute, valued_attribute, last_range, next_range, value_range, both_range, low_range, high_range}
use Rattle.ess_grammar.specs.Readable.{is_name_token, are_name_tokens, is_number_token, some_exs, some_doms, several_doms, several_pats, some_gens, fit_fields, fit_marks, fit_ranges, are_pairs, fit_operands, ReadablePat, ReadablePats, ReadableEx, ReadableExs, ReadableGens, ReadableDom, ReadableDoms}
use Rattle.ess_grammar.proofs.RecordFields.{some_fields, ReadableFields, fields-readable}
use Rattle.ess_grammar.proofs.FittingOperands.{none-fit, list-fit, index-fit, application-fit}

-- ---- proper tokens

-- A number token with its bound, and a name token that is a name of the subset.
abbrev pub is_proper : Token → Bool
is_proper (number n) = is_number_token (pos n)
is_proper (name a) = is_name_token a
is_proper t = true

abbrev pub Proper : List Token → Type 0
Proper [] = Unit {0}
Proper (t ∷ ts) = IsTrue (is_proper t) × Proper ts

-- ---- small facts

shape-true : (b : Bool) → is_pattern (atom_shape b) ≡ true → b ≡ true
shape-true true h = refl
shape-true false h = cc

binary-no-pattern : (o : Op2) (s : Shape) (a : Ex) → is_pattern (binary_shape o s a) ≡ true → ⊥
binary-no-pattern o (member_shape x) a h = cc
binary-no-pattern o other_shape a h = cc
binary-no-pattern o pattern_shape a h = go (is_member o) h
  where
    go : (m : Bool) → is_pattern (elim m [ true ↦ member_shape a | false ↦ other_shape ]) ≡ true → ⊥
    go true q = cc
    go false q = cc

opens-proper : {o : Op} {c : Symbol} {b : Bool} {ts us : List Token} → Opens o c b ts us → Proper ts → Proper us
opens-proper opens_tuple h = h.1.1
opens-proper opens_set h = h.1
opens-proper opens_mset h = h.1.1
opens-proper opens_relation h = h.1.1
opens-proper opens_partition h = h.1.1
opens-proper opens_matrix h = h.1
opens-proper opens_call h = h.1.1

some-of : {k : Bool} {es : Exs} {ts us : List Token} → Expressions k es ts us → some_exs es ≡ true
some-of (last_expression d) = refl
some-of (next_expression d ds) = refl

some-domains : {t : Token} {ds : Doms} {ts us : List Token} → Domains t ds ts us → some_doms ds ≡ true
some-domains (last_domain d) = refl
some-domains (next_domain d ds) = refl

several-domains : {t : Token} {ds : Doms} {ts us : List Token} → (d : Dom) → Domains t ds ts us → several_doms (more_doms d ds) ≡ true
several-domains c (last_domain d) = refl
several-domains c (next_domain d ds) = refl

several-patterns : {k : Bool} {es : Exs} {ts us : List Token} → (e : Ex) → Expressions k es ts us →
    several_pats (as_patterns (more_exs e es)) ≡ true
several-patterns e (last_expression d) = refl
several-patterns e (next_expression d ds) = refl

-- ---- the induction over the rules

-- the names of a record literal with its operands
record ReadsFields (ns : List Text) (es : Exs) (us : List Token) : Type 0 where
  fit : fit_operands (record_literal ns) es ≡ true
  exs : ReadableExs es
  rest : Proper us

-- those of a record domain, as they are written
record ReadsFieldDomains (ns : List Text) (ds : Doms) (us : List Token) : Type 0 where
  some : some_fields (zip ns (dom_list ds)) ≡ true
  fields : ReadableFields (zip ns (dom_list ds))
  rest : Proper us

field-fit : (a : Text) (ns : List Text) (e : Ex) (es : Exs) → is_name_token a ≡ true → fit_operands (record_literal ns) es ≡ true →
    fit_operands (record_literal (a ∷ ns)) (more_exs e es) ≡ true
field-fit a [] e es h k = cc
field-fit a (b ∷ ns) e es h k =
    and-both (is_name_token a && are_name_tokens (b ∷ ns)) (fit_fields (b ∷ ns) es)
    (and-both (is_name_token a) (are_name_tokens (b ∷ ns)) h (and-left (are_name_tokens (b ∷ ns)) (fit_fields (b ∷ ns) es) k))
    (and-right (are_name_tokens (b ∷ ns)) (fit_fields (b ∷ ns) es) k)

one-field-fit : (a : Text) (e : Ex) → is_name_token a ≡ true → fit_operands (record_literal (a ∷ [])) (more_exs e no_exs) ≡ true
one-field-fit a e h = and-both (is_name_token a && true) true (and-both (is_name_token a) true h refl) refl

-- a generator before readable items
record ReadsGenerator (hs gs : Gens) (us : List Token) : Type 0 where
  gens : ReadableGens hs → ReadableGens gs
  some : some_gens gs ≡ true
  rest : Proper us

over-all : (ps : Exs) (d : Dom) (hs : Gens) → ReadablePats (as_patterns ps) → ReadableDom d → ReadableGens hs →
    ReadableGens (all_over ps d hs)
over-all no_exs d hs p k h = h
over-all (more_exs e ps) d hs p k h = (p.0, k, over-all ps d hs p.1 k h)

from-all : (ps : Exs) (e : Ex) (hs : Gens) → ReadablePats (as_patterns ps) → ReadableEx e → ReadableGens hs →
    ReadableGens (all_from ps e hs)
from-all no_exs e hs p k h = h
from-all (more_exs x ps) e hs p k h = (p.0, k, from-all ps e hs p.1 k h)

over-some : {k : Bool} {ps : Exs} {ts us : List Token} → Expressions k ps ts us → (d : Dom) (hs : Gens) →
    some_gens (all_over ps d hs) ≡ true
over-some (last_expression e) d hs = refl
over-some (next_expression e es) d hs = refl

from-some : {k : Bool} {ps : Exs} {ts us : List Token} → Expressions k ps ts us → (e : Ex) (hs : Gens) → some_gens (all_from ps e hs) ≡ true
from-some (last_expression d) e hs = refl
from-some (next_expression d ds) e hs = refl

-- the numbers of an attribute, or the bounds of a range, before those that follow
record ReadsBefore (fs es : Exs) (us : List Token) : Type 0 where
  exs : ReadableExs fs → ReadableExs es
  rest : Proper us

mutual
  atom-reads : {p : Bool} {e : Ex} {ts us : List Token} → Atom p e ts us → Proper ts → ReadableEx e × Proper us
  atom-reads number_atom h = (h.0, h.1)
  atom-reads true_atom h = (tt, h.1)
  atom-reads false_atom h = (tt, h.1)
  atom-reads name_atom h = (h.0, h.1)
  atom-reads (bracketed_atom d) h = let r = reads d h.1 in (r.0, r.1.1)
  atom-reads (pair_atom d ds) h = let r = reads d h.1 in let q = all-read ds r.1.1 in ((refl, refl, (r.0, q.0)), q.1.1)
  atom-reads (list_atom z ds m) h = let q = all-read ds (opens-proper z h) in ((refl, list-fit z ds, q.0), q.1.1)
  atom-reads (empty_atom z) h = ((refl, none-fit z, tt), (opens-proper z h).1)
  atom-reads (function_atom ds) h = let q = pairs-read ds h.1.1 in ((refl, q.0.0, q.0.1), q.1.1)
  atom-reads empty_function_atom h = ((refl, refl, tt), h.1.1.1)
  atom-reads (record_atom ds) h = let q = fields-read ds h.1.1 in ((refl, q.fit, q.exs), q.rest.1)
  atom-reads (matrix_atom ds d) h = let q = all-read ds h.1 in let r = domain-reads d q.1.1 in ((some-of ds, q.0, r.0), r.1.1)
  atom-reads (comprehension_atom d is) h = let r = reads d h.1 in let q = items-read is r.1.1 in ((r.0, q.0.0, q.0.1), q.1.1)
  atom-reads (bar_atom d) h = let r = reads d h.1 in ((refl, refl, (r.0, tt)), r.1.1)
  atom-reads (index_atom {e = e} d ds) h = let r = atom-reads d h in let q = all-read ds r.1.1 in
      ((refl, index-fit ds e, (r.0, q.0)), q.1.1)
  atom-reads (application_atom {e = e} d ds) h = let r = atom-reads d h in let q = all-read ds r.1.1 in
      ((refl, application-fit ds e, (r.0, q.0)), q.1.1)

  pub reads : {w : Bool} {s : Shape} {l : ℕ} {e : Ex} {ts us : List Token} → Expression w s l e ts us → Proper ts → ReadableEx e × Proper us
  reads (atom_expression d) h = atom-reads d h
  reads (minus_expression k d) h = let r = reads d h.1 in ((refl, refl, (r.0, tt)), r.1)
  reads (not_expression k d) h = let r = reads d h.1 in ((refl, refl, (r.0, tt)), r.1)
  reads (binary_expression i j d g) h = let r = reads d h in let q = reads g r.1.1 in ((refl, refl, (r.0, (q.0, tt))), q.1)
  reads (quantifier_expression z is d) h =
      let q = items-read is h.1 in let r = reads d q.1.1 in ((refl, refl, ((r.0, q.0.0, q.0.1), tt)), r.1)

  all-read : {k : Bool} {es : Exs} {ts us : List Token} → Expressions k es ts us → Proper ts → ReadableExs es × Proper us
  all-read (last_expression d) h = let r = reads d h in ((r.0, tt), r.1)
  all-read (next_expression d ds) h = let r = reads d h in let q = all-read ds r.1.1 in ((r.0, q.0), q.1)

  pairs-read : {es : Exs} {ts us : List Token} → Pairs es ts us → Proper ts → ((are_pairs es ≡ true) × ReadableExs es) × Proper us
  pairs-read (last_pair d g) h = let r = reads d h in let q = reads g r.1.1 in ((refl, ((refl, refl, (r.0, (q.0, tt))), tt)), q.1)
  pairs-read (next_pair d g ds) h =
      let r = reads d h in let q = reads g r.1.1 in let z = pairs-read ds q.1.1 in ((z.0.0, ((refl, refl, (r.0, (q.0, tt))), z.0.1)), z.1)

  fields-read : {ns : List Text} {es : Exs} {ts us : List Token} → Fields ns es ts us → Proper ts → ReadsFields ns es us
  fields-read (last_field {a = a} {e = e} d) h = let r = reads d h.1.1 in
      record { fit = one-field-fit a e h.0; exs = (r.0, tt); rest = r.1 }
  fields-read (next_field {a = a} {fs = ns} {e = e} {es = es} d ds) h =
      let r = reads d h.1.1 in let q = fields-read ds r.1.1 in
      record { fit = field-fit a ns e es h.0 q.fit; exs = (r.0, q.exs); rest = q.rest }

  items-read : {p : Place} {bs : List Text} {h : Bool} {gs : Gens} {ts us : List Token} → Items p bs h gs ts us → Proper ts →
      ((some_gens gs ≡ true) × ReadableGens gs) × Proper us
  items-read (last_generator g) h = let r = generator-reads g h in ((r.some, r.gens tt), r.rest)
  items-read (next_generator g is) h = let r = generator-reads g h in let q = items-read is r.rest.1 in ((r.some, r.gens q.0.1), q.1)
  items-read (last_condition k d) h = let r = reads d h in ((refl, (r.0, tt)), r.1)
  items-read (next_condition k i d is) h = let r = reads d h in let q = items-read is r.1.1 in ((refl, (r.0, q.0.1)), q.1)

  generator-reads : {p : Place} {bs cs : List Text} {hs gs : Gens} {ts us : List Token} → Generator p bs cs hs gs ts us → Proper ts →
      ReadsGenerator hs gs us
  generator-reads (over_generator {ps = ps} {d = d} {hs = hs} es k) h =
      let r = patterns-read es refl h in let q = domain-reads k r.1.1 in
      record { gens = λ g. over-all ps d hs r.0 q.0 g; some = over-some es d hs; rest = q.1 }
  generator-reads (from_generator {ps = ps} {e = e} {hs = hs} es k) h =
      let r = patterns-read es refl h in let q = reads k r.1.1 in
      record { gens = λ g. from-all ps e hs r.0 q.0 g; some = from-some es e hs; rest = q.1 }
  generator-reads (in_generator {ps = ps} {e = e} {hs = hs} i es k) h =
      let r = patterns-read es refl h in let q = reads k r.1.1 in
      record { gens = λ g. from-all ps e hs r.0 q.0 g; some = from-some es e hs; rest = q.1 }

  patterns-read : {k : Bool} {ps : Exs} {ts us : List Token} → Expressions k ps ts us → k ≡ true → Proper ts →
      ReadablePats (as_patterns ps) × Proper us
  patterns-read (last_expression d) i h = let r = pattern-reads d i h in ((r.0, tt), r.1)
  patterns-read (next_expression {k = k} {s = s} d ds) i h =
      let r = pattern-reads d (and-left (is_pattern s) k i) h in let q = patterns-read ds (and-right (is_pattern s) k i) r.1.1 in
      ((r.0, q.0), q.1)

  pattern-reads : {w : Bool} {s : Shape} {l : ℕ} {e : Ex} {ts us : List Token} → Expression w s l e ts us → is_pattern s ≡ true →
      Proper ts → ReadablePat (as_pattern e) × Proper us
  pattern-reads (atom_expression {p = p} d) i h = atom-pattern d (shape-true p i) h
  pattern-reads (minus_expression k d) i h = cc
  pattern-reads (not_expression k d) i h = cc
  pattern-reads (binary_expression {s = s} {o = o} {a = a} k j d g) i h = absurd (binary-no-pattern o s a i)
  pattern-reads (quantifier_expression z is d) i h = cc

  atom-pattern : {p : Bool} {e : Ex} {ts us : List Token} → Atom p e ts us → p ≡ true → Proper ts → ReadablePat (as_pattern e) × Proper us
  atom-pattern name_atom i h = (h.0, h.1)
  atom-pattern (pair_atom {k = k} {s = s} {e = e} d ds) i h =
      let r = pattern-reads d (and-left (is_pattern s) k i) h.1 in
      let q = patterns-read ds (and-right (is_pattern s) k i) r.1.1 in
      ((several-patterns e ds, (r.0, q.0)), q.1.1)
  atom-pattern _ i h = cc

  pub domain-reads : {d : Dom} {ts us : List Token} → Domain d ts us → Proper ts → ReadableDom d × Proper us
  domain-reads bool_domain h = (tt, h.1)
  domain-reads int_domain h = ((refl, tt), h.1)
  domain-reads (ranges_domain rs) h = let r = ranges-read rs h.1.1 in ((r.0.0, r.0.1), r.1.1)
  domain-reads name_domain h = (h.0, h.1)
  domain-reads (pair_domain d ds) h = let r = domain-reads d h.1 in let q = domains-read ds refl r.1.1 in ((refl, (r.0, q.0)), q.1.1)
  domain-reads (tuple_domain ds) h = let q = domains-read ds refl h.1.1 in ((some-domains ds, q.0), q.1.1)
  domain-reads (record_domain {fs = ns} {ds = ds} ks) h = let q = field-domains-read ks h.1.1 in
      (fields-readable (zip ns (dom_list ds)) q.some q.fields, q.rest.1)
  domain-reads (matrix_domain ds d) h = let q = domains-read ds refl h.1.1.1.1 in let r = domain-reads d q.1.1.1 in
      ((some-domains ds, q.0, r.0), r.1)
  domain-reads (set_domain as' d) h = let q = maybe-read as' h.1 in let r = domain-reads d q.1.1 in ((q.0.0, q.0.1, r.0), r.1)
  domain-reads (mset_domain as' d) h = let q = maybe-read as' h.1 in let r = domain-reads d q.1.1 in ((q.0.0, q.0.1, r.0), r.1)
  domain-reads (partition_domain as' d) h = let q = maybe-read as' h.1 in let r = domain-reads d q.1.1 in ((q.0.0, q.0.1, r.0), r.1)
  domain-reads (relation_domain {ms = ms} {es = es} {d = d} {ds = ds} as' k ks) h =
      let q = maybe-read as' h.1 in let r = domain-reads k q.1.1.1 in let z = domains-read ks refl r.1.1 in
      ((and-both (fit_marks ms es) (several_doms (more_doms d ds)) q.0.0 (several-domains d ks), q.0.1, (r.0, z.0)), z.1.1)
  domain-reads (function_domain as' d c) h =
      let q = attributes-read as' h.1.1 in let r = domain-reads d q.1.1 in let z = domain-reads c r.1.1 in ((q.0.0, q.0.1, r.0, z.0), z.1)
  domain-reads (plain_function_domain i d c) h = let r = domain-reads d h.1 in let z = domain-reads c r.1.1 in ((refl, tt, r.0, z.0), z.1)

  domains-read : {t : Token} {ds : Doms} {ts us : List Token} → Domains t ds ts us → is_proper t ≡ true → Proper ts → ReadableDoms ds ×
      Proper us
  domains-read (last_domain d) i h = let r = domain-reads d h in ((r.0, tt), r.1)
  domains-read (next_domain d ds) i h = let r = domain-reads d h in let q = domains-read ds i r.1.1 in ((r.0, q.0), q.1)

  field-domains-read : {ns : List Text} {ds : Doms} {ts us : List Token} → FieldDomains ns ds ts us → Proper ts → ReadsFieldDomains ns ds us
  field-domains-read (last_field_domain d) h = let r = domain-reads d h.1.1 in record { some = refl; fields = ((h.0, r.0), tt); rest = r.1 }
  field-domains-read (next_field_domain k ks) h =
      let r = domain-reads k h.1.1 in let q = field-domains-read ks r.1.1 in
      record { some = refl; fields = ((h.0, r.0), q.fields); rest = q.rest }

  maybe-read : {ms : List Mark} {es : Exs} {ts us : List Token} → MaybeAttributes ms es ts us → Proper ts →
      ((fit_marks ms es ≡ true) × ReadableExs es) × Proper us
  maybe-read no_attributes h = ((refl, tt), h)
  maybe-read (some_attributes as') h = let q = attributes-read as' h.1 in (q.0, q.1.1)

  attributes-read : {ms : List Mark} {es : Exs} {ts us : List Token} → Attributes ms es ts us → Proper ts →
      ((fit_marks ms es ≡ true) × ReadableExs es) × Proper us
  attributes-read (last_attribute (flag_attribute k)) h = ((refl, tt), h.1)
  attributes-read (last_attribute (valued_attribute k d)) h = let r = reads d h.1 in ((refl, (r.0, tt)), r.1)
  attributes-read (next_attribute (flag_attribute k) as') h = attributes-read as' h.1.1
  attributes-read (next_attribute (valued_attribute k d) as') h = let r = reads d h.1 in let q = attributes-read as' r.1.1 in
      ((q.0.0, (r.0, q.0.1)), q.1)

  ranges-read : {rs : List Ends} {es : Exs} {ts us : List Token} → Ranges rs es ts us → Proper ts →
      ((fit_ranges rs es ≡ true) × ReadableExs es) × Proper us
  ranges-read (last_range (value_range d)) h = let r = reads d h in ((refl, (r.0, tt)), r.1)
  ranges-read (last_range (both_range d g)) h = let r = reads d h in let q = reads g r.1.1 in ((refl, (r.0, (q.0, tt))), q.1)
  ranges-read (last_range (low_range d)) h = let r = reads d h in ((refl, (r.0, tt)), r.1.1)
  ranges-read (last_range (high_range d)) h = let r = reads d h.1 in ((refl, (r.0, tt)), r.1)
  ranges-read (next_range (value_range d) rs) h = let r = reads d h in let z = ranges-read rs r.1.1 in ((z.0.0, (r.0, z.0.1)), z.1)
  ranges-read (next_range (both_range d g) rs) h =
      let r = reads d h in let q = reads g r.1.1 in let z = ranges-read rs q.1.1 in ((z.0.0, (r.0, (q.0, z.0.1))), z.1)
  ranges-read (next_range (low_range d) rs) h = let r = reads d h in let z = ranges-read rs r.1.1.1 in ((z.0.0, (r.0, z.0.1)), z.1)
  ranges-read (next_range (high_range d) rs) h = let r = reads d h.1 in let z = ranges-read rs r.1.1 in ((z.0.0, (r.0, z.0.1)), z.1)
