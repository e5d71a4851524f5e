-- What a token does where a domain is wanted, behind the words of domains, and in attributes, keeps the invariant.
use Rattle.std.proofs.Common.{List, None, Option, Some, [], ap, false, refl, subst, true, ◌∷◌, ◌≡◌}
use Rattle.std.specs.Option.{is_some}
use Rattle.ess_semantics.specs.declared.words.Key.{Key}
use Rattle.ess_semantics.specs.Values.{Text}
use Rattle.ess_semantics.specs.Trees.{flag, int_dom, no_doms, no_exs}
use Rattle.ess_grammar.specs.Words.{Token, bool_word, close_round, colon, comma, from_word, function_word, int_word, key_of, matrix_word, mset_word, name, of_word, open_round, partition_word, record_word, relation_word, set_word, symbol, tuple_word, word}
use Rattle.ess_grammar.specs.Grammar.{bool_domain, flag_attribute, int_domain, last_attribute, name_domain, next_attribute, no_attributes, starts_attributes}
use Rattle.ess_parse_laws.proofs.Contexts.{AttributeContext, AxesContext, DomainContext, FieldNameContext, JoiningContext, KeyRead, RelationContext, all_axes_before, attribute_before, attributes_before, axes_closed_before, field_domains_before, field_name_before, function_without_attributes, function_word_before, inner_word, inner_word_before, joining_before, owner_word, ranges_before, relation_begun_before, relation_word_before, tuple_before}
use Rattle.ess_parse_laws.specs.Frames.{Frame, Inner, Owner, attribute_value_frame, attributes_frame, field_names_frame, function_from_frame, function_owner, inner_domain_frame, inner_owner, mset_inner, partition_inner, ranges_frame, relation_domains_frame, relation_owner, set_inner, tuple_domains_frame}
use Rattle.ess_parse_laws.proofs.Invariant.{Keeps}
use Rattle.ess_parse_laws.specs.AttributeSteps.{attribute_of, begin_value, end_flag, ends_flag, step_attribute_read, step_attribute_wanted, step_function_bracket_read}
use Rattle.ess_parse_laws.specs.Modes.{attribute_read, attribute_wanted, function_bracket_read, operand_wanted}
use Rattle.ess_parse_laws.proofs.OperandEndsSound.{attributes-keep}
use Rattle.ess_parse_laws.proofs.Booleans.{by_elim}
use Rattle.ess_parse_laws.specs.Operands.{is_open_round}
use Rattle.ess_parse_laws.proofs.OperandsWantedSound.{open-round, operand-wanted-keeps}
use Rattle.ess_parse_laws.proofs.ReducingSound.{reduce-domain-keeps}
use Rattle.ess_parse_laws.specs.Reducing.{reduce_domain}
use Rattle.ess_parse_laws.proofs.DomainEndsSound.{reduced-domain-then-keeps}
use Rattle.ess_parse_laws.specs.AfterDomains.{reduced_domain_then}
use Rattle.ess_parse_laws.specs.Domains.{step_axes_read, step_domain_wanted, step_field_name_read, step_function_begun, step_inner_begun, step_int_read, step_joining_wanted, step_relation_begun, step_relation_of_read, step_relation_of_wanted}

-- Where a domain is wanted.
pub domain-wanted-keeps : {t0 : List Token} (t : Token) (fs : List Frame) (ts : List Token) → DomainContext t0 fs (t ∷ ts) → Keeps t0 (step_domain_wanted t fs) ts
domain-wanted-keeps (word bool_word) fs ts x = record { us = word bool_word ∷ ts; context = x; derivation = bool_domain }
domain-wanted-keeps (word int_word) fs ts x = x
domain-wanted-keeps (word matrix_word) fs ts x = x
domain-wanted-keeps (word set_word) fs ts x = x
domain-wanted-keeps (word mset_word) fs ts x = x
domain-wanted-keeps (word partition_word) fs ts x = x
domain-wanted-keeps (word relation_word) fs ts x = x
domain-wanted-keeps (word function_word) fs ts x = x
domain-wanted-keeps (word tuple_word) fs ts x = x
domain-wanted-keeps (word record_word) fs ts x = x
domain-wanted-keeps (symbol open_round) fs ts x = tuple_before {b = true} (λ ds xs ks. ks) x
domain-wanted-keeps (name a) fs ts x = record { us = name a ∷ ts; context = x; derivation = name_domain }
domain-wanted-keeps _ fs ts x = tt

-- Behind `int`.
pub int-read-keeps : {t0 : List Token} (t : Token) (fs : List Frame) (ts : List Token) → DomainContext t0 fs (word int_word ∷ t ∷ ts) → Keeps t0 (step_int_read t fs) ts
int-read-keeps {t0 = t0} t fs ts x =
    by_elim (is_open_round t) (λ r. Keeps t0 r ts) (Some (record { mode = operand_wanted; frames = ranges_frame [] no_exs ∷ fs })) (reduced_domain_then t (reduce_domain fs (int_dom [] no_exs)))
    (λ h. ranges_before (λ rs es xs ds. ds) (subst (λ u. DomainContext t0 fs (word int_word ∷ u ∷ ts)) (open-round t h) x))
    (λ h. reduced-domain-then-keeps t ts (reduce_domain fs (int_dom [] no_exs)) (reduce-domain-keeps fs (int_dom [] no_exs) (word int_word ∷ t ∷ ts) (t ∷ ts) x int_domain))

-- Behind the index domains of a matrix.
pub axes-read-keeps : {t0 : List Token} (t : Token) (fs : List Frame) (ts : List Token) → AxesContext t0 fs (t ∷ ts) → Keeps t0 (step_axes_read t fs) ts
axes-read-keeps (word of_word) fs ts (axes_closed_before es c) = all_axes_before es c
axes-read-keeps _ fs ts x = tt

-- Before the word that joins an inner domain.
pub joining-wanted-keeps : {t0 : List Token} (t : Token) (k : Inner) (fs : List Frame) (ts : List Token) → JoiningContext t0 k fs (t ∷ ts) → Keeps t0 (step_joining_wanted t k fs) ts
joining-wanted-keeps (word of_word) set_inner fs ts (joining_before as' c) = inner_word_before as' c
joining-wanted-keeps (word of_word) mset_inner fs ts (joining_before as' c) = inner_word_before as' c
joining-wanted-keeps (word from_word) partition_inner fs ts (joining_before as' c) = inner_word_before as' c
joining-wanted-keeps _ k fs ts x = tt

-- Before `of` of a relation.
pub relation-of-wanted-keeps : {t0 : List Token} (t : Token) (fs : List Frame) (ts : List Token) → RelationContext t0 fs (t ∷ ts) → Keeps t0 (step_relation_of_wanted t fs) ts
relation-of-wanted-keeps (word of_word) fs ts x = x
relation-of-wanted-keeps _ fs ts x = tt

-- Behind it.
pub relation-of-read-keeps : {t0 : List Token} (t : Token) (fs : List Frame) (ts : List Token) → RelationContext t0 fs (word of_word ∷ t ∷ ts) → Keeps t0 (step_relation_of_read t fs) ts
relation-of-read-keeps (symbol open_round) fs ts (relation_begun_before as' c) = relation_word_before as' (λ ds xs ks. ks) c
relation-of-read-keeps _ fs ts x = tt

no-attributes-before : {t0 : List Token} {o : Owner} {fs : List Frame} {ts : List Token} → DomainContext t0 fs (word (owner_word o) ∷ symbol open_round ∷ ts) → AttributeContext t0 (attributes_frame o [] no_exs ∷ fs) ts
no-attributes-before c = attributes_before (λ ns es xs ds. ds) c

-- Behind `set`, `mset` or `partition`.
pub inner-begun-keeps : {t0 : List Token} (t : Token) (k : Inner) (fs : List Frame) (ts : List Token) → DomainContext t0 fs (word (inner_word k) ∷ t ∷ ts) → Keeps t0 (step_inner_begun t k fs) ts
inner-begun-keeps {t0 = t0} t k fs ts x =
    by_elim (is_open_round t) (λ r. Keeps t0 r ts) (Some (record { mode = attribute_wanted; frames = attributes_frame (inner_owner k) [] no_exs ∷ fs })) (step_joining_wanted t k (inner_domain_frame k [] no_exs ∷ fs))
    (λ h. no-attributes-before {o = inner_owner k} (subst (λ u. DomainContext t0 fs (word (inner_word k) ∷ u ∷ ts)) (open-round t h) x))
    (λ h. joining-wanted-keeps t k (inner_domain_frame k [] no_exs ∷ fs) ts (joining_before no_attributes x))

-- Behind `relation`.
pub relation-begun-keeps : {t0 : List Token} (t : Token) (fs : List Frame) (ts : List Token) → DomainContext t0 fs (word relation_word ∷ t ∷ ts) → Keeps t0 (step_relation_begun t fs) ts
relation-begun-keeps {t0 = t0} t fs ts x =
    by_elim (is_open_round t) (λ r. Keeps t0 r ts) (Some (record { mode = attribute_wanted; frames = attributes_frame relation_owner [] no_exs ∷ fs })) (step_relation_of_wanted t (relation_domains_frame [] no_exs no_doms ∷ fs))
    (λ h. no-attributes-before {o = relation_owner} (subst (λ u. DomainContext t0 fs (word relation_word ∷ u ∷ ts)) (open-round t h) x))
    (λ h. relation-of-wanted-keeps t (relation_domains_frame [] no_exs no_doms ∷ fs) ts (relation_begun_before no_attributes x))

no-bracket-no-attributes : (t : Token) (ts : List Token) → is_open_round t ≡ false → starts_attributes (t ∷ ts) ≡ false
no-bracket-no-attributes (symbol open_round) ts h = cc
no-bracket-no-attributes (symbol close_round) ts h = refl
no-bracket-no-attributes _ ts h = refl

-- Behind `function`.
pub function-begun-keeps : {t0 : List Token} (t : Token) (fs : List Frame) (ts : List Token) → DomainContext t0 fs (word function_word ∷ t ∷ ts) → Keeps t0 (step_function_begun t fs) ts
function-begun-keeps {t0 = t0} t fs ts x =
    by_elim (is_open_round t) (λ r. Keeps t0 r ts) (Some (record { mode = function_bracket_read; frames = fs })) (step_domain_wanted t (function_from_frame [] no_exs ∷ fs))
    (λ h. subst (λ u. DomainContext t0 fs (word function_word ∷ u ∷ ts)) (open-round t h) x)
    (λ h. domain-wanted-keeps t (function_from_frame [] no_exs ∷ fs) ts (function_word_before (function_without_attributes (no-bracket-no-attributes t ts h)) x))

-- The attribute that the token is, or none.
by_key : {X : Type 0} (o : Option Key) (P : X → Type 0) (f : Key → X) (y : X) → ((k : Key) → o ≡ Some k → P (f k)) → (o ≡ None → P y) → P (elim o [ Some k ↦ f k | None ↦ y ])
by_key None P f y g h = h refl
by_key (Some k) P f y g h = g k refl

-- The token is the word of this attribute.
record KeyToken (t : Token) (k : Key) : Type 0 where
  a : Text
  is : t ≡ name a
  key : key_of a ≡ Some k

key-token : (t : Token) (k : Key) → attribute_of t ≡ Some k → KeyToken t k
key-token (name a) k h = record { a = a; is = refl; key = h }
key-token _ k h = cc

no-attribute : (t : Token) (ts : List Token) → attribute_of t ≡ None → starts_attributes (symbol open_round ∷ t ∷ ts) ≡ false
no-attribute (name a) ts h = ap is_some h
no-attribute _ ts h = refl

-- Behind `function (`.
pub function-bracket-keeps : {t0 : List Token} (t : Token) (fs : List Frame) (ts : List Token) → DomainContext t0 fs (word function_word ∷ symbol open_round ∷ t ∷ ts) → Keeps t0 (step_function_bracket_read t fs) ts
function-bracket-keeps {t0 = t0} t fs ts x =
    by_key (attribute_of t) (λ r. Keeps t0 r ts) (λ k. Some (record { mode = attribute_read k; frames = attributes_frame function_owner [] no_exs ∷ fs })) (step_domain_wanted t (tuple_domains_frame true no_doms ∷ function_from_frame [] no_exs ∷ fs))
    (λ k h. let q = key-token t k h in record { a = q.a; is = q.key; context = no-attributes-before {o = function_owner} (subst (λ u. DomainContext t0 fs (word function_word ∷ symbol open_round ∷ u ∷ ts)) q.is x) })
    (λ h. domain-wanted-keeps t (tuple_domains_frame true no_doms ∷ function_from_frame [] no_exs ∷ fs) ts (tuple_before {b = true} (λ ds xs ks. ks) (function_word_before (function_without_attributes (no-attribute t ts h)) x)))

-- Where an attribute is wanted.
pub attribute-wanted-keeps : {t0 : List Token} (t : Token) (fs : List Frame) (ts : List Token) → AttributeContext t0 fs (t ∷ ts) → Keeps t0 (step_attribute_wanted t fs) ts
attribute-wanted-keeps {t0 = t0} t fs ts x =
    by_key (attribute_of t) (λ r. Keeps t0 r ts) (λ k. Some (record { mode = attribute_read k; frames = fs })) None
    (λ k h. let q = key-token t k h in record { a = q.a; is = q.key; context = subst (λ u. AttributeContext t0 fs (u ∷ ts)) q.is x })
    (λ h. tt)

end-flag-keeps : {t0 : List Token} (t : Token) (k : Key) (fs : List Frame) (ts : List Token) (a : Text) → key_of a ≡ Some k → AttributeContext t0 fs (name a ∷ t ∷ ts) → Keeps t0 (end_flag t k fs) ts
end-flag-keeps (symbol comma) k (attributes_frame o ms es ∷ fs) ts a h (attributes_before p c) = attributes_before (λ ns es' xs ds. p (flag k ∷ ns) es' xs (next_attribute (flag_attribute h) ds)) c
end-flag-keeps (symbol close_round) k (attributes_frame o ms es ∷ fs) ts a h (attributes_before p c) = attributes-keep o fs (p (flag k ∷ []) no_exs (symbol close_round ∷ ts) (last_attribute (flag_attribute h))) c
end-flag-keeps _ k fs ts a h x = tt

begin-value-keeps : {t0 : List Token} (t : Token) (k : Key) (fs : List Frame) (ts : List Token) (a : Text) → key_of a ≡ Some k → AttributeContext t0 fs (name a ∷ t ∷ ts) → Keeps t0 (begin_value t k fs) ts
begin-value-keeps t k (attributes_frame o ms es ∷ fs) ts a h (attributes_before p c) = operand-wanted-keeps t (attribute_value_frame o k ms es ∷ fs) ts (attribute_before h p c)
begin-value-keeps t k _ ts a h x = tt

-- Behind an attribute's word.
pub attribute-read-keeps : {t0 : List Token} (t : Token) (k : Key) (fs : List Frame) (ts : List Token) → KeyRead t0 k fs (t ∷ ts) → Keeps t0 (step_attribute_read t k fs) ts
attribute-read-keeps {t0 = t0} t k fs ts x =
    by_elim (ends_flag t) (λ r. Keeps t0 r ts) (end_flag t k fs) (begin_value t k fs) (λ h. end-flag-keeps t k fs ts x.a x.is x.context) (λ h. begin-value-keeps t k fs ts x.a x.is x.context)

-- Behind the name of a record domain's field.
pub field-name-read-keeps : {t0 : List Token} (t : Token) (a : Text) (fs : List Frame) (ts : List Token) → FieldNameContext t0 fs (name a ∷ t ∷ ts) → Keeps t0 (step_field_name_read t a fs) ts
field-name-read-keeps (symbol colon) a (field_names_frame ns ds ∷ fs) ts (field_domains_before p c) = field_name_before p c
field-name-read-keeps _ a fs ts x = tt
