-- What the judgements of a statement say of its domain.
use Rattle.std.proofs.Common.{◌≡◌, refl, sym, ap, ◌∙◌, Bool, true, ◌&&◌, Option, Some}
use Rattle.ess_semantics.specs.Lists.{is_none_or}
use Rattle.ess_semantics.specs.Trees.{Dom, Doms, bool_dom, int_dom, name_dom, tuple_dom, record_dom, matrix_dom, set_dom, mset_dom, function_dom, relation_dom, partition_dom, no_doms, more_doms, Stm}
use Rattle.ess_semantics.specs.DomainJudgements.{dom_fits, dom_is_enumerable, is_finite, are_finite, is_enumerable, needs_known_slots, all_need_known_slots}
use Rattle.ess_semantics.specs.ExpressionJudgements.{ex_fits, pattern_fits}
use Rattle.ess_semantics.specs.Scopes.{Scope, Asked, asking, every, every_dom}
use Rattle.ess_semantics.specs.Judgements.{ill_typed, not_finite, not_enumerable, open_given, expression_of, domain_in, every_of_stm, place_fits, order_is_fit, size_is_fixed, found_domain, given_domain, meets}
use Rattle.ess_semantics.proofs.Tests.{and-left, and-right, and-both}
use Rattle.ess_repr_laws.specs.WellFormed.{Well}
use Rattle.ess_repr_laws.proofs.JudgedDomains.{judged-well}

-- A test of what is there.
there : {A : Type 0} (o : Option A) (f : A → Bool) (x : A) → o ≡ Some x → is_none_or o f ≡ true → f x ≡ true
there o f x e h = sym (ap (λ p. is_none_or p f) e) ∙ h

-- What is asked of each part of a statement is asked of those of its domain.
of-domain : (q : Asked) (t : Stm) (s : Scope) (d : Dom) → domain_in t ≡ Some d → every_of_stm q t s ≡ true → every_dom q d s ≡ true
of-domain q t s d e h =
    there (domain_in t) (λ x. every_dom q x s) d e
    (and-right (is_none_or (expression_of t) (λ x. every q x s)) (is_none_or (domain_in t) (λ x. every_dom q x s)) h)

-- What types ask, and what is enumerable.
abbrev typed : Asked
typed = record asking { of_ex = ex_fits; of_dom = dom_fits; of_pattern = λ p u z. pattern_fits p u }

abbrev enumerated : Asked
enumerated = record asking { of_dom = dom_is_enumerable; of_generator = λ d z. is_enumerable d }

-- A judged statement's domain is well formed.
pub stated-well : (w t : Stm) (s : Scope) (d : Dom) → domain_in t ≡ Some d → meets ill_typed w t s ≡ true →
    meets not_enumerable w t s ≡ true → Well d
stated-well w t s d e h k =
    judged-well typed enumerated (λ x z y. y) (λ x z y. y) d s
    (of-domain typed t s d e (and-left (every_of_stm typed t s) (place_fits t s) (and-left (every_of_stm typed t s && place_fits t s) (order_is_fit t s) h)))
    (of-domain enumerated t s d e (and-left (every_of_stm enumerated t s) (size_is_fixed t s) k))

mutual
  -- A finite domain's slots are known.
  pub finite-needs : (d : Dom) → is_finite d ≡ true → needs_known_slots d ≡ true
  finite-needs bool_dom h = refl
  finite-needs (int_dom rs es) h = refl
  finite-needs (name_dom a) h = refl
  finite-needs (tuple_dom ds) h = all-need ds h
  finite-needs (record_dom fs ds) h = all-need ds h
  finite-needs (matrix_dom is d) h =
      and-both (are_finite is) (needs_known_slots d) (and-left (are_finite is) (is_finite d) h)
      (finite-needs d (and-right (are_finite is) (is_finite d) h))
  finite-needs (set_dom ms es d) h = h
  finite-needs (mset_dom ms es d) h = h
  finite-needs (function_dom ms es d c) h =
      and-both (is_finite d) (needs_known_slots c) (and-left (is_finite d) (is_finite c) h)
      (finite-needs c (and-right (is_finite d) (is_finite c) h))
  finite-needs (relation_dom ms es ds) h = h
  finite-needs (partition_dom ms es d) h = h

  all-need : (ds : Doms) → are_finite ds ≡ true → all_need_known_slots ds ≡ true
  all-need no_doms h = refl
  all-need (more_doms d ds) h =
      and-both (needs_known_slots d) (all_need_known_slots ds) (finite-needs d (and-left (is_finite d) (are_finite ds) h))
      (all-need ds (and-right (is_finite d) (are_finite ds) h))

-- A find's domain needs slots of a known number.
pub found-known : (w t : Stm) (s : Scope) (d : Dom) → found_domain t ≡ Some d → meets not_finite w t s ≡ true → needs_known_slots d ≡ true
found-known w t s d e h =
    finite-needs d
    (there (found_domain t) is_finite d e (and-left (is_none_or (found_domain t) is_finite) (every_of_stm (record asking { of_generator = λ x z. is_finite x }) t s) h))

-- So does a given's.
pub given-known : (w t : Stm) (s : Scope) (d : Dom) → given_domain t ≡ Some d → meets open_given w t s ≡ true → needs_known_slots d ≡ true
given-known w t s d e h = there (given_domain t) needs_known_slots d e h
