-- A domain of which each part meets the judgements on types and on what is enumerable is orderly.
use Rattle.std.proofs.Common.{◌≡◌, sym, ap, ◌∙◌, Bool, true, ◌&&◌, [], Some}
use Rattle.std.specs.List.{list_all}
use Rattle.ess_semantics.specs.Lists.{is_none_or}
use Rattle.ess_semantics.specs.Trees.{Dom, Doms, bool_dom, int_dom, name_dom, tuple_dom, record_dom, matrix_dom, set_dom, mset_dom, function_dom, relation_dom, partition_dom, no_doms, more_doms, Stm}
use Rattle.ess_semantics.specs.Kinds.{is_atom}
use Rattle.ess_semantics.specs.Scopes.{Scope, Asked, asking, every, every_dom, every_doms, every_operand}
use Rattle.ess_semantics.specs.DomainJudgements.{marks_fit, are_ints, ranges_fit, numbers_of, ranges_of, index_domains, fields_distinct, dom_fits, is_enumerable, listed_domains, all_fixed, dom_is_enumerable}
use Rattle.ess_semantics.specs.ExpressionJudgements.{ex_fits, pattern_fits}
use Rattle.ess_semantics.specs.Judgements.{expression_of, domain_in, every_of_stm, place_fits, order_is_fit, size_is_fixed}
use Rattle.ess_semantics.proofs.Tests.{and-left, and-right}
use Rattle.ess_repr_structure_laws.specs.OrderlyDomains.{LayerIsOrderly, Orderly, AllOrderly}
use Rattle.ess_repr_structure_laws.specs.Laws.{JudgedDomainsAreOrderly}

-- One layer.
layer-orderly : (d : Dom) (s : Scope) → dom_fits d s ≡ true → dom_is_enumerable d s ≡ true → LayerIsOrderly d
layer-orderly d s h k = (
  and-right (are_ints (numbers_of d) s && ranges_fit (ranges_of d)) (marks_fit d)
      (and-left (are_ints (numbers_of d) s && ranges_fit (ranges_of d) && marks_fit d) (list_all is_atom (index_domains d))
      (and-left (are_ints (numbers_of d) s && ranges_fit (ranges_of d) && marks_fit d && list_all is_atom (index_domains d))
      (fields_distinct d) h)),
  and-left (list_all is_enumerable (listed_domains d)) (all_fixed (numbers_of d) s) k,
)

index-atoms : (d : Dom) (s : Scope) → dom_fits d s ≡ true → list_all is_atom (index_domains d) ≡ true
index-atoms d s h =
    and-right (are_ints (numbers_of d) s && ranges_fit (ranges_of d) && marks_fit d) (list_all is_atom (index_domains d))
    (and-left (are_ints (numbers_of d) s && ranges_fit (ranges_of d) && marks_fit d && list_all is_atom (index_domains d))
    (fields_distinct d) h)

-- Of three tests in a row.
first : (a b c : Bool) → a && b && c ≡ true → a ≡ true
first a b c h = and-left a b (and-left (a && b) c h)

module _ (q p : Asked) (fits : (d : Dom) (s : Scope) → q.of_dom d s ≡ true → dom_fits d s ≡ true)
    (lists : (d : Dom) (s : Scope) → p.of_dom d s ≡ true → dom_is_enumerable d s ≡ true) where
  mutual
    -- Each layer of the domain.
    pub judged-orderly : (d : Dom) (s : Scope) → every_dom q d s ≡ true → every_dom p d s ≡ true → Orderly d
    judged-orderly bool_dom s h k = tt
    judged-orderly (int_dom rs es) s h k = tt
    judged-orderly (name_dom a) s h k = tt
    judged-orderly (tuple_dom ds) s h k =
        all-judged ds s (and-right (q.of_dom (tuple_dom ds) s) (every_doms q ds s) h)
        (and-right (p.of_dom (tuple_dom ds) s) (every_doms p ds s) k)
    judged-orderly (record_dom fs ds) s h k =
        all-judged ds s (and-right (q.of_dom (record_dom fs ds) s) (every_doms q ds s) h)
        (and-right (p.of_dom (record_dom fs ds) s) (every_doms p ds s) k)
    judged-orderly (matrix_dom is d) s h k = (
      index-atoms (matrix_dom is d) s (fits (matrix_dom is d) s
          (first (q.of_dom (matrix_dom is d) s) (every_doms q is s) (every_dom q d s) h)),
      judged-orderly d s (and-right (q.of_dom (matrix_dom is d) s && every_doms q is s) (every_dom q d s) h)
          (and-right (p.of_dom (matrix_dom is d) s && every_doms p is s) (every_dom p d s) k),
    )
    judged-orderly (set_dom ms es d) s h k = (
      layer-orderly (set_dom ms es d) s (fits (set_dom ms es d) s
          (first (q.of_dom (set_dom ms es d) s) (every_operand q [] es s) (every_dom q d s) h))
          (lists (set_dom ms es d) s (first (p.of_dom (set_dom ms es d) s) (every_operand p [] es s) (every_dom p d s) k)),
      judged-orderly d s (and-right (q.of_dom (set_dom ms es d) s && every_operand q [] es s) (every_dom q d s) h)
          (and-right (p.of_dom (set_dom ms es d) s && every_operand p [] es s) (every_dom p d s) k),
    )
    judged-orderly (mset_dom ms es d) s h k = (
      layer-orderly (mset_dom ms es d) s (fits (mset_dom ms es d) s
          (first (q.of_dom (mset_dom ms es d) s) (every_operand q [] es s) (every_dom q d s) h))
          (lists (mset_dom ms es d) s (first (p.of_dom (mset_dom ms es d) s) (every_operand p [] es s) (every_dom p d s) k)),
      judged-orderly d s (and-right (q.of_dom (mset_dom ms es d) s && every_operand q [] es s) (every_dom q d s) h)
          (and-right (p.of_dom (mset_dom ms es d) s && every_operand p [] es s) (every_dom p d s) k),
    )
    judged-orderly (function_dom ms es d c) s h k =
        let f : Dom = function_dom ms es d c in
        let h' = and-left (q.of_dom f s && every_operand q [] es s && every_dom q d s) (every_dom q c s) h in
        let k' = and-left (p.of_dom f s && every_operand p [] es s && every_dom p d s) (every_dom p c s) k in (
          layer-orderly f s (fits f s (first (q.of_dom f s) (every_operand q [] es s) (every_dom q d s) h'))
              (lists f s (first (p.of_dom f s) (every_operand p [] es s) (every_dom p d s) k')),
          judged-orderly d s (and-right (q.of_dom f s && every_operand q [] es s) (every_dom q d s) h')
              (and-right (p.of_dom f s && every_operand p [] es s) (every_dom p d s) k'),
          judged-orderly c s (and-right (q.of_dom f s && every_operand q [] es s && every_dom q d s) (every_dom q c s) h)
              (and-right (p.of_dom f s && every_operand p [] es s && every_dom p d s) (every_dom p c s) k),
        )
    judged-orderly (relation_dom ms es ds) s h k = (
      layer-orderly (relation_dom ms es ds) s (fits (relation_dom ms es ds) s
          (first (q.of_dom (relation_dom ms es ds) s) (every_operand q [] es s) (every_doms q ds s) h))
          (lists (relation_dom ms es ds) s (first (p.of_dom (relation_dom ms es ds) s) (every_operand p [] es s) (every_doms p ds s) k)),
      all-judged ds s (and-right (q.of_dom (relation_dom ms es ds) s && every_operand q [] es s) (every_doms q ds s) h)
          (and-right (p.of_dom (relation_dom ms es ds) s && every_operand p [] es s) (every_doms p ds s) k),
    )
    judged-orderly (partition_dom ms es d) s h k = (
      layer-orderly (partition_dom ms es d) s (fits (partition_dom ms es d) s
          (first (q.of_dom (partition_dom ms es d) s) (every_operand q [] es s) (every_dom q d s) h))
          (lists (partition_dom ms es d) s (first (p.of_dom (partition_dom ms es d) s) (every_operand p [] es s) (every_dom p d s) k)),
      judged-orderly d s (and-right (q.of_dom (partition_dom ms es d) s && every_operand q [] es s) (every_dom q d s) h)
          (and-right (p.of_dom (partition_dom ms es d) s && every_operand p [] es s) (every_dom p d s) k),
    )

    -- The same of several domains.
    all-judged : (ds : Doms) (s : Scope) → every_doms q ds s ≡ true → every_doms p ds s ≡ true → AllOrderly ds
    all-judged no_doms s h k = tt
    all-judged (more_doms d ds) s h k = (
      judged-orderly d s (and-left (every_dom q d s) (every_doms q ds s) h) (and-left (every_dom p d s) (every_doms p ds s) k),
      all-judged ds s (and-right (every_dom q d s) (every_doms q ds s) h) (and-right (every_dom p d s) (every_doms p ds s) k),
    )

-- ---- statements

-- What is asked of each part of a statement is asked of those of its domain.
pub of-domain : (q : Asked) (t : Stm) (s : Scope) (d : Dom) → domain_in t ≡ Some d → every_of_stm q t s ≡ true → every_dom q d s ≡ true
of-domain q t s d e h =
    sym (ap (λ o. is_none_or o (λ x. every_dom q x s)) e)
    ∙ and-right (is_none_or (expression_of t) (λ x. every q x s)) (is_none_or (domain_in t) (λ x. every_dom q x s)) h

-- What types ask, and what is enumerable.
abbrev typed : Asked
typed = record asking { of_ex = ex_fits; of_dom = dom_fits; of_pattern = λ p u z. pattern_fits p u }

abbrev enumerated : Asked
enumerated = record asking { of_dom = dom_is_enumerable; of_generator = λ d z. is_enumerable d }

-- So a judged statement's domain is.
pub stated-orderly : JudgedDomainsAreOrderly
stated-orderly w t s d e h k =
    judged-orderly typed enumerated (λ x z y. y) (λ x z y. y) d s
    (of-domain typed t s d e (and-left (every_of_stm typed t s) (place_fits t s)
    (and-left (every_of_stm typed t s && place_fits t s) (order_is_fit t s) h)))
    (of-domain enumerated t s d e (and-left (every_of_stm enumerated t s) (size_is_fixed t s) k))
