-- A domain that meets the judgements on types and on what is enumerable is well formed.
use Rattle.std.proofs.Common.{◌≡◌, refl, Bool, true, false, ◌&&◌, ◌||◌, not, if◌then◌else◌, List, [], ◌∷◌, ◌++◌}
use Rattle.std.specs.List.{list_all}
use Rattle.ess_semantics.specs.declared.words.Key.{Key}
use Rattle.ess_semantics.specs.Trees.{Mark, Dom, Doms, bool_dom, int_dom, name_dom, tuple_dom, record_dom, matrix_dom, set_dom, mset_dom, function_dom, relation_dom, partition_dom, no_doms, more_doms}
use Rattle.ess_semantics.specs.Kinds.{has_key, dom_list, is_atom}
use Rattle.ess_semantics.specs.Scopes.{Scope, Asked, every_dom, every_doms, every_operand}
use Rattle.ess_semantics.specs.DomainJudgements.{marks_among, marks_distinct, marks_fit, size_keys, is_binary, relation_flags, are_ints, ranges_fit, numbers_of, ranges_of, index_domains, fields_distinct, dom_fits, is_enumerable, listed_domains, all_fixed, dom_is_enumerable}
use Rattle.ess_semantics.proofs.Tests.{and-left, and-right}
use Rattle.ess_repr_laws.specs.WellFormed.{is_numbered, is_right, Well, AllWell}
use Rattle.ess_repr_laws.proofs.DenotedDomains.{marks-right}

-- The attributes of a domain that fits are those of its kind.
fits-marks : (d : Dom) (s : Scope) → dom_fits d s ≡ true → marks_fit d ≡ true
fits-marks d s h =
    and-right (are_ints (numbers_of d) s && ranges_fit (ranges_of d)) (marks_fit d)
    (and-left (are_ints (numbers_of d) s && ranges_fit (ranges_of d) && marks_fit d) (list_all is_atom (index_domains d))
    (and-left (are_ints (numbers_of d) s && ranges_fit (ranges_of d) && marks_fit d && list_all is_atom (index_domains d)) (fields_distinct d) h))

-- Its index domains are atoms.
fits-atoms : (d : Dom) (s : Scope) → dom_fits d s ≡ true → list_all is_atom (index_domains d) ≡ true
fits-atoms d s h =
    and-right (are_ints (numbers_of d) s && ranges_fit (ranges_of d) && marks_fit d) (list_all is_atom (index_domains d))
    (and-left (are_ints (numbers_of d) s && ranges_fit (ranges_of d) && marks_fit d && list_all is_atom (index_domains d)) (fields_distinct d) h)

-- Attributes among those of a kind stand with a number exactly where they have one.
among-right : (vs fs : List Key) (ms : List Mark) → list_all is_numbered vs ≡ true → list_all (λ k. not (is_numbered k)) fs ≡ true →
    marks_among vs fs ms && marks_distinct ms ≡ true → list_all is_right ms ≡ true
among-right vs fs ms v f h = marks-right vs fs v f ms (and-left (marks_among vs fs ms) (marks_distinct ms) h)

-- No attribute of pairs has a number.
flags-unnumbered : (ds : List Dom) → list_all (λ k. not (is_numbered k)) (relation_flags ds) ≡ true
flags-unnumbered ds = go (is_binary ds)
  where
    go : (b : Bool) →
        list_all (λ k. not (is_numbered k)) (if b then Key.Reflexive ∷ Key.Irreflexive ∷ Key.Symmetric ∷ Key.AntiSymmetric ∷ Key.ASymmetric ∷ Key.Transitive ∷ [] else []) ≡ true
    go true = refl
    go false = refl

-- A total function is from a domain that is enumerable.
total-enumerable : (b c : Bool) (d e : Dom) → list_all is_enumerable ((if b then d ∷ [] else []) ++ (if c then e ∷ [] else [])) ≡ true →
    b ≡ true → is_enumerable d ≡ true
total-enumerable true c d e h t = and-left (is_enumerable d) (list_all is_enumerable (if c then e ∷ [] else [])) h
total-enumerable false c d e h t = cc

-- Three tests in a row.
first : (a b c : Bool) → a && b && c ≡ true → a ≡ true
first a b c h = and-left a b (and-left (a && b) c h)

second : (a b c : Bool) → a && b && c ≡ true → b ≡ true
second a b c h = and-right a b (and-left (a && b) c h)

module _ (q p : Asked) (fits : (d : Dom) (s : Scope) → q.of_dom d s ≡ true → dom_fits d s ≡ true)
    (lists : (d : Dom) (s : Scope) → p.of_dom d s ≡ true → dom_is_enumerable d s ≡ true) where
  mutual
    -- A domain of which each part fits, and lists what is enumerable alone, is well formed.
    pub judged-well : (d : Dom) (s : Scope) → every_dom q d s ≡ true → every_dom p d s ≡ true → Well d
    judged-well bool_dom s h k = tt
    judged-well (int_dom rs es) s h k = tt
    judged-well (name_dom a) s h k = tt
    judged-well (tuple_dom ds) s h k =
        all-judged ds s (and-right (q.of_dom (tuple_dom ds) s) (every_doms q ds s) h)
        (and-right (p.of_dom (tuple_dom ds) s) (every_doms p ds s) k)
    judged-well (record_dom fs ds) s h k =
        all-judged ds s (and-right (q.of_dom (record_dom fs ds) s) (every_doms q ds s) h)
        (and-right (p.of_dom (record_dom fs ds) s) (every_doms p ds s) k)
    judged-well (matrix_dom is d) s h k =
        let a = first (q.of_dom (matrix_dom is d) s) (every_doms q is s) (every_dom q d s) h in (
          fits-atoms (matrix_dom is d) s (fits (matrix_dom is d) s a),
          all-judged is s (second (q.of_dom (matrix_dom is d) s) (every_doms q is s) (every_dom q d s) h)
              (second (p.of_dom (matrix_dom is d) s) (every_doms p is s) (every_dom p d s) k),
          judged-well d s (and-right (q.of_dom (matrix_dom is d) s && every_doms q is s) (every_dom q d s) h)
              (and-right (p.of_dom (matrix_dom is d) s && every_doms p is s) (every_dom p d s) k),
        )
    judged-well (set_dom ms es d) s h k =
        let a = first (q.of_dom (set_dom ms es d) s) (every_operand q [] es s) (every_dom q d s) h in (
          among-right size_keys [] ms refl refl (fits-marks (set_dom ms es d) s (fits (set_dom ms es d) s a)),
          judged-well d s (and-right (q.of_dom (set_dom ms es d) s && every_operand q [] es s) (every_dom q d s) h)
              (and-right (p.of_dom (set_dom ms es d) s && every_operand p [] es s) (every_dom p d s) k),
        )
    judged-well (mset_dom ms es d) s h k =
        let a = first (q.of_dom (mset_dom ms es d) s) (every_operand q [] es s) (every_dom q d s) h in (
          among-right (Key.MinOccur ∷ Key.MaxOccur ∷ size_keys) [] ms refl refl
              (fits-marks (mset_dom ms es d) s (fits (mset_dom ms es d) s a)),
          judged-well d s (and-right (q.of_dom (mset_dom ms es d) s && every_operand q [] es s) (every_dom q d s) h)
              (and-right (p.of_dom (mset_dom ms es d) s && every_operand p [] es s) (every_dom p d s) k),
        )
    judged-well (function_dom ms es d c) s h k =
        let f : Dom = function_dom ms es d c in
        let h' = and-left (q.of_dom f s && every_operand q [] es s && every_dom q d s) (every_dom q c s) h in
        let k' = and-left (p.of_dom f s && every_operand p [] es s && every_dom p d s) (every_dom p c s) k in
        let a = first (q.of_dom f s) (every_operand q [] es s) (every_dom q d s) h' in
        let b = first (p.of_dom f s) (every_operand p [] es s) (every_dom p d s) k' in (
          among-right size_keys (Key.Total ∷ Key.Injective ∷ Key.Surjective ∷ Key.Bijective ∷ []) ms refl refl
              (fits-marks f s (fits f s a)),
          total-enumerable (has_key Key.Total ms) (has_key Key.Surjective ms || has_key Key.Bijective ms) d c
              (and-left (list_all is_enumerable (listed_domains f)) (all_fixed (numbers_of f) s) (lists f s b)),
          judged-well d s (and-right (q.of_dom f s && every_operand q [] es s) (every_dom q d s) h')
              (and-right (p.of_dom f s && every_operand p [] es s) (every_dom p d s) k'),
          judged-well c s (and-right (q.of_dom f s && every_operand q [] es s && every_dom q d s) (every_dom q c s) h)
              (and-right (p.of_dom f s && every_operand p [] es s && every_dom p d s) (every_dom p c s) k),
        )
    judged-well (relation_dom ms es ds) s h k =
        let a = first (q.of_dom (relation_dom ms es ds) s) (every_operand q [] es s) (every_doms q ds s) h in (
          among-right size_keys (relation_flags (dom_list ds)) ms refl (flags-unnumbered (dom_list ds))
              (fits-marks (relation_dom ms es ds) s (fits (relation_dom ms es ds) s a)),
          all-judged ds s (and-right (q.of_dom (relation_dom ms es ds) s && every_operand q [] es s) (every_doms q ds s) h)
              (and-right (p.of_dom (relation_dom ms es ds) s && every_operand p [] es s) (every_doms p ds s) k),
        )
    judged-well (partition_dom ms es d) s h k =
        let a = first (q.of_dom (partition_dom ms es d) s) (every_operand q [] es s) (every_dom q d s) h in (
          among-right (Key.NumParts ∷ Key.MinNumParts ∷ Key.MaxNumParts ∷ Key.PartSize ∷ Key.MinPartSize ∷ Key.MaxPartSize ∷ [])
              (Key.Regular ∷ []) ms refl refl
              (fits-marks (partition_dom ms es d) s (fits (partition_dom ms es d) s a)),
          judged-well d s (and-right (q.of_dom (partition_dom ms es d) s && every_operand q [] es s) (every_dom q d s) h)
              (and-right (p.of_dom (partition_dom ms es d) s && every_operand p [] es s) (every_dom p d s) k),
        )

    -- The same of several domains.
    all-judged : (ds : Doms) (s : Scope) → every_doms q ds s ≡ true → every_doms p ds s ≡ true → AllWell ds
    all-judged no_doms s h k = tt
    all-judged (more_doms d ds) s h k = (
      judged-well d s (and-left (every_dom q d s) (every_doms q ds s) h) (and-left (every_dom p d s) (every_doms p ds s) k),
      all-judged ds s (and-right (every_dom q d s) (every_doms q ds s) h) (and-right (every_dom p d s) (every_doms p ds s) k),
    )
