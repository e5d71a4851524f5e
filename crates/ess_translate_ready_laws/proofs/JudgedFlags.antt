-- In a judged domain attributes without a number stand at relations of two components of one type alone.
use Rattle.std.proofs.Common.{◌≡◌, refl, sym, ap, ◌∙◌, ℕ, suc, Bool, true, false, ◌&&◌, if◌then◌else◌, List, [], ◌∷◌, None}
use Rattle.std.specs.Prelude.{is_some}
use Rattle.std.specs.List.{list_all, list_any}
use Rattle.ess_semantics.specs.declared.words.Key.{Key}
use Rattle.ess_semantics.specs.Names.{Names}
use Rattle.ess_semantics.specs.Trees.{Mark, flag, valued, Dom, Doms, bool_dom, int_dom, name_dom, tuple_dom, record_dom, matrix_dom, set_dom, mset_dom, function_dom, relation_dom, partition_dom, no_doms, more_doms, Stm, given, given_enum, let_ex, let_dom, let_enum, let_unnamed, needs, find, such_that, minimise, maximise}
use Rattle.ess_semantics.specs.Types.{Ty, join, type_of_dom}
use Rattle.ess_semantics.specs.Kinds.{dom_list, is_atom}
use Rattle.ess_semantics.specs.Contexts.{Each}
use Rattle.ess_semantics.specs.Scopes.{Scope, empty_scope, every_dom, every_doms, every_operand}
use Rattle.ess_semantics.specs.DomainJudgements.{mark_is_among, marks_among, marks_distinct, size_keys, is_binary, relation_flags, are_ints, ranges_fit, marks_fit, numbers_of, ranges_of, index_domains, fields_distinct, dom_fits}
use Rattle.ess_semantics.specs.Lettings.{put_dom, types_after, lettings_after}
use Rattle.ess_semantics.specs.Resolving.{resolve_dom, resolve_doms}
use Rattle.ess_semantics.specs.Prepared.{resolve_stm}
use Rattle.ess_semantics.specs.Judgements.{judgements, first_failed, put_in_scope, scope_after, first_fault, fault}
use Rattle.ess_semantics.specs.Plans.{domain_of_stm, kept_names}
use Rattle.ess_semantics.proofs.Tests.{and-left, and-right}
use Rattle.ess_types_laws.proofs.ResolvedTypes.{dom-type}
use Rattle.conjure_laws.proofs.Lists.{each-append}
use Rattle.conjure_laws.proofs.JudgedNames.{kept_from}
use Rattle.conjure_laws.proofs.SetScopesTyped.{no-fault}
use Rattle.conjure_settled_laws.proofs.JudgedStatements.{type_parts, Judged, judged}

-- Whether the attribute stands without a number.
abbrev pub is_flag : Mark → Bool
is_flag (flag k) = true
is_flag (valued k) = false

abbrev mutual
  -- Attributes without a number stand at relations of two components of one type alone.
  pub FlagsFit : Dom → Type 0
  FlagsFit (tuple_dom ds) = AllFlagsFit ds
  FlagsFit (record_dom fs ds) = AllFlagsFit ds
  FlagsFit (matrix_dom is d) = FlagsFit d
  FlagsFit (set_dom ms es d) = FlagsFit d
  FlagsFit (mset_dom ms es d) = FlagsFit d
  FlagsFit (function_dom ms es d c) = FlagsFit d × FlagsFit c
  FlagsFit (relation_dom ms es ds) = (list_any is_flag ms ≡ true → is_binary (dom_list ds) ≡ true) × AllFlagsFit ds
  FlagsFit (partition_dom ms es d) = FlagsFit d
  FlagsFit d = Unit {0}

  -- The same of several domains.
  pub AllFlagsFit : Doms → Type 0
  AllFlagsFit no_doms = Unit {0}
  AllFlagsFit (more_doms d ds) = FlagsFit d × AllFlagsFit ds

-- ---- one relation

no-flags : (vs : List Key) (ms : List Mark) → list_all (mark_is_among vs []) ms ≡ true → list_any is_flag ms ≡ false
no-flags vs [] h = refl
no-flags vs (flag k ∷ ms) h = cc
no-flags vs (valued k ∷ ms) h = no-flags vs ms (and-right (mark_is_among vs [] (valued k)) (list_all (mark_is_among vs []) ms) h)

are-binary : (b : Bool) (fs : List Key) (ms : List Mark) → marks_among size_keys (if b then fs else []) ms ≡ true →
    list_any is_flag ms ≡ true → b ≡ true
are-binary true fs ms h k = refl
are-binary false fs ms h k = let z : false ≡ true = sym (no-flags size_keys ms h) ∙ k in cc

fits-marks : (d : Dom) (s : Scope) → dom_fits d s ≡ true → marks_fit d ≡ true
fits-marks d s h =
    and-right (are_ints (numbers_of d) s && ranges_fit (ranges_of d)) (marks_fit d)
    (and-left (are_ints (numbers_of d) s && ranges_fit (ranges_of d) && marks_fit d) (list_all is_atom (index_domains d))
    (and-left (are_ints (numbers_of d) s && ranges_fit (ranges_of d) && marks_fit d && list_all is_atom (index_domains d))
    (fields_distinct d) h))

relation-fits : (ms : List Mark) (ds : List Dom) → marks_among size_keys (relation_flags ds) ms && marks_distinct ms ≡ true →
    list_any is_flag ms ≡ true → is_binary ds ≡ true
relation-fits ms ds h k = are-binary (is_binary ds) _ ms (and-left (marks_among size_keys (relation_flags ds) ms) (marks_distinct ms) h) k

-- Resolved components have the types that they had.
binary-resolved : (ds : Doms) (g : Names Ty) → is_binary (dom_list (resolve_doms ds g)) ≡ is_binary (dom_list ds)
binary-resolved no_doms g = refl
binary-resolved (more_doms d no_doms) g = refl
binary-resolved (more_doms d (more_doms e no_doms)) g =
    ap (λ t. is_some (join t (type_of_dom (resolve_dom e g)))) (dom-type d g)
    ∙ ap (λ t. is_some (join (type_of_dom d) t)) (dom-type e g)
binary-resolved (more_doms d (more_doms e (more_doms f ds))) g = refl

-- ---- judged domains

mutual
  judged-flags : (d : Dom) (s : Scope) → every_dom type_parts d s ≡ true → FlagsFit (resolve_dom d s.tys)
  judged-flags bool_dom s h = tt
  judged-flags (int_dom rs es) s h = tt
  judged-flags (name_dom a) s h = tt
  judged-flags (tuple_dom ds) s h = all-flags ds s (and-right (dom_fits (tuple_dom ds) s) (every_doms type_parts ds s) h)
  judged-flags (record_dom fs ds) s h = all-flags ds s (and-right (dom_fits (record_dom fs ds) s) (every_doms type_parts ds s) h)
  judged-flags (matrix_dom is d) s h =
      judged-flags d s (and-right (dom_fits (matrix_dom is d) s && every_doms type_parts is s) (every_dom type_parts d s) h)
  judged-flags (set_dom ms es d) s h =
      judged-flags d s (and-right (dom_fits (set_dom ms es d) s && every_operand type_parts [] es s) (every_dom type_parts d s) h)
  judged-flags (mset_dom ms es d) s h =
      judged-flags d s (and-right (dom_fits (mset_dom ms es d) s && every_operand type_parts [] es s) (every_dom type_parts d s) h)
  judged-flags (function_dom ms es d c) s h =
      let f : Dom = function_dom ms es d c in
      let l = and-left (dom_fits f s && every_operand type_parts [] es s && every_dom type_parts d s) (every_dom type_parts c s) h in (
        judged-flags d s (and-right (dom_fits f s && every_operand type_parts [] es s) (every_dom type_parts d s) l),
        judged-flags c s (and-right (dom_fits f s && every_operand type_parts [] es s && every_dom type_parts d s)
            (every_dom type_parts c s) h),
      )
  judged-flags (relation_dom ms es ds) s h =
      let r : Dom = relation_dom ms es ds in
      let l = and-left (dom_fits r s && every_operand type_parts [] es s) (every_doms type_parts ds s) h in (
        λ k. binary-resolved ds s.tys
            ∙ relation-fits ms (dom_list ds) (fits-marks r s (and-left (dom_fits r s) (every_operand type_parts [] es s) l)) k,
        all-flags ds s (and-right (dom_fits r s && every_operand type_parts [] es s) (every_doms type_parts ds s) h),
      )
  judged-flags (partition_dom ms es d) s h =
      judged-flags d s (and-right (dom_fits (partition_dom ms es d) s && every_operand type_parts [] es s) (every_dom type_parts d s) h)

  all-flags : (ds : Doms) (s : Scope) → every_doms type_parts ds s ≡ true → AllFlagsFit (resolve_doms ds s.tys)
  all-flags no_doms s h = tt
  all-flags (more_doms d ds) s h = (
    judged-flags d s (and-left (every_dom type_parts d s) (every_doms type_parts ds s) h),
    all-flags ds s (and-right (every_dom type_parts d s) (every_doms type_parts ds s) h),
  )

-- ---- statement by statement

of-stm : (w : Stm) (s : Scope) → Judged w (put_in_scope w s) s →
    Each (domain_of_stm (resolve_stm (put_in_scope w s) s.tys)) (λ x. FlagsFit x.1)
of-stm (given x d) s j = (judged-flags (put_dom d s.lets s.tys) s j.typed, tt)
of-stm (find x d) s j = (judged-flags (put_dom d s.lets s.tys) s j.typed, tt)
of-stm (given_enum t) s j = tt
of-stm (let_ex x e) s j = tt
of-stm (let_dom x d) s j = tt
of-stm (let_enum t ns) s j = tt
of-stm (let_unnamed t e) s j = tt
of-stm (needs e) s j = tt
of-stm (such_that e) s j = tt
of-stm (minimise e) s j = tt
of-stm (maximise e) s j = tt

from-judged : (k : ℕ) (ws : List Stm) (s : Scope) → first_fault k ws s ≡ None → Each (kept_from ws s.lets s.tys) (λ x. FlagsFit x.1)
from-judged k [] s e = tt
from-judged k (w ∷ ws) s e =
    let t : Stm = put_in_scope w s in
    let h = no-fault (first_failed judgements w t s) (first_fault (suc k) ws (scope_after t s)) k e in
    each-append (λ x. FlagsFit x.1) (domain_of_stm (resolve_stm t s.tys))
    (kept_from ws (lettings_after t s.lets) (types_after t s.tys))
    (of-stm w s (judged w t s h.0))
    (from-judged (suc k) ws (scope_after t s) h.1)

-- So in the domains of the givens and finds of a well typed specification.
pub flags-fit : (S : List Stm) → fault S ≡ None → Each (kept_names S) (λ x. FlagsFit x.1)
flags-fit S e = from-judged 1 S empty_scope e
