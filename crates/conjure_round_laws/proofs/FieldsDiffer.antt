-- No record of a well typed specification has a field twice. So the domains of its givens and finds have literals.
use Rattle.std.proofs.Common.{◌≡◌, refl, sym, ap, ◌∙◌, ℕ, suc, true, false, ◌&&◌, List, [], ◌∷◌, Some, None}
use Rattle.std.specs.List.{list_all}
use Rattle.ess_semantics.specs.Names.{all_distinct}
use Rattle.ess_semantics.specs.Trees.{Dom, Doms, bool_dom, int_dom, name_dom, tuple_dom, record_dom, matrix_dom, set_dom, mset_dom, function_dom, relation_dom, partition_dom, no_doms, more_doms, Stm, given, given_enum, let_ex, let_dom, let_enum, let_unnamed, needs, find, such_that, minimise, maximise}
use Rattle.ess_semantics.specs.Kinds.{dom_list, is_atom}
use Rattle.ess_semantics.specs.Contexts.{Each}
use Rattle.ess_semantics.specs.Scopes.{Scope, empty_scope, every_dom, every_doms, every_operand}
use Rattle.ess_semantics.specs.DomainJudgements.{are_ints, numbers_of, ranges_of, ranges_fit, marks_fit, index_domains, fields_distinct, dom_fits}
use Rattle.ess_semantics.specs.Lettings.{put_dom, types_after, lettings_after}
use Rattle.ess_semantics.specs.Resolving.{resolve_dom, resolve_doms}
use Rattle.ess_semantics.specs.Prepared.{resolve_stm}
use Rattle.ess_semantics.specs.Judgements.{judgements, first_failed, first_fault, fault, is_well_typed, put_in_scope, scope_after}
use Rattle.ess_semantics.specs.Plans.{domain_of_stm, kept_names}
use Rattle.ess_semantics.proofs.Tests.{and-left, and-right, and-both}
use Rattle.ess_grammar.specs.Readable.{ReadableStms}
use Rattle.ess_types_laws.specs.ProperDomains.{each_is_atom}
use Rattle.ess_repr_laws.specs.WellFormed.{Well, AllWell}
use Rattle.conjure_laws.proofs.Lists.{each-append, each-both}
use Rattle.conjure_laws.proofs.JudgedNames.{IsRight, kept_from, judged-right}
use Rattle.conjure_laws.proofs.SetScopesTyped.{no-fault}
use Rattle.conjure_settled_laws.proofs.JudgedStatements.{type_parts, Judged, judged}
use Rattle.ess_member_literals_laws.specs.ToldDomains.{IsTold, AreTold}
use Rattle.conjure_round_laws.proofs.WrittenParts.{IsWritten, AreWritten, are_written_fields, kept-written}

abbrev mutual
  -- No record in the domain has a field twice.
  HasDistinct : Dom → Type 0
  HasDistinct (tuple_dom ds) = HaveDistinct ds
  HasDistinct (record_dom fs ds) = (all_distinct fs ≡ true) × HaveDistinct ds
  HasDistinct (matrix_dom is d) = HasDistinct d
  HasDistinct (set_dom ms es d) = HasDistinct d
  HasDistinct (mset_dom ms es d) = HasDistinct d
  HasDistinct (function_dom ms es d c) = HasDistinct d × HasDistinct c
  HasDistinct (relation_dom ms es ds) = HaveDistinct ds
  HasDistinct (partition_dom ms es d) = HasDistinct d
  HasDistinct d = Unit {0}

  -- The same of several domains.
  HaveDistinct : Doms → Type 0
  HaveDistinct no_doms = Unit {0}
  HaveDistinct (more_doms d ds) = HasDistinct d × HaveDistinct ds

-- ---- judged domains

fits-fields : (d : Dom) (s : Scope) → dom_fits d s ≡ true → fields_distinct d ≡ true
fits-fields d s h =
    and-right (are_ints (numbers_of d) s && ranges_fit (ranges_of d) && marks_fit d && list_all is_atom (index_domains d)) (fields_distinct d) h

mutual
  judged-fields : (d : Dom) (s : Scope) → every_dom type_parts d s ≡ true → HasDistinct (resolve_dom d s.tys)
  judged-fields bool_dom s h = tt
  judged-fields (int_dom rs es) s h = tt
  judged-fields (name_dom a) s h = tt
  judged-fields (tuple_dom ds) s h = all-fields ds s (and-right (dom_fits (tuple_dom ds) s) (every_doms type_parts ds s) h)
  judged-fields (record_dom fs ds) s h = (
    fits-fields (record_dom fs ds) s (and-left (dom_fits (record_dom fs ds) s) (every_doms type_parts ds s) h),
    all-fields ds s (and-right (dom_fits (record_dom fs ds) s) (every_doms type_parts ds s) h),
  )
  judged-fields (matrix_dom is d) s h =
      judged-fields d s (and-right (dom_fits (matrix_dom is d) s && every_doms type_parts is s) (every_dom type_parts d s) h)
  judged-fields (set_dom ms es d) s h =
      judged-fields d s (and-right (dom_fits (set_dom ms es d) s && every_operand type_parts [] es s) (every_dom type_parts d s) h)
  judged-fields (mset_dom ms es d) s h =
      judged-fields d s (and-right (dom_fits (mset_dom ms es d) s && every_operand type_parts [] es s) (every_dom type_parts d s) h)
  judged-fields (function_dom ms es d c) s h =
      let f : Dom = function_dom ms es d c in
      let l = and-left (dom_fits f s && every_operand type_parts [] es s && every_dom type_parts d s) (every_dom type_parts c s) h in (
        judged-fields d s (and-right (dom_fits f s && every_operand type_parts [] es s) (every_dom type_parts d s) l),
        judged-fields c s (and-right (dom_fits f s && every_operand type_parts [] es s && every_dom type_parts d s)
            (every_dom type_parts c s) h),
      )
  judged-fields (relation_dom ms es ds) s h =
      all-fields ds s (and-right (dom_fits (relation_dom ms es ds) s && every_operand type_parts [] es s) (every_doms type_parts ds s) h)
  judged-fields (partition_dom ms es d) s h =
      judged-fields d s (and-right (dom_fits (partition_dom ms es d) s && every_operand type_parts [] es s) (every_dom type_parts d s) h)

  all-fields : (ds : Doms) (s : Scope) → every_doms type_parts ds s ≡ true → HaveDistinct (resolve_doms ds s.tys)
  all-fields no_doms s h = tt
  all-fields (more_doms d ds) s h = (
    judged-fields d s (and-left (every_dom type_parts d s) (every_doms type_parts ds s) h),
    all-fields ds s (and-right (every_dom type_parts d s) (every_doms type_parts ds s) h),
  )

-- ---- statement by statement

of-stm : (w : Stm) (s : Scope) → Judged w (put_in_scope w s) s →
    Each (domain_of_stm (resolve_stm (put_in_scope w s) s.tys)) (λ x. HasDistinct x.1)
of-stm (given x d) s j = (judged-fields (put_dom d s.lets s.tys) s j.typed, tt)
of-stm (find x d) s j = (judged-fields (put_dom d s.lets s.tys) s j.typed, tt)
of-stm (given_enum t) s j = tt
of-stm (let_ex x e) s j = tt
of-stm (let_dom x d) s j = tt
of-stm (let_enum t ns) s j = tt
of-stm (let_unnamed t e) s j = tt
of-stm (needs e) s j = tt
of-stm (such_that e) s j = tt
of-stm (minimise e) s j = tt
of-stm (maximise e) s j = tt

from-judged : (k : ℕ) (ws : List Stm) (s : Scope) → first_fault k ws s ≡ None →
    Each (kept_from ws s.lets s.tys) (λ x. HasDistinct x.1)
from-judged k [] s e = tt
from-judged k (w ∷ ws) s e =
    let t : Stm = put_in_scope w s in
    let h = no-fault (first_failed judgements w t s) (first_fault (suc k) ws (scope_after t s)) k e in
    each-append (λ x. HasDistinct x.1) (domain_of_stm (resolve_stm t s.tys))
    (kept_from ws (lettings_after t s.lets) (types_after t s.tys))
    (of-stm w s (judged w t s h.0))
    (from-judged (suc k) ws (scope_after t s) h.1)

-- ---- told domains

each-atom : (ds : Doms) → list_all is_atom (dom_list ds) ≡ each_is_atom ds
each-atom no_doms = refl
each-atom (more_doms d ds) = ap (λ b. is_atom d && b) (each-atom ds)

mutual
  told : (d : Dom) → Well d → IsWritten d → HasDistinct d → IsTold d
  told bool_dom w h f = tt
  told (int_dom rs es) w h f = tt
  told (name_dom a) w h f = tt
  told (tuple_dom ds) w h f = (h.0, all-told ds w h.1 f)
  told (record_dom fs ds) w h f = (and-both (are_written_fields fs ds) (all_distinct fs) h.0 f.0, all-told ds w h.1 f.1)
  told (matrix_dom is d) w h f = (sym (each-atom is) ∙ w.0, told d w.2 h f)
  told (set_dom ms es d) w h f = told d w.1 h f
  told (mset_dom ms es d) w h f = told d w.1 h f
  told (function_dom ms es d c) w h f = (told d w.2 h.0 f.0, told c w.3 h.1 f.1)
  told (relation_dom ms es ds) w h f = (h.0, all-told ds w.1 h.1 f)
  told (partition_dom ms es d) w h f = told d w.1 h f

  all-told : (ds : Doms) → AllWell ds → AreWritten ds → HaveDistinct ds → AreTold ds
  all-told no_doms w h f = tt
  all-told (more_doms d ds) w h f = (told d w.0 h.0 f.0, all-told ds w.1 h.1 f.1)

is-clean : (S : List Stm) → fault S ≡ None → is_well_typed S ≡ true
is-clean S e = ap (λ o. elim o [ None ↦ true | Some f ↦ false ]) e

-- The domains of the givens and finds of a well typed specification of the grammar have literals.
pub kept-told : (S : List Stm) → fault S ≡ None → ReadableStms S → Each (kept_names S) (λ x. IsTold x.1)
kept-told S e r =
    each-both (kept_names S) (λ x. IsRight x × IsWritten x.1) (λ x. HasDistinct x.1) (λ x. IsTold x.1)
    (λ x h f. told x.1 h.0.0 h.1 f)
    (each-both (kept_names S) IsRight (λ x. IsWritten x.1) (λ x. IsRight x × IsWritten x.1) (λ x h k. (h, k))
    (judged-right S (is-clean S e)) (kept-written S r))
    (from-judged 1 S empty_scope e)
