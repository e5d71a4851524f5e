-- The bounds and attribute values of a judged domain are whole numbers.
use Rattle.std.proofs.Common.{◌≡◌, refl, sym, ◌∙◌, true, false, ◌&&◌, List, [], ◌++◌, ℤ, Option, Some, None, is_some}
use Rattle.std.specs.List.{list_all, list_any}
use Rattle.std.specs.Prelude.{IsTrue}
use Rattle.std.proofs.lemmas.List.Folds.{list_any-append}
use Rattle.ess_semantics.specs.Lists.{is_some_and}
use Rattle.ess_semantics.specs.Values.{Value, number, truth, item, node}
use Rattle.ess_semantics.specs.Trees.{Ex, Exs, no_exs, more_exs, Dom, Doms, bool_dom, int_dom, name_dom, tuple_dom, record_dom, matrix_dom, set_dom, mset_dom, function_dom, relation_dom, partition_dom, no_doms, more_doms}
use Rattle.ess_semantics.specs.Types.{Ty, any_ty, bool_ty, int_ty, named_ty, compound, join}
use Rattle.ess_semantics.specs.Typing.{type_of, types_of}
use Rattle.ess_semantics.specs.Typed.{Typed}
use Rattle.ess_semantics.specs.TypeMembers.{is_of_type}
use Rattle.ess_semantics.specs.Kinds.{is_atom}
use Rattle.ess_semantics.specs.Occurrences.{parts_of, parts_of_all, parts_of_dom, parts_of_doms, is_cell_or_view}
use Rattle.ess_semantics.specs.Resolving.{resolve, resolve_exs, resolve_dom, resolve_doms}
use Rattle.ess_semantics.specs.Scopes.{Scope, every, every_dom, every_doms, every_operand}
use Rattle.ess_semantics.specs.DomainJudgements.{are_ints, numbers_of, ranges_of, ranges_fit, marks_fit, index_domains, fields_distinct, dom_fits}
use Rattle.ess_semantics.specs.Meaning.{Env, as_int, meaning}
use Rattle.ess_semantics.proofs.Tests.{and-left, and-right, or-left-no, or-right-no}
use Rattle.ess_semantics.specs.Judgements.{every_of_stm, place_fits, order_is_fit}
use Rattle.ess_types_laws.specs.SoundParts.{sound_parts}
use Rattle.ess_types_laws.proofs.Judged.{judged-typed}
use Rattle.ess_repr_laws.specs.StructureMeaning.{Number, AllNumbers}
use Rattle.ess_repr_structure_laws.specs.DomainNumbers.{NumbersIn, AllNumbersIn}
use Rattle.ess_repr_structure_laws.specs.Laws.{JudgedNumbersAreNumbers}
use Rattle.ess_repr_structure_laws.proofs.OrderlyJudged.{of-domain}
use Rattle.ess_repr_structure_laws.proofs.SoundTogether.{typed, both-dom}

-- None of these is a cell or a view.
abbrev pub Plain : List Ex → Type 0
Plain xs = list_any is_cell_or_view xs ≡ false

pub left-plain : (xs ys : List Ex) → Plain (xs ++ ys) → Plain xs
left-plain xs ys h = or-left-no (list_any is_cell_or_view xs) (list_any is_cell_or_view ys)
    (sym (list_any-append is_cell_or_view xs ys) ∙ h)

pub right-plain : (xs ys : List Ex) → Plain (xs ++ ys) → Plain ys
right-plain xs ys h = or-right-no (list_any is_cell_or_view xs) (list_any is_cell_or_view ys)
    (sym (list_any-append is_cell_or_view xs ys) ∙ h)

-- A value of a type that agrees with int is a number.
is-number : (t : Ty) (env : Env) (v : Value) (z : ℤ) → is_some (join t int_ty) ≡ true → IsTrue (is_of_type t env v) → as_int (Some v) ≡ Some
    z → Some v ≡ Some (number z)
is-number any_ty env v z j h r = cc
is-number int_ty env (number n) z j h r = cc
is-number int_ty env (truth b) z j h r = cc
is-number int_ty env (item a k) z j h r = cc
is-number int_ty env (node k vs) z j h r = cc
is-number bool_ty env v z j h r = cc
is-number (named_ty a) env v z j h r = cc
is-number (compound k ts) env v z j h r = cc

module _ (s : Scope) (env : Env) (held : Typed s.tys env) where
  number-read : (e : Ex) → Plain (parts_of e) → every sound_parts e s ≡ true → is_some_and (type_of e s.tys) (λ u. is_some (join u int_ty))
      ≡ true →
      (z : ℤ) → as_int (meaning (resolve e s.tys) env) ≡ Some z → Number (resolve e s.tys) env z
  number-read e p h f z r = go (type_of e s.tys) (meaning (resolve e s.tys) env) refl refl f r
    where
      go : (o : Option Ty) (v : Option Value) → type_of e s.tys ≡ o → meaning (resolve e s.tys) env ≡ v → is_some_and o
          (λ u. is_some (join u int_ty)) ≡ true → as_int v ≡ Some z → v ≡ Some (number z)
      go None v q m f r = cc
      go (Some t) None q m f r = cc
      go (Some t) (Some v) q m f r = is-number t env v z f (judged-typed e s env p h held t q v m) r

  -- Those of one layer.
  numbers-read : (es : Exs) → Plain (parts_of_all es) → every_operand sound_parts [] es s ≡ true → are_ints es s ≡ true → AllNumbers
      (resolve_exs es s.tys) env
  numbers-read no_exs p h f = tt
  numbers-read (more_exs e es) p h f = (
    number-read e (left-plain (parts_of e) (parts_of_all es) p) (and-left (every sound_parts e s) (every_operand sound_parts [] es s) h)
        (and-left (is_some_and (type_of e s.tys) (λ u. is_some (join u int_ty)))
        (list_all (λ t. is_some_and t (λ u. is_some (join u int_ty))) (types_of es s.tys)) f),
    numbers-read es (right-plain (parts_of e) (parts_of_all es) p) (and-right (every sound_parts e s) (every_operand sound_parts [] es s) h)
        (and-right (is_some_and (type_of e s.tys) (λ u. is_some (join u int_ty)))
        (list_all (λ t. is_some_and t (λ u. is_some (join u int_ty))) (types_of es s.tys)) f),
  )

  ints-of : (d : Dom) → dom_fits d s ≡ true → are_ints (numbers_of d) s ≡ true
  ints-of d h =
      and-left (are_ints (numbers_of d) s) (ranges_fit (ranges_of d))
      (and-left (are_ints (numbers_of d) s && ranges_fit (ranges_of d)) (marks_fit d)
      (and-left (are_ints (numbers_of d) s && ranges_fit (ranges_of d) && marks_fit d) (list_all is_atom (index_domains d))
      (and-left (are_ints (numbers_of d) s && ranges_fit (ranges_of d) && marks_fit d && list_all is_atom (index_domains d))
      (fields_distinct d) h)))

  mutual
    -- Each number of the domain is one.
    pub judged-numbers : (d : Dom) → Plain (parts_of_dom d) → every_dom sound_parts d s ≡ true → NumbersIn (resolve_dom d s.tys) env
    judged-numbers bool_dom p h = tt
    judged-numbers (int_dom rs es) p h =
        numbers-read es p (and-right (dom_fits (int_dom rs es) s) (every_operand sound_parts [] es s) h)
        (ints-of (int_dom rs es) (and-left (dom_fits (int_dom rs es) s) (every_operand sound_parts [] es s) h))
    judged-numbers (name_dom a) p h = tt
    judged-numbers (tuple_dom ds) p h = all-judged-numbers ds p (and-right (dom_fits (tuple_dom ds) s) (every_doms sound_parts ds s) h)
    judged-numbers (record_dom fs ds) p h = all-judged-numbers ds p
        (and-right (dom_fits (record_dom fs ds) s) (every_doms sound_parts ds s) h)
    judged-numbers (matrix_dom is d) p h =
        let k = and-left (dom_fits (matrix_dom is d) s && every_doms sound_parts is s) (every_dom sound_parts d s) h in (
          all-judged-numbers is (left-plain (parts_of_doms is) (parts_of_dom d) p)
              (and-right (dom_fits (matrix_dom is d) s) (every_doms sound_parts is s) k),
          judged-numbers d (right-plain (parts_of_doms is) (parts_of_dom d) p)
              (and-right (dom_fits (matrix_dom is d) s && every_doms sound_parts is s) (every_dom sound_parts d s) h),
        )
    judged-numbers (set_dom ms es d) p h =
        let k = and-left (dom_fits (set_dom ms es d) s && every_operand sound_parts [] es s) (every_dom sound_parts d s) h in (
          numbers-read es (left-plain (parts_of_all es) (parts_of_dom d) p)
              (and-right (dom_fits (set_dom ms es d) s) (every_operand sound_parts [] es s) k)
              (ints-of (set_dom ms es d) (and-left (dom_fits (set_dom ms es d) s) (every_operand sound_parts [] es s) k)),
          judged-numbers d (right-plain (parts_of_all es) (parts_of_dom d) p)
              (and-right (dom_fits (set_dom ms es d) s && every_operand sound_parts [] es s) (every_dom sound_parts d s) h),
        )
    judged-numbers (mset_dom ms es d) p h =
        let k = and-left (dom_fits (mset_dom ms es d) s && every_operand sound_parts [] es s) (every_dom sound_parts d s) h in (
          numbers-read es (left-plain (parts_of_all es) (parts_of_dom d) p)
              (and-right (dom_fits (mset_dom ms es d) s) (every_operand sound_parts [] es s) k)
              (ints-of (mset_dom ms es d) (and-left (dom_fits (mset_dom ms es d) s) (every_operand sound_parts [] es s) k)),
          judged-numbers d (right-plain (parts_of_all es) (parts_of_dom d) p)
              (and-right (dom_fits (mset_dom ms es d) s && every_operand sound_parts [] es s) (every_dom sound_parts d s) h),
        )
    judged-numbers (function_dom ms es d c) p h =
        let f : Dom = function_dom ms es d c in
        let j = and-left (dom_fits f s && every_operand sound_parts [] es s && every_dom sound_parts d s) (every_dom sound_parts c s) h in
        let k = and-left (dom_fits f s && every_operand sound_parts [] es s) (every_dom sound_parts d s) j in
        let q = left-plain (parts_of_all es ++ parts_of_dom d) (parts_of_dom c) p in (
          numbers-read es (left-plain (parts_of_all es) (parts_of_dom d) q) (and-right (dom_fits f s) (every_operand sound_parts [] es s) k)
              (ints-of f (and-left (dom_fits f s) (every_operand sound_parts [] es s) k)),
          judged-numbers d (right-plain (parts_of_all es) (parts_of_dom d) q)
              (and-right (dom_fits f s && every_operand sound_parts [] es s) (every_dom sound_parts d s) j),
          judged-numbers c (right-plain (parts_of_all es ++ parts_of_dom d) (parts_of_dom c) p)
              (and-right (dom_fits f s && every_operand sound_parts [] es s && every_dom sound_parts d s) (every_dom sound_parts c s) h),
        )
    judged-numbers (relation_dom ms es ds) p h =
        let k = and-left (dom_fits (relation_dom ms es ds) s && every_operand sound_parts [] es s) (every_doms sound_parts ds s) h in (
          numbers-read es (left-plain (parts_of_all es) (parts_of_doms ds) p)
              (and-right (dom_fits (relation_dom ms es ds) s) (every_operand sound_parts [] es s) k)
              (ints-of (relation_dom ms es ds) (and-left (dom_fits (relation_dom ms es ds) s) (every_operand sound_parts [] es s) k)),
          all-judged-numbers ds (right-plain (parts_of_all es) (parts_of_doms ds) p)
              (and-right (dom_fits (relation_dom ms es ds) s && every_operand sound_parts [] es s) (every_doms sound_parts ds s) h),
        )
    judged-numbers (partition_dom ms es d) p h =
        let k = and-left (dom_fits (partition_dom ms es d) s && every_operand sound_parts [] es s) (every_dom sound_parts d s) h in (
          numbers-read es (left-plain (parts_of_all es) (parts_of_dom d) p)
              (and-right (dom_fits (partition_dom ms es d) s) (every_operand sound_parts [] es s) k)
              (ints-of (partition_dom ms es d) (and-left (dom_fits (partition_dom ms es d) s) (every_operand sound_parts [] es s) k)),
          judged-numbers d (right-plain (parts_of_all es) (parts_of_dom d) p)
              (and-right (dom_fits (partition_dom ms es d) s && every_operand sound_parts [] es s) (every_dom sound_parts d s) h),
        )

    all-judged-numbers : (ds : Doms) → Plain (parts_of_doms ds) → every_doms sound_parts ds s ≡ true → AllNumbersIn (resolve_doms ds s.tys)
        env
    all-judged-numbers no_doms p h = tt
    all-judged-numbers (more_doms d ds) p h = (
      judged-numbers d (left-plain (parts_of_dom d) (parts_of_doms ds) p)
          (and-left (every_dom sound_parts d s) (every_doms sound_parts ds s) h),
      all-judged-numbers ds (right-plain (parts_of_dom d) (parts_of_doms ds) p)
          (and-right (every_dom sound_parts d s) (every_doms sound_parts ds s) h),
    )

-- ---- statements

-- So the judgement of types tells that numbers are numbers.
pub numbers-judged : JudgedNumbersAreNumbers
numbers-judged w t s d env e h k p f =
    judged-numbers s env f d p
    (both-dom d s (of-domain typed t s d e (and-left (every_of_stm typed t s) (place_fits t s)
    (and-left (every_of_stm typed t s && place_fits t s) (order_is_fit t s) h))) k)
