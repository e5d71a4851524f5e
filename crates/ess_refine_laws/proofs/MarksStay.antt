-- A part that keeps its type and marks keeps the marks of the whole.
use Rattle.std.proofs.Common.{◌≡◌, refl, sym, ap, ◌∙◌, subst, Bool, true, Option, Some, None}
use Rattle.std.specs.Prelude.{is_some}
use Rattle.ess_semantics.specs.Lists.{and_then}
use Rattle.ess_semantics.specs.Names.{Names}
use Rattle.ess_semantics.specs.Trees.{Op, Ex}
use Rattle.ess_semantics.specs.Types.{Ty, or_any, type_of_dom, bind_types}
use Rattle.ess_semantics.specs.OperatorTypes.{member_ty}
use Rattle.ess_semantics.specs.Typing.{static, other, type_of, source_ty}
use Rattle.ess_semantics.specs.Typed.{Typed}
use Rattle.ess_semantics.specs.Contexts.{In, Ins, InGens, InDom, InDoms, hole, in_operand, in_item, in_index_domain, in_body, in_generators, in_cell_index, in_view_domain, in_view_index, in_first, in_later, in_generator_domain, behind_over, in_source, behind_from, in_condition, behind_condition, in_bound, in_component, in_field, in_index, in_element, in_set_number, in_set_member, in_mset_number, in_mset_member, in_function_number, in_argument, in_result, in_relation_number, in_relation_component, in_partition_number, in_partition_member, in_first_domain, in_later_domain, fill, fill_exs, fill_gens, fill_dom, fill_doms}
use Rattle.ess_semantics.specs.NamesAt.{names_behind, names_at, names_at_exs, names_at_gens, names_at_dom, names_at_doms}
use Rattle.ess_rules_laws.specs.Rewriting.{Rewritten, as_it_was, rewritten_at}
use Rattle.ess_rules_laws.proofs.KeptUnder.{rewritten-kept}
use Rattle.ess_refine_laws.specs.TypesStay.{KeepsType}
use Rattle.ess_refine_laws.specs.MarksStay.{MarkFits, HasMarks, HaveMarks, GensHaveMarks, DomHasMarks, DomsHaveMarks, KeptMarked, WholesKeepMarks}
use Rattle.ess_refine_laws.proofs.TypesStay.{dom-type, part-stays}

-- A mark that is right stays so where the type stays.
mark-stays : (m : Bool) (op : Op) (o p : Option Ty) → ((t : Ty) → o ≡ Some t → p ≡ Some t) → MarkFits m op o → MarkFits m op p
mark-stays m op None p h k = absurd k
mark-stays m op (Some t) p h k = subst (λ z. MarkFits m op z) (sym (h t refl)) k

-- What is there is the same.
there-same : (o p : Option Ty) → ((t : Ty) → o ≡ Some t → p ≡ Some t) → is_some o ≡ true → p ≡ o
there-same None p h t = cc
there-same (Some u) p h t = h u refl

module _ (a b : Ex) (nothing : static a ≡ other) where
  -- The type of a source stays.
  source-same : (c : In) (g : Names Ty) → KeepsType (names_at c g) a b → is_some (and_then (type_of (fill c a) g) member_ty) ≡ true →
      and_then (type_of (fill c b) g) member_ty ≡ and_then (type_of (fill c a) g) member_ty
  source-same c g k t = ap (λ o. and_then o member_ty) (there-same (type_of (fill c a) g) (type_of (fill c b) g)
      (part-stays a b nothing c g k)
      (first (type_of (fill c a) g) t))
    where
      first : (o : Option Ty) → is_some (and_then o member_ty) ≡ true → is_some o ≡ true
      first None t = t
      first (Some u) t = refl

  -- What is asked at the part.
  abbrev Here : Names Ty → Type 0
  Here h = KeepsType h a b × (HasMarks a h → HasMarks b h)

  mutual
    part-marks : (c : In) (g : Names Ty) → Here (names_at c g) → HasMarks (fill c a) g → HasMarks (fill c b) g
    part-marks hole g k h = k.1 h
    part-marks (in_operand m op c) g k h = (
      mark-stays m op (type_of (fill (in_operand m op c) a) g) (type_of (fill (in_operand m op c) b) g)
          (part-stays a b nothing (in_operand m op c) g k.0) h.0,
      exs-marks c g k h.1,
    )
    part-marks (in_item c d) g k h = (exs-marks c g k h.0, h.1)
    part-marks (in_index_domain es c) g k h = (h.0, dom-marks c g k h.1)
    part-marks (in_body c gs) g k h = (h.0, part-marks c (names_behind gs g) k h.1)
    part-marks (in_generators x c) g k h =
        let r = gens-marks c g k h.0 in (r.0, subst (λ z. HasMarks x z) (sym r.1) h.1)
    part-marks (in_cell_index m n c) g k h = exs-marks c g k h
    part-marks (in_view_domain r c ns es) g k h = (dom-marks c g k h.0, h.1)
    part-marks (in_view_index r d ns c) g k h = (h.0, exs-marks c g k h.1)

    exs-marks : (c : Ins) (g : Names Ty) → Here (names_at_exs c g) → HaveMarks (fill_exs c a) g → HaveMarks (fill_exs c b) g
    exs-marks (in_first c es) g k h = (part-marks c g k h.0, h.1)
    exs-marks (in_later x c) g k h = (h.0, exs-marks c g k h.1)

    -- Generators keep their marks, and the names behind them their types.
    gens-marks : (c : InGens) (g : Names Ty) → Here (names_at_gens c g) → GensHaveMarks (fill_gens c a) g →
        GensHaveMarks (fill_gens c b) g × (names_behind (fill_gens c b) g ≡ names_behind (fill_gens c a) g)
    gens-marks (in_generator_domain p c gs) g k h = (
      (dom-marks c g k h.0, subst (λ z. GensHaveMarks gs (bind_types p z g)) (dom-type a b c) h.1),
      ap (λ z. names_behind gs (bind_types p z g)) (sym (dom-type a b c)),
    )
    gens-marks (behind_over p d c) g k h = let r = gens-marks c (bind_types p (type_of_dom d) g) k h.1 in ((h.0, r.0), r.1)
    gens-marks (in_source p c gs) g k h =
        let s = source-same c g k.0 h.0 in (
          (
            ap is_some s ∙ h.0,
            part-marks c g k h.1,
            subst (λ z. GensHaveMarks gs (bind_types p (or_any z) g)) (sym s) h.2,
          ),
          ap (λ z. names_behind gs (bind_types p (or_any z) g)) s,
        )
    gens-marks (behind_from p x c) g k h = let r = gens-marks c (bind_types p (source_ty x g) g) k h.2 in ((h.0, h.1, r.0), r.1)
    gens-marks (in_condition c gs) g k h = ((part-marks c g k h.0, h.1), refl)
    gens-marks (behind_condition x c) g k h = let r = gens-marks c g k h.1 in ((h.0, r.0), r.1)

    dom-marks : (c : InDom) (g : Names Ty) → Here (names_at_dom c g) → DomHasMarks (fill_dom c a) g → DomHasMarks (fill_dom c b) g
    dom-marks (in_bound rs c) g k h = exs-marks c g k h
    dom-marks (in_component c) g k h = doms-marks c g k h
    dom-marks (in_field fs c) g k h = doms-marks c g k h
    dom-marks (in_index c d) g k h = (doms-marks c g k h.0, h.1)
    dom-marks (in_element is c) g k h = (h.0, dom-marks c g k h.1)
    dom-marks (in_set_number ms c d) g k h = (exs-marks c g k h.0, h.1)
    dom-marks (in_set_member ms es c) g k h = (h.0, dom-marks c g k h.1)
    dom-marks (in_mset_number ms c d) g k h = (exs-marks c g k h.0, h.1)
    dom-marks (in_mset_member ms es c) g k h = (h.0, dom-marks c g k h.1)
    dom-marks (in_function_number ms c d r) g k h = (exs-marks c g k h.0, h.1, h.2)
    dom-marks (in_argument ms es c r) g k h = (h.0, dom-marks c g k h.1, h.2)
    dom-marks (in_result ms es d c) g k h = (h.0, h.1, dom-marks c g k h.2)
    dom-marks (in_relation_number ms c ds) g k h = (exs-marks c g k h.0, h.1)
    dom-marks (in_relation_component ms es c) g k h = (h.0, doms-marks c g k h.1)
    dom-marks (in_partition_number ms c d) g k h = (exs-marks c g k h.0, h.1)
    dom-marks (in_partition_member ms es c) g k h = (h.0, dom-marks c g k h.1)

    doms-marks : (c : InDoms) (g : Names Ty) → Here (names_at_doms c g) → DomsHaveMarks (fill_doms c a) g → DomsHaveMarks (fill_doms c b) g
    doms-marks (in_first_domain c ds) g k h = (dom-marks c g k h.0, h.1)
    doms-marks (in_later_domain d c) g k h = (h.0, doms-marks c g k h.1)

-- Any number of rules, each at some part.
rewritten-marks : (g : Names Ty) (old new : Ex) → Rewritten Typed KeptMarked g old new → HasMarks old g → HasMarks new g
rewritten-marks g e d as_it_was h = h
rewritten-marks g old e (rewritten_at {a = a} {b = b} c s r u) h =
    rewritten-marks g (fill c b) e u (part-marks a b r.says_nothing c g (r.type_stays, r.marks_stay) h)

rewritten-typed : (g : Names Ty) (old new : Ex) → Rewritten Typed KeptMarked g old new → KeepsType g old new
rewritten-typed g e d as_it_was t q = q
rewritten-typed g old e (rewritten_at {a = a} {b = b} c s r u) t q =
    rewritten-typed g (fill c b) e u t (part-stays a b r.says_nothing c g r.type_stays t q)

-- What stays.
pub marks-stay : WholesKeepMarks
marks-stay = record {
  at_a_part = λ c g a b n k m h. part-marks a b n c g (k, m) h;
  by_any_rules = λ g old new u h. (
    rewritten-kept Typed KeptMarked (λ g a b k. k.kept) g old new u,
    rewritten-typed g old new u,
    rewritten-marks g old new u h,
  );
}
