-- A new name changes no marks.
use Rattle.std.proofs.Common.{◌≡◌, refl, ap, subst, Bool, true, false, not, if◌then◌else◌, ◌∷◌, Option, Some}
use Rattle.std.specs.Prelude.{IsTrue, is_some}
use Rattle.ess_semantics.specs.Lists.{and_then}
use Rattle.ess_semantics.specs.Values.{Text}
use Rattle.ess_semantics.specs.Order.{same_text}
use Rattle.ess_semantics.specs.Names.{Names, look}
use Rattle.ess_semantics.specs.Trees.{Ex, Exs, number_ex, truth_ex, name_ex, node_ex, matrix_ex, comp_ex, cell_ex, seen_ex, no_exs, more_exs, Gens, no_gens, over, from, cond, Dom, Doms, bool_dom, int_dom, name_dom, tuple_dom, record_dom, matrix_dom, set_dom, mset_dom, function_dom, relation_dom, partition_dom, no_doms, more_doms}
use Rattle.ess_semantics.specs.Types.{Ty, or_any, type_of_dom, bind_types}
use Rattle.ess_semantics.specs.OperatorTypes.{member_ty}
use Rattle.ess_semantics.specs.Typing.{type_of, source_ty}
use Rattle.ess_semantics.specs.NamesAt.{names_behind}
use Rattle.ess_refine_laws.specs.MarksStay.{MarkFits, HasMarks, HaveMarks, GensHaveMarks, DomHasMarks, DomsHaveMarks}
use Rattle.ess_refine_types_laws.specs.TypeNames.{TypeNamesAre, AllTypeNamesAre, GensTypeNamesAre}
use Rattle.ess_refine_types_laws.specs.MarksOfContainers.{UsesNames, AllUseNames, GensUseNames, DomUsesNames, DomsUseNames, IsNewTo}
use Rattle.ess_refine_types_laws.proofs.TypeNames.{Same, same-pattern, type-same}

module _ (u : Text → Bool) where
  mutual
    -- Types depend on fewer names.
    pub fewer : (e : Ex) → UsesNames u e → TypeNamesAre u e
    fewer (number_ex n) h = tt
    fewer (truth_ex b) h = tt
    fewer (name_ex a) h = h
    fewer (node_ex b op es) h = all-fewer es h
    fewer (matrix_ex es d) h = all-fewer es h.0
    fewer (comp_ex e gs) h = (fewer e h.0, gens-fewer gs h.1)
    fewer (cell_ex b n es) h = h.0
    fewer (seen_ex r d ns es) h = tt

    pub all-fewer : (es : Exs) → AllUseNames u es → AllTypeNamesAre u es
    all-fewer no_exs h = tt
    all-fewer (more_exs e es) h = (fewer e h.0, all-fewer es h.1)

    pub gens-fewer : (gs : Gens) → GensUseNames u gs → GensTypeNamesAre u gs
    gens-fewer no_gens h = tt
    gens-fewer (over p d gs) h = gens-fewer gs h.1
    gens-fewer (from p e gs) h = (fewer e h.0, gens-fewer gs h.1)
    gens-fewer (cond e gs) h = (fewer e h.0, gens-fewer gs h.1)

  mutual
    pub marks-same : (e : Ex) (g h : Names Ty) → UsesNames u e → Same u g h → HasMarks e g → HasMarks e h
    marks-same (number_ex n) g h q s m = tt
    marks-same (truth_ex b) g h q s m = tt
    marks-same (name_ex a) g h q s m = tt
    marks-same (node_ex b op es) g h q s m =
        (subst (λ o. MarkFits b op o) (type-same u (node_ex b op es) g h (all-fewer es q) s) m.0, all-same es g h q s m.1)
    marks-same (matrix_ex es d) g h q s m = (all-same es g h q.0 s m.0, dom-same d g h q.1 s m.1)
    marks-same (comp_ex e gs) g h q s m =
        let r = gens-same gs g h q.1 s m.0 in (r.0, marks-same e (names_behind gs g) (names_behind gs h) q.0 r.1 m.1)
    marks-same (cell_ex b n es) g h q s m = all-same es g h q.1 s m
    marks-same (seen_ex r d ns es) g h q s m = (dom-same d g h q.0 s m.0, all-same es g h q.1 s m.1)

    all-same : (es : Exs) (g h : Names Ty) → AllUseNames u es → Same u g h → HaveMarks es g → HaveMarks es h
    all-same no_exs g h q s m = tt
    all-same (more_exs e es) g h q s m = (marks-same e g h q.0 s m.0, all-same es g h q.1 s m.1)

    gens-same : (gs : Gens) (g h : Names Ty) → GensUseNames u gs → Same u g h → GensHaveMarks gs g →
        GensHaveMarks gs h × Same u (names_behind gs g) (names_behind gs h)
    gens-same no_gens g h q s m = (tt, s)
    gens-same (over p d gs) g h q s m =
        let r = gens-same gs (bind_types p (type_of_dom d) g) (bind_types p (type_of_dom d) h) q.1
        (same-pattern u p (type_of_dom d) g h s) m.1 in ((dom-same d g h q.0 s m.0, r.0), r.1)
    gens-same (from p e gs) g h q s m =
        let t : type_of e g ≡ type_of e h = type-same u e g h (fewer e q.0) s in
        let i : source_ty e g ≡ source_ty e h = ap (λ o. or_any (and_then o member_ty)) t in
        let r = gens-same gs (bind_types p (source_ty e g) g) (bind_types p (source_ty e h) h) q.1
        (subst (λ z. Same u (bind_types p (source_ty e g) g) (bind_types p z h)) i (same-pattern u p (source_ty e g) g h s)) m.2 in (
          (subst (λ o. IsTrue (is_some (and_then o member_ty))) t m.0, marks-same e g h q.0 s m.1, r.0),
          r.1,
        )
    gens-same (cond e gs) g h q s m = let r = gens-same gs g h q.1 s m.1 in ((marks-same e g h q.0 s m.0, r.0), r.1)

    pub dom-same : (d : Dom) (g h : Names Ty) → DomUsesNames u d → Same u g h → DomHasMarks d g → DomHasMarks d h
    dom-same bool_dom g h q s m = tt
    dom-same (int_dom rs es) g h q s m = all-same es g h q s m
    dom-same (name_dom a) g h q s m = tt
    dom-same (tuple_dom ds) g h q s m = doms-same ds g h q s m
    dom-same (record_dom fs ds) g h q s m = doms-same ds g h q s m
    dom-same (matrix_dom is d) g h q s m = (doms-same is g h q.0 s m.0, dom-same d g h q.1 s m.1)
    dom-same (set_dom ms es d) g h q s m = (all-same es g h q.0 s m.0, dom-same d g h q.1 s m.1)
    dom-same (mset_dom ms es d) g h q s m = (all-same es g h q.0 s m.0, dom-same d g h q.1 s m.1)
    dom-same (function_dom ms es d c) g h q s m =
        (all-same es g h q.0 s m.0, dom-same d g h q.1 s m.1, dom-same c g h q.2 s m.2)
    dom-same (relation_dom ms es ds) g h q s m = (all-same es g h q.0 s m.0, doms-same ds g h q.1 s m.1)
    dom-same (partition_dom ms es d) g h q s m = (all-same es g h q.0 s m.0, dom-same d g h q.1 s m.1)

    pub doms-same : (ds : Doms) (g h : Names Ty) → DomsUseNames u ds → Same u g h → DomsHaveMarks ds g → DomsHaveMarks ds h
    doms-same no_doms g h q s m = tt
    doms-same (more_doms d ds) g h q s m = (dom-same d g h q.0 s m.0, doms-same ds g h q.1 s m.1)

-- Behind a new name marks stay.
pub marks-behind : (x : Text) (t : Ty) (e : Ex) (g : Names Ty) → IsNewTo x e → HasMarks e g → HasMarks e ((x, t) ∷ g)
marks-behind x t e g q m = marks-same (λ a. not (same_text x a)) e g ((x, t) ∷ g) q (λ a k. go (same_text x a) (look g a) k) m
  where
    go : (b : Bool) (o : Option Ty) → IsTrue (not b) → o ≡ (if b then Some t else o)
    go true o k = cc
    go false o k = refl
