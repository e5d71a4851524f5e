-- Guarded, no node of a covered tree lacks its mark, nor of its conditions, where none does in the tree.
use Rattle.std.proofs.Common.{◌≡◌, refl, sym, ap, ◌∙◌, subst, Bool, true, false, ◌&&◌, ◌||◌, not, if◌then◌else◌, List, ◌++◌}
use Rattle.ess_semantics.specs.Lists.{and_then}
use Rattle.ess_semantics.specs.Values.{Text}
use Rattle.ess_semantics.specs.Names.{Names}
use Rattle.ess_semantics.specs.Trees.{Op, is_truth_op, Ex, Exs, number_ex, truth_ex, name_ex, node_ex, matrix_ex, comp_ex, cell_ex, seen_ex, no_exs, more_exs, Gens, no_gens, over, from, cond, Dom, Doms, bool_dom, int_dom, name_dom, tuple_dom, record_dom, matrix_dom, set_dom, mset_dom, function_dom, relation_dom, partition_dom, no_doms, more_doms}
use Rattle.ess_semantics.specs.Types.{Ty, is_bool, or_any, type_of_dom, bind_types}
use Rattle.ess_semantics.specs.OperatorTypes.{member_ty}
use Rattle.ess_semantics.specs.Typing.{type_of, source_ty}
use Rattle.ess_semantics.specs.NamesAt.{names_behind}
use Rattle.ess_guard_laws.specs.Origins.{Origin, with_any, with_over, known_behind}
use Rattle.ess_guard_laws.specs.Conditions.{chained, matrix_conditions, own}
use Rattle.ess_guard_laws.specs.Guard.{is_plain, connects, own_at, opens, passes, guarded, guarded_all, guarded_gens, guarded_dom, guarded_doms, conditions, conditions_all, conditions_gens, conditions_dom, conditions_doms}
use Rattle.ess_guard_laws.specs.Covered.{covers, Covered, CoveredAll, CoveredGens, CoveredDom, CoveredDoms}
use Rattle.ess_guard_laws.proofs.CoveredKept.{covers-kept}
use Rattle.ess_guard_types_laws.specs.HasTypes.{HasTypes, HaveTypes, GensHaveTypes, AreNumbers, DomHasTypes, DomsHaveTypes}
use Rattle.ess_guard_marks_laws.proofs.FullMarks.{Full, AllFull, GensFull, DomFull, DomsFull, FullConds}
use Rattle.ess_guard_marks_laws.proofs.TypedPlaces as P
use Rattle.ess_guard_marks_laws.proofs.TypedPlaces.{Place, place-over, place-from}
use Rattle.ess_guard_marks_laws.proofs.FullConditions.{full-append, full-if, chained-full, over-full, from-full, given-full, matrix-full}
use Rattle.ess_guard_marks_laws.proofs.FullIndices.{own-full}

module _ (natural : Bool) (x y : Text) (law : P.TypesLaw natural x y) where
  abbrev G : Names Origin → Ex → Ex
  G = guarded natural x y

  abbrev Gs : Names Origin → Exs → Exs
  Gs = guarded_all natural x y

  abbrev D : Names Origin → Dom → Dom
  D = guarded_dom natural x y

  abbrev C : Names Origin → Bool → Ex → List Ex
  C = conditions natural x y

  abbrev Cs : Names Origin → Bool → Exs → List Ex
  Cs = conditions_all natural x y

  -- ---- what is told of parts

  -- No node of the guarded tree lacks its mark, nor of its conditions.
  abbrev Both : Names Origin → Ex → Names Ty → Type 0
  Both k e g = Full (G k e) g × ((w : Bool) → FullConds (C k w e) g)

  -- The same of operands.
  abbrev BothAll : Names Origin → Exs → Names Ty → Type 0
  BothAll k es g = AllFull (Gs k es) g × ((w : Bool) → FullConds (Cs k w es) g)

  -- The same of generators, behind which names have the types that they had.
  abbrev BothGens : Names Origin → Gens → Names Ty → Type 0
  BothGens k gs g = GensFull (guarded_gens natural x y k gs) g × (names_behind (guarded_gens natural x y k gs) g ≡ names_behind gs g)
      × ((ds : List Ex) → FullConds ds (names_behind gs g) → FullConds (conditions_gens natural x y k gs ds) g)

  -- The same of a domain.
  abbrev BothDom : Names Origin → Dom → Names Ty → Type 0
  BothDom k d g = DomFull (D k d) g × FullConds (conditions_dom natural x y k d) g

  -- The same of several domains.
  abbrev BothDoms : Names Origin → Doms → Names Ty → Type 0
  BothDoms k ds g = DomsFull (guarded_doms natural x y k ds) g × FullConds (conditions_doms natural x y k ds) g

  -- ---- nodes

  node-asked : (k : Names Origin) (op : Op) (es : Exs) (g : Names Ty) → covers op es ≡ true → BothAll k es g → (v w : Bool) →
      FullConds (Cs k v es ++ own_at natural x y k w op (Gs k es)) g
  node-asked k op es g c b v w = full-append (Cs k v es) (own_at natural x y k w op (Gs k es)) g (b.1 v)
      (full-if (w && is_plain op) (own k x y op (Gs k es)) g
      (own-full k x y op (Gs k es) g (covers-kept natural x y op es k c) b.0))

  choose-full : (t : Bool) (cs : List Ex) (n : Ex) (g : Names Ty) → FullConds cs g → Full n g → Full (if t then chained cs n else n) g
  choose-full true cs n g p f = chained-full cs n g p f
  choose-full false cs n g p f = f

  truth-node : (k : Names Origin) (op : Op) (es : Exs) (g : Names Ty) → covers op es ≡ true → BothAll k es g → Both k (node_ex true op es) g
  truth-node k op es g c b = (
    choose-full (not (connects op)) _ (node_ex true op (Gs k es)) g
        (node-asked k op es g c b (opens natural x y op) false) (tt, b.0),
    λ w. tt,
  )

  term-node : (k : Names Origin) (op : Op) (es : Exs) (g : Names Ty) → Place k g → covers op es ≡ true → HasTypes (node_ex false op es) g →
      (is_truth_op op || is_bool (type_of (node_ex false op es) g)) ≡ false → BothAll k es g → Both k (node_ex false op es) g
  term-node k op es g l c h f b =
      let s : type_of (node_ex false op (Gs k es)) g ≡ type_of (node_ex false op es) g =
      P.place-same natural x y law k g (node_ex false op es) l h in (
        (ap (λ o. is_truth_op op || is_bool o) s ∙ f, b.0),
        λ w. full-if (connects op) (Cs k (passes natural x y w op) es ++ own_at natural x y k w op (Gs k es)) g
            (node-asked k op es g c b (passes natural x y w op) w),
      )

  -- The type of what a generator takes stays.
  source-same : (k : Names Origin) (e : Ex) (g : Names Ty) → Place k g → HasTypes e g → source_ty (G k e) g ≡ source_ty e g
  source-same k e g l h = ap (λ o. or_any (and_then o member_ty)) (P.place-same natural x y law k g e l h)

  two-doms : (k : Names Origin) (d c : Dom) (g : Names Ty) → BothDom k d g → BothDom k c g →
      (DomFull (D k d) g × DomFull (D k c) g) × FullConds (conditions_dom natural x y k d ++ conditions_dom natural x y k c) g
  two-doms k d c g p q =
      ((p.0, q.0), full-append (conditions_dom natural x y k d) (conditions_dom natural x y k c) g p.1 q.1)

  numbered : (k : Names Origin) (es : Exs) (d : Dom) (g : Names Ty) → BothAll k es g → BothDom k d g →
      (AllFull (Gs k es) g × DomFull (D k d) g) × FullConds (Cs k false es ++ conditions_dom natural x y k d) g
  numbered k es d g p q = ((p.0, q.0), full-append (Cs k false es) (conditions_dom natural x y k d) g (p.1 false) q.1)

  -- The place behind generators.
  behind : (gs : Gens) (k : Names Origin) (g : Names Ty) → Place k g → GensHaveTypes gs g → Place (known_behind gs k) (names_behind gs g)
  behind no_gens k g l h = l
  behind (over p d gs) k g l h = behind gs (with_over p d k) (bind_types p (type_of_dom d) g) (place-over p d k g l h.0) h.1
  behind (from p e gs) k g l h =
      behind gs (with_any p k) (bind_types p (source_ty e g) g) (place-from p e k g l h.0 h.1) h.2
  behind (cond c gs) k g l h = behind gs k g l h.2

  -- ---- whole trees

  mutual
    -- No node lacks its mark.
    pub both : (e : Ex) (k : Names Origin) (g : Names Ty) → Place k g → HasTypes e g → Full e g → Covered e → Both k e g
    both (number_ex n) k g l h f v = (tt, λ w. tt)
    both (truth_ex b) k g l h f v = (tt, λ w. tt)
    both (name_ex a) k g l h f v = (tt, λ w. tt)
    both (node_ex true op es) k g l h f v = truth-node k op es g v.0 (both-all es k g l h.2 f.1 v.2)
    both (node_ex false op es) k g l h f v = term-node k op es g l v.0 h f.0 (both-all es k g l h.2 f.1 v.2)
    both (matrix_ex es d) k g l h f v =
        let a : BothAll k es g = both-all es k g l h.1 f.0 v.0 in
        let b : BothDom k d g = both-dom d k g l h.2 f.1 v.1 in (
          (a.0, b.0),
          λ w. full-append (Cs k false es) _ g (a.1 false)
              (full-append (conditions_dom natural x y k d) (matrix_conditions x es (D k d)) g b.1 (matrix-full x es (D k d) g b.0)),
        )
    both (comp_ex e gs) k g l h f v =
        let a : BothGens k gs g = both-gens gs k g l h.0 f.0 v.1 in
        let b : Both (known_behind gs k) e (names_behind gs g) =
        both e (known_behind gs k) (names_behind gs g) (behind gs k g l h.0) h.1 f.1 v.0 in (
          (a.0, subst (λ z. Full (G (known_behind gs k) e) z) (sym a.1) b.0),
          λ w. a.2 (C (known_behind gs k) false e) (b.1 false),
        )
    both (cell_ex true n es) k g l h f v =
        let a : BothAll k es g = both-all es k g l h f v in
        (chained-full (Cs k false es) (cell_ex true n (Gs k es)) g (a.1 false) a.0, λ w. tt)
    both (cell_ex false n es) k g l h f v = let a : BothAll k es g = both-all es k g l h f v in (a.0, λ w. a.1 false)
    both (seen_ex r d ns es) k g l h f v = (f, λ w. tt)

    -- The same of operands.
    both-all : (es : Exs) (k : Names Origin) (g : Names Ty) → Place k g → HaveTypes es g → AllFull es g → CoveredAll es → BothAll k es g
    both-all no_exs k g l h f v = (tt, λ w. tt)
    both-all (more_exs e es) k g l h f v =
        let a : Both k e g = both e k g l h.0 f.0 v.0 in
        let b : BothAll k es g = both-all es k g l h.1 f.1 v.1 in
        ((a.0, b.0), λ w. full-append (C k w e) (Cs k w es) g (a.1 w) (b.1 w))

    -- The same of numbers.
    both-numbers : (es : Exs) (k : Names Origin) (g : Names Ty) → Place k g → AreNumbers es g → AllFull es g → CoveredAll es →
        BothAll k es g
    both-numbers no_exs k g l h f v = (tt, λ w. tt)
    both-numbers (more_exs e es) k g l h f v =
        let a : Both k e g = both e k g l h.1 f.0 v.0 in
        let b : BothAll k es g = both-numbers es k g l h.2 f.1 v.1 in
        ((a.0, b.0), λ w. full-append (C k w e) (Cs k w es) g (a.1 w) (b.1 w))

    -- The same of generators.
    both-gens : (gs : Gens) (k : Names Origin) (g : Names Ty) → Place k g → GensHaveTypes gs g → GensFull gs g → CoveredGens gs →
        BothGens k gs g
    both-gens no_gens k g l h f v = (tt, refl, λ ds c. c)
    both-gens (over p d gs) k g l h f v =
        let a : BothDom k d g = both-dom d k g l h.0 f.0 v.0 in
        let b : BothGens (with_over p d k) gs (bind_types p (type_of_dom d) g) =
        both-gens gs (with_over p d k) (bind_types p (type_of_dom d) g) (place-over p d k g l h.0) h.1 f.1 v.1 in
        let q : bind_types p (type_of_dom (D k d)) g ≡ bind_types p (type_of_dom d) g =
        ap (λ t. bind_types p t g) (P.dom-type natural x y d k) in (
          (a.0, subst (λ z. GensFull (guarded_gens natural x y (with_over p d k) gs) z) (sym q) b.0),
          ap (names_behind (guarded_gens natural x y (with_over p d k) gs)) q ∙ b.1,
          λ ds c. full-append (conditions_dom natural x y k d) _ g a.1
              (over-full p (D k d) (conditions_gens natural x y (with_over p d k) gs ds) g a.0
              (subst (λ z. FullConds (conditions_gens natural x y (with_over p d k) gs ds) z) (sym q) (b.2 ds c))),
        )
    both-gens (from p e gs) k g l h f v =
        let a : Both k e g = both e k g l h.1 f.0 v.0 in
        let b : BothGens (with_any p k) gs (bind_types p (source_ty e g) g) =
        both-gens gs (with_any p k) (bind_types p (source_ty e g) g) (place-from p e k g l h.0 h.1) h.2 f.1 v.1 in
        let q : bind_types p (source_ty (G k e) g) g ≡ bind_types p (source_ty e g) g =
        ap (λ t. bind_types p t g) (source-same k e g l h.1) in (
          (a.0, subst (λ z. GensFull (guarded_gens natural x y (with_any p k) gs) z) (sym q) b.0),
          ap (names_behind (guarded_gens natural x y (with_any p k) gs)) q ∙ b.1,
          λ ds c. full-append (C k false e) _ g (a.1 false)
              (from-full p (G k e) (conditions_gens natural x y (with_any p k) gs ds) g a.0
              (subst (λ z. FullConds (conditions_gens natural x y (with_any p k) gs ds) z) (sym q) (b.2 ds c))),
        )
    both-gens (cond c gs) k g l h f v =
        let a : Both k c g = both c k g l h.1 f.0 v.1 in
        let b : BothGens k gs g = both-gens gs k g l h.2 f.1 v.2 in
        ((a.0, b.0), b.1, λ ds q. given-full (G k c) (conditions_gens natural x y k gs ds) g a.0 (b.2 ds q))

    -- The same of a domain.
    both-dom : (d : Dom) (k : Names Origin) (g : Names Ty) → Place k g → DomHasTypes d g → DomFull d g → CoveredDom d → BothDom k d g
    both-dom bool_dom k g l h f v = (tt, tt)
    both-dom (int_dom rs es) k g l h f v = let a : BothAll k es g = both-numbers es k g l h f v in (a.0, a.1 false)
    both-dom (name_dom a) k g l h f v = (tt, tt)
    both-dom (tuple_dom ds) k g l h f v = both-doms ds k g l h f v
    both-dom (record_dom fs ds) k g l h f v = both-doms ds k g l h f v
    both-dom (matrix_dom is d) k g l h f v =
        let a : BothDoms k is g = both-doms is k g l h.0 f.0 v.0 in
        let b : BothDom k d g = both-dom d k g l h.1 f.1 v.1 in
        ((a.0, b.0), full-append (conditions_doms natural x y k is) (conditions_dom natural x y k d) g a.1 b.1)
    both-dom (set_dom ms es d) k g l h f v = numbered k es d g (both-numbers es k g l h.0 f.0 v.0) (both-dom d k g l h.1 f.1 v.1)
    both-dom (mset_dom ms es d) k g l h f v = numbered k es d g (both-numbers es k g l h.0 f.0 v.0) (both-dom d k g l h.1 f.1 v.1)
    both-dom (function_dom ms es d c) k g l h f v =
        let a : BothAll k es g = both-numbers es k g l h.0 f.0 v.0 in
        let b = two-doms k d c g (both-dom d k g l h.1 f.1 v.1) (both-dom c k g l h.2 f.2 v.2) in
        ((a.0, b.0.0, b.0.1), full-append (Cs k false es) _ g (a.1 false) b.1)
    both-dom (relation_dom ms es ds) k g l h f v =
        let a : BothAll k es g = both-numbers es k g l h.0 f.0 v.0 in
        let b : BothDoms k ds g = both-doms ds k g l h.1 f.1 v.1 in
        ((a.0, b.0), full-append (Cs k false es) (conditions_doms natural x y k ds) g (a.1 false) b.1)
    both-dom (partition_dom ms es d) k g l h f v = numbered k es d g (both-numbers es k g l h.0 f.0 v.0) (both-dom d k g l h.1 f.1 v.1)

    -- The same of several domains.
    both-doms : (ds : Doms) (k : Names Origin) (g : Names Ty) → Place k g → DomsHaveTypes ds g → DomsFull ds g → CoveredDoms ds →
        BothDoms k ds g
    both-doms no_doms k g l h f v = (tt, tt)
    both-doms (more_doms d ds) k g l h f v =
        let a : BothDom k d g = both-dom d k g l h.0 f.0 v.0 in
        let b : BothDoms k ds g = both-doms ds k g l h.1 f.1 v.1 in
        ((a.0, b.0), full-append (conditions_dom natural x y k d) (conditions_doms natural x y k ds) g a.1 b.1)
