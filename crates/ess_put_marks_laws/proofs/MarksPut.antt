-- With a marked term of its type for a name a tree keeps its marks.
use Rattle.std.proofs.Common.{◌≡◌, sym, ap, subst, Bool, true, false, not, if◌then◌else◌}
use Rattle.std.specs.Prelude.{IsTrue, is_some}
use Rattle.ess_semantics.specs.Lists.{and_then}
use Rattle.ess_semantics.specs.Values.{Text}
use Rattle.ess_semantics.specs.Order.{same_text}
use Rattle.ess_semantics.specs.Names.{Names}
use Rattle.ess_semantics.specs.Trees.{Pat, Pats, name_pat, tuple_pat, no_pats, more_pats, Ex, Exs, number_ex, truth_ex, name_ex, node_ex, matrix_ex, comp_ex, cell_ex, seen_ex, no_exs, more_exs, Gens, no_gens, over, from, cond, Dom, Doms, bool_dom, int_dom, name_dom, tuple_dom, record_dom, matrix_dom, set_dom, mset_dom, function_dom, relation_dom, partition_dom, no_doms, more_doms}
use Rattle.ess_semantics.specs.Types.{Ty, Tys, any_ty, no_tys, more_tys, or_any, parts_of_ty, type_of_dom, bind_types, bind_all_types}
use Rattle.ess_semantics.specs.OperatorTypes.{member_ty}
use Rattle.ess_semantics.specs.Typing.{type_of, source_ty}
use Rattle.ess_semantics.specs.NamesAt.{names_behind}
use Rattle.ess_semantics.specs.Substitution.{substitute, substitute_exs, substitute_gens, substitute_dom, substitute_doms, for_name, Binds, BindsAll, NamesAre, NamesAreExs, NamesAreGens, NamesAreDom, NamesAreDoms}
use Rattle.ess_refine_laws.specs.MarksStay.{MarkFits, HasMarks, HaveMarks, GensHaveMarks, DomHasMarks, DomsHaveMarks}
use Rattle.ess_refine_types_laws.specs.MarksOfContainers.{IsNewTo}
use Rattle.ess_refine_types_laws.proofs.MarksBehind.{fewer, marks-behind}
use Rattle.ess_rules_types_laws.specs.PutTypes.{TablesAre, AllTablesAre, GensTablesAre, DomTablesAre, DomsTablesAre, IsSteady, AreSteady, GensAreSteady, DomIsSteady, DomsAreSteady}
use Rattle.ess_rules_types_laws.proofs.PutTypes.{dom-put, Fits, fits-pattern, type-put}

module _ (y : Text) (t : Ex) (u b w : Text → Bool) (apart : (a : Text) → IsTrue (b a) → same_text y a ≡ false)
    (free : (a : Text) → IsTrue (b a) → IsNewTo a t) (tables : (a : Text) → IsTrue (w a) → (same_text y a ≡ false) × IsTrue (u a)) where
  -- Types fit, and the term has marks.
  pub record Marked (g h : Names Ty) : Type 0 where
    pub fits : Fits y t u b w apart (λ a k. fewer (λ c. not (same_text a c)) t (free a k)) tables g h
    pub marks : HasMarks t h

  mutual
    marks-past : (p : Pat) (v : Ty) (h : Names Ty) → Binds b p → HasMarks t h → HasMarks t (bind_types p v h)
    marks-past (name_pat a) v h k m = marks-behind a v t h (free a k) m
    marks-past (tuple_pat ps) v h k m = marks-past-all ps (parts_of_ty v) h k m

    marks-past-all : (ps : Pats) (ts : Tys) (h : Names Ty) → BindsAll b ps → HasMarks t h → HasMarks t (bind_all_types ps ts h)
    marks-past-all no_pats ts h k m = m
    marks-past-all (more_pats p ps) no_tys h k m = marks-past-all ps no_tys (bind_types p any_ty h) k.1 (marks-past p any_ty h k.0 m)
    marks-past-all (more_pats p ps) (more_tys v ts) h k m = marks-past-all ps ts (bind_types p v h) k.1 (marks-past p v h k.0 m)

  marked-pattern : (p : Pat) (v x : Ty) (g h : Names Ty) → v ≡ x → Binds b p → Marked g h → Marked (bind_types p v g) (bind_types p x h)
  marked-pattern p v x g h i k r = subst (λ z. Marked (bind_types p v g) (bind_types p z h)) i (record {
    fits = fits-pattern y t u b w apart (λ a j. fewer (λ c. not (same_text a c)) t (free a j)) tables p v g h k r.fits;
    marks = marks-past p v h k r.marks;
  })

  typed : (e : Ex) (g h : Names Ty) → NamesAre u b e → TablesAre w e → IsSteady e g → Marked g h →
      type_of e g ≡ type_of (substitute (for_name y t) e) h
  typed e g h q k s r =
      sym (type-put y t u b w apart (λ a j. fewer (λ c. not (same_text a c)) t (free a j)) tables e g h q k s r.fits)

  mutual
    pub marks-put : (e : Ex) (g h : Names Ty) → NamesAre u b e → TablesAre w e → IsSteady e g → Marked g h → HasMarks e g →
        HasMarks (substitute (for_name y t) e) h
    marks-put (number_ex n) g h q k s r m = tt
    marks-put (truth_ex c) g h q k s r m = tt
    marks-put (name_ex a) g h q k s r m = go (same_text y a)
      where
        go : (c : Bool) → HasMarks (if c then t else name_ex a) h
        go true = r.marks
        go false = tt
    marks-put (node_ex c op es) g h q k s r m =
        (subst (λ o. MarkFits c op o) (typed (node_ex c op es) g h q k s r) m.0, all-put es g h q k s.1 r m.1)
    marks-put (matrix_ex es d) g h q k s r m = (all-put es g h q.0 k.0 s.0 r m.0, dom-marks-put d g h q.1 k.1 s.1 r m.1)
    marks-put (comp_ex e gs) g h q k s r m =
        let i = gens-marks-put gs g h q.1 k.0 s.0 r m.0 in
        (i.0, marks-put e (names_behind gs g) (names_behind (substitute_gens (for_name y t) gs) h) q.0 k.1 s.1 i.1 m.1)
    marks-put (cell_ex c n es) g h q k s r m = all-put es g h q k.1 s r m
    marks-put (seen_ex z d ns es) g h q k s r m = (dom-marks-put d g h q.0 k.0 s.0 r m.0, all-put es g h q.1 k.1 s.1 r m.1)

    pub all-put : (es : Exs) (g h : Names Ty) → NamesAreExs u b es → AllTablesAre w es → AreSteady es g → Marked g h → HaveMarks es g →
        HaveMarks (substitute_exs (for_name y t) es) h
    all-put no_exs g h q k s r m = tt
    all-put (more_exs e es) g h q k s r m = (marks-put e g h q.0 k.0 s.0 r m.0, all-put es g h q.1 k.1 s.1 r m.1)

    pub gens-marks-put : (gs : Gens) (g h : Names Ty) → NamesAreGens u b gs → GensTablesAre w gs → GensAreSteady gs g → Marked g h →
        GensHaveMarks gs g →
        GensHaveMarks (substitute_gens (for_name y t) gs) h × Marked (names_behind gs g) (names_behind (substitute_gens
        (for_name y t) gs) h)
    gens-marks-put no_gens g h q k s r m = (tt, r)
    gens-marks-put (over p d gs) g h q k s r m =
        let i = gens-marks-put gs (bind_types p (type_of_dom d) g) (bind_types p (type_of_dom (substitute_dom
        (for_name y t) d)) h) q.2 k.1 s.1
        (marked-pattern p (type_of_dom d) (type_of_dom (substitute_dom (for_name y t) d)) g h (sym (dom-put (for_name y t) d)) q.0 r) m.1 in
        ((dom-marks-put d g h q.1 k.0 s.0 r m.0, i.0), i.1)
    gens-marks-put (from p e gs) g h q k s r m =
        let j = typed e g h q.1 k.0 s.0 r in
        let i = gens-marks-put gs (bind_types p (source_ty e g) g) (bind_types p (source_ty (substitute (for_name y t) e) h) h) q.2 k.1 s.1
        (marked-pattern p (source_ty e g) (source_ty (substitute (for_name y t) e) h) g h (ap (λ o. or_any (and_then o member_ty)) j) q.0 r)
        m.2 in
        ((subst (λ o. IsTrue (is_some (and_then o member_ty))) j m.0, marks-put e g h q.1 k.0 s.0 r m.1, i.0), i.1)
    gens-marks-put (cond e gs) g h q k s r m =
        let i = gens-marks-put gs g h q.1 k.1 s.1 r m.1 in ((marks-put e g h q.0 k.0 s.0 r m.0, i.0), i.1)

    dom-marks-put : (d : Dom) (g h : Names Ty) → NamesAreDom u b d → DomTablesAre w d → DomIsSteady d g → Marked g h → DomHasMarks d g →
        DomHasMarks (substitute_dom (for_name y t) d) h
    dom-marks-put bool_dom g h q k s r m = tt
    dom-marks-put (int_dom rs es) g h q k s r m = all-put es g h q k s r m
    dom-marks-put (name_dom a) g h q k s r m = tt
    dom-marks-put (tuple_dom ds) g h q k s r m = doms-marks-put ds g h q k s r m
    dom-marks-put (record_dom fs ds) g h q k s r m = doms-marks-put ds g h q k s r m
    dom-marks-put (matrix_dom is d) g h q k s r m = (doms-marks-put is g h q.0 k.0 s.0 r m.0, dom-marks-put d g h q.1 k.1 s.1 r m.1)
    dom-marks-put (set_dom ms es d) g h q k s r m = (all-put es g h q.0 k.0 s.0 r m.0, dom-marks-put d g h q.1 k.1 s.1 r m.1)
    dom-marks-put (mset_dom ms es d) g h q k s r m = (all-put es g h q.0 k.0 s.0 r m.0, dom-marks-put d g h q.1 k.1 s.1 r m.1)
    dom-marks-put (function_dom ms es d c) g h q k s r m =
        (all-put es g h q.0 k.0 s.0 r m.0, dom-marks-put d g h q.1 k.1 s.1 r m.1, dom-marks-put c g h q.2 k.2 s.2 r m.2)
    dom-marks-put (relation_dom ms es ds) g h q k s r m = (all-put es g h q.0 k.0 s.0 r m.0, doms-marks-put ds g h q.1 k.1 s.1 r m.1)
    dom-marks-put (partition_dom ms es d) g h q k s r m = (all-put es g h q.0 k.0 s.0 r m.0, dom-marks-put d g h q.1 k.1 s.1 r m.1)

    doms-marks-put : (ds : Doms) (g h : Names Ty) → NamesAreDoms u b ds → DomsTablesAre w ds → DomsAreSteady ds g → Marked g h →
        DomsHaveMarks ds g → DomsHaveMarks (substitute_doms (for_name y t) ds) h
    doms-marks-put no_doms g h q k s r m = tt
    doms-marks-put (more_doms d ds) g h q k s r m = (dom-marks-put d g h q.0 k.0 s.0 r m.0, doms-marks-put ds g h q.1 k.1 s.1 r m.1)
