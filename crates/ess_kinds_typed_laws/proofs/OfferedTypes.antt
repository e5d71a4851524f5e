-- What views of matrices, multisets and partitions offer has items of the type of the members, and marks.
use Rattle.std.proofs.Common.{◌≡◌, refl, ◌∙◌, Bool, true, false, List, [], ◌∷◌, Some, not}
use Rattle.ess_semantics.specs.declared.words.Fun.{Fun}
use Rattle.ess_semantics.specs.declared.words.Op2.{Op2}
use Rattle.ess_semantics.specs.declared.words.ReprKind.{ReprKind}
use Rattle.ess_semantics.specs.Lists.{and_then}
use Rattle.ess_semantics.specs.Names.{look, Names}
use Rattle.ess_semantics.specs.OperatorTypes.{type_of_op, member_ty}
use Rattle.ess_semantics.specs.Trees.{Repr, Ex, Exs, name_ex, cell_ex, Dom, word, Mark, repr, no_reprs, more_reprs, mset_dom, Doms, more_doms, name_pat, no_exs, more_exs, no_doms, matrix_dom, partition_dom, no_gens, over, cond, ex2, seen_ex}
use Rattle.ess_semantics.specs.Types.{Ty, type_of_dom, compound2, int_ty, compound1, nested_ty, bool_ty}
use Rattle.ess_semantics.specs.Typing.{type_of}
use Rattle.ess_semantics.specs.Values.{Text, a_matrix, a_set, a_function}
use Rattle.ess_kind_rules_laws.specs.ViewListings.{matrix_listing, dom_seen, slots_seen, occurrences_of, partitioned}
use Rattle.ess_kind_sizes_laws.proofs.SizesHave.{occurrences-have}
use Rattle.ess_kind_types_laws.proofs.ListingsTyped.{last-marked, ints-same, each-same, last-tables}
use Rattle.ess_kind_types_laws.proofs.SizesTyped.{mark-at, MarkedDom, each-marked, MarkedInt, sizes-marked}
use Rattle.ess_kind_types_laws.specs.SetsTyped.{AllInts}
use Rattle.ess_refine_laws.specs.AllRules.{Supply, OfSome}
use Rattle.ess_refine_laws.specs.MarksStay.{HasMarks, HaveMarks}
use Rattle.ess_refine_types_laws.proofs.MarksBehind.{marks-same}
use Rattle.ess_refine_types_laws.proofs.TypeParts.{two-to}
use Rattle.ess_repr_declare_laws.specs.SizeTerms.{slots_ex, bound_ex, occurrences_ex}
use Rattle.ess_rules_laws.proofs.Agreement.{look-itself}
use Rattle.ess_rules_laws.specs.ListedSources.{laid_out}
use Rattle.ess_rules_laws.specs.Listings.{Alternative}
use Rattle.ess_rules_laws.specs.SetListings.{put_last}
use Rattle.ess_rules_laws.specs.SlotListings.{slots_dom}
use Rattle.ess_rules_marks_laws.proofs.Grows.{Grows, as_it_is, a_node, a_comp, none_grow, more_grow, no_gens_grow, cond_grows, over_grows}
use Rattle.ess_rules_types_laws.proofs.PutTypes.{look-past}
use Rattle.ess_rules_types_laws.specs.PutTypes.{TablesAre, AllTablesAre, DomTablesAre, DomsTablesAre}
use Rattle.ess_views_laws.specs.MatrixViews.{behind_index}
use Rattle.ess_views_laws.specs.MultisetViews.{number_at, counted_members, occurrence_members, repetition_members}
use Rattle.ess_views_laws.specs.PartitionViews.{numbering, part_numbered, partition_parts}
use Rattle.ess_kinds_typed_laws.proofs.CountsKeepMarks.{mset-slots-marked, upto-marks}
use Rattle.ess_kinds_typed_laws.proofs.FreshNames.{one-kept, int-kept, Kept}
use Rattle.ess_kinds_typed_laws.proofs.OverTyped.{pair-typed, under-condition, list-typed}
use Rattle.ess_kinds_typed_laws.proofs.PartsKeepMarks.{behind-marks}
use Rattle.ess_kinds_typed_laws.proofs.PartsKeepTypes.{behind-type}
use Rattle.ess_kinds_typed_laws.proofs.SizesTabled.{count-tabled}
use Rattle.ess_kinds_typed_laws.proofs.WholeTypes.{pre-image-to}
use Rattle.ess_kinds_typed_laws.specs.FoldsTyped.{SourceTyped}

-- What is said of what t offers: its items have no new tables, and the type of the members; and it grows from marked trees.
pub record Offered (g : Names Ty) (w : Text → Bool) (t : Ex) (a : Alternative) : Type 0 where
  pub item_tables : TablesAre w a.item
  pub item_type : Ty
  pub laid : type_of (laid_out a) g ≡ Some (compound2 a_matrix int_ty item_type)
  pub is_member : and_then (type_of t g) member_ty ≡ Some item_type
  pub made : HasMarks t g → Grows g (laid_out a)

-- How often a member of a multiset is there has marks.
occurrences-marked : (h : Names Ty) (ms : List Mark) (es : Exs) → AllInts h es → HaveMarks es h → HasMarks (occurrences_ex ms es) h
occurrences-marked h ms es i k =
    let m : MarkedInt h (occurrences_ex ms es) =
    occurrences-have (MarkedInt h) (MarkedDom h) (sizes-marked h) ms es (each-marked h es i k) in m.marks

-- An item of a matrix has no other tables.
behind-tables : (w : Text → Bool) (r : Repr) (is : Doms) (d : Dom) (ns : List Text) (js : Exs) → DomsTablesAre w is → DomTablesAre w d →
    AllTablesAre w js → TablesAre w (behind_index r is d ns js)
behind-tables w r no_doms d ns js h k l = (k, l)
behind-tables w r (more_doms i is) d ns js h k l = ((h, k), l)

module _ (s : Supply) (g : Names Ty) (w : Text → Bool) where
  -- ---- what stands behind new names

  module _ (r : Repr) (d : Dom) (ns : List Text) (js : Exs) (f : SourceTyped s g (seen_ex r d ns js)) where
    -- Names that are not new keep their types.
    abbrev pub IsKept : Names Ty → Type 0
    IsKept h = Kept f.fresh g h

    -- The view's marks.
    pub view-behind : (h : Names Ty) → IsKept h → HasMarks (seen_ex r d ns js) g → HasMarks (seen_ex r d ns js) h
    view-behind h k m = marks-same (λ a. not (f.fresh a)) (seen_ex r d ns js) g h f.told k m

    -- One index more.
    pub place-behind : (h : Names Ty) → IsKept h → HasMarks (seen_ex r d ns js) g → HaveMarks (put_last js (name_ex s.one)) h
    place-behind h k m = let b = view-behind h k m in last-marked js (name_ex s.one) h b.1 tt

    -- A new name.
    pub one-name : (t : Ty) → IsKept ((s.one, t) ∷ g)
    one-name t = one-kept f.fresh s.one t g f.one

    -- And two of them.
    pub two-names : (t u : Ty) → IsKept ((s.other, u) ∷ (s.one, t) ∷ g)
    two-names t u a n = one-name t a n ∙ one-kept f.fresh s.other u ((s.one, t) ∷ g) f.other a n

  -- A number is at most a cell of ints.
  at-most-typed : (h : Names Ty) (x n : Text) (js : Exs) → look h x ≡ Some int_ty → type_of (cell_ex false n js) h ≡ Some int_ty →
      type_of (ex2 true Op2.Le (name_ex x) (cell_ex false n js)) h ≡ Some bool_ty
  at-most-typed h x n js p q = pair-typed h true Op2.Le (name_ex x) (cell_ex false n js) int_ty int_ty bool_ty p q refl

  at-most-grows : (h : Names Ty) (x n : Text) (js : Exs) → HaveMarks js h → Grows h (ex2 true Op2.Le (name_ex x) (cell_ex false n js))
  at-most-grows h x n js k = a_node refl (more_grow (as_it_is tt) (more_grow (as_it_is k) none_grow))

  -- ---- matrices

  -- Items of matrices.
  pub matrix-offered : (v : Ex) → SourceTyped s g v → TablesAre w v → OfSome (matrix_listing s.one v) (Offered g w v)
  matrix-offered (seen_ex (repr ReprKind.Matrix (more_reprs r no_reprs)) (matrix_dom (more_doms i is) d) ns js) f b =
      let x = s.one in
      let h : Names Ty = (x, type_of_dom i) ∷ g in
      let k = one-name (repr ReprKind.Matrix (more_reprs r no_reprs)) (matrix_dom (more_doms i is) d) ns js f (type_of_dom i) in
      let t : Ex = behind_index r is d ns (put_last js (name_ex x)) in
      record {
        item_tables = behind-tables w r is d ns (put_last js (name_ex x)) b.0.0.1 b.0.1 (last-tables w js (name_ex x) b.1 tt);
        item_type = nested_ty is (type_of_dom d);
        laid = list-typed g t (over (name_pat x) i no_gens) h (nested_ty is (type_of_dom d)) refl
            (behind-type h r is d ns (put_last js (name_ex x)));
        is_member = refl;
        made = λ m.
            let n = view-behind (repr ReprKind.Matrix (more_reprs r no_reprs)) (matrix_dom (more_doms i is) d) ns js f h k m in
            a_comp (over_grows m.0.0.0 no_gens_grow) (as_it_is (behind-marks h r is d ns (put_last js (name_ex x)) n.0.0.1 n.0.1
            (last-marked js (name_ex x) h n.1 tt)));
      }
  matrix-offered _ f b = tt

  -- ---- multisets

  -- Members as often as they are there.
  pub occurrences-offered : (v : Ex) → SourceTyped s g v → TablesAre w v →
      OfSome (occurrence_members s.one s.other (occurrences_of (dom_seen v)) v) (Offered g w v)
  occurrences-offered (seen_ex (repr ReprKind.MSetOccurrence no_reprs) (mset_dom ms es d) (t ∷ []) js) f b =
      let x = s.one in
      let y = s.other in
      let q : Repr = repr ReprKind.MSetOccurrence no_reprs in
      let c : Dom = mset_dom ms es d in
      let i : Names Ty = (x, type_of_dom d) ∷ g in
      let h : Names Ty = (y, int_ty) ∷ i in
      let j = one-name q c (t ∷ []) js f (type_of_dom d) in
      let k = two-names q c (t ∷ []) js f (type_of_dom d) int_ty in
      let z : Ex = ex2 true Op2.Le (name_ex y) (number_at t js x) in
      record {
        item_tables = tt;
        item_type = type_of_dom d;
        laid = list-typed g (name_ex x) (over (name_pat x) d (over (name_pat y) (slots_dom (occurrences_ex ms es)) (cond z no_gens))) h
            (type_of_dom d) (under-condition h h z no_gens (at-most-typed h y t (put_last js (name_ex x)) (look-itself y int_ty i)
            (int-kept f.fresh g h t [] (put_last js (name_ex x)) k f.tables_told f.numbers)) refl)
            (look-past y x int_ty i f.differ ∙ look-itself x (type_of_dom d) g);
        is_member = refl;
        made = λ m.
            let n = view-behind q c (t ∷ []) js f i j m in
            a_comp (over_grows m.0.1 (over_grows (
              tt,
              (
                occurrences-marked i ms es (each-same (λ a. not (f.fresh a)) g i j es f.told.0.0
                    f.ints.0) n.0.0,
                tt,
              ),
            ) (cond_grows (at-most-grows h y t (put_last js (name_ex x)) (place-behind q c (t ∷ []) js f h k m))
            no_gens_grow))) (as_it_is tt);
      }
  occurrences-offered _ f b = tt

  -- Members up to the marker.
  pub repetitions-offered : (v : Ex) → SourceTyped s g v → TablesAre w v →
      OfSome (repetition_members s.one (slots_seen v) v) (Offered g w v)
  repetitions-offered (seen_ex (repr ReprKind.MSetExplicitWithRepetition (more_reprs r no_reprs)) (mset_dom ms es d) (t ∷ ns) js) f b =
      let x = s.one in
      let q : Repr = repr ReprKind.MSetExplicitWithRepetition (more_reprs r no_reprs) in
      let c : Dom = mset_dom ms es d in
      let h : Names Ty = (x, int_ty) ∷ g in
      let k = one-name q c (t ∷ ns) js f int_ty in
      let z : Ex = ex2 true Op2.Le (name_ex x) (cell_ex false t js) in
      record {
        item_tables = (b.0.1, last-tables w js (name_ex x) b.1 tt);
        item_type = type_of_dom d;
        laid = list-typed g (seen_ex r d ns (put_last js (name_ex x))) (over (name_pat x) (slots_dom (slots_ex c)) (cond z no_gens)) h
            (type_of_dom d) (under-condition h h z no_gens (at-most-typed h x t js (look-itself x int_ty g)
            (int-kept f.fresh g h t ns js k f.tables_told f.numbers)) refl) refl;
        is_member = refl;
        made = λ m.
            let n = view-behind q c (t ∷ ns) js f h k m in
            a_comp (over_grows (tt, (mset-slots-marked g ms es d f.ints m.0, tt)) (cond_grows (at-most-grows h x t js n.1) no_gens_grow))
            (as_it_is (n.0.1, place-behind q c (t ∷ ns) js f h k m));
      }
  repetitions-offered _ f b = tt

  -- Members of slots as often as they are there.
  pub counted-offered : (v : Ex) → SourceTyped s g v → TablesAre w v →
      OfSome (counted_members s.one s.other (slots_seen v) (occurrences_of (dom_seen v)) v) (Offered g w v)
  counted-offered (seen_ex (repr ReprKind.MSetExplicitWithFlags (more_reprs r no_reprs)) (mset_dom ms es d) (t ∷ ns) js) f b =
      let x = s.one in
      let y = s.other in
      let q : Repr = repr ReprKind.MSetExplicitWithFlags (more_reprs r no_reprs) in
      let c : Dom = mset_dom ms es d in
      let i : Names Ty = (x, int_ty) ∷ g in
      let h : Names Ty = (y, int_ty) ∷ i in
      let j = one-name q c (t ∷ ns) js f int_ty in
      let k = two-names q c (t ∷ ns) js f int_ty int_ty in
      let z : Ex = ex2 true Op2.Le (name_ex y) (number_at t js x) in
      record {
        item_tables = (b.0.1, last-tables w js (name_ex x) b.1 tt);
        item_type = type_of_dom d;
        laid = list-typed g (seen_ex r d ns (put_last js (name_ex x))) (over (name_pat x) (slots_dom (slots_ex c)) (over (name_pat y)
            (slots_dom (occurrences_ex ms es)) (cond z no_gens))) h (type_of_dom d) (under-condition h h z no_gens
            (at-most-typed h y t (put_last js (name_ex x)) (look-itself y int_ty i)
            (int-kept f.fresh g h t ns (put_last js (name_ex x)) k f.tables_told f.numbers)) refl) refl;
        is_member = refl;
        made = λ m.
            let n = view-behind q c (t ∷ ns) js f i j m in
            let o = view-behind q c (t ∷ ns) js f h k m in
            a_comp (over_grows (tt, (mset-slots-marked g ms es d f.ints m.0, tt)) (over_grows (
              tt,
              (
                occurrences-marked i ms es
                    (each-same (λ a. not (f.fresh a)) g i j es f.told.0.0 f.ints.0) n.0.0,
                tt,
              ),
            )
            (cond_grows (at-most-grows h y t (put_last js (name_ex x)) (place-behind q c (t ∷ ns) js f h k m)) no_gens_grow)))
            (as_it_is (o.0.1, place-behind q c (t ∷ ns) js f h k m));
      }
  counted-offered _ f b = tt

  -- ---- partitions

  -- The members with the number x, behind x.
  numbered-x-typed : (n : Ex) (d : Dom) (c : Text) (js : Exs) (x : Text) →
      type_of (part_numbered n d c js x) ((x, int_ty) ∷ g) ≡ Some (compound1 a_set (type_of_dom d))
  numbered-x-typed n d c js x =
      two-to (Some (compound2 a_function (type_of_dom d) int_ty)) (look ((x, int_ty) ∷ g) x) (type_of_op (word Fun.PreImage))
      (compound2 a_function (type_of_dom d) int_ty) int_ty (compound1 a_set (type_of_dom d)) refl (look-itself x int_ty g)
      (pre-image-to (type_of_dom d))

  -- Parts.
  pub parts-offered : (v : Ex) → SourceTyped s g v → TablesAre w v →
      OfSome (partition_parts s.one (partitioned (dom_seen v)) v) (Offered g w v)
  parts-offered (seen_ex (repr ReprKind.PartitionOccurrence no_reprs) (partition_dom ms es d) (t ∷ c ∷ []) js) f b =
      let x = s.one in
      let q : Repr = repr ReprKind.PartitionOccurrence no_reprs in
      let p : Dom = partition_dom ms es d in
      let h : Names Ty = (x, int_ty) ∷ g in
      let k = one-name q p (t ∷ c ∷ []) js f int_ty in
      let z : Ex = ex2 true Op2.Le (name_ex x) (cell_ex false t js) in
      let n : Ex = bound_ex d in
      let l : TablesAre w n = count-tabled w d b.0.1 in
      record {
        item_tables = (((tt, b.0.1, (tt, (l, tt))), b.1), (tt, tt));
        item_type = compound1 a_set (type_of_dom d);
        laid = list-typed g (part_numbered n d c js x) (over (name_pat x) (slots_dom n) (cond z no_gens)) h
            (compound1 a_set (type_of_dom d))
            (under-condition h h z no_gens (at-most-typed h x t js (look-itself x int_ty g)
            (int-kept f.fresh g h t (c ∷ []) js k f.tables_told f.numbers)) refl) (numbered-x-typed n d c js x);
        is_member = refl;
        made = λ m.
            let o = view-behind q p (t ∷ c ∷ []) js f h k m in
            a_comp (over_grows (upto-marks g d f.ints.1 m.0.1) (cond_grows (at-most-grows h x t js o.1) no_gens_grow))
            (as_it_is (
              mark-at h false (word Fun.PreImage) (more_exs (numbering n d c js) (more_exs (name_ex x) no_exs))
                  (compound1 a_set (type_of_dom d)) (numbered-x-typed n d c js x) refl,
              (((tt, o.0.1, upto-marks h d (ints-same (λ a. not (f.fresh a)) g h k d f.told.0.1 f.ints.1) o.0.1), o.1), (tt, tt)),
            ));
      }
  parts-offered _ f b = tt
