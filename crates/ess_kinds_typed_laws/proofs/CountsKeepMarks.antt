-- Rules of multisets and partitions, and of sizes of functions, keep marks.
use Rattle.std.proofs.Common.{◌≡◌, refl, true, false, List, [], ◌∷◌}
use Rattle.ess_semantics.specs.declared.words.Fun.{Fun}
use Rattle.ess_semantics.specs.declared.words.Op1.{Op1}
use Rattle.ess_semantics.specs.declared.words.Op2.{Op2}
use Rattle.ess_semantics.specs.declared.words.ReprKind.{ReprKind}
use Rattle.ess_semantics.specs.Names.{look, Names}
use Rattle.ess_semantics.specs.Trees.{Repr, Ex, Exs, name_ex, cell_ex, Dom, word, Mark, repr, no_reprs, more_reprs, mset_dom, name_pat, comp_ex, fun1, no_exs, more_exs, function_dom, partition_dom, no_gens, over, cond, ex1, ex2, seen_ex, node_ex, set_literal}
use Rattle.ess_semantics.specs.Types.{Ty, type_of_dom, int_ty, compound1}
use Rattle.ess_semantics.specs.Typing.{source_ty, number_cell_ty}
use Rattle.ess_semantics.specs.Values.{Text, a_set}
use Rattle.ess_kind_rules_laws.specs.KindRules.{member_of_a_multiset, member_of_a_part, size_of_a_multiset, size_of_a_function, frequency_by_cells, lie_together, party_by_number, function_size}
use Rattle.ess_kind_rules_laws.specs.ViewListings.{slots_of_operand, partitioned_second}
use Rattle.ess_kind_sizes_laws.proofs.SizesHave.{mset-slots-have}
use Rattle.ess_kind_types_laws.proofs.ListingsTyped.{last-marked}
use Rattle.ess_kind_types_laws.proofs.SizesTyped.{mark-at, MarkedDom, each-marked, MarkedInt, numbers-marked, sizes-marked}
use Rattle.ess_kind_types_laws.specs.SetsTyped.{IntsIn}
use Rattle.ess_refine_laws.specs.AllRules.{Supply}
use Rattle.ess_refine_laws.specs.MarksStay.{HasMarks, HaveMarks, DomHasMarks}
use Rattle.ess_refine_types_laws.proofs.MarksBehind.{marks-behind}
use Rattle.ess_refine_types_laws.specs.MarksOfContainers.{IsNewTo}
use Rattle.ess_repr_declare_laws.specs.SizeTerms.{slots_ex, bound_ex}
use Rattle.ess_rules_laws.specs.SetListings.{put_last}
use Rattle.ess_rules_laws.specs.SlotListings.{slots_dom}
use Rattle.ess_rules_marks_laws.proofs.Grows.{Grows, as_it_is, a_node, a_comp, none_grow, more_grow, no_gens_grow, from_grows, MarksGrow, cond_grows, over_grows}
use Rattle.ess_views_laws.specs.MultisetViews.{number_at, is_there, multiset_size, multiset_frequency, multiset_member}
use Rattle.ess_views_laws.specs.PartitionViews.{is_one_of, have_number_of, are_together, numbering, partition_party, number_of_parts, is_participant}
use Rattle.ess_kinds_typed_laws.proofs.CountsKeepTypes.{numbered_alike, numbered-part-typed}
use Rattle.ess_kinds_typed_laws.proofs.KeptMarks.{count-marks}
use Rattle.ess_kinds_typed_laws.specs.KindsTyped.{KindsTyped}

module _ (g : Names Ty) where
  -- ---- pieces

  -- The index list of a view behind a new name.
  index-behind : (x : Text) (t : Ty) (r : Repr) (d : Dom) (ns : List Text) (js : Exs) → IsNewTo x (seen_ex r d ns js) →
      HasMarks (seen_ex r d ns js) g → HaveMarks js ((x, t) ∷ g)
  index-behind x t r d ns js n m = let b = marks-behind x t (seen_ex r d ns js) g n m in b.1

  -- Slots of multisets.
  pub mset-slots-marked : (ms : List Mark) (es : Exs) (d : Dom) → IntsIn g (mset_dom ms es d) → DomHasMarks (mset_dom ms es d) g →
      HasMarks (slots_ex (mset_dom ms es d)) g
  mset-slots-marked ms es d h k =
      let m : MarkedInt g (slots_ex (mset_dom ms es d)) =
      mset-slots-have (MarkedInt g) (MarkedDom g) (sizes-marked g) ms es d (each-marked g es h.0 k.0) (numbers-marked g d h.1 k.1) in
      m.marks

  module _ (x : Text) (d : Dom) where
    -- Each member of a domain with the test that it is a term.
    some-equal : (body a : Ex) → DomHasMarks d g → HasMarks a ((x, type_of_dom d) ∷ g) → Grows ((x, type_of_dom d) ∷ g) body →
        Grows g (comp_ex body (over (name_pat x) d (cond (ex2 true Op2.Eq (name_ex x) a) no_gens)))
    some-equal body a h k l =
        a_comp (over_grows h (cond_grows (a_node refl (more_grow (as_it_is tt) (more_grow (as_it_is k) none_grow))) no_gens_grow)) l

    -- The number at x, and whether it is above 0.
    number-marks : (t : Text) (js : Exs) → HaveMarks js ((x, type_of_dom d) ∷ g) → HasMarks (number_at t js x) ((x, type_of_dom d) ∷ g)
    number-marks t js h = last-marked js (name_ex x) ((x, type_of_dom d) ∷ g) h tt

    there-grows : (t : Text) (js : Exs) → HaveMarks js ((x, type_of_dom d) ∷ g) → Grows ((x, type_of_dom d) ∷ g) (is_there t js x)
    there-grows t js h = a_node refl (more_grow (as_it_is (number-marks t js h)) (more_grow (as_it_is tt) none_grow))

    one-of-grows : (a : Ex) → IsNewTo x a → DomHasMarks d g → HasMarks a g → Grows g (is_one_of x d a)
    one-of-grows a n h k =
        a_node refl (more_grow (a_comp (over_grows h no_gens_grow) (a_node refl (more_grow (as_it_is tt)
        (more_grow (as_it_is (marks-behind x (type_of_dom d) a g n k)) none_grow)))) none_grow)

  -- ---- multisets

  -- Members of multisets.
  pub in-multiset-marks : (s : Supply) (e : Ex) → KindsTyped s g member_of_a_multiset e → MarksGrow g e (multiset_member s.one e)
  in-multiset-marks s (ex2 true Op2.Member a (seen_ex (repr ReprKind.MSetOccurrence no_reprs) (mset_dom ms es d) (t ∷ []) js)) h =
      λ m. a_node refl (more_grow (some-equal s.one d (is_there t js s.one) a m.1.1.0.0.1
      (marks-behind s.one (type_of_dom d) a g h.0.0.0 m.1.0)
      (there-grows s.one d t js (index-behind s.one (type_of_dom d) (repr ReprKind.MSetOccurrence no_reprs) (mset_dom ms es d) (t ∷ []) js
      h.0.0.1.0 m.1.1.0))) none_grow)
  in-multiset-marks s _ h = tt

  -- Sizes of multisets.
  pub size-of-multiset-marks : (s : Supply) (e : Ex) → KindsTyped s g size_of_a_multiset e →
      MarksGrow g e (multiset_size s.one (slots_of_operand e) e)
  size-of-multiset-marks s (ex1 false Op1.Bar (seen_ex (repr ReprKind.MSetOccurrence no_reprs) (mset_dom ms es d) (t ∷ []) js)) h =
      λ m. a_node refl (more_grow (a_comp (over_grows m.1.0.0.1 no_gens_grow) (as_it_is (number-marks s.one d t js
      (index-behind s.one (type_of_dom d) (repr ReprKind.MSetOccurrence no_reprs) (mset_dom ms es d) (t ∷ []) js h.0.0 m.1.0)))) none_grow)
  size-of-multiset-marks s
      (ex1 false Op1.Bar (seen_ex (repr ReprKind.MSetExplicitWithRepetition (more_reprs r no_reprs)) (mset_dom ms es d) (c ∷ ns) js)) h =
      λ m. as_it_is m.1.0.1
  size-of-multiset-marks s
      (ex1 false Op1.Bar (seen_ex (repr ReprKind.MSetExplicitWithFlags (more_reprs r no_reprs)) (mset_dom ms es d) (t ∷ ns) js)) h =
      λ m. a_node refl (more_grow (a_comp (over_grows (tt, (mset-slots-marked ms es d h.2 m.1.0.0, tt)) no_gens_grow)
      (as_it_is (number-marks s.one (slots_dom (slots_ex (mset_dom ms es d))) t js (index-behind s.one int_ty
      (repr ReprKind.MSetExplicitWithFlags (more_reprs r no_reprs)) (mset_dom ms es d) (t ∷ ns) js h.0.0 m.1.0)))) none_grow)
  size-of-multiset-marks s _ h = tt

  -- Frequencies in multisets.
  pub frequency-marks : (s : Supply) (e : Ex) → KindsTyped s g frequency_by_cells e →
      MarksGrow g e (multiset_frequency s.one (slots_of_operand e) e)
  frequency-marks s (node_ex false (word Fun.Freq)
      (more_exs (seen_ex (repr ReprKind.MSetOccurrence no_reprs) (mset_dom ms es d) (t ∷ []) js) (more_exs a no_exs))) h =
      λ m. a_node refl (more_grow (some-equal s.one d (number_at t js s.one) a m.1.0.0.1
      (marks-behind s.one (type_of_dom d) a g h.0.0.1.0 m.1.1.0)
      (as_it_is (number-marks s.one d t js (index-behind s.one (type_of_dom d) (repr ReprKind.MSetOccurrence no_reprs) (mset_dom ms es d)
      (t ∷ []) js h.0.0.0 m.1.0)))) none_grow)
  frequency-marks s (node_ex false (word Fun.Freq)
      (more_exs (seen_ex (repr ReprKind.MSetExplicitWithFlags (more_reprs r no_reprs)) (mset_dom ms es d) (t ∷ ns) js)
      (more_exs a no_exs))) h =
      λ m.
      let w = slots_dom (slots_ex (mset_dom ms es d)) in
      let b = marks-behind s.one int_ty (seen_ex (repr ReprKind.MSetExplicitWithFlags (more_reprs r no_reprs)) (mset_dom ms es d) (t ∷ ns)
      js) g h.0.0.0 m.1.0 in
      a_node refl (more_grow (a_comp (over_grows (tt, (mset-slots-marked ms es d h.2 m.1.0.0, tt)) (cond_grows (there-grows s.one w t js
      b.1) (cond_grows (a_node refl (more_grow (as_it_is (marks-behind s.one int_ty a g h.0.0.1.0 m.1.1.0))
      (more_grow (as_it_is (b.0.1, last-marked js (name_ex s.one) ((s.one, int_ty) ∷ g) b.1 tt)) none_grow))) no_gens_grow)))
      (as_it_is (number-marks s.one w t js b.1))) none_grow)
  frequency-marks s _ h = tt

  -- ---- functions

  -- Sizes of total functions.
  pub size-of-function-marks : (s : Supply) (e : Ex) → KindsTyped s g size_of_a_function e → MarksGrow g e (function_size e)
  size-of-function-marks s (ex1 false Op1.Bar (seen_ex (repr ReprKind.Function1D rs) (function_dom ms es d c) ns js)) h =
      λ m. as_it_is (count-marks g d h m.1.0.0.1)
  size-of-function-marks s (ex1 false Op1.Bar (seen_ex (repr ReprKind.FunctionND rs) (function_dom ms es d c) ns js)) h =
      λ m. as_it_is (count-marks g d h m.1.0.0.1)
  size-of-function-marks s (ex1 false Op1.Bar _) h = tt
  size-of-function-marks s _ h = tt

  -- ---- partitions

  -- Participants.
  pub in-parts-marks : (s : Supply) (e : Ex) → KindsTyped s g member_of_a_part e → MarksGrow g e (is_participant s.one e)
  in-parts-marks s (ex2 true Op2.Member a
      (fun1 false Fun.Participants (seen_ex (repr ReprKind.PartitionOccurrence no_reprs) (partition_dom ms es d) ns js))) h =
      λ m. one-of-grows s.one d a h.0 m.1.1.0.1.0.0.1 m.1.0
  in-parts-marks s _ h = tt

  -- The number of parts.
  pub number-of-parts-marks : (e : Ex) → MarksGrow g e (number_of_parts e)
  number-of-parts-marks (ex1 false Op1.Bar
      (fun1 false Fun.Parts (seen_ex (repr ReprKind.PartitionOccurrence no_reprs) (partition_dom ms es d) (m ∷ w ∷ []) js))) =
      λ h. as_it_is h.1.0.1.0.1
  number-of-parts-marks _ = tt

  -- Numbers up to that of the members of a domain.
  pub upto-marks : (d : Dom) → IntsIn g d → DomHasMarks d g → DomHasMarks (slots_dom (bound_ex d)) g
  upto-marks d i h = (tt, (count-marks g d i h, tt))

  -- The members with the number of a term.
  pub numbered-part-marks : (d : Dom) (w : Text) (js ks : Exs) → number_cell_ty (look g w) ≡ int_ty → IntsIn g d → DomHasMarks d g →
      HaveMarks js g → HaveMarks ks g →
      HasMarks (node_ex false (word Fun.PreImage) (more_exs (numbering (bound_ex d) d w js) (more_exs (cell_ex false w ks) no_exs))) g
  numbered-part-marks d w js ks o i h k l = (
    mark-at g false (word Fun.PreImage) (more_exs (numbering (bound_ex d) d w js) (more_exs (cell_ex false w ks) no_exs))
        (compound1 a_set (type_of_dom d)) (numbered-part-typed g (bound_ex d) d w js ks o) refl,
    (((tt, h, upto-marks d i h), k), (l, tt)),
  )

  -- The part with a member.
  pub party-marks : (s : Supply) (e : Ex) → KindsTyped s g party_by_number e → MarksGrow g e (partition_party (partitioned_second e) e)
  party-marks s (node_ex false (word Fun.Party)
      (more_exs a (more_exs (seen_ex (repr ReprKind.PartitionOccurrence no_reprs) (partition_dom ms es d) (m ∷ w ∷ []) js) no_exs))) h =
      λ v. as_it_is (numbered-part-marks d w js (put_last js a) h.0 h.1 v.1.1.0.0.1 v.1.1.0.1 (last-marked js a g v.1.1.0.1 v.1.0))
  party-marks s _ h = tt

  -- ---- members of one part

  cells-grow : (w : Text) (js ks : Exs) → HaveMarks js g → HaveMarks ks g →
      Grows g (ex2 true Op2.Eq (cell_ex false w js) (cell_ex false w ks))
  cells-grow w js ks h k = a_node refl (more_grow (as_it_is h) (more_grow (as_it_is k) none_grow))

  have-number-grows : (w : Text) (js : Exs) (a : Ex) (bs : Exs) → HaveMarks js g → HasMarks a g → HaveMarks bs g →
      Grows g (have_number_of w js a bs)
  have-number-grows w js a no_exs h k l = as_it_is tt
  have-number-grows w js a (more_exs b no_exs) h k l =
      cells-grow w (put_last js a) (put_last js b) (last-marked js a g h k) (last-marked js b g h l.0)
  have-number-grows w js a (more_exs b (more_exs c bs)) h k l =
      a_node refl (more_grow (cells-grow w (put_last js a) (put_last js b) (last-marked js a g h k) (last-marked js b g h l.0))
      (more_grow (have-number-grows w js a (more_exs c bs) h k l.1) none_grow))

  -- The tree of `together`.
  abbrev Together : Ex → List Mark → Exs → Dom → Text → Text → Exs → Ex
  Together p ms es d m w js =
      node_ex true (word Fun.Together)
      (more_exs p (more_exs (seen_ex (repr ReprKind.PartitionOccurrence no_reprs) (partition_dom ms es d) (m ∷ w ∷ []) js) no_exs))

  any-set-grows : (s : Supply) (p : Ex) (ms : List Mark) (es : Exs) (d : Dom) (m w : Text) (js : Exs) →
      KindsTyped s g lie_together (Together p ms es d m w js) → HasMarks (Together p ms es d m w js) g →
      Grows g (numbered_alike g s.one s.other m w (bound_ex d) js p)
  any-set-grows s p ms es d m w js h v =
      let x = s.one in
      let y = s.other in
      let i : Names Ty = (x, int_ty) ∷ g in
      let q : HasMarks p i = marks-behind x int_ty p g h.0.0.0 v.1.0 in
      let u : Ty = source_ty p i in
      let t : Ex = seen_ex (repr ReprKind.PartitionOccurrence no_reprs) (partition_dom ms es d) (m ∷ w ∷ []) js in
      let b = marks-behind x int_ty t g h.0.0.1.0 v.1.1.0 in
      let c = marks-behind y u t i h.1.0.1.0 b in
      a_node refl (more_grow (a_comp (over_grows (upto-marks d h.5 v.1.1.0.0.1) (cond_grows (a_node refl (more_grow (as_it_is tt)
      (more_grow (as_it_is b.1) none_grow))) no_gens_grow))
      (a_node refl (more_grow (a_comp (from_grows (as_it_is q) no_gens_grow)
      (a_node refl (more_grow (as_it_is (last-marked js (name_ex y) ((y, u) ∷ i) c.1 tt)) (more_grow (as_it_is tt) none_grow))))
      none_grow))) none_grow)

  -- Members of one part.
  pub together-marks : (s : Supply) (e : Ex) → KindsTyped s g lie_together e →
      MarksGrow g e (are_together s.one s.other (partitioned_second e) e)
  together-marks s (node_ex true (word Fun.Together) (more_exs (node_ex false set_literal no_exs)
      (more_exs (seen_ex (repr ReprKind.PartitionOccurrence no_reprs) (partition_dom ms es d) (m ∷ w ∷ []) js) no_exs))) h =
      λ v. a_node refl (more_grow (as_it_is v.1.1.0.1) (more_grow (as_it_is tt) none_grow))
  together-marks s (node_ex true (word Fun.Together) (more_exs (node_ex false set_literal (more_exs a no_exs))
      (more_exs (seen_ex (repr ReprKind.PartitionOccurrence no_reprs) (partition_dom ms es d) (m ∷ w ∷ []) js) no_exs))) h =
      λ v. one-of-grows s.one d a h.0.0.0.0 v.1.1.0.0.1 v.1.0.1.0
  together-marks s (node_ex true (word Fun.Together) (more_exs (node_ex false set_literal (more_exs a (more_exs b bs)))
      (more_exs (seen_ex (repr ReprKind.PartitionOccurrence no_reprs) (partition_dom ms es d) (m ∷ w ∷ []) js) no_exs))) h =
      λ v. have-number-grows w js a (more_exs b bs) v.1.1.0.1 v.1.0.1.0 v.1.0.1.1
  together-marks s (node_ex true (word Fun.Together) (more_exs p
      (more_exs (seen_ex (repr ReprKind.PartitionOccurrence no_reprs) (partition_dom ms es d) (m ∷ w ∷ []) js) no_exs))) h =
      any-set-grows s p ms es d m w js h
  together-marks s _ h = tt
