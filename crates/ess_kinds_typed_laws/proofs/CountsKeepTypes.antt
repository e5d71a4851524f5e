-- Rules of multisets and partitions, and of sizes of functions, keep types.
use Rattle.std.proofs.Common.{◌≡◌, refl, sym, ap, ◌∙◌, subst, true, false, List, [], ◌∷◌, pos, Some, not}
use Rattle.ess_semantics.specs.declared.words.Fun.{Fun}
use Rattle.ess_semantics.specs.declared.words.Op1.{Op1}
use Rattle.ess_semantics.specs.declared.words.Op2.{Op2}
use Rattle.ess_semantics.specs.declared.words.ReprKind.{ReprKind}
use Rattle.ess_semantics.specs.Lists.{and_then}
use Rattle.ess_semantics.specs.Names.{look, Names}
use Rattle.ess_semantics.specs.OperatorTypes.{type_of_op, member_ty}
use Rattle.ess_semantics.specs.Order.{same_text}
use Rattle.ess_semantics.specs.Trees.{Ex, Exs, name_ex, cell_ex, Dom, word, Mark, repr, no_reprs, more_reprs, number_ex, mset_dom, name_pat, comp_ex, fun1, no_exs, more_exs, function_dom, partition_dom, Gens, no_gens, over, cond, ex1, ex2, seen_ex, node_ex, from, set_literal}
use Rattle.ess_semantics.specs.Types.{Ty, type_of_dom, compound2, int_ty, compound1, join, any_ty, bool_ty}
use Rattle.ess_semantics.specs.Typing.{type_of, types_under, number_cell_ty}
use Rattle.ess_semantics.specs.Values.{Text, a_set, a_mset, a_function}
use Rattle.ess_guard_types_laws.proofs.JoinedTypes.{itself, Agree, turned}
use Rattle.ess_kind_rules_laws.specs.KindRules.{member_of_a_multiset, member_of_a_part, size_of_a_multiset, size_of_a_function, size_of_the_parts, frequency_by_cells, lie_together, party_by_number, function_size}
use Rattle.ess_kind_rules_laws.specs.ViewListings.{slots_of_operand, partitioned_second}
use Rattle.ess_kind_types_laws.proofs.SizesTyped.{slots-int}
use Rattle.ess_refine_laws.specs.AllRules.{Supply}
use Rattle.ess_refine_laws.specs.TypesStay.{KeepsType}
use Rattle.ess_refine_types_laws.proofs.MarksBehind.{fewer}
use Rattle.ess_refine_types_laws.proofs.TypeNames.{type-behind}
use Rattle.ess_refine_types_laws.proofs.TypeParts.{two-to, given-to, TypeKept}
use Rattle.ess_refine_types_laws.specs.MarksOfContainers.{IsNewTo}
use Rattle.ess_repr_declare_laws.specs.SizeTerms.{slots_ex, bound_ex}
use Rattle.ess_rules_laws.proofs.Agreement.{look-itself}
use Rattle.ess_rules_laws.specs.SetListings.{put_last}
use Rattle.ess_rules_laws.specs.SlotListings.{slots_dom}
use Rattle.ess_rules_types_laws.proofs.PutTypes.{look-past}
use Rattle.ess_views_laws.specs.MultisetViews.{number_at, is_there, multiset_size, multiset_frequency, multiset_member}
use Rattle.ess_views_laws.specs.PartitionViews.{is_one_of, have_number_of, are_together, numbering, partition_party, number_of_parts, is_participant}
use Rattle.ess_kinds_typed_laws.proofs.OverTyped.{every-typed, second-past, pair-typed, some-typed, under-condition, sum-typed, cell-typed, first-past, still-int}
use Rattle.ess_kinds_typed_laws.proofs.PlacesTyped.{member-is}
use Rattle.ess_kinds_typed_laws.proofs.WholeTypes.{together-is, one-literal, one-member, party-is, set-members, freq-is, pre-image-to}
use Rattle.ess_kinds_typed_laws.specs.KindsTyped.{KindsTyped}

module _ (g : Names Ty) where
  -- ---- pieces

  module _ (x : Text) (d : Dom) where
    -- The names behind x over the domain.
    abbrev pub Over : Names Ty
    Over = (x, type_of_dom d) ∷ g

    -- The test that x is a term, where the term agrees with the members of the domain.
    pub equal-typed : (a : Ex) (t : Ty) → IsNewTo x a → type_of a g ≡ Some t → Agree t (type_of_dom d) →
        type_of (ex2 true Op2.Eq (name_ex x) a) Over ≡ Some bool_ty
    equal-typed a t n p h =
        pair-typed Over true Op2.Eq (name_ex x) a (type_of_dom d) t bool_ty (look-itself x (type_of_dom d) g)
        (type-behind x (type_of_dom d) a g (fewer (λ c. not (same_text x c)) a n) ∙ p)
        (given-to (join (type_of_dom d) t) bool_ty (turned t (type_of_dom d) h))

    -- That a member of the domain is a term.
    pub one-of-typed : (a : Ex) (t : Ty) → IsNewTo x a → type_of a g ≡ Some t → Agree t (type_of_dom d) →
        type_of (is_one_of x d a) g ≡ Some bool_ty
    one-of-typed a t n p h =
        some-typed g (ex2 true Op2.Eq (name_ex x) a) (over (name_pat x) d no_gens) Over refl (equal-typed a t n p h)

    module _ (t : Text) (js : Exs) (past : same_text x t ≡ false) (ints : number_cell_ty (look g t) ≡ int_ty) where
      -- The number at x is an int.
      pub number-typed : type_of (number_at t js x) Over ≡ Some int_ty
      number-typed = cell-typed g x t (type_of_dom d) (put_last js (name_ex x)) past ints

      -- Whether it is above 0.
      pub there-typed : type_of (is_there t js x) Over ≡ Some bool_ty
      there-typed = pair-typed Over true Op2.Gt (number_at t js x) (number_ex (pos 0)) int_ty int_ty bool_ty number-typed refl refl

      -- Sums of such numbers.
      pub numbers-typed : type_of (fun1 false Fun.Sum (comp_ex (number_at t js x) (over (name_pat x) d no_gens))) g ≡ Some int_ty
      numbers-typed = sum-typed g (number_at t js x) (over (name_pat x) d no_gens) Over refl number-typed

      -- And of those under conditions.
      pub some-numbers-typed : (gs : Gens) → types_under gs Over ≡ Some Over →
          type_of (fun1 false Fun.Sum (comp_ex (number_at t js x) (over (name_pat x) d gs))) g ≡ Some int_ty
      some-numbers-typed gs q = sum-typed g (number_at t js x) (over (name_pat x) d gs) Over q number-typed

  -- ---- multisets

  -- Members of multisets.
  pub in-multiset-type : (s : Supply) (e : Ex) → KindsTyped s g member_of_a_multiset e → TypeKept g e (multiset_member s.one e)
  in-multiset-type s (ex2 true Op2.Member a (seen_ex (repr ReprKind.MSetOccurrence no_reprs) (mset_dom ms es d) (t ∷ []) js)) h =
      λ v q.
      let m = member-is (type_of a g) (compound1 a_mset (type_of_dom d)) v q in
      let i : m.1 ≡ type_of_dom d = cc in
      some-typed g (is_there t js s.one) (over (name_pat s.one) d (cond (ex2 true Op2.Eq (name_ex s.one) a) no_gens)) (Over s.one d)
      (under-condition (Over s.one d) (Over s.one d) (ex2 true Op2.Eq (name_ex s.one) a) no_gens
      (equal-typed s.one d a m.0 h.0.0.0 m.2 (subst (λ z. Agree m.0 z) i m.4)) refl)
      (there-typed s.one d t js (first-past s.one t [] h.0.1) h.1) ∙ ap Some (sym m.5)
  in-multiset-type s _ h = tt

  -- Sizes of multisets.
  pub size-of-multiset-type : (s : Supply) (e : Ex) → KindsTyped s g size_of_a_multiset e →
      TypeKept g e (multiset_size s.one (slots_of_operand e) e)
  size-of-multiset-type s (ex1 false Op1.Bar (seen_ex (repr ReprKind.MSetOccurrence no_reprs) (mset_dom ms es d) (t ∷ []) js)) h =
      λ v q. numbers-typed s.one d t js (first-past s.one t [] h.0.1) h.1 ∙ q
  size-of-multiset-type s
      (ex1 false Op1.Bar (seen_ex (repr ReprKind.MSetExplicitWithRepetition (more_reprs r no_reprs)) (mset_dom ms es d) (m ∷ ns) js)) h =
      λ v q. ap Some h.1 ∙ q
  size-of-multiset-type s
      (ex1 false Op1.Bar (seen_ex (repr ReprKind.MSetExplicitWithFlags (more_reprs r no_reprs)) (mset_dom ms es d) (t ∷ ns) js)) h =
      λ v q. numbers-typed s.one (slots_dom (slots_ex (mset_dom ms es d))) t js (first-past s.one t ns h.0.1) h.1 ∙ q
  size-of-multiset-type s _ h = tt

  -- Frequencies in multisets.
  pub frequency-type : (s : Supply) (e : Ex) → KindsTyped s g frequency_by_cells e →
      TypeKept g e (multiset_frequency s.one (slots_of_operand e) e)
  frequency-type s (node_ex false (word Fun.Freq)
      (more_exs (seen_ex (repr ReprKind.MSetOccurrence no_reprs) (mset_dom ms es d) (t ∷ []) js) (more_exs a no_exs))) h =
      λ v q.
      let m = freq-is (type_of_dom d) (type_of a g) v q in
      some-numbers-typed s.one d t js (first-past s.one t [] h.0.1) h.1 (cond (ex2 true Op2.Eq (name_ex s.one) a) no_gens)
      (under-condition (Over s.one d) (Over s.one d) (ex2 true Op2.Eq (name_ex s.one) a) no_gens
      (equal-typed s.one d a m.0 h.0.0.1.0 m.1 (turned (type_of_dom d) m.0 m.2)) refl) ∙ ap Some (sym m.3)
  frequency-type s (node_ex false (word Fun.Freq)
      (more_exs (seen_ex (repr ReprKind.MSetExplicitWithFlags (more_reprs r no_reprs)) (mset_dom ms es d) (t ∷ ns) js)
      (more_exs a no_exs))) h =
      λ v q.
      let m = freq-is (type_of_dom d) (type_of a g) v q in
      let w = slots_dom (slots_ex (mset_dom ms es d)) in
      let o : Names Ty = Over s.one w in
      let p = first-past s.one t ns h.0.1 in
      let k : Ex = ex2 true Op2.Eq a (seen_ex r d ns (put_last js (name_ex s.one))) in
      some-numbers-typed s.one w t js p h.1 (cond (is_there t js s.one) (cond k no_gens))
      (under-condition o o (is_there t js s.one) (cond k no_gens) (there-typed s.one w t js p h.1)
      (under-condition o o k no_gens (pair-typed o true Op2.Eq a (seen_ex r d ns (put_last js (name_ex s.one))) m.0 (type_of_dom d) bool_ty
      (type-behind s.one int_ty a g (fewer (λ c. not (same_text s.one c)) a h.0.0.1.0) ∙ m.1) refl
      (given-to (join m.0 (type_of_dom d)) bool_ty (turned (type_of_dom d) m.0 m.2))) refl)) ∙ ap Some (sym m.3)
  frequency-type s _ h = tt

  -- ---- functions

  -- Sizes of total functions.
  pub size-of-function-type : (s : Supply) (e : Ex) → KindsTyped s g size_of_a_function e → TypeKept g e (function_size e)
  size-of-function-type s (ex1 false Op1.Bar (seen_ex (repr ReprKind.Function1D rs) (function_dom ms es d c) ns js)) h =
      λ t q. slots-int g [] no_exs d (tt, h) ∙ q
  size-of-function-type s (ex1 false Op1.Bar (seen_ex (repr ReprKind.FunctionND rs) (function_dom ms es d c) ns js)) h =
      λ t q. slots-int g [] no_exs d (tt, h) ∙ q
  size-of-function-type s (ex1 false Op1.Bar _) h = tt
  size-of-function-type s _ h = tt

  -- ---- partitions

  -- Participants.
  pub in-parts-type : (s : Supply) (e : Ex) → KindsTyped s g member_of_a_part e → TypeKept g e (is_participant s.one e)
  in-parts-type s (ex2 true Op2.Member a
      (fun1 false Fun.Participants (seen_ex (repr ReprKind.PartitionOccurrence no_reprs) (partition_dom ms es d) ns js))) h =
      λ v q.
      let m = member-is (type_of a g) (compound1 a_set (type_of_dom d)) v q in
      let i : m.1 ≡ type_of_dom d = cc in
      one-of-typed s.one d a m.0 h.0 m.2 (subst (λ z. Agree m.0 z) i m.4) ∙ ap Some (sym m.5)
  in-parts-type s _ h = tt

  -- The number of parts.
  pub number-of-parts-type : (s : Supply) (e : Ex) → KindsTyped s g size_of_the_parts e → TypeKept g e (number_of_parts e)
  number-of-parts-type s (ex1 false Op1.Bar
      (fun1 false Fun.Parts (seen_ex (repr ReprKind.PartitionOccurrence no_reprs) (partition_dom ms es d) (m ∷ w ∷ []) js))) h =
      λ v q. ap Some h ∙ q
  number-of-parts-type s _ h = tt

  -- The members with the number of a term are a set.
  pub numbered-part-typed : (n : Ex) (d : Dom) (w : Text) (js ks : Exs) → number_cell_ty (look g w) ≡ int_ty →
      type_of (node_ex false (word Fun.PreImage) (more_exs (numbering n d w js) (more_exs (cell_ex false w ks) no_exs))) g
      ≡ Some (compound1 a_set (type_of_dom d))
  numbered-part-typed n d w js ks h =
      two-to (Some (compound2 a_function (type_of_dom d) int_ty)) (Some (number_cell_ty (look g w))) (type_of_op (word Fun.PreImage))
      (compound2 a_function (type_of_dom d) int_ty) int_ty (compound1 a_set (type_of_dom d)) refl (ap Some h)
      (pre-image-to (type_of_dom d))

  -- The part with a member.
  pub party-type : (s : Supply) (e : Ex) → KindsTyped s g party_by_number e → TypeKept g e (partition_party (partitioned_second e) e)
  party-type s (node_ex false (word Fun.Party)
      (more_exs a (more_exs (seen_ex (repr ReprKind.PartitionOccurrence no_reprs) (partition_dom ms es d) (m ∷ w ∷ []) js) no_exs))) h =
      λ v q.
      numbered-part-typed (bound_ex d) d w js (put_last js a) h.0 ∙ ap Some (sym (party-is (type_of_dom d) (type_of a g) v h.2 q))
  party-type s _ h = tt

  -- ---- members of one part

  -- Cells of one table are equal or not.
  pub cells-typed : (w : Text) (js ks : Exs) → type_of (ex2 true Op2.Eq (cell_ex false w js) (cell_ex false w ks)) g ≡ Some bool_ty
  cells-typed w js ks =
      pair-typed g true Op2.Eq (cell_ex false w js) (cell_ex false w ks) (number_cell_ty (look g w)) (number_cell_ty (look g w)) bool_ty
      refl refl (given-to (join (number_cell_ty (look g w)) (number_cell_ty (look g w))) bool_ty (itself (number_cell_ty (look g w))))

  -- Cells of several members with that of a first one.
  pub have-number-typed : (w : Text) (js : Exs) (a : Ex) (bs : Exs) → type_of (have_number_of w js a bs) g ≡ Some bool_ty
  have-number-typed w js a no_exs = refl
  have-number-typed w js a (more_exs b no_exs) = cells-typed w (put_last js a) (put_last js b)
  have-number-typed w js a (more_exs b (more_exs c bs)) =
      pair-typed g true Op2.And (ex2 true Op2.Eq (cell_ex false w (put_last js a)) (cell_ex false w (put_last js b)))
      (have_number_of w js a (more_exs c bs)) bool_ty bool_ty bool_ty (cells-typed w (put_last js a) (put_last js b))
      (have-number-typed w js a (more_exs c bs)) refl

  -- A source that has members gives its name their type.
  pub under-source : (y : Text) (p : Ex) (h : Names Ty) (m : Ty) → and_then (type_of p h) member_ty ≡ Some m →
      types_under (from (name_pat y) p no_gens) h ≡ Some ((y, m) ∷ h)
  under-source y p h m q = ap (λ o. and_then o (λ t. Some ((y, t) ∷ h))) q

  module _ (x y m w : Text) (n : Ex) (js : Exs) where
    -- The members of p have the number x.
    abbrev pub all_numbered : Ex → Ex
    all_numbered p =
        fun1 true Fun.And (comp_ex (ex2 true Op2.Eq (cell_ex false w (put_last js (name_ex y))) (name_ex x)) (from (name_pat y) p no_gens))

    -- They have a number up to that of parts.
    abbrev pub numbered_alike : Ex → Ex
    numbered_alike p =
        fun1 true Fun.Or (comp_ex (all_numbered p)
        (over (name_pat x) (slots_dom n) (cond (ex2 true Op2.Le (name_ex x) (cell_ex false m js)) no_gens)))

    module _ (apart : same_text y x ≡ false) (xm : same_text x m ≡ false) (xw : same_text x w ≡ false) (yw : same_text y w ≡ false)
        (ints : number_cell_ty (look g m) ≡ int_ty) (more : number_cell_ty (look g w) ≡ int_ty) where
      abbrev Ints : Names Ty
      Ints = (x, int_ty) ∷ g

      -- A number is at most that of parts.
      pub up-to-typed : type_of (ex2 true Op2.Le (name_ex x) (cell_ex false m js)) Ints ≡ Some bool_ty
      up-to-typed =
          pair-typed Ints true Op2.Le (name_ex x) (cell_ex false m js) int_ty int_ty bool_ty (look-itself x int_ty g)
          (cell-typed g x m int_ty js xm ints) refl

      all-numbered-typed : (p : Ex) (v : Ty) → and_then (type_of p Ints) member_ty ≡ Some v → type_of (all_numbered p) Ints ≡ Some bool_ty
      all-numbered-typed p v q =
          let h : Names Ty = (y, v) ∷ Ints in
          every-typed Ints (ex2 true Op2.Eq (cell_ex false w (put_last js (name_ex y))) (name_ex x)) (from (name_pat y) p no_gens) h
          (under-source y p Ints v q)
          (pair-typed h true Op2.Eq (cell_ex false w (put_last js (name_ex y))) (name_ex x) int_ty int_ty bool_ty
          (cell-typed Ints y w v (put_last js (name_ex y)) yw (still-int g x w int_ty (put_last js (name_ex y)) xw more))
          (look-past y x v Ints apart ∙ look-itself x int_ty g) refl)

      -- So it is a truth value that they have such a number.
      pub numbered-typed : (p : Ex) (v : Ty) → IsNewTo x p → and_then (type_of p g) member_ty ≡ Some v →
          type_of (numbered_alike p) g ≡ Some bool_ty
      numbered-typed p v u q =
          some-typed g (all_numbered p) (over (name_pat x) (slots_dom n) (cond (ex2 true Op2.Le (name_ex x) (cell_ex false m js)) no_gens))
          Ints (under-condition Ints Ints (ex2 true Op2.Le (name_ex x) (cell_ex false m js)) no_gens up-to-typed refl)
          (all-numbered-typed p v
          (ap (λ o. and_then o member_ty) (type-behind x int_ty p g (fewer (λ c. not (same_text x c)) p u)) ∙ q))

  -- The tree of `together`.
  abbrev Together : Ex → List Mark → Exs → Dom → Text → Text → Exs → Ex
  Together p ms es d m w js =
      node_ex true (word Fun.Together)
      (more_exs p (more_exs (seen_ex (repr ReprKind.PartitionOccurrence no_reprs) (partition_dom ms es d) (m ∷ w ∷ []) js) no_exs))

  any-set-type : (s : Supply) (p : Ex) (ms : List Mark) (es : Exs) (d : Dom) (m w : Text) (js : Exs) →
      KindsTyped s g lie_together (Together p ms es d m w js) →
      KeepsType g (Together p ms es d m w js) (numbered_alike s.one s.other m w (bound_ex d) js p)
  any-set-type s p ms es d m w js h = λ v q.
      let r = together-is (type_of_dom d) (type_of p g) v q in
      let k = set-members r.0 r.1 r.3 in
      numbered-typed s.one s.other m w (bound_ex d) js h.2 (first-past s.one m (w ∷ []) h.0.1) (second-past s.one m w [] h.0.1)
      (second-past s.other m w [] h.1.1) h.3 h.4 p k.0 h.0.0.0 (ap (λ o. and_then o member_ty) r.2 ∙ k.1) ∙ ap Some (sym r.5)

  -- Members of one part.
  pub together-type : (s : Supply) (e : Ex) → KindsTyped s g lie_together e →
      TypeKept g e (are_together s.one s.other (partitioned_second e) e)
  together-type s (node_ex true (word Fun.Together) (more_exs (node_ex false set_literal no_exs)
      (more_exs (seen_ex (repr ReprKind.PartitionOccurrence no_reprs) (partition_dom ms es d) (m ∷ w ∷ []) js) no_exs))) h =
      λ v q.
      let r = together-is (type_of_dom d) (type_of (node_ex false set_literal no_exs) g) v q in
      pair-typed g true Op2.Gt (cell_ex false m js) (number_ex (pos 0)) int_ty int_ty bool_ty (ap Some h.3) refl refl ∙ ap Some (sym r.5)
  together-type s (node_ex true (word Fun.Together) (more_exs (node_ex false set_literal (more_exs a no_exs))
      (more_exs (seen_ex (repr ReprKind.PartitionOccurrence no_reprs) (partition_dom ms es d) (m ∷ w ∷ []) js) no_exs))) h =
      λ v q.
      let r = together-is (type_of_dom d) (type_of (node_ex false set_literal (more_exs a no_exs)) g) v q in
      let k = one-literal (type_of a g) r.0 r.2 in
      let i = one-member k.0 r.1 (subst (λ z. and_then (join z (compound1 a_set any_ty)) member_ty ≡ Some r.1) k.2 r.3) in
      one-of-typed s.one d a k.0 h.0.0.0.0 k.1 (turned (type_of_dom d) k.0 (subst (λ z. Agree (type_of_dom d) z) i r.4))
      ∙ ap Some (sym r.5)
  together-type s (node_ex true (word Fun.Together) (more_exs (node_ex false set_literal (more_exs a (more_exs b bs)))
      (more_exs (seen_ex (repr ReprKind.PartitionOccurrence no_reprs) (partition_dom ms es d) (m ∷ w ∷ []) js) no_exs))) h =
      λ v q.
      let r = together-is (type_of_dom d) (type_of (node_ex false set_literal (more_exs a (more_exs b bs))) g) v q in
      have-number-typed w js a (more_exs b bs) ∙ ap Some (sym r.5)
  together-type s (node_ex true (word Fun.Together) (more_exs p
      (more_exs (seen_ex (repr ReprKind.PartitionOccurrence no_reprs) (partition_dom ms es d) (m ∷ w ∷ []) js) no_exs))) h =
      any-set-type s p ms es d m w js h
  together-type s _ h = tt
