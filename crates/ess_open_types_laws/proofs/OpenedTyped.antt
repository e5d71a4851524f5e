-- Words over the alternatives of their first source that isn't plain keep types and marks.
use Rattle.std.proofs.Common.{◌≡◌, refl, sym, ap, ◌∙◌, subst, Bool, true, false, if◌then◌else◌, List, [], ◌∷◌, map, Option, Some, None, option_map}
use Rattle.std.specs.Prelude.{is_some}
use Rattle.ess_semantics.specs.declared.words.Op2.{Op2}
use Rattle.ess_semantics.specs.declared.words.Fun.{Fun}
use Rattle.ess_semantics.specs.Lists.{and_then, when}
use Rattle.ess_semantics.specs.Values.{Text, Kind, a_matrix, a_set}
use Rattle.ess_semantics.specs.Order.{same_text, same_kind}
use Rattle.ess_semantics.specs.Names.{Names}
use Rattle.ess_semantics.specs.Trees.{binary, word, name_pat, tuple_pat, Ex, comp_ex, no_exs, more_exs, ex2, fun1, Gens, no_gens, over, from, cond}
use Rattle.ess_semantics.specs.Types.{Ty, Tys, any_ty, bool_ty, int_ty, named_ty, compound, compound1, no_tys, more_tys, is_open, join, joins}
use Rattle.ess_semantics.specs.OperatorTypes.{type_of_op, united, to_set_ty}
use Rattle.ess_semantics.specs.Typing.{type_of}
use Rattle.ess_semantics.specs.NamesAt.{names_behind}
use Rattle.ess_semantics.specs.ExpressionJudgements.{forgets_order}
use Rattle.ess_semantics.specs.Substitution.{substitute, substitute_gens, for_name}
use Rattle.ess_semantics.proofs.Texts.{same_text-itself}
use Rattle.ess_rules_laws.specs.Listings.{Alternative}
use Rattle.ess_rules_laws.specs.ListedSources.{laid_out, put_listed, each_put, source_parts}
use Rattle.ess_rules_laws.specs.ListRules.{different_term}
use Rattle.ess_rules_laws.specs.SourceRules.{is_marked, list_of}
use Rattle.ess_rules_laws.specs.SpliceRules.{append_gens}
use Rattle.ess_guard_types_laws.proofs.JoinedTypes.{Agree, itself}
use Rattle.ess_refine_laws.specs.MarksStay.{HasMarks}
use Rattle.ess_refine_laws.specs.AllRules.{Supply, OfSome, only_one}
use Rattle.ess_refine_laws.specs.ExtremeAlternatives.{put_alternative}
use Rattle.ess_refine_laws.specs.TypesStay.{KeepsType}
use Rattle.ess_refine_types_laws.specs.MarksOfContainers.{IsNewTo}
use Rattle.ess_refine_types_laws.proofs.MarksBehind.{fewer}
use Rattle.ess_refine_types_laws.proofs.TypeParts.{TypeKept, one-is, one-to, two-to}
use Rattle.ess_refine_types_laws.proofs.TypesOfListed.{AllOf}
use Rattle.ess_refine_types_laws.proofs.TypesOfComparedLists.{different}
use Rattle.ess_rules_types_laws.specs.TypesOfSources.{EachPutFits, are_some}
use Rattle.ess_rules_types_laws.proofs.PutListed.{listed-type}
use Rattle.ess_rules_types_laws.proofs.TypesOfSources.{folded, fold-gives, list-gives}
use Rattle.ess_rules_marks_laws.proofs.Grows.{Grows, as_it_is, a_node, EachGrows, none_grow, more_grow}
use Rattle.ess_rules_marks_laws.proofs.MarksOfMembers.{different as different-marks}
use Rattle.ess_put_marks_laws.specs.MarksOfTerms.{EachMarked}
use Rattle.ess_put_marks_laws.proofs.MarksOfListed.{listed-marks}
use Rattle.ess_put_marks_laws.proofs.MarksOfTerms.{fold-fit}
use Rattle.ess_open_rules_laws.specs.OpenGenerators.{Opened, at_first_open}
use Rattle.ess_open_rules_laws.specs.OpenSources.{picked_members, all_offered, behind_gens, put_opened, comp_offered, several, over_one_opened, over_each_picked, sets_united, set_of_several, is_counted_apart, counted_apart}
use Rattle.ess_open_rules_laws.specs.OpenRules.{over_one_source, over_what_is_picked, set_over_several}
use Rattle.ess_open_types_laws.specs.OpeningsTyped.{OfFirstSource, OpenedFits, OpenedMarked, OpeningsTyped, OpeningsMarked}
use Rattle.ess_open_types_laws.proofs.TypesBehind.{KeepsBoth, BothKept, both-when, both-if, by-growth, at-word, inner-type, outer-type, inner-marks, outer-marks, two-parts}
use Rattle.ess_open_types_laws.proofs.FoldsTyped.{made-set}

no : {A : Type 0} → false ≡ true → A
no h = cc

-- ---- what a comprehension offers

-- Each alternative has this type.
abbrev pub EachHas : Names Ty → Ty → List Alternative → Type 0
EachHas g v [] = Unit {0}
EachHas g v (a ∷ l) = (type_of (laid_out a) g ≡ Some v) × EachHas g v l

-- Each has the type of the comprehension, and where P holds marks.
abbrev pub OfferedTyped : Names Ty → Type 0 → Ex → List Alternative → Type 0
OfferedTyped g P c l = ((v : Ty) → type_of c g ≡ Some v → EachHas g v l) × (P → HasMarks c g → EachMarked g l)

module _ (g : Names Ty) (before : Gens) (y : Text) (e u : Ex) (hs : Gens) where
  abbrev Behind : Names Ty
  Behind = names_behind before g

  abbrev Whole : Ex
  Whole = comp_ex e (append_gens before (from (name_pat y) u hs))

  put-typed : (l : List Alternative) → EachPutFits Behind y u e hs l → (v : Ty) → type_of Whole g ≡ Some v →
      EachHas g v (map (λ a. behind_gens before (put_alternative y e hs a)) l)
  put-typed [] h v q = tt
  put-typed (a ∷ l) h v q =
      let i = inner-type before e (from (name_pat y) u hs) g v q in (
        outer-type before (substitute (for_name y a.item) e) (append_gens a.gens (substitute_gens (for_name y a.item) hs)) g v i.0
            (listed-type Behind y u e hs a h.0 v i.1),
        put-typed l h.1 v q,
      )

  put-marked : (l : List Alternative) → EachPutFits Behind y u e hs l → EachMarked Behind l → HasMarks Whole g →
      EachMarked g (map (λ a. behind_gens before (put_alternative y e hs a)) l)
  put-marked [] h k m = tt
  put-marked (a ∷ l) h k m = (
    outer-marks before e (substitute (for_name y a.item) e) (from (name_pat y) u hs)
        (append_gens a.gens (substitute_gens (for_name y a.item) hs)) g m
        (listed-marks Behind y u e hs a h.0 k.0 (inner-marks before e (from (name_pat y) u hs) g m)),
    put-marked l h.1 k.1 m,
  )

pub opened : (s : Supply) (g : Names Ty) (e : Ex) (gs : Gens) → OpenedFits s g e gs →
    OfSome (comp_offered s g e gs) (OfferedTyped g (OpenedMarked s g gs) (comp_ex e gs))
opened s g e gs h = go (at_first_open gs) refl h
  where
    offers : (before : Gens) (y : Text) (u : Ex) (hs : Gens) → gs ≡ append_gens before (from (name_pat y) u hs) →
        (o : Option (List Alternative)) → OfSome o (EachPutFits (names_behind before g) y u e hs) →
        OfSome (option_map (map (λ a. behind_gens before (put_alternative y e hs a))) o)
        (OfferedTyped g (OfSome o (EachMarked (names_behind before g))) (comp_ex e gs))
    offers before y u hs i None k = tt
    offers before y u hs i (Some l) k =
        subst (λ z. OfferedTyped g (EachMarked (names_behind before g) l) (comp_ex e z)
        (map (λ a. behind_gens before (put_alternative y e hs a)) l)) (sym i)
        (put-typed g before y e u hs l k, put-marked g before y e u hs l k)

    first : (before after : Gens) → gs ≡ append_gens before after →
        OfFirstSource (all_offered s (names_behind before g)) after (λ y u hs l. EachPutFits (names_behind before g) y u e hs l) →
        OfSome (put_opened e before after (all_offered s (names_behind before g)))
        (OfferedTyped g (OfFirstSource (all_offered s (names_behind before g)) after
        (λ y u hs l. EachMarked (names_behind before g) l)) (comp_ex e gs))
    first before (from (name_pat y) u hs) i k = offers before y u hs i (all_offered s (names_behind before g) u) k
    first before (from (tuple_pat ps) u hs) i k = tt
    first before no_gens i k = tt
    first before (over p d hs) i k = tt
    first before (cond c hs) i k = tt

    go : (o : Option Opened) → at_first_open gs ≡ o →
        OfSome o (λ t. OfFirstSource (all_offered s (names_behind t.before g)) t.after
        (λ y u hs l. EachPutFits (names_behind t.before g) y u e hs l)) →
        OfSome (and_then o (λ t. put_opened e t.before t.after (all_offered s (names_behind t.before g))))
        (OfferedTyped g (OfSome o (λ t. OfFirstSource (all_offered s (names_behind t.before g)) t.after
        (λ y u hs l. EachMarked (names_behind t.before g) l))) (comp_ex e gs))
    go None i k = tt
    go (Some t) i k = first t.before t.after (two-parts gs t i) k

-- ---- folds over several alternatives

module _ (g : Names Ty) (m : Bool) (f : Fun) (i : is_marked m f ≡ true) (y : Text) (t e : Ex) (hs : Gens) where
  each-type : (v : Ty) → type_of (fun1 m f (comp_ex e (from (name_pat y) t hs))) g ≡ Some v → (l : List Alternative) →
      EachPutFits g y t e hs l → AllOf g (folded m) (each_put m f y e hs l)
  each-type v q [] k = tt
  each-type v q (a ∷ l) k =
      let r = one-is (type_of (comp_ex e (from (name_pat y) t hs)) g) (type_of_op (word f)) v q in (
        one-to (type_of (put_listed y e hs a) g) (type_of_op (word f)) r.0 (folded m) (listed-type g y t e hs a k.0 r.0 r.1)
            (r.2 ∙ ap Some (fold-gives m f i r.0 v r.2)),
        each-type v q l k.1,
      )

  each-grows : HasMarks (comp_ex e (from (name_pat y) t hs)) g → (l : List Alternative) → EachPutFits g y t e hs l →
      EachMarked g l → EachGrows g (each_put m f y e hs l)
  each-grows n [] k p = none_grow
  each-grows n (a ∷ l) k p = more_grow
      (a_node (fold-fit m f i) (more_grow (as_it_is (listed-marks g y t e hs a k.0 p.0 n)) none_grow)) (each-grows n l k.1 p.1)

  part : (l : List Alternative) → EachPutFits g y t e hs l → KeepsBoth g (EachMarked g l)
      (fun1 m f (comp_ex e (from (name_pat y) t hs))) (fun1 m f (list_of (each_put m f y e hs l)))
  part l k = by-growth g (EachMarked g l) (fun1 m f (comp_ex e (from (name_pat y) t hs)))
      (fun1 m f (list_of (each_put m f y e hs l))) (λ v q.
      let r = one-is (type_of (comp_ex e (from (name_pat y) t hs)) g) (type_of_op (word f)) v q in
      list-gives g m f i (each_put m f y e hs l) (each-type v q l k) ∙ ap Some (sym (fold-gives m f i r.0 v r.2)))
      (λ p n. a_node (fold-fit m f i) (more_grow (a_node refl (each-grows n.1.0 l k p)) none_grow))

-- ---- one alternative

module _ (s : Supply) (g : Names Ty) where
  pub over-one : (e : Ex) → OpeningsTyped s g over_one_source e →
      BothKept g (OpeningsMarked s g over_one_source e) e (over_one_opened s g e)
  over-one (fun1 m f (comp_ex e gs)) h =
      both-if g (OpenedMarked s g gs) (forgets_order (word f)) (fun1 m f (comp_ex e gs))
      (option_map (λ a. fun1 m f (laid_out a)) (only_one (comp_offered s g e gs))) (at (comp_offered s g e gs) (opened s g e gs h))
    where
      at : (o : Option (List Alternative)) → OfSome o (OfferedTyped g (OpenedMarked s g gs) (comp_ex e gs)) →
          BothKept g (OpenedMarked s g gs) (fun1 m f (comp_ex e gs)) (option_map (λ a. fun1 m f (laid_out a)) (only_one o))
      at None k = tt
      at (Some []) k = tt
      at (Some (a ∷ [])) k = at-word g (OpenedMarked s g gs) m f (comp_ex e gs) (laid_out a)
          (λ v q. (k.0 v q).0, λ p v q n. (k.1 p n).0)
      at (Some (a ∷ b ∷ l)) k = tt
  over-one _ h = tt

  -- ---- folds over what is picked

  pub over-picked : (e : Ex) → OpeningsTyped s g over_what_is_picked e →
      BothKept g (OpeningsMarked s g over_what_is_picked e) e (over_each_picked s g e)
  over-picked (fun1 m f (comp_ex e (from (name_pat y) t hs))) h = at (picked_members s g t) h
    where
      at : (o : Option (List Alternative)) → OfSome o (EachPutFits g y t e hs) →
          BothKept g (OfSome o (EachMarked g)) (fun1 m f (comp_ex e (from (name_pat y) t hs)))
          (and_then o (λ l. source_parts l (fun1 m f (comp_ex e (from (name_pat y) t hs)))))
      at None k = tt
      at (Some l) k = both-when g (EachMarked g l) (is_marked m f) (fun1 m f (comp_ex e (from (name_pat y) t hs)))
          (fun1 m f (list_of (each_put m f y e hs l))) (λ i. part g m f i y t e hs l k)
  over-picked _ h = tt

  -- ---- items that differ

  pub counted : (P : Type 0) (e : Ex) → IsNewTo s.one e → BothKept g P e (counted_apart s g e)
  counted P (fun1 true Fun.AllDiff (comp_ex e gs)) n =
      both-if g P (is_counted_apart s g e gs) (fun1 true Fun.AllDiff (comp_ex e gs))
      (different_term s.one (fun1 true Fun.AllDiff (comp_ex e gs)))
      (by-growth g P (fun1 true Fun.AllDiff (comp_ex e gs)) _ (different g s.one (fun1 true Fun.AllDiff (comp_ex e gs))
      (fewer _ (fun1 true Fun.AllDiff (comp_ex e gs)) n)) (λ p m. different-marks g s.one (fun1 true Fun.AllDiff (comp_ex e gs)) n m))
  counted P _ n = tt

-- ---- sets

to-kinds : (c : Bool) (o : Option Ty) → is_some (if c then o else None) ≡ true → c ≡ true
to-kinds true o h = refl
to-kinds false o h = cc

-- A kind counts as itself.
same-kinds : (k : Kind) → same_kind k k ≡ true
same-kinds k = to-kinds (same_kind k k) (option_map (compound k) (if is_open k no_tys then Some no_tys else (if is_open k no_tys then Some
    no_tys else joins no_tys no_tys))) (itself (compound k no_tys))

both-ways : (c : Bool) (o : Option Tys) (ts : Tys) → o ≡ Some ts → (if c then Some ts else (if c then Some ts else o)) ≡ Some ts
both-ways true o ts q = refl
both-ways false o ts q = q

mutual
  -- A type joins itself to itself.
  join-same : (t : Ty) → join t t ≡ Some t
  join-same any_ty = refl
  join-same bool_ty = refl
  join-same int_ty = refl
  join-same (named_ty a) = ap (λ c. when c (named_ty a)) (same_text-itself a)
  join-same (compound k ts) =
      ap (λ c. if c then option_map (compound k) (if is_open k ts then Some ts else (if is_open k ts then Some ts else joins ts ts))
      else None) (same-kinds k)
      ∙ ap (option_map (compound k)) (both-ways (is_open k ts) (joins ts ts) ts (joins-same ts))

  joins-same : (ts : Tys) → joins ts ts ≡ Some ts
  joins-same no_tys = refl
  joins-same (more_tys t ts) =
      ap (λ o. and_then o (λ v. option_map (more_tys v) (joins ts ts))) (join-same t) ∙ ap (option_map (more_tys t)) (joins-same ts)

-- The union of two sets of one type.
union-same : (m v : Ty) → v ≡ compound1 a_set m → and_then (join v v) united ≡ Some v
union-same m v q =
    subst (λ z. and_then (join z z) united ≡ Some z) (sym q) (ap (λ o. and_then o united) (join-same (compound1 a_set m)))

module _ (g : Names Ty) where
  united-type : (u v m : Ty) → to_set_ty u ≡ Some v → v ≡ compound1 a_set m → (l : List Alternative) → are_some l ≡ true → EachHas g u l →
      type_of (sets_united l) g ≡ Some v
  united-type u v m q i [] n h = no n
  united-type u v m q i (a ∷ []) n h = one-to (type_of (laid_out a) g) (type_of_op (word Fun.ToSet)) u v h.0 q
  united-type u v m q i (a ∷ b ∷ l) n h =
      two-to (type_of (fun1 false Fun.ToSet (laid_out a)) g) (type_of (sets_united (b ∷ l)) g) (type_of_op (binary Op2.Union)) v v v
      (one-to (type_of (laid_out a) g) (type_of_op (word Fun.ToSet)) u v h.0 q) (united-type u v m q i (b ∷ l) refl h.1)
      (union-same m v i)

  united-grows : (l : List Alternative) → are_some l ≡ true → EachMarked g l → Grows g (sets_united l)
  united-grows [] n h = no n
  united-grows (a ∷ []) n h = a_node refl (more_grow (as_it_is h.0) none_grow)
  united-grows (a ∷ b ∷ l) n h = a_node refl (more_grow (a_node refl (more_grow (as_it_is h.0) none_grow))
      (more_grow (united-grows (b ∷ l) refl h.1) none_grow))

  pub set-over : (s : Supply) (e : Ex) → OpeningsTyped s g set_over_several e →
      BothKept g (OpeningsMarked s g set_over_several e) e (set_of_several s g e)
  set-over s (fun1 false Fun.ToSet (comp_ex e gs)) h = at (comp_offered s g e gs) (opened s g e gs h.0) h.1
    where
      at : (o : Option (List Alternative)) → OfSome o (OfferedTyped g (OpenedMarked s g gs) (comp_ex e gs)) →
          OfSome o (λ l. are_some l ≡ true) →
          BothKept g (OpenedMarked s g gs) (fun1 false Fun.ToSet (comp_ex e gs)) (option_map sets_united (several o))
      at None k n = tt
      at (Some []) k n = no n
      at (Some (a ∷ [])) k n = tt
      at (Some (a ∷ b ∷ l)) k n =
          by-growth g (OpenedMarked s g gs) (fun1 false Fun.ToSet (comp_ex e gs)) (sets_united (a ∷ b ∷ l)) (λ v q.
          let r = one-is (type_of (comp_ex e gs) g) (type_of_op (word Fun.ToSet)) v q in
          let d = made-set r.0 v r.2 in united-type r.0 v d.0 r.2 d.2 (a ∷ b ∷ l) refl (k.0 r.0 r.1))
          (λ p m. united-grows (a ∷ b ∷ l) refl (k.1 p m.1.0))
  set-over s _ h = tt
