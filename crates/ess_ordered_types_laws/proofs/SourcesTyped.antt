-- Comprehensions over a source by its indices, and over one that is an item, keep types and marks.
use Rattle.std.proofs.Common.{◌≡◌, refl, sym, ap, ◌∙◌, subst, Bool, true, false, not, if◌then◌else◌, List, [], ◌∷◌, Option, Some, None, option_map}
use Rattle.std.specs.Prelude.{is_some}
use Rattle.ess_semantics.specs.declared.words.Fun.{Fun}
use Rattle.ess_semantics.specs.Lists.{and_then}
use Rattle.ess_semantics.specs.Values.{Text, a_matrix}
use Rattle.ess_semantics.specs.Order.{same_text}
use Rattle.ess_semantics.specs.Names.{Names}
use Rattle.ess_semantics.specs.Trees.{by_value, index, word, name_pat, tuple_pat, Ex, name_ex, comp_ex, fun1, Gens, no_gens, over, from, cond, Dom}
use Rattle.ess_semantics.specs.Types.{Ty, int_ty, compound2, or_any, is_bool, type_of_dom}
use Rattle.ess_semantics.specs.OperatorTypes.{member_ty}
use Rattle.ess_semantics.specs.Typing.{type_of, types_under, source_ty}
use Rattle.ess_semantics.specs.NamesAt.{names_behind}
use Rattle.ess_semantics.specs.ExpressionJudgements.{forgets_order}
use Rattle.ess_guard_types_laws.proofs.JoinedTypes.{Agree}
use Rattle.ess_rules_laws.specs.Listings.{Alternative}
use Rattle.ess_rules_laws.specs.ListedSources.{laid_out}
use Rattle.ess_rules_laws.specs.MatrixRules.{item_of}
use Rattle.ess_rules_laws.specs.SpliceRules.{append_gens}
use Rattle.ess_rules_laws.proofs.Agreement.{look-itself}
use Rattle.ess_refine_laws.specs.IndexedLists.{of_matrix}
use Rattle.ess_refine_laws.specs.TypesStay.{KeepsType}
use Rattle.ess_refine_laws.specs.MarksStay.{MarkFits, HasMarks, GensHaveMarks, DomHasMarks}
use Rattle.ess_refine_laws.specs.AllRules.{Supply, OfSome, only_one}
use Rattle.ess_refine_types_laws.specs.MarksOfContainers.{IsNewTo}
use Rattle.ess_refine_types_laws.proofs.MarksBehind.{fewer, marks-behind}
use Rattle.ess_refine_types_laws.proofs.TypeNames.{type-behind}
use Rattle.ess_refine_types_laws.proofs.TypeParts.{new-name, term-behind}
use Rattle.ess_refine_types_laws.proofs.TypesOfListed.{then-is}
use Rattle.ess_rules_types_laws.specs.TypesOfOthers.{has_indices}
use Rattle.ess_rules_types_laws.proofs.PutListed.{source-is}
use Rattle.ess_rules_types_laws.proofs.TypesOfMatrices.{item-type}
use Rattle.ess_put_marks_laws.specs.MarksOfTerms.{EachMarked}
use Rattle.ess_open_rules_laws.specs.OpenGenerators.{Opened, at_first_open, put_before, behind_plain}
use Rattle.ess_ordered_laws.specs.NumberedItems.{ordered_lookup}
use Rattle.ess_ordered_laws.specs.ToldAxes.{told_axis}
use Rattle.ess_ordered_laws.specs.IndexedSources.{is_by_index, items_at, indexed_source, indexed_behind}
use Rattle.ess_ordered_laws.specs.SourcesOfItems.{may_be_taken, over_the_item, item_source, over_an_item}
use Rattle.ess_ordered_laws.specs.OrderedRules.{source_by_indices, source_of_an_item}
use Rattle.ess_open_types_laws.specs.OpeningsTyped.{PicksAlike, EachPicksAlike, OfFirstSource}
use Rattle.ess_open_types_laws.proofs.TypesBehind.{KeepsBoth, BothKept, both-when, both-if, at-word, two-parts}
use Rattle.ess_open_types_laws.proofs.InOrderTyped.{put-both}
use Rattle.ess_ordered_types_laws.specs.OrderedTyped.{axis_by_count, AxisFits, AxisMarked, OrderedTyped, OrderedMarked}
use Rattle.ess_ordered_types_laws.proofs.AxesMarked.{DomMarked, axis-marked}

-- ---- another source

-- A source whose members have the type of those of the one in whose place it stands, and which has marks where that has them.
pub other-source : (g : Names Ty) (P : Type 0) (y : Text) (e u l : Ex) (hs : Gens) →
    ((m : Ty) → and_then (type_of u g) member_ty ≡ Some m → and_then (type_of l g) member_ty ≡ Some m) →
    (P → HasMarks u g → HasMarks l g) → KeepsBoth g P (comp_ex e (from (name_pat y) u hs)) (comp_ex e (from (name_pat y) l hs))
other-source g P y e u l hs k n = (typed, marked)
  where
    L : Names Ty → Option Ty
    L h = option_map (compound2 a_matrix int_ty) (type_of e h)

    F : Ty → Option (Names Ty)
    F m = types_under hs ((y, m) ∷ g)

    typed : KeepsType g (comp_ex e (from (name_pat y) u hs)) (comp_ex e (from (name_pat y) l hs))
    typed v q =
        let d = source-is (and_then (type_of u g) member_ty) F L v q in ap (λ o. and_then (and_then o F) L) (k d.0 d.1) ∙ d.2

    marked : P → (v : Ty) → type_of (comp_ex e (from (name_pat y) u hs)) g ≡ Some v → HasMarks (comp_ex e (from (name_pat y) u hs)) g →
        HasMarks (comp_ex e (from (name_pat y) l hs)) g
    marked p v q m =
        let d = source-is (and_then (type_of u g) member_ty) F L v q in
        let i : source_ty u g ≡ source_ty l g = ap or_any (d.1 ∙ sym (k d.0 d.1)) in (
          (ap is_some (k d.0 d.1), n p m.0.1, subst (λ z. GensHaveMarks hs ((y, z) ∷ g)) i m.0.2),
          subst (λ z. HasMarks e (names_behind hs ((y, z) ∷ g))) i m.1,
        )

-- What keeps both at the first generator that isn't plain does so behind the plain ones.
pub at-open : (g : Names Ty) (R : Gens → Ex → Option Ex) (T M : Names Ty → Gens → Type 0) (e : Ex) (gs : Gens) →
    ((before after : Gens) → T (names_behind before g) after →
    BothKept (names_behind before g) (M (names_behind before g) after) (comp_ex e after) (R before (comp_ex e after))) →
    OfSome (at_first_open gs) (λ t. T (names_behind t.before g) t.after) →
    BothKept g (OfSome (at_first_open gs) (λ t. M (names_behind t.before g) t.after)) (comp_ex e gs) (behind_plain R (comp_ex e gs))
at-open g R T M e gs each h = go (at_first_open gs) refl h
  where
    answer : (P : Type 0) (t : Opened) → gs ≡ append_gens t.before t.after → (o : Option Ex) →
        BothKept (names_behind t.before g) P (comp_ex e t.after) o → BothKept g P (comp_ex e gs) (and_then o (put_before t.before))
    answer P t i None k = tt
    answer P t i (Some f) k =
        subst (λ z. BothKept g P (comp_ex e z) (put_before t.before f)) (sym i) (put-both g P e t.before t.after f k)

    go : (o : Option Opened) → at_first_open gs ≡ o → OfSome o (λ t. T (names_behind t.before g) t.after) →
        BothKept g (OfSome o (λ t. M (names_behind t.before g) t.after)) (comp_ex e gs)
        (and_then o (λ t. and_then (R t.before (comp_ex e t.after)) (put_before t.before)))
    go None i k = tt
    go (Some t) i k =
        answer (M (names_behind t.before g) t.after) t (two-parts gs t i) (R t.before (comp_ex e t.after)) (each t.before t.after k)

-- ---- by indices

-- The item at a new name for indices has the type of items, and marks.
module _ (h : Names Ty) (x : Text) (u : Ex) (new : IsNewTo x u) (i v w : Ty) (q : type_of u h ≡ Some (compound2 a_matrix i v))
    (k : Agree i w) where
  pub item-is : type_of (item_of v u (name_ex x)) ((x, w) ∷ h) ≡ Some v
  item-is = item-type ((x, w) ∷ h) i v w u x
      (term-behind h x w u (compound2 a_matrix i v) (fewer (λ c. not (same_text x c)) u new) q) (new-name h x w) k

  -- And it has marks.
  pub item-marks : HasMarks u h → HasMarks (item_of v u (name_ex x)) ((x, w) ∷ h)
  item-marks n = (
    subst (λ o. MarkFits (is_bool (Some v)) (index (by_value ∷ [])) o) (sym item-is) refl,
    (marks-behind x w u h new n, (tt, tt)),
  )

module _ (h : Names Ty) (x : Text) (u : Ex) (new : IsNewTo x u) (d : Dom) (i v : Ty) (q : type_of u h ≡ Some (compound2 a_matrix i v))
    (k : Agree i (type_of_dom d)) where
  items-type : type_of (items_at x d u v) h ≡ Some (compound2 a_matrix int_ty v)
  items-type = ap (option_map (compound2 a_matrix int_ty)) (item-is h x u new i v (type_of_dom d) q k)

  items-marks : DomHasMarks d h → HasMarks u h → HasMarks (items_at x d u v) h
  items-marks p n = ((p, tt), item-marks h x u new i v (type_of_dom d) q k n)

  by-items : (P : Type 0) → (P → HasMarks u h → DomHasMarks d h) → (y : Text) (e : Ex) (hs : Gens) →
      KeepsBoth h P (comp_ex e (from (name_pat y) u hs)) (comp_ex e (from (name_pat y) (items_at x d u v) hs))
  by-items P p y e hs = other-source h P y e u (items_at x d u v) hs
      (λ m r. ap (λ o. and_then o member_ty) items-type ∙ sym (ap (λ o. and_then o member_ty) q) ∙ r) (λ a n. items-marks (p a n) n)

module _ (s : Supply) where
  -- At the first generator.
  by-index : (h : Names Ty) (e : Ex) (gs : Gens) → AxisFits s h gs →
      BothKept h (AxisMarked h gs) (comp_ex e gs) (indexed_source h s.one (comp_ex e gs))
  by-index h e (from (name_pat y) u hs) k = told (is_by_index u) (told_axis u) (λ i p m. axis-marked h u i p m) k.1
    where
      P : Type 0
      P = DomMarked h (axis_by_count u)

      typed : (d : Dom) (o : Option Ty) → (P → HasMarks u h → DomHasMarks d h) → type_of u h ≡ o → has_indices o (type_of_dom d) ≡ true →
          BothKept h P (comp_ex e (from (name_pat y) u hs))
          (option_map (λ l. comp_ex e (from (name_pat y) l hs)) (of_matrix o (items_at s.one d u)))
      typed d (Some (compound2 a_matrix i v)) f q j = by-items h s.one u k.0 d i v q j P f y e hs
      typed d _ f q j = tt

      told : (c : Bool) (o : Option Dom) → (c ≡ true → P → HasMarks u h → DomMarked h o) →
          OfSome o (λ d. has_indices (type_of u h) (type_of_dom d) ≡ true) →
          BothKept h P (comp_ex e (from (name_pat y) u hs)) (option_map (λ l. comp_ex e (from (name_pat y) l hs))
          (if c then and_then o (λ d. of_matrix (type_of u h) (items_at s.one d u)) else None))
      told false o f j = tt
      told true None f j = tt
      told true (Some d) f j = typed d (type_of u h) (f refl) refl j
  by-index h e (from (tuple_pat ps) u hs) k = tt
  by-index h e no_gens k = tt
  by-index h e (over p d hs) k = tt
  by-index h e (cond c hs) k = tt

  pub by-indices : (g : Names Ty) (e : Ex) → OrderedTyped s g source_by_indices e →
      BothKept g (OrderedMarked s g source_by_indices e) e (indexed_behind g s.one e)
  by-indices g (comp_ex e gs) h =
      at-open g (λ ks. indexed_source (names_behind ks g) s.one) (λ k. AxisFits s k) (λ k. AxisMarked k) e gs
      (λ before after k. by-index (names_behind before g) e after k) h
  by-indices g _ h = tt

-- ---- of an item

module _ (h : Names Ty) (z y : Text) (e u : Ex) (hs : Gens) (new : IsNewTo z (comp_ex e (from (name_pat y) u hs))) where
  abbrev Old : Ex
  Old = comp_ex e (from (name_pat y) u hs)

  abbrev Named : Ex
  Named = comp_ex e (from (name_pat y) (name_ex z) hs)

  named : (j : Ty) → type_of u h ≡ Some j → KeepsBoth ((z, j) ∷ h) (Unit {0}) Old Named
  named j q = other-source ((z, j) ∷ h) (Unit {0}) y e u (name_ex z) hs
      (λ m r. ap (λ o. and_then o member_ty)
      (look-itself z j h ∙ sym (term-behind h z j u j (fewer (λ c. not (same_text z c)) u new.1.0) q)) ∙ r) (λ p n. tt)

  behind-name : (j v : Ty) → type_of Old h ≡ Some v → type_of Old ((z, j) ∷ h) ≡ Some v
  behind-name j v q = type-behind z j Old h (fewer (λ c. not (same_text z c)) Old new) ∙ q

  -- The source has a type. Behind a new name of this type the comprehension over the name has that of the one over the source, and marks.
  pub named-source : (v : Ty) → type_of Old h ≡ Some v →
      (j : Ty) × (type_of u h ≡ Some j) × (type_of Named ((z, j) ∷ h) ≡ Some v) × (HasMarks Old h → HasMarks Named ((z, j) ∷ h))
  named-source v q =
      let d = source-is (and_then (type_of u h) member_ty) (λ m. types_under hs ((y, m) ∷ h))
      (λ k. option_map (compound2 a_matrix int_ty) (type_of e k)) v q in
      let j = then-is (type_of u h) member_ty d.0 d.1 in (
        j.0,
        j.1,
        (named j.0 j.1).0 v (behind-name j.0 v q),
        λ m. (named j.0 j.1).1 tt v (behind-name j.0 v q) (marks-behind z j.0 Old h new m),
      )

  over-item : (a : Alternative) → PicksAlike h u a → KeepsBoth h (EachMarked h (a ∷ [])) Old (over_the_item z y e hs a)
  over-item a alike = (typed, marked)
    where
      typed : KeepsType h Old (over_the_item z y e hs a)
      typed v q =
          let j = named-source v q in
          ap (λ o. and_then (and_then o (λ m. types_under (from (name_pat y) (name_ex z) hs) ((z, m) ∷ h)))
          (λ k. option_map (compound2 a_matrix int_ty) (type_of e k))) (alike ∙ j.1)
          ∙ j.2

      marked : EachMarked h (a ∷ []) → (v : Ty) → type_of Old h ≡ Some v → HasMarks Old h → HasMarks (over_the_item z y e hs a) h
      marked p v q m =
          let j = named-source v q in
          let n = j.3 m in
          let i : j.0 ≡ source_ty (laid_out a) h = sym (ap or_any (alike ∙ j.1)) in (
            (ap is_some (alike ∙ j.1), p.0, subst (λ t. GensHaveMarks (from (name_pat y) (name_ex z) hs) ((z, t) ∷ h)) i n.0),
            subst (λ t. HasMarks e (names_behind (from (name_pat y) (name_ex z) hs) ((z, t) ∷ h))) i n.1,
          )

module _ (s : Supply) where
  -- What is asked of the first generator, for types and for marks.
  abbrev Fits : Ex → Names Ty → Gens → Type 0
  Fits e h gs = OfFirstSource (ordered_lookup s.third s.parts) gs
      (λ y u hs l. IsNewTo s.other (comp_ex e (from (name_pat y) u hs)) × EachPicksAlike h u l)

  abbrev Marked : Names Ty → Gens → Type 0
  Marked h gs = OfFirstSource (ordered_lookup s.third s.parts) gs (λ y u hs l. EachMarked h l)

  of-item : (any : Bool) (h : Names Ty) (e : Ex) (gs : Gens) → Fits e h gs →
      BothKept h (Marked h gs) (comp_ex e gs) (item_source s any (comp_ex e gs))
  of-item any h e (from (name_pat y) u hs) k = only (ordered_lookup s.third s.parts u) k
    where
      only : (o : Option (List Alternative)) →
          OfSome o (λ l. IsNewTo s.other (comp_ex e (from (name_pat y) u hs)) × EachPicksAlike h u l) →
          BothKept h (OfSome o (λ l. EachMarked h l)) (comp_ex e (from (name_pat y) u hs))
          (and_then (only_one o) (λ a. if may_be_taken any a then Some (over_the_item s.other y e hs a) else None))
      only None k = tt
      only (Some []) k = tt
      only (Some (a ∷ [])) k = both-when h (EachMarked h (a ∷ [])) (may_be_taken any a) (comp_ex e (from (name_pat y) u hs))
          (over_the_item s.other y e hs a) (λ c. over-item h s.other y e u hs k.0 a k.1.0)
      only (Some (a ∷ b ∷ l)) k = tt
  of-item any h e (from (tuple_pat ps) u hs) k = tt
  of-item any h e no_gens k = tt
  of-item any h e (over p d hs) k = tt
  of-item any h e (cond c hs) k = tt

  at-item : (any : Bool) (g : Names Ty) (e : Ex) (gs : Gens) →
      OfSome (at_first_open gs) (λ t. Fits e (names_behind t.before g) t.after) →
      BothKept g (OfSome (at_first_open gs) (λ t. Marked (names_behind t.before g) t.after)) (comp_ex e gs)
      (behind_plain (λ ks. item_source s any) (comp_ex e gs))
  at-item any g e gs h = at-open g (λ ks. item_source s any) (Fits e) Marked e gs
      (λ before after k. of-item any (names_behind before g) e after k) h

  under-word : (g : Names Ty) (P : Type 0) (m : Bool) (f : Fun) (c : Ex) (o : Option Ex) → BothKept g P c o →
      BothKept g P (fun1 m f c) (option_map (fun1 m f) o)
  under-word g P m f c None k = tt
  under-word g P m f c (Some d) k = at-word g P m f c d k

  pub of-an-item : (g : Names Ty) (e : Ex) → OrderedTyped s g source_of_an_item e →
      BothKept g (OrderedMarked s g source_of_an_item e) e (over_an_item s e)
  of-an-item g (fun1 m f (comp_ex e gs)) h =
      both-if g (OrderedMarked s g source_of_an_item (fun1 m f (comp_ex e gs))) (forgets_order (word f)) (fun1 m f (comp_ex e gs))
      (option_map (fun1 m f) (behind_plain (λ ks. item_source s true) (comp_ex e gs)))
      (under-word g (OrderedMarked s g source_of_an_item (fun1 m f (comp_ex e gs))) m f (comp_ex e gs)
      (behind_plain (λ ks. item_source s true) (comp_ex e gs)) (at-item true g e gs h))
  of-an-item g (comp_ex e gs) h = at-item false g e gs h
  of-an-item g _ h = tt
