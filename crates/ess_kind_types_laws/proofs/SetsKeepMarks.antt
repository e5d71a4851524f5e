-- Rules of views of sets keep marks.
use Rattle.std.proofs.Common.{◌≡◌, refl, sym, ◌∙◌, subst, Bool, true, false, if◌then◌else◌, [], ◌∷◌, Option, Some, None}
use Rattle.ess_semantics.specs.declared.words.Op1.{Op1}
use Rattle.ess_semantics.specs.declared.words.Op2.{Op2}
use Rattle.ess_semantics.specs.declared.words.Fun.{Fun}
use Rattle.ess_semantics.specs.declared.words.ReprKind.{ReprKind}
use Rattle.ess_semantics.specs.Lists.{and_then}
use Rattle.ess_semantics.specs.Values.{Text}
use Rattle.ess_semantics.specs.Names.{Names}
use Rattle.ess_semantics.specs.Trees.{word, tuple_literal, repr, no_reprs, more_reprs, name_pat, Ex, Exs, node_ex, comp_ex, seen_ex, ex1, ex2, fun1, no_exs, more_exs, Gens, from, set_dom, relation_dom}
use Rattle.ess_semantics.specs.Types.{Ty}
use Rattle.ess_semantics.specs.Typing.{type_of}
use Rattle.ess_semantics.specs.ExpressionJudgements.{forgets_order}
use Rattle.ess_rules_laws.specs.Listings.{Alternative}
use Rattle.ess_rules_laws.specs.SourceRules.{is_marked, list_of}
use Rattle.ess_rules_laws.specs.FunctionViews.{append_exs}
use Rattle.ess_rules_laws.specs.ListedSources.{laid_out, put_listed, source_alone, source_parts}
use Rattle.ess_rules_laws.specs.AtomViews.{atom_cell}
use Rattle.ess_rules_laws.specs.SetSizes.{size_by_marker, size_by_slots}
use Rattle.ess_rules_laws.specs.OccurrenceViews.{cell_of_member, member_by_cell}
use Rattle.ess_refine_laws.specs.MarksStay.{MarkFits, HasMarks, HaveMarks}
use Rattle.ess_refine_laws.specs.AllRules.{Supply, OfSome}
use Rattle.ess_rules_types_laws.specs.TypesOfSources.{PutFits}
use Rattle.ess_put_marks_laws.proofs.MarksOfListed.{listed-marks}
use Rattle.ess_kind_rules_laws.specs.ViewListings.{view_listing, slots_of_operand}
use Rattle.ess_kind_rules_laws.specs.KindRules.{KindRule, cell_of_an_atom, over_a_view, of_one_view, member_at_a_cell, size_at_the_marker, size_of_slots, view_listed, kind_rewrite}
use Rattle.ess_kind_sizes_laws.specs.SetRules.{is_of_sets}
use Rattle.ess_kind_types_laws.specs.SetsTyped.{FoldTyped, SetsTyped, SetRulesKeepMarks}
use Rattle.ess_kind_types_laws.proofs.SizesTyped.{slots-marked}
use Rattle.ess_kind_types_laws.proofs.ListingsTyped.{listed-fits, listed-marked}
use Rattle.ess_kind_types_laws.proofs.SetsKeepTypes.{set-rules-keep-types}
use Rattle.ess_rules_marks_laws.proofs.Grows.{as_it_is, a_node, none_grow, more_grow, grown}
use Rattle.ess_put_marks_laws.proofs.MarksOfTerms.{fold-fit}

no : {A : Type 0} → false ≡ true → A
no h = cc

module _ (g : Names Ty) where
  -- Where what a rule rewrites and what it answers have one type, marks stay.
  abbrev pub MarksKept : Ex → Option Ex → Type 0
  MarksKept e None = Unit {0}
  MarksKept e (Some f) = (t : Ty) → type_of e g ≡ Some t → type_of f g ≡ Some t → HasMarks e g → HasMarks f g

  -- ---- cells and sizes

  -- Operands behind others have marks.
  pub append-marked : (js ks : Exs) → HaveMarks js g → HaveMarks ks g → HaveMarks (append_exs js ks) g
  append-marked no_exs ks h k = k
  append-marked (more_exs e js) ks h k = (h.0, append-marked js ks h.1 k)

  atom-marks : (e : Ex) → MarksKept e (atom_cell e)
  atom-marks (seen_ex (repr ReprKind.Atom no_reprs) d (n ∷ []) js) = λ t q k h. h.1
  atom-marks _ = tt

  member-marks : (v a : Ex) → MarksKept (ex2 true Op2.Member a v) (cell_of_member v a)
  member-marks (seen_ex (repr ReprKind.Occurrence no_reprs) (set_dom ms es d) (n ∷ []) js) a =
      λ t q k h. append-marked js (more_exs a no_exs) h.1.1.0.1 (h.1.0, tt)
  member-marks (seen_ex (repr ReprKind.RelationAsMatrix no_reprs) (relation_dom ms es ds) (n ∷ []) js) (node_ex false tuple_literal as') =
      λ t q k h. append-marked js as' h.1.1.0.1 h.1.0.1
  member-marks _ a = tt

  asks-marks : (e : Ex) → MarksKept e (member_by_cell e)
  asks-marks (ex2 true Op2.Member a v) = member-marks v a
  asks-marks _ = tt

  marker-marks : (e : Ex) → MarksKept e (size_by_marker e)
  marker-marks (ex1 false Op1.Bar (seen_ex (repr ReprKind.ExplicitVarSizeWithMarker (more_reprs r no_reprs)) (set_dom ms es d) (m ∷ ns)
      js)) =
      λ t q k h. h.1.0.1
  marker-marks _ = tt

  size-marks : (s : Supply) (e : Ex) → SetsTyped s g size_of_slots e → MarksKept e (size_by_slots (slots_of_operand e) e)
  size-marks s (ex1 false Op1.Bar (seen_ex (repr ReprKind.Explicit (more_reprs r no_reprs)) (set_dom ms es d) ns js)) h =
      λ t q k m. slots-marked g ms es d h.1 m.1.0.0
  size-marks s _ h = tt

  -- ---- folds

  module _ (m : Bool) (f : Fun) (y : Text) (t e : Ex) (hs : Gens) where
    abbrev Root : Ex
    Root = fun1 m f (comp_ex e (from (name_pat y) t hs))

    put-marked : (a : Alternative) → PutFits g y t e hs a → HasMarks (laid_out a) g → HasMarks Root g → HasMarks (put_listed y e hs a) g
    put-marked a h k v = listed-marks g y t e hs a h k v.1.0

    -- The fold over what is offered, as a part and alone.
    pub part-marks : (a : Alternative) → PutFits g y t e hs a → (HasMarks Root g → HasMarks (laid_out a) g) →
        MarksKept Root (source_parts (a ∷ []) Root)
    part-marks a h k = go (is_marked m f) refl
      where
        go : (c : Bool) → is_marked m f ≡ c →
            MarksKept Root (if c then Some (fun1 m f (list_of (more_exs (fun1 m f (put_listed y e hs a)) no_exs))) else None)
        go true i = λ v q j n.
            grown g (fun1 m f (list_of (more_exs (fun1 m f (put_listed y e hs a)) no_exs)))
            (a_node (fold-fit m f i) (more_grow (a_node refl (more_grow (a_node (fold-fit m f i)
            (more_grow (as_it_is (put-marked a h (k n) n)) none_grow)) none_grow)) none_grow)) v j
        go false i = tt

    pub alone-marks : (a : Alternative) → PutFits g y t e hs a → (HasMarks Root g → HasMarks (laid_out a) g) →
        MarksKept Root (source_alone a Root)
    alone-marks a h k = go (forgets_order (word f))
      where
        go : (c : Bool) → MarksKept Root (if c then Some (fun1 m f (put_listed y e hs a)) else None)
        go true = λ v q j n. (subst (λ o. MarkFits m (word f) o) (q ∙ sym j) n.0, (put-marked a h (k n) n, tt))
        go false = tt

    -- What is offered, if anything is.
    pub of-offered : (o : Option Alternative) (F : Alternative → Option Ex) → OfSome o (PutFits g y t e hs) →
        (HasMarks Root g → OfSome o (λ a. HasMarks (laid_out a) g)) →
        ((a : Alternative) → PutFits g y t e hs a → (HasMarks Root g → HasMarks (laid_out a) g) → MarksKept Root (F a)) →
        MarksKept Root (and_then o F)
    of-offered None F h k l = tt
    of-offered (Some a) F h k l = l a h k

  parts-marks : (s : Supply) (e : Ex) → SetsTyped s g over_a_view e → MarksKept e (view_listed (λ a. source_parts (a ∷ [])) s e)
  parts-marks s (fun1 m f (comp_ex e (from (name_pat y) (seen_ex (repr k rs) (set_dom ms es d) ns js) hs))) h =
      of-offered m f y (seen_ex (repr k rs) (set_dom ms es d) ns js) e hs (view_listing s.one s.other s.parts (seen_ex (repr k rs)
      (set_dom ms es d) ns js)) (λ a. source_parts (a ∷ []) (fun1 m f (comp_ex e (from (name_pat y) (seen_ex (repr k rs) (set_dom ms es d)
      ns js) hs)))) (let c = h.1 in listed-fits s g y e hs k rs ms es d ns js h.0 (c.1.0.0.1, c.1.0.1))
      (λ n. listed-marked s g y e hs k rs ms es d ns js h.0 n.1.0.0.1)
      (part-marks m f y (seen_ex (repr k rs) (set_dom ms es d) ns js) e hs)
  parts-marks s (fun1 m f (comp_ex e (from (name_pat y) t hs))) h = let c : FoldTyped s g y t e hs = h.0 in no c.view
  parts-marks s _ h = tt

  one-marks : (s : Supply) (e : Ex) → SetsTyped s g of_one_view e → MarksKept e (view_listed source_alone s e)
  one-marks s (fun1 m f (comp_ex e (from (name_pat y) (seen_ex (repr k rs) (set_dom ms es d) ns js) hs))) h =
      of-offered m f y (seen_ex (repr k rs) (set_dom ms es d) ns js) e hs (view_listing s.one s.other s.parts (seen_ex (repr k rs)
      (set_dom ms es d) ns js)) (λ a. source_alone a (fun1 m f (comp_ex e (from (name_pat y) (seen_ex (repr k rs) (set_dom ms es d)
      ns js) hs)))) (let c = h.1 in listed-fits s g y e hs k rs ms es d ns js h.0 (c.1.0.0.1, c.1.0.1))
      (λ n. listed-marked s g y e hs k rs ms es d ns js h.0 n.1.0.0.1)
      (alone-marks m f y (seen_ex (repr k rs) (set_dom ms es d) ns js) e hs)
  one-marks s (fun1 m f (comp_ex e (from (name_pat y) t hs))) h = let c : FoldTyped s g y t e hs = h.0 in no c.view
  one-marks s _ h = tt

  each-marks : (s : Supply) (r : KindRule) (e : Ex) → is_of_sets r ≡ true → SetsTyped s g r e → MarksKept e (kind_rewrite s g r e)
  each-marks s cell_of_an_atom e i h = atom-marks e
  each-marks s over_a_view e i h = parts-marks s e h
  each-marks s of_one_view e i h = one-marks s e h
  each-marks s member_at_a_cell e i h = asks-marks e
  each-marks s size_at_the_marker e i h = marker-marks e
  each-marks s size_of_slots e i h = size-marks s e h
  each-marks s _ e i h = no i

-- Marks stay.
pub set-rules-keep-marks : SetRulesKeepMarks
set-rules-keep-marks s g r e f q i h t p m =
    subst (λ z. MarksKept g e z) q (each-marks g s r e i h) t p (set-rules-keep-types s g r e f q i h t p) m
