-- Rules of views of sets keep types.
use Rattle.std.proofs.Common.{◌≡◌, refl, sym, ap, ◌∙◌, subst, Bool, true, false, if◌then◌else◌, [], ◌∷◌, Option, Some, None}
use Rattle.ess_semantics.specs.declared.words.Op1.{Op1}
use Rattle.ess_semantics.specs.declared.words.Op2.{Op2}
use Rattle.ess_semantics.specs.declared.words.Fun.{Fun}
use Rattle.ess_semantics.specs.declared.words.ReprKind.{ReprKind}
use Rattle.ess_semantics.specs.Lists.{and_then}
use Rattle.ess_semantics.specs.Values.{Text}
use Rattle.ess_semantics.specs.Names.{Names}
use Rattle.ess_semantics.specs.Trees.{binary, word, tuple_literal, repr, no_reprs, more_reprs, name_pat, Ex, node_ex, comp_ex, seen_ex, ex1, ex2, fun1, no_exs, more_exs, Gens, from, set_dom, relation_dom}
use Rattle.ess_semantics.specs.Types.{Ty, bool_ty}
use Rattle.ess_semantics.specs.OperatorTypes.{type_of_op}
use Rattle.ess_semantics.specs.Typing.{type_of}
use Rattle.ess_semantics.specs.ExpressionJudgements.{forgets_order}
use Rattle.ess_rules_laws.specs.Listings.{Alternative}
use Rattle.ess_rules_laws.specs.SourceRules.{is_marked, list_of}
use Rattle.ess_rules_laws.specs.ListedSources.{put_listed, source_alone, source_parts}
use Rattle.ess_rules_laws.specs.AtomViews.{atom_cell}
use Rattle.ess_rules_laws.specs.SetSizes.{size_by_marker, size_by_slots}
use Rattle.ess_rules_laws.specs.OccurrenceViews.{cell_of_member, member_by_cell}
use Rattle.ess_refine_laws.specs.TypesStay.{KeepsType}
use Rattle.ess_refine_laws.specs.AllRules.{Supply, OfSome}
use Rattle.ess_refine_types_laws.proofs.TypeParts.{one-is, one-to, two-is, asked-is, TypeKept}
use Rattle.ess_rules_types_laws.specs.TypesOfSources.{PutFits}
use Rattle.ess_rules_types_laws.proofs.PutListed.{listed-type}
use Rattle.ess_rules_types_laws.proofs.TypesOfSources.{folded, fold-gives, list-gives}
use Rattle.ess_kind_rules_laws.specs.ViewListings.{view_listing, slots_of_operand}
use Rattle.ess_kind_rules_laws.specs.KindRules.{KindRule, cell_of_an_atom, over_a_view, of_one_view, member_at_a_cell, size_at_the_marker, size_of_slots, view_listed, kind_rewrite}
use Rattle.ess_kind_sizes_laws.specs.SetRules.{is_of_sets}
use Rattle.ess_kind_types_laws.specs.SetsTyped.{CellTyped, FoldTyped, SetsTyped, SetRulesKeepTypes}
use Rattle.ess_kind_types_laws.proofs.SizesTyped.{slots-int}
use Rattle.ess_kind_types_laws.proofs.ListingsTyped.{listed-fits}

no : {A : Type 0} → false ≡ true → A
no h = cc

module _ (g : Names Ty) where
  -- ---- cells and sizes

  atom-type : (e : Ex) → CellTyped g e → TypeKept g e (atom_cell e)
  atom-type (seen_ex (repr ReprKind.Atom no_reprs) d (n ∷ []) js) h = λ t q. h ∙ q
  atom-type _ h = tt

  -- `in` gives a truth value.
  in-is-truth : (a v : Ex) (t : Ty) → type_of (ex2 true Op2.Member a v) g ≡ Some t → t ≡ bool_ty
  in-is-truth a v t q =
      let r = two-is (type_of a g) (type_of v g) (type_of_op (binary Op2.Member)) t q in
      let m = asked-is r.1 r.0 t r.4 in m.3

  member-type : (v a : Ex) → TypeKept g (ex2 true Op2.Member a v) (cell_of_member v a)
  member-type (seen_ex (repr ReprKind.Occurrence no_reprs) (set_dom ms es d) (n ∷ []) js) a =
      λ t q. ap Some (sym (in-is-truth a (seen_ex (repr ReprKind.Occurrence no_reprs) (set_dom ms es d) (n ∷ []) js) t q))
  member-type (seen_ex (repr ReprKind.RelationAsMatrix no_reprs) (relation_dom ms es ds) (n ∷ []) js) (node_ex false tuple_literal as') =
      λ t q. ap Some (sym (in-is-truth (node_ex false tuple_literal as') (seen_ex (repr ReprKind.RelationAsMatrix no_reprs)
      (relation_dom ms es ds) (n ∷ []) js) t q))
  member-type _ a = tt

  asks-type : (e : Ex) → TypeKept g e (member_by_cell e)
  asks-type (ex2 true Op2.Member a v) = member-type v a
  asks-type _ = tt

  marker-type : (s : Supply) (e : Ex) → SetsTyped s g size_at_the_marker e → TypeKept g e (size_by_marker e)
  marker-type s (ex1 false Op1.Bar (seen_ex (repr ReprKind.ExplicitVarSizeWithMarker (more_reprs r no_reprs)) (set_dom ms es d) (m ∷ ns)
      js)) h =
      λ t q. ap Some h ∙ q
  marker-type s _ h = tt

  slots-type : (s : Supply) (e : Ex) → SetsTyped s g size_of_slots e → TypeKept g e (size_by_slots (slots_of_operand e) e)
  slots-type s (ex1 false Op1.Bar (seen_ex (repr ReprKind.Explicit (more_reprs r no_reprs)) (set_dom ms es d) ns js)) h =
      λ t q. slots-int g ms es d h.1 ∙ q
  slots-type s _ h = tt

  -- ---- folds

  -- The fold of a comprehension that keeps its type.
  pub fold-kept : (m : Bool) (f : Fun) (c d : Ex) → KeepsType g c d → KeepsType g (fun1 m f c) (fun1 m f d)
  fold-kept m f c d k v q =
      let r = one-is (type_of c g) (type_of_op (word f)) v q in one-to (type_of d g) (type_of_op (word f)) r.0 v (k r.0 r.1) r.2

  module _ (m : Bool) (f : Fun) (y : Text) (t e : Ex) (hs : Gens) where
    abbrev Root : Ex
    Root = fun1 m f (comp_ex e (from (name_pat y) t hs))

    -- The type of a fold is that of folds.
    pub root-is : (i : is_marked m f ≡ true) (v : Ty) → type_of Root g ≡ Some v → v ≡ folded m
    root-is i v q =
        let r = one-is (type_of (comp_ex e (from (name_pat y) t hs)) g) (type_of_op (word f)) v q in fold-gives m f i r.0 v r.2

    -- The fold with what is offered has its type.
    pub one-put : (a : Alternative) → PutFits g y t e hs a → KeepsType g Root (fun1 m f (put_listed y e hs a))
    one-put a h = fold-kept m f (comp_ex e (from (name_pat y) t hs)) (put_listed y e hs a) (listed-type g y t e hs a h)

    -- The fold over what is offered, as a part and alone.
    pub part-type : (a : Alternative) → PutFits g y t e hs a → TypeKept g Root (source_parts (a ∷ []) Root)
    part-type a h = go (is_marked m f) refl
      where
        go : (c : Bool) → is_marked m f ≡ c →
            TypeKept g Root (if c then Some (fun1 m f (list_of (more_exs (fun1 m f (put_listed y e hs a)) no_exs))) else None)
        go true i = λ v q.
            list-gives g m f i (more_exs (fun1 m f (put_listed y e hs a)) no_exs) (one-put a h v q ∙ ap Some (root-is i v q), tt)
            ∙ ap Some (sym (root-is i v q))
        go false i = tt

    pub alone-type : (a : Alternative) → PutFits g y t e hs a → TypeKept g Root (source_alone a Root)
    alone-type a h = go (forgets_order (word f))
      where
        go : (c : Bool) → TypeKept g Root (if c then Some (fun1 m f (put_listed y e hs a)) else None)
        go true = one-put a h
        go false = tt

    -- What is offered, if anything is.
    pub of-offered : (o : Option Alternative) (F : Alternative → Option Ex) → OfSome o (PutFits g y t e hs) →
        ((a : Alternative) → PutFits g y t e hs a → TypeKept g Root (F a)) → TypeKept g Root (and_then o F)
    of-offered None F h k = tt
    of-offered (Some a) F h k = k a h

  parts-type : (s : Supply) (e : Ex) → SetsTyped s g over_a_view e → TypeKept g e (view_listed (λ a. source_parts (a ∷ [])) s e)
  parts-type s (fun1 m f (comp_ex e (from (name_pat y) (seen_ex (repr k rs) (set_dom ms es d) ns js) hs))) h =
      of-offered m f y (seen_ex (repr k rs) (set_dom ms es d) ns js) e hs (view_listing s.one s.other s.parts (seen_ex (repr k rs)
      (set_dom ms es d) ns js)) (λ a. source_parts (a ∷ []) (fun1 m f (comp_ex e (from (name_pat y) (seen_ex (repr k rs) (set_dom ms es d)
      ns js) hs)))) (let c = h.1 in listed-fits s g y e hs k rs ms es d ns js h.0 (c.1.0.0.1, c.1.0.1))
      (part-type m f y (seen_ex (repr k rs) (set_dom ms es d) ns js) e hs)
  parts-type s (fun1 m f (comp_ex e (from (name_pat y) t hs))) h = let c : FoldTyped s g y t e hs = h.0 in no c.view
  parts-type s _ h = tt

  alone-types : (s : Supply) (e : Ex) → SetsTyped s g of_one_view e → TypeKept g e (view_listed source_alone s e)
  alone-types s (fun1 m f (comp_ex e (from (name_pat y) (seen_ex (repr k rs) (set_dom ms es d) ns js) hs))) h =
      of-offered m f y (seen_ex (repr k rs) (set_dom ms es d) ns js) e hs (view_listing s.one s.other s.parts (seen_ex (repr k rs)
      (set_dom ms es d) ns js)) (λ a. source_alone a (fun1 m f (comp_ex e (from (name_pat y) (seen_ex (repr k rs) (set_dom ms es d)
      ns js) hs)))) (let c = h.1 in listed-fits s g y e hs k rs ms es d ns js h.0 (c.1.0.0.1, c.1.0.1))
      (alone-type m f y (seen_ex (repr k rs) (set_dom ms es d) ns js) e hs)
  alone-types s (fun1 m f (comp_ex e (from (name_pat y) t hs))) h = let c : FoldTyped s g y t e hs = h.0 in no c.view
  alone-types s _ h = tt

  each-type : (s : Supply) (r : KindRule) (e : Ex) → is_of_sets r ≡ true → SetsTyped s g r e → TypeKept g e (kind_rewrite s g r e)
  each-type s cell_of_an_atom e i h = atom-type e h
  each-type s over_a_view e i h = parts-type s e h
  each-type s of_one_view e i h = alone-types s e h
  each-type s member_at_a_cell e i h = asks-type e
  each-type s size_at_the_marker e i h = marker-type s e h
  each-type s size_of_slots e i h = slots-type s e h
  each-type s _ e i h = no i

-- Types stay.
pub set-rules-keep-types : SetRulesKeepTypes
set-rules-keep-types s g r e f q i h = subst (λ z. TypeKept g e z) q (each-type g s r e i h)
