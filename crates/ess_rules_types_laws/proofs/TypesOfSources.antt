-- Rules that put terms for a name keep types.
use Rattle.std.proofs.Common.{◌≡◌, refl, sym, ap, ◌∙◌, Bool, true, false, if◌then◌else◌, List, [], ◌∷◌, Option, Some, None, option_map}
use Rattle.ess_semantics.specs.declared.words.Fun.{Fun}
use Rattle.ess_semantics.specs.Lists.{and_then}
use Rattle.ess_semantics.specs.Values.{Text, a_matrix}
use Rattle.ess_semantics.specs.Names.{Names}
use Rattle.ess_semantics.specs.Trees.{word, matrix_literal, mset_literal, name_pat, Ex, Exs, node_ex, comp_ex, fun1, no_exs, more_exs, Gens, no_gens, from}
use Rattle.ess_semantics.specs.Types.{Ty, any_ty, bool_ty, int_ty, named_ty, compound, compound2, join}
use Rattle.ess_semantics.specs.OperatorTypes.{type_of_op, list_ty, chosen_ty}
use Rattle.ess_semantics.specs.Typing.{type_of}
use Rattle.ess_semantics.specs.ExpressionJudgements.{forgets_order}
use Rattle.ess_rules_laws.specs.SourceRules.{is_marked, list_of, each_fold, fold_items}
use Rattle.ess_rules_laws.specs.SpliceRules.{splice}
use Rattle.ess_rules_laws.specs.Listings.{Alternative, each_item}
use Rattle.ess_rules_laws.specs.ListedSources.{put_listed, each_put, source_alone, source_parts}
use Rattle.ess_refine_laws.specs.TypesStay.{KeepsType}
use Rattle.ess_refine_laws.specs.ExtremeRules.{is_extreme}
use Rattle.ess_refine_laws.specs.AllRules.{over_a_literal, over_a_source, of_one_source, over_a_comprehension, Supply, OfSome, offered, only_one, source_listed, source_listed_once}
use Rattle.ess_refine_types_laws.proofs.TypeParts.{one-is, one-to, given-is, TypeKept}
use Rattle.ess_refine_types_laws.proofs.TypesOfListed.{AllOf, list-type, some-true, all-true, sum-type}
use Rattle.ess_rules_types_laws.specs.TypesOfSources.{PutFits, EachPutFits, TermsFit}
use Rattle.ess_rules_types_laws.proofs.PutListed.{listed-type}

-- ---- folds

-- What a fold gives.
abbrev pub folded : Bool → Ty
folded true = bool_ty
folded false = int_ty

folds-to : (k : Ty) (o : Option Ty) (v : Ty) → and_then o (λ e. option_map (λ u. k) (join e k)) ≡ Some v → v ≡ k
folds-to k None v q = cc
folds-to k (Some e) v q = (given-is (join e k) k v q).1

pub fold-gives : (m : Bool) (f : Fun) → is_marked m f ≡ true → (t v : Ty) → type_of_op (word f) (t ∷ []) ≡ Some v → v ≡ folded m
fold-gives true Fun.And i t v q = folds-to bool_ty (list_ty t) v q
fold-gives true Fun.Or i t v q = folds-to bool_ty (list_ty t) v q
fold-gives false Fun.Sum i t v q = folds-to int_ty (list_ty t) v q
fold-gives false Fun.Product i t v q = folds-to int_ty (list_ty t) v q
fold-gives true _ i t v q = cc
fold-gives false _ i t v q = cc

module _ (g : Names Ty) where
  product-type : (es : Exs) → AllOf g int_ty es → type_of (fun1 false Fun.Product (node_ex false matrix_literal es)) g ≡ Some int_ty
  product-type no_exs h = refl
  product-type (more_exs e es) h =
      one-to (type_of (node_ex false matrix_literal (more_exs e es)) g) (type_of_op (word Fun.Product)) (compound2 a_matrix int_ty int_ty)
      int_ty (list-type g int_ty refl refl e es h) refl

  pub list-gives : (m : Bool) (f : Fun) → is_marked m f ≡ true → (es : Exs) → AllOf g (folded m) es →
      type_of (fun1 m f (list_of es)) g ≡ Some (folded m)
  list-gives true Fun.And i es h = all-true g es h
  list-gives true Fun.Or i es h = some-true g es h
  list-gives false Fun.Sum i es h = sum-type g es h
  list-gives false Fun.Product i es h = product-type es h
  list-gives true _ i es h = cc
  list-gives false _ i es h = cc

  -- The fold of a comprehension that keeps its type.
  fold-kept : (m : Bool) (f : Fun) (c d : Ex) → KeepsType g c d → KeepsType g (fun1 m f c) (fun1 m f d)
  fold-kept m f c d k v q =
      let r = one-is (type_of c g) (type_of_op (word f)) v q in one-to (type_of d g) (type_of_op (word f)) r.0 v (k r.0 r.1) r.2

  -- The same with the type that folds have.
  fold-typed : (m : Bool) (f : Fun) → is_marked m f ≡ true → (c d : Ex) → KeepsType g c d → (v : Ty) → type_of (fun1 m f c) g ≡ Some v →
      (v ≡ folded m) × (type_of (fun1 m f d) g ≡ Some (folded m))
  fold-typed m f i c d k v q =
      let r = one-is (type_of c g) (type_of_op (word f)) v q in
      let j = fold-gives m f i r.0 v r.2 in (j, fold-kept m f c d k v q ∙ ap Some j)

  module _ (m : Bool) (f : Fun) (i : is_marked m f ≡ true) (y : Text) (t e : Ex) (hs : Gens) (v : Ty)
      (q : type_of (fun1 m f (comp_ex e (from (name_pat y) t hs))) g ≡ Some v) where
    one-put : (a : Alternative) → PutFits g y t e hs a → type_of (fun1 m f (put_listed y e hs a)) g ≡ Some (folded m)
    one-put a h = (fold-typed m f i (comp_ex e (from (name_pat y) t hs)) (put_listed y e hs a) (listed-type g y t e hs a h) v q).1

    each-put : (l : List Alternative) → EachPutFits g y t e hs l → AllOf g (folded m) (each_put m f y e hs l)
    each-put [] h = tt
    each-put (a ∷ l) h = (one-put a h.0, each-put l h.1)

    each-fold : (es : Exs) → EachPutFits g y t e hs (each_item es) → AllOf g (folded m) (each_fold m f y e hs es)
    each-fold no_exs h = tt
    each-fold (more_exs a es) h = (one-put (record { gens = no_gens; item = a }) h.0, each-fold es h.1)

    same-fold : v ≡ folded m
    same-fold = let r = one-is (type_of (comp_ex e (from (name_pat y) t hs)) g) (type_of_op (word f)) v q in fold-gives m f i r.0 v r.2

  pub spliced : (s : Supply) (e : Ex) → TermsFit s g over_a_comprehension e → TypeKept g e (splice e)
  spliced s (comp_ex e (from (name_pat y) (comp_ex h ks) hs)) k = listed-type g y (comp_ex h ks) e hs (record { gens = ks; item = h }) k
  spliced s _ k = tt

  over-items : (m : Bool) (f : Fun) (y : Text) (t e : Ex) (hs : Gens) (es : Exs) → EachPutFits g y t e hs (each_item es) →
      (c : Bool) → is_marked m f ≡ c →
      TypeKept g (fun1 m f (comp_ex e (from (name_pat y) t hs))) (if c then Some (fun1 m f (list_of (each_fold m f y e hs es))) else None)
  over-items m f y t e hs es h true i = λ v q.
      list-gives m f i (each_fold m f y e hs es) (each-fold m f i y t e hs v q es h) ∙ ap Some (sym (same-fold m f i y t e hs v q))
  over-items m f y t e hs es h false i = tt

  pub literal : (s : Supply) (e : Ex) → TermsFit s g over_a_literal e → TypeKept g e (fold_items e)
  literal s (fun1 m f (comp_ex e (from (name_pat y) (node_ex false matrix_literal es) hs))) k =
      over-items m f y (node_ex false matrix_literal es) e hs es k (is_marked m f) refl
  literal s (fun1 m f (comp_ex e (from (name_pat y) (node_ex false mset_literal es) hs))) k =
      over-items m f y (node_ex false mset_literal es) e hs es k (is_marked m f) refl
  literal s _ k = tt

  pub source : (s : Supply) (e : Ex) → TermsFit s g over_a_source e → TypeKept g e (source_listed s g e)
  source s (fun1 m f (comp_ex e (from (name_pat y) t hs))) k = go (offered s g t) k
    where
      part : (l : List Alternative) → EachPutFits g y t e hs l → (c : Bool) → is_marked m f ≡ c →
          TypeKept g (fun1 m f (comp_ex e (from (name_pat y) t hs))) (if c then Some (fun1 m f (list_of (each_put m f y e hs l))) else None)
      part l h true i = λ v q.
          list-gives m f i (each_put m f y e hs l) (each-put m f i y t e hs v q l h) ∙ ap Some (sym (same-fold m f i y t e hs v q))
      part l h false i = tt

      go : (o : Option (List Alternative)) → OfSome o (EachPutFits g y t e hs) →
          TypeKept g (fun1 m f (comp_ex e (from (name_pat y) t hs)))
          (and_then o (λ l. source_parts l (fun1 m f (comp_ex e (from (name_pat y) t hs)))))
      go None h = tt
      go (Some l) h = part l h (is_marked m f) refl
  source s _ k = tt

  pub one-source : (s : Supply) (e : Ex) → TermsFit s g of_one_source e → TypeKept g e (source_listed_once s g e)
  one-source s (fun1 m f (comp_ex e (from (name_pat y) t hs))) k = go (offered s g t) k
    where
      part : (a : Alternative) → PutFits g y t e hs a → (c : Bool) →
          TypeKept g (fun1 m f (comp_ex e (from (name_pat y) t hs))) (if c then Some (fun1 m f (put_listed y e hs a)) else None)
      part a h true = fold-kept m f (comp_ex e (from (name_pat y) t hs)) (put_listed y e hs a) (listed-type g y t e hs a h)
      part a h false = tt

      go : (o : Option (List Alternative)) → OfSome o (EachPutFits g y t e hs) →
          TypeKept g (fun1 m f (comp_ex e (from (name_pat y) t hs)))
          (and_then (only_one o) (λ a. source_alone a (fun1 m f (comp_ex e (from (name_pat y) t hs)))))
      go None h = tt
      go (Some []) h = tt
      go (Some (a ∷ [])) h = part a h.0 (forgets_order (word f))
      go (Some (a ∷ b ∷ l)) h = tt
  one-source s _ k = tt

  -- ---- the least of several alternatives

  -- The comprehension of which the least is a number is of numbers.
  pub numbers-of : (f : Fun) → is_extreme f ≡ true → (o : Option (Names Ty)) (F : Names Ty → Option Ty) →
      and_then (and_then o (λ h. option_map (compound2 a_matrix int_ty) (F h))) (λ t. type_of_op (word f) (t ∷ [])) ≡ Some int_ty →
      (h : Names Ty) × (o ≡ Some h) × (F h ≡ Some int_ty)
  numbers-of f i None F q = ([], cc, cc)
  numbers-of f i (Some h) F q = (h, refl, of f i (F h) q)
    where
      picks : (t : Ty) → chosen_ty t ≡ Some int_ty → t ≡ int_ty
      picks int_ty q = refl
      picks any_ty q = cc
      picks bool_ty q = cc
      picks (named_ty a) q = cc
      picks (compound k ts) q = cc

      of : (f : Fun) → is_extreme f ≡ true → (p : Option Ty) →
          and_then (option_map (compound2 a_matrix int_ty) p) (λ t. type_of_op (word f) (t ∷ [])) ≡ Some int_ty → p ≡ Some int_ty
      of f i None q = cc
      of Fun.Min i (Some t) q = ap Some (picks t q)
      of Fun.Max i (Some t) q = ap Some (picks t q)
      of _ i (Some t) q = cc
