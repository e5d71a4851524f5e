-- Rules that put terms for a name keep marks.
use Rattle.std.proofs.Common.{◌≡◌, refl, subst, Bool, true, false, if◌then◌else◌, List, [], ◌∷◌, map, Option, Some, None}
use Rattle.ess_semantics.specs.declared.words.Fun.{Fun}
use Rattle.ess_semantics.specs.Lists.{and_then}
use Rattle.ess_semantics.specs.Values.{Text}
use Rattle.ess_semantics.specs.Names.{Names}
use Rattle.ess_semantics.specs.Trees.{word, matrix_literal, mset_literal, name_pat, Ex, Exs, node_ex, comp_ex, fun1, no_exs, more_exs, Gens, no_gens, from}
use Rattle.ess_semantics.specs.Types.{Ty}
use Rattle.ess_semantics.specs.ExpressionJudgements.{forgets_order}
use Rattle.ess_rules_laws.specs.SourceRules.{is_marked, list_of, each_fold, fold_items}
use Rattle.ess_rules_laws.specs.SpliceRules.{splice}
use Rattle.ess_rules_laws.specs.Listings.{Alternative, each_item}
use Rattle.ess_rules_laws.specs.ListedSources.{laid_out, put_listed, each_put, source_alone, source_parts}
use Rattle.ess_refine_laws.specs.MarksStay.{HasMarks, HaveMarks}
use Rattle.ess_refine_laws.specs.Everywhere.{extreme}
use Rattle.ess_refine_laws.specs.ExtremeRules.{is_extreme}
use Rattle.ess_refine_laws.specs.ExtremeAlternatives.{put_alternative, extreme_or, each_extreme, each_size, past_all, extreme_alternatives}
use Rattle.ess_refine_laws.specs.AllRules.{Rule, over_a_literal, over_a_source, of_one_source, over_a_comprehension, least_of_alternatives, Supply, OfSome, offered, only_one, source_listed, source_listed_once, extremes_listed, rewrite}
use Rattle.ess_rules_types_laws.specs.TypesOfSources.{PutFits, EachPutFits, are_some, puts_terms, TermsFit}
use Rattle.ess_rules_marks_laws.proofs.DecidedOps.{is_fit, fit-of}
use Rattle.ess_rules_marks_laws.proofs.Grows.{Grows, as_it_is, a_node, a_comp, EachGrows, none_grow, more_grow, no_gens_grow, cond_grows, mark-is, gens-are, MarksGrow, grown}
use Rattle.ess_put_marks_laws.specs.MarksOfTerms.{EachMarked, OfferedMarked, SourceRulesKeepMarks}
use Rattle.ess_put_marks_laws.proofs.MarksOfListed.{listed-marks}

pub fold-fit : (m : Bool) (f : Fun) → is_marked m f ≡ true → is_fit m (word f) ≡ true
fold-fit true Fun.And i = refl
fold-fit true Fun.Or i = refl
fold-fit false Fun.Sum i = refl
fold-fit false Fun.Product i = refl
fold-fit true _ i = cc
fold-fit false _ i = cc

pub extreme-fit : (f : Fun) → is_extreme f ≡ true → is_fit false (word f) ≡ true
extreme-fit Fun.Min i = refl
extreme-fit Fun.Max i = refl
extreme-fit _ i = cc

order-fit : (g : Names Ty) (m : Bool) (f : Fun) (l : Ex) → forgets_order (word f) ≡ true → HasMarks (fun1 m f l) g →
    is_fit m (word f) ≡ true
order-fit g m Fun.And l i h = fit-of m (word Fun.And) refl (mark-is g m (word Fun.And) (more_exs l no_exs) refl h)
order-fit g m Fun.Or l i h = fit-of m (word Fun.Or) refl (mark-is g m (word Fun.Or) (more_exs l no_exs) refl h)
order-fit g m Fun.Sum l i h = fit-of m (word Fun.Sum) refl (mark-is g m (word Fun.Sum) (more_exs l no_exs) refl h)
order-fit g m Fun.Product l i h = fit-of m (word Fun.Product) refl (mark-is g m (word Fun.Product) (more_exs l no_exs) refl h)
order-fit g m Fun.Min l i h = fit-of m (word Fun.Min) refl (mark-is g m (word Fun.Min) (more_exs l no_exs) refl h)
order-fit g m Fun.Max l i h = fit-of m (word Fun.Max) refl (mark-is g m (word Fun.Max) (more_exs l no_exs) refl h)
order-fit g m Fun.ToSet l i h = fit-of m (word Fun.ToSet) refl (mark-is g m (word Fun.ToSet) (more_exs l no_exs) refl h)
order-fit g m Fun.ToMSet l i h = fit-of m (word Fun.ToMSet) refl (mark-is g m (word Fun.ToMSet) (more_exs l no_exs) refl h)
order-fit g m Fun.AllDiff l i h = fit-of m (word Fun.AllDiff) refl (mark-is g m (word Fun.AllDiff) (more_exs l no_exs) refl h)
order-fit g m _ l i h = cc

module _ (g : Names Ty) where
  module _ (y : Text) (t e : Ex) (hs : Gens) (v : HasMarks (comp_ex e (from (name_pat y) t hs)) g) where
    module _ (m : Bool) (f : Fun) (i : is_fit m (word f) ≡ true) where
      one-put : (a : Alternative) → PutFits g y t e hs a → HasMarks (laid_out a) g → Grows g (fun1 m f (put_listed y e hs a))
      one-put a h k = a_node i (more_grow (as_it_is (listed-marks g y t e hs a h k v)) none_grow)

      each-put : (l : List Alternative) → EachPutFits g y t e hs l → EachMarked g l → EachGrows g (each_put m f y e hs l)
      each-put [] h k = none_grow
      each-put (a ∷ l) h k = more_grow (one-put a h.0 k.0) (each-put l h.1 k.1)

      each-fold : (es : Exs) → EachPutFits g y t e hs (each_item es) → HaveMarks es g → EachGrows g (each_fold m f y e hs es)
      each-fold no_exs h k = none_grow
      each-fold (more_exs a es) h k = more_grow (one-put (record { gens = no_gens; item = a }) h.0 (tt, k.0)) (each-fold es h.1 k.1)

    -- The alternatives of the comprehension have marks.
    flat-marked : (l : List Alternative) → EachPutFits g y t e hs l → EachMarked g l → EachMarked g (map (put_alternative y e hs) l)
    flat-marked [] h k = tt
    flat-marked (a ∷ l) h k = (listed-marks g y t e hs a h.0 k.0 v, flat-marked l h.1 k.1)

  pub spliced : (s : Supply) (e : Ex) → TermsFit s g over_a_comprehension e → MarksGrow g e (splice e)
  spliced s (comp_ex e (from (name_pat y) (comp_ex h ks) hs)) k =
      λ v. as_it_is (listed-marks g y (comp_ex h ks) e hs (record { gens = ks; item = h }) k v.0.1 v)
  spliced s _ k = tt

  over-items : (m : Bool) (f : Fun) (y : Text) (t e : Ex) (hs : Gens) (es : Exs) → EachPutFits g y t e hs (each_item es) →
      (HasMarks t g → HaveMarks es g) → (c : Bool) → is_marked m f ≡ c →
      MarksGrow g (fun1 m f (comp_ex e (from (name_pat y) t hs))) (if c then Some (fun1 m f (list_of (each_fold m f y e hs es))) else None)
  over-items m f y t e hs es h k true i = λ v.
      a_node (fold-fit m f i) (more_grow (a_node refl (each-fold y t e hs v.1.0 m f (fold-fit m f i) es h (k v.1.0.0.1))) none_grow)
  over-items m f y t e hs es h k false i = tt

  pub literal : (s : Supply) (e : Ex) → TermsFit s g over_a_literal e → MarksGrow g e (fold_items e)
  literal s (fun1 m f (comp_ex e (from (name_pat y) (node_ex false matrix_literal es) hs))) k =
      over-items m f y (node_ex false matrix_literal es) e hs es k (λ h. h.1) (is_marked m f) refl
  literal s (fun1 m f (comp_ex e (from (name_pat y) (node_ex false mset_literal es) hs))) k =
      over-items m f y (node_ex false mset_literal es) e hs es k (λ h. h.1) (is_marked m f) refl
  literal s _ k = tt

  pub source : (s : Supply) (e : Ex) → TermsFit s g over_a_source e → OfferedMarked s g over_a_source e →
      MarksGrow g e (source_listed s g e)
  source s (fun1 m f (comp_ex e (from (name_pat y) t hs))) k n = go (offered s g t) k n
    where
      part : (l : List Alternative) → EachPutFits g y t e hs l → EachMarked g l → (c : Bool) → is_marked m f ≡ c →
          MarksGrow g (fun1 m f (comp_ex e (from (name_pat y) t hs))) (if c then Some (fun1 m f (list_of
          (each_put m f y e hs l))) else None)
      part l h n true i = λ v.
          a_node (fold-fit m f i) (more_grow (a_node refl (each-put y t e hs v.1.0 m f (fold-fit m f i) l h n)) none_grow)
      part l h n false i = tt

      go : (o : Option (List Alternative)) → OfSome o (EachPutFits g y t e hs) → OfSome o (EachMarked g) →
          MarksGrow g (fun1 m f (comp_ex e (from (name_pat y) t hs)))
          (and_then o (λ l. source_parts l (fun1 m f (comp_ex e (from (name_pat y) t hs)))))
      go None h n = tt
      go (Some l) h n = part l h n (is_marked m f) refl
  source s _ k n = tt

  pub one-source : (s : Supply) (e : Ex) → TermsFit s g of_one_source e → OfferedMarked s g of_one_source e →
      MarksGrow g e (source_listed_once s g e)
  one-source s (fun1 m f (comp_ex e (from (name_pat y) t hs))) k n = go (offered s g t) k n
    where
      part : (a : Alternative) → PutFits g y t e hs a → HasMarks (laid_out a) g → (c : Bool) → forgets_order (word f) ≡ c →
          MarksGrow g (fun1 m f (comp_ex e (from (name_pat y) t hs))) (if c then Some (fun1 m f (put_listed y e hs a)) else None)
      part a h n true i = λ v. one-put y t e hs v.1.0 m f (order-fit g m f (comp_ex e (from (name_pat y) t hs)) i v) a h n
      part a h n false i = tt

      go : (o : Option (List Alternative)) → OfSome o (EachPutFits g y t e hs) → OfSome o (EachMarked g) →
          MarksGrow g (fun1 m f (comp_ex e (from (name_pat y) t hs)))
          (and_then (only_one o) (λ a. source_alone a (fun1 m f (comp_ex e (from (name_pat y) t hs)))))
      go None h n = tt
      go (Some []) h n = tt
      go (Some (a ∷ [])) h n = part a h.0 n.0 (forgets_order (word f)) refl
      go (Some (a ∷ b ∷ l)) h n = tt
  one-source s _ k n = tt

  -- ---- the least of several alternatives

  least-grows : (f : Fun) → is_extreme f ≡ true → (a : Alternative) → HasMarks (laid_out a) g → Grows g (extreme f (laid_out a))
  least-grows f i a h = a_node refl (more_grow (a_comp
      (cond_grows (a_node refl (more_grow (a_comp (gens-are g a.gens h.0) (as_it_is tt)) none_grow)) no_gens_grow)
      (a_node (extreme-fit f i) (more_grow (as_it_is h) none_grow))) none_grow)

  number-grows : (f : Fun) → is_extreme f ≡ true → (m : Ex) → Grows g m → (a : Alternative) → HasMarks (laid_out a) g →
      Grows g (extreme_or f m a)
  number-grows f i m k a h = a_node refl (more_grow (least-grows f i a h) (more_grow (a_node refl (more_grow
      (a_node refl (more_grow (a_node refl (more_grow (a_node refl (more_grow (a_comp (gens-are g a.gens h.0) (as_it_is tt)) none_grow))
      none_grow)) none_grow)) (more_grow k none_grow))) none_grow))

  -- The least of each alternative.
  pub each-least : (f : Fun) → is_extreme f ≡ true → (m : Ex) → Grows g m → (l : List Alternative) → EachMarked g l →
      EachGrows g (each_extreme f m l)
  each-least f i m k [] h = none_grow
  each-least f i m k (a ∷ l) h = more_grow (number-grows f i m k a h.0) (each-least f i m k l h.1)

  each-sized : (l : List Alternative) → EachMarked g l → EachGrows g (each_size l)
  each-sized [] h = none_grow
  each-sized (a ∷ l) h = more_grow (a_node refl (more_grow (a_comp (gens-are g a.gens h.0.0) (a_node refl (more_grow
      (as_it_is h.0.1) none_grow)))
      none_grow)) (each-sized l h.1)

  sizes-grow : (l : List Alternative) → EachMarked g l → Grows g (fun1 false Fun.Sum (list_of (each_size l)))
  sizes-grow l h = a_node refl (more_grow (a_node refl (each-sized l h)) none_grow)

  -- The number past all items.
  pub past-grows : (f : Fun) → is_extreme f ≡ true → (l : List Alternative) → EachMarked g l → Grows g (past_all f l)
  past-grows Fun.Min i l h = sizes-grow l h
  past-grows Fun.Max i l h = a_node refl (more_grow (sizes-grow l h) none_grow)
  past-grows _ i l h = cc

  pub least : (s : Supply) (e : Ex) → TermsFit s g least_of_alternatives e → OfferedMarked s g least_of_alternatives e →
      MarksGrow g e (extremes_listed s g e)
  least s (fun1 false f (comp_ex e (from (name_pat y) t hs))) k n = go (offered s g t) k.1 n
    where
      root : Ex
      root = fun1 false f (comp_ex e (from (name_pat y) t hs))

      part : (l : List Alternative) → EachPutFits g y t e hs l → EachMarked g l → (c : Bool) → is_extreme f ≡ c →
          MarksGrow g root (if c then Some (fun1 false f (list_of (each_extreme f (past_all f (map (put_alternative y e hs) l))
          (map (put_alternative y e hs) l)))) else None)
      part l h n true i = λ v.
          let w = flat-marked y t e hs v.1.0 l h n in
          let p = map (put_alternative y e hs) l in
          a_node (extreme-fit f i) (more_grow (a_node refl (each-least f i (past_all f p) (past-grows f i p w) p w)) none_grow)
      part l h n false i = tt

      go : (o : Option (List Alternative)) → OfSome o (λ l. (are_some l ≡ true) × EachPutFits g y t e hs l) → OfSome o (EachMarked g) →
          MarksGrow g root (and_then o (λ l. extreme_alternatives (map (put_alternative y e hs) l) root))
      go None h n = tt
      go (Some l) h n = part l h.1 n (is_extreme f) refl
  least s _ k n = tt

module _ (s : Supply) (g : Names Ty) where
  each-grows : (r : Rule) (e : Ex) → puts_terms r ≡ true → TermsFit s g r e → OfferedMarked s g r e → MarksGrow g e (rewrite s g r e)
  each-grows over_a_comprehension e k h n = spliced g s e h
  each-grows over_a_literal e k h n = literal g s e h
  each-grows over_a_source e k h n = source g s e h n
  each-grows of_one_source e k h n = one-source g s e h n
  each-grows least_of_alternatives e k h n = least g s e h n
  each-grows _ e k h n = cc

-- Marks stay.
pub source-rules-keep-marks : SourceRulesKeepMarks
source-rules-keep-marks s g r e f q k h n t i m =
    grown g f (subst (λ z. MarksGrow g e z) q (each-grows s g r e k h n) m) t i
