-- Rules over sources that keep values at their root.
use Rattle.std.proofs.Common.{◌≡◌, refl, sym, ap, ◌∙◌, subst, Bool, true, false, ◌&&◌, if◌then◌else◌, List, [], ◌∷◌, map, Option, Some, None, option_map}
use Rattle.std.specs.Prelude.{IsTrue, is_some}
use Rattle.ess_semantics.specs.declared.words.Fun.{Fun}
use Rattle.ess_semantics.specs.Lists.{and_then, all_some}
use Rattle.ess_semantics.specs.Values.{Text, Value, items_of}
use Rattle.ess_semantics.specs.Collections.{count, sorted, mset_of}
use Rattle.ess_semantics.specs.Names.{Names}
use Rattle.ess_semantics.specs.Trees.{Op, word, matrix_literal, mset_literal, name_pat, Ex, Exs, node_ex, comp_ex, fun1, no_exs, more_exs, Gens, from}
use Rattle.ess_semantics.specs.Types.{Ty}
use Rattle.ess_semantics.specs.ExpressionJudgements.{forgets_order}
use Rattle.ess_semantics.specs.Operators.{value_of_op, value_of_node, list_value}
use Rattle.ess_semantics.specs.Meaning.{Env, meaning, meanings, items_under}
use Rattle.ess_semantics.specs.Contexts.{Each, EachOf, EachIn}
use Rattle.ess_semantics.specs.Substitution.{substitute, substitute_gens, for_name, NamesAre, NamesAreExs, NamesAreGens}
use Rattle.ess_semantics.proofs.Orders.{to_list-of_list}
use Rattle.ess_guard_laws.specs.Supplied.{Unless}
use Rattle.ess_rules_laws.specs.Rules.{Unused, IsNumber}
use Rattle.ess_rules_laws.specs.Listings.{Alternative, all_listed, each_item}
use Rattle.ess_rules_laws.specs.SourceRules.{is_marked, list_of, each_fold, fold_items, ItemsApart}
use Rattle.ess_rules_laws.specs.SpliceRules.{splice, NamesApart}
use Rattle.ess_rules_laws.specs.ListedSources.{source_alone, each_put, source_parts, EachApart}
use Rattle.ess_rules_laws.proofs.Simulation.{any}
use Rattle.ess_rules_laws.proofs.Agreement.{outside}
use Rattle.ess_rules_laws.proofs.Permutations.{Perm, perm-of}
use Rattle.ess_rules_laws.proofs.Listing.{each-perm}
use Rattle.ess_rules_laws.proofs.ListedItems.{each-listed}
use Rattle.ess_rules_laws.proofs.MembershipRules.{values, all-there as all-have}
use Rattle.ess_semantics.proofs.Multisets.{count-sorted}
use Rattle.ess_rules_laws.proofs.Folds.{perm-counts}
use Rattle.ess_refine_laws.specs.ExtremeRules.{is_extreme}
use Rattle.ess_refine_laws.specs.ExtremeAlternatives.{put_alternative, each_extreme, past_all, extreme_alternatives}
use Rattle.ess_refine_laws.specs.AllRules.{Rule, over_a_literal, over_a_source, of_one_source, over_a_comprehension, least_of_alternatives, Supply, offered, only_one, source_listed, source_listed_once, extremes_listed, OfSome, rewrite}
use Rattle.ess_refine_laws.specs.WhatRulesCountOn.{ListedApart, SourceListed, NumbersListed, CountsOn}
use Rattle.ess_values_along_laws.specs.Valued.{Valued, AllValued}
use Rattle.ess_values_along_laws.proofs.ValuesAlong.{values-along}
use Rattle.ess_values_terms_laws.proofs.ValuedForms.{all-there}
use Rattle.ess_values_terms_laws.proofs.ValuedLists.{list-valued, AnswerValued, when, answered}
use Rattle.ess_values_sources_laws.specs.SourcesKeepValues.{is_of_sources, OverNoSuchSet, SourcesKeepValues}
use Rattle.ess_values_sources_laws.proofs.CollectedLists.{list-some}
use Rattle.ess_values_sources_laws.proofs.SplicedValues.{AllOf, spliced-valued}
use Rattle.ess_values_sources_laws.proofs.PutValues.{Behind, Good, fold-valued, each-put-valued, inner, good-items, parts-valued, all-put-valued, alone-valued}
use Rattle.ess_values_sources_laws.proofs.LeastValues.{AllLaid, parted-valued}
use Rattle.ess_values_sources_laws.proofs.OfferedValues.{OfferUnder, items-under, offered-under}

-- ---- literals

fold-put : (m : Bool) (f : Fun) (y : Text) (e : Ex) (hs : Gens) (es : Exs) → each_fold m f y e hs es ≡ each_put m f y e hs (each_item es)
fold-put m f y e hs no_exs = refl
fold-put m f y e hs (more_exs a es) =
    ap (λ z. more_exs (fun1 m f (comp_ex (substitute (for_name y a) e) (substitute_gens (for_name y a) hs))) z) (fold-put m f y e hs es)

-- No name.
abbrev none : Text → Bool
none a = false

items-apart : (s : Text → Bool) (y : Text) (e : Ex) (hs : Gens) (es : Exs) → IsTrue (s y) → NamesAreExs s any es →
    NamesAreGens any (outside s) hs → NamesAre any (outside s) e → EachApart none s y e hs (each_item es)
items-apart s y e hs no_exs a b c d = tt
items-apart s y e hs (more_exs x es) a b c d = ((a, b.0, tt, c, d), items-apart s y e hs es a b.1 c d)

module _ (env : Env) where
  abbrev A : Bool → Ex → Option Ex → Type 0
  A w e r = AnswerValued w e r env

  -- The folds for the items of a literal.
  literal-valued : (s : Text → Bool) (m w : Bool) (f : Fun) (op : Op) (y : Text) (e : Ex) (hs : Gens) (es : Exs) → is_marked m f ≡ true →
      EachApart none s y e hs (each_item es) → Valued w (fun1 m f (comp_ex e (from (name_pat y) (node_ex false op es) hs))) env →
      AllValued false false es env →
      (perm : (vs : List Value) → (w : Value) × (value_of_op op vs ≡ Some w) × Perm (items_of w) vs) →
      ((os : List (Option Value)) → value_of_node op os ≡ and_then (all_some os) (value_of_op op)) →
      Valued w (fun1 m f (list_of (each_fold m f y e hs es))) env
  literal-valued s m w f op y e hs es k n h v perm plain =
      let c = inner y e hs env m w f (comp_ex e (from (name_pat y) (node_ex false op es) hs)) h in
      let i = all-there es env v in
      let p = perm (values (meanings es env)) in
      let j = plain (meanings es env) ∙ ap (λ z. and_then z (value_of_op op)) (all-have (meanings es env) i) ∙ p.1 in
      fold-valued y e hs env none s m w f (list_of (each_fold m f y e hs es)) k
      (list-valued false (each_fold m f y e hs es) env
      (subst (λ z. AllValued false false z env) (sym (fold-put m f y e hs es))
      (each-put-valued y e hs env none s m f k (each_item es) n (values (meanings es env))
      (each-listed es env ∙ all-have (meanings es env) i)
      (each-perm (Good y e hs env) p.2 (good-items y e hs env (node_ex false op es) c p.0 j)) (items-under env es v))))

  literal : (w : Bool) (s : Text → Bool) (e : Ex) → ItemsApart s e → Valued w e env → A w e (fold_items e)
  literal w s (fun1 m f (comp_ex e (from (name_pat y) (node_ex false matrix_literal es) hs))) n h = go (is_marked m f) refl
    where
      go : (c : Bool) → is_marked m f ≡ c → A w (fun1 m f (comp_ex e (from (name_pat y) (node_ex false matrix_literal es) hs)))
          (if c then Some (fun1 m f (list_of (each_fold m f y e hs es))) else None)
      go true k = λ q. literal-valued s m w f matrix_literal y e hs es k (items-apart s y e hs es n.0 n.1 n.2 n.3) h
          (inner y e hs env m w f (comp_ex e (from (name_pat y) (node_ex false matrix_literal es) hs)) h).1.0.1
          (λ vs. (list_value vs, refl, perm-of (to_list-of_list vs))) (λ os. refl)
      go false k = tt
  literal w s (fun1 m f (comp_ex e (from (name_pat y) (node_ex false mset_literal es) hs))) n h = go (is_marked m f) refl
    where
      go : (c : Bool) → is_marked m f ≡ c → A w (fun1 m f (comp_ex e (from (name_pat y) (node_ex false mset_literal es) hs)))
          (if c then Some (fun1 m f (list_of (each_fold m f y e hs es))) else None)
      go true k = λ q. literal-valued s m w f mset_literal y e hs es k (items-apart s y e hs es n.0 n.1 n.2 n.3) h
          (inner y e hs env m w f (comp_ex e (from (name_pat y) (node_ex false mset_literal es) hs)) h).1.0.1
          (λ vs. (
            mset_of vs,
            refl,
            perm-counts (items_of (mset_of vs)) vs
                (λ u. ap (λ l. count l u) (to_list-of_list (sorted vs)) ∙ count-sorted vs u),
          )) (λ os. refl)
      go false k = tt
  literal w s _ n h = tt

  -- ---- sources

  source : (w : Bool) (s : Supply) (g : Names Ty) (e : Ex) → Unused s.one e → OverNoSuchSet over_a_source e → SourceListed s g e env →
      Valued w e env → A w e (source_listed s g e)
  source w s g (fun1 m f (comp_ex e (from (name_pat y) t hs))) n c k h =
      go (offered s g t) (offered-under env s g t n.0.1.1 c (inner y e hs env m w f (comp_ex e (from (name_pat y) t hs)) h).1.0) k
    where
      go : (o : Option (List Alternative)) → OfferUnder o env → OfSome o
          (λ l. ListedApart l (fun1 m f (comp_ex e (from (name_pat y) t hs))) env) →
          A w (fun1 m f (comp_ex e (from (name_pat y) t hs)))
          (and_then o (λ l. source_parts l (fun1 m f (comp_ex e (from (name_pat y) t hs)))))
      go None u k = tt
      go (Some l) u k = test (is_marked m f) refl
        where
          test : (c : Bool) → is_marked m f ≡ c → A w (fun1 m f (comp_ex e (from (name_pat y) t hs)))
              (if c then Some (fun1 m f (list_of (each_put m f y e hs l))) else None)
          test true i = λ q. parts-valued y e hs env k.0 k.1 m w f t l i k.2 h k.3.1 u
          test false i = tt
  source w s g _ n c k h = tt

  once : (w : Bool) (s : Supply) (g : Names Ty) (e : Ex) → Unused s.one e → OverNoSuchSet of_one_source e → SourceListed s g e env →
      Valued w e env → A w e (source_listed_once s g e)
  once w s g (fun1 m f (comp_ex e (from (name_pat y) t hs))) n c k h =
      go (offered s g t) (offered-under env s g t n.0.1.1 c (inner y e hs env m w f (comp_ex e (from (name_pat y) t hs)) h).1.0) k
    where
      go : (o : Option (List Alternative)) → OfferUnder o env → OfSome o
          (λ l. ListedApart l (fun1 m f (comp_ex e (from (name_pat y) t hs))) env) →
          A w (fun1 m f (comp_ex e (from (name_pat y) t hs)))
          (and_then (only_one o) (λ a. source_alone a (fun1 m f (comp_ex e (from (name_pat y) t hs)))))
      go None u k = tt
      go (Some []) u k = tt
      go (Some (a ∷ b ∷ l)) u k = tt
      go (Some (a ∷ [])) u k = when w (forgets_order (word f)) (fun1 m f (comp_ex e (from (name_pat y) t hs))) _ env
          (λ q. alone-valued y e hs env k.0 k.1 m w f t a k.2.0 h k.3.1 u.0 q)
  once w s g _ n c k h = tt

  least : (w : Bool) (s : Supply) (g : Names Ty) (e : Ex) → Unused s.one e → OverNoSuchSet least_of_alternatives e →
      NumbersListed s g e env → Valued w e env → A w e (extremes_listed s g e)
  least w s g (fun1 false f (comp_ex e (from (name_pat y) t hs))) n c k h =
      go (offered s g t) (offered-under env s g t n.0.1.1 c (inner y e hs env false w f (comp_ex e (from (name_pat y) t hs)) h).1.0) k
    where
      go : (o : Option (List Alternative)) → OfferUnder o env →
          OfSome o (λ l. ListedApart l (fun1 false f (comp_ex e (from (name_pat y) t hs))) env
          × EachOf (all_listed (map (put_alternative y e hs) l) env) (λ v. IsNumber (Some v))) →
          A w (fun1 false f (comp_ex e (from (name_pat y) t hs)))
          (and_then o (λ l. extreme_alternatives (map (put_alternative y e hs) l) (fun1 false f (comp_ex e (from (name_pat y) t hs)))))
      go None u k = tt
      go (Some l) u k = test (is_extreme f) refl
        where
          laid : AllLaid env (map (put_alternative y e hs) l)
          laid = all-put-valued y e hs env k.0.0 k.0.1 w f t l k.0.2 h k.0.3.1 u

          test : (b : Bool) → is_extreme f ≡ b → A w (fun1 false f (comp_ex e (from (name_pat y) t hs))) (if b
              then Some (fun1 false f (list_of (each_extreme f (past_all f (map (put_alternative y e hs) l))
              (map (put_alternative y e hs) l))))
              else None)
          test true i = λ q. (
            subst (λ z. Unless (w && false) (IsTrue (is_some z))) q h.0,
            (
              values-along.in_places (w && false) (list_of (each_extreme f (past_all f (map (put_alternative y e hs) l))
                  (map (put_alternative y e hs) l))) env
                  (parted-valued env f (map (put_alternative y e hs) l) i laid),
              tt,
            ),
          )
          test false i = tt
  least w s g _ n c k h = tt

  -- ---- comprehensions

  comprehension : (w : Bool) (r s : Text → Bool) (e : Ex) → NamesApart r s e → Valued w e env → A w e (splice e)
  comprehension w r s (comp_ex e (from (name_pat y) (comp_ex k ks) hs)) n h = λ q. (
    subst (λ z. IsTrue (is_some z)) q h.0,
    spliced-valued env.positions env.types env.cells r s y k n.0 n.1 ks hs e env.vals n.2 n.3 n.4 (list-some inner_items h.1.0.0)
        (all inner_items h.1.1) h.1.0.1,
  )
    where
      inner_items : Option (List Value)
      inner_items = items_under ks env (λ here. option_map (λ v. v ∷ []) (meaning k here))

      all : (o : Option (List Value)) → EachIn (option_map list_value o) (Behind y e hs env) → AllOf (Behind y e hs env) o
      all None a = tt
      all (Some xs) a = subst (λ l. Each l (Behind y e hs env)) (to_list-of_list xs) a
  comprehension w r s _ n h = tt

  -- ---- each rule

  each : (s : Supply) (g : Names Ty) (r : Rule) (e : Ex) → is_of_sources r ≡ true → Unused s.one e → OverNoSuchSet r e →
      CountsOn s g r e env → (w : Bool) → Valued w e env → A w e (rewrite s g r e)
  each s g over_a_literal e i n c k w h = literal w k.0 e k.1 h
  each s g over_a_source e i n c k w h = source w s g e n c k.0 h
  each s g of_one_source e i n c k w h = once w s g e n c k h
  each s g over_a_comprehension e i n c k w h = comprehension w k.0 k.1 e k.2 h
  each s g least_of_alternatives e i n c k w h = least w s g e n c k.2 h
  each s g r e i n c k w h = cc

-- What is proved of rules over sources and values.
pub sources-keep-values : SourcesKeepValues
sources-keep-values = λ s g r e f q i n c env k m w h. answered w e f (rewrite s g r e) env q (each env s g r e i n c k w h) m
