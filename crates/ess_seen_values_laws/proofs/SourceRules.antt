-- Rules of sources keep trees over views: over one source, at the first generator that isn't plain, and a fold of folds.
use Rattle.std.proofs.Common.{◌≡◌, refl, subst, ℕ, Bool, true, false, if◌then◌else◌, List, [], ◌∷◌, map, Option, Some, None, option_map}
use Rattle.std.specs.Prelude.{IsTrue, is_some}
use Rattle.ess_semantics.specs.declared.words.Fun.{Fun}
use Rattle.ess_semantics.specs.Lists.{and_then}
use Rattle.ess_semantics.specs.Values.{Text}
use Rattle.ess_semantics.specs.Order.{same_text}
use Rattle.ess_semantics.specs.Names.{Names}
use Rattle.ess_semantics.specs.Trees.{word, name_pat, Ex, comp_ex, fun1, no_exs, more_exs, Gens, no_gens, from}
use Rattle.ess_semantics.specs.Types.{Ty}
use Rattle.ess_semantics.specs.NamesAt.{names_behind}
use Rattle.ess_semantics.specs.ExpressionJudgements.{forgets_order}
use Rattle.ess_semantics.specs.Substitution.{substitute, substitute_gens, for_name}
use Rattle.ess_semantics.specs.Typed.{Typed}
use Rattle.ess_semantics.specs.Meaning.{Env, meaning, items_under}
use Rattle.ess_semantics.specs.Meets.{Meets, MeetsGens}
use Rattle.ess_semantics.specs.Contexts.{AtEach}
use Rattle.ess_rules_laws.specs.SourceRules.{is_marked}
use Rattle.ess_rules_laws.specs.SpliceRules.{append_gens}
use Rattle.ess_rules_laws.specs.Listings.{Alternative}
use Rattle.ess_rules_laws.specs.ListedSources.{Offers, laid_out, put_listed}
use Rattle.ess_rules_laws.proofs.Bindings.{at-each-map}
use Rattle.ess_rules_laws.proofs.Places.{at-each-join}
use Rattle.ess_refine_laws.specs.AllRules.{Supply, OfSome, only_one}
use Rattle.ess_refine_laws.specs.ExtremeAlternatives.{put_alternative}
use Rattle.ess_refine_laws.specs.ExtremeRules.{are_none}
use Rattle.ess_values_along_laws.specs.Valued.{Valued}
use Rattle.ess_values_terms_laws.proofs.ValuedForms.{there, all-there}
use Rattle.ess_values_sources_laws.proofs.CollectedLists.{some-list, list-some}
use Rattle.ess_values_sources_laws.proofs.ListedValues.{listed-sources-keep-values}
use Rattle.ess_values_sources_laws.proofs.PutValues.{fold-valued, inner}
use Rattle.ess_open_rules_laws.specs.OpenGenerators.{Opened, at_first_open, folds_nested, nested}
use Rattle.ess_open_rules_laws.specs.OpenSources.{all_offered, behind_gens, put_opened, comp_offered, over_one_opened}
use Rattle.ess_open_kept_laws.specs.OpenedAsks.{OfferedBehind, SourceBehind, OpenedAsks}
use Rattle.ess_open_kept_laws.proofs.OpenedFolds.{opened-are, nested-keeps}
use Rattle.ess_open_kept_laws.proofs.OpenedSources.{over_one-keeps}
use Rattle.ess_seen_laws.specs.Seen.{Kind, Bound, from_a_set, bound_types, SetTerm, Seen, Going, at_end, through, through_slots, among, where_holds}
use Rattle.ess_seen_values_laws.specs.Laws.{StaysAlike}
use Rattle.ess_seen_values_laws.proofs.Tails.{append-none, met-behind, under-behind, Tail, tails-valued}
use Rattle.ess_seen_values_laws.proofs.Names.{put}
use Rattle.ess_seen_values_laws.proofs.OpenedGens.{Holds, opened}
use Rattle.ess_seen_values_laws.proofs.Contexts.{at-bindings}
use Rattle.ess_seen_values_laws.proofs.ListsApart.{ListApart, list-behind}
use Rattle.ess_seen_values_laws.proofs.SourceOffers.{Fits, all-fits}

-- ---- of options

-- What is so of what is there.
pub of-some : {A : Type 0} (o : Option A) (P : A → Type 0) → ((a : A) → o ≡ Some a → P a) → OfSome o P
of-some None P f = tt
of-some (Some a) P f = f a refl

-- ---- values behind the plain generators

module _ (cells : Text → Option (Bool × List ℕ)) where
  -- What the source offers has values in its place.
  put-tail : {r : Names Bound} (x : Text) (scope : Text → Bool) (y : Text) (u e : Ex) (hs : Gens) (a : Alternative) →
      Fits x r scope y u e hs (a ∷ []) → (env : Env) → Typed (bound_types r) env → Meets u env →
      Valued false (comp_ex e (from (name_pat y) u hs)) env → Valued false (put_listed y e hs a) env
  put-tail x scope y u e hs a f env ty m v =
      let vu : Valued false u env = v.1.0 in
      let p = listed-sources-keep-values.in_parts (same_text x) (put scope x y) (a ∷ [])
      (fun1 true Fun.And (comp_ex e (from (name_pat y) u hs))) _ refl f.apart env (there u env vu, f.offers env ty m vu)
      (f.under env ty m vu) false (tt, (v, tt)) in
      p.1.0.1.0.1.0

  -- ---- one source

  -- What so comes of a fold: what the rule asks holds, and values stay.
  module _ (s : Supply) (m : Bool) (f : Fun) (marked : is_marked m f ≡ true) {b : Names Bound} {e : Ex} {n : Bool}
      (seen : Seen cells b e n) (env : Env) (w : Bool) (F : Ex) where
    -- The first generator that isn't plain is one over a set.
    module _ (g : Names Ty) (before : Gens) {around : Names Bound} (y : Text) (u : Ex) (k : Kind) (hs : Gens)
        (t : SetTerm cells around u k) (go : Going cells ((y, from_a_set k) ∷ around) hs b)
        (l : ListApart s.one around e (from (name_pat y) u hs))
        (met : AtEach before env (λ here. Typed (bound_types around) here × MeetsGens (from (name_pat y) u hs) here (Meets e)))
        (v : Valued false (comp_ex e (append_gens before (from (name_pat y) u hs))) env) where
      fits : (o : List Alternative) → all_offered s g u ≡ Some o → Fits s.one around l.scope.all y u e hs o
      fits o q = all-fits cells s g t go seen l o q

      asked : SourceBehind s g before e (from (name_pat y) u hs) env
      asked = of-some (all_offered s g u) (λ o. OfferedBehind before y e u hs o env) (λ o q. (
        same_text s.one,
        put l.scope.all s.one y,
        (fits o q).apart,
        at-each-join before env _ _ (λ here. IsTrue (is_some (meaning u here)) × Offers u o here)
            (λ here i j. (there u here j.0, (fits o q).offers here i.0 i.1.0 j.0)) met
            (under-behind before (from (name_pat y) u hs) env (λ z. Valued false e z) v.1),
      ))

      -- With the only alternative in its place.
      module _ (a : Alternative) (fit : Fits s.one around l.scope.all y u e hs (a ∷ [])) where
        abbrev put_item : Ex
        put_item = substitute (for_name y a.item) e

        abbrev put_gens : Gens
        put_gens = append_gens a.gens (substitute_gens (for_name y a.item) hs)

        tail : Tail e put_item (from (name_pat y) u hs) put_gens put_item (append_gens before put_gens) env
        tail = tails-valued e put_item (from (name_pat y) u hs) put_gens before env
            (at-each-map before env (λ here. Typed (bound_types around) here × MeetsGens (from (name_pat y) u hs) here (Meets e)) _
            (λ here i z.
            let p = put-tail s.one l.scope.all y u e hs a fit here i.0 i.1.0 (some-list _ z.0, z.1) in (list-some _ p.0, p.1)) met)
            (list-some _ v.0, v.1)

        put-valued : Valued w (fun1 m f (laid_out (behind_gens before (put_alternative y e hs a)))) env
        put-valued = fold-valued y e hs env (same_text s.one) (put l.scope.all s.one y) m w f
            (laid_out (behind_gens before (put_alternative y e hs a))) marked (
              some-list (items_under (append_gens before put_gens) env (λ here. option_map (λ v. v ∷ []) (meaning put_item here))) tail.0,
              tail.1,
            )

      valued : (o : Option (List Alternative)) → all_offered s g u ≡ o → option_map (λ a. fun1 m f (laid_out a))
          (only_one (option_map (map (λ a. behind_gens before (put_alternative y e hs a))) o)) ≡ Some F → Valued w F env
      valued None p q = cc
      valued (Some []) p q = cc
      valued (Some (a ∷ [])) p q = subst (λ z. Valued w z env)
          (let z : fun1 m f (laid_out (behind_gens before (put_alternative y e hs a))) ≡ F = cc in z) (put-valued a (fits (a ∷ []) p))
      valued (Some (a ∷ c ∷ o)) p q = cc

      at-source : option_map (λ a. fun1 m f (laid_out a)) (only_one (put_opened e before (from (name_pat y) u hs) (all_offered s g)))
          ≡ Some F → SourceBehind s g before e (from (name_pat y) u hs) env × Valued w F env
      at-source q = (asked, valued (all_offered s g u) refl q)

    at-first : (g : Names Ty) (before after : Gens) {around : Names Bound} → Going cells around after b →
        ListApart s.one around e after →
        AtEach before env (λ here. Typed (bound_types around) here × MeetsGens after here (Meets e)) →
        Valued false (comp_ex e (append_gens before after)) env →
        option_map (λ a. fun1 m f (laid_out a)) (only_one (put_opened e before after (all_offered s g))) ≡ Some F →
        SourceBehind s g before e after env × Valued w F env
    at-first g before after at_end l met v q = cc
    at-first g before after (through x k) l met v q = cc
    at-first g before after (through_slots x k) l met v q = cc
    at-first g before after (where_holds x k) l met v q = cc
    at-first g before after (among {k = k} {a = y} {s = u} {gs = hs} t go) l met v q =
        at-source g before y u k hs t go l met v q

    module _ {r : Names Bound} (g : Names Ty) (gs : Gens) (going : Going cells r gs b) (l : ListApart s.one r e gs) (holds : Holds r env)
        (met : Meets (fun1 m f (comp_ex e gs)) env) (v : Valued w (fun1 m f (comp_ex e gs)) env) where
      listed : Valued false (comp_ex e gs) env
      listed = inner [] e gs env m w f (comp_ex e gs) v

      opened-there : (o : Option Opened) → at_first_open gs ≡ o → option_map (λ a. fun1 m f (laid_out a))
          (only_one (and_then o (λ t. put_opened e t.before t.after (all_offered s (names_behind t.before g))))) ≡ Some F →
          OfSome o (λ t. SourceBehind s (names_behind t.before g) t.before e t.after env) × Valued w F env
      opened-there None p q = cc
      opened-there (Some t) p q =
          let o = opened cells going t p in
          let j : gs ≡ append_gens t.before t.after = opened-are gs t p in
          let c = subst (λ z. ListApart s.one r e z) j l in
          let i = met in
          at-first (names_behind t.before g) t.before t.after o.going
          (list-behind s.one r o.around e t.before t.after c (o.covers c.scope c.covers))
          (at-each-join t.before env (Holds o.around) (λ here. MeetsGens t.after here (Meets e))
          (λ here. Typed (bound_types o.around) here × MeetsGens t.after here (Meets e)) (λ here h n. (h.0, n)) (o.holds env holds)
          (met-behind t.before t.after env (Meets e) (subst (λ z. MeetsGens z env (Meets e)) j i.0)))
          (subst (λ z. Valued false (comp_ex e z) env) j listed) q

      -- Over one source.
      pub over-one : over_one_opened s g (fun1 m f (comp_ex e gs)) ≡ Some F → StaysAlike w (fun1 m f (comp_ex e gs)) F env
      over-one q =
          let x = there-so (forgets_order (word f)) q in
          let k = over_one-keeps s g (fun1 m f (comp_ex e gs)) F q env x.0 met in
          record { means = k.0; met = k.1; valued = x.1 }
        where
          there-so : (c : Bool) →
              (if c then option_map (λ a. fun1 m f (laid_out a)) (only_one (comp_offered s g e gs)) else None) ≡ Some F →
              OpenedAsks s g (fun1 m f (comp_ex e gs)) env × Valued w F env
          there-so true q = opened-there (at_first_open gs) refl q
          there-so false q = cc

  -- ---- a fold of folds

  one-there : {A : Type 0} (o : Option A) → IsTrue (is_some o) → IsTrue (is_some (option_map (λ v. v ∷ []) o))
  one-there None h = h
  one-there (Some v) h = refl

  module _ (m : Bool) (f : Fun) (marked : is_marked m f ≡ true) (e : Ex) (env : Env) (w : Bool) (F : Ex) (gs : Gens)
      (met : Meets (fun1 m f (comp_ex e gs)) env) (v : Valued w (fun1 m f (comp_ex e gs)) env) where
    whole : Valued false (comp_ex e gs) env
    whole = inner [] e gs env m w f (comp_ex e gs) v

    -- The fold behind the plain generators.
    abbrev within : Gens → Ex
    within hs = fun1 m f (comp_ex e hs)

    nested-valued : (t : Opened) → at_first_open gs ≡ Some t → Valued w (fun1 m f (comp_ex (within t.after) t.before)) env
    nested-valued t p =
        let c = subst (λ z. Valued false (comp_ex e z) env) (opened-are gs t p) whole in
        let r = tails-valued e (within t.after) t.after no_gens t.before env
        (at-bindings (λ here. Unit {0}) (λ a b z h. h) t.before env _ (λ here i z.
        let x = fold-valued [] e gs here (λ a. true) (λ a. true) m false f (comp_ex e t.after) marked (some-list _ z.0, z.1) in
        (one-there (meaning (within t.after) here) (there (within t.after) here x), x)) tt)
        (list-some _ c.0, c.1) in
        fold-valued [] e gs env (λ a. true) (λ a. true) m w f (comp_ex (within t.after) t.before) marked
        (subst (λ z. Valued false (comp_ex (within t.after) z) env) (append-none t.before) (some-list _ r.0, r.1))

    -- So it is of a fold behind plain generators.
    pub fold-of-folds : nested (fun1 m f (comp_ex e gs)) ≡ Some F → StaysAlike w (fun1 m f (comp_ex e gs)) F env
    fold-of-folds q =
        let k = nested-keeps (fun1 m f (comp_ex e gs)) F q env (all-there (more_exs (comp_ex e gs) no_exs) env (whole, tt)) met in
        record { means = k.0; met = k.1; valued = values (is_marked m f) q }
      where
        split : (t : Opened) → at_first_open gs ≡ Some t → (c : Bool) →
            (if c then None else Some (fun1 m f (comp_ex (within t.after) t.before))) ≡ Some F → Valued w F env
        split t p true q = cc
        split t p false q = subst (λ z. Valued w z env) (let z : fun1 m f (comp_ex (within t.after) t.before) ≡ F = cc in z)
            (nested-valued t p)

        parts : (o : Option Opened) → at_first_open gs ≡ o → and_then o (folds_nested m f e) ≡ Some F → Valued w F env
        parts None p q = cc
        parts (Some t) p q = split t p (are_none t.before) q

        values : (c : Bool) → (if c then and_then (at_first_open gs) (folds_nested m f e) else None) ≡ Some F → Valued w F env
        values true q = parts (at_first_open gs) refl q
        values false q = cc
