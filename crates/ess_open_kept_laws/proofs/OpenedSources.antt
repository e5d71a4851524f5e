-- Rules of sources at the first generator that isn't plain keep what they rewrite: over one alternative under words that forget order, and
-- in order in any comprehension.
use Rattle.std.proofs.Common.{◌≡◌, refl, sym, subst, Bool, true, false, if◌then◌else◌, List, [], ◌∷◌, map, Option, Some, None, option_map}
use Rattle.std.specs.Prelude.{IsTrue, is_some}
use Rattle.ess_semantics.specs.declared.words.Fun.{Fun}
use Rattle.ess_semantics.specs.Lists.{and_then}
use Rattle.ess_semantics.specs.Values.{Text}
use Rattle.ess_semantics.specs.Names.{Names}
use Rattle.ess_semantics.specs.Trees.{word, name_pat, tuple_pat, Ex, comp_ex, fun1, Gens, no_gens, over, from, cond}
use Rattle.ess_semantics.specs.Types.{Ty}
use Rattle.ess_semantics.specs.NamesAt.{names_behind}
use Rattle.ess_semantics.specs.ExpressionJudgements.{forgets_order}
use Rattle.ess_semantics.specs.Contexts.{AtEach}
use Rattle.ess_semantics.specs.Meaning.{Env, meaning}
use Rattle.ess_semantics.specs.Kept.{Keeps}
use Rattle.ess_rules_laws.specs.Listings.{Alternative}
use Rattle.ess_rules_laws.specs.ListedSources.{Offers, laid_out, put_listed, SourceApart, SourceInOrder, source_in_order}
use Rattle.ess_rules_laws.specs.SpliceRules.{append_gens, splice}
use Rattle.ess_rules_laws.specs.SplitRules.{split}
use Rattle.ess_rules_laws.specs.TupleNames.{name_over_tuple}
use Rattle.ess_rules_laws.proofs.Bindings.{at-each-map}
use Rattle.ess_rules_laws.proofs.ListedSources.{listed_sources-keep}
use Rattle.ess_rules_laws.proofs.SpliceRules.{splice-keeps}
use Rattle.ess_rules_laws.proofs.SplitRules.{split-keeps}
use Rattle.ess_rules_laws.proofs.Tails.{tails-congruent}
use Rattle.ess_rules_laws.proofs.TupleNames.{names-over-tuples}
use Rattle.ess_refine_laws.specs.RecordNames.{name_over_record}
use Rattle.ess_refine_laws.specs.AllRules.{Supply, OfSome, only_one}
use Rattle.ess_refine_laws.specs.ExtremeAlternatives.{put_alternative}
use Rattle.ess_refine_laws.proofs.RecordNames.{names-over-records}
use Rattle.ess_open_rules_laws.specs.OpenGenerators.{Opened, at_first_open, put_before}
use Rattle.ess_open_rules_laws.specs.OpenSources.{all_offered, behind_gens, put_opened, comp_offered, over_one_opened, in_order_told, opened_in_order, pattern_opened, kept_in_order, kept_behind}
use Rattle.ess_open_kept_laws.specs.OpenedAsks.{OfferedBehind, SourceBehind, OpenedAsks, ToldInOrder, InOrderAsks, KeptBehindAsks}
use Rattle.ess_open_kept_laws.proofs.OpenedFolds.{opened-are}
use Rattle.ess_open_kept_laws.proofs.PatternSources.{pattern-keeps}
use Rattle.ess_kinds_kept_laws.proofs.TermsLookedUp.{or-asked}
use Rattle.ess_kinds_kept_laws.proofs.UnorderedTails.{unordered-tails}

-- ---- one alternative

module _ (s : Supply) (m : Bool) (w : Fun) (h : forgets_order (word w) ≡ true) (e : Ex) (env : Env) where
  -- Behind the plain generators.
  one-behind : (before : Gens) (y : Text) (u : Ex) (hs : Gens) (a : Alternative) → OfferedBehind before y e u hs (a ∷ []) env →
      Keeps (fun1 m w (comp_ex e (append_gens before (from (name_pat y) u hs))))
      (fun1 m w (laid_out (behind_gens before (put_alternative y e hs a)))) env
  one-behind before y u hs a o = unordered-tails m w h before (from (name_pat y) u hs) (put_alternative y e hs a).gens e
      (put_alternative y e hs a).item env
      (at-each-map before env (λ here. IsTrue (is_some (meaning u here)) × Offers u (a ∷ []) here) _
      (λ here p. listed_sources-keep.alone o.0 o.1 a (fun1 false Fun.ToMSet (comp_ex e (from (name_pat y) u hs)))
      (fun1 false Fun.ToMSet (put_listed y e hs a)) refl o.2 here p) o.3)

  offered-keeps : (g : Names Ty) (before after : Gens) (f : Ex) →
      option_map (λ a. fun1 m w (laid_out a)) (only_one (put_opened e before after (all_offered s g))) ≡ Some f →
      SourceBehind s g before e after env → Keeps (fun1 m w (comp_ex e (append_gens before after))) f env
  offered-keeps g before (from (name_pat y) u hs) f q c = go (all_offered s g u) q c
    where
      go : (o : Option (List Alternative)) → option_map (λ a. fun1 m w (laid_out a))
          (only_one (option_map (map (λ a. behind_gens before (put_alternative y e hs a))) o)) ≡ Some f →
          OfSome o (λ l. OfferedBehind before y e u hs l env) →
          Keeps (fun1 m w (comp_ex e (append_gens before (from (name_pat y) u hs)))) f env
      go None q c = cc
      go (Some []) q c = cc
      go (Some (a ∷ [])) q c = subst (λ z. Keeps (fun1 m w (comp_ex e (append_gens before (from (name_pat y) u hs)))) z env)
          (let z : fun1 m w (laid_out (behind_gens before (put_alternative y e hs a))) ≡ f = cc in z) (one-behind before y u hs a c)
      go (Some (a ∷ b ∷ l)) q c = cc
  offered-keeps g before (from (tuple_pat ps) u hs) f q c = cc
  offered-keeps g before no_gens f q c = cc
  offered-keeps g before (over p d hs) f q c = cc
  offered-keeps g before (cond x hs) f q c = cc

-- A word that forgets order.
pub over_one-keeps : (s : Supply) (g : Names Ty) (e f : Ex) → over_one_opened s g e ≡ Some f → (env : Env) → OpenedAsks s g e env →
    Keeps e f env
over_one-keeps s g (fun1 m w (comp_ex e gs)) f q env c = go (forgets_order (word w)) refl q
  where
    opened : (o : Option Opened) → at_first_open gs ≡ o → forgets_order (word w) ≡ true →
        option_map (λ a. fun1 m w (laid_out a))
        (only_one (and_then o (λ t. put_opened e t.before t.after (all_offered s (names_behind t.before g))))) ≡ Some f →
        OfSome o (λ t. SourceBehind s (names_behind t.before g) t.before e t.after env) → Keeps (fun1 m w (comp_ex e gs)) f env
    opened None a h q c = cc
    opened (Some t) a h q c = subst (λ z. Keeps (fun1 m w (comp_ex e z)) f env) (sym (opened-are gs t a))
        (offered-keeps s m w h e env (names_behind t.before g) t.before t.after f q c)

    go : (b : Bool) → forgets_order (word w) ≡ b →
        (if b then option_map (λ a. fun1 m w (laid_out a)) (only_one (comp_offered s g e gs)) else None) ≡ Some f →
        Keeps (fun1 m w (comp_ex e gs)) f env
    go true h q = opened (at_first_open gs) refl h q c
    go false h q = cc
over_one-keeps s g _ f q env c = cc

-- ---- in order

told-keeps : (s : Supply) (g : Names Ty) (e f : Ex) → opened_in_order s g e ≡ Some f → (env : Env) → ToldInOrder s g e env → Keeps e f env
told-keeps s g (comp_ex e (from (name_pat y) t hs)) f q env c = go (in_order_told s g t) q c
  where
    go : (o : Option Alternative) → and_then o (λ a. source_in_order a (comp_ex e (from (name_pat y) t hs))) ≡ Some f →
        OfSome o (λ a. (r : Text → Bool) × (u : Text → Bool) × SourceApart r u (a ∷ []) (comp_ex e (from (name_pat y) t hs))
        × SourceInOrder a (comp_ex e (from (name_pat y) t hs)) env) → Keeps (comp_ex e (from (name_pat y) t hs)) f env
    go None q c = cc
    go (Some a) q c = listed_sources-keep.in_order c.0 c.1 a (comp_ex e (from (name_pat y) t hs)) f q c.2 env c.3
told-keeps s g _ f q env c = cc

in-order-keeps : (s : Supply) (g : Names Ty) (e f : Ex) → kept_in_order s g e ≡ Some f → (env : Env) → InOrderAsks s g e env → Keeps e f env
in-order-keeps s g e f q env c = or-asked (splice e) _ _ _ R f q c (λ a p k. splice-keeps k.0 k.1 e a p k.2 env k.3)
    (λ q c. or-asked (split e) _ _ _ R f q c (λ a p k. split-keeps k.0 e a p k.1 env k.2)
    (λ q c. or-asked (name_over_tuple s.parts e) _ _ _ R f q c (λ a p k. names-over-tuples s.parts e a p env)
    (λ q c. or-asked (name_over_record s.parts e) _ _ _ R f q c (λ a p k. names-over-records s.parts e a p env)
    (λ q c. or-asked (pattern_opened g s.one e) _ _ _ R f q c (λ a p k. pattern-keeps s g e a p env k)
    (λ q c. told-keeps s g e f q env c)))))
  where
    R : Ex → Type 0
    R f = Keeps e f env

-- Behind plain generators.
pub kept_behind-keeps : (s : Supply) (g : Names Ty) (e f : Ex) → kept_behind s g e ≡ Some f → (env : Env) → KeptBehindAsks s g e env →
    Keeps e f env
kept_behind-keeps s g (comp_ex e gs) f q env c = go (at_first_open gs) refl q c
  where
    put : (t : Opened) → at_first_open gs ≡ Some t → (o : Option Ex) → kept_in_order s (names_behind t.before g) (comp_ex e t.after) ≡ o →
        and_then o (put_before t.before) ≡ Some f →
        AtEach t.before env (InOrderAsks s (names_behind t.before g) (comp_ex e t.after)) → Keeps (comp_ex e gs) f env
    put t a None k q c = cc
    put t a (Some (comp_ex x ks)) k q c = subst (λ z. Keeps (comp_ex e z) f env) (sym (opened-are gs t a))
        (subst (λ z. Keeps (comp_ex e (append_gens t.before t.after)) z env)
        (let z : comp_ex x (append_gens t.before ks) ≡ f = cc in z)
        (tails-congruent t.before t.after ks e x env
        (at-each-map t.before env (InOrderAsks s (names_behind t.before g) (comp_ex e t.after)) _
        (λ here p. in-order-keeps s (names_behind t.before g) (comp_ex e t.after) (comp_ex x ks) k here p) c)))
    put t a (Some _) k q c = cc

    go : (o : Option Opened) → at_first_open gs ≡ o →
        and_then o (λ t. and_then (kept_in_order s (names_behind t.before g) (comp_ex e t.after)) (put_before t.before)) ≡ Some f →
        OfSome o (λ t. AtEach t.before env (InOrderAsks s (names_behind t.before g) (comp_ex e t.after))) → Keeps (comp_ex e gs) f env
    go None a q c = cc
    go (Some t) a q c = put t a (kept_in_order s (names_behind t.before g) (comp_ex e t.after)) refl q c
kept_behind-keeps s g _ f q env c = cc
