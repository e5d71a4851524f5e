-- Conditions that are gathered have what the parts have that they are made of, and are in order where these are.
use Rattle.std.proofs.Common.{◌≡◌, refl, Bool, true, false, ◌&&◌, if◌then◌else◌, List, [], ◌∷◌, None}
use Rattle.std.specs.Prelude.{IsTrue}
use Rattle.ess_semantics.specs.declared.words.Fun.{Fun}
use Rattle.ess_semantics.specs.Values.{Text}
use Rattle.ess_semantics.specs.Trees.{word, Ex, comp_ex, fun1, Gens, no_gens, over, from, cond, Dom}
use Rattle.ess_semantics.specs.ExpressionJudgements.{forgets_order}
use Rattle.ess_semantics.specs.Occurrences.{has_cells}
use Rattle.ess_semantics.specs.Refined.{is_refined, are_refined_gens}
use Rattle.ess_refine_laws.specs.Everywhere.{everywhere_dom, everywhere_gens}
use Rattle.ess_refine_laws.specs.ExtremeRules.{is_extreme}
use Rattle.ess_gathered_laws.specs.GatheredConditions.{cell_conditions, without_conditions, all_hold, gathered_gens, gathered_under, conditions_gathered}
use Rattle.ess_given_laws.specs.PartsHave.{Wanted, PartsHave, GensHave}
use Rattle.ess_given_laws.proofs.PartsHave.{append-parts}
use Rattle.ess_given_laws.proofs.PartsOfFolds.{Answers, under}
use Rattle.ess_given_laws.proofs.PartsOfListings.{gens-everywhere}
use Rattle.ess_given_order_laws.specs.InOrder.{Ordered, GensOrdered, InOrder}
use Rattle.ess_given_order_laws.proofs.OrderedParts.{append-order}
use Rattle.ess_given_order_laws.proofs.OrderOfListings.{of-word, worded, every-gens}
use Rattle.ess_given_order_laws.proofs.OrderOfFolds.{Answered}

-- ---- what is wanted of parts

module _ (w : Wanted) where
  abbrev EachHas : List Ex → Type 0
  EachHas [] = Unit {0}
  EachHas (c ∷ cs) = PartsHave w c × EachHas cs

  conditions-have : (gs : Gens) → GensHave w gs → EachHas (cell_conditions gs)
  conditions-have no_gens h = tt
  conditions-have (over p d gs) h = conditions-have gs h.2
  conditions-have (from p e gs) h = conditions-have gs h.2
  conditions-have (cond c gs) h = go (has_cells c) (conditions-have gs h.1)
    where
      go : (b : Bool) → EachHas (cell_conditions gs) → EachHas (if b then c ∷ cell_conditions gs else cell_conditions gs)
      go true k = (h.0, k)
      go false k = k

  without-has : (gs : Gens) → GensHave w gs → GensHave w (without_conditions gs)
  without-has no_gens h = tt
  without-has (over p d gs) h = (h.0, h.1, without-has gs h.2)
  without-has (from p e gs) h = (h.0, h.1, without-has gs h.2)
  without-has (cond c gs) h = go (has_cells c) (without-has gs h.1)
    where
      go : (b : Bool) → GensHave w (without_conditions gs) →
          GensHave w (if b then without_conditions gs else cond c (without_conditions gs))
      go true k = k
      go false k = (h.0, k)

  all-has : (c : Ex) (ds : List Ex) → PartsHave w c → EachHas ds → PartsHave w (all_hold c ds)
  all-has c [] h k = h
  all-has c (d ∷ ds) h k = (h, (all-has d ds k.0 k.1, tt))

  module _ (in_dom : (d : Dom) → IsTrue (w.dom d) → IsTrue (w.dom (everywhere_dom d))) where
    pub gathered-has : (e : Ex) → PartsHave w e → Answers w (conditions_gathered e)
    gathered-has (fun1 false f (comp_ex e gs)) h =
        under w (is_extreme f && (is_refined e && are_refined_gens gs)) _ (go (cell_conditions gs) (conditions-have gs h.0.1))
      where
        go : (cs : List Ex) → EachHas cs → Answers w (gathered_under f e gs cs)
        go [] k = tt
        go (c ∷ []) k = tt
        go (c ∷ d ∷ ds) k = (
          (
            h.0.0,
            append-parts w (everywhere_gens (without_conditions gs)) (cond (all_hold c (d ∷ ds)) no_gens)
                (gens-everywhere w in_dom (without_conditions gs) (without-has gs h.0.1)) (all-has c (d ∷ ds) k.0 k.1, tt),
          ),
          tt,
        )
    gathered-has _ h = tt

-- ---- order

module _ (u : Text → Bool) where
  abbrev EachKept : List Ex → Type 0
  EachKept [] = Unit {0}
  EachKept (c ∷ cs) = InOrder u c × EachKept cs

  conditions-kept : (gs : Gens) → GensOrdered u gs → EachKept (cell_conditions gs)
  conditions-kept no_gens h = tt
  conditions-kept (over p d gs) h = conditions-kept gs h
  conditions-kept (from p e gs) h = conditions-kept gs h.1
  conditions-kept (cond c gs) h = go (has_cells c) (conditions-kept gs h.1)
    where
      go : (b : Bool) → EachKept (cell_conditions gs) → EachKept (if b then c ∷ cell_conditions gs else cell_conditions gs)
      go true k = (h.0, k)
      go false k = k

  without-kept : (gs : Gens) → GensOrdered u gs → GensOrdered u (without_conditions gs)
  without-kept no_gens h = tt
  without-kept (over p d gs) h = without-kept gs h
  without-kept (from p e gs) h = (h.0, without-kept gs h.1)
  without-kept (cond c gs) h = go (has_cells c) (without-kept gs h.1)
    where
      go : (b : Bool) → GensOrdered u (without_conditions gs) →
          GensOrdered u (if b then without_conditions gs else cond c (without_conditions gs))
      go true k = k
      go false k = (h.0, k)

  all-kept : (c : Ex) (ds : List Ex) → InOrder u c → EachKept ds → InOrder u (all_hold c ds)
  all-kept c [] h k = h
  all-kept c (d ∷ ds) h k = (refl, (h, (all-kept d ds k.0 k.1, tt)))

  extreme-forgets : (f : Fun) → is_extreme f ≡ true → forgets_order (word f) ≡ true
  extreme-forgets Fun.Min q = refl
  extreme-forgets Fun.Max q = refl
  extreme-forgets f q = cc

  pub gathered-order : (e : Ex) → Ordered u e → Answered u (conditions_gathered e)
  gathered-order (fun1 false f (comp_ex e gs)) h = at (is_extreme f) (is_refined e && are_refined_gens gs) refl
    where
      k : Ordered u (comp_ex e gs)
      k = of-word u (forgets_order (word f)) (comp_ex e gs) h

      go : forgets_order (word f) ≡ true → (cs : List Ex) → EachKept cs → Answered u (gathered_under f e gs cs)
      go q [] j = tt
      go q (c ∷ []) j = tt
      go q (c ∷ d ∷ ds) j = worded u false f (comp_ex e (gathered_gens gs (all_hold c (d ∷ ds)))) q (
        k.0,
        append-order u (everywhere_gens (without_conditions gs)) (cond (all_hold c (d ∷ ds)) no_gens)
            (every-gens u (without_conditions gs) (without-kept gs k.1)) (all-kept c (d ∷ ds) j.0 j.1, tt),
      )

      at : (a b : Bool) → is_extreme f ≡ a → Answered u (if a && b then gathered_under f e gs (cell_conditions gs) else None)
      at true true q = go (extreme-forgets f q) (cell_conditions gs) (conditions-kept gs k.1)
      at true false q = tt
      at false b q = tt
  gathered-order _ h = tt
