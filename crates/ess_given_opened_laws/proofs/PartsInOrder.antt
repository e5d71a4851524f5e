-- Rules of comprehensions in any place, at the first generator that isn't plain, have what the parts have that they are made of.
use Rattle.std.proofs.Common.{◌≡◌, refl, ℕ, suc, Option, Some, None, option_map}
use Rattle.std.specs.Prelude.{IsTrue}
use Rattle.ess_semantics.specs.Lists.{and_then, or_else}
use Rattle.ess_semantics.specs.Values.{Text}
use Rattle.ess_semantics.specs.Names.{Names}
use Rattle.ess_semantics.specs.NamesAt.{names_behind}
use Rattle.ess_semantics.specs.Trees.{name_pat, tuple_pat, Pats, no_pats, more_pats, Ex, name_ex, comp_ex, Gens, no_gens, over, from}
use Rattle.ess_semantics.specs.Types.{Ty, Tys, no_tys, more_tys}
use Rattle.ess_semantics.specs.Typing.{source_ty}
use Rattle.ess_rules_laws.specs.ComponentRules.{component_of}
use Rattle.ess_rules_laws.specs.Listings.{Alternative}
use Rattle.ess_rules_laws.specs.ListedSources.{source_in_order}
use Rattle.ess_refine_laws.specs.AllRules.{Supply}
use Rattle.ess_open_rules_laws.specs.OpenGenerators.{Opened, at_first_open, put_before}
use Rattle.ess_open_rules_laws.specs.OpenSources.{in_order_told, opened_in_order, tuple_parts, components_bound, pattern_opened, kept_in_order, kept_behind}
use Rattle.ess_given_laws.specs.PartsHave.{Wanted, PartsHave, GensHave}
use Rattle.ess_given_laws.proofs.PartsHave.{Puts, append-parts}
use Rattle.ess_given_laws.proofs.PartsOfFolds.{Answers, put-comp}
use Rattle.ess_given_opened_laws.proofs.PartsOfOpenings.{OpenedHas, opened-has}

module _ (w : Wanted) where
  -- ---- patterns

  -- Each of the patterns may be bound over a component of z.
  abbrev pub EachDraws : Text → Pats → Type 0
  EachDraws z no_pats = Unit {0}
  EachDraws z (more_pats p ps) =
      ((t : Ty) (k : ℕ) → IsTrue (w.draws p (comp_ex (component_of t k (name_ex z)) no_gens))) × EachDraws z ps

  module _ (z : Text) (n : IsTrue (w.name z)) where
    bound-has : (k : ℕ) (ps : Pats) (ts : Tys) (hs : Gens) → EachDraws z ps → GensHave w hs → (e s : Ex) → PartsHave w e →
        IsTrue (w.draws (name_pat z) s) → PartsHave w s →
        Answers w (option_map (λ gs. comp_ex e (from (name_pat z) s gs)) (components_bound z k ps ts hs))
    bound-has k ps ts hs d h e s j b c = go (components_bound z k ps ts hs) (have k ps ts hs d h)
      where
        Gens-have : Option Gens → Type 0
        Gens-have None = Unit {0}
        Gens-have (Some gs) = GensHave w gs

        go : (o : Option Gens) → Gens-have o → Answers w (option_map (λ gs. comp_ex e (from (name_pat z) s gs)) o)
        go None k = tt
        go (Some gs) k = (j, (b, c, k))

        have : (k : ℕ) (ps : Pats) (ts : Tys) (hs : Gens) → EachDraws z ps → GensHave w hs → Gens-have (components_bound z k ps ts hs)
        have k no_pats no_tys hs d h = h
        have k (more_pats p ps) (more_tys t ts) hs d h = put (components_bound z (suc k) ps ts hs) (have (suc k) ps ts hs d.1 h)
          where
            put : (o : Option Gens) → Gens-have o →
                Gens-have (option_map (from p (comp_ex (component_of t k (name_ex z)) no_gens)) o)
            put None j = tt
            put (Some gs) j = (d.0 t k, ((n, tt), tt), j)
        have k no_pats (more_tys t ts) hs d h = tt
        have k (more_pats p ps) no_tys hs d h = tt

    pub pattern-has : (g : Names Ty) (e : Ex) (ps : Pats) (s : Ex) (hs : Gens) → IsTrue (w.draws (name_pat z) s) → EachDraws z ps →
        PartsHave w (comp_ex e (from (tuple_pat ps) s hs)) → Answers w (pattern_opened g z (comp_ex e (from (tuple_pat ps) s hs)))
    pattern-has g e ps s hs b d h = go (tuple_parts (source_ty s g))
      where
        go : (o : Option Tys) → Answers w
            (and_then o (λ ts. option_map (λ gs. comp_ex e (from (name_pat z) s gs)) (components_bound z 1 ps ts hs)))
        go None = tt
        go (Some ts) = bound-has 1 ps ts hs d h.1.2 e s h.0 b h.1.1

  -- ---- what is told in order

  -- What is told of a source has it, and its item may be put in for the name.
  abbrev pub ToldHas : Text → Option Alternative → Type 0
  ToldHas y None = Unit {0}
  ToldHas y (Some a) = (PartsHave w a.item × GensHave w a.gens) × Puts w y a.item

  pub told-has : (s : Supply) (g : Names Ty) (e t : Ex) (y : Text) (hs : Gens) → ToldHas y (in_order_told s g t) →
      PartsHave w (comp_ex e (from (name_pat y) t hs)) → Answers w (opened_in_order s g (comp_ex e (from (name_pat y) t hs)))
  told-has s g e t y hs o h = go (in_order_told s g t) o
    where
      go : (r : Option Alternative) → ToldHas y r → Answers w (and_then r (λ a. source_in_order a (comp_ex e (from (name_pat y) t hs))))
      go None j = tt
      go (Some a) j = put-comp w y a.item e a.gens hs j.1 j.0.1 h.0 h.1.2

  -- ---- one after the other

  pub either-has : (o p : Option Ex) → Answers w o → Answers w p → Answers w (or_else o p)
  either-has None p h k = k
  either-has (Some e) p h k = h

  -- Whatever the rule makes of the tail has it, behind the plain generators.
  pub behind-has : (s : Supply) (g : Names Ty) (e : Ex) (gs : Gens) →
      ((t : Opened) → at_first_open gs ≡ Some t → PartsHave w (comp_ex e t.after) →
      Answers w (kept_in_order s (names_behind t.before g) (comp_ex e t.after))) →
      PartsHave w (comp_ex e gs) → Answers w (kept_behind s g (comp_ex e gs))
  behind-has s g e gs k h = go (at_first_open gs) refl (opened-has w gs h.1)
    where
      put : (before : Gens) → GensHave w before → (r : Option Ex) → Answers w r → Answers w (and_then r (put_before before))
      put before b None j = tt
      put before b (Some (comp_ex x ks)) j = (j.0, append-parts w before ks b j.1)
      put before b (Some _) j = tt

      go : (o : Option Opened) → at_first_open gs ≡ o → OpenedHas w o → Answers w
          (and_then o (λ t. and_then (kept_in_order s (names_behind t.before g) (comp_ex e t.after)) (put_before t.before)))
      go None q j = tt
      go (Some t) q j = put t.before j.0 (kept_in_order s (names_behind t.before g) (comp_ex e t.after)) (k t q (h.0, j.1))
