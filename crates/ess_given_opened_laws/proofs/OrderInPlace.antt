-- Rules of comprehensions in any place, at the first generator that isn't plain, keep comprehensions in order where order counts; and a
-- comprehension in order stays so.
use Rattle.std.proofs.Common.{◌≡◌, refl, ℕ, suc, Bool, true, false, if◌then◌else◌, Option, Some, None, option_map}
use Rattle.ess_semantics.specs.Lists.{and_then, or_else}
use Rattle.ess_semantics.specs.Values.{Text}
use Rattle.ess_semantics.specs.Names.{Names}
use Rattle.ess_semantics.specs.NamesAt.{names_behind}
use Rattle.ess_semantics.specs.Substitution.{substitute_gens, for_name}
use Rattle.ess_semantics.specs.Trees.{name_pat, tuple_pat, Pats, no_pats, more_pats, Ex, name_ex, comp_ex, Gens, no_gens, over, from, cond}
use Rattle.ess_semantics.specs.Types.{Ty, Tys, no_tys, more_tys}
use Rattle.ess_semantics.specs.Typing.{source_ty}
use Rattle.ess_semantics.proofs.Tests.{and-left, and-right, and-both}
use Rattle.ess_rules_laws.specs.ComponentRules.{component_of}
use Rattle.ess_rules_laws.specs.Listings.{Alternative}
use Rattle.ess_rules_laws.specs.ListedSources.{source_in_order}
use Rattle.ess_refine_laws.specs.AllRules.{Supply}
use Rattle.ess_open_rules_laws.specs.OpenGenerators.{Opened, is_plain_over, with_first, at_first_open, put_before}
use Rattle.ess_open_rules_laws.specs.OpenSources.{in_order_told, opened_in_order, tuple_parts, components_bound, pattern_opened, kept_in_order, kept_behind}
use Rattle.ess_given_laws.specs.Given.{is_fixed}
use Rattle.ess_given_order_laws.specs.InOrder.{in_order, gens_in_order, Ordered, GensOrdered}
use Rattle.ess_given_order_laws.proofs.OrderedParts.{PutsOrder, put-kept, put-gens-in, put-gens-order, append-in, append-order}
use Rattle.ess_given_order_laws.proofs.OrderOfFolds.{AnsweredFor}
use Rattle.ess_given_opened_laws.proofs.OrderOfOpenings.{OpenedOrder, opened-order}

module _ (u : Text → Bool) where
  -- ---- generators in two parts

  abbrev pub OpenedIn : Option Opened → Type 0
  OpenedIn None = Unit {0}
  OpenedIn (Some t) = (gens_in_order u t.before ≡ true) × (gens_in_order u t.after ≡ true)

  first-in : (f : Gens → Gens) → ((gs : Gens) → gens_in_order u gs ≡ true → gens_in_order u (f gs) ≡ true) → (o : Option Opened) →
      OpenedIn o → OpenedIn (option_map (with_first f) o)
  first-in f k None h = tt
  first-in f k (Some t) h = (k t.before h.0, h.1)

  pub opened-in : (gs : Gens) → gens_in_order u gs ≡ true → OpenedIn (at_first_open gs)
  opened-in no_gens h = tt
  opened-in (over p d gs) h = go (is_plain_over p d) (opened-in gs h)
    where
      go : (b : Bool) → OpenedIn (at_first_open gs) → OpenedIn (if b then option_map (with_first (over p d)) (at_first_open gs)
          else Some (record { before = no_gens; after = over p d gs }))
      go true k = first-in (over p d) (λ ks k. k) (at_first_open gs) k
      go false k = (refl, h)
  opened-in (from p e gs) h = (refl, h)
  opened-in (cond c gs) h =
      first-in (cond c) (λ ks k. and-both (is_fixed u c) (gens_in_order u ks) (and-left (is_fixed u c) (gens_in_order u gs) h) k)
      (at_first_open gs) (opened-in gs (and-right (is_fixed u c) (gens_in_order u gs) h))

  -- ---- patterns

  abbrev GensKept : (gs : Gens) → Option Gens → Type 0
  GensKept gs None = Unit {0}
  GensKept gs (Some hs) = (gens_in_order u gs ≡ true → gens_in_order u hs ≡ true) × GensOrdered u hs

  bound-order : (z : Text) (k : ℕ) (ps : Pats) (ts : Tys) (hs : Gens) → GensOrdered u hs → GensKept hs (components_bound z k ps ts hs)
  bound-order z k no_pats no_tys hs h = (λ q. q, h)
  bound-order z k (more_pats p ps) (more_tys t ts) hs h = put (components_bound z (suc k) ps ts hs) (bound-order z (suc k) ps ts hs h)
    where
      put : (o : Option Gens) → GensKept hs o → GensKept hs (option_map (from p (comp_ex (component_of t k (name_ex z)) no_gens)) o)
      put None j = tt
      put (Some gs) j = (j.0, (((refl, ((refl, tt), tt)), tt), j.1))
  bound-order z k no_pats (more_tys t ts) hs h = tt
  bound-order z k (more_pats p ps) no_tys hs h = tt

  pub pattern-order : (g : Names Ty) (z : Text) (e : Ex) → Ordered u e → AnsweredFor u e (pattern_opened g z e)
  pattern-order g z (comp_ex e (from (tuple_pat ps) s hs)) h = go (tuple_parts (source_ty s g))
    where
      at : (o : Option Gens) → GensKept hs o →
          AnsweredFor u (comp_ex e (from (tuple_pat ps) s hs)) (option_map (λ gs. comp_ex e (from (name_pat z) s gs)) o)
      at None k = tt
      at (Some gs) k = (
        λ q. and-both (in_order u s) (gens_in_order u gs) (and-left (in_order u s) (gens_in_order u hs) q)
            (k.0 (and-right (in_order u s) (gens_in_order u hs) q)),
        (h.0, (h.1.0, k.1)),
      )

      go : (o : Option Tys) → AnsweredFor u (comp_ex e (from (tuple_pat ps) s hs))
          (and_then o (λ ts. option_map (λ gs. comp_ex e (from (name_pat z) s gs)) (components_bound z 1 ps ts hs)))
      go None = tt
      go (Some ts) = at (components_bound z 1 ps ts hs) (bound-order z 1 ps ts hs h.1.1)
  pattern-order g z _ h = tt

  -- ---- what is told in order

  -- What is told of a source is in order, and its item may be put in for the name.
  abbrev pub ToldInPlace : Text → Option Alternative → Type 0
  ToldInPlace y None = Unit {0}
  ToldInPlace y (Some a) = ((gens_in_order u a.gens ≡ true) × GensOrdered u a.gens) × PutsOrder u y a.item

  pub told-order : (s : Supply) (g : Names Ty) (e t : Ex) (y : Text) (hs : Gens) → ToldInPlace y (in_order_told s g t) →
      Ordered u (comp_ex e (from (name_pat y) t hs)) →
      AnsweredFor u (comp_ex e (from (name_pat y) t hs)) (opened_in_order s g (comp_ex e (from (name_pat y) t hs)))
  told-order s g e t y hs o h = go (in_order_told s g t) o
    where
      go : (r : Option Alternative) → ToldInPlace y r → AnsweredFor u (comp_ex e (from (name_pat y) t hs))
          (and_then r (λ a. source_in_order a (comp_ex e (from (name_pat y) t hs))))
      go None j = tt
      go (Some a) j = (
        λ q. append-in u a.gens (substitute_gens (for_name y a.item) hs) j.0.0
            (put-gens-in u y a.item j.1 hs (and-right (in_order u t) (gens_in_order u hs) q)),
        (
          put-kept u y a.item j.1 e h.0,
          append-order u a.gens (substitute_gens (for_name y a.item) hs) j.0.1 (put-gens-order u y a.item j.1 hs h.1.1),
        ),
      )

  -- ---- one after the other

  pub either-for : (e : Ex) (o p : Option Ex) → AnsweredFor u e o → AnsweredFor u e p → AnsweredFor u e (or_else o p)
  either-for e None p h k = k
  either-for e (Some f) p h k = h

  -- Whatever the rule makes of the tail is in order, behind the plain generators.
  pub behind-order : (s : Supply) (g : Names Ty) (e : Ex) (gs : Gens) →
      ((t : Opened) → at_first_open gs ≡ Some t → Ordered u (comp_ex e t.after) →
      AnsweredFor u (comp_ex e t.after) (kept_in_order s (names_behind t.before g) (comp_ex e t.after))) →
      Ordered u (comp_ex e gs) → AnsweredFor u (comp_ex e gs) (kept_behind s g (comp_ex e gs))
  behind-order s g e gs k h = go (at_first_open gs) refl (opened-order u gs h.1) (opened-in gs)
    where
      put : (t : Opened) → GensOrdered u t.before → (gens_in_order u gs ≡ true → OpenedIn (Some t)) → (r : Option Ex) →
          AnsweredFor u (comp_ex e t.after) r → AnsweredFor u (comp_ex e gs) (and_then r (put_before t.before))
      put t b i None j = tt
      put t b i (Some (comp_ex x ks)) j =
          (λ q. append-in u t.before ks (i q).0 (j.0 (i q).1), (j.1.0, append-order u t.before ks b j.1.1))
      put t b i (Some _) j = tt

      go : (o : Option Opened) → at_first_open gs ≡ o → OpenedOrder u o → (gens_in_order u gs ≡ true → OpenedIn o) →
          AnsweredFor u (comp_ex e gs)
          (and_then o (λ t. and_then (kept_in_order s (names_behind t.before g) (comp_ex e t.after)) (put_before t.before)))
      go None q j i = tt
      go (Some t) q j i = put t j.0 i (kept_in_order s (names_behind t.before g) (comp_ex e t.after)) (k t q (h.0, j.1))
