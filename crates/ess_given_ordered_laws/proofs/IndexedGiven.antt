-- Sources by their indices: what is given and what is fixed stays, and comprehensions stay in order where order counts.
use Rattle.std.proofs.Common.{◌≡◌, refl, Bool, true, false, ◌&&◌, ◌||◌, if◌then◌else◌, Option, Some, None, option_map}
use Rattle.ess_semantics.specs.Lists.{and_then}
use Rattle.ess_semantics.specs.Values.{Text, a_matrix}
use Rattle.ess_semantics.specs.Names.{Names}
use Rattle.ess_semantics.specs.NamesAt.{names_behind}
use Rattle.ess_semantics.specs.Trees.{name_pat, tuple_pat, Ex, comp_ex, Gens, no_gens, over, from, cond, Dom}
use Rattle.ess_semantics.specs.Types.{Ty, compound2}
use Rattle.ess_semantics.specs.Typing.{type_of}
use Rattle.ess_semantics.proofs.Tests.{and-right, and-both}
use Rattle.ess_refine_laws.specs.IndexedLists.{of_matrix}
use Rattle.ess_refine_laws.specs.AllRules.{OfSome}
use Rattle.ess_open_rules_laws.specs.OpenGenerators.{Opened, at_first_open, put_before}
use Rattle.ess_ordered_laws.specs.ToldAxes.{counted_axis, told_axis}
use Rattle.ess_ordered_laws.specs.IndexedSources.{is_by_index, items_at, indexed_term, indexed_source, indexed_behind}
use Rattle.ess_given_laws.specs.PartsHave.{PartsHave, GensHave}
use Rattle.ess_given_laws.specs.Given.{none_bound, is_fixed, is_fixed_dom, given, GivenIn}
use Rattle.ess_given_laws.proofs.PartsHave.{append-parts}
use Rattle.ess_given_laws.proofs.FixedTrees.{fixed, fixed-has, has-fixed, given-has}
use Rattle.ess_given_laws.proofs.PartsOfFolds.{Answers}
use Rattle.ess_given_conditions_laws.specs.GivenAxes.{counts_items}
use Rattle.ess_given_order_laws.specs.InOrder.{in_order, gens_in_order, Ordered, GensOrdered, InOrder}
use Rattle.ess_given_order_laws.proofs.OrderedParts.{append-in, append-order}
use Rattle.ess_given_order_laws.proofs.OrderOfFolds.{AnsweredFor}
use Rattle.ess_given_opened_laws.proofs.PartsOfOpenings.{OpenedHas, opened-has}
use Rattle.ess_given_opened_laws.proofs.OrderOfOpenings.{OpenedOrder, opened-order}
use Rattle.ess_given_opened_laws.proofs.OrderInPlace.{OpenedIn, opened-in}
use Rattle.ess_given_ordered_laws.specs.OrderedNames.{AtSource, CountKept}
use Rattle.ess_given_ordered_laws.proofs.ToldGiven.{AxisFixed, told-given}

-- The term is no comprehension.
by-index-counts : (t : Ex) → is_by_index t ≡ true → counts_items t ≡ false
by-index-counts (comp_ex e gs) q = cc
by-index-counts _ q = refl

-- It stands in order.
term-in : (u : Text → Bool) (t : Ex) → is_by_index t ≡ true → in_order u t ≡ true
term-in u (comp_ex e gs) q = cc
term-in u _ q = refl

module _ (u : Text → Bool) (x : Text) (new : u x ≡ true) where
  -- ---- the items of a term

  -- Where the term is given its index domain is, if what is counted by written lists is fixed.
  abbrev Counts : Ex → Type 0
  Counts t = is_fixed u t ≡ false → AxisFixed u (counted_axis t)

  -- What is said of the items: they are given, fixed where the term is, and in order where it is.
  record ItemsAre (t l : Ex) : Type 0 where
    stays : GivenIn u t → GivenIn u l
    stays_fixed : GivenIn u t → is_fixed u t ≡ true → is_fixed u l ≡ true
    place : in_order u l ≡ true
    stays_ordered : InOrder u t → Ordered u l

  items-are : (d : Dom) (t : Ex) (v : Ty) → (GivenIn u t → is_fixed_dom u d ≡ true) → ItemsAre t (items_at x d t v)
  items-are d t v a = record {
    stays = λ h. ((h, (refl, tt)), (refl, a h, tt));
    stays_fixed = λ h q. and-both (is_fixed u t && (u x && true)) (u x && (is_fixed_dom u d && true))
        (and-both (is_fixed u t) (u x && true) q (and-both (u x) true new refl))
        (and-both (u x) (is_fixed_dom u d && true) new (and-both (is_fixed_dom u d) true (a h) refl));
    place = refl;
    stays_ordered = λ h. ((refl, (h, ((refl, tt), tt))), tt);
  }

  -- So it is of a term by its indices.
  term-is : (g : Names Ty) (t : Ex) → Counts t → OfSome (indexed_term g x t) (λ l. (in_order u t ≡ true) × ItemsAre t l)
  term-is g t c = go (is_by_index t) refl
    where
      of-type : (o : Option Ty) (d : Dom) → in_order u t ≡ true → (GivenIn u t → is_fixed_dom u d ≡ true) →
          OfSome (of_matrix o (items_at x d t)) (λ l. (in_order u t ≡ true) × ItemsAre t l)
      of-type (Some (compound2 a_matrix i v)) d p a = (p, items-are d t v a)
      of-type _ d p a = tt

      at : (o : Option Dom) → in_order u t ≡ true → (GivenIn u t → AxisFixed u o) →
          OfSome (and_then o (λ d. of_matrix (type_of t g) (items_at x d t))) (λ l. (in_order u t ≡ true) × ItemsAre t l)
      at None p a = tt
      at (Some d) p a = of-type (type_of t g) d p a

      go : (b : Bool) → is_by_index t ≡ b →
          OfSome (if b then and_then (told_axis t) (λ d. of_matrix (type_of t g) (items_at x d t)) else None)
          (λ l. (in_order u t ≡ true) × ItemsAre t l)
      go true q = at (told_axis t) (term-in u t q) (λ h. told-given u t (by-index-counts t q) c h)
      go false q = tt

  -- ---- the source

  or-so : (b c d : Bool) → (c ≡ true → d ≡ true) → b || c ≡ true → b || d ≡ true
  or-so true c d f h = refl
  or-so false c d f h = f h

  source-given : (g : Names Ty) (e : Ex) (hs : Gens) → CountKept u hs → GivenIn u (comp_ex e hs) →
      Answers (given u) (indexed_source g x (comp_ex e hs))
  source-given g e (from (name_pat y) t hs) c h = go (indexed_term g x t) (term-is g t c)
    where
      go : (o : Option Ex) → OfSome o (λ l. (in_order u t ≡ true) × ItemsAre t l) →
          Answers (given u) (option_map (λ l. comp_ex e (from (name_pat y) l hs)) o)
      go None k = tt
      go (Some l) k = (
        h.0,
        (
          or-so (none_bound u (name_pat y)) (is_fixed u t) (is_fixed u l) (k.1.stays_fixed h.1.1) h.1.0,
          k.1.stays h.1.1,
          h.1.2,
        ),
      )
  source-given g e (from (tuple_pat ps) t hs) c h = tt
  source-given g e no_gens c h = tt
  source-given g e (over p d hs) c h = tt
  source-given g e (cond k hs) c h = tt

  source-fixed : (g : Names Ty) (e : Ex) (hs : Gens) → CountKept u hs → PartsHave (fixed u) (comp_ex e hs) →
      Answers (fixed u) (indexed_source g x (comp_ex e hs))
  source-fixed g e (from (name_pat y) t hs) c h = go (indexed_term g x t) (term-is g t c)
    where
      go : (o : Option Ex) → OfSome o (λ l. (in_order u t ≡ true) × ItemsAre t l) →
          Answers (fixed u) (option_map (λ l. comp_ex e (from (name_pat y) l hs)) o)
      go None k = tt
      go (Some l) k = (h.0, (h.1.0, fixed-has u l (k.1.stays_fixed (given-has u t h.1.1) (has-fixed u t h.1.1)), h.1.2))
  source-fixed g e (from (tuple_pat ps) t hs) c h = tt
  source-fixed g e no_gens c h = tt
  source-fixed g e (over p d hs) c h = tt
  source-fixed g e (cond k hs) c h = tt

  source-order : (g : Names Ty) (e : Ex) (hs : Gens) → CountKept u hs → Ordered u (comp_ex e hs) →
      AnsweredFor u (comp_ex e hs) (indexed_source g x (comp_ex e hs))
  source-order g e (from (name_pat y) t hs) c h = go (indexed_term g x t) (term-is g t c)
    where
      go : (o : Option Ex) → OfSome o (λ l. (in_order u t ≡ true) × ItemsAre t l) →
          AnsweredFor u (comp_ex e (from (name_pat y) t hs)) (option_map (λ l. comp_ex e (from (name_pat y) l hs)) o)
      go None k = tt
      go (Some l) k = (
        λ q. and-both (in_order u l) (gens_in_order u hs) k.1.place (and-right (in_order u t) (gens_in_order u hs) q),
        (h.0, (k.1.stays_ordered (k.0, h.1.0), h.1.1)),
      )
  source-order g e (from (tuple_pat ps) t hs) c h = tt
  source-order g e no_gens c h = tt
  source-order g e (over p d hs) c h = tt
  source-order g e (cond k hs) c h = tt

  -- ---- behind plain generators

  pub indexed-given : (g : Names Ty) (e : Ex) → AtSource (CountKept u) e → GivenIn u e → Answers (given u) (indexed_behind g x e)
  indexed-given g (comp_ex e gs) c h = go (at_first_open gs) c (opened-has (given u) gs h.1)
    where
      put : (before : Gens) → GensHave (given u) before → (r : Option Ex) → Answers (given u) r →
          Answers (given u) (and_then r (put_before before))
      put before b None j = tt
      put before b (Some (comp_ex z ks)) j = (j.0, append-parts (given u) before ks b j.1)
      put before b (Some _) j = tt

      go : (o : Option Opened) → OfSome o (λ t. CountKept u t.after) → OpenedHas (given u) o → Answers (given u)
          (and_then o (λ t. and_then (indexed_source (names_behind t.before g) x (comp_ex e t.after)) (put_before t.before)))
      go None k j = tt
      go (Some t) k j = put t.before j.0 (indexed_source (names_behind t.before g) x (comp_ex e t.after))
          (source-given (names_behind t.before g) e t.after k (h.0, j.1))
  indexed-given g _ c h = tt

  pub indexed-fixed : (g : Names Ty) (e : Ex) → AtSource (CountKept u) e → PartsHave (fixed u) e → Answers (fixed u) (indexed_behind g x e)
  indexed-fixed g (comp_ex e gs) c h = go (at_first_open gs) c (opened-has (fixed u) gs h.1)
    where
      put : (before : Gens) → GensHave (fixed u) before → (r : Option Ex) → Answers (fixed u) r →
          Answers (fixed u) (and_then r (put_before before))
      put before b None j = tt
      put before b (Some (comp_ex z ks)) j = (j.0, append-parts (fixed u) before ks b j.1)
      put before b (Some _) j = tt

      go : (o : Option Opened) → OfSome o (λ t. CountKept u t.after) → OpenedHas (fixed u) o → Answers (fixed u)
          (and_then o (λ t. and_then (indexed_source (names_behind t.before g) x (comp_ex e t.after)) (put_before t.before)))
      go None k j = tt
      go (Some t) k j = put t.before j.0 (indexed_source (names_behind t.before g) x (comp_ex e t.after))
          (source-fixed (names_behind t.before g) e t.after k (h.0, j.1))
  indexed-fixed g _ c h = tt

  pub indexed-order : (g : Names Ty) (e : Ex) → AtSource (CountKept u) e → Ordered u e → AnsweredFor u e (indexed_behind g x e)
  indexed-order g (comp_ex e gs) c h = go (at_first_open gs) c (opened-order u gs h.1) (opened-in u gs)
    where
      put : (t : Opened) → GensOrdered u t.before → (gens_in_order u gs ≡ true → OpenedIn u (Some t)) → (r : Option Ex) →
          AnsweredFor u (comp_ex e t.after) r → AnsweredFor u (comp_ex e gs) (and_then r (put_before t.before))
      put t b i None j = tt
      put t b i (Some (comp_ex z ks)) j =
          (λ q. append-in u t.before ks (i q).0 (j.0 (i q).1), (j.1.0, append-order u t.before ks b j.1.1))
      put t b i (Some _) j = tt

      go : (o : Option Opened) → OfSome o (λ t. CountKept u t.after) → OpenedOrder u o → (gens_in_order u gs ≡ true → OpenedIn u o) →
          AnsweredFor u (comp_ex e gs)
          (and_then o (λ t. and_then (indexed_source (names_behind t.before g) x (comp_ex e t.after)) (put_before t.before)))
      go None k j i = tt
      go (Some t) k j i = put t j.0 i (indexed_source (names_behind t.before g) x (comp_ex e t.after))
          (source-order (names_behind t.before g) e t.after k (h.0, j.1))
  indexed-order g _ c h = tt
