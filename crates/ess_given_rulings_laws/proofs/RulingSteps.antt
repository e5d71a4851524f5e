-- A step of a rule of openings, of gathering, of order, or of matrices keeps what is given, and comprehensions in order, for names that
-- grow by those that it takes.
use Rattle.std.proofs.Common.{◌≡◌, refl, sym, ◌∙◌, ℕ, suc, ◌+◌, ◌≤◌, ◌^◌, Bool, true, false, ◌&&◌, length, Option, Some, None, arith}
use Rattle.ess_semantics.specs.Values.{Text}
use Rattle.ess_semantics.specs.Names.{Names}
use Rattle.ess_semantics.specs.NamesAt.{names_behind}
use Rattle.ess_semantics.specs.Trees.{name_pat, tuple_pat, Ex, comp_ex, ex2, Gens, no_gens, over, from, cond}
use Rattle.ess_semantics.specs.Types.{Ty}
use Rattle.ess_semantics.proofs.Tests.{and-left, and-right}
use Rattle.ess_refine_laws.specs.AllRules.{Supply, OfSome, equal_matrices_at, rewrite}
use Rattle.ess_repr_declare_laws.specs.SizeTerms.{unused_name}
use Rattle.ess_chain_names_laws.specs.Steps.{supply_at}
use Rattle.ess_open_rules_laws.specs.OpenGenerators.{Opened, at_first_open}
use Rattle.ess_open_rules_laws.specs.OpenRules.{OpenRule, in_order_of_its_source, open_rewrite}
use Rattle.ess_gathered_laws.specs.GatheredConditions.{conditions_gathered}
use Rattle.ess_ordered_laws.specs.OrderedRules.{OrderedRule, source_by_indices, source_of_an_item, ordered_rewrite}
use Rattle.ess_given_laws.specs.PartsHave.{GensHave}
use Rattle.ess_given_laws.specs.Given.{is_fixed, are_fixed_gens, GivenIn}
use Rattle.ess_given_laws.specs.GivenStays.{TakesGiven, NewGiven}
use Rattle.ess_given_laws.proofs.FixedTrees.{fixed, fixed-has, has-fixed, given-has}
use Rattle.ess_given_laws.proofs.GivenStays.{given-stays}
use Rattle.ess_given_conditions_laws.specs.GivenAxes.{CountsFixed}
use Rattle.ess_given_conditions_laws.specs.GrowingNames.{HasNoneFrom, Grows}
use Rattle.ess_given_conditions_laws.proofs.Assigned.{assigned, as-assigned, assigned-grows}
use Rattle.ess_given_conditions_laws.proofs.GivenAxes.{axis-fixed}
use Rattle.ess_given_conditions_laws.proofs.GivenChains.{none-later}
use Rattle.ess_given_conditions_laws.proofs.GivenSteps.{same-among}
use Rattle.ess_given_conditions_laws.proofs.MoreFixed.{fixed-among, given-among}
use Rattle.ess_given_order_laws.proofs.OrderStays.{order-stays}
use Rattle.ess_given_offers_laws.specs.Seen.{Counts}
use Rattle.ess_given_kind_steps_laws.specs.GivenKindSteps.{StepOrders}
use Rattle.ess_given_ordered_laws.specs.ess_given_opened_laws.OpenedStays.{NewOpened}
use Rattle.ess_given_ordered_laws.proofs.ess_given_opened_laws.OpenedOrder.{opened-stays}
use Rattle.ess_given_ordered_laws.proofs.ess_given_opened_laws.PartsOfOpenings.{OpenedHas, opened-has}
use Rattle.ess_given_ordered_laws.specs.OrderedNames.{AtSource, NewOrdered}
use Rattle.ess_given_ordered_laws.proofs.OrderedStays.{ordered-stays, gathering-stays}
use Rattle.ess_given_rulings_laws.specs.OpeningSteps.{PickKept, PicksKept}
use Rattle.ess_given_rulings_laws.specs.OrderedSteps.{CountsKept, ItemKept, SourcesKept}
use Rattle.ess_given_rulings_laws.specs.RulingChains.{BothCountFixed}
use Rattle.ess_given_rulings_laws.proofs.Roles.{same, same-length, Roles, role_list, roles_of, roles-number, all-names, NamesAs, names-as}
use Rattle.ess_given_rulings_laws.proofs.NamesServe.{fixed-alike, names-serve}
use Rattle.ess_given_rulings_laws.proofs.OrderedRoles.{ordered_roles, ordered-number, ordered-serve}

fits : (n k l m : ℕ) → l ≡ k → n + 3 + k ≤ m → n + suc (suc (suc l)) ≤ m
fits n k l m q h = omega (arith, q, h)

below : (a b c : ℕ) → a ≤ b → b ≤ c → a ≤ c
below a b c p q = omega (arith, p, q)

-- ---- names that are assigned

-- Names that have what z has, and the three new ones and those for components as their roles say.
record NamesGrown (z w : Text → Bool) (n k m : ℕ) (r : Roles) : Type 0 where
  names : Text → Bool
  grow : Grows n m z names
  alike : (a : Text) → w a ≡ true → names a ≡ z a
  roles : NamesAs names n k r

given-names : (z w : Text → Bool) (n k m : ℕ) (r : Roles) → length r.parts ≡ k → n + 3 + k ≤ m → m ≤ 2 ^ 64 → HasNoneFrom n z →
    HasNoneFrom n w → NamesGrown z w n k m r
given-names z w n k m r q d l y x = record {
  names = assigned z n (role_list r);
  grow = grow;
  alike = same-among n m z (assigned z n (role_list r)) w grow x;
  roles = names-as (assigned z n (role_list r)) n k r
      (as-assigned z n (role_list r) (below (n + length (role_list r)) m (2 ^ 64) j l));
}
  where
    j : n + length (role_list r) ≤ m
    j = fits n k (length r.parts) m q d

    grow : Grows n m z (assigned z n (role_list r))
    grow = assigned-grows z n m (role_list r) y j l

-- ---- openings

module _ (z w : Text → Bool) (n k m : ℕ) (g : Names Ty) (d : n + 3 + k ≤ m) (l : m ≤ 2 ^ 64) (c : Counts z) (y : HasNoneFrom n z)
    (x : HasNoneFrom n w) where
  abbrev s : Supply
  s = supply_at n k

  pub opening-orders : (r : OpenRule) (a b : Ex) → open_rewrite s g r a ≡ Some b → is_fixed w a ≡ true →
      ((v : Text → Bool) → Grows n m z v → PicksKept z n k g v r a) → StepOrders n m z a b
  opening-orders r a b f q p = record {
    names = v;
    grow = t.grow;
    keep = record {
      given = λ h. opened-stays.given v s g r a b f counts new h;
      fixed = λ h. opened-stays.fixed v s g r a b f counts new h;
    };
    order = λ i h. opened-stays.ordered v s g r a b f counts new (given-among w z v t.alike a q i) h;
    place = λ i h j. opened-stays.in_its_place v s g r a b f counts new (given-among w z v t.alike a q i) h j;
  }
    where
      t : NamesGrown z w n k m (roles_of z s k g r a)
      t = given-names z w n k m (roles_of z s k g r a) (roles-number z s k g r a) d l y x

      v : Text → Bool
      v = t.names

      counts : Counts v
      counts = t.grow.more unused_name c

      new : NewOpened v s g r a
      new = names-serve z v w t.grow.more t.alike n k g r a q (p v t.grow) t.roles

  -- ---- items that have an order

  pub ordered-orders : (r : OrderedRule) (a b : Ex) → ordered_rewrite s g r a ≡ Some b → is_fixed w a ≡ true →
      ((v : Text → Bool) → Grows n m z v → SourcesKept z n k v r a) → StepOrders n m z a b
  ordered-orders r a b f q p = record {
    names = v;
    grow = t.grow;
    keep = record {
      given = λ h. ordered-stays.given v s g r a b f counts new h;
      fixed = λ h. ordered-stays.fixed v s g r a b f counts new h;
    };
    order = λ i h. ordered-stays.ordered v s g r a b f new h;
    place = λ i h j. ordered-stays.in_its_place v s g r a b f new h j;
  }
    where
      t : NamesGrown z w n k m (ordered_roles z s k g r a)
      t = given-names z w n k m (ordered_roles z s k g r a) (ordered-number z s k g r a) d l y x

      v : Text → Bool
      v = t.names

      counts : Counts v
      counts = t.grow.more unused_name c

      new : NewOrdered v s g r a
      new = ordered-serve z v w t.grow.more t.alike n k g r a q (p v t.grow) t.roles

  -- ---- matrices over index domains

  axes-given : (v : Text → Bool) (a : Ex) → GivenIn v a → BothCountFixed v a → TakesGiven v s equal_matrices_at a
  axes-given v (ex2 b o e f) h q = (axis-fixed v e h.0 q.0, axis-fixed v f h.1.0 q.1)
  axes-given v _ h q = tt

  abbrev matrix-roles : Ex → Roles
  matrix-roles a = record { one = is_fixed z a; other = is_fixed z a; third = true; parts = same true k }

  pub matrix-orders : (a b : Ex) → rewrite s g equal_matrices_at a ≡ Some b → is_fixed w a ≡ true →
      ((v : Text → Bool) → Grows n m z v → BothCountFixed v a) → StepOrders n m z a b
  matrix-orders a b f q p = record {
    names = v;
    grow = t.grow;
    keep = record {
      given = λ h. given-stays.by_each_rule v s g equal_matrices_at a b f (new h) h;
      fixed = λ h. given-stays.of_fixed_trees v s g equal_matrices_at a b f (new (given-has v a (fixed-has v a h))) h;
    };
    order = λ i h. let j = given-among w z v t.alike a q i in order-stays.by_each_rule v s g equal_matrices_at a b f (new j) tt j h;
    place = λ i h o. let j = given-among w z v t.alike a q i in order-stays.in_its_place v s g equal_matrices_at a b f (new j) tt j h o;
  }
    where
      t : NamesGrown z w n k m (matrix-roles a)
      t = given-names z w n k m (matrix-roles a) (same-length true k) d l y x

      v : Text → Bool
      v = t.names

      alike : is_fixed v a ≡ is_fixed z a
      alike = fixed-alike z v w t.grow.more t.alike n k a q

      new : GivenIn v a → NewGiven v s equal_matrices_at a
      new h = record {
        one = t.roles.one ∙ sym alike;
        other = t.roles.other ∙ sym alike;
        third = t.roles.third;
        parts = all-names v (n + 3) k t.roles.parts;
        taken = axes-given v a h (p v t.grow);
      }

-- ---- gathering

pub gathering-orders : (z : Text → Bool) (n m : ℕ) (a b : Ex) → conditions_gathered a ≡ Some b → n ≤ m → HasNoneFrom n z →
    StepOrders n m z a b
gathering-orders z n m a b f l y = record {
  names = z;
  grow = record { more = λ a h. h; but_reserved = λ a h. refl; none_from = none-later n m z l y };
  keep = record { given = λ h. gathering-stays.given z a b f h; fixed = λ h. gathering-stays.fixed z a b f h };
  order = λ i h. gathering-stays.ordered z a b f h;
  place = λ i h j. gathering-stays.in_its_place z a b f h;
}

-- ---- where the root is fixed

-- Nothing is picked by what isn't.
pub picks-fixed : (z v : Text → Bool) (n k : ℕ) (g : Names Ty) (r : OpenRule) (a : Ex) → is_fixed z a ≡ true → PicksKept z n k g v r a
picks-fixed z v n k g in_order_of_its_source (comp_ex e gs) h =
    go (at_first_open gs) (opened-has (fixed z) gs (fixed-has z (comp_ex e gs) h).1)
  where
    at : (g : Names Ty) (hs : Gens) → GensHave (fixed z) hs → PickKept z n k g v hs
    at g (from (name_pat y) t hs) i = λ q. let p : true ≡ false = sym (has-fixed z t i.1) ∙ q in cc
    at g (from (tuple_pat ps) t hs) i = tt
    at g no_gens i = tt
    at g (over p d hs) i = tt
    at g (cond c hs) i = tt

    go : (o : Option Opened) → OpenedHas (fixed z) o → OfSome o (λ t. PickKept z n k (names_behind t.before g) v t.after)
    go None i = tt
    go (Some t) i = at (names_behind t.before g) t.after i.1
picks-fixed z v n k g r a h = tt

-- Nor are the items of a source counted by what isn't.
at-source : (z : Text → Bool) (P : Gens → Type 0) → ((hs : Gens) → GensHave (fixed z) hs → P hs) → (e : Ex) → is_fixed z e ≡ true →
    AtSource P e
at-source z P f (comp_ex e gs) h = go (at_first_open gs) (opened-has (fixed z) gs (fixed-has z (comp_ex e gs) h).1)
  where
    go : (o : Option Opened) → OpenedHas (fixed z) o → OfSome o (λ t. P t.after)
    go None i = tt
    go (Some t) i = f t.after i.1
at-source z P f _ h = tt

pub sources-fixed : (z v : Text → Bool) (n k : ℕ) (r : OrderedRule) (a : Ex) → is_fixed z a ≡ true → SourcesKept z n k v r a
sources-fixed z v n k source_by_indices a h = at-source z (CountsKept z v) counts a h
  where
    counts : (hs : Gens) → GensHave (fixed z) hs → CountsKept z v hs
    counts (from (name_pat y) t hs) i = λ q. let p : true ≡ false = sym (has-fixed z t i.1) ∙ q in cc
    counts (from (tuple_pat ps) t hs) i = tt
    counts no_gens i = tt
    counts (over p d hs) i = tt
    counts (cond c hs) i = tt
sources-fixed z v n k source_of_an_item a h = at-source z (ItemKept z n k v) items a h
  where
    items : (hs : Gens) → GensHave (fixed z) hs → ItemKept z n k v hs
    items (from (name_pat y) t hs) i = λ q. let p : true ≡ false = sym (has-fixed z t i.1) ∙ q in cc
    items (from (tuple_pat ps) t hs) i = tt
    items no_gens i = tt
    items (over p d hs) i = tt
    items (cond c hs) i = tt
sources-fixed z v n k r a h = tt

counts-fixed : (z v : Text → Bool) (e : Ex) → ((a : Text) → z a ≡ true → v a ≡ true) → is_fixed z e ≡ true → CountsFixed v e
counts-fixed z v (comp_ex e gs) more h =
    and-right (is_fixed v e) (are_fixed_gens v gs) (fixed-among z z v (λ a i j. more a j) (comp_ex e gs) h h)
counts-fixed z v _ more h = tt

-- What is counted is fixed.
pub both-fixed : (z v : Text → Bool) (a : Ex) → ((e : Text) → z e ≡ true → v e ≡ true) → is_fixed z a ≡ true → BothCountFixed v a
both-fixed z v (ex2 m o a b) more h = (
  counts-fixed z v a more (and-left (is_fixed z a) (is_fixed z b && true) h),
  counts-fixed z v b more (and-left (is_fixed z b) true (and-right (is_fixed z a) (is_fixed z b && true) h)),
)
both-fixed z v _ more h = tt
