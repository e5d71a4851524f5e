-- What is shown at each statement over tables, and so behind all of them.
use Rattle.std.proofs.Common.{◌≡◌, refl, sym, ap, ◌∙◌, subst, Bool, true, false, ◌||◌, not, if◌then◌else◌, List, [], ◌∷◌, ◌++◌, ◌⊎◌, inl, inr, filter, map, length, pos, Some}
use Rattle.std.specs.List.{list_all}
use Rattle.ess_semantics.specs.Values.{Text}
use Rattle.ess_semantics.specs.Order.{same_text}
use Rattle.ess_semantics.specs.Names.{Names, look, is_among, all_distinct}
use Rattle.ess_semantics.specs.Trees.{Ex, number_ex, cell_ex, no_exs, Dom, Stm, given, given_enum, let_ex, let_dom, let_enum, let_unnamed, needs, find, such_that, minimise, maximise}
use Rattle.ess_semantics.specs.Judgements.{declares}
use Rattle.ess_semantics.specs.Parameters.{all_declared}
use Rattle.ess_semantics.specs.Plans.{Options, Plan, plans, is_plan_for}
use Rattle.ess_semantics.specs.Models.{scalar_cell, cell_for}
use Rattle.ess_semantics.proofs.Tests.{and-left, and-right}
use Rattle.ess_semantics.proofs.Texts.{same_text-equal, same_text-itself}
use Rattle.conjure_laws.specs.Members.{In}
use Rattle.conjure_laws.specs.SetsOfAtoms.{TypeKind, fixed, sized}
use Rattle.conjure_laws.specs.ModelsOfSets.{size_name}
use Rattle.conjure_laws.proofs.FreeNames.{halves}
use Rattle.conjure_laws.proofs.Lists.{at-item}
use Rattle.conjure_laws.proofs.NamedTables.{in-among}
use Rattle.conjure_laws.proofs.SetNames.{look-cons}
use Rattle.conjure_model_laws.specs.Shown.{Shows, shown_dom, view_by, with_views, with_declared, shows_behind, shows_from}
use Rattle.conjure_model_laws.specs.ToldApart.{told_dom}
use Rattle.ess_flat_models_laws.specs.FlatSpecifications.{given_mark, mark_among, is_scalar_dom, scalar_mark}
use Rattle.ess_nested_laws.specs.NestedDomains.{is_nested_dom}
use Rattle.ess_mixed_models_laws.specs.MixedSpecifications.{kinds_by, known_after, is_of_sets, is_set_dom, is_mixed_statement, types_come_first, have_bounds}
use Rattle.ess_mixed_models_laws.proofs.NamedKinds.{no-yes}
use Rattle.conjure_standing_laws.proofs.ShownStill.{SameFor, declared-still, stm-still, off-here, off-later, all-still, known-still}

-- ---- at each statement

module _ (S : List Stm) (o : Options)
    (views : (a : Text) (m : Bool) → scalar_mark (plans S o) a ≡ Some m → (c : Dom) →
    (vs : List Ex) × (map (view_by c) (filter (is_plan_for a) (plans S o)) ≡ cell_for a (scalar_cell (plans S o) a) ∷ vs))
    (marked : (a : Text) → given_mark (plans S o) a ≡ Some false → scalar_mark (plans S o) a ≡ Some false) where
  abbrev Ps : List Plan
  Ps = plans S o

  -- The number of values of a type.
  abbrev pub size_of : TypeKind → Text → Ex
  size_of (fixed n) t = number_ex (pos n)
  size_of sized t = cell_ex false (size_name Ps t) no_exs

  -- Where types ks and givens xs are declared before, and statements T are left.
  pub record Place (ks : Names TypeKind) (xs : List Text) (T : List Stm) (sh : Shows) : Type 0 where
    pub test : list_all (is_mixed_statement S o) T ≡ true
    pub types : types_come_first ks T ≡ true
    pub bounds : have_bounds Ps xs T ≡ true
    pub once : all_distinct (all_declared T) ≡ true
    pub sizes : (t : Text) (k : TypeKind) → look ks t ≡ Some k → look sh.sizes t ≡ Some (size_of k t)
    pub apart : (t : Text) (k : TypeKind) → look ks t ≡ Some k → is_among (all_declared T) t ≡ false
    pub seen : (a : Text) → is_among xs a ≡ true → given_mark Ps a ≡ Some false → look sh.first a ≡ Some (cell_for a (scalar_cell Ps a))
    pub behind : (a : Text) → is_among xs a ≡ true → is_among (all_declared T) a ≡ false

  -- The first view of a given that is declared.
  given-seen : (x : Text) (d : Dom) (sh : Shows) → given_mark Ps x ≡ Some false →
      look (with_declared Ps x d sh).first x ≡ Some (cell_for x (scalar_cell Ps x))
  given-seen x d sh m =
      let c : Dom = shown_dom sh (told_dom d [] sh.next).0 in
      let v = views x false (marked x m) (shown_dom sh (told_dom d [] sh.next).0) in
      ap (λ l. look (with_views x l (record sh {
        doms = (x, shown_dom sh (told_dom d [] sh.next).0) ∷ sh.doms;
        next =
            (told_dom d [] sh.next).1;
      })).first x)
      v.1 ∙ ap (λ b. if b then Some (cell_for x (scalar_cell Ps x)) else look sh.first x) (same_text-itself x)

  once-later : (s : Stm) (T : List Stm) → all_distinct (all_declared (s ∷ T)) ≡ true → all_distinct (all_declared T) ≡ true
  once-later s T d = (halves (declares s) (all_declared T) d).1

  -- What is declared here isn't declared later.
  not-later : (s : Stm) (T : List Stm) (a : Text) → all_distinct (all_declared (s ∷ T)) ≡ true → is_among (declares s) a ≡ true →
      In a (declares s) → is_among (all_declared T) a ≡ false
  not-later s T a d i j = at-item (λ a. is_among (all_declared T) a ≡ false) (declares s) a (halves (declares s) (all_declared T) d).2 j

  still-sizes : (s : Stm) (T : List Stm) (ks : Names TypeKind) (xs : List Text) (sh : Shows) → Place ks xs (s ∷ T) sh →
      (t : Text) (k : TypeKind) → look ks t ≡ Some k → look (shows_behind Ps s sh).sizes t ≡ Some (size_of k t)
  still-sizes s T ks xs sh w t k e = (stm-still Ps s sh t (off-here s T t (w.apart t k e))).sizes ∙ w.sizes t k e

  -- A statement that declares neither types nor givens.
  plain-next : (s : Stm) (T : List Stm) (ks : Names TypeKind) (xs : List Text) (sh : Shows) → Place ks xs (s ∷ T) sh →
      types_come_first ks T ≡ true → have_bounds Ps xs T ≡ true → Place ks xs T (shows_behind Ps s sh)
  plain-next s T ks xs sh w t b = record {
    test = and-right (is_mixed_statement S o s) (list_all (is_mixed_statement S o) T) w.test;
    types = t;
    bounds = b;
    once = once-later s T w.once;
    sizes = still-sizes s T ks xs sh w;
    apart = λ t k e. off-later s T t (w.apart t k e);
    seen = λ a i m. (stm-still Ps s sh a (off-here s T a (w.behind a i))).first ∙ w.seen a i m;
    behind = λ a i. off-later s T a (w.behind a i);
  }

  -- One that declares a type.
  type-next : (s : Stm) (u : Text) (k0 : TypeKind) (T : List Stm) (ks : Names TypeKind) (xs : List Text) (sh : Shows) →
      Place ks xs (s ∷ T) sh →
      types_come_first ((u, k0) ∷ ks) T ≡ true → have_bounds Ps xs T ≡ true → In u (declares s) →
      look (shows_behind Ps s sh).sizes u ≡ Some (size_of k0 u) → Place ((u, k0) ∷ ks) xs T (shows_behind Ps s sh)
  type-next s u k0 T ks xs sh w t b i z = record {
    test = and-right (is_mixed_statement S o s) (list_all (is_mixed_statement S o) T) w.test;
    types = t;
    bounds = b;
    once = once-later s T w.once;
    sizes = λ v k e. size v k (look-cons u v k0 k ks e);
    apart = λ v k e. off v k (look-cons u v k0 k ks e);
    seen = λ a i m. (stm-still Ps s sh a (off-here s T a (w.behind a i))).first ∙ w.seen a i m;
    behind = λ a i. off-later s T a (w.behind a i);
  }
    where
      size : (v : Text) (k : TypeKind) → ((u ≡ v) × (k0 ≡ k)) ⊎ (look ks v ≡ Some k) →
          look (shows_behind Ps s sh).sizes v ≡ Some (size_of k v)
      size v k (inl q) =
          subst (λ k. look (shows_behind Ps s sh).sizes v ≡ Some (size_of k v)) q.1
          (subst (λ v. look (shows_behind Ps s sh).sizes v ≡ Some (size_of k0 v)) q.0 z)
      size v k (inr e) = still-sizes s T ks xs sh w v k e

      off : (v : Text) (k : TypeKind) → ((u ≡ v) × (k0 ≡ k)) ⊎ (look ks v ≡ Some k) → is_among (all_declared T) v ≡ false
      off v k (inl q) = subst (λ v. is_among (all_declared T) v ≡ false) q.0 (not-later s T u w.once (in-among (declares s) u i) i)
      off v k (inr e) = off-later s T v (w.apart v k e)

  at-itself : {A : Type 0} (t : Text) (v : A) (g : Names A) → look ((t, v) ∷ g) t ≡ Some v
  at-itself t v g = ap (λ b. if b then Some v else look g t) (same_text-itself t)

  -- From one statement to the next.
  next : (s : Stm) (T : List Stm) (ks : Names TypeKind) (xs : List Text) (sh : Shows) → Place ks xs (s ∷ T) sh →
      (ys : List Text) × Place (kinds_by s ++ ks) ys T (shows_behind Ps s sh)
  next (given x d) T ks xs sh w = (
    x ∷ xs,
    record {
      test = and-right (is_mixed_statement S o (given x d)) (list_all (is_mixed_statement S o) T) w.test;
      types = w.types;
      bounds = and-right (is_scalar_dom (mark_among xs (given_mark Ps)) d) (have_bounds Ps (x ∷ xs) T) w.bounds;
      once = once-later (given x d) T w.once;
      sizes = still-sizes (given x d) T ks xs sh w;
      apart = λ t k e. off-later (given x d) T t (w.apart t k e);
      seen = λ a i m. go a (same_text x a) refl i m;
      behind = λ a i. off a (same_text x a) refl i;
    },
  )
    where
      go : (a : Text) (b : Bool) → same_text x a ≡ b → same_text x a || is_among xs a ≡ true → given_mark Ps a ≡ Some false →
          look (with_declared Ps x d sh).first a ≡ Some (cell_for a (scalar_cell Ps a))
      go a true q i m =
          subst (λ a. given_mark Ps a ≡ Some false → look (with_declared Ps x d sh).first a ≡ Some (cell_for a (scalar_cell Ps a)))
          (same_text-equal x a q) (λ m. given-seen x d sh m) m
      go a false q i m = (declared-still Ps x d sh a q).first ∙ w.seen a (sym (ap (λ c. c || is_among xs a) q) ∙ i) m

      off : (a : Text) (b : Bool) → same_text x a ≡ b → same_text x a || is_among xs a ≡ true → is_among (all_declared T) a ≡ false
      off a true q i =
          subst (λ a. is_among (all_declared T) a ≡ false) (same_text-equal x a q)
          (not-later (given x d) T x w.once (ap (λ c. c || false) (same_text-itself x)) (inl refl))
      off a false q i = off-later (given x d) T a (w.behind a (sym (ap (λ c. c || is_among xs a) q) ∙ i))
  next (find x d) T ks xs sh w = (
    xs,
    plain-next (find x d) T ks xs sh w (and-right (not (is_of_sets d) || (is_set_dom ks d || is_nested_dom d)) (types_come_first ks T) w.types)
        (and-right (is_of_sets d || is_scalar_dom (mark_among xs (given_mark Ps)) d) (have_bounds Ps xs T) w.bounds),
  )
  next (given_enum t) T ks xs sh w = (
    xs,
    type-next (given_enum t) t sized T ks xs sh w w.types w.bounds (inl refl) (at-itself t (cell_ex false
        (size_name Ps t) no_exs) sh.sizes),
  )
  next (let_enum t ns) T ks xs sh w = (
    xs,
    type-next (let_enum t ns) t (fixed (length ns)) T ks xs sh w w.types w.bounds (inl refl)
        (at-itself t (number_ex (pos (length ns))) sh.sizes),
  )
  next (let_unnamed t e) T ks xs sh w = unnamed e w
    where
      unnamed : (e : Ex) → Place ks xs (let_unnamed t e ∷ T) sh →
          (ys : List Text) × Place (kinds_by (let_unnamed t e) ++ ks) ys T (shows_behind Ps (let_unnamed t e) sh)
      unnamed (number_ex (pos n)) w = (
        xs,
        type-next (let_unnamed t (number_ex (pos n))) t (fixed n) T ks xs sh w w.types w.bounds (inl refl)
            (at-itself t (number_ex (pos n)) sh.sizes),
      )
      unnamed e w = absurd (no-yes (and-left _ (list_all (is_mixed_statement S o) T) w.test))
  next (let_ex x e) T ks xs sh w = (xs, plain-next (let_ex x e) T ks xs sh w w.types w.bounds)
  next (let_dom x d) T ks xs sh w = (xs, plain-next (let_dom x d) T ks xs sh w w.types w.bounds)
  next (needs e) T ks xs sh w = (xs, plain-next (needs e) T ks xs sh w w.types w.bounds)
  next (such_that e) T ks xs sh w = (xs, plain-next (such_that e) T ks xs sh w w.types w.bounds)
  next (minimise e) T ks xs sh w = (xs, plain-next (minimise e) T ks xs sh w w.types w.bounds)
  next (maximise e) T ks xs sh w = (xs, plain-next (maximise e) T ks xs sh w w.types w.bounds)

  -- The place of a statement: what it declares is shown so behind all.
  pub record PlaceOf (s : Stm) (kinds : Names TypeKind) (end : Shows) : Type 0 where
    pub ks : Names TypeKind
    pub xs : List Text
    pub later : List Stm
    pub sh : Shows
    pub place : Place ks xs (s ∷ later) sh
    pub known : (t : Text) (k : TypeKind) → look ks t ≡ Some k → look kinds t ≡ Some k
    pub same : (a : Text) → In a (declares s) → SameFor a (shows_behind Ps s sh) end

  -- Each statement has one.
  pub place-of : (T : List Stm) (ks : Names TypeKind) (xs : List Text) (sh : Shows) → Place ks xs T sh → (s : Stm) → In s T →
      PlaceOf s (known_after kinds_by T ks) (shows_from Ps T sh)
  place-of [] ks xs sh w s i = absurd i
  place-of (u ∷ T) ks xs sh w s (inl e) =
      subst (λ s. PlaceOf s (known_after kinds_by (u ∷ T) ks) (shows_from Ps (u ∷ T) sh)) (sym e) (record {
        ks = ks;
        xs = xs;
        later = T;
        sh = sh;
        place = w;
        known = λ t k q. known-still (u ∷ T) ks t (w.apart t k q) ∙ q;
        same = λ a j. all-still Ps T (shows_behind Ps u sh) a (not-later u T a w.once (in-among (declares u) a j) j);
      })
  place-of (u ∷ T) ks xs sh w s (inr i) =
      let n = next u T ks xs sh w in place-of T (kinds_by u ++ ks) n.0 (shows_behind Ps u sh) n.1 s i
