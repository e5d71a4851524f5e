-- Generators of a tree over views, taken apart at the first that isn't plain: the names behind the plain ones, and their values.
use Rattle.std.proofs.Common.{◌≡◌, refl, subst, ℕ, Bool, true, false, ◌||◌, if◌then◌else◌, List, ◌∷◌, Option, Some, None, option_map}
use Rattle.std.specs.Prelude.{IsTrue}
use Rattle.ess_semantics.specs.Values.{Text}
use Rattle.ess_semantics.specs.Order.{same_text}
use Rattle.ess_semantics.specs.Names.{Names, look}
use Rattle.ess_semantics.specs.Trees.{name_pat, Ex, Gens, over, cond, Dom, bool_dom}
use Rattle.ess_semantics.specs.Typed.{Typed}
use Rattle.ess_semantics.specs.Meaning.{Env, domain_of, members_in, with_pat}
use Rattle.ess_semantics.specs.Scoped.{with_names}
use Rattle.ess_semantics.specs.Contexts.{EachOf, AtEach}
use Rattle.ess_types_laws.proofs.SoundEnvs.{over-typed}
use Rattle.ess_rules_laws.proofs.Bindings.{each-of-map}
use Rattle.ess_rules_laws.specs.SlotListings.{slots_dom}
use Rattle.ess_refine_laws.specs.ScopesStay.{Scope, scope_behind}
use Rattle.ess_open_rules_laws.specs.OpenGenerators.{Opened, with_first, opened_here, at_first_open}
use Rattle.ess_seen_laws.specs.Seen.{Bound, over_a_range, over_slots, bound_types, Going, at_end, through, through_slots, among, where_holds, Range, truths, numbers}
use Rattle.ess_seen_values_laws.proofs.Names.{Covers}

-- Names have values of their types, and positions stand for the values of named types.
abbrev pub Holds : Names Bound → Env → Type 0
Holds r env = Typed (bound_types r) env × IsTrue env.positions

-- A name more, bound around and in scope.
pub covers-more : (r : Names Bound) (s : Text → Bool) (a : Text) (b : Bound) → Covers r s → Covers ((a, b) ∷ r) (with_names s (name_pat a))
covers-more r s a b f c d q = go (same_text a c) q (f c d)
  where
    go : (x : Bool) → (if x then Some b else look r c) ≡ Some d → (look r c ≡ Some d → s c ≡ true) → s c || x ≡ true
    go true q f = second (s c)
      where
        second : (y : Bool) → y || true ≡ true
        second true = refl
        second false = refl
    go false q f = first (s c) (f q)
      where
        first : (y : Bool) → y ≡ true → y || false ≡ true
        first true h = refl
        first false h = h

module _ (cells : Text → Option (Bool × List ℕ)) where
  -- The names behind the plain generators, what goes on there, the scope, and their values at each binding.
  pub record Open (r : Names Bound) (t : Opened) (u : Names Bound) : Type 0 where
    pub around : Names Bound
    pub going : Going cells around t.after u
    pub covers : (s : Scope) → Covers r s.all → Covers around (scope_behind t.before s).all
    pub holds : (env : Env) → Holds r env → AtEach t.before env (Holds around)

  -- Names have values of their types behind a generator over a range.
  pub range-holds : {r : Names Bound} {d : Dom} {m : Bool} (a : Text) → Range cells r d m → (env : Env) → Typed (bound_types r) env →
      EachOf (members_in (domain_of d env)) (λ v. Typed (bound_types ((a, over_a_range m) ∷ r)) (with_pat (name_pat a) v env))
  range-holds {r = r} a truths env t = over-typed (bound_types r) (name_pat a) bool_dom refl env t
  range-holds {r = r} {d = d} a (numbers q b) env t = over-typed (bound_types r) (name_pat a) d refl env t

  -- And behind one over slots.
  pub slots-hold : (r : Names Bound) (k : ℕ) (a : Text) (e : Ex) → (env : Env) → Typed (bound_types r) env →
      EachOf (members_in (domain_of (slots_dom e) env)) (λ v. Typed (bound_types ((a, over_slots k) ∷ r)) (with_pat (name_pat a) v env))
  slots-hold r k a e env t = over-typed (bound_types r) (name_pat a) (slots_dom e) refl env t

  -- A generator over a domain before.
  over-open : {r u : Names Bound} (a : Text) (b : Bound) (d : Dom) →
      ((env : Env) → Typed (bound_types r) env →
      EachOf (members_in (domain_of d env)) (λ v. Typed (bound_types ((a, b) ∷ r)) (with_pat (name_pat a) v env))) → (t : Opened) →
      Open ((a, b) ∷ r) t u → Open r (with_first (over (name_pat a) d) t) u
  over-open {r} {u} a b d g t o = record {
    around = o.around;
    going = o.going;
    covers = λ s c. o.covers (record { all = with_names s.all (name_pat a); over_domains = with_names s.over_domains (name_pat a) })
        (covers-more r s.all a b c);
    holds = λ env h. each-of-map (members_in (domain_of d env)) _ _ (λ v k. o.holds (with_pat (name_pat a) v env) (k, h.1))
        (g env h.0);
  }

  cond-open : {r u : Names Bound} (c : Ex) (t : Opened) → Open r t u → Open r (with_first (cond c) t) u
  cond-open c t o = record {
    around = o.around;
    going = o.going;
    covers = λ s k. o.covers s k;
    holds = λ env h. λ w. o.holds env h;
  }

  here-open : {r u : Names Bound} {gs : Gens} → Going cells r gs u → Open r (opened_here gs) u
  here-open {r = r} g = record { around = r; going = g; covers = λ s c. c; holds = λ env h. h }

  -- What is so of the rest is so with a generator before it.
  behind : {r u v : Names Bound} (f : Gens → Gens) (o : Option Opened) →
      ((t : Opened) → Open r t u → Open v (with_first f t) u) → ((t : Opened) → o ≡ Some t → Open r t u) → (t : Opened) →
      option_map (with_first f) o ≡ Some t → Open v t u
  behind f None g h t q = cc
  behind {u = u} {v = v} f (Some x) g h t q = subst (λ z. Open v z u) (let e : with_first f x ≡ t = cc in e) (g x (h x refl))

  -- So generators are that are taken apart there.
  pub opened : {r u : Names Bound} {gs : Gens} → Going cells r gs u → (t : Opened) → at_first_open gs ≡ Some t → Open r t u
  opened at_end t q = cc
  opened (through {a = a} {d = d} {gs = gs} truths k) t q =
      behind (over (name_pat a) d) (at_first_open gs) (over-open a _ d (range-holds a truths)) (opened k) t q
  opened (through {a = a} {d = d} {gs = gs} (numbers b e) k) t q =
      behind (over (name_pat a) d) (at_first_open gs) (over-open a _ d (range-holds a (numbers b e))) (opened k) t q
  opened {r} (through_slots {k = n} {a = a} {e = e} {gs = gs} c k) t q =
      behind (over (name_pat a) (slots_dom e)) (at_first_open gs) (over-open a (over_slots n) (slots_dom e) (slots-hold r n a e))
      (opened k) t q
  opened {r} {u} (among k g) t q = subst (λ z. Open r z u) (let e : opened_here _ ≡ t = cc in e) (here-open (among k g))
  opened (where_holds {c = c} {gs = gs} f k) t q = behind (cond c) (at_first_open gs) (cond-open c) (opened k) t q
