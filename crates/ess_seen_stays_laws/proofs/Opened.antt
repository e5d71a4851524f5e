-- Generators of a tree over views at their first source: what goes before it, the set that it is, and that names there are told apart.
use Rattle.std.proofs.Common.{◌≡◌, refl, ap, ◌∙◌, ℕ, Bool, true, false, ◌||◌, not, if◌then◌else◌, List, ◌∷◌, Option, Some, None, option_map}
use Rattle.std.specs.Prelude.{IsTrue, is_some}
use Rattle.ess_semantics.specs.declared.words.Fun.{Fun}
use Rattle.ess_semantics.specs.Values.{Text}
use Rattle.ess_semantics.specs.Order.{same_text}
use Rattle.ess_semantics.specs.Names.{Names, look}
use Rattle.ess_semantics.specs.Trees.{name_pat, Ex, comp_ex, fun1, Gens, over, from, cond}
use Rattle.ess_semantics.specs.Substitution.{NamesAreGens}
use Rattle.ess_semantics.specs.Scoped.{with_names, Scoped, ScopedGens}
use Rattle.ess_semantics.proofs.Texts.{same_text-itself, same_text-either}
use Rattle.ess_semantics.proofs.Tests.{or-yes, not-true}
use Rattle.ess_rules_laws.specs.Listings.{Alternative}
use Rattle.ess_rules_laws.specs.SlotListings.{slots_dom}
use Rattle.ess_open_rules_laws.specs.OpenGenerators.{Opened, with_first, at_first_open}
use Rattle.ess_seen_laws.specs.ess_bare_laws.Lean.{FoldWord}
use Rattle.ess_seen_laws.specs.Seen.{Kind, Bound, over_a_range, over_slots, from_a_set, SetTerm, Seen, folded, Going, at_end, through, through_slots, among, where_holds, truths, numbers}
use Rattle.ess_seen_laws.specs.SeenParts.{AllBound}
use Rattle.ess_seen_laws.specs.Putting.{BindsNone, ListPut}
use Rattle.ess_seen_laws.specs.Laws.{SeenTreesStayAmongMore, MembersMayBePut, NamesOfSeenTrees}
use Rattle.ess_seen_stays_laws.proofs.NamesBoth.{names-both}
use Rattle.ess_seen_stays_laws.proofs.Offered.{Brings}

-- The names of r are among s.
abbrev pub Covers : Names Bound → (Text → Bool) → Type 0
Covers r s = (a : Text) (b : Bound) → look r a ≡ Some b → s a ≡ true

covers-more : (r : Names Bound) (s : Text → Bool) (a : Text) (b : Bound) → Covers r s → Covers ((a, b) ∷ r) (with_names s (name_pat a))
covers-more r s a b c x d h = go (same_text a x) h
  where
    go : (v : Bool) → (if v then Some b else look r x) ≡ Some d → s x || v ≡ true
    go true q = or-yes (s x)
    go false q = ap (λ w. w || false) (c x d q)

-- A name that isn't bound stays so behind another one.
new-behind : (r : Names Bound) (x a : Text) (b : Bound) → IsTrue (not (same_text x a)) → look r x ≡ None → look ((a, b) ∷ r) x ≡ None
new-behind r x a b q n = ap (λ c. if c then Some b else look r x) (same_text-either a x ∙ not-true (same_text x a) q) ∙ n

module _ (cells : Text → Option (Bool × List ℕ)) where
  -- The first generator binds a name over a set.
  pub data SetFirst : Names Bound → Gens → Names Bound → Type 0 where
    set_first : {u t : Names Bound} {k : Kind} {y : Text} {s : Ex} {hs : Gens} → SetTerm cells u s k →
        Going cells ((y, from_a_set k) ∷ u) hs t → SetFirst u (from (name_pat y) s hs) t

  -- The generators and e behind them, where the names u are bound, have their names told apart; and x is none of them.
  pub record ApartBehind (z : Text → Bool) (x : Text) (e : Ex) (u : Names Bound) (gs : Gens) : Type 0 where
    pub scope : Text → Bool
    pub ranging : Text → Bool
    pub scoped : ScopedGens z scope ranging gs (λ t p. Scoped z t p e)
    pub covers : Covers u scope
    pub new : look u x ≡ None
    pub unbound : NamesAreGens (λ a. true) (λ a. not (same_text x a)) gs

  -- What is opened: what goes before the source, the source, and names apart there.
  pub record OpenedAt (z : Text → Bool) (x : Text) (e : Ex) (r t : Names Bound) (p : Opened) : Type 0 where
    pub around : Names Bound
    pub before : Going cells r p.before around
    pub apart : ApartBehind z x e around p.after
    pub first : SetFirst around p.after t

  -- The same where anything is opened.
  abbrev pub IsOpened : (Text → Bool) → Text → Ex → Names Bound → Names Bound → Option Opened → Type 0
  IsOpened z x e r t None = Unit {0}
  IsOpened z x e r t (Some p) = OpenedAt z x e r t p

  -- The same with one more before.
  one-before : (z : Text → Bool) (x : Text) (e : Ex) (r u t : Names Bound) (f : Gens → Gens) →
      ((gs : Gens) (v : Names Bound) → Going cells u gs v → Going cells r (f gs) v) → (o : Option Opened) → IsOpened z x e u t o →
      IsOpened z x e r t (option_map (with_first f) o)
  one-before z x e r u t f g None h = tt
  one-before z x e r u t f g (Some p) h =
      record { around = h.around; before = g p.before h.around h.before; apart = h.apart; first = h.first }

  -- Behind a generator that binds a.
  apart-behind : {z : Text → Bool} {x : Text} {e : Ex} {r : Names Bound} {a : Text} {b : Bound} {gs : Gens} (s o : Text → Bool) →
      ScopedGens z (with_names s (name_pat a)) o gs (λ t p. Scoped z t p e) → Covers r s → look r x ≡ None →
      IsTrue (not (same_text x a)) → NamesAreGens (λ a. true) (λ a. not (same_text x a)) gs → ApartBehind z x e ((a, b) ∷ r) gs
  apart-behind {x = x} {r = r} {a = a} {b = b} s o h c n q u = record {
    scope = with_names s (name_pat a);
    ranging = o;
    scoped = h;
    covers = covers-more r s a b c;
    new = new-behind r x a b q n;
    unbound = u;
  }

  -- Generators at their first source.
  pub opened-at : (z : Text → Bool) (x : Text) (e : Ex) {r t : Names Bound} {gs : Gens} → Going cells r gs t → ApartBehind z x e r gs →
      IsOpened z x e r t (at_first_open gs)
  opened-at z x e at_end n = tt
  opened-at z x e {r} {t} (through {m = m} {a = a} {d = d} {gs = gs} truths k) n =
      one-before z x e r ((a, over_a_range m) ∷ r) t (over (name_pat a) d) (λ hs v h. through truths h) (at_first_open gs)
      (opened-at z x e k (apart-behind n.scope (with_names n.ranging (name_pat a)) n.scoped.2 n.covers n.new n.unbound.0 n.unbound.2))
  opened-at z x e {r} {t} (through {m = m} {a = a} {d = d} {gs = gs} (numbers g j) k) n =
      one-before z x e r ((a, over_a_range m) ∷ r) t (over (name_pat a) d) (λ hs v h. through (numbers g j) h) (at_first_open gs)
      (opened-at z x e k (apart-behind n.scope (with_names n.ranging (name_pat a)) n.scoped.2 n.covers n.new n.unbound.0 n.unbound.2))
  opened-at z x e {r} {t} (through_slots {k = j} {a = a} {e = i} {gs = gs} c k) n =
      one-before z x e r ((a, over_slots j) ∷ r) t (over (name_pat a) (slots_dom i)) (λ hs v h. through_slots c h) (at_first_open gs)
      (opened-at z x e k (apart-behind n.scope (with_names n.ranging (name_pat a)) n.scoped.2 n.covers n.new n.unbound.0 n.unbound.2))
  opened-at z x e {r} (among h k) n = record { around = r; before = at_end; apart = n; first = set_first h k }
  opened-at z x e {r} {t} (where_holds {c = c} {gs = gs} f k) n =
      one-before z x e r r t (cond c) (λ hs v h. where_holds f h) (at_first_open gs) (opened-at z x e k (record {
        scope = n.scope;
        ranging = n.ranging;
        scoped = n.scoped.1;
        covers = n.covers;
        new = n.new;
        unbound = n.unbound.1;
      }))

  -- ---- an alternative in the place of the source

  module _ (more : SeenTreesStayAmongMore) (puts : MembersMayBePut) (names : NamesOfSeenTrees) where
    -- The names that the alternative may use are those around the source and its own.
    pub listed-put : {z : Text → Bool} {x y : Text} {m : Bool} {w : Fun} {e s : Ex} {u t : Names Bound} {k : Kind} {hs : Gens} →
        FoldWord m w → (a : Alternative) → Brings cells x u k a → ApartBehind z x e u (from (name_pat y) s hs) →
        BindsNone (same_text x) e → Going cells ((y, from_a_set k) ∷ u) hs t → Seen cells t e m → ListPut cells u y a.item a.gens hs e m
    listed-put {z} {x} {y} {m} {w} {e} {s} {u} {t} {k} {hs} v a l n b g f =
        puts.listed cells taken u ((x, l.bound) ∷ u) t y k a.gens hs a.item e m l.going
        (more.new_name u x l.bound n.new) l.item covered y-taken binds.0.1 binds.0.0 g f
      where
        -- The names in scope behind y, and x.
        taken : Text → Bool
        taken = with_names (with_names n.scope (name_pat y)) (name_pat x)

        y-taken : IsTrue (taken y)
        y-taken = ap (λ c. (n.scope y || c) || same_text x y) (same_text-itself y) ∙ ap (λ c. c || same_text x y) (or-yes (n.scope y))

        covered : AllBound taken ((x, l.bound) ∷ u)
        covered c h = go (look ((x, l.bound) ∷ u) c) refl h
          where
            wide : Covers ((x, l.bound) ∷ u) (with_names (with_names n.scope (name_pat y)) (name_pat x))
            wide = covers-more u (with_names n.scope (name_pat y)) x l.bound
                (λ c d q. ap (λ v. v || same_text y c) (n.covers c d q))

            go : (o : Option Bound) → look ((x, l.bound) ∷ u) c ≡ o → IsTrue (is_some o) →
                IsTrue (with_names (with_names n.scope (name_pat y)) (name_pat x) c)
            go None q i = cc
            go (Some d) q i = wide c d q

        binds : BindsNone taken (fun1 m w (comp_ex e hs))
        binds = names-both (with_names n.scope (name_pat y)) (same_text x) (fun1 m w (comp_ex e hs))
            (names.binds_new cells ((y, from_a_set k) ∷ u) (fun1 m w (comp_ex e hs)) m (folded v g f) z
            (with_names n.scope (name_pat y)) n.ranging (n.scoped.2, tt)) ((b, n.unbound.2), tt)
