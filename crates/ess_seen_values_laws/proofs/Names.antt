-- Names of trees over views: those that are bound are none of those in scope; and what a view of a set offers has names of its own.
use Rattle.std.proofs.Common.{◌≡◌, refl, ℕ, Bool, true, false, ◌||◌, not, List, ◌⊎◌, inl, inr, pos, Option, Some, subst}
use Rattle.std.specs.Prelude.{IsTrue}
use Rattle.ess_semantics.specs.Values.{Text}
use Rattle.ess_semantics.specs.Order.{same_text}
use Rattle.ess_semantics.specs.Names.{Names, look}
use Rattle.ess_semantics.specs.Trees.{Mark, Repr, name_pat, Ex, Exs, number_ex, name_ex, comp_ex, seen_ex, no_exs, more_exs, Gens, from, Dom, set_dom}
use Rattle.ess_semantics.specs.Substitution.{NamesAre, NamesAreExs, NamesAreGens, NamesAreDom}
use Rattle.ess_semantics.specs.Scoped.{with_names, Scoped, ScopedExs, ScopedGens, ScopedDom}
use Rattle.ess_semantics.proofs.Texts.{same_text-itself}
use Rattle.ess_nested_laws.proofs.NestedForms.{no-yes, atom-form, NestedSet, nested-form}
use Rattle.ess_repr_declare_laws.specs.SizeTerms.{slots_ex}
use Rattle.ess_rules_laws.specs.Listings.{Alternative}
use Rattle.ess_rules_laws.specs.ListedSources.{laid_out}
use Rattle.ess_rules_laws.specs.SetListings.{put_last}
use Rattle.ess_rules_laws.specs.SpliceRules.{NamesApart}
use Rattle.ess_kind_rules_laws.specs.ViewListings.{view_listing}
use Rattle.ess_kind_sizes_laws.proofs.SetListings.{of_occurrences, of_all, of_marked, of_flagged, of_dummies}
use Rattle.ess_kind_sizes_laws.proofs.ViewsBehind.{last-named}
use Rattle.ess_seen_laws.specs.Seen.{Bound, over_slots, Kind, Keeps, as_an_atom, by_occurrence, with_a_dummy, in_slots, with_a_marker, with_flags, Places, no_place, at_slot, SetTerm, view, drawn, combined, Seen, number, truth, named, counted, figure, flag, atom, one, two, chosen, folded, of_items, size, within, set_within, compared, Listed, last_item, item_before, Indices, no_index, one_index, Going, at_end, through, through_slots, among, where_holds, Range, truths, numbers}
use Rattle.ess_seen_laws.proofs.Counts.{counted-named}
use Rattle.ess_seen_values_laws.proofs.SetViews.{dummy-named}
use Rattle.ess_seen_values_laws.proofs.SizeNames.{atom-named, nested-named, inner-named, slots-named}

-- ---- places

-- Each name that is bound around is in scope.
abbrev pub Covers : Names Bound → (Text → Bool) → Type 0
Covers r s = (a : Text) (b : Bound) → look r a ≡ Some b → s a ≡ true

-- Indices of a view are such names.
pub places-named : {cells : Text → Option (Bool × List ℕ)} {r : Names Bound} {js : Exs} {ks : List ℕ} (s b : Text → Bool) →
    Covers r s → Places cells r js ks → NamesAreExs s b js
places-named s b c no_place = tt
places-named s b c (at_slot {a = a} {k = k} q p) = (c a (over_slots k) q, places-named s b c p)

-- Nothing is bound in them.
pub places-any : {cells : Text → Option (Bool × List ℕ)} {r : Names Bound} {js : Exs} {ks : List ℕ} (u b : Text → Bool) →
    Places cells r js ks → NamesAreExs u (λ a. true) js → NamesAreExs u b js
places-any u b no_place h = tt
places-any u b (at_slot q p) h = (h.0, places-any u b p h.1)

pub places-free : {cells : Text → Option (Bool × List ℕ)} {r : Names Bound} {js : Exs} {ks : List ℕ} (b : Text → Bool) →
    Places cells r js ks → NamesAreExs (λ a. true) b js
places-free b no_place = tt
places-free b (at_slot q p) = (refl, places-free b p)

-- ---- tests

negated : (b : Bool) → b ≡ true → IsTrue (not b) → ⊥
negated true q h = cc
negated false q h = cc

or-first : (x y : Bool) → x ≡ true → x || y ≡ true
or-first true y h = refl
or-first false y h = cc

or-second : (x y : Bool) → y ≡ true → x || y ≡ true
or-second true y h = refl
or-second false y h = h

-- ---- bound names

-- The new name x, and names S that are in scope or x.
module _ (cells : Text → Option (Bool × List ℕ)) (z : Text → Bool) (x : Text) (S : Text → Bool) where
  abbrev Other : Text → Bool
  Other a = not (same_text x a)

  abbrev Free : Text → Bool
  Free a = not (S a)

  abbrev Every : Text → Bool
  Every a = true

  abbrev pub Within : (Text → Bool) → Type 0
  Within s = (a : Text) → S a ≡ true → (s a ≡ true) ⊎ (same_text x a ≡ true)

  new-binder : (s : Text → Bool) → Within s → (a : Text) → IsTrue (not (s a)) → IsTrue (Other a) → IsTrue (Free a)
  new-binder s w a h k = go (S a) (w a)
    where
      no-way : {A : Type 0} → (s a ≡ true) ⊎ (same_text x a ≡ true) → A
      no-way (inl q) = absurd (negated (s a) q h)
      no-way (inr q) = absurd (negated (same_text x a) q k)

      go : (b : Bool) → (b ≡ true → (s a ≡ true) ⊎ (same_text x a ≡ true)) → IsTrue (not b)
      go true f = no-way (f refl)
      go false f = refl

  pub wider : (s : Text → Bool) (b : Text) → Within s → Within (with_names s (name_pat b))
  wider s b w a q = go (w a q)
    where
      go : (s a ≡ true) ⊎ (same_text x a ≡ true) → (s a || same_text b a ≡ true) ⊎ (same_text x a ≡ true)
      go (inl h) = inl (or-first (s a) (same_text b a) h)
      go (inr h) = inr h

  set-apart : {r : Names Bound} {e : Ex} {k : Kind} → SetTerm cells r e k → NamesAre Other Every e → NamesAre Other Free e
  set-apart (view {ms = ms} {es = es} {d = d} n f q p) u =
      (nested-named Other Free (nested-form 250 (set_dom ms es d) n), places-any Other Free p u.1)
  set-apart (drawn q) u = u
  set-apart (combined c f g) u = (set-apart f u.0, (set-apart g u.1.0, tt))

  mutual
    -- Names that the tree binds are none of S.
    pub seen-apart : {r : Names Bound} {e : Ex} {m : Bool} → Seen cells r e m → (s o : Text → Bool) → Scoped z s o e → Within s →
        NamesAre Other Every e → NamesAre Every Other e → NamesAre Other Free e
    seen-apart number s o h w u b = tt
    seen-apart truth s o h w u b = tt
    seen-apart (named q k) s o h w u b = u
    seen-apart (counted c) s o h w u b = counted-named Other Free c
    seen-apart (figure q p) s o h w u b = places-any Other Free p u
    seen-apart (flag q i) s o h w u b = indices-apart i s o h w u b
    seen-apart (atom {d = d} (as_an_atom v q) p) s o h w u b = (atom-named Other Free (atom-form d v), places-any Other Free p u.1)
    seen-apart (one f g) s o h w u b = (seen-apart g s o h.0 w u.0 b.0, tt)
    seen-apart (two f g k) s o h w u b = (seen-apart g s o h.0 w u.0 b.0, (seen-apart k s o h.1.0 w u.1.0 b.1.0, tt))
    seen-apart (chosen g) s o h w u b = (seen-apart g s o h.0 w u.0 b.0, tt)
    seen-apart (folded {e = e} v g f) s o h w u b = (
      going-apart g e s o h.0 w u.0.1 b.0.1 (λ p q i n. seen-apart f p q i n u.0.0 b.0.0),
      tt,
    )
    seen-apart (of_items v l) s o h w u b = (items-apart l s o h.0 w u.0 b.0, tt)
    seen-apart (size t) s o h w u b = (set-apart t u.0, tt)
    seen-apart (within f t) s o h w u b = (seen-apart f s o h.0 w u.0 b.0, (set-apart t u.1.0, tt))
    seen-apart (set_within f t) s o h w u b = (set-apart f u.0, (set-apart t u.1.0, tt))
    seen-apart (compared c f t) s o h w u b = (set-apart f u.0, (set-apart t u.1.0, tt))

    items-apart : {r : Names Bound} {es : Exs} {m : Bool} → Listed cells r es m → (s o : Text → Bool) → ScopedExs z s o es → Within s →
        NamesAreExs Other Every es → NamesAreExs Every Other es → NamesAreExs Other Free es
    items-apart (last_item f) s o h w u b = (seen-apart f s o h.0 w u.0 b.0, tt)
    items-apart (item_before f i) s o h w u b = (seen-apart f s o h.0 w u.0 b.0, items-apart i s o h.1 w u.1 b.1)

    indices-apart : {r : Names Bound} {es : Exs} {k : ℕ} → Indices cells r es k → (s o : Text → Bool) → ScopedExs z s o es → Within s →
        NamesAreExs Other Every es → NamesAreExs Every Other es → NamesAreExs Other Free es
    indices-apart no_index s o h w u b = tt
    indices-apart (one_index f i) s o h w u b = (seen-apart f s o h.0 w u.0 b.0, indices-apart i s o h.1 w u.1 b.1)

    -- The same of what generators bind, with what stands behind them.
    going-apart : {r t : Names Bound} {gs : Gens} → Going cells r gs t → (e : Ex) (s o : Text → Bool) →
        ScopedGens z s o gs (λ p q. Scoped z p q e) → Within s → NamesAreGens Other Every gs → NamesAreGens Every Other gs →
        ((p q : Text → Bool) → Scoped z p q e → Within p → NamesAre Other Free e) → NamesAre Other Free e × NamesAreGens Other Free gs
    going-apart at_end e s o h w v c f = (f s o h w, tt)
    going-apart (through {a = a} g k) e s o h w v c f =
        let i = going-apart k e (with_names s (name_pat a)) (with_names o (name_pat a)) h.2 (wider s a w) v.2 c.2 f in
        (i.0, (new-binder s w a h.0 c.0, range-apart g s o h.1 w v.1 c.1, i.1))
    going-apart (through_slots {a = a} n k) e s o h w v c f =
        let i = going-apart k e (with_names s (name_pat a)) (with_names o (name_pat a)) h.2 (wider s a w) v.2 c.2 f in
        (i.0, (new-binder s w a h.0 c.0, (tt, (counted-named Other Free n, tt)), i.1))
    going-apart (among {a = a} t k) e s o h w v c f =
        let i = going-apart k e (with_names s (name_pat a)) o h.2 (wider s a w) v.2 c.2 f in
        (i.0, (new-binder s w a h.0 c.0, set-apart t v.1, i.1))
    going-apart (where_holds g k) e s o h w v c f =
        let i = going-apart k e s o h.1 w v.1 c.1 f in (i.0, (seen-apart g s o h.0 w v.0 c.0, i.1))

    range-apart : {r : Names Bound} {d : Dom} {m : Bool} → Range cells r d m → (s o : Text → Bool) → ScopedDom z s o d → Within s →
        NamesAreDom Other Every d → NamesAreDom Every Other d → NamesAreDom Other Free d
    range-apart truths s o h w u b = tt
    range-apart (numbers f g) s o h w u b = (seen-apart f s o h.0 w u.0 b.0, (seen-apart g s o h.1.0 w u.1.0 b.1.0, tt))

  -- What stands behind generators, with these.
  pub list-apart : {r t : Names Bound} {gs : Gens} {e : Ex} {m : Bool} → Going cells r gs t → Seen cells t e m → (s o : Text → Bool) →
      ScopedGens z s o gs (λ p q. Scoped z p q e) → Within s → NamesAre Other Every e → NamesAre Every Other e →
      NamesAreGens Other Every gs → NamesAreGens Every Other gs → NamesAre Other Free e × NamesAreGens Other Free gs
  list-apart {e = e} g f s o h w u b v c =
      going-apart g e s o h w v c (λ p q i n. seen-apart f p q i n u b)

-- ---- what a view offers

-- The new name, and the names that may stand in what is put: those in scope, y and the new one.
abbrev pub put : (Text → Bool) → Text → Text → Text → Bool
put s x y a = (s a || same_text y a) || same_text x a

module _ (cells : Text → Option (Bool × List ℕ)) (x z y : Text) (zs : List Text) (s : Text → Bool) (ms : List Mark) (es : Exs) (d : Dom)
    (js : Exs) (e : Ex) (hs : Gens) (nested : NestedSet (set_dom ms es d)) (places : NamesAreExs (put s x y) (λ a. true) js)
    (free : NamesAreExs (λ a. true) (same_text x) js) (gens : NamesAreGens (λ a. not (same_text x a)) (λ a. not (put s x y a)) hs)
    (body : NamesAre (λ a. not (same_text x a)) (λ a. not (put s x y a)) e) where
  abbrev Apart : Alternative → Type 0
  Apart a = NamesApart (same_text x) (put s x y) (comp_ex e (from (name_pat y) (laid_out a) hs))

  y-put : put s x y y ≡ true
  y-put = or-first (s y || same_text y y) (same_text x y) (or-second (s y) (same_text y y) (same_text-itself y))

  x-put : put s x y x ≡ true
  x-put = or-second (s x || same_text y x) (same_text x x) (same_text-itself x)

  bound-x : same_text x x ≡ true
  bound-x = same_text-itself x

  item-named : NamesAreExs (put s x y) (λ a. true) (put_last js (name_ex x))
  item-named = last-named (put s x y) (λ a. true) js (name_ex x) places x-put

  place-free : NamesAreExs (λ a. true) (same_text x) (put_last js (name_ex x))
  place-free = last-named (λ a. true) (same_text x) js (name_ex x) free refl

  slots-free : NamesAreExs (λ a. true) (same_text x) (more_exs (number_ex (pos 1)) (more_exs (slots_ex (set_dom ms es d)) no_exs))
  slots-free = (tt, (slots-named (λ a. true) (same_text x) nested, tt))

  -- The listing of a view has names of its own.
  pub listing-apart : {ks : List ℕ} {p : Repr} {ns : List Text} → Keeps cells ks p (set_dom ms es d) ns → (a : Alternative) →
      view_listing x z zs (seen_ex p (set_dom ms es d) ns js) ≡ Some a → Apart a
  listing-apart (as_an_atom w q) a h = absurd (no-yes w)
  listing-apart (by_occurrence k {n = n} t w q) a h = subst Apart (let r : of_occurrences x ms es d js n ≡ a = cc in r)
      (y-put, x-put, (bound-x, inner-named (λ a. true) (same_text x) nested, (place-free, tt)), gens, body)
  listing-apart (with_a_dummy {n = n} t w b c q) a h = subst Apart (let r : of_dummies x ms es d js n ≡ a = cc in r) (
    y-put,
    (inner-named (put s x y) (λ a. true) nested, item-named),
    (bound-x, slots-free, ((place-free, (dummy-named (λ a. true) (same_text x) (atom-form d w), tt)), tt)),
    gens,
    body,
  )
  listing-apart (in_slots {r = r} {ns = ns} t c g) a h = subst Apart (let q : of_all x ms es d js r ns ≡ a = cc in q)
      (y-put, (inner-named (put s x y) (λ a. true) nested, item-named), (bound-x, slots-free, tt), gens, body)
  listing-apart (with_a_marker {r = r} {m = m} {ns = ns} t c q g) a h = subst Apart (let q : of_marked x ms es d js r m ns ≡ a = cc in q) (
    y-put,
    (inner-named (put s x y) (λ a. true) nested, item-named),
    (bound-x, slots-free, ((refl, (free, tt)), tt)),
    gens,
    body,
  )
  listing-apart (with_flags {r = r} {m = m} {ns = ns} t c q g) a h = subst Apart (let q : of_flagged x ms es d js r m ns ≡ a = cc in q)
      (y-put, (inner-named (put s x y) (λ a. true) nested, item-named), (bound-x, slots-free, (place-free, tt)), gens, body)
