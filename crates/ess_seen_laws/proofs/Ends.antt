-- The free names of a tree over views are bound around it, and where it is scoped the names that it binds are new.
use Rattle.std.proofs.Common.{◌≡◌, refl, ap, ℕ, Bool, true, false, ◌||◌, not, if◌then◌else◌, List, ◌∷◌, Option, Some}
use Rattle.std.specs.Prelude.{IsTrue, is_some}
use Rattle.ess_semantics.specs.Values.{Text}
use Rattle.ess_semantics.specs.Order.{same_text}
use Rattle.ess_semantics.specs.Names.{Names, look}
use Rattle.ess_semantics.specs.Trees.{name_pat, Ex, Exs, Gens, Dom}
use Rattle.ess_semantics.specs.Substitution.{NamesAre, NamesAreExs, NamesAreGens, NamesAreDom}
use Rattle.ess_semantics.specs.Scoped.{with_names, Scoped, ScopedExs, ScopedGens, ScopedDom}
use Rattle.ess_semantics.specs.FreeNames.{with_bound_names, FreeNamesAre, FreeNamesAreExs, FreeNamesAreGens, FreeNamesAreDom}
use Rattle.ess_semantics.proofs.Tests.{or-yes}
use Rattle.ess_seen_laws.specs.Seen.{Kind, Bound, over_a_range, over_slots, from_a_set, Places, no_place, at_slot, SetTerm, view, drawn, combined, Seen, number, truth, named, counted, figure, flag, atom, one, two, chosen, folded, of_items, size, within, set_within, compared, Listed, last_item, item_before, Indices, no_index, one_index, Going, at_end, through, through_slots, among, where_holds, Range, truths, numbers}
use Rattle.ess_seen_laws.specs.Putting.{BindsNone}
use Rattle.ess_seen_laws.proofs.Written.{keeps-written, written-free, written-named}
use Rattle.ess_seen_laws.proofs.Counts.{counted-free, counted-named}

-- ---- free names

-- The bound names have the property.
abbrev pub Covers : (Text → Bool) → Names Bound → Type 0
Covers u r = (a : Text) (b : Bound) → look r a ≡ Some b → u a ≡ true

one-more : (u : Text → Bool) (r : Names Bound) (a : Text) (b : Bound) → Covers u r → Covers (with_names u (name_pat a)) ((a, b) ∷ r)
one-more u r a b c x k h = go (same_text a x) h
  where
    go : (v : Bool) → (if v then Some b else look r x) ≡ Some k → u x || v ≡ true
    go true q = or-yes (u x)
    go false q = ap (λ z. z || false) (c x k q)

module _ (cells : Text → Option (Bool × List ℕ)) where
  places-free : {r : Names Bound} {es : Exs} {ks : List ℕ} (u : Text → Bool) → Covers u r → Places cells r es ks → FreeNamesAreExs u es
  places-free u c no_place = tt
  places-free u c (at_slot {a = a} {k = k} q p) = (c a (over_slots k) q, places-free u c p)

  set-free : {r : Names Bound} {e : Ex} {k : Kind} (u : Text → Bool) → Covers u r → SetTerm cells r e k → FreeNamesAre u e
  set-free u c (view n f k p) = (written-free u (keeps-written k), places-free u c p)
  set-free u c (drawn {a = a} q) = c a _ q
  set-free u c (combined o s t) = (set-free u c s, (set-free u c t, tt))

  mutual
    names-free : {r : Names Bound} {e : Ex} {m : Bool} (u : Text → Bool) → Covers u r → Seen cells r e m → FreeNamesAre u e
    names-free u c number = tt
    names-free u c truth = tt
    names-free u c (named {a = a} {b = b} q k) = c a b q
    names-free u c (counted n) = counted-free u n
    names-free u c (figure h p) = places-free u c p
    names-free u c (flag h i) = indices-free u c i
    names-free u c (atom k p) = (written-free u (keeps-written k), places-free u c p)
    names-free u c (one w f) = (names-free u c f, tt)
    names-free u c (two w f h) = (names-free u c f, (names-free u c h, tt))
    names-free u c (chosen f) = (names-free u c f, tt)
    names-free u c (folded w g f) = let k = gens-free u c g in ((k.0, names-free _ k.1 f), tt)
    names-free u c (of_items w l) = (listed-free u c l, tt)
    names-free u c (size s) = (set-free u c s, tt)
    names-free u c (within f s) = (names-free u c f, (set-free u c s, tt))
    names-free u c (set_within s t) = (set-free u c s, (set-free u c t, tt))
    names-free u c (compared o s t) = (set-free u c s, (set-free u c t, tt))

    listed-free : {r : Names Bound} {es : Exs} {m : Bool} (u : Text → Bool) → Covers u r → Listed cells r es m → FreeNamesAreExs u es
    listed-free u c (last_item f) = (names-free u c f, tt)
    listed-free u c (item_before f l) = (names-free u c f, listed-free u c l)

    indices-free : {r : Names Bound} {es : Exs} {k : ℕ} (u : Text → Bool) → Covers u r → Indices cells r es k → FreeNamesAreExs u es
    indices-free u c no_index = tt
    indices-free u c (one_index f i) = (names-free u c f, indices-free u c i)

    range-free : {r : Names Bound} {d : Dom} {m : Bool} (u : Text → Bool) → Covers u r → Range cells r d m → FreeNamesAreDom u d
    range-free u c truths = tt
    range-free u c (numbers f g) = (names-free u c f, (names-free u c g, tt))

    gens-free : {r t : Names Bound} {gs : Gens} (u : Text → Bool) → Covers u r → Going cells r gs t →
        FreeNamesAreGens u gs × Covers (with_bound_names u gs) t
    gens-free u c at_end = (tt, c)
    gens-free {r} u c (through {m = m} {a = a} n g) =
        let k = gens-free (with_names u (name_pat a)) (one-more u r a (over_a_range m) c) g in ((range-free u c n, k.0), k.1)
    gens-free {r} u c (through_slots {k = j} {a = a} n g) =
        let k = gens-free (with_names u (name_pat a)) (one-more u r a (over_slots j) c) g in
        (((tt, (counted-free u n, tt)), k.0), k.1)
    gens-free {r} u c (among {k = j} {a = a} s g) =
        let k = gens-free (with_names u (name_pat a)) (one-more u r a (from_a_set j) c) g in ((set-free u c s, k.0), k.1)
    gens-free u c (where_holds f g) = let k = gens-free u c g in ((names-free u c f, k.0), k.1)

  -- The free names of such a tree are bound around it.
  pub seen-closed : (r : Names Bound) (e : Ex) (m : Bool) → Seen cells r e m → FreeNamesAre (λ a. is_some (look r a)) e
  seen-closed r e m f = names-free (λ a. is_some (look r a)) (λ a k q. ap is_some q) f

-- ---- bound names

-- What is in q is in s.
abbrev Inside : (Text → Bool) → (Text → Bool) → Type 0
Inside q s = (a : Text) → q a ≡ true → s a ≡ true

inside-more : (q s : Text → Bool) (a : Text) → Inside q s → Inside q (with_names s (name_pat a))
inside-more q s a i x h = ap (λ z. z || same_text a x) (i x h)

new-for : (q s : Text → Bool) (a : Text) → Inside q s → IsTrue (not (s a)) → IsTrue (not (q a))
new-for q s a i n = go (q a) (i a)
  where
    go : (v : Bool) → (v ≡ true → s a ≡ true) → IsTrue (not v)
    go false f = refl
    go true f = clash (s a) (f refl) n
      where
        clash : (b : Bool) → b ≡ true → IsTrue (not b) → IsTrue false
        clash true p m = m
        clash false p m = cc

module _ (cells : Text → Option (Bool × List ℕ)) (z q : Text → Bool) where
  -- Behind generators x has a scope with q.
  record Behind (x : Ex) (gs : Gens) : Type 0 where
    bind : NamesAreGens (λ a. true) (λ a. not (q a)) gs
    scope : Text → Bool
    ranging : Text → Bool
    inside : Inside q scope
    said : Scoped z scope ranging x

  places-bind : {r : Names Bound} {es : Exs} {ks : List ℕ} → Places cells r es ks → NamesAreExs (λ a. true) (λ a. not (q a)) es
  places-bind no_place = tt
  places-bind (at_slot h p) = (refl, places-bind p)

  set-binds : {r : Names Bound} {e : Ex} {k : Kind} → SetTerm cells r e k → NamesAre (λ a. true) (λ a. not (q a)) e
  set-binds (view n f k p) = (written-named (λ a. true) (λ a. not (q a)) (keeps-written k), places-bind p)
  set-binds (drawn h) = refl
  set-binds (combined o u v) = (set-binds u, (set-binds v, tt))

  mutual
    binds-new : {r : Names Bound} {e : Ex} {m : Bool} (s o : Text → Bool) → Inside q s → Seen cells r e m → Scoped z s o e →
        NamesAre (λ a. true) (λ a. not (q a)) e
    binds-new s o i number h = tt
    binds-new s o i truth h = tt
    binds-new s o i (named p k) h = refl
    binds-new s o i (counted c) h = counted-named (λ a. true) (λ a. not (q a)) c
    binds-new s o i (figure k p) h = places-bind p
    binds-new s o i (flag k j) h = indices-bind s o i j h
    binds-new s o i (atom k p) h = (written-named (λ a. true) (λ a. not (q a)) (keeps-written k), places-bind p)
    binds-new s o i (one w f) h = (binds-new s o i f h.0, tt)
    binds-new s o i (two w f g) h = (binds-new s o i f h.0, (binds-new s o i g h.1.0, tt))
    binds-new s o i (chosen f) h = (binds-new s o i f h.0, tt)
    binds-new s o i (folded {e = x} w g f) h =
        let k = going-binds x s o i g h.0 in ((binds-new k.scope k.ranging k.inside f k.said, k.bind), tt)
    binds-new s o i (of_items w l) h = (listed-binds s o i l h.0, tt)
    binds-new s o i (size v) h = (set-binds v, tt)
    binds-new s o i (within f v) h = (binds-new s o i f h.0, (set-binds v, tt))
    binds-new s o i (set_within u v) h = (set-binds u, (set-binds v, tt))
    binds-new s o i (compared w u v) h = (set-binds u, (set-binds v, tt))

    listed-binds : {r : Names Bound} {es : Exs} {m : Bool} (s o : Text → Bool) → Inside q s → Listed cells r es m → ScopedExs z s o es →
        NamesAreExs (λ a. true) (λ a. not (q a)) es
    listed-binds s o i (last_item f) h = (binds-new s o i f h.0, tt)
    listed-binds s o i (item_before f l) h = (binds-new s o i f h.0, listed-binds s o i l h.1)

    indices-bind : {r : Names Bound} {es : Exs} {k : ℕ} (s o : Text → Bool) → Inside q s → Indices cells r es k → ScopedExs z s o es →
        NamesAreExs (λ a. true) (λ a. not (q a)) es
    indices-bind s o i no_index h = tt
    indices-bind s o i (one_index f j) h = (binds-new s o i f h.0, indices-bind s o i j h.1)

    range-binds : {r : Names Bound} {d : Dom} {m : Bool} (s o : Text → Bool) → Inside q s → Range cells r d m → ScopedDom z s o d →
        NamesAreDom (λ a. true) (λ a. not (q a)) d
    range-binds s o i truths h = tt
    range-binds s o i (numbers f g) h = (binds-new s o i f h.0, (binds-new s o i g h.1.0, tt))

    going-binds : {r t : Names Bound} {gs : Gens} (x : Ex) (s o : Text → Bool) → Inside q s →
        Going cells r gs t → ScopedGens z s o gs (λ b p. Scoped z b p x) → Behind x gs
    going-binds x s o i at_end h = record { bind = tt; scope = s; ranging = o; inside = i; said = h }
    going-binds x s o i (through {a = a} n g) h =
        let k = going-binds x (with_names s (name_pat a)) (with_names o (name_pat a)) (inside-more q s a i) g h.2 in
        record {
          bind = (new-for q s a i h.0, range-binds s o i n h.1, k.bind);
          scope = k.scope;
          ranging = k.ranging;
          inside = k.inside;
          said = k.said;
        }
    going-binds x s o i (through_slots {a = a} n g) h =
        let k = going-binds x (with_names s (name_pat a)) (with_names o (name_pat a)) (inside-more q s a i) g h.2 in
        record {
          bind = (new-for q s a i h.0, (tt, (counted-named (λ a. true) (λ a. not (q a)) n, tt)), k.bind);
          scope = k.scope;
          ranging = k.ranging;
          inside = k.inside;
          said = k.said;
        }
    going-binds x s o i (among {a = a} v g) h =
        let k = going-binds x (with_names s (name_pat a)) o (inside-more q s a i) g h.2 in
        record {
          bind = (new-for q s a i h.0, set-binds v, k.bind);
          scope = k.scope;
          ranging = k.ranging;
          inside = k.inside;
          said = k.said;
        }
    going-binds x s o i (where_holds f g) h =
        let k = going-binds x s o i g h.1 in
        record { bind = (binds-new s o i f h.0, k.bind); scope = k.scope; ranging = k.ranging; inside = k.inside; said = k.said }

-- The names that such a tree binds are none of those in its scope.
pub seen-binds-new : (cells : Text → Option (Bool × List ℕ)) (r : Names Bound) (e : Ex) (m : Bool) → Seen cells r e m →
    (z s o : Text → Bool) → Scoped z s o e → BindsNone s e
seen-binds-new cells r e m f z s o h = binds-new cells z s s o (λ a g. g) f h
