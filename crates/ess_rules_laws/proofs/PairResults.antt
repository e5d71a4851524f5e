-- The results of a function given by its pairs don't depend on their order, nor on repeats.
use Rattle.std.proofs.Common.{◌≡◌, refl, sym, ap, ◌∙◌, Bool, true, false, ◌||◌, not, if◌then◌else◌, List, [], ◌∷◌, Option, Some, None}
use Rattle.std.specs.List.{list_any}
use Rattle.ess_semantics.specs.Values.{Value, from_of, to_of}
use Rattle.ess_semantics.specs.Order.{same}
use Rattle.ess_semantics.specs.Collections.{holds, no_twice, sorted_once, has_double_argument, value_at}
use Rattle.ess_semantics.proofs.Tests.{and-left, and-right}
use Rattle.ess_semantics.proofs.Orders.{same-equal, same-itself}
use Rattle.ess_semantics.proofs.Sorting.{holds-sorted_once}

no : {A : Type 0} → false ≡ true → A
no h = cc

-- A result that is there is that of a pair.
value-held : (ps : List Value) (w u : Value) → value_at ps w ≡ Some u → (p : Value) × (holds ps p ≡ true) × (same (from_of p) w ≡ true) ×
    (to_of p ≡ u)
value-held [] w u h = cc
value-held (p ∷ ps) w u h = go (same (from_of p) w) refl h (λ z. value-held ps w u z)
  where
    or-right : (b c : Bool) → c ≡ true → b || c ≡ true
    or-right true c h = refl
    or-right false c h = h

    go : (b : Bool) → same (from_of p) w ≡ b → (if b then Some (to_of p) else value_at ps w) ≡ Some u →
        (value_at ps w ≡ Some u → (q : Value) × (holds ps q ≡ true) × (same (from_of q) w ≡ true) × (to_of q ≡ u)) →
        (q : Value) × (same p q || holds ps q ≡ true) × (same (from_of q) w ≡ true) × (to_of q ≡ u)
    go true e h r = (p, ap (λ b. b || holds ps p) (same-itself p), e, let z : to_of p ≡ u = cc in z)
    go false e h r = let s = r h in (s.0, or-right (same p s.0) (holds ps s.0) s.1, s.2, s.3)

-- Where no argument is twice, each pair has its result.
value-there : (ps : List Value) (p : Value) → no_twice from_of ps ≡ true → holds ps p ≡ true → value_at ps (from_of p) ≡ Some (to_of p)
value-there [] p n h = no h
value-there (q ∷ ps) p n h = go (same q p) refl h (λ z. value-there ps p (and-right _ _ n) z)
  where
    held-any : (ps : List Value) (v p : Value) → holds ps p ≡ true → same v (from_of p) ≡ true →
        list_any (λ y. same v (from_of y)) ps ≡ true
    held-any [] v p h e = no h
    held-any (y ∷ ys) v p h e = at (same y p) refl h (λ z. held-any ys v p z e)
      where
        or-right : (b c : Bool) → c ≡ true → b || c ≡ true
        or-right true c h = refl
        or-right false c h = h

        at : (b : Bool) → same y p ≡ b → b || holds ys p ≡ true → (holds ys p ≡ true → list_any (λ y. same v (from_of y)) ys ≡ true) →
            same v (from_of y) || list_any (λ y. same v (from_of y)) ys ≡ true
        at true s h r = ap (λ c. c || list_any (λ y. same v (from_of y)) ys) (ap (λ z. same v (from_of z)) (same-equal y p s) ∙ e)
        at false s h r = or-right (same v (from_of y)) _ (r h)

    apart : (b c : Bool) → not b ≡ true → (c ≡ true → b ≡ true) → c ≡ false
    apart b false n f = refl
    apart true true n f = no n
    apart false true n f = no (f refl)

    go : (b : Bool) → same q p ≡ b → b || holds ps p ≡ true → (holds ps p ≡ true → value_at ps (from_of p) ≡ Some (to_of p)) →
        (if same (from_of q) (from_of p) then Some (to_of q) else value_at ps (from_of p)) ≡ Some (to_of p)
    go true s h r = ap (λ z. if same (from_of z) (from_of p) then Some (to_of z) else value_at ps (from_of p)) (same-equal q p s)
        ∙ ap (λ b. if b then Some (to_of p) else value_at ps (from_of p)) (same-itself (from_of p))
    go false s h r = ap (λ b. if b then Some (to_of q) else value_at ps (from_of p))
        (apart (list_any (λ y. same (from_of q) (from_of y)) ps) (same (from_of q) (from_of p)) (and-left _ _ n)
        (held-any ps (from_of q) p h))
        ∙ r h

-- Where there is no result no pair has the argument.
value-none : (ps : List Value) (w p : Value) → value_at ps w ≡ None → holds ps p ≡ true → same (from_of p) w ≡ false
value-none [] w p n h = no h
value-none (q ∷ ps) w p n h = go (same (from_of q) w) refl n (same q p) refl h (λ a b. value-none ps w p a b)
  where
    go : (b : Bool) → same (from_of q) w ≡ b → (if b then Some (to_of q) else value_at ps w) ≡ None → (c : Bool) → same q p ≡ c →
        c || holds ps p ≡ true → (value_at ps w ≡ None → holds ps p ≡ true → same (from_of p) w ≡ false) → same (from_of p) w ≡ false
    go true e n c s h r = cc
    go false e n true s h r = ap (λ z. same (from_of z) w) (sym (same-equal q p s)) ∙ e
    go false e n false s h r = r n h

-- So a function has the results of its pairs in any order, repeats left out.
pub value-sorted : (ps : List Value) (w : Value) → has_double_argument ps ≡ false → value_at (sorted_once ps) w ≡ value_at ps w
value-sorted ps w d = go (value_at ps w) refl (value_at (sorted_once ps) w) refl
  where
    differ : no_twice from_of (sorted_once ps) ≡ true
    differ = at (no_twice from_of (sorted_once ps)) d
      where
        at : (b : Bool) → not b ≡ false → b ≡ true
        at true h = refl
        at false h = no (sym h)

    go : (o : Option Value) → value_at ps w ≡ o → (p : Option Value) → value_at (sorted_once ps) w ≡ p →
        value_at (sorted_once ps) w ≡ value_at ps w
    go None e None f = f ∙ sym e
    go None e (Some u) f = let r = value-held (sorted_once ps) w u f in
        no (sym (value-none ps w r.0 e (sym (holds-sorted_once ps r.0) ∙ r.1)) ∙ r.2)
    go (Some u) e p f = let r = value-held ps w u e in
        ap (value_at (sorted_once ps)) (sym (same-equal (from_of r.0) w r.2))
        ∙ value-there (sorted_once ps) r.0 differ (holds-sorted_once ps r.0 ∙ r.1) ∙ ap (λ z. Some z) r.3 ∙ sym e
