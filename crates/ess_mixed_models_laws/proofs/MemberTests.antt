-- Lists of truth values at the members of a domain: what is true at one number alone.
use Rattle.std.proofs.Common.{◌≡◌, refl, sym, ap, ◌∙◌, Bool, true, false, ◌&&◌, ◌||◌, if◌then◌else◌, ℕ, List, [], ◌∷◌, ◌++◌, map, take, drop, ℤ, Option, Some, None, option_map}
use Rattle.std.specs.List.{list_any}
use Rattle.ess_semantics.specs.Lists.{and_then}
use Rattle.ess_semantics.specs.Values.{Value, truth}
use Rattle.ess_semantics.specs.Order.{same_int}
use Rattle.ess_semantics.specs.Tables.{code, chunk}
use Rattle.ess_semantics.specs.Contexts.{Each}
use Rattle.ess_semantics.specs.Operators.{any_true}
use Rattle.ess_semantics.specs.Meaning.{collect, where_true}
use Rattle.ess_semantics.proofs.Orders.{same_int-equal}

-- ---- lists

-- What holds of a value gives something else of it.
pub each-map-in : {P Q : Value → Type 0} (vs : List Value) → ((v : Value) → P v → Q v) → Each vs P → Each vs Q
each-map-in [] f h = tt
each-map-in (v ∷ vs) f h = (f v h.0, each-map-in vs f h.1)

-- What is true at one number alone.
pub any-one : (F : ℤ → Bool) (k : ℤ) (vs : List Value) →
    list_any (λ v. F (code v) && same_int (code v) k) vs ≡ F k && list_any (λ v. same_int (code v) k) vs
any-one F k [] = and-no (F k)
  where
    and-no : (b : Bool) → false ≡ b && false
    and-no true = refl
    and-no false = refl
any-one F k (v ∷ vs) = go (same_int (code v) k) refl (any-one F k vs)
  where
    here : (b c : Bool) → b && true || b && c ≡ b && (true || c)
    here true c = refl
    here false c = refl

    past : (b c : Bool) → b && false || c ≡ c
    past true c = refl
    past false c = refl

    go : (b : Bool) → same_int (code v) k ≡ b →
        list_any (λ v. F (code v) && same_int (code v) k) vs ≡ F k && list_any (λ v. same_int (code v) k) vs →
        F (code v) && same_int (code v) k || list_any (λ v. F (code v) && same_int (code v) k) vs
        ≡ F k && (same_int (code v) k || list_any (λ v. same_int (code v) k) vs)
    go true e h =
        ap (λ b. F (code v) && b || list_any (λ v. F (code v) && same_int (code v) k) vs) e
        ∙ ap (λ j. F j && true || list_any (λ v. F (code v) && same_int (code v) k) vs) (same_int-equal (code v) k e)
        ∙ ap (λ b. F k && true || b) h ∙ here (F k) (list_any (λ v. same_int (code v) k) vs)
        ∙ ap (λ b. F k && (b || list_any (λ v. same_int (code v) k) vs)) (sym e)
    go false e h =
        ap (λ b. F (code v) && b || list_any (λ v. F (code v) && same_int (code v) k) vs) e
        ∙ past (F (code v)) (list_any (λ v. F (code v) && same_int (code v) k) vs) ∙ h
        ∙ ap (λ b. F k && (b || list_any (λ v. same_int (code v) k) vs)) (sym e)

-- No item stands at a number that isn't in the axis.
pub not-there : (vs : List Value) (n : ℕ) (is : List ℤ) (k : ℤ) → list_any (λ v. same_int (code v) k) vs ≡ false →
    chunk (map code vs) n is k ≡ None
not-there [] n is k h = refl
not-there (v ∷ vs) n is k h = go (same_int (code v) k) h (λ h. not-there vs n (drop n is) k h)
  where
    go : (b : Bool) → b || list_any (λ v. same_int (code v) k) vs ≡ false →
        (list_any (λ v. same_int (code v) k) vs ≡ false → chunk (map code vs) n (drop n is) k ≡ None) →
        (if b then Some (take n is) else chunk (map code vs) n (drop n is) k) ≡ None
    go true h f = let z : true ≡ false = h in cc
    go false h f = f h

-- The truth values of a test where another one holds.
abbrev pub kept : (Value → Bool) → (Value → Bool) → List Value → List Value
kept f g [] = []
kept f g (v ∷ vs) = if f v then truth (g v) ∷ kept f g vs else kept f g vs

-- One of them holds where both tests do.
pub any-kept : (f g : Value → Bool) (vs : List Value) → any_true (kept f g vs) ≡ list_any (λ v. f v && g v) vs
any-kept f g [] = refl
any-kept f g (v ∷ vs) = go (f v) (any-kept f g vs)
  where
    go : (b : Bool) → any_true (kept f g vs) ≡ list_any (λ v. f v && g v) vs →
        any_true (if b then truth (g v) ∷ kept f g vs else kept f g vs) ≡ b && g v || list_any (λ v. f v && g v) vs
    go true h = ap (λ b. g v || b) h
    go false h = h

-- They are collected.
pub collect-kept : (vs : List Value) (C B : Value → Option Value) (f g : Value → Bool) →
    Each vs (λ v. (C v ≡ Some (truth (f v))) × (B v ≡ Some (truth (g v)))) →
    collect vs (λ v. where_true (C v) (λ u. option_map (λ w. w ∷ []) (B v))) ≡ Some (kept f g vs)
collect-kept [] C B f g h = refl
collect-kept (v ∷ vs) C B f g h =
    ap (λ o. and_then (where_true o (λ u. option_map (λ w. w ∷ []) (B v)))
    (λ xs. option_map (λ ys. xs ++ ys) (collect vs (λ v. where_true (C v) (λ u. option_map (λ w. w ∷ []) (B v)))))) h.0.0
    ∙ ap (λ o. and_then (where_true (Some (truth (f v))) (λ u. option_map (λ w. w ∷ []) o))
    (λ xs. option_map (λ ys. xs ++ ys) (collect vs (λ v. where_true (C v) (λ u. option_map (λ w. w ∷ []) (B v)))))) h.0.1
    ∙ ap (λ o. and_then (where_true (Some (truth (f v))) (λ u. Some (truth (g v) ∷ []))) (λ xs. option_map (λ ys. xs ++ ys) o))
    (collect-kept vs C B f g h.1)
    ∙ go (f v)
  where
    go : (b : Bool) → and_then (where_true (Some (truth b)) (λ u. Some (truth (g v) ∷ []))) (λ xs. option_map (λ ys. xs ++ ys) (Some
        (kept f g vs)))
        ≡ Some (if b then truth (g v) ∷ kept f g vs else kept f g vs)
    go true = refl
    go false = refl
