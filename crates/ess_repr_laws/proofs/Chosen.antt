-- The items whose cell is true: what they are, that they rise, and that they decide the cells.
use Rattle.std.proofs.Common.{◌≡◌, refl, sym, ap, ◌∙◌, subst, suc, Bool, true, false, ◌&&◌, ◌||◌, if◌then◌else◌, List, [], ◌∷◌, map, length, ℤ, pos, Option, Some, None, option_map, ◌⊎◌, inl, inr}
use Rattle.std.specs.List.{list_all}
use Rattle.ess_semantics.specs.Lists.{and_then, or_default}
use Rattle.ess_semantics.specs.Values.{Value, itself}
use Rattle.ess_semantics.specs.Order.{same, below}
use Rattle.ess_semantics.specs.Collections.{holds, rises}
use Rattle.ess_semantics.specs.Tables.{truth_of}
use Rattle.ess_semantics.specs.Layers.{count_true, chosen}
use Rattle.ess_semantics.proofs.Tests.{and-left, and-right, and-both, or-yes}
use Rattle.ess_semantics.proofs.Orders.{order_total, same-itself, same-equal}
use Rattle.ess_semantics.proofs.Sorting.{Below, Rising, sorted-of, less-below}
use Rattle.ess_repr_laws.proofs.CanonicalPlaces.{AllOf}

-- a cell that is there and is 0 or 1
abbrev pub Bit : Option ℤ → Type 0
Bit o = (o ≡ Some (pos 0)) ⊎ (o ≡ Some (pos 1))

-- whether a cell is true
abbrev pub on_truth : Option Bool → Bool
on_truth None = false
on_truth (Some b) = b

-- Whether a cell is there and true.
abbrev pub on : Option ℤ → Bool
on o = on_truth (and_then o truth_of)

-- bits that are on together are one
pub bit-once : (o p : Option ℤ) → Bit o → Bit p → on o ≡ on p → o ≡ p
bit-once o p (inl a) (inl b) e = a ∙ sym b
bit-once o p (inr a) (inr b) e = a ∙ sym b
bit-once o p (inl a) (inr b) e = let z : false ≡ true = sym (ap on a) ∙ e ∙ ap on b in cc
bit-once o p (inr a) (inl b) e = let z : true ≡ false = sym (ap on a) ∙ e ∙ ap on b in cc

bit-truth : (o : Option ℤ) → Bit o → (b : Bool) × (and_then o truth_of ≡ Some b)
bit-truth o (inl e) = (false, ap (λ x. and_then x truth_of) e)
bit-truth o (inr e) = (true, ap (λ x. and_then x truth_of) e)

-- Where each cell is a bit there are chosen items.
pub chosen-there : (xs : List Value) (F : Value → Option ℤ) → AllOf xs (λ x. Bit (F x)) → (ys : List Value) × (chosen xs F ≡ Some ys)
chosen-there [] F b = ([], refl)
chosen-there (x ∷ xs) F b =
    let r = chosen-there xs F b.1 in
    let t = bit-truth (F x) b.0 in (
      (if t.0 then x ∷ r.0 else r.0),
      ap (λ o. and_then o (λ c. option_map (λ ys. if c then x ∷ ys else ys) (chosen xs F))) t.1 ∙ ap (option_map (λ ys. if t.0 then x ∷ ys else ys)) r.1,
    )

-- the next step of what is chosen
chosen-step : (x : Value) (xs : List Value) (F : Value → Option ℤ) (ys : List Value) → chosen (x ∷ xs) F ≡ Some ys →
    (b : Bool) × (zs : List Value) × (and_then (F x) truth_of ≡ Some b) × (chosen xs F ≡ Some zs) × (ys ≡ (if b then x ∷ zs else zs))
chosen-step x xs F ys e = go (and_then (F x) truth_of) (chosen xs F) refl refl e
  where
    go : (o : Option Bool) (c : Option (List Value)) → and_then (F x) truth_of ≡ o → chosen xs F ≡ c → and_then o (λ b. option_map (λ zs. if b then x ∷ zs else zs) c) ≡ Some ys →
        (b : Bool) × (zs : List Value) × (and_then (F x) truth_of ≡ Some b) × (chosen xs F ≡ Some zs) × (ys ≡ (if b then x ∷ zs else zs))
    go None c p q e = cc
    go (Some b) None p q e = cc
    go (Some b) (Some zs) p q e = (b, zs, p, q, sym (let z : (if b then x ∷ zs else zs) ≡ ys = cc in z))

-- A value is chosen exactly where it is an item whose cell is true.
pub chosen-holds : (xs : List Value) (F : Value → Option ℤ) (ys : List Value) (w : Value) → chosen xs F ≡ Some ys → holds ys w ≡ holds xs w && on (F w)
chosen-holds [] F ys w e = let z : [] ≡ ys = cc in ap (λ l. holds l w) (sym z)
chosen-holds (x ∷ xs) F ys w e =
    let s = chosen-step x xs F ys e in
    ap (λ l. holds l w) s.4 ∙ go s.0 s.1 s.2 (chosen-holds xs F s.1 w s.3) (same x w) refl
  where
    go : (b : Bool) (zs : List Value) → and_then (F x) truth_of ≡ Some b → holds zs w ≡ holds xs w && on (F w) → (s : Bool) → same x w ≡ s → holds (if b then x ∷ zs else zs) w ≡ (s || holds xs w) && on (F w)
    go true zs p ih true r = ap (λ s. s || holds zs w) r ∙ sym (ap on_truth p) ∙ ap (λ y. on (F y)) (same-equal x w r)
    go false zs p ih true r = ih ∙ ap (λ b. holds xs w && b) off ∙ and-off (holds xs w) ∙ sym off
      where
        off : on (F w) ≡ false
        off = ap (λ y. on (F y)) (sym (same-equal x w r)) ∙ ap on_truth p

        and-off : (b : Bool) → b && false ≡ false
        and-off true = refl
        and-off false = refl
    go true zs p ih false r = ap (λ s. s || holds zs w) r ∙ ih
    go false zs p ih false r = ih

-- Cells that choose the same items are one.
pub chosen-once : (xs ys : List Value) (F G : Value → Option ℤ) → chosen xs F ≡ Some ys → chosen xs G ≡ Some ys → (zs : List Value) → ((w : Value) → holds zs w ≡ true → holds xs w ≡ true) →
    AllOf zs (λ x. Bit (F x)) → AllOf zs (λ x. Bit (G x)) → AllOf zs (λ x. F x ≡ G x)
chosen-once xs ys F G p q [] inc a b = tt
chosen-once xs ys F G p q (w ∷ zs) inc a b =
    let inside = inc w (ap (λ b. b || holds zs w) (same-itself w)) in (
      bit-once (F w) (G w) a.0 b.0
          (ap (λ b. b && on (F w)) (sym inside) ∙ sym (chosen-holds xs F ys w p) ∙ chosen-holds xs G ys w q ∙ ap (λ b. b && on (G w)) inside),
      chosen-once xs ys F G p q zs (λ v e. inc v (ap (λ b. same w v || b) e ∙ or-yes (same w v))) a.1 b.1,
    )

-- ---- chosen items of a rising list rise

chosen-below : (v : Value) (xs : List Value) (F : Value → Option ℤ) (ys : List Value) → chosen xs F ≡ Some ys → Below order_total v xs → Below order_total v ys
chosen-below v [] F ys e b = let z : [] ≡ ys = cc in subst (Below order_total v) z tt
chosen-below v (x ∷ xs) F ys e b = let s = chosen-step x xs F ys e in subst (Below order_total v) (sym s.4) (go s.0 s.1 (chosen-below v xs F s.1 s.3 b.1))
  where
    go : (c : Bool) (zs : List Value) → Below order_total v zs → Below order_total v (if c then x ∷ zs else zs)
    go true zs h = (b.0, h)
    go false zs h = h

chosen-sorted : (xs : List Value) (F : Value → Option ℤ) (ys : List Value) → chosen xs F ≡ Some ys → Rising order_total xs → Rising order_total ys
chosen-sorted [] F ys e r = let z : [] ≡ ys = cc in subst (Rising order_total) z tt
chosen-sorted (x ∷ xs) F ys e r = let s = chosen-step x xs F ys e in subst (Rising order_total) (sym s.4) (go s.0 s.1 (chosen-below x xs F s.1 s.3 r.0) (chosen-sorted xs F s.1 s.3 r.1))
  where
    go : (c : Bool) (zs : List Value) → Below order_total x zs → Rising order_total zs → Rising order_total (if c then x ∷ zs else zs)
    go true zs b h = (b, h)
    go false zs b h = h

-- A list that rises by the order rises.
pub of-sorted : (xs : List Value) → Rising order_total xs → rises itself xs ≡ true
of-sorted [] r = refl
of-sorted (x ∷ []) r = refl
of-sorted (x ∷ y ∷ ys) r = and-both (below x y) (rises itself (y ∷ ys)) (less-below x y r.0.0) (of-sorted (y ∷ ys) r.1)

-- Chosen items rise.
pub chosen-rises : (xs : List Value) (F : Value → Option ℤ) (ys : List Value) → chosen xs F ≡ Some ys → rises itself xs ≡ true → rises itself ys ≡ true
chosen-rises xs F ys e r = of-sorted ys (chosen-sorted xs F ys e (sorted-of xs r))

-- A test of each chosen item.
pub chosen-all : (f : Value → Bool) (xs : List Value) (F : Value → Option ℤ) (ys : List Value) → chosen xs F ≡ Some ys → list_all f xs ≡ true → list_all f ys ≡ true
chosen-all f [] F ys e h = let z : [] ≡ ys = cc in ap (list_all f) (sym z)
chosen-all f (x ∷ xs) F ys e h = let s = chosen-step x xs F ys e in ap (list_all f) s.4 ∙ go s.0 s.1 (chosen-all f xs F s.1 s.3 (and-right (f x) (list_all f xs) h))
  where
    go : (c : Bool) (zs : List Value) → list_all f zs ≡ true → list_all f (if c then x ∷ zs else zs) ≡ true
    go true zs r = and-both (f x) (list_all f zs) (and-left (f x) (list_all f xs) h) r
    go false zs r = r

-- As many items are chosen as cells are true.
pub chosen-count : (xs : List Value) (F : Value → Option ℤ) (ys : List Value) → chosen xs F ≡ Some ys → AllOf xs (λ x. Bit (F x)) → count_true (map (λ x. or_default (F x) (pos 0)) xs) ≡ length ys
chosen-count [] F ys e b = let z : [] ≡ ys = cc in ap length z
chosen-count (x ∷ xs) F ys e b = let s = chosen-step x xs F ys e in go s.0 s.1 s.2 (chosen-count xs F s.1 s.3 b.1) b.0 ∙ ap length (sym s.4)
  where
    go : (c : Bool) (zs : List Value) → and_then (F x) truth_of ≡ Some c → count_true (map (λ x. or_default (F x) (pos 0)) xs) ≡ length zs → Bit (F x) →
        count_true (or_default (F x) (pos 0) ∷ map (λ x. or_default (F x) (pos 0)) xs) ≡ length (if c then x ∷ zs else zs)
    go true zs p ih (inl q) = let z : Some false ≡ Some true = sym (ap (λ o. and_then o truth_of) q) ∙ p in cc
    go true zs p ih (inr q) = ap (λ o. count_true (or_default o (pos 0) ∷ map (λ x. or_default (F x) (pos 0)) xs)) q ∙ ap suc ih
    go false zs p ih (inl q) = ap (λ o. count_true (or_default o (pos 0) ∷ map (λ x. or_default (F x) (pos 0)) xs)) q ∙ ih
    go false zs p ih (inr q) = let z : Some true ≡ Some false = sym (ap (λ o. and_then o truth_of) q) ∙ p in cc
