-- Whether representations differ.
use Rattle.std.proofs.Common.{◌≡◌, refl, sym, ap, ◌∙◌, subst, ℕ, zero, suc, ◌+◌, ◌<◌, ◌≤◌, Bool, true, false, List, [], ◌∷◌, ◌++◌, map, length, take, drop, get_or, Some, None, arith, inl, inr, ◌⊎◌}
use Rattle.std.specs.Prelude.{IsTrue, ◌↔◌}
use Rattle.std.proofs.lemmas.List.{map-append, take_more, take_all, at_drop_more, at_drop_all}
use Rattle.ess_semantics.specs.Trees as pure
use Rattle.ess_semantics.specs.Lists.{item_number}
use Rattle.ess_semantics.specs.ChosenOptions.{Differ}
use Rattle.ess_core.specs.declared.representations.Repr.{Repr}
use Rattle.ess_core.specs.TreeViews.{pure_repr}
use Rattle.conjure_options.specs.Items.{IsAmong, IsAmongOrNot, AreDifferent}
use Rattle.conjure_options.proofs.Injective.{pure_repr-injective}

some-is : {x y : pure.Repr} → Some x ≡ Some y → x ≡ y
some-is h = cc

-- ---- one among others

number-at : (xs : List Repr) (i : ℕ) (x : Repr) → i < length xs → x ≡ get_or xs i x → item_number (map pure_repr xs) i ≡ Some (pure_repr x)
number-at [] i x lt is = absurd (omega arith)
number-at (y ∷ xs) zero x lt is = ap (λ z. Some (pure_repr z)) (sym is)
number-at (y ∷ xs) (suc i) x lt is = number-at xs i x (omega arith) is

-- Where an item is the one that is looked for, it is among them.
pub among_here : (xs : List Repr) (i : ℕ) (x y : Repr) → i < length xs → x ≡ get_or xs i x → IsTrue true ↔ (x ≡ y)
    → IsAmongOrNot (map pure_repr xs) (pure_repr y) true
among_here xs i x y lt is same = record {
  yes = λ h. (i, number-at xs i x lt is ∙ ap (λ z. Some (pure_repr z)) (same.0 refl));
  no = λ h. let k : true ≡ false = h in cc;
}

-- Among none there is none.
pub among_none : (y : pure.Repr) → IsAmong [] y → ⊥
among_none y h = let k : None ≡ Some y = h.1 in cc

snoc-number : (xs : List pure.Repr) (x y : pure.Repr) (k : ℕ) → item_number (xs ++ x ∷ []) k ≡ Some y → IsAmong xs y ⊎ (x ≡ y)
snoc-number [] x y zero h = inr (some-is h)
snoc-number [] x y (suc k) h = let e : None ≡ Some y = h in cc
snoc-number (z ∷ xs) x y zero h = inl (0, h)
snoc-number (z ∷ xs) x y (suc k) h = elim (snoc-number xs x y k h) [ inl a ↦ inl (suc a.0, a.1) | inr e ↦ inr e ]

-- An item that differs from it: it is not among one more.
pub among_more : (xs : List Repr) (i : ℕ) (x y : Repr) (b : Bool) → i < length xs → x ≡ get_or xs i x → b ≡ false → IsTrue b ↔ (x ≡ y)
    → (IsAmong (map pure_repr (take i xs)) (pure_repr y) → ⊥) → IsAmong (map pure_repr (take (i + 1) xs)) (pure_repr y) → ⊥
among_more xs i x y b lt is differ same none h =
    let g : map pure_repr (take (i + 1) xs) ≡ map pure_repr (take i xs) ++ pure_repr x ∷ [] =
    ap (map pure_repr) (take_more xs i x lt) ∙ map-append pure_repr (take i xs) (get_or xs i x ∷ [])
    ∙ ap (λ z. map pure_repr (take i xs) ++ pure_repr z ∷ []) (sym is) in
    let k : item_number (map pure_repr (take i xs) ++ pure_repr x ∷ []) h.0 ≡ Some (pure_repr y) =
    ap (λ l. item_number l h.0) (sym g) ∙ h.1 in
    elim (snoc-number (map pure_repr (take i xs)) (pure_repr x) (pure_repr y) h.0 k) [
      | inl a ↦ none a
      | inr e ↦ let f : false ≡ true = sym differ ∙ same.1 (pure_repr-injective x y e) in cc
    ]

-- Where it is among none of all items, it isn't among them.
pub among_all : (xs : List Repr) (i : ℕ) (y : Repr) → length xs ≤ i → (IsAmong (map pure_repr (take i xs)) (pure_repr y) → ⊥)
    → IsAmongOrNot (map pure_repr xs) (pure_repr y) false
among_all xs i y le none = record {
  yes = λ h. let k : false ≡ true = h in cc;
  no = λ h a. none (subst (λ l. IsAmong (map pure_repr l) (pure_repr y)) (sym (take_all i xs le)) a);
}

-- ---- all

-- Where all from the i-th on differ, all do; and the other way.
pub record FromHere (xs : List pure.Repr) (rest : List pure.Repr) : Type 0 where
  pub up : Differ rest → Differ xs
  pub down : Differ xs → Differ rest

-- Where all stand from here on, this is what is asked.
pub differ_none : (xs : List pure.Repr) → FromHere xs xs
differ_none xs = record { up = λ h. h; down = λ h. h }

-- An item that isn't among those behind it: whether all differ is whether those behind it do.
pub differ_more : (all : List pure.Repr) (xs : List Repr) (i : ℕ) (x : Repr) → i < length xs → x ≡ get_or xs i x
    → IsAmongOrNot (map pure_repr (drop (i + 1) xs)) (pure_repr x) false
    → FromHere all (map pure_repr (drop i xs)) → FromHere all (map pure_repr (drop (i + 1) xs))
differ_more all xs i x lt is none h =
    let g : map pure_repr (drop i xs) ≡ pure_repr x ∷ map pure_repr (drop (i + 1) xs) =
    at_drop_more (map pure_repr) xs i x lt ∙ ap (λ z. pure_repr z ∷ map pure_repr (drop (i + 1) xs)) (sym is) in record {
      up = λ d. h.up (subst Differ (sym g) ((λ k e. none.no refl (k, e)), d));
      down = λ d. (subst Differ g (h.down d)).1;
    }

-- An item that is among those behind it stands twice.
pub twice : (all : List pure.Repr) (xs : List Repr) (i : ℕ) (x : Repr) → i < length xs → x ≡ get_or xs i x
    → IsAmongOrNot (map pure_repr (drop (i + 1) xs)) (pure_repr x) true
    → FromHere all (map pure_repr (drop i xs)) → AreDifferent all false
twice all xs i x lt is some h =
    let g : map pure_repr (drop i xs) ≡ pure_repr x ∷ map pure_repr (drop (i + 1) xs) =
    at_drop_more (map pure_repr) xs i x lt ∙ ap (λ z. pure_repr z ∷ map pure_repr (drop (i + 1) xs)) (sym is) in record {
      yes = λ e. let k : false ≡ true = e in cc;
      no = λ e d. let a = some.yes refl in (subst Differ g (h.down d)).0 a.0 a.1;
    }

-- Behind the last one all differ.
pub differ_all : (all : List pure.Repr) (xs : List Repr) (i : ℕ) → length xs ≤ i → FromHere all (map pure_repr (drop i xs))
    → AreDifferent all true
differ_all all xs i le h = record {
  yes = λ e. h.up (subst Differ (sym (at_drop_all (map pure_repr) xs i le)) tt);
  no = λ e. let k : true ≡ false = e in cc;
}
