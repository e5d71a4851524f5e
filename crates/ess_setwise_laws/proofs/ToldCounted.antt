-- A constraint of the class takes as many reserved names as it binds names.
use Rattle.std.proofs.Common.{◌≡◌, ℕ, suc, ◌+◌, Bool, ◌∷◌, Option, arith}
use Rattle.ess_semantics.specs.Values.{Text}
use Rattle.ess_semantics.specs.Names.{Names}
use Rattle.ess_semantics.specs.Trees.{Ex, Gens}
use Rattle.conjure_model_laws.specs.ToldApart.{reserved, told, told_gens}
use Rattle.conjure_model_laws.specs.Printed.{binders, binders_of_gens}
use Rattle.ess_seen_laws.specs.Seen.{Kind, Bound}
use Rattle.ess_setwise_laws.proofs.SetwiseTrees.{named, as_shown, SetTree, stands, combined, Setwise, number, truth, scalar, one, two, chosen, folded, size, within, set_within, compared, Binding, at_end, over_truths, over_numbers, among, where_holds, NoneShown}

none-on : (k : ℕ) → k ≡ k + 0
none-on k = omega arith

one-on : (a k n : ℕ) → n ≡ k + a → n ≡ k + (a + 0)
one-on a k n p = omega (arith, p)

two-on : (a b k m n : ℕ) → m ≡ k + a → n ≡ m + b → n ≡ k + (a + b)
two-on a b k m n p q = omega (arith, p, q)

both-on : (a b k m n : ℕ) → m ≡ k + a → n ≡ m + b → n ≡ k + (a + (b + 0))
both-on a b k m n p q = omega (arith, p, q)

name-on : (b k n : ℕ) → n ≡ suc k + b → n ≡ k + suc (0 + b)
name-on b k n q = omega (arith, q)

source-on : (a b k m n : ℕ) → m ≡ k + a → n ≡ suc m + b → n ≡ k + suc (a + b)
source-on a b k m n p q = omega (arith, p, q)

range-on : (a b c k m i n : ℕ) → m ≡ k + a → i ≡ m + b → n ≡ suc i + c → n ≡ k + suc ((a + (b + 0)) + c)
range-on a b c k m i n p q r = omega (arith, p, q, r)

module _ (names : Text → Option Kind) where
  -- The next number behind a set.
  pub set-next : {r : Names Bound} {e : Ex} {i : Kind} → SetTree names NoneShown r e i → (u : Names Text) (k : ℕ) →
      (told e u k).1 ≡ k + binders e
  set-next (stands (named h)) u k = none-on k
  set-next (stands (as_shown h)) u k = absurd h
  set-next (combined {s = e} {t = f} c g h) u k =
      both-on (binders e) (binders f) k (told e u k).1 (told f u (told e u k).1).1 (set-next g u k) (set-next h u (told e u k).1)

  mutual
    -- The next number behind a constraint.
    pub told-next : {r : Names Bound} {e : Ex} {m : Bool} → Setwise names NoneShown r e m → (u : Names Text) (k : ℕ) →
        (told e u k).1 ≡ k + binders e
    told-next number u k = none-on k
    told-next truth u k = none-on k
    told-next (scalar (named h)) u k = none-on k
    told-next (scalar (as_shown h)) u k = absurd h
    told-next (one {x = e} s f) u k = one-on (binders e) k (told e u k).1 (told-next f u k)
    told-next (two {x = e} {y = y} s f g) u k =
        both-on (binders e) (binders y) k (told e u k).1 (told y u (told e u k).1).1 (told-next f u k) (told-next g u (told e u k).1)
    told-next (chosen {x = e} f) u k = one-on (binders e) k (told e u k).1 (told-next f u k)
    told-next (folded {e = e} {gs = gs} w g f) u k =
        let q = told_gens gs u k in
        one-on (binders_of_gens gs + binders e) k (told e q.1 q.2).1
        (two-on (binders_of_gens gs) (binders e) k q.2 (told e q.1 q.2).1 (gens-next g u k) (told-next f q.1 q.2))
    told-next (size {s = e} h) u k = one-on (binders e) k (told e u k).1 (set-next h u k)
    told-next (within {x = e} {s = f} g h) u k =
        both-on (binders e) (binders f) k (told e u k).1 (told f u (told e u k).1).1 (told-next g u k) (set-next h u (told e u k).1)
    told-next (set_within {a = e} {s = f} g h) u k =
        both-on (binders e) (binders f) k (told e u k).1 (told f u (told e u k).1).1 (set-next g u k) (set-next h u (told e u k).1)
    told-next (compared {s = e} {t = f} c g h) u k =
        both-on (binders e) (binders f) k (told e u k).1 (told f u (told e u k).1).1 (set-next g u k) (set-next h u (told e u k).1)

    gens-next : {r t : Names Bound} {gs : Gens} → Binding names NoneShown r gs t → (u : Names Text) (k : ℕ) →
        (told_gens gs u k).2 ≡ k + binders_of_gens gs
    gens-next at_end u k = none-on k
    gens-next (over_truths {a = a} {gs = gs} n g) u k =
        name-on (binders_of_gens gs) k (told_gens gs ((a, reserved k) ∷ u) (suc k)).2 (gens-next g ((a, reserved k) ∷ u) (suc k))
    gens-next (over_numbers {a = a} {x = e} {y = y} {gs = gs} n f h g) u k =
        let i = (told e u k).1 in
        let c = (told y u i).1 in
        range-on (binders e) (binders y) (binders_of_gens gs) k i c (told_gens gs ((a, reserved c) ∷ u) (suc c)).2 (told-next f u k)
        (told-next h u i) (gens-next g ((a, reserved c) ∷ u) (suc c))
    gens-next (among {a = a} {s = e} {gs = gs} n h g) u k =
        let c = (told e u k).1 in
        source-on (binders e) (binders_of_gens gs) k c (told_gens gs ((a, reserved c) ∷ u) (suc c)).2 (set-next h u k)
        (gens-next g ((a, reserved c) ∷ u) (suc c))
    gens-next (where_holds {e = e} {gs = gs} f g) u k =
        two-on (binders e) (binders_of_gens gs) k (told e u k).1 (told_gens gs u (told e u k).1).2 (told-next f u k)
        (gens-next g u (told e u k).1)
