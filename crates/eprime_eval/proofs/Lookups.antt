-- Names that are looked for among those that generators have bound.
use Rattle.std.proofs.Common.{◌≡◌, refl, sym, ap, ◌∙◌, ℕ, Bool, true, false, List, [], ◌∷◌, map, Some, option_map, cond, ◌&&◌}
use Rattle.std.specs.Prelude.{reverse}
use Rattle.std.specs.List.{find}
use Rattle.std.specs.Prelude.{nat_eq}
use Rattle.ess_semantics.specs.Values.{Text}
use Rattle.ess_semantics.specs.Order.{same_text}
use Rattle.ess_semantics.specs.Names.{look}
use Rattle.ess_semantics.proofs.Texts.{same_text-bytes}
use Rattle.eprime_eval_scalars.specs.ScalarViews.{pure_scalar}
use Rattle.eprime_eval.specs.declared.names.Bound.{Bound}
use Rattle.eprime_eval.specs.Environments.{pure_bound, bound_values}

look-found : (bs : List Bound) (a : Text) → look (map pure_bound bs) a ≡ option_map (λ b. pure_scalar b.value) (find (λ b. same_text b.name a) bs)
look-found [] a = refl
look-found (b ∷ bs) a = go (same_text b.name a) (look-found bs a)
  where
    go : (c : Bool) → look (map pure_bound bs) a ≡ option_map (λ b. pure_scalar b.value) (find (λ b. same_text b.name a) bs)
        → cond c (Some (pure_scalar b.value)) (look (map pure_bound bs) a) ≡ option_map (λ b. pure_scalar b.value) (cond c (Some b) (find (λ b. same_text b.name a) bs))
    go true h = refl
    go false h = h

-- The newest binding of a name counts.
pub look_newest : (bs : List Bound) (a : Text)
    → look (bound_values bs) a ≡ option_map (λ b. pure_scalar b.value) (find (λ b. same_text b.name a) (reverse bs))
look_newest bs a = look-found (reverse bs) a

short-ends : (x y z w : ℕ) (b : Bool) → nat_eq y w ≡ b → same_text (x ∷ y ∷ []) (z ∷ w ∷ []) ≡ cond b (nat_eq x z) false
short-ends x y z w b e = same_text-bytes (x ∷ y ∷ []) (z ∷ w ∷ []) ∙ go (nat_eq x z) (nat_eq y w) b e
  where
    go : (p q b : Bool) → q ≡ b → p && (q && true) ≡ cond b p false
    go true true b e = ap (λ c. cond c true false) e
    go true false b e = ap (λ c. cond c true false) e
    go false true b e = ap (λ c. cond c false false) e
    go false false b e = ap (λ c. cond c false false) e

-- Two names of two bytes each, whose last bytes are equal.
pub short_same : (a b : Text) (x y z w : ℕ) → a ≡ x ∷ y ∷ [] → b ≡ z ∷ w ∷ [] → nat_eq y w ≡ true → nat_eq x z ≡ same_text a b
short_same a b x y z w e f h = sym (rw (e, f) (short-ends x y z w true h))

-- Two whose last bytes differ.
pub short_other : (a b : Text) (x y z w : ℕ) → a ≡ x ∷ y ∷ [] → b ≡ z ∷ w ∷ [] → nat_eq y w ≡ false → false ≡ same_text a b
short_other a b x y z w e f h = sym (rw (e, f) (short-ends x y z w false h))

pub ruleset short_names = (short_same, short_other)
