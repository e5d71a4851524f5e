-- Flags that are picked by are truth values.
use Rattle.std.proofs.Common.{◌≡◌, refl, sym, ◌∙◌, ℕ, suc, Bool, if◌then◌else◌, List, [], ◌∷◌, length, ℤ, Option, Some, None, is_some}
use Rattle.std.proofs.Common.{option_map}
use Rattle.ess_semantics.specs.Lists.{and_then}
use Rattle.ess_semantics.specs.Tables.{truth_of}
use Rattle.ess_repr_rows_laws.specs.Cutting.{flagged_from}
use Rattle.ess_repr_rows_laws.specs.RowLayers.{picked}

some-map : {A B : Type 0} (f : A → B) (o : Option A) → is_some (option_map f o) ≡ is_some o
some-map f None = refl
some-map f (Some x) = refl

-- Flags have numbers where items can be picked by them.
flagged-some : {A : Type 0} (k : ℕ) (ns : List ℤ) (xs : List A) → length ns ≡ length xs →
    is_some (flagged_from k ns) ≡ is_some (picked ns xs)
flagged-some k [] xs e = refl
flagged-some k (n ∷ ns) [] e = cc
flagged-some {A = A} k (n ∷ ns) (x ∷ xs) e = let q : length ns ≡ length xs = cc in go (truth_of n) (flagged-some (suc k) ns xs q)
  where
    go : (t : Option Bool) → is_some (flagged_from (suc k) ns) ≡ is_some (picked ns xs) →
        is_some (and_then t (λ b. option_map (λ ks. if b then k ∷ ks else ks) (flagged_from (suc k) ns)))
        ≡ is_some (and_then t (λ b. option_map (λ ys. if b then x ∷ ys else ys) (picked ns xs)))
    go None h = refl
    go (Some b) h =
        some-map (λ ks. if b then k ∷ ks else ks) (flagged_from (suc k) ns) ∙ h
        ∙ sym (some-map (λ (ys : List A). if b then x ∷ ys else ys) (picked ns xs))

-- Whether flags have numbers needn't be asked where items are picked by them.
pub flagged-picked : {A B : Type 0} (g : List A → B) (k : ℕ) (ns : List ℤ) (xs : List A) → length ns ≡ length xs →
    and_then (flagged_from k ns) (λ js. option_map g (picked ns xs)) ≡ option_map g (picked ns xs)
flagged-picked {A = A} g k ns xs e = go (flagged_from k ns) (picked ns xs) (flagged-some k ns xs e)
  where
    go : (o : Option (List ℕ)) (p : Option (List A)) → is_some o ≡ is_some p → and_then o (λ js. option_map g p) ≡ option_map g p
    go None None h = refl
    go None (Some ys) h = cc
    go (Some js) p h = refl
