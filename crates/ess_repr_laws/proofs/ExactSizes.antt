-- The constraint of `size` beside `total` of a function as a relation of its pairs.
use Rattle.std.proofs.Common.{◌≡◌, refl, sym, ap, ◌∙◌, ℕ, Bool, true, false, ◌&&◌, if◌then◌else◌, List, [], ◌∷◌, ℤ, pos, Some, int_le}
use Rattle.ess_semantics.specs.declared.words.Key.{Key}
use Rattle.ess_semantics.specs.declared.words.Op1.{Op1}
use Rattle.ess_semantics.specs.Values.{truth}
use Rattle.ess_semantics.specs.Kinds.{has_key}
use Rattle.ess_semantics.specs.Trees.{Mark, flag, valued, Ex, Exs, no_exs, more_exs, truth_ex, ex1}
use Rattle.ess_semantics.specs.Domains.{Attribute, numbered, flagged, has}
use Rattle.ess_semantics.specs.Attributes.{set_attributes_hold, size_holds}
use Rattle.ess_semantics.specs.Meaning.{Env, attributes_of, meaning, meanings}
use Rattle.ess_semantics.proofs.Connectives.{and-means}
use Rattle.ess_semantics.proofs.Tests.{and-left, and-right, and-both}
use Rattle.ess_repr_laws.specs.StructureParts.{key_ex, le_ex}
use Rattle.ess_repr_laws.specs.StructureMeaning.{Number, AllNumbers, is_exact, exact_sizes_hold}
use Rattle.ess_repr_laws.specs.ViewParts.{exact_size_ex, total_size_ex}
use Rattle.ess_repr_laws.proofs.SizeMarks.{same-keys}
use Rattle.ess_repr_laws.proofs.StructureCounts.{valued-first, flagged-first, valued-some, flagged-some}
use Rattle.ess_repr_laws.proofs.StructureNumbers.{le-means}

-- Where all sizes hold, `size` does.
pub exact-sizes : (ks : List Attribute) (n : ℕ) → set_attributes_hold ks n ≡ true → exact_sizes_hold ks n ≡ true
exact-sizes [] n h = refl
exact-sizes (flagged k ∷ ks) n h = exact-sizes ks n h
exact-sizes (numbered k z ∷ ks) n h =
    and-both (is_exact n k z) (exact_sizes_hold ks n) (one k (and-left (size_holds k z n) (set_attributes_hold ks n) h))
    (exact-sizes ks n (and-right (size_holds k z n) (set_attributes_hold ks n) h))
  where
    one : (k : Key) → size_holds k z n ≡ true → is_exact n k z ≡ true
    one Key.Size g = g
    one _ g = refl

module _ (env : Env) (m : Ex) (n : ℕ) (h : Number m env (pos n)) where
  -- `size` says its number.
  pub exact-size-means : (ms : List Mark) (es : Exs) (ks : List Attribute) → AllNumbers es env →
      attributes_of ms (meanings es env) ≡ Some ks → meaning (exact_size_ex ms es m) env ≡ Some (truth (exact_sizes_hold ks n))
  exact-size-means [] no_exs [] a at = refl
  exact-size-means [] no_exs (k ∷ ks) a at = cc
  exact-size-means [] (more_exs e es) ks a at = cc
  exact-size-means (flag k ∷ ms) es [] a at = absurd (flagged-some k ms (meanings es env) at)
  exact-size-means (flag k ∷ ms) es (b ∷ ks) a at =
      let f = flagged-first k ms (meanings es env) b ks at in exact-size-means ms es ks a f.1
      ∙ ap (λ b. Some (truth (exact_sizes_hold (b ∷ ks) n))) (sym f.0)
  exact-size-means (valued k ∷ ms) no_exs ks a at = cc
  exact-size-means (valued k ∷ ms) (more_exs e es) [] a at = absurd (valued-some k ms (meaning e env) (meanings es env) at)
  exact-size-means (valued k ∷ ms) (more_exs e es) (b ∷ ks) a at =
      let f = valued-first k ms (meaning e env) (meanings es env) b ks at in
      one k f.0 (a.0 f.0 f.1) (exact-size-means ms es ks a.1 f.3) ∙ ap (λ b. Some (truth (exact_sizes_hold (b ∷ ks) n))) (sym f.2)
    where
      one : (k : Key) (z : ℤ) → Number e env z → meaning (exact_size_ex ms es m) env ≡ Some (truth (exact_sizes_hold ks n)) →
          meaning (exact_size_ex (valued k ∷ ms) (more_exs e es) m) env ≡ Some (truth (is_exact n k z && exact_sizes_hold ks n))
      one Key.Size z g ih =
          and-means env (key_ex Key.Size e m) (exact_size_ex ms es m) (int_le z (pos n) && int_le (pos n) z) (exact_sizes_hold ks n)
          (and-means env (le_ex e m) (le_ex m e) (int_le z (pos n)) (int_le (pos n) z) (le-means env e m z (pos n) g h)
          (le-means env m e (pos n) z h g)) ih
      one _ z g ih = and-means env (truth_ex true) (exact_size_ex ms es m) true (exact_sizes_hold ks n) refl ih

-- So beside `total`.
pub total-size-means : (env : Env) (e : Ex) (n : ℕ) → Number (ex1 false Op1.Bar e) env (pos n) →
    (ms : List Mark) (es : Exs) (ks : List Attribute) → AllNumbers es env → attributes_of ms (meanings es env) ≡ Some ks →
    meaning (total_size_ex ms es e) env ≡ Some (truth (if has Key.Total ks then exact_sizes_hold ks n else true))
total-size-means env e n h ms es ks a at = go (has_key Key.Total ms) (has Key.Total ks) (same-keys Key.Total ms (meanings es env) ks at)
  where
    go : (b c : Bool) → c ≡ b → meaning (if b then exact_size_ex ms es (ex1 false Op1.Bar e) else truth_ex true) env ≡ Some
        (truth (if c then exact_sizes_hold ks n else true))
    go true true p = exact-size-means env (ex1 false Op1.Bar e) n h ms es ks a at
    go false false p = refl
    go true false p = cc
    go false true p = cc
