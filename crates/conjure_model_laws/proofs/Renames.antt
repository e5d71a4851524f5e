-- Names that have become others: where each has the value that it had, this stays so behind a binder that gets the next name of a row
-- of names, none of which is used yet.
use Rattle.std.proofs.Common.{◌≡◌, refl, ap, ◌∙◌, ℕ, suc, ◌≤◌, ◌<◌, Bool, true, false, ◌||◌, ◌∷◌, Some, if◌then◌else◌, arith}
use Rattle.std.specs.Prelude.{IsTrue}
use Rattle.ess_semantics.specs.Lists.{or_default}
use Rattle.ess_semantics.specs.Values.{Text, Value}
use Rattle.ess_semantics.specs.Order.{same_text}
use Rattle.ess_semantics.specs.Names.{Names, look}
use Rattle.ess_semantics.specs.Trees.{name_pat}
use Rattle.ess_semantics.specs.Scoped.{with_names}
use Rattle.ess_rules_laws.proofs.Simulation.{Vals}
use Rattle.ess_rules_laws.proofs.Agreement.{look-itself}
use Rattle.conjure_model_laws.specs.ToldApart.{renamed}

pub or-first : (u b : Bool) → b ≡ false → IsTrue (u || b) → IsTrue u
or-first true b e t = refl
or-first false true e t = cc
or-first false false e t = cc

pub or-shifted : (u a b : Bool) → IsTrue (u || (a || b)) → IsTrue ((u || a) || b)
or-shifted true a b t = refl
or-shifted false a b t = t

-- No two of the names below a limit are the same.
abbrev pub Differ : (ℕ → Text) → ℕ → Type 0
Differ named lim = (i j : ℕ) → i < j → j < lim → same_text (named j) (named i) ≡ false

module _ (named : ℕ → Text) (lim : ℕ) where
  -- Each name of u has become one with the value that it had, and that is none of the names from the k-th on.
  abbrev pub Renames : (Text → Bool) → Names Text → ℕ → Vals → Vals → Type 0
  Renames u r k g h =
      (c : Text) → IsTrue (u c) →
      (look h (renamed r c) ≡ look g c) × ((j : ℕ) → k ≤ j → j < lim → same_text (named j) (renamed r c) ≡ false)

  -- So it is of fewer names.
  pub renames-within : (u w : Text → Bool) (r : Names Text) (k : ℕ) (g h : Vals) → ((c : Text) → IsTrue (w c) → IsTrue (u c)) →
      Renames u r k g h → Renames w r k g h
  renames-within u w r k g h f s = λ c t. s c (f c t)

  -- So it is of later names.
  pub renames-later : (u : Text → Bool) (r : Names Text) (k m : ℕ) (g h : Vals) → k ≤ m → Renames u r k g h → Renames u r m g h
  renames-later u r k m g h l s = λ c t. let p = s c t in (p.0, λ j a b. p.1 j (omega (arith, l, a)) b)

  -- A name that is bound gets the k-th.
  pub renames-bound : Differ named lim → (a : Text) (v : Value) (u : Text → Bool) (r : Names Text) (k : ℕ) (g h : Vals) → k < lim →
      Renames u r k g h → Renames (with_names u (name_pat a)) ((a, named k) ∷ r) (suc k) ((a, v) ∷ g) ((named k, v) ∷ h)
  renames-bound differ a v u r k g h b s c t = go (same_text a c) refl
    where
      go : (q : Bool) → same_text a c ≡ q →
          (look ((named k, v) ∷ h) (or_default (if q then Some (named k) else look r c) c) ≡ (if q then Some v else look g c)) ×
          ((j : ℕ) → suc k ≤ j → j < lim → same_text (named j) (or_default (if q then Some (named k) else look r c) c) ≡ false)
      go true e = (look-itself (named k) v h, λ j l m. differ k j (omega (arith, l)) m)
      go false e =
          let p = s c (or-first (u c) (same_text a c) e t) in
          (ap (λ x. if x then Some v else look h (renamed r c)) (p.1 k (omega arith) b) ∙ p.0, λ j l m. p.1 j (omega (arith, l)) m)
