-- The domain that a term follows, by its operator and its operands; and domains by their number.
use Rattle.std.proofs.Common.{◌≡◌, refl, ap, ℕ, zero, suc, ◌-◌, Bool, [], ◌∷◌, Some, None, arith}
use Rattle.ess_semantics.specs.declared.words.Fun.{Fun}
use Rattle.ess_semantics.specs.Trees.{Op, by_value, to_component, to_field, index, application, word, Exs, no_exs, more_exs, node_ex}
use Rattle.ess_semantics.specs.Trees.{Dom, Doms, no_doms, more_doms}
use Rattle.ess_ordered_laws.specs.ToldAxes.{dom_at, dom_told}
use Rattle.ess_rules_ordered.specs.ToldForms.{told_at}

-- That of an operator's node.
pub told_by_operands : (b : Bool) (o : Op) (es : Exs) → told_at o es ≡ dom_told (node_ex b o es)
told_by_operands b application no_exs = refl
told_by_operands b application (more_exs f no_exs) = refl
told_by_operands b application (more_exs f (more_exs a no_exs)) = refl
told_by_operands b application (more_exs f (more_exs a (more_exs c es))) = refl
told_by_operands b (word Fun.Image) no_exs = refl
told_by_operands b (word Fun.Image) (more_exs f no_exs) = refl
told_by_operands b (word Fun.Image) (more_exs f (more_exs a no_exs)) = refl
told_by_operands b (word Fun.Image) (more_exs f (more_exs a (more_exs c es))) = refl
told_by_operands b (index (by_value ∷ [])) no_exs = refl
told_by_operands b (index (by_value ∷ [])) (more_exs m no_exs) = refl
told_by_operands b (index (by_value ∷ [])) (more_exs m (more_exs i no_exs)) = refl
told_by_operands b (index (by_value ∷ [])) (more_exs m (more_exs i (more_exs j es))) = refl
told_by_operands b (index (to_component k ∷ [])) no_exs = refl
told_by_operands b (index (to_component k ∷ [])) (more_exs t no_exs) = refl
told_by_operands b (index (to_component k ∷ [])) (more_exs t (more_exs u es)) = refl
told_by_operands b (index (to_field a ∷ [])) no_exs = refl
told_by_operands b (index (to_field a ∷ [])) (more_exs t no_exs) = refl
told_by_operands b (index (to_field a ∷ [])) (more_exs t (more_exs u es)) = refl
told_by_operands b o es = refl

-- ---- domains by their number

pub no_dom : (k : ℕ) → dom_at k no_doms ≡ None
no_dom zero = refl
no_dom (suc zero) = refl
no_dom (suc (suc k)) = refl

-- The first one.
pub dom_first : (k : ℕ) (d : Dom) (ds : Doms) → k ≡ 1 → Some d ≡ dom_at k (more_doms d ds)
dom_first zero d ds h = absurd (omega (arith, h))
dom_first (suc zero) d ds h = refl
dom_first (suc (suc k)) d ds h = absurd (omega (arith, h))

-- One behind it is one less of the others.
pub dom_next : (k : ℕ) (d : Dom) (ds : Doms) → (k ≡ 0 → ⊥) → (k ≡ 1 → ⊥) → dom_at (k - 1) ds ≡ dom_at k (more_doms d ds)
dom_next zero d ds h g = absurd (h refl)
dom_next (suc zero) d ds h g = absurd (g refl)
dom_next (suc (suc k)) d ds h g = let p : suc (suc k) - 1 ≡ suc k = omega arith in ap (λ i. dom_at i ds) p
