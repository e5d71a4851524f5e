-- Something comes of each term of numerals, whatever earlier lines declare: nothing abstract is left in it, and it is an expression of a
-- model.
use Rattle.std.proofs.Common.{◌≡◌, refl, sym, ap, ◌∙◌, subst, true≢false, ℕ, true, ◌&&◌, ◌||◌, false, [], List, None}
use Rattle.ess_semantics.specs.Values.{Text}
use Rattle.ess_semantics.specs.Trees.{Ex}
use Rattle.ess_semantics.specs.Refined.{is_refined}
use Rattle.ess_semantics.proofs.Tests.{and-both}
use Rattle.ess_grammar.specs.Models.{Scope}
use Rattle.eprime_lowering_laws.specs.Lowerable.{is_lowerable}
use Rattle.conjure_modelling.specs.ess_model_trees.Written.{written_for, IsNotWrittenBy, stuck, unlowered, ComesFrom}
use Rattle.conjure_modelling.specs.ess_model_written.DeclarationsWritten.{BoundComes}
use Rattle.conjure_standing_laws.proofs.NumberTerms.{OfNumerals, digits, plus, less, power}
use Rattle.conjure_standing_laws.proofs.NumberChains.{leads-nowhere, told-number, written-number}

both-refined : (x y : Ex) → is_refined x ≡ true → is_refined y ≡ true → (is_refined x && (is_refined y && true)) || false ≡ true
both-refined x y p q =
    ap (λ b. (b && (is_refined y && true)) || false) p ∙ ap (λ b. (true && (b && true)) || false) q

-- Nothing abstract is left in it.
number-refined : {e : Ex} → OfNumerals e → is_refined e ≡ true
number-refined digits = refl
number-refined (plus {x = x} {y = y} w v) = both-refined x y (number-refined w) (number-refined v)
number-refined (less {x = x} {y = y} w v) = both-refined x y (number-refined w) (number-refined v)
number-refined (power {x = x} {y = y} w v) = both-refined x y (number-refined w) (number-refined v)

module _ (s : Scope) where
  -- It is an expression of a model.
  number-lowered : {e : Ex} → OfNumerals e → is_lowerable s e ≡ true
  number-lowered digits = refl
  number-lowered (plus {x = x} {y = y} w v) = and-both (is_lowerable s x) (is_lowerable s y) (number-lowered w) (number-lowered v)
  number-lowered (less {x = x} {y = y} w v) = and-both (is_lowerable s x) (is_lowerable s y) (number-lowered w) (number-lowered v)
  number-lowered (power {x = x} {y = y} w v) = and-both (is_lowerable s x) (is_lowerable s y) (number-lowered w) (number-lowered v)

  module _ (taken : List Text) where
    written-on : (n k : ℕ) (e : Ex) → OfNumerals e → IsNotWrittenBy s taken n e k → ⊥
    written-on n k e w (stuck v) =
        true≢false (sym (number-refined w) ∙ ap is_refined (sym (leads-nowhere n [] e v.last k w v.leads)) ∙ v.given_up.abstract_left)
    written-on n k e w (unlowered v) =
        let u = v.written in
        let q : v.new ≡ e = u.writes ∙ ap (written_for taken) (leads-nowhere n [] e u.last k w u.leads) ∙ written-number taken w in
        true≢false (sym (number-lowered w) ∙ ap (is_lowerable s) (sym q) ∙ v.not_lowerable)

    -- So something comes of such a bound.
    pub number-comes : (k : ℕ) (e : Ex) → OfNumerals e → BoundComes s taken k e None → ⊥
    number-comes k e w v =
        let c = subst (λ q. ComesFrom s taken q.1 q.0 None) (told-number w k) v in
        written-on k c.0 e w c.1
