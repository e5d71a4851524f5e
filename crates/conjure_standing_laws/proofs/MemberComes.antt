-- Something comes of each membership of a literal: rules lead from it to its trees alone, none of these is given up, and what is written
-- for one is an expression of a model. So it does of each bound, and of a truth value, which stay as they are.
use Rattle.std.proofs.Common.{◌≡◌, refl, sym, ap, ◌∙◌, subst, true≢false, ℕ, Bool, true, false, ◌&&◌, List, [], ◌∷◌, None}
use Rattle.ess_semantics.specs.declared.words.Op2.{Op2}
use Rattle.ess_semantics.specs.Values.{Text}
use Rattle.ess_semantics.specs.Trees.{both_ends, name_pat, Ex, truth_ex, cell_ex, no_exs, more_exs, Gens, no_gens, over, cond, Dom, bool_dom, int_dom, ex2}
use Rattle.ess_semantics.specs.Refined.{is_refined}
use Rattle.ess_semantics.proofs.Tests.{and-both}
use Rattle.ess_grammar.specs.Models.{Scope, is_truth_table, same_truth}
use Rattle.eprime_lowering_laws.specs.Lowerable.{is_lowerable, are_lowerable_gens, is_lowerable_dom}
use Rattle.ess_member_trees_laws.specs.Memberships.{Literal, a_number, a_truth, Bound, Axis, truths, numbers, cell_at, is_it, some_of, as_asked, asked}
use Rattle.ess_member_rules_laws.specs.WrittenForms.{index_of, literal_number, Written, by_number, by_condition, by_conjunction}
use Rattle.ess_member_settled_laws.proofs.Folds.{bound-refined}
use Rattle.ess_member_settled_laws.proofs.Settled.{not-given-up}
use Rattle.conjure_modelling.specs.ess_rules.Ruled.{IsRuled}
use Rattle.conjure_modelling.specs.ess_refine.Chains.{Leads}
use Rattle.conjure_modelling.specs.ess_model_trees.Written.{written_for, IsNotWrittenBy, stuck, unlowered, ComesFrom}
use Rattle.conjure_standing_laws.proofs.MemberChains.{leads-family, written-form, bound-leads, truth-leads, written-bound}

-- ---- what is written is an expression of a model

module _ (s : Scope) where
  -- The single cell of a table of numbers is an expression of a model.
  pub cell-lowerable : (m : Text) → is_truth_table s m ≡ false → is_lowerable s (cell_ex false m no_exs) ≡ true
  cell-lowerable m h = ap (λ b. same_truth false b && true) h

  -- So is what goes over a range between two such bounds.
  pub range-lowerable : (a b : Ex) → is_lowerable s a ≡ true → is_lowerable s b ≡ true →
      is_lowerable_dom s false (int_dom (both_ends ∷ []) (more_exs a (more_exs b no_exs))) ≡ true
  range-lowerable a b h k =
      and-both (is_lowerable s a) (is_lowerable s b && true) h (and-both (is_lowerable s b) true k refl)

  -- Literals are, as they stand and as numbers, and so is an index over the domain.
  literal-lowerable : {L : Ex} → Literal L → is_lowerable s L ≡ true
  literal-lowerable a_number = refl
  literal-lowerable a_truth = refl

  number-lowerable : {L : Ex} → Literal L → is_lowerable s (literal_number L) ≡ true
  number-lowerable a_number = refl
  number-lowerable (a_truth {b = true}) = refl
  number-lowerable (a_truth {b = false}) = refl

  index-lowerable : {D : Dom} → Axis D → (y : Text) → is_lowerable s (index_of D y) ≡ true
  index-lowerable truths y = refl
  index-lowerable (numbers p q) y = refl

  module _ (n : Text) (D : Dom) (L : Ex) (ax : Axis D) (l : Literal L) (table : is_truth_table s n ≡ true)
      (range : is_lowerable_dom s false D ≡ true) where
    -- The cell at an index is one, and so is the test of the name.
    table-lowerable : (i : Ex) → is_lowerable s i ≡ true → is_lowerable s (cell_at n D L i) ≡ true
    table-lowerable i h = and-both (is_truth_table s n) (is_lowerable s i && true) table (and-both (is_lowerable s i) true h refl)

    it-lowerable : (y : Text) → is_lowerable s (is_it n D L y) ≡ true
    it-lowerable y = literal-lowerable l

    -- A fold over the domain is.
    fold-lowerable : (e : Ex) (y : Text) (gs : Gens) → is_lowerable s e ≡ true → are_lowerable_gens s gs ≡ true →
        is_lowerable s (some_of n D L e (over (name_pat y) D gs)) ≡ true
    fold-lowerable e y gs h k =
        and-both (is_lowerable s e) (is_lowerable_dom s false D && are_lowerable_gens s gs) h
        (and-both (is_lowerable_dom s false D) (are_lowerable_gens s gs) range k)

    -- So each form is one.
    form-lowerable : {y : Text} {new : Ex} → Written n D L y new → is_lowerable s new ≡ true
    form-lowerable by_number = table-lowerable (literal_number L) (number-lowerable l)
    form-lowerable {y = y} by_condition =
        let c = cell_at n D L (index_of D y) in
        fold-lowerable (is_it n D L y) y (cond c no_gens) (it-lowerable y)
        (and-both (is_lowerable s c) true (table-lowerable (index_of D y) (index-lowerable ax y)) refl)
    form-lowerable {y = y} by_conjunction =
        let c = cell_at n D L (index_of D y) in
        fold-lowerable (ex2 true Op2.And c (is_it n D L y)) y no_gens
        (and-both (is_lowerable s c) (is_lowerable s (is_it n D L y)) (table-lowerable (index_of D y) (index-lowerable ax y))
        (it-lowerable y)) refl

-- ---- something comes

module _ (n : Text) (D : Dom) (L : Ex) (ax : Axis D) (l : Literal L) (s : Scope) (taken : List Text) (k : ℕ) where
  -- It isn't so that nothing is written for the membership, where a table of truth values over a domain of models keeps the set.
  membership-written : (m : ℕ) → is_truth_table s n ≡ true → is_lowerable_dom s false D ≡ true →
      IsNotWrittenBy s taken k (asked n D L) m → ⊥
  membership-written m t r (stuck v) =
      not-given-up n D L ax l m v.last (leads-family n D L ax l k [] (asked n D L) v.last m as_asked v.leads) v.given_up
  membership-written m t r (unlowered v) =
      true≢false (sym (form-lowerable s n D L ax l t r (written-form n D L ax l taken k m v.new v.written)) ∙ v.not_lowerable)

  -- So something comes of it.
  pub member-comes : is_truth_table s n ≡ true → is_lowerable_dom s false D ≡ true → ComesFrom s taken k (asked n D L) None → ⊥
  member-comes t r c = membership-written c.0 t r c.1

module _ (s : Scope) (taken : List Text) (k : ℕ) where
  -- Nor for an expression of a model which no rule changes, and which is written as it is.
  still-written : (e : Ex) (m : ℕ) → is_refined e ≡ true → is_lowerable s e ≡ true → written_for taken e ≡ e →
      ((last : Ex) → Leads IsRuled k [] e last m → last ≡ e) → IsNotWrittenBy s taken k e m → ⊥
  still-written e m r h w lead (stuck v) =
      true≢false (sym r ∙ subst (λ x. is_refined x ≡ false) (lead v.last v.leads) v.given_up.abstract_left)
  still-written e m r h w lead (unlowered v) =
      let u = v.written in
      true≢false (sym h ∙ subst (λ x. is_lowerable s x ≡ false) (u.writes ∙ ap (written_for taken) (lead u.last u.leads) ∙ w)
      v.not_lowerable)

  -- So something comes of a bound, where it is an expression of a model.
  pub bound-comes : (e : Ex) → Bound e → is_lowerable s e ≡ true → ComesFrom s taken k e None → ⊥
  bound-comes e b h c =
      still-written e c.0 (bound-refined b) h (written-bound taken b)
      (λ last w. bound-leads [] bool_dom (truth_ex true) truths a_truth k [] e last c.0 b w) c.1

  -- And of a truth value.
  pub truth-comes : (v : Bool) → ComesFrom s taken k (truth_ex v) None → ⊥
  truth-comes v c =
      still-written (truth_ex v) c.0 refl refl refl
      (λ last w. truth-leads [] bool_dom (truth_ex true) truths a_truth k [] v (truth_ex v) last c.0 refl w) c.1
