-- Nothing abstract is left in the cell at a literal, nor in a fold over the domain of a membership.
use Rattle.std.proofs.Common.{◌≡◌, refl, ap, true, ◌&&◌}
use Rattle.ess_semantics.specs.declared.words.Op2.{Op2}
use Rattle.ess_semantics.specs.Values.{Text}
use Rattle.ess_semantics.specs.Trees.{name_pat, Ex, name_ex, no_exs, more_exs, Gens, no_gens, over, cond, Dom, ex2}
use Rattle.ess_semantics.specs.Refined.{is_refined, are_refined_gens}
use Rattle.ess_flat_laws.specs.Flat.{both, equal}
use Rattle.ess_seen_laws.specs.ess_bare_laws.Lean.{of_some}
use Rattle.ess_seen_progress_laws.proofs.Refined.{refined-two, refined-fold, refined-items}
use Rattle.ess_member_trees_laws.specs.Memberships.{Literal, a_number, a_truth, Bound, at_number, at_cell, Axis, truths, numbers, cell_at, is_it, some_of, OverDomain, a_cell, a_bare, an_it, alone}

-- Literals are refined, and bounds.
literal-refined : {L : Ex} → Literal L → is_refined L ≡ true
literal-refined a_number = refl
literal-refined a_truth = refl

pub bound-refined : {e : Ex} → Bound e → is_refined e ≡ true
bound-refined at_number = refl
bound-refined at_cell = refl

-- A generator over the domain is as refined as those behind it.
domain-refined : {A : Dom} → Axis A → (x : Text) (gs : Gens) → are_refined_gens (over (name_pat x) A gs) ≡ are_refined_gens gs
domain-refined truths x gs = refl
domain-refined (numbers at_number at_number) x gs = refl
domain-refined (numbers at_number at_cell) x gs = refl
domain-refined (numbers at_cell at_number) x gs = refl
domain-refined (numbers at_cell at_cell) x gs = refl

module _ (n : Text) (A : Dom) (L : Ex) (l : Literal L) where
  -- The cell at the literal is refined.
  pub cell-refined : is_refined (cell_at n A L L) ≡ true
  cell-refined = ap (λ b. b && true) (literal-refined l)

  it-refined : (x : Text) → is_refined (is_it n A L x) ≡ true
  it-refined x = refined-two {m = true} (name_ex x) L equal refl (literal-refined l)

  bare-refined : (x : Text) → is_refined (some_of n A L (is_it n A L x) no_gens) ≡ true
  bare-refined x = refined-fold (is_it n A L x) no_gens of_some (it-refined x) refl

  module _ (ax : Axis A) where
    -- So is a fold over the domain.
    pub fold-refined : {e : Ex} → OverDomain n A L e → is_refined e ≡ true
    fold-refined (a_cell {x = x}) =
        let hs = cond (cell_at n A L (name_ex x)) no_gens in
        refined-fold (is_it n A L x) (over (name_pat x) A hs) of_some (it-refined x) (domain-refined ax x hs)
    fold-refined (a_bare {x = x}) =
        let c = cell_at n A L (name_ex x) in
        let b = some_of n A L (is_it n A L x) no_gens in
        refined-fold (ex2 true Op2.And c b) (over (name_pat x) A no_gens) of_some (refined-two c b both refl (bare-refined x))
        (domain-refined ax x no_gens)
    fold-refined (an_it {x = x}) =
        let c = cell_at n A L (name_ex x) in
        let i = is_it n A L x in
        refined-fold (ex2 true Op2.And c i) (over (name_pat x) A no_gens) of_some (refined-two c i both refl (it-refined x))
        (domain-refined ax x no_gens)

    -- Alone in a list too.
    pub alone-refined : {e : Ex} → OverDomain n A L e → is_refined (alone n A L e) ≡ true
    alone-refined {e} o = refined-items (more_exs e no_exs) of_some (ap (λ b. b && true) (fold-refined o))
