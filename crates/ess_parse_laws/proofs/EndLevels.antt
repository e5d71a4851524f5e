-- What the table of levels gives (`ess_grammar`, Levels).
use Rattle.std.proofs.Common.{◌<◌, Bool, arith, eq-or-lt_of_le, false, if◌then◌else◌, inl, inr, le_refl, le_trans, lit<, lit≤, lt_of_lt_of_le, nat_eq, refl, subst, suc, sym, true, ◌||◌, ℕ, ◌∙◌, ◌≡◌, ◌≤◌, ◌⊎◌}
use Rattle.ess_grammar.specs.Levels.{Rank, and_rank, comparison_rank, from_left, from_neither, from_right, height, iff_rank, implies_rank, or_rank, power_rank, product_rank, side, sum_rank}

-- The least level of a left operand, by rank.
abbrev pub least_left : Rank → ℕ
least_left r = elim (side r) [ from_left ↦ height r | from_right ↦ suc (height r) | from_neither ↦ suc (height r) ]

-- The least level of a right operand, by rank.
abbrev pub least_right : Rank → ℕ
least_right r = elim (side r) [ from_left ↦ suc (height r) | from_right ↦ height r | from_neither ↦ suc (height r) ]

-- Whether an operator of this level lets a right operand of the same level stand.
abbrev keeps_level : ℕ → Bool
keeps_level l = nat_eq l 2 || (nat_eq l 8 || nat_eq l 9)

-- An operator of a level below this ends an expression of level l.
abbrev pub end_level : ℕ → ℕ
end_level l = if keeps_level l then l else suc l

-- It is no less than the level.
pub end_level-above : (l : ℕ) → l ≤ end_level l
end_level-above l = elim (keeps_level l) as (λ b. l ≤ (if b then l else suc l)) [ true ↦ le_refl l | false ↦ omega arith ]

end_level-above-0 : (l : ℕ) → (0 < l) ⊎ (l ≡ 0) → 0 < end_level l
end_level-above-0 l (inl h) = lt_of_lt_of_le h (end_level-above l)
end_level-above-0 l (inr e) = subst (λ n. 0 < end_level n) (sym e) (lit< tt)

positive-or-0 : (l : ℕ) → (0 < l) ⊎ (l ≡ 0)
positive-or-0 l = elim (eq-or-lt_of_le (zero-le' {n = l})) [ inl e ↦ inr (sym e) | inr h ↦ inl h ]
  where
    zero-le' : {n : ℕ} → 0 ≤ n
    zero-le' {n} = omega arith

-- A token that is no operator ends every expression.
pub end_level-positive : (l : ℕ) → 0 < end_level l
end_level-positive l = end_level-above-0 l (positive-or-0 l)

-- Of an operator's expression it is the least level of the right operand.
pub end_level-rank : (r : Rank) → end_level (height r) ≡ least_right r
end_level-rank power_rank = refl
end_level-rank product_rank = refl
end_level-rank sum_rank = refl
end_level-rank comparison_rank = refl
end_level-rank and_rank = refl
end_level-rank or_rank = refl
end_level-rank implies_rank = refl
end_level-rank iff_rank = refl

sides : (r : Rank) → (least_left r ≡ suc (height r)) ⊎ ((least_left r ≡ height r) × (least_right r ≡ suc (height r)))
sides power_rank = inl refl
sides product_rank = inr (refl, refl)
sides sum_rank = inr (refl, refl)
sides comparison_rank = inl refl
sides and_rank = inr (refl, refl)
sides or_rank = inr (refl, refl)
sides implies_rank = inl refl
sides iff_rank = inl refl

-- Prefix operators bind tighter than all others.
pub least_right-below-9 : (r : Rank) → least_right r ≤ 9
least_right-below-9 power_rank = lit≤ tt
least_right-below-9 product_rank = lit≤ tt
least_right-below-9 sum_rank = lit≤ tt
least_right-below-9 comparison_rank = lit≤ tt
least_right-below-9 and_rank = lit≤ tt
least_right-below-9 or_rank = lit≤ tt
least_right-below-9 implies_rank = lit≤ tt
least_right-below-9 iff_rank = lit≤ tt

-- Each operator has a level above 0.
pub height-positive : (r : Rank) → 1 ≤ height r
height-positive power_rank = lit≤ tt
height-positive product_rank = lit≤ tt
height-positive sum_rank = lit≤ tt
height-positive comparison_rank = lit≤ tt
height-positive and_rank = lit≤ tt
height-positive or_rank = lit≤ tt
height-positive implies_rank = lit≤ tt
height-positive iff_rank = lit≤ tt

-- Each right operand wants a level above 0.
pub least_right-positive : (r : Rank) → 0 < least_right r
least_right-positive power_rank = lit< tt
least_right-positive product_rank = lit< tt
least_right-positive sum_rank = lit< tt
least_right-positive comparison_rank = lit< tt
least_right-positive and_rank = lit< tt
least_right-positive or_rank = lit< tt
least_right-positive implies_rank = lit< tt
least_right-positive iff_rank = lit< tt

-- A left operand's level is no less than the operator's.
pub height-below-left : (r : Rank) → height r ≤ least_left r
height-below-left r = elim (sides r) [ inl e ↦ subst (λ n. height r ≤ n) (sym e) (omega arith) | inr e ↦ subst (λ n. height r ≤ n) (sym e.0) (le_refl (height r)) ]

-- An operator that follows its left operand ends what stands in it.
pub ends-left : (r : Rank) (l : ℕ) → least_left r ≤ l → height r < end_level l
ends-left r l h = go (sides r)
  where
    at_level : least_right r ≡ suc (height r) → (height r ≡ l) ⊎ (height r < l) → height r < end_level l
    at_level e (inl p) = subst (λ n. height r < end_level n) p (subst (λ n. height r < n) (sym (end_level-rank r ∙ e)) (le_refl (suc (height r))))
    at_level e (inr p) = lt_of_lt_of_le p (end_level-above l)

    go : (least_left r ≡ suc (height r)) ⊎ ((least_left r ≡ height r) × (least_right r ≡ suc (height r))) → height r < end_level l
    go (inl e) = le_trans (subst (λ n. n ≤ l) e h) (end_level-above l)
    go (inr e) = at_level e.1 (eq-or-lt_of_le (subst (λ n. n ≤ l) e.0 h))
