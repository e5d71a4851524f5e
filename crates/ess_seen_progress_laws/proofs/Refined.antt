-- An operator of models is refined where its operands are.
use Rattle.std.proofs.Common.{◌≡◌, refl, ap, ◌∙◌, ℕ, Bool, true, false, ◌&&◌, ◌||◌}
use Rattle.ess_semantics.specs.declared.words.Op1.{Op1}
use Rattle.ess_semantics.specs.declared.words.Op2.{Op2}
use Rattle.ess_semantics.specs.declared.words.Fun.{Fun}
use Rattle.ess_semantics.specs.Trees.{Ex, Exs, Gens, node_ex, comp_ex, matrix_literal, ex1, ex2, fun1}
use Rattle.ess_semantics.specs.Refined.{is_refined, are_refined, are_refined_gens}
use Rattle.ess_flat_laws.specs.Flat.{OneOp, denied, negative, absolute, TwoOp, both, either, implied, agreeing, equal, unequal, below, at_most, above, at_least, sum, difference, product}
use Rattle.ess_seen_laws.specs.ess_bare_laws.Lean.{FoldWord, of_all, of_some, of_sum}
use Rattle.ess_seen_laws.specs.Seen.{Counted, so_many, from_to, from_0, subsets, none_below}

-- Both of a conjunction.
pub and-true : (a b : Bool) → a ≡ true → b ≡ true → a && b ≡ true
and-true a b h k = ap (λ c. c && b) h ∙ k

one-holds : (a : Bool) → a ≡ true → (a && true) || false ≡ true
one-holds a h = ap (λ c. (c && true) || false) h

two-hold : (a b : Bool) → a ≡ true → b ≡ true → (a && (b && true)) || false ≡ true
two-hold a b h k = ap (λ c. (c && (b && true)) || false) h ∙ ap (λ c. (c && true) || false) k

-- An operator on one operand.
pub refined-one : {b m : Bool} {o : Op1} (x : Ex) → OneOp b o m → is_refined x ≡ true → is_refined (ex1 b o x) ≡ true
refined-one x denied h = one-holds (is_refined x) h
refined-one x negative h = one-holds (is_refined x) h
refined-one x absolute h = one-holds (is_refined x) h

pub refined-chosen : (x : Ex) → is_refined x ≡ true → is_refined (fun1 false Fun.ToInt x) ≡ true
refined-chosen x h = one-holds (is_refined x) h

-- An operator on two.
pub refined-two : {b m k : Bool} {o : Op2} (x y : Ex) → TwoOp b o m k → is_refined x ≡ true → is_refined y ≡ true →
    is_refined (ex2 b o x y) ≡ true
refined-two x y both h k = two-hold (is_refined x) (is_refined y) h k
refined-two x y either h k = two-hold (is_refined x) (is_refined y) h k
refined-two x y implied h k = two-hold (is_refined x) (is_refined y) h k
refined-two x y agreeing h k = two-hold (is_refined x) (is_refined y) h k
refined-two x y equal h k = two-hold (is_refined x) (is_refined y) h k
refined-two x y unequal h k = two-hold (is_refined x) (is_refined y) h k
refined-two x y below h k = two-hold (is_refined x) (is_refined y) h k
refined-two x y at_most h k = two-hold (is_refined x) (is_refined y) h k
refined-two x y above h k = two-hold (is_refined x) (is_refined y) h k
refined-two x y at_least h k = two-hold (is_refined x) (is_refined y) h k
refined-two x y sum h k = two-hold (is_refined x) (is_refined y) h k
refined-two x y difference h k = two-hold (is_refined x) (is_refined y) h k
refined-two x y product h k = two-hold (is_refined x) (is_refined y) h k

list-holds : (a b : Bool) → a ≡ true → b ≡ true → (a && b) && true ≡ true
list-holds a b h k = ap (λ c. (c && b) && true) h ∙ ap (λ c. c && true) k

-- A word of a comprehension.
pub refined-fold : {m : Bool} {f : Fun} (e : Ex) (gs : Gens) → FoldWord m f → is_refined e ≡ true → are_refined_gens gs ≡ true →
    is_refined (fun1 m f (comp_ex e gs)) ≡ true
refined-fold e gs of_all h k = list-holds (is_refined e) (are_refined_gens gs) h k
refined-fold e gs of_some h k = list-holds (is_refined e) (are_refined_gens gs) h k
refined-fold e gs of_sum h k = list-holds (is_refined e) (are_refined_gens gs) h k

-- A word of a list.
pub refined-items : {m : Bool} {f : Fun} (es : Exs) → FoldWord m f → are_refined es ≡ true →
    is_refined (fun1 m f (node_ex false matrix_literal es)) ≡ true
refined-items es of_all h = ap (λ c. c && true) h
refined-items es of_some h = ap (λ c. c && true) h
refined-items es of_sum h = ap (λ c. c && true) h

-- A number of slots.
pub refined-count : {e : Ex} {n : ℕ} → Counted e n → is_refined e ≡ true
refined-count so_many = refl
refined-count (from_to h) = refl
refined-count from_0 = refl
refined-count (subsets {t = t} c) = ap (λ z. (z && true) || false) (refined-count c)
refined-count (none_below {t = t} c) = ap (λ z. (z && true) && true) (refined-count c)
