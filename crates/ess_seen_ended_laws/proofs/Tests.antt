-- What the test of refined trees says of operands.
use Rattle.std.proofs.Common.{◌≡◌, refl, Bool, true, false, ◌&&◌, ◌||◌}
use Rattle.ess_semantics.specs.declared.words.Op1.{Op1}
use Rattle.ess_semantics.specs.declared.words.Op2.{Op2}
use Rattle.ess_semantics.specs.declared.words.Fun.{Fun}
use Rattle.ess_semantics.specs.Trees.{matrix_literal, Ex, Exs, node_ex, comp_ex, Gens, ex1, ex2, fun1}
use Rattle.ess_semantics.specs.Refined.{is_refined, are_refined, are_refined_gens}
use Rattle.ess_flat_laws.specs.Flat.{OneOp, denied, negative, absolute, TwoOp, both, either, implied, agreeing, equal, unequal, below, at_most, above, at_least, sum, difference, product}
use Rattle.ess_seen_laws.specs.ess_bare_laws.Lean.{FoldWord, of_all, of_some, of_sum}
use Rattle.ess_seen_laws.specs.Seen.{Combines, united, shared, lessened, Compares, alike, apart, included, properly_included, including, properly_including}

one-of : (a : Bool) → (a && true) || false ≡ true → a ≡ true
one-of true h = refl
one-of false h = h

two-of : (a b : Bool) → (a && (b && true)) || false ≡ true → (a ≡ true) × (b ≡ true)
two-of true true h = (refl, refl)
two-of true false h = (refl, h)
two-of false true h = (h, refl)
two-of false false h = (h, h)

-- Both of a conjunction.
pub both-of : (a b : Bool) → a && b ≡ true → (a ≡ true) × (b ≡ true)
both-of true true h = (refl, refl)
both-of true false h = (refl, h)
both-of false true h = (h, refl)
both-of false false h = (h, h)

-- One operand of a refined operator.
pub one-refined : {b m : Bool} {o : Op1} (x : Ex) → OneOp b o m → is_refined (ex1 b o x) ≡ true → is_refined x ≡ true
one-refined x denied h = one-of (is_refined x) h
one-refined x negative h = one-of (is_refined x) h
one-refined x absolute h = one-of (is_refined x) h

pub sized-refined : (x : Ex) → is_refined (ex1 false Op1.Bar x) ≡ true → is_refined x ≡ true
sized-refined x h = one-of (is_refined x) h

pub chosen-refined : (x : Ex) → is_refined (fun1 false Fun.ToInt x) ≡ true → is_refined x ≡ true
chosen-refined x h = one-of (is_refined x) h

-- Both operands of one.
pub two-refined : {b m k : Bool} {o : Op2} (x y : Ex) → TwoOp b o m k → is_refined (ex2 b o x y) ≡ true →
    (is_refined x ≡ true) × (is_refined y ≡ true)
two-refined x y both h = two-of (is_refined x) (is_refined y) h
two-refined x y either h = two-of (is_refined x) (is_refined y) h
two-refined x y implied h = two-of (is_refined x) (is_refined y) h
two-refined x y agreeing h = two-of (is_refined x) (is_refined y) h
two-refined x y equal h = two-of (is_refined x) (is_refined y) h
two-refined x y unequal h = two-of (is_refined x) (is_refined y) h
two-refined x y below h = two-of (is_refined x) (is_refined y) h
two-refined x y at_most h = two-of (is_refined x) (is_refined y) h
two-refined x y above h = two-of (is_refined x) (is_refined y) h
two-refined x y at_least h = two-of (is_refined x) (is_refined y) h
two-refined x y sum h = two-of (is_refined x) (is_refined y) h
two-refined x y difference h = two-of (is_refined x) (is_refined y) h
two-refined x y product h = two-of (is_refined x) (is_refined y) h

-- The item and the generators of a list under a word.
list-of : (a b : Bool) → (a && b) && true ≡ true → (a ≡ true) × (b ≡ true)
list-of a b h = both-of a b (both-of (a && b) true h).0

pub fold-refined : {m : Bool} {f : Fun} (e : Ex) (gs : Gens) → FoldWord m f → is_refined (fun1 m f (comp_ex e gs)) ≡ true →
    (is_refined e ≡ true) × (are_refined_gens gs ≡ true)
fold-refined e gs of_all h = list-of (is_refined e) (are_refined_gens gs) h
fold-refined e gs of_some h = list-of (is_refined e) (are_refined_gens gs) h
fold-refined e gs of_sum h = list-of (is_refined e) (are_refined_gens gs) h

-- The items of a literal under a word.
pub items-refined : {m : Bool} {f : Fun} (es : Exs) → FoldWord m f → is_refined (fun1 m f (node_ex false matrix_literal es)) ≡ true →
    are_refined es ≡ true
items-refined es of_all h = (both-of (are_refined es) true h).0
items-refined es of_some h = (both-of (are_refined es) true h).0
items-refined es of_sum h = (both-of (are_refined es) true h).0

-- The sets of a refined operator on sets, or of a comparison: only a difference, `=` and `!=` are refined where their operands are.
pub combined-refined : {o : Op2} (s t : Ex) → Combines o → is_refined (ex2 false o s t) ≡ true → is_refined s ≡ true
combined-refined s t united h = cc
combined-refined s t shared h = cc
combined-refined s t lessened h = (two-of (is_refined s) (is_refined t) h).0

pub compared-refined : {o : Op2} (s t : Ex) → Compares o → is_refined (ex2 true o s t) ≡ true → is_refined s ≡ true
compared-refined s t alike h = (two-of (is_refined s) (is_refined t) h).0
compared-refined s t apart h = (two-of (is_refined s) (is_refined t) h).0
compared-refined s t included h = cc
compared-refined s t properly_included h = cc
compared-refined s t including h = cc
compared-refined s t properly_including h = cc
