-- Where no number is outside 64 bits, an expression means none that is, and an unnamed type has fewer than 2^63 values.
use Rattle.std.proofs.Common.{◌≡◌, refl, ℕ, ◌<◌, ◌^◌, Bool, true, false, ◌||◌, not, List, Option, Some, None, option_map, nat_lt, nat_eq, pos, negsuc, arith, length}
use Rattle.std.proofs.lemmas.Bool.Decides.{nat_tests}
use Rattle.ess_semantics.specs.Lists.{and_then, all_some, when}
use Rattle.ess_semantics.specs.Values.{Value, number, truth, item, node, of_list, matrix}
use Rattle.ess_semantics.specs.Trees.{Ex, number_ex, truth_ex, name_ex, node_ex, matrix_ex, comp_ex, cell_ex, seen_ex}
use Rattle.ess_semantics.specs.Operators.{list_value}
use Rattle.ess_semantics.specs.Meaning.{Env, meaning, meanings, matrix_value, members_in, domain_of}
use Rattle.ess_semantics.specs.Large.{is_big, is_large, any_large, is_large_dom}
use Rattle.ess_semantics.specs.Assignments.{size_of}
use Rattle.ess_semantics.proofs.Tests.{or-left-no}

matrix-small : (o : Option (List Value)) (xs : Option (List Value)) → is_big (and_then xs (matrix_value o)) ≡ false
matrix-small o None = refl
matrix-small None (Some xs) = refl
matrix-small (Some is) (Some xs) = go (nat_eq (length is) (length xs))
  where
    go : (b : Bool) → is_big (when b (matrix (of_list is) (of_list xs))) ≡ false
    go true = refl
    go false = refl

list-small : (o : Option (List Value)) → is_big (option_map list_value o) ≡ false
list-small None = refl
list-small (Some xs) = refl

-- An expression without such a number means none.
pub means-small : (e : Ex) (env : Env) → is_large e env ≡ false → is_big (meaning e env) ≡ false
means-small (number_ex n) env h = h
means-small (truth_ex b) env h = refl
means-small (name_ex a) env h = h
means-small (node_ex b op es) env h = or-left-no (is_big (meaning (node_ex b op es) env)) (any_large es env) h
means-small (matrix_ex es d) env h = matrix-small (members_in (domain_of d env)) (all_some (meanings es env))
means-small (comp_ex e gs) env h = list-small _
means-small (cell_ex b n es) env h = or-left-no (is_big (meaning (cell_ex b n es) env)) (any_large es env) h
means-small (seen_ex r d ns es) env h =
    or-left-no (is_big (meaning (seen_ex r d ns es) env)) (is_large_dom d env)
    (or-left-no (is_big (meaning (seen_ex r d ns es) env) || is_large_dom d env) (any_large es env) h)

-- A size that is no such number is below 2^63.
pub size-small : (o : Option Value) → is_big o ≡ false → size_of o < 2 ^ 63
size-small None h = omega arith
size-small (Some (number (pos n))) h = below n h
  where
    below : (n : ℕ) → not (nat_lt n (2 ^ 63)) ≡ false → n < 2 ^ 63
    below n h = grind (arith, nat_tests)
size-small (Some (number (negsuc n))) h = omega arith
size-small (Some (truth b)) h = omega arith
size-small (Some (item t k)) h = omega arith
size-small (Some (node k vs)) h = omega arith
