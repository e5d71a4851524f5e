-- Worked examples of the order of lists by the numbers of their items.
use Rattle.std.specs.Prelude.{◌≡◌, refl, ℕ, Bool, true, false, ◌||◌, ◌&&◌, List, [], ◌∷◌, pos, codes, Some, None}
use Rattle.ess_semantics.specs.declared.words.Op2.{Op2}
use Rattle.ess_semantics.specs.Lists.{and_then}
use Rattle.ess_semantics.specs.Values.{Text, Value, truth}
use Rattle.ess_semantics.specs.Tables.{one_cell}
use Rattle.ess_semantics.specs.Trees.{name_pat, Ex, comp_ex, cell_ex, no_exs, no_gens, over, from, bool_dom}
use Rattle.ess_semantics.specs.Meaning.{Env, empty_env, meaning}
use Rattle.ess_semantics.proofs.Shorthands.{N, n, v, es1, es2, bi, at, upto}
use Rattle.ess_rules_laws.specs.SourceRules.{list_of}
use Rattle.ess_refine_laws.specs.AllRules.{Supply}
use Rattle.ess_numbered_laws.specs.OrderByNumber.{order_by_number}
use Rattle.ess_numbered_laws.specs.OrderLaws.{lower_at_some, is_prefix, fewer, is_lower}

-- ---- lists of values

abbrev one_two : List Value
one_two = v 1 ∷ v 2 ∷ []

abbrev one_three : List Value
one_three = v 1 ∷ v 3 ∷ []

-- `[1, 2]` is lower than `[1, 3]` by the second item: up to 1 no item is lower.
by_second : (is_lower false one_two one_three ≡ true) × (lower_at_some 2 one_two one_three ≡ true)
    × (lower_at_some 1 one_two one_three ≡ false) × (lower_at_some 2 one_three one_two ≡ false)
by_second = (refl, refl, refl, refl)

-- `[2]` isn't lower than `[1, 3]`, though it has fewer items: the first item is greater.
greater_first : (is_lower false (v 2 ∷ []) one_three ≡ false) × (lower_at_some 2 (v 2 ∷ []) one_three ≡ false)
    × (fewer false 1 2 && is_prefix 2 (v 2 ∷ []) one_three ≡ false)
greater_first = (refl, refl, refl)

-- `[1]` is lower than `[1, 3]`, which begins with it, and not the other way round.
begins_with : (is_lower false (v 1 ∷ []) one_three ≡ true) × (fewer false 1 2 && is_prefix 2 (v 1 ∷ []) one_three ≡ true)
    × (is_lower true one_three (v 1 ∷ []) ≡ false) × (lower_at_some 2 one_three (v 1 ∷ []) ≡ false) × (fewer true 2 1 ≡ false)
begins_with = (refl, refl, refl, refl, refl)

-- A list isn't lower than itself, and no greater; so it is with the empty list.
equal_lists : (is_lower false one_two one_two ≡ false) × (is_lower true one_two one_two ≡ true)
    × (lower_at_some 2 one_two one_two || (fewer false 2 2 && is_prefix 2 one_two one_two) ≡ false)
    × (lower_at_some 2 one_two one_two || (fewer true 2 2 && is_prefix 2 one_two one_two) ≡ true)
    × (is_lower true [] [] ≡ true) × (fewer true 0 0 && is_prefix 0 [] [] ≡ true)
equal_lists = (refl, refl, refl, refl, refl, refl)

-- ---- the rule

abbrev q : Text
q = codes "q"

abbrev k : Ex
k = cell_ex false (codes "k") no_exs

abbrev names : Supply
names = record {
  one = codes "x";
  other = codes "z";
  third = codes "w";
  parts = codes "a" ∷ codes "b" ∷ [];
  index_domain = λ e. bool_dom;
  copy = λ e. e;
}

-- `[q | q <- [[1, 2], [3]][k]]`, where a table tells k.
abbrev picked : Ex
picked = comp_ex (N q) (from (name_pat q) (at (list_of (es2 (list_of (es2 (n 1) (n 2))) (list_of (es1 (n 3))))) k) no_gens)

-- The table k has one item.
abbrev with_cell : ℕ → Env
with_cell i = record empty_env { cells = (codes "k", one_cell (pos i)) ∷ [] }

-- What a sign means, and what the rule makes of it.
abbrev Means : Ex → ℕ → Bool → Type 0
Means e i b = (meaning e (with_cell i) ≡ Some (truth b))
    × (and_then (order_by_number names [] e) (λ f. meaning f (with_cell i)) ≡ Some (truth b))

-- `[1, 2]` and then `[3]` against `[3]`, by each sign, and from the other side.
signs : Means (bi Op2.LexLt picked (list_of (es1 (n 3)))) 1 true × Means (bi Op2.LexLt picked (list_of (es1 (n 3)))) 2 false
    × Means (bi Op2.LexLe picked (list_of (es1 (n 3)))) 2 true × Means (bi Op2.LexGt picked (list_of (es1 (n 3)))) 1 false
    × Means (bi Op2.LexGe picked (list_of (es1 (n 3)))) 2 true × Means (bi Op2.LexGe (list_of (es1 (n 3))) picked) 1 true
signs = ((refl, refl), (refl, refl), (refl, refl), (refl, refl), (refl, refl), (refl, refl))

-- `[1, 2]` begins `[1, 2, 3]`, and begins with `[1]`.
prefixes : Means (bi Op2.LexLt picked (list_of (es2 (n 1) (n 1)))) 1 false × Means (bi Op2.LexLt (list_of (es1 (n 1))) picked) 1 true
    × Means (bi Op2.LexLe picked (list_of (es1 (n 1)))) 1 false × Means (bi Op2.LexGt picked (list_of no_exs)) 2 true
prefixes = ((refl, refl), (refl, refl), (refl, refl), (refl, refl))

-- It fires at lists alone, and where a source is counted.
stays : (order_by_number names [] (bi Op2.LexLt picked (N q)) ≡ None)
    × (order_by_number names [] (bi Op2.Eq picked (list_of (es1 (n 3)))) ≡ None)
    × (order_by_number names [] (bi Op2.LexLt (comp_ex (N q) (over (name_pat q) (upto 2) no_gens)) (list_of (es1 (n 3)))) ≡ None)
stays = (refl, refl, refl)
