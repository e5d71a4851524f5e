-- Worked examples of the numbers that trees may spell while rules rewrite them.
use Rattle.std.specs.Prelude.{◌≡◌, refl, Bool, true, false, ◌||◌, [], ℤ, pos}
use Rattle.ess_semantics.specs.declared.words.Op2.{Op2}
use Rattle.ess_semantics.specs.declared.words.Fun.{Fun}
use Rattle.ess_semantics.specs.Order.{same_int}
use Rattle.ess_semantics.specs.Trees.{set_literal, matrix_literal, tuple_literal, Ex, node_ex, more_exs}
use Rattle.ess_semantics.proofs.Shorthands.{N, n, es2, bi, fn}
use Rattle.ess_refine_laws.specs.Spelling.{Spells, is_list_literal}

-- 7 alone, and with the numbers up to 3.
abbrev seven : ℤ → Bool
seven k = same_int (pos 7) k

abbrev few : ℤ → Bool
few k = same_int (pos 1) k || (same_int (pos 2) k || (same_int (pos 3) k || seven k))

-- `sum([7, 7, 7])` spells 7 alone: rules make such lists. In `[7, 7, 7] = j` the items count.
abbrev list : Ex
list = node_ex false matrix_literal (more_exs (n 7) (es2 (n 7) (n 7)))

list_in_a_fold : Spells seven false (fn Fun.Sum list)
list_in_a_fold = (refl, ((refl, (refl, (refl, (refl, tt)))), tt))

list_elsewhere : Spells seven false (bi Op2.Eq list (N [])) → ⊥
list_elsewhere h = no h.1.0.0
  where
    no : false ≡ true → ⊥
    no e = cc

-- The items of a set count also in `sum({7, 7, 7})`.
abbrev set : Ex
set = node_ex false set_literal (more_exs (n 7) (es2 (n 7) (n 7)))

set_in_a_fold : Spells seven false (fn Fun.Sum set) → ⊥
set_in_a_fold h = no h.1.0.0
  where
    no : false ≡ true → ⊥
    no e = cc

set_spelled : Spells few false (fn Fun.Sum set)
set_spelled = (refl, ((refl, (refl, (refl, (refl, tt)))), tt))

-- A tuple's components don't count, and a list is no set.
tuple_spelled : Spells seven false (node_ex false tuple_literal (es2 (n 7) (n 7)))
tuple_spelled = (refl, (refl, (refl, tt)))

lists : (is_list_literal list ≡ true) × (is_list_literal set ≡ false)
lists = (refl, refl)
