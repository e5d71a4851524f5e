-- Operands beside as many others: an operator that takes the ones takes the others, and ranges have their bounds in both or in neither.
use Rattle.std.proofs.Common.{◌≡◌, refl, List, [], ◌∷◌}
use Rattle.ess_semantics.specs.Trees.{Op, unary, binary, word, Ends, one_value, both_ends, low_end, high_end, Ex, Exs, no_exs, more_exs}
use Rattle.ess_grammar.specs.Readable.{fit_ranges}
use Rattle.eprime_lowering_laws.specs.Formed.{has_operands}

-- There are as many, and P holds of each and the one beside it.
pub data Along (P : Ex → Ex → Type 0) : Exs → Exs → Type 0 where
  none_left : Along P no_exs no_exs
  one_beside : {e f : Ex} {es fs : Exs} → P e f → Along P es fs → Along P (more_exs e es) (more_exs f fs)

module _ (P : Ex → Ex → Type 0) where
  -- There are bounds of all ranges in both or in neither.
  pub fit-along : (rs : List Ends) {es fs : Exs} → Along P es fs → fit_ranges rs es ≡ fit_ranges rs fs
  fit-along [] none_left = refl
  fit-along [] (one_beside p l) = refl
  fit-along (one_value ∷ rs) none_left = refl
  fit-along (one_value ∷ rs) (one_beside p l) = fit-along rs l
  fit-along (both_ends ∷ rs) none_left = refl
  fit-along (both_ends ∷ rs) (one_beside p none_left) = refl
  fit-along (both_ends ∷ rs) (one_beside p (one_beside q l)) = fit-along rs l
  fit-along (low_end ∷ rs) none_left = refl
  fit-along (low_end ∷ rs) (one_beside p l) = fit-along rs l
  fit-along (high_end ∷ rs) none_left = refl
  fit-along (high_end ∷ rs) (one_beside p l) = fit-along rs l

  -- An operator takes both or neither.
  pub operands-along : (op : Op) {es fs : Exs} → Along P es fs → has_operands op es ≡ has_operands op fs
  operands-along op none_left = refl
  operands-along (unary o) (one_beside p none_left) = refl
  operands-along (unary o) (one_beside p (one_beside q l)) = refl
  operands-along (binary o) (one_beside p none_left) = refl
  operands-along (binary o) (one_beside p (one_beside q none_left)) = refl
  operands-along (binary o) (one_beside p (one_beside q (one_beside r l))) = refl
  operands-along (word f) (one_beside p none_left) = refl
  operands-along (word f) (one_beside p (one_beside q l)) = refl
  operands-along op (one_beside p l) = refl
