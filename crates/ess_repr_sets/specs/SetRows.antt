-- Own tables of sets and multisets, as rows.
use Rattle.std.specs.Prelude.{ℕ, List, [], ◌∷◌, ◌++◌, map, length, take, replicate, ◌-◌, ℤ, Some, None}
use Rattle.ess_semantics.specs.Values.{Value, items_of}
use Rattle.ess_semantics.specs.Numbers.{one_to}
use Rattle.ess_semantics.specs.Domains.{Domain}
use Rattle.ess_semantics.specs.Tables.{Tables, code, row_of}
use Rattle.ess_semantics.specs.SetLayers.{dummy_of}

-- Exactly n items: the first ones, and m in place of those that lack.
abbrev pub filled_with : ℕ → ℤ → List ℤ → List ℤ
filled_with n m xs = take n xs ++ replicate (n - length xs) m

-- n slots with the members of a set, and the dummy in the others. There is no table where there is no dummy.
abbrev pub dummy_tables : ℕ → Domain → Value → Tables
dummy_tables n d v = elim (dummy_of d) [ None ↦ [] | Some m ↦ row_of (one_to n) (filled_with n m (map code (items_of v))) ∷ [] ]
