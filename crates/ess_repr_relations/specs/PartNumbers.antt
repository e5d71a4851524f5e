-- Parts by their numbers, over lists of members, and the domains that have relations or partitions as members.
use Rattle.std.specs.Prelude.{ℕ, suc, if◌then◌else◌, List, [], ◌∷◌, ℤ, pos, Option, None}
use Rattle.ess_semantics.specs.Values.{Value}
use Rattle.ess_semantics.specs.Collections.{holds}
use Rattle.ess_semantics.specs.Domains.{Domain, relations, partitions}

-- The number of the first list that holds x, counted from k; 0 where none does.
abbrev pub list_number : ℕ → List (List Value) → Value → ℤ
list_number k [] x = pos 0
list_number k (xs ∷ xss) x = if holds xs x then pos k else list_number (suc k) xss x

-- The answer over a domain of relations or partitions; nothing over any other one.
abbrev pub over_relations : {A : Type 0} → Domain → Option A → Option A
over_relations (relations ks ds) o = o
over_relations (partitions ks d) o = o
over_relations d o = None
