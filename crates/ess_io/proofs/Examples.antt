-- The definitions at work.
use Rattle.std.proofs.Common.{◌≡◌, true, false, [], ◌∷◌, None, Some, refl, inl, inr, arith, rules}
use Rattle.std.specs.FinMap.{empty, insert, gets}
use Rattle.ess_io.specs.Counts.{Rose, raised, last_count}
use Rattle.ess_io.specs.Calls.{is_next_listed}
use Rattle.ess_io.specs.Sinks.{grown}
use Rattle.ess_io.specs.Trees.{Tree, file_at}
use Rattle.ess_io.specs.MemorySink.{SinkMemory, is_failing, count_taken}

-- a count rises by one, and stands still at its last value
rises : Rose 3 4 × (raised 3 ≡ 4) × (raised last_count ≡ last_count) × Rose last_count last_count
rises = (inl (omega arith), refl, refl, inr (omega arith))

-- a count that is as it was has not risen
stays : ¬ Rose 3 3
stays = search rules

-- the third call is listed, and no call past the last number is
listed : (is_next_listed (3 ∷ []) 2 ≡ true) × (is_next_listed (3 ∷ []) 3 ≡ false) × (is_next_listed (18446744073709551616 ∷ []) last_count ≡ false)
listed = (refl, refl, refl)

-- a sink grows at its end
grows : (grown (Some (97 ∷ [])) (98 ∷ []) ≡ Some (97 ∷ 98 ∷ [])) × (grown None (98 ∷ []) ≡ None)
grows = (refl, refl)

-- a name holds what was put there last, and another one nothing
abbrev two_puts : Tree
two_puts = insert (insert empty (97 ∷ []) (1 ∷ [])) (97 ∷ []) (2 ∷ 3 ∷ [])

put : (file_at two_puts (97 ∷ []) ≡ Some (2 ∷ 3 ∷ [])) × (file_at two_puts (98 ∷ []) ≡ None)
put = (grind (gets, rules), grind (gets, rules))

-- a sink with two bytes of room that holds both fails, and one that holds one takes one of two
abbrev full : SinkMemory
full = record { held = 97 ∷ 98 ∷ []; fails = []; step = 1; room = 2; made = 2; faults = 0 }

fills : (is_failing full ≡ true) × (count_taken (record full { held = 97 ∷ [] }) 2 ≡ 1)
fills = (refl, refl)
