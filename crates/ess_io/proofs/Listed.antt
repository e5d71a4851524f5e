-- Lemmas on the calls that are to fail.
use Rattle.std.proofs.Common.{◌≡◌, ℕ, ◌+◌, ◌<◌, ◌≤◌, ◌==◌, nat_lt, true, List, [], ◌∷◌, length, filter, arith}
use Rattle.std.specs.List.{list_any}
use Rattle.std.proofs.lemmas.Bool.Decides.{nat_tests}
use Rattle.ess_io.specs.Counts.{last_count, raised}
use Rattle.ess_io.specs.Calls.{is_next_listed}
use Rattle.ess_io.specs.MemoryFiles.{FaultsAreListed}

-- how many of the numbers lie ahead, after so many calls
abbrev ahead : ℕ → List ℕ → ℕ
ahead made fails = length (filter (λ number. nat_lt made number) fails)

-- no more numbers lie ahead of a later call
ahead-later : (made later : ℕ) (fails : List ℕ) → made ≤ later → ahead later fails ≤ ahead made fails
ahead-later made later [] no_less = omega arith
ahead-later made later (number ∷ fails) no_less = grind (arith, nat_tests, ahead-later made later fails no_less)

-- fewer do where the call is listed
ahead-listed : (made : ℕ) (fails : List ℕ) → list_any (λ number. number == made + 1) fails ≡ true → ahead (made + 1) fails + 1 ≤ ahead made fails
ahead-listed made [] e = cc
ahead-listed made (number ∷ fails) e =
    let later : ahead (made + 1) fails ≤ ahead made fails = ahead-later made (made + 1) fails (omega arith) in
    grind (arith, nat_tests, later, ahead-listed made fails)

-- no more lie ahead than there are
pub FaultsAreListed-new : (made : ℕ) (fails : List ℕ) → FaultsAreListed 0 made fails
FaultsAreListed-new made [] = omega arith
FaultsAreListed-new made (number ∷ fails) = grind (arith, FaultsAreListed-new made fails)

-- a call leaves the faults few
pub FaultsAreListed-called : (faults made : ℕ) (fails : List ℕ) → made ≤ last_count → FaultsAreListed faults made fails → FaultsAreListed faults (raised made) fails
FaultsAreListed-called faults made fails fits few =
    omega (arith, ahead-later made (raised made) fails (omega arith))

-- a listed call leaves them few with one more
pub FaultsAreListed-failed : (faults made : ℕ) (fails : List ℕ) → FaultsAreListed faults made fails → is_next_listed fails made ≡ true
    → FaultsAreListed (faults + 1) (raised made) fails
FaultsAreListed-failed faults made fails few listed =
    let below : made < last_count = grind (arith, nat_tests, listed) in
    let found : list_any (λ number. number == made + 1) fails ≡ true = grind (arith, listed) in
    let next : raised made ≡ made + 1 = omega arith in
    let less : ahead (made + 1) fails + 1 ≤ ahead made fails = ahead-listed made fails found in
    rw next (omega (arith, few, less))
