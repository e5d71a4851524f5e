-- Calls that are to fail, by their numbers. Calls are numbered from 1, and those past number 2^64 - 1 have no number.
use Rattle.std.specs.Prelude.{ℕ, ◌+◌, Bool, ◌&&◌, ◌==◌, nat_lt, List}
use Rattle.std.specs.List.{list_any}
use Rattle.ess_io.specs.Counts.{last_count}

-- the next call is to fail, where so many calls with a number were made: its number is in the list
abbrev pub is_next_listed : List ℕ → ℕ → Bool
is_next_listed fails made = nat_lt made last_count && list_any (λ number. number == made + 1) fails
