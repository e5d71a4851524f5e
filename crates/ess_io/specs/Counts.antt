-- The counts of failures and of missing files, which are kept in 64 bits and never fall.
use Rattle.std.specs.Prelude.{ℕ, ◌+◌, ◌<◌, ◌≤◌, ◌⊎◌, min}

-- the last value of a count, 2^64 - 1, at which it stands still
abbrev pub last_count : ℕ
last_count = 18446744073709551615

-- the count is greater than it was, or stands at its last value
abbrev pub Rose : ℕ → ℕ → Type 0
Rose old new = (old < new) ⊎ (last_count ≤ new)

-- one more, as far as the count goes
abbrev pub raised : ℕ → ℕ
raised count = min (count + 1) last_count
