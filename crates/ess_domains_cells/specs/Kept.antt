-- Numbers that are kept at a limit: one above it counts as the limit.
use Rattle.std.specs.Prelude.{ℕ, if◌then◌else◌, nat_le}

-- The greatest number that is told apart: 2 ^ 100.
abbrev pub limit : ℕ
limit = 1267650600228229401496703205376

-- The number, or m where it is above m.
abbrev pub at_most : ℕ → ℕ → ℕ
at_most m n = if nat_le n m then n else m

-- The number, or the limit where it is above it.
abbrev pub kept : ℕ → ℕ
kept n = at_most limit n

-- The greater one of two numbers.
abbrev pub greater : ℕ → ℕ → ℕ
greater a b = if nat_le b a then a else b
