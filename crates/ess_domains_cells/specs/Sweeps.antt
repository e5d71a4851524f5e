-- What a walk along ranges looks for: the end of a range that holds a number, and where the next range begins.
use Rattle.std.specs.Prelude.{◌&&◌, if◌then◌else◌, List, [], ◌∷◌, ℤ, Option, Some, None, int_lt}
use Rattle.ess_semantics.specs.Domains.{Span}
use Rattle.ess_semantics.specs.Membership.{in_span}

-- The upper bound of the first range that holds the number.
abbrev pub end_of : List Span → ℤ → Option ℤ
end_of [] a = None
end_of (s ∷ ss) a = if in_span a s then s.high else end_of ss a

-- The bound, where it lies behind a and before m; else m.
abbrev pub nearer : Option ℤ → ℤ → ℤ → ℤ
nearer None a m = m
nearer (Some l) a m = if int_lt a l && int_lt l m then l else m

-- The least lower bound behind a and before m; m where there is none.
abbrev pub next_start : List Span → ℤ → ℤ → ℤ
next_start [] a m = m
next_start (s ∷ ss) a m = next_start ss a (nearer s.low a m)
