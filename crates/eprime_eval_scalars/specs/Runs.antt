-- Ranges put together to the maximal runs of their members.
use Rattle.std.specs.Prelude.{Bool, List, [], ◌∷◌, ℤ, pos, ◌+ℤ◌, int_le, if◌then◌else◌, Option, Some, None}
use Rattle.ess_semantics.specs.Lists.{is_some_and}
use Rattle.ess_semantics.specs.Domains.{Span}
use Rattle.ess_semantics.specs.Satisfaction.{is_run}
use Rattle.eprime_eval_scalars.specs.declared.running.Run.{Run}

-- The pure range of a run.
abbrev pub pure_run : Run → Span
pure_run r = record { low = r.from; high = r.to }

-- Whether a range ends before another one begins, with a number missing between them.
abbrev pub is_left : Span → Span → Bool
is_left r s = is_some_and r.high (λ b. is_some_and s.low (λ c. int_le (b +ℤ pos 2) c))

-- The lower of two lower bounds.
abbrev pub lower_bound : Option ℤ → Option ℤ → Option ℤ
lower_bound (Some a) (Some b) = Some (if int_le a b then a else b)
lower_bound _ _ = None

-- The higher of two upper bounds.
abbrev pub upper_bound : Option ℤ → Option ℤ → Option ℤ
upper_bound (Some a) (Some b) = Some (if int_le a b then b else a)
upper_bound _ _ = None

-- From the lower of the bounds of two ranges to the higher one.
abbrev pub merged : Span → Span → Span
merged r s = record { low = lower_bound r.low s.low; high = upper_bound r.high s.high }

-- A range put into rising runs.
abbrev pub insert_run : Span → List Span → List Span
insert_run s [] = s ∷ []
insert_run s (r ∷ rs) = if is_left r s then r ∷ insert_run s rs else (if is_left s r then s ∷ r ∷ rs else insert_run (merged s r) rs)

-- The ranges that have members, put into rising runs.
abbrev pub runs_with : List Span → List Span → List Span
runs_with rs [] = rs
runs_with rs (s ∷ ss) = runs_with (if is_run s then insert_run s rs else rs) ss
