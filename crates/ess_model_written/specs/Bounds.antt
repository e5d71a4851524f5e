-- What bounds of domains become: rules lead to it, and it is printed.
use Rattle.std.specs.Prelude.{ℕ, ◌⊎◌, List, [], Option, Some, None}
use Rattle.ess_semantics.specs.Values.{Text}
use Rattle.ess_semantics.specs.Trees.{Ex, Exs, no_exs, more_exs}
use Rattle.conjure_model_laws.specs.ToldApart.{told, told_apart}
use Rattle.ess_model_trees.specs.Written.{PrintsFrom}

-- Names that are taken, and the number of the first reserved name that a bound name becomes.
module _ (taken : List Text) (k : ℕ) where
  -- What becomes of one bound, or nothing.
  abbrev pub BoundPrints : Ex → Option Ex → Type 0
  BoundPrints old new = PrintsFrom taken (told old [] k).1 (told_apart k old) new

  -- What becomes of several.
  abbrev pub EachPrints : Exs → Exs → Type 0
  EachPrints no_exs no_exs = Unit {0}
  EachPrints (more_exs e es) (more_exs f fs) = BoundPrints e (Some f) × EachPrints es fs
  EachPrints es fs = ⊥

  -- Refining one of them was given up.
  abbrev pub OneSticks : Exs → Type 0
  OneSticks no_exs = ⊥
  OneSticks (more_exs e es) = BoundPrints e None ⊎ OneSticks es

  -- What becomes of all, or nothing.
  abbrev pub BoundsPrint : Exs → Option Exs → Type 0
  BoundsPrint es (Some fs) = EachPrints es fs
  BoundsPrint es None = OneSticks es
