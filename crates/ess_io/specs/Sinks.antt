-- What a sink took. Bytes that aren't told are `None`, and nothing is said of them.
use Rattle.std.specs.Prelude.{◌≡◌, ℕ, List, ◌++◌, take, None, Some, Option}

-- the bytes with more at their end
abbrev pub grown : Option (List ℕ) → List ℕ → Option (List ℕ)
grown None more = None
grown (Some held) more = Some (held ++ more)

-- the bytes grew by a prefix of the text, which may be all or nothing of it
abbrev pub GrewByPrefix : Option (List ℕ) → Option (List ℕ) → List ℕ → Type 0
GrewByPrefix old new text = (count : ℕ) × (new ≡ grown old (take count text))
