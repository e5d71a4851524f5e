-- Entries of a map with names as keys.
use Rattle.std.specs.Prelude.{List, map, reverse, String, string_bytes}
use Rattle.ess_semantics.specs.Values.{Text}
use Rattle.ess_semantics.specs.Names.{Names}

-- The entries with the bytes of their names, the oldest first.
abbrev pub entries_of : {A V : Type 0} → List (String A × V) → List (Text × V)
entries_of es = map (λ e. (string_bytes e.0, e.1)) es

-- Names with what they stand for, the newest first.
abbrev pub newest_first : {V W : Type 0} → (V → W) → List (Text × V) → Names W
newest_first f ns = reverse (map (λ n. (n.0, f n.1)) ns)
