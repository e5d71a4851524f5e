-- Names in scopes.
use Rattle.std.specs.Prelude.{List, [], ◌∷◌, ◌++◌, reverse}
use Rattle.std.specs.Borrow.{Bor}
use Rattle.ess_semantics.specs.Values.{Text}

-- The names of all scopes, the newest first.
abbrev pub newest_first : List (Bor (List Text)) → List Text
newest_first [] = []
newest_first (ns ∷ rest) = newest_first rest ++ reverse ns.now
