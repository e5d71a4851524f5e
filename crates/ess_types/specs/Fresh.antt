-- Names that stand once, one after another.
use Rattle.std.specs.Prelude.{Bool, true, not, ◌&&◌, List, [], ◌∷◌}
use Rattle.ess_semantics.specs.Values.{Text}
use Rattle.ess_semantics.specs.Names.{is_among}

-- Whether no name stands twice, nor is one that was seen before.
abbrev pub distinct_behind : List Text → List Text → Bool
distinct_behind seen [] = true
distinct_behind seen (a ∷ ns) = not (is_among seen a) && distinct_behind (a ∷ seen) ns
