-- Applications, which lookups ask for.
use Rattle.std.specs.Prelude.{Option, Some, None}
use Rattle.ess_semantics.specs.declared.words.Fun.{Fun}
use Rattle.ess_semantics.specs.Trees.{word, application, Ex, node_ex, no_exs, more_exs}

-- The function and the argument of an application or of `image`.
abbrev pub applied : Ex → Option (Ex × Ex)
applied (node_ex b application (more_exs f (more_exs a no_exs))) = Some (f, a)
applied (node_ex b (word Fun.Image) (more_exs f (more_exs a no_exs))) = Some (f, a)
applied e = None
