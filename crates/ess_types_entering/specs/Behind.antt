-- Whether the names that get a type behind a statement are new.
use Rattle.std.specs.Prelude.{Bool, true, not, ◌&&◌, List, [], ◌∷◌, is_some}
use Rattle.ess_semantics.specs.Values.{Text}
use Rattle.ess_semantics.specs.Names.{Names, look, is_among}
use Rattle.ess_semantics.specs.Trees.{Stm, given, let_ex, let_enum, find}

-- The names that get a type behind a statement.
abbrev pub typed_names : Stm → List Text
typed_names (given x d) = x ∷ []
typed_names (let_ex x e) = x ∷ []
typed_names (let_enum t ns) = ns
typed_names (find x d) = x ∷ []
typed_names s = []

-- Whether no name stands twice, and none has a type already.
abbrev pub are_new : {A : Type 0} → List Text → Names A → Bool
are_new [] g = true
are_new (a ∷ ns) g = not (is_among ns a) && (not (is_some (look g a)) && are_new ns g)
