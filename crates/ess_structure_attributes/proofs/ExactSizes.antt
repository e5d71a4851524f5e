-- What `size` asks among attributes.
use Rattle.std.proofs.Common.{◌≡◌, refl, List, ◌∷◌}
use Rattle.ess_semantics.specs.declared.words.Key.{Key}
use Rattle.ess_semantics.specs.Trees.{Mark, valued, Ex, Exs, more_exs}
use Rattle.ess_repr_laws.specs.StructureParts.{and_ex}
use Rattle.ess_repr_laws.specs.ViewParts.{exact_size_ex}
use Rattle.ess_structure_attributes.specs.SizeKeys.{exact_key_ex}

-- The first attribute asks by itself.
pub exact_first : (k : Key) (ms : List Mark) (e : Ex) (es : Exs) (m : Ex) →
    exact_size_ex (valued k ∷ ms) (more_exs e es) m ≡ and_ex (exact_key_ex k e m) (exact_size_ex ms es m)
exact_first Key.Size ms e es m = refl
exact_first _ ms e es m = refl
