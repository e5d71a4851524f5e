-- Worked examples of constraints one behind the other.
use Rattle.std.proofs.Common.{◌≡◌, refl, true, false, [], ◌∷◌}
use Rattle.ess_semantics.specs.Trees.{truth_ex}
use Rattle.ess_repr_laws.specs.StructureParts.{and_ex}
use Rattle.ess_structure.specs.Together.{together}

-- Two constraints before the last one; none.
two_before : together (truth_ex true ∷ truth_ex false ∷ []) (truth_ex true)
    ≡ and_ex (truth_ex true) (and_ex (truth_ex false) (truth_ex true))
two_before = refl

none_before : together [] (truth_ex false) ≡ truth_ex false
none_before = refl
