-- Values that are all there.
use Rattle.std.proofs.Common.{◌≡◌, refl, sym, ap, ◌∙◌, List, [], ◌∷◌, Option, Some, None}
use Rattle.ess_semantics.specs.Values.{Value}
use Rattle.ess_semantics.specs.Names.{Names}
use Rattle.ess_translate_solutions.specs.CellFiles.{all_there, there_of, first_without}

-- Where none is missing all are there.
pub all_are_there : (vs : Names (Option Value)) → first_without vs ≡ None → vs ≡ all_there (there_of vs)
all_are_there [] e = refl
all_are_there ((x, None) ∷ vs) e = cc
all_are_there ((x, Some v) ∷ vs) e = ap (λ l. (x, Some v) ∷ l) (all_are_there vs e)
