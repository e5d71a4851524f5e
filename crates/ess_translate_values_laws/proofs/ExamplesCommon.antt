-- Worked examples: the value that answers agree on.
use Rattle.std.proofs.Common.{◌≡◌, refl, List, [], ◌∷◌, pos, Some, None}
use Rattle.ess_semantics.specs.Values.{number}
use Rattle.ess_translate_values_laws.specs.CommonValues.{agreed}

-- Of no answers there is none, of one it is the answer's.
example-no_answer : agreed [] ≡ None
example-no_answer = refl

example-one : agreed (Some (number (pos 3)) ∷ []) ≡ Some (number (pos 3))
example-one = refl

-- Several have to agree, and each has to be there.
example-agreed : agreed (Some (number (pos 3)) ∷ Some (number (pos 3)) ∷ []) ≡ Some (number (pos 3))
example-agreed = refl

example-last_differs : agreed (Some (number (pos 3)) ∷ Some (number (pos 3)) ∷ Some (number (pos 4)) ∷ []) ≡ None
example-last_differs = refl

example-last_lacks : agreed (Some (number (pos 3)) ∷ None ∷ []) ≡ None
example-last_lacks = refl

example-first_lacks : agreed (None ∷ Some (number (pos 3)) ∷ []) ≡ None
example-first_lacks = refl
