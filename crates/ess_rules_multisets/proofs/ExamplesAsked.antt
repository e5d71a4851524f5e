-- Worked examples: the forms that rules of multisets ask for.
use Rattle.std.proofs.Common.{◌≡◌, refl, true, false, [], ◌∷◌, Some, None}
use Rattle.ess_semantics.specs.declared.words.Op1.{Op1}
use Rattle.ess_semantics.specs.Trees.{name_ex, ex1}
use Rattle.ess_rules_multisets.specs.Asked.{a_size, a_frequency, frequency_of}

-- `|s|` is a size, `-s` isn't one, nor is a Boolean.
size_of_a_name : a_size (ex1 false Op1.Bar (name_ex (115 ∷ []))) ≡ Some (name_ex (115 ∷ []))
size_of_a_name = refl

a_sign_is_none : a_size (ex1 false Op1.Minus (name_ex (115 ∷ []))) ≡ None
a_sign_is_none = refl

a_truth_is_none : a_size (ex1 true Op1.Bar (name_ex (115 ∷ []))) ≡ None
a_truth_is_none = refl

-- `freq(s, x)` is a frequency, `|s|` isn't one.
frequency_of_a_name : a_frequency (frequency_of (name_ex (115 ∷ [])) (name_ex (120 ∷ [])))
    ≡ Some (name_ex (115 ∷ []), name_ex (120 ∷ []))
frequency_of_a_name = refl

a_size_is_none : a_frequency (ex1 false Op1.Bar (name_ex (115 ∷ []))) ≡ None
a_size_is_none = refl
