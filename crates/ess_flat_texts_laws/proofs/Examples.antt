-- Worked examples: a model that some text has, one that none has, since a number is below 0, and one whose bounds name a given.
use Rattle.std.proofs.Common.{◌≡◌, refl, true, false, List, [], ◌∷◌, pos, negsuc, codes}
use Rattle.ess_semantics.specs.declared.words.Op2.{Op2}
use Rattle.ess_semantics.specs.Values.{Text}
use Rattle.ess_semantics.specs.Trees.{both_ends, Ex, number_ex, name_ex, no_exs, more_exs, int_dom, Stm, given, find, such_that, ex2}
use Rattle.ess_grammar.specs.Models.{is_readable_model}
use Rattle.ess_flat_models_laws.specs.FlatSpecifications.{is_flat_specification}
use Rattle.ess_flat_models_laws.specs.FlatModels.{flat_model}

abbrev x : Text
x = codes "x"

-- `find x : int(a..3)  such that x + 1 = 3`
abbrev S : Ex → List Stm
S a =
    find x (int_dom (both_ends ∷ []) (more_exs a (more_exs (number_ex (pos 3)) no_exs)))
    ∷ such_that (ex2 true Op2.Eq (ex2 false Op2.Plus (name_ex x) (number_ex (pos 1))) (number_ex (pos 3))) ∷ []

is-readable : is_readable_model (flat_model (S (number_ex (pos 1))) []) ≡ true
is-readable = refl

-- A text has no number below 0, so that no specification of a text is this one of the class.
below-zero : is_flat_specification (S (number_ex (negsuc 0))) [] ≡ true
below-zero = refl

not-readable : is_readable_model (flat_model (S (number_ex (negsuc 0))) []) ≡ false
not-readable = refl

-- `given n : int(1..3)  find x : int(1..n + 1)`
abbrev named : List Stm
named =
    given (codes "n") (int_dom (both_ends ∷ []) (more_exs (number_ex (pos 1)) (more_exs (number_ex (pos 3)) no_exs)))
    ∷ find x (int_dom (both_ends ∷ [])
    (more_exs (number_ex (pos 1)) (more_exs (ex2 false Op2.Plus (name_ex (codes "n")) (number_ex (pos 1))) no_exs))) ∷ []

named-bounds : is_flat_specification named [] ≡ true
named-bounds = refl

-- The given is declared before the find in whose bound it stands.
named-readable : is_readable_model (flat_model named []) ≡ true
named-readable = refl
