-- Worked examples of the text of a solution, and of finds without a value.
use Rattle.std.specs.Prelude.{◌≡◌, refl, true, List, [], ◌∷◌, pos, negsuc, Option, Some, None, codes}
use Rattle.std.specs.Fmt.{digits}
use Rattle.ess_semantics.specs.Values.{number, truth}
use Rattle.ess_semantics.specs.Assignments.{nothing_given}
use Rattle.ess_translate_solutions.specs.CellFiles.{solution_text, all_there, there_of, first_without}

-- No find at all: the language line alone.
no_finds : solution_text [] nothing_given [] ≡ codes "language Essence 1.3\n"
no_finds = refl

-- Each find has a line, in order.
two_finds : solution_text [] nothing_given ((codes "y", number (negsuc 2)) ∷ (codes "x", truth true) ∷ [])
    ≡ codes "language Essence 1.3\nletting y be -3\nletting x be true\n"
unfolding digits
two_finds = refl

-- The first that is missing is told, whatever comes later.
first_of_two : first_without ((codes "x", Some (number (pos 1))) ∷ (codes "y", None) ∷ (codes "z", None) ∷ []) ≡ Some (codes "y")
first_of_two = refl

none_is_missing : first_without (all_there ((codes "x", number (pos 1)) ∷ [])) ≡ None
none_is_missing = refl

-- Those that are there stay in order.
without_the_missing : there_of ((codes "x", None) ∷ (codes "y", Some (number (pos 2))) ∷ []) ≡ (codes "y", number (pos 2)) ∷ []
without_the_missing = refl
