-- Worked examples: what is asked of a find with several views, and which statements find.
use Rattle.std.proofs.Common.{◌≡◌, refl, true, false, [], ◌∷◌, pos, Some, None, codes}
use Rattle.ess_semantics.specs.declared.words.Op2.{Op2}
use Rattle.ess_semantics.specs.declared.words.ReprKind.{ReprKind}
use Rattle.ess_semantics.specs.Trees.{Ex, number_ex, truth_ex, cell_ex, no_exs, ex2, both_ends, bool_dom, int_dom, repr, no_reprs, given, find}
use Rattle.ess_grammar.specs.Grammar.{two_exs}
use Rattle.ess_semantics.specs.Plans.{Plan, givens_side, finds_side, size_plan, value_plan}
use Rattle.conjure_model_laws.specs.Shown.{shows_nothing}
use Rattle.ess_model_finds.specs.Finds.{equal_first, views_of, is_atom, asked_of, structures_of, channels_of, found_in}

abbrev one : Ex
one = cell_ex true (codes "a") no_exs

abbrev two : Ex
two = cell_ex true (codes "b") no_exs

abbrev three : Ex
three = cell_ex true (codes "c") no_exs

-- the first is equal to each other one, and these aren't compared with one another
all_equal : equal_first (one ∷ two ∷ three ∷ []) ≡ ex2 true Op2.Eq one two ∷ ex2 true Op2.Eq one three ∷ []
all_equal = refl

-- one view asks for nothing
alone : equal_first (one ∷ []) ≡ []
alone = refl

abbrev x_find : Plan
x_find = value_plan finds_side (codes "x") (repr ReprKind.Atom no_reprs) bool_dom ((codes "a", 0) ∷ [])

abbrev x_given : Plan
x_given = value_plan givens_side (codes "x") (repr ReprKind.Atom no_reprs) bool_dom ((codes "a", 0) ∷ [])

-- views of a find are those of its plans alone
of_finds : views_of shows_nothing (x_given ∷ x_find ∷ []) (codes "x") ≡ one ∷ []
of_finds = refl

of_another : views_of shows_nothing (x_find ∷ []) (codes "y") ≡ []
of_another = refl

-- something is asked of a find, and not of a given or of the size of a type
structures : structures_of shows_nothing (x_given ∷ size_plan (codes "t") (codes "s") ∷ x_find ∷ []) ≡ truth_ex true ∷ []
structures = refl

abbrev number_find : Plan
number_find = value_plan finds_side (codes "n") (repr ReprKind.Atom no_reprs) (int_dom (both_ends ∷ []) (two_exs (number_ex (pos 0))
    (number_ex (pos 3)))) ((codes "n", 0) ∷ [])

-- a number lies in the declared domain of its cell: nothing is asked
scalar : asked_of shows_nothing number_find ≡ truth_ex true
scalar = refl

not_a_scalar : is_atom (repr ReprKind.Occurrence no_reprs) ≡ false
not_a_scalar = refl

no_channels : channels_of shows_nothing (x_find ∷ []) (codes "x" ∷ []) ≡ []
no_channels = refl

found : found_in (find (codes "x") bool_dom) ≡ Some (codes "x")
found = refl

not_found : found_in (given (codes "x") bool_dom) ≡ None
not_found = refl
