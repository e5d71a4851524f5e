-- Index domains, as the form of a matrix tells them, are given where the matrix is: but that of a comprehension, which counts its items.
use Rattle.std.specs.Prelude.{◌≡◌, Bool, true, false}
use Rattle.ess_semantics.specs.Values.{Text}
use Rattle.ess_semantics.specs.Trees.{Ex, comp_ex}
use Rattle.ess_given_laws.specs.ess_chain_names_laws.Steps.{told_axis}
use Rattle.ess_given_laws.specs.Given.{are_fixed_gens, is_fixed_dom, GivenIn}

-- Whether the index domain counts items.
abbrev pub counts_items : Ex → Bool
counts_items (comp_ex e gs) = true
counts_items e = false

-- What is counted is fixed.
abbrev pub CountsFixed : (Text → Bool) → Ex → Type 0
CountsFixed u (comp_ex e gs) = are_fixed_gens u gs ≡ true
CountsFixed u e = Unit {0}

-- So the index domain is fixed. Nothing more is true of comprehensions: a judged one may run over a matrix of a find, and then its index
-- domain reads that matrix.
abbrev pub IndexDomainsAreGiven : Type 0
IndexDomainsAreGiven = (u : Text → Bool) (e : Ex) → GivenIn u e → CountsFixed u e → is_fixed_dom u (told_axis e) ≡ true
