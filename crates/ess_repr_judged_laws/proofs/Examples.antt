-- Worked examples: why attribute values below 0 are left out.
use Rattle.std.proofs.Common.{◌≡◌, refl, true, false, [], ◌∷◌, ℤ, pos, negsuc, Some}
use Rattle.std.specs.Prelude.{codes}
use Rattle.ess_semantics.specs.declared.words.Key.{Key}
use Rattle.ess_semantics.specs.declared.words.ReprKind.{ReprKind}
use Rattle.ess_semantics.specs.Values.{truth}
use Rattle.ess_semantics.specs.Trees.{both_ends, valued, Repr, repr, no_reprs, more_reprs, number_ex, no_exs, more_exs, Dom, int_dom, set_dom}
use Rattle.ess_semantics.specs.Domains.{Domain, sets, numbered, between}
use Rattle.ess_semantics.specs.Tables.{row_of}
use Rattle.ess_semantics.specs.Cells.{cells_of}
use Rattle.ess_semantics.specs.CanonicalTest.{canonical}
use Rattle.ess_semantics.specs.Meaning.{Env, empty_env, meaning, domain_of}
use Rattle.ess_repr_laws.specs.Structure.{structure}
use Rattle.ess_repr_declare_laws.specs.SizeTerms.{size_terms}
use Rattle.ess_repr_structure_laws.proofs.ExamplesStructures.{name}

-- `set (size n) of int(1..1)`
abbrev of_size : ℤ → Dom
of_size n = set_dom (valued Key.Size ∷ []) (more_exs (number_ex n) no_exs)
    (int_dom (both_ends ∷ []) (more_exs (number_ex (pos 1)) (more_exs (number_ex (pos 1)) no_exs)))

abbrev denoted : ℤ → Domain
denoted n = sets (numbered Key.Size n ∷ []) (between (pos 1) (pos 1))

pub of-denoted : domain_of (of_size (negsuc 0)) empty_env ≡ Some (denoted (negsuc 0))
of-denoted = refl

-- In slots that are all in use.
abbrev in_slots : Repr
in_slots = repr ReprKind.Explicit (more_reprs (repr ReprKind.Atom no_reprs) no_reprs)

-- A table without slots.
abbrev no_slots : Env
no_slots = record empty_env { cells = (codes "a", row_of [] []) ∷ [] }

-- With size 0 it is canonical, and the structure says so.
pub of-zero : meaning (structure name size_terms in_slots (of_size (pos 0)) (codes "a" ∷ []) 1 no_exs) no_slots ≡ Some (truth true)
of-zero = refl

pub of-zero-canonical : canonical in_slots (denoted (pos 0)) (cells_of (row_of [] [] ∷ [])) ≡ true
of-zero-canonical = refl

-- With size -1 no set is a member, and its cells aren't canonical.
pub below-zero-canonical : canonical in_slots (denoted (negsuc 0)) (cells_of (row_of [] [] ∷ [])) ≡ false
below-zero-canonical = refl

-- But the structure says that they are, since it compares the size with itself: so the laws of structures ask for no value below 0.
pub below-zero : meaning (structure name size_terms in_slots (of_size (negsuc 0)) (codes "a" ∷ []) 1 no_exs) no_slots ≡ Some (truth true)
below-zero = refl
