-- Worked examples of what `size` asks by itself.
use Rattle.std.proofs.Common.{◌≡◌, refl, true, false, pos}
use Rattle.ess_semantics.specs.declared.words.Key.{Key}
use Rattle.ess_semantics.specs.declared.words.ReprKind.{ReprKind}
use Rattle.ess_semantics.specs.Trees.{number_ex, truth_ex}
use Rattle.ess_repr_laws.specs.StructureParts.{and_ex, le_ex}
use Rattle.ess_structure_attributes.specs.SizeKeys.{exact_key_ex, is_atom_kind}

-- `size 2` of a set with three members, and `maxSize`, which asks nothing here.
size_asks : exact_key_ex Key.Size (number_ex (pos 2)) (number_ex (pos 3))
    ≡ and_ex (le_ex (number_ex (pos 2)) (number_ex (pos 3))) (le_ex (number_ex (pos 3)) (number_ex (pos 2)))
size_asks = refl

greatest_asks_nothing : exact_key_ex Key.MaxSize (number_ex (pos 2)) (number_ex (pos 3)) ≡ truth_ex true
greatest_asks_nothing = refl

-- Atoms, and tuples.
atoms_are : is_atom_kind ReprKind.Atom ≡ true
atoms_are = refl

tuples_are_not : is_atom_kind ReprKind.Tuple ≡ false
tuples_are_not = refl
