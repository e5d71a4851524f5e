-- What `size` asks by itself, and the kind of atoms.
use Rattle.std.specs.Prelude.{Bool, true, false}
use Rattle.ess_semantics.specs.declared.words.Key.{Key}
use Rattle.ess_semantics.specs.declared.words.ReprKind.{ReprKind}
use Rattle.ess_semantics.specs.Trees.{Ex, truth_ex}
use Rattle.ess_repr_laws.specs.StructureParts.{key_ex}

-- What `size` asks of a set with m members; every other attribute asks nothing.
abbrev pub exact_key_ex : Key → Ex → Ex → Ex
exact_key_ex Key.Size e m = key_ex Key.Size e m
exact_key_ex k e m = truth_ex true

-- Whether a kind is that of atoms.
abbrev pub is_atom_kind : ReprKind → Bool
is_atom_kind ReprKind.Atom = true
is_atom_kind _ = false
