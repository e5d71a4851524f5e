-- What the layers of atoms and matrices answer, by their kind.
use Rattle.std.specs.Prelude.{List, [], ◌∷◌, ℤ, Option, Some, None}
use Rattle.ess_semantics.specs.declared.words.ReprKind.{ReprKind}
use Rattle.ess_semantics.specs.Lists.{and_then, only_of}
use Rattle.ess_semantics.specs.Values.{Value}
use Rattle.ess_semantics.specs.Domains.{Domain, booleans, integers, named, matrices}
use Rattle.ess_semantics.specs.Tables.{Tables, code, atom_value, one_cell}
use Rattle.ess_repr_rows_laws.specs.Cutting.{first_items}

-- The answer over an atom or matrices; nothing over any other domain.
abbrev pub over_scalars : {A : Type 0} → Domain → Option A → Option A
over_scalars booleans o = o
over_scalars (integers ss) o = o
over_scalars (named t n) o = o
over_scalars (matrices is d) o = o
over_scalars _ o = None

-- The answer of the kind of atoms; nothing for any other kind.
abbrev pub for_atom : {A : Type 0} → ReprKind → Option A → Option A
for_atom ReprKind.Atom o = o
for_atom _ o = None

-- The answer of the kind of matrices; nothing for any other kind.
abbrev pub for_matrix : {A : Type 0} → ReprKind → Option A → Option A
for_matrix ReprKind.Matrix o = o
for_matrix _ o = None

-- The value of an atom in the only cell of the first table.
abbrev pub atom_in : Domain → Tables → Option Value
atom_in d ts = and_then (only_of (first_items ts)) (atom_value d)
