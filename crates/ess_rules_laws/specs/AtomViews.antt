-- A view of an atom is its cell.
use Rattle.std.specs.Prelude.{[], ◌∷◌, Option, Some, None, IsTrue}
use Rattle.ess_semantics.specs.declared.words.ReprKind.{ReprKind}
use Rattle.ess_semantics.specs.Trees.{repr, no_reprs, Ex, cell_ex, seen_ex, name_dom}
use Rattle.ess_semantics.specs.Meaning.{Env, is_bool_dom}

-- The cell at the view's index list, Boolean where the domain is bool.
abbrev pub atom_cell : Ex → Option Ex
atom_cell (seen_ex (repr ReprKind.Atom no_reprs) d (n ∷ []) js) = Some (cell_ex (is_bool_dom d) n js)
atom_cell e = None

-- Values of a named type count as their positions, where the view is of one.
abbrev pub AtomCounts : Ex → Env → Type 0
AtomCounts (seen_ex r (name_dom a) ns js) env = IsTrue env.positions
AtomCounts e env = Unit {0}
