-- Worked examples: a domain whose bound is a cell, as that of a find under a given.
use Rattle.std.proofs.Common.{◌≡◌, refl, true, false, [], ◌∷◌, List, ℤ, pos}
use Rattle.std.specs.Prelude.{codes}
use Rattle.std.specs.List.{list_any}
use Rattle.ess_semantics.specs.Names.{Names}
use Rattle.ess_semantics.specs.Types.{Ty}
use Rattle.ess_semantics.specs.Trees.{cell_ex, no_exs, Dom}
use Rattle.ess_semantics.specs.Meaning.{Env, empty_env}
use Rattle.ess_semantics.specs.Full.{Full}
use Rattle.ess_semantics.specs.Occurrences.{parts_of_dom, is_cell_or_view}
use Rattle.ess_repr_laws.specs.Structure.{structure}
use Rattle.ess_repr_laws.specs.StructureParts.{upto}
use Rattle.ess_repr_declare_laws.specs.SizeTerms.{size_terms}
use Rattle.ess_repr_structure_laws.proofs.ExamplesStructures.{name, cell}
use Rattle.ess_repr_full_laws.specs.Laws.{FullBelow, QuietBelow}

-- `int(1..n)`, n the cell of a given
abbrev below_n : Dom
below_n = upto (cell_ex false (codes "n") no_exs)

-- It reads a table.
pub of-bound : list_any is_cell_or_view (parts_of_dom below_n) ≡ true
of-bound = refl

-- An env with the cells n and a.
abbrev two_cells : List ℤ → List ℤ → Env
two_cells ns zs = record empty_env {
  cells = (codes "n", record { axes = []; items = ns }) ∷ (codes "a", record { axes = []; items = zs }) ∷ [];
}

-- Where n has a value the tables are full for the domain, whatever is bound,
pub of-below : FullBelow (two_cells (pos 3 ∷ []) (pos 2 ∷ [])) below_n
of-below = record { at = λ g vals. (tt, ((refl, tt), tt)) }

-- and so for the structure of a number of it.
pub of-number : (g : Names Ty) → Full (structure name size_terms cell below_n (codes "a" ∷ []) 1 no_exs) g
    (two_cells (pos 3 ∷ []) (pos 2 ∷ []))
of-number g = (((tt, ((refl, tt), tt)), (((refl, tt), ((refl, tt), tt)), tt)), (tt, tt))

-- ---- index lists

-- No name stands in an index list of the domain.
pub of-below-quiet : QuietBelow name 1 below_n
of-below-quiet = record { free = refl; quiet = λ m h. refl }
