-- Worked examples: the tables of plans, with cells as numbers.
use Rattle.std.specs.Prelude.{◌≡◌, refl, [], ◌∷◌, map, pos, Some, None, codes}
use Rattle.ess_semantics.specs.declared.words.ReprKind.{ReprKind}
use Rattle.ess_semantics.specs.Trees.{Repr, repr, no_reprs, bool_dom}
use Rattle.ess_semantics.specs.Domains.{Domain, booleans, named, tuples, no_domains, sets, between}
use Rattle.ess_semantics.specs.Declarations.{declarations}
use Rattle.ess_semantics.specs.Positions.{domain_with_positions}
use Rattle.ess_semantics.specs.Plans.{givens_side, finds_side, size_plan, value_plan, from_one}
use Rattle.ess_translate_members_laws.specs.CellForms.{cell_form, plain}
use Rattle.ess_translate_members_laws.specs.PlanDomains.{tables_on, tables_of_side}

-- A type of three values.
abbrev colours : Domain
colours = named (codes "colour") 3

abbrev atom : Repr
atom = repr ReprKind.Atom no_reprs

-- Its cells are 1 to 3, with positions and without.
colour-cells : cell_form colours ≡ between (pos 1) (pos 3)
colour-cells = refl

colours-with-positions : map plain (declarations atom colours) ≡ map plain (declarations atom (domain_with_positions colours))
colours-with-positions = refl

-- A tuple has no cells.
no-cells : cell_form (tuples no_domains) ≡ between (pos 1) (pos 0)
no-cells = refl

-- A set of them over its members has one axis of three, and truth values.
occurrence-table : map plain (declarations (repr ReprKind.Occurrence no_reprs) (sets [] colours))
    ≡ record { axes = (pos 1 ∷ pos 2 ∷ pos 3 ∷ []) ∷ []; cell = booleans } ∷ []
occurrence-table = refl

-- The cell of a type's number of values is a given's; a given's tables aren't among the finds.
size-given : tables_on givens_side (size_plan (codes "t") (codes "t_Size")) None ≡ record { axes = []; cell = from_one } ∷ []
size-given = refl

size-not-found : tables_on finds_side (size_plan (codes "t") (codes "t_Size")) None ≡ []
size-not-found = refl

finds-alone : tables_of_side finds_side
    (value_plan givens_side (codes "g") atom bool_dom [] ∷ value_plan finds_side (codes "x") atom bool_dom [] ∷ [])
    (Some booleans ∷ Some booleans ∷ [])
    ≡ record { axes = []; cell = booleans } ∷ []
finds-alone = refl

-- A plan without a domain has no tables.
no-domain : tables_on finds_side (value_plan finds_side (codes "x") atom bool_dom []) None ≡ []
no-domain = refl
