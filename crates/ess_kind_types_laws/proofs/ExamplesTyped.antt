-- Worked examples: the types of what views of sets in slots with a dummy offer. Over ints all is well; over a named type no type of the
-- table of the slots serves: as ints its cells lose the named type, of the named type they can't be compared with the dummy.
use Rattle.std.proofs.Common.{◌≡◌, refl, false, [], ◌∷◌, Some, None, codes}
use Rattle.ess_semantics.specs.declared.words.ReprKind.{ReprKind}
use Rattle.ess_semantics.specs.Values.{Text, a_matrix}
use Rattle.ess_semantics.specs.Trees.{repr, no_reprs, Ex, name_ex, cell_ex, seen_ex, no_exs, more_exs, Dom, name_dom, set_dom}
use Rattle.ess_semantics.specs.Types.{int_ty, named_ty, compound2}
use Rattle.ess_semantics.specs.Typing.{type_of}
use Rattle.ess_semantics.proofs.Shorthands.{upto}
use Rattle.ess_rules_laws.specs.Listings.{Alternative}
use Rattle.ess_rules_laws.specs.ListedSources.{laid_out}
use Rattle.ess_rules_laws.specs.AtomViews.{atom_cell}
use Rattle.ess_kind_rules_laws.specs.ViewListings.{view_listing}
use Rattle.ess_kind_sizes_laws.proofs.SetListings.{of_dummies}

abbrev new : Text
new = codes "q1"

abbrev cells : Text
cells = codes "s"

abbrev colour : Text
colour = codes "colour"

-- A set of members of d in slots with a dummy, whose table is called s.
abbrev with_dummy : Dom → Ex
with_dummy d = seen_ex (repr ReprKind.ExplicitVarSizeWithDummy no_reprs) (set_dom [] no_exs d) (cells ∷ []) no_exs

-- What it offers.
abbrev in_slots : Dom → Alternative
in_slots d = of_dummies new [] no_exs d no_exs cells

offered : view_listing new (codes "q2") [] (with_dummy (name_dom colour)) ≡ Some (in_slots (name_dom colour))
offered = refl

-- Over `int(1..3)`.
of_ints : type_of (laid_out (in_slots (upto 3))) [] ≡ Some (compound2 a_matrix int_ty int_ty)
of_ints = refl

-- Over a named type, with cells of this type: the condition has no type, and so has what is offered.
of_colours : type_of (laid_out (in_slots (name_dom colour))) ((cells, named_ty colour) ∷ []) ≡ None
of_colours = refl

-- With cells that are ints the item has the named type, and its cell doesn't.
of_numbers : type_of (laid_out (in_slots (name_dom colour))) [] ≡ Some (compound2 a_matrix int_ty (named_ty colour))
of_numbers = refl

the_cell : atom_cell (in_slots (name_dom colour)).item ≡ Some (cell_ex false cells (more_exs (name_ex new) no_exs))
the_cell = refl

its_type : type_of (cell_ex false cells (more_exs (name_ex new) no_exs)) [] ≡ Some int_ty
its_type = refl
