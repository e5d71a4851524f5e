-- Worked examples of the definitions.
use Rattle.std.proofs.Common.{◌≡◌, refl, true, false, List, [], ◌∷◌, Some, None, negsuc, codes}
use Rattle.ess_semantics.specs.declared.words.ReprKind.{ReprKind}
use Rattle.ess_semantics.specs.Values.{Text}
use Rattle.ess_semantics.specs.Trees.{Repr, repr, no_reprs, number_ex}
use Rattle.ess_semantics.specs.Plans.{Options}
use Rattle.ess_semantics.specs.ModelTrees.{no_goal, least, Model}
use Rattle.ess_translate.specs.declared.refusal.TransNo.{TransNo}
use Rattle.conjure_options.specs.declared.options.OptionsNo.{OptionsNo}
use Rattle.conjure_modelling.specs.declared.refusal.ModelNo.{ModelNo}
use Rattle.conjure_modelling.specs.Refusals.{of_specification, of_options}
use Rattle.conjure_modelling.specs.Modelled.{AreOptionsOf, IsNoOptionOf, TakesList, IsUnreadable}
use Rattle.conjure_modelling.specs.Represented.{have_reprs}

-- the second item is refused
second_item : of_options (OptionsNo.BadItem 2) ≡ ModelNo.BadRepresentation 2
second_item = refl

no_room : of_options OptionsNo.NoMemory ≡ ModelNo.NoMemory
no_room = refl

no_room_for_the_specification : of_specification TransNo.NoMemory ≡ ModelNo.NoMemory
no_room_for_the_specification = refl

refused_specification : of_specification TransNo.HeaderBad ≡ ModelNo.Specification TransNo.HeaderBad
refused_specification = refl

-- without a list nothing is named, and nothing is refused
nothing_named : AreOptionsOf [] None []
nothing_named = refl

nothing_else_named : (b : Text × List Repr) (o : Options) → AreOptionsOf [] None (b ∷ o) → ⊥
nothing_else_named b o h = let k : b ∷ o ≡ [] = h in cc

nothing_refused : IsNoOptionOf [] None OptionsNo.NoMemory → ⊥
nothing_refused h = h

taken_without_a_list : TakesList [] None
taken_without_a_list = ([], refl)

-- even the empty text has an item
empty_list : AreOptionsOf [] (Some []) [] → ⊥
empty_list h = h

-- a model with a number below 0 as one number is none that a text has: there it is `-` before a number
abbrev below_zero : Model
below_zero = record { givens = []; finds = []; goal = least (number_ex (negsuc 0)); rules = [] }

not_written : IsUnreadable below_zero ModelNo.NotYet
not_written = refl

-- the empty model is one
written : IsUnreadable (record { givens = []; finds = []; goal = no_goal; rules = [] }) ModelNo.NotYet → ⊥
written h = cc

-- that a model is none isn't told of a list
not_told : (E : Model) → IsUnreadable E (ModelNo.BadRepresentation 1) → ⊥
not_told E h = h

-- each name has a representation, or one has none
all_have : have_reprs ((codes "x", repr ReprKind.Atom no_reprs ∷ []) ∷ []) ≡ true
all_have = refl

one_has_none : have_reprs ((codes "x", repr ReprKind.Atom no_reprs ∷ []) ∷ (codes "y", []) ∷ []) ≡ false
one_has_none = refl
