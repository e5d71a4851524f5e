-- Worked examples of the definitions.
use Rattle.std.specs.Prelude.{◌≡◌, refl, [], ◌∷◌, codes, Some, None, pos}
use Rattle.ess_semantics.specs.declared.words.Key.{Key}
use Rattle.ess_semantics.specs.declared.words.ReprKind.{ReprKind}
use Rattle.ess_semantics.specs.Trees.{both_ends, valued, Dom, number_ex, no_exs, more_exs, int_dom, set_dom}
use Rattle.ess_semantics.specs.Choice.{alone, over_child}
use Rattle.conjure_options.specs.Pieces.{cut, pieces}
use Rattle.conjure_options.specs.Filled.{filled}

-- pieces
two_items : pieces 47 (codes "s:A/t:B") ≡ codes "s:A" ∷ codes "t:B" ∷ []
two_items = refl

no_text_is_one_item : pieces 47 [] ≡ [] ∷ []
no_text_is_one_item = refl

item_behind_the_last : pieces 47 (codes "s/") ≡ codes "s" ∷ [] ∷ []
item_behind_the_last = refl

name_before_the_first_colon : cut 58 (codes "s:A:B") ≡ (codes "s", Some (codes "A:B"))
name_before_the_first_colon = refl

no_colon : cut 58 (codes "s") ≡ (codes "s", None)
no_colon = refl

-- a set of one set of numbers
numbers : Dom
numbers = int_dom (both_ends ∷ []) (more_exs (number_ex (pos 1)) (more_exs (number_ex (pos 2)) no_exs))

sets : Dom
sets = set_dom (valued Key.Size ∷ []) (more_exs (number_ex (pos 1)) no_exs) (set_dom [] no_exs numbers)

child_that_is_left_out : filled (alone ReprKind.Explicit) sets ≡ over_child ReprKind.Explicit (alone ReprKind.Occurrence)
unfolding sets numbers
child_that_is_left_out = refl

child_that_is_given : filled (over_child ReprKind.Explicit (alone ReprKind.ExplicitVarSizeWithMarker)) sets
    ≡ over_child ReprKind.Explicit (over_child ReprKind.ExplicitVarSizeWithMarker (alone ReprKind.Atom))
unfolding sets numbers
child_that_is_given = refl

kind_without_children : filled (alone ReprKind.Occurrence) (set_dom [] no_exs numbers) ≡ alone ReprKind.Occurrence
unfolding sets numbers
kind_without_children = refl

-- a child too many stays, and doesn't fit
child_too_many : filled (over_child ReprKind.Atom (alone ReprKind.Atom)) numbers ≡ over_child ReprKind.Atom (alone ReprKind.Atom)
unfolding sets numbers
child_too_many = refl
