-- Worked examples: views by their parts.
use Rattle.std.proofs.Common.{◌≡◌, refl, [], ◌∷◌, pos, Some, None}
use Rattle.ess_semantics.specs.declared.words.ReprKind.{ReprKind}
use Rattle.ess_semantics.specs.Trees.{repr, no_reprs, more_reprs, number_ex, name_ex, seen_ex, no_exs, bool_dom, set_dom}
use Rattle.ess_rules_kinds.specs.ViewParts.{leaf, nested, two_tables}
use Rattle.ess_rules_kinds.specs.OnceParts.{once_of_word, once_of_parts}

-- A set kept as the members that occur, in the table `s`.
set_by_table : leaf (seen_ex (repr ReprKind.Occurrence no_reprs) (set_dom [] no_exs bool_dom) ((115 ∷ []) ∷ []) no_exs)
    ≡ Some (record { kind = ReprKind.Occurrence; dom = set_dom [] no_exs bool_dom; table = 115 ∷ []; at = no_exs })
set_by_table = refl

-- One in slots has a child, and is none over one table.
slots_are_nested : leaf (seen_ex (repr ReprKind.Explicit (more_reprs (repr ReprKind.Atom no_reprs) no_reprs)) (set_dom [] no_exs bool_dom)
    ((115 ∷ []) ∷ []) no_exs) ≡ None
slots_are_nested = refl

slots_have_a_child : nested (seen_ex (repr ReprKind.Explicit (more_reprs (repr ReprKind.Atom no_reprs) no_reprs)) (set_dom [] no_exs bool_dom)
    ((115 ∷ []) ∷ []) no_exs)
    ≡ Some (record {
      kind = ReprKind.Explicit;
      child = repr ReprKind.Atom no_reprs;
      dom = set_dom [] no_exs bool_dom;
      cells = (115 ∷ []) ∷ [];
      at = no_exs;
    })
slots_have_a_child = refl

-- A name is no view; two tables are not one, nor three.
no_view : nested (name_ex (115 ∷ [])) ≡ None
no_view = refl

two_are_not_one : leaf (seen_ex (repr ReprKind.Occurrence no_reprs) bool_dom ((115 ∷ []) ∷ (116 ∷ []) ∷ []) no_exs) ≡ None
two_are_not_one = refl

three_are_not_two : two_tables ((115 ∷ []) ∷ (116 ∷ []) ∷ (117 ∷ []) ∷ []) ≡ None
three_are_not_two = refl

-- `|v|` is no set of a multiset, and a set has no numbers.
a_size_is_none : once_of_word (120 ∷ []) (number_ex (pos 3)) None ≡ None
a_size_is_none = refl

a_set_has_no_numbers : once_of_parts (120 ∷ []) (number_ex (pos 3))
    (Some (record { kind = ReprKind.Occurrence; dom = set_dom [] no_exs bool_dom; table = 115 ∷ []; at = no_exs })) None ≡ None
a_set_has_no_numbers = refl
