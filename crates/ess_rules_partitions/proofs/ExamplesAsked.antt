-- Worked examples: the forms that rules of partitions ask for, views by their parts, and what the rules make of these.
use Rattle.std.proofs.Common.{◌≡◌, refl, true, false, [], ◌∷◌, pos, Some, None}
use Rattle.ess_semantics.specs.declared.words.Op1.{Op1}
use Rattle.ess_semantics.specs.declared.words.Op2.{Op2}
use Rattle.ess_semantics.specs.declared.words.Fun.{Fun}
use Rattle.ess_semantics.specs.declared.words.ReprKind.{ReprKind}
use Rattle.ess_semantics.specs.Values.{Text}
use Rattle.ess_semantics.specs.Trees.{repr, no_reprs, more_reprs, set_literal, Ex, number_ex, name_ex, node_ex, cell_ex, seen_ex}
use Rattle.ess_semantics.specs.Trees.{no_exs, more_exs, ex1, ex2, fun1, bool_dom, partition_dom}
use Rattle.ess_views_laws.specs.PartitionViews.{is_one_of}
use Rattle.ess_rules_partitions.specs.Asked.{a_party, party_of, a_size, the_parts, the_participants, a_together, together_of, set_items}
use Rattle.ess_rules_partitions.specs.NumberedViews.{NumberedParts, numbered, members_of, lie_together, in_one_part}

abbrev a : Ex
a = name_ex (97 ∷ [])

abbrev b : Ex
b = name_ex (98 ∷ [])

abbrev s : Ex
s = name_ex (115 ∷ [])

abbrev x : Text
x = 120 ∷ []

abbrev y : Text
y = 121 ∷ []

abbrev m : Text
m = 109 ∷ []

abbrev w : Text
w = 119 ∷ []

-- ---- forms

-- `party(a, s)` is a party, `|a|` isn't one but a size.
party_of_a_name : a_party (party_of a s) ≡ Some (a, s)
party_of_a_name = refl

a_size_is_no_party : a_party (ex1 false Op1.Bar a) ≡ None
a_size_is_no_party = refl

size_of_a_name : a_size (ex1 false Op1.Bar a) ≡ Some a
size_of_a_name = refl

-- `parts(s)` are parts and no participants.
parts_of_a_name : the_parts (fun1 false Fun.Parts s) ≡ Some s
parts_of_a_name = refl

parts_are_no_participants : the_participants (fun1 false Fun.Parts s) ≡ None
parts_are_no_participants = refl

-- `together(a, s)` asks of the set a; its items are known where it is a literal.
together_of_a_name : a_together (together_of a s) ≡ Some (a, s)
together_of_a_name = refl

items_of_a_literal : set_items (node_ex false set_literal (more_exs a no_exs)) ≡ Some (more_exs a no_exs)
items_of_a_literal = refl

items_of_a_name : set_items a ≡ None
items_of_a_name = refl

-- ---- views

abbrev parts : NumberedParts
parts = record { members = bool_dom; parts = m; numbers = w; at = no_exs }

-- A partition of truth values by the number of each part. One table isn't enough, but the members are known. A view with a child is none.
over_two_tables : numbered (seen_ex (repr ReprKind.PartitionOccurrence no_reprs) (partition_dom [] no_exs bool_dom) (m ∷ w ∷ []) no_exs)
    ≡ Some parts
over_two_tables = refl

over_one_table : numbered (seen_ex (repr ReprKind.PartitionOccurrence no_reprs) (partition_dom [] no_exs bool_dom) (m ∷ []) no_exs) ≡ None
over_one_table = refl

members_over_one_table :
    members_of (seen_ex (repr ReprKind.PartitionOccurrence no_reprs) (partition_dom [] no_exs bool_dom) (m ∷ []) no_exs) ≡ Some bool_dom
members_over_one_table = refl

with_a_child : members_of (seen_ex (repr ReprKind.PartitionOccurrence (more_reprs (repr ReprKind.Atom no_reprs) no_reprs))
    (partition_dom [] no_exs bool_dom) (m ∷ w ∷ []) no_exs) ≡ None
with_a_child = refl

-- ---- what lies together

-- Of no terms there is a part, one is a member, two have the same number.
nothing_together : lie_together x y (number_ex (pos 2)) (node_ex false set_literal no_exs) parts
    ≡ ex2 true Op2.Gt (cell_ex false m no_exs) (number_ex (pos 0))
nothing_together = refl

one_together : lie_together x y (number_ex (pos 2)) (node_ex false set_literal (more_exs a no_exs)) parts ≡ is_one_of x bool_dom a
one_together = refl

two_together : lie_together x y (number_ex (pos 2)) (node_ex false set_literal (more_exs a (more_exs b no_exs))) parts
    ≡ ex2 true Op2.Eq (cell_ex false w (more_exs a no_exs)) (cell_ex false w (more_exs b no_exs))
two_together = refl

-- Of another set there is a part with its members.
members_together : lie_together x y (number_ex (pos 2)) s parts ≡ in_one_part x y (number_ex (pos 2)) s parts
members_together = refl
