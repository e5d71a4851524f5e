-- Worked examples of what views offer: the term means under tables what stands in its place.
use Rattle.std.specs.Prelude.{◌≡◌, refl, true, false, [], ◌∷◌, pos, Some, None, Option, List, map, option_map}
use Rattle.ess_semantics.specs.declared.words.Op1.{Op1}
use Rattle.ess_semantics.specs.declared.words.Op2.{Op2}
use Rattle.ess_semantics.specs.declared.words.Fun.{Fun}
use Rattle.ess_semantics.specs.declared.words.Key.{Key}
use Rattle.ess_semantics.specs.declared.words.ReprKind.{ReprKind}
use Rattle.ess_semantics.specs.Lists.{and_then}
use Rattle.ess_semantics.specs.Values.{Value, truth, items_of}
use Rattle.ess_semantics.specs.Trees.{Repr, repr, no_reprs, more_reprs, valued, index, to_component, by_value, word, set_literal, Ex, node_ex, seen_ex, ex1, ex2, fun1, no_exs, tuple_dom, matrix_dom, set_dom, mset_dom, partition_dom, no_doms, more_doms}
use Rattle.ess_semantics.specs.Tables.{one_cell, row_of}
use Rattle.ess_semantics.specs.Meaning.{Env, empty_env, meaning}
use Rattle.ess_semantics.proofs.Shorthands.{n, v, upto, es1, es2, ds2}
use Rattle.ess_rules_laws.specs.Listings.{Alternative, items_listed}
use Rattle.ess_rules_laws.proofs.ExamplesLookups.{x, f}
use Rattle.ess_rules_laws.proofs.ExamplesSetListings.{s}
use Rattle.ess_views_laws.specs.ComponentViews.{component_view}
use Rattle.ess_views_laws.specs.MatrixViews.{item_view}
use Rattle.ess_views_laws.specs.MultisetViews.{occurrence_members, members_once, multiset_size, multiset_frequency, multiset_member}
use Rattle.ess_views_laws.specs.PartitionViews.{partition_parts, partition_party, number_of_parts, is_participant, are_together}

abbrev atoms : Repr
atoms = repr ReprKind.Atom no_reprs

-- What stands in the place of a term, under tables.
abbrev becomes : Env → Option Ex → Option Value
becomes here e = and_then e (λ a. meaning a here)

-- What a listing has under tables.
abbrev items : Env → Option Alternative → Option (List Value)
items here l = and_then l (λ a. items_listed a here)

-- ---- components

-- Tuples of a number, which is 7, and a set, which has 2.
abbrev pair : Env
pair = record empty_env { cells = (s, one_cell (pos 7)) ∷ (f, row_of (pos 1 ∷ pos 2 ∷ []) (pos 0 ∷ pos 1 ∷ [])) ∷ [] }

abbrev pair_view : Ex
pair_view = seen_ex (repr ReprKind.Tuple (more_reprs atoms (more_reprs (repr ReprKind.Occurrence no_reprs) no_reprs)))
    (tuple_dom (ds2 (upto 9) (set_dom [] no_exs (upto 2)))) (s ∷ f ∷ []) no_exs

first_component : becomes pair (component_view (node_ex false (index (to_component 1 ∷ [])) (es1 pair_view))) ≡ Some (v 7)
first_component = refl

second_component : option_map items_of (becomes pair (component_view (node_ex false (index (to_component 2 ∷ [])) (es1 pair_view))))
    ≡ Some (v 2 ∷ [])
second_component = refl

no_third_component : component_view (node_ex false (index (to_component 3 ∷ [])) (es1 pair_view)) ≡ None
no_third_component = refl

-- ---- matrices

abbrev row : Env
row = record empty_env { cells = (s, row_of (pos 1 ∷ pos 2 ∷ []) (pos 5 ∷ pos 3 ∷ [])) ∷ [] }

abbrev row_view : Ex
row_view = seen_ex (repr ReprKind.Matrix (more_reprs atoms no_reprs)) (matrix_dom (more_doms (upto 2) no_doms) (upto 9)) (s ∷ []) no_exs

second_item : becomes row (item_view (node_ex false (index (by_value ∷ [])) (es2 row_view (n 2)))) ≡ Some (v 3)
second_item = refl

-- ---- multisets

-- 1 twice, 2 not at all, 3 once.
abbrev counts : Env
counts = record empty_env { cells = (s, row_of (pos 1 ∷ pos 2 ∷ pos 3 ∷ []) (pos 2 ∷ pos 0 ∷ pos 1 ∷ [])) ∷ [] }

abbrev counts_view : Ex
counts_view = seen_ex (repr ReprKind.MSetOccurrence no_reprs) (mset_dom (valued Key.MaxOccur ∷ []) (es1 (n 2)) (upto 3)) (s ∷ []) no_exs

its_members : option_map items_of (meaning counts_view counts) ≡ Some (v 1 ∷ v 1 ∷ v 3 ∷ [])
its_members = refl

members_listed : items counts (occurrence_members x f (n 2) counts_view) ≡ Some (v 1 ∷ v 1 ∷ v 3 ∷ [])
members_listed = refl

each_once : items counts (members_once x (n 3) (fun1 false Fun.ToSet counts_view)) ≡ Some (v 1 ∷ v 3 ∷ [])
each_once = refl

three_in_all : becomes counts (multiset_size x (n 3) (ex1 false Op1.Bar counts_view)) ≡ Some (v 3)
three_in_all = refl

one_is_there_twice : becomes counts (multiset_frequency x (n 3) (node_ex false (word Fun.Freq) (es2 counts_view (n 1)))) ≡ Some (v 2)
one_is_there_twice = refl

two_is_no_member : becomes counts (multiset_member x (ex2 true Op2.Member (n 2) counts_view)) ≡ Some (truth false)
two_is_no_member = refl

-- ---- partitions

-- {1, 3} and {2}.
abbrev parted : Env
parted =
    record empty_env { cells = (s, one_cell (pos 2)) ∷ (f, row_of (pos 1 ∷ pos 2 ∷ pos 3 ∷ []) (pos 1 ∷ pos 2 ∷ pos 1 ∷ [])) ∷ [] }

abbrev parted_view : Ex
parted_view = seen_ex (repr ReprKind.PartitionOccurrence no_reprs) (partition_dom [] no_exs (upto 3)) (s ∷ f ∷ []) no_exs

parts_listed : option_map (map items_of) (items parted (partition_parts x (n 3) parted_view))
    ≡ Some ((v 1 ∷ v 3 ∷ []) ∷ (v 2 ∷ []) ∷ [])
parts_listed = refl

as_its_members : items parted (partition_parts x (n 3) parted_view) ≡ option_map items_of (meaning parted_view parted)
as_its_members = refl

two_parts : becomes parted (number_of_parts (ex1 false Op1.Bar (fun1 false Fun.Parts parted_view))) ≡ Some (v 2)
two_parts = refl

party_of_3 : option_map items_of (becomes parted (partition_party (n 3) (node_ex false (word Fun.Party) (es2 (n 3) parted_view))))
    ≡ Some (v 1 ∷ v 3 ∷ [])
party_of_3 = refl

abbrev asked_together : Ex → Ex
asked_together t = node_ex true (word Fun.Together) (es2 t parted_view)

abbrev set_of_terms : Ex → Ex → Ex
set_of_terms a b = node_ex false set_literal (es2 a b)

one_and_three : becomes parted (are_together x s (n 3) (asked_together (set_of_terms (n 1) (n 3)))) ≡ Some (truth true)
one_and_three = refl

one_and_two : becomes parted (are_together x s (n 3) (asked_together (set_of_terms (n 1) (n 2)))) ≡ Some (truth false)
one_and_two = refl

four_takes_no_part : becomes parted (is_participant x (ex2 true Op2.Member (n 4) (fun1 false Fun.Participants parted_view)))
    ≡ Some (truth false)
four_takes_no_part = refl
