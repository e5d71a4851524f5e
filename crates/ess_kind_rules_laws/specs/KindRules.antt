-- All rules that read the kind of a view, in one place: what each makes of the root of a tree, in the order in which they are tried.
use Rattle.std.specs.Prelude.{Bool, false, ◌&&◌, not, if◌then◌else◌, ℕ, suc, List, [], ◌∷◌, Option, Some, None}
use Rattle.ess_semantics.specs.declared.words.Op1.{Op1}
use Rattle.ess_semantics.specs.Lists.{and_then, or_else}
use Rattle.ess_semantics.specs.Names.{Names}
use Rattle.ess_semantics.specs.Trees.{name_pat, Ex, Exs, node_ex, comp_ex, no_exs, more_exs, from, ex1, fun1}
use Rattle.ess_semantics.specs.Types.{Ty}
use Rattle.ess_semantics.specs.Typing.{type_of}
use Rattle.ess_rules_laws.specs.Listings.{Alternative}
use Rattle.ess_rules_laws.specs.ListedSources.{source_alone, source_parts}
use Rattle.ess_rules_laws.specs.AtomViews.{atom_cell}
use Rattle.ess_rules_laws.specs.SetSizes.{size_by_marker, size_by_slots}
use Rattle.ess_rules_laws.specs.OccurrenceViews.{member_by_cell}
use Rattle.ess_rules_laws.specs.FunctionKeys.{result_at_argument, defined_where_flagged, lookup_behind_flag}
use Rattle.ess_rules_laws.specs.Lookups.{select_whole}
use Rattle.ess_rules_laws.specs.AlternativeLookups.{select_each, select_whole_each}
use Rattle.ess_rules_laws.specs.Progress.{is_parted}
use Rattle.ess_views_laws.specs.ComponentViews.{component_view}
use Rattle.ess_views_laws.specs.MatrixViews.{item_view}
use Rattle.ess_views_laws.specs.ChildViews.{asked_of_child}
use Rattle.ess_views_laws.specs.MultisetViews.{multiset_size, multiset_frequency, multiset_member}
use Rattle.ess_views_laws.specs.PartitionViews.{partition_party, number_of_parts, is_participant, are_together}
use Rattle.ess_refine_laws.specs.AllRules.{Supply}
use Rattle.ess_kind_rules_laws.specs.ViewListings.{view_listing, slots_of_operand, partitioned_second, members_of_first}
use Rattle.ess_kind_rules_laws.specs.TermLookups.{picks, looked_up}

-- The rules, by what they rewrite.
pub data KindRule : Type 0 where
  -- Views that are parts of other views: cells of atoms, components, items of matrices at a place for truth values, children asked.
  cell_of_an_atom component_of_a_view truth_in_a_matrix asked_of_its_child : KindRule
  -- Folds over the members of a view: by parts, and of the only alternative in order.
  over_a_view of_one_view : KindRule
  -- Tests of members: by a cell, of a multiset, of arguments by their flags, of participants.
  member_at_a_cell member_of_a_multiset argument_with_a_flag member_of_a_part : KindRule
  -- Sizes and frequencies: by the marker, by slots, of multisets, of total functions, of parts.
  size_at_the_marker size_of_slots size_of_a_multiset size_of_a_function size_of_the_parts frequency_by_cells : KindRule
  -- Parts of partitions.
  lie_together party_by_number : KindRule
  -- Results of functions at a place for truth values: of total ones, and behind a flag.
  truth_at_an_argument truth_behind_a_flag : KindRule
  -- What is picked out of a term: of an operand that can be looked up, and by itself.
  of_what_is_picked picked : KindRule

-- A fold over what its first source offers as a view.
abbrev pub view_listed : (Alternative → Ex → Option Ex) → Supply → Ex → Option Ex
view_listed f s (fun1 m w (comp_ex e (from (name_pat y) t hs))) =
    and_then (view_listing s.one s.other s.parts t) (λ a. f a (fun1 m w (comp_ex e (from (name_pat y) t hs))))
view_listed f s e = None

-- Whether the root stands where a truth value is asked.
abbrev pub asks_truth : Ex → Bool
asks_truth (node_ex b op es) = b
asks_truth e = false

-- Of a total function the number of members of its first domain.
abbrev pub function_size : Ex → Option Ex
function_size (ex1 false Op1.Bar v) = members_of_first v
function_size e = None

-- ---- what is picked out of a term

-- The number of the first operand that picks a compound value, with that operand.
abbrev pub first_picked : Names Ty → ℕ → Exs → Option (ℕ × Ex)
first_picked g k no_exs = None
first_picked g k (more_exs e es) = if picks e && is_parted (type_of e g) then Some (k, e) else first_picked g (suc k) es

-- The root over the alternatives of its first operand that picks a compound value.
abbrev pub over_picked : Supply → Names Ty → Ex → Option Ex
over_picked s g (node_ex b op es) =
    and_then (first_picked g 1 es)
    (λ p. and_then (looked_up g s.third (s.other ∷ s.parts) p.1) (λ l. select_each s.one p.0 l (node_ex b op es)))
over_picked s g e = None

-- A picked scalar by itself.
abbrev pub picked_scalar : Supply → Names Ty → Ex → Option Ex
picked_scalar s g e =
    if picks e && not (is_parted (type_of e g)) then and_then (looked_up g s.third (s.other ∷ s.parts) e) (λ l. select_whole_each s.one l e)
    else None

-- ---- the rules

-- What the rule makes of the root, where it fires.
abbrev pub kind_rewrite : Supply → Names Ty → KindRule → Ex → Option Ex
kind_rewrite s g cell_of_an_atom e = atom_cell e
kind_rewrite s g component_of_a_view e = component_view e
kind_rewrite s g truth_in_a_matrix e = if asks_truth e then item_view e else None
kind_rewrite s g asked_of_its_child e = asked_of_child e
kind_rewrite s g over_a_view e = view_listed (λ a. source_parts (a ∷ [])) s e
kind_rewrite s g of_one_view e = view_listed source_alone s e
kind_rewrite s g member_at_a_cell e = member_by_cell e
kind_rewrite s g member_of_a_multiset e = multiset_member s.one e
kind_rewrite s g argument_with_a_flag e = defined_where_flagged e
kind_rewrite s g member_of_a_part e = is_participant s.one e
kind_rewrite s g size_at_the_marker e = size_by_marker e
kind_rewrite s g size_of_slots e = size_by_slots (slots_of_operand e) e
kind_rewrite s g size_of_a_multiset e = multiset_size s.one (slots_of_operand e) e
kind_rewrite s g size_of_a_function e = function_size e
kind_rewrite s g size_of_the_parts e = number_of_parts e
kind_rewrite s g frequency_by_cells e = multiset_frequency s.one (slots_of_operand e) e
kind_rewrite s g lie_together e = are_together s.one s.other (partitioned_second e) e
kind_rewrite s g party_by_number e = partition_party (partitioned_second e) e
kind_rewrite s g truth_at_an_argument e = if asks_truth e then result_at_argument e else None
kind_rewrite s g truth_behind_a_flag e = if asks_truth e then and_then (lookup_behind_flag e) (λ l. select_whole s.one l e) else None
kind_rewrite s g of_what_is_picked e = over_picked s g e
kind_rewrite s g picked e = picked_scalar s g e

-- The order in which they are tried: forms of kinds before the general ones, what is picked last.
abbrev pub kind_rules : List KindRule
kind_rules =
    cell_of_an_atom ∷ component_of_a_view ∷ truth_in_a_matrix ∷ truth_at_an_argument ∷ truth_behind_a_flag ∷ asked_of_its_child
    ∷ member_at_a_cell ∷ member_of_a_multiset ∷ argument_with_a_flag ∷ member_of_a_part
    ∷ size_at_the_marker ∷ size_of_slots ∷ size_of_a_multiset ∷ size_of_a_function ∷ size_of_the_parts ∷ frequency_by_cells
    ∷ lie_together ∷ party_by_number ∷ over_a_view ∷ of_one_view ∷ of_what_is_picked ∷ picked ∷ []

-- What the first of the rules that fires makes of the root.
abbrev pub first_of_kinds : Supply → Names Ty → List KindRule → Ex → Option Ex
first_of_kinds s g [] e = None
first_of_kinds s g (r ∷ rs) e = or_else (kind_rewrite s g r e) (first_of_kinds s g rs e)
