-- Trees over views by examples. A set of sets of numbers is kept with flags and by occurrence in three slots: the table f of its flags has
-- one axis, and the table o two. Another one is kept so in the tables g and p. Sums and sizes stand in a file of their own.
use Rattle.std.proofs.Common.{◌≡◌, refl, ℕ, Bool, true, false, ◌||◌, if◌then◌else◌, List, [], ◌∷◌, pos, Option, Some, None, codes}
use Rattle.ess_semantics.specs.declared.words.Op1.{Op1}
use Rattle.ess_semantics.specs.declared.words.Op2.{Op2}
use Rattle.ess_semantics.specs.declared.words.Fun.{Fun}
use Rattle.ess_semantics.specs.declared.words.Key.{Key}
use Rattle.ess_semantics.specs.declared.words.ReprKind.{ReprKind}
use Rattle.ess_semantics.specs.Values.{Text, a_set}
use Rattle.ess_semantics.specs.Order.{same_text}
use Rattle.ess_semantics.specs.Names.{Names}
use Rattle.ess_semantics.specs.Trees.{both_ends, valued, Repr, repr, no_reprs, more_reprs, name_pat, Ex, number_ex, name_ex, comp_ex, cell_ex, seen_ex, no_exs, more_exs, no_gens, over, from, cond, Dom, int_dom, set_dom, ex1, ex2, fun1}
use Rattle.ess_semantics.specs.Types.{int_ty, compound1}
use Rattle.ess_semantics.specs.Substitution.{substitute, for_name}
use Rattle.ess_rules_laws.specs.InclusionRules.{equal_members}
use Rattle.ess_rules_laws.specs.Listings.{listing}
use Rattle.ess_rules_laws.specs.SourceRules.{list_of}
use Rattle.ess_rules_laws.specs.ListedSources.{source_parts}
use Rattle.ess_bare_laws.specs.ess_kind_rules_laws.ViewListings.{view_listing}
use Rattle.ess_bare_laws.specs.ess_flat_laws.Flat.{denied, both, at_least}
use Rattle.ess_bare_laws.specs.Lean.{of_all}
use Rattle.ess_seen_laws.specs.Seen.{scalars, sets_of, kind_of, kind_ty, Bound, from_a_set, over_slots, united, alike, so_many, by_occurrence, with_flags, no_place, at_slot, SetTerm, view, drawn, combined, Seen, number, one, two, folded, of_items, size, within, set_within, compared, last_item, item_before, flag, one_index, named, no_index, at_end, through_slots, among, where_holds}

abbrev pub x_name : Text
x_name = codes "x"

abbrev pub i_name : Text
i_name = codes "i"

abbrev flags : Text → Bool
flags a = same_text (codes "f") a || same_text (codes "g") a

abbrev occurrences : Text → Bool
occurrences a = same_text (codes "o") a || same_text (codes "p") a

-- The table m holds one number, and the table n one in each of three slots.
abbrev markers : Text → Bool
markers a = same_text (codes "m") a

abbrev items : Text → Bool
items a = same_text (codes "n") a

-- Tables of numbers, and all of these.
abbrev pub of_numbers : Text → Option (Bool × List ℕ)
of_numbers a = if markers a then Some (false, []) else (if items a then Some (false, 3 ∷ []) else None)

abbrev pub tables : Text → Option (Bool × List ℕ)
tables a = if flags a then Some (true, 3 ∷ []) else (if occurrences a then Some (true, 3 ∷ 4 ∷ []) else of_numbers a)

-- `set of int(1..4)`, and `set (maxSize 3)` of such.
abbrev pub inner_dom : Dom
inner_dom = set_dom [] no_exs (int_dom (both_ends ∷ []) (more_exs (number_ex (pos 1)) (more_exs (number_ex (pos 4)) no_exs)))

abbrev pub outer_dom : Dom
outer_dom = set_dom (valued Key.MaxSize ∷ []) (more_exs (number_ex (pos 3)) no_exs) inner_dom

abbrev kept_so : Repr
kept_so = repr ReprKind.ExplicitVarSizeWithFlags (more_reprs (repr ReprKind.Occurrence no_reprs) no_reprs)

-- The view s, and its member in the slot i.
abbrev pub s_view : Ex
s_view = seen_ex kept_so outer_dom (codes "f" ∷ codes "o" ∷ []) no_exs

abbrev pub s_slot : Ex
s_slot = seen_ex (repr ReprKind.Occurrence no_reprs) inner_dom (codes "o" ∷ []) (more_exs (name_ex i_name) no_exs)

-- Its kind is that of its members, whose type is told by it.
kind_of_members : kind_of inner_dom ≡ sets_of (scalars false)
kind_of_members = refl

type_of_kind : kind_ty (sets_of (scalars false)) ≡ compound1 a_set int_ty
type_of_kind = refl

-- Both are sets: the first one under any names, the second one where i is bound over the slots.
pub seen_view : {r : Names Bound} → SetTerm tables r s_view (sets_of (scalars false))
seen_view = view refl refl (with_flags refl so_many refl (by_occurrence 4 refl refl refl)) no_place

pub seen_slot : SetTerm tables ((i_name, over_slots 3) ∷ []) s_slot (scalars false)
seen_slot = view refl refl (by_occurrence 4 refl refl refl) (at_slot refl no_place)

-- `forAll x in s . |x| >= 2`, that is `and([|x| >= 2 | x <- s])`.
abbrev each_has_two : Ex
each_has_two = fun1 true Fun.And (comp_ex (ex2 true Op2.Ge (ex1 false Op1.Bar (name_ex x_name)) (number_ex (pos 2)))
    (from (name_pat x_name) s_view no_gens))

seen_fold : Seen tables [] each_has_two true
seen_fold = folded of_all (among seen_view at_end) (two at_least (size (drawn refl)) number)

-- What a rule makes of it by the slots: a fold of one item, `and([and([|s[i]| >= 2 | i : int(1..3), f[i]])])`.
abbrev in_slots_now : Ex
in_slots_now = fun1 true Fun.And (list_of (more_exs (fun1 true Fun.And (comp_ex
    (ex2 true Op2.Ge (ex1 false Op1.Bar s_slot) (number_ex (pos 2)))
    (over (name_pat i_name) (int_dom (both_ends ∷ []) (more_exs (number_ex (pos 1)) (more_exs (number_ex (pos 3)) no_exs)))
    (cond (cell_ex true (codes "f") (more_exs (name_ex i_name) no_exs)) no_gens)))) no_exs))

opened : elim (view_listing i_name x_name [] s_view) [ None ↦ None | Some a ↦ source_parts (a ∷ []) each_has_two ] ≡ Some in_slots_now
opened = refl

-- It is such a tree too.
seen_opened : Seen tables [] in_slots_now true
seen_opened = of_items of_all (last_item (folded of_all
    (through_slots so_many (where_holds (flag refl (one_index (named refl refl) no_index)) at_end))
    (two at_least (size seen_slot) number)))

-- The member in the place of the name.
slot_put : substitute (for_name x_name s_slot) (ex1 false Op1.Bar (name_ex x_name)) ≡ ex1 false Op1.Bar s_slot
slot_put = refl

-- `3 in x`, where x is bound over the members of s.
three_in_x : Seen tables ((x_name, from_a_set (sets_of (scalars false))) ∷ [])
    (ex2 true Op2.Member (number_ex (pos 3)) (name_ex x_name)) true
three_in_x = within number (drawn refl)

-- ---- two sets

-- The other view, t.
abbrev t_view : Ex
t_view = seen_ex kept_so outer_dom (codes "g" ∷ codes "p" ∷ []) no_exs

seen_other : {r : Names Bound} → SetTerm tables r t_view (sets_of (scalars false))
seen_other = view refl refl (with_flags refl so_many refl (by_occurrence 4 refl refl refl)) no_place

-- `s union t` is a set that is made of two.
abbrev pub of_both : Ex
of_both = ex2 false Op2.Union s_view t_view

pub seen_union : SetTerm tables [] of_both (sets_of (scalars false))
seen_union = combined united seen_view seen_other

-- `forAll x in s union t . |x| >= 2`.
abbrev each_of_both : Ex
each_of_both = fun1 true Fun.And (comp_ex (ex2 true Op2.Ge (ex1 false Op1.Bar (name_ex x_name)) (number_ex (pos 2)))
    (from (name_pat x_name) of_both no_gens))

seen_both : Seen tables [] each_of_both true
seen_both = folded of_all (among seen_union at_end) (two at_least (size (drawn refl)) number)

-- What a rule makes of it by the parts of the union: `and([and([|i| >= 2 | i <- s]), and([|i| >= 2 | i <- t, !(i in s)])])`.
abbrev i_has_two : Ex
i_has_two = ex2 true Op2.Ge (ex1 false Op1.Bar (name_ex i_name)) (number_ex (pos 2))

abbrev in_parts_now : Ex
in_parts_now = fun1 true Fun.And (list_of (
    more_exs (fun1 true Fun.And (comp_ex i_has_two (from (name_pat i_name) s_view no_gens)))
    (more_exs (fun1 true Fun.And (comp_ex i_has_two (from (name_pat i_name) t_view
    (cond (ex1 true Op1.Not (ex2 true Op2.Member (name_ex i_name) s_view)) no_gens)))) no_exs)
    ))

parted : elim (listing [] i_name of_both) [ None ↦ None | Some l ↦ source_parts l each_of_both ] ≡ Some in_parts_now
parted = refl

-- It is such a tree too.
seen_parted : Seen tables [] in_parts_now true
seen_parted = of_items of_all (item_before
    (folded of_all (among seen_view at_end) (two at_least (size (drawn refl)) number))
    (last_item (folded of_all (among seen_other (where_holds (one denied (set_within (drawn refl) seen_view)) at_end))
    (two at_least (size (drawn refl)) number))))

-- `s = t`, and what a rule makes of it: `and([x in t | x <- s]) /\ and([x in s | x <- t])`.
abbrev same_sets : Ex
same_sets = ex2 true Op2.Eq s_view t_view

seen_same : Seen tables [] same_sets true
seen_same = compared alike seen_view seen_other

abbrev each_in : Ex → Ex → Ex
each_in a b = fun1 true Fun.And (comp_ex (ex2 true Op2.Member (name_ex x_name) b) (from (name_pat x_name) a no_gens))

by_members : equal_members [] x_name same_sets ≡ Some (ex2 true Op2.And (each_in s_view t_view) (each_in t_view s_view))
by_members = refl

seen_by_members : Seen tables [] (ex2 true Op2.And (each_in s_view t_view) (each_in t_view s_view)) true
seen_by_members = two both
    (folded of_all (among seen_view at_end) (set_within (drawn refl) seen_other))
    (folded of_all (among seen_other at_end) (set_within (drawn refl) seen_view))
