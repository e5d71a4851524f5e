-- Worked examples: what rules make of `|p union q|`, where p and q are bound over sets of numbers, and of `sum([x | x <- s])`, where s is a
-- set of two numbers at most, in two slots with flags. Each is a tree over views again.
use Rattle.std.proofs.Common.{◌≡◌, refl, ℕ, Bool, true, false, List, [], ◌∷◌, pos, Option, Some, codes}
use Rattle.ess_semantics.specs.declared.words.Key.{Key}
use Rattle.ess_semantics.specs.declared.words.Op1.{Op1}
use Rattle.ess_semantics.specs.declared.words.Op2.{Op2}
use Rattle.ess_semantics.specs.declared.words.Fun.{Fun}
use Rattle.ess_semantics.specs.declared.words.ReprKind.{ReprKind}
use Rattle.ess_semantics.specs.Values.{Text}
use Rattle.ess_semantics.specs.Names.{Names, look}
use Rattle.ess_semantics.specs.Trees.{both_ends, valued, repr, no_reprs, more_reprs, name_pat, Ex, number_ex, name_ex, comp_ex, cell_ex, seen_ex, no_exs, more_exs, Gens, no_gens, over, from, cond, Dom, int_dom, set_dom, ex1, ex2, fun1}
use Rattle.ess_rules_laws.specs.SourceRules.{list_of}
use Rattle.ess_rules_laws.specs.SlotListings.{slots_dom}
use Rattle.ess_refine_laws.specs.AllRules.{rewrite, over_a_source, size, condition}
use Rattle.ess_kind_rules_laws.specs.KindRules.{kind_rewrite, of_one_view, cell_of_an_atom}
use Rattle.ess_flat_laws.specs.Flat.{denied, product}
use Rattle.ess_seen_laws.specs.ess_bare_laws.Lean.{of_sum}
use Rattle.ess_seen_laws.specs.Seen.{Bound, over_slots, bound_types, united, so_many, Seen, number, figure, flag, atom, as_an_atom, with_flags, at_slot, no_place, view, drawn, combined, one, two, named, chosen, folded, of_items, last_item, item_before, size as sized, one_index, no_index, at_end, through_slots, among, where_holds}
use Rattle.ess_seen_stays_laws.proofs.ExamplesStays.{supply, tables, around, p, q, behind, in_it, seen_in}

-- ---- the size of a union

abbrev both : Ex
both = ex2 false Op2.Union p q

-- `sum([1 | v <- s, ..])`.
abbrev ones : Gens → Ex
ones gs = fun1 false Fun.Sum (comp_ex (number_ex (pos 1)) gs)

as-a-sum : rewrite supply (bound_types around) size (ex1 false Op1.Bar both) ≡ Some (ones (behind both no_gens))
as-a-sum = refl

seen-size : Seen tables around (ex1 false Op1.Bar both) false
seen-size = sized (combined united (drawn refl) (drawn refl))

seen-sum : Seen tables around (ones (behind both no_gens)) false
seen-sum = folded of_sum (among (combined united (drawn refl) (drawn refl)) at_end) number

-- The same with another name, in the place of which v comes.
abbrev each_counted : Ex
each_counted = ones (from (name_pat (codes "x")) both no_gens)

abbrev two_sums : Ex
two_sums = fun1 false Fun.Sum (list_of (more_exs (ones (behind p no_gens))
    (more_exs (ones (behind q (cond (ex1 true Op1.Not (in_it p)) no_gens))) no_exs)))

parted : rewrite supply (bound_types around) over_a_source each_counted ≡ Some two_sums
parted = refl

seen-parted : Seen tables around two_sums false
seen-parted = of_items of_sum (item_before (folded of_sum (among (drawn refl) at_end) number)
    (last_item (folded of_sum (among (drawn refl) (where_holds (one denied (seen_in (drawn refl))) at_end)) number)))

-- ---- a set in slots with flags

-- The table c has the numbers of the slots, and f says which are in use.
abbrev slots : Text → Option (Bool × List ℕ)
slots a = look ((codes "c", (false, 2 ∷ [])) ∷ (codes "f", (true, 2 ∷ [])) ∷ []) a

abbrev digits : Dom
digits = int_dom (both_ends ∷ []) (more_exs (number_ex (pos 1)) (more_exs (number_ex (pos 5)) no_exs))

abbrev kept : Ex
kept = seen_ex (repr ReprKind.ExplicitVarSizeWithFlags (more_reprs (repr ReprKind.Atom no_reprs) no_reprs))
    (set_dom (valued Key.MaxSize ∷ []) (more_exs (number_ex (pos 2)) no_exs) digits) (codes "f" ∷ codes "c" ∷ []) no_exs

abbrev no_names : Names Bound
no_names = []

-- The slot v: its view, its cell and its flag.
abbrev v : Ex
v = name_ex (codes "v")

abbrev seen_there : Ex
seen_there = seen_ex (repr ReprKind.Atom no_reprs) digits (codes "c" ∷ []) (more_exs v no_exs)

abbrev cell_there : Ex
cell_there = cell_ex false (codes "c") (more_exs v no_exs)

abbrev flag_there : Ex
flag_there = cell_ex true (codes "f") (more_exs v no_exs)

abbrev each_slot : Gens → Gens
each_slot gs = over (name_pat (codes "v")) (slots_dom (number_ex (pos 2))) gs

abbrev summed : Ex → Ex
summed e = fun1 false Fun.Sum (comp_ex e (each_slot (cond flag_there no_gens)))

abbrev over_kept : Ex
over_kept = fun1 false Fun.Sum (comp_ex (name_ex (codes "x")) (from (name_pat (codes "x")) kept no_gens))

-- The sum goes through the slots.
over-slots : kind_rewrite supply (bound_types no_names) of_one_view over_kept ≡ Some (summed seen_there)
over-slots = refl

seen-kept : Seen slots no_names over_kept false
seen-kept = folded of_sum (among (view refl refl (with_flags refl so_many refl (as_an_atom refl refl)) no_place) at_end) (named refl refl)

seen-slots : Seen slots no_names (summed seen_there) false
seen-slots = folded of_sum (through_slots so_many (where_holds (flag refl (one_index (named refl refl) no_index)) at_end))
    (atom (as_an_atom refl refl) (at_slot refl no_place))

-- There the view of an atom is a cell.
abbrev at_a_slot : Names Bound
at_a_slot = (codes "v", over_slots 2) ∷ []

as-a-cell : kind_rewrite supply (bound_types at_a_slot) cell_of_an_atom seen_there ≡ Some cell_there
as-a-cell = refl

seen-cell : Seen slots at_a_slot cell_there false
seen-cell = figure refl (at_slot refl no_place)

-- Then the flag leaves the sum: it chooses a number that has a value whether it is set or not.
abbrev chosen_there : Ex
chosen_there = fun1 false Fun.Sum (comp_ex (ex2 false Op2.Times (fun1 false Fun.ToInt flag_there)
    (fun1 false Fun.Sum (comp_ex cell_there no_gens))) (each_slot no_gens))

flag-leaves : rewrite supply (bound_types no_names) condition (summed cell_there) ≡ Some chosen_there
flag-leaves = refl

seen-chosen : Seen slots no_names chosen_there false
seen-chosen = folded of_sum (through_slots so_many at_end) (two product (chosen (flag refl (one_index (named refl refl) no_index)))
    (folded of_sum at_end (figure refl (at_slot refl no_place))))
