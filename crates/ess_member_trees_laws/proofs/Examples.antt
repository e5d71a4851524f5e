-- Worked examples: the rules that fire at `3 in s` and at the trees to which they lead, where s is kept by the table `s_Occurrence` over
-- `int(1..5)`.
use Rattle.std.proofs.Common.{◌≡◌, refl, true, [], ◌∷◌, pos, codes, Some, None}
use Rattle.ess_semantics.specs.Values.{Text}
use Rattle.ess_semantics.specs.Trees.{both_ends, Ex, number_ex, name_ex, no_exs, more_exs, no_gens, Dom, bool_dom, int_dom}
use Rattle.ess_semantics.specs.Refined.{is_refined}
use Rattle.ess_refine_laws.specs.AllRules.{Supply, rewrite, in_a_term, over_one, over_one_binding, over_a_source, condition}
use Rattle.ess_flat_laws.specs.ess_kind_rules_laws.KindRules.{kind_rewrite, member_at_a_cell, over_a_view, of_one_view}
use Rattle.ess_flat_laws.specs.ess_open_rules_laws.OpenRules.{open_rewrite, over_one_source, in_order_of_its_source}
use Rattle.ess_member_trees_laws.specs.Memberships.{asked, cell_at, is_it, some_of, over_set, where_cell, with_bare, with_it, alone}

abbrev n : Text
n = codes "s_Occurrence"

abbrev A : Dom
A = int_dom (both_ends ∷ []) (more_exs (number_ex (pos 1)) (more_exs (number_ex (pos 5)) no_exs))

abbrev L : Ex
L = number_ex (pos 3)

abbrev i : Text
i = codes "i"

abbrev x : Text
x = codes "x"

abbrev s : Supply
s = record {
  one = i;
  other = codes "j";
  third = codes "k";
  parts = [];
  index_domain = λ e. bool_dom;
  copy = λ e. e;
}

-- `3 in s` becomes the cell at 3, or `or([i = 3 | i <- s])`.
by-its-kind : kind_rewrite s [] member_at_a_cell (asked n A L) ≡ Some (cell_at n A L L)
by-its-kind = refl

as-a-term : rewrite s [] in_a_term (asked n A L) ≡ Some (over_set n A L i)
as-a-term = refl

-- `or([x = 3 | x <- s])` becomes `or([i = 3 | i : int(1..5), s_Occurrence[i]])`, or the same alone in a list. Forms alone offer nothing.
of-one : kind_rewrite s [] of_one_view (over_set n A L x) ≡ Some (where_cell n A L i)
of-one = refl

in-parts : kind_rewrite s [] over_a_view (over_set n A L x) ≡ Some (alone n A L (where_cell n A L i))
in-parts = refl

when-opened : open_rewrite s [] over_one_source (over_set n A L x) ≡ Some (where_cell n A L i)
when-opened = refl

nothing-in-order : open_rewrite s [] in_order_of_its_source (over_set n A L x) ≡ None
nothing-in-order = refl

no-form : rewrite s [] over_a_source (over_set n A L x) ≡ None
no-form = refl

-- The condition leaves, and what is over nothing is its item.
leaving : rewrite s [] condition (where_cell n A L i) ≡ Some (with_bare n A L i)
leaving = refl

bare : rewrite s [] over_one_binding (some_of n A L (is_it n A L i) no_gens) ≡ Some (is_it n A L i)
bare = refl

by-itself : rewrite s [] over_one (alone n A L (with_it n A L i)) ≡ Some (with_it n A L i)
by-itself = refl

-- Refined are the cell and each fold over the domain, but not what is asked or runs over the set.
refined : is_refined (where_cell n A L i) ≡ true
refined = refl
