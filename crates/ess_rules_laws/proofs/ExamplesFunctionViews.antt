-- Worked examples of what views of functions kept by argument offer.
use Rattle.std.specs.Prelude.{◌≡◌, refl, [], ◌∷◌, pos, codes, Some, None, Option, List, option_map}
use Rattle.ess_semantics.specs.declared.words.ReprKind.{ReprKind}
use Rattle.ess_semantics.specs.declared.words.Fun.{Fun}
use Rattle.ess_semantics.specs.Values.{Text, Value, pair, items_of}
use Rattle.ess_semantics.specs.Trees.{Repr, repr, no_reprs, more_reprs, Ex, seen_ex, no_exs, Dom, bool_dom, tuple_dom, function_dom}
use Rattle.ess_semantics.specs.Tables.{row_of}
use Rattle.ess_semantics.specs.Meaning.{Env, empty_env, meaning}
use Rattle.ess_semantics.proofs.Shorthands.{n, v, upto, from_1, ds2, app, fn2}
use Rattle.ess_rules_laws.specs.Listings.{Alternative, items_listed}
use Rattle.ess_rules_laws.specs.Lookups.{found}
use Rattle.ess_rules_laws.specs.Function1DViews.{function_1d_listing, function_1d_lookup}
use Rattle.ess_rules_laws.specs.Function1DPartialViews.{function_1d_partial_listing, function_1d_partial_lookup}
use Rattle.ess_rules_laws.specs.FunctionNDViews.{function_nd_listing}
use Rattle.ess_rules_laws.specs.FunctionNDPartialViews.{function_nd_partial_listing}
use Rattle.ess_rules_laws.proofs.ExamplesLookups.{x, f}
use Rattle.ess_rules_laws.proofs.ExamplesSetListings.{s}

abbrev y : Text
y = codes "y"

abbrev pub over_atoms : ReprKind → Repr
over_atoms k = repr k (more_reprs (repr ReprKind.Atom no_reprs) no_reprs)

-- What a listing has, and what a lookup finds, under tables.
abbrev items : Env → Option Alternative → Option (List Value)
items here None = None
items here (Some a) = items_listed a here

abbrev finds : Env → Option Ex → Option (List Value)
finds here None = None
finds here (Some l) = option_map items_of (meaning l here)

-- ---- 1 to 7 and 2 to 8

abbrev pub from_two : Env
from_two = record empty_env { cells = (s, row_of (pos 1 ∷ pos 2 ∷ []) (pos 7 ∷ pos 8 ∷ [])) ∷ [] }

abbrev pub total : Dom → Ex
total d = seen_ex (over_atoms ReprKind.Function1D) (function_dom [] no_exs d (upto 9)) (s ∷ []) no_exs

its_pairs : items from_two (function_1d_listing x (total (upto 2))) ≡ Some (pair (v 1) (v 7) ∷ pair (v 2) (v 8) ∷ [])
its_pairs = refl

pairs_of_the_view : option_map items_of (meaning (total (upto 2)) from_two) ≡ Some (pair (v 1) (v 7) ∷ pair (v 2) (v 8) ∷ [])
pairs_of_the_view = refl

eight_at_2 : finds from_two (function_1d_lookup x (app (total (upto 2)) (n 2))) ≡ Some (v 8 ∷ [])
eight_at_2 = refl

eight_as_image : finds from_two (function_1d_lookup x (fn2 Fun.Image (total (upto 2)) (n 2))) ≡ Some (v 8 ∷ [])
eight_as_image = refl

nothing_at_3 : finds from_two (function_1d_lookup x (app (total (upto 2)) (n 3))) ≡
    Some (found (meaning (app (total (upto 2)) (n 3)) from_two))
nothing_at_3 = refl

-- From `int(1..)` there is no list of arguments.
without_a_list : items from_two (function_1d_listing x (total from_1)) ≡ None
without_a_list = refl

-- ---- with flags: 2 to 8 alone

abbrev pub flags : Env
flags = record from_two { cells = (f, row_of (pos 1 ∷ pos 2 ∷ []) (pos 0 ∷ pos 1 ∷ [])) ∷ from_two.cells }

abbrev pub partial : Ex
partial = seen_ex (over_atoms ReprKind.Function1DPartial) (function_dom [] no_exs (upto 2) (upto 9)) (f ∷ s ∷ []) no_exs

one_pair : items flags (function_1d_partial_listing x partial) ≡ option_map items_of (meaning partial flags)
one_pair = refl

that_of_2 : items flags (function_1d_partial_listing x partial) ≡ Some (pair (v 2) (v 8) ∷ [])
that_of_2 = refl

nothing_at_1 : finds flags (function_1d_partial_lookup x (app partial (n 1))) ≡ Some []
nothing_at_1 = refl

eight_behind_a_flag : finds flags (function_1d_partial_lookup x (app partial (n 2))) ≡ Some (v 8 ∷ [])
eight_behind_a_flag = refl

-- ---- from pairs of truth values

abbrev pub four : Env
four = record empty_env {
  cells = (s, record { axes = (pos 0 ∷ pos 1 ∷ []) ∷ (pos 0 ∷ pos 1 ∷ []) ∷ []; items = pos 5 ∷ pos 6 ∷ pos 7 ∷ pos 8 ∷ [] }) ∷
      (f, record { axes = (pos 0 ∷ pos 1 ∷ []) ∷ (pos 0 ∷ pos 1 ∷ []) ∷ []; items = pos 0 ∷ pos 0 ∷ pos 1 ∷ pos 0 ∷ [] }) ∷ [];
}

abbrev from_pairs : Dom
from_pairs = function_dom [] no_exs (tuple_dom (ds2 bool_dom bool_dom)) (upto 9)

abbrev pub both : Ex
both = seen_ex (over_atoms ReprKind.FunctionND) from_pairs (s ∷ []) no_exs

all_four : items four (function_nd_listing (x ∷ y ∷ []) both) ≡ option_map items_of (meaning both four)
all_four = refl

-- A name for each component is asked, and different ones.
one_name : function_nd_listing (x ∷ []) both ≡ None
one_name = refl

one_name_twice : function_nd_listing (x ∷ x ∷ []) both ≡ None
one_name_twice = refl

abbrev pub some : Ex
some = seen_ex (over_atoms ReprKind.FunctionNDPartial) from_pairs (f ∷ s ∷ []) no_exs

the_third : items four (function_nd_partial_listing (x ∷ y ∷ []) some) ≡ option_map items_of (meaning some four)
the_third = refl
