-- The parts of the constraint that the cells of a view are canonical, as expressions. The names that it binds are q l, q (l + 1)
-- and so on.
use Rattle.std.specs.Prelude.{if◌then◌else◌, ℕ, suc, Bool, true, false, List, [], ◌∷◌, ◌++◌, pos}
use Rattle.ess_semantics.specs.declared.words.Op1.{Op1}
use Rattle.ess_semantics.specs.declared.words.Op2.{Op2}
use Rattle.ess_semantics.specs.declared.words.Fun.{Fun}
use Rattle.ess_semantics.specs.declared.words.Key.{Key}
use Rattle.ess_semantics.specs.Domains.{same_key}
use Rattle.ess_semantics.specs.Values.{Text}
use Rattle.ess_semantics.specs.Trees.{Doms, tuple_dom, set_dom, both_ends, Mark, flag, valued, name_pat, Ex, Exs, number_ex, truth_ex, name_ex, comp_ex, cell_ex, no_exs, more_exs, Gens, no_gens, over, cond, Dom, int_dom, ex1, ex2, fun1}

-- A table of the view: its name, whether it holds truth values, and the axes behind the view's index list.
pub record Shape : Type 0 where
  pub name : Text
  pub truth : Bool
  pub axes : List Dom

-- One more operand.
abbrev pub add_ex : Exs → Ex → Exs
add_ex no_exs e = more_exs e no_exs
add_ex (more_exs x is) e = more_exs x (add_ex is e)

-- Both hold.
abbrev pub and_ex : Ex → Ex → Ex
and_ex a b = ex2 true Op2.And a b

-- One of both holds.
abbrev pub or_ex : Ex → Ex → Ex
or_ex a b = ex2 true Op2.Or a b

-- If the one holds, so does the other one.
abbrev pub implies_ex : Ex → Ex → Ex
implies_ex a b = ex2 true Op2.Implies a b

-- The one number is at most the other one.
abbrev pub le_ex : Ex → Ex → Ex
le_ex a b = ex2 true Op2.Le a b

-- e holds at each binding.
abbrev pub all_ex : Ex → Gens → Ex
all_ex e gs = fun1 true Fun.And (comp_ex e gs)

-- The numbers 1 to n.
abbrev pub upto : Ex → Dom
upto n = int_dom (both_ends ∷ []) (more_exs (number_ex (pos 1)) (more_exs n no_exs))

-- An attribute with the number e, of a set with m members.
abbrev pub key_ex : Key → Ex → Ex → Ex
key_ex Key.Size e m = and_ex (le_ex e m) (le_ex m e)
key_ex Key.MinSize e m = le_ex e m
key_ex Key.MaxSize e m = le_ex m e
key_ex _ e m = truth_ex true

-- All attributes.
abbrev pub size_ex : List Mark → Exs → Ex → Ex
size_ex [] es m = truth_ex true
size_ex (flag k ∷ ms) es m = size_ex ms es m
size_ex (valued k ∷ ms) no_exs m = truth_ex true
size_ex (valued k ∷ ms) (more_exs e es) m = and_ex (key_ex k e m) (size_ex ms es m)

-- What f says of each attribute without a number.
abbrev pub keys_ex : (Key → Ex) → List Mark → Ex
keys_ex f [] = truth_ex true
keys_ex f (flag k ∷ ms) = and_ex (f k) (keys_ex f ms)
keys_ex f (valued k ∷ ms) = keys_ex f ms

-- The number of the first name behind those of the axes.
abbrev pub level_behind : ℕ → List Dom → ℕ
level_behind l [] = l
level_behind l (a ∷ as') = level_behind (suc l) as'

-- The number of the attribute k, in front of what is there, where the attribute stands.
abbrev pub number_of_key : Key → List Mark → Exs → List Mark → Exs → List Mark × Exs
number_of_key k [] es ns os = (ns, os)
number_of_key k (flag j ∷ ms) es ns os = number_of_key k ms es ns os
number_of_key k (valued j ∷ ms) no_exs ns os = (ns, os)
number_of_key k (valued j ∷ ms) (more_exs e es) ns os = if same_key j k then (valued k ∷ ns, more_exs e os) else number_of_key k ms es ns os

-- The set of a relation's tuples, with the attributes that speak of its size.
abbrev pub tuple_set_dom : List Mark → Exs → Doms → Dom
tuple_set_dom ms es ds =
    let a : List Mark × Exs = number_of_key Key.MaxSize ms es [] no_exs in
    let b : List Mark × Exs = number_of_key Key.MinSize ms es a.0 a.1 in
    let c : List Mark × Exs = number_of_key Key.Size ms es b.0 b.1 in
    set_dom c.0 c.1 (tuple_dom ds)

module _ (q : ℕ → Text) where
  -- Generators over the axes behind.
  abbrev pub row_gens : ℕ → List Dom → Gens
  row_gens l [] = no_gens
  row_gens l (a ∷ as') = over (name_pat (q l)) a (row_gens (suc l) as')

  -- The index list with their names.
  abbrev pub row_index : ℕ → List Dom → Exs → Exs
  row_index l [] is = is
  row_index l (a ∷ as') is = row_index (suc l) as' (add_ex is (name_ex (q l)))

  -- part holds at each place of the axes.
  abbrev pub each_ex : ℕ → List Dom → Ex → Ex
  each_ex l as' part = all_ex part (row_gens l as')

  -- A table's cells row by row.
  abbrev pub row_ex : ℕ → Shape → Exs → Ex
  row_ex l s is = comp_ex (cell_ex s.truth s.name (row_index l s.axes is)) (row_gens l s.axes)

  -- The cells at one index list are below those at another one.
  abbrev pub less_ex : ℕ → List Shape → Exs → Exs → Ex
  less_ex l [] is js = truth_ex false
  less_ex l (s ∷ ss) is js =
      or_ex (ex2 true Op2.LexLt (row_ex l s is) (row_ex l s js))
      (and_ex (ex2 true Op2.LexLe (row_ex l s is) (row_ex l s js)) (less_ex l ss is js))

  -- They are below, or equal.
  abbrev pub at_most_ex : ℕ → List Shape → Exs → Exs → Ex
  at_most_ex l [] is js = truth_ex true
  at_most_ex l (s ∷ ss) is js =
      or_ex (ex2 true Op2.LexLt (row_ex l s is) (row_ex l s js))
      (and_ex (ex2 true Op2.LexLe (row_ex l s is) (row_ex l s js)) (at_most_ex l ss is js))

  -- Below, where two slots must differ; else also equal.
  abbrev pub rise_ex : Bool → ℕ → List Shape → Exs → Exs → Ex
  rise_ex true l ss is js = less_ex l ss is js
  rise_ex false l ss is js = at_most_ex l ss is js

  -- A cell is 0 or false.
  abbrev pub out_ex : Bool → Text → Exs → Ex
  out_ex true n is = ex1 true Op1.Not (cell_ex true n is)
  out_ex false n is = ex2 true Op2.Eq (number_ex (pos 0)) (cell_ex false n is)

  -- All cells of a table are 0 or false.
  abbrev pub zero_ex : ℕ → Shape → Exs → Ex
  zero_ex l s is = all_ex (out_ex s.truth s.name (row_index l s.axes is)) (row_gens l s.axes)

  -- All cells are.
  abbrev pub zeros_ex : ℕ → List Shape → Exs → Ex
  zeros_ex l [] is = truth_ex true
  zeros_ex l (s ∷ ss) is = and_ex (zero_ex l s is) (zeros_ex l ss is)

  -- e of each slot where the test holds.
  abbrev pub over_slots : ℕ → Ex → Ex → Ex → Ex
  over_slots l size test e = all_ex e (over (name_pat (q l)) (upto size) (cond test no_gens))

  -- The number of the next slot.
  abbrev pub next_ex : ℕ → Ex
  next_ex l = ex2 false Op2.Plus (name_ex (q l)) (number_ex (pos 1))

  -- The numbers of all slots but the last, as those of which each has a next one.
  abbrev pub pairs_dom : Ex → Dom
  pairs_dom size = upto (ex2 false Op2.Minus size (number_ex (pos 1)))

  -- e of each slot but the last where the test holds.
  abbrev pub over_pairs : ℕ → Ex → Ex → Ex → Ex
  over_pairs l size test e = all_ex e (over (name_pat (q l)) (pairs_dom size) (cond test no_gens))

  -- e of each slot but the last.
  abbrev pub each_pair : ℕ → Ex → Ex → Ex
  each_pair l size e = each_ex l (pairs_dom size ∷ []) e

  -- Of the slots the first m are in use: each of these is canonical (part), they rise, and all others hold 0 or false.
  abbrev pub slots_ex : ℕ → Ex → Ex → List Shape → Exs → Ex → Ex
  slots_ex l size m ss is part =
      and_ex (over_slots l size (le_ex (name_ex (q l)) m) part)
      (and_ex (over_pairs l size (le_ex (next_ex l) m) (less_ex (suc l) ss (add_ex is (name_ex (q l))) (add_ex is (next_ex l))))
      (over_slots l size (ex1 true Op1.Not (le_ex (name_ex (q l)) m)) (zeros_ex (suc l) ss (add_ex is (name_ex (q l))))))

  -- Slots up to a marker.
  abbrev pub marker_ex : ℕ → List Mark → Exs → Ex → Text → List Shape → Exs → Ex → Ex
  marker_ex l ms es size n ss is part = and_ex (size_ex ms es (cell_ex false n is)) (slots_ex l size (cell_ex false n is) ss is part)

  -- All slots in use.
  abbrev pub explicit_ex : ℕ → List Mark → Exs → Ex → List Shape → Exs → Ex → Ex
  explicit_ex l ms es size ss is part = and_ex (size_ex ms es size) (slots_ex l size size ss is part)

  -- Slots of which those in use rise, where `here` says of a slot that it is in use, `next` of the next one, and `rise` that both
  -- rise: each of these is canonical (part), and all others hold 0 or false.
  abbrev pub use_ex : ℕ → Ex → Ex → Ex → Ex → List Shape → Exs → Ex → Ex
  use_ex l size here next rise ss is part =
      and_ex (over_slots l size here part)
      (and_ex (each_pair l size (implies_ex next rise))
      (over_slots l size (ex1 true Op1.Not here) (zeros_ex (suc l) ss (add_ex is (name_ex (q l))))))

  -- The slots in use stand first.
  abbrev pub first_ex : ℕ → Ex → Ex → Ex → Ex
  first_ex l size here next = each_pair l size (implies_ex next here)

  -- How many cells of a table are true.
  abbrev pub true_count_ex : ℕ → List Dom → Text → Exs → Ex
  true_count_ex l as' n is = fun1 false Fun.Sum (comp_ex (fun1 false Fun.ToInt (cell_ex true n (row_index l as' is))) (row_gens l as'))

  -- How many places axes have.
  abbrev pub place_count_ex : ℕ → List Dom → Ex
  place_count_ex l as' = fun1 false Fun.Sum (comp_ex (number_ex (pos 1)) (row_gens l as'))

  -- The sum of the numbers of a table.
  abbrev pub number_sum_ex : ℕ → List Dom → Text → Exs → Ex
  number_sum_ex l as' n is = fun1 false Fun.Sum (comp_ex (cell_ex false n (row_index l as' is)) (row_gens l as'))

  -- An attribute with the number e asks of each number of times that isn't 0: at least e, or at most.
  abbrev pub times_of_ex : ℕ → Key → Ex → List Dom → Text → Exs → Ex
  times_of_ex l Key.MinOccur e as' n is =
      each_ex l as' (or_ex (ex2 true Op2.Eq (number_ex (pos 0)) (cell_ex false n (row_index l as' is))) (le_ex e (cell_ex false n (row_index l as' is))))
  times_of_ex l Key.MaxOccur e as' n is =
      each_ex l as' (or_ex (ex2 true Op2.Eq (number_ex (pos 0)) (cell_ex false n (row_index l as' is))) (le_ex (cell_ex false n (row_index l as' is)) e))
  times_of_ex l _ e as' n is = truth_ex true

  -- All attributes.
  abbrev pub times_ex : ℕ → List Mark → Exs → List Dom → Text → Exs → Ex
  times_ex l [] es as' n is = truth_ex true
  times_ex l (flag k ∷ ms) es as' n is = times_ex l ms es as' n is
  times_ex l (valued k ∷ ms) no_exs as' n is = truth_ex true
  times_ex l (valued k ∷ ms) (more_exs e es) as' n is = and_ex (times_of_ex l k e as' n is) (times_ex l ms es as' n is)

  -- What the attributes of a multiset ask of a table that says how often each member occurs.
  abbrev pub counts_ex : ℕ → List Mark → Exs → List Dom → Text → Exs → Ex
  counts_ex l ms es as' n is = and_ex (size_ex ms es (number_sum_ex l as' n is)) (times_ex l ms es as' n is)

  -- Slots with flags.
  abbrev pub flags_ex : ℕ → List Mark → Exs → Ex → Text → List Shape → Exs → Ex → Ex
  flags_ex l ms es size n ss is part =
      let here : Ex = cell_ex true n (add_ex is (name_ex (q l))) in
      let next : Ex = cell_ex true n (add_ex is (next_ex l)) in
      and_ex (and_ex (first_ex l size here next)
      (use_ex l size here next (less_ex (suc l) ss (add_ex is (name_ex (q l))) (add_ex is (next_ex l))) ss is part))
      (size_ex ms es (true_count_ex l (upto size ∷ []) n is))

  -- Slots with numbers of times.
  abbrev pub counted_ex : ℕ → List Mark → Exs → Ex → Text → List Shape → Exs → Ex → Ex
  counted_ex l ms es size n ss is part =
      let here : Ex = le_ex (number_ex (pos 1)) (cell_ex false n (add_ex is (name_ex (q l)))) in
      let next : Ex = le_ex (number_ex (pos 1)) (cell_ex false n (add_ex is (next_ex l))) in
      and_ex (and_ex (first_ex l size here next)
      (use_ex l size here next (less_ex (suc l) ss (add_ex is (name_ex (q l))) (add_ex is (next_ex l))) ss is part))
      (counts_ex l ms es (upto size ∷ []) n is)

  -- How many slots hold another number than the dummy.
  abbrev pub member_count_ex : ℕ → Ex → Ex → Text → Exs → Ex
  member_count_ex l size dummy n is =
      fun1 false Fun.Sum (comp_ex (fun1 false Fun.ToInt (ex1 true Op1.Not (ex2 true Op2.Eq dummy (cell_ex false n (add_ex is (name_ex (q l)))))))
      (row_gens l (upto size ∷ [])))

  -- Slots with a dummy: each holds a member or the dummy, and a slot that holds a member stands above the slot before it.
  abbrev pub dummy_ex : ℕ → List Mark → Exs → Ex → Ex → (Ex → Ex) → Text → Exs → Ex
  dummy_ex l ms es size dummy atom n is =
      let here : Ex = cell_ex false n (add_ex is (name_ex (q l))) in
      let next : Ex = cell_ex false n (add_ex is (next_ex l)) in
      and_ex (and_ex (each_ex l (upto size ∷ []) (or_ex (atom here) (ex2 true Op2.Eq dummy here)))
      (each_pair l size (or_ex (ex2 true Op2.Eq dummy next) (ex2 true Op2.Lt here next))))
      (size_ex ms es (member_count_ex l size dummy n is))

  -- Which members occur.
  abbrev pub occurrence_ex : ℕ → List Mark → Exs → Dom → Text → Exs → Ex
  occurrence_ex l ms es d n is = size_ex ms es (true_count_ex l (d ∷ []) n is)

-- ---- what views take from domains

-- The terms that the constraint takes from domains: the number of slots, that a cell lies in the domain of an atom, and
-- its dummy.
pub record Terms : Type 0 where
  pub slots : Dom → Ex
  pub atom : Dom → Ex → Ex
  pub dummy : Dom → Ex

-- The first name of a view's tables.
abbrev pub first_name : List Text → Text
first_name [] = []
first_name (n ∷ ns) = n

-- A table with further axes in front.
abbrev pub on_axes : List Dom → Shape → Shape
on_axes as' s = record s { axes = as' ++ s.axes }

-- The one table of a cell's own.
abbrev pub own_shape : List Text → Bool → List Dom → Shape
own_shape ns b as' = record { name = first_name ns; truth = b; axes = as' }
