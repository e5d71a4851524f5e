-- The constraint that the cells of a function with a value for each argument are canonical. Its attributes without a number are asked
-- of the pairs that its view has, `total` of the flags, and `injective` of cells where each value is one.
use Rattle.std.specs.Prelude.{if◌then◌else◌, ℕ, Bool, true, false, List, [], ◌∷◌}
use Rattle.ess_semantics.specs.declared.words.Key.{Key}
use Rattle.ess_semantics.specs.declared.words.Op1.{Op1}
use Rattle.ess_semantics.specs.declared.words.Fun.{Fun}
use Rattle.ess_semantics.specs.declared.words.ReprKind.{ReprKind}
use Rattle.ess_semantics.specs.Values.{Text}
use Rattle.ess_semantics.specs.Trees.{Mark, Repr, repr, no_reprs, Ex, Exs, truth_ex, no_exs, comp_ex, cell_ex, Dom, function_dom, ex1, fun1}
use Rattle.ess_repr_laws.specs.StructureParts.{Shape, and_ex, implies_ex, level_behind, row_gens, row_index, each_ex, keys_ex, size_ex, place_count_ex, true_count_ex, zeros_ex}
use Rattle.ess_repr_laws.specs.ViewParts.{components_differ_ex, pair_key_ex}

-- The domain of functions from d to c of which nothing is asked.
abbrev pub bare_function_dom : Dom → Dom → Dom
bare_function_dom d c = function_dom [] no_exs d c

-- Whether a view is one cell.
abbrev pub is_one_cell : Repr → Bool
is_one_cell (repr ReprKind.Atom no_reprs) = true
is_one_cell _ = false

-- `total` says e, each other attribute what f says.
abbrev pub with_total : Ex → (Key → Ex) → Key → Ex
with_total e f Key.Total = e
with_total e f k = f k

-- `injective` says e, each other attribute what f says.
abbrev pub with_injective : Ex → (Key → Ex) → Key → Ex
with_injective e f Key.Injective = e
with_injective e f k = f k

module _ (q : ℕ → Text) where
  -- The values at the places differ, where each is one cell.
  abbrev pub differ_ex : ℕ → List Dom → List Shape → Exs → Ex
  differ_ex l as' (s ∷ []) is = fun1 true Fun.AllDiff (comp_ex (cell_ex s.truth s.name (row_index q l as' is)) (row_gens q l as'))
  differ_ex l as' _ is = truth_ex false

  -- What an attribute without a number asks of a function to c with a value for each argument, whose view is e.
  abbrev pub value_key_ex : ℕ → List Dom → List Shape → Exs → Repr → Dom → Ex → Key → Ex
  value_key_ex l as' ss is r c e =
      with_injective (if is_one_cell r then differ_ex l as' ss is else components_differ_ex q l c 2 e) (pair_key_ex q l c e)

  -- A value at each place: each is canonical (part). Its view e has the attributes without a number.
  abbrev pub total_ex : ℕ → List Mark → Exs → List Dom → List Shape → Exs → Repr → Dom → Ex → Ex → Ex
  total_ex l ms es as' ss is r c e part =
      and_ex (each_ex q l as' part) (and_ex (size_ex ms es (place_count_ex q l as')) (keys_ex (value_key_ex l as' ss is r c e) ms))

  -- What an attribute without a number asks of a function to c with flags, whose view is e: `total`, that each flag is true.
  abbrev pub flag_key_ex : ℕ → List Dom → Text → Exs → Dom → Ex → Key → Ex
  flag_key_ex l as' n is c e = with_total (each_ex q l as' (cell_ex true n (row_index q l as' is))) (pair_key_ex q l c e)

  -- A flag and a value at each place: where the flag is true the value is canonical (part), elsewhere its cells are 0 or false. Its
  -- view e has the attributes without a number.
  abbrev pub partial_ex : ℕ → List Mark → Exs → List Dom → Text → Exs → List Shape → Dom → Ex → Ex → Ex
  partial_ex l ms es as' n is ss c e part =
      let flag : Ex = cell_ex true n (row_index q l as' is) in
      and_ex
      (each_ex q l as' (and_ex (implies_ex flag part) (implies_ex (ex1 true Op1.Not flag)
      (zeros_ex q (level_behind l as') ss (row_index q l as' is)))))
      (and_ex (size_ex ms es (true_count_ex q l as' n is)) (keys_ex (flag_key_ex l as' n is c e) ms))
