-- Printed names of bound ones: that of a binder under d others is the (d + 1)-th of q1, q2, .. that isn't taken. So names are few, and
-- siblings share them.
use Rattle.std.specs.Prelude.{ℕ, zero, suc, ◌+◌, not, List, [], ◌∷◌, ◌++◌, length, filter, codes, decimal}
use Rattle.ess_semantics.specs.Lists.{or_default, item_number}
use Rattle.ess_semantics.specs.Values.{Text}
use Rattle.ess_semantics.specs.Names.{Names, is_among}
use Rattle.ess_semantics.specs.Trees.{name_pat, Ex, Exs, number_ex, truth_ex, name_ex, node_ex, matrix_ex, comp_ex, cell_ex, seen_ex, no_exs, more_exs, Gens, no_gens, over, from, cond, Dom, int_dom}
use Rattle.conjure_model_laws.specs.ToldApart.{renamed}

-- So many of the names q1, q2, .., from the k-th on.
abbrev pub q_names : ℕ → ℕ → List Text
q_names k zero = []
q_names k (suc n) = (codes "q" ++ decimal k) ∷ q_names (suc k) n

-- The printed name of a binder under d others.
abbrev pub printed_name : List Text → ℕ → Text
printed_name taken d = or_default (item_number (filter (λ a. not (is_among taken a)) (q_names 1 (suc d + length taken))) d) []

module _ (taken : List Text) where
  -- The names with the printed name of one more.
  abbrev pub with_printed : Text → Names Text → Names Text
  with_printed a r = (a, printed_name taken (length r)) ∷ r

  -- The names behind generators.
  abbrev pub printed_behind : Gens → Names Text → Names Text
  printed_behind no_gens r = r
  printed_behind (over (name_pat a) d gs) r = printed_behind gs (with_printed a r)
  printed_behind (over p d gs) r = printed_behind gs r
  printed_behind (from p e gs) r = printed_behind gs r
  printed_behind (cond e gs) r = printed_behind gs r

  abbrev mutual
    -- A refined tree with printed names, where r are those of the names that are bound around it.
    pub printed : Ex → Names Text → Ex
    printed (number_ex n) r = number_ex n
    printed (truth_ex b) r = truth_ex b
    printed (name_ex a) r = name_ex (renamed r a)
    printed (node_ex b op es) r = node_ex b op (printed_all es r)
    printed (matrix_ex es d) r = matrix_ex (printed_all es r) d
    printed (comp_ex e gs) r = comp_ex (printed e (printed_behind gs r)) (printed_gens gs r)
    printed (cell_ex b n es) r = cell_ex b n (printed_all es r)
    printed (seen_ex s d ns es) r = seen_ex s d ns es

    -- The same of operands.
    pub printed_all : Exs → Names Text → Exs
    printed_all no_exs r = no_exs
    printed_all (more_exs e es) r = more_exs (printed e r) (printed_all es r)

    -- The same of generators. Those of refined trees bind single names over ranges.
    pub printed_gens : Gens → Names Text → Gens
    printed_gens no_gens r = no_gens
    printed_gens (over (name_pat a) d gs) r =
        over (name_pat (printed_name taken (length r))) (printed_dom d r) (printed_gens gs (with_printed a r))
    printed_gens (over p d gs) r = over p (printed_dom d r) (printed_gens gs r)
    printed_gens (from p e gs) r = from p (printed e r) (printed_gens gs r)
    printed_gens (cond e gs) r = cond (printed e r) (printed_gens gs r)

    -- The same of a range.
    pub printed_dom : Dom → Names Text → Dom
    printed_dom (int_dom rs es) r = int_dom rs (printed_all es r)
    printed_dom d r = d

abbrev mutual
  -- How many generators of a refined tree bind a name.
  pub binders : Ex → ℕ
  binders (number_ex n) = 0
  binders (truth_ex b) = 0
  binders (name_ex a) = 0
  binders (node_ex b op es) = binders_of_all es
  binders (matrix_ex es d) = binders_of_all es
  binders (comp_ex e gs) = binders_of_gens gs + binders e
  binders (cell_ex b n es) = binders_of_all es
  binders (seen_ex s d ns es) = 0

  -- The same of operands.
  pub binders_of_all : Exs → ℕ
  binders_of_all no_exs = 0
  binders_of_all (more_exs e es) = binders e + binders_of_all es

  -- The same of generators.
  pub binders_of_gens : Gens → ℕ
  binders_of_gens no_gens = 0
  binders_of_gens (over p d gs) = suc (binders_of_dom d + binders_of_gens gs)
  binders_of_gens (from p e gs) = suc (binders e + binders_of_gens gs)
  binders_of_gens (cond e gs) = binders e + binders_of_gens gs

  -- The same of a range.
  pub binders_of_dom : Dom → ℕ
  binders_of_dom (int_dom rs es) = binders_of_all es
  binders_of_dom d = 0
