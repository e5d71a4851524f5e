-- Bound names told apart: each becomes a reserved name of its own. A reserved name begins with `#`, as no name of a text does.
use Rattle.std.specs.Prelude.{ℕ, suc, Bool, true, not, [], ◌∷◌, ◌++◌, codes, decimal, nat_eq}
use Rattle.ess_semantics.specs.Lists.{or_default}
use Rattle.ess_semantics.specs.Values.{Text}
use Rattle.ess_semantics.specs.Names.{Names, look}
use Rattle.ess_semantics.specs.Trees.{Pat, Pats, name_pat, tuple_pat, no_pats, more_pats, Ex, Exs, number_ex, truth_ex, name_ex, node_ex, matrix_ex, comp_ex, cell_ex, seen_ex, no_exs, more_exs, Gens, no_gens, over, from, cond, Dom, Doms, bool_dom, int_dom, name_dom, tuple_dom, record_dom, matrix_dom, set_dom, mset_dom, function_dom, relation_dom, partition_dom, no_doms, more_doms}

-- The reserved name with this number.
abbrev pub reserved : ℕ → Text
reserved k = codes "#" ++ decimal k

-- Whether a name begins otherwise than the reserved ones, as each name of a specification does.
abbrev pub is_unreserved : Text → Bool
is_unreserved [] = true
is_unreserved (c ∷ cs) = not (nat_eq c 35)

-- What a name has become, where it is bound, else the name.
abbrev pub renamed : Names Text → Text → Text
renamed r a = or_default (look r a) a

abbrev mutual
  -- A pattern with reserved names from the k-th on, the names with what these have become, and the next number.
  pub told_pat : Pat → Names Text → ℕ → Pat × Names Text × ℕ
  told_pat (name_pat a) r k = (name_pat (reserved k), (a, reserved k) ∷ r, suc k)
  told_pat (tuple_pat ps) r k = let q : Pats × Names Text × ℕ = told_pats ps r k in (tuple_pat q.0, q.1, q.2)

  -- The same of several patterns.
  pub told_pats : Pats → Names Text → ℕ → Pats × Names Text × ℕ
  told_pats no_pats r k = (no_pats, r, k)
  told_pats (more_pats p ps) r k =
      let q : Pat × Names Text × ℕ = told_pat p r k in
      let u : Pats × Names Text × ℕ = told_pats ps q.1 q.2 in
      (more_pats q.0 u.0, u.1, u.2)

abbrev mutual
  -- The tree with reserved names from the k-th on in the place of its bound names, where names bound around it have become others; and
  -- the next number.
  pub told : Ex → Names Text → ℕ → Ex × ℕ
  told (number_ex n) r k = (number_ex n, k)
  told (truth_ex b) r k = (truth_ex b, k)
  told (name_ex a) r k = (name_ex (renamed r a), k)
  told (node_ex b op es) r k = let q : Exs × ℕ = told_all es r k in (node_ex b op q.0, q.1)
  told (matrix_ex es d) r k =
      let q : Exs × ℕ = told_all es r k in
      let u : Dom × ℕ = told_dom d r q.1 in
      (matrix_ex q.0 u.0, u.1)
  told (comp_ex e gs) r k =
      let q : Gens × Names Text × ℕ = told_gens gs r k in
      let u : Ex × ℕ = told e q.1 q.2 in
      (comp_ex u.0 q.0, u.1)
  told (cell_ex b n es) r k = let q : Exs × ℕ = told_all es r k in (cell_ex b n q.0, q.1)
  told (seen_ex s d ns es) r k = let q : Exs × ℕ = told_all es r k in (seen_ex s d ns q.0, q.1)

  -- The same of operands.
  pub told_all : Exs → Names Text → ℕ → Exs × ℕ
  told_all no_exs r k = (no_exs, k)
  told_all (more_exs e es) r k =
      let q : Ex × ℕ = told e r k in
      let u : Exs × ℕ = told_all es r q.1 in
      (more_exs q.0 u.0, u.1)

  -- The same of generators, with what the names behind them have become.
  pub told_gens : Gens → Names Text → ℕ → Gens × Names Text × ℕ
  told_gens no_gens r k = (no_gens, r, k)
  told_gens (over p d gs) r k =
      let c : Dom × ℕ = told_dom d r k in
      let q : Pat × Names Text × ℕ = told_pat p r c.1 in
      let u : Gens × Names Text × ℕ = told_gens gs q.1 q.2 in
      (over q.0 c.0 u.0, u.1, u.2)
  told_gens (from p e gs) r k =
      let c : Ex × ℕ = told e r k in
      let q : Pat × Names Text × ℕ = told_pat p r c.1 in
      let u : Gens × Names Text × ℕ = told_gens gs q.1 q.2 in
      (from q.0 c.0 u.0, u.1, u.2)
  told_gens (cond e gs) r k =
      let c : Ex × ℕ = told e r k in
      let u : Gens × Names Text × ℕ = told_gens gs r c.1 in
      (cond c.0 u.0, u.1, u.2)

  -- The same of a domain.
  pub told_dom : Dom → Names Text → ℕ → Dom × ℕ
  told_dom bool_dom r k = (bool_dom, k)
  told_dom (int_dom rs es) r k = let q : Exs × ℕ = told_all es r k in (int_dom rs q.0, q.1)
  told_dom (name_dom a) r k = (name_dom a, k)
  told_dom (tuple_dom ds) r k = let q : Doms × ℕ = told_doms ds r k in (tuple_dom q.0, q.1)
  told_dom (record_dom fs ds) r k = let q : Doms × ℕ = told_doms ds r k in (record_dom fs q.0, q.1)
  told_dom (matrix_dom is d) r k =
      let q : Doms × ℕ = told_doms is r k in
      let u : Dom × ℕ = told_dom d r q.1 in
      (matrix_dom q.0 u.0, u.1)
  told_dom (set_dom ms es d) r k =
      let q : Exs × ℕ = told_all es r k in
      let u : Dom × ℕ = told_dom d r q.1 in
      (set_dom ms q.0 u.0, u.1)
  told_dom (mset_dom ms es d) r k =
      let q : Exs × ℕ = told_all es r k in
      let u : Dom × ℕ = told_dom d r q.1 in
      (mset_dom ms q.0 u.0, u.1)
  told_dom (function_dom ms es d c) r k =
      let q : Exs × ℕ = told_all es r k in
      let u : Dom × ℕ = told_dom d r q.1 in
      let v : Dom × ℕ = told_dom c r u.1 in
      (function_dom ms q.0 u.0 v.0, v.1)
  told_dom (relation_dom ms es ds) r k =
      let q : Exs × ℕ = told_all es r k in
      let u : Doms × ℕ = told_doms ds r q.1 in
      (relation_dom ms q.0 u.0, u.1)
  told_dom (partition_dom ms es d) r k =
      let q : Exs × ℕ = told_all es r k in
      let u : Dom × ℕ = told_dom d r q.1 in
      (partition_dom ms q.0 u.0, u.1)

  -- The same of several domains.
  pub told_doms : Doms → Names Text → ℕ → Doms × ℕ
  told_doms no_doms r k = (no_doms, k)
  told_doms (more_doms d ds) r k =
      let q : Dom × ℕ = told_dom d r k in
      let u : Doms × ℕ = told_doms ds r q.1 in
      (more_doms q.0 u.0, u.1)

-- The tree with its bound names told apart. The reserved names before the k-th are kept for others.
abbrev pub told_apart : ℕ → Ex → Ex
told_apart k e = (told e [] k).0
