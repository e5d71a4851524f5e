-- Expressions put in for names, with no renaming: the bound names of a tree are told apart beforehand. And which names a
-- tree uses and binds.
use Rattle.std.specs.Prelude.{Bool, if◌then◌else◌, IsTrue}
use Rattle.ess_semantics.specs.Values.{Text}
use Rattle.ess_semantics.specs.Order.{same_text}
use Rattle.ess_semantics.specs.Trees.{Pat, Pats, name_pat, tuple_pat, no_pats, more_pats, Ex, Exs, number_ex, truth_ex, name_ex, node_ex, matrix_ex, comp_ex, cell_ex, seen_ex, no_exs, more_exs, Gens, no_gens, over, from, cond, Dom, Doms, bool_dom, int_dom, name_dom, tuple_dom, record_dom, matrix_dom, set_dom, mset_dom, function_dom, relation_dom, partition_dom, no_doms, more_doms}

abbrev mutual
  -- The tree with f of each name in the place of the name.
  pub substitute : (Text → Ex) → Ex → Ex
  substitute f (number_ex n) = number_ex n
  substitute f (truth_ex b) = truth_ex b
  substitute f (name_ex a) = f a
  substitute f (node_ex b op es) = node_ex b op (substitute_exs f es)
  substitute f (matrix_ex es d) = matrix_ex (substitute_exs f es) (substitute_dom f d)
  substitute f (comp_ex e gs) = comp_ex (substitute f e) (substitute_gens f gs)
  substitute f (cell_ex b n es) = cell_ex b n (substitute_exs f es)
  substitute f (seen_ex r d ns es) = seen_ex r (substitute_dom f d) ns (substitute_exs f es)

  -- The same of several expressions.
  pub substitute_exs : (Text → Ex) → Exs → Exs
  substitute_exs f no_exs = no_exs
  substitute_exs f (more_exs e es) = more_exs (substitute f e) (substitute_exs f es)

  -- The same of generators.
  pub substitute_gens : (Text → Ex) → Gens → Gens
  substitute_gens f no_gens = no_gens
  substitute_gens f (over p d gs) = over p (substitute_dom f d) (substitute_gens f gs)
  substitute_gens f (from p e gs) = from p (substitute f e) (substitute_gens f gs)
  substitute_gens f (cond e gs) = cond (substitute f e) (substitute_gens f gs)

  -- The same of a domain.
  pub substitute_dom : (Text → Ex) → Dom → Dom
  substitute_dom f bool_dom = bool_dom
  substitute_dom f (int_dom rs es) = int_dom rs (substitute_exs f es)
  substitute_dom f (name_dom a) = name_dom a
  substitute_dom f (tuple_dom ds) = tuple_dom (substitute_doms f ds)
  substitute_dom f (record_dom fs ds) = record_dom fs (substitute_doms f ds)
  substitute_dom f (matrix_dom is d) = matrix_dom (substitute_doms f is) (substitute_dom f d)
  substitute_dom f (set_dom ms es d) = set_dom ms (substitute_exs f es) (substitute_dom f d)
  substitute_dom f (mset_dom ms es d) = mset_dom ms (substitute_exs f es) (substitute_dom f d)
  substitute_dom f (function_dom ms es d c) = function_dom ms (substitute_exs f es) (substitute_dom f d) (substitute_dom f c)
  substitute_dom f (relation_dom ms es ds) = relation_dom ms (substitute_exs f es) (substitute_doms f ds)
  substitute_dom f (partition_dom ms es d) = partition_dom ms (substitute_exs f es) (substitute_dom f d)

  -- The same of several domains.
  pub substitute_doms : (Text → Ex) → Doms → Doms
  substitute_doms f no_doms = no_doms
  substitute_doms f (more_doms d ds) = more_doms (substitute_dom f d) (substitute_doms f ds)

-- e for the name x, each other name for itself.
abbrev pub for_name : Text → Ex → Text → Ex
for_name x e a = if same_text x a then e else name_ex a

-- ---- used and bound names

abbrev mutual
  -- Each name that the pattern binds has the property.
  pub Binds : (Text → Bool) → Pat → Type 0
  Binds b (name_pat a) = IsTrue (b a)
  Binds b (tuple_pat ps) = BindsAll b ps

  -- The same of several patterns.
  pub BindsAll : (Text → Bool) → Pats → Type 0
  BindsAll b no_pats = Unit {0}
  BindsAll b (more_pats p ps) = Binds b p × BindsAll b ps

abbrev mutual
  -- Each name that the expression uses has the property u, and each that it binds the property b.
  pub NamesAre : (Text → Bool) → (Text → Bool) → Ex → Type 0
  NamesAre u b (number_ex n) = Unit {0}
  NamesAre u b (truth_ex t) = Unit {0}
  NamesAre u b (name_ex a) = IsTrue (u a)
  NamesAre u b (node_ex t op es) = NamesAreExs u b es
  NamesAre u b (matrix_ex es d) = NamesAreExs u b es × NamesAreDom u b d
  NamesAre u b (comp_ex e gs) = NamesAre u b e × NamesAreGens u b gs
  NamesAre u b (cell_ex t n es) = NamesAreExs u b es
  NamesAre u b (seen_ex r d ns es) = NamesAreDom u b d × NamesAreExs u b es

  -- The same of several expressions.
  pub NamesAreExs : (Text → Bool) → (Text → Bool) → Exs → Type 0
  NamesAreExs u b no_exs = Unit {0}
  NamesAreExs u b (more_exs e es) = NamesAre u b e × NamesAreExs u b es

  -- The same of generators.
  pub NamesAreGens : (Text → Bool) → (Text → Bool) → Gens → Type 0
  NamesAreGens u b no_gens = Unit {0}
  NamesAreGens u b (over p d gs) = Binds b p × NamesAreDom u b d × NamesAreGens u b gs
  NamesAreGens u b (from p e gs) = Binds b p × NamesAre u b e × NamesAreGens u b gs
  NamesAreGens u b (cond e gs) = NamesAre u b e × NamesAreGens u b gs

  -- The same of a domain. The name of a type isn't used in this sense.
  pub NamesAreDom : (Text → Bool) → (Text → Bool) → Dom → Type 0
  NamesAreDom u b bool_dom = Unit {0}
  NamesAreDom u b (int_dom rs es) = NamesAreExs u b es
  NamesAreDom u b (name_dom a) = Unit {0}
  NamesAreDom u b (tuple_dom ds) = NamesAreDoms u b ds
  NamesAreDom u b (record_dom fs ds) = NamesAreDoms u b ds
  NamesAreDom u b (matrix_dom is d) = NamesAreDoms u b is × NamesAreDom u b d
  NamesAreDom u b (set_dom ms es d) = NamesAreExs u b es × NamesAreDom u b d
  NamesAreDom u b (mset_dom ms es d) = NamesAreExs u b es × NamesAreDom u b d
  NamesAreDom u b (function_dom ms es d c) = NamesAreExs u b es × NamesAreDom u b d × NamesAreDom u b c
  NamesAreDom u b (relation_dom ms es ds) = NamesAreExs u b es × NamesAreDoms u b ds
  NamesAreDom u b (partition_dom ms es d) = NamesAreExs u b es × NamesAreDom u b d

  -- The same of several domains.
  pub NamesAreDoms : (Text → Bool) → (Text → Bool) → Doms → Type 0
  NamesAreDoms u b no_doms = Unit {0}
  NamesAreDoms u b (more_doms d ds) = NamesAreDom u b d × NamesAreDoms u b ds
