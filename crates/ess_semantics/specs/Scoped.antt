-- Trees in which no bound name hides another one, and in which a view's index list is of numbers and of names bound over
-- domains. Each rule that rewrites a tree keeps it so. Judged statements are so as they are read; with lettings put in a
-- bound name may hide another one, so bound names are told apart before trees are rewritten.
use Rattle.std.specs.Prelude.{Bool, true, false, ◌||◌, not, IsTrue}
use Rattle.ess_semantics.specs.Values.{Text}
use Rattle.ess_semantics.specs.Order.{same_text}
use Rattle.ess_semantics.specs.Trees.{Pat, Pats, name_pat, tuple_pat, no_pats, more_pats, Ex, Exs, number_ex, truth_ex, name_ex, node_ex, matrix_ex, comp_ex, cell_ex, seen_ex, no_exs, more_exs, Gens, no_gens, over, from, cond, Dom, Doms, bool_dom, int_dom, name_dom, tuple_dom, record_dom, matrix_dom, set_dom, mset_dom, function_dom, relation_dom, partition_dom, no_doms, more_doms}
use Rattle.ess_semantics.specs.Substitution.{NamesAreDom}

abbrev mutual
  -- Whether the pattern binds the name.
  pub is_bound : Pat → Text → Bool
  is_bound (name_pat b) a = same_text b a
  is_bound (tuple_pat ps) a = is_bound_by_some ps a

  -- Whether one of the patterns binds the name.
  pub is_bound_by_some : Pats → Text → Bool
  is_bound_by_some no_pats a = false
  is_bound_by_some (more_pats p ps) a = is_bound p a || is_bound_by_some ps a

abbrev mutual
  -- The pattern binds no name of s.
  pub BindsNew : (Text → Bool) → Pat → Type 0
  BindsNew s (name_pat a) = IsTrue (not (s a))
  BindsNew s (tuple_pat ps) = AllBindNew s ps

  -- The same of several patterns.
  pub AllBindNew : (Text → Bool) → Pats → Type 0
  AllBindNew s no_pats = Unit {0}
  AllBindNew s (more_pats p ps) = BindsNew s p × AllBindNew s ps

-- The names with those that a pattern binds.
abbrev pub with_names : (Text → Bool) → Pat → Text → Bool
with_names s p a = s a || is_bound p a

-- An index list of numbers and of these names.
abbrev pub IsPlainIndex : (Text → Bool) → Exs → Type 0
IsPlainIndex o no_exs = Unit {0}
IsPlainIndex o (more_exs (number_ex n) es) = IsPlainIndex o es
IsPlainIndex o (more_exs (name_ex a) es) = IsTrue (o a) × IsPlainIndex o es
IsPlainIndex o (more_exs e es) = ⊥

-- z are the names that the domains of declarations may use, s the names in scope, and o those of them that are bound over
-- domains.
module _ (z : Text → Bool) where
  abbrev mutual
    -- Each name of the expression is in scope, and none is bound that is in scope already.
    pub Scoped : (Text → Bool) → (Text → Bool) → Ex → Type 0
    Scoped s o (number_ex n) = Unit {0}
    Scoped s o (truth_ex b) = Unit {0}
    Scoped s o (name_ex a) = IsTrue (s a)
    Scoped s o (node_ex b op es) = ScopedExs s o es
    Scoped s o (matrix_ex es d) = ScopedExs s o es × ScopedDom s o d
    Scoped s o (comp_ex e gs) = ScopedGens s o gs (λ t p. Scoped t p e)
    Scoped s o (cell_ex b n es) = ScopedExs s o es
    Scoped s o (seen_ex r d ns es) = NamesAreDom z (λ a. true) d × IsPlainIndex o es

    -- The same of several expressions.
    pub ScopedExs : (Text → Bool) → (Text → Bool) → Exs → Type 0
    ScopedExs s o no_exs = Unit {0}
    ScopedExs s o (more_exs e es) = Scoped s o e × ScopedExs s o es

    -- The same of generators, and K of the names in scope behind them.
    pub ScopedGens : (Text → Bool) → (Text → Bool) → Gens → ((Text → Bool) → (Text → Bool) → Type 0) → Type 0
    ScopedGens s o no_gens K = K s o
    ScopedGens s o (over p d gs) K = BindsNew s p × ScopedDom s o d × ScopedGens (with_names s p) (with_names o p) gs K
    ScopedGens s o (from p e gs) K = BindsNew s p × Scoped s o e × ScopedGens (with_names s p) o gs K
    ScopedGens s o (cond e gs) K = Scoped s o e × ScopedGens s o gs K

    -- The same of a domain.
    pub ScopedDom : (Text → Bool) → (Text → Bool) → Dom → Type 0
    ScopedDom s o bool_dom = Unit {0}
    ScopedDom s o (int_dom rs es) = ScopedExs s o es
    ScopedDom s o (name_dom a) = Unit {0}
    ScopedDom s o (tuple_dom ds) = ScopedDoms s o ds
    ScopedDom s o (record_dom fs ds) = ScopedDoms s o ds
    ScopedDom s o (matrix_dom is d) = ScopedDoms s o is × ScopedDom s o d
    ScopedDom s o (set_dom ms es d) = ScopedExs s o es × ScopedDom s o d
    ScopedDom s o (mset_dom ms es d) = ScopedExs s o es × ScopedDom s o d
    ScopedDom s o (function_dom ms es d c) = ScopedExs s o es × ScopedDom s o d × ScopedDom s o c
    ScopedDom s o (relation_dom ms es ds) = ScopedExs s o es × ScopedDoms s o ds
    ScopedDom s o (partition_dom ms es d) = ScopedExs s o es × ScopedDom s o d

    -- The same of several domains.
    pub ScopedDoms : (Text → Bool) → (Text → Bool) → Doms → Type 0
    ScopedDoms s o no_doms = Unit {0}
    ScopedDoms s o (more_doms d ds) = ScopedDom s o d × ScopedDoms s o ds
