-- Children of a representation that are left out: where a kind has none, each of its children takes its default.
use Rattle.std.specs.Prelude.{List, [], ◌∷◌, map}
use Rattle.ess_semantics.specs.Trees.{Repr, Reprs, repr, no_reprs, more_reprs, Dom}
use Rattle.ess_semantics.specs.Choice.{reprs_of, default_repr}
use Rattle.ess_repr_declare_laws.specs.ChildDomains.{child_doms}

-- The default of each domain.
abbrev pub defaults : List Dom → Reprs
defaults ds = reprs_of (map default_repr ds)

abbrev mutual
  -- The representation of a domain with the children that are left out.
  pub filled : Repr → Dom → Repr
  filled (repr k rs) d = repr k (children_filled rs (child_doms k d))

  -- The children that are given, or the defaults where none is.
  pub children_filled : Reprs → List Dom → Reprs
  children_filled no_reprs ds = defaults ds
  children_filled (more_reprs r rs) [] = more_reprs r rs
  children_filled (more_reprs r rs) (d ∷ ds) = more_reprs (filled r d) (all_filled rs ds)

  -- Each child filled at the domain beside it, as far as there are any.
  pub all_filled : Reprs → List Dom → Reprs
  all_filled no_reprs ds = no_reprs
  all_filled (more_reprs r rs) [] = more_reprs r rs
  all_filled (more_reprs r rs) (d ∷ ds) = more_reprs (filled r d) (all_filled rs ds)
