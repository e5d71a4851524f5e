-- The rules of rewriting that fire in trees over views of sets: all others fire at none of their parts.
use Rattle.std.specs.Prelude.{◌≡◌, Bool, true, false}
use Rattle.ess_semantics.specs.declared.words.Op2.{Op2}
use Rattle.ess_semantics.specs.Names.{Names}
use Rattle.ess_semantics.specs.Trees.{Ex, ex2}
use Rattle.ess_semantics.specs.Types.{Ty}
use Rattle.ess_semantics.specs.Typing.{type_of}
use Rattle.ess_rules_laws.specs.InclusionRules.{both_sets}
use Rattle.ess_refine_laws.specs.AllRules.{Rule, over_one, over_one_binding, over_a_condition, over_a_source, of_one_source, not_equal, turned, strictly, equal_sets, included_sets, in_two, in_a_term, included_multisets, size, choice, condition}
use Rattle.ess_bare_laws.specs.ess_kind_rules_laws.KindRules.{KindRule, cell_of_an_atom, over_a_view, of_one_view, member_at_a_cell, size_at_the_marker, size_of_slots}
use Rattle.ess_bare_laws.specs.ess_open_rules_laws.OpenRules.{OpenRule, over_one_source, fold_of_folds, KindRuling, of_kind, of_opening}

-- Of those that read no kind: folds over one item, over no generators, over a condition alone, and over a set that is made of two; signs
-- between sets; `in` of a set that is made of two and of a term; `|..|` of a term; numbers that conditions choose, and a condition that
-- leaves.
abbrev pub may_fire : Rule → Bool
may_fire over_one = true
may_fire over_one_binding = true
may_fire over_a_condition = true
may_fire over_a_source = true
may_fire of_one_source = true
may_fire not_equal = true
may_fire turned = true
may_fire strictly = true
may_fire equal_sets = true
may_fire included_sets = true
may_fire in_two = true
may_fire in_a_term = true
may_fire size = true
may_fire choice = true
may_fire condition = true
may_fire u = false

-- Of those that read the kind of a view: cells of atoms, folds over a view, and short forms of `in` and of `|..|`.
abbrev pub may_fire_at_views : KindRule → Bool
may_fire_at_views cell_of_an_atom = true
may_fire_at_views over_a_view = true
may_fire_at_views of_one_view = true
may_fire_at_views member_at_a_cell = true
may_fire_at_views size_at_the_marker = true
may_fire_at_views size_of_slots = true
may_fire_at_views u = false

-- Of those at the first generator that isn't plain: of a fold over a source with one alternative, and that of a fold of folds.
abbrev pub may_fire_at_sources : OpenRule → Bool
may_fire_at_sources over_one_source = true
may_fire_at_sources fold_of_folds = true
may_fire_at_sources u = false

-- Of both sorts.
abbrev pub may_fire_by_kind : KindRuling → Bool
may_fire_by_kind (of_kind u) = may_fire_at_views u
may_fire_by_kind (of_opening u) = may_fire_at_sources u

-- The rule of inclusion that counts how often members are there, between two sets or relations. There it isn't used.
pub record CountsMembers (g : Names Ty) (u : Rule) (e : Ex) : Type 0 where
  pub counts : u ≡ included_multisets
  pub first : Ex
  pub second : Ex
  pub root : e ≡ ex2 true Op2.SubsetEq first second
  pub sets : both_sets (type_of first g) (type_of second g) ≡ true
