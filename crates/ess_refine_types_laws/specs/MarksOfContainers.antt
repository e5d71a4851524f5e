-- Rules of membership, inclusion and equality that keep marks at the root: each node that they make has a type and the right mark.
use Rattle.std.specs.Prelude.{◌≡◌, Bool, true, false, not, ◌∷◌, Some, IsTrue}
use Rattle.ess_semantics.specs.Values.{Text}
use Rattle.ess_semantics.specs.Order.{same_text}
use Rattle.ess_semantics.specs.Names.{Names}
use Rattle.ess_semantics.specs.Trees.{Ex, Exs, number_ex, truth_ex, name_ex, node_ex, matrix_ex, comp_ex, cell_ex, seen_ex, no_exs, more_exs, Gens, no_gens, over, from, cond, Dom, Doms, bool_dom, int_dom, name_dom, tuple_dom, record_dom, matrix_dom, set_dom, mset_dom, function_dom, relation_dom, partition_dom, no_doms, more_doms}
use Rattle.ess_semantics.specs.Types.{Ty}
use Rattle.ess_refine_laws.specs.AllRules.{Rule, included_sets, equal_sets, in_two, in_one_made_of_another, in_its_pairs, in_a_term, Supply, rewrite}
use Rattle.ess_refine_laws.specs.MarksStay.{HasMarks}
use Rattle.ess_refine_types_laws.specs.TypesOfContainers.{MembersTold}

-- Each name that the tree uses and each table of its cells has the property u, those in domains included.
abbrev mutual
  pub UsesNames : (Text → Bool) → Ex → Type 0
  UsesNames u (number_ex n) = Unit {0}
  UsesNames u (truth_ex b) = Unit {0}
  UsesNames u (name_ex a) = IsTrue (u a)
  UsesNames u (node_ex b op es) = AllUseNames u es
  UsesNames u (matrix_ex es d) = AllUseNames u es × DomUsesNames u d
  UsesNames u (comp_ex e gs) = UsesNames u e × GensUseNames u gs
  UsesNames u (cell_ex b n es) = IsTrue (u n) × AllUseNames u es
  UsesNames u (seen_ex r d ns es) = DomUsesNames u d × AllUseNames u es

  -- The same of operands.
  pub AllUseNames : (Text → Bool) → Exs → Type 0
  AllUseNames u no_exs = Unit {0}
  AllUseNames u (more_exs e es) = UsesNames u e × AllUseNames u es

  -- The same of generators.
  pub GensUseNames : (Text → Bool) → Gens → Type 0
  GensUseNames u no_gens = Unit {0}
  GensUseNames u (over p d gs) = DomUsesNames u d × GensUseNames u gs
  GensUseNames u (from p e gs) = UsesNames u e × GensUseNames u gs
  GensUseNames u (cond e gs) = UsesNames u e × GensUseNames u gs

  -- The same of a domain.
  pub DomUsesNames : (Text → Bool) → Dom → Type 0
  DomUsesNames u bool_dom = Unit {0}
  DomUsesNames u (int_dom rs es) = AllUseNames u es
  DomUsesNames u (name_dom a) = Unit {0}
  DomUsesNames u (tuple_dom ds) = DomsUseNames u ds
  DomUsesNames u (record_dom fs ds) = DomsUseNames u ds
  DomUsesNames u (matrix_dom is d) = DomsUseNames u is × DomUsesNames u d
  DomUsesNames u (set_dom ms es d) = AllUseNames u es × DomUsesNames u d
  DomUsesNames u (mset_dom ms es d) = AllUseNames u es × DomUsesNames u d
  DomUsesNames u (function_dom ms es d c) = AllUseNames u es × DomUsesNames u d × DomUsesNames u c
  DomUsesNames u (relation_dom ms es ds) = AllUseNames u es × DomsUseNames u ds
  DomUsesNames u (partition_dom ms es d) = AllUseNames u es × DomUsesNames u d

  -- The same of several domains.
  pub DomsUseNames : (Text → Bool) → Doms → Type 0
  DomsUseNames u no_doms = Unit {0}
  DomsUseNames u (more_doms d ds) = DomUsesNames u d × DomsUseNames u ds

-- The tree neither uses the name nor has a table of this name.
abbrev pub IsNewTo : Text → Ex → Type 0
IsNewTo x e = UsesNames (λ a. not (same_text x a)) e

-- Rules that are shown to keep marks.
abbrev pub keeps_marks : Rule → Bool
keeps_marks included_sets = true
keeps_marks equal_sets = true
keeps_marks in_two = true
keeps_marks in_one_made_of_another = true
keeps_marks in_its_pairs = true
keeps_marks in_a_term = true
keeps_marks r = false

-- So each of them keeps marks where it fires and the name that it binds is new; and a new name changes no marks.
pub record ContainerRulesKeepMarks : Type 0 where
  pub by_each_rule : (s : Supply) (g : Names Ty) (r : Rule) (e f : Ex) → rewrite s g r e ≡ Some f → keeps_marks r ≡ true →
      IsNewTo s.one e → MembersTold g r e → HasMarks e g → HasMarks f g
  pub behind_a_new_name : (x : Text) (t : Ty) (e : Ex) (g : Names Ty) → IsNewTo x e → HasMarks e g → HasMarks e ((x, t) ∷ g)
