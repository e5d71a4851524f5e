-- The constraint that the cells of a relation as a matrix are canonical, and what attributes without a number ask of the pairs that a
-- view of a relation has.
use Rattle.std.specs.Prelude.{ℕ, suc, true, false, List, []}
use Rattle.ess_semantics.specs.declared.words.Fun.{Fun}
use Rattle.ess_semantics.specs.declared.words.Key.{Key}
use Rattle.ess_semantics.specs.declared.words.Op1.{Op1}
use Rattle.ess_semantics.specs.declared.words.Op2.{Op2}
use Rattle.ess_semantics.specs.Values.{Text}
use Rattle.ess_semantics.specs.Trees.{Mark, Ex, Exs, no_exs, more_exs, Dom, Doms, no_doms, more_doms, relation_dom, truth_ex, name_ex, comp_ex, node_ex, tuple_literal, no_gens, over, name_pat, ex1, ex2, fun1}
use Rattle.ess_repr_laws.specs.StructureParts.{and_ex, or_ex, implies_ex, keys_ex, size_ex, true_count_ex}
use Rattle.ess_repr_laws.specs.ViewParts.{component_ex, every_item_ex}

-- The relation e has the pair of a and b.
abbrev pub has_pair_ex : Ex → Ex → Ex → Ex
has_pair_ex e a b = ex2 true Op2.Member (node_ex false tuple_literal (more_exs a (more_exs b no_exs))) e

-- The domain of relations over these components of which nothing is asked.
abbrev pub bare_relation_dom : Doms → Dom
bare_relation_dom ds = relation_dom [] no_exs ds

module _ (q : ℕ → Text) where
  -- Both parts of the pair that q l is, as the domains d and c.
  abbrev pub first_ex : ℕ → Dom → Ex
  first_ex l d = component_ex d 1 (name_ex (q l))

  abbrev pub second_ex : ℕ → Dom → Ex
  second_ex l c = component_ex c 2 (name_ex (q l))

  -- The relation has the pair that q l is turned round.
  abbrev pub turned_ex : ℕ → Dom → Dom → Ex → Ex
  turned_ex l d c e = has_pair_ex e (second_ex l c) (first_ex l d)

  -- Both parts are the same.
  abbrev pub parts_same_ex : ℕ → Dom → Dom → Ex
  parts_same_ex l d c = ex2 true Op2.Eq (first_ex l d) (second_ex l c)

  -- Where the pair that q l is ends where the pair behind it begins, the relation leads from the one to the other end.
  abbrev pub linked_ex : ℕ → Dom → Dom → Ex → Ex
  linked_ex l d c e =
      implies_ex (ex2 true Op2.Eq (second_ex l c) (first_ex (suc l) d)) (has_pair_ex e (first_ex l d) (second_ex (suc l) c))

  -- What an attribute without a number asks of the relation between d and c whose pairs e has.
  abbrev pub pair_relation_key_ex : ℕ → Dom → Dom → Ex → Key → Ex
  pair_relation_key_ex l d c e Key.Reflexive =
      fun1 true Fun.And (comp_ex (has_pair_ex e (name_ex (q l)) (name_ex (q l))) (over (name_pat (q l)) d no_gens))
  pair_relation_key_ex l d c e Key.Irreflexive = every_item_ex q l e (ex1 true Op1.Not (parts_same_ex l d c))
  pair_relation_key_ex l d c e Key.Symmetric = every_item_ex q l e (turned_ex l d c e)
  pair_relation_key_ex l d c e Key.AntiSymmetric = every_item_ex q l e (or_ex (ex1 true Op1.Not (turned_ex l d c e)) (parts_same_ex l d c))
  pair_relation_key_ex l d c e Key.ASymmetric = every_item_ex q l e (ex1 true Op1.Not (turned_ex l d c e))
  pair_relation_key_ex l d c e Key.Transitive = every_item_ex q l e (every_item_ex q (suc l) e (linked_ex l d c e))
  pair_relation_key_ex l d c e _ = truth_ex true

  -- The same for a relation over these components. One of more or fewer than two has no such attribute.
  abbrev pub relation_key_ex : ℕ → Doms → Ex → Key → Ex
  relation_key_ex l (more_doms d (more_doms c no_doms)) e k = pair_relation_key_ex l d c e k
  relation_key_ex l _ e k = truth_ex false

  -- Which tuples occur. Its view e has the attributes without a number.
  abbrev pub relation_ex : ℕ → List Mark → Exs → Doms → List Dom → Text → Exs → Ex → Ex
  relation_ex l ms es ds as' n is e = and_ex (size_ex ms es (true_count_ex q l as' n is)) (keys_ex (relation_key_ex l ds e) ms)
