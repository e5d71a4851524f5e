-- The constraint that the cells of a multiset in slots up to a marker, in which equal members may stand, are canonical. How often its
-- members occur is asked of its view.
use Rattle.std.specs.Prelude.{ℕ, suc, true, false, List, [], ◌∷◌}
use Rattle.ess_semantics.specs.declared.words.Fun.{Fun}
use Rattle.ess_semantics.specs.declared.words.Key.{Key}
use Rattle.ess_semantics.specs.Values.{Text}
use Rattle.ess_semantics.specs.Trees.{Mark, flag, valued, word, Ex, Exs, no_exs, more_exs, truth_ex, name_ex, node_ex, cell_ex, Dom, mset_dom, fun1}
use Rattle.ess_repr_laws.specs.StructureParts.{Shape, add_ex, and_ex, le_ex, next_ex, at_most_ex, size_ex, use_ex}
use Rattle.ess_repr_laws.specs.ViewParts.{every_item_ex}

-- The domain of multisets of at most so many members of d of which nothing else is asked.
abbrev pub bare_mset_dom : Ex → Dom → Dom
bare_mset_dom size d = mset_dom (valued Key.MaxSize ∷ []) (more_exs size no_exs) d

module _ (q : ℕ → Text) where
  -- How often q l occurs in the multiset e.
  abbrev pub freq_ex : ℕ → Ex → Ex
  freq_ex l e = node_ex false (word Fun.Freq) (more_exs e (more_exs (name_ex (q l)) no_exs))

  -- An attribute with the number n asks of each member of e: it occurs at least n times, or at most.
  abbrev pub occurs_key_ex : ℕ → Ex → Key → Ex → Ex
  occurs_key_ex l e Key.MinOccur n = every_item_ex q l (fun1 false Fun.ToSet e) (le_ex n (freq_ex l e))
  occurs_key_ex l e Key.MaxOccur n = every_item_ex q l (fun1 false Fun.ToSet e) (le_ex (freq_ex l e) n)
  occurs_key_ex l e _ n = truth_ex true

  -- All attributes.
  abbrev pub occurs_ex : ℕ → Ex → List Mark → Exs → Ex
  occurs_ex l e [] ns = truth_ex true
  occurs_ex l e (flag k ∷ ms) ns = occurs_ex l e ms ns
  occurs_ex l e (valued k ∷ ms) no_exs = truth_ex true
  occurs_ex l e (valued k ∷ ms) (more_exs n ns) = and_ex (occurs_key_ex l e k n) (occurs_ex l e ms ns)

  -- Slots up to a marker, in which equal members may stand. The view is e.
  abbrev pub repetition_ex : ℕ → List Mark → Exs → Ex → Text → List Shape → Exs → Ex → Ex → Ex
  repetition_ex l ms es size n ss is e part =
      and_ex (use_ex q l size (le_ex (name_ex (q l)) (cell_ex false n is)) (le_ex (next_ex q l) (cell_ex false n is))
      (at_most_ex q (suc l) ss (add_ex is (name_ex (q l))) (add_ex is (next_ex q l))) ss is part)
      (and_ex (size_ex ms es (cell_ex false n is)) (occurs_ex l e ms es))
