-- The constraint that the cells of a partition by the number of each member's part are canonical. Its attributes are asked of the number
-- of parts, and of the parts that its view has.
use Rattle.std.specs.Prelude.{ℕ, suc, true, false, List, [], ◌∷◌, pos}
use Rattle.ess_semantics.specs.declared.words.Fun.{Fun}
use Rattle.ess_semantics.specs.declared.words.Key.{Key}
use Rattle.ess_semantics.specs.declared.words.Op1.{Op1}
use Rattle.ess_semantics.specs.declared.words.Op2.{Op2}
use Rattle.ess_semantics.specs.Values.{Text}
use Rattle.ess_semantics.specs.Trees.{Mark, flag, valued, Ex, Exs, no_exs, more_exs, Dom, partition_dom, truth_ex, number_ex, name_ex, cell_ex, comp_ex, no_gens, over, cond, name_pat, ex1, ex2, fun1}
use Rattle.ess_repr_laws.specs.StructureParts.{add_ex, and_ex, or_ex, le_ex, key_ex, keys_ex, each_ex}
use Rattle.ess_repr_laws.specs.ViewParts.{every_item_ex, one_size_ex, regular_key_ex}

-- The domain of partitions of d of which nothing is asked.
abbrev pub bare_partition_dom : Dom → Dom
bare_partition_dom d = partition_dom [] no_exs d

module _ (q : ℕ → Text) where
  -- The number of the part of q l, in the table w.
  abbrev pub part_number_ex : ℕ → Text → Exs → Ex
  part_number_ex l w is = cell_ex false w (add_ex is (name_ex (q l)))

  -- A member before q l is in the part with the number before.
  abbrev pub after_ex : ℕ → Dom → Text → Exs → Ex
  after_ex l d w is =
      fun1 true Fun.Or (comp_ex (ex2 true Op2.Eq (part_number_ex l w is) (ex2 false Op2.Plus (part_number_ex (suc l) w is)
      (number_ex (pos 1))))
      (over (name_pat (q (suc l))) d (cond (ex2 true Op2.Lt (name_ex (q (suc l))) (name_ex (q l))) no_gens)))

  -- The part of q l is one of those with the numbers 1 to n, and is the first or comes after the part before it.
  abbrev pub numbered_on_ex : ℕ → Dom → Ex → Text → Exs → Ex
  numbered_on_ex l d n w is =
      and_ex (and_ex (le_ex (number_ex (pos 1)) (part_number_ex l w is)) (le_ex (part_number_ex l w is) n))
      (or_ex (ex2 true Op2.Eq (number_ex (pos 1)) (part_number_ex l w is)) (after_ex l d w is))

  -- The number n is 0 or that of a part.
  abbrev pub taken_ex : ℕ → Dom → Ex → Text → Exs → Ex
  taken_ex l d n w is =
      or_ex (ex2 true Op2.Eq n (number_ex (pos 0)))
      (fun1 true Fun.Or (comp_ex (ex2 true Op2.Eq (part_number_ex l w is) n) (over (name_pat (q l)) d no_gens)))

  -- An attribute with the number m asks of the size of each part that e has, as the attribute k of a set.
  abbrev pub each_size_ex : ℕ → Ex → Key → Ex → Ex
  each_size_ex l e k m = every_item_ex q l e (key_ex k m (ex1 false Op1.Bar (name_ex (q l))))

  -- What an attribute with the number m asks of a partition with n parts, whose view is e.
  abbrev pub part_key_ex : ℕ → Ex → Ex → Key → Ex → Ex
  part_key_ex l n e Key.NumParts m = key_ex Key.Size m n
  part_key_ex l n e Key.MinNumParts m = key_ex Key.MinSize m n
  part_key_ex l n e Key.MaxNumParts m = key_ex Key.MaxSize m n
  part_key_ex l n e Key.PartSize m = each_size_ex l e Key.Size m
  part_key_ex l n e Key.MinPartSize m = each_size_ex l e Key.MinSize m
  part_key_ex l n e Key.MaxPartSize m = each_size_ex l e Key.MaxSize m
  part_key_ex l n e _ m = truth_ex true

  -- All attributes with a number.
  abbrev pub part_sizes_ex : ℕ → Ex → Ex → List Mark → Exs → Ex
  part_sizes_ex l n e [] ms = truth_ex true
  part_sizes_ex l n e (flag k ∷ ks) ms = part_sizes_ex l n e ks ms
  part_sizes_ex l n e (valued k ∷ ks) no_exs = truth_ex true
  part_sizes_ex l n e (valued k ∷ ks) (more_exs m ms) = and_ex (part_key_ex l n e k m) (part_sizes_ex l n e ks ms)

  -- The number of each member's part: parts are numbered by their least members, and all numbers from 1 to n are taken. The view e has
  -- the attributes.
  abbrev pub numbered_ex : ℕ → List Mark → Exs → Dom → Ex → Text → Exs → Ex → Ex
  numbered_ex l ks ms d n w is e =
      and_ex (and_ex (each_ex q l (d ∷ []) (numbered_on_ex l d n w is)) (taken_ex l d n w is))
      (and_ex (part_sizes_ex l n e ks ms) (keys_ex (regular_key_ex (one_size_ex q l e)) ks))
