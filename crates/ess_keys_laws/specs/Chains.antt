-- Long conjunctions. A chain `c1 /\ (c2 /\ .. )` is nested as deep as it is long, and no text may be nested deeper than a bound: where it is
-- long its conjuncts are a list under `and`. A flat constraint keeps its form.
use Rattle.std.specs.Prelude.{ℕ, suc, nat_le, Bool, true, false, ◌&&◌, not, Option}
use Rattle.ess_semantics.specs.declared.words.Op2.{Op2}
use Rattle.ess_semantics.specs.declared.words.Fun.{Fun}
use Rattle.ess_semantics.specs.Lists.{when}
use Rattle.ess_semantics.specs.Trees.{matrix_literal, Ex, Exs, number_ex, truth_ex, node_ex, cell_ex, no_exs, more_exs, ex2, fun1}
use Rattle.ess_semantics.specs.Constants.{operand_count}
use Rattle.ess_semantics.specs.Models.{is_flat_op}
use Rattle.ess_keys_laws.specs.KeyForms.{are_none}

-- ---- flat forms

abbrev mutual
  -- Whether the tree has the form of a flat constraint over cells: numbers, truth values and single cells, under operators of flat
  -- constraints.
  pub is_of_flat_form : Ex → Bool
  is_of_flat_form (number_ex n) = true
  is_of_flat_form (truth_ex v) = true
  is_of_flat_form (cell_ex b n es) = are_none es
  is_of_flat_form (node_ex b op es) = is_flat_op op && are_of_flat_form es
  is_of_flat_form e = false

  -- The same of operands.
  pub are_of_flat_form : Exs → Bool
  are_of_flat_form no_exs = true
  are_of_flat_form (more_exs e es) = is_of_flat_form e && are_of_flat_form es

-- ---- chains and lists

-- The number of `/\` in a chain to the right.
abbrev pub links : Ex → ℕ
links (ex2 true Op2.And a r) = suc (links r)
links e = 0

-- The conjuncts of a chain to the right.
abbrev pub chain : Ex → Exs
chain (ex2 true Op2.And a r) = more_exs a (chain r)
chain e = more_exs e no_exs

-- Trees as a list under `and`.
abbrev pub all_under_and : Exs → Ex
all_under_and es = fun1 true Fun.And (node_ex false matrix_literal es)

-- Whether the tree has many conjuncts: at least sixteen as a list under `and`, or at least fifteen as a chain.
abbrev pub has_many : Ex → Bool
has_many (fun1 true Fun.And (node_ex false matrix_literal es)) = nat_le 16 (operand_count es)
has_many e = nat_le 14 (links e)

-- The conjuncts of such a list, or of a chain.
abbrev pub conjuncts_of : Ex → Exs
conjuncts_of (fun1 true Fun.And (node_ex false matrix_literal es)) = es
conjuncts_of e = chain e

-- What is left of `a /\ r`: a list of all conjuncts, where r has many and it isn't of flat form.
abbrev pub conjunction_fold : Ex → Ex → Option Ex
conjunction_fold a r =
    when (has_many r && not (is_of_flat_form a && is_of_flat_form r)) (all_under_and (more_exs a (conjuncts_of r)))
