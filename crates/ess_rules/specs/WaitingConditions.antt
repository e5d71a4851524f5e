-- Conditions that read cells leave the inner list before the outer one: those of a root wait until none of its parts has one to leave.
use Rattle.std.specs.Prelude.{Bool, false, ◌&&◌, ◌||◌, not, is_some}
use Rattle.ess_semantics.specs.declared.words.Fun.{Fun}
use Rattle.ess_semantics.specs.Lists.{is_some_and}
use Rattle.ess_semantics.specs.Trees.{Op, Ex, truth_ex, node_ex, matrix_ex, comp_ex, cell_ex, word, Exs, no_exs, more_exs, Gens, no_gens, over, from, cond}
use Rattle.ess_refine_laws.specs.LeavingConditions.{at_last_condition}

-- Whether it is `true`.
abbrev pub is_true : Ex → Bool
is_true (truth_ex b) = b
is_true e = false

-- Whether it is `or([true | gs])`, which says that the generators gs have a binding.
abbrev pub says_there : Ex → Bool
says_there (node_ex m (word Fun.Or) (more_exs (comp_ex e gs) es)) = is_true e
says_there e = false

-- Whether a condition among these reads cells and has to leave. The only one that reads cells may stay where it says that generators
-- have a binding.
abbrev pub has_leaving : Gens → Bool
has_leaving gs = is_some_and (at_last_condition gs) (λ t. not (says_there t.condition) || is_some (at_last_condition t.before))

-- Whether the operator is a word, and the first of its operands a list with a condition that has to leave.
abbrev pub is_open_word : Op → Exs → Bool
is_open_word (word f) (more_exs (comp_ex e gs) es) = has_leaving gs
is_open_word op es = false

-- Whether it is open: a word of such a list, whatever its mark is.
abbrev pub is_open : Ex → Bool
is_open (node_ex m op es) = is_open_word op es
is_open e = false

abbrev mutual
  -- Whether it is open, or a part of it is. Parts of domains and of views don't count.
  pub has_open : Ex → Bool
  has_open (node_ex m op es) = is_open_word op es || any_has_open es
  has_open (matrix_ex es d) = any_has_open es
  has_open (comp_ex e gs) = has_open e || gens_have_open gs
  has_open (cell_ex b n es) = any_has_open es
  has_open e = false

  -- Whether one of these is so.
  pub any_has_open : Exs → Bool
  any_has_open no_exs = false
  any_has_open (more_exs e es) = has_open e || any_has_open es

  -- Whether a source or a condition of these is so.
  pub gens_have_open : Gens → Bool
  gens_have_open no_gens = false
  gens_have_open (over p d gs) = gens_have_open gs
  gens_have_open (from p e gs) = has_open e || gens_have_open gs
  gens_have_open (cond c gs) = has_open c || gens_have_open gs

-- Whether something in the body or the generators of a word's list is open. The conditions of the list itself don't make it so.
abbrev pub has_open_parts : Ex → Bool
has_open_parts (node_ex m (word f) (more_exs (comp_ex e gs) es)) = has_open e || gens_have_open gs
has_open_parts e = false

-- Whether the conditions of the root's list may leave it: it is open, and nothing in it is.
abbrev pub may_leave : Ex → Bool
may_leave e = is_open e && not (has_open_parts e)
