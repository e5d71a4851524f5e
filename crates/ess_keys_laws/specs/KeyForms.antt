-- What the form of a refined tree tells of keys: which terms are truth values, what an index of a cell becomes, and which key a bound name
-- is said to equal.
use Rattle.std.specs.Prelude.{Bool, true, false, ◌&&◌, ◌||◌, not, if◌then◌else◌, pos, Option, Some, None}
use Rattle.ess_semantics.specs.declared.words.Op2.{Op2}
use Rattle.ess_semantics.specs.declared.words.Fun.{Fun}
use Rattle.ess_semantics.specs.Lists.{or_else}
use Rattle.ess_semantics.specs.Values.{Text}
use Rattle.ess_semantics.specs.Order.{same_int, same_text}
use Rattle.ess_semantics.specs.Names.{Names}
use Rattle.ess_semantics.specs.Trees.{Op, binary, name_pat, Ex, Exs, number_ex, truth_ex, name_ex, node_ex, cell_ex, no_exs, more_exs}
use Rattle.ess_semantics.specs.Trees.{Gens, over, cond, Dom, bool_dom, int_dom, name_dom, ex2, fun1}
use Rattle.ess_guard_laws.specs.Origins.{Origin, is_number, is_sure}

-- ---- truth values as indices

-- Whether the term is a truth value, as its form tells.
abbrev pub is_truth : Names Origin → Ex → Bool
is_truth k (truth_ex b) = true
is_truth k (name_ex a) = is_sure k (name_ex a) bool_dom
is_truth k (node_ex b op es) = b
is_truth k (cell_ex b n es) = b
is_truth k e = false

-- The number of a truth value.
abbrev pub number_of_truth : Bool → Ex
number_of_truth true = number_ex (pos 1)
number_of_truth false = number_ex (pos 0)

-- An index of a cell as a number: `toInt(e)` for a truth value e.
abbrev pub as_index : Names Origin → Ex → Ex
as_index k (truth_ex b) = number_of_truth b
as_index k e = if is_truth k e then fun1 false Fun.ToInt e else e

-- The same of several indices.
abbrev pub as_indices : Names Origin → Exs → Exs
as_indices k no_exs = no_exs
as_indices k (more_exs e es) = more_exs (as_index k e) (as_indices k es)

-- ---- keys of bound names

-- The term, where it is a number or a name other than j.
abbrev pub plain_key : Text → Ex → Option Ex
plain_key j (number_ex n) = Some (number_ex n)
plain_key j (name_ex a) = if same_text j a then None else Some (name_ex a)
plain_key j e = None

-- The key t, where the term before it is the name j.
abbrev pub key_beside : Text → Ex → Ex → Option Ex
key_beside j (name_ex a) t = if same_text j a then plain_key j t else None
key_beside j e t = None

-- The key that j equals where the condition holds: `j = t` or `t = j` is it, or the first conjunct that is.
abbrev pub key_in : Text → Ex → Option Ex
key_in j (ex2 true Op2.Eq a b) = or_else (key_beside j a b) (key_beside j b a)
key_in j (ex2 true Op2.And a b) = or_else (key_in j a) (key_in j b)
key_in j e = None

-- The key that j equals where the conditions hold that come first.
abbrev pub key_under : Text → Gens → Option Ex
key_under j (cond c gs) = or_else (key_in j c) (key_under j gs)
key_under j gs = None

-- Whether it is a sum or a difference.
abbrev pub is_sum : Op → Bool
is_sum (binary Op2.Plus) = true
is_sum (binary Op2.Minus) = true
is_sum op = false

-- Whether there are no indices.
abbrev pub are_none : Exs → Bool
are_none no_exs = true
are_none (more_exs e es) = false

abbrev mutual
  -- Whether the term means the same wherever it stands, by its form: a number, a table's single cell, a sum or difference of these.
  pub is_fixed : Ex → Bool
  is_fixed (number_ex n) = true
  is_fixed (cell_ex b a es) = not b && are_none es
  is_fixed (node_ex b op es) = not b && is_sum op && are_fixed es
  is_fixed e = false

  -- The same of several.
  pub are_fixed : Exs → Bool
  are_fixed no_exs = true
  are_fixed (more_exs e es) = is_fixed e && are_fixed es

-- The same of a domain.
abbrev pub is_fixed_dom : Dom → Bool
is_fixed_dom bool_dom = true
is_fixed_dom (int_dom rs es) = are_fixed es
is_fixed_dom (name_dom a) = true
is_fixed_dom d = false

-- A key that isn't the name b.
abbrev pub other_than : Text → Option Ex → Option Ex
other_than b (Some (name_ex a)) = if same_text b a then None else Some (name_ex a)
other_than b o = o

-- The key that j equals where the conditions hold that come first, or behind generators over fixed domains. None of these binds it, or j.
abbrev pub key_of : Text → Gens → Option Ex
key_of j (over (name_pat b) d gs) = if not (same_text b j) && is_fixed_dom d then other_than b (key_of j gs) else None
key_of j gs = key_under j gs

-- ---- conditions that hold

-- Whether the term is a number or a truth value, as its form tells.
abbrev pub is_scalar : Names Origin → Ex → Bool
is_scalar k e = is_number k e || is_truth k e

-- Whether both are one number, or one name of a number or truth value.
abbrev pub same_key : Names Origin → Ex → Ex → Bool
same_key k (number_ex n) (number_ex m) = same_int n m
same_key k (name_ex a) (name_ex b) = same_text a b && is_scalar k (name_ex a)
same_key k a b = false

-- Whether the condition holds by its form: `true`, or a key that equals itself.
abbrev pub is_settled : Names Origin → Ex → Bool
is_settled k (truth_ex b) = b
is_settled k (ex2 true Op2.Eq a b) = same_key k a b
is_settled k e = false
