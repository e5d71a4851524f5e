-- What the form of a tree tells: which domain a bound name runs over, which terms are numbers, and which are sure to lie in
-- a domain. Where it tells nothing a condition is asked.
use Rattle.std.specs.Prelude.{Bool, true, false, ◌&&◌, List, [], ◌∷◌, ℤ, Option, Some, int_le}
use Rattle.ess_semantics.specs.declared.words.Op1.{Op1}
use Rattle.ess_semantics.specs.declared.words.Op2.{Op2}
use Rattle.ess_semantics.specs.declared.words.Fun.{Fun}
use Rattle.ess_semantics.specs.Order.{same_int, same_text}
use Rattle.ess_semantics.specs.Names.{Names, look}
use Rattle.ess_semantics.specs.Trees.{unary, binary, word, Ends, one_value, both_ends, low_end, high_end, Pat, Pats, name_pat, tuple_pat, no_pats, more_pats, Ex, Exs, number_ex, name_ex, node_ex, cell_ex, no_exs, more_exs, Gens, no_gens, over, from, cond, Dom, bool_dom, int_dom}

-- ---- names

-- What is known of a bound name: the domain that it runs over, or nothing.
pub data Origin : Type 0 where
  runs_over : Dom → Origin
  anywhere : Origin

abbrev mutual
  -- The names with those that a pattern binds, of which nothing is known.
  pub with_any : Pat → Names Origin → Names Origin
  with_any (name_pat a) k = (a, anywhere) ∷ k
  with_any (tuple_pat ps) k = with_all_any ps k

  -- The same of several patterns.
  pub with_all_any : Pats → Names Origin → Names Origin
  with_all_any no_pats k = k
  with_all_any (more_pats p ps) k = with_all_any ps (with_any p k)

-- The names with those that a pattern binds over a domain. Of the names of a tuple nothing is known.
abbrev pub with_over : Pat → Dom → Names Origin → Names Origin
with_over (name_pat a) d k = (a, runs_over d) ∷ k
with_over (tuple_pat ps) d k = with_all_any ps k

-- The names behind generators.
abbrev pub known_behind : Gens → Names Origin → Names Origin
known_behind no_gens k = k
known_behind (over p d gs) k = known_behind gs (with_over p d k)
known_behind (from p e gs) k = known_behind gs (with_any p k)
known_behind (cond c gs) k = known_behind gs k

-- ---- numbers

-- Whether a name with this origin is a number.
abbrev pub runs_over_numbers : Option Origin → Bool
runs_over_numbers (Some (runs_over (int_dom rs es))) = true
runs_over_numbers o = false

abbrev mutual
  -- Whether the term is a number wherever it has a value.
  pub is_number : Names Origin → Ex → Bool
  is_number k (number_ex n) = true
  is_number k (name_ex a) = runs_over_numbers (look k a)
  is_number k (cell_ex false n es) = true
  is_number k (node_ex false (unary Op1.Minus) es) = is_one es
  is_number k (node_ex false (unary Op1.Bar) es) = is_one es
  is_number k (node_ex false (binary Op2.Plus) es) = are_two es
  is_number k (node_ex false (binary Op2.Times) es) = are_two es
  is_number k (node_ex false (binary Op2.Div) es) = are_two es
  is_number k (node_ex false (binary Op2.Mod) es) = are_two es
  is_number k (node_ex false (binary Op2.Pow) es) = are_two es
  is_number k (node_ex false (binary Op2.Minus) es) = are_two es && is_number_first k es
  is_number k (node_ex false (word Fun.Sum) es) = is_one es
  is_number k (node_ex false (word Fun.Product) es) = is_one es
  is_number k (node_ex false (word Fun.ToInt) es) = is_one es
  is_number k (node_ex false (word Fun.Freq) es) = are_two es
  is_number k e = false

  -- The same of the first operand.
  pub is_number_first : Names Origin → Exs → Bool
  is_number_first k no_exs = false
  is_number_first k (more_exs e es) = is_number k e

  -- Whether there is one operand.
  pub is_one : Exs → Bool
  is_one (more_exs e no_exs) = true
  is_one es = false

  -- Whether there are two.
  pub are_two : Exs → Bool
  are_two (more_exs e (more_exs f no_exs)) = true
  are_two es = false

-- ---- terms in domains

-- Whether two bounds are one by their form: numbers, tables' single cells, and sums and differences of these. No name
-- stands in them, so they mean the same wherever they stand.
abbrev pub same_bound : Ex → Ex → Bool
same_bound (number_ex n) (number_ex m) = same_int n m
same_bound (cell_ex false a no_exs) (cell_ex false b no_exs) = same_text a b
same_bound (node_ex false (binary Op2.Plus) (more_exs a (more_exs b no_exs)))
    (node_ex false (binary Op2.Plus) (more_exs c (more_exs d no_exs))) =
    same_bound a c && same_bound b d
same_bound (node_ex false (binary Op2.Minus) (more_exs a (more_exs b no_exs)))
    (node_ex false (binary Op2.Minus) (more_exs c (more_exs d no_exs))) =
    same_bound a c && same_bound b d
same_bound e f = false

-- The same of several bounds.
abbrev pub same_bounds : Exs → Exs → Bool
same_bounds no_exs no_exs = true
same_bounds (more_exs e es) (more_exs f fs) = same_bound e f && same_bounds es fs
same_bounds es fs = false

-- Whether two ranges have one form.
abbrev pub same_ends : List Ends → List Ends → Bool
same_ends [] [] = true
same_ends (one_value ∷ rs) (one_value ∷ ss) = same_ends rs ss
same_ends (both_ends ∷ rs) (both_ends ∷ ss) = same_ends rs ss
same_ends (low_end ∷ rs) (low_end ∷ ss) = same_ends rs ss
same_ends (high_end ∷ rs) (high_end ∷ ss) = same_ends rs ss
same_ends rs ss = false

-- Whether the range of numbers from c to d holds the one from a to b.
abbrev pub holds_range : ℤ → ℤ → ℤ → ℤ → Bool
holds_range c d a b = int_le c a && int_le b d

-- Whether the second domain is sure to hold all members of the first, by their forms alone.
abbrev pub lies_within : Dom → Dom → Bool
lies_within (int_dom (both_ends ∷ []) (more_exs (number_ex a) (more_exs (number_ex b) no_exs)))
    (int_dom (both_ends ∷ []) (more_exs (number_ex c) (more_exs (number_ex d) no_exs))) =
    holds_range c d a b
lies_within bool_dom bool_dom = true
lies_within (int_dom rs es) (int_dom ss fs) = same_ends rs ss && same_bounds es fs
lies_within d e = false

-- Whether a name with this origin is sure to lie in the domain.
abbrev pub comes_from : Option Origin → Dom → Bool
comes_from (Some (runs_over d)) e = lies_within d e
comes_from o e = false

-- Whether the term is sure to be a member of the domain, by its form alone: a number in a range of numbers, or a name that
-- runs over the domain.
abbrev pub is_sure : Names Origin → Ex → Dom → Bool
is_sure k (number_ex n) (int_dom (both_ends ∷ []) (more_exs (number_ex a) (more_exs (number_ex b) no_exs))) = holds_range a b n n
is_sure k (name_ex a) d = comes_from (look k a) d
is_sure k e d = false
