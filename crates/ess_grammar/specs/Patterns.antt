-- Where an item of a quantifier or comprehension is a generator and where it is a condition (Essence, Constraints 13,
-- 2008, the rules for quantified expressions; the Conjure manual, comprehensions). Both may begin with what is written as
-- a pattern, so the rules of the grammar say of each expression how it is written, and read a pattern as an expression.
use Rattle.std.specs.Prelude.{Bool, true, false, ◌&&◌, ◌||◌, not, List, [], ◌∷◌, ◌++◌}
use Rattle.std.specs.List.{list_any}
use Rattle.std.specs.Str.{bytes_eq}
use Rattle.ess_semantics.specs.declared.words.Op2.{Op2}
use Rattle.ess_semantics.specs.declared.words.Fun.{Fun}
use Rattle.ess_semantics.specs.Values.{Text}
use Rattle.ess_semantics.specs.Trees.{Op, Pat, Pats, name_pat, tuple_pat, no_pats, more_pats, Ex, Exs, name_ex, node_ex, no_exs, more_exs, Dom, Gens, over, from}
use Rattle.ess_grammar.specs.Words.{Token, symbol, open_round}

-- How an expression is written: as a pattern (a name, or two or more patterns in round brackets), as a pattern x with
-- `in` behind it (and maybe more), or otherwise. `(y)` and `tuple (x, y)` are no patterns.
pub data Shape : Type 0 where
  pattern_shape : Shape
  member_shape : Ex → Shape
  other_shape : Shape

-- The shape of what needs no operator, which is a pattern or not.
abbrev pub atom_shape : Bool → Shape
atom_shape true = pattern_shape
atom_shape false = other_shape

-- Whether an expression of this shape is written as a pattern.
abbrev pub is_pattern : Shape → Bool
is_pattern pattern_shape = true
is_pattern _ = false

-- Whether the operator is `in`.
abbrev pub is_member : Op2 → Bool
is_member Op2.Member = true
is_member _ = false

-- The shape of an operator's expression, from the shape of its left operand a.
abbrev pub binary_shape : Op2 → Shape → Ex → Shape
binary_shape o (member_shape x) a = member_shape x
binary_shape o pattern_shape a = elim (is_member o) [ true ↦ member_shape a | false ↦ other_shape ]
binary_shape o other_shape a = other_shape

abbrev mutual
  -- The pattern that an expression is, where it is written as one.
  pub as_pattern : Ex → Pat
  as_pattern (name_ex a) = name_pat a
  as_pattern (node_ex b op es) = tuple_pat (as_patterns es)
  as_pattern _ = tuple_pat no_pats

  -- The same of several.
  pub as_patterns : Exs → Pats
  as_patterns no_exs = no_pats
  as_patterns (more_exs e es) = more_pats (as_pattern e) (as_patterns es)

abbrev mutual
  -- The names that a pattern binds, where the expression is written as one.
  pub bound_by : Ex → List Text
  bound_by (name_ex a) = a ∷ []
  bound_by (node_ex b op es) = all_bound_by es
  bound_by _ = []

  -- The same of several.
  pub all_bound_by : Exs → List Text
  all_bound_by no_exs = []
  all_bound_by (more_exs e es) = bound_by e ++ all_bound_by es

-- One generator over a domain for each pattern, before the items gs.
abbrev pub all_over : Exs → Dom → Gens → Gens
all_over no_exs d gs = gs
all_over (more_exs p ps) d gs = over (as_pattern p) d (all_over ps d gs)

-- One generator over a value for each pattern, before the items gs.
abbrev pub all_from : Exs → Ex → Gens → Gens
all_from no_exs e gs = gs
all_from (more_exs p ps) e gs = from (as_pattern p) e (all_from ps e gs)

-- ---- generators and conditions

-- Where items stand: only in a quantifier `in` may be a generator's sign.
pub data Place : Type 0 where
  in_quantifier in_comprehension : Place

-- Whether the expression is one of these names, which earlier items of the list bind.
abbrev pub is_bound_name : List Text → Ex → Bool
is_bound_name bs (name_ex a) = list_any (bytes_eq a) bs
is_bound_name bs _ = false

-- Whether the patterns are one bound name alone: with `in` behind it, it begins a condition.
abbrev pub is_one_bound : List Text → Exs → Bool
is_one_bound bs (more_exs e no_exs) = is_bound_name bs e
is_one_bound bs _ = false

-- Whether an expression of this shape may be a condition behind items that bind these names. In a quantifier `x in e` is
-- one where x is bound, else a generator.
abbrev pub may_be_condition : Place → List Text → Shape → Bool
may_be_condition in_quantifier bs (member_shape x) = is_bound_name bs x
may_be_condition _ bs s = true

-- Whether a condition of this shape begins as a generator does, with a pattern and a generator's sign: then a pattern
-- before it would be one of a generator's patterns, and no condition.
abbrev pub begins_as_generator : Place → Shape → Bool
begins_as_generator in_quantifier (member_shape x) = true
begins_as_generator _ s = false

-- ---- the word `sum`, which begins a quantifier and a call

-- Whether an opening round bracket comes first.
abbrev pub starts_round : List Token → Bool
starts_round (symbol open_round ∷ ts) = true
starts_round _ = false

-- Whether there are two or more.
abbrev pub are_several : Exs → Bool
are_several (more_exs a (more_exs b es)) = true
are_several _ = false

-- Whether the operator is the function word `sum`.
abbrev pub is_sum : Op → Bool
is_sum (Op.word Fun.Sum) = true
is_sum _ = false

-- Whether a list belongs to its operator. A bracket directly behind `sum` that holds two or more patterns, as the flag
-- says, is no call's: it is the first pattern of a generator, as in `sum (x, y) in r . x + y`.
abbrev pub may_hold : Op → Bool → Exs → Bool
may_hold op all_patterns es = not (is_sum op && (all_patterns && are_several es))

-- Whether items that begin as a generator does, or not, as the flag says, may stand behind `sum` before these tokens. Any
-- other bracket directly behind `sum` is a call's.
abbrev pub may_follow_sum : Bool → List Token → Bool
may_follow_sum as_generator ts = as_generator || not (starts_round ts)
