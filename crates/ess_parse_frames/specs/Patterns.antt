-- Operands that are written as patterns: the parser keeps patterns, where the machine keeps expressions and a flag.
use Rattle.std.specs.Prelude.{Bool, true, false, List, map}
use Rattle.ess_semantics.specs.Trees as pure
use Rattle.ess_semantics.specs.Trees.{name_pat, tuple_pat, no_pats, more_pats, name_ex, tuple_literal, no_exs, more_exs, plain_node}
use Rattle.ess_parse_laws.specs.Reversed.{reverse_exs}
use Rattle.ess_core.specs.TreeViews.{pure_ex, pure_pat, exs_of}
use Rattle.ess_core.specs.declared.expressions.Pat.{Pat}
use Rattle.ess_parse_frames.specs.Rows.{back_exs}
use Rattle.ess_parse_frames.specs.declared.operands.Operand.{Operand}
use Rattle.ess_parse_frames.specs.declared.operands.Operand.TheVariants as O
use Rattle.ess_parse_frames.specs.declared.operands.Listed.{Listed}
use Rattle.ess_parse_frames.specs.declared.operands.Listed.TheVariants as L

abbrev mutual
  -- The expression that is written as a pattern.
  pub pattern_ex : pure.Pat → pure.Ex
  pattern_ex (name_pat a) = name_ex a
  pattern_ex (tuple_pat ps) = plain_node tuple_literal (pattern_exs ps)

  -- The same of several.
  pub pattern_exs : pure.Pats → pure.Exs
  pattern_exs no_pats = no_exs
  pattern_exs (more_pats p ps) = more_exs (pattern_ex p) (pattern_exs ps)

-- The expressions that are written as the patterns of a row.
abbrev pub view_pats : List Pat → List pure.Ex
view_pats ps = map (λ p. pattern_ex (pure_pat p)) ps

-- The expressions that patterns in order are.
unfoldable pub pats_in_order : List Pat → pure.Exs
pats_in_order ps = exs_of (view_pats ps)

-- The expressions that patterns are, in reverse, before others.
unfoldable pub back_pats : List Pat → pure.Exs → pure.Exs
back_pats ps before = reverse_exs (exs_of (view_pats ps)) before

-- The expression of an operand.
abbrev pub view_operand : Operand → pure.Ex
view_operand (O.Pattern p) = pattern_ex (pure_pat p)
view_operand (O.Other e) = pure_ex e

-- Whether an operand is written as a pattern.
abbrev pub is_pattern_operand : Operand → Bool
is_pattern_operand (O.Pattern p) = true
is_pattern_operand (O.Other e) = false

-- The expressions of a list in reverse, before others.
abbrev pub back_listed : Listed → pure.Exs → pure.Exs
back_listed (L.Patterns ps) before = back_pats ps before
back_listed (L.Expressions es) before = back_exs es before

-- Whether all expressions of a list are written as patterns.
abbrev pub are_patterns : Listed → Bool
are_patterns (L.Patterns ps) = true
are_patterns (L.Expressions es) = false
