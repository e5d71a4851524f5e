-- The forms of roots that rules of folds and of generators rewrite: the parts of a tree that has the form, and nothing of another.
-- Parts are found from left to right.
use Rattle.std.specs.Prelude.{Bool, true, false, Option, Some, None, option_map}
use Rattle.ess_semantics.specs.declared.words.Fun.{Fun}
use Rattle.ess_semantics.specs.Lists.{and_then}
use Rattle.ess_semantics.specs.Values.{Text}
use Rattle.ess_semantics.specs.Trees.{word, matrix_literal, mset_literal, Pat, name_pat, Ex, Exs, node_ex, comp_ex, fun1, no_exs, more_exs, Gens, no_gens, from, cond}
use Rattle.ess_core_nodes.specs.NodeViews.{pure_node, pure_nodes, pure_gens}
use Rattle.ess_rules_folds.specs.declared.forms.Fold.{Fold}

-- ---- operands

-- The first operand, and those behind it.
abbrev pub first_operand : Exs → Option (Ex × Exs)
first_operand (more_exs a es) = Some (a, es)
first_operand no_exs = None

-- Whether there are none.
abbrev pub are_none : Exs → Bool
are_none no_exs = true
are_none (more_exs a es) = false

-- The only operand.
abbrev pub only_operand : Exs → Option Ex
only_operand (more_exs a no_exs) = Some a
only_operand es = None

-- ---- trees

-- A function word: whether it is Boolean, the word, and the operands.
abbrev pub word_parts : Ex → Option (Bool × Fun × Exs)
word_parts (node_ex b (word f) es) = Some (b, f, es)
word_parts e = None

-- A comprehension: its body and its generators.
abbrev pub comp_parts : Ex → Option (Ex × Gens)
comp_parts (comp_ex e gs) = Some (e, gs)
comp_parts e = None

-- The items of a list literal.
abbrev pub list_items : Ex → Option Exs
list_items (node_ex false matrix_literal es) = Some es
list_items e = None

-- The items of a list literal or of a multiset literal.
abbrev pub written_items : Ex → Option Exs
written_items (node_ex false matrix_literal es) = Some es
written_items (node_ex false mset_literal es) = Some es
written_items e = None

-- What a set is made of, by a word and its operands.
abbrev pub set_operand : Bool → Fun → Exs → Option Ex
set_operand false Fun.ToSet es = only_operand es
set_operand b f es = None

-- What a set is made of.
abbrev pub made_set_of : Ex → Option Ex
made_set_of (fun1 false Fun.ToSet s) = Some s
made_set_of e = None

-- ---- generators

-- A first generator over a value: its pattern, the value, and what stands behind it.
abbrev pub from_parts : Gens → Option (Pat × Ex × Gens)
from_parts (from p s hs) = Some (p, s, hs)
from_parts gs = None

-- A condition alone.
abbrev pub only_condition : Gens → Option Ex
only_condition (cond c no_gens) = Some c
only_condition gs = None

-- Whether there are no generators.
abbrev pub are_no_gens : Gens → Bool
are_no_gens no_gens = true
are_no_gens gs = false

-- The name that a pattern is.
abbrev pub pattern_name : Pat → Option Text
pattern_name (name_pat a) = Some a
pattern_name p = None

-- A first generator that binds a name over a value.
abbrev pub source_parts : Gens → Option (Text × Ex × Gens)
source_parts gs = and_then (from_parts gs) (λ s. option_map (λ y. (y, s.1, s.2)) (pattern_name s.0))

-- ---- folds over a source

-- A function word of a comprehension whose first generator binds a name over a value: the parts, with the operands behind the
-- comprehension.
pub record FoldParts : Type 0 where
  pub mark : Bool
  pub fun : Fun
  pub body : Ex
  pub name : Text
  pub source : Ex
  pub rest : Gens
  pub others : Exs

-- A comprehension among operands: its body, its generators, and the operands behind it.
abbrev pub first_comp : Exs → Option (Ex × Gens × Exs)
first_comp es = and_then (first_operand es) (λ x. option_map (λ c. (c.0, c.1, x.1)) (comp_parts x.0))

abbrev pub fold_parts : Ex → Option FoldParts
fold_parts e =
    and_then (word_parts e) (λ w. and_then (first_comp w.2) (λ c. option_map
    (λ s. record { mark = w.0; fun = w.1; body = c.0; name = s.0; source = s.1; rest = s.2; others = c.2 })
    (source_parts c.1)))

-- What the parts of the code stand for.
abbrev pub pure_fold : Fold → FoldParts
pure_fold f = record {
  mark = f.mark;
  fun = f.fun;
  body = pure_node f.body.now;
  name = f.name.now;
  source = pure_node f.source.now;
  rest = pure_gens f.rest.now;
  others = pure_nodes f.others.now;
}
