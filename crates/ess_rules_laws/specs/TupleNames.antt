-- A name over a tuple of domains: the name becomes the tuple of new names over the components.
use Rattle.std.specs.Prelude.{Bool, true, false, ◌&&◌, not, List, [], ◌∷◌, Option, Some, None, if◌then◌else◌}
use Rattle.ess_semantics.specs.Values.{Text}
use Rattle.ess_semantics.specs.Trees.{tuple_literal, Pats, name_pat, tuple_pat, no_pats, more_pats, Ex, Exs, name_ex, node_ex, comp_ex, no_exs, more_exs, no_gens, over, from, Doms, tuple_dom, no_doms, more_doms}
use Rattle.ess_rules_laws.specs.Rules.{RuleKeeps}
use Rattle.ess_rules_laws.specs.ComponentRules.{has_text}

-- Each name as a pattern.
abbrev pub named_pats : List Text → Pats
named_pats [] = no_pats
named_pats (y ∷ ys) = more_pats (name_pat y) (named_pats ys)

-- Each name as an expression.
abbrev pub named_exs : List Text → Exs
named_exs [] = no_exs
named_exs (y ∷ ys) = more_exs (name_ex y) (named_exs ys)

-- Whether there is a name for each domain, no two of them equal.
abbrev pub are_names : List Text → Doms → Bool
are_names [] no_doms = true
are_names (y ∷ ys) (more_doms d ds) = not (has_text ys y) && are_names ys ds
are_names ys ds = false

-- `[(y, z) | (y, z) : (A, B)]`.
abbrev pub tuples_over : List Text → Doms → Ex
tuples_over ys ds = comp_ex (node_ex false tuple_literal (named_exs ys)) (over (tuple_pat (named_pats ys)) (tuple_dom ds) no_gens)

-- `[e | x : (A, B), hs]` is `[e | x <- [(y, z) | (y, z) : (A, B)], hs]`; ys are the names y, z. So the generator may be spliced and
-- split.
abbrev pub name_over_tuple : List Text → Ex → Option Ex
name_over_tuple ys (comp_ex e (over (name_pat x) (tuple_dom ds) hs)) =
    if are_names ys ds then Some (comp_ex e (from (name_pat x) (tuples_over ys ds) hs)) else None
name_over_tuple ys e = None

-- So it keeps what it rewrites, whatever the names are.
abbrev pub NamesOverTuplesKeep : Type 0
NamesOverTuplesKeep = (ys : List Text) → RuleKeeps (name_over_tuple ys)
