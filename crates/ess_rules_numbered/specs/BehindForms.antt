-- A comprehension by the source at its first generator that isn't plain, and an item of a list by its parts.
use Rattle.std.specs.Prelude.{Bool, [], ◌∷◌, Option, Some, None, option_map}
use Rattle.ess_semantics.specs.Lists.{and_then}
use Rattle.ess_semantics.specs.Values.{Text}
use Rattle.ess_semantics.specs.Trees.{by_value, index, name_pat, Ex, node_ex, comp_ex, no_exs, more_exs, Gens, from}
use Rattle.ess_core_nodes.specs.NodeViews.{pure_node, pure_gens}
use Rattle.ess_rules_laws.specs.SpliceRules.{append_gens}
use Rattle.ess_open_rules_laws.specs.OpenGenerators.{at_first_open}
use Rattle.ess_rules_folds.specs.Forms.{comp_parts, source_parts}
use Rattle.ess_rules_numbered.specs.declared.behind.Behind.{Behind}

-- ---- comprehensions

-- A comprehension whose first generator that isn't plain binds a name over a source: its body, what stands before that generator, the name,
-- the source, and what stands behind.
pub record BehindParts : Type 0 where
  pub body : Ex
  pub before : Gens
  pub name : Text
  pub source : Ex
  pub rest : Gens

abbrev pub behind_parts : Ex → Option BehindParts
behind_parts e = and_then (comp_parts e) (λ c. and_then (at_first_open c.1) (λ t. option_map
    (λ q. record { body = c.0; before = t.before; name = q.0; source = q.1; rest = q.2 }) (source_parts t.after)))

-- The same over another source.
abbrev pub with_source : BehindParts → Ex → Ex
with_source p l = comp_ex p.body (append_gens p.before (from (name_pat p.name) l p.rest))

-- What the parts of the code stand for.
abbrev pub pure_behind : Behind → BehindParts
pure_behind b = record {
  body = pure_node b.body.now;
  before = pure_gens b.before.now;
  name = b.name.now;
  source = pure_node b.source.now;
  rest = pure_gens b.rest.now;
}

-- ---- items

-- An item of a list: whether it is Boolean, the list and the index.
abbrev pub item_parts : Ex → Option (Bool × (Ex × Ex))
item_parts (node_ex b (index (by_value ∷ [])) (more_exs a (more_exs i no_exs))) = Some (b, (a, i))
item_parts e = None
