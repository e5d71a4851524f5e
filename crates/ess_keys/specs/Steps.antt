-- Generators with plain keys, one by one, trees in a row before others, and conjunctions.
use Rattle.std.specs.Prelude.{true, false, List, [], ◌∷◌, ◌++◌, map, Option, Some, None}
use Rattle.ess_semantics.specs.declared.words.Op2.{Op2}
use Rattle.ess_semantics.specs.declared.words.Fun.{Fun}
use Rattle.ess_semantics.specs.Lists.{and_then}
use Rattle.ess_semantics.specs.Trees.{binary, word, matrix_literal, Pat, Ex, Exs, node_ex, more_exs, Dom}
use Rattle.ess_core.specs.TreeViews.{Item, over_item, from_item, cond_item, gens_of}
use Rattle.ess_guard_forms.specs.PartForms.{both_operands}
use Rattle.ess_keys_laws.specs.Keyed.{Around, sure_key, entered, entered_any, one_operand, conjuncts, keyed, keyed_dom}

-- A generator over d, where its name has no key.
abbrev pub generator_left : Pat → Dom → Option Ex → List Item
generator_left p d (Some t) = []
generator_left p d None = over_item p d ∷ []

-- What is left of a generator or condition before others.
abbrev pub items_left : Around → Item → List Item → List Item
items_left c (over_item p d) gs = generator_left p (keyed_dom c d) (sure_key c p (keyed_dom c d) (gens_of gs))
items_left c (from_item p e) gs = from_item p (keyed c e) ∷ []
items_left c (cond_item e) gs = map cond_item (conjuncts c.origins (keyed c e))

-- What is known behind it.
abbrev pub behind_item : Around → Item → List Item → Around
behind_item c (over_item p d) gs = entered c p (keyed_dom c d) (sure_key c p (keyed_dom c d) (gens_of gs))
behind_item c (from_item p e) gs = entered_any c p
behind_item c (cond_item e) gs = c

-- What is left of several.
abbrev pub items_of : Around → List Item → List Item
items_of c [] = []
items_of c (g ∷ gs) = items_left c g gs ++ items_of (behind_item c g gs) gs

-- What is known behind them.
abbrev pub behind_items : Around → List Item → Around
behind_items c [] = c
behind_items c (g ∷ gs) = behind_items (behind_item c g gs) gs

-- Trees before others.
abbrev pub trees_before : List Ex → Exs → Exs
trees_before [] es = es
trees_before (x ∷ xs) es = more_exs x (trees_before xs es)

-- ---- conjunctions

-- Both sides of a conjunction.
abbrev pub sides : Ex → Option (Ex × Ex)
sides (node_ex true (binary Op2.And) es) = both_operands es
sides e = None

-- The items of a list.
abbrev pub list_items : Ex → Option Exs
list_items (node_ex false matrix_literal es) = Some es
list_items e = None

-- The items of a list under `and`.
abbrev pub items_under_and : Ex → Option Exs
items_under_and (node_ex true (word Fun.And) es) = and_then (one_operand es) list_items
items_under_and e = None
