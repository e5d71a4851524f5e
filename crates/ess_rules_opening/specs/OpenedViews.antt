-- What the code takes apart, as the definitions have it.
use Rattle.std.specs.Prelude.{ℕ, Bool, true, false, Option, Some, None}
use Rattle.ess_semantics.specs.declared.words.Fun.{Fun}
use Rattle.ess_semantics.specs.Values.{Text}
use Rattle.ess_semantics.specs.Types.{Ty}
use Rattle.ess_semantics.specs.Trees.{Pat, Pats, tuple_pat, Ex, name_ex, comp_ex, Gens, no_gens, from, fun1}
use Rattle.ess_core.specs.TreeViews.{Item, over_item, from_item, cond_item}
use Rattle.ess_core_nodes.specs.NodeViews.{pure_node, pure_gens}
use Rattle.ess_rules_laws.specs.ComponentRules.{component_of}
use Rattle.ess_open_rules_laws.specs.OpenGenerators as pure
use Rattle.ess_open_rules_laws.specs.OpenGenerators.{is_plain_over}
use Rattle.ess_rules_opening.specs.declared.gens.Opened.{Opened}
use Rattle.ess_rules_opening.specs.declared.forms.CompWord.{CompWord}

-- What generators in two parts stand for.
abbrev pub pure_opened : Opened → pure.Opened
pure_opened t = record { before = pure_gens t.before.now; after = pure_gens t.after.now }

-- Whether the item is a condition, or a name over the domain of an atom.
abbrev pub is_plain_item : Item → Bool
is_plain_item (over_item p d) = is_plain_over p d
is_plain_item (from_item p e) = false
is_plain_item (cond_item c) = true

-- A function word of a comprehension: whether it is Boolean, the word, the body and the generators.
pub record WordParts : Type 0 where
  pub mark : Bool
  pub fun : Fun
  pub body : Ex
  pub gens : Gens

abbrev pub comp_word : Ex → Option WordParts
comp_word (fun1 m f (comp_ex e gs)) = Some (record { mark = m; fun = f; body = e; gens = gs })
comp_word e = None

-- What its parts in the code stand for.
abbrev pub pure_comp_word : CompWord → WordParts
pure_comp_word w = record { mark = w.mark; fun = w.fun; body = pure_node w.body.now; gens = pure_gens w.gens.now }

-- ---- patterns

-- The patterns of a tuple.
abbrev pub tuple_pats : Pat → Option Pats
tuple_pats (tuple_pat ps) = Some ps
tuple_pats p = None

-- A generator for a pattern over the k-th component of z alone, before others.
abbrev pub component_bound : Text → ℕ → Pat → Ty → Gens → Gens
component_bound z k p t gs = from p (comp_ex (component_of t k (name_ex z)) no_gens) gs
