-- A component of a view of a tuple, and a field of a view of a record, keeps its meaning as the view of the child.
use Rattle.std.specs.Prelude.{◌≡◌, Bool, true, Option, Some, None, IsTrue}
use Rattle.ess_semantics.specs.Trees.{Reprs, repr, Ex, node_ex, seen_ex, no_exs, more_exs, tuple_dom, record_dom}
use Rattle.ess_semantics.specs.Domains.{Domains, domain_list}
use Rattle.ess_semantics.specs.Meaning.{Env, domains_of}
use Rattle.ess_semantics.specs.Kept.{Keeps}
use Rattle.ess_repr_laws.specs.Rooms.{AllCovered}
use Rattle.ess_rules_laws.specs.FunctionKeys.{fits_mark}
use Rattle.ess_views_laws.specs.ComponentViews.{component_view}

-- Whether a view may stand where a truth value is asked, if one is.
abbrev pub fits_place : Bool → Ex → Bool
fits_place b (seen_ex r d ns js) = fits_mark b d
fits_place b f = true

-- So it is in the place of a node.
abbrev pub FitsMark : Ex → Ex → Type 0
FitsMark (node_ex b op es) f = IsTrue (fits_place b f)
FitsMark e f = Unit {0}

-- Each child's kinds are ones for its domain, so that it has as many tables as its representation says.
abbrev pub CoveredOver : Reprs → Option Domains → Type 0
CoveredOver rs None = Unit {0}
CoveredOver rs (Some ds) = AllCovered rs (domain_list ds)

-- So it is of the view of which a component or a field is taken.
abbrev pub ChildrenCovered : Ex → Env → Type 0
ChildrenCovered (node_ex b op (more_exs (seen_ex (repr k rs) (tuple_dom ds) ns js) no_exs)) env = CoveredOver rs (domains_of ds env)
ChildrenCovered (node_ex b op (more_exs (seen_ex (repr k rs) (record_dom fs ds) ns js) no_exs)) env = CoveredOver rs (domains_of ds env)
ChildrenCovered e env = Unit {0}

-- Where the tables meet the structure of the view, the component means what the view of the child does, and they meet its structure.
abbrev pub ComponentViewsKeep : Type 0
ComponentViewsKeep = (e f : Ex) → component_view e ≡ Some f → FitsMark e f → (env : Env) → ChildrenCovered e env → Keeps e f env
