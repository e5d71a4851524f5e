-- What the headers of the code stand for, and what is left of representations.
use Rattle.std.specs.Prelude.{Bool, false, ◌&&◌, List, map, Option, Some, None}
use Rattle.std.specs.List.{list_all}
use denote.Bor.{Bor}
use Rattle.ess_semantics.specs.Names.{Names}
use Rattle.ess_semantics.specs.Lists.{append_all}
use Rattle.ess_semantics.specs.Values.{Text}
use Rattle.ess_semantics.specs.Order.{same_text}
use Rattle.ess_semantics.specs.Kinds.{fits}
use Rattle.ess_semantics.specs.Trees.{Repr, Dom, Stm}
use Rattle.ess_semantics.specs.Plans.{domain_of_stm}
use Rattle.ess_semantics.specs.ModelTrees as pure
use Rattle.ess_core.specs.TreeViews.{pure_repr}
use Rattle.ess_core.specs.StatementViews.{pure_spec}
use Rattle.ess_parse.specs.declared.representations.named.NamedReprs.{NamedReprs}
use Rattle.ess_parse.specs.NamedReprViews.{pure_named_reprs}
use Rattle.ess_translate_header_laws.specs.Headers.{are_reprs_of}
use Rattle.ess_translate_header.specs.declared.headers.Header.{Header}

-- The header.
abbrev pub pure_header : Header → pure.Header
pure_header h = record { statements = pure_spec h.spec.spec; reprs = map pure_named_reprs h.reprs }

-- Whether these names have the representations that are left, if there are any.
abbrev pub are_left : Names Dom → Option (Bor (List NamedReprs)) → Bool
are_left xs None = false
are_left xs (Some r) = are_reprs_of xs (map pure_named_reprs r.now)

-- Whether the representations are of exactly the givens and finds of these statements, in order, and fit their domains.
abbrev pub represent : List Stm → Names (List Repr) → Bool
represent ss rs = are_reprs_of (append_all (map domain_of_stm ss)) rs

-- Whether named representations are those of a name with its domain.
abbrev pub is_for : Text → Dom → NamedReprs → Bool
is_for a d n = same_text a n.name && list_all (λ r. fits (pure_repr r) d) n.trees
