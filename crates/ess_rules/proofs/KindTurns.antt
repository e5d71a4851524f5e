-- Each rule of kinds that fires is one of all rules.
use Rattle.std.proofs.Common.{◌≡◌, refl, subst, true, false, List, Option, Some}
use Rattle.std.specs.Prelude.{option_map}
use Rattle.ess_semantics.specs.Names.{Names}
use Rattle.ess_semantics.specs.Trees.{Ex}
use Rattle.ess_semantics.specs.Types.{Ty}
use Rattle.ess_core_nodes.specs.declared.nodes.Node.{Node}
use Rattle.ess_core_nodes.specs.NodeViews.{pure_node}
use Rattle.ess_refine_laws.specs.AllRules.{Supply}
use Rattle.ess_open_rules_laws.specs.OpenRules.{KindRuling}
use Rattle.ess_kind_rules.specs.Kinds.{IsOfKind}
use Rattle.ess_kind_rules.specs.AskedKinds.{sources_asked}
use Rattle.ess_rules.specs.Ruled.{Ruling, by_kind}
use Rattle.ess_rules.specs.Supplies.{IsRewritten, IsSourced}

-- One that puts no source in.
pub of_kinds : (asked : List Ruling) (rs : List KindRuling) (s : Supply) (g : Names Ty) (a : Ex) (o : Option Node) (x : Node)
    → IsOfKind false rs s g a (option_map pure_node o) → o ≡ Some x → IsRewritten asked s g a (Some (pure_node x))
of_kinds asked rs s g a o x h e =
    let u : IsOfKind false rs s g a (Some (pure_node x)) = subst (λ v. IsOfKind false rs s g a (option_map pure_node v)) e h in
    (by_kind u.0, u.1, λ j. refl, tt, u.2)

-- One that does.
pub of_sources : (s : Supply) (g : Names Ty) (a : Ex) (o : Option Node) (x : Node)
    → IsOfKind true sources_asked s g a (option_map pure_node o) → o ≡ Some x → IsSourced s g a (Some (pure_node x))
of_sources s g a o x h e =
    let u : IsOfKind true sources_asked s g a (Some (pure_node x)) =
    subst (λ v. IsOfKind true sources_asked s g a (option_map pure_node v)) e h in
    (by_kind u.0, u.1, λ j e. refl, λ e. tt, u.2)
