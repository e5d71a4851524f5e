-- Values that are kept as another value, by the parts of the view.
use Rattle.std.proofs.Common.{◌≡◌, refl, List, Some}
use Rattle.ess_semantics.specs.declared.words.ReprKind.{ReprKind}
use Rattle.ess_semantics.specs.Lists.{and_then}
use Rattle.ess_semantics.specs.Trees.{Repr, repr, no_reprs, more_reprs, Ex, Exs, seen_ex, Dom, function_dom, relation_dom, partition_dom}
use Rattle.ess_semantics.specs.Values.{Text}
use Rattle.ess_views_laws.specs.ChildViews.{kept_as}
use Rattle.ess_rules_kinds.specs.ViewParts.{NestedParts, nested, nested_view}
use Rattle.ess_rules_children.specs.Kept.{kept_dom}

-- By the parts of the view.
pub kept_by_parts : (e : Ex) → kept_as e ≡ and_then (nested e) (λ p. kept_as (nested_view p))
kept_by_parts (seen_ex (repr k (more_reprs r no_reprs)) d ns js) = refl
kept_by_parts (seen_ex (repr ReprKind.RelationAsSet no_reprs) d ns js) = refl
kept_by_parts (seen_ex (repr ReprKind.RelationAsSet (more_reprs r (more_reprs q rs))) d ns js) = refl
kept_by_parts (seen_ex (repr ReprKind.FunctionAsRelation no_reprs) d ns js) = refl
kept_by_parts (seen_ex (repr ReprKind.FunctionAsRelation (more_reprs r (more_reprs q rs))) d ns js) = refl
kept_by_parts (seen_ex (repr ReprKind.PartitionAsSet no_reprs) d ns js) = refl
kept_by_parts (seen_ex (repr ReprKind.PartitionAsSet (more_reprs r (more_reprs q rs))) d ns js) = refl
kept_by_parts e = refl

-- By the domain of the child.
kept-dom : (k : ReprKind) (r : Repr) (d : Dom) (ns : List Text) (js : Exs)
    → kept_as (seen_ex (repr k (more_reprs r no_reprs)) d ns js) ≡ and_then (kept_dom k d) (λ c. Some (seen_ex r c ns js))
kept-dom ReprKind.RelationAsSet r (relation_dom ms es ds) ns js = refl
kept-dom ReprKind.RelationAsSet r d ns js = refl
kept-dom ReprKind.FunctionAsRelation r (function_dom ms es d c) ns js = refl
kept-dom ReprKind.FunctionAsRelation r d ns js = refl
kept-dom ReprKind.PartitionAsSet r (partition_dom ms es d) ns js = refl
kept-dom ReprKind.PartitionAsSet r d ns js = refl
kept-dom k r d ns js = refl

-- The same of the view of parts.
pub kept_by_dom : (p : NestedParts)
    → kept_as (nested_view p) ≡ and_then (kept_dom p.kind p.dom) (λ c. Some (seen_ex p.child c p.cells p.at))
kept_by_dom p = kept-dom p.kind p.child p.dom p.cells p.at
