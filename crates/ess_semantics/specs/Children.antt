-- The domains of a representation's children as trees. They are parts of the domain itself, but for three kinds that keep a
-- value as a relation or a set: the child's domain has its sizes as attributes, whose numbers are expressions.
use Rattle.std.specs.Prelude.{◌≡◌, List, map, Some, IsTrue}
use Rattle.ess_semantics.specs.declared.words.ReprKind.{ReprKind}
use Rattle.ess_semantics.specs.Lists.{each_of}
use Rattle.ess_semantics.specs.Trees.{no_exs, Dom, set_dom, relation_dom}
use Rattle.ess_semantics.specs.Domains.{Domain}
use Rattle.ess_semantics.specs.Membership.{no_negative_attribute}
use Rattle.ess_semantics.specs.Kinds.{child_forms}
use Rattle.ess_semantics.specs.Layers.{Layer}
use Rattle.ess_semantics.specs.Representations.{layer}
use Rattle.ess_semantics.specs.Meaning.{Env, domain_of}

-- The child that a kind makes of a domain, without the numbers of its attributes.
abbrev pub without_sizes : ReprKind → Dom → Dom
without_sizes ReprKind.FunctionAsRelation (relation_dom ms es ds) = relation_dom ms no_exs ds
without_sizes ReprKind.RelationAsSet (set_dom ms es d) = set_dom ms no_exs d
without_sizes ReprKind.PartitionAsSet (set_dom ms es (set_dom ns fs d)) = set_dom ms no_exs (set_dom ns no_exs d)
without_sizes k d = d

-- These are the children of a kind over a domain: their attributes are the right ones, and under each env in which the
-- domain denotes one they denote those of its layer. Numbers are asked of where no attribute value is below 0, as in every
-- parameter.
pub record ChildrenAre (k : ReprKind) (d : Dom) (ds : List Dom) : Type 0 where
  pub forms : child_forms k d ≡ Some (map (without_sizes k) ds)
  pub denote : (env : Env) (e : Domain) (l : Layer) → domain_of d env ≡ Some e → layer k e ≡ Some l → IsTrue (no_negative_attribute e) →
      each_of ds (λ c. domain_of c env) ≡ Some l.children
