-- What is kept for names, as the definitions have it.
use Rattle.std.specs.Prelude.{◌≡◌, List}
use Rattle.ess_semantics.specs.Values.{Text}
use Rattle.ess_semantics.specs.Names.{Names, look}
use Rattle.ess_semantics.specs.Trees as pure
use Rattle.ess_core_nodes.specs.declared.nodes.Node.{Node}
use Rattle.ess_core_nodes.specs.declared.nodes.NodeDom.{NodeDom}
use Rattle.ess_core_nodes.specs.NodeViews.{pure_node, pure_dom}
use Rattle.ess_types_names.specs.Maps.{newest_first}
use Rattle.ess_model_shown.specs.declared.shows.Shows.{Shows}
use Rattle.conjure_model_laws.specs.Shown as definition

-- Names with what stands for them, the newest first.
abbrev pub pure_names : List (Text × Node) → Names pure.Ex
pure_names = newest_first pure_node

-- Names with domains, the newest first.
abbrev pub pure_domains : List (Text × NodeDom) → Names pure.Dom
pure_domains = newest_first pure_dom

-- Both have the same for each name.
abbrev pub SameNames : {A : Type 0} → Names A → Names A → Type 0
SameNames xs ys = (a : Text) → look xs a ≡ look ys a

-- What stands in the place of names.
abbrev pub pure_shows : Shows → definition.Shows
pure_shows s = record {
  first = pure_names s.first;
  last = pure_names s.last;
  sizes = pure_names s.sizes;
  doms = pure_domains s.doms;
  next = s.next;
}

-- Both show the same, and go on with the same reserved name.
pub record SameShows (s t : definition.Shows) : Type 0 where
  pub first : SameNames s.first t.first
  pub last : SameNames s.last t.last
  pub sizes : SameNames s.sizes t.sizes
  pub doms : SameNames s.doms t.doms
  pub next : s.next ≡ t.next
