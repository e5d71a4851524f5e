-- The layers whose child is a relation or a set that is made of the domain.
use Rattle.std.proofs.Common.{◌≡◌, refl, sym, ap, ◌∙◌, subst, true, ◌&&◌, if◌then◌else◌, List, ℕ, Option, Some, option_map}
use Rattle.ess_semantics.specs.declared.words.Key.{Key}
use Rattle.ess_semantics.specs.declared.words.ReprKind.{ReprKind}
use Rattle.ess_semantics.specs.Lists.{or_else}
use Rattle.ess_semantics.specs.Domains.{Attribute, Domain, relations, partitions, attribute, has}
use Rattle.ess_semantics.specs.Membership.{no_negative_attribute, each_layer_of_all}
use Rattle.ess_semantics.specs.Sizes.{bound, size_attributes, pair_sizes}
use Rattle.ess_semantics.specs.Trees.{Mark, Exs, Dom, Doms, function_dom, relation_dom, partition_dom}
use Rattle.ess_semantics.specs.Layers.{Layer}
use Rattle.ess_semantics.specs.Representations.{layer}
use Rattle.ess_semantics.specs.FunctionLayers.{function_as_relation_layer}
use Rattle.ess_semantics.specs.RelationLayers.{relation_as_set_layer}
use Rattle.ess_semantics.specs.PartitionLayers.{partition_as_set_layer}
use Rattle.ess_semantics.specs.Meaning.{Env, meanings, attributes_of, domain_of, domains_of}
use Rattle.ess_semantics.proofs.Tests.{and-left, and-right, and-both}
use Rattle.ess_repr_declare_laws.proofs.SizeNumbers.{mapped, chained, not_below}
use Rattle.ess_repr_declare_laws.proofs.ChildTrees.{sets-are, pairs-are, part-is, parts-are}
use Rattle.ess_repr_declare_laws.proofs.ChildSizes.{Whole}
use Rattle.ess_repr_declare_laws.proofs.ChildDomainsDenoted.{SetOf, set-of, FunctionOf, function-of, pairs-are-denoted, tuples-are-denoted, parts-are-denoted}
use Rattle.ess_repr_members_laws.specs.Fields.{Fielded, AllFielded}
use Rattle.ess_repr_members_laws.proofs.LayerParts.{sizes-plain, pairs-plain, LaidOut}

-- A function is kept as the relation of its pairs, a relation as the set of its tuples, a partition as the set of its parts.
pub function_as_relation-laid : (env : Env) (ms : List Mark) (es : Exs) (d c : Dom) (e : Domain) → Whole ms es →
    Fielded (function_dom ms es d c) →
    domain_of (function_dom ms es d c) env ≡ Some e → no_negative_attribute e ≡ true →
    LaidOut env ReprKind.FunctionAsRelation (function_dom ms es d c) e
function_as_relation-laid env ms es d c e w g h n =
    let f : FunctionOf ms es d c env e = function-of ms es d c env e h in
    let p : (not_below f.keys && no_negative_attribute f.first) && no_negative_attribute f.second ≡ true =
    ap no_negative_attribute f.whole ∙ n in
    let q : not_below f.keys && no_negative_attribute f.first ≡ true =
    and-left (not_below f.keys && no_negative_attribute f.first) (no_negative_attribute f.second) p in
    let o : Layer = function_as_relation_layer f.keys f.first f.second in
    record {
      over = o;
      there = ap (λ x. layer ReprKind.FunctionAsRelation x) (sym f.whole);
      own = λ out. tt;
      axes = refl;
      frees = refl;
      children = pairs-are-denoted ms es d c w env e o h (ap (λ x. layer ReprKind.FunctionAsRelation x) (sym f.whole)) n;
      plain = (
        and-both (not_below (pair_sizes f.keys f.first)) (no_negative_attribute f.first && (no_negative_attribute f.second && true))
            (pairs-plain f.keys f.first)
            (and-both (no_negative_attribute f.first) (no_negative_attribute f.second && true)
            (and-right (not_below f.keys) (no_negative_attribute f.first) q)
            (and-both (no_negative_attribute f.second) true
            (and-right (not_below f.keys && no_negative_attribute f.first) (no_negative_attribute f.second) p) refl)),
        tt,
      );
      fielded = (subst Fielded (sym (pairs-are ms es d c)) (g.0, (g.1, tt)), tt);
      named = tt;
    }

pub relation_as_set-laid : (env : Env) (ms : List Mark) (es : Exs) (ts : Doms) (e : Domain) → AllFielded ts →
    domain_of (relation_dom ms es ts) env ≡ Some e →
    no_negative_attribute e ≡ true → LaidOut env ReprKind.RelationAsSet (relation_dom ms es ts) e
relation_as_set-laid env ms es ts e g h n =
    let c = chained (attributes_of ms (meanings es env)) (λ ks. option_map (relations ks) (domains_of ts env)) e h in
    let m = mapped (relations c.0) (domains_of ts env) e c.2 in
    let p : not_below c.0 && each_layer_of_all not_below m.0 ≡ true = ap no_negative_attribute m.2 ∙ n in
    let o : Layer = relation_as_set_layer c.0 m.0 in
    let s : List Attribute = size_attributes (attribute Key.Size c.0) (attribute Key.MinSize c.0) (attribute Key.MaxSize c.0) in
    record {
      over = o;
      there = ap (λ x. layer ReprKind.RelationAsSet x) (sym m.2);
      own = λ out. tt;
      axes = refl;
      frees = refl;
      children = tuples-are-denoted ms es ts env e o h (ap (λ x. layer ReprKind.RelationAsSet x) (sym m.2)) n;
      plain = (
        and-both (not_below s) (each_layer_of_all not_below m.0)
            (sizes-plain (attribute Key.Size c.0) (attribute Key.MinSize c.0) (attribute Key.MaxSize c.0))
            (and-right (not_below c.0) (each_layer_of_all not_below m.0) p),
        tt,
      );
      fielded = (subst Fielded (sym (sets-are ms es ts)) g, tt);
      named = tt;
    }

pub partition_as_set-laid : (env : Env) (ms : List Mark) (es : Exs) (d : Dom) (e : Domain) → Whole ms es → Fielded d →
    domain_of (partition_dom ms es d) env ≡ Some e →
    no_negative_attribute e ≡ true → LaidOut env ReprKind.PartitionAsSet (partition_dom ms es d) e
partition_as_set-laid env ms es d e w g h n =
    let s : SetOf partitions ms es d env e = set-of partitions ms es d env e h in
    let p : not_below s.keys && no_negative_attribute s.inner ≡ true = ap no_negative_attribute s.whole ∙ n in
    let o : Layer = partition_as_set_layer s.keys s.inner in
    let most : Option ℕ =
    if has Key.NumParts s.keys then attribute Key.MaxNumParts s.keys else or_else (attribute Key.MaxNumParts s.keys)
    (Some (bound s.inner)) in
    let u : List Attribute = size_attributes (attribute Key.NumParts s.keys) (attribute Key.MinNumParts s.keys) most in
    let v : List Attribute = size_attributes (attribute Key.PartSize s.keys) (attribute Key.MinPartSize s.keys)
    (attribute Key.MaxPartSize s.keys) in
    record {
      over = o;
      there = ap (λ x. layer ReprKind.PartitionAsSet x) (sym s.whole);
      own = λ out. tt;
      axes = refl;
      frees = refl;
      children = parts-are-denoted ms es d w env e o h (ap (λ x. layer ReprKind.PartitionAsSet x) (sym s.whole)) n;
      plain = (
        and-both (not_below u) (not_below v && no_negative_attribute s.inner)
            (sizes-plain (attribute Key.NumParts s.keys) (attribute Key.MinNumParts s.keys) most)
            (and-both (not_below v) (no_negative_attribute s.inner)
            (sizes-plain (attribute Key.PartSize s.keys) (attribute Key.MinPartSize s.keys) (attribute Key.MaxPartSize s.keys))
            (and-right (not_below s.keys) (no_negative_attribute s.inner) p)),
        tt,
      );
      fielded = (subst Fielded (sym (parts-are ms es d)) (subst Fielded (sym (part-is ms es d)) g), tt);
      named = tt;
    }
