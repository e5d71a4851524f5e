-- What the constructed children denote.
use Rattle.std.specs.Prelude.{IsTrue}
use Rattle.std.proofs.Common.{◌≡◌, refl, sym, ap, ◌∙◌, true, ◌&&◌, List, [], ◌∷◌, pos, Some, option_map}
use Rattle.ess_semantics.specs.declared.words.Key.{Key}
use Rattle.ess_semantics.specs.declared.words.ReprKind.{ReprKind}
use Rattle.ess_semantics.specs.Values.{Text}
use Rattle.ess_semantics.specs.Lists.{and_then, each_of}
use Rattle.ess_semantics.specs.Domains.{Attribute, Domain, Domains, booleans, integers, named, tuples, records, matrices, sets, msets, functions, relations, partitions, no_domains, more_domains, domain_list, attribute, has}
use Rattle.ess_semantics.specs.Membership.{no_negative_attribute, each_layer_of_all}
use Rattle.ess_semantics.specs.Sizes.{bound, size_attributes, pair_sizes, child_relation, child_set, child_parts}
use Rattle.ess_semantics.specs.Kinds.{dom_list}
use Rattle.ess_semantics.specs.Trees.{Mark, Exs, Dom, Doms, name_dom, tuple_dom, function_dom, relation_dom, partition_dom, no_doms, more_doms}
use Rattle.ess_semantics.specs.Layers.{Layer}
use Rattle.ess_semantics.specs.Representations.{layer}
use Rattle.ess_semantics.specs.Meaning.{Env, meanings, attributes_of, domain_of, domains_of}
use Rattle.ess_semantics.proofs.Tests.{and-left, and-right}
use Rattle.ess_repr_laws.specs.StructureParts.{tuple_set_dom}
use Rattle.ess_repr_laws.specs.ViewParts.{pair_relation_dom, part_dom, part_set_dom}
use Rattle.ess_repr_declare_laws.specs.SizeTerms.{number_of, bound_ex, size_terms}
use Rattle.ess_repr_declare_laws.specs.ChildDomains.{child_doms}
use Rattle.ess_repr_declare_laws.proofs.Readings.{Reads}
use Rattle.ess_repr_declare_laws.proofs.SizeNumbers.{mapped, chained, Numbered, not_below, numbers-are}
use Rattle.ess_repr_declare_laws.proofs.SizeMeaning.{bound-is}
use Rattle.ess_repr_declare_laws.proofs.ChildTrees.{three, sets-are, pairs_size, pairs_greatest, pairs-are, part-is, parts-are, three-attributes}
use Rattle.ess_repr_declare_laws.proofs.ChildSizes.{Known, pairs-denote, parts_by, parts-denote, Whole}

-- ---- the domains

-- The children of a layer that is known.
pub same-children : (l l' : Layer) → Some l ≡ Some l' → l.children ≡ l'.children
same-children l l' e = let q : l ≡ l' = cc in ap (λ x. x.children) q

pub at : (k : ReprKind) (e e' : Domain) (l l' : Layer) → e' ≡ e → layer k e' ≡ Some l' → layer k e ≡ Some l → l'.children ≡ l.children
at k e e' l l' p q r = same-children l' l (sym q ∙ ap (layer k) p ∙ r)

-- An only child.
pub only : (d : Dom) (env : Env) (x : Domain) → domain_of d env ≡ Some x → each_of (d ∷ []) (λ c. domain_of c env) ≡ Some (x ∷ [])
only d env x h = ap (λ o. and_then o (λ y. Some (y ∷ []))) h

pub several : (ds : Doms) (env : Env) (xs : Domains) → domains_of ds env ≡ Some xs → each_of (dom_list ds) (λ c. domain_of c env) ≡ Some (domain_list xs)
several no_doms env xs h = let q : no_domains ≡ xs = cc in ap (λ x. Some (domain_list x)) q
several (more_doms d ds) env xs h =
    let c = chained (domain_of d env) (λ x. option_map (more_domains x) (domains_of ds env)) xs h in
    let m = mapped (more_domains c.0) (domains_of ds env) xs c.2 in
    ap (λ o. and_then o (λ y. option_map (λ ys. y ∷ ys) (each_of (dom_list ds) (λ c. domain_of c env)))) c.1
    ∙ ap (option_map (λ ys. c.0 ∷ ys)) (several ds env m.0 m.1) ∙ ap (λ x. Some (domain_list x)) m.2

-- A named type has no children.
pub atom-children : (a : Text) (env : Env) (e : Domain) (l : Layer) → domain_of (name_dom a) env ≡ Some e → layer ReprKind.Atom e ≡ Some l → each_of [] (λ c. domain_of c env) ≡ Some l.children
atom-children a env booleans l h q = ap Some (same-children _ l q)
atom-children a env (integers ss) l h q = ap Some (same-children _ l q)
atom-children a env (named t n) l h q = ap Some (same-children _ l q)
atom-children a env (tuples xs) l h q = cc
atom-children a env (records fs xs) l h q = cc
atom-children a env (matrices is x) l h q = cc
atom-children a env (sets ks x) l h q = cc
atom-children a env (msets ks x) l h q = cc
atom-children a env (functions ks x y) l h q = cc
atom-children a env (relations ks xs) l h q = cc
atom-children a env (partitions ks x) l h q = cc

pub nd-children : (ks : List Attribute) (x y : Domain) (l : Layer) → layer ReprKind.FunctionND (functions ks x y) ≡ Some l → y ∷ [] ≡ l.children
nd-children ks booleans y l h = cc
nd-children ks (integers ss) y l h = cc
nd-children ks (named t n) y l h = cc
nd-children ks (tuples xs) y l h = same-children _ l h
nd-children ks (records fs xs) y l h = cc
nd-children ks (matrices is x) y l h = cc
nd-children ks (sets js x) y l h = cc
nd-children ks (msets js x) y l h = cc
nd-children ks (functions js x z) y l h = cc
nd-children ks (relations js xs) y l h = cc
nd-children ks (partitions js x) y l h = cc

pub nd-partial-children : (ks : List Attribute) (x y : Domain) (l : Layer) → layer ReprKind.FunctionNDPartial (functions ks x y) ≡ Some l → y ∷ [] ≡ l.children
nd-partial-children ks booleans y l h = cc
nd-partial-children ks (integers ss) y l h = cc
nd-partial-children ks (named t n) y l h = cc
nd-partial-children ks (tuples xs) y l h = same-children _ l h
nd-partial-children ks (records fs xs) y l h = cc
nd-partial-children ks (matrices is x) y l h = cc
nd-partial-children ks (sets js x) y l h = cc
nd-partial-children ks (msets js x) y l h = cc
nd-partial-children ks (functions js x z) y l h = cc
nd-partial-children ks (relations js xs) y l h = cc
nd-partial-children ks (partitions js x) y l h = cc

-- What is denoted of a set, a multiset, a function, a relation and a partition.
pub record SetOf (make : List Attribute → Domain → Domain) (ms : List Mark) (es : Exs) (d : Dom) (env : Env) (e : Domain) : Type 0 where
  pub keys : List Attribute
  pub inner : Domain
  pub denoted : attributes_of ms (meanings es env) ≡ Some keys
  pub part : domain_of d env ≡ Some inner
  pub whole : make keys inner ≡ e

pub set-of : (make : List Attribute → Domain → Domain) (ms : List Mark) (es : Exs) (d : Dom) (env : Env) (e : Domain) →
    and_then (attributes_of ms (meanings es env)) (λ ks. option_map (make ks) (domain_of d env)) ≡ Some e → SetOf make ms es d env e
set-of make ms es d env e h =
    let c = chained (attributes_of ms (meanings es env)) (λ ks. option_map (make ks) (domain_of d env)) e h in
    let m = mapped (make c.0) (domain_of d env) e c.2 in
    record { keys = c.0; inner = m.0; denoted = c.1; part = m.1; whole = m.2 }

pub record FunctionOf (ms : List Mark) (es : Exs) (d c : Dom) (env : Env) (e : Domain) : Type 0 where
  pub keys : List Attribute
  pub first : Domain
  pub second : Domain
  pub denoted : attributes_of ms (meanings es env) ≡ Some keys
  pub from : domain_of d env ≡ Some first
  pub to : domain_of c env ≡ Some second
  pub whole : functions keys first second ≡ e

pub function-of : (ms : List Mark) (es : Exs) (d c : Dom) (env : Env) (e : Domain) → domain_of (function_dom ms es d c) env ≡ Some e → FunctionOf ms es d c env e
function-of ms es d c env e h =
    let k = chained (attributes_of ms (meanings es env)) (λ ks. and_then (domain_of d env) (λ x. option_map (functions ks x) (domain_of c env))) e h in
    let x = chained (domain_of d env) (λ x. option_map (functions k.0 x) (domain_of c env)) e k.2 in
    let y = mapped (functions k.0 x.0) (domain_of c env) e x.2 in
    record { keys = k.0; first = x.0; second = y.0; denoted = k.1; from = x.1; to = y.1; whole = y.2 }

-- The children denote those of the layer.
abbrev pub Denote : ReprKind → Dom → Type 0
Denote k d = (env : Env) (e : Domain) (l : Layer) → domain_of d env ≡ Some e → layer k e ≡ Some l → IsTrue (no_negative_attribute e) →
    each_of (child_doms k d) (λ c. domain_of c env) ≡ Some l.children

pub pairs-are-denoted : (ms : List Mark) (es : Exs) (d c : Dom) → Whole ms es → Denote ReprKind.FunctionAsRelation (function_dom ms es d c)
pairs-are-denoted ms es d c w env e l h q n =
    let f : FunctionOf ms es d c env e = function-of ms es d c env e h in
    let p : (not_below f.keys && no_negative_attribute f.first) && no_negative_attribute f.second ≡ true = ap no_negative_attribute f.whole ∙ n in
    let a : not_below f.keys && no_negative_attribute f.first ≡ true = and-left (not_below f.keys && no_negative_attribute f.first) (no_negative_attribute f.second) p in
    let b : Reads (bound_ex d) env (pos (bound f.first)) = bound-is env d f.first f.from (and-right (not_below f.keys) (no_negative_attribute f.first) a) in
    let k : Known env ms es f.keys = record { denoted = f.denoted; plain = and-left (not_below f.keys) (no_negative_attribute f.first) a; right = w.right; full = w.full } in
    let t : List Mark × Exs = three (pairs_size ms es d) (number_of Key.MinSize ms es) (pairs_greatest ms es d) in
    only (pair_relation_dom size_terms ms es d c) env (child_relation f.keys f.first f.second)
    (ap (λ r. domain_of r env) (pairs-are ms es d c)
    ∙ ap (λ o. and_then o (λ ks. option_map (relations ks) (domains_of (more_doms d (more_doms c no_doms)) env))) (pairs-denote env ms es f.keys k d f.first b)
    ∙ ap (λ o. option_map (relations (pair_sizes f.keys f.first)) (and_then o (λ x. option_map (more_domains x) (domains_of (more_doms c no_doms) env)))) f.from
    ∙ ap (λ o. option_map (relations (pair_sizes f.keys f.first)) (option_map (more_domains f.first) (and_then o (λ x. Some (more_domains x no_domains))))) f.to)
    ∙ ap Some (at ReprKind.FunctionAsRelation e (functions f.keys f.first f.second) l _ f.whole refl q)

pub tuples-are-denoted : (ms : List Mark) (es : Exs) (ts : Doms) → Denote ReprKind.RelationAsSet (relation_dom ms es ts)
tuples-are-denoted ms es ts env e l h q n =
    let c = chained (attributes_of ms (meanings es env)) (λ ks. option_map (relations ks) (domains_of ts env)) e h in
    let m = mapped (relations c.0) (domains_of ts env) e c.2 in
    let p : not_below c.0 && each_layer_of_all not_below m.0 ≡ true = ap no_negative_attribute m.2 ∙ n in
    let u : not_below c.0 ≡ true = and-left (not_below c.0) (each_layer_of_all not_below m.0) p in
    let t : List Mark × Exs = three (number_of Key.Size ms es) (number_of Key.MinSize ms es) (number_of Key.MaxSize ms es) in
    only (tuple_set_dom ms es ts) env (child_set c.0 m.0)
    (ap (λ r. domain_of r env) (sets-are ms es ts)
    ∙ ap (λ o. and_then o (λ ks. option_map (sets ks) (domain_of (tuple_dom ts) env)))
    (three-attributes env (number_of Key.Size ms es) (number_of Key.MinSize ms es) (number_of Key.MaxSize ms es) (attribute Key.Size c.0) (attribute Key.MinSize c.0) (attribute Key.MaxSize c.0)
    (numbers-are env Key.Size ms es c.0 c.1 u) (numbers-are env Key.MinSize ms es c.0 c.1 u) (numbers-are env Key.MaxSize ms es c.0 c.1 u))
    ∙ ap (λ o. option_map (sets (size_attributes (attribute Key.Size c.0) (attribute Key.MinSize c.0) (attribute Key.MaxSize c.0))) (option_map tuples o)) m.1)
    ∙ ap Some (at ReprKind.RelationAsSet e (relations c.0 m.0) l _ m.2 refl q)

pub parts-are-denoted : (ms : List Mark) (es : Exs) (d : Dom) → Whole ms es → Denote ReprKind.PartitionAsSet (partition_dom ms es d)
parts-are-denoted ms es d w env e l h q n =
    let s : SetOf partitions ms es d env e = set-of partitions ms es d env e h in
    let p : not_below s.keys && no_negative_attribute s.inner ≡ true = ap no_negative_attribute s.whole ∙ n in
    let u : not_below s.keys ≡ true = and-left (not_below s.keys) (no_negative_attribute s.inner) p in
    let b : Reads (bound_ex d) env (pos (bound s.inner)) = bound-is env d s.inner s.part (and-right (not_below s.keys) (no_negative_attribute s.inner) p) in
    let k : Known env ms es s.keys = record { denoted = s.denoted; plain = u; right = w.right; full = w.full } in
    let N : (j : Key) → Numbered env (number_of j ms es) (attribute j s.keys) = λ j. numbers-are env j ms es s.keys s.denoted u in
    let inner : domain_of (part_dom ms es d) env ≡ Some (sets (size_attributes (attribute Key.PartSize s.keys) (attribute Key.MinPartSize s.keys) (attribute Key.MaxPartSize s.keys)) s.inner) =
    ap (λ r. domain_of r env) (part-is ms es d)
    ∙ ap (λ o. and_then o (λ ks. option_map (sets ks) (domain_of d env)))
    (three-attributes env (number_of Key.PartSize ms es) (number_of Key.MinPartSize ms es) (number_of Key.MaxPartSize ms es) (attribute Key.PartSize s.keys) (attribute Key.MinPartSize s.keys) (attribute Key.MaxPartSize s.keys)
    (N Key.PartSize) (N Key.MinPartSize) (N Key.MaxPartSize))
    ∙ ap (λ o. option_map (sets (size_attributes (attribute Key.PartSize s.keys) (attribute Key.MinPartSize s.keys) (attribute Key.MaxPartSize s.keys))) o) s.part in
    only (part_set_dom size_terms ms es d) env (child_parts s.keys s.inner)
    (ap (λ r. domain_of r env) (parts-are ms es d)
    ∙ ap (λ o. and_then o (λ ks. option_map (sets ks) (domain_of (part_dom ms es d) env))) (parts-denote env ms es s.keys k d s.inner b)
    ∙ ap (λ o. option_map (sets (parts_by (has Key.NumParts s.keys) s.keys (bound s.inner))) o) inner)
    ∙ ap Some (at ReprKind.PartitionAsSet e (partitions s.keys s.inner) l _ s.whole refl q)
