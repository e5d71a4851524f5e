-- Views that are kept as another value, and the child's view.
use Rattle.std.proofs.Common.{◌≡◌, refl, sym, ap, ◌∙◌, subst, ◌≤◌, true, false, ◌&&◌, List, [], ◌∷◌, ◌++◌, take, length, ℤ, Option, Some, None, option_map, arith}
use Rattle.std.specs.Prelude.{IsTrue}
use Rattle.ess_semantics.specs.declared.words.ReprKind.{ReprKind}
use Rattle.ess_semantics.specs.Lists.{and_then, is_some_and, only_of}
use Rattle.ess_semantics.specs.Values.{Text, Value}
use Rattle.ess_semantics.specs.Trees.{Repr, repr, no_reprs, more_reprs, Ex, Exs, seen_ex, Dom, function_dom, relation_dom, partition_dom}
use Rattle.ess_semantics.specs.Domains.{Attribute, Domain, Domains, functions, relations, partitions}
use Rattle.ess_semantics.specs.Membership.{member}
use Rattle.ess_semantics.specs.Operators.{false_where_undefined}
use Rattle.ess_semantics.specs.Sizes.{child_set, child_relation, child_parts}
use Rattle.ess_semantics.specs.Tables.{Tables}
use Rattle.ess_semantics.specs.Cells.{Cells, behind, cells_at}
use Rattle.ess_semantics.specs.Layers.{only_child}
use Rattle.ess_semantics.specs.FunctionLayers.{function_from}
use Rattle.ess_semantics.specs.RelationLayers.{relation_from}
use Rattle.ess_semantics.specs.PartitionLayers.{partition_from}
use Rattle.ess_semantics.specs.Representations.{layer, width, value_of_cells, value_of_tables, values_of_children}
use Rattle.ess_semantics.specs.Declarations.{under, declarations_below, axes_of}
use Rattle.ess_semantics.specs.Tidy.{over_axes, is_orderly, tidy}
use Rattle.ess_semantics.specs.Meaning.{Env, meaning, meanings, attributes_of, domain_of, domains_of, indices, tables_in, is_bool_dom, seen_in}
use Rattle.ess_semantics.specs.Meets.{Meets, MeetsAll, tidy_in}
use Rattle.ess_semantics.proofs.Tests.{and-left, and-right, some-and}
use Rattle.ess_repr_laws.proofs.Behind.{behind-none}
use Rattle.ess_repr_laws.proofs.StructureTuples.{under-none}
use Rattle.ess_repr_laws.specs.StructureParts.{tuple_set_dom}
use Rattle.ess_repr_laws.specs.ViewParts.{pair_relation_dom, part_set_dom}
use Rattle.ess_repr_declare_laws.specs.SizeTerms.{size_terms}
use Rattle.ess_rules_laws.proofs.SlotSets.{orderly_in}
use Rattle.ess_rules_laws.proofs.TablesOfViews.{axes_in, axes-long, tables-short, over-long, take-all, cells-long}
use Rattle.ess_views_laws.specs.ChildViews.{kept_as}
use Rattle.ess_views_kept_laws.specs.ChildrenKept.{ChildKnown}
use Rattle.ess_views_kept_laws.proofs.ComponentViews.{view-of}
use Rattle.ess_views_kept_laws.proofs.SideBySide.{values-split}
use Rattle.ess_views_kept_laws.proofs.SameMembers.{SameMembers, relation-turns, function-turns, partition-turns}

no : {A : Type 0} → false ≡ true → A
no h = cc

-- ---- a view and its child

-- A view and the child's view have the same members.
pub record KeptChild (e c : Ex) (env : Env) : Type 0 where
  pub value : Value
  pub child_value : Value
  pub same : SameMembers value child_value
  pub means : meaning e env ≡ Some value
  pub child_means : meaning c env ≡ Some child_value
  pub met : Meets c env

append-none : {A : Type 0} (xs : List A) → xs ++ [] ≡ xs
append-none [] = refl
append-none (x ∷ xs) = ap (λ l. x ∷ l) (append-none xs)

only-one : (o : Option Domain) (c : Domain) → option_map (λ x. x ∷ []) o ≡ Some (c ∷ []) → o ≡ Some c
only-one None c q = cc
only-one (Some x) c q = let e : x ∷ [] ≡ c ∷ [] = cc in ap Some (let z : x ≡ c = cc in z)

module _ (k : ReprKind) (r : Repr) (pd cd : Dom) (ns : List Text) (js : Exs) (env : Env) (no-bool : is_bool_dom pd ≡ false)
    (child-no-bool : is_bool_dom cd ≡ false) where
  abbrev R : Repr
  R = repr k (more_reprs r no_reprs)

  abbrev View : Ex
  View = seen_ex R pd ns js

  abbrev Child : Ex
  Child = seen_ex r cd ns js

  -- The domain, tables and numbers of a view whose structure is met.
  record Opened : Type 0 where
    pub d : Domain
    pub ts : Tables
    pub i : List ℤ
    pub domain_is : domain_of pd env ≡ Some d
    pub tables_are : tables_in env.cells ns ≡ Some ts
    pub index_is : indices (meanings js env) ≡ Some i
    pub is_tidy : tidy R d ts i ≡ true

  open-parts : (o : Option Domain) (t : Option Tables) (i : Option (List ℤ)) → domain_of pd env ≡ o → tables_in env.cells ns ≡ t →
      indices (meanings js env) ≡ i → IsTrue (tidy_in R o t i) → Opened
  open-parts (Some d) (Some ts) (Some i) p q s h =
      record { d = d; ts = ts; i = i; domain_is = p; tables_are = q; index_is = s; is_tidy = h }
  open-parts (Some d) (Some ts) None p q s h = no h
  open-parts (Some d) None i p q s h = no h
  open-parts None t i p q s h = no h

  opened : Meets View env → Opened
  opened m = open-parts (domain_of pd env) (tables_in env.cells ns) (indices (meanings js env)) refl refl refl m.0

  module _ (D C : Domain) (from : Value → Option Value)
      (value-is : (c : Cells) → value_of_cells R D c ≡
      and_then (values_of_children (more_reprs r no_reprs) (C ∷ []) c ([] ∷ [])) (λ vss. and_then (only_of (only_child vss)) from))
      (orderly-is : (c : Cells) → is_orderly R D c ≡ true → orderly_in r C c [] ≡ true)
      (axes-are : axes_of R D ≡ axes_in (under [] (declarations_below false r C) ++ []))
      (children-are : option_map (λ l. l.children) (layer k D) ≡ Some (C ∷ []))
      (turns : (v w : Value) → member C v ≡ true → from v ≡ Some w → SameMembers w v)
      (o : Opened) (is-d : o.d ≡ D) (known : ChildKnown View Child env) (mj : MeetsAll false js env) where
    domain-is : domain_of pd env ≡ Some D
    domain-is = o.domain_is ∙ ap Some is-d

    child-is : domain_of cd env ≡ Some C
    child-is = only-one (domain_of cd env) C (known.denoted
        ∙ ap (λ z. and_then z (λ e. option_map (λ l. l.children) (layer k e))) domain-is ∙ children-are)

    is-tidy : tidy R D o.ts o.i ≡ true
    is-tidy = ap (λ z. tidy R z o.ts o.i) (sym is-d) ∙ o.is_tidy

    over : over_axes o.i (axes_of r C) o.ts ≡ true
    over = ap (λ l. over_axes o.i (axes_in l) o.ts) (sym (append-none (under [] (declarations_below false r C))
        ∙ under-none (declarations_below false r C)))
        ∙ ap (λ l. over_axes o.i l o.ts) (sym axes-are) ∙ and-left _ _ is-tidy

    short : length o.ts ≤ width r
    short = let a = over-long o.i (axes_of r C) o.ts over in
        let b = axes-long (declarations_below false r C) in let c = tables-short false r C in omega arith

    cells-are : behind [] (take (width r) (cells_at o.ts o.i)) ≡ cells_at o.ts o.i
    cells-are = behind-none (take (width r) (cells_at o.ts o.i))
        ∙ take-all (width r) (cells_at o.ts o.i) (let e = cells-long o.ts o.i in let h = short in omega arith)

    cells-tidy : is_some_and (value_of_tables R D o.ts o.i) (member D) && is_orderly R D (cells_at o.ts o.i) ≡ true
    cells-tidy = and-right (over_axes o.i (axes_of R D) o.ts) _ is-tidy

    found : (w : Value) × (value_of_tables R D o.ts o.i ≡ Some w) × (member D w ≡ true)
    found = some-and (value_of_tables R D o.ts o.i) (member D) (and-left _ _ cells-tidy)

    -- The child's value, of which the view's is made.
    record Made : Type 0 where
      pub v : Value
      pub there : value_of_tables r C o.ts o.i ≡ Some v
      pub from_it : from v ≡ Some found.0

    made : Made
    made = go (values_of_children (more_reprs r no_reprs) (C ∷ []) (cells_at o.ts o.i) ([] ∷ [])) refl
        (sym (value-is (cells_at o.ts o.i)) ∙ found.1)
      where
        go : (p : Option (List (List Value))) → values_of_children (more_reprs r no_reprs) (C ∷ []) (cells_at o.ts o.i) ([] ∷ []) ≡ p →
            and_then p (λ vss. and_then (only_of (only_child vss)) from) ≡ Some found.0 → Made
        go None e q = cc
        go (Some vss) e q = let s = values-split (value_of_cells r C (behind [] (take (width r) (cells_at o.ts o.i)))) (Some []) vss e in
            let last : vss ≡ (s.0 ∷ []) ∷ [] = s.4 ∙ ap (λ l. (s.0 ∷ []) ∷ l) (let z : s.1 ≡ [] = cc in z) in record {
              v = s.0;
              there = ap (value_of_cells r C) (sym cells-are) ∙ s.2;
              from_it = sym (ap (λ l. and_then (only_of (only_child l)) from) last) ∙ q;
            }

    child-means : meaning Child env ≡ Some made.v
    child-means =
        ap (λ b. false_where_undefined b (seen_in r (domain_of cd env) (tables_in env.cells ns) (indices (meanings js env)))) child-no-bool
        ∙ ap (λ z. seen_in r z (tables_in env.cells ns) (indices (meanings js env))) child-is
        ∙ ap (λ z. seen_in r (Some C) z (indices (meanings js env))) o.tables_are
        ∙ ap (seen_in r (Some C) (Some o.ts)) o.index_is ∙ made.there

    typed : member C made.v ≡ true
    typed = sym (ap (λ z. is_some_and z (λ e. is_some_and (meaning Child env) (member e))) child-is
        ∙ ap (λ z. is_some_and z (member C)) child-means) ∙ known.held.0

    view-means : meaning View env ≡ Some found.0
    view-means =
        ap (λ b. false_where_undefined b (seen_in R (domain_of pd env) (tables_in env.cells ns) (indices (meanings js env)))) no-bool
        ∙ ap (λ z. seen_in R z (tables_in env.cells ns) (indices (meanings js env))) domain-is
        ∙ ap (λ z. seen_in R (Some D) z (indices (meanings js env))) o.tables_are
        ∙ ap (seen_in R (Some D) (Some o.ts)) o.index_is ∙ found.1

    kept : KeptChild View Child env
    kept = record {
      value = found.0;
      child_value = made.v;
      same = turns made.v found.0 typed made.from_it;
      means = view-means;
      child_means = child-means;
      met = (view-of r cd ns js env C o.ts o.i made.v child-is o.tables_are o.index_is made.there typed over
          (ap (is_orderly r C) (sym cells-are) ∙ orderly-is (cells_at o.ts o.i) (and-right _ _ cells-tidy)) known.held.1 mj).met;
    }

-- ---- the three kinds

-- The child's view, where there is one.
abbrev KeptAnswer : Option Ex → Ex → Env → Type 0
KeptAnswer None e env = Unit {0}
KeptAnswer (Some c) e env = ChildKnown e c env → Meets e env → KeptChild e c env

pub relation-parts : (a : Option (List Attribute)) (p : Option Domains) (d : Domain) →
    and_then a (λ ks. option_map (relations ks) p) ≡ Some d → (ks : List Attribute) × (ds : Domains) × (d ≡ relations ks ds)
relation-parts None p d q = cc
relation-parts (Some ks) None d q = cc
relation-parts (Some ks) (Some ds) d q = (ks, ds, sym (let z : relations ks ds ≡ d = cc in z))

pub partition-parts : (a : Option (List Attribute)) (p : Option Domain) (d : Domain) →
    and_then a (λ ks. option_map (partitions ks) p) ≡ Some d →
    (ks : List Attribute) × (x : Domain) × (d ≡ partitions ks x) × (p ≡ Some x)
partition-parts None p d q = cc
partition-parts (Some ks) None d q = cc
partition-parts (Some ks) (Some x) d q = (ks, x, sym (let z : partitions ks x ≡ d = cc in z), refl)

pub function-parts : (a : Option (List Attribute)) (o p : Option Domain) (d : Domain) →
    and_then a (λ ks. and_then o (λ x. option_map (functions ks x) p)) ≡ Some d →
    (ks : List Attribute) × (x : Domain) × (y : Domain) × (d ≡ functions ks x y)
function-parts None o p d q = cc
function-parts (Some ks) None p d q = cc
function-parts (Some ks) (Some x) None d q = cc
function-parts (Some ks) (Some x) (Some y) d q = (ks, x, y, sym (let z : functions ks x y ≡ d = cc in z))

orderly-one : (r : Repr) (d : Domain) (c : Cells) → ((orderly_in r d c [] && true) && true) && true ≡ true → orderly_in r d c [] ≡ true
orderly-one r d c h = and-left _ _ (and-left _ _ (and-left (((orderly_in r d c [] && true) && true)) true h))

kept-answer : (e : Ex) (env : Env) → KeptAnswer (kept_as e) e env
kept-answer (seen_ex (repr ReprKind.RelationAsSet (more_reprs r no_reprs)) (relation_dom ms es ds) ns js) env = λ known m.
    let o = opened ReprKind.RelationAsSet r (relation_dom ms es ds) (tuple_set_dom ms es ds) ns js env refl refl m in
    let p = relation-parts (attributes_of ms (meanings es env)) (domains_of ds env) o.d o.domain_is in
    kept ReprKind.RelationAsSet r (relation_dom ms es ds) (tuple_set_dom ms es ds) ns js env refl refl (relations p.0 p.1)
    (child_set p.0 p.1) relation_from (λ c. refl) (λ c h. orderly-one r (child_set p.0 p.1) c h) refl refl (relation-turns p.0 p.1) o p.2
    known m.2
kept-answer (seen_ex (repr ReprKind.FunctionAsRelation (more_reprs r no_reprs)) (function_dom ms es d c) ns js) env = λ known m.
    let o = opened ReprKind.FunctionAsRelation r (function_dom ms es d c) (pair_relation_dom size_terms ms es d c) ns js env refl refl m in
    let p = function-parts (attributes_of ms (meanings es env)) (domain_of d env) (domain_of c env) o.d o.domain_is in
    kept ReprKind.FunctionAsRelation r (function_dom ms es d c) (pair_relation_dom size_terms ms es d c) ns js env refl refl
    (functions p.0 p.1 p.2) (child_relation p.0 p.1 p.2) function_from (λ c. refl)
    (λ c h. orderly-one r (child_relation p.0 p.1 p.2) c h) refl refl (function-turns p.0 p.1 p.2) o p.3 known m.2
kept-answer (seen_ex (repr ReprKind.PartitionAsSet (more_reprs r no_reprs)) (partition_dom ms es d) ns js) env = λ known m.
    let o = opened ReprKind.PartitionAsSet r (partition_dom ms es d) (part_set_dom size_terms ms es d) ns js env refl refl m in
    let p = partition-parts (attributes_of ms (meanings es env)) (domain_of d env) o.d o.domain_is in
    kept ReprKind.PartitionAsSet r (partition_dom ms es d) (part_set_dom size_terms ms es d) ns js env refl refl (partitions p.0 p.1)
    (child_parts p.0 p.1) partition_from (λ c. refl) (λ c h. orderly-one r (child_parts p.0 p.1) c h) refl refl (partition-turns p.0 p.1) o
    p.2 known m.2
kept-answer _ env = tt

-- A view has the members of the view that it is kept as.
pub kept-child : (e c : Ex) → kept_as e ≡ Some c → (env : Env) → ChildKnown e c env → Meets e env → KeptChild e c env
kept-child e c q env = subst (λ z. KeptAnswer z e env) q (kept-answer e env)
