-- A term whose form tells that it is a relation has no other value.
use Rattle.std.proofs.Common.{◌≡◌, refl, sym, ap, ◌∙◌, Bool, true, false, List, [], ◌∷◌, ℤ, Option, Some, None, option_map, is_some}
use Rattle.ess_semantics.specs.declared.words.Op2.{Op2}
use Rattle.ess_semantics.specs.declared.words.Fun.{Fun}
use Rattle.ess_semantics.specs.declared.words.ReprKind.{ReprKind}
use Rattle.ess_semantics.specs.Lists.{and_then, all_some, only_of}
use Rattle.ess_semantics.specs.Values.{a_set, a_relation, Text, Value, Values, node, of_list, items_of}
use Rattle.ess_semantics.specs.Collections.{relation_of}
use Rattle.ess_semantics.specs.Names.{Names}
use Rattle.ess_semantics.specs.Trees.{binary, word, application, relation_literal, Mark, Repr, repr, Ex, Exs, node_ex, seen_ex, no_exs, more_exs, Doms, relation_dom}
use Rattle.ess_semantics.specs.Operators.{value_of_node, value_of_op, value_of_application}
use Rattle.ess_semantics.specs.Domains.{Attribute, Domains, relations}
use Rattle.ess_semantics.specs.Cells.{Cells, Grid, only_grid}
use Rattle.ess_semantics.specs.Layers.{Layer, only_child}
use Rattle.ess_semantics.specs.RelationLayers.{relation_from}
use Rattle.ess_semantics.specs.Representations.{layer, own_part, child_part, places_in_use, value_of_cells, values_of_children}
use Rattle.ess_semantics.specs.Tables.{Tables}
use Rattle.ess_semantics.specs.Meaning.{Env, meaning, meanings, domains_of, attributes_of, seen_in, tables_in, indices}
use Rattle.ess_semantics.specs.Totality.{HasValue}
use Rattle.ess_guard_laws.specs.Origins.{Origin}
use Rattle.ess_guard_laws.specs.Guard.{guarded}
use Rattle.ess_guard_laws.specs.Covered.{is_relation}
use Rattle.ess_guard_laws.proofs.Holding.{the-value}
use Rattle.ess_guard_laws.proofs.Safe.{all-there}

-- The value is a relation.
abbrev pub IsRelation : Value → Type 0
IsRelation v = (ps : Values) × (v ≡ node a_relation ps)

value-is : (u v : Value) → Some u ≡ Some v → v ≡ u
value-is u v e = ap (λ o. elim o [ None ↦ v | Some z ↦ z ]) (sym e)

-- ---- views

grid-built : (c : Cells) (f : Grid → Option (List Value)) (v : Value) →
    only_grid c (λ g. option_map (λ xs. node a_relation (of_list xs)) (f g)) ≡ Some v → IsRelation v
grid-built [] f v e = cc
grid-built (g ∷ h ∷ c) f v e = cc
grid-built (g ∷ []) f v e = go (f g) e
  where
    go : (o : Option (List Value)) → option_map (λ xs. node a_relation (of_list xs)) o ≡ Some v → IsRelation v
    go None e = cc
    go (Some xs) e = (of_list xs, value-is _ v e)

from-built : (w v : Value) → relation_from w ≡ Some v → IsRelation v
from-built (node a_set ts) v e = (ts, value-is (node a_relation ts) v e)
from-built w v e = cc

set-built : (o : Option Value) (v : Value) → and_then o relation_from ≡ Some v → IsRelation v
set-built None v e = cc
set-built (Some w) v e = from-built w v e

-- What a layer of a relation builds.
layer-built : (k : ReprKind) (ks : List Attribute) (ds : Domains) (l : Layer) (c : Cells) (vss : List (List Value)) (v : Value) →
    layer k (relations ks ds) ≡ Some l → l.built c vss ≡ Some v → IsRelation v
layer-built ReprKind.RelationAsMatrix ks ds l c vss v e b =
    grid-built c _ v (ap (λ o. elim o [ None ↦ Some v | Some z ↦ z.built c vss ]) e ∙ b)
layer-built ReprKind.RelationAsSet ks ds l c vss v e b =
    set-built (only_of (only_child vss)) v (ap (λ o. elim o [ None ↦ Some v | Some z ↦ z.built c vss ]) e ∙ b)
layer-built k ks ds l c vss v e b = cc

cells-relation : (r : Repr) (ks : List Attribute) (ds : Domains) (c : Cells) (v : Value) → value_of_cells r (relations ks ds) c ≡ Some v →
    IsRelation v
cells-relation (repr k rs) ks ds c v e = go (layer k (relations ks ds)) refl e
  where
    last : (l : Layer) → layer k (relations ks ds) ≡ Some l → (o : Option (List (List Value))) →
        and_then o (l.built (own_part k c)) ≡ Some v → IsRelation v
    last l q None e = cc
    last l q (Some vss) e = layer-built k ks ds l (own_part k c) vss v q e

    inner : (l : Layer) → layer k (relations ks ds) ≡ Some l → (o : Option (List (List ℤ))) →
        and_then o (λ js. and_then (values_of_children rs l.children (child_part k c) js) (l.built (own_part k c))) ≡ Some v → IsRelation v
    inner l q None e = cc
    inner l q (Some js) e = last l q (values_of_children rs l.children (child_part k c) js) e

    go : (o : Option Layer) → layer k (relations ks ds) ≡ o →
        and_then o (λ l. and_then (places_in_use l (own_part k c))
        (λ js. and_then (values_of_children rs l.children (child_part k c) js) (l.built (own_part k c)))) ≡ Some v → IsRelation v
    go None q e = cc
    go (Some l) q e = inner l q (places_in_use l (own_part k c)) e

view-relation : (r : Repr) (ms : List Mark) (fs : Exs) (ds : Doms) (ns : List Text) (es : Exs) (env : Env) (v : Value) →
    meaning (seen_ex r (relation_dom ms fs ds) ns es) env ≡ Some v → IsRelation v
view-relation r ms fs ds ns es env v e =
    go (attributes_of ms (meanings fs env)) (domains_of ds env) (tables_in env.cells ns) (indices (meanings es env)) e
  where
    go : (a : Option (List Attribute)) (x : Option Domains) (t : Option Tables) (i : Option (List ℤ)) →
        seen_in r (and_then a (λ ks. option_map (relations ks) x)) t i ≡ Some v → IsRelation v
    go None x t i e = cc
    go (Some ks) None t i e = cc
    go (Some ks) (Some d) None i e = cc
    go (Some ks) (Some d) (Some t) None e = cc
    go (Some ks) (Some d) (Some t) (Some i) e = cells-relation r ks d _ v e

-- ---- terms

literal-relation : (o : Option (List Value)) (v : Value) → and_then o (value_of_op relation_literal) ≡ Some v → IsRelation v
literal-relation None v e = cc
literal-relation (Some xs) v e = (_, value-is (relation_of xs) v e)

made-relation : (o : Option Value) (v : Value) → value_of_node (word Fun.ToRelation) (o ∷ []) ≡ Some v → IsRelation v
made-relation None v e = cc
made-relation (Some w) v e = (_, value-is (relation_of (items_of w)) v e)

-- What the operators on two relations keep of the first.
kept-relation : (op : Op2) (a b : Option Value) (v : Value) →
    ((ps : Values) (w : Value) → (qs : Values) × (value_of_op (binary op) (node a_relation ps ∷ w ∷ []) ≡ Some (node a_relation qs))) →
    value_of_node (binary op) (a ∷ b ∷ []) ≡ and_then (all_some (a ∷ b ∷ [])) (value_of_op (binary op)) →
    ((u : Value) → a ≡ Some u → IsRelation u) → value_of_node (binary op) (a ∷ b ∷ []) ≡ Some v → IsRelation v
kept-relation op None b v f n r e = let q : None ≡ Some v = sym n ∙ e in cc
kept-relation op (Some u) None v f n r e = let q : None ≡ Some v = sym n ∙ e in cc
kept-relation op (Some u) (Some w) v f n r e =
    let s = r u refl in
    let t = f s.0 w in
    (t.0, value-is (node a_relation t.0) v (sym t.1 ∙ ap (λ z. value_of_op (binary op) (z ∷ w ∷ [])) (sym s.1) ∙ sym n ∙ e))

-- A term whose form tells that it is a relation.
pub relation-value : (f : Ex) (env : Env) (v : Value) → is_relation f ≡ true → meaning f env ≡ Some v → IsRelation v
relation-value (seen_ex r (relation_dom ms es ds) ns is) env v t e = view-relation r ms es ds ns is env v e
relation-value (node_ex false relation_literal es) env v t e = literal-relation (all_some (meanings es env)) v e
relation-value (node_ex false (word Fun.ToRelation) (more_exs f no_exs)) env v t e = made-relation (meaning f env) v e
relation-value (node_ex false (binary Op2.Union) (more_exs a (more_exs b no_exs))) env v t e =
    kept-relation Op2.Union (meaning a env) (meaning b env) v (λ ps w. (_, refl)) refl (λ u q. relation-value a env u t q) e
relation-value (node_ex false (binary Op2.Intersect) (more_exs a (more_exs b no_exs))) env v t e =
    kept-relation Op2.Intersect (meaning a env) (meaning b env) v (λ ps w. (_, refl)) refl (λ u q. relation-value a env u t q) e
relation-value (node_ex false (binary Op2.Minus) (more_exs a (more_exs b no_exs))) env v t e =
    kept-relation Op2.Minus (meaning a env) (meaning b env) v (λ ps w. (_, refl)) refl (λ u q. relation-value a env u t q) e
relation-value f env v t e = cc

-- Such a term is one still, when it is guarded.
pub relation-kept : (natural : Bool) (x y : Text) (f : Ex) (k : Names Origin) → is_relation f ≡ true →
    is_relation (guarded natural x y k f) ≡ true
relation-kept natural x y (seen_ex r (relation_dom ms es ds) ns is) k t = refl
relation-kept natural x y (node_ex false relation_literal es) k t = refl
relation-kept natural x y (node_ex false (word Fun.ToRelation) (more_exs f no_exs)) k t = refl
relation-kept natural x y (node_ex false (binary Op2.Union) (more_exs a (more_exs b no_exs))) k t = relation-kept natural x y a k t
relation-kept natural x y (node_ex false (binary Op2.Intersect) (more_exs a (more_exs b no_exs))) k t = relation-kept natural x y a k t
relation-kept natural x y (node_ex false (binary Op2.Minus) (more_exs a (more_exs b no_exs))) k t = relation-kept natural x y a k t
relation-kept natural x y f k t = cc

-- The row of applications.
pub application-tells : (f : Ex) (es : Exs) (env : Env) → is_relation f ≡ true →
    HasValue (value_of_node application (meaning f env ∷ meanings es env)) (meaning f env ∷ meanings es env)
application-tells f es env t = go (meaning f env) (meanings es env) (λ v e. relation-value f env v t e)
  where
    go : (o : Option Value) (os : List (Option Value)) → ((v : Value) → o ≡ Some v → IsRelation v) →
        HasValue (value_of_node application (o ∷ os)) (o ∷ os)
    go None os r h = cc
    go (Some v) os r h =
        let s = r v refl in
        let ws = the-value (all_some os) (all-there os h) in
        ap (λ q. is_some (and_then (option_map (λ xs. v ∷ xs) q) (value_of_op application))) ws.1
        ∙ ap (λ z. is_some (value_of_application z ws.0)) s.1
