-- Kinds of components: the tables of a member and the value of tables, by their components.
use Rattle.std.proofs.Common.{◌≡◌, refl, sym, ap, ◌∙◌, subst, ℕ, suc, Bool, true, false, ◌&&◌, List, [], ◌∷◌, map, length, take, drop, Option, Some, None, option_map}
use Rattle.ess_semantics.specs.declared.words.ReprKind.{ReprKind}
use Rattle.ess_semantics.specs.Lists.{and_then}
use Rattle.ess_semantics.specs.Values.{a_tuple, a_matrix, a_set, a_mset, a_function, a_relation, a_partition, a_record, Value, number, truth, item, node, Values, nil, cons, to_list, of_list, tuple, items_of}
use Rattle.ess_semantics.specs.Order.{same_texts}
use Rattle.ess_semantics.specs.Trees.{Reprs, repr, no_reprs, more_reprs}
use Rattle.ess_semantics.specs.Domains.{Domain, Domains, tuples, records, no_domains, more_domains, domain_list}
use Rattle.ess_semantics.specs.Membership.{member, member_of_each}
use Rattle.ess_semantics.specs.Tables.{Tables}
use Rattle.ess_semantics.specs.Representations.{width, value_of_tables}
use Rattle.ess_semantics.specs.Declarations.{axes_of}
use Rattle.ess_semantics.specs.Canonical.{tables_of_value}
use Rattle.ess_semantics.specs.Tidy.{over_axes}
use Rattle.ess_semantics.proofs.Tests.{and-left, and-right, and-both}
use Rattle.ess_repr_laws.specs.CanonicalTables.{is_compound}
use Rattle.ess_repr_laws.specs.Rooms.{Covered, AllCovered, Roomy, AllRoomy}
use Rattle.ess_repr_layers_laws.specs.LayerParts.{children_of, axes_below}
use Rattle.ess_repr_layers_laws.specs.Components.{tables_of_components, values_of_components, compound_of, component_count, members_each}
use Rattle.ess_repr_layers_laws.proofs.ComponentsDown.{tuple-down, record-down}
use Rattle.ess_repr_layers_laws.proofs.ComponentsUp.{tuple-up, record-up}
use Rattle.ess_repr_layers_laws.proofs.LayerAxes.{axes_of-layer}

-- ---- down

each-member : (ds : Domains) (vs : Values) → member_of_each ds vs ≡ true → members_each (domain_list ds) (to_list vs) ≡ true
each-member no_domains nil h = refl
each-member no_domains (cons v vs) h = cc
each-member (more_domains d ds) nil h = cc
each-member (more_domains d ds) (cons v vs) h =
    and-both (member d v) (members_each (domain_list ds) (to_list vs)) (and-left (member d v) (member_of_each ds vs) h) (each-member ds vs (and-right (member d v) (member_of_each ds vs) h))

-- What is found of the components is what is asked of the whole.
abbrev pub FoundDown : ReprKind → Reprs → Domain → Value → Option Tables → Type 0
FoundDown k rs d v o = AllRoomy rs (children_of k d) → members_each (children_of k d) (items_of v) ≡ true → o ≡ tables_of_components rs (children_of k d) (items_of v)

tuple-found : (rs : Reprs) (ds : Domains) (v : Value) (o : Option Tables) → AllRoomy rs (domain_list ds) → member (tuples ds) v ≡ true →
    FoundDown ReprKind.Tuple rs (tuples ds) v o → o ≡ tables_of_value (repr ReprKind.Tuple rs) (tuples ds) v
tuple-found rs ds (node a_tuple vs) o a m f = f a (each-member ds vs m) ∙ sym (tuple-down rs ds vs a m)
tuple-found rs ds (number n) o a m f = cc
tuple-found rs ds (truth b) o a m f = cc
tuple-found rs ds (item t k) o a m f = cc
tuple-found rs ds (node a_matrix vs) o a m f = cc
tuple-found rs ds (node a_set vs) o a m f = cc
tuple-found rs ds (node a_mset vs) o a m f = cc
tuple-found rs ds (node a_function vs) o a m f = cc
tuple-found rs ds (node a_relation vs) o a m f = cc
tuple-found rs ds (node a_partition vs) o a m f = cc
tuple-found rs ds (node (a_record fs) vs) o a m f = cc

record-found : (rs : Reprs) (fs : List (List ℕ)) (ds : Domains) (v : Value) (o : Option Tables) → AllRoomy rs (domain_list ds) → member (records fs ds) v ≡ true →
    FoundDown ReprKind.Rec rs (records fs ds) v o → o ≡ tables_of_value (repr ReprKind.Rec rs) (records fs ds) v
record-found rs fs ds (node (a_record gs) vs) o a m f =
    f a (each-member ds vs (and-right (same_texts fs gs) (member_of_each ds vs) m)) ∙ sym (record-down rs fs gs ds vs a m)
record-found rs fs ds (number n) o a m f = cc
record-found rs fs ds (truth b) o a m f = cc
record-found rs fs ds (item t k) o a m f = cc
record-found rs fs ds (node a_tuple vs) o a m f = cc
record-found rs fs ds (node a_matrix vs) o a m f = cc
record-found rs fs ds (node a_set vs) o a m f = cc
record-found rs fs ds (node a_mset vs) o a m f = cc
record-found rs fs ds (node a_function vs) o a m f = cc
record-found rs fs ds (node a_relation vs) o a m f = cc
record-found rs fs ds (node a_partition vs) o a m f = cc

-- The tables of a member, by those of its components.
pub compound-down : (k : ReprKind) (rs : Reprs) (d : Domain) (v : Value) (o : Option Tables) → is_compound k ≡ true → Roomy (repr k rs) d → member d v ≡ true →
    FoundDown k rs d v o → o ≡ tables_of_value (repr k rs) d v
compound-down ReprKind.Tuple rs (tuples ds) v o c a m f = tuple-found rs ds v o a m f
compound-down ReprKind.Tuple rs _ v o c a m f = absurd a
compound-down ReprKind.Rec rs (records fs ds) v o c a m f = record-found rs fs ds v o a m f
compound-down ReprKind.Rec rs _ v o c a m f = absurd a
compound-down _ rs d v o c a m f = cc

-- ---- up

-- The same for values.
abbrev pub FoundUp : ReprKind → Reprs → Domain → Tables → Option (List Value) → Type 0
FoundUp k rs d ts o = AllCovered rs (children_of k d) → over_axes [] (axes_below rs (children_of k d) []) ts ≡ true → o ≡ values_of_components rs (children_of k d) ts

tuple-some : (o : Option (List Value)) → and_then o (λ vs. Some (tuple (of_list vs))) ≡ option_map (λ vs. tuple (of_list vs)) o
tuple-some None = refl
tuple-some (Some vs) = refl

record-some : (fs : List (List ℕ)) (o : Option (List Value)) → and_then o (λ vs. Some (node (a_record fs) (of_list vs))) ≡ option_map (λ vs. node (a_record fs) (of_list vs)) o
record-some fs None = refl
record-some fs (Some vs) = refl

-- The value of tables, by those of its components.
pub compound-up : (k : ReprKind) (rs : Reprs) (d : Domain) (ts : Tables) (o : Option (List Value)) → is_compound k ≡ true → Covered (repr k rs) d →
    over_axes [] (axes_of (repr k rs) d) ts ≡ true → FoundUp k rs d ts o → and_then o (compound_of d) ≡ value_of_tables (repr k rs) d ts []
compound-up ReprKind.Tuple rs (tuples ds) ts o c a h f =
    ap (λ q. and_then q (compound_of (tuples ds))) (f a (subst (λ ass. over_axes [] ass ts ≡ true) (axes_of-layer ReprKind.Tuple rs (tuples ds)) h))
    ∙ tuple-some (values_of_components rs (domain_list ds) ts) ∙ sym (tuple-up rs ds ts)
compound-up ReprKind.Tuple rs _ ts o c a h f = absurd a
compound-up ReprKind.Rec rs (records fs ds) ts o c a h f =
    ap (λ q. and_then q (compound_of (records fs ds))) (f a (subst (λ ass. over_axes [] ass ts ≡ true) (axes_of-layer ReprKind.Rec rs (records fs ds)) h))
    ∙ record-some fs (values_of_components rs (domain_list ds) ts) ∙ sym (record-up rs fs ds ts)
compound-up ReprKind.Rec rs _ ts o c a h f = absurd a
compound-up _ rs d ts o c a h f = cc

each-long : (rs : Reprs) (ds : List Domain) (ts : Tables) (vs : List Value) → AllCovered rs ds → Some vs ≡ values_of_components rs ds ts → length ds ≡ length vs
each-long no_reprs [] ts vs a e = let w : vs ≡ [] = cc in ap length (sym w)
each-long no_reprs (d ∷ ds) ts vs a e = absurd a
each-long (more_reprs r rs) [] ts vs a e = absurd a
each-long (more_reprs r rs) (d ∷ ds) ts vs a e =
    go (value_of_tables r d (take (width r) ts) []) (values_of_components rs ds (drop (width r) ts)) (λ us q. each-long rs ds (drop (width r) ts) us a.1 q) e
  where
    go : (o : Option Value) (q : Option (List Value)) → ((us : List Value) → Some us ≡ q → length ds ≡ length us) →
        Some vs ≡ and_then o (λ v. option_map (λ us. v ∷ us) q) → suc (length ds) ≡ length vs
    go None q ih e = cc
    go (Some v) None ih e = cc
    go (Some v) (Some us) ih e = let w : vs ≡ v ∷ us = cc in ap suc (ih us refl) ∙ ap length (sym w)

-- As many values as components.
pub compound-long : (k : ReprKind) (rs : Reprs) (d : Domain) (ts : Tables) (vs : List Value) → is_compound k ≡ true → Covered (repr k rs) d →
    over_axes [] (axes_of (repr k rs) d) ts ≡ true → FoundUp k rs d ts (Some vs) → component_count d ≡ length vs
compound-long ReprKind.Tuple rs (tuples ds) ts vs c a h f =
    each-long rs (domain_list ds) ts vs a (f a (subst (λ ass. over_axes [] ass ts ≡ true) (axes_of-layer ReprKind.Tuple rs (tuples ds)) h))
compound-long ReprKind.Tuple rs _ ts vs c a h f = absurd a
compound-long ReprKind.Rec rs (records fs ds) ts vs c a h f =
    each-long rs (domain_list ds) ts vs a (f a (subst (λ ass. over_axes [] ass ts ≡ true) (axes_of-layer ReprKind.Rec rs (records fs ds)) h))
compound-long ReprKind.Rec rs _ ts vs c a h f = absurd a
compound-long _ rs d ts vs c a h f = cc
