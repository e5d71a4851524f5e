-- The canonical tables of tuples and records, component by component.
use Rattle.std.proofs.Common.{◌≡◌, refl, sym, ap, ◌∙◌, true, List, [], ◌∷◌, ◌++◌, map, length, Option, Some, option_map}
use Rattle.ess_semantics.specs.declared.words.ReprKind.{ReprKind}
use Rattle.ess_semantics.specs.Lists.{and_then}
use Rattle.ess_semantics.specs.Values.{Text, a_tuple, a_record, Value, node, Values, nil, cons, to_list}
use Rattle.ess_semantics.specs.Order.{same_texts}
use Rattle.ess_semantics.specs.Trees.{Reprs, repr, no_reprs, more_reprs}
use Rattle.ess_semantics.specs.Domains.{Domain, Domains, tuples, records, no_domains, more_domains, domain_list}
use Rattle.ess_semantics.specs.Membership.{member, member_of_each}
use Rattle.ess_semantics.specs.Cells.{Cells, Axes, tables_over}
use Rattle.ess_semantics.specs.Layers.{Layer, Slot, always_canonical}
use Rattle.ess_semantics.specs.ScalarLayers.{each_alone, compound_items, tuple_layer, record_layer}
use Rattle.ess_semantics.specs.Representations.{layer}
use Rattle.ess_semantics.specs.Declarations.{axes_of}
use Rattle.ess_semantics.specs.Canonical.{Child, canonical_layer, canonical_children, cells_of_children, tables_of_value}
use Rattle.ess_semantics.proofs.Tests.{and-left, and-right}
use Rattle.ess_repr_laws.specs.Rooms.{AllRoomy}
use Rattle.ess_repr_laws.proofs.Behind.{behind-none}
use Rattle.ess_repr_laws.proofs.CanonicalPlaces.{all_places}
use Rattle.ess_repr_laws.proofs.CellsOfMembers.{HasCells}
use Rattle.ess_repr_laws.proofs.ExactCells.{exact-length}
use Rattle.ess_repr_laws.proofs.MembersHaveTables.{members_have_cells}
use Rattle.ess_repr_laws.proofs.PlacedSlots.{placed, placed-behind}
use Rattle.ess_repr_laws.proofs.RowsOfCells.{axes_of_children}
use Rattle.ess_repr_laws.proofs.SideBySide.{Along}
use Rattle.ess_repr_rows_laws.proofs.LayerDownRows.{axes-at, tables-both}
use Rattle.ess_repr_layers_laws.specs.Components.{tables_of_components}

map-same : (ass : List Axes) → map (λ (as' : Axes). [] ++ as') ass ≡ ass
map-same [] = refl
map-same (as' ∷ ass) = ap (λ l. as' ∷ l) (map-same ass)

map-long : (ass : List Axes) → length (map (λ (as' : Axes). [] ++ as') ass) ≡ length ass
map-long ass = ap length (map-same ass)

module _ (ds : List Domain) (f : Cells → List (List Value) → Option Value) (t : Value → List (List (Option Value))) where
  abbrev whole : Layer
  whole = all_places ds [] f t always_canonical

  -- The children with their slots, whose cells make the tables of the components.
  record Parted (rs : Reprs) (es : List Domain) (vs : List Value) : Type 0 where
    cs : List Child
    there : canonical_children rs es (each_alone vs) ≡ Some cs
    made : tables_of_components rs es vs ≡ Some (tables_over (axes_of_children rs es []) (cells_of_children whole cs))

  parted : (rs : Reprs) (es : List Domain) (vs : List Value) → AllRoomy rs es → Along es vs (λ e v. member e v ≡ true) → Parted rs es vs
  parted no_reprs [] [] a h = record { cs = []; there = refl; made = refl }
  parted no_reprs [] (v ∷ vs) a h = absurd h
  parted no_reprs (e ∷ es) vs a h = absurd a
  parted (more_reprs r rs) [] vs a h = absurd a
  parted (more_reprs r rs) (e ∷ es) [] a h = absurd h
  parted (more_reprs r rs) (e ∷ es) (v ∷ vs) a h = go (parted rs es vs a.1 h.1)
    where
      y : HasCells r e v
      y = let x = members_have_cells r e a.0 in x.of_member v h.0

      ass : List Axes
      ass = axes_of r e

      ss : List (Option Slot)
      ss = Some (v, y.cells) ∷ []

      inner : Cells
      inner = placed ass [] ss

      inner-is : inner ≡ y.cells
      inner-is = let b = placed-behind ass [] ss tt refl (y.exact, tt) in sym (behind-none inner) ∙ b.0

      own : tables_of_value r e v ≡ Some (tables_over ass y.cells)
      own = ap (option_map (tables_over ass)) y.there

      go : Parted rs es vs → Parted (more_reprs r rs) (e ∷ es) (v ∷ vs)
      go p = record {
        cs = (ass, ss) ∷ p.cs;
        there = ap (λ o. and_then (and_then o (λ c. option_map (λ ss. Some (v, c) ∷ ss) (Some []))) (λ ss. option_map (λ cs. (ass, ss) ∷ cs) (canonical_children rs es (each_alone vs)))) y.there
            ∙ ap (option_map (λ cs. (ass, ss) ∷ cs)) p.there;
        made = ap (λ o. and_then o (λ ts. option_map (λ us. ts ++ us) (tables_of_components rs es vs))) own
            ∙ ap (option_map (λ us. tables_over ass y.cells ++ us)) p.made
            ∙ ap (λ c. Some (tables_over ass c ++ tables_over (axes_of_children rs es []) rest)) (sym inner-is)
            ∙ ap (λ xs. Some (tables_over xs inner ++ tables_over (axes_of_children rs es []) rest)) (sym (map-same ass))
            ∙ ap Some (sym (tables-both (map (λ as'. [] ++ as') ass) (axes_of_children rs es []) inner rest
            (ap length inner-is ∙ exact-length ass y.cells y.exact ∙ sym (map-long ass))));
      }
        where
          rest : Cells
          rest = cells_of_children whole p.cs

  module _ (k : ReprKind) (d : Domain) (rs : Reprs) (at : layer k d ≡ Some whole) (all : AllRoomy rs ds) where
    -- A value of components, each of which is a member.
    compound-down : (v : Value) (vs : List Value) → t v ≡ each_alone vs → Along ds vs (λ e v. member e v ≡ true) →
        tables_of_value (repr k rs) d v ≡ tables_of_components rs ds vs
    compound-down v vs e h = go (parted rs ds vs all h)
      where
        go : Parted rs ds vs → tables_of_value (repr k rs) d v ≡ tables_of_components rs ds vs
        go p =
            ap (λ o. option_map (tables_over (axes_of (repr k rs) d)) (and_then o (λ l. option_map (canonical_layer l v) (canonical_children rs l.children (l.contents v))))) at
            ∙ ap (λ l. option_map (tables_over (axes_of (repr k rs) d)) (option_map (canonical_layer whole v) (canonical_children rs ds l))) e
            ∙ ap (λ o. option_map (tables_over (axes_of (repr k rs) d)) (option_map (canonical_layer whole v) o)) p.there
            ∙ ap (λ xs. Some (tables_over xs (cells_of_children whole p.cs))) (axes-at k rs d whole at) ∙ sym p.made

each-member : (ds : Domains) (vs : Values) → member_of_each ds vs ≡ true → Along (domain_list ds) (to_list vs) (λ e v. member e v ≡ true)
each-member no_domains nil h = tt
each-member no_domains (cons v vs) h = cc
each-member (more_domains d ds) nil h = cc
each-member (more_domains d ds) (cons v vs) h = (and-left (member d v) (member_of_each ds vs) h, each-member ds vs (and-right (member d v) (member_of_each ds vs) h))

abbrev contents : Value → List (List (Option Value))
contents v = each_alone (compound_items v)

-- The tables of a tuple.
pub tuple-down : (rs : Reprs) (ds : Domains) (vs : Values) → AllRoomy rs (domain_list ds) → member (tuples ds) (node a_tuple vs) ≡ true →
    tables_of_value (repr ReprKind.Tuple rs) (tuples ds) (node a_tuple vs) ≡ tables_of_components rs (domain_list ds) (to_list vs)
tuple-down rs ds vs a m = compound-down (domain_list ds) (tuple_layer ds).built contents ReprKind.Tuple (tuples ds) rs refl a (node a_tuple vs) (to_list vs) refl (each-member ds vs m)

-- The tables of a record.
pub record-down : (rs : Reprs) (fs gs : List Text) (ds : Domains) (vs : Values) → AllRoomy rs (domain_list ds) → member (records fs ds) (node (a_record gs) vs) ≡ true →
    tables_of_value (repr ReprKind.Rec rs) (records fs ds) (node (a_record gs) vs) ≡ tables_of_components rs (domain_list ds) (to_list vs)
record-down rs fs gs ds vs a m =
    compound-down (domain_list ds) (record_layer fs ds).built contents ReprKind.Rec (records fs ds) rs refl a (node (a_record gs) vs) (to_list vs) refl
    (each-member ds vs (and-right (same_texts fs gs) (member_of_each ds vs) m))
