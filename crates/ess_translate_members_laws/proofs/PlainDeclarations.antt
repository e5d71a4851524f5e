-- A representation declares tables over the same axes with the same numbers as cells for a domain and for the domain with positions.
use Rattle.std.proofs.Common.{◌≡◌, refl, sym, ap, ◌∙◌, ◌+◌, Bool, false, ◌||◌, List, [], ◌∷◌, ◌++◌, map, Option, Some, None}
use Rattle.std.proofs.lemmas.List.{map-append}
use Rattle.ess_semantics.specs.Trees.{Repr, Reprs, repr, no_reprs, more_reprs}
use Rattle.ess_semantics.specs.Domains.{Domain}
use Rattle.ess_semantics.specs.Cells.{Axes}
use Rattle.ess_semantics.specs.Layers.{Layer, OwnTable}
use Rattle.ess_semantics.specs.Representations.{layer}
use Rattle.ess_semantics.specs.Declarations.{Declaration, declared_own, under, leaves_out, declarations_below, declarations_of_children, declarations, cells_of_table, cell_sum, cell_count}
use Rattle.ess_semantics.specs.Positions.{domain_with_positions}
use Rattle.ess_translate_members_laws.specs.CellForms.{plain}
use Rattle.ess_translate_members_laws.proofs.PlainLayers.{Same, layers-same, plain_own}

-- The tables of one layer, given those of its children.
abbrev layer_declared : Bool → Reprs → Option Layer → List Declaration
layer_declared out rs o =
    elim o [
      | None ↦ []
      | Some l ↦ map (declared_own out) l.own ++ declarations_of_children
          (out || leaves_out l.in_use) rs l.children l.axes
    ]

own-plain : (out : Bool) (ts : List OwnTable) → map plain (map (declared_own out) ts) ≡ plain_own out ts
own-plain out [] = refl
own-plain out (t ∷ ts) = ap (λ l. plain (declared_own out t) ∷ l) (own-plain out ts)

layer-plain : (out : Bool) (rs : Reprs) (l : Layer) → map plain (layer_declared out rs (Some l))
    ≡ plain_own out l.own ++ map plain (declarations_of_children (out || leaves_out l.in_use) rs l.children l.axes)
layer-plain out rs l =
    map-append plain (map (declared_own out) l.own) (declarations_of_children (out || leaves_out l.in_use) rs l.children l.axes)
    ∙ ap (λ t. t ++ map plain (declarations_of_children (out || leaves_out l.in_use) rs l.children l.axes)) (own-plain out l.own)

under-plain : (as' : Axes) (ds : List Declaration) → map plain (under as' ds) ≡ under as' (map plain ds)
under-plain as' [] = refl
under-plain as' (d ∷ ds) = ap (λ l. record { axes = as' ++ d.axes; cell = (plain d).cell } ∷ l) (under-plain as' ds)

layer-same : (out : Bool) (rs : Reprs) (o q : Option Layer) → Same o q →
    ((l : Layer) (b : Bool) (as' : Axes) →
    map plain (declarations_of_children b rs (map domain_with_positions l.children) as') ≡ map plain
    (declarations_of_children b rs l.children as')) →
    map plain (layer_declared out rs q) ≡ map plain (layer_declared out rs o)
layer-same out rs None None s ih = refl
layer-same out rs None (Some m) s ih = absurd s
layer-same out rs (Some l) None s ih = absurd s
layer-same out rs (Some l) (Some m) s ih =
    layer-plain out rs m
    ∙ ap (λ t. t ++ map plain (declarations_of_children (out || leaves_out m.in_use) rs m.children m.axes)) (s.0 out)
    ∙ ap (λ b. plain_own out l.own ++ map plain (declarations_of_children (out || b) rs m.children m.axes)) s.3
    ∙ ap (λ es. plain_own out l.own ++ map plain (declarations_of_children (out || leaves_out l.in_use) rs es m.axes)) s.1
    ∙ ap (λ a. plain_own out l.own ++ map plain (declarations_of_children (out || leaves_out l.in_use) rs
    (map domain_with_positions l.children) a)) s.2
    ∙ ap (λ t. plain_own out l.own ++ t) (ih l (out || leaves_out l.in_use) l.axes)
    ∙ sym (layer-plain out rs l)

child-plain : (out : Bool) (as' : Axes) (xs ys : List Declaration) (us vs : List Declaration) → map plain xs ≡ map plain ys →
    map plain us ≡ map plain vs →
    map plain (under as' xs ++ us) ≡ map plain (under as' ys ++ vs)
child-plain out as' xs ys us vs p q =
    map-append plain (under as' xs) us ∙ ap (λ t. t ++ map plain us) (under-plain as' xs ∙ ap (under as') p ∙ sym (under-plain as' ys))
    ∙ ap (λ t. map plain (under as' ys) ++ t) q ∙ sym (map-append plain (under as' ys) vs)

mutual
  below-kept : (out : Bool) (r : Repr) (d : Domain) →
      map plain (declarations_below out r (domain_with_positions d)) ≡ map plain (declarations_below out r d)
  below-kept out (repr k rs) d =
      layer-same out rs (layer k d) (layer k (domain_with_positions d)) (layers-same k d) (λ l b as'. children-kept b rs l.children as')

  children-kept : (out : Bool) (rs : Reprs) (es : List Domain) (as' : Axes) →
      map plain (declarations_of_children out rs (map domain_with_positions es) as') ≡ map plain (declarations_of_children out rs es as')
  children-kept out no_reprs [] as' = refl
  children-kept out no_reprs (e ∷ es) as' = refl
  children-kept out (more_reprs r rs) [] as' = refl
  children-kept out (more_reprs r rs) (e ∷ es) as' =
      child-plain out as' (declarations_below out r (domain_with_positions e)) (declarations_below out r e)
      (declarations_of_children out rs (map domain_with_positions es) as') (declarations_of_children out rs es as')
      (below-kept out r e) (children-kept out rs es as')

-- Positions keep the axes of declared tables and the numbers of their cells.
pub tables_kept : (r : Repr) (e : Domain) → map plain (declarations r (domain_with_positions e)) ≡ map plain (declarations r e)
tables_kept r e = below-kept false r e

plain-sum : (ds : List Declaration) → cell_sum (map plain ds) ≡ cell_sum ds
plain-sum [] = refl
plain-sum (d ∷ ds) = ap (λ n. cells_of_table d.axes + n) (plain-sum ds)

-- They keep the number of cells.
pub counts_kept : (r : Repr) (e : Domain) → cell_count r (domain_with_positions e) ≡ cell_count r e
counts_kept r e =
    sym (plain-sum (declarations r (domain_with_positions e))) ∙ ap cell_sum (tables_kept r e) ∙ plain-sum (declarations r e)
