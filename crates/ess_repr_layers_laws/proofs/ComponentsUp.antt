-- The values of tuples and records, component by component.
use Rattle.std.proofs.Common.{◌≡◌, refl, ap, ◌∙◌, ℕ, zero, suc, List, [], ◌∷◌, map, take, drop, Option, Some, None, option_map}
use Rattle.ess_semantics.specs.declared.words.ReprKind.{ReprKind}
use Rattle.ess_semantics.specs.Lists.{and_then}
use Rattle.ess_semantics.specs.Values.{Text, a_record, Value, node, of_list, tuple}
use Rattle.ess_semantics.specs.Trees.{Reprs, repr, no_reprs, more_reprs}
use Rattle.ess_semantics.specs.Domains.{Domain, Domains, tuples, records, domain_list}
use Rattle.ess_semantics.specs.Tables.{Tables, cell_at}
use Rattle.ess_semantics.specs.Cells.{behind, cells_of}
use Rattle.ess_semantics.specs.Layers.{first_of_each}
use Rattle.ess_semantics.specs.Representations.{width, value_of_cells, value_of_tables, values_of_children}
use Rattle.ess_repr_laws.proofs.Behind.{behind-none}
use Rattle.ess_repr_layers_laws.specs.Components.{values_of_components}

take-cells : (n : ℕ) (ts : Tables) → take n (cells_of ts) ≡ cells_of (take n ts)
take-cells zero ts = refl
take-cells (suc n) [] = refl
take-cells (suc n) (t ∷ ts) = ap (λ l. cell_at t ∷ l) (take-cells n ts)

drop-cells : (n : ℕ) (ts : Tables) → drop n (cells_of ts) ≡ cells_of (drop n ts)
drop-cells zero ts = refl
drop-cells (suc n) [] = refl
drop-cells (suc n) (t ∷ ts) = drop-cells n ts

abbrev alone : Value → List Value
alone v = v ∷ []

first-alone : (vs : List Value) → first_of_each (map alone vs) ≡ vs
first-alone [] = refl
first-alone (v ∷ vs) = ap (λ l. v ∷ l) (first-alone vs)

-- one more component
more : (o : Option Value) (q : Option (List Value)) →
    and_then (and_then o (λ y. option_map (λ ys. y ∷ ys) (Some []))) (λ vs. option_map (λ vss. vs ∷ vss) (option_map (map alone) q)) ≡
    option_map (map alone) (and_then o (λ v. option_map (λ vs. v ∷ vs) q))
more None q = refl
more (Some v) None = refl
more (Some v) (Some vs) = refl

-- The values of the children at the only place are those of the components.
components : (rs : Reprs) (es : List Domain) (ts : Tables) →
    values_of_children rs es (cells_of ts) ([] ∷ []) ≡ option_map (map alone) (values_of_components rs es ts)
components no_reprs es ts = refl
components (more_reprs r rs) [] ts = refl
components (more_reprs r rs) (e ∷ es) ts =
    ap (λ c. and_then (and_then (value_of_cells r e (behind [] c)) (λ y. option_map (λ ys. y ∷ ys) (Some []))) (λ vs. option_map (λ vss. vs ∷ vss) (values_of_children rs es (drop (width r) (cells_of ts)) ([] ∷ [])))) (take-cells (width r) ts)
    ∙ ap (λ c. and_then (and_then (value_of_tables r e (take (width r) ts) []) (λ y. option_map (λ ys. y ∷ ys) (Some []))) (λ vs. option_map (λ vss. vs ∷ vss) (values_of_children rs es c ([] ∷ [])))) (drop-cells (width r) ts)
    ∙ ap (λ o. and_then (and_then (value_of_tables r e (take (width r) ts) []) (λ y. option_map (λ ys. y ∷ ys) (Some []))) (λ vs. option_map (λ vss. vs ∷ vss) o)) (components rs es (drop (width r) ts))
    ∙ more (value_of_tables r e (take (width r) ts) []) (values_of_components rs es (drop (width r) ts))

-- built of the first value of each
built : (f : List Value → Value) (o : Option (List Value)) → and_then (option_map (map alone) o) (λ vss. Some (f (first_of_each vss))) ≡ option_map f o
built f None = refl
built f (Some vs) = ap (λ l. Some (f l)) (first-alone vs)

-- The value of a tuple.
pub tuple-up : (rs : Reprs) (ds : Domains) (ts : Tables) →
    value_of_tables (repr ReprKind.Tuple rs) (tuples ds) ts [] ≡ option_map (λ vs. tuple (of_list vs)) (values_of_components rs (domain_list ds) ts)
tuple-up rs ds ts =
    ap (value_of_cells (repr ReprKind.Tuple rs) (tuples ds)) (behind-none (cells_of ts))
    ∙ ap (λ o. and_then o (λ vss. Some (tuple (of_list (first_of_each vss))))) (components rs (domain_list ds) ts)
    ∙ built (λ vs. tuple (of_list vs)) (values_of_components rs (domain_list ds) ts)

-- The value of a record.
pub record-up : (rs : Reprs) (fs : List Text) (ds : Domains) (ts : Tables) →
    value_of_tables (repr ReprKind.Rec rs) (records fs ds) ts [] ≡ option_map (λ vs. node (a_record fs) (of_list vs)) (values_of_components rs (domain_list ds) ts)
record-up rs fs ds ts =
    ap (value_of_cells (repr ReprKind.Rec rs) (records fs ds)) (behind-none (cells_of ts))
    ∙ ap (λ o. and_then o (λ vss. Some (node (a_record fs) (of_list (first_of_each vss))))) (components rs (domain_list ds) ts)
    ∙ built (λ vs. node (a_record fs) (of_list vs)) (values_of_components rs (domain_list ds) ts)
