-- The value that tables stand for, made of the values of the slots in use: one layer with one child.
use Rattle.std.proofs.Common.{◌≡◌, refl, sym, ap, ◌∙◌, ℕ, zero, suc, List, [], ◌∷◌, ◌++◌, map, take, drop, length, ℤ, Option, Some, None, option_map}
use Rattle.std.proofs.Math.Path.{fun_ext}
use Rattle.ess_semantics.specs.declared.words.ReprKind.{ReprKind}
use Rattle.ess_semantics.specs.Lists.{and_then, each_of}
use Rattle.ess_semantics.specs.Values.{Value}
use Rattle.ess_semantics.specs.Trees.{Repr, repr, no_reprs, more_reprs}
use Rattle.ess_semantics.specs.Domains.{Domain}
use Rattle.ess_semantics.specs.Tables.{Tables, cell_at}
use Rattle.ess_semantics.specs.Cells.{Cells, behind, cells_of}
use Rattle.ess_semantics.specs.Layers.{Layer}
use Rattle.ess_semantics.specs.Representations.{layer, width, own_width, own_part, child_part, places_in_use, value_of_cells, value_of_tables, values_of_children}
use Rattle.ess_semantics.specs.OneLayer.{slices, inner_tables_of, inner_tables, values_for, layer_value}
use Rattle.ess_repr_laws.proofs.Behind.{behind-none, cell_at-slice}
use Rattle.ess_repr_laws.proofs.CellsOfMembers.{take-whole}

-- ---- slices

-- The cells of slices are those behind their index list.
pub slices-behind : (ts : Tables) (js : List ℤ) → cells_of (slices ts js) ≡ behind js (cells_of ts)
slices-behind [] js = refl
slices-behind (t ∷ ts) js =
    ap (λ f. f ∷ cells_of (slices ts js)) (fun_ext (λ ks. cell_at-slice js t ks))
    ∙ ap (λ l. (λ ks. cell_at t (js ++ ks)) ∷ l) (slices-behind ts js)

-- ---- parts of tables

take-cells : (n : ℕ) (ts : Tables) → cells_of (take n ts) ≡ take n (cells_of ts)
take-cells zero ts = refl
take-cells (suc n) [] = refl
take-cells (suc n) (t ∷ ts) = ap (λ l. cell_at t ∷ l) (take-cells n ts)

drop-cells : (n : ℕ) (ts : Tables) → cells_of (drop n ts) ≡ drop n (cells_of ts)
drop-cells zero ts = refl
drop-cells (suc n) [] = refl
drop-cells (suc n) (t ∷ ts) = drop-cells n ts

cells-length : (ts : Tables) → length (cells_of ts) ≡ length ts
cells-length [] = refl
cells-length (t ∷ ts) = ap suc (cells-length ts)

-- ---- the layer

-- The values of slots, by their tables and by their cells.
slots-values : (r : Repr) (e : Domain) (inner : Tables) (js : List (List ℤ)) →
    each_of (map (slices inner) js) (λ t. value_of_tables r e t []) ≡ each_of js (λ j. value_of_cells r e (behind j (cells_of inner)))
slots-values r e inner [] = refl
slots-values r e inner (j ∷ js) =
    ap (λ o. and_then o (λ y. option_map (λ ys. y ∷ ys) (each_of (map (slices inner) js) (λ t. value_of_tables r e t []))))
    (ap (value_of_cells r e) (behind-none (cells_of (slices inner j)) ∙ slices-behind inner j))
    ∙ ap (λ o. and_then (value_of_cells r e (behind j (cells_of inner))) (λ y. option_map (λ ys. y ∷ ys) o)) (slots-values r e inner js)

-- The value that tables stand for is the layer's, made of the values of the slots in use.
pub layer-up : (k : ReprKind) (r : Repr) (d e : Domain) (l : Layer) (ts : Tables) → layer k d ≡ Some l → l.children ≡ e ∷ [] →
    length (drop (own_width k) ts) ≡ width r →
    value_of_tables (repr k (more_reprs r no_reprs)) d ts [] ≡
    and_then (inner_tables k d ts) (λ tss. and_then (each_of tss (λ t. value_of_tables r e t [])) (layer_value k d ts))
layer-up k r d e l ts at only wide =
    ap (value_of_cells (repr k (more_reprs r no_reprs)) d) (behind-none (cells_of ts)) ∙ ap (λ o. and_then o from_cells) at
    ∙ ap (λ es. and_then (places_in_use l own) (λ js. and_then (values_of_children (more_reprs r no_reprs) es inner js) (l.built own))) only
    ∙ ap (λ c. and_then (places_in_use l own) (λ js. and_then (and_then (each_of js (λ j. value_of_cells r e (behind j c))) (λ vs. Some (vs ∷ []))) (l.built own)))
    (take-whole (width r) inner inner-long)
    ∙ places (places_in_use l own) refl
    ∙ sym (ap (λ o. and_then (and_then o (λ l. inner_tables_of l (take (own_width k) ts) (drop (own_width k) ts) l.children)) values) at
    ∙ ap (λ es. and_then (inner_tables_of l (take (own_width k) ts) (drop (own_width k) ts) es) values) only
    ∙ ap (λ c. and_then (option_map (map (slices (drop (own_width k) ts))) (places_in_use l c)) values) (take-cells (own_width k) ts))
  where
    own : Cells
    own = own_part k (cells_of ts)

    inner : Cells
    inner = child_part k (cells_of ts)

    inner-long : length inner ≡ width r
    inner-long = ap length (sym (drop-cells (own_width k) ts)) ∙ cells-length (drop (own_width k) ts) ∙ wide

    from_cells : Layer → Option Value
    from_cells l =
        and_then (places_in_use l own) (λ js. and_then (values_of_children (more_reprs r no_reprs) l.children inner js) (l.built own))

    values : List Tables → Option Value
    values tss = and_then (each_of tss (λ t. value_of_tables r e t [])) (layer_value k d ts)

    built : (vs : List Value) (js : List (List ℤ)) → places_in_use l own ≡ Some js → layer_value k d ts vs ≡ l.built own (vs ∷ [])
    built vs js q =
        ap (λ o. and_then o (λ l. and_then (places_in_use l own) (λ js. l.built own (values_for l.children vs)))) at
        ∙ ap (λ o. and_then o (λ js. l.built own (values_for l.children vs))) q ∙ ap (λ es. l.built own (values_for es vs)) only

    places : (o : Option (List (List ℤ))) → places_in_use l own ≡ o →
        and_then o
        (λ js. and_then (and_then (each_of js (λ j. value_of_cells r e (behind j inner))) (λ vs. Some (vs ∷ []))) (l.built own)) ≡
        and_then (option_map (map (slices (drop (own_width k) ts))) o) values
    places None q = refl
    places (Some js) q =
        each (each_of js (λ j. value_of_cells r e (behind j inner)))
        ∙ sym (ap (λ o. and_then o (layer_value k d ts))
        (slots-values r e (drop (own_width k) ts) js ∙ ap (λ c. each_of js (λ j. value_of_cells r e (behind j c))) (drop-cells (own_width k) ts)))
      where
        each : (o : Option (List Value)) → and_then (and_then o (λ vs. Some (vs ∷ []))) (l.built own) ≡ and_then o (layer_value k d ts)
        each None = refl
        each (Some vs) = sym (built vs js q)
