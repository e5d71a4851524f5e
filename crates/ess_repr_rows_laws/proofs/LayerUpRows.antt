-- The tables of the slots in use of one layer, on rows: those with the numbers in use, cut out of the child's tables.
use Rattle.std.proofs.Common.{◌≡◌, refl, sym, ap, ◌∙◌, ℕ, zero, suc, true, List, [], ◌∷◌, ◌++◌, map, length, take, drop, Some, option_map}
use Rattle.ess_semantics.specs.declared.words.ReprKind.{ReprKind}
use Rattle.ess_semantics.specs.Lists.{and_then}
use Rattle.ess_semantics.specs.Values.{Value}
use Rattle.ess_semantics.specs.Domains.{Domain}
use Rattle.ess_semantics.specs.Tables.{Tables, volume, cell_at}
use Rattle.ess_semantics.specs.Cells.{Axes, cells_of}
use Rattle.ess_semantics.specs.Layers.{Layer}
use Rattle.ess_semantics.specs.Representations.{layer, own_width, own_part, places_in_use}
use Rattle.ess_semantics.specs.OneLayer.{slices, inner_tables_of, inner_tables, values_for, layer_value}
use Rattle.ess_semantics.specs.Tidy.{over_axes}
use Rattle.ess_repr_laws.proofs.TablesAndCells.{AxesDiffer}
use Rattle.ess_repr_rows_laws.specs.Cutting.{parts_at, used_numbers}
use Rattle.ess_repr_rows_laws.proofs.CutTables.{slices-in-turn}
use Rattle.ess_repr_rows_laws.proofs.UsedSlots.{UseOver, used-places, there-alike}

take-cells : (n : ℕ) (ts : Tables) → cells_of (take n ts) ≡ take n (cells_of ts)
take-cells zero ts = refl
take-cells (suc n) [] = refl
take-cells (suc n) (t ∷ ts) = ap (λ l. cell_at t ∷ l) (take-cells n ts)

-- The own cells are those of the own tables.
pub own-cells : (k : ReprKind) (ts : Tables) → own_part k (cells_of ts) ≡ cells_of (take (own_width k) ts)
own-cells k ts = sym (take-cells (own_width k) ts)

-- A layer without children has no inner tables, and is asked only whether its own tables stand for something.
pub inner-alone : (k : ReprKind) (d : Domain) (l : Layer) (ts : Tables) → layer k d ≡ Some l → l.children ≡ [] →
    inner_tables k d ts ≡ option_map (λ v. []) (l.built (cells_of (take (own_width k) ts)) [])
inner-alone k d l ts at none =
    ap (λ o. and_then o (λ l. inner_tables_of l (take (own_width k) ts) (drop (own_width k) ts) l.children)) at
    ∙ ap (inner_tables_of l (take (own_width k) ts) (drop (own_width k) ts)) none

-- Its value is the one that it builds of its own tables.
pub value-alone : (k : ReprKind) (d : Domain) (l : Layer) (ts : Tables) (vs : List Value) → layer k d ≡ Some l → l.children ≡ [] → places_in_use l (own_part k (cells_of ts)) ≡ Some ([] ∷ []) →
    layer_value k d ts vs ≡ l.built (cells_of (take (own_width k) ts)) []
value-alone k d l ts vs at none used =
    ap (λ o. and_then o (λ l. and_then (places_in_use l (own_part k (cells_of ts))) (λ js. l.built (own_part k (cells_of ts)) (values_for l.children vs)))) at
    ∙ ap (λ o. and_then o (λ js. l.built (own_part k (cells_of ts)) (values_for l.children vs))) used
    ∙ ap (λ es. l.built (own_part k (cells_of ts)) (values_for es vs)) none ∙ ap (λ c. l.built c []) (own-cells k ts)

module _ (k : ReprKind) (d e : Domain) (l : Layer) (ass : List Axes) (ts : Tables) where
  -- The layer's own tables, and the child's.
  abbrev own : Tables
  own = take (own_width k) ts

  abbrev inner : Tables
  inner = drop (own_width k) ts

  used : AxesDiffer l.axes → UseOver l.in_use l.axes own → over_axes [] (map (λ as'. l.axes ++ as') ass) inner ≡ true →
      option_map (map (slices inner)) (places_in_use l (cells_of own)) ≡ option_map (map (parts_at (length l.axes) inner)) (used_numbers l.in_use (volume l.axes) own)
  used differ fit over =
      used-places (slices inner) (parts_at (length l.axes) inner) l.in_use l.axes own differ fit (slices-in-turn l.axes ass inner differ over)

  -- The tables of the slots in use of a layer with one child.
  pub inner-with-child : layer k d ≡ Some l → l.children ≡ e ∷ [] → AxesDiffer l.axes → UseOver l.in_use l.axes (take (own_width k) ts) →
      over_axes [] (map (λ as'. l.axes ++ as') ass) (drop (own_width k) ts) ≡ true →
      inner_tables k d ts ≡ option_map (map (parts_at (length l.axes) (drop (own_width k) ts))) (used_numbers l.in_use (volume l.axes) (take (own_width k) ts))
  inner-with-child at only differ fit over =
      ap (λ o. and_then o (λ l. inner_tables_of l own inner l.children)) at ∙ ap (inner_tables_of l own inner) only ∙ used differ fit over

  -- The value of a layer with one child, where it is built of the values of the slots in use alone.
  pub value-with-child : layer k d ≡ Some l → l.children ≡ e ∷ [] → AxesDiffer l.axes → UseOver l.in_use l.axes (take (own_width k) ts) →
      over_axes [] (map (λ as'. l.axes ++ as') ass) (drop (own_width k) ts) ≡ true → (vs : List Value) →
      layer_value k d ts vs ≡ and_then (used_numbers l.in_use (volume l.axes) (take (own_width k) ts)) (λ ns. l.built (cells_of (take (own_width k) ts)) (vs ∷ []))
  value-with-child at only differ fit over vs =
      ap (λ o. and_then o (λ l. and_then (places_in_use l (own_part k (cells_of ts))) (λ js. l.built (own_part k (cells_of ts)) (values_for l.children vs)))) at
      ∙ ap (λ c. and_then (places_in_use l c) (λ js. l.built c (values_for l.children vs))) (own-cells k ts)
      ∙ ap (λ es. and_then (places_in_use l (cells_of own)) (λ js. l.built (cells_of own) (values_for es vs))) only
      ∙ there-alike (map (slices inner)) (map (parts_at (length l.axes) inner)) (places_in_use l (cells_of own)) (used_numbers l.in_use (volume l.axes) own) (l.built (cells_of own) (vs ∷ [])) (used differ fit over)
