-- What the calls by kind have to say of sets, in the form in which it is asked.
use Rattle.std.proofs.Common.{◌≡◌, refl, sym, ap, ◌∙◌, ℕ, true, List, [], ◌∷◌, ◌++◌, map, ℤ, Option, Some, None, option_map}
use Rattle.ess_semantics.specs.declared.words.ReprKind.{ReprKind}
use Rattle.ess_semantics.specs.Lists.{and_then, each_of, append_all}
use Rattle.ess_semantics.specs.Values.{Value, a_set, node, of_list, items_of}
use Rattle.ess_semantics.specs.Collections.{holds, set_of}
use Rattle.ess_semantics.specs.Trees.{Reprs, repr}
use Rattle.ess_semantics.specs.Domains.{Attribute, Domain, sets, member_list}
use Rattle.ess_semantics.specs.Sizes.{slots_of_set}
use Rattle.ess_semantics.specs.Tables.{Tables, truth_number, row_of}
use Rattle.ess_semantics.specs.Cells.{Axes}
use Rattle.ess_semantics.specs.Layers.{codes_of, up_to_marker, where_flagged}
use Rattle.ess_semantics.specs.SetLayers.{dummy_of, but_dummy}
use Rattle.ess_semantics.specs.Representations.{layer}
use Rattle.ess_semantics.specs.Declarations.{axes_of}
use Rattle.ess_semantics.specs.OneLayer.{inner_values, layer_tables, layer_value}
use Rattle.ess_semantics.specs.Tidy.{over_axes}
use Rattle.ess_core.specs.declared.values.Val.{Val}
use Rattle.ess_core.specs.declared.tables.Table.{Table}
use Rattle.ess_core.specs.ValueViews.{pure_val}
use Rattle.ess_core.specs.TableViews.{pure_table}
use Rattle.ess_repr_laws.specs.Rooms.{Covered}
use Rattle.ess_repr_rows_laws.specs.Cutting.{first_items, used_numbers}
use Rattle.ess_repr_rows_laws.specs.RowLayers.{picked, slot_tables, marked_tables, flagged_slot_tables}
use Rattle.ess_repr_tables.specs.SlotViews.{pure_tables}
use Rattle.ess_repr_sets.specs.PartTables.{PartsFit}
use Rattle.ess_repr_sets.specs.SetRows.{dummy_tables}
use Rattle.ess_repr_sets.proofs.OverDeclared.{somes-only}
use Rattle.ess_repr_sets.proofs.SetsDown.{occurrence-down, dummy-down, explicit-down, marker-down, flags-down}
use Rattle.ess_repr_sets.proofs.SetsUp.{occurrence-up, dummy-value-up, explicit-up, marker-up, flags-up}

-- ---- parts

module _ (xs : List Val) (v : Value) (is : map pure_val xs ≡ items_of v) (ks : List Attribute) (d : Domain) where
  pub explicit_parts : option_map (map pure_val) (Some xs) ≡ option_map (λ l. inner_values l v) (layer ReprKind.Explicit (sets ks d))
  explicit_parts = ap Some (is ∙ sym (somes-only (items_of v)))

  pub marker_parts : option_map (map pure_val) (Some xs) ≡ option_map (λ l. inner_values l v) (layer ReprKind.ExplicitVarSizeWithMarker (sets ks d))
  marker_parts = ap Some (is ∙ sym (somes-only (items_of v)))

  pub flags_parts : option_map (map pure_val) (Some xs) ≡ option_map (λ l. inner_values l v) (layer ReprKind.ExplicitVarSizeWithFlags (sets ks d))
  flags_parts = ap Some (is ∙ sym (somes-only (items_of v)))

-- ---- down

-- What is asked of the tables of a set.
abbrev pub DownOfSet : ReprKind → List Attribute → Domain → Value → List Axes → List Tables → Option (List Table) → Type 0
DownOfSet k ks e v ass tss o = (rs : Reprs) → Covered (repr k rs) (sets ks e) → PartsFit k rs (sets ks e) v ass tss → option_map pure_tables o ≡ layer_tables (repr k rs) (sets ks e) v tss

module _ (ks : List Attribute) (e : Domain) (v : Value) (ass : List Axes) (tss : List Tables) (ts : List Table) where
  pub occurrence_called : map pure_table ts ≡ row_of (codes_of e) (map (λ x. truth_number (holds (items_of v) x)) (member_list e)) ∷ [] →
      DownOfSet ReprKind.Occurrence ks e v ass tss (Some ts)
  occurrence_called q rs c h = ap Some q ∙ occurrence-down ks e v ass tss rs c

  pub dummy_called : (n : ℕ) → n ≡ slots_of_set ks e → map pure_table ts ≡ dummy_tables n e v → DownOfSet ReprKind.ExplicitVarSizeWithDummy ks e v ass tss (Some ts)
  dummy_called n m q rs c h = ap Some (q ∙ ap (λ k. dummy_tables k e v) m) ∙ dummy-down ks e v tss rs c

  pub explicit_called : (n : ℕ) → n ≡ slots_of_set ks e → map pure_table ts ≡ slot_tables n ass tss → DownOfSet ReprKind.Explicit ks e v ass tss (Some ts)
  explicit_called n m q rs c h = ap Some (q ∙ ap (λ k. slot_tables k ass tss) m) ∙ explicit-down ks e v ass tss rs c h

  pub marker_called : (n : ℕ) → n ≡ slots_of_set ks e → map pure_table ts ≡ marked_tables n ass tss → DownOfSet ReprKind.ExplicitVarSizeWithMarker ks e v ass tss (Some ts)
  marker_called n m q rs c h = ap Some (q ∙ ap (λ k. marked_tables k ass tss) m) ∙ marker-down ks e v ass tss rs c h

  pub flags_called : (n : ℕ) → n ≡ slots_of_set ks e → map pure_table ts ≡ flagged_slot_tables n ass tss → DownOfSet ReprKind.ExplicitVarSizeWithFlags ks e v ass tss (Some ts)
  flags_called n m q rs c h = ap Some (q ∙ ap (λ k. flagged_slot_tables k ass tss) m) ∙ flags-down ks e v ass tss rs c h

-- ---- up

-- What is asked of the value of a set's tables.
abbrev pub UpOfSet : ReprKind → List Attribute → Domain → Tables → List Value → Option Val → Type 0
UpOfSet k ks e ts vs o = (rs : Reprs) → Covered (repr k rs) (sets ks e) → over_axes [] (axes_of (repr k rs) (sets ks e)) ts ≡ true → option_map pure_val o ≡ layer_value k (sets ks e) ts vs

module _ (ks : List Attribute) (e : Domain) (ts : Tables) (vs : List Value) (o : Option Val) where
  pub occurrence_meant : (is : List ℤ) → is ≡ first_items ts → option_map pure_val o ≡ option_map (λ xs. node a_set (of_list xs)) (picked is (member_list e)) →
      UpOfSet ReprKind.Occurrence ks e ts vs o
  occurrence_meant is p q rs c h = q ∙ ap (λ l. option_map (λ xs. node a_set (of_list xs)) (picked l (member_list e))) p ∙ occurrence-up ks e ts vs rs c h

  pub dummy_meant : (is : List ℤ) → is ≡ first_items ts →
      option_map pure_val o ≡ and_then (dummy_of e) (λ m. option_map (λ ls. set_of (append_all ls)) (each_of is (but_dummy e m))) → UpOfSet ReprKind.ExplicitVarSizeWithDummy ks e ts vs o
  dummy_meant is p q rs c h =
      q ∙ ap (λ l. and_then (dummy_of e) (λ m. option_map (λ ls. set_of (append_all ls)) (each_of l (but_dummy e m)))) p ∙ dummy-value-up ks e ts vs rs c h

  pub explicit_meant : (w : Val) → o ≡ Some w → pure_val w ≡ set_of vs → UpOfSet ReprKind.Explicit ks e ts vs o
  explicit_meant w p q rs c h = ap (option_map pure_val) p ∙ ap Some q ∙ explicit-up ks e ts vs rs c h

  pub marker_meant : (n : ℕ) → n ≡ slots_of_set ks e → option_map pure_val o ≡ option_map (λ ns. set_of vs) (used_numbers up_to_marker n ts) →
      UpOfSet ReprKind.ExplicitVarSizeWithMarker ks e ts vs o
  marker_meant n m q rs c h = q ∙ ap (λ k. option_map (λ ns. set_of vs) (used_numbers up_to_marker k ts)) m ∙ marker-up ks e ts vs rs c h

  pub flags_meant : (n : ℕ) → n ≡ slots_of_set ks e → option_map pure_val o ≡ option_map (λ ns. set_of vs) (used_numbers where_flagged n ts) →
      UpOfSet ReprKind.ExplicitVarSizeWithFlags ks e ts vs o
  flags_meant n m q rs c h = q ∙ ap (λ k. option_map (λ ns. set_of vs) (used_numbers where_flagged k ts)) m ∙ flags-up ks e ts vs rs c h
