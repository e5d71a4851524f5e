-- What the calls by kind have to say of multisets, in the form in which it is asked.
use Rattle.std.proofs.Common.{◌≡◌, refl, sym, ap, ◌∙◌, ℕ, true, List, [], ◌∷◌, ◌++◌, map, ℤ, Option, Some, None, option_map}
use Rattle.ess_semantics.specs.declared.words.ReprKind.{ReprKind}
use Rattle.ess_semantics.specs.Lists.{zip}
use Rattle.ess_semantics.specs.Values.{Value, a_mset, node, of_list, items_of}
use Rattle.ess_semantics.specs.Collections.{mset_of, sorted_once}
use Rattle.ess_semantics.specs.Trees.{Reprs, repr}
use Rattle.ess_semantics.specs.Domains.{Attribute, Domain, msets, member_list}
use Rattle.ess_semantics.specs.Sizes.{slots_of_mset}
use Rattle.ess_semantics.specs.Tables.{Tables, row_of}
use Rattle.ess_semantics.specs.Cells.{Axes}
use Rattle.ess_semantics.specs.Layers.{codes_of, up_to_marker, repeated, each_repeated}
use Rattle.ess_semantics.specs.MultisetLayers.{occurs}
use Rattle.ess_semantics.specs.Representations.{layer}
use Rattle.ess_semantics.specs.Declarations.{axes_of}
use Rattle.ess_semantics.specs.OneLayer.{inner_values, layer_tables, layer_value}
use Rattle.ess_semantics.specs.Tidy.{over_axes}
use Rattle.ess_core.specs.declared.values.Val.{Val}
use Rattle.ess_core.specs.declared.tables.Table.{Table}
use Rattle.ess_core.specs.ValueViews.{pure_val}
use Rattle.ess_core.specs.TableViews.{pure_table}
use Rattle.ess_repr_laws.specs.Rooms.{Covered}
use Rattle.ess_repr_rows_laws.specs.Cutting.{first_items, used_numbers}
use Rattle.ess_repr_rows_laws.specs.RowLayers.{marked_tables, counted_tables, times_of}
use Rattle.ess_repr_tables.specs.SlotViews.{pure_tables}
use Rattle.ess_repr_sets.specs.PartTables.{PartsFit}
use Rattle.ess_repr_sets.proofs.OverDeclared.{somes-only}
use Rattle.ess_repr_sets.proofs.MultisetsDown.{counts-down, repetition-down, counted-down}
use Rattle.ess_repr_sets.proofs.MultisetsUp.{counts-up, repetition-up, counted-up}

-- ---- parts

module _ (xs : List Val) (v : Value) (ks : List Attribute) (d : Domain) where
  pub repetition_parts : map pure_val xs ≡ items_of v → option_map (map pure_val) (Some xs) ≡ option_map (λ l. inner_values l v) (layer ReprKind.MSetExplicitWithRepetition (msets ks d))
  repetition_parts is = ap Some (is ∙ sym (somes-only (items_of v)))

  pub counted_parts : map pure_val xs ≡ sorted_once (items_of v) → option_map (map pure_val) (Some xs) ≡ option_map (λ l. inner_values l v) (layer ReprKind.MSetExplicitWithFlags (msets ks d))
  counted_parts is = ap Some (is ∙ sym (somes-only (sorted_once (items_of v))))

-- ---- down

-- What is asked of the tables of a multiset.
abbrev pub DownOfMultiset : ReprKind → List Attribute → Domain → Value → List Axes → List Tables → Option (List Table) → Type 0
DownOfMultiset k ks e v ass tss o = (rs : Reprs) → Covered (repr k rs) (msets ks e) → PartsFit k rs (msets ks e) v ass tss → option_map pure_tables o ≡ layer_tables (repr k rs) (msets ks e) v tss

module _ (ks : List Attribute) (e : Domain) (v : Value) (ass : List Axes) (tss : List Tables) (ts : List Table) where
  pub counts_called : map pure_table ts ≡ row_of (codes_of e) (map (occurs v) (member_list e)) ∷ [] → DownOfMultiset ReprKind.MSetOccurrence ks e v ass tss (Some ts)
  counts_called q rs c h = ap Some q ∙ counts-down ks e v ass tss rs c

  pub repetition_called : (n : ℕ) → n ≡ slots_of_mset ks e → map pure_table ts ≡ marked_tables n ass tss → DownOfMultiset ReprKind.MSetExplicitWithRepetition ks e v ass tss (Some ts)
  repetition_called n m q rs c h = ap Some (q ∙ ap (λ k. marked_tables k ass tss) m) ∙ repetition-down ks e v ass tss rs c h

  pub counted_called : (n : ℕ) → n ≡ slots_of_mset ks e → (cs : List (ℤ × Tables)) → cs ≡ zip (map (occurs v) (sorted_once (items_of v))) tss → map pure_table ts ≡ counted_tables n ass cs →
      DownOfMultiset ReprKind.MSetExplicitWithFlags ks e v ass tss (Some ts)
  counted_called n m cs p q rs c h = ap Some (q ∙ ap (λ k. counted_tables k ass cs) m ∙ ap (counted_tables (slots_of_mset ks e) ass) p) ∙ counted-down ks e v ass tss rs c h

-- ---- up

-- What is asked of the value of a multiset's tables.
abbrev pub UpOfMultiset : ReprKind → List Attribute → Domain → Tables → List Value → Option Val → Type 0
UpOfMultiset k ks e ts vs o =
    (rs : Reprs) → Covered (repr k rs) (msets ks e) → over_axes [] (axes_of (repr k rs) (msets ks e)) ts ≡ true → option_map pure_val o ≡ layer_value k (msets ks e) ts vs

module _ (ks : List Attribute) (e : Domain) (ts : Tables) (vs : List Value) (o : Option Val) where
  pub counts_meant : (is : List ℤ) → is ≡ first_items ts → option_map pure_val o ≡ option_map (λ ns. node a_mset (of_list (each_repeated ns (member_list e)))) (times_of is) →
      UpOfMultiset ReprKind.MSetOccurrence ks e ts vs o
  counts_meant is p q rs c h = q ∙ ap (λ l. option_map (λ ns. node a_mset (of_list (each_repeated ns (member_list e)))) (times_of l)) p ∙ counts-up ks e ts vs rs c h

  pub repetition_meant : (n : ℕ) → n ≡ slots_of_mset ks e → option_map pure_val o ≡ option_map (λ ns. mset_of vs) (used_numbers up_to_marker n ts) →
      UpOfMultiset ReprKind.MSetExplicitWithRepetition ks e ts vs o
  repetition_meant n m q rs c h = q ∙ ap (λ k. option_map (λ ns. mset_of vs) (used_numbers up_to_marker k ts)) m ∙ repetition-up ks e ts vs rs c h

  pub counted_meant : (is : List ℤ) → is ≡ first_items ts → option_map pure_val o ≡ option_map (λ ns. mset_of (repeated ns vs)) (times_of is) →
      UpOfMultiset ReprKind.MSetExplicitWithFlags ks e ts vs o
  counted_meant is p q rs c h = q ∙ ap (λ l. option_map (λ ns. mset_of (repeated ns vs)) (times_of l)) p ∙ counted-up ks e ts vs rs c h
