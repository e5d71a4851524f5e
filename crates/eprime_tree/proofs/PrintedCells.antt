-- Lists and runs of tables as they are printed, one item after the other.
use Rattle.std.proofs.Common.{◌≡◌, refl, sym, ap, ◌∙◌, subst, ℕ, zero, suc, ◌+◌, ◌*◌, ◌<◌, ◌≤◌, Bool, List, [], ◌∷◌, ◌++◌, codes, map, length, drop, ℤ, append_assoc, append-nil, ◌⊎◌, inl, inr, arith}
use Rattle.std.specs.Fmt.{signed_decimal}
use Rattle.ess_semantics.specs.Values.{Text, number, of_list}
use Rattle.ess_semantics.specs.Tables.{volume}
use Rattle.ess_grammar.specs.ValueTexts.{number_text, runs_of, runs_text, with_commas, value_text}
use Rattle.ess_print_laws.specs.Parts.{comma_before}
use Rattle.eprime_cells_laws.specs.CellsText.{table_value, no_names, list_end, cells_line, cells_lines, cells_text}
use Rattle.eprime_cells_laws.proofs.Written.{behind, row_texts, rows_more, rows_all, list_written, runs_left, runs_written, digits_written}
use Rattle.ess_semantics.specs.Meaning.{is_bool_dom}
use Rattle.ess_semantics.specs.DeclaredTables.{TableDecl}
use Rattle.ess_grammar.specs.Models.{Scope, empty_scope}
use Rattle.ess_core.specs.declared.tables.NamedTable.{NamedTable}
use Rattle.ess_core.specs.TableViews.{pure_named_table}
use Rattle.eprime_tree.specs.declared.models.PDecl.{PDecl}
use Rattle.eprime_tree.specs.declared.expressions.PDom.{PDom}
use Rattle.eprime_tree.specs.declared.expressions.PEx.{PEx}
use Rattle.eprime_tree.specs.declared.expressions.PList.{PList}
use Rattle.eprime_tree.specs.declared.expressions.PGen.{PGen}
use Rattle.eprime_tree.specs.declared.expressions.PRange.{PRange}
use Rattle.eprime_tree.specs.declared.expressions.PDom.TheVariants as dom
use Rattle.eprime_tree.specs.declared.expressions.PDom.TheOpen.{PDom-F}
use Rattle.eprime_tree.specs.declared.expressions.PDom.TheViews.{out-PDom, roll-PDom, roll-out-PDom}
use Rattle.eprime_tree.specs.Views.{pure_dom, pure_decl, pure_decls}
use Rattle.eprime_tree.proofs.Equations.{pure_dom-Bool, pure_dom-Int}
use Rattle.eprime_tree.proofs.Loops.{left-none}

-- ---- what is left of a list

-- Where an item is left, it stands before the others.
one-left : {A : Type 0} (xs : List A) (i : ℕ) → i < length xs → (x : A) × (drop i xs ≡ x ∷ drop (i + 1) xs)
one-left [] i h = absurd (omega (arith, h))
one-left (x ∷ xs) zero h = (x, refl)
one-left (x ∷ xs) (suc i) h =
    let one = one-left xs i (omega (arith, h)) in
    let e : suc (i + 1) ≡ suc i + 1 = omega arith in
    (one.0, one.1 ∙ ap (λ k. one.0 ∷ drop k (x ∷ xs)) e)

drops-add : {A : Type 0} (n m : ℕ) (xs : List A) → drop m (drop n xs) ≡ drop (n + m) xs
drops-add zero m xs = let e : m ≡ 0 + m = omega arith in ap (λ k. drop k xs) e
drops-add {A = A} (suc n) m [] = none m ∙ sym (none (suc n + m))
  where
    none : (k : ℕ) → drop {A = A} k [] ≡ []
    none zero = refl
    none (suc k) = refl
drops-add (suc n) m (x ∷ xs) = let e : suc (n + m) ≡ suc n + m = omega arith in drops-add n m xs ∙ ap (λ k. drop k (x ∷ xs)) e

-- ---- rows

-- How far the rows are written: what is left of them, and of the items, is what is left of all.
abbrev pub RowsWritten : Bool → List (List ℤ) → List ℤ → List ℤ → Text → ℕ → List ℤ → Text → Type 0
RowsWritten b as' axis is begun k rest now =
    (now ++ behind k (row_texts b as' (drop k axis) rest) ≡ begun ++ with_commas (row_texts b as' axis is))
    × (drop (length (drop k axis) * volume as') rest ≡ drop (length axis * volume as') is)

-- One more row.
pub rows_step : (b : Bool) (as' : List (List ℤ)) (axis is rest others : List ℤ) (k : ℕ) (begun now mid new : Text) → k < length axis →
    RowsWritten b as' axis is begun k rest now → mid ≡ now ++ comma_before k → new ≡ mid ++ value_text no_names (table_value b as' rest) →
    others ≡ drop (volume as') rest → RowsWritten b as' axis is begun (k + 1) others new
rows_step b as' axis is rest others k begun now mid new lt h first second third =
    let one = one-left axis k lt in (
      rows_more b as' one.0 (drop (k + 1) axis) rest others k now mid new first second third
          ∙ ap (λ l. now ++ behind k (row_texts b as' l rest)) (sym one.1) ∙ h.0,
      ap (drop (length (drop (k + 1) axis) * volume as')) third
          ∙ drops-add (volume as') (length (drop (k + 1) axis) * volume as') rest
          ∙ ap (λ n. drop n rest) (one-row (length (drop (k + 1) axis)) (volume as'))
          ∙ ap (λ l. drop (length l * volume as') rest) (sym one.1) ∙ h.1,
    )
  where
    one-row : (n v : ℕ) → v + n * v ≡ suc n * v
    one-row n v = omega arith

-- All rows: the list's text, and the items behind it.
pub rows_end : (b : Bool) (as' : List (List ℤ)) (axis is rest : List ℤ) (k : ℕ) (out begun now whole : Text) → length axis ≤ k →
    RowsWritten b as' axis is begun k rest now → begun ≡ out ++ codes "[" → whole ≡ now ++ list_end axis →
    (whole ≡ out ++ value_text no_names (table_value b (axis ∷ as') is)) × (rest ≡ drop (length axis * volume as') is)
rows_end b as' axis is rest k out begun now whole le h first last =
    let none = left-none axis k le in (
      list_written b axis as' is out begun now whole first
          (sym (rows_all b as' rest k now) ∙ ap (λ l. now ++ behind k (row_texts b as' l rest)) (sym none) ∙ h.0) last,
      ap (λ n. drop n rest) (no-row (volume as')) ∙ ap (λ l. drop (length l * volume as') rest) (sym none) ∙ h.1,
    )
  where
    no-row : (v : ℕ) → 0 ≡ 0 * v
    no-row v = omega arith

-- ---- runs

-- All numbers are written.
pub runs_end : (out digits begun now whole : Text) (first last : ℤ) (others : List ℤ) (k : ℕ) → digits ≡ out ++ signed_decimal first →
    begun ≡ digits ++ codes ".." → length others ≤ k → now ++ runs_left last (drop k others) ≡ begun ++ runs_left first others →
    whole ≡ now ++ signed_decimal last → whole ≡ out ++ runs_text (runs_of (of_list (map number (first ∷ others))))
runs_end out digits begun now whole first last others k one two le h three =
    three ∙ ap (λ t. now ++ t) (sym (digits_written last)) ∙ ap (λ l. now ++ runs_left last l) (sym (left-none others k le)) ∙ h
    ∙ ap (λ t. t ++ runs_left first others) (two ∙ ap (λ t. t ++ codes "..") (one ∙ ap (λ t. out ++ t) (sym (digits_written first)))
    ∙ append_assoc out (number_text first) (codes ".."))
    ∙ append_assoc out (number_text first ++ codes "..") (runs_left first others)
    ∙ ap (λ t. out ++ t) (sym (runs_written first others))

-- ---- lettings

-- The lettings of tables, each with its declaration.
abbrev pub decl_lines : List PDecl → List NamedTable → Text
decl_lines (d ∷ ds) (t ∷ ts) = cells_line (is_bool_dom (pure_dom empty_scope d.cell)) (pure_named_table t) ++ decl_lines ds ts
decl_lines _ _ = []

-- Whether a domain is bool doesn't depend on what earlier lines declare.
same_truths : (s : Scope) (d : PDom) → is_bool_dom (pure_dom empty_scope d) ≡ is_bool_dom (pure_dom s d)
same_truths s d = subst Same (roll-out-PDom d) (layer (out-PDom d))
  where
    Same : PDom → Type 0
    Same d = is_bool_dom (pure_dom empty_scope d) ≡ is_bool_dom (pure_dom s d)

    layer : (f : PDom-F PDom PEx PGen PList PRange) → Same (roll-PDom f)
    layer PDom-F.Bool = subst Same (sym dom.rolls-Bool)
        (ap is_bool_dom (pure_dom-Bool empty_scope) ∙ sym (ap is_bool_dom (pure_dom-Bool s)))
    layer (PDom-F.Int rs) = subst Same (sym (dom.rolls-Int rs))
        (ap is_bool_dom (pure_dom-Int empty_scope rs) ∙ sym (ap is_bool_dom (pure_dom-Int s rs)))

-- The declarations in scopes that grow have the same lettings.
pub same_lines : (add : Scope → TableDecl → Scope) (s : Scope) (ds : List PDecl) (ts : List NamedTable) →
    decl_lines ds ts ≡ cells_lines (pure_decls add s ds) (map pure_named_table ts)
same_lines add s [] ts = refl
same_lines add s (d ∷ ds) [] = refl
same_lines add s (d ∷ ds) (t ∷ ts) =
    ap (λ b. cells_line b (pure_named_table t) ++ decl_lines ds ts) (same_truths s d.cell)
    ∙ ap (λ l. cells_line (is_bool_dom (pure_dom s d.cell)) (pure_named_table t) ++ l) (same_lines add (add s (pure_decl s d)) ds ts)

-- One more letting.
pub lines_more : (out new start : Text) (b : Bool) (d : PDecl) (ds ds' : List PDecl) (t : NamedTable) (ts ts' : List NamedTable) →
    ts ≡ t ∷ ts' → ds ≡ d ∷ ds' → b ≡ is_bool_dom (pure_dom empty_scope d.cell) →
    new ≡ out ++ cells_line b (pure_named_table t) → out ++ decl_lines ds ts ≡ start →
    new ++ decl_lines ds' ts' ≡ start
lines_more out new start b d ds ds' t ts ts' first second same written h =
    ap (λ w. w ++ decl_lines ds' ts') (written ∙ ap (λ b. out ++ cells_line b (pure_named_table t)) same)
    ∙ append_assoc out (cells_line (is_bool_dom (pure_dom empty_scope d.cell)) (pure_named_table t)) (decl_lines ds' ts')
    ∙ ap (λ l. out ++ decl_lines l (t ∷ ts')) (sym second) ∙ ap (λ l. out ++ decl_lines ds l) (sym first) ∙ h

-- Without tables, or without declarations, there is none.
pub lines_none : (ds : List PDecl) (ts : List NamedTable) → (length ts ≡ 0) ⊎ (length ds ≡ 0) → decl_lines ds ts ≡ []
lines_none [] ts h = refl
lines_none (d ∷ ds) [] h = refl
lines_none (d ∷ ds) (t ∷ ts) (inl h) = absurd (omega (arith, h))
lines_none (d ∷ ds) (t ∷ ts) (inr h) = absurd (omega (arith, h))

-- All lettings are written.
pub lines_all : (out now : Text) (add : Scope → TableDecl → Scope) (s : Scope) (all ds : List PDecl) (whole ts : List NamedTable) →
    (length ts ≡ 0) ⊎ (length ds ≡ 0) →
    now ++ decl_lines ds ts ≡ out ++ decl_lines all whole → now ≡ out ++ cells_lines (pure_decls add s all) (map pure_named_table whole)
lines_all out now add s all ds whole ts h k =
    sym (append-nil now) ∙ ap (λ l. now ++ l) (sym (lines_none ds ts h)) ∙ k ∙ ap (λ l. out ++ l) (same_lines add s all whole)

-- The whole text: the language line, and the lettings of all tables.
pub whole_text : (none begun now : Text) (add : Scope → TableDecl → Scope) (s : Scope) (ds ds' : List PDecl) (ts ts' : List NamedTable) →
    ds' ≡ ds → ts' ≡ ts → none ≡ [] → begun ≡ none ++ codes "language ESSENCE' 1.0\n" →
    now ≡ begun ++ cells_lines (pure_decls add s ds') (map pure_named_table ts') →
    now ≡ cells_text (pure_decls add s ds) (map pure_named_table ts)
whole_text none begun now add s ds ds' ts ts' one two three four five =
    five ∙ ap (λ l. begun ++ cells_lines (pure_decls add s l) (map pure_named_table ts')) one
    ∙ ap (λ l. begun ++ cells_lines (pure_decls add s ds) (map pure_named_table l)) two
    ∙ ap (λ t. t ++ cells_lines (pure_decls add s ds) (map pure_named_table ts))
    (four ∙ ap (λ t. t ++ codes "language ESSENCE' 1.0\n") three)
