-- The literals of tables that fit their declarations are these tables.
use Rattle.std.proofs.Common.{◌≡◌, refl, sym, ap, ◌∙◌, true, ◌&&◌, List, [], ◌∷◌, map, Option, Some, None}
use Rattle.std.specs.List.{list_all}
use Rattle.std.proofs.lemmas.Bool.{and_parts}
use Rattle.ess_semantics.specs.Lists.{and_then}
use Rattle.ess_semantics.specs.Values.{Text}
use Rattle.ess_semantics.specs.Order.{same_text}
use Rattle.ess_semantics.specs.Names.{Names, look, keys, all_distinct}
use Rattle.ess_semantics.specs.Large.{in_64_bits}
use Rattle.ess_semantics.specs.Trees.{Ex}
use Rattle.ess_semantics.specs.Tables.{Table}
use Rattle.ess_semantics.specs.DeclaredTables.{TableDecl}
use Rattle.ess_semantics.specs.Satisfaction.{table_fits, tables_fit}
use Rattle.ess_semantics.proofs.Texts.{same_text-equal}
use Rattle.ess_grammar.specs.Readable.{is_name_token}
use Rattle.eprime_cells_laws.specs.TableReading.{CellsAnswer, declared_table, tables, outside_domain, with_table, tables_of, first_missing, first_extra, cells_answer, missing_letting, extra_letting}
use Rattle.eprime_cells_laws.specs.CellsText.{cells_literals}
use Rattle.eprime_cells_laws.specs.Laws.{is_plain_axis, is_printable_table, are_printable_tables}
use Rattle.eprime_cells_laws.proofs.TablesBack.{table-back}
use Rattle.eprime_cells_laws.proofs.NamesBack.{none-missing, none-extra, AllFound, all-found}

module _ (known : List TableDecl) (q : Names Table) where
  -- What is known of tables that fit their declarations: one, and the others.
  pub fit-parts : (d : TableDecl) (ds : List TableDecl) (c : Text × Table) (cs : Names Table) →
      tables_fit known q (d ∷ ds) (c ∷ cs) ≡ true →
      (d.name ≡ c.0) × (table_fits known q d c.1 ≡ true) × (tables_fit known q ds cs ≡ true)
  fit-parts d ds c cs h =
      let both = and_parts (same_text d.name c.0 && table_fits known q d c.1) (tables_fit known q ds cs) h in
      let first = and_parts (same_text d.name c.0) (table_fits known q d c.1) both.0 in
      (same_text-equal d.name c.0 first.0, first.1, both.1)

  names-fit : (ds : List TableDecl) (cs : Names Table) → tables_fit known q ds cs ≡ true → map (λ d. d.name) ds ≡ keys cs
  names-fit [] [] h = refl
  names-fit [] (c ∷ cs) h = cc
  names-fit (d ∷ ds) [] h = cc
  names-fit (d ∷ ds) (c ∷ cs) h =
      let parts = fit-parts d ds c cs h in ap (λ a. a ∷ map (λ d. d.name) ds) parts.0 ∙ ap (λ ns. c.0 ∷ ns) (names-fit ds cs parts.2)

  literals-keys : (ds : List TableDecl) (cs : Names Table) → tables_fit known q ds cs ≡ true → keys (cells_literals ds cs) ≡ keys cs
  literals-keys [] [] h = refl
  literals-keys [] (c ∷ cs) h = cc
  literals-keys (d ∷ ds) [] h = cc
  literals-keys (d ∷ ds) (c ∷ cs) h = ap (λ ns. c.0 ∷ ns) (literals-keys ds cs (fit-parts d ds c cs h).2)

  tables-back : (all : Names Ex) (ds : List TableDecl) (cs : Names Table) → tables_fit known q ds cs ≡ true →
      list_all is_printable_table cs ≡ true →
      AllFound all (cells_literals ds cs) → tables_of known q ds all ≡ tables cs
  tables-back all [] [] h p f = refl
  tables-back all [] (c ∷ cs) h p f = cc
  tables-back all (d ∷ ds) [] h p f = cc
  tables-back all (d ∷ ds) (c ∷ cs) h p f =
      let parts = fit-parts d ds c cs h in
      let printable = and_parts (is_printable_table c) (list_all is_printable_table cs) p in
      let numbers = and_parts (is_name_token c.0) (list_all is_plain_axis c.1.axes && list_all in_64_bits c.1.items) printable.0 in
      let axes = (and_parts (list_all is_plain_axis c.1.axes) (list_all in_64_bits c.1.items) numbers.1).0 in
      let next : Option Table → CellsAnswer =
      λ o. elim o [ None ↦ outside_domain d.name | Some t ↦ with_table d.name t (tables_of known q ds all) ] in
      ap (λ a. next (and_then (look all a) (declared_table known q d))) parts.0
      ∙ ap (λ o. next (and_then o (declared_table known q d))) f.0
      ∙ ap next (table-back known q d c.1 parts.1 axes)
      ∙ ap (with_table d.name c.1) (tables-back all ds cs parts.2 printable.1 f.1)
      ∙ ap (λ a. tables ((a, c.1) ∷ cs)) parts.0

  -- The answer is these tables.
  pub cells-back : (ds : List TableDecl) (cs : Names Table) → tables_fit known q ds cs ≡ true → are_printable_tables cs ≡ true →
      cells_answer known q ds (cells_literals ds cs) ≡ tables cs
  cells-back ds cs h p =
      let parts = and_parts (all_distinct (keys cs)) (list_all is_printable_table cs) p in
      let es = cells_literals ds cs in
      let names : keys es ≡ map (λ d. d.name) ds = literals-keys ds cs h ∙ sym (names-fit ds cs h) in
      let missing : first_missing ds (keys es) ≡ None = ap (first_missing ds) names ∙ none-missing ds in
      let distinct : all_distinct (map (λ d. d.name) ds) ≡ true = ap all_distinct (names-fit ds cs h) ∙ parts.0 in
      let extra : first_extra (map (λ d. d.name) ds) (keys es) ≡ None = ap (first_extra (map (λ d. d.name) ds)) names
      ∙ none-extra (map (λ d. d.name) ds) distinct in
      let found = all-found es (ap all_distinct (literals-keys ds cs h) ∙ parts.0) in
      let later : Option Text → CellsAnswer = λ o. elim o [ Some x ↦ extra_letting x | None ↦ tables_of known q ds es ] in
      ap (λ o. elim o [ Some x ↦ missing_letting x | None ↦ later (first_extra (map (λ d. d.name) ds) (keys es)) ]) missing
      ∙ ap later extra ∙ tables-back es ds cs h parts.1 found
