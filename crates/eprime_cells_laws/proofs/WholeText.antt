-- The text of tables is one of cells, with their literals.
use Rattle.std.proofs.Common.{◌≡◌, refl, sym, ap, ◌∙◌, subst, Bool, true, ◌&&◌, List, [], ◌∷◌, ◌++◌, codes, append_assoc}
use Rattle.std.specs.List.{list_all}
use Rattle.std.specs.Fmt.{digits}
use Rattle.std.proofs.lemmas.Bool.{and_parts}
use Rattle.ess_semantics.specs.Values.{Text}
use Rattle.ess_semantics.specs.Names.{Names, keys, all_distinct}
use Rattle.ess_semantics.specs.Large.{in_64_bits}
use Rattle.ess_semantics.specs.Trees.{Ex, let_ex}
use Rattle.ess_semantics.specs.Meaning.{is_bool_dom}
use Rattle.ess_semantics.specs.Tables.{Table}
use Rattle.ess_semantics.specs.DeclaredTables.{TableDecl}
use Rattle.ess_semantics.specs.Satisfaction.{tables_fit}
use Rattle.ess_grammar.specs.Words.{number, prime_word, language_word, dot}
use Rattle.ess_grammar.specs.ValueTexts.{value_text, literal_of}
use Rattle.ess_grammar.specs.Readable.{is_name_token}
use Rattle.ess_grammar.specs.CellTexts.{CellLettings, IsCells, no_cells, more_cells, prime_line, cells}
use Rattle.ess_print_laws.specs.Pieces.{Piece, token, space, next_line, text_of, tokens_of, Printer, reserved, sign}
use Rattle.ess_print_laws.specs.Statements.{stm_pieces}
use Rattle.ess_print_laws.specs.Touching.{Separate}
use Rattle.ess_print_laws.specs.Laws.{ReadsInSubset}
use Rattle.ess_print_laws.specs.Spelled.{is_spelled}
use Rattle.ess_print_laws.proofs.Appended.{text-behind, stm-appends}
use Rattle.ess_print_laws.proofs.SpelledReadable.{value-readable}
use Rattle.ess_print_laws.proofs.ValueTexts.{value-text-is}
use Rattle.ess_print_laws.proofs.SafeTrees.{stm-safe}
use Rattle.ess_print_laws.proofs.LexedPieces.{printed-tokens, printed-inside}
use Rattle.eprime_cells_laws.specs.CellsText.{table_value, no_names, cells_line, cells_lines, cells_text, cells_literals}
use Rattle.eprime_cells_laws.specs.Laws.{is_plain_axis, is_printable_table, are_printable_tables, ReadsAsTables}
use Rattle.eprime_cells_laws.proofs.SpelledTables.{table-spelled}
use Rattle.eprime_cells_laws.proofs.DerivedCells.{table-derived}
use Rattle.eprime_cells_laws.proofs.CellsBack.{cells-back}

-- The literal of a table.
abbrev table_literal : Bool → Table → Ex
table_literal b t = literal_of no_names (table_value b t.axes t.items)

-- ---- the pieces

abbrev lettings : List TableDecl → Names Table → Printer
lettings (d ∷ ds) (c ∷ cs) us = stm_pieces (let_ex c.0 (table_literal (is_bool_dom d.cell) c.1)) (next_line ∷ lettings ds cs us)
lettings [] cs us = us
lettings (d ∷ ds) [] us = us

abbrev language_line : Printer
language_line us =
    reserved language_word ∷ space ∷ token prime_word ∷ space ∷ token (number 1) ∷ sign dot ∷ token (number 0) ∷ next_line ∷ us

-- ---- one letting

-- What is known of a table that is printed.
record Printable (b : Bool) (c : Text × Table) : Type 0 where
  named : is_name_token c.0 ≡ true
  spelled : is_spelled no_names (table_value b c.1.axes c.1.items) ≡ true

printable : (b : Bool) (c : Text × Table) → is_printable_table c ≡ true → Printable b c
printable b c h =
    let parts = and_parts (is_name_token c.0) (list_all is_plain_axis c.1.axes && list_all in_64_bits c.1.items) h in
    let numbers = and_parts (list_all is_plain_axis c.1.axes) (list_all in_64_bits c.1.items) parts.1 in
    record { named = parts.0; spelled = table-spelled b c.1.axes numbers.0 c.1.items numbers.1 }

-- its own text, behind the words and the name
letting-text : (b : Bool) (c : Text × Table) → Printable b c → (us : List Piece) →
    text_of (stm_pieces (let_ex c.0 (table_literal b c.1)) (next_line ∷ us)) ≡ cells_line b c ++ text_of us
letting-text b c h us =
    let s = let_ex c.0 (table_literal b c.1) in
    text-behind (stm_pieces s) (stm-appends s) (next_line ∷ us)
    ∙ ap (λ t. (codes "letting " ++ (c.0 ++ (codes " be " ++ t))) ++ (codes "\n" ++ text_of us))
    (value-text-is no_names (table_value b c.1.axes c.1.items) h.spelled)
    ∙ spread (value_text no_names (table_value b c.1.axes c.1.items)) (text_of us)
  where
    spread : (v w : Text) → (codes "letting " ++ (c.0 ++ (codes " be " ++ v))) ++ (codes "\n" ++ w)
        ≡ (codes "letting " ++ c.0 ++ codes " be " ++ v ++ codes "\n") ++ w
    spread v w =
        sym (append_assoc (codes "letting " ++ (c.0 ++ (codes " be " ++ v))) (codes "\n") w)
        ∙ ap (λ t. ((codes "letting " ++ t) ++ codes "\n") ++ w) (sym (append_assoc c.0 (codes " be ") v))

-- ---- all lettings

lettings-text : (ds : List TableDecl) (cs : Names Table) → list_all is_printable_table cs ≡ true →
    text_of (lettings ds cs []) ≡ cells_lines ds cs
lettings-text [] cs h = refl
lettings-text (d ∷ ds) [] h = refl
lettings-text (d ∷ ds) (c ∷ cs) h =
    let parts = and_parts (is_printable_table c) (list_all is_printable_table cs) h in
    letting-text (is_bool_dom d.cell) c (printable (is_bool_dom d.cell) c parts.0) (lettings ds cs [])
    ∙ ap (λ t. cells_line (is_bool_dom d.cell) c ++ t) (lettings-text ds cs parts.1)

lettings-separate : (ds : List TableDecl) (cs : Names Table) → list_all is_printable_table cs ≡ true → Separate (lettings ds cs [])
lettings-separate [] cs h = tt
lettings-separate (d ∷ ds) [] h = tt
lettings-separate (d ∷ ds) (c ∷ cs) h =
    let parts = and_parts (is_printable_table c) (list_all is_printable_table cs) h in
    let b = is_bool_dom d.cell in
    let k = printable b c parts.0 in
    (stm-safe (let_ex c.0 (table_literal b c.1)) (k.named, value-readable no_names (table_value b c.1.axes c.1.items) k.spelled)).law
    (next_line ∷ lettings ds cs []) refl (lettings-separate ds cs parts.1)

lettings-derived : (ds : List TableDecl) (cs : Names Table) → CellLettings (cells_literals ds cs) (tokens_of (lettings ds cs []))
lettings-derived [] cs = no_cells
lettings-derived (d ∷ ds) [] = no_cells
lettings-derived (d ∷ ds) (c ∷ cs) =
    more_cells (table-derived (is_bool_dom d.cell) c.1.axes c.1.items (next_line ∷ lettings ds cs [])) (lettings-derived ds cs)

-- ---- the text

language-separate : (us : List Piece) → Separate us → Separate (language_line us)
unfolding digits
language-separate us h = (refl, refl, (refl, refl, (refl, refl, (refl, refl, (refl, refl, h)))))

language-text : (us : List Piece) → text_of (language_line us) ≡ codes "language ESSENCE' 1.0\n" ++ text_of us
unfolding digits
language-text us = refl

pub text-read : (ds : List TableDecl) (cs : Names Table) → list_all is_printable_table cs ≡ true →
    ReadsInSubset (cells_text ds cs) (IsCells (cells_literals ds cs))
text-read ds cs h =
    let ps = language_line (lettings ds cs []) in
    let separate = language-separate (lettings ds cs []) (lettings-separate ds cs h) in
    subst (λ t. ReadsInSubset t (IsCells (cells_literals ds cs)))
    (language-text (lettings ds cs []) ∙ ap (λ t. codes "language ESSENCE' 1.0\n" ++ t) (lettings-text ds cs h))
    ((tokens_of ps, printed-tokens ps separate, cells prime_line (lettings-derived ds cs)), printed-inside ps separate)

-- The text of the declared tables is read as them.
pub tables-read : (known : List TableDecl) (q : Names Table) (ds : List TableDecl) (cs : Names Table) (text : Text) →
    tables_fit known q ds cs ≡ true →
    are_printable_tables cs ≡ true → text ≡ cells_text ds cs → ReadsAsTables text known q ds cs
tables-read known q ds cs text h p e =
    subst (λ t. ReadsAsTables t known q ds cs) (sym e)
    (text-read ds cs (and_parts (all_distinct (keys cs)) (list_all is_printable_table cs) p).1, cells-back known q ds cs h p)
