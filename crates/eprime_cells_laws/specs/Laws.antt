-- The law of printed tables: their text is read as them.
use Rattle.std.specs.Prelude.{◌≡◌, Bool, ◌&&◌, List, map, ℤ, IsTrue}
use Rattle.std.specs.List.{list_all}
use Rattle.ess_semantics.specs.Values.{Text, number, itself}
use Rattle.ess_semantics.specs.Names.{Names, keys, all_distinct}
use Rattle.ess_semantics.specs.Collections.{rises}
use Rattle.ess_semantics.specs.Large.{in_64_bits}
use Rattle.ess_semantics.specs.DeclaredTables.{TableDecl}
use Rattle.ess_semantics.specs.Tables.{Table}
use Rattle.ess_semantics.specs.Satisfaction.{tables_fit}
use Rattle.ess_grammar.specs.Readable.{is_name_token}
use Rattle.ess_grammar.specs.CellTexts.{IsCells}
use Rattle.ess_print_laws.specs.Laws.{ReadsInSubset}
use Rattle.eprime_cells_laws.specs.TableReading.{tables, cells_answer}
use Rattle.eprime_cells_laws.specs.CellsText.{cells_text, cells_literals}

-- Whether the members of an axis rise strictly and lie in 64 bits.
abbrev pub is_plain_axis : List ℤ → Bool
is_plain_axis a = rises itself (map number a) && list_all in_64_bits a

-- Whether a table may be printed under its name: the name is a name token, and the axes and items are such numbers.
abbrev pub is_printable_table : Text × Table → Bool
is_printable_table c = is_name_token c.0 && (list_all is_plain_axis c.1.axes && list_all in_64_bits c.1.items)

-- Whether tables may be printed: each may, and no name stands twice.
abbrev pub are_printable_tables : Names Table → Bool
are_printable_tables cs = all_distinct (keys cs) && list_all is_printable_table cs

-- The text is one of cells, and its values are these tables for their declarations, where `known` and q declare and give what
-- the declared domains mention.
abbrev pub ReadsAsTables : Text → List TableDecl → Names Table → List TableDecl → Names Table → Type 0
ReadsAsTables text known q ds cs =
    ReadsInSubset text (IsCells (cells_literals ds cs)) × (cells_answer known q ds (cells_literals ds cs) ≡ tables cs)

-- The text of the declared tables is read as them.
abbrev pub PrintedTablesAreRead : Type 0
PrintedTablesAreRead = (known : List TableDecl) (q : Names Table) (ds : List TableDecl) (cs : Names Table) →
    IsTrue (tables_fit known q ds cs) → IsTrue (are_printable_tables cs) → ReadsAsTables (cells_text ds cs) known q ds cs
