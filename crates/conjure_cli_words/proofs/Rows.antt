-- The rows of items, as `clap` keeps them.
use Rattle.std.proofs.Common.{◌≡◌, ◌∙◌, ℕ, ◌==◌, ◌&&◌, ◌||◌, not, Bool, cond, true, false, List, [], ◌∷◌, ◌++◌, map, Option, Some, None}
use Rattle.std.proofs.Common.{refl, sym, ap, ap₂, append-nil}
use Rattle.std.specs.Prelude.{slice_get, option_and_then}
use Rattle.std.specs.Option.{option_map_or}
use Rattle.std.specs.List.{list_any, find}
use Rattle.std.specs.Str.{bytes_eq}
use Rattle.clap.specs.Walk.{Row, at_row, first_of, has_row, more_values, used, with_values}
use Rattle.clap.specs.Facts.{explicit_source}
use Rattle.clap.specs.Takes.{is_given}
use Rattle.clap.specs.declared.builder.value_parser.Reading.TheVariants as reading
use Rattle.clap.specs.declared.parser.matches.ValueSource.TheVariants.{CommandLine}
use Rattle.conjure_cli_words.specs.Items.{Text, Name, Item, option, operand, same_name}
use Rattle.conjure_cli_words.specs.Forms.{gives, operands_of, value_in}
use Rattle.conjure_cli_words.specs.Parsers.{id_of, operand_id}
use Rattle.conjure_cli_words.proofs.Tables.{made, operand_no_option, option_no_operand, same_id}

abbrev pub row : Text → Text → Row
row id value = record { id = id; values = value ∷ []; count = None; source = Some CommandLine; reading = reading.AsWritten }

abbrev pub row_for : Item → Row
row_for (option name value) = row (id_of name) value
row_for (operand word) = row operand_id word

abbrev pub has_operand : List Item → Bool
has_operand [] = false
has_operand (option name value ∷ rest) = has_operand rest
has_operand (operand word ∷ rest) = true

pub row-given : (items : List Item) (name : Name) → has_row (id_of name) (map row_for items) ≡ gives items name
row-given [] name = refl
row-given (option other value ∷ rest) name = ap₂ (λ a b. a || b) (same_id other name) (row-given rest name)
row-given (operand word ∷ rest) name = ap₂ (λ a b. a || b) (operand_no_option name) (row-given rest name)

pub row-operand : (items : List Item) → has_row operand_id (map row_for items) ≡ has_operand items
row-operand [] = refl
row-operand (option other value ∷ rest) = ap₂ (λ a b. a || b) (option_no_operand other) (row-operand rest)
row-operand (operand word ∷ rest) = refl

absent_next : (b has : Bool) (r : Row) (changed rs after : List Row) → (b || has) ≡ false → (has ≡ false → after ≡ rs)
    → cond b changed (r ∷ after) ≡ r ∷ rs
absent_next true has r changed rs after h more = cc
absent_next false has r changed rs after h more = ap (λ t. r ∷ t) (more h)

absent : (id : Text) (change : Row → List Row) (missing rows : List Row) → has_row id rows ≡ false → at_row id change missing rows
    ≡ rows ++ missing
absent id change missing [] e = refl
absent id change missing (r ∷ rs) e =
    absent_next (bytes_eq r.id id) (has_row id rs) r (change r ++ rs) (rs ++ missing) _ e (λ h. absent id change missing rs h)

-- a first use adds a row
pub used_first : (id : Text) (l : Option Text) (s index : Option ℕ) (required : Bool) (value : Text) (rows : List Row) → has_row id rows
    ≡ false
    → used (made id l s index required) (value ∷ []) rows ≡ rows ++ row id value ∷ []
used_first id l s index required value rows e =
    let out : at_row id (λ _. []) [] rows ≡ rows = absent id (λ _. []) [] rows e ∙ append-nil rows in
    ap (λ t. with_values id reading.AsWritten CommandLine (value ∷ []) t) out
    ∙ absent id (more_values CommandLine (value ∷ [])) (row id value ∷ []) rows e

-- what is given
given_next : (b : Bool) (id other value : Text) (rows : List Row) → is_given id rows ≡ has_row id rows
    → option_map_or (λ (r : Row). explicit_source r.source) (cond b (Some (row other value)) (find (λ (r : Row). bytes_eq r.id id) rows))
    false ≡ (b || has_row id rows)
given_next true id other value rows h = refl
given_next false id other value rows h = h

pub given_row : (id : Text) (items : List Item) → is_given id (map row_for items) ≡ has_row id (map row_for items)
given_row id [] = refl
given_row id (option name value ∷ rest) = given_next (bytes_eq (id_of name) id) id (id_of name) value (map row_for rest) (given_row id rest)
given_row id (operand word ∷ rest) = given_next (bytes_eq operand_id id) id operand_id word (map row_for rest) (given_row id rest)

-- the values
first_next : (b : Bool) (id other value : Text) (rows : List Row) (o : Option Text) → first_of id rows ≡ o
    → option_and_then (λ (r : Row). slice_get r.values 0) (cond b (Some (row other value)) (find (λ (r : Row). bytes_eq r.id id) rows))
    ≡ cond b (Some value) o
first_next true id other value rows o h = refl
first_next false id other value rows o h = h

pub first-value : (items : List Item) (name : Name) → first_of (id_of name) (map row_for items) ≡ value_in items name
first-value [] name = refl
first-value (option other value ∷ rest) name =
    first_next (bytes_eq (id_of other) (id_of name)) (id_of name) (id_of other) value (map row_for rest) _ (first-value rest name)
    ∙ ap (λ b. cond b (Some value) (value_in rest name)) (same_id other name)
first-value (operand word ∷ rest) name =
    first_next (bytes_eq operand_id (id_of name)) (id_of name) operand_id word (map row_for rest) _ (first-value rest name)
    ∙ ap (λ b. cond b (Some word) (value_in rest name)) (operand_no_option name)

pub first-operand : (items : List Item) → first_of operand_id (map row_for items) ≡ slice_get (operands_of items) 0
first-operand [] = refl
first-operand (option other value ∷ rest) =
    first_next (bytes_eq (id_of other) operand_id) operand_id (id_of other) value (map row_for rest) _ (first-operand rest)
    ∙ ap (λ b. cond b (Some value) (slice_get (operands_of rest) 0)) (option_no_operand other)
first-operand (operand word ∷ rest) = refl
