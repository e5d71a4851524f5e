-- One use of an option, and items that are added one by one.
use Rattle.std.proofs.Common.{◌≡◌, ◌∙◌, ℕ, ◌==◌, ◌&&◌, ◌||◌, not, Bool, cond, true, false, List, [], ◌∷◌, ◌++◌, map, Option, Some, None}
use Rattle.std.proofs.Common.{refl, ap}
use Rattle.std.specs.Prelude.{option_map, option_and_then}
use Rattle.clap.specs.Walk.{Row, has_row, used}
use Rattle.clap.specs.declared.error.kind.ErrorKind.TheVariants as kind
use Rattle.clap.specs.Kinds.{Kinds, or_else}
use Rattle.clap.specs.Faults.{use_fault}
use Rattle.conjure_cli_words.specs.Items.{Text, Item, Name, long, operand, option, short, then_item}
use Rattle.conjure_cli_words.specs.Forms.{gives}
use Rattle.conjure_cli_words.specs.Parsers.{id_of}
use Rattle.conjure_cli_words.proofs.Tables.{made, or_false, rule_for}
use Rattle.conjure_cli_words.proofs.Rows.{has_operand, row, row_for, used_first}
use Rattle.conjure_cli_words.proofs.Turns.{no_fault}

-- ---- one use of an option

pub use_once : (id : Text) (l : Option Text) (s index : Option ℕ) (q : Bool) (v : Text) (rows : List Row)
    → no_fault (use_fault false (made id l s index q) (v ∷ []) rows) ≡ not (has_row id rows)
use_once id l s index q v rows = go (has_row id rows)
  where
    go : (b : Bool) → no_fault (or_else (cond (b && not false) (kind.ArgumentConflict ∷ []) []) []) ≡ not b
    go true = refl
    go false = refl

pub use_of_one : (q : Bool) (name : Name) (v : Text) (rows : List Row) → no_fault (use_fault false (rule_for q name) (v ∷ []) rows)
    ≡ not (has_row (id_of name) rows)
use_of_one q (short x) v rows = use_once (id_of (short x)) None (Some x) None q v rows
use_of_one q (long m) v rows = use_once (id_of (long m)) (Some m) None None q v rows

pub use_of_none : (q : Bool) (name : Name) (rows : List Row) → no_fault (use_fault false (rule_for q name) [] rows) ≡ false
use_of_none q (short x) rows = refl
use_of_none q (long m) rows = refl

pub use_adds : (q : Bool) (name : Name) (v : Text) (rows : List Row) → has_row (id_of name) rows ≡ false
    → used (rule_for q name) (v ∷ []) rows ≡ rows ++ row (id_of name) v ∷ []
use_adds q (short x) v rows e = used_first (id_of (short x)) None (Some x) None q v rows e
use_adds q (long m) v rows e = used_first (id_of (long m)) (Some m) None None q v rows e

pub or_nothing : (a : Kinds) → no_fault (or_else a []) ≡ no_fault a
or_nothing [] = refl
or_nothing (k ∷ ks) = refl

-- ---- items that are added one by one

abbrev pub blocked : Bool → List Item → Item → Bool
blocked p before (option name value) = gives before name
blocked p before (operand word) = not p || has_operand before

abbrev pub adds : Bool → List Item → List Item → Option (List Item)
adds p before [] = Some before
adds p before (i ∷ rest) = cond (blocked p before i) None (adds p (before ++ i ∷ []) rest)

abbrev pub rows_of : Option (List Item) → Option (List Row)
rows_of = option_map (map row_for)

abbrev pub told : Bool → List Item → Option (List Item) → Option (List Row)
told p before o = rows_of (option_and_then (adds p before) o)

pub rows_of-cond : (b : Bool) (o : Option (List Item)) → rows_of (cond b None o) ≡ cond b None (rows_of o)
rows_of-cond true o = refl
rows_of-cond false o = refl

pub none_either : {X : Type 0} (b : Bool) → ◌≡◌ {A = Option X} None (cond b None None)
none_either true = refl
none_either false = refl

pub told-then : (p : Bool) (before : List Item) (i : Item) (o : Option (List Item)) → told p before (then_item i o)
    ≡ cond (blocked p before i) None (told p (before ++ i ∷ []) o)
told-then p before i None = none_either (blocked p before i)
told-then p before i (Some rest) = rows_of-cond (blocked p before i) (adds p (before ++ i ∷ []) rest)

pub operand-append : (before : List Item) (i : Item) → has_operand (before ++ i ∷ []) ≡ (has_operand before || has_operand (i ∷ []))
operand-append [] (option name value) = refl
operand-append [] (operand word) = refl
operand-append (option name value ∷ rest) i = operand-append rest i
operand-append (operand word ∷ rest) i = refl

pub or_true : (b : Bool) → (b || true) ≡ true
or_true true = refl
or_true false = refl

abbrev pub position_of : List Item → ℕ
position_of before = cond (has_operand before) 2 1

pub position-option : (before : List Item) (name : Name) (v : Text) → position_of (before ++ option name v ∷ []) ≡ position_of before
position-option before name v = ap (λ b. cond b 2 1) (operand-append before (option name v) ∙ or_false (has_operand before))

pub position-operand : (before : List Item) (word : Text) → position_of (before ++ operand word ∷ []) ≡ 2
position-operand before word = ap (λ b. cond b 2 1) (operand-append before (operand word) ∙ or_true (has_operand before))

pub place_is : (p a : Bool) → (p && (1 == cond a 2 1)) ≡ not (not p || a)
place_is true true = refl
place_is true false = refl
place_is false a = refl

pub no_operand_yet : (p a : Bool) → (not p || a) ≡ false → (p ≡ true) × (a ≡ false)
no_operand_yet true a e = (refl, e)
no_operand_yet false a e = cc
