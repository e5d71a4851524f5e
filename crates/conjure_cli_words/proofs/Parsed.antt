-- The command of a form is a table that is built, and what `clap` answers is what the form says.
use Rattle.std.proofs.Common.{◌≡◌, ◌∙◌, ℕ, ◌==◌, ◌&&◌, ◌||◌, not, Bool, cond, true, false, List, [], ◌∷◌, ◌++◌, map, Option, Some, None}
use Rattle.std.proofs.Common.{refl, sym, ap, ap₂, IfOk, Result, Ok, Err, is_some, inl, inr}
use Rattle.std.specs.Prelude.{codes, option_map}
use Rattle.std.specs.List.{count_by, list_all, list_any}
use Rattle.clap.specs.Walk.{Row, Rule, first_of, is_early_multiple, rows_of}
use Rattle.clap.specs.Matches.{found_of}
use Rattle.clap.specs.Simple.{App, HasMatchesOf, built, filled_from, is_buildable, is_ready, is_simple, matches_of}
use Rattle.clap.specs.Kinds.{FailsBy, HasKind, IsAmong, Kinds}
use Rattle.clap.specs.Faults.{fault_of, has_free_rules, is_simple_and_free}
use Rattle.clap.specs.Values.{kind_of}
use Rattle.clap.specs.declared.error.Error.{Error}
use Rattle.clap.specs.declared.error.kind.ErrorKind.TheVariants as kind
use Rattle.clap.specs.declared.parser.matches.ArgMatches.{ArgMatches}
use Rattle.clap.proofs.WalkLemmas.{first_value-rows, both}
use Rattle.conjure_cli_words.specs.Items.{Text, Item, Name, long, short}
use Rattle.conjure_cli_words.specs.Forms.{Form, read_as}
use Rattle.conjure_cli_words.specs.Parsers.{Entries, Finds, IsSmall, ReadsAs, entries_of, id_of, operand_id, parser_of, rules_in}
use Rattle.conjure_cli_words.proofs.Tables.{names_in, rule_for, rules_of}
use Rattle.conjure_cli_words.proofs.Rows.{first-operand, first-value, row_for}
use Rattle.conjure_cli_words.proofs.Turns.{no_fault, shape}
use Rattle.conjure_cli_words.proofs.Fits.{required_in}
use Rattle.conjure_cli_words.proofs.Adds as walks
use Rattle.conjure_cli_words.proofs.Levels.{IsFormOf, IsTable, table-reads}

-- ---- building

filled-rules : (es : Entries) (p : Bool) → filled_from 1 (rules_in es p) ≡ rules_of es p
filled-rules [] true = refl
filled-rules [] false = refl
filled-rules ((short x, q) ∷ es) p = ap (λ rs. rule_for q (short x) ∷ rs) (filled-rules es p)
filled-rules ((long n, q) ∷ es) p = ap (λ rs. rule_for q (long n) ∷ rs) (filled-rules es p)

simple_in : (es : Entries) (p : Bool) → list_all (λ (a : Rule). a.is_simple) (rules_in es p) ≡ true
simple_in [] true = refl
simple_in [] false = refl
simple_in ((short x, q) ∷ es) p = simple_in es p
simple_in ((long n, q) ∷ es) p = simple_in es p

simple_of : (es : Entries) (p : Bool) → list_all (λ (a : Rule). a.is_simple) (rules_of es p) ≡ true
simple_of [] true = refl
simple_of [] false = refl
simple_of ((short x, q) ∷ es) p = simple_of es p
simple_of ((long n, q) ∷ es) p = simple_of es p

free_of : (es : Entries) (p : Bool) → list_all (λ (a : Rule). a.is_free) (rules_of es p) ≡ true
free_of [] true = refl
free_of [] false = refl
free_of ((short x, q) ∷ es) p = free_of es p
free_of ((long n, q) ∷ es) p = free_of es p

none_early : (n : ℕ) (es : Entries) (p : Bool) → list_any (is_early_multiple n) (rules_of es p) ≡ false
none_early n [] true = refl
none_early n [] false = refl
none_early n ((short x, q) ∷ es) p = none_early n es p
none_early n ((long m, q) ∷ es) p = none_early n es p

module _ (form : Form) where
  abbrev es : Entries
  es = entries_of form

  abbrev p : Bool
  p = not (form.operands == 0)

  abbrev table : App
  table = record { top = shape (codes "conjure") (rules_of es p); subs = [] }

  built-table : built (parser_of form) ≡ table
  built-table = ap (λ rs. record { top = shape (codes "conjure") rs; subs = [] }) (filled-rules es p)

  tests : List Rule → Bool
  tests rules =
      (is_buildable (parser_of form) && (is_ready (shape (codes "conjure") rules) && true))
      && (has_free_rules (shape (codes "conjure") rules) && true)

  tests-pass : tests (rules_of es p) ≡ true
  unfolding tests
  tests-pass =
      (λ i. ((simple_in es p i && true) && ((simple_of es p i && not (none_early (count_by (λ a. is_some a.index) (rules_of es p)) es p i))
      && true)) && (free_of es p i && true))

  table-simple : is_simple_and_free (parser_of form) ≡ true
  unfolding tests
  table-simple = ap tests (filled-rules es p) ∙ tests-pass

  is_table : IsTable (parser_of form) (codes "conjure") es p
  is_table = record { is_built = built-table; words = refl }

names-append : (xs ys : Entries) → names_in (xs ++ ys) ≡ names_in xs ++ names_in ys
names-append [] ys = refl
names-append (x ∷ xs) ys = ap (λ t. x.0 ∷ t) (names-append xs ys)

names-map : (q : Bool) (names : List Name) → names_in (map (λ name. (name, q)) names) ≡ names
names-map q [] = refl
names-map q (n ∷ ns) = ap (λ t. n ∷ t) (names-map q ns)

required-optional : (names : List Name) (es : Entries) → required_in (map (λ name. (name, false)) names ++ es) ≡ required_in es
required-optional [] more = refl
required-optional (n ∷ ns) more = required-optional ns more

required-map : (names : List Name) → required_in (map (λ name. (name, true)) names) ≡ names
required-map [] = refl
required-map (n ∷ ns) = ap (λ t. n ∷ t) (required-map ns)

is_form : (form : Form) → IsSmall form → IsFormOf form (entries_of form) (not (form.operands == 0))
is_form form small = record {
  names = names-append (map (λ name. (name, false)) form.optional) (map (λ name. (name, true)) form.required)
      ∙ ap₂ (λ a b. a ++ b) (names-map false form.optional) (names-map true form.required);
  required = required-optional form.optional (map (λ name. (name, true)) form.required) ∙ required-map form.required;
  operands = small;
}

-- ---- answers

reads : (form : Form) (words : List Text) → IsSmall form
    → cond (no_fault (fault_of (parser_of form) words)) (Some (matches_of (parser_of form) words)) None ≡ walks.rows_of (read_as form words)
reads form words small =
    table-reads (parser_of form) (codes "conjure") (entries_of form) (not (form.operands == 0)) form words (is_table form)
    (is_form form small)

finds : (m : ArgMatches) (items : List Item) → rows_of (found_of m) ≡ map row_for items → Finds m items
finds m items e = (
  λ name. first_value-rows (found_of m) (id_of name) ∙ ap (first_of (id_of name)) e ∙ first-value items name,
  first_value-rows (found_of m) operand_id ∙ ap (first_of operand_id) e ∙ first-operand items,
)

same_some : {X : Type 0} (x y : X) → ◌≡◌ {A = Option X} (Some x) (Some y) → x ≡ y
same_some x y e = cc

reads_ok : (form : Form) (words : List Text) (m : ArgMatches) (o : Option (List Item)) → read_as form words ≡ o
    → Some (rows_of (found_of m)) ≡ walks.rows_of o → ReadsAs form words m
reads_ok form words m None e is = cc
reads_ok form words m (Some items) e is = (items, e, finds m items (same_some (rows_of (found_of m)) (map row_for items) is))

-- what `clap` answers at `Ok` is what the form says
pub parsed_ok : (app : App) (form : Form) (words : List Text) (r : Result ArgMatches Error) → app ≡ parser_of form → IsSmall form
    → IfOk r (HasMatchesOf app words) → (is_simple_and_free app ≡ true → FailsBy (fault_of app words) r) → IfOk r (ReadsAs form words)
parsed_ok app form words (Ok m) is small matches kinds =
    let passes = kinds (ap is_simple_and_free is ∙ table-simple form) in
    let no_faults : no_fault (fault_of (parser_of form) words) ≡ true = ap (λ a. no_fault (fault_of a words)) (sym is)
    ∙ ap no_fault passes in
    let rows : rows_of (found_of m) ≡ matches_of (parser_of form) words =
    (matches (ap is_simple is ∙ (both _ _ (table-simple form)).0)).0 ∙ ap (λ a. matches_of a words) is in
    reads_ok form words m (read_as form words) refl
    (ap (λ rs. Some rs) rows ∙ ap (λ b. cond b (Some (matches_of (parser_of form) words)) None) (sym no_faults) ∙ reads form words small)
parsed_ok app form words (Err e) is small matches kinds = tt

not_read : (o : Option (List Item)) → ◌≡◌ {A = Option (List Row)} None (walks.rows_of o) → o ≡ None
not_read None e = refl
not_read (Some items) e = cc

some_fault : (kinds : Kinds) (e : Error) → (kind_of e ≡ kind.OutOfMemory → ⊥) → HasKind kinds e → no_fault kinds ≡ false
some_fault [] e other (inl h) = absurd (other h)
some_fault [] e other (inr h) = absurd h
some_fault (k ∷ ks) e other h = refl

-- an `Err` but for want of memory says that the words don't fit
pub parsed_err : (app : App) (form : Form) (words : List Text) (e : Error) → app ≡ parser_of form → IsSmall form
    → (is_simple_and_free app ≡ true → HasKind (fault_of app words) e) → (kind_of e ≡ kind.OutOfMemory → ⊥) → read_as form words ≡ None
parsed_err app form words e is small kinds other =
    let faults : no_fault (fault_of (parser_of form) words) ≡ false =
    ap (λ a. no_fault (fault_of a words)) (sym is) ∙ some_fault (fault_of app words) e other
    (kinds (ap is_simple_and_free is ∙ table-simple form)) in
    not_read (read_as form words) (ap (λ b. cond b (Some (matches_of (parser_of form) words)) None) (sym faults) ∙ reads form words small)
