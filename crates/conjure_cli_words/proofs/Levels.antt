-- A `clap` command of a table of options has no fault exactly where the words fit its form, and its rows are then those of the items.
use Rattle.std.proofs.Common.{◌≡◌, ◌∙◌, ℕ, ◌==◌, ◌&&◌, ◌||◌, not, Bool, cond, true, false, List, [], ◌∷◌, ◌++◌, map, Option, Some, None}
use Rattle.std.proofs.Common.{refl, sym, ap, ap₂}
use Rattle.std.specs.Prelude.{option_and_then, fold, drop}
use Rattle.clap.specs.Walk.{Row, Rule, Walk, finished, has_row, is_empty, nothing_held, rows_after, settled, walk, walk_from, walked}
use Rattle.clap.specs.Walk.{with_default}
use Rattle.clap.specs.Simple.{App, Shape, argument_words, built, matches_of, names_of}
use Rattle.clap.specs.Kinds.{Kinds, or_else}
use Rattle.clap.specs.declared.error.kind.ErrorKind.TheVariants as kind
use Rattle.clap.specs.Faults.{built_fault, check_fault, default_fault, defaults_fault, fault_of, given_default_fault, level_fault}
use Rattle.clap.specs.Faults.{settle_fault, turn_fault, walk_fault}
use Rattle.clap.proofs.FaultLemmas.{leaf_fault}
use Rattle.conjure_cli_words.specs.Items.{Text, Item, Name, items_of, long, short}
use Rattle.conjure_cli_words.specs.Forms.{Form, fitting, read_as}
use Rattle.conjure_cli_words.specs.Parsers.{Entries}
use Rattle.conjure_cli_words.proofs.Tables.{names_in, operand_rule, rule_for, rules_of}
use Rattle.conjure_cli_words.proofs.Rows.{row_for}
use Rattle.conjure_cli_words.proofs.Turns.{no_fault, no_fault-or_else, shape}
use Rattle.conjure_cli_words.proofs.Adds.{rows_of, told}
use Rattle.conjure_cli_words.proofs.Outcomes.{outcome}
use Rattle.conjure_cli_words.proofs.Walks.{walk-items}
use Rattle.conjure_cli_words.proofs.Fits.{adds-fitting, lacks, required_in, with_all}

-- ---- no default

same_either : (b : Bool) (rows : List Row) → cond b rows rows ≡ rows
same_either true rows = refl
same_either false rows = refl

kept_by : (rows : List Row) (a : Name) (q : Bool) → with_default rows (rule_for q a) ≡ rows
kept_by rows (short x) q = same_either (has_row (rule_for q (short x)).id rows) rows
kept_by rows (long m) q = same_either (has_row (rule_for q (long m)).id rows) rows

or_true : (b : Bool) → (b || true) ≡ true
or_true true = refl
or_true false = refl

no_default_of : (rows : List Row) (a : Name) (q : Bool) → default_fault rows (rule_for q a) ≡ []
no_default_of rows (short x) q = ap (λ b. cond b [] (given_default_fault (rule_for q (short x)) []))
    (or_true (has_row (rule_for q (short x)).id rows))
no_default_of rows (long m) q = ap (λ b. cond b [] (given_default_fault (rule_for q (long m)) []))
    (or_true (has_row (rule_for q (long m)).id rows))

no_default : (rows : List Row) (es : Entries) (p : Bool) → defaults_fault rows (rules_of es p) ≡ []
unfolding defaults_fault
no_default rows [] true = ap (λ b. or_else (cond b [] (given_default_fault operand_rule [])) []) (or_true (has_row operand_rule.id rows))
no_default rows [] false = refl
no_default rows ((a, q) ∷ es) p = ap₂ or_else (no_default_of rows a q)
    (ap (λ rs. defaults_fault rs (rules_of es p)) (kept_by rows a q) ∙ no_default rows es p)

kept : (rows : List Row) (es : Entries) (p : Bool) → fold with_default rows (rules_of es p) ≡ rows
kept rows [] true = same_either (has_row operand_rule.id rows) rows
kept rows [] false = refl
kept rows ((a, q) ∷ es) p = ap (λ rs. fold with_default rs (rules_of es p)) (kept_by rows a q) ∙ kept rows es p

-- ---- the walk in one

and_next : {X : Type 0} (a b s : Bool) (x : Option X) → cond a (cond (b && s) x None) None ≡ cond ((a && b) && s) x None
and_next true b s x = refl
and_next false b s x = refl

module _ (label : Text) (es : Entries) (p : Bool) where
  abbrev c : List Rule
  c = rules_of es p

  abbrev s : Shape
  s = shape label c

  abbrev end : Walk → List Text → Walk
  end w words = fold (walked c []) w words

  whole : (w : Walk) (words : List Text) → outcome label es p w words
      ≡ cond (no_fault (walk_fault s [] w words) && no_fault (settle_fault c false (end w words).held))
      (Some (settled c (end w words).held).rows) None
  unfolding walk_fault
  whole w [] = refl
  whole w (x ∷ rest) =
      ap (λ o. cond (no_fault (turn_fault s [] w x)) o None) (whole (walked c [] w x) rest)
      ∙ and_next (no_fault (turn_fault s [] w x)) (no_fault (walk_fault s [] (walked c [] w x) rest))
      (no_fault (settle_fault c false (end (walked c [] w x) rest).held)) (Some (settled c (end (walked c [] w x) rest).held).rows)
      ∙ ap (λ b. cond (b && no_fault (settle_fault c false (end (walked c [] w x) rest).held))
      (Some (settled c (end (walked c [] w x) rest).held).rows) None)
      (sym (no_fault-or_else (turn_fault s [] w x) (walk_fault s [] (walked c [] w x) rest)))

  checked : (rows : List Row) → no_fault (check_fault s rows false) ≡ not (lacks rows c)
  checked rows = go (lacks rows c)
    where
      go : (b : Bool) → no_fault (cond b (kind.MissingRequiredArgument ∷ []) []) ≡ not b
      go true = refl
      go false = refl

  four : (a b d e : Kinds) → d ≡ [] → no_fault (or_else a (or_else b (or_else d e))) ≡ ((no_fault a && no_fault b) && no_fault e)
  four a b d e none = ap (λ d. no_fault (or_else a (or_else b (or_else d e)))) none ∙ go a b
    where
      go : (a b : Kinds) → no_fault (or_else a (or_else b e)) ≡ ((no_fault a && no_fault b) && no_fault e)
      go [] [] = refl
      go [] (k ∷ ks) = refl
      go (k ∷ ks) b = refl

  split : (a e : Bool) (rows : List Row) → cond (a && e) (Some rows) None
      ≡ option_and_then (λ (r : List Row). cond e (Some rows) None) (cond a (Some rows) None)
  split true e rows = refl
  split false e rows = refl

  level_is : (words : List Text) → cond (no_fault (level_fault s [] nothing_held words false [])) (Some (rows_after c [] words)) None
      ≡ option_and_then (with_all c) (outcome label es p (walk_from nothing_held) words)
  level_is words =
      let last = (end (walk_from nothing_held) words).held in
      let rows = (settled c last).rows in
      let w = walk_fault s [] (walk_from nothing_held) words in
      let f = settle_fault c false last in
      ap₂ (λ b rs. cond b (Some rs) None)
      (four w f (defaults_fault rows c) (check_fault s (finished c last) false) (no_default rows es p)
      ∙ ap (λ b. (no_fault w && no_fault f) && b) (ap (λ rs. no_fault (check_fault s rs false)) (kept rows es p) ∙ checked rows))
      (kept rows es p)
      ∙ all_of (no_fault w && no_fault f) rows
      ∙ ap (λ o. option_and_then (with_all c) o) (sym (whole (walk_from nothing_held) words))
    where
      all_of : (a : Bool) (rows : List Row) → cond (a && not (lacks rows c)) (Some rows) None
          ≡ option_and_then (with_all c) (cond a (Some rows) None)
      all_of true rows = refl
      all_of false rows = refl

  fitted : (form : Form) (o : Option (List Item)) → required_in es ≡ form.required → cond p 1 0 ≡ form.operands
      → option_and_then (with_all c) (told p [] o) ≡ rows_of (option_and_then (fitting form) o)
  fitted form None required operands = refl
  fitted form (Some items) required operands = adds-fitting es p form items required operands

  level-reads : (form : Form) (words : List Text) → names_in es ≡ form.optional ++ form.required → required_in es ≡ form.required
      → cond p 1 0 ≡ form.operands
      → cond (no_fault (level_fault s [] nothing_held words false [])) (Some (rows_after c [] words)) None ≡ rows_of (read_as form words)
  level-reads form words names required operands =
      level_is words ∙ ap (λ o. option_and_then (with_all c) o) ((walk-items label es p words).0 [] [] None (refl, refl))
      ∙ fitted form (items_of (names_in es) words) required operands
      ∙ ap (λ ns. rows_of (option_and_then (fitting form) (items_of ns words))) names

-- the command, before it is built, is one of this table
pub record IsTable (app : App) (label : Text) (es : Entries) (p : Bool) : Type 0 where
  pub is_built : built app ≡ record { top = shape label (rules_of es p); subs = [] }
  pub words : app.top.no_binary_name ≡ true

-- and the form is the table's
pub record IsFormOf (form : Form) (es : Entries) (p : Bool) : Type 0 where
  pub names : names_in es ≡ form.optional ++ form.required
  pub required : required_in es ≡ form.required
  pub operands : cond p 1 0 ≡ form.operands

-- the answer of `clap` is the items of words that fit
pub table-reads : (app : App) (label : Text) (es : Entries) (p : Bool) (form : Form) (words : List Text) → IsTable app label es p
    → IsFormOf form es p
    → cond (no_fault (fault_of app words)) (Some (matches_of app words)) None ≡ rows_of (read_as form words)
table-reads app label es p form words table of =
    ap₂ (λ a ws. cond (no_fault (built_fault a nothing_held ws)) (Some (rows_after a.top.rules (names_of a) ws)) None) table.is_built
    (ap (λ b. cond b words (drop 1 words)) table.words)
    ∙ ap (λ k. cond (no_fault k) (Some (rows_after (rules_of es p) [] words)) None)
    (leaf_fault (record { top = shape label (rules_of es p); subs = [] }) nothing_held words refl)
    ∙ level-reads label es p form words of.names of.required of.operands
