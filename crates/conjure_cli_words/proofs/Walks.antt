-- `clap`'s walk over the words of a table of options finds their items.
use Rattle.std.proofs.Common.{◌≡◌, ◌∙◌, ◌&&◌, not, Bool, cond, true, false, List, [], ◌∷◌, ◌++◌, map, Option, Some, None, refl, sym, ap}
use Rattle.std.proofs.Common.{ap₂}
use Rattle.std.specs.Prelude.{nat_lt}
use Rattle.std.specs.Str.{bytes_eq}
use Rattle.std.proofs.lemmas.List.{map-append}
use Rattle.std.proofs.lemmas.Slice.Eq.{bytes_eq-Decides}
use Rattle.clap.specs.Lexer.{long_of, short_of}
use Rattle.clap.specs.Walk.{Held, Row, Rule, Waiting, Walk, arg_by_index, idle, option_word, settled_rows, used}
use Rattle.clap.specs.Walk as walk
use Rattle.clap.specs.Simple.{Shape}
use Rattle.clap.specs.Kinds.{or_else}
use Rattle.clap.specs.Faults.{react_fault, settle_fault, use_fault}
use Rattle.conjure_cli_words.specs.Items.{Text, Item, Look, Name, ends, item, items_from, items_of_option, items_of_word, knows, long}
use Rattle.conjure_cli_words.specs.Items.{look_of, named, operand, option, plain, short, value_of}
use Rattle.conjure_cli_words.specs.Forms.{gives}
use Rattle.conjure_cli_words.proofs.Looks.{Sees, dashes, sees}
use Rattle.conjure_cli_words.specs.Parsers.{Entries, id_of, operand_id}
use Rattle.conjure_cli_words.proofs.Tables.{by_id, id_for, names_in, rule_for, rules_of}
use Rattle.conjure_cli_words.proofs.Rows.{has_operand, row-given, row_for}
use Rattle.conjure_cli_words.proofs.Turns.{Pending, held, no_fault, no_fault-or_else, option_turn, shape, stand, turn_ends, turn_known}
use Rattle.conjure_cli_words.proofs.Turns.{turn_plain, turn_unknown, turned}
use Rattle.conjure_cli_words.proofs.Adds.{use_of_one, use_adds, or_nothing, blocked, adds, rows_of, told, told-then, rows_of-cond}
use Rattle.conjure_cli_words.proofs.Adds.{position_of, position-option, position-operand, no_operand_yet}
use Rattle.conjure_cli_words.proofs.Outcomes.{outcome, goes_on, stops, Stands, dead_end, operand_turn, trailing_turn, plain_turn}
use Rattle.conjure_cli_words.proofs.Outcomes.{dead_trailing, dead_named, dead_idle, pending_passes, pending_stands, waiting_dead}
use Rattle.conjure_cli_words.proofs.Outcomes.{operand_stands, taken, refused}

module _ (label : Text) (es : Entries) (p : Bool) where
  abbrev c : List Rule
  c = rules_of es p

  abbrev s : Shape
  s = shape label c

  -- an operand, and the words behind it
  add_operand : (b : Bool) (before : List Item) (rows : List Row) (pending : Pending) (waiting : Waiting) (is_trailing : Bool) (x : Text)
      (rest : List Text) (told_after : Option (List Row))
      → Stands label es p rows pending before → blocked p before (operand x) ≡ b
      → turned s (stand rows pending waiting (position_of before) is_trailing) x
      ≡ operand_turn label es p rows pending waiting (position_of before) is_trailing x (arg_by_index c (position_of before))
      → (b ≡ false → Stands label es p (map row_for before) (Some (operand_id, x ∷ [])) (before ++ operand x ∷ [])
      → outcome label es p (stand (map row_for before) (Some (operand_id, x ∷ [])) idle (position_of (before ++ operand x ∷ []))
      is_trailing) rest ≡ told_after)
      → outcome label es p (stand rows pending waiting (position_of before) is_trailing) (x ∷ rest) ≡ cond b None told_after
  add_operand true before rows pending waiting is_trailing x rest told_after stands e turn after =
      stops label es p (stand rows pending waiting (position_of before) is_trailing) x rest
      (ap (λ t. t.0) turn ∙ refused label es p before rows pending waiting is_trailing x e)
  add_operand false before rows pending waiting is_trailing x rest told_after stands e turn after =
      let free = no_operand_yet p (has_operand before) e in
      goes_on label es p (stand rows pending waiting (position_of before) is_trailing)
      (stand (map row_for before) (Some (operand_id, x ∷ [])) idle 2 is_trailing) x rest
      (turn ∙ taken label es p before rows pending waiting is_trailing x stands e)
      ∙ ap (λ k. outcome label es p (stand (map row_for before) (Some (operand_id, x ∷ [])) idle k is_trailing) rest)
      (sym (position-operand before x))
      ∙ after refl (operand_stands label es p before x free.0 free.1)

  -- behind `--`
  trailing_walk : (rest : List Text) (before : List Item) (rows : List Row) (pending : Pending) (waiting : Waiting)
      → Stands label es p rows pending before
      → outcome label es p (stand rows pending waiting (position_of before) true) rest ≡ rows_of (adds p before (map operand rest))
  trailing_walk [] before rows pending waiting stands = ap₂ (λ b rs. cond b (Some rs) None) stands.0 stands.1
  trailing_walk (x ∷ rest) before rows pending waiting stands =
      add_operand (blocked p before (operand x)) before rows pending waiting true x rest
      (rows_of (adds p (before ++ operand x ∷ []) (map operand rest))) stands refl
      (trailing_turn label es p rows pending waiting (position_of before) x)
      (λ e next. trailing_walk rest (before ++ operand x ∷ []) (map row_for before) (Some (operand_id, x ∷ [])) idle next)
      ∙ sym (rows_of-cond (blocked p before (operand x)) (adds p (before ++ operand x ∷ []) (map operand rest)))

  -- ---- the two ways in which the words go on

  abbrev pub ReadsItems : List Text → Type 0
  ReadsItems rest = (before : List Item) (rows : List Row) (pending : Pending) → Stands label es p rows pending before
      → outcome label es p (stand rows pending idle (position_of before) false) rest ≡ told p before (items_from (names_in es) rest item)

  abbrev pub ReadsValue : List Text → Type 0
  ReadsValue rest = (before : List Item) (name : Name) → knows (names_in es) name ≡ true
      → outcome label es p (stand (map row_for before) (Some (id_of name, [])) (walk.option (id_of name)) (position_of before) false) rest
      ≡ told p before (items_from (names_in es) rest (value_of name))

  abbrev behind : List Item → List Row → Pending → Name → Text → Bool → Walk
  behind before rows pending name v q = stand (used (rule_for q name) (v ∷ []) (settled_rows c pending rows)) None idle (position_of before)
      false

  -- a value, written on to its option
  read_attached : (b : Bool) (x : Text) (rest : List Text) (before : List Item) (rows : List Row) (pending : Pending) (name : Name)
      (v : Text) (q : Bool)
      → ReadsItems rest → Stands label es p rows pending before → gives before name ≡ b
      → turned s (stand rows pending idle (position_of before) false) x
      ≡ option_turn label es p rows pending idle (position_of before) x (rule_for q name) (Some v)
      → outcome label es p (stand rows pending idle (position_of before) false) (x ∷ rest)
      ≡ cond b None (told p (before ++ option name v ∷ []) (items_from (names_in es) rest item))
  read_attached b x rest before rows pending name v q more stands e turn = go b e
    where
      passes : no_fault (or_else (react_fault c false (rule_for q name) (v ∷ []) (held rows pending)) []) ≡ not (gives before name)
      passes = or_nothing _ ∙ no_fault-or_else (settle_fault c false (held rows pending)) _
          ∙ ap₂ (λ a rs. a && no_fault (use_fault false (rule_for q name) (v ∷ []) rs)) stands.0 stands.1
          ∙ use_of_one q name v (map row_for before) ∙ ap not (row-given before name)

      go : (b : Bool) → gives before name ≡ b → outcome label es p (stand rows pending idle (position_of before) false) (x ∷ rest)
          ≡ cond b None (told p (before ++ option name v ∷ []) (items_from (names_in es) rest item))
      go true old = stops label es p (stand rows pending idle (position_of before) false) x rest (ap (λ t. t.0) turn ∙ passes ∙ ap not old)
      go false new =
          goes_on label es p (stand rows pending idle (position_of before) false) (behind before rows pending name v q) x rest
          (turn ∙ ap (λ a. (a, behind before rows pending name v q)) (passes ∙ ap not new))
          ∙ ap₂ (λ rs k. outcome label es p (stand rs None idle k false) rest)
          (ap (λ rs. used (rule_for q name) (v ∷ []) rs) stands.1 ∙ use_adds q name v (map row_for before) (row-given before name ∙ new)
          ∙ sym (map-append row_for before (option name v ∷ []))) (sym (position-option before name v))
          ∙ more (before ++ option name v ∷ []) (map row_for (before ++ option name v ∷ [])) None (refl, refl)

  read_known : (v : Option Text) (x : Text) (rest : List Text) (before : List Item) (rows : List Row) (pending : Pending) (name : Name)
      → ReadsItems rest → ReadsValue rest → Stands label es p rows pending before
      → Sees (named name v) (bytes_eq x dashes) (long_of x) (short_of x)
      → knows (names_in es) name ≡ true → outcome label es p (stand rows pending idle (position_of before) false) (x ∷ rest)
      ≡ told p before (items_of_option true name v (items_from (names_in es) rest))
  read_known (Some v) x rest before rows pending name more waits stands see known =
      let t = turn_known label es p rows pending idle (position_of before) x name (Some v) see known in
      read_attached (gives before name) x rest before rows pending name v t.0 more stands refl t.1
      ∙ sym (told-then p before (option name v) (items_from (names_in es) rest item))
  read_known None x rest before rows pending name more waits stands see known =
      let t = turn_known label es p rows pending idle (position_of before) x name None see known in
      goes_on label es p (stand rows pending idle (position_of before) false)
      (stand (map row_for before) (Some (id_of name, [])) (walk.option (id_of name)) (position_of before) false) x rest
      (t.1 ∙ ap₂ (λ a rs. (a, stand rs (Some ((rule_for t.0 name).id, [])) (walk.option (rule_for t.0 name).id) (position_of before) false))
      (or_nothing _ ∙ stands.0) stands.1
      ∙ ap (λ i. (true, stand (map row_for before) (Some (i, [])) (walk.option i) (position_of before) false)) (id_for t.0 name))
      ∙ waits before name known

  read_named : (b : Bool) (v : Option Text) (x : Text) (rest : List Text) (before : List Item) (rows : List Row) (pending : Pending)
      (name : Name)
      → ReadsItems rest → ReadsValue rest → Stands label es p rows pending before
      → Sees (named name v) (bytes_eq x dashes) (long_of x) (short_of x)
      → knows (names_in es) name ≡ b → outcome label es p (stand rows pending idle (position_of before) false) (x ∷ rest)
      ≡ told p before (items_of_option b name v (items_from (names_in es) rest))
  read_named true v x rest before rows pending name more waits stands see known = read_known v x rest before rows pending name more waits
      stands see known
  read_named false v x rest before rows pending name more waits stands see known =
      stops label es p (stand rows pending idle (position_of before) false) x rest
      (turn_unknown label es p rows pending idle (position_of before) x name v see known)

  read_item : (l : Look) (x : Text) (rest : List Text) (before : List Item) (rows : List Row) (pending : Pending)
      → ReadsItems rest → ReadsValue rest → Stands label es p rows pending before → Sees l (bytes_eq x dashes) (long_of x) (short_of x)
      → outcome label es p (stand rows pending idle (position_of before) false) (x ∷ rest)
      ≡ told p before (items_of_word (names_in es) item l x rest (items_from (names_in es) rest))
  read_item ends x rest before rows pending more waits stands see =
      goes_on label es p (stand rows pending idle (position_of before) false) (stand rows pending idle (position_of before) true) x rest
      (turn_ends label es p rows pending idle (position_of before) x see) ∙ trailing_walk rest before rows pending idle stands
  read_item (named name v) x rest before rows pending more waits stands see =
      read_named (knows (names_in es) name) v x rest before rows pending name more waits stands see refl
  read_item plain x rest before rows pending more waits stands see =
      add_operand (blocked p before (operand x)) before rows pending idle false x rest
      (told p (before ++ operand x ∷ []) (items_from (names_in es) rest item)) stands refl
      (plain_turn label es p rows pending (position_of before) x see)
      (λ e next. more (before ++ operand x ∷ []) (map row_for before) (Some (operand_id, x ∷ [])) next)
      ∙ sym (told-then p before (operand x) (items_from (names_in es) rest item))

  -- a word that is a value
  abbrev waits_for : List Item → Name → Walk
  waits_for before name = stand (map row_for before) (Some (id_of name, [])) (walk.option (id_of name)) (position_of before) false

  abbrev value_to : List Item → Name → Text → Held × Waiting → Bool × Walk
  value_to before name x met = (true, record (waits_for before name) { held = met.0; waiting = met.1 })

  value_turn : (x : Text) (before : List Item) (name : Name) → knows (names_in es) name ≡ true
      → Sees plain (bytes_eq x dashes) (long_of x) (short_of x)
      → turned s (waits_for before name) x ≡ (true, stand (map row_for before) (Some (id_of name, x ∷ [])) idle (position_of before) false)
  value_turn x before name known see =
      let found = by_id es p name known in
      turn_plain label es p (map row_for before) (Some (id_of name, [])) (walk.option (id_of name)) (position_of before) x see
      ∙ ap (λ o. value_to before name x (option_word o (id_of name) x (held (map row_for before) (Some (id_of name, []))))) found.1
      ∙ full found.0 name
    where
      full : (q : Bool) (a : Name) → value_to before a x
          (option_word (Some (rule_for q a)) (id_of a) x (held (map row_for before) (Some (id_of a, []))))
          ≡ value_to before a x (held (map row_for before) (Some (id_of a, x ∷ [])), idle)
      full q (short n) = ap (λ b. value_to before (short n) x
          (held (map row_for before) (Some (id_of (short n), x ∷ [])), cond (nat_lt (cond b 1 0) 1) (walk.option (id_of (short n))) idle))
          ((bytes_eq-Decides (id_of (short n)) (id_of (short n))).1 refl)
      full q (long n) = ap (λ b. value_to before (long n) x
          (held (map row_for before) (Some (id_of (long n), x ∷ [])), cond (nat_lt (cond b 1 0) 1) (walk.option (id_of (long n))) idle))
          ((bytes_eq-Decides (id_of (long n)) (id_of (long n))).1 refl)

  read_value_as : (b : Bool) (x : Text) (rest : List Text) (before : List Item) (name : Name) → ReadsItems rest → knows (names_in es) name
      ≡ true
      → Sees plain (bytes_eq x dashes) (long_of x) (short_of x) → gives before name ≡ b
      → outcome label es p (waits_for before name) (x ∷ rest)
      ≡ cond b None (told p (before ++ option name x ∷ []) (items_from (names_in es) rest item))
  read_value_as true x rest before name more known see old =
      goes_on label es p (waits_for before name) (stand (map row_for before) (Some (id_of name, x ∷ [])) idle (position_of before) false) x
      rest (value_turn x before name known see)
      ∙ dead_idle label es p rest (map row_for before) (Some (id_of name, x ∷ [])) (position_of before)
      (pending_passes label es p before name x known ∙ ap not old)
  read_value_as false x rest before name more known see new =
      goes_on label es p (waits_for before name) (stand (map row_for before) (Some (id_of name, x ∷ [])) idle (position_of before) false) x
      rest (value_turn x before name known see)
      ∙ ap (λ k. outcome label es p (stand (map row_for before) (Some (id_of name, x ∷ [])) idle k false) rest)
      (sym (position-option before name x))
      ∙ more (before ++ option name x ∷ []) (map row_for before) (Some (id_of name, x ∷ []))
      (pending_stands label es p before name x known new)

  read_value : (l : Look) (x : Text) (rest : List Text) (before : List Item) (name : Name) → ReadsItems rest → knows (names_in es) name
      ≡ true
      → Sees l (bytes_eq x dashes) (long_of x) (short_of x)
      → outcome label es p (waits_for before name) (x ∷ rest)
      ≡ told p before (items_of_word (names_in es) (value_of name) l x rest (items_from (names_in es) rest))
  read_value ends x rest before name more known see =
      goes_on label es p (waits_for before name) (stand (map row_for before) (Some (id_of name, [])) (walk.option (id_of name))
      (position_of before) true) x rest
      (turn_ends label es p (map row_for before) (Some (id_of name, [])) (walk.option (id_of name)) (position_of before) x see)
      ∙ dead_trailing label es p rest (map row_for before) (Some (id_of name, [])) (walk.option (id_of name)) (position_of before)
      (waiting_dead label es p before name known)
  read_value (named other v) x rest before name more known see =
      dead_named label es p (knows (names_in es) other) x rest (map row_for before) (Some (id_of name, [])) (walk.option (id_of name))
      (position_of before) other v
      (waiting_dead label es p before name known) see refl
  read_value plain x rest before name more known see =
      read_value_as (gives before name) x rest before name more known see refl
      ∙ sym (told-then p before (option name x) (items_from (names_in es) rest item))

  -- the walk finds the items
  pub walk-items : (rest : List Text) → ReadsItems rest × ReadsValue rest
  walk-items [] = (
    λ before rows pending stands. ap₂ (λ b rs. cond b (Some rs) None) stands.0 stands.1,
    λ before name known. dead_end label es p (map row_for before) (Some (id_of name, [])) (waiting_dead label es p before name known)
        (waits_for before name) refl,
  )
  walk-items (x ∷ rest) = (
    λ before rows pending stands. read_item (look_of x) x rest before rows pending (walk-items rest).0 (walk-items rest).1 stands (sees x),
    λ before name known. read_value (look_of x) x rest before name (walk-items rest).0 known (sees x),
  )
