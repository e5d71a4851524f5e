-- The walk over words as one outcome, and what is pending in it.
use Rattle.std.proofs.Common.{◌≡◌, ◌∙◌, ℕ, ◌==◌, ◌&&◌, not, Bool, cond, true, false, List, [], ◌∷◌, ◌++◌, map, Option, Some, None, refl}
use Rattle.std.proofs.Common.{sym, ap, ap₂}
use Rattle.std.specs.Option.{option_map_or}
use Rattle.std.specs.Str.{bytes_eq}
use Rattle.std.proofs.lemmas.List.{map-append}
use Rattle.clap.specs.Lexer.{long_of, short_of}
use Rattle.clap.specs.Walk.{Row, Rule, Waiting, Walk, arg_by_index, has_row, idle, is_pending, pushed, settled, settled_rows}
use Rattle.clap.specs.Walk.{to_positional, used_by_id, walked}
use Rattle.clap.specs.Simple.{Shape}
use Rattle.clap.specs.Kinds.{or_else}
use Rattle.clap.specs.Faults.{positional_fault, settle_fault, stray_fault, use_fault}
use Rattle.conjure_cli_words.specs.Items.{Text, Item, Look, Name, ends, knows, look_of, named, operand, option, plain}
use Rattle.conjure_cli_words.specs.Forms.{gives}
use Rattle.conjure_cli_words.proofs.Looks.{Sees, dashes, sees}
use Rattle.conjure_cli_words.specs.Parsers.{Entries, id_of, operand_id}
use Rattle.conjure_cli_words.proofs.Tables.{and_false, by_id, by_index, names_in, operand_by_id, operand_rule, or_false, rule_for, rules_of}
use Rattle.conjure_cli_words.proofs.Rows.{has_operand, row-given, row-operand, row_for, used_first}
use Rattle.conjure_cli_words.proofs.Turns.{Pending, held, no_fault, no_fault-or_else, option_turn, shape, stand, turn_ends, turn_known}
use Rattle.conjure_cli_words.proofs.Turns.{turn_plain, turn_unknown, turned}
use Rattle.conjure_cli_words.proofs.Adds.{use_once, use_of_one, use_of_none, use_adds, or_nothing, blocked, position_of, place_is}
use Rattle.conjure_cli_words.proofs.Adds.{no_operand_yet}

module _ (label : Text) (es : Entries) (p : Bool) where
  abbrev c : List Rule
  c = rules_of es p

  abbrev s : Shape
  s = shape label c

  -- the rows behind the last word, where each word and the end pass
  abbrev pub outcome : Walk → List Text → Option (List Row)
  outcome w [] = cond (no_fault (settle_fault c false w.held)) (Some (settled c w.held).rows) None
  outcome w (x ∷ rest) = cond (turned s w x).0 (outcome (turned s w x).1 rest) None

  pub goes_on : (w after : Walk) (x : Text) (rest : List Text) → turned s w x ≡ (true, after) → outcome w (x ∷ rest) ≡ outcome after rest
  goes_on w after x rest e = ap (λ t. cond t.0 (outcome t.1 rest) None) e

  pub stops : (w : Walk) (x : Text) (rest : List Text) → (turned s w x).0 ≡ false → outcome w (x ∷ rest) ≡ None
  stops w x rest e = ap (λ b. cond b (outcome (turned s w x).1 rest) None) e

  -- what is pending passes, and the rows are then those of the items
  abbrev pub Stands : List Row → Pending → List Item → Type 0
  Stands rows pending before = (no_fault (settle_fault c false (held rows pending)) ≡ true)
      × (settled_rows c pending rows ≡ map row_for before)

  -- what is pending doesn't pass
  abbrev pub IsDead : List Row → Pending → Type 0
  IsDead rows pending = no_fault (settle_fault c false (held rows pending)) ≡ false

  pub dead_end : (rows : List Row) (pending : Pending) → IsDead rows pending → (w : Walk) → w.held ≡ held rows pending → outcome w [] ≡ None
  dead_end rows pending dead w e = ap (λ h. cond (no_fault (settle_fault c false h)) (Some (settled c h).rows) None) e
      ∙ ap (λ b. cond b (Some (settled_rows c pending rows)) None) dead

  -- an operand's turn, by the rule of its place
  abbrev pub operand_turn : List Row → Pending → Waiting → ℕ → Bool → Text → Option Rule → Bool × Walk
  operand_turn rows pending waiting position is_trailing x o = (
    no_fault (or_else [] (option_map_or (λ a. positional_fault c false a (held rows pending)) o (stray_fault s))),
    to_positional c o x (stand rows pending waiting position is_trailing) (held rows pending),
  )

  pub trailing_turn : (rows : List Row) (pending : Pending) (waiting : Waiting) (position : ℕ) (x : Text)
      → turned s (stand rows pending waiting position true) x ≡ operand_turn rows pending waiting position true x (arg_by_index c position)
  unfolding walked
  trailing_turn rows pending waiting position x = refl

  pub plain_turn : (rows : List Row) (pending : Pending) (position : ℕ) (x : Text) → Sees plain (bytes_eq x dashes) (long_of x) (short_of x)
      → turned s (stand rows pending idle position false) x ≡ operand_turn rows pending idle position false x (arg_by_index c position)
  plain_turn rows pending position x see = turn_plain label es p rows pending idle position x see

  dead_operand : (rows : List Row) (pending : Pending) (waiting : Waiting) (position : ℕ) (is_trailing : Bool) (x : Text)
      → IsDead rows pending
      → (operand_turn rows pending waiting position is_trailing x (arg_by_index c position)).0 ≡ false
  dead_operand rows pending waiting position is_trailing x dead =
      ap (λ o. (operand_turn rows pending waiting position is_trailing x o).0) (by_index es p position) ∙ go (p && (1 == position))
    where
      go : (b : Bool) → (operand_turn rows pending waiting position is_trailing x (cond b (Some operand_rule) None)).0 ≡ false
      go true = ap (λ b. no_fault (or_else [] (cond b [] (settle_fault c false (held rows pending)))))
          (and_false (is_pending operand_rule pending)) ∙ dead
      go false = refl

  dead_option : (rows : List Row) (pending : Pending) (waiting : Waiting) (position : ℕ) (x : Text) (q : Bool) (name : Name)
      (v : Option Text) → IsDead rows pending
      → (option_turn label es p rows pending waiting position x (rule_for q name) v).0 ≡ false
  dead_option rows pending waiting position x q name (Some v) dead =
      or_nothing _ ∙ no_fault-or_else (settle_fault c false (held rows pending)) _
      ∙ ap (λ b. b && no_fault (use_fault false (rule_for q name) (v ∷ []) (settled_rows c pending rows))) dead
  dead_option rows pending waiting position x q name None dead = or_nothing _ ∙ dead

  pub dead_trailing : (rest : List Text) (rows : List Row) (pending : Pending) (waiting : Waiting) (position : ℕ) → IsDead rows pending
      → outcome (stand rows pending waiting position true) rest ≡ None
  dead_trailing [] rows pending waiting position dead = dead_end rows pending dead (stand rows pending waiting position true) refl
  dead_trailing (x ∷ rest) rows pending waiting position dead =
      stops (stand rows pending waiting position true) x rest
      (ap (λ t. t.0) (trailing_turn rows pending waiting position x) ∙ dead_operand rows pending waiting position true x dead)

  pub dead_named : (b : Bool) (x : Text) (rest : List Text) (rows : List Row) (pending : Pending) (waiting : Waiting) (position : ℕ)
      (name : Name) (v : Option Text) → IsDead rows pending
      → Sees (named name v) (bytes_eq x dashes) (long_of x) (short_of x) → knows (names_in es) name ≡ b
      → outcome (stand rows pending waiting position false) (x ∷ rest) ≡ None
  dead_named true x rest rows pending waiting position name v dead see known =
      let t = turn_known label es p rows pending waiting position x name v see known in
      stops (stand rows pending waiting position false) x rest
      (ap (λ y. y.0) t.1 ∙ dead_option rows pending waiting position x t.0 name v dead)
  dead_named false x rest rows pending waiting position name v dead see known =
      stops (stand rows pending waiting position false) x rest (turn_unknown label es p rows pending waiting position x name v see known)

  dead_look : (l : Look) (x : Text) (rest : List Text) (rows : List Row) (pending : Pending) (position : ℕ) → IsDead rows pending
      → Sees l (bytes_eq x dashes) (long_of x) (short_of x) → outcome (stand rows pending idle position false) (x ∷ rest) ≡ None
  dead_look ends x rest rows pending position dead see =
      goes_on (stand rows pending idle position false) (stand rows pending idle position true) x rest
      (turn_ends label es p rows pending idle position x see) ∙ dead_trailing rest rows pending idle position dead
  dead_look (named name v) x rest rows pending position dead see = dead_named (knows (names_in es) name) x rest rows pending idle position
      name v dead see refl
  dead_look plain x rest rows pending position dead see =
      stops (stand rows pending idle position false) x rest
      (ap (λ t. t.0) (plain_turn rows pending position x see) ∙ dead_operand rows pending idle position false x dead)

  -- a walk on which what is pending doesn't pass comes to nothing
  pub dead_idle : (rest : List Text) (rows : List Row) (pending : Pending) (position : ℕ) → IsDead rows pending
      → outcome (stand rows pending idle position false) rest ≡ None
  dead_idle [] rows pending position dead = dead_end rows pending dead (stand rows pending idle position false) refl
  dead_idle (x ∷ rest) rows pending position dead = dead_look (look_of x) x rest rows pending position dead (sees x)

  -- ---- what is pending

  pub pending_passes : (before : List Item) (name : Name) (v : Text) → knows (names_in es) name ≡ true
      → no_fault (settle_fault c false (held (map row_for before) (Some (id_of name, v ∷ [])))) ≡ not (gives before name)
  pending_passes before name v known =
      let found = by_id es p name known in
      ap (λ o. no_fault (option_map_or (λ a. use_fault false a (v ∷ []) (map row_for before)) o [])) found.1
      ∙ use_of_one found.0 name v (map row_for before) ∙ ap not (row-given before name)

  pub pending_stands : (before : List Item) (name : Name) (v : Text) → knows (names_in es) name ≡ true → gives before name ≡ false
      → Stands (map row_for before) (Some (id_of name, v ∷ [])) (before ++ option name v ∷ [])
  pending_stands before name v known new =
      let found = by_id es p name known in (
        pending_passes before name v known ∙ ap not new,
        ap (λ o. used_by_id o (v ∷ []) (map row_for before)) found.1
            ∙ use_adds found.0 name v (map row_for before) (row-given before name ∙ new)
            ∙ sym (map-append row_for before (option name v ∷ [])),
      )

  pub waiting_dead : (before : List Item) (name : Name) → knows (names_in es) name ≡ true
      → IsDead (map row_for before) (Some (id_of name, []))
  waiting_dead before name known =
      let found = by_id es p name known in
      ap (λ o. no_fault (option_map_or (λ a. use_fault false a [] (map row_for before)) o [])) found.1
      ∙ use_of_none found.0 name (map row_for before)

  pub operand_stands : (before : List Item) (x : Text) → p ≡ true → has_operand before ≡ false
      → Stands (map row_for before) (Some (operand_id, x ∷ [])) (before ++ operand x ∷ [])
  operand_stands before x place new =
      let found = operand_by_id es p place in
      let absent : has_row operand_id (map row_for before) ≡ false = row-operand before ∙ new in (
        ap (λ o. no_fault (option_map_or (λ a. use_fault false a (x ∷ []) (map row_for before)) o [])) found
            ∙ use_once operand_id None None (Some 1) true x (map row_for before) ∙ ap not absent,
        ap (λ o. used_by_id o (x ∷ []) (map row_for before)) found
            ∙ used_first operand_id None None (Some 1) true x (map row_for before) absent
            ∙ sym (map-append row_for before (operand x ∷ [])),
      )

  -- ---- operands

  place_of : (before : List Item) (x : Text) (b : Bool) → blocked p before (operand x) ≡ b → arg_by_index c (position_of before)
      ≡ cond (not b) (Some operand_rule) None
  place_of before x b e = by_index es p (position_of before)
      ∙ ap (λ t. cond t (Some operand_rule) None) (place_is p (has_operand before) ∙ ap not e)

  pub taken : (before : List Item) (rows : List Row) (pending : Pending) (waiting : Waiting) (is_trailing : Bool) (x : Text)
      → Stands rows pending before
      → blocked p before (operand x) ≡ false
      → operand_turn rows pending waiting (position_of before) is_trailing x (arg_by_index c (position_of before))
      ≡ (true, stand (map row_for before) (Some (operand_id, x ∷ [])) idle 2 is_trailing)
  taken before rows pending waiting is_trailing x stands new =
      ap₂ (λ k o. operand_turn rows pending waiting k is_trailing x o) (ap (λ b. cond b 2 1) (no_operand_yet p (has_operand before) new).1)
      (place_of before x false new)
      ∙ ap₂ (λ b t. (
        no_fault (cond b [] (settle_fault c false (held rows pending))),
        record {
          held = pushed operand_id x (cond b (held rows pending) (settled c (held rows pending)));
          waiting = idle;
          position = 2;
          is_trailing = t;
          stopped = None;
        },
      )) (and_false (is_pending operand_rule pending)) (or_false is_trailing)
      ∙ ap₂ (λ b rs. (b, stand rs (Some (operand_id, x ∷ [])) idle 2 is_trailing)) stands.0 stands.1

  pub refused : (before : List Item) (rows : List Row) (pending : Pending) (waiting : Waiting) (is_trailing : Bool) (x : Text)
      → blocked p before (operand x) ≡ true
      → (operand_turn rows pending waiting (position_of before) is_trailing x (arg_by_index c (position_of before))).0 ≡ false
  refused before rows pending waiting is_trailing x old =
      ap (λ o. (operand_turn rows pending waiting (position_of before) is_trailing x o).0) (place_of before x true old)
