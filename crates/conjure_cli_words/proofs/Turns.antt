-- What one word does to `clap`'s walk, by the word's look.
use Rattle.std.proofs.Common.{◌≡◌, ◌∙◌, ℕ, ◌==◌, ◌&&◌, ◌||◌, not, Bool, cond, true, false, zero, suc, List, [], ◌∷◌, ◌++◌, map, length}
use Rattle.std.proofs.Common.{drop, Option, Some, None, refl, sym, ap, ap₂, subst, inl, inr}
use Rattle.std.specs.Prelude.{slice_get, encode_utf8}
use Rattle.std.specs.Option.{option_map_or}
use Rattle.std.specs.Str.{bytes_eq, chars}
use Rattle.clap.specs.Lexer.{long_of, short_of}
use Rattle.clap.specs.Walk.{Held, Row, Rule, Step, Waiting, Walk, idle, option, positional, next, trailing, value, plain, done}
use Rattle.clap.specs.Walk.{after_flag, after_step, arg_by_index, arg_by_long, arg_by_short, attached_value, bundle_met, bundle_step}
use Rattle.clap.specs.Walk.{long_met, long_or_other, option_met}
use Rattle.clap.specs.Walk.{plain_word, settled_rows, short_met, short_or_plain, used, walked}
use Rattle.clap.specs.Simple.{Shape, new_shape}
use Rattle.clap.specs.Kinds.{Kinds, or_else}
use Rattle.clap.specs.Faults.{bundle_fault, bundle_step_fault, flag_word_fault, flags_fault, long_fault, option_fault, react_fault}
use Rattle.clap.specs.Faults.{settle_fault, short_fault, step_fault, turn_fault}
use Rattle.conjure_cli_words.specs.Items.{Text, Look, Name, short, long, named, look_of, knows}
use Rattle.conjure_cli_words.specs.Items as look
use Rattle.conjure_cli_words.proofs.Looks.{HasFirst, HasNoFirst, Sees, dashes, sees}
use Rattle.conjure_cli_words.specs.Parsers.{Entries}
use Rattle.conjure_cli_words.proofs.Tables.{by_long, by_long-none, by_short, by_short-none, names_in, rule_for, rules_of}

abbrev pub no_fault : Kinds → Bool
no_fault [] = true
no_fault (k ∷ ks) = false

pub no_fault-or_else : (a b : Kinds) → no_fault (or_else a b) ≡ (no_fault a && no_fault b)
no_fault-or_else [] b = refl
no_fault-or_else (k ∷ ks) b = refl

abbrev pub Pending : Type 0
Pending = Option (Text × List Text)

abbrev pub held : List Row → Pending → Held
held rows pending = record { rows = rows; pending = pending; skip = 0 }

-- where the walk stands
abbrev pub stand : List Row → Pending → Waiting → ℕ → Bool → Walk
stand rows pending waiting position is_trailing =
    record { held = held rows pending; waiting = waiting; position = position; is_trailing = is_trailing; stopped = None }

-- a command that is built, with these rules, and no other word than theirs
abbrev pub shape : Text → List Rule → Shape
shape name rules = record (new_shape name) {
  rules = rules;
  no_binary_name = true;
  disable_help_flag = true;
  disable_help_subcommand = true;
  disable_version_flag = true;
  is_built = true;
}

-- whether a word passes, and where the walk stands behind it
abbrev pub turned : Shape → Walk → Text → Bool × Walk
turned s w word = (no_fault (turn_fault s [] w word), walked s.rules [] w word)

module _ (label : Text) (es : Entries) (p : Bool) (rows : List Row) (pending : Pending) (waiting : Waiting) (position : ℕ) (word : Text)
  where
    abbrev c : List Rule
    c = rules_of es p

    abbrev s : Shape
    s = shape label c

    abbrev h : Held
    h = held rows pending

    abbrev w : Walk
    w = stand rows pending waiting position false

    -- a turn whose word has this fault and comes to this
    abbrev turn_to : Kinds → Held × Step → Bool × Walk
    turn_to fault met = (no_fault (or_else fault (step_fault s position met.0 met.1)), after_step c word w met.0 met.1)

    abbrev turn_by : Bool → Option (Text × Option Text) → Bool × Walk
    turn_by b l = turn_to (cond b [] (flag_word_fault c false l word h)) (cond b (h, trailing position) (long_or_other c waiting word l h))

    abbrev turn_by_short : Option Text → Bool × Walk
    turn_by_short o = turn_to (option_map_or (λ flags. bundle_fault c false flags h) o []) (short_or_plain c waiting word o h)

    abbrev turn_long : Option Text → Option Rule → Bool × Walk
    turn_long v o = turn_to (long_fault c false o v h) (after_flag c waiting word (long_met c o v h).0 (long_met c o v h).1)

    abbrev turn_first : ℕ → Text → Option ℕ → Bool × Walk
    turn_first y ys o = turn_to (bundle_step_fault c false o (y ∷ ys) 0 h (flags_fault c false (length ys)))
        (after_flag c waiting word (bundle_step c o (y ∷ ys) 0 plain h (bundle_met c (length ys))).0
        (bundle_step c o (y ∷ ys) 0 plain h (bundle_met c (length ys))).1)

    abbrev turn_short : ℕ → Text → Option Rule → Bool × Walk
    turn_short k rest o = turn_to (short_fault c false o rest h (flags_fault c false k rest 0))
        (after_flag c waiting word (short_met c o rest h (bundle_met c k rest 0 done)).0
        (short_met c o rest h (bundle_met c k rest 0 done)).1)

    abbrev turn_attached : Rule → Option Text → Bool × Walk
    turn_attached a v = turn_to (option_fault c false a v h)
        (after_flag c waiting word (option_met c a v h).0 (option_met c a v h).1)

    -- an option that is known, with its value, or with the next word to be its value
    abbrev pub option_turn : Rule → Option Text → Bool × Walk
    option_turn a (Some v) = (
      no_fault (or_else (react_fault c false a (v ∷ []) h) []),
      stand (used a (v ∷ []) (settled_rows c pending rows))
          None idle position false,
    )
    option_turn a None = (
      no_fault (or_else (settle_fault c false h) []),
      stand (settled_rows c pending rows) (Some (a.id, [])) (option a.id)
          position false,
    )

    turn_is : turned s w word ≡ turn_by (bytes_eq word dashes) (long_of word)
    unfolding walked
    turn_is = go waiting
      where
        go : (x : Waiting) → turned s (stand rows pending x position false) word
            ≡ (
              no_fault (or_else (cond (bytes_eq word dashes) [] (flag_word_fault c false (long_of word) word h))
                  (step_fault s position (cond (bytes_eq word dashes) (h, trailing position) (long_or_other c x word (long_of word) h)).0
                  (cond (bytes_eq word dashes) (h, trailing position) (long_or_other c x word (long_of word) h)).1)),
              after_step c word (stand rows pending x position false)
                  (cond (bytes_eq word dashes) (h, trailing position) (long_or_other c x word (long_of word) h)).0
                  (cond (bytes_eq word dashes) (h, trailing position) (long_or_other c x word (long_of word) h)).1,
            )
        go idle = refl
        go (option id) = refl
        go positional = refl

    pub turn_ends : bytes_eq word dashes ≡ true → turned s w word ≡ (true, stand rows pending waiting position true)
    turn_ends e = turn_is ∙ ap (λ b. turn_by b (long_of word)) e

    attached_turn : (a : Name) (q : Bool) (v : Option Text) → turn_attached (rule_for q a) v ≡ option_turn (rule_for q a) v
    attached_turn a q (Some v) = refl
    attached_turn a q None = refl

    long_turn : (n : Text) (v : Option Text) (q : Bool) → turn_long v (Some (rule_for q (long n))) ≡ turn_attached (rule_for q (long n)) v
    long_turn n v q = refl

    short_turn : (k x : ℕ) (rest : Text) (q : Bool) → turn_short k rest (Some (rule_for q (short x)))
        ≡ turn_attached (rule_for q (short x)) (attached_value rest)
    short_turn k x rest q = refl

    first_turn : (y : ℕ) (ys : Text) → turn_by_short (Some (y ∷ ys)) ≡ turn_first y ys (slice_get (chars (y ∷ ys)) 0)
    unfolding bundle_met flags_fault
    first_turn y ys = refl

    to_short : bytes_eq word dashes ≡ false → long_of word ≡ None → turned s w word ≡ turn_by_short (short_of word)
    to_short b l = turn_is ∙ ap₂ turn_by b l

    to_first : (x : ℕ) (v : Option Text) → bytes_eq word dashes ≡ false → long_of word ≡ None → (f : HasFirst x v (short_of word))
        → turned s w word ≡ turn_short (length f.1) (drop (length (encode_utf8 x)) (f.0 ∷ f.1)) (arg_by_short c x)
    to_first x v b l f = to_short b l ∙ ap turn_by_short f.2 ∙ first_turn f.0 f.1 ∙ ap (turn_first f.0 f.1) f.3

    -- an option that is known
    pub turn_known : (name : Name) (v : Option Text) → Sees (named name v) (bytes_eq word dashes) (long_of word) (short_of word)
        → knows (names_in es) name ≡ true
        → (q : Bool) × (turned s w word ≡ option_turn (rule_for q name) v)
    turn_known (long n) v see known =
        let found = by_long es p n known in
        (found.0, turn_is ∙ ap₂ turn_by see.0 see.1 ∙ ap (turn_long v) found.1 ∙ long_turn n v found.0 ∙ attached_turn (long n) found.0 v)
    turn_known (short x) v see known =
        let found = by_short es p x known in
        let f = see.2 in
        let rest = drop (length (encode_utf8 x)) (f.0 ∷ f.1) in (
          found.0,
          to_first x v see.0 see.1 f ∙ ap (turn_short (length f.1) rest) found.1 ∙ short_turn (length f.1) x rest found.0
              ∙ ap (turn_attached (rule_for found.0 (short x))) f.4 ∙ attached_turn (short x) found.0 v,
        )

    -- and one that isn't
    pub turn_unknown : (name : Name) (v : Option Text) → Sees (named name v) (bytes_eq word dashes) (long_of word) (short_of word)
        → knows (names_in es) name ≡ false
        → (turned s w word).0 ≡ false
    turn_unknown (long n) v see known =
        ap (λ t. t.0) (turn_is ∙ ap₂ turn_by see.0 see.1 ∙ ap (turn_long v) (by_long-none es p n known))
    turn_unknown (short x) v see known =
        let f = see.2 in
        ap (λ t. t.0) (to_first x v see.0 see.1 f ∙ ap (turn_short (length f.1) (drop (length (encode_utf8 x)) (f.0 ∷ f.1)))
        (by_short-none es p x known))

    -- a plain word
    pub turn_plain : Sees look.plain (bytes_eq word dashes) (long_of word) (short_of word) → turned s w word
        ≡ turn_to [] (plain_word c waiting word h)
    turn_plain see = elim see.2 [
      | inl e ↦ to_short see.0 see.1 ∙ ap turn_by_short e
      | inr f ↦ to_short see.0 see.1 ∙ ap turn_by_short f.2 ∙ first_turn f.0 f.1 ∙ ap (turn_first f.0 f.1) f.3
    ]
