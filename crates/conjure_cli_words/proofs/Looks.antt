-- What `clap` sees of a word, by the word's look.
use Rattle.std.proofs.Common.{◌≡◌, ◌⊎◌, inl, inr, ℕ, ◌==◌, ◌&&◌, Bool, cond, true, false, List, [], ◌∷◌, length, drop, Option, Some, None}
use Rattle.std.proofs.Common.{refl}
use Rattle.std.specs.Prelude.{option_and_then, slice_get, encode_utf8}
use Rattle.std.specs.Option.{option_map_or}
use Rattle.std.specs.Str.{bytes_eq, chars}
use Rattle.clap.specs.Lexer.{long_of, long_of_rest, short_of, short_of_rest, strip_byte}
use Rattle.clap.specs.Walk.{attached_value}
use Rattle.conjure_cli_words.specs.Items.{Text, Look, ends, named, plain, short, long, look_of, look_behind, look_of_long, look_of_short}
use Rattle.conjure_cli_words.specs.Items.{look_of_first, written_on}

-- the word `--`
abbrev pub dashes : Text
dashes = 45 ∷ 45 ∷ []

-- what follows the hyphen is no character, or is this one and then the value
abbrev pub HasNoFirst : Option Text → Type 0
HasNoFirst s = (s ≡ None) ⊎ ((y : ℕ) × (ys : Text) × (s ≡ Some (y ∷ ys)) × (slice_get (chars (y ∷ ys)) 0 ≡ None))

abbrev pub HasFirst : ℕ → Option Text → Option Text → Type 0
HasFirst x v s = (y : ℕ) × (ys : Text) × (s ≡ Some (y ∷ ys)) × (slice_get (chars (y ∷ ys)) 0 ≡ Some x)
    × (attached_value (drop (length (encode_utf8 x)) (y ∷ ys)) ≡ v)

-- a look, as `clap` tells it: whether the word is `--`, what a long option says, and what follows a short option's hyphen
abbrev pub Sees : Look → Bool → Option (Text × Option Text) → Option Text → Type 0
Sees ends b l s = b ≡ true
Sees (named (long n) v) b l s = (b ≡ false) × (l ≡ Some (n, v))
Sees (named (short x) v) b l s = (b ≡ false) × (l ≡ None) × HasFirst x v s
Sees plain b l s = (b ≡ false) × (l ≡ None) × HasNoFirst s

written_on-attached : (text : Text) → attached_value text ≡ written_on text
written_on-attached [] = refl
written_on-attached (x ∷ xs) = go (x == 61)
  where
    go : (b : Bool) → option_map_or (λ (v : Text). Some v) (cond b (Some xs) None) (Some (x ∷ xs)) ≡ Some (cond b xs (x ∷ xs))
    go true = refl
    go false = refl

sees_first : (o : Option ℕ) (y : ℕ) (ys : Text) → slice_get (chars (y ∷ ys)) 0 ≡ o
    → Sees (look_of_first o (y ∷ ys)) false None (Some (y ∷ ys))
sees_first None y ys e = (refl, refl, inr (y, ys, refl, e))
sees_first (Some x) y ys e = (refl, refl, (y, ys, refl, e, written_on-attached (drop (length (encode_utf8 x)) (y ∷ ys))))

sees_second : (b : Bool) (y : ℕ) (ys : Text) → Sees (cond b (look_of_long ys) (look_of_short (y ∷ ys))) (b && bytes_eq ys [])
    (option_and_then long_of_rest (cond b (Some ys) None)) (cond b None (Some (y ∷ ys)))
sees_second true y [] = refl
sees_second true y (z ∷ zs) = (refl, refl)
sees_second false y ys = sees_first (slice_get (chars (y ∷ ys)) 0) y ys refl

sees_behind : (b : Bool) (xs : Text) → Sees (cond b (look_behind xs) plain) (b && bytes_eq xs (45 ∷ []))
    (option_and_then long_of_rest (option_and_then (strip_byte 45) (cond b (Some xs) None)))
    (option_and_then short_of_rest (cond b (Some xs) None))
sees_behind false xs = (refl, refl, inl refl)
sees_behind true [] = (refl, refl, inl refl)
sees_behind true (y ∷ ys) = sees_second (y == 45) y ys

-- the look of a word is what `clap` sees of it
pub sees : (word : Text) → Sees (look_of word) (bytes_eq word dashes) (long_of word) (short_of word)
sees [] = (refl, refl, inl refl)
sees (x ∷ xs) = sees_behind (x == 45) xs
