-- Names of the small grammar have no `_`, so the names of tables are free, and each is a name that a text can spell.
use Rattle.std.proofs.Common.{◌≡◌, refl, sym, ap, ◌∙◌, ℕ, Bool, true, false, ◌&&◌, ◌||◌, not, if◌then◌else◌, List, [], ◌∷◌, nat_eq, Some, None, is_some, bytes_eq, arith, inl, inr}
use Rattle.std.proofs.lemmas.Bool.Decides.{nat_tests}
use Rattle.std.specs.List.{list_all, list_any}
use Rattle.ess_semantics.specs.Values.{Text}
use Rattle.ess_semantics.specs.Names.{is_among, look_by}
use Rattle.ess_semantics.specs.NameTokens.{is_name, is_letter, is_name_byte}
use Rattle.ess_semantics.proofs.Tests.{and-left, and-right, and-both, not-true, or-yes}
use Rattle.ess_semantics.proofs.Texts.{same_text-equal, same_text-bytes, same_text-itself}
use Rattle.ess_grammar.specs.Words.{Token, name, words, outside, is_outside}
use Rattle.ess_grammar.specs.Readable.{is_name_token}
use Rattle.conjure_laws.specs.Members.{In}
use Rattle.conjure_laws.proofs.NamedTables.{among-in}
use Rattle.conjure_cli_laws.specs.Words.{language_words}
use Rattle.conjure_cli_laws.specs.SmallSets.{table_name}
use Rattle.conjure_cli_laws.specs.SmallGrammar as small
use Rattle.conjure_cli_laws.specs.Words as own
use Rattle.ess_semantics.specs.Order.{same_text}

-- ---- equal bytes

-- Equal bytes are one text.
pub bytes-one : (a b : Text) → bytes_eq a b ≡ true → a ≡ b
bytes-one a b e = same_text-equal a b (same_text-bytes a b ∙ e)

-- A text is equal to itself.
pub bytes-itself : (a : Text) → bytes_eq a a ≡ true
bytes-itself a = sym (same_text-bytes a a) ∙ same_text-itself a

-- Whether a name is among others is asked by bytes or by names.
pub among-bytes : (ns : List Text) (a : Text) → own.is_among ns a ≡ is_among ns a
among-bytes [] a = refl
among-bytes (n ∷ ns) a = ap (λ b. b || own.is_among ns a) (sym (same_text-bytes n a))
    ∙ ap (λ b. same_text n a || b) (among-bytes ns a)

-- A text that has a property isn't among those that haven't.
pub not-among-test : (q : Text → Bool) (ns : List Text) (a : Text) → list_all (λ n. not (q n)) ns ≡ true → q a ≡ true →
    is_among ns a ≡ false
not-among-test q ns a h k = go (is_among ns a) refl
  where
    at : (ms : List Text) → list_all (λ n. not (q n)) ms ≡ true → In a ms → ⊥
    at [] h i = i
    at (m ∷ ms) h (inl e) = let z : true ≡ false = sym k ∙ ap q e
        ∙ not-true (q m) (and-left (not (q m)) (list_all (λ n. not (q n)) ms) h) in cc
    at (m ∷ ms) h (inr i) = at ms (and-right (not (q m)) (list_all (λ n. not (q n)) ms) h) i

    go : (b : Bool) → is_among ns a ≡ b → is_among ns a ≡ false
    go false e = e
    go true e = absurd (at ns h (among-in ns a e))

-- ---- `_`

-- Whether `_O` stands in the text.
abbrev pub has_pair : Text → Bool
has_pair [] = false
has_pair (b ∷ []) = false
has_pair (b ∷ c ∷ bs) = (nat_eq b 95 && nat_eq c 79) || has_pair (c ∷ bs)

-- What stands before the first `_`.
abbrev pub before_mark : Text → Text
before_mark [] = []
before_mark (b ∷ bs) = if nat_eq b 95 then [] else b ∷ before_mark bs

-- No byte is `_`.
abbrev pub unmarked : Text → Bool
unmarked x = list_all (λ b. not (nat_eq b 95)) x

-- A name of the small grammar has none.
pub name-unmarked : (x : Text) → small.is_name x ≡ true → unmarked x ≡ true
name-unmarked [] h = refl
name-unmarked (b ∷ bs) h =
    let p = and-left (small.is_letter b && list_all small.is_name_byte bs) (not (own.is_among language_words (b ∷ bs))) h in
    and-both (not (nat_eq b 95)) (unmarked bs) (letter b (and-left (small.is_letter b) (list_all small.is_name_byte bs) p))
    (rest bs (and-right (small.is_letter b) (list_all small.is_name_byte bs) p))
  where
    letter : (b : ℕ) → small.is_letter b ≡ true → not (nat_eq b 95) ≡ true
    letter b h = grind (arith, nat_tests)

    byte : (b : ℕ) → small.is_name_byte b ≡ true → not (nat_eq b 95) ≡ true
    byte b h = grind (arith, nat_tests)

    rest : (bs : Text) → list_all small.is_name_byte bs ≡ true → unmarked bs ≡ true
    rest [] h = refl
    rest (b ∷ bs) h = and-both (not (nat_eq b 95)) (unmarked bs)
        (byte b (and-left (small.is_name_byte b) (list_all small.is_name_byte bs) h))
        (rest bs (and-right (small.is_name_byte b) (list_all small.is_name_byte bs) h))

-- So it has no `_O`.
pub unmarked-pair : (x : Text) → unmarked x ≡ true → has_pair x ≡ false
unmarked-pair [] h = refl
unmarked-pair (b ∷ []) h = refl
unmarked-pair (b ∷ c ∷ bs) h =
    ap (λ t. (t && nat_eq c 79) || has_pair (c ∷ bs)) (not-true (nat_eq b 95) (and-left (not (nat_eq b 95)) (unmarked (c ∷ bs)) h))
    ∙ unmarked-pair (c ∷ bs) (and-right (not (nat_eq b 95)) (unmarked (c ∷ bs)) h)

-- The name of a table has it.
pub table-pair : (x : Text) → has_pair (table_name x) ≡ true
table-pair [] = refl
table-pair (b ∷ []) = or-yes (nat_eq b 95 && nat_eq 95 79)
table-pair (b ∷ c ∷ bs) = ap (λ t. (nat_eq b 95 && nat_eq c 79) || t) (table-pair (c ∷ bs))
    ∙ or-yes (nat_eq b 95 && nat_eq c 79)

-- What stands before the mark is the find's name.
pub table-before : (x : Text) → unmarked x ≡ true → before_mark (table_name x) ≡ x
table-before [] h = refl
table-before (b ∷ bs) h =
    ap (λ t. if t then [] else b ∷ before_mark (table_name bs)) (not-true (nat_eq b 95) (and-left (not (nat_eq b 95)) (unmarked bs) h))
    ∙ ap (λ l. b ∷ l) (table-before bs (and-right (not (nat_eq b 95)) (unmarked bs) h))

-- So tables of one name are of one find.
pub table-once : (x y : Text) → unmarked x ≡ true → unmarked y ≡ true → table_name x ≡ table_name y → x ≡ y
table-once x y h k e = sym (table-before x h) ∙ ap before_mark e ∙ table-before y k

-- ---- names that a text can spell

look-none : (q : Text → Bool) (ws : List (Text × Token)) (a : Text) → list_all (λ e. not (q e.0)) ws ≡ true → q a ≡ true →
    look_by bytes_eq ws a ≡ None
look-none q [] a h k = refl
look-none q (w ∷ ws) a h k = go (bytes_eq w.0 a) refl (look-none q ws a (and-right (not (q w.0)) (list_all (λ e. not (q e.0)) ws) h) k)
  where
    go : (b : Bool) → bytes_eq w.0 a ≡ b → look_by bytes_eq ws a ≡ None → (if b then Some w.1 else look_by bytes_eq ws a) ≡ None
    go false e f = f
    go true e f = let z : true ≡ false = sym k ∙ ap q (sym (bytes-one w.0 a e))
        ∙ not-true (q w.0) (and-left (not (q w.0)) (list_all (λ e. not (q e.0)) ws) h) in cc

none-outside : (q : Text → Bool) (ns : List Text) (a : Text) → list_all (λ n. not (q n)) ns ≡ true → q a ≡ true →
    list_any (bytes_eq a) ns ≡ false
none-outside q [] a h k = refl
none-outside q (n ∷ ns) a h k = go (bytes_eq a n) refl (none-outside q ns a (and-right (not (q n)) (list_all (λ n. not (q n)) ns) h) k)
  where
    go : (b : Bool) → bytes_eq a n ≡ b → list_any (bytes_eq a) ns ≡ false → b || list_any (bytes_eq a) ns ≡ false
    go false e f = f
    go true e f = let z : true ≡ false = sym k ∙ ap q (bytes-one a n e)
        ∙ not-true (q n) (and-left (not (q n)) (list_all (λ n. not (q n)) ns) h) in cc

-- A name is one that a text can spell, where it has a property that no word has.
spelled-name : (q : Text → Bool) (a : Text) → is_name a ≡ true → list_all (λ e. not (q e.0)) words ≡ true →
    list_all (λ n. not (q n)) outside ≡ true → q a ≡ true → is_name_token a ≡ true
spelled-name q a n w o k =
    and-both (is_name a) (not (is_some (look_by bytes_eq words a)) && not (is_outside (name a))) n
    (and-both (not (is_some (look_by bytes_eq words a))) (not (is_outside (name a)))
    (ap (λ o. not (is_some o)) (look-none q words a w k)) (ap not (none-outside q outside a o k)))

letter-is : (b : ℕ) → small.is_letter b ≡ true → is_letter b ≡ true
letter-is b h = grind (arith, nat_tests)

byte-is : (b : ℕ) → small.is_name_byte b ≡ true → is_name_byte b ≡ true
byte-is b h = grind (arith, nat_tests)

bytes-are : (bs : Text) → list_all small.is_name_byte bs ≡ true → list_all is_name_byte bs ≡ true
bytes-are [] h = refl
bytes-are (b ∷ bs) h =
    and-both (is_name_byte b) (list_all is_name_byte bs)
    (byte-is b (and-left (small.is_name_byte b) (list_all small.is_name_byte bs) h))
    (bytes-are bs (and-right (small.is_name_byte b) (list_all small.is_name_byte bs) h))

with-tail : (bs : Text) → list_all is_name_byte bs ≡ true →
    list_all is_name_byte (table_name bs) ≡ true
with-tail [] h = refl
with-tail (b ∷ bs) h =
    and-both (is_name_byte b)
    (list_all is_name_byte (table_name bs))
    (and-left (is_name_byte b)
    (list_all is_name_byte bs) h)
    (with-tail bs (and-right (is_name_byte b)
    (list_all is_name_byte bs) h))

-- A name of the small grammar is a name.
pub small-name : (x : Text) → small.is_name x ≡ true → is_name x ≡ true
small-name [] h = cc
small-name (b ∷ bs) h =
    let p = and-left (small.is_letter b && list_all small.is_name_byte bs) (not (own.is_among language_words (b ∷ bs))) h in
    and-both (is_letter b) (list_all is_name_byte bs)
    (letter-is b (and-left (small.is_letter b) (list_all small.is_name_byte bs) p))
    (bytes-are bs (and-right (small.is_letter b) (list_all small.is_name_byte bs) p))

-- It is one that a text can spell.
pub name-spelled : (x : Text) → small.is_name x ≡ true → is_name_token x ≡ true
unfolding language_words
name-spelled x h = spelled-name (λ a. not (own.is_among language_words a)) x (small-name x h) refl refl (no-word x h)
  where
    no-word : (x : Text) → small.is_name x ≡ true → not (own.is_among language_words x) ≡ true
    no-word [] h = cc
    no-word (b ∷ bs) h = and-right (small.is_letter b && list_all small.is_name_byte bs) (not (own.is_among language_words (b ∷ bs))) h

-- So is the name of a table.
pub table-spelled : (x : Text) → small.is_name x ≡ true → is_name_token (table_name x) ≡ true
table-spelled x h = spelled-name has_pair (table_name x) (name x (small-name x h)) refl refl (table-pair x)
  where
    name : (x : Text) → is_name x ≡ true → is_name (table_name x) ≡ true
    name [] h = cc
    name (b ∷ bs) h =
        and-both (is_letter b)
        (list_all is_name_byte (table_name bs))
        (and-left (is_letter b) (list_all is_name_byte bs) h)
        (with-tail bs (and-right (is_letter b)
        (list_all is_name_byte bs) h))
