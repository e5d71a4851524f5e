-- The lines of the small grammar as tokens with the bytes that spell them: a number may have zeros before it.
use Rattle.std.proofs.Common.{◌≡◌, refl, sym, ap, ◌∙◌, ℕ, ◌+◌, ◌-◌, ◌*◌, true, false, ◌&&◌, not, List, [], ◌∷◌, ◌++◌, length, codes, Some, nat_eq, nat_lt, nat_le, ◌^◌, arith}
use Rattle.std.specs.List.{list_all}
use Rattle.std.proofs.lemmas.Bool.{and_parts}
use Rattle.std.proofs.lemmas.Bool.Decides.{nat_tests}
use Rattle.ess_semantics.specs.Values.{Text}
use Rattle.ess_semantics.specs.declared.words.Op2.{Op2}
use Rattle.ess_semantics.proofs.Tests.{and-left, and-right, and-both}
use Rattle.ess_grammar.specs.Words.{Token, number, name, word, symbol, operator, find_word, set_word, of_word, int_word, such_word, that_word, colon, open_round, close_round, dots}
use Rattle.ess_grammar.specs.Tokens.{is_letter, is_digit, is_name_byte, value_after}
use Rattle.ess_print_laws.specs.Touching.{ends_before, symbol_ends, is_printable}
use Rattle.ess_print_laws.specs.TokenTexts.{token_text}
use Rattle.ess_print_laws.proofs.TokensBack.{ReadBack, token-back, not-wide, not-outside}
use Rattle.ess_print_laws.proofs.NameRuns.{digit-plain, digits-are-read}
use Rattle.ess_print_laws.proofs.Digits.{Writes}
use Rattle.conjure_cli_laws.specs.Words.{language_words}
use Rattle.conjure_cli_laws.specs.SmallGrammar as small
use Rattle.conjure_cli_laws.specs.SmallGrammar.{IsNumeral, value_from}
use Rattle.conjure_cli_laws.specs.Words as own
use Rattle.conjure_cli_laws.proofs.SmallNames.{name-spelled}
use Rattle.conjure_cli_laws.proofs.SmallStatements.{IsRead}
use Rattle.conjure_cli_laws.proofs.Bits.{Bit, bit, gap, bits_text, Spells, Apart}

-- ---- what spells a token

-- A token that is printed is spelled by its text.
pub printed-spells : (t : Token) → is_printable t ≡ true → Spells t (token_text t)
printed-spells t h = record { back = token-back t h; narrow = not-wide t h; inside = not-outside t h }

-- Digits of a number spell it.
pub digits-spell : (n : ℕ) (ds : Text) → Writes n ds → IsRead n → Spells (number n) ds
digits-spell n ds w h = record { back = back ds w; narrow = narrow n h; inside = refl }
  where
    narrow : (n : ℕ) → nat_lt n (2 ^ 63) ≡ true → nat_le (2 ^ 63) n ≡ false
    narrow n h = grind (arith, nat_tests)

    back : (ds : Text) → Writes n ds → ReadBack (number n) ds
    back [] w = absurd (omega (arith, w.some))
    back (c ∷ cs) w = record {
      plain = λ r. (omega arith, digit-plain c (and_parts (is_digit c) (list_all is_digit cs) w.digits).0);
      longest = λ r e. digits-are-read c cs r w.digits e ∙ ap (λ v. Some (number v, length (c ∷ cs))) w.value;
    }

-- A numeral of the small grammar has such digits.
pub numeral-writes : (ds : Text) (n : ℕ) → IsNumeral ds n → Writes n ds
numeral-writes [] n h = let z : false ≡ true = h.number in cc
numeral-writes (d ∷ ds) n h = record {
  digits = all (d ∷ ds) (and-left (list_all small.is_digit (d ∷ ds)) (not (nat_le (2 ^ 63) (value_from 0 (d ∷ ds)))) h.number);
  some = omega arith;
  value = same 0 (d ∷ ds) ∙ sym h.value;
}
  where
    digit : (b : ℕ) → small.is_digit b ≡ true → is_digit b ≡ true
    digit b h = grind (arith, nat_tests)

    all : (bs : Text) → list_all small.is_digit bs ≡ true → list_all is_digit bs ≡ true
    all [] h = refl
    all (b ∷ bs) h = and-both (is_digit b) (list_all is_digit bs)
        (digit b (and-left (small.is_digit b) (list_all small.is_digit bs) h))
        (all bs (and-right (small.is_digit b) (list_all small.is_digit bs) h))

    same : (v : ℕ) (bs : Text) → value_after v bs ≡ value_from v bs
    same v [] = refl
    same v (b ∷ bs) = same (10 * v + (b - 48)) bs

-- ---- where a token ends

-- A name ends before a byte that is none of a name.
pub name-ends : (x : Text) → small.is_name x ≡ true → (b : ℕ) (r : Text) →
    not (is_name_byte b) && not (nat_eq b 39) ≡ true → ends_before x (b ∷ r) ≡ true
name-ends [] h b r k = cc
name-ends (c ∷ cs) h b r k =
    let l : is_letter c ≡ true = letter c (and-left (small.is_letter c) (list_all small.is_name_byte cs)
    (and-left (small.is_letter c && list_all small.is_name_byte cs) (not (own.is_among language_words (c ∷ cs))) h)) in
    ap (λ i. elim i [
      | true ↦ not (is_name_byte b) && not (nat_eq b 39)
      | false ↦ elim (is_digit c)
          [ true ↦ not (is_digit b) | false ↦ symbol_ends (c ∷ cs) b ]
    ]) l ∙ k
  where
    letter : (c : ℕ) → small.is_letter c ≡ true → is_letter c ≡ true
    letter c h = grind (arith, nat_tests)

-- Digits end before a byte that is none.
pub digits-end : (n : ℕ) (ds : Text) → Writes n ds → (b : ℕ) (r : Text) → not (is_digit b) ≡ true → ends_before ds (b ∷ r) ≡ true
digits-end n [] w b r k = absurd (omega (arith, w.some))
digits-end n (c ∷ cs) w b r k =
    let d : is_digit c ≡ true = and-left (is_digit c) (list_all is_digit cs) w.digits in
    ap (λ i. elim i [
      | true ↦ not (is_name_byte b) && not (nat_eq b 39)
      | false ↦ elim (is_digit c)
          [ true ↦ not (is_digit b) | false ↦ symbol_ends (c ∷ cs) b ]
    ]) (no-letter c d)
    ∙ ap (λ i. elim i [ true ↦ not (is_digit b) | false ↦ symbol_ends (c ∷ cs) b ]) d ∙ k
  where
    no-letter : (c : ℕ) → is_digit c ≡ true → is_letter c ≡ false
    no-letter c h = grind (arith, nat_tests)

-- The dots of a range end before digits.
pub dots-end : (n : ℕ) (ds r : Text) → Writes n ds → ends_before (codes "..") (ds ++ r) ≡ true
dots-end n [] r w = absurd (omega (arith, w.some))
dots-end n (c ∷ cs) r w = refl

-- The same of a bracket.
pub round-ends : (n : ℕ) (ds r : Text) → Writes n ds → ends_before (codes "(") (ds ++ r) ≡ true
round-ends n [] r w = absurd (omega (arith, w.some))
round-ends n (c ∷ cs) r w = refl

-- ---- lines

-- `find x : set of int(a..b)`.
abbrev pub find_bits : Text → ℕ → Text → ℕ → Text → List Bit
find_bits x a lows b highs =
    bit (word find_word) (codes "find") ∷ gap 32 ∷ bit (name x) x ∷ gap 32 ∷ bit (symbol colon) (codes ":") ∷ gap 32 ∷ bit
    (word set_word) (codes "set") ∷ gap 32
    ∷ bit (word of_word) (codes "of") ∷ gap 32 ∷ bit (word int_word) (codes "int") ∷ bit (symbol open_round)
    (codes "(") ∷ bit (number a) lows
    ∷ bit (symbol dots) (codes "..") ∷ bit (number b) highs ∷ bit (symbol close_round) (codes ")") ∷ []

-- They stand apart before what a bracket ends before.
pub find-apart : (x : Text) (a : ℕ) (lows : Text) (b : ℕ) (highs r : Text) → small.is_name x ≡ true → Writes a lows →
    IsRead a → Writes b highs → IsRead b →
    ends_before (codes ")") r ≡ true → Apart (find_bits x a lows b highs) r
find-apart x a lows b highs r h v p w q e = (
  printed-spells (word find_word) refl,
  refl,
  (
    refl,
    (
      printed-spells (name x) (name-spelled x h),
      name-ends x h 32
          (bits_text (bit (symbol colon) (codes ":") ∷ gap 32 ∷ bit (word set_word) (codes "set") ∷ gap 32 ∷ bit
          (word of_word) (codes "of") ∷ gap 32 ∷ bit (word int_word) (codes "int") ∷ bit (symbol open_round)
          (codes "(") ∷ bit (number a) lows ∷ bit (symbol dots) (codes "..") ∷ bit (number b) highs ∷ bit
          (symbol close_round) (codes ")") ∷ []) r) refl,
      (
        refl,
        (
          printed-spells (symbol colon) refl,
          refl,
          (
            refl,
            (
              printed-spells (word set_word) refl,
              refl,
              (
                refl,
                (
                  printed-spells (word of_word) refl,
                  refl,
                  (
                    refl,
                    (
                      printed-spells (word int_word) refl,
                      refl,
                      (
                        printed-spells (symbol open_round) refl,
                        round-ends a lows (codes ".." ++ (highs ++ (codes ")" ++ r))) v,
                        (
                          digits-spell a lows v p,
                          digits-end a lows v 46 (46 ∷ (highs ++ (codes ")" ++ r))) refl,
                          (
                            printed-spells (symbol dots) refl,
                            dots-end b highs (codes ")" ++ r) w,
                            (
                              digits-spell b highs w q,
                              digits-end b highs w 41 r refl,
                              (
                                printed-spells (symbol close_round) refl,
                                e,
                                tt,
                              ),
                            ),
                          ),
                        ),
                      ),
                    ),
                  ),
                ),
              ),
            ),
          ),
        ),
      ),
    ),
  ),
)

-- `such that k in x`.
abbrev pub asked_bits : ℕ → Text → Text → List Bit
asked_bits k ds x =
    bit (word such_word) (codes "such") ∷ gap 32 ∷ bit (word that_word) (codes "that") ∷ gap 32 ∷ bit (number k) ds ∷ gap 32
    ∷ bit (operator Op2.Member) (codes "in") ∷ gap 32
    ∷ bit (name x) x ∷ []

-- They stand apart before what the name ends before.
pub asked-apart : (k : ℕ) (ds x r : Text) → small.is_name x ≡ true → Writes k ds → IsRead k → ends_before x r ≡ true →
    Apart (asked_bits k ds x) r
asked-apart k ds x r h w q e = (
  printed-spells (word such_word) refl,
  refl,
  (
    refl,
    (
      printed-spells (word that_word) refl,
      refl,
      (
        refl,
        (
          digits-spell k ds w q,
          digits-end k ds w 32 (codes "in " ++ (x ++ r)) refl,
          (
            refl,
            (
              printed-spells (operator Op2.Member) refl,
              refl,
              (
                refl,
                (
                  printed-spells (name x) (name-spelled x h),
                  e,
                  tt,
                ),
              ),
            ),
          ),
        ),
      ),
    ),
  ),
)
