-- Each printable token's text is read back as that token, where it ends before what follows.
use Rattle.std.proofs.Common.{◌≡◌, refl, ap, ◌∙◌, ℕ, ◌<◌, ◌^◌, true, false, ◌&&◌, not, [], ◌∷◌, ◌++◌, length, Option, Some, None, pos, arith}
use Rattle.std.specs.Fmt.{decimal}
use Rattle.std.specs.Option.{is_some}
use Rattle.std.specs.List.{list_all}
use Rattle.std.specs.Str.{bytes_eq}
use Rattle.std.proofs.lemmas.Bool.{and_parts, not-true, ltb-true, lt-leb}
use Rattle.ess_semantics.specs.declared.words.Op2.{Op2}
use Rattle.ess_semantics.specs.declared.words.Fun.{Fun}
use Rattle.ess_semantics.specs.Names.{look_by}
use Rattle.ess_grammar.specs.Words.{Text, Token, number, name, prime_word, word, operator, function, symbol, words, is_outside, Word, language_word, given_word, find_word, letting_word, be_word, new_word, type_word, enum_word, domain_word, of_word, where_word, such_word, that_word, minimising_word, maximising_word, bool_word, int_word, tuple_word, record_word, matrix_word, indexed_word, by_word, set_word, mset_word, function_word, relation_word, partition_word, from_word, true_word, false_word, for_all_word, exists_word, Symbol, open_round, close_round, open_square, close_square, open_curly, close_curly, comma, semicolon, colon, dot, dots, bar, exclamation, maps_to, drawn_from}
use Rattle.ess_grammar.specs.Tokens.{is_digit, is_letter, is_name_byte, is_name, name_or_word, or_else, prime_text, is_wide, longest_token, BeginsPlain}
use Rattle.ess_grammar.specs.Readable.{is_name_token, is_number_token}
use Rattle.ess_grammar.proofs.Runs.{longest_token-prime}
use Rattle.ess_print_laws.specs.TokenTexts.{word_text, function_text, operator_text, symbol_text, token_text}
use Rattle.ess_print_laws.specs.Touching.{ends_before, is_printable}
use Rattle.ess_print_laws.proofs.Digits.{Writes, decimal-writes}
use Rattle.ess_print_laws.proofs.NameRuns.{letter-plain, digit-plain, name-is-read, digits-are-read}
use Rattle.ess_print_laws.proofs.SymbolEnds.{IsSymbol, plain-symbol, lex-symbol, symbol-is-read}

-- The text begins with no white space and no comment, and is the token's, whatever follows that it ends before.
pub record ReadBack (t : Token) (s : Text) : Type 0 where
  pub plain : (r : Text) → BeginsPlain (s ++ r)
  pub longest : (r : Text) → ends_before s r ≡ true → longest_token (s ++ r) ≡ Some (t, length s)

of-name : {c : ℕ} {cs : Text} {t : Token} → is_name (c ∷ cs) ≡ true → name_or_word (c ∷ cs) ≡ Some t → ReadBack t (c ∷ cs)
of-name {c = c} {cs = cs} {t = t} h k = record {
  plain = λ r. (omega arith, letter-plain c (and_parts (is_letter c) (list_all is_name_byte cs) h).0);
  longest = λ r e. name-is-read c cs r t h k e;
}

of-symbol : {c : ℕ} {cs : Text} {t : Token} → IsSymbol c cs t → ReadBack t (c ∷ cs)
of-symbol {c = c} {cs = cs} {t = t} y = record { plain = λ r. (omega arith, y.plain); longest = λ r e. symbol-is-read c cs r t y e }

-- Words.
word-back : (x : Word) → ReadBack (word x) (word_text x)
word-back language_word = of-name refl refl
word-back given_word = of-name refl refl
word-back find_word = of-name refl refl
word-back letting_word = of-name refl refl
word-back be_word = of-name refl refl
word-back new_word = of-name refl refl
word-back type_word = of-name refl refl
word-back enum_word = of-name refl refl
word-back domain_word = of-name refl refl
word-back of_word = of-name refl refl
word-back where_word = of-name refl refl
word-back such_word = of-name refl refl
word-back that_word = of-name refl refl
word-back minimising_word = of-name refl refl
word-back maximising_word = of-name refl refl
word-back bool_word = of-name refl refl
word-back int_word = of-name refl refl
word-back tuple_word = of-name refl refl
word-back record_word = of-name refl refl
word-back matrix_word = of-name refl refl
word-back indexed_word = of-name refl refl
word-back by_word = of-name refl refl
word-back set_word = of-name refl refl
word-back mset_word = of-name refl refl
word-back function_word = of-name refl refl
word-back relation_word = of-name refl refl
word-back partition_word = of-name refl refl
word-back from_word = of-name refl refl
word-back true_word = of-name refl refl
word-back false_word = of-name refl refl
word-back for_all_word = of-name refl refl
word-back exists_word = of-name refl refl

-- Function words.
function-back : (x : Fun) → ReadBack (function x) (function_text x)
function-back Fun.Sum = of-name refl refl
function-back Fun.Product = of-name refl refl
function-back Fun.And = of-name refl refl
function-back Fun.Or = of-name refl refl
function-back Fun.Min = of-name refl refl
function-back Fun.Max = of-name refl refl
function-back Fun.AllDiff = of-name refl refl
function-back Fun.ToInt = of-name refl refl
function-back Fun.Image = of-name refl refl
function-back Fun.PreImage = of-name refl refl
function-back Fun.Defined = of-name refl refl
function-back Fun.Range = of-name refl refl
function-back Fun.ToSet = of-name refl refl
function-back Fun.ToMSet = of-name refl refl
function-back Fun.ToRelation = of-name refl refl
function-back Fun.Freq = of-name refl refl
function-back Fun.Parts = of-name refl refl
function-back Fun.Party = of-name refl refl
function-back Fun.Participants = of-name refl refl
function-back Fun.Together = of-name refl refl

-- Operators.
operator-back : (x : Op2) → ReadBack (operator x) (operator_text x)
operator-back Op2.Member = of-name refl refl
operator-back Op2.Subset = of-name refl refl
operator-back Op2.SubsetEq = of-name refl refl
operator-back Op2.Supset = of-name refl refl
operator-back Op2.SupsetEq = of-name refl refl
operator-back Op2.Union = of-name refl refl
operator-back Op2.Intersect = of-name refl refl
operator-back Op2.Eq = of-symbol (plain-symbol _ _ _ refl refl (refl, refl) refl)
operator-back Op2.Ne = of-symbol (plain-symbol _ _ _ refl refl (refl, refl) refl)
operator-back Op2.Lt = of-symbol (plain-symbol _ _ _ refl refl (refl, refl) refl)
operator-back Op2.Le = of-symbol (plain-symbol _ _ _ refl refl (refl, refl) refl)
operator-back Op2.Gt = of-symbol (plain-symbol _ _ _ refl refl (refl, refl) refl)
operator-back Op2.Ge = of-symbol (plain-symbol _ _ _ refl refl (refl, refl) refl)
operator-back Op2.Plus = of-symbol (plain-symbol _ _ _ refl refl (refl, refl) refl)
operator-back Op2.Minus = of-symbol (plain-symbol _ _ _ refl refl (refl, refl) refl)
operator-back Op2.Times = of-symbol (plain-symbol _ _ _ refl refl (refl, refl) refl)
operator-back Op2.Div = of-symbol (plain-symbol _ _ _ refl refl (refl, refl) refl)
operator-back Op2.Mod = of-symbol (plain-symbol _ _ _ refl refl (refl, refl) refl)
operator-back Op2.Pow = of-symbol (plain-symbol _ _ _ refl refl (refl, refl) refl)
operator-back Op2.And = of-symbol (plain-symbol _ _ _ refl refl (refl, refl) refl)
operator-back Op2.Or = of-symbol (plain-symbol _ _ _ refl refl (refl, refl) refl)
operator-back Op2.Implies = of-symbol (plain-symbol _ _ _ refl refl (refl, refl) refl)
operator-back Op2.Iff = of-symbol (plain-symbol _ _ _ refl refl (refl, refl) refl)
operator-back Op2.LexLt = of-symbol (lex-symbol _ _ _ refl refl (refl, refl) refl refl)
operator-back Op2.LexLe = of-symbol (lex-symbol _ _ _ refl refl (refl, refl) refl refl)
operator-back Op2.LexGt = of-symbol (lex-symbol _ _ _ refl refl (refl, refl) refl refl)
operator-back Op2.LexGe = of-symbol (lex-symbol _ _ _ refl refl (refl, refl) refl refl)

-- Symbols.
symbol-back : (x : Symbol) → ReadBack (symbol x) (symbol_text x)
symbol-back open_round = of-symbol (plain-symbol _ _ _ refl refl (refl, refl) refl)
symbol-back close_round = of-symbol (plain-symbol _ _ _ refl refl (refl, refl) refl)
symbol-back open_square = of-symbol (plain-symbol _ _ _ refl refl (refl, refl) refl)
symbol-back close_square = of-symbol (plain-symbol _ _ _ refl refl (refl, refl) refl)
symbol-back open_curly = of-symbol (plain-symbol _ _ _ refl refl (refl, refl) refl)
symbol-back close_curly = of-symbol (plain-symbol _ _ _ refl refl (refl, refl) refl)
symbol-back comma = of-symbol (plain-symbol _ _ _ refl refl (refl, refl) refl)
symbol-back semicolon = of-symbol (plain-symbol _ _ _ refl refl (refl, refl) refl)
symbol-back colon = of-symbol (plain-symbol _ _ _ refl refl (refl, refl) refl)
symbol-back dot = of-symbol (plain-symbol _ _ _ refl refl (refl, refl) refl)
symbol-back dots = of-symbol (plain-symbol _ _ _ refl refl (refl, refl) refl)
symbol-back bar = of-symbol (plain-symbol _ _ _ refl refl (refl, refl) refl)
symbol-back exclamation = of-symbol (plain-symbol _ _ _ refl refl (refl, refl) refl)
symbol-back maps_to = of-symbol (plain-symbol _ _ _ refl refl (refl, refl) refl)
symbol-back drawn_from = of-symbol (plain-symbol _ _ _ refl refl (refl, refl) refl)

-- ---- names and numbers

-- what is known of a name of the subset
pub record NameOfSubset (a : Text) : Type 0 where
  pub named : is_name a ≡ true
  pub no_word : is_some (look_by bytes_eq words a) ≡ false
  pub inside : is_outside (name a) ≡ false

pub name-of-subset : (a : Text) → is_name_token a ≡ true → NameOfSubset a
name-of-subset a h =
    let parts = and_parts (is_name a) (not (is_some (look_by bytes_eq words a)) && not (is_outside (name a))) h in
    let others = and_parts (not (is_some (look_by bytes_eq words a))) (not (is_outside (name a))) parts.1 in
    record {
      named = parts.0;
      no_word = not-true (is_some (look_by bytes_eq words a)) others.0;
      inside = not-true (is_outside (name a)) others.1;
    }

no-word : (o : Option Token) (t : Token) → is_some o ≡ false → or_else o (Some t) ≡ Some t
no-word None t h = refl
no-word (Some x) t h = cc

name-back : (a : Text) → is_name_token a ≡ true → ReadBack (name a) a
name-back [] h = cc
name-back (c ∷ cs) h =
    let n = name-of-subset (c ∷ cs) h in
    of-name n.named (no-word (look_by bytes_eq words (c ∷ cs)) (name (c ∷ cs)) n.no_word)

digits-back : (n : ℕ) (ds : Text) → Writes n ds → ReadBack (number n) ds
digits-back n [] w = absurd (omega (arith, w.some))
digits-back n (c ∷ cs) w = record {
  plain = λ r. (omega arith, digit-plain c (and_parts (is_digit c) (list_all is_digit cs) w.digits).0);
  longest = λ r e. digits-are-read c cs r w.digits e ∙ ap (λ v. Some (number v, length (c ∷ cs))) w.value;
}

below : (n : ℕ) → is_number_token (pos n) ≡ true → n < 2 ^ 63
below n h = ltb-true n (2 ^ 63) h

pub token-back : (t : Token) → is_printable t ≡ true → ReadBack t (token_text t)
token-back (number n) h = digits-back n (decimal n) (decimal-writes n (omega (arith, below n h)))
token-back (name a) h = name-back a h
token-back prime_word h = record { plain = λ r. (omega arith, (refl, refl)); longest = λ r e. longest_token-prime (prime_text ++ r) refl }
token-back (word w) h = word-back w
token-back (operator o) h = operator-back o
token-back (function f) h = function-back f
token-back (symbol s) h = symbol-back s

-- none is too wide, and none is outside the subset
pub not-wide : (t : Token) → is_printable t ≡ true → is_wide t ≡ false
not-wide (number n) h = lt-leb (2 ^ 63) n (below n h)
not-wide (name a) h = refl
not-wide prime_word h = refl
not-wide (word w) h = refl
not-wide (operator o) h = refl
not-wide (function f) h = refl
not-wide (symbol s) h = refl

pub not-outside : (t : Token) → is_printable t ≡ true → is_outside t ≡ false
not-outside (number n) h = refl
not-outside (name a) h = (name-of-subset a h).inside
not-outside prime_word h = refl
not-outside (word w) h = refl
not-outside (operator o) h = refl
not-outside (function f) h = refl
not-outside (symbol s) h = refl
