-- Tokens that are printed have bytes of ASCII without line feeds, and so have lines of them.
use Rattle.std.proofs.Common.{◌≡◌, refl, ℕ, ◌<◌, ◌^◌, Bool, true, ◌&&◌, not, List, [], ◌∷◌, ◌++◌, nat_lt, arith, decimal}
use Rattle.std.proofs.Common.{slice_index, zero, suc, pos}
use Rattle.std.specs.List.{list_all}
use Rattle.std.specs.Str.{is_utf8, IsUtf8}
use Rattle.std.proofs.lemmas.Str.{IsUtf8-from_ascii, IsUtf8-append, IsUtf8-nil, is_utf8-from_IsUtf8}
use Rattle.std.proofs.lemmas.Bool.{ltb-true}
use Rattle.std.proofs.lemmas.Bool.Decides.{nat_tests}
use Rattle.ess_semantics.specs.declared.words.Op2.{Op2}
use Rattle.ess_semantics.specs.declared.words.Fun.{Fun}
use Rattle.ess_semantics.specs.Values.{Text}
use Rattle.ess_semantics.proofs.Tests.{and-left, and-right, and-both}
use Rattle.ess_grammar.specs.Words.{Token, number, name, prime_word, word, operator, function, symbol, Word, language_word, given_word}
use Rattle.ess_grammar.specs.Words.{find_word, letting_word, be_word, new_word, type_word, enum_word, domain_word, of_word, where_word}
use Rattle.ess_grammar.specs.Words.{such_word, that_word, minimising_word, maximising_word, bool_word, int_word, tuple_word, record_word}
use Rattle.ess_grammar.specs.Words.{matrix_word, indexed_word, by_word, set_word, mset_word, function_word, relation_word, partition_word}
use Rattle.ess_grammar.specs.Words.{from_word, true_word, false_word, for_all_word, exists_word, Symbol, open_round, close_round}
use Rattle.ess_grammar.specs.Words.{open_square, close_square, open_curly, close_curly, comma, semicolon, colon, dot, dots, bar}
use Rattle.ess_grammar.specs.Words.{exclamation, maps_to, drawn_from}
use Rattle.ess_grammar.specs.Places.{is_line_feed}
use Rattle.ess_grammar.specs.Tokens.{is_digit, is_letter, is_name_byte, is_name}
use Rattle.ess_grammar.specs.Readable.{is_name_token, is_number_token}
use Rattle.ess_print_laws.specs.TokenTexts.{word_text, function_text, operator_text, symbol_text, token_text}
use Rattle.ess_print_laws.specs.Pieces.{Piece, token, space, text_of}
use Rattle.ess_print_laws.specs.Touching.{is_printable, Separate}
use Rattle.ess_print_laws.proofs.Digits.{decimal-writes}
use Rattle.ess_print_laws.proofs.TokensBack.{name-of-subset}
use Rattle.eprime_tree.specs.ModelText.{is_head_line}
use Rattle.conjure_modelling.proofs.InlineParts.{are_inline}

-- A byte of ASCII that ends no line.
abbrev pub plain : ℕ → Bool
plain b = nat_lt b 128 && not (is_line_feed b)

plain-utf8 : (bs : Text) → list_all plain bs ≡ true → IsUtf8 bs
plain-utf8 [] h = IsUtf8-nil
plain-utf8 (b ∷ bs) h =
    let p = and-left (nat_lt b 128) (not (is_line_feed b)) (and-left (plain b) (list_all plain bs) h) in
    IsUtf8-append (b ∷ []) bs (IsUtf8-from_ascii (b ∷ []) (λ i. one i (ltb-true b 128 p)))
    (plain-utf8 bs (and-right (plain b) (list_all plain bs) h))
  where
    one : (i : ℕ) → b < 128 → slice_index (b ∷ []) i < 128
    one zero h = h
    one (suc i) h = omega arith

-- Such bytes are a line.
pub plain-line : (bs : Text) → list_all plain bs ≡ true → is_head_line bs ≡ true
plain-line bs h = and-both (is_utf8 bs) (list_all (λ b. not (is_line_feed b)) bs) (is_utf8-from_IsUtf8 bs (plain-utf8 bs h)) (all bs h)
  where
    all : (bs : Text) → list_all plain bs ≡ true → list_all (λ b. not (is_line_feed b)) bs ≡ true
    all [] h = refl
    all (b ∷ bs) h = and-both (not (is_line_feed b)) (list_all (λ b. not (is_line_feed b)) bs)
        (and-right (nat_lt b 128) (not (is_line_feed b)) (and-left (plain b) (list_all plain bs) h))
        (all bs (and-right (plain b) (list_all plain bs) h))

-- One text of them behind another.
pub plain-append : (xs ys : Text) → list_all plain xs ≡ true → list_all plain ys ≡ true → list_all plain (xs ++ ys) ≡ true
plain-append [] ys h k = k
plain-append (x ∷ xs) ys h k = and-both (plain x) (list_all plain (xs ++ ys)) (and-left (plain x) (list_all plain xs) h)
    (plain-append xs ys (and-right (plain x) (list_all plain xs) h) k)

-- ---- tokens

-- A name has such bytes.
pub plain-name : (x : Text) → is_name_token x ≡ true → list_all plain x ≡ true
plain-name x h = named x (name-of-subset x h).named
  where
    letter : (b : ℕ) → is_letter b ≡ true → plain b ≡ true
    letter b h = grind (arith, nat_tests)

    byte : (b : ℕ) → is_name_byte b ≡ true → plain b ≡ true
    byte b h = grind (arith, nat_tests)

    rest : (bs : Text) → list_all is_name_byte bs ≡ true → list_all plain bs ≡ true
    rest [] h = refl
    rest (b ∷ bs) h = and-both (plain b) (list_all plain bs)
        (byte b (and-left (is_name_byte b) (list_all is_name_byte bs) h))
        (rest bs (and-right (is_name_byte b) (list_all is_name_byte bs) h))

    named : (x : Text) → is_name x ≡ true → list_all plain x ≡ true
    named [] h = cc
    named (b ∷ bs) h = and-both (plain b) (list_all plain bs) (letter b (and-left (is_letter b) (list_all is_name_byte bs) h))
        (rest bs (and-right (is_letter b) (list_all is_name_byte bs) h))

plain-digits : (bs : Text) → list_all is_digit bs ≡ true → list_all plain bs ≡ true
plain-digits [] h = refl
plain-digits (b ∷ bs) h = and-both (plain b) (list_all plain bs) (digit b (and-left (is_digit b) (list_all is_digit bs) h))
    (plain-digits bs (and-right (is_digit b) (list_all is_digit bs) h))
  where
    digit : (b : ℕ) → is_digit b ≡ true → plain b ≡ true
    digit b h = grind (arith, nat_tests)

plain-word : (w : Word) → list_all plain (word_text w) ≡ true
plain-word language_word = refl
plain-word given_word = refl
plain-word find_word = refl
plain-word letting_word = refl
plain-word be_word = refl
plain-word new_word = refl
plain-word type_word = refl
plain-word enum_word = refl
plain-word domain_word = refl
plain-word of_word = refl
plain-word where_word = refl
plain-word such_word = refl
plain-word that_word = refl
plain-word minimising_word = refl
plain-word maximising_word = refl
plain-word bool_word = refl
plain-word int_word = refl
plain-word tuple_word = refl
plain-word record_word = refl
plain-word matrix_word = refl
plain-word indexed_word = refl
plain-word by_word = refl
plain-word set_word = refl
plain-word mset_word = refl
plain-word function_word = refl
plain-word relation_word = refl
plain-word partition_word = refl
plain-word from_word = refl
plain-word true_word = refl
plain-word false_word = refl
plain-word for_all_word = refl
plain-word exists_word = refl

plain-function : (f : Fun) → list_all plain (function_text f) ≡ true
plain-function Fun.Sum = refl
plain-function Fun.Product = refl
plain-function Fun.And = refl
plain-function Fun.Or = refl
plain-function Fun.Min = refl
plain-function Fun.Max = refl
plain-function Fun.AllDiff = refl
plain-function Fun.ToInt = refl
plain-function Fun.Image = refl
plain-function Fun.PreImage = refl
plain-function Fun.Defined = refl
plain-function Fun.Range = refl
plain-function Fun.ToSet = refl
plain-function Fun.ToMSet = refl
plain-function Fun.ToRelation = refl
plain-function Fun.Freq = refl
plain-function Fun.Parts = refl
plain-function Fun.Party = refl
plain-function Fun.Participants = refl
plain-function Fun.Together = refl

plain-operator : (o : Op2) → list_all plain (operator_text o) ≡ true
plain-operator Op2.Member = refl
plain-operator Op2.Subset = refl
plain-operator Op2.SubsetEq = refl
plain-operator Op2.Supset = refl
plain-operator Op2.SupsetEq = refl
plain-operator Op2.Union = refl
plain-operator Op2.Intersect = refl
plain-operator Op2.Eq = refl
plain-operator Op2.Ne = refl
plain-operator Op2.Lt = refl
plain-operator Op2.Le = refl
plain-operator Op2.Gt = refl
plain-operator Op2.Ge = refl
plain-operator Op2.Plus = refl
plain-operator Op2.Minus = refl
plain-operator Op2.Times = refl
plain-operator Op2.Div = refl
plain-operator Op2.Mod = refl
plain-operator Op2.Pow = refl
plain-operator Op2.And = refl
plain-operator Op2.Or = refl
plain-operator Op2.Implies = refl
plain-operator Op2.Iff = refl
plain-operator Op2.LexLt = refl
plain-operator Op2.LexLe = refl
plain-operator Op2.LexGt = refl
plain-operator Op2.LexGe = refl

plain-symbol : (s : Symbol) → list_all plain (symbol_text s) ≡ true
plain-symbol open_round = refl
plain-symbol close_round = refl
plain-symbol open_square = refl
plain-symbol close_square = refl
plain-symbol open_curly = refl
plain-symbol close_curly = refl
plain-symbol comma = refl
plain-symbol semicolon = refl
plain-symbol colon = refl
plain-symbol dot = refl
plain-symbol dots = refl
plain-symbol bar = refl
plain-symbol exclamation = refl
plain-symbol maps_to = refl
plain-symbol drawn_from = refl

plain-token : (t : Token) → is_printable t ≡ true → list_all plain (token_text t) ≡ true
plain-token (number n) h = plain-digits (decimal n) (decimal-writes n (omega (arith, below n h))).digits
  where
    below : (n : ℕ) → is_number_token (pos n) ≡ true → n < 2 ^ 63
    below n h = ltb-true n (2 ^ 63) h
plain-token (name a) h = plain-name a h
plain-token prime_word h = refl
plain-token (word w) h = plain-word w
plain-token (operator o) h = plain-operator o
plain-token (function f) h = plain-function f
plain-token (symbol s) h = plain-symbol s

-- Separate pieces on a line have such bytes.
pub plain-pieces : (ps : List Piece) → are_inline ps ≡ true → Separate ps → list_all plain (text_of ps) ≡ true
plain-pieces [] i s = refl
plain-pieces (token t ∷ ps) i s = plain-append (token_text t) (text_of ps) (plain-token t s.0) (plain-pieces ps i s.2)
plain-pieces (space ∷ ps) i s = plain-pieces ps i s
plain-pieces (Piece.next_line ∷ ps) i s = cc
plain-pieces (Piece.indented_line ∷ ps) i s = cc
plain-pieces (Piece.comment c ∷ ps) i s = cc
