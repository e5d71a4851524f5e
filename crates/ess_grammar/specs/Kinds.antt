-- The token that each kind of the code stands for, and the text that it has.
use Rattle.std.specs.Prelude.{ℕ, ◌≡◌, Bool, true, false, [], Option, Some, None, ℤ, pos, negsuc}
use Rattle.ess_semantics.specs.declared.words.Op2.{Op2}
use Rattle.ess_semantics.specs.declared.words.Fun.{Fun}
use Rattle.ess_semantics.specs.Values.{Text}
use Rattle.ess_grammar.specs.declared.kind.Kind.{Kind}
use Rattle.ess_grammar.specs.Words.{Token, number, name, prime_word, word, operator, function, symbol, language_word, given_word, find_word, letting_word, be_word, new_word, type_word, enum_word, domain_word, of_word, where_word, such_word, that_word, minimising_word, maximising_word, bool_word, int_word, tuple_word, record_word, matrix_word, indexed_word, by_word, set_word, mset_word, function_word, relation_word, partition_word, from_word, true_word, false_word, for_all_word, exists_word, open_round, close_round, open_square, close_square, open_curly, close_curly, comma, semicolon, colon, dot, dots, bar, exclamation, maps_to, drawn_from}
use Rattle.ess_grammar.specs.Tokens.{token_of}

-- The number, where it is at least 0.
abbrev pub nat_of : ℤ → ℕ
nat_of (pos n) = n
nat_of (negsuc n) = 0

-- of a kind with the bytes of the token
abbrev pub token : Kind → Text → Token
token Kind.Name bytes = name bytes
token (Kind.Num n) bytes = number (nat_of n)
token Kind.PrimeWord bytes = prime_word
token Kind.Language bytes = word language_word
token Kind.Given bytes = word given_word
token Kind.Find bytes = word find_word
token Kind.Letting bytes = word letting_word
token Kind.Be bytes = word be_word
token Kind.New bytes = word new_word
token Kind.TypeWord bytes = word type_word
token Kind.Enum bytes = word enum_word
token Kind.Domain bytes = word domain_word
token Kind.Of bytes = word of_word
token Kind.Where bytes = word where_word
token Kind.Such bytes = word such_word
token Kind.That bytes = word that_word
token Kind.Minimising bytes = word minimising_word
token Kind.Maximising bytes = word maximising_word
token Kind.Bool bytes = word bool_word
token Kind.Int bytes = word int_word
token Kind.Tuple bytes = word tuple_word
token Kind.Record bytes = word record_word
token Kind.Matrix bytes = word matrix_word
token Kind.Indexed bytes = word indexed_word
token Kind.By bytes = word by_word
token Kind.Set bytes = word set_word
token Kind.MSet bytes = word mset_word
token Kind.Function bytes = word function_word
token Kind.Relation bytes = word relation_word
token Kind.Partition bytes = word partition_word
token Kind.From bytes = word from_word
token Kind.True bytes = word true_word
token Kind.False bytes = word false_word
token Kind.ForAll bytes = word for_all_word
token Kind.Exists bytes = word exists_word
token Kind.Sum bytes = function Fun.Sum
token Kind.Product bytes = function Fun.Product
token Kind.And bytes = function Fun.And
token Kind.Or bytes = function Fun.Or
token Kind.Min bytes = function Fun.Min
token Kind.Max bytes = function Fun.Max
token Kind.AllDiff bytes = function Fun.AllDiff
token Kind.ToInt bytes = function Fun.ToInt
token Kind.Image bytes = function Fun.Image
token Kind.PreImage bytes = function Fun.PreImage
token Kind.Defined bytes = function Fun.Defined
token Kind.Range bytes = function Fun.Range
token Kind.ToSet bytes = function Fun.ToSet
token Kind.ToMSet bytes = function Fun.ToMSet
token Kind.ToRelation bytes = function Fun.ToRelation
token Kind.Freq bytes = function Fun.Freq
token Kind.Parts bytes = function Fun.Parts
token Kind.Party bytes = function Fun.Party
token Kind.Participants bytes = function Fun.Participants
token Kind.Together bytes = function Fun.Together
token Kind.In bytes = operator Op2.Member
token Kind.Subset bytes = operator Op2.Subset
token Kind.SubsetEq bytes = operator Op2.SubsetEq
token Kind.Supset bytes = operator Op2.Supset
token Kind.SupsetEq bytes = operator Op2.SupsetEq
token Kind.Union bytes = operator Op2.Union
token Kind.Intersect bytes = operator Op2.Intersect
token Kind.OpenRound bytes = symbol open_round
token Kind.CloseRound bytes = symbol close_round
token Kind.OpenSquare bytes = symbol open_square
token Kind.CloseSquare bytes = symbol close_square
token Kind.OpenCurly bytes = symbol open_curly
token Kind.CloseCurly bytes = symbol close_curly
token Kind.Comma bytes = symbol comma
token Kind.Semicolon bytes = symbol semicolon
token Kind.Colon bytes = symbol colon
token Kind.Dot bytes = symbol dot
token Kind.Dots bytes = symbol dots
token Kind.Bar bytes = symbol bar
token Kind.Equal bytes = operator Op2.Eq
token Kind.NotEqual bytes = operator Op2.Ne
token Kind.Less bytes = operator Op2.Lt
token Kind.LessEqual bytes = operator Op2.Le
token Kind.Greater bytes = operator Op2.Gt
token Kind.GreaterEqual bytes = operator Op2.Ge
token Kind.Plus bytes = operator Op2.Plus
token Kind.Minus bytes = operator Op2.Minus
token Kind.Star bytes = operator Op2.Times
token Kind.Slash bytes = operator Op2.Div
token Kind.Percent bytes = operator Op2.Mod
token Kind.StarStar bytes = operator Op2.Pow
token Kind.Exclamation bytes = symbol exclamation
token Kind.Conjunction bytes = operator Op2.And
token Kind.Disjunction bytes = operator Op2.Or
token Kind.Implies bytes = operator Op2.Implies
token Kind.Iff bytes = operator Op2.Iff
token Kind.MapsTo bytes = symbol maps_to
token Kind.DrawnFrom bytes = symbol drawn_from
token Kind.LexLess bytes = operator Op2.LexLt
token Kind.LexLessEqual bytes = operator Op2.LexLe
token Kind.LexGreater bytes = operator Op2.LexGt
token Kind.LexGreaterEqual bytes = operator Op2.LexGe

-- Whether all tokens of a kind have one text: those of words and symbols and `ESSENCE'` have, names and numbers haven't.
abbrev pub has_one_text : Token → Bool
has_one_text (name bytes) = false
has_one_text (number n) = false
has_one_text t = true

-- The text of a kind, which alone is read as its token. There is none where texts differ.
abbrev pub IsTextOf : Kind → Option Text → Type 0
IsTextOf k (Some bytes) = (has_one_text (token k bytes) ≡ true) × (token_of bytes [] ≡ Some (token k bytes))
IsTextOf k None = has_one_text (token k []) ≡ false
