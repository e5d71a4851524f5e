-- The text of each token: that of a word or symbol as the tables of the language have it, a name's own bytes, a number in
-- decimal digits (Essence, Constraints 13, 2008; the names of functions, attributes and representations as in the Conjure
-- manual).
use Rattle.std.specs.Prelude.{codes, decimal}
use Rattle.ess_semantics.specs.declared.words.Op2.{Op2}
use Rattle.ess_semantics.specs.declared.words.Fun.{Fun}
use Rattle.ess_semantics.specs.declared.words.Key.{Key}
use Rattle.ess_semantics.specs.declared.words.ReprKind.{ReprKind}
use Rattle.ess_semantics.specs.Values.{Text}
use Rattle.ess_grammar.specs.Words.{Token, number, name, prime_word, word, operator, function, symbol, Word, language_word, given_word, find_word, letting_word, be_word, new_word, type_word, enum_word, domain_word, of_word, where_word, such_word, that_word, minimising_word, maximising_word, bool_word, int_word, tuple_word, record_word, matrix_word, indexed_word, by_word, set_word, mset_word, function_word, relation_word, partition_word, from_word, true_word, false_word, for_all_word, exists_word, Symbol, open_round, close_round, open_square, close_square, open_curly, close_curly, comma, semicolon, colon, dot, dots, bar, exclamation, maps_to, drawn_from}
use Rattle.ess_grammar.specs.Tokens.{prime_text}

-- The text of a word.
abbrev pub word_text : Word → Text
word_text language_word = codes "language"
word_text given_word = codes "given"
word_text find_word = codes "find"
word_text letting_word = codes "letting"
word_text be_word = codes "be"
word_text new_word = codes "new"
word_text type_word = codes "type"
word_text enum_word = codes "enum"
word_text domain_word = codes "domain"
word_text of_word = codes "of"
word_text where_word = codes "where"
word_text such_word = codes "such"
word_text that_word = codes "that"
word_text minimising_word = codes "minimising"
word_text maximising_word = codes "maximising"
word_text bool_word = codes "bool"
word_text int_word = codes "int"
word_text tuple_word = codes "tuple"
word_text record_word = codes "record"
word_text matrix_word = codes "matrix"
word_text indexed_word = codes "indexed"
word_text by_word = codes "by"
word_text set_word = codes "set"
word_text mset_word = codes "mset"
word_text function_word = codes "function"
word_text relation_word = codes "relation"
word_text partition_word = codes "partition"
word_text from_word = codes "from"
word_text true_word = codes "true"
word_text false_word = codes "false"
word_text for_all_word = codes "forAll"
word_text exists_word = codes "exists"

-- The text of a function word.
abbrev pub function_text : Fun → Text
function_text Fun.Sum = codes "sum"
function_text Fun.Product = codes "product"
function_text Fun.And = codes "and"
function_text Fun.Or = codes "or"
function_text Fun.Min = codes "min"
function_text Fun.Max = codes "max"
function_text Fun.AllDiff = codes "allDiff"
function_text Fun.ToInt = codes "toInt"
function_text Fun.Image = codes "image"
function_text Fun.PreImage = codes "preImage"
function_text Fun.Defined = codes "defined"
function_text Fun.Range = codes "range"
function_text Fun.ToSet = codes "toSet"
function_text Fun.ToMSet = codes "toMSet"
function_text Fun.ToRelation = codes "toRelation"
function_text Fun.Freq = codes "freq"
function_text Fun.Parts = codes "parts"
function_text Fun.Party = codes "party"
function_text Fun.Participants = codes "participants"
function_text Fun.Together = codes "together"

-- The text of a binary operator, which is a word or a symbol.
abbrev pub operator_text : Op2 → Text
operator_text Op2.Member = codes "in"
operator_text Op2.Subset = codes "subset"
operator_text Op2.SubsetEq = codes "subsetEq"
operator_text Op2.Supset = codes "supset"
operator_text Op2.SupsetEq = codes "supsetEq"
operator_text Op2.Union = codes "union"
operator_text Op2.Intersect = codes "intersect"
operator_text Op2.Eq = codes "="
operator_text Op2.Ne = codes "!="
operator_text Op2.Lt = codes "<"
operator_text Op2.Le = codes "<="
operator_text Op2.Gt = codes ">"
operator_text Op2.Ge = codes ">="
operator_text Op2.Plus = codes "+"
operator_text Op2.Minus = codes "-"
operator_text Op2.Times = codes "*"
operator_text Op2.Div = codes "/"
operator_text Op2.Mod = codes "%"
operator_text Op2.Pow = codes "**"
operator_text Op2.And = codes "/\\"
operator_text Op2.Or = codes "\\/"
operator_text Op2.Implies = codes "->"
operator_text Op2.Iff = codes "<->"
operator_text Op2.LexLt = codes "<lex"
operator_text Op2.LexLe = codes "<=lex"
operator_text Op2.LexGt = codes ">lex"
operator_text Op2.LexGe = codes ">=lex"

-- The text of a symbol.
abbrev pub symbol_text : Symbol → Text
symbol_text open_round = codes "("
symbol_text close_round = codes ")"
symbol_text open_square = codes "["
symbol_text close_square = codes "]"
symbol_text open_curly = codes "{"
symbol_text close_curly = codes "}"
symbol_text comma = codes ","
symbol_text semicolon = codes ";"
symbol_text colon = codes ":"
symbol_text dot = codes "."
symbol_text dots = codes ".."
symbol_text bar = codes "|"
symbol_text exclamation = codes "!"
symbol_text maps_to = codes "-->"
symbol_text drawn_from = codes "<-"

-- The text of a token.
abbrev pub token_text : Token → Text
token_text (number n) = decimal n
token_text (name a) = a
token_text prime_word = prime_text
token_text (word w) = word_text w
token_text (operator o) = operator_text o
token_text (function f) = function_text f
token_text (symbol s) = symbol_text s

-- The name of an attribute.
abbrev pub key_text : Key → Text
key_text Key.Size = codes "size"
key_text Key.MinSize = codes "minSize"
key_text Key.MaxSize = codes "maxSize"
key_text Key.Reflexive = codes "reflexive"
key_text Key.Irreflexive = codes "irreflexive"
key_text Key.Symmetric = codes "symmetric"
key_text Key.AntiSymmetric = codes "antiSymmetric"
key_text Key.ASymmetric = codes "aSymmetric"
key_text Key.Transitive = codes "transitive"
key_text Key.MinOccur = codes "minOccur"
key_text Key.MaxOccur = codes "maxOccur"
key_text Key.Total = codes "total"
key_text Key.Injective = codes "injective"
key_text Key.Surjective = codes "surjective"
key_text Key.Bijective = codes "bijective"
key_text Key.NumParts = codes "numParts"
key_text Key.MinNumParts = codes "minNumParts"
key_text Key.MaxNumParts = codes "maxNumParts"
key_text Key.PartSize = codes "partSize"
key_text Key.MinPartSize = codes "minPartSize"
key_text Key.MaxPartSize = codes "maxPartSize"
key_text Key.Regular = codes "regular"

-- The name of a kind of representation.
abbrev pub kind_text : ReprKind → Text
kind_text ReprKind.Atom = codes "Atom"
kind_text ReprKind.Tuple = codes "Tuple"
kind_text ReprKind.Rec = codes "Rec"
kind_text ReprKind.Matrix = codes "Matrix"
kind_text ReprKind.Occurrence = codes "Occurrence"
kind_text ReprKind.Explicit = codes "Explicit"
kind_text ReprKind.ExplicitVarSizeWithMarker = codes "ExplicitVarSizeWithMarker"
kind_text ReprKind.ExplicitVarSizeWithFlags = codes "ExplicitVarSizeWithFlags"
kind_text ReprKind.ExplicitVarSizeWithDummy = codes "ExplicitVarSizeWithDummy"
kind_text ReprKind.MSetOccurrence = codes "MSetOccurrence"
kind_text ReprKind.MSetExplicitWithRepetition = codes "MSetExplicitWithRepetition"
kind_text ReprKind.MSetExplicitWithFlags = codes "MSetExplicitWithFlags"
kind_text ReprKind.Function1D = codes "Function1D"
kind_text ReprKind.Function1DPartial = codes "Function1DPartial"
kind_text ReprKind.FunctionND = codes "FunctionND"
kind_text ReprKind.FunctionNDPartial = codes "FunctionNDPartial"
kind_text ReprKind.FunctionAsRelation = codes "FunctionAsRelation"
kind_text ReprKind.RelationAsMatrix = codes "RelationAsMatrix"
kind_text ReprKind.RelationAsSet = codes "RelationAsSet"
kind_text ReprKind.PartitionOccurrence = codes "PartitionOccurrence"
kind_text ReprKind.PartitionAsSet = codes "PartitionAsSet"
