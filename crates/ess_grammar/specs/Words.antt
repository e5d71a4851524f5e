-- The tokens of a text, with the words and symbols of the language (Essence, Constraints 13, 2008; the names of
-- functions and attributes as in the Conjure manual).
use Rattle.std.specs.Prelude.{ℕ, Bool, true, false, List, [], ◌∷◌, Option, codes}
use Rattle.std.specs.List.{list_any}
use Rattle.std.specs.Str.{bytes_eq}
use Rattle.ess_semantics.specs.declared.words.Op2.{Op2}
use Rattle.ess_semantics.specs.declared.words.Fun.{Fun}
use Rattle.ess_semantics.specs.declared.words.Key.{Key}
use Rattle.ess_semantics.specs.Names.{look_by}
pub use Rattle.ess_semantics.specs.Values.{Text}
pub use Rattle.ess_semantics.specs.NameTokens.{outside}

-- reserved words that are neither operators nor function words
pub data Word : Type 0 where
  language_word given_word find_word letting_word be_word new_word type_word enum_word domain_word : Word
  of_word where_word such_word that_word minimising_word maximising_word : Word
  bool_word int_word tuple_word record_word matrix_word indexed_word by_word set_word mset_word function_word relation_word : Word
  partition_word from_word true_word false_word : Word
  for_all_word exists_word : Word

-- symbols that are no binary operators: the arrows are `<-` and `-->`
pub data Symbol : Type 0 where
  open_round close_round open_square close_square open_curly close_curly comma semicolon : Symbol
  colon dot dots bar exclamation drawn_from maps_to : Symbol

-- a token of a text
pub data Token : Type 0 where
  number : ℕ → Token
  name : Text → Token
  -- ESSENCE'
  prime_word : Token
  word : Word → Token
  -- a word or symbol that is a binary operator; `-` is a prefix too, `=` also stands in records, `*` in relations
  operator : Op2 → Token
  function : Fun → Token
  symbol : Symbol → Token

-- the reserved words
abbrev pub words : List (Text × Token)
words =
    (codes "language", word language_word) ∷ (codes "given", word given_word) ∷ (codes "find", word find_word) ∷
    (codes "letting", word letting_word) ∷ (codes "be", word be_word) ∷ (codes "new", word new_word) ∷
    (codes "type", word type_word) ∷ (codes "enum", word enum_word) ∷ (codes "domain", word domain_word) ∷
    (codes "of", word of_word) ∷ (codes "where", word where_word) ∷ (codes "such", word such_word) ∷
    (codes "that", word that_word) ∷ (codes "minimising", word minimising_word) ∷ (codes "maximising", word maximising_word) ∷
    (codes "bool", word bool_word) ∷ (codes "int", word int_word) ∷ (codes "tuple", word tuple_word) ∷
    (codes "record", word record_word) ∷ (codes "matrix", word matrix_word) ∷ (codes "indexed", word indexed_word) ∷
    (codes "by", word by_word) ∷ (codes "set", word set_word) ∷ (codes "mset", word mset_word) ∷
    (codes "function", word function_word) ∷ (codes "relation", word relation_word) ∷ (codes "partition", word partition_word) ∷
    (codes "from", word from_word) ∷ (codes "true", word true_word) ∷ (codes "false", word false_word) ∷
    (codes "forAll", word for_all_word) ∷ (codes "exists", word exists_word) ∷
    (codes "sum", function Fun.Sum) ∷ (codes "product", function Fun.Product) ∷ (codes "and", function Fun.And) ∷
    (codes "or", function Fun.Or) ∷ (codes "min", function Fun.Min) ∷ (codes "max", function Fun.Max) ∷
    (codes "allDiff", function Fun.AllDiff) ∷ (codes "toInt", function Fun.ToInt) ∷ (codes "image", function Fun.Image) ∷
    (codes "preImage", function Fun.PreImage) ∷ (codes "defined", function Fun.Defined) ∷ (codes "range", function Fun.Range) ∷
    (codes "toSet", function Fun.ToSet) ∷ (codes "toMSet", function Fun.ToMSet) ∷ (codes "toRelation", function Fun.ToRelation) ∷
    (codes "freq", function Fun.Freq) ∷ (codes "parts", function Fun.Parts) ∷ (codes "party", function Fun.Party) ∷
    (codes "participants", function Fun.Participants) ∷ (codes "together", function Fun.Together) ∷
    (codes "in", operator Op2.Member) ∷ (codes "subset", operator Op2.Subset) ∷ (codes "subsetEq", operator Op2.SubsetEq) ∷
    (codes "supset", operator Op2.Supset) ∷ (codes "supsetEq", operator Op2.SupsetEq) ∷ (codes "union", operator Op2.Union) ∷
    (codes "intersect", operator Op2.Intersect) ∷ []

-- the symbols, but those that end in letters
abbrev pub symbols : List (Text × Token)
symbols =
    (codes "(", symbol open_round) ∷ (codes ")", symbol close_round) ∷ (codes "[", symbol open_square) ∷
    (codes "]", symbol close_square) ∷ (codes "{", symbol open_curly) ∷ (codes "}", symbol close_curly) ∷
    (codes ",", symbol comma) ∷ (codes ";", symbol semicolon) ∷ (codes ":", symbol colon) ∷
    (codes ".", symbol dot) ∷ (codes "..", symbol dots) ∷ (codes "|", symbol bar) ∷
    (codes "=", operator Op2.Eq) ∷ (codes "!=", operator Op2.Ne) ∷ (codes "<", operator Op2.Lt) ∷
    (codes "<=", operator Op2.Le) ∷ (codes ">", operator Op2.Gt) ∷ (codes ">=", operator Op2.Ge) ∷
    (codes "+", operator Op2.Plus) ∷ (codes "-", operator Op2.Minus) ∷ (codes "*", operator Op2.Times) ∷
    (codes "/", operator Op2.Div) ∷ (codes "%", operator Op2.Mod) ∷ (codes "**", operator Op2.Pow) ∷
    (codes "!", symbol exclamation) ∷ (codes "/\\", operator Op2.And) ∷ (codes "\\/", operator Op2.Or) ∷
    (codes "->", operator Op2.Implies) ∷ (codes "<->", operator Op2.Iff) ∷ (codes "-->", symbol maps_to) ∷
    (codes "<-", symbol drawn_from) ∷ []

-- symbols only where no byte of a name follows
abbrev pub lex_symbols : List (Text × Token)
lex_symbols =
    (codes "<lex", operator Op2.LexLt) ∷ (codes "<=lex", operator Op2.LexLe) ∷
    (codes ">lex", operator Op2.LexGt) ∷ (codes ">=lex", operator Op2.LexGe) ∷ []

-- the names that are attributes of domains where attributes may stand
abbrev pub keys : List (Text × Key)
keys =
    (codes "size", Key.Size) ∷ (codes "minSize", Key.MinSize) ∷ (codes "maxSize", Key.MaxSize) ∷
    (codes "reflexive", Key.Reflexive) ∷ (codes "irreflexive", Key.Irreflexive) ∷ (codes "symmetric", Key.Symmetric) ∷
    (codes "antiSymmetric", Key.AntiSymmetric) ∷ (codes "aSymmetric", Key.ASymmetric) ∷ (codes "transitive", Key.Transitive) ∷
    (codes "minOccur", Key.MinOccur) ∷ (codes "maxOccur", Key.MaxOccur) ∷ (codes "total", Key.Total) ∷
    (codes "injective", Key.Injective) ∷ (codes "surjective", Key.Surjective) ∷ (codes "bijective", Key.Bijective) ∷
    (codes "numParts", Key.NumParts) ∷ (codes "minNumParts", Key.MinNumParts) ∷ (codes "maxNumParts", Key.MaxNumParts) ∷
    (codes "partSize", Key.PartSize) ∷ (codes "minPartSize", Key.MinPartSize) ∷ (codes "maxPartSize", Key.MaxPartSize) ∷
    (codes "regular", Key.Regular) ∷ []

-- the attribute that a name is, where it is one
abbrev pub key_of : Text → Option Key
key_of t = look_by bytes_eq keys t

-- whether a token is a word outside the subset
abbrev pub is_outside : Token → Bool
is_outside (name t) = list_any (bytes_eq t) outside
is_outside _ = false
