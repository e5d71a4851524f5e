-- Words of attributes in the code, and the frames of an attribute's number.
use Rattle.std.specs.Prelude.{List, ◌∷◌, map, Option, Some, None}
use denote.Bor.{Bor}
use Rattle.ess_semantics.specs.declared.words.Key.{Key}
use Rattle.ess_grammar.specs.Words.{Text, Token, name, key_of}
use Rattle.ess_parse_laws.specs.Frames.{Frame, attributes_frame, attribute_value_frame}

-- A table of the code as one of the definitions.
abbrev pub shown_keys : List (Bor Text × Key) → List (Text × Key)
shown_keys entries = map (λ e. (e.0.now, e.1)) entries

-- The attribute that a name is, where it is one. It is kept shut, so that proofs don't look into the table of words.
unfoldable pub key_named : Text → Option Key
key_named a = key_of a

-- The attribute that a token is, where it is one.
abbrev pub attribute_in : Token → Option Key
attribute_in (name a) = key_named a
attribute_in _ = None

-- The frames in which the number of an attribute of this word is read, where attributes are.
abbrev pub before_value : Key → List Frame → Option (List Frame)
before_value k (attributes_frame o ms es ∷ fs) = Some (attribute_value_frame o k ms es ∷ fs)
before_value k _ = None
