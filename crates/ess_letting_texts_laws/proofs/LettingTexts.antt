-- The text of lettings as pieces: the language line and a letting of each value. It is a file of the lettings of the values' literals.
use Rattle.std.proofs.Common.{◌≡◌, refl, sym, ap, ◌∙◌, subst, ℕ, List, [], ◌∷◌, ◌++◌, codes, append_assoc}
use Rattle.std.specs.Prelude.{IsTrue, flat_map}
use Rattle.std.specs.Fmt.{digits}
use Rattle.ess_semantics.specs.Values.{Text, Value}
use Rattle.ess_semantics.specs.Names.{Names}
use Rattle.ess_semantics.specs.Trees.{let_ex}
use Rattle.ess_semantics.specs.Contexts.{Each}
use Rattle.ess_grammar.specs.Words.{number, language_word, dot}
use Rattle.ess_grammar.specs.ValueTexts.{value_text, literal_of}
use Rattle.ess_grammar.specs.Readable.{is_name_token}
use Rattle.ess_grammar.specs.Statements.{value_letting, last_letting, LettingStatements, no_lettings, more_lettings, language_line, IsLettingsFile, lettings_file}
use Rattle.ess_print_laws.specs.Pieces.{Piece, token, space, next_line, text_of, tokens_of, Printer, reserved, sign, named}
use Rattle.ess_print_laws.specs.Statements.{stm_pieces}
use Rattle.ess_print_laws.specs.Touching.{Separate}
use Rattle.ess_print_laws.specs.Laws.{ReadsInSubset}
use Rattle.ess_print_laws.specs.Spelled.{is_spelled}
use Rattle.ess_print_laws.proofs.Appended.{text-behind, stm-appends}
use Rattle.ess_print_laws.proofs.Expressions.{ex-printed}
use Rattle.ess_print_laws.proofs.SpelledReadable.{value-readable}
use Rattle.ess_print_laws.proofs.ValueTexts.{value-text-is}
use Rattle.ess_print_laws.proofs.SafeTrees.{stm-safe}
use Rattle.ess_print_laws.proofs.LexedPieces.{printed-tokens, printed-inside}
use Rattle.ess_letting_texts_laws.specs.LettingTexts.{letting_line, lettings_of}
use Rattle.ess_letting_texts_laws.specs.Laws.{LettingTextsAreRead}

module _ (name_of : Text → ℕ → Text) where
  -- ---- the pieces

  abbrev lettings : Names Value → Printer
  lettings [] us = us
  lettings (b ∷ vs) us = stm_pieces (let_ex b.0 (literal_of name_of b.1)) (next_line ∷ lettings vs us)

  -- What is known of a value that is printed.
  abbrev IsPrintable : Text × Value → Type 0
  IsPrintable b = IsTrue (is_name_token b.0) × IsTrue (is_spelled name_of b.1)

  -- ---- one letting

  -- its own text, behind the words and the name
  letting-text : (b : Text × Value) → IsPrintable b → (us : List Piece) →
      text_of (stm_pieces (let_ex b.0 (literal_of name_of b.1)) (next_line ∷ us)) ≡ letting_line name_of b ++ text_of us
  letting-text b h us =
      let s = let_ex b.0 (literal_of name_of b.1) in
      text-behind (stm_pieces s) (stm-appends s) (next_line ∷ us)
      ∙ ap (λ t. (codes "letting " ++ (b.0 ++ (codes " be " ++ t))) ++ (codes "\n" ++ text_of us)) (value-text-is name_of b.1 h.1)
      ∙ spread (value_text name_of b.1) (text_of us)
    where
      spread : (v w : Text) → (codes "letting " ++ (b.0 ++ (codes " be " ++ v))) ++ (codes "\n" ++ w)
          ≡ (codes "letting " ++ b.0 ++ codes " be " ++ v ++ codes "\n") ++ w
      spread v w =
          sym (append_assoc (codes "letting " ++ (b.0 ++ (codes " be " ++ v))) (codes "\n") w)
          ∙ ap (λ t. ((codes "letting " ++ t) ++ codes "\n") ++ w) (sym (append_assoc b.0 (codes " be ") v))

  -- ---- all lettings

  lettings-text : (vs : Names Value) → Each vs IsPrintable → text_of (lettings vs []) ≡ flat_map (letting_line name_of) vs
  lettings-text [] h = refl
  lettings-text (b ∷ vs) h = letting-text b h.0 (lettings vs []) ∙ ap (λ t. letting_line name_of b ++ t) (lettings-text vs h.1)

  lettings-separate : (vs : Names Value) → Each vs IsPrintable → Separate (lettings vs [])
  lettings-separate [] h = tt
  lettings-separate (b ∷ vs) h =
      (stm-safe (let_ex b.0 (literal_of name_of b.1)) (h.0.0, value-readable name_of b.1 h.0.1)).law (next_line ∷ lettings vs []) refl
      (lettings-separate vs h.1)

  lettings-derived : (vs : Names Value) → Each vs IsPrintable →
      LettingStatements (lettings_of name_of vs) (tokens_of (lettings vs []))
  lettings-derived [] h = no_lettings
  lettings-derived (b ∷ vs) h =
      more_lettings
      (last_letting (value_letting ((ex-printed (literal_of name_of b.1) (value-readable name_of b.1 h.0.1)).reads
      (next_line ∷ lettings vs [])).derivation)) (lettings-derived vs h.1)

-- ---- the language line

abbrev first_line : Printer
first_line us =
    reserved language_word ∷ space ∷ named (codes "Essence") ∷ space ∷ token (number 1) ∷ sign dot ∷ token (number 3) ∷ next_line ∷ us

line-separate : (us : List Piece) → Separate us → Separate (first_line us)
unfolding digits
line-separate us h = (refl, refl, (refl, refl, (refl, refl, (refl, refl, (refl, refl, h)))))

line-text : (us : List Piece) → text_of (first_line us) ≡ codes "language Essence 1.3\n" ++ text_of us
unfolding digits
line-text us = refl

-- A text of lettings is a file of the lettings of the values' literals.
pub letting-texts-are-read : LettingTextsAreRead
letting-texts-are-read name_of vs h =
    let ps = first_line (lettings name_of vs []) in
    let separate = line-separate (lettings name_of vs []) (lettings-separate name_of vs h) in
    subst (λ t. ReadsInSubset t (IsLettingsFile (lettings_of name_of vs)))
    (line-text (lettings name_of vs []) ∙ ap (λ t. codes "language Essence 1.3\n" ++ t) (lettings-text name_of vs h))
    ((tokens_of ps, printed-tokens ps separate, lettings_file language_line (lettings-derived name_of vs h)), printed-inside ps separate)
