-- The tokens of a printed text are those of its pieces, and no word of it stands outside the subset.
use Rattle.std.proofs.Common.{◌≡◌, refl, sym, ap, ◌∙◌, subst, ℕ, true, false, not, List, [], ◌∷◌, ◌++◌, length, take, Some, None}
use Rattle.std.proofs.Math.Seq.{drop-append_seam}
use Rattle.std.specs.List.{list_all}
use Rattle.std.specs.Option.{option_map}
use Rattle.ess_grammar.specs.Words.{Text, Token}
use Rattle.ess_grammar.specs.Places.{is_line_feed, place}
use Rattle.ess_grammar.specs.Tokens.{is_white, comment_length, Lexed, lexed, lexed_after, tokens_in, tokens, first_outside}
use Rattle.ess_grammar.proofs.Lexing.{later, lexed_after-white, lexed_after-comment, lexed_after-token}
use Rattle.ess_print_laws.specs.TokenTexts.{token_text}
use Rattle.ess_print_laws.specs.Pieces.{Piece, token, space, next_line, indented_line, comment, text_of, tokens_of}
use Rattle.ess_print_laws.specs.Touching.{ends_before, ends_line, is_printable, Separate}
use Rattle.ess_print_laws.proofs.NameRuns.{stops, whole-run}
use Rattle.ess_print_laws.proofs.TokensBack.{token-back, not-wide, not-outside}

-- These tokens, none of them outside the subset.
pub record Holds (l : Lexed) (ts : List Token) : Type 0 where
  pub tokens : tokens_in l ≡ Some ts
  pub inside : first_outside l ≡ None

-- white space changes nothing
white : {ts : List Token} (before : Text) (b : ℕ) (bs : Text) → is_white b ≡ true → Holds (lexed_after (before ++ b ∷ []) bs) ts → Holds (lexed_after before (b ∷ bs)) ts
white {ts = ts} before b bs w h = subst (λ l. Holds l ts) (sym (lexed_after-white before b bs w)) h

-- a line feed and four spaces neither
indented : {ts : List Token} (before bs : Text) → ((b : Text) → Holds (lexed_after b bs) ts) → Holds (lexed_after before (10 ∷ 32 ∷ 32 ∷ 32 ∷ 32 ∷ bs)) ts
indented {ts = ts} before bs h =
    let one : (b : Text) → Holds (lexed_after b (32 ∷ bs)) ts = λ b. white b 32 bs refl (h (b ++ 32 ∷ [])) in
    let two : (b : Text) → Holds (lexed_after b (32 ∷ 32 ∷ bs)) ts = λ b. white b 32 (32 ∷ bs) refl (one (b ++ 32 ∷ [])) in
    let three : (b : Text) → Holds (lexed_after b (32 ∷ 32 ∷ 32 ∷ bs)) ts = λ b. white b 32 (32 ∷ 32 ∷ bs) refl (two (b ++ 32 ∷ [])) in
    let four : (b : Text) → Holds (lexed_after b (32 ∷ 32 ∷ 32 ∷ 32 ∷ bs)) ts = λ b. white b 32 (32 ∷ 32 ∷ 32 ∷ bs) refl (three (b ++ 32 ∷ [])) in
    white before 10 (32 ∷ 32 ∷ 32 ∷ 32 ∷ bs) refl (four (before ++ 10 ∷ []))

-- a token goes first
first-token : {ts : List Token} (before r : Text) (t : Token) → is_printable t ≡ true → ends_before (token_text t) r ≡ true →
    Holds (lexed_after (before ++ take (length (token_text t)) (token_text t ++ r)) r) ts → Holds (lexed_after before (token_text t ++ r)) (t ∷ ts)
first-token {ts = ts} before r t p e h =
    let back = token-back t p in
    let s : Text = token_text t in
    subst (λ l. Holds l (t ∷ ts)) (sym (lexed_after-token before (s ++ r) t (length s) (back.plain r) (back.longest r e) (not-wide t p)))
    (record {
      tokens = ap (λ u. option_map (λ ts. t ∷ ts) (tokens_in (lexed_after (before ++ take (length s) (s ++ r)) u))) (drop-append_seam s r) ∙ ap (option_map (λ ts. t ∷ ts)) h.tokens;
      inside = ap (λ i. elim i [ true ↦ Some (place before) | false ↦ first_outside (later before (s ++ r) (length s)) ]) (not-outside t p)
          ∙ ap (λ u. first_outside (lexed_after (before ++ take (length s) (s ++ r)) u)) (drop-append_seam s r) ∙ h.inside;
    })

-- a comment ends with its line
line-stops : (r : Text) → ends_line r ≡ true → stops (λ b. not (is_line_feed b)) r ≡ true
line-stops [] h = refl
line-stops (b ∷ bs) h = ap (λ i. not (not i)) h

first-comment : {ts : List Token} (before bytes r : Text) → list_all (λ b. not (is_line_feed b)) bytes ≡ true → ends_line r ≡ true →
    Holds (lexed_after (before ++ take (length (36 ∷ 32 ∷ bytes)) (36 ∷ 32 ∷ (bytes ++ r))) r) ts → Holds (lexed_after before (36 ∷ 32 ∷ (bytes ++ r))) ts
first-comment {ts = ts} before bytes r k e h =
    let run : comment_length ((36 ∷ 32 ∷ bytes) ++ r) ≡ length (36 ∷ 32 ∷ bytes) = whole-run (λ b. not (is_line_feed b)) (36 ∷ 32 ∷ bytes) r k (line-stops r e) in
    subst (λ l. Holds l ts) (sym (lexed_after-comment before (32 ∷ (bytes ++ r)) ∙ ap (later before (36 ∷ 32 ∷ (bytes ++ r))) run))
    (subst (λ u. Holds (lexed_after (before ++ take (length (36 ∷ 32 ∷ bytes)) (36 ∷ 32 ∷ (bytes ++ r))) u) ts) (sym (drop-append_seam (36 ∷ 32 ∷ bytes) r)) h)

-- The same behind any bytes.
pub lexed-pieces : (ps : List Piece) → Separate ps → (before : Text) → Holds (lexed_after before (text_of ps)) (tokens_of ps)
lexed-pieces [] h before = record { tokens = refl; inside = refl }
lexed-pieces (token t ∷ ps) h before = first-token before (text_of ps) t h.0 h.1 (lexed-pieces ps h.2 _)
lexed-pieces (space ∷ ps) h before = white before 32 (text_of ps) refl (lexed-pieces ps h _)
lexed-pieces (next_line ∷ ps) h before = white before 10 (text_of ps) refl (lexed-pieces ps h _)
lexed-pieces (indented_line ∷ ps) h before = indented before (text_of ps) (lexed-pieces ps h)
lexed-pieces (comment bytes ∷ ps) h before = first-comment before bytes (text_of ps) h.0 h.1 (lexed-pieces ps h.2 _)

-- The tokens of a text of separate pieces.
pub printed-tokens : (ps : List Piece) → Separate ps → tokens (text_of ps) ≡ Some (tokens_of ps)
printed-tokens ps h = (lexed-pieces ps h []).tokens

-- No word of it stands outside the subset.
pub printed-inside : (ps : List Piece) → Separate ps → first_outside (lexed (text_of ps)) ≡ None
printed-inside ps h = (lexed-pieces ps h []).inside
