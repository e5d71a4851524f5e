-- What comes first in a text, without a count of turns.
use Rattle.std.proofs.Common.{◌≡◌, refl, sym, ap, ◌∙◌, subst, ℕ, zero, suc, ◌≤◌, ◌<◌, Bool, true, false, not, [], ◌∷◌, ◌++◌, length, take, drop, Option, Some, None, arith, length-drop, append_assoc, append-nil}
use Rattle.std.proofs.lemmas.Bool.{eqb-true, not_from_false}
use Rattle.ess_rows.specs.declared.place.Place.{Place}
use Rattle.ess_grammar.specs.Words.{Text, Token}
use Rattle.ess_grammar.specs.Places.{is_line_feed, place}
use Rattle.ess_grammar.specs.Tokens.{is_white, begins_comment, comment_length, token_of, longest_token, is_wide, Lexed, the_end, bad_byte, wide_number, next_token, token_first, first, lexed_in, lexed_after, Plain, BeginsPlain}
use Rattle.ess_grammar.proofs.OneLine.{longest-reads}
use Rattle.ess_grammar.proofs.Runs.{run-yes}

abbrev choice : Bool → Lexed → Lexed → Lexed
choice i a x = elim i [ true ↦ a | false ↦ x ]

either : (i : Bool) (a b x y : Lexed) → a ≡ b → x ≡ y → choice i a x ≡ choice i b y
either true a b x y h k = h
either false a b x y h k = k

abbrev Same : (ℕ → Lexed) → (ℕ → Lexed) → Type 0
Same more more' = (n : ℕ) → 0 < n → more n ≡ more' n

comment-there : (b : ℕ) (bs : Text) → begins_comment b ≡ true → 0 < comment_length (b ∷ bs)
comment-there b bs h =
    let dollar : b ≡ 36 = eqb-true b 36 h in
    let passes : not (is_line_feed b) ≡ true = subst (λ c. not (is_line_feed c) ≡ true) (sym dollar) refl in
    omega (arith, run-yes (λ c. not (is_line_feed c)) b bs passes)

token_first-same : (p : Place) (text : Text) (more more' : ℕ → Lexed) → Same more more' →
    token_first p text (longest_token text) more ≡ token_first p text (longest_token text) more'
token_first-same p text more more' same = go (longest_token text) refl
  where
    go : (o : Option (Token × ℕ)) → longest_token text ≡ o → token_first p text o more ≡ token_first p text o more'
    go None e = refl
    go (Some found) e =
        either (is_wide found.0) (wide_number p) (wide_number p) (next_token found.0 (take found.1 text) p (more found.1))
        (next_token found.0 (take found.1 text) p (more' found.1)) refl
        (ap (next_token found.0 (take found.1 text) p) (same found.1 (longest-reads token_of (length text) found.1 text found.0 e).0))

first-same : (p : Place) (text : Text) (more more' : ℕ → Lexed) → Same more more' → first p text more ≡ first p text more'
first-same p [] more more' same = refl
first-same p (b ∷ bs) more more' same = either (is_white b) _ _ _ _ (same 1 (omega arith)) (go (begins_comment b) refl)
  where
    go : (i : Bool) → begins_comment b ≡ i →
        choice i (more (comment_length (b ∷ bs))) (token_first p (b ∷ bs) (longest_token (b ∷ bs)) more)
        ≡ choice i (more' (comment_length (b ∷ bs))) (token_first p (b ∷ bs) (longest_token (b ∷ bs)) more')
    go true e = same (comment_length (b ∷ bs)) (comment-there b bs e)
    go false e = token_first-same p (b ∷ bs) more more' same

-- more turns than bytes change nothing
turns : (n m : ℕ) (before text : Text) → length text ≤ n → length text ≤ m → lexed_in n before text ≡ lexed_in m before text
turns zero zero before text h k = refl
turns zero (suc m) before [] h k = refl
turns zero (suc m) before (b ∷ bs) h k = absurd (omega arith)
turns (suc n) zero before [] h k = refl
turns (suc n) zero before (b ∷ bs) h k = absurd (omega arith)
turns (suc n) (suc m) before text h k = first-same (place before) text _ _
    (λ i a. turns n m (before ++ take i text) (drop i text) (omega (arith, length-drop i text)) (omega (arith, length-drop i text)))

abbrev pub later : Text → Text → ℕ → Lexed
later before text n = lexed_after (before ++ take n text) (drop n text)

pub lexed_after-first : (before text : Text) → lexed_after before text ≡ first (place before) text (later before text)
lexed_after-first before [] = refl
lexed_after-first before (b ∷ bs) = first-same (place before) (b ∷ bs) _ _
    (λ i a. turns (length bs) (length (drop i (b ∷ bs))) (before ++ take i (b ∷ bs)) (drop i (b ∷ bs))
    (omega (arith, length-drop i (b ∷ bs))) (omega arith))

-- ---- by what stands at the front

pub lexed_after-white : (before : Text) (b : ℕ) (bs : Text) → is_white b ≡ true →
    lexed_after before (b ∷ bs) ≡ lexed_after (before ++ b ∷ []) bs
lexed_after-white before b bs h =
    lexed_after-first before (b ∷ bs)
    ∙ ap (λ i. elim i [
      | true ↦ later before (b ∷ bs) 1
      | false ↦
          elim (begins_comment b) [
            | true ↦ later before (b ∷ bs) (comment_length (b ∷ bs))
            | false ↦
                token_first (place before) (b ∷ bs) (longest_token (b ∷ bs)) (later before (b ∷ bs))
          ]
    ]) h

pub lexed_after-comment : (before : Text) (bs : Text) → lexed_after before (36 ∷ bs) ≡ later before (36 ∷ bs) (comment_length (36 ∷ bs))
lexed_after-comment before bs = lexed_after-first before (36 ∷ bs)

lexed_after-plain : (before : Text) (b : ℕ) (bs : Text) → Plain b →
    lexed_after before (b ∷ bs) ≡ token_first (place before) (b ∷ bs) (longest_token (b ∷ bs)) (later before (b ∷ bs))
lexed_after-plain before b bs h =
    lexed_after-first before (b ∷ bs)
    ∙ ap (λ i. elim i [
      | true ↦ later before (b ∷ bs) 1
      | false ↦
          elim (begins_comment b) [
            | true ↦ later before (b ∷ bs) (comment_length (b ∷ bs))
            | false ↦
                token_first (place before) (b ∷ bs) (longest_token (b ∷ bs)) (later before (b ∷ bs))
          ]
    ]) h.0
    ∙ ap (λ i. elim i [
      | true ↦ later before (b ∷ bs) (comment_length (b ∷ bs))
      | false ↦
          token_first (place before) (b ∷ bs) (longest_token (b ∷ bs)) (later before (b ∷ bs))
    ]) h.1

pub lexed_after-found : (before text : Text) (o : Option (Token × ℕ)) → BeginsPlain text → longest_token text ≡ o →
    lexed_after before text ≡ token_first (place before) text o (later before text)
lexed_after-found before [] o h e = absurd (omega (arith, h.0))
lexed_after-found before (b ∷ bs) o h e =
    lexed_after-plain before b bs h.1 ∙ ap (λ o. token_first (place before) (b ∷ bs) o (later before (b ∷ bs))) e

pub lexed_after-token : (before text : Text) (t : Token) (n : ℕ) → BeginsPlain text → longest_token text ≡ Some (t, n) → is_wide t ≡ false →
    lexed_after before text ≡ next_token t (take n text) (place before) (later before text n)
lexed_after-token before text t n h e k =
    lexed_after-found before text (Some (t, n)) h e
    ∙ ap (λ i. elim i [ true ↦ wide_number (place before) | false ↦ next_token t (take n text) (place before) (later before text n) ]) k

pub lexed_after-wide : (before text : Text) (found : Token × ℕ) → BeginsPlain text → longest_token text ≡ Some found →
    is_wide found.0 ≡ true → lexed_after before text ≡ wide_number (place before)
lexed_after-wide before text found h e k =
    lexed_after-found before text (Some found) h e
    ∙ ap (λ i. elim i [
      | true ↦ wide_number (place before)
      | false ↦
          next_token found.0 (take found.1 text) (place before) (later before text found.1)
    ]) k

pub lexed_after-bad : (before text : Text) → BeginsPlain text → longest_token text ≡ None →
    lexed_after before text ≡ bad_byte (place before)
lexed_after-bad before text h e = lexed_after-found before text None h e

-- ---- within a comment

-- what comes behind the bytes `before`, where a comment is open or not
abbrev pub lexed_within : Bool → Text → Text → Lexed
lexed_within true before text = later before text (comment_length text)
lexed_within false before text = lexed_after before text

comment-more : (b : ℕ) (bs : Text) → is_line_feed b ≡ false → comment_length (b ∷ bs) ≡ suc (comment_length bs)
comment-more b bs h = run-yes (λ c. not (is_line_feed c)) b bs (not_from_false (is_line_feed b) h)

passing : (before : Text) (b : ℕ) (bs : Text) (n : ℕ) → later before (b ∷ bs) (suc n) ≡ later (before ++ b ∷ []) bs n
passing before b bs n = ap (λ s. lexed_after s (drop n bs)) (sym (append_assoc before (b ∷ []) (take n bs)))

pub lexed_within-inside : (before : Text) (b : ℕ) (bs : Text) → is_line_feed b ≡ false →
    lexed_within true before (b ∷ bs) ≡ lexed_within true (before ++ b ∷ []) bs
lexed_within-inside before b bs h = ap (later before (b ∷ bs)) (comment-more b bs h) ∙ passing before b bs (comment_length bs)

pub lexed_within-begun : (before : Text) (b : ℕ) (bs : Text) → begins_comment b ≡ true →
    lexed_within false before (b ∷ bs) ≡ lexed_within true (before ++ b ∷ []) bs
lexed_within-begun before b bs h =
    let dollar : b ≡ 36 = eqb-true b 36 h in
    subst (λ c. lexed_within false before (c ∷ bs) ≡ lexed_within true (before ++ c ∷ []) bs) (sym dollar)
    (lexed_after-comment before bs ∙ ap (later before (36 ∷ bs)) (comment-more 36 bs refl) ∙ passing before 36 bs (comment_length bs))

pub lexed_within-ended : (before : Text) (b : ℕ) (bs : Text) → is_line_feed b ≡ true →
    lexed_within true before (b ∷ bs) ≡ lexed_within false (before ++ b ∷ []) bs
lexed_within-ended before b bs h =
    let feed : b ≡ 10 = eqb-true b 10 h in
    subst (λ c. lexed_within true before (c ∷ bs) ≡ lexed_within false (before ++ c ∷ []) bs) (sym feed)
    (ap (λ s. lexed_after s (10 ∷ bs)) (append-nil before) ∙ lexed_after-white before 10 bs refl)

pub lexed_within-end : (i : Bool) (before : Text) → lexed_within i before [] ≡ the_end
lexed_within-end true before = refl
lexed_within-end false before = refl
