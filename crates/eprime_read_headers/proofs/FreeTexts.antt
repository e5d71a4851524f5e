-- Texts at whose front the lexer refuses nothing: so are the texts behind their first bytes.
use Rattle.std.proofs.Common.{◌≡◌, refl, sym, ap, ◌∙◌, subst, ℕ, zero, suc, ◌<◌, ◌≤◌, Bool, true, false, [], ◌∷◌, ◌++◌, length, take, drop, Option, Some, None, arith, length-take}
use Rattle.ess_rows.specs.declared.place.Place.{Place}
use Rattle.ess_semantics.specs.Values.{Text}
use Rattle.ess_grammar.specs.Words.{Token}
use Rattle.ess_grammar.specs.Places.{place}
use Rattle.ess_grammar.specs.Tokens.{is_white, begins_comment, comment_length, longest_token, is_wide, Lexed, the_end, bad_byte, wide_number, next_token, token_first, first, lexed_in, lexed, BeginsPlain}
use Rattle.ess_grammar.proofs.Lexing.{later, lexed_after-white, lexed_after-comment, lexed_after-found}
use Rattle.ess_grammar.proofs.OneLine.{longest_token-there}
use Rattle.ess_lex.specs.Lexing.{refusal}
use Rattle.eprime_read_headers.specs.FrontTokens.{is_free_for, FrontToken}

-- A text of which nothing is refused is free for any number of tokens.
pub free_from : (m : ℕ) (l : Lexed) → refusal l ≡ None → is_free_for m l ≡ true
free_from zero l h = refl
free_from (suc m) the_end h = refl
free_from (suc m) (bad_byte p) h = cc
free_from (suc m) (wide_number p) h = cc
free_from (suc m) (next_token t bytes p more) h = free_from m more h

-- One that is free for several tokens is free for the first.
pub free_first : (m : ℕ) (l : Lexed) → is_free_for (suc m) l ≡ true → is_free_for 1 l ≡ true
free_first m the_end h = refl
free_first m (bad_byte p) h = cc
free_first m (wide_number p) h = cc
free_first m (next_token t bytes p more) h = refl

choice-free : (m : ℕ) (i : Bool) (a b x y : Lexed) → is_free_for m a ≡ is_free_for m b → is_free_for m x ≡ is_free_for m y →
    is_free_for m (elim i [ true ↦ a | false ↦ x ]) ≡ is_free_for m (elim i [ true ↦ b | false ↦ y ])
choice-free m true a b x y h k = h
choice-free m false a b x y h k = k

-- Two texts at each number of bytes, refused alike.
abbrev Alike : (ℕ → Lexed) → (ℕ → Lexed) → Type 0
Alike j k = (m n : ℕ) → is_free_for m (j n) ≡ is_free_for m (k n)

token-free : (m : ℕ) (p q : Place) (t : Text) (o : Option (Token × ℕ)) (j k : ℕ → Lexed) → Alike j k → is_free_for m (token_first p t o j) ≡ is_free_for m (token_first q t o k)
token-free zero p q t o j k h = refl
token-free (suc m) p q t None j k h = refl
token-free (suc m) p q t (Some f) j k h =
    choice-free (suc m) (is_wide f.0) (wide_number p) (wide_number q) (next_token f.0 (take f.1 t) p (j f.1)) (next_token f.0 (take f.1 t) q (k f.1)) refl (h m f.1)

first-free : (m : ℕ) (p q : Place) (t : Text) (j k : ℕ → Lexed) → Alike j k → is_free_for m (first p t j) ≡ is_free_for m (first q t k)
first-free m p q [] j k h = refl
first-free m p q (b ∷ bs) j k h =
    let c : ℕ = comment_length (b ∷ bs) in
    let x : Lexed = token_first p (b ∷ bs) (longest_token (b ∷ bs)) j in
    let y : Lexed = token_first q (b ∷ bs) (longest_token (b ∷ bs)) k in
    choice-free m (is_white b) (j 1) (k 1) (elim (begins_comment b) [ true ↦ j c | false ↦ x ]) (elim (begins_comment b) [ true ↦ k c | false ↦ y ]) (h m 1)
    (choice-free m (begins_comment b) (j c) (k c) x y (h m c) (token-free m p q (b ∷ bs) (longest_token (b ∷ bs)) j k h))

-- What stands before a text changes nothing.
anywhere : (f m : ℕ) (b c t : Text) → is_free_for m (lexed_in f b t) ≡ is_free_for m (lexed_in f c t)
anywhere zero m b c t = refl
anywhere (suc f) m b c t =
    first-free m (place b) (place c) t (λ n. lexed_in f (b ++ take n t) (drop n t)) (λ n. lexed_in f (c ++ take n t) (drop n t))
    (λ k n. anywhere f k (b ++ take n t) (c ++ take n t) (drop n t))

-- Behind white space.
pub free_white : (m b : ℕ) (bs : Text) → is_white b ≡ true → is_free_for m (lexed (b ∷ bs)) ≡ true → is_free_for m (lexed bs) ≡ true
free_white m b bs w h = sym (ap (is_free_for m) (lexed_after-white [] b bs w) ∙ anywhere (length bs) m (b ∷ []) [] bs) ∙ h

-- Behind a comment.
pub free_comment : (m : ℕ) (bs : Text) → is_free_for m (lexed (36 ∷ bs)) ≡ true → is_free_for m (lexed (drop (comment_length (36 ∷ bs)) (36 ∷ bs))) ≡ true
free_comment m bs h =
    let n : ℕ = comment_length (36 ∷ bs) in
    sym (ap (is_free_for m) (lexed_after-comment [] bs) ∙ anywhere (length (drop n (36 ∷ bs))) m (take n (36 ∷ bs)) [] (drop n (36 ∷ bs))) ∙ h

-- The token at the front of a text.
front-is : (text bytes : Text) → BeginsPlain text → (t : Token) (p q : Place) (more : Lexed) (o : Option (Token × ℕ)) (later' : ℕ → Lexed) → longest_token text ≡ o → next_token t bytes p more ≡ token_first q text o later' →
    ((m n : ℕ) → is_free_for m (later' n) ≡ is_free_for m (lexed (drop n text))) → ((m : ℕ) → is_free_for (suc m) (lexed text) ≡ is_free_for m more) → FrontToken text (length bytes)
front-is text bytes b t p q more None later' o e f h = cc
front-is text bytes b t p q more (Some x) later' o e f h = go (is_wide x.0) e
  where
    go : (i : Bool) → next_token t bytes p more ≡ elim i [ true ↦ wide_number q | false ↦ next_token x.0 (take x.1 text) q (later' x.1) ] → FrontToken text (length bytes)
    go true e = cc
    go false e =
        let there = longest_token-there text x.0 x.1 o in
        let same : bytes ≡ take x.1 text = cc in
        let rest : more ≡ later' x.1 = cc in
        let size : length bytes ≡ x.1 = ap length same ∙ omega (arith, length-take x.1 text, there.within) in
        record {
          plain = b;
          token = x.0;
          longest = o ∙ ap (λ n. Some (x.0, n)) (sym size);
          begun = subst (λ n. 0 < n) (sym size) there.begun;
          within = subst (λ n. n ≤ length text) (sym size) there.within;
          free = λ m g. ap (λ n. is_free_for m (lexed (drop n text))) size ∙ sym (f m x.1) ∙ sym (ap (is_free_for m) rest) ∙ sym (h m) ∙ g;
        }

pub front_token : (text bytes : Text) (t : Token) (p : Place) (more : Lexed) → BeginsPlain text → next_token t bytes p more ≡ lexed text → FrontToken text (length bytes)
front_token text bytes t p more b e =
    front-is text bytes b t p (place []) more (longest_token text) (later [] text) refl (e ∙ lexed_after-found [] text (longest_token text) b refl)
    (λ m n. anywhere (length (drop n text)) m (take n text) [] (drop n text)) (λ m. sym (ap (is_free_for (suc m)) e))

no-end : (q : Place) (text : Text) (o : Option (Token × ℕ)) (j : ℕ → Lexed) → the_end ≡ token_first q text o j → ⊥
no-end q text None j e = cc
no-end q text (Some x) j e = go (is_wide x.0) e
  where
    go : (i : Bool) → the_end ≡ elim i [ true ↦ wide_number q | false ↦ next_token x.0 (take x.1 text) q (j x.1) ] → ⊥
    go true e = cc
    go false e = cc

-- There is one.
pub not_at_end : (text : Text) → BeginsPlain text → the_end ≡ lexed text → ⊥
not_at_end text b e = no-end (place []) text (longest_token text) (later [] text) (e ∙ lexed_after-found [] text (longest_token text) b refl)

pub not_bad : (text : Text) (p : Place) → is_free_for 1 (lexed text) ≡ true → bad_byte p ≡ lexed text → ⊥
not_bad text p h e = let k : false ≡ true = ap (is_free_for 1) e ∙ h in cc

pub not_wide : (text : Text) (p : Place) → is_free_for 1 (lexed text) ≡ true → wide_number p ≡ lexed text → ⊥
not_wide text p h e = let k : false ≡ true = ap (is_free_for 1) e ∙ h in cc
