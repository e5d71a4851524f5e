-- The bytes behind the first tokens of a text, step by step.
use Rattle.std.proofs.Common.{◌≡◌, refl, sym, ap, ◌∙◌, subst, ℕ, zero, suc, ◌-◌, ◌<◌, ◌≤◌, Bool, true, false, not, if◌then◌else◌, [], ◌∷◌, length, take, drop, Option, Some, None, slice_index, arith, length-drop}
use Rattle.std.proofs.lemmas.Bool.{eqb-true}
use Rattle.std.proofs.Math.Seq.{take-length}
use Rattle.ess_semantics.specs.Values.{Text}
use Rattle.ess_grammar.specs.Words.{Token}
use Rattle.ess_grammar.specs.Places.{is_line_feed}
use Rattle.ess_grammar.specs.Tokens.{is_white, begins_comment, comment_length, longest_token, lexed}
use Rattle.ess_grammar.specs.ModelTexts.{behind_in}
use Rattle.ess_grammar.proofs.OneLine.{longest_token-there}
use Rattle.ess_grammar.proofs.Runs.{run-yes}
use Rattle.eprime_read_headers.specs.FrontTokens.{is_free_for, FrontToken}
use Rattle.eprime_read_headers.proofs.FreeTexts.{free_first, free_white, free_comment}

if-same : {X : Type 0} (b : Bool) (x y u v : X) → (b ≡ true → x ≡ u) → (b ≡ false → y ≡ v) → (if b then x else y) ≡ (if b then u else v)
if-same true x y u v f g = f refl
if-same false x y u v f g = g refl

if-holds : {X : Type 0} (P : X → Type 0) (b : Bool) (x y : X) → (b ≡ true → P x) → (b ≡ false → P y) → P (if b then x else y)
if-holds P true x y f g = f refl
if-holds P false x y f g = g refl

comment-there : (b : ℕ) (bs : Text) → begins_comment b ≡ true → 0 < comment_length (b ∷ bs)
comment-there b bs h =
    let dollar : b ≡ 36 = eqb-true b 36 h in
    let passes : not (is_line_feed b) ≡ true = subst (λ c. not (is_line_feed c) ≡ true) (sym dollar) refl in
    omega (arith, run-yes (λ c. not (is_line_feed c)) b bs passes)

-- What is behind the token that is found.
abbrev behind_found : ℕ → ℕ → Text → Option (Token × ℕ) → Text
behind_found turns n text o = elim o [ Some found ↦ behind_in turns n (drop found.1 text) | None ↦ [] ]

-- ---- turns enough

found-same : (f g n : ℕ) (t : Text) (o : Option (Token × ℕ)) → longest_token t ≡ o → ((k : ℕ) → 0 < k → behind_in f n (drop k t) ≡ behind_in g n (drop k t)) → behind_found f n t o ≡ behind_found g n t o
found-same f g n t None e h = refl
found-same f g n t (Some x) e h = h x.1 (longest_token-there t x.0 x.1 e).begun

turns : (f g n : ℕ) (t : Text) → length t ≤ f → length t ≤ g → behind_in f n t ≡ behind_in g n t
turns f g zero t h k = refl
turns zero zero (suc n) t h k = refl
turns zero (suc g) (suc n) [] h k = refl
turns zero (suc g) (suc n) (b ∷ bs) h k = absurd (omega arith)
turns (suc f) zero (suc n) [] h k = refl
turns (suc f) zero (suc n) (b ∷ bs) h k = absurd (omega arith)
turns (suc f) (suc g) (suc n) [] h k = refl
turns (suc f) (suc g) (suc n) (b ∷ bs) h k =
    let t : Text = b ∷ bs in
    let c : ℕ = comment_length t in
    if-same (is_white b) (behind_in f (suc n) bs) (if begins_comment b then behind_in f (suc n) (drop c t) else behind_found f n t (longest_token t))
    (behind_in g (suc n) bs) (if begins_comment b then behind_in g (suc n) (drop c t) else behind_found g n t (longest_token t))
    (λ w. turns f g (suc n) bs (omega arith) (omega arith))
    (λ w. if-same (begins_comment b) (behind_in f (suc n) (drop c t)) (behind_found f n t (longest_token t)) (behind_in g (suc n) (drop c t)) (behind_found g n t (longest_token t))
    (λ q. let s = comment-there b bs q in turns f g (suc n) (drop c t) (omega (arith, length-drop c t)) (omega (arith, length-drop c t)))
    (λ q. found-same f g n t (longest_token t) refl (λ i a. turns f g n (drop i t) (omega (arith, length-drop i t)) (omega (arith, length-drop i t)))))

-- ---- no bytes are new

found-short : (f n : ℕ) (t : Text) (o : Option (Token × ℕ)) → ((k : ℕ) → length (behind_in f n (drop k t)) ≤ length t) → length (behind_found f n t o) ≤ length t
found-short f n t None h = omega arith
found-short f n t (Some x) h = h x.1

short-behind : (f n k : ℕ) (t : Text) → ((s : Text) → length (behind_in f n s) ≤ length s) → length (behind_in f n (drop k t)) ≤ length t
short-behind f n k t h = let a = h (drop k t) in omega (arith, length-drop k t)

pub short : (f n : ℕ) (t : Text) → length (behind_in f n t) ≤ length t
short f zero t = omega arith
short zero (suc n) t = omega arith
short (suc f) (suc n) [] = omega arith
short (suc f) (suc n) (b ∷ bs) =
    let t : Text = b ∷ bs in
    let c : ℕ = comment_length t in
    if-holds (λ s. length s ≤ length t) (is_white b) (behind_in f (suc n) bs) (if begins_comment b then behind_in f (suc n) (drop c t) else behind_found f n t (longest_token t))
    (λ w. let a = short f (suc n) bs in omega arith)
    (λ w. if-holds (λ s. length s ≤ length t) (begins_comment b) (behind_in f (suc n) (drop c t)) (behind_found f n t (longest_token t))
    (λ q. short-behind f (suc n) c t (short f (suc n)))
    (λ q. found-short f n t (longest_token t) (λ k. short-behind f n k t (short f n))))

-- ---- step by step

-- The bytes behind the first n tokens.
abbrev pub behind : ℕ → Text → Text
behind n t = behind_in (length t) n t

-- The bytes behind n tokens of one text are those behind m of another, and none of the n is refused.
pub record GoesOn (n : ℕ) (t : Text) (all : Text) : Type 0 where
  pub same : behind n t ≡ all
  pub free : is_free_for n (lexed t) ≡ true

behind-white : (n b : ℕ) (bs : Text) → is_white b ≡ true → behind (suc n) (b ∷ bs) ≡ behind (suc n) bs
behind-white n b bs w =
    ap (λ i. if i then behind_in (length bs) (suc n) bs else (if begins_comment b then behind_in (length bs) (suc n) (drop (comment_length (b ∷ bs)) (b ∷ bs)) else behind_found (length bs) n (b ∷ bs) (longest_token (b ∷ bs)))) w

behind-comment : (n : ℕ) (bs : Text) → behind (suc n) (36 ∷ bs) ≡ behind (suc n) (drop (comment_length (36 ∷ bs)) (36 ∷ bs))
behind-comment n bs =
    let c : ℕ = comment_length (36 ∷ bs) in
    let a = comment-there 36 bs refl in
    turns (length bs) (length (drop c (36 ∷ bs))) (suc n) (drop c (36 ∷ bs)) (omega (arith, length-drop c (36 ∷ bs))) (omega arith)

behind-token : (n b : ℕ) (bs : Text) (x : Token) (k : ℕ) → is_white b ≡ false → begins_comment b ≡ false → longest_token (b ∷ bs) ≡ Some (x, k) → behind (suc n) (b ∷ bs) ≡ behind n (drop k (b ∷ bs))
behind-token n b bs x k w q e =
    let t : Text = b ∷ bs in
    let c : ℕ = comment_length t in
    let a = (longest_token-there t x k e).begun in
    ap (λ i. if i then behind_in (length bs) (suc n) bs else (if begins_comment b then behind_in (length bs) (suc n) (drop c t) else behind_found (length bs) n t (longest_token t))) w
    ∙ ap (λ i. if i then behind_in (length bs) (suc n) (drop c t) else behind_found (length bs) n t (longest_token t)) q
    ∙ ap (behind_found (length bs) n t) e
    ∙ turns (length bs) (length (drop k t)) n (drop k t) (omega (arith, length-drop k t)) (omega arith)

-- The bytes behind the first k, as a part of the text.
abbrev part : ℕ → Text → Text
part k t = take (length t - k) (drop k t)

part-is : (k : ℕ) (t : Text) → part k t ≡ drop k t
part-is k t = ap (λ n. take n (drop k t)) (sym (length-drop k t)) ∙ take-length (drop k t)

-- Where tokens are left the first is free.
pub first_is_free : (n : ℕ) (t all : Text) → 0 < n → GoesOn n t all → is_free_for 1 (lexed t) ≡ true
first_is_free zero t all a g = absurd (omega arith)
first_is_free (suc n) t all a g = free_first n (lexed t) g.free

-- White space at the front.
pub past_white : (n : ℕ) (t all : Text) → 0 < n → is_white (slice_index t 0) ≡ true → GoesOn n t all → GoesOn n (part 1 t) all
past_white zero t all a w g = absurd (omega arith)
past_white (suc n) [] all a w g = cc
past_white (suc n) (b ∷ bs) all a w g =
    subst (λ s. GoesOn (suc n) s all) (sym (part-is 1 (b ∷ bs))) (record { same = sym (behind-white n b bs w) ∙ g.same; free = free_white (suc n) b bs w g.free })

-- A comment at the front.
pub past_comment : (n : ℕ) (t : Text) (k : ℕ) (all : Text) → 0 < n → slice_index t 0 ≡ 36 → k ≡ comment_length t → GoesOn n t all → GoesOn n (part k t) all
past_comment zero t k all a w e g = absurd (omega arith)
past_comment (suc n) [] k all a w e g = absurd (omega (arith, w))
past_comment (suc n) (b ∷ bs) k all a w e g =
    subst (λ s. GoesOn (suc n) s all) (sym (part-is k (b ∷ bs)))
    (subst (λ i. GoesOn (suc n) (drop i (b ∷ bs)) all) (sym e)
    (subst (λ c. GoesOn (suc n) (c ∷ bs) all → GoesOn (suc n) (drop (comment_length (c ∷ bs)) (c ∷ bs)) all) (sym w) (go bs) g))
  where
    go : (bs : Text) → GoesOn (suc n) (36 ∷ bs) all → GoesOn (suc n) (drop (comment_length (36 ∷ bs)) (36 ∷ bs)) all
    go bs g = record { same = sym (behind-comment n bs) ∙ g.same; free = free_comment (suc n) bs g.free }

-- A token at the front.
pub past_token : (n : ℕ) (t : Text) (k : ℕ) (all : Text) → 0 < n → FrontToken t k → GoesOn n t all → GoesOn (n - 1) (part k t) all
past_token zero t k all a f g = absurd (omega arith)
past_token (suc n) [] k all a f g = absurd (omega (arith, (f.plain).0))
past_token (suc n) (c ∷ bs) k all a f g =
    let e : suc n - 1 ≡ n = omega arith in
    subst (λ s. GoesOn (suc n - 1) s all) (sym (part-is k (c ∷ bs)))
    (subst (λ m. GoesOn m (drop k (c ∷ bs)) all) (sym e)
    (record { same = sym (behind-token n c bs f.token k (((f.plain).1).0) (((f.plain).1).1) f.longest) ∙ g.same; free = f.free n g.free }))

-- At the end.
pub at_end : (n : ℕ) (t all : Text) → length t ≡ 0 → GoesOn n t all → t ≡ all
at_end zero t all e g = g.same
at_end (suc n) [] all e g = g.same
at_end (suc n) (b ∷ bs) all e g = cc
