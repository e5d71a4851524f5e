-- Where a text is cut.
use Rattle.std.proofs.Common.{◌≡◌, refl, sym, ap, ◌∙◌, ℕ, suc, Bool, true, false, List, [], ◌∷◌, ◌++◌, map, length, take, drop, Option, Some, None, arith, append_assoc, Bor}
use Rattle.std.specs.Prelude.{if◌then◌else◌, nat_eq, option_map}
use Rattle.std.proofs.lemmas.List.{map-append}
use Rattle.ess_semantics.specs.Values.{Text}
use Rattle.conjure_options.specs.Pieces.{run_to, onto_front, cut, onto_first, pieces}

-- what stands behind the first byte
abbrev pub behind_of : Text → Option Text
behind_of [] = None
behind_of (b ∷ text) = Some text

cut-is : (c : ℕ) (text : Text) → cut c text ≡ (take (run_to c text) text, behind_of (drop (run_to c text) text))
cut-is c [] = refl
cut-is c (b ∷ text) = step (nat_eq b c) (cut-is c text)
  where
    step : (same : Bool) → cut c text ≡ (take (run_to c text) text, behind_of (drop (run_to c text) text))
        → (if same then ([], Some text) else onto_front b (cut c text))
        ≡ (take (if same then 0 else suc (run_to c text)) (b ∷ text), behind_of (drop (if same then 0 else suc (run_to c text)) (b ∷ text)))
    step true h = refl
    step false h = ap (onto_front b) h

-- Nothing stands behind.
pub cut_last : (c n : ℕ) (text front rest : Text) → n ≡ run_to c text → front ≡ take n text → rest ≡ drop n text → length rest ≡ 0
    → (front, None) ≡ cut c text
cut_last c n text front rest is fronts rests none =
    ap (λ f. (f, None)) (fronts ∙ ap (λ k. take k text) is)
    ∙ ap (λ o. (take (run_to c text) text, o)) (sym (nothing rest none) ∙ ap behind_of (rests ∙ ap (λ k. drop k text) is))
    ∙ sym (cut-is c text)
  where
    nothing : (rest : Text) → length rest ≡ 0 → behind_of rest ≡ None
    nothing [] h = refl
    nothing (b ∷ rest) h = absurd (omega arith)

-- Something stands behind.
pub cut_found : (c n b : ℕ) (text front rest more : Text) → n ≡ run_to c text → front ≡ take n text → rest ≡ drop n text → rest ≡ b ∷ more
    → (front, Some more) ≡ cut c text
cut_found c n b text front rest more is fronts rests found =
    ap (λ f. (f, Some more)) (fronts ∙ ap (λ k. take k text) is)
    ∙ ap (λ o. (take (run_to c text) text, o)) (sym (ap behind_of found) ∙ ap behind_of (rests ∙ ap (λ k. drop k text) is))
    ∙ sym (cut-is c text)

-- where nothing is cut off, all stands before
uncut : (c : ℕ) (text : Text) → (cut c text).1 ≡ None → (cut c text).0 ≡ text
uncut c [] h = refl
uncut c (b ∷ text) h = step (nat_eq b c) (uncut c text) h
  where
    step : (same : Bool) → ((cut c text).1 ≡ None → (cut c text).0 ≡ text)
        → (if same then ([], Some text) else onto_front b (cut c text)).1 ≡ None
        → (if same then ([], Some text) else onto_front b (cut c text)).0 ≡ b ∷ text
    step true rest h = let k : Some text ≡ None = h in cc
    step false rest h = ap (λ t. b ∷ t) (rest h)

-- ---- pieces

pieces-last : (c : ℕ) (text : Text) → (cut c text).1 ≡ None → pieces c text ≡ text ∷ []
pieces-last c [] h = refl
pieces-last c (b ∷ text) h = step (nat_eq b c) (pieces-last c text) h
  where
    step : (same : Bool) → ((cut c text).1 ≡ None → pieces c text ≡ text ∷ [])
        → (if same then ([], Some text) else onto_front b (cut c text)).1 ≡ None
        → (if same then [] ∷ pieces c text else onto_first b (pieces c text)) ≡ (b ∷ text) ∷ []
    step true rest h = let k : Some text ≡ None = h in cc
    step false rest h = ap (onto_first b) (rest h)

pieces-more : (c : ℕ) (text more : Text) → (cut c text).1 ≡ Some more → pieces c text ≡ (cut c text).0 ∷ pieces c more
pieces-more c [] more h = let k : None ≡ Some more = h in cc
pieces-more c (b ∷ text) more h = step (nat_eq b c) (pieces-more c text more) h
  where
    step : (same : Bool) → ((cut c text).1 ≡ Some more → pieces c text ≡ (cut c text).0 ∷ pieces c more)
        → (if same then ([], Some text) else onto_front b (cut c text)).1 ≡ Some more
        → (if same then [] ∷ pieces c text else onto_first b (pieces c text))
        ≡ (if same then ([], Some text) else onto_front b (cut c text)).0 ∷ pieces c more
    step true rest h = let k : Some text ≡ Some more = h in let e : text ≡ more = some-is k in ap (λ t. [] ∷ pieces c t) e
      where
        some-is : {x y : Text} → Some x ≡ Some y → x ≡ y
        some-is h = cc
    step false rest h = ap (onto_first b) (rest h)

-- the pieces that are found, before those of what is left
abbrev pub with_rest : List (Bor Text) → List Text → List Text
with_rest ps rest = map (λ p. p.now) ps ++ rest

-- The pieces of what is left behind a cut, if anything is.
abbrev pub left_pieces : ℕ → Option (Bor Text) → List Text
left_pieces c None = []
left_pieces c (Some r) = pieces c r.now

-- How long it is.
abbrev pub left_length : Option (Bor Text) → ℕ
left_length None = 0
left_length (Some r) = suc (length r.now)

-- what is cut off a text is its first piece
cut-piece : (c : ℕ) (text piece : Text) (left : Option (Bor Text)) → (piece, option_map (λ r. r.now) left) ≡ cut c text
    → piece ∷ left_pieces c left ≡ pieces c text
cut-piece c text piece None is = ap (λ q. q.0 ∷ []) is ∙ whole ∙ sym (pieces-last c text (sym (ap (λ q. q.1) is)))
  where
    whole : (cut c text).0 ∷ [] ≡ text ∷ []
    whole = ap (λ t. t ∷ []) (uncut c text (sym (ap (λ q. q.1) is)))
cut-piece c text piece (Some r) is =
    ap (λ q. q.0 ∷ pieces c r.now) is ∙ sym (pieces-more c text r.now (sym (ap (λ q. q.1) is)))

-- What is cut off first, with the pieces of what is left behind it, are the pieces of the text.
pub pieces_none : (c : ℕ) (text piece : Text) (left : Option (Bor Text)) (found : List (Bor Text)) → found ≡ []
    → (piece, option_map (λ r. r.now) left) ≡ cut c text → with_rest found (piece ∷ left_pieces c left) ≡ pieces c text
pieces_none c text piece left found none is = ap (λ f. with_rest f (piece ∷ left_pieces c left)) none ∙ cut-piece c text piece left is

-- A piece that is found, and the next cut: the pieces that are found and those of what is left stay all pieces.
pub pieces_more : (c : ℕ) (found next : List (Bor Text)) (piece : Bor Text) (rest after : Text) (left : Option (Bor Text)) (all : List Text)
    → (after, option_map (λ r. r.now) left) ≡ cut c rest → next ≡ found ++ piece ∷ []
    → with_rest found (piece.now ∷ pieces c rest) ≡ all → with_rest next (after ∷ left_pieces c left) ≡ all
pieces_more c found next piece rest after left all is adds h =
    ap (λ l. with_rest l (after ∷ left_pieces c left)) adds
    ∙ ap (λ l. l ++ after ∷ left_pieces c left) (map-append (λ p. p.now) found (piece ∷ []))
    ∙ append_assoc (map (λ p. p.now) found) (piece.now ∷ []) (after ∷ left_pieces c left)
    ∙ ap (λ l. with_rest found (piece.now ∷ l)) (cut-piece c rest after left is)
    ∙ h

-- Where nothing is left, the last piece completes them.
pub pieces_all : (found next : List (Bor Text)) (piece : Bor Text) (all : List Text) → next ≡ found ++ piece ∷ []
    → with_rest found (piece.now ∷ []) ≡ all → map (λ p. p.now) next ≡ all
pieces_all found next piece all adds h = ap (map (λ p. p.now)) adds ∙ map-append (λ p. p.now) found (piece ∷ []) ∙ h
