-- Texts that grow by printed pieces: one part behind another, and the items of a list from the first to the last.
use Rattle.std.proofs.Common.{◌≡◌, refl, sym, ap, ◌∙◌, subst, ℕ, zero, suc, Bool, true, false, List, [], ◌∷◌, ◌++◌, ◌+◌, ◌<◌, ◌≤◌, length, drop, get_or, arith}
use Rattle.std.specs.Prelude.{◌==◌}
use Rattle.std.proofs.lemmas.List.{append_assoc, append-nil, at_drop_more}
use Rattle.std.proofs.Math.ListN.{drop_of_length-le}
use Rattle.ess_semantics.specs.Values.{Text}
use Rattle.ess_print_laws.specs.Pieces.{Piece, piece_text, text_of, Printer, listed}
use Rattle.ess_print_laws.specs.Parts.{comma_space, comma_before, commas, times}
use Rattle.ess_print.specs.Written.{Puts, PutsBetween, times_before}

text-append : (ps us : List Piece) → text_of (ps ++ us) ≡ text_of ps ++ text_of us
text-append [] us = refl
text-append (p ∷ ps) us = ap (λ t. piece_text p ++ t) (text-append ps us) ∙ sym (append_assoc (piece_text p) (text_of ps) (text_of us))

-- ---- one part behind another

-- the text of some pieces
pub puts-pieces : {a b : Text} (ps : List Piece) → b ≡ a ++ text_of ps → Puts a b (λ us. ps ++ us)
puts-pieces {a} {b} ps h = record {
  same = λ us. ap (λ t. t ++ text_of us) h ∙ append_assoc a (text_of ps) (text_of us) ∙ ap (λ t. a ++ t) (sym (text-append ps us));
}

-- the same, where the text has a name
pub puts-text : {a b s : Text} (ps : List Piece) → b ≡ a ++ s → s ≡ text_of ps → Puts a b (λ us. ps ++ us)
puts-text {a} ps f e = puts-pieces ps (f ∙ ap (λ t. a ++ t) e)

-- as these pieces, which are the same
pub puts-as : {a b : Text} {p : Printer} (q : Printer) → ((us : List Piece) → p us ≡ q us) → Puts a b p → Puts a b q
puts-as {a} {b} {p} q e h = record { same = λ us. h.same us ∙ ap (λ vs. a ++ text_of vs) (e us) }

-- as a part that is equal has them
pub puts-at : {A : Type 0} (of : A → Printer) {x y : A} {a b : Text} → x ≡ y → Puts a b (of x) → Puts a b (of y)
puts-at {A} of {x} {y} {a} {b} e h = let P : A → Type 0 = λ z. Puts a b (of z) in subst P e h

pub puts-then : {a b c : Text} {p q : Printer} → Puts a b p → Puts b c q → Puts a c (λ us. p (q us))
puts-then {a} {b} {c} {p} {q} f g = record { same = λ us. g.same us ∙ f.same (q us) }

-- the whole of a text that begins empty
pub puts-all : {a b : Text} {p : Printer} → a ≡ [] → Puts a b p → b ≡ text_of (p [])
puts-all {a} {b} {p} e h = sym (append-nil b) ∙ h.same [] ∙ ap (λ t. t ++ text_of (p [])) e

-- between two texts of pieces
pub puts-between : {a s r b : Text} {p : Printer} (before : List Piece) (close : Piece) → s ≡ text_of before → r ≡ piece_text close → PutsBetween a s p r b
    → Puts a b (λ us. before ++ p (close ∷ us))
puts-between {a} {s} {r} {b} {p} before close f g h = record {
  same = λ us. h.same close us g ∙ ap (λ t. (a ++ t) ++ text_of (p (close ∷ us))) f ∙ append_assoc a (text_of before) (text_of (p (close ∷ us)))
      ∙ ap (λ t. a ++ t) (sym (text-append before (p (close ∷ us))));
}

pub between-puts : {a s r b c d : Text} {p : Printer} → b ≡ a ++ s → Puts b c p → d ≡ c ++ r → PutsBetween a s p r d
between-puts {a} {s} {r} {b} {c} {d} {p} f h g = record {
  same = λ close us e. ap (λ t. t ++ text_of us) (g ∙ ap (λ t. c ++ t) e) ∙ append_assoc c (piece_text close) (text_of us) ∙ h.same (close ∷ us)
      ∙ ap (λ t. t ++ text_of (p (close ∷ us))) f;
}

-- ---- the items of a list

-- What is still to be written behind the first i items.
abbrev pub rest : Printer → ℕ → List Printer → Printer
rest between zero ps us = listed between ps us
rest between (suc i) [] us = us
rest between (suc i) (p ∷ ps) us = between (listed between (p ∷ ps) us)

-- The text b is the text a with the first i of all items behind it, where these are left.
pub record Writing (between : Printer) (a b : Text) (i : ℕ) (all left : List Printer) : Type 0 where
  pub same : (us : List Piece) → b ++ text_of (rest between i left us) ≡ a ++ text_of (listed between all us)

pub begins-writing : (between : Printer) (a : Text) (ps : List Printer) → Writing between a a 0 ps ps
begins-writing between a ps = record { same = λ us. refl }

-- the same under equal names
pub writing-as : {between : Printer} {a b b' : Text} {i j : ℕ} {all left left' : List Printer} → b' ≡ b → j ≡ i → left ≡ left' → Writing between a b i all left → Writing between a b' j all left'
writing-as {between} {a} {b} {b'} {i} {j} {all} {left} {left'} e f g w =
    let P : Text → Type 0 = λ t. Writing between a t i all left in
    let Q : ℕ → Type 0 = λ k. Writing between a b' k all left in
    let R : List Printer → Type 0 = λ ps. Writing between a b' j all ps in
    subst R g (subst Q (sym f) (subst P (sym e) w))

rest-none : (between : Printer) (i : ℕ) (us : List Piece) → us ≡ rest between i [] us
rest-none between zero us = refl
rest-none between (suc i) us = refl

pub ends-writing : {between : Printer} {a b : Text} {i : ℕ} {all : List Printer} → Writing between a b i all [] → Puts a b (listed between all)
ends-writing {between} {a} {b} {i} {all} h = record { same = λ us. ap (λ vs. b ++ text_of vs) (rest-none between i us) ∙ h.same us }

-- The text s separates the next item.
Separates : Printer → ℕ → Text → Type 0
Separates between i s = (p : Printer) (ps : List Printer) (us : List Piece) → text_of (rest between i (p ∷ ps) us) ≡ s ++ text_of (p (rest between (suc i) ps us))

writes-next : {between : Printer} {a t0 t1 t2 : Text} {i : ℕ} {all left : List Printer} {p : Printer} (s : Text) → Separates between i s → Writing between a t0 i all (p ∷ left) →
    t1 ≡ t0 ++ s → Puts t1 t2 p → Writing between a t2 (suc i) all left
unfolding Separates
writes-next {between} {a} {t0} {t1} {t2} {i} {all} {left} {p} s step w h g = record {
  same = λ us. g.same (rest between (suc i) left us) ∙ ap (λ t. t ++ text_of (p (rest between (suc i) left us))) h
      ∙ append_assoc t0 s (text_of (p (rest between (suc i) left us))) ∙ ap (λ t. t0 ++ t) (sym (step p left us)) ∙ w.same us;
}

comma-separates : (i : ℕ) → Separates comma_space i (comma_before i)
unfolding Separates
comma-separates zero p [] us = refl
comma-separates zero p (q ∷ qs) us = refl
comma-separates (suc i) p [] us = refl
comma-separates (suc i) p (q ∷ qs) us = refl

times-separates : (i : ℕ) → Separates times i (times_before i)
unfolding Separates
times-separates zero p [] us = refl
times-separates zero p (q ∷ qs) us = refl
times-separates (suc i) p [] us = refl
times-separates (suc i) p (q ∷ qs) us = refl

pub comma-next : {a t0 t1 t2 : Text} {i : ℕ} {all left : List Printer} {p : Printer} → Writing comma_space a t0 i all (p ∷ left) → t1 ≡ t0 ++ comma_before i → Puts t1 t2 p →
    Writing comma_space a t2 (suc i) all left
comma-next {i = i} w h g = writes-next (comma_before i) (comma-separates i) w h g

pub times-next : {a t0 t1 t2 : Text} {i : ℕ} {all left : List Printer} {p : Printer} → Writing times a t0 i all (p ∷ left) → t1 ≡ t0 ++ times_before i → Puts t1 t2 p →
    Writing times a t2 (suc i) all left
times-next {i = i} w h g = writes-next (times_before i) (times-separates i) w h g

-- ---- a list that is gone through

-- a list that isn't empty
pub not-empty : {A : Type 0} (xs : List A) → false ≡ (length xs == 0) → xs ≡ [] → ⊥
not-empty [] h e = let no : false ≡ true = h in cc
not-empty (x ∷ xs) h e = cc

-- The printers of a list are those of its items.
pub record ByItem {A : Type 0} (printers : List A → List Printer) (of : A → Printer) : Type 0 where
  pub none : printers [] ≡ []
  pub more : (x : A) (xs : List A) → printers (x ∷ xs) ≡ of x ∷ printers xs

next-printer : {A : Type 0} {printers : List A → List Printer} {of : A → Printer} → ByItem printers of → (xs : List A) (i : ℕ) (x : A) → i < length xs → x ≡ get_or xs i x →
    printers (drop i xs) ≡ of x ∷ printers (drop (i + 1) xs)
next-printer {A} {printers} {of} by xs i x lt is =
    at_drop_more printers xs i x lt ∙ ap (λ y. printers (y ∷ drop (i + 1) xs)) (sym is) ∙ by.more x (drop (i + 1) xs)

-- one more item, where the printers of what is left begin with its own
pub comma-passed : {a t0 t1 t2 : Text} {all left later : List Printer} {p : Printer} (i : ℕ) → left ≡ p ∷ later → Writing comma_space a t0 i all left → t1 ≡ t0 ++ comma_before i →
    Puts t1 t2 p → Writing comma_space a t2 (i + 1) all later
comma-passed {a} {t0} {t1} {t2} {all} {left} {later} {p} i is w h g =
    let next : suc i ≡ i + 1 = omega arith in
    let P : List Printer → Type 0 = λ ps. Writing comma_space a t0 i all ps in
    let Q : ℕ → Type 0 = λ j. Writing comma_space a t2 j all later in
    subst Q next (comma-next (subst P is w) h g)

pub comma-item : {A : Type 0} {printers : List A → List Printer} {of : A → Printer} → ByItem printers of → (xs : List A) (i : ℕ) (x : A) {a t0 t1 t2 : Text} → i < length xs → x ≡ get_or xs i x →
    Writing comma_space a t0 i (printers xs) (printers (drop i xs)) → t1 ≡ t0 ++ comma_before i → Puts t1 t2 (of x) →
    Writing comma_space a t2 (i + 1) (printers xs) (printers (drop (i + 1) xs))
comma-item by xs i x lt is w h g = comma-passed i (next-printer by xs i x lt is) w h g

pub times-item : {A : Type 0} {printers : List A → List Printer} {of : A → Printer} → ByItem printers of → (xs : List A) (i : ℕ) (x : A) {a t0 t1 t2 : Text} → i < length xs → x ≡ get_or xs i x →
    Writing times a t0 i (printers xs) (printers (drop i xs)) → t1 ≡ t0 ++ times_before i → Puts t1 t2 (of x) →
    Writing times a t2 (i + 1) (printers xs) (printers (drop (i + 1) xs))
times-item {A} {printers} {of} by xs i x {a} {t0} {t1} {t2} lt is w h g =
    let next : suc i ≡ i + 1 = omega arith in
    let P : List Printer → Type 0 = λ left. Writing times a t0 i (printers xs) left in
    let Q : ℕ → Type 0 = λ j. Writing times a t2 j (printers xs) (printers (drop (i + 1) xs)) in
    subst Q next (times-next (subst P (next-printer by xs i x lt is) w) h g)

pub items-end : {A : Type 0} {printers : List A → List Printer} {of : A → Printer} {between : Printer} → ByItem printers of → (xs : List A) (i : ℕ) {a b : Text} → length xs ≤ i →
    Writing between a b i (printers xs) (printers (drop i xs)) → Puts a b (listed between (printers xs))
items-end {A} {printers} {of} {between} by xs i {a} {b} ge w =
    let P : List Printer → Type 0 = λ left. Writing between a b i (printers xs) left in
    ends-writing (subst P (ap printers (drop_of_length-le xs ge) ∙ by.none) w)
