-- The names of the values of an unnamed type.
use Rattle.std.proofs.Common.{◌≡◌, refl, ap, sym, ◌∙◌, ℕ, zero, suc, ◌+◌, ◌-◌, ◌<◌, ◌≤◌, ◌^◌, Bool, true, false, ◌&&◌, ◌||◌, List, [], ◌∷◌, ◌++◌, drop, get_or, length, Some, None, codes, arith}
use Rattle.std.specs.Prelude.{◌≢◌}
use Rattle.std.specs.Fmt.{decimal}
use Rattle.std.specs.Ordering.{is_eq, ordering_then}
use Rattle.std.specs.declared.cmp.Ordering.{Ordering}
use Rattle.std.specs.declared.cmp.Ordering.TheVariants.{Less, Equal, Greater}
use Rattle.std.proofs.lemmas.Bool.{false≢true}
use Rattle.std.proofs.lemmas.List.{drop_all, drop_at, at_drop_more}
use Rattle.ess_semantics.specs.Values.{Text}
use Rattle.ess_semantics.specs.Order.{same_text, same_texts, order_text, order_texts}
use Rattle.ess_semantics.specs.Names.{is_among}
use Rattle.ess_semantics.specs.Assignments.{unnamed_name, unnamed_names, are_unnamed_names}
use Rattle.ess_semantics.proofs.Texts.{same_text-equal, same_text-itself}

-- ---- one name

-- What a name among them says: it is that of a position.
abbrev HasPosition : Text → ℕ → ℕ → Text → Type 0
HasPosition t k n x = (j : ℕ) × (k ≤ j) × (j < k + n) × (x ≡ unnamed_name t j)

found_at : (t : Text) (k n : ℕ) (x : Text) (b c : Bool) → same_text (unnamed_name t k) x ≡ b → b || c ≡ true → (c ≡ true → HasPosition t (suc k) n x)
    → HasPosition t k (suc n) x
found_at t k n x true c e h go = (k, omega arith, omega arith, sym (same_text-equal (unnamed_name t k) x e))
found_at t k n x false c e h go = let r = go h in (r.0, omega (arith, r.1), omega (arith, r.2), r.3)

-- A name among them is one of a position.
among-at : (t : Text) (k n : ℕ) (x : Text) → is_among (unnamed_names t k n) x ≡ true → HasPosition t k n x
among-at t k zero x h = absurd (false≢true h)
among-at t k (suc n) x h = found_at t k n x (same_text (unnamed_name t k) x) (is_among (unnamed_names t (suc k) n) x) refl h (among-at t (suc k) n x)

differ : (t : Text) (k j : ℕ) → same_text (unnamed_name t k) (unnamed_name t j) ≡ false → k ≢ j
differ t k j e q = false≢true (sym e ∙ ap (λ m. same_text (unnamed_name t k) (unnamed_name t m)) (sym q) ∙ same_text-itself (unnamed_name t k))

later : (t : Text) (k j : ℕ) (b c : Bool) → same_text (unnamed_name t k) (unnamed_name t j) ≡ b → (k ≢ j → c ≡ true) → b || c ≡ true
later t k j true c e go = refl
later t k j false c e go = go (differ t k j e)

-- The name of a position is among them.
at-among : (t : Text) (k n j : ℕ) → k ≤ j → j < k + n → is_among (unnamed_names t k n) (unnamed_name t j) ≡ true
at-among t k zero j l h = absurd (omega (arith, l, h))
at-among t k (suc n) j l h =
    later t k j (same_text (unnamed_name t k) (unnamed_name t j)) (is_among (unnamed_names t (suc k) n) (unnamed_name t j)) refl
    (λ d. at-among t (suc k) n j (omega (arith, l, d)) (omega (arith, h)))

of_some : (a b : ℕ) → Some a ≡ Some b → a ≡ b
of_some a b h = cc

-- The number behind the prefix is k, which is a position: the name is one of them where it is that of k.
pub value_there : (t p q x : Text) (n k : ℕ) → p ≡ t ++ codes "_" → q ≡ p ++ decimal k
    → ((j : ℕ) → j < 2 ^ 64 → x ≡ p ++ decimal j → Some k ≡ Some j) → n < 2 ^ 64 → 1 ≤ k → k ≤ n
    → same_text q x ≡ is_among (unnamed_names t 1 n) x
value_there t p q x n k is end found small low high = go (same_text q x) (is_among (unnamed_names t 1 n) x) refl refl
  where
    named : q ≡ unnamed_name t k
    named = end ∙ ap (λ r. r ++ decimal k) is

    go : (b c : Bool) → same_text q x ≡ b → is_among (unnamed_names t 1 n) x ≡ c → b ≡ c
    go true true e f = refl
    go false false e f = refl
    go true false e f =
        sym (sym f ∙ ap (is_among (unnamed_names t 1 n)) (sym (same_text-equal q x e) ∙ named) ∙ at-among t 1 n k low (omega (arith, high)))
    go false true e f =
        let r = among-at t 1 n x f in
        let there : x ≡ p ++ decimal r.0 = r.3 ∙ ap (λ z. z ++ decimal r.0) (sym is) in
        let same : k ≡ r.0 = of_some k r.0 (found r.0 (omega (arith, r.2, small)) there) in
        sym e ∙ ap (λ z. same_text z x) end ∙ ap (λ m. same_text (p ++ decimal m) x) same
        ∙ ap (same_text (p ++ decimal r.0)) there ∙ same_text-itself (p ++ decimal r.0)

-- Nothing is spelled behind the prefix: the name is none of them.
pub nothing_there : (t p x : Text) (n : ℕ) → p ≡ t ++ codes "_" → ((j : ℕ) → j < 2 ^ 64 → x ≡ p ++ decimal j → None ≡ Some j) → n < 2 ^ 64
    → is_among (unnamed_names t 1 n) x ≡ false
nothing_there t p x n is found small = go (is_among (unnamed_names t 1 n) x) refl
  where
    go : (c : Bool) → is_among (unnamed_names t 1 n) x ≡ c → c ≡ false
    go false f = refl
    go true f =
        let r = among-at t 1 n x f in
        let there : x ≡ p ++ decimal r.0 = r.3 ∙ ap (λ z. z ++ decimal r.0) (sym is) in
        let no : None ≡ Some r.0 = found r.0 (omega (arith, r.2, small)) there in
        cc

-- The number there is no position: the name is none of them.
others_there : (t p x : Text) (n k : ℕ) → p ≡ t ++ codes "_" → ((j : ℕ) → j < 2 ^ 64 → x ≡ p ++ decimal j → Some k ≡ Some j) → n < 2 ^ 64
    → (1 ≤ k → k ≤ n → ⊥) → is_among (unnamed_names t 1 n) x ≡ false
others_there t p x n k is found small out = go (is_among (unnamed_names t 1 n) x) refl
  where
    go : (c : Bool) → is_among (unnamed_names t 1 n) x ≡ c → c ≡ false
    go false f = refl
    go true f =
        let r = among-at t 1 n x f in
        let there : x ≡ p ++ decimal r.0 = r.3 ∙ ap (λ z. z ++ decimal r.0) (sym is) in
        let same : k ≡ r.0 = of_some k r.0 (found r.0 (omega (arith, r.2, small)) there) in
        absurd (out (omega (arith, same, r.1)) (omega (arith, same, r.2)))

-- The number there is 0.
pub zero_there : (t p x : Text) (n k : ℕ) → p ≡ t ++ codes "_" → ((j : ℕ) → j < 2 ^ 64 → x ≡ p ++ decimal j → Some k ≡ Some j) → n < 2 ^ 64
    → k < 1 → is_among (unnamed_names t 1 n) x ≡ false
zero_there t p x n k is found small out = others_there t p x n k is found small (λ l h. omega (arith, l, out))

-- The number there is above the size.
pub above_there : (t p x : Text) (n k : ℕ) → p ≡ t ++ codes "_" → ((j : ℕ) → j < 2 ^ 64 → x ≡ p ++ decimal j → Some k ≡ Some j) → n < 2 ^ 64
    → n < k → is_among (unnamed_names t 1 n) x ≡ false
above_there t p x n k is found small out = others_there t p x n k is found small (λ l h. omega (arith, h, out))

-- ---- all names

is_eq-then : (o q : Ordering) → is_eq (ordering_then o q) ≡ is_eq o && is_eq q
is_eq-then Less q = refl
is_eq-then Equal q = refl
is_eq-then Greater q = refl

and-no : (b : Bool) → b && false ≡ false
and-no true = refl
and-no false = refl

-- Lists of different lengths differ.
apart : (t : Text) (k n : ℕ) (ns : List Text) → length ns ≢ n → same_texts ns (unnamed_names t k n) ≡ false
apart t k zero [] h = absurd (h refl)
apart t k (suc n) [] h = refl
apart t k zero (a ∷ ns) h = refl
apart t k (suc n) (a ∷ ns) h =
    is_eq-then (order_text a (unnamed_name t k)) (order_texts ns (unnamed_names t (suc k) n))
    ∙ ap (λ b. same_text a (unnamed_name t k) && b) (apart t (suc k) n ns (λ e. h (ap suc e))) ∙ and-no (same_text a (unnamed_name t k))

-- So another number of names is not all of them.
pub lengths_differ : (t : Text) (n : ℕ) (ns : List Text) → length ns ≢ n → are_unnamed_names t n ns ≡ false
lengths_differ t n ns h = apart t 1 n ns h

add-one : (n : ℕ) → suc n ≡ n + 1
add-one n = omega arith

-- The next name is the next of them, and so are those behind it.
next_spelled : (t : Text) (ns : List Text) (i m : ℕ) (a : Text) → i < length ns → a ≡ get_or ns i a → length ns - i ≡ m → m ≡ suc (length ns - (i + 1))
    → same_texts (drop i ns) (unnamed_names t (suc i) m) ≡ same_text a (unnamed_name t (suc i)) && same_texts (drop (i + 1) ns) (unnamed_names t (suc (suc i)) (length ns - (i + 1)))
next_spelled t ns i m a l g e f =
    ap (λ z. same_texts (drop i ns) (unnamed_names t (suc i) z)) f
    ∙ at_drop_more (λ xs. same_texts xs (unnamed_names t (suc i) (suc (length ns - (i + 1))))) ns i a l
    ∙ ap (λ x. same_texts (x ∷ drop (i + 1) ns) (unnamed_names t (suc i) (suc (length ns - (i + 1))))) (sym g)
    ∙ is_eq-then (order_text a (unnamed_name t (suc i))) (order_texts (drop (i + 1) ns) (unnamed_names t (suc (suc i)) (length ns - (i + 1))))

-- The next name is another.
pub spelled_otherwise : (t : Text) (ns : List Text) (i : ℕ) (a b : Text) → i < length ns → a ≡ get_or ns i a → b ≡ unnamed_name t (i + 1) → same_text a b ≡ false
    → same_texts (drop i ns) (unnamed_names t (suc i) (length ns - i)) ≡ false
spelled_otherwise t ns i a b l g is h =
    next_spelled t ns i (length ns - i) a l g refl (omega (arith, l))
    ∙ ap (λ c. c && same_texts (drop (i + 1) ns) (unnamed_names t (suc (suc i)) (length ns - (i + 1))))
    (ap (λ k. same_text a (unnamed_name t k)) (add-one i) ∙ ap (same_text a) (sym is) ∙ h)

-- It is the one.
pub spelled_on : (t : Text) (ns : List Text) (i : ℕ) (a b : Text) → i < length ns → a ≡ get_or ns i a → b ≡ unnamed_name t (i + 1) → same_text a b ≡ true
    → same_texts (drop i ns) (unnamed_names t (suc i) (length ns - i)) ≡ same_texts (drop (i + 1) ns) (unnamed_names t (suc (i + 1)) (length ns - (i + 1)))
spelled_on t ns i a b l g is h =
    next_spelled t ns i (length ns - i) a l g refl (omega (arith, l))
    ∙ ap (λ c. c && same_texts (drop (i + 1) ns) (unnamed_names t (suc (suc i)) (length ns - (i + 1))))
    (ap (λ k. same_text a (unnamed_name t k)) (add-one i) ∙ ap (same_text a) (sym is) ∙ h)
    ∙ ap (λ k. same_texts (drop (i + 1) ns) (unnamed_names t (suc k) (length ns - (i + 1)))) (add-one i)

-- No name is left.
pub spelled_all : (t : Text) (ns : List Text) (i : ℕ) → length ns ≤ i → same_texts (drop i ns) (unnamed_names t (suc i) (length ns - i)) ≡ true
spelled_all t ns i l =
    ap (λ xs. same_texts xs (unnamed_names t (suc i) (length ns - i))) (drop_all i ns l)
    ∙ ap (λ m. same_texts [] (unnamed_names t (suc i) m)) (let e : length ns - i ≡ 0 = omega (arith, l) in e)

-- Names that are compared one by one.
pub ruleset all_spelled = (lengths_differ, spelled_otherwise, spelled_on, spelled_all)

-- ---- the digits behind a prefix

-- What is left of a name behind its prefix is what was put there.
pub digits_read : (p q x y ds : Text) (n k : ℕ) → q ≡ p → y ≡ x → n ≡ length q → ds ≡ drop n y → x ≡ p ++ decimal k → ds ≡ decimal k
digits_read p q x y ds n k a b l d e =
    d ∙ ap (drop n) (b ∙ e) ∙ drop_at p (decimal k) n (sym (l ∙ ap length a))
