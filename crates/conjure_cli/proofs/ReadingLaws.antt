-- What is read is in the small grammar, and what is in the small grammar is read.
use Rattle.std.proofs.Common.{◌≡◌, refl, sym, ap, ◌∙◌, subst, ℕ, suc, ◌<◌, ◌^◌, Bool, true, false, not, ◌&&◌, List, [], ◌∷◌, ◌++◌, length, take, drop, Option, Some, None, append-nil, arith, nat_eq, eq-eqb, ◌||◌}
use Rattle.std.proofs.Math.Seq.{take-append_seam, drop-append_seam}
use Rattle.std.specs.Prelude.{if◌then◌else◌, codes, nat_le}
use Rattle.std.specs.List.{list_all}
use Rattle.std.proofs.lemmas.List.{take-append-drop}
use borrow.Author.Tests.{eqb-true}
use Rattle.conjure_cli_laws.specs.SmallGrammar.{Statement, find, such_that, is_name, is_name_byte, is_letter, is_digit, is_number, value_from, IsNumeral, SaysFind, SaysSuchThat, Says, SayEach}
use Rattle.conjure_cli.specs.Reading.{run_len, behind, name_at, number_at, number_from, find_at, such_that_at, otherwise, line_at, at_end, read_lines, ◌>>=◌}

-- ---- steps that may fail

-- a step that was made, and what it gave
bound : {A B : Type 0} (o : Option A) (f : A → Option B) (y : B) → (o >>= f) ≡ Some y → (x : A) × (o ≡ Some x) × (f x ≡ Some y)
bound None f y h = cc
bound (Some x) f y h = (x, refl, h)

-- a test that was passed
passed : {A : Type 0} (test : Bool) (x y : A) → (if test then Some x else None) ≡ Some y → (test ≡ true) × (x ≡ y)
passed true x y h = (refl, cc)
passed false x y h = cc

pub both : (a b : Bool) → (a && b) ≡ true → (a ≡ true) × (b ≡ true)
both true b h = (refl, h)
both false b h = cc

pub untrue : (b : Bool) → not b ≡ true → b ≡ false
untrue true h = cc
untrue false h = refl

-- ---- pieces

-- the piece is at the front, and the rest behind it
behind-found : (piece bytes rest : List ℕ) → behind piece bytes ≡ Some rest → bytes ≡ piece ++ rest
behind-found [] bytes rest h = cc
behind-found (c ∷ piece) [] rest h = cc
behind-found (c ∷ piece) (b ∷ bytes) rest h = step (nat_eq b c) refl (λ k. behind-found piece bytes rest k) h
  where
    step : (same : Bool) → nat_eq b c ≡ same → (behind piece bytes ≡ Some rest → bytes ≡ piece ++ rest)
        → (if same then behind piece bytes else None) ≡ Some rest → b ∷ bytes ≡ c ∷ (piece ++ rest)
    step true same further h = let e : b ≡ c = eqb-true b c same in let k : bytes ≡ piece ++ rest = further h in cc
    step false same further h = cc

behind-here : (piece rest : List ℕ) → behind piece (piece ++ rest) ≡ Some rest
behind-here [] rest = refl
behind-here (c ∷ piece) rest = ap (λ same. if same then behind piece (piece ++ rest) else None) (eq-eqb c c refl) ∙ behind-here piece rest

-- ---- runs

-- all bytes of the run pass
run-all : (test : ℕ → Bool) (bytes : List ℕ) → list_all test (take (run_len test bytes) bytes) ≡ true
run-all test [] = refl
run-all test (b ∷ bytes) = step (test b) refl (run-all test bytes)
  where
    step : (is : Bool) → test b ≡ is → list_all test (take (run_len test bytes) bytes) ≡ true
        → list_all test (take (if is then suc (run_len test bytes) else 0) (b ∷ bytes)) ≡ true
    step true is h = ap (λ t. t && list_all test (take (run_len test bytes) bytes)) is ∙ h
    step false is h = refl

-- a run that a byte ends
run-here : (test : ℕ → Bool) (front : List ℕ) (b : ℕ) (rest : List ℕ) → list_all test front ≡ true → test b ≡ false
    → run_len test (front ++ b ∷ rest) ≡ length front
run-here test [] b rest all ends = ap (λ is. if is then suc (run_len test rest) else 0) ends
run-here test (c ∷ front) b rest all ends =
    ap (λ is. if is then suc (run_len test (front ++ b ∷ rest)) else 0) (both (test c) (list_all test front) all).0
    ∙ ap suc (run-here test front b rest (both (test c) (list_all test front) all).1 ends)

-- ---- names

pub name_bytes : (name : List ℕ) → is_name name ≡ true → list_all is_name_byte name ≡ true
name_bytes [] h = cc
name_bytes (first ∷ rest) h =
    let k : (is_letter first && list_all is_name_byte rest) ≡ true = (both (is_letter first && list_all is_name_byte rest) _ h).0 in
    ap (λ b. (b || is_digit first) && list_all is_name_byte rest) (both (is_letter first) (list_all is_name_byte rest) k).0
    ∙ (both (is_letter first) (list_all is_name_byte rest) k).1

-- what was split off the front
split : (len : ℕ) (bytes : List ℕ) → bytes ≡ take len bytes ++ drop len bytes
split len bytes = sym (take-append-drop len bytes)

name-found : (bytes : List ℕ) (found : List ℕ × List ℕ) → name_at bytes ≡ Some found → (is_name found.0 ≡ true) × (bytes ≡ found.0 ++ found.1)
unfolding name_at
name-found bytes found h =
    let n : ℕ = run_len is_name_byte bytes in
    let k : (is_name (take (run_len is_name_byte bytes) bytes) ≡ true) × ((take (run_len is_name_byte bytes) bytes, drop (run_len is_name_byte bytes) bytes) ≡ found)
    = passed _ _ _ h in
    (ap is_name (ap (λ p. p.0) (sym k.1)) ∙ k.0, split (run_len is_name_byte bytes) bytes ∙ ap (λ p. p.0 ++ p.1) k.1)

name-here : (name rest : List ℕ) (b : ℕ) → is_name name ≡ true → is_name_byte b ≡ false → name_at (name ++ b ∷ rest) ≡ Some (name, b ∷ rest)
unfolding name_at
name-here name rest b named ends =
    ap (λ n. if is_name (take n (name ++ b ∷ rest)) then Some (take n (name ++ b ∷ rest), drop n (name ++ b ∷ rest)) else None)
    (run-here is_name_byte name b rest (name_bytes name named) ends)
    ∙ ap (λ t. if is_name t then Some (t, drop (length name) (name ++ b ∷ rest)) else None) (take-append_seam name (b ∷ rest))
    ∙ ap (λ is. if is then Some (name, drop (length name) (name ++ b ∷ rest)) else None) named
    ∙ ap (λ t. Some (name, t)) (drop-append_seam name (b ∷ rest))

-- ---- numbers

number_from-found : (digits rest : List ℕ) (found : ℕ × List ℕ) → list_all is_digit digits ≡ true → number_from digits rest ≡ Some found
    → (is_number digits ≡ true) × (found ≡ (value_from 0 digits, rest))
number_from-found [] rest found all h = cc
number_from-found (d ∷ digits) rest found all h = step (nat_le (2 ^ 63) (value_from 0 (d ∷ digits))) refl h
  where
    step : (large : Bool) → nat_le (2 ^ 63) (value_from 0 (d ∷ digits)) ≡ large
        → (if large then None else Some (value_from 0 (d ∷ digits), rest)) ≡ Some found
        → (is_number (d ∷ digits) ≡ true) × (found ≡ (value_from 0 (d ∷ digits), rest))
    step true is h = cc
    step false is h = (ap (λ b. b && not (nat_le (2 ^ 63) (value_from 0 (d ∷ digits)))) all ∙ ap not is, cc)

number-found : (bytes : List ℕ) (found : ℕ × List ℕ) → number_at bytes ≡ Some found
    → (digits : List ℕ) × IsNumeral digits found.0 × (bytes ≡ digits ++ found.1)
unfolding number_at
number-found bytes found h =
    let len : ℕ = run_len is_digit bytes in
    let k = number_from-found (take (run_len is_digit bytes) bytes) (drop (run_len is_digit bytes) bytes) found (run-all is_digit bytes) h in (
      take (run_len is_digit bytes) bytes,
      record { number = k.0; value = ap (λ p. p.0) k.1 },
      split (run_len is_digit bytes) bytes ∙ ap (λ t. take (run_len is_digit bytes) bytes ++ t) (ap (λ p. p.1) (sym k.1)),
    )

number_parts : (digits : List ℕ) → is_number digits ≡ true → (list_all is_digit digits ≡ true) × (nat_le (2 ^ 63) (value_from 0 digits) ≡ false) × (0 < length digits)
number_parts [] h = cc
number_parts (d ∷ digits) h =
    let k = both (list_all is_digit (d ∷ digits)) (not (nat_le (2 ^ 63) (value_from 0 (d ∷ digits)))) h in
    (k.0, untrue (nat_le (2 ^ 63) (value_from 0 (d ∷ digits))) k.1, omega arith)

number_from-here : (digits rest : List ℕ) → 0 < length digits → nat_le (2 ^ 63) (value_from 0 digits) ≡ false → number_from digits rest ≡ Some (value_from 0 digits, rest)
number_from-here [] rest some small = absurd (omega arith)
number_from-here (d ∷ digits) rest some small = ap (λ large. if large then None else Some (value_from 0 (d ∷ digits), rest)) small

number-here : (digits rest : List ℕ) (b n : ℕ) → IsNumeral digits n → is_digit b ≡ false → number_at (digits ++ b ∷ rest) ≡ Some (n, b ∷ rest)
unfolding number_at
number-here digits rest b n numeral ends =
    let k = number_parts digits numeral.number in
    ap (λ len. number_from (take len (digits ++ b ∷ rest)) (drop len (digits ++ b ∷ rest))) (run-here is_digit digits b rest k.0 ends)
    ∙ ap (λ t. number_from t (drop (length digits) (digits ++ b ∷ rest))) (take-append_seam digits (b ∷ rest))
    ∙ ap (number_from digits) (drop-append_seam digits (b ∷ rest))
    ∙ number_from-here digits (b ∷ rest) k.2 k.1
    ∙ ap (λ v. Some (v, b ∷ rest)) (sym numeral.value)

-- ---- lines

find-found : (bytes : List ℕ) (said : Statement) → find_at bytes ≡ Some said → Says (codes "find " ++ bytes) said
unfolding find_at
find-found bytes said h0 =
    let b1 = bound (name_at bytes) _ said h0 in
    let b2 = bound (behind (codes " : set of int(") b1.0.1) _ said b1.2 in
    let b3 = bound (number_at b2.0) _ said b2.2 in
    let b4 = bound (behind (codes "..") b3.0.1) _ said b3.2 in
    let b5 = bound (number_at b4.0) _ said b4.2 in
    let b6 = bound (behind (codes ")") b5.0.1) _ said b5.2 in
    let name = name-found bytes b1.0 b1.1 in
    let low = number-found b2.0 b3.0 b3.1 in
    let high = number-found b4.0 b5.0 b5.1 in
    let last = at_end-found b6.0 (find b1.0.0 b3.0.0 b5.0.0) said b6.2 in
    subst (Says (codes "find " ++ bytes)) last.1
    (record {
      lows = low.0;
      highs = high.0;
      named = name.0;
      lowest = low.1;
      highest = high.1;
      pieces =
          ap (λ t. codes "find " ++ t) name.1
          ∙ ap (λ t. codes "find " ++ (b1.0.0 ++ t)) (behind-found (codes " : set of int(") b1.0.1 b2.0 b2.1)
          ∙ ap (λ t. codes "find " ++ (b1.0.0 ++ (codes " : set of int(" ++ t))) low.2
          ∙ ap (λ t. codes "find " ++ (b1.0.0 ++ (codes " : set of int(" ++ (low.0 ++ t)))) (behind-found (codes "..") b3.0.1 b4.0 b4.1)
          ∙ ap (λ t. codes "find " ++ (b1.0.0 ++ (codes " : set of int(" ++ (low.0 ++ (codes ".." ++ t))))) high.2
          ∙ ap (λ t. codes "find " ++ (b1.0.0 ++ (codes " : set of int(" ++ (low.0 ++ (codes ".." ++ (high.0 ++ t)))))) (behind-found (codes ")") b5.0.1 b6.0 b6.1)
          ∙ ap (λ t. codes "find " ++ (b1.0.0 ++ (codes " : set of int(" ++ (low.0 ++ (codes ".." ++ (high.0 ++ (codes ")" ++ t))))))) last.0;
    })
  where
    at_end-found : (rest : List ℕ) (x y : Statement) → at_end rest x ≡ Some y → (rest ≡ []) × (x ≡ y)
    at_end-found [] x y h = (refl, cc)
    at_end-found (b ∷ rest) x y h = cc

such_that-found : (bytes : List ℕ) (said : Statement) → such_that_at bytes ≡ Some said → Says (codes "such that " ++ bytes) said
unfolding such_that_at
such_that-found bytes said h0 =
    let b1 = bound (number_at bytes) _ said h0 in
    let b2 = bound (behind (codes " in ") b1.0.1) _ said b1.2 in
    let number = number-found bytes b1.0 b1.1 in
    let last = passed (is_name b2.0) (such_that b1.0.0 b2.0) said b2.2 in
    subst (Says (codes "such that " ++ bytes)) last.1
    (record {
      digits = number.0;
      numeral = number.1;
      named = last.0;
      pieces =
          ap (λ t. codes "such that " ++ t) number.2
          ∙ ap (λ t. codes "such that " ++ (number.0 ++ t)) (behind-found (codes " in ") b1.0.1 b2.0 b2.1)
          ∙ ap (λ t. codes "such that " ++ (number.0 ++ (codes " in " ++ t))) (sym (append-nil b2.0));
    })

-- what is read of a line, the line says
line-found : (line : List ℕ) (said : Statement) → line_at line ≡ Some said → Says line said
unfolding line_at otherwise
line-found line said h = step (behind (codes "find ") line) refl h
  where
    step : (rest : Option (List ℕ)) → behind (codes "find ") line ≡ rest → otherwise rest line ≡ Some said → Says line said
    step (Some rest) is h = subst (λ l. Says l said) (sym (behind-found (codes "find ") line rest is)) (find-found rest said h)
    step None is h =
        let b1 = bound (behind (codes "such that ") line) such_that_at said h in
        subst (λ l. Says l said) (sym (behind-found (codes "such that ") line b1.0 b1.1)) (such_that-found b1.0 said b1.2)

find-here : (line name : List ℕ) (low high : ℕ) → SaysFind line name low high → line_at line ≡ Some (find name low high)
unfolding line_at otherwise find_at
find-here line name low high says =
    ap line_at says.pieces
    ∙ ap (λ o. o >>= (λ name'. behind (codes " : set of int(") name'.1 >>= (λ lows. number_at lows >>= (λ low'. behind (codes "..") low'.1 >>= (λ highs.
    number_at highs >>= (λ high'. behind (codes ")") high'.1 >>= (λ rest. at_end rest (find name'.0 low'.0 high'.0))))))))
    (name-here name _ 32 says.named refl)
    ∙ ap (λ o. o >>= (λ low'. behind (codes "..") low'.1 >>= (λ highs.
    number_at highs >>= (λ high'. behind (codes ")") high'.1 >>= (λ rest. at_end rest (find name low'.0 high'.0))))))
    (number-here says.lows _ 46 low says.lowest refl)
    ∙ ap (λ o. o >>= (λ high'. behind (codes ")") high'.1 >>= (λ rest. at_end rest (find name low high'.0))))
    (number-here says.highs [] 41 high says.highest refl)

such_that-here : (line : List ℕ) (number : ℕ) (name : List ℕ) → SaysSuchThat line number name → line_at line ≡ Some (such_that number name)
unfolding line_at otherwise such_that_at
such_that-here line number name says =
    ap line_at says.pieces
    ∙ ap (λ o. o >>= (λ number'. behind (codes " in ") number'.1 >>= (λ name'. if is_name name' then Some (such_that number'.0 name') else None)))
    (number-here says.digits _ 32 number says.numeral refl)
    ∙ ap (λ n. if is_name n then Some (such_that number n) else None) (append-nil name)
    ∙ ap (λ is. if is then Some (such_that number name) else None) says.named

-- what a line says is read of it
line-here : (line : List ℕ) (said : Statement) → Says line said → line_at line ≡ Some said
line-here line (find name low high) says = find-here line name low high says
line-here line (such_that number name) says = such_that-here line number name says

pub lines-found : (lines : List (List ℕ)) (said : List Statement) → read_lines lines ≡ Some said → SayEach lines said
lines-found [] [] h = tt
lines-found [] (statement ∷ said) h = cc
lines-found (line ∷ lines) said h0 =
    let b1 = bound (line_at line) (λ first. read_lines lines >>= (λ more. Some (first ∷ more))) said h0 in
    let b2 = bound (read_lines lines) (λ more. Some (b1.0 ∷ more)) said b1.2 in
    let e : b1.0 ∷ b2.0 ≡ said = some_is _ _ b2.2 in
    subst (SayEach (line ∷ lines)) e (line-found line b1.0 b1.1, lines-found lines b2.0 b2.1)
  where
    some_is : (x y : List Statement) → Some x ≡ Some y → x ≡ y
    some_is x y h = cc

pub lines-here : (lines : List (List ℕ)) (said : List Statement) → SayEach lines said → read_lines lines ≡ Some said
lines-here [] [] says = refl
lines-here [] (statement ∷ said) says = absurd says
lines-here (line ∷ lines) [] says = absurd says
lines-here (line ∷ lines) (statement ∷ said) says =
    ap (λ o. o >>= (λ first. read_lines lines >>= (λ more. Some (first ∷ more)))) (line-here line statement says.0)
    ∙ ap (λ o. o >>= (λ more. Some (statement ∷ more))) (lines-here lines said says.1)
