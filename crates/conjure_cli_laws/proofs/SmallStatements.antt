-- What a text of the small grammar says of its statements: names are new where they are found and known where they are asked, names
-- can be spelled, and numbers are read. So the specification is one of sets whose names are new and whose literals fit.
use Rattle.std.proofs.Common.{◌≡◌, refl, sym, ap, ◌∙◌, subst, ℕ, Bool, true, false, ◌||◌, not, if◌then◌else◌, List, [], ◌∷◌, ◌++◌, pos, Some, append_assoc, nat_lt, nat_le, arith, ◌^◌}
use Rattle.std.proofs.lemmas.Bool.Decides.{nat_tests}
use Rattle.ess_semantics.specs.Values.{Text}
use Rattle.ess_semantics.specs.Order.{same_text}
use Rattle.ess_semantics.specs.Names.{look, is_among}
use Rattle.ess_semantics.proofs.Tests.{and-right, or-yes, not-true}
use Rattle.conjure_laws.specs.SetsOfAtoms.{range, num, set_find, Declared, none_declared, after}
use Rattle.conjure_laws.proofs.FreeNames.{among-append}
use Rattle.conjure_laws.proofs.SetScopes.{Fits, Fine}
use Rattle.conjure_cli_laws.specs.SmallGrammar.{Statement, find, such_that, is_name, value_from, IsNumeral, SayEach, found_names, AreWellNamed}
use Rattle.conjure_cli_laws.specs.SmallSets.{lines}
use Rattle.conjure_cli_laws.proofs.SmallNames.{among-bytes}

-- ---- names

-- Finds have new names, and constraints speak of names that are found before; g are the names so far.
abbrev pub Named : List Text → List Statement → Type 0
Named g [] = Unit {0}
Named g (find x a b ∷ ss) = (is_among g x ≡ false) × Named (x ∷ g) ss
Named g (such_that k x ∷ ss) = (is_among g x ≡ true) × Named g ss

-- Behind statements that find the names of g.
abbrev Same : List Text → List Text → Type 0
Same g ns = (x : Text) → is_among g x ≡ is_among ns x

found-more : (before : List Statement) (s : Statement) → found_names (before ++ (s ∷ [])) ≡ found_names before ++ found_names (s ∷ [])
found-more [] s = refl
found-more (find x a b ∷ before) s = ap (λ l. x ∷ l) (found-more before s)
found-more (such_that k x ∷ before) s = found-more before s

turned : (a b : Bool) → a || b ≡ b || a
turned true b = sym (or-yes b)
turned false true = refl
turned false false = refl

no-more : (b : Bool) → b || false ≡ b
no-more true = refl
no-more false = refl

with-name : (g ns : List Text) (x : Text) → Same g ns → Same (x ∷ g) (ns ++ (x ∷ []))
with-name g ns x h y = ap (λ b. same_text x y || b) (h y) ∙ turned (same_text x y) (is_among ns y)
    ∙ ap (λ b. is_among ns y || b) (sym (no-more (same_text x y))) ∙ sym (among-append ns (x ∷ []) y)

named-from : (all before ss : List Statement) (g : List Text) → AreWellNamed all → all ≡ before ++ ss →
    Same g (found_names before) → Named g ss
named-from all before [] g w e h = tt
named-from all before (find x a b ∷ ss) g w e h = (
  h x ∙ sym (among-bytes (found_names before) x) ∙ not-true _ (w before (find x a b) ss e),
  named-from all (before ++ (find x a b ∷ [])) ss (x ∷ g) w (e ∙ sym (append_assoc before (find x a b ∷ []) ss))
      (subst (Same (x ∷ g)) (sym (found-more before (find x a b))) (with-name g (found_names before) x h)),
)
named-from all before (such_that k x ∷ ss) g w e h = (
  h x ∙ sym (among-bytes (found_names before) x) ∙ w before (such_that k x) ss e,
  named-from all (before ++ (such_that k x ∷ [])) ss g w (e ∙ sym (append_assoc before (such_that k x ∷ []) ss))
      (subst (Same g) (sym (found-more before (such_that k x) ∙ nothing (found_names before))) h),
)
  where
    nothing : (ns : List Text) → ns ++ [] ≡ ns
    nothing [] = refl
    nothing (n ∷ ns) = ap (λ l. n ∷ l) (nothing ns)

-- The names of a text are so.
pub named : (ss : List Statement) → AreWellNamed ss → Named [] ss
named ss w = named-from ss [] ss [] w refl (λ x. refl)

-- ---- what is declared

-- The finds that are declared are ranges, as many as names.
record Ranges (c : Declared) : Type 0 where
  ranges : (x : Text) → is_among c.names x ≡ true → (a b : ℕ) × (look c.finds x ≡ Some (range (pos a) (pos b)))

fine-from : (ss : List Statement) (c : Declared) → Ranges c → Named c.names ss → Fine c (lines ss)
fine-from [] c r n = tt
fine-from (find x a b ∷ ss) c r n = (
  ((n.0, tt), refl),
  tt,
  fine-from ss (after (set_find x (range (pos a) (pos b))) c)
      (record { ranges = λ y e. at y (same_text x y) refl e }) n.1,
)
  where
    at : (y : Text) (t : Bool) → same_text x y ≡ t → t || is_among c.names y ≡ true →
        (d e : ℕ) × (look ((x, range (pos a) (pos b)) ∷ c.finds) y ≡ Some (range (pos d) (pos e)))
    at y true q e = (a, b, ap (λ t. if t then Some (range (pos a) (pos b)) else look c.finds y) q)
    at y false q e = let h = r.ranges y e in (h.0, h.1, ap (λ t. if t then Some (range (pos a) (pos b)) else look c.finds y) q ∙ h.2)
fine-from (such_that k x ∷ ss) c r n = (fits (r.ranges x n.0), fine-from ss c r n.1)
  where
    fits : (a b : ℕ) × (look c.finds x ≡ Some (range (pos a) (pos b))) → Fits c (num (pos k)) (look c.finds x)
    fits h = subst (Fits c (num (pos k))) (sym h.2) tt

-- The specification is one of sets whose names are new and whose literals fit.
pub small-fine : (ss : List Statement) → Named [] ss → Fine none_declared (lines ss)
small-fine ss n = fine-from ss none_declared (record { ranges = λ x e. cc }) n

-- ---- names and numbers that are spelled

-- A number is one that a text can have.
abbrev pub IsRead : ℕ → Type 0
IsRead n = nat_lt n (2 ^ 63) ≡ true

-- Each name is one of the small grammar, and each number is read.
abbrev pub Spelled : List Statement → Type 0
Spelled [] = Unit {0}
Spelled (find x a b ∷ ss) = (is_name x ≡ true) × IsRead a × IsRead b × Spelled ss
Spelled (such_that k x ∷ ss) = (is_name x ≡ true) × IsRead k × Spelled ss

number-read : (ds : Text) (n : ℕ) → IsNumeral ds n → IsRead n
number-read [] n h = let z : false ≡ true = h.number in cc
number-read (d ∷ ds) n h =
    let z : nat_le (2 ^ 63) (value_from 0 (d ∷ ds)) ≡ false =
    not-true _ (and-right _ (not (nat_le (2 ^ 63) (value_from 0 (d ∷ ds)))) h.number) in
    ap (λ m. nat_lt m (2 ^ 63)) h.value ∙ below (value_from 0 (d ∷ ds)) (2 ^ 63) z
  where
    below : (m k : ℕ) → nat_le k m ≡ false → nat_lt m k ≡ true
    below m k e = grind (arith, nat_tests)

-- The statements of a text are so.
pub spelled : (ls : List Text) (ss : List Statement) → SayEach ls ss → Spelled ss
spelled [] [] h = tt
spelled [] (s ∷ ss) h = absurd h
spelled (l ∷ ls) [] h = absurd h
spelled (l ∷ ls) (find x a b ∷ ss) h = (
  h.0.named,
  number-read h.0.lows a h.0.lowest,
  number-read h.0.highs b h.0.highest,
  spelled ls ss h.1,
)
spelled (l ∷ ls) (such_that k x ∷ ss) h = (h.0.named, number-read h.0.digits k h.0.numeral, spelled ls ss h.1)
