-- The numbers of attributes, and the numbers from a bound to a bound, as terms under an env.
use Rattle.std.specs.Prelude.{is_some, int_le, int_lt}
use Rattle.std.specs.Cmp.{int_cmp_is}
use Rattle.ess_repr_laws.proofs.DummyNumbers.{below-numbers}
use Rattle.std.proofs.Common.{◌≡◌, refl, sym, ap, ◌∙◌, subst, ℕ, zero, suc, ◌+◌, Bool, true, false, ◌&&◌, if◌then◌else◌, List, [], ◌∷◌, ℤ, pos, negsuc, ◌+ℤ◌, ◌-ℤ◌, Option, Some, None, option_map, arith}
use Rattle.std.proofs.lemmas.Int.{ints}
use Rattle.std.specs.Ordering.{int_cmp, is_lt, is_eq}
use Rattle.std.specs.declared.cmp.Ordering.{Ordering}
use Rattle.std.specs.declared.cmp.Ordering.TheVariants.{Less, Equal, Greater}
use Rattle.ess_semantics.specs.declared.words.Key.{Key}
use Rattle.ess_semantics.specs.Lists.{is_some_and, and_then, or_else, or_default}
use Rattle.ess_semantics.specs.Order.{same_int}
use Rattle.ess_semantics.specs.Numbers.{natural}
use Rattle.ess_semantics.specs.Attributes.{each_number_holds}
use Rattle.ess_semantics.specs.Domains.{Attribute, numbered, flagged, attribute, same_key}
use Rattle.ess_semantics.specs.Sizes.{greatest_size, occurrences}
use Rattle.ess_semantics.specs.Trees.{Mark, flag, valued, Ex, Exs, number_ex, truth_ex, name_ex, node_ex, matrix_ex, comp_ex, cell_ex, seen_ex, no_exs, more_exs}
use Rattle.ess_semantics.specs.Meaning.{Env, meaning, meanings, as_int, attributes_of}
use Rattle.ess_semantics.proofs.Orders.{same_int-equal}
use Rattle.ess_semantics.proofs.Tests.{and-left, and-right}
use Rattle.ess_repr_laws.proofs.Rooms.{one-key}
use Rattle.ess_repr_declare_laws.specs.SizeTerms.{zero_ex, one_ex, plus_ex, minus_ex, next_ex, numeral, is_numeral, span_ex, span_by, between_ex, number_of, greatest_size_of, occurrences_ex}
use Rattle.ess_repr_declare_laws.proofs.Readings.{Reads, plus-reads, less-reads, at-least-0-reads}

-- ---- options

pub mapped : {A B : Type 0} (f : A → B) (o : Option A) (y : B) → option_map f o ≡ Some y → (x : A) × (o ≡ Some x) × (f x ≡ y)
mapped f None y h = cc
mapped f (Some x) y h = (x, refl, cc)

pub chained : {A B : Type 0} (o : Option A) (f : A → Option B) (y : B) → and_then o f ≡ Some y → (x : A) × (o ≡ Some x) × (f x ≡ Some y)
chained None f y h = cc
chained (Some x) f y h = (x, refl, h)

pub there : {A : Type 0} (o : Option A) → is_some o ≡ true → (x : A) × (o ≡ Some x)
there None h = cc
there (Some x) h = (x, refl)

pub absent : {A : Type 0} (o : Option A) → is_some o ≡ false → o ≡ None
absent None h = refl
absent (Some x) h = cc

-- ---- attributes

-- The term is there where the number is, and reads it.
abbrev pub Numbered : Env → Option Ex → Option ℕ → Type 0
Numbered env None None = Unit {0}
Numbered env (Some e) (Some n) = Reads e env (pos n)
Numbered env _ _ = ⊥

pub else-numbered : (env : Env) (o p : Option Ex) (a b : Option ℕ) → Numbered env o a → Numbered env p b → Numbered env (or_else o p) (or_else a b)
else-numbered env None p None b h k = k
else-numbered env None p (Some n) b h k = absurd h
else-numbered env (Some e) p None b h k = absurd h
else-numbered env (Some e) p (Some n) b h k = h

pub default-numbered : (env : Env) (o : Option Ex) (a : Option ℕ) (e : Ex) (n : ℕ) → Numbered env o a → Reads e env (pos n) → Reads (or_default o e) env (pos (or_default a n))
default-numbered env None None e n h k = k
default-numbered env None (Some m) e n h k = absurd h
default-numbered env (Some f) None e n h k = absurd h
default-numbered env (Some f) (Some m) e n h k = h

not-negative : (z : ℤ) → int_le (pos 0) z ≡ true → z ≡ pos (natural z)
not-negative (pos n) h = refl
not-negative (negsuc n) h = cc

same-key-both : (j k : Key) → same_key j k ≡ same_key k j
same-key-both j k = go (same_key j k) (same_key k j) refl refl
  where
    go : (a b : Bool) → same_key j k ≡ a → same_key k j ≡ b → a ≡ b
    go true true p q = refl
    go false false p q = refl
    go true false p q = let e : j ≡ k = one-key j k p in sym (ap (λ x. same_key x j) (sym e) ∙ ap (same_key j) e ∙ p) ∙ q
    go false true p q = let e : k ≡ j = one-key k j q in sym p ∙ ap (λ x. same_key x k) (sym e) ∙ ap (same_key k) e ∙ q

number-if : (env : Env) (b c : Bool) (e : Ex) (o : Option Ex) (n : ℕ) (a : Option ℕ) → b ≡ c → Reads e env (pos n) → Numbered env o a →
    Numbered env (if b then Some e else o) (if c then Some n else a)
number-if env true true e o n a q h k = h
number-if env false false e o n a q h k = k
number-if env true false e o n a q h k = cc
number-if env false true e o n a q h k = cc

-- Whether no attribute value is below 0.
abbrev pub not_below : List Attribute → Bool
not_below ks = each_number_holds ks (λ k n. int_le (pos 0) n)

pub numbers-are : (env : Env) (k : Key) (ms : List Mark) (es : Exs) (ks : List Attribute) → attributes_of ms (meanings es env) ≡ Some ks → not_below ks ≡ true →
    Numbered env (number_of k ms es) (attribute k ks)
numbers-are env k [] no_exs ks h n = let q : [] ≡ ks = cc in subst (λ l. Numbered env None (attribute k l)) q tt
numbers-are env k [] (more_exs e es) ks h n = cc
numbers-are env k (flag j ∷ ms) es ks h n =
    let m = mapped (λ l. flagged j ∷ l) (attributes_of ms (meanings es env)) ks h in
    subst (λ l. Numbered env (number_of k ms es) (attribute k l)) m.2
    (numbers-are env k ms es m.0 m.1 (ap not_below m.2 ∙ n))
numbers-are env k (valued j ∷ ms) no_exs ks h n = cc
numbers-are env k (valued j ∷ ms) (more_exs e es) ks h n =
    let c = chained (as_int (meaning e env)) (λ z. option_map (λ l. numbered j z ∷ l) (attributes_of ms (meanings es env))) ks h in
    let m = mapped (λ l. numbered j c.0 ∷ l) (attributes_of ms (meanings es env)) ks c.2 in
    let all : int_le (pos 0) c.0 && not_below m.0 ≡ true = ap not_below m.2 ∙ n in
    subst (λ l. Numbered env (number_of k (valued j ∷ ms) (more_exs e es)) (attribute k l)) m.2
    (number-if env (same_key j k) (same_key k j) e (number_of k ms es) (natural c.0) (attribute k m.0) (same-key-both j k)
    (c.1 ∙ ap Some (not-negative c.0 (and-left (int_le (pos 0) c.0) (not_below m.0) all)))
    (numbers-are env k ms es m.0 m.1 (and-right (int_le (pos 0) c.0) (not_below m.0) all)))

pub greatest-reads : (env : Env) (ms : List Mark) (es : Exs) (ks : List Attribute) → attributes_of ms (meanings es env) ≡ Some ks → not_below ks ≡ true →
    Numbered env (greatest_size_of ms es) (greatest_size ks)
greatest-reads env ms es ks h n =
    else-numbered env (number_of Key.Size ms es) (number_of Key.MaxSize ms es) (attribute Key.Size ks) (attribute Key.MaxSize ks)
    (numbers-are env Key.Size ms es ks h n) (numbers-are env Key.MaxSize ms es ks h n)

pub occurrences-reads : (env : Env) (ms : List Mark) (es : Exs) (ks : List Attribute) → attributes_of ms (meanings es env) ≡ Some ks → not_below ks ≡ true →
    Reads (occurrences_ex ms es) env (pos (occurrences ks))
occurrences-reads env ms es ks h n =
    default-numbered env (or_else (number_of Key.MaxOccur ms es) (greatest_size_of ms es)) (or_else (attribute Key.MaxOccur ks) (greatest_size ks)) zero_ex 0
    (else-numbered env (number_of Key.MaxOccur ms es) (greatest_size_of ms es) (attribute Key.MaxOccur ks) (greatest_size ks)
    (numbers-are env Key.MaxOccur ms es ks h n) (greatest-reads env ms es ks h n)) refl

-- ---- the numbers from a bound to a bound

numeral-reads : (env : Env) (a : Ex) (x m : ℤ) → numeral a ≡ Some m → Reads a env x → m ≡ x
numeral-reads env (number_ex n) x m h p = cc
numeral-reads env (truth_ex b) x m h p = cc
numeral-reads env (name_ex a) x m h p = cc
numeral-reads env (node_ex b o es) x m h p = cc
numeral-reads env (matrix_ex es d) x m h p = cc
numeral-reads env (comp_ex e gs) x m h p = cc
numeral-reads env (cell_ex b n es) x m h p = cc
numeral-reads env (seen_ex r d ns es) x m h p = cc

is-numeral-reads : (env : Env) (k : ℤ) (a : Ex) (x : ℤ) → is_numeral k a ≡ true → Reads a env x → x ≡ k
is-numeral-reads env k a x h p = go (numeral a) refl h
  where
    go : (o : Option ℤ) → numeral a ≡ o → is_some_and o (λ n. same_int n k) ≡ true → x ≡ k
    go None e h = cc
    go (Some m) e h = sym (numeral-reads env a x m e p) ∙ same_int-equal m k h

span-reads : (env : Env) (a b : Ex) (x y : ℤ) → Reads a env x → Reads b env y → Reads (span_ex a b) env ((y -ℤ x) +ℤ pos 1)
span-reads env a b x y p q = go (is_numeral (pos 0) a) (is_numeral (pos 1) a) refl refl
  where
    go : (s t : Bool) → is_numeral (pos 0) a ≡ s → is_numeral (pos 1) a ≡ t →
        Reads (if s then next_ex b else (if t then b else plus_ex (minus_ex one_ex a) b)) env ((y -ℤ x) +ℤ pos 1)
    go true t e f =
        let z : x ≡ pos 0 = is-numeral-reads env (pos 0) a x e p in
        plus-reads env b one_ex y (pos 1) q refl ∙ ap Some (omega (arith, ints))
    go false true e f =
        let z : x ≡ pos 1 = is-numeral-reads env (pos 1) a x f p in
        q ∙ ap Some (omega (arith, ints))
    go false false e f =
        plus-reads env (minus_ex one_ex a) b (pos 1 -ℤ x) y (less-reads env (pos 1) a x p) q ∙ ap Some (omega (arith, ints))

less-numbers : (m n : ℤ) → int_cmp m n ≡ Less → ((n -ℤ m) +ℤ pos 1) ≡ pos (natural ((n -ℤ m) +ℤ pos 1))
less-numbers m n h = go ((n -ℤ m) +ℤ pos 1) refl
  where
    low : int_lt m n ≡ true
    low = below-numbers m n (ap is_lt h)

    go : (z : ℤ) → (n -ℤ m) +ℤ pos 1 ≡ z → z ≡ pos (natural z)
    go (pos k) e = refl
    go (negsuc k) e = absurd (omega (arith, ints, low))

equal-numbers : (m n : ℤ) → int_cmp m n ≡ Equal → pos 1 ≡ pos (natural ((n -ℤ m) +ℤ pos 1))
equal-numbers m n h =
    let e : m ≡ n = same_int-equal m n (ap is_eq h) in
    let z : (n -ℤ m) +ℤ pos 1 ≡ pos 1 = omega (arith, ints) in
    sym (ap (λ k. pos (natural k)) z)

greater-numbers : (m n : ℤ) → int_cmp m n ≡ Greater → pos 0 ≡ pos (natural ((n -ℤ m) +ℤ pos 1))
greater-numbers m n h = go ((n -ℤ m) +ℤ pos 1) refl
  where
    go : (z : ℤ) → (n -ℤ m) +ℤ pos 1 ≡ z → pos 0 ≡ pos (natural z)
    go (negsuc k) e = refl
    go (pos zero) e = refl
    go (pos (suc zero)) e =
        let q : m ≡ n = omega (arith, ints) in
        let r : int_cmp m n ≡ Equal = sym (int_cmp_is m n Equal q) in cc
    go (pos (suc (suc k))) e = let r : int_cmp m n ≡ Less = sym (int_cmp_is m n Less (omega (arith, ints))) in cc

pub between-reads : (env : Env) (a b : Ex) (x y : ℤ) → Reads a env x → Reads b env y → Reads (between_ex a b) env (pos (natural ((y -ℤ x) +ℤ pos 1)))
between-reads env a b x y p q = go (numeral a) (numeral b) refl refl
  where
    whole : Reads (span_ex a b) env ((y -ℤ x) +ℤ pos 1)
    whole = span-reads env a b x y p q

    known : (m n : ℤ) → m ≡ x → n ≡ y → (o : Ordering) → int_cmp m n ≡ o → Reads (span_by (Some o) a b) env (pos (natural ((y -ℤ x) +ℤ pos 1)))
    known m n e f Less h = whole ∙ ap Some (less-numbers x y (ap (λ k. int_cmp k y) (sym e) ∙ ap (int_cmp m) (sym f) ∙ h))
    known m n e f Equal h = ap Some (equal-numbers x y (ap (λ k. int_cmp k y) (sym e) ∙ ap (int_cmp m) (sym f) ∙ h))
    known m n e f Greater h = ap Some (greater-numbers x y (ap (λ k. int_cmp k y) (sym e) ∙ ap (int_cmp m) (sym f) ∙ h))

    unknown : Reads (span_by None a b) env (pos (natural ((y -ℤ x) +ℤ pos 1)))
    unknown = at-least-0-reads env (span_ex a b) ((y -ℤ x) +ℤ pos 1) whole

    go : (o o' : Option ℤ) → numeral a ≡ o → numeral b ≡ o' → Reads (span_by (and_then o (λ m. option_map (λ n. int_cmp m n) o')) a b) env (pos (natural ((y -ℤ x) +ℤ pos 1)))
    go None o' e f = unknown
    go (Some m) None e f = unknown
    go (Some m) (Some n) e f = known m n (numeral-reads env a x m e p) (numeral-reads env b y n f q) (int_cmp m n) refl
