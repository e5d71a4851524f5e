-- Free names depend on which names are taken, and not on how these are listed; names that are free beside a few that are taken and
-- that turn out to be free beside all are the same.
use Rattle.std.proofs.Common.{◌≡◌, refl, sym, ap, ◌∙◌, ℕ, zero, suc, ◌+◌, Bool, true, false, ◌&&◌, ◌||◌, not, if◌then◌else◌, List, [], ◌∷◌, ◌++◌, length, codes, arith}
use Rattle.ess_semantics.specs.Values.{Text}
use Rattle.ess_semantics.specs.Order.{same_text}
use Rattle.ess_semantics.specs.Names.{keys, without, is_among}
use Rattle.ess_semantics.specs.Contexts.{Each}
use Rattle.ess_semantics.specs.TableNames.{Named, free_within, free_name, named_tables}
use Rattle.ess_semantics.proofs.Texts.{same_text-equal, same_text-either}
use Rattle.conjure_laws.proofs.FreeNames.{name-is-free, among-append}
use Rattle.conjure_laws.proofs.Lists.{each-both}
use Rattle.ess_translate_plans_laws.specs.Requests.{SameNames, declared_beside}

-- ---- more tries change nothing

settled : (k : ℕ) (T : List Text) (a : Text) → is_among T (free_within k T a) ≡ false → free_within (suc k) T a ≡ free_within k T a
settled zero T a h = ap (λ b. if b then free_within 0 T (a ++ codes "_") else a) h
settled (suc k) T a h = go (is_among T a) h (settled k T (a ++ codes "_"))
  where
    go : (b : Bool) → is_among T (if b then free_within k T (a ++ codes "_") else a) ≡ false →
        (is_among T (free_within k T (a ++ codes "_")) ≡ false →
        free_within (suc k) T (a ++ codes "_") ≡ free_within k T (a ++ codes "_")) →
        (if b then free_within (suc k) T (a ++ codes "_") else a) ≡ (if b then free_within k T (a ++ codes "_") else a)
    go true h f = f h
    go false h f = refl

none-more : (k : ℕ) → 0 + k ≡ k
none-more k = omega arith

one-more : (n k : ℕ) → suc n + k ≡ suc (n + k)
one-more n k = omega arith

turned : (n k : ℕ) → n + k ≡ k + n
turned n k = omega arith

more-settled : (n k : ℕ) (T : List Text) (a : Text) → is_among T (free_within k T a) ≡ false → free_within (n + k) T a ≡ free_within k T a
more-settled zero k T a h = ap (λ n. free_within n T a) (none-more k)
more-settled (suc n) k T a h =
    ap (λ m. free_within m T a) (one-more n k) ∙ settled (n + k) T a (ap (is_among T) (more-settled n k T a h) ∙ h) ∙ more-settled n k T a h

-- ---- lists with the same names

same-tries : (k : ℕ) (S T : List Text) (a : Text) → SameNames S T → free_within k S a ≡ free_within k T a
same-tries zero S T a h = refl
same-tries (suc k) S T a h =
    ap (λ b. if b then free_within k S (a ++ codes "_") else a) (h a)
    ∙ ap (λ x. if is_among T a then x else a) (same-tries k S T (a ++ codes "_") h)

-- The free name beside either is the same.
pub free-alike : (S T : List Text) (a : Text) → SameNames S T → free_name S a ≡ free_name T a
free-alike S T a h =
    let m : ℕ = suc (length S) in
    let n : ℕ = suc (length T) in
    sym (more-settled n m S a (name-is-free S a)) ∙ same-tries (n + m) S T a h ∙ ap (λ k. free_within k T a) (turned n m)
    ∙ more-settled m n T a (name-is-free T a)

pub more-alike : (b : Text) (S T : List Text) → SameNames S T → SameNames (b ∷ S) (b ∷ T)
more-alike b S T h = λ a. ap (λ x. same_text b a || x) (h a)

-- So are the names of tables.
pub tables-alike : (x : Text) (ns : List Named) (S T : List Text) → SameNames S T → named_tables x ns S ≡ named_tables x ns T
tables-alike x [] S T h = refl
tables-alike x (n ∷ ns) S T h =
    let b : Text = free_name T (x ++ n.0) in
    ap (λ c. (c, n.1) ∷ named_tables x ns (c ∷ S)) (free-alike S T (x ++ n.0) h)
    ∙ ap (λ l. (b, n.1) ∷ l) (tables-alike x ns (b ∷ S) (b ∷ T) (more-alike b S T h))

-- The same names before or behind others.
pub before-alike : (R S T : List Text) → SameNames S T → SameNames (R ++ S) (R ++ T)
before-alike R S T h = λ a. among-append R S a ∙ ap (λ x. is_among R a || x) (h a) ∙ sym (among-append R T a)

pub behind-alike : (R S T : List Text) → SameNames R S → SameNames (R ++ T) (S ++ T)
behind-alike R S T h = λ a. among-append R T a ∙ ap (λ x. x || is_among T a) (h a) ∙ sym (among-append S T a)

turned-or : (a b c : Bool) → (a || (b || c)) ≡ (b || (a || c))
turned-or true true c = refl
turned-or true false c = refl
turned-or false b c = refl

-- Two lists before a third may change places.
pub changed-places : (R S T : List Text) → SameNames (R ++ (S ++ T)) (S ++ (R ++ T))
changed-places R S T = λ a.
    among-append R (S ++ T) a ∙ ap (λ x. is_among R a || x) (among-append S T a) ∙ turned-or (is_among R a) (is_among S a) (is_among T a)
    ∙ ap (λ x. is_among S a || x) (sym (among-append R T a)) ∙ sym (among-append S (R ++ T) a)

-- ---- names but one

and-none : (b : Bool) → false ≡ (b && false)
and-none true = refl
and-none false = refl

left-out : (p q : Bool) → (not p && q) ≡ (not p && (p || q))
left-out true q = refl
left-out false q = refl

kept-in : (r p q : Bool) → (r ≡ true → p ≡ false) → (r || (not p && q)) ≡ (not p && (r || q))
kept-in true true q h = let clash : true ≡ false = h refl in cc
kept-in true false q h = refl
kept-in false p q h = refl

-- A name is among all but one where it is among all and isn't the one.
pub among-without : (x : Text) (ns : List Text) (a : Text) → is_among (without x ns) a ≡ (not (same_text x a) && is_among ns a)
among-without x [] a = and-none (not (same_text x a))
among-without x (n ∷ ns) a = go (same_text n x) refl (among-without x ns a)
  where
    go : (b : Bool) → same_text n x ≡ b → is_among (without x ns) a ≡ (not (same_text x a) && is_among ns a) →
        is_among (if not b then n ∷ without x ns else without x ns) a ≡ (not (same_text x a) && (same_text n a || is_among ns a))
    go true e f =
        f ∙ left-out (same_text x a) (is_among ns a)
        ∙ ap (λ y. not (same_text x a) && (same_text y a || is_among ns a)) (sym (same_text-equal n x e))
    go false e f =
        ap (λ y. same_text n a || y) f
        ∙ kept-in (same_text n a) (same_text x a) (is_among ns a)
        (λ h. same_text-either x a ∙ ap (λ y. same_text y x) (sym (same_text-equal n a h)) ∙ e)

all-beside : (all : Bool) (x : Text) (D T : List Text) (a : Text) →
    ((is_among D a && (all || not (same_text x a))) || is_among T a) ≡ is_among (declared_beside all x D ++ T) a
all-beside true x D T a = ap (λ b. b || is_among T a) (all-of (is_among D a)) ∙ sym (among-append D T a)
  where
    all-of : (b : Bool) → (b && true) ≡ b
    all-of true = refl
    all-of false = refl
all-beside false x D T a =
    ap (λ b. b || is_among T a) (turned-and (is_among D a) (not (same_text x a)) ∙ sym (among-without x D a))
    ∙ sym (among-append (without x D) T a)
  where
    turned-and : (b c : Bool) → (b && (false || c)) ≡ (c && b)
    turned-and true true = refl
    turned-and true false = refl
    turned-and false true = refl
    turned-and false false = refl

-- A name is taken beside x where it is declared, for something else or for anything, or an earlier table has it.
pub taken_beside : (all : Bool) (x : Text) (D T : List Text) (a : Text) →
    ((is_among D a && (all || not (same_text x a))) || is_among T a) ≡ is_among (declared_beside all x D ++ T) a
taken_beside = all-beside

pub beside-alike : (all : Bool) (x : Text) (D E : List Text) → SameNames D E → SameNames (declared_beside all x D) (declared_beside all x E)
beside-alike true x D E h = h
beside-alike false x D E h = λ a. among-without x D a ∙ ap (λ b. not (same_text x a) && b) (h a) ∙ sym (among-without x E a)

-- ---- a few of the names that are taken

-- Each of the first is one of the others.
abbrev pub AreSome : List Text → List Text → Type 0
AreSome S T = (a : Text) → is_among S a ≡ true → is_among T a ≡ true

fewer-tries : (k : ℕ) (S T : List Text) (a : Text) → AreSome S T → is_among T (free_within k S a) ≡ false →
    free_within k T a ≡ free_within k S a
fewer-tries zero S T a h f = refl
fewer-tries (suc k) S T a h f = go (is_among S a) refl f (fewer-tries k S T (a ++ codes "_") h)
  where
    go : (b : Bool) → is_among S a ≡ b → is_among T (if b then free_within k S (a ++ codes "_") else a) ≡ false →
        (is_among T (free_within k S (a ++ codes "_")) ≡ false → free_within k T (a ++ codes "_") ≡ free_within k S (a ++ codes "_")) →
        (if is_among T a then free_within k T (a ++ codes "_") else a) ≡ (if b then free_within k S (a ++ codes "_") else a)
    go true e f g = ap (λ c. if c then free_within k T (a ++ codes "_") else a) (h a e) ∙ g f
    go false e f g = ap (λ c. if c then free_within k T (a ++ codes "_") else a) f

free-beside-all : (S T : List Text) (a : Text) → AreSome S T → is_among T (free_name S a) ≡ false → free_name S a ≡ free_name T a
free-beside-all S T a h f =
    let m : ℕ = suc (length S) in
    let n : ℕ = suc (length T) in
    let e = fewer-tries m S T a h f in
    sym e ∙ sym (more-settled n m T a (ap (is_among T) e ∙ f)) ∙ ap (λ k. free_within k T a) (turned n m)
    ∙ more-settled m n T a (name-is-free T a)

not-taken : (p q : Bool) → (p ≡ true → q ≡ true) → q ≡ false → p ≡ false
not-taken true true h e = e
not-taken true false h e = sym (h refl)
not-taken false q h e = refl

or-some : (r p q : Bool) → (p ≡ true → q ≡ true) → r || p ≡ true → r || q ≡ true
or-some true p q h e = refl
or-some false p q h e = h e

some-more : (b : Text) (S T : List Text) → AreSome S T → AreSome (b ∷ S) (b ∷ T)
some-more b S T h = λ a. or-some (same_text b a) (is_among S a) (is_among T a) (h a)

some-later : (b : Text) (S T : List Text) → AreSome S T → AreSome S (b ∷ T)
some-later b S T h = λ a e. go (same_text b a) (is_among T a) (h a e)
  where
    go : (r q : Bool) → q ≡ true → r || q ≡ true
    go true q e = refl
    go false q e = e

-- No name of the tables is one that is taken.
named-free : (x : Text) (ns : List Named) (S R : List Text) → AreSome R S → Each (keys (named_tables x ns S)) (λ c. is_among R c ≡ false)
named-free x [] S R h = tt
named-free x (n ∷ ns) S R h =
    let a : Text = free_name S (x ++ n.0) in (
      not-taken (is_among R a) (is_among S a) (h a) (name-is-free S (x ++ n.0)),
      named-free x ns (a ∷ S) R (some-later a R S h),
    )

no-or : (a b : Bool) → (a || false) ≡ false → b ≡ false → (a || b) ≡ false
no-or true b e f = e
no-or false b e f = f

first-some : (a : Text) (S : List Text) → AreSome (a ∷ []) (a ∷ S)
first-some a S = λ c. or-some (same_text a c) false (is_among S c) (λ e. let clash : false ≡ true = e in cc)

-- Names of tables beside a few names that are free beside all are those beside all.
pub tables-beside-all : (x : Text) (ns : List Named) (S T : List Text) → AreSome S T →
    Each (keys (named_tables x ns S)) (λ c. is_among T c ≡ false) →
    named_tables x ns S ≡ named_tables x ns T
tables-beside-all x [] S T h f = refl
tables-beside-all x (n ∷ ns) S T h f =
    let a : Text = free_name S (x ++ n.0) in
    let e = free-beside-all S T (x ++ n.0) h f.0 in
    ap (λ l. (a, n.1) ∷ l)
    (tables-beside-all x ns (a ∷ S) (a ∷ T) (some-more a S T h)
    (each-both (keys (named_tables x ns (a ∷ S))) (λ c. is_among (a ∷ []) c ≡ false) (λ c. is_among T c ≡ false)
    (λ c. is_among (a ∷ T) c ≡ false)
    (λ c p q. no-or (same_text a c) (is_among T c) p q) (named-free x ns (a ∷ S) (a ∷ []) (first-some a S)) f.1))
    ∙ ap (λ c. (c, n.1) ∷ named_tables x ns (c ∷ T)) e

-- No name of the tables is among the few.
pub tables-are-new : (x : Text) (ns : List Named) (S : List Text) → Each (keys (named_tables x ns S)) (λ c. is_among S c ≡ false)
tables-are-new x ns S = named-free x ns S S (λ a e. e)
