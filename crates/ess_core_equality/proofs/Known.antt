-- When a test of two values holds exactly where they are equal: a test of a whole is so where those of its parts are.
use Rattle.std.proofs.Common.{◌≡◌, refl, sym, ap, ◌∙◌, subst, Bool, true, false, ◌&&◌, true≢false, ℕ, ℤ, List, [], ◌∷◌, map, Option, Some, None, Decides, IsTrue, ◌↔◌, inl, inr, nat_eq, int_eq}
use Rattle.std.specs.Option.{option_eq}
use Rattle.std.specs.Cmp.Lexicographic.{pointwise, pointwise_decides, bytes_decides}
use Rattle.std.specs.Cmp.{first_so, second_so, booleans_Decides, signed_Decides, unsigned_Decides}
use mathlib.Core.Bool.{beq}
use denote.Struct.Field.{Field}
use denote.Struct.Values.{Values}
use denote.Enum.Declared.{Record, Declared, Choice}
use denote.Enum.Compared.{Each, by}
use denote.Enum.Bare.{Bare, sameb, same_true, true_same}

-- The test E knows x: it holds of x and itself, and of x and another value only where that is x.
pub record Knows {A : Type 0} (E : A → A → Bool) (x : A) : Type 0 where
  pub finds : (y : A) → E x y ≡ true → x ≡ y
  pub own : E x x ≡ true

pub decides : {A : Type 0} {E : A → A → Bool} {x : A} → Knows E x → (y : A) → IsTrue (E x y) ↔ (x ≡ y)
decides {A} {E} {x} k y = (k.finds y, λ e. subst (λ z. E x z ≡ true) e k.own)

pub known_by : {A : Type 0} {E : A → A → Bool} {x : A} → ((y : A) → Decides (E x y) (x ≡ y)) → Knows E x
known_by {A} {E} {x} d = record { finds = λ y. (d y).0; own = (d x).1 refl }

-- ---- words, numbers and texts

abbrev pub text_same : List ℕ → List ℕ → Bool
text_same = pointwise nat_eq

pub known_bool : (x : Bool) → Knows beq x
known_bool x = known_by (booleans_Decides x)

pub known_int : (x : ℤ) → Knows int_eq x
known_int x = known_by (signed_Decides x)

pub known_nat : (x : ℕ) → Knows nat_eq x
known_nat x = known_by (unsigned_Decides x)

pub known_text : (x : List ℕ) → Knows text_same x
known_text x = known_by (bytes_decides x)

-- a row of values that are each known
pub known_all : {A : Type 0} {E : A → A → Bool} → ((x : A) → Knows E x) → (xs : List A) → Knows (pointwise E) xs
known_all k xs = known_by (pointwise_decides (λ x. decides (k x)) xs)

pub known_texts : (xs : List (List ℕ)) → Knows (pointwise text_same) xs
known_texts = known_all known_text

-- an enum with no fields
pub known_bare : (D : Declared) → Bare D.parts → (x : D.D) → Knows (sameb D) x
known_bare D bare x = record { finds = same_true D bare x; own = true_same D x x refl }

-- ---- fields

pub known_none : Knows {A = Unit {0}} (λ a b. true) tt
known_none = record { finds = λ y e. refl; own = refl }

pub known_last : {A : Type 0} {E : A → A → Bool} {a : A} → Knows E a → Knows {A = A × Unit {0}} (λ x y. E x.0 y.0) (a, tt)
known_last k = record { finds = λ y e i. (k.finds y.0 e i, tt); own = k.own }

pub known_field : {A : Type 0} {B : Type 0} {E : A → A → Bool} {F : B → B → Bool} {a : A} {b : B} → Knows E a → Knows F b → Knows {A = A × B} (λ x y. E x.0 y.0 && F x.1 y.1) (a, b)
known_field {A} {B} {E} {F} {a} {b} k l = record {
  finds = λ y e i. (k.finds y.0 (first_so (E a y.0) (F b y.1) e) i, l.finds y.1 (second_so (E a y.0) (F b y.1) e) i);
  own = λ i. k.own i && l.own i;
}

-- a value that is tested by its parts
pub known_whole : {A : Type 0} {D : Type 0} (parts : D → A) (whole : A → D) → ((x : D) → whole (parts x) ≡ x) → {F : A → A → Bool} {E : D → D → Bool} → ((x y : D) → E x y ≡ F (parts x) (parts y)) → (x : D) → Knows F (parts x) → Knows E x
known_whole parts whole eta is x k = record {
  finds = λ y e. sym (eta x) ∙ (ap whole (k.finds (parts y) (sym (is x y) ∙ e)) ∙ eta y);
  own = is x x ∙ k.own;
}

-- the same of a value that is made of its parts
pub known_struct : {A : Type 0} {D : Type 0} (parts : D → A) (whole : A → D) → ((x : D) → whole (parts x) ≡ x) → ((c : A) → parts (whole c) ≡ c) → {F : A → A → Bool} {E : D → D → Bool} → ((x y : D) → E x y ≡ F (parts x) (parts y)) → {c : A} → Knows F c → Knows E (whole c)
known_struct parts whole eta beta {F} {E} is {c} k = known_whole parts whole eta is (whole c) (subst (Knows F) (sym (beta c)) k)

-- ---- rows and options of values that come with the proof that they are known

abbrev pub Known : (A : Type 0) → (A → A → Bool) → Type 0
Known A E = (x : A) × Knows E x

module _ {A : Type 0} {E : A → A → Bool} where
  finds_row : (xs : List (Known A E)) (ys : List A) → pointwise E (map (λ x. x.0) xs) ys ≡ true → map (λ x. x.0) xs ≡ ys
  finds_row [] [] e = refl
  finds_row [] (y ∷ ys) e = absurd (true≢false (sym e))
  finds_row (x ∷ xs) [] e = absurd (true≢false (sym e))
  finds_row (x ∷ xs) (y ∷ ys) e = λ i. x.1.finds y (first_so (E x.0 y) (pointwise E (map (λ x. x.0) xs) ys) e) i ∷ finds_row xs ys (second_so (E x.0 y) (pointwise E (map (λ x. x.0) xs) ys) e) i

  own_row : (xs : List (Known A E)) → pointwise E (map (λ x. x.0) xs) (map (λ x. x.0) xs) ≡ true
  own_row [] = refl
  own_row (x ∷ xs) = λ i. x.1.own i && own_row xs i

  pub known_row : (xs : List (Known A E)) → Knows (pointwise E) (map (λ x. x.0) xs)
  known_row xs = record { finds = finds_row xs; own = own_row xs }

  pub known_no : Knows (option_eq E) None
  known_no = record { finds = finds; own = refl }
    where
      finds : (y : Option A) → option_eq E None y ≡ true → None ≡ y
      finds None e = refl
      finds (Some y) e = absurd (true≢false (sym e))

  pub known_some : {x : A} → Knows E x → Knows (option_eq E) (Some x)
  known_some {x} k = record { finds = finds; own = k.own }
    where
      finds : (y : Option A) → option_eq E (Some x) y ≡ true → Some x ≡ y
      finds None e = absurd (true≢false (sym e))
      finds (Some y) e = ap Some (k.finds y e)

-- ---- enums

-- The tests of the variants' fields know a variant with its fields.
pub record Chooses (Fss : List (List Field)) (es : Each Bool Fss) (c : Choice Fss) : Type 0 where
  pub knows : Knows (by false false Fss es) c

pub here : {Fs : List Field} {Fss : List (List Field)} {es : Each Bool (Fs ∷ Fss)} {x : Values Fs} → Knows es.0 x → Chooses (Fs ∷ Fss) es (inl x)
here {Fs} {Fss} {es} {x} k = record { knows = record { finds = finds; own = k.own } }
  where
    finds : (d : Choice (Fs ∷ Fss)) → by false false (Fs ∷ Fss) es (inl x) d ≡ true → inl x ≡ d
    finds (inl y) e = ap inl (k.finds y e)
    finds (inr y) e = absurd (true≢false (sym e))

pub later : {Fs : List Field} {Fss : List (List Field)} {es : Each Bool (Fs ∷ Fss)} {c : Choice Fss} → Chooses Fss es.1 c → Chooses (Fs ∷ Fss) es (inr c)
later {Fs} {Fss} {es} {c} k = record { knows = record { finds = finds; own = k.knows.own } }
  where
    finds : (d : Choice (Fs ∷ Fss)) → by false false (Fs ∷ Fss) es (inr c) d ≡ true → inr c ≡ d
    finds (inl y) e = absurd (true≢false (sym e))
    finds (inr y) e = ap inr (k.knows.finds y e)

pub later5 : {Fs Gs Hs Is Js : List Field} {Fss : List (List Field)} {es : Each Bool (Fs ∷ Gs ∷ Hs ∷ Is ∷ Js ∷ Fss)} {c : Choice Fss} → Chooses Fss es.1.1.1.1.1 c → Chooses (Fs ∷ Gs ∷ Hs ∷ Is ∷ Js ∷ Fss) es (inr (inr (inr (inr (inr c)))))
later5 k = later (later (later (later (later k))))

-- the tests of several variants
infixr 10 ◌▹◌
abbrev pub ◌▹◌ : {A : Type 0} {B : Type 0} → A → B → A × B
a ▹ b = (a, b)

pub known_enum : (N : Record) (es : Each Bool N.parts) {E : N.D → N.D → Bool} → ((x y : N.D) → E x y ≡ by false false N.parts es (N.as_values x) (N.as_values y)) → (x : N.D) → Chooses N.parts es (N.as_values x) → Knows E x
known_enum N es is x k = known_whole N.as_values N.make N.eta is x k.knows
