-- The attributes of a constructed child: their marks, and the numbers that they denote.
use Rattle.std.specs.Prelude.{is_some}
use Rattle.std.proofs.Common.{◌≡◌, refl, sym, ap, ◌∙◌, subst, ℕ, Bool, true, false, ◌||◌, not, if◌then◌else◌, List, [], ◌∷◌, pos, Option, Some, None}
use Rattle.std.specs.List.{list_all}
use Rattle.ess_semantics.specs.declared.words.Key.{Key}
use Rattle.ess_semantics.specs.Lists.{or_else}
use Rattle.ess_semantics.specs.Domains.{Attribute, Domain, attribute, has, same_key}
use Rattle.ess_semantics.specs.Sizes.{bound, size_attributes, pair_sizes}
use Rattle.ess_semantics.specs.Kinds.{has_key, size_marks}
use Rattle.ess_semantics.specs.Trees.{Mark, flag, valued, Ex, Exs, no_exs, more_exs, Dom}
use Rattle.ess_semantics.specs.Meaning.{Env, meanings, attributes_of}
use Rattle.ess_semantics.proofs.Tests.{and-left, and-right}
use Rattle.ess_repr_laws.specs.WellFormed.{is_numbered, is_right}
use Rattle.ess_repr_laws.proofs.Rooms.{one-key}
use Rattle.ess_repr_laws.proofs.SizeMarks.{same-keys}
use Rattle.ess_repr_declare_laws.specs.SizeTerms.{number_of, bound_ex}
use Rattle.ess_repr_declare_laws.specs.Laws.{are_numbered}
use Rattle.ess_repr_declare_laws.proofs.Readings.{Reads}
use Rattle.ess_repr_declare_laws.proofs.SizeNumbers.{Numbered, not_below, numbers-are}
use Rattle.ess_repr_declare_laws.proofs.ChildTrees.{three, pairs_size, pairs_greatest, parts_greatest, three-marks, three-attributes}

-- ---- marks with numbers

other-key : (k j : Key) → is_numbered k ≡ true → not (is_numbered j) ≡ true → same_key k j ≡ false
other-key k j n h = go (same_key k j) refl
  where
    go : (b : Bool) → same_key k j ≡ b → b ≡ false
    go false e = refl
    go true e = let q : false ≡ true = sym (ap not (ap is_numbered (sym (one-key k j e)) ∙ n)) ∙ h in cc

same-both : (j k : Key) → same_key j k ≡ same_key k j
same-both j k = go (same_key j k) (same_key k j) refl refl
  where
    go : (a b : Bool) → same_key j k ≡ a → same_key k j ≡ b → a ≡ b
    go true true p q = refl
    go false false p q = refl
    go true false p q = let e : j ≡ k = one-key j k p in sym (ap (λ x. same_key x j) (sym e) ∙ ap (same_key j) e ∙ p) ∙ q
    go false true p q = let e : k ≡ j = one-key k j q in sym p ∙ ap (λ x. same_key x k) (sym e) ∙ ap (same_key k) e ∙ q

some-if : (a b c : Bool) (e : Ex) (o : Option Ex) → a ≡ b → is_some o ≡ c → is_some (if a then Some e else o) ≡ b || c
some-if true true c e o p q = refl
some-if false false c e o p q = q
some-if true false c e o p q = cc
some-if false true c e o p q = cc

-- An attribute with a number has one where it stands.
number-there : (k : Key) → is_numbered k ≡ true → (ms : List Mark) (es : Exs) → list_all is_right ms ≡ true → are_numbered ms es ≡ true → is_some (number_of k ms es) ≡ has_key k ms
number-there k n [] es r c = refl
number-there k n (flag j ∷ ms) es r c =
    number-there k n ms es (and-right (not (is_numbered j)) (list_all is_right ms) r) c
    ∙ ap (λ b. b || has_key k ms) (sym (other-key k j n (and-left (not (is_numbered j)) (list_all is_right ms) r)))
number-there k n (valued j ∷ ms) no_exs r c = cc
number-there k n (valued j ∷ ms) (more_exs e es) r c =
    some-if (same_key j k) (same_key k j) (has_key k ms) e (number_of k ms es) (same-both j k)
    (number-there k n ms es (and-right (is_numbered j) (list_all is_right ms) r) c)

else-there : (env : Env) (o : Option Ex) (a b : Option ℕ) → Numbered env o a → is_some o ≡ true → or_else a b ≡ a
else-there env None a b h s = cc
else-there env (Some e) None b h s = absurd h
else-there env (Some e) (Some n) b h s = refl

else-absent : (env : Env) (o : Option Ex) (a b : Option ℕ) → Numbered env o a → is_some o ≡ false → or_else a b ≡ b
else-absent env (Some e) a b h s = cc
else-absent env None (Some n) b h s = absurd h
else-absent env None None b h s = refl

-- ---- attributes of constructed domains

-- What is known of the attributes of a domain.
pub record Known (env : Env) (ms : List Mark) (es : Exs) (ks : List Attribute) : Type 0 where
  pub denoted : attributes_of ms (meanings es env) ≡ Some ks
  pub plain : not_below ks ≡ true
  pub right : list_all is_right ms ≡ true
  pub full : are_numbered ms es ≡ true

numbered-by : (env : Env) (ms : List Mark) (es : Exs) (ks : List Attribute) → Known env ms es ks → (k : Key) → Numbered env (number_of k ms es) (attribute k ks)
numbered-by env ms es ks h k = numbers-are env k ms es ks h.denoted h.plain

-- At most so many, where the number isn't known.
most : (env : Env) (ms : List Mark) (es : Exs) (ks : List Attribute) → Known env ms es ks → (k : Key) → is_numbered k ≡ true → (e : Ex) (n : ℕ) → Reads e env (pos n) →
    Numbered env (if has_key k ms then number_of k ms es else Some e) (or_else (attribute k ks) (Some n))
most env ms es ks h k i e n r = go (has_key k ms) refl
  where
    go : (b : Bool) → has_key k ms ≡ b → Numbered env (if b then number_of k ms es else Some e) (or_else (attribute k ks) (Some n))
    go true q =
        subst (Numbered env (number_of k ms es))
        (sym (else-there env (number_of k ms es) (attribute k ks) (Some n) (numbered-by env ms es ks h k) (number-there k i ms es h.right h.full ∙ q))) (numbered-by env ms es ks h k)
    go false q =
        subst (Numbered env (Some e))
        (sym (else-absent env (number_of k ms es) (attribute k ks) (Some n) (numbered-by env ms es ks h k) (number-there k i ms es h.right h.full ∙ q))) r

-- The sizes of a function's pairs, where it is known whether it is total and has a size.
abbrev pair_by : Bool → Bool → List Attribute → ℕ → List Attribute
pair_by t s ks n =
    if t then size_attributes (Some n) (attribute Key.MinSize ks) (attribute Key.MaxSize ks)
    else size_attributes (attribute Key.Size ks) (attribute Key.MinSize ks) (if s then attribute Key.MaxSize ks else or_else (attribute Key.MaxSize ks) (Some n))

pub pairs-denote : (env : Env) (ms : List Mark) (es : Exs) (ks : List Attribute) → Known env ms es ks → (d : Dom) (x : Domain) → Reads (bound_ex d) env (pos (bound x)) →
    let t : List Mark × Exs = three (pairs_size ms es d) (number_of Key.MinSize ms es) (pairs_greatest ms es d) in
    attributes_of t.0 (meanings t.1 env) ≡ Some (pair_sizes ks x)
pairs-denote env ms es ks h d x r =
    go (has_key Key.Total ms) (has_key Key.Size ms) (has_key Key.MaxSize ms) refl
    ∙ ap (λ t. Some (pair_by t (has_key Key.Size ms) ks (bound x))) (sym (same-keys Key.Total ms (meanings es env) ks h.denoted))
    ∙ ap (λ s. Some (pair_by (has Key.Total ks) s ks (bound x))) (sym (same-keys Key.Size ms (meanings es env) ks h.denoted))
  where
    N : (k : Key) → Numbered env (number_of k ms es) (attribute k ks)
    N = numbered-by env ms es ks h

    go : (t s m : Bool) → has_key Key.MaxSize ms ≡ m →
        let y : List Mark × Exs = three (if t then Some (bound_ex d) else number_of Key.Size ms es) (number_of Key.MinSize ms es)
        (if m || (t || s) then number_of Key.MaxSize ms es else Some (bound_ex d)) in
        attributes_of y.0 (meanings y.1 env) ≡ Some (pair_by t s ks (bound x))
    go true s true e = three-attributes env (Some (bound_ex d)) (number_of Key.MinSize ms es) (number_of Key.MaxSize ms es) (Some (bound x)) (attribute Key.MinSize ks) (attribute Key.MaxSize ks) r (N Key.MinSize) (N Key.MaxSize)
    go true s false e = three-attributes env (Some (bound_ex d)) (number_of Key.MinSize ms es) (number_of Key.MaxSize ms es) (Some (bound x)) (attribute Key.MinSize ks) (attribute Key.MaxSize ks) r (N Key.MinSize) (N Key.MaxSize)
    go false true true e = three-attributes env (number_of Key.Size ms es) (number_of Key.MinSize ms es) (number_of Key.MaxSize ms es) (attribute Key.Size ks) (attribute Key.MinSize ks) (attribute Key.MaxSize ks) (N Key.Size) (N Key.MinSize) (N Key.MaxSize)
    go false true false e = three-attributes env (number_of Key.Size ms es) (number_of Key.MinSize ms es) (number_of Key.MaxSize ms es) (attribute Key.Size ks) (attribute Key.MinSize ks) (attribute Key.MaxSize ks) (N Key.Size) (N Key.MinSize) (N Key.MaxSize)
    go false false true e =
        three-attributes env (number_of Key.Size ms es) (number_of Key.MinSize ms es) (number_of Key.MaxSize ms es) (attribute Key.Size ks) (attribute Key.MinSize ks) (or_else (attribute Key.MaxSize ks) (Some (bound x))) (N Key.Size) (N Key.MinSize)
        (subst (λ b. Numbered env (if b then number_of Key.MaxSize ms es else Some (bound_ex d)) (or_else (attribute Key.MaxSize ks) (Some (bound x)))) e (most env ms es ks h Key.MaxSize refl (bound_ex d) (bound x) r))
    go false false false e =
        three-attributes env (number_of Key.Size ms es) (number_of Key.MinSize ms es) (Some (bound_ex d)) (attribute Key.Size ks) (attribute Key.MinSize ks) (or_else (attribute Key.MaxSize ks) (Some (bound x))) (N Key.Size) (N Key.MinSize)
        (subst (λ b. Numbered env (if b then number_of Key.MaxSize ms es else Some (bound_ex d)) (or_else (attribute Key.MaxSize ks) (Some (bound x)))) e (most env ms es ks h Key.MaxSize refl (bound_ex d) (bound x) r))

-- The numbers of a partition's parts, where it is known whether it has one.
abbrev pub parts_by : Bool → List Attribute → ℕ → List Attribute
parts_by s ks n =
    size_attributes (attribute Key.NumParts ks) (attribute Key.MinNumParts ks) (if s then attribute Key.MaxNumParts ks else or_else (attribute Key.MaxNumParts ks) (Some n))

pub parts-denote : (env : Env) (ms : List Mark) (es : Exs) (ks : List Attribute) → Known env ms es ks → (d : Dom) (x : Domain) → Reads (bound_ex d) env (pos (bound x)) →
    let t : List Mark × Exs = three (number_of Key.NumParts ms es) (number_of Key.MinNumParts ms es) (parts_greatest ms es d) in
    attributes_of t.0 (meanings t.1 env) ≡ Some (parts_by (has Key.NumParts ks) ks (bound x))
parts-denote env ms es ks h d x r =
    go (has_key Key.NumParts ms) (has_key Key.MaxNumParts ms) refl
    ∙ ap (λ s. Some (parts_by s ks (bound x))) (sym (same-keys Key.NumParts ms (meanings es env) ks h.denoted))
  where
    N : (k : Key) → Numbered env (number_of k ms es) (attribute k ks)
    N = numbered-by env ms es ks h

    M : Numbered env (if has_key Key.MaxNumParts ms then number_of Key.MaxNumParts ms es else Some (bound_ex d)) (or_else (attribute Key.MaxNumParts ks) (Some (bound x)))
    M = most env ms es ks h Key.MaxNumParts refl (bound_ex d) (bound x) r

    go : (s m : Bool) → has_key Key.MaxNumParts ms ≡ m →
        let y : List Mark × Exs = three (number_of Key.NumParts ms es) (number_of Key.MinNumParts ms es) (if m || s then number_of Key.MaxNumParts ms es else Some (bound_ex d)) in
        attributes_of y.0 (meanings y.1 env) ≡ Some (parts_by s ks (bound x))
    go true true e = three-attributes env (number_of Key.NumParts ms es) (number_of Key.MinNumParts ms es) (number_of Key.MaxNumParts ms es) (attribute Key.NumParts ks) (attribute Key.MinNumParts ks) (attribute Key.MaxNumParts ks) (N Key.NumParts) (N Key.MinNumParts) (N Key.MaxNumParts)
    go true false e = three-attributes env (number_of Key.NumParts ms es) (number_of Key.MinNumParts ms es) (number_of Key.MaxNumParts ms es) (attribute Key.NumParts ks) (attribute Key.MinNumParts ks) (attribute Key.MaxNumParts ks) (N Key.NumParts) (N Key.MinNumParts) (N Key.MaxNumParts)
    go false true e = three-attributes env (number_of Key.NumParts ms es) (number_of Key.MinNumParts ms es) (number_of Key.MaxNumParts ms es) (attribute Key.NumParts ks) (attribute Key.MinNumParts ks) (or_else (attribute Key.MaxNumParts ks) (Some (bound x))) (N Key.NumParts) (N Key.MinNumParts)
        (subst (λ b. Numbered env (if b then number_of Key.MaxNumParts ms es else Some (bound_ex d)) (or_else (attribute Key.MaxNumParts ks) (Some (bound x)))) e M)
    go false false e = three-attributes env (number_of Key.NumParts ms es) (number_of Key.MinNumParts ms es) (Some (bound_ex d)) (attribute Key.NumParts ks) (attribute Key.MinNumParts ks) (or_else (attribute Key.MaxNumParts ks) (Some (bound x))) (N Key.NumParts) (N Key.MinNumParts)
        (subst (λ b. Numbered env (if b then number_of Key.MaxNumParts ms es else Some (bound_ex d)) (or_else (attribute Key.MaxNumParts ks) (Some (bound x)))) e M)

-- ---- marks of constructed domains

three-there : (s a b : Option Ex) (p q r : Bool) → is_some s ≡ p → is_some a ≡ q → is_some b ≡ r → (three s a b).0 ≡ size_marks p q r
three-there s a b p q r e f g = three-marks s a b ∙ ap (λ x. size_marks x (is_some a) (is_some b)) e ∙ ap (λ x. size_marks p x (is_some b)) f ∙ ap (size_marks p q) g

-- Marks that stand as they should, with their numbers.
pub record Whole (ms : List Mark) (es : Exs) : Type 0 where
  pub right : list_all is_right ms ≡ true
  pub full : are_numbered ms es ≡ true

named-by : (ms : List Mark) (es : Exs) → Whole ms es → (k : Key) → is_numbered k ≡ true → is_some (number_of k ms es) ≡ has_key k ms
named-by ms es h k i = number-there k i ms es h.right h.full

pub set-marks : (ms : List Mark) (es : Exs) → Whole ms es →
    (three (number_of Key.Size ms es) (number_of Key.MinSize ms es) (number_of Key.MaxSize ms es)).0 ≡ size_marks (has_key Key.Size ms) (has_key Key.MinSize ms) (has_key Key.MaxSize ms)
set-marks ms es h = three-there (number_of Key.Size ms es) (number_of Key.MinSize ms es) (number_of Key.MaxSize ms es) (has_key Key.Size ms) (has_key Key.MinSize ms) (has_key Key.MaxSize ms)
    (named-by ms es h Key.Size refl) (named-by ms es h Key.MinSize refl) (named-by ms es h Key.MaxSize refl)

pub pair-marks : (ms : List Mark) (es : Exs) (d : Dom) → Whole ms es →
    (three (pairs_size ms es d) (number_of Key.MinSize ms es) (pairs_greatest ms es d)).0
    ≡ size_marks (has_key Key.Total ms || has_key Key.Size ms) (has_key Key.MinSize ms) (has_key Key.MaxSize ms || not (has_key Key.Total ms || has_key Key.Size ms))
pair-marks ms es d h =
    three-there (pairs_size ms es d) (number_of Key.MinSize ms es) (pairs_greatest ms es d) (has_key Key.Total ms || has_key Key.Size ms) (has_key Key.MinSize ms)
    (has_key Key.MaxSize ms || not (has_key Key.Total ms || has_key Key.Size ms))
    (size (has_key Key.Total ms)) (named-by ms es h Key.MinSize refl) (greatest (has_key Key.MaxSize ms) (has_key Key.Total ms || has_key Key.Size ms) (named-by ms es h Key.MaxSize refl))
  where
    size : (t : Bool) → is_some (if t then Some (bound_ex d) else number_of Key.Size ms es) ≡ t || has_key Key.Size ms
    size true = refl
    size false = named-by ms es h Key.Size refl

    greatest : (m s : Bool) → is_some (number_of Key.MaxSize ms es) ≡ m → is_some (if m || s then number_of Key.MaxSize ms es else Some (bound_ex d)) ≡ m || not s
    greatest true s e = e
    greatest false true e = e
    greatest false false e = refl

pub part-marks : (ms : List Mark) (es : Exs) → Whole ms es →
    (three (number_of Key.PartSize ms es) (number_of Key.MinPartSize ms es) (number_of Key.MaxPartSize ms es)).0
    ≡ size_marks (has_key Key.PartSize ms) (has_key Key.MinPartSize ms) (has_key Key.MaxPartSize ms)
part-marks ms es h = three-there (number_of Key.PartSize ms es) (number_of Key.MinPartSize ms es) (number_of Key.MaxPartSize ms es) (has_key Key.PartSize ms) (has_key Key.MinPartSize ms) (has_key Key.MaxPartSize ms)
    (named-by ms es h Key.PartSize refl) (named-by ms es h Key.MinPartSize refl) (named-by ms es h Key.MaxPartSize refl)

pub parts-marks : (ms : List Mark) (es : Exs) (d : Dom) → Whole ms es →
    (three (number_of Key.NumParts ms es) (number_of Key.MinNumParts ms es) (parts_greatest ms es d)).0
    ≡ size_marks (has_key Key.NumParts ms) (has_key Key.MinNumParts ms) (has_key Key.MaxNumParts ms || not (has_key Key.NumParts ms))
parts-marks ms es d h =
    three-there (number_of Key.NumParts ms es) (number_of Key.MinNumParts ms es) (parts_greatest ms es d) (has_key Key.NumParts ms) (has_key Key.MinNumParts ms)
    (has_key Key.MaxNumParts ms || not (has_key Key.NumParts ms))
    (named-by ms es h Key.NumParts refl) (named-by ms es h Key.MinNumParts refl) (greatest (has_key Key.MaxNumParts ms) (has_key Key.NumParts ms) (named-by ms es h Key.MaxNumParts refl))
  where
    greatest : (m s : Bool) → is_some (number_of Key.MaxNumParts ms es) ≡ m → is_some (if m || s then number_of Key.MaxNumParts ms es else Some (bound_ex d)) ≡ m || not s
    greatest true s e = e
    greatest false true e = e
    greatest false false e = refl
