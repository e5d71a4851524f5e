-- Values by names: maps that are made of names, names that are too many, and when two maps are one.
use Rattle.std.proofs.Common.{◌≡◌, refl, sym, ap, ◌∙◌, Bool, true, false, ◌||◌, not, if◌then◌else◌, List, [], ◌∷◌, map, ◌⊎◌, inl, inr, Option, Some, None, is_some}
use Rattle.ess_semantics.specs.Lists.{and_then}
use Rattle.ess_semantics.specs.Values.{Text, Value}
use Rattle.ess_semantics.specs.Order.{same_text}
use Rattle.ess_semantics.specs.Names.{Names, look, keys, is_among, all_distinct}
use Rattle.ess_semantics.specs.Parameters.{first_extra_value}
use Rattle.ess_semantics.proofs.Tests.{and-left, and-right, not-true, or-left-no, or-right-no}
use Rattle.ess_semantics.proofs.Texts.{same_text-equal, same_text-itself, same_text-either}
use Rattle.ess_semantics.specs.Contexts.{Each}
use Rattle.conjure_laws.specs.Members.{In}

-- An option has one value.
pub one-of : {A : Type 0} (x y : A) (o : Option A) → o ≡ Some x → o ≡ Some y → x ≡ y
one-of x y o e f = let z : Some x ≡ Some y = sym e ∙ f in cc

-- It has one where it is said to.
pub found : {A : Type 0} (o : Option A) → is_some o ≡ true → (x : A) × (o ≡ Some x)
found None e = cc
found (Some x) e = (x, refl)

-- What a map made of names has for one of them.
pub look-made : {A : Type 0} (F : Text → A) (xs : List Text) (x : Text) → In x xs → look (map (λ y. (y, F y)) xs) x ≡ Some (F x)
look-made F [] x i = absurd i
look-made {A = A} F (y ∷ xs) x i = go (same_text y x) refl i (look-made F xs x)
  where
    go : (b : Bool) → same_text y x ≡ b → (x ≡ y) ⊎ In x xs → (In x xs → look (map (λ z. (z, F z)) xs) x ≡ Some (F x)) →
        (if b then Some (F y) else look (map (λ z. (z, F z)) xs) x) ≡ Some (F x)
    go true e i k = ap (λ z. Some (F z)) (same_text-equal y x e)
    go false e (inl j) k = let z : false ≡ true = sym e ∙ ap (λ z. same_text z x) (sym j) ∙ same_text-itself x in cc
    go false e (inr j) k = k j

-- Its names are those that it is made of.
pub keys-made : {A : Type 0} (F : Text → A) (xs : List Text) → keys (map (λ y. (y, F y)) xs) ≡ xs
keys-made F [] = refl
keys-made F (x ∷ xs) = ap (λ l. x ∷ l) (keys-made F xs)

-- Where each name is a given and none stands twice, no value is too many.
pub no-extra : (gs : List Text) (bs : Names (Option Value)) (done : List Text) → Each (keys bs) (λ k. is_among gs k ≡ true) →
    Each (keys bs) (λ k. is_among done k ≡ false) → all_distinct (keys bs) ≡ true →
    first_extra_value gs bs done ≡ None
no-extra gs [] done g n d = refl
no-extra gs (b ∷ bs) done g n d =
    ap (λ c. if c then Some b.0 else first_extra_value gs bs (b.0 ∷ done)) (ap (λ x. x || not (is_among gs b.0)) n.0 ∙ ap not g.0)
    ∙ no-extra gs bs (b.0 ∷ done) g.1 (later (keys bs) (not-true _
    (and-left (not (is_among (keys bs) b.0)) (all_distinct (keys bs)) d))
    n.1) (and-right (not (is_among (keys bs) b.0)) (all_distinct (keys bs)) d)
  where
    later : (ks : List Text) → is_among ks b.0 ≡ false → Each ks (λ k. is_among done k ≡ false) →
        Each ks (λ k. is_among (b.0 ∷ done) k ≡ false)
    later [] e h = tt
    later (k ∷ ks) e h = (
      ap (λ x. x || is_among done k) (same_text-either b.0 k ∙ or-left-no (same_text k b.0) (is_among ks b.0) e)
          ∙ h.0,
      later ks (or-right-no (same_text k b.0) (is_among ks b.0) e) h.1,
    )

-- The value of a name.
abbrev pub value_in : Names (Option Value) → Text → Option Value
value_in g x = and_then (look g x) (λ o. o)

-- Maps with one list of names and one value for each are one.
pub one-map : (g h : Names (Option Value)) → keys g ≡ keys h → all_distinct (keys g) ≡ true →
    Each (keys g) (λ x. (v : Value) × (value_in g x ≡ Some v) × (value_in h x ≡ Some v)) → g ≡ h
one-map [] [] e d f = refl
one-map [] (b ∷ h) e d f = cc
one-map (b ∷ g) [] e d f = cc
one-map (b ∷ g) (c ∷ h) e d f =
    let k : b.0 ≡ c.0 = cc in
    let ks : keys g ≡ keys h = cc in
    let n = not-true _ (and-left (not (is_among (keys g) b.0)) (all_distinct (keys g)) d) in
    let hb : value_in (b ∷ g) b.0 ≡ b.1 = ap (λ t. and_then (if t then Some b.1 else look g b.0) (λ o. o)) (same_text-itself b.0) in
    let hc : value_in (c ∷ h) b.0 ≡ c.1 = ap (λ t. and_then (if t then Some c.1 else look h b.0) (λ o. o))
    (ap (λ z. same_text z b.0) (sym k) ∙ same_text-itself b.0) in
    let v : b.1 ≡ c.1 = sym hb ∙ f.0.1 ∙ sym f.0.2 ∙ hc in
    ap (λ x. (x, b.1) ∷ g) k ∙ ap (λ x. (c.0, x) ∷ g) v
    ∙ ap (λ l. c ∷ l) (one-map g h ks (and-right (not (is_among (keys g) b.0)) (all_distinct (keys g)) d) (later (keys g) n k f.1))
  where
    later : (ks : List Text) → is_among ks b.0 ≡ false → b.0 ≡ c.0 →
        Each ks (λ x. (v : Value) × (value_in (b ∷ g) x ≡ Some v) × (value_in (c ∷ h) x ≡ Some v)) →
        Each ks (λ x. (v : Value) × (value_in g x ≡ Some v) × (value_in h x ≡ Some v))
    later [] e k f = tt
    later (x ∷ ks) e k f =
        let m : same_text b.0 x ≡ false = same_text-either b.0 x ∙ or-left-no (same_text x b.0) (is_among ks b.0) e in (
          (
            f.0.0,
            sym (ap (λ t. and_then (if t then Some b.1 else look g x) (λ o. o)) m)
                ∙ f.0.1,
            sym (ap (λ t. and_then (if t then Some c.1 else look h x) (λ o. o)) (ap (λ z. same_text z x) (sym k) ∙ m)) ∙ f.0.2,
          ),
          later ks (or-right-no (same_text x b.0) (is_among ks b.0) e) k f.1,
        )

-- A map without names is empty.
pub no-keys : {A : Type 0} (bs : Names A) → keys bs ≡ [] → bs ≡ []
no-keys [] e = refl
no-keys (b ∷ bs) e = cc
