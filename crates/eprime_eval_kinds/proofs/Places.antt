-- Declarations found by name: the first of a name counts.
use Rattle.std.proofs.Common.{◌≡◌, refl, sym, ap, ◌∙◌, subst, ℕ, suc, ◌+◌, ◌<◌, ◌≤◌, Bool, true, false, cond, if◌then◌else◌, List, [], ◌∷◌, ◌++◌, length, take, get_or, Option, Some, None, option_map, String, string_bytes, arith, length-take-le}
use Rattle.std.specs.Map.{lookup}
use Rattle.std.specs.Str.{bytes_eq}
use Rattle.indexmap.specs.IndexMap.{insert_entry}
use Rattle.std.specs.String.{string_eq}
use Rattle.std.proofs.lemmas.List.{take_more, take_all}
use Rattle.ess_semantics.specs.Values.{Text}
use Rattle.ess_semantics.specs.Order.{same_text}
use Rattle.ess_semantics.proofs.Texts.{same_text-bytes, same_text-either, same_text-equal, same_text-itself}
use Rattle.eprime_eval_kinds.specs.declared.declared.Shape.{Shape}
use Rattle.eprime_eval_kinds.specs.Shapes.{first_place}
use Rattle.eprime_eval_kinds.specs.Places.{Places, Noted, first_of}

-- Where a name is among shapes with one more behind.
place-behind : (ss : List Shape) (s : Shape) (a : Text)
    → first_place (ss ++ s ∷ []) a ≡ first_of (first_place ss a) (if same_text s.name a then Some (length ss) else None)
place-behind [] s a = refl
place-behind (t ∷ ss) s a = go (same_text t.name a) (same_text s.name a) (first_place ss a) (place-behind ss s a)
  where
    go : (b c : Bool) (o : Option ℕ) → first_place (ss ++ s ∷ []) a ≡ first_of o (if c then Some (length ss) else None)
        → (if b then Some 0 else option_map suc (first_place (ss ++ s ∷ []) a))
        ≡ first_of (if b then Some 0 else option_map suc o) (if c then Some (suc (length ss)) else None)
    go true c o h = refl
    go false true None h = ap (option_map suc) h
    go false false None h = ap (option_map suc) h
    go false c (Some n) h = ap (option_map suc) h

bytes-equal : (a b : Text) → bytes_eq a b ≡ true → a ≡ b
bytes-equal a b e = same_text-equal a b (same_text-bytes a b ∙ e)

-- What a map has with one entry more.
lookup-inserted : {A : Type 0} (es : List (String A × ℕ)) (k : String A) (n : ℕ) (a : Text)
    → lookup (λ k. bytes_eq a (string_bytes k)) (insert_entry string_eq es k n)
    ≡ cond (bytes_eq a (string_bytes k)) (Some n) (lookup (λ k. bytes_eq a (string_bytes k)) es)
lookup-inserted [] k n a = refl
lookup-inserted {A} (e ∷ es) k n a = go (string_eq k e.0) refl (lookup-inserted es k n a)
  where
    old : Option ℕ
    old = lookup (λ k. bytes_eq a (string_bytes k)) es

    same : (b c : Bool) → c ≡ b → cond b (Some n) old ≡ cond c (Some n) (cond b (Some e.1) old)
    same true true h = refl
    same true false h = cc
    same false true h = cc
    same false false h = refl

    other : (b c : Bool) → bytes_eq a (string_bytes e.0) ≡ b → bytes_eq a (string_bytes k) ≡ c → string_eq k e.0 ≡ false
        → cond b (Some e.1) (cond c (Some n) old) ≡ cond c (Some n) (cond b (Some e.1) old)
    other true true h i j =
        let q : string_bytes k ≡ string_bytes e.0 = sym (bytes-equal a (string_bytes k) i) ∙ bytes-equal a (string_bytes e.0) h in
        let y : string_eq k e.0 ≡ true = sym (same_text-bytes (string_bytes k) (string_bytes e.0)) ∙ ap (same_text (string_bytes k)) (sym q)
        ∙ same_text-itself (string_bytes k) in
        cc
    other true false h i j = refl
    other false true h i j = refl
    other false false h i j = refl

    go : (b : Bool) → string_eq k e.0 ≡ b
        → lookup (λ k. bytes_eq a (string_bytes k)) (insert_entry string_eq es k n) ≡ cond (bytes_eq a (string_bytes k)) (Some n) old
        → lookup (λ k. bytes_eq a (string_bytes k)) (if b then (e.0, n) ∷ es else e ∷ insert_entry string_eq es k n)
        ≡ cond (bytes_eq a (string_bytes k)) (Some n) (cond (bytes_eq a (string_bytes e.0)) (Some e.1) old)
    go true h ih = same (bytes_eq a (string_bytes e.0)) (bytes_eq a (string_bytes k))
        (ap (bytes_eq a) (bytes-equal (string_bytes k) (string_bytes e.0) h))
    go false h ih =
        ap (cond (bytes_eq a (string_bytes e.0)) (Some e.1)) ih
        ∙ other (bytes_eq a (string_bytes e.0)) (bytes_eq a (string_bytes k)) refl refl h

-- ---- the map of a row

-- None.
pub places_none : {A : Type 0} (es : List (String A × ℕ)) → es ≡ [] → Places [] es
places_none es e = λ a. ap (lookup (λ k. bytes_eq a (string_bytes k))) e

-- The number of a new name.
pub noted_new : {A : Type 0} (es fs : List (String A × ℕ)) (k : String A) (name : Text) (n : ℕ) → string_bytes k ≡ name
    → lookup (λ k. bytes_eq name (string_bytes k)) es ≡ None → fs ≡ insert_entry string_eq es k n → Noted name n es fs
noted_new es fs k name n q m e = λ a.
    ap (lookup (λ k. bytes_eq a (string_bytes k))) e ∙ lookup-inserted es k n a
    ∙ ap (λ b. cond (bytes_eq a b) (Some n) (lookup (λ k. bytes_eq a (string_bytes k)) es)) q
    ∙ ap (λ b. cond b (Some n) (lookup (λ k. bytes_eq a (string_bytes k)) es)) (sym (same_text-bytes a name) ∙ same_text-either a name)
    ∙ go a (same_text name a) refl (lookup (λ k. bytes_eq a (string_bytes k)) es) refl
  where
    go : (a : Text) (b : Bool) → same_text name a ≡ b → (o : Option ℕ) → lookup (λ k. bytes_eq a (string_bytes k)) es ≡ o
        → cond b (Some n) o ≡ first_of o (if b then Some n else None)
    go a true e None f = refl
    go a true e (Some k) f =
        let h : lookup (λ k. bytes_eq a (string_bytes k)) es ≡ None =
        ap (λ b. lookup (λ k. bytes_eq b (string_bytes k)) es) (sym (same_text-equal name a e)) ∙ m in
        cc
    go a false e None f = refl
    go a false e (Some k) f = refl

-- A name that has one keeps it.
pub noted_old : {A : Type 0} (es : List (String A × ℕ)) (name : Text) (n m : ℕ) → Some m ≡ lookup (λ k. bytes_eq name (string_bytes k)) es
    → Noted name n es es
noted_old es name n m e = λ a. go a (same_text name a) refl (lookup (λ k. bytes_eq a (string_bytes k)) es) refl
  where
    go : (a : Text) (b : Bool) → same_text name a ≡ b → (o : Option ℕ) → lookup (λ k. bytes_eq a (string_bytes k)) es ≡ o
        → o ≡ first_of o (if b then Some n else None)
    go a true h None f =
        let q : lookup (λ k. bytes_eq a (string_bytes k)) es ≡ Some m =
        ap (λ b. lookup (λ k. bytes_eq b (string_bytes k)) es) (sym (same_text-equal name a h)) ∙ sym e in
        cc
    go a true h (Some k) f = refl
    go a false h None f = refl
    go a false h (Some k) f = refl

-- The next of a row.
pub places_more : {A : Type 0} (ss : List Shape) (n : ℕ) (s : Shape) (es fs : List (String A × ℕ)) → n < length ss → s ≡ get_or ss n s
    → Places (take n ss) es → Noted s.name n es fs
    → Places (take (n + 1) ss) fs
places_more ss n s es fs lt at p q = λ a.
    q a ∙ ap (λ o. first_of o (if same_text s.name a then Some n else None)) (p a)
    ∙ ap (λ m. first_of (first_place (take n ss) a) (if same_text s.name a then Some m else None)) (sym (length-take-le n ss (omega arith)))
    ∙ sym (place-behind (take n ss) s a)
    ∙ ap (λ l. first_place l a) (sym (take_more ss n s lt ∙ ap (λ y. take n ss ++ y ∷ []) (sym at)))

-- All of a row.
pub places_all : {A : Type 0} (ss : List Shape) (n : ℕ) (es : List (String A × ℕ)) → length ss ≤ n → Places (take n ss) es → Places ss es
places_all ss n es le p = subst (λ l. Places l es) (take_all n ss le) p
