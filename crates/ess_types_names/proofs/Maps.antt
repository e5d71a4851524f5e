-- What a map with names as keys has for a name, where its entries are seen as a list of names, the newest first.
use Rattle.std.proofs.Common.{◌≡◌, refl, sym, ap, ◌∙◌, Bool, true, false, cond, if◌then◌else◌, List, [], ◌∷◌, ◌++◌, map, reverse, Option, Some, None, option_map, String, string_bytes}
use Rattle.std.proofs.lemmas.List.{reverse-append, map-append}
use Rattle.std.specs.List.{IsDistinct, AllByRecursion}
use Rattle.std.specs.Map.{lookup, keys_of}
use Rattle.std.specs.Str.{bytes_eq}
use Rattle.indexmap.specs.IndexMap.{insert_entry}
use Rattle.std.specs.String.{string_eq}
use Rattle.ess_semantics.specs.Values.{Text}
use Rattle.ess_semantics.specs.Names.{Names, look}
use Rattle.ess_semantics.specs.Order.{same_text}
use Rattle.ess_semantics.proofs.Texts.{same_text-bytes, same_text-either, same_text-equal}
use Rattle.ess_types_names.specs.Maps.{entries_of, newest_first}

-- ---- two maps, one in front of the other

-- The first of two that is there.
abbrev pub first_of : {A : Type 0} → Option A → Option A → Option A
first_of None o = o
first_of (Some x) o = Some x

-- What two maps have for a name, one in front of the other.
pub look-append : {A : Type 0} (xs ys : Names A) (a : Text) → look (xs ++ ys) a ≡ first_of (look xs a) (look ys a)
look-append [] ys a = refl
look-append (x ∷ xs) ys a = go (same_text x.0 a) (look-append xs ys a)
  where
    go : (b : Bool) → look (xs ++ ys) a ≡ first_of (look xs a) (look ys a)
        → (if b then Some x.1 else look (xs ++ ys) a) ≡ first_of (if b then Some x.1 else look xs a) (look ys a)
    go true e = refl
    go false e = e

first_of-none : {A : Type 0} (o : Option A) → first_of o None ≡ o
first_of-none None = refl
first_of-none (Some x) = refl

-- The first is the last of the list turned.
pub reverse-cons : {A : Type 0} (x : A) (xs : List A) → reverse (x ∷ xs) ≡ reverse xs ++ x ∷ []
reverse-cons x xs = reverse-append (x ∷ []) xs

-- ---- entries

module _ {A V W : Type 0} (f : V → W) where
  -- The entries as names, the oldest first.
  abbrev pub oldest_first : List (String A × V) → Names W
  oldest_first es = map (λ n. (n.0, f n.1)) (entries_of es)

  -- What is found by a name's bytes.
  oldest_first-look : (es : List (String A × V)) (a : Text) → look (oldest_first es) a ≡ option_map f (lookup (λ k. bytes_eq a (string_bytes k)) es)
  oldest_first-look [] a = refl
  oldest_first-look (e ∷ es) a =
      ap (λ b. if b then Some (f e.1) else look (oldest_first es) a) (same_text-either (string_bytes e.0) a ∙ same_text-bytes a (string_bytes e.0))
      ∙ go (bytes_eq a (string_bytes e.0)) (oldest_first-look es a)
    where
      go : (b : Bool) → look (oldest_first es) a ≡ option_map f (lookup (λ k. bytes_eq a (string_bytes k)) es)
          → (if b then Some (f e.1) else look (oldest_first es) a) ≡ option_map f (cond b (Some e.1) (lookup (λ k. bytes_eq a (string_bytes k)) es))
      go true h = refl
      go false h = h

  -- A name that differs from all isn't found.
  oldest_first-none : (k : String A) (es : List (String A × V)) → AllByRecursion (λ y. string_eq k y ≡ false) (keys_of es)
      → look (oldest_first es) (string_bytes k) ≡ None
  oldest_first-none k [] h = refl
  oldest_first-none k (e ∷ es) h =
      ap (λ b. if b then Some (f e.1) else look (oldest_first es) (string_bytes k)) (same_text-either (string_bytes e.0) (string_bytes k) ∙ same_text-bytes (string_bytes k) (string_bytes e.0) ∙ h.0)
      ∙ oldest_first-none k es h.1

  -- Where no name stands twice, it doesn't matter from which side they are looked through.
  newest_first-look : (es : List (String A × V)) → IsDistinct string_eq (keys_of es) → (a : Text) → look (newest_first f (entries_of es)) a ≡ look (oldest_first es) a
  unfolding IsDistinct
  newest_first-look [] d a = refl
  newest_first-look (e ∷ es) d a =
      ap (λ l. look l a) (reverse-cons (string_bytes e.0, f e.1) (oldest_first es))
      ∙ look-append (newest_first f (entries_of es)) ((string_bytes e.0, f e.1) ∷ []) a
      ∙ ap (λ o. first_of o (if same_text (string_bytes e.0) a then Some (f e.1) else None)) (newest_first-look es d.1 a)
      ∙ go (same_text (string_bytes e.0) a) refl
    where
      go : (b : Bool) → same_text (string_bytes e.0) a ≡ b
          → first_of (look (oldest_first es) a) (if b then Some (f e.1) else None) ≡ (if b then Some (f e.1) else look (oldest_first es) a)
      go true h =
          ap (λ o. first_of o (Some (f e.1))) (ap (look (oldest_first es)) (sym (same_text-equal (string_bytes e.0) a h)) ∙ oldest_first-none e.0 es d.0)
      go false h = first_of-none (look (oldest_first es) a)

  entries-look : (es : List (String A × V)) (a : Text) → IsDistinct string_eq (keys_of es)
      → look (newest_first f (entries_of es)) a ≡ option_map f (lookup (λ k. bytes_eq a (string_bytes k)) es)
  entries-look es a d = newest_first-look es d a ∙ oldest_first-look es a

  -- What a name has is what the map has for its bytes.
  pub entry_there : (es : List (String A × V)) (a : Text) (t u : V) → IsDistinct string_eq (keys_of es) → Some t ≡ lookup (λ k. bytes_eq a (string_bytes k)) es → u ≡ t
      → Some (f u) ≡ look (newest_first f (entries_of es)) a
  entry_there es a t u d e p = ap (λ v. Some (f v)) p ∙ ap (option_map f) e ∙ sym (entries-look es a d)

  -- Without an entry there is nothing.
  pub entry_none : (es : List (String A × V)) (a : Text) → IsDistinct string_eq (keys_of es) → None ≡ lookup (λ k. bytes_eq a (string_bytes k)) es
      → None ≡ look (newest_first f (entries_of es)) a
  entry_none es a d e = ap (option_map f) e ∙ sym (entries-look es a d)

  -- A name that isn't there is put behind the others.
  pub entry_inserted : (es fs : List (String A × V)) (k : String A) (a : Text) (t : V) → IsDistinct string_eq (keys_of es)
      → look (newest_first f (entries_of es)) a ≡ None → string_bytes k ≡ a → fs ≡ insert_entry string_eq es k t
      → entries_of fs ≡ entries_of es ++ (a, t) ∷ []
  entry_inserted es fs k a t d e q p =
      ap entries_of p ∙ go es (sym (newest_first-look es d (string_bytes k)) ∙ ap (look (newest_first f (entries_of es))) q ∙ e) ∙ ap (λ b. entries_of es ++ (b, t) ∷ []) q
    where
      step : (e : String A × V) (es : List (String A × V)) (b : Bool) → (look (oldest_first es) (string_bytes k) ≡ None → entries_of (insert_entry string_eq es k t) ≡ entries_of es ++ (string_bytes k, t) ∷ [])
          → (if b then Some (f e.1) else look (oldest_first es) (string_bytes k)) ≡ None
          → entries_of (if b then (e.0, t) ∷ es else e ∷ insert_entry string_eq es k t) ≡ (string_bytes e.0, e.1) ∷ (entries_of es ++ (string_bytes k, t) ∷ [])
      step e es true ih h = cc
      step e es false ih h = ap (λ l. (string_bytes e.0, e.1) ∷ l) (ih h)

      go : (es : List (String A × V)) → look (oldest_first es) (string_bytes k) ≡ None → entries_of (insert_entry string_eq es k t) ≡ entries_of es ++ (string_bytes k, t) ∷ []
      go [] h = refl
      go (e ∷ es) h =
          step e es (string_eq k e.0) (go es)
          (sym (ap (λ b. if b then Some (f e.1) else look (oldest_first es) (string_bytes k)) (same_text-either (string_bytes e.0) (string_bytes k) ∙ same_text-bytes (string_bytes k) (string_bytes e.0))) ∙ h)

-- One more name is the newest.
pub newest_pushed : {V W : Type 0} (f : V → W) (ns : List (Text × V)) (a : Text) (v : V) → newest_first f (ns ++ (a, v) ∷ []) ≡ (a, f v) ∷ newest_first f ns
newest_pushed {V} {W} f ns a v = ap reverse (map-append g ns ((a, v) ∷ [])) ∙ reverse-append (map g ns) ((a, f v) ∷ [])
  where
    g : Text × V → Text × W
    g n = (n.0, f n.1)
