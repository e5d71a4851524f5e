-- What a set has for a name, where its keys are seen as a list of names, the newest first.
use Rattle.std.proofs.Common.{◌≡◌, refl, sym, ap, ◌∙◌, Bool, true, false, ◌||◌, if◌then◌else◌, List, [], ◌∷◌, ◌++◌, map, reverse, Some, is_some, String, string_bytes}
use Rattle.std.proofs.lemmas.List.{reverse-append, map-append}
use Rattle.std.proofs.lemmas.List.Folds.{list_any-append}
use Rattle.std.specs.List.{list_any}
use Rattle.std.specs.Str.{bytes_eq}
use Rattle.std.specs.String.{string_eq}
use Rattle.indexmap.specs.IndexSet.{insert_key}
use Rattle.ess_semantics.specs.Values.{Text}
use Rattle.ess_semantics.specs.Names.{Names, look, keys, is_among}
use Rattle.ess_semantics.specs.Order.{same_text}
use Rattle.ess_semantics.proofs.Texts.{same_text-bytes, same_text-either}
use Rattle.ess_types_scopes.specs.Sets.{newest_names}

-- A name is a key of a map where the map has something for it.
pub keys_look : {A : Type 0} (ns : Names A) (a : Text) → is_among (keys ns) a ≡ is_some (look ns a)
keys_look [] a = refl
keys_look (n ∷ ns) a = ap (λ b. same_text n.0 a || b) (keys_look ns a) ∙ go (same_text n.0 a)
  where
    go : (b : Bool) → b || is_some (look ns a) ≡ is_some (if b then Some n.1 else look ns a)
    go true = refl
    go false = refl

-- One more key is the newest name.
newest-pushed : {A : Type 0} (ks : List (String A)) (k : String A) → newest_names (ks ++ k ∷ []) ≡ string_bytes k ∷ newest_names ks
newest-pushed ks k = ap reverse (map-append string_bytes ks (k ∷ [])) ∙ reverse-append (map string_bytes ks) (string_bytes k ∷ [])

-- The first key is the oldest name.
newest-oldest : {A : Type 0} (k : String A) (ks : List (String A)) → newest_names (k ∷ ks) ≡ newest_names ks ++ string_bytes k ∷ []
newest-oldest k ks = reverse-append (string_bytes k ∷ []) (map string_bytes ks)

or-turned : (b c : Bool) → b || (c || false) ≡ c || b
or-turned true true = refl
or-turned true false = refl
or-turned false true = refl
or-turned false false = refl

-- A name is among those of a set where the set has its bytes.
pub has_name : {A : Type 0} (ks : List (String A)) (a : Text) → list_any (λ k. bytes_eq a (string_bytes k)) ks ≡ is_among (newest_names ks) a
has_name [] a = refl
has_name (k ∷ ks) a =
    ap (λ b. bytes_eq a (string_bytes k) || b) (has_name ks a)
    ∙ ap (λ b. b || is_among (newest_names ks) a) (sym (same_text-bytes a (string_bytes k)) ∙ same_text-either a (string_bytes k))
    ∙ sym (or-turned (is_among (newest_names ks) a) (same_text (string_bytes k) a))
    ∙ sym (list_any-append (λ n. same_text n a) (newest_names ks) (string_bytes k ∷ []))
    ∙ sym (ap (λ l. is_among l a) (newest-oldest k ks))

-- A name that isn't there is put in front of the others.
pub name_inserted : {A : Type 0} (ks ls : List (String A)) (k : String A) (a : Text) → is_among (newest_names ks) a ≡ false → string_bytes k ≡ a
    → ls ≡ insert_key string_eq ks k → newest_names ls ≡ a ∷ newest_names ks
name_inserted ks ls k a h q p =
    ap newest_names (p ∙ ap (λ b. if b then ks else ks ++ k ∷ []) (has_name ks (string_bytes k) ∙ ap (is_among (newest_names ks)) q ∙ h))
    ∙ newest-pushed ks k ∙ ap (λ b. b ∷ newest_names ks) q
