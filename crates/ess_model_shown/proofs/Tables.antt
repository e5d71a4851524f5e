-- What maps with names as keys have for names: where there is no entry nothing stands for it, and what is put stands for its name.
use Rattle.std.proofs.Common.{◌≡◌, refl, sym, ap, ◌∙◌, Bool, true, false, cond, if◌then◌else◌, List, [], ◌∷◌, Option, Some, None, option_map, String, string_bytes}
use Rattle.std.specs.List.{IsDistinct}
use Rattle.std.specs.Map.{lookup, keys_of}
use Rattle.std.specs.Str.{bytes_eq}
use Rattle.std.specs.String.{string_eq}
use Rattle.ess_semantics.specs.Values.{Text}
use Rattle.ess_semantics.specs.Names.{look}
use Rattle.ess_semantics.proofs.Texts.{same_text-bytes, same_text-either, same_text-equal}
use Rattle.indexmap.specs.IndexMap.{insert_entry}
use Rattle.ess_core_nodes.specs.declared.nodes.Node.{Node}
use Rattle.ess_core_nodes.specs.declared.nodes.NodeDom.{NodeDom}
use Rattle.ess_core_nodes.specs.NodeViews.{pure_node, pure_dom}
use Rattle.ess_types_names.specs.Maps.{entries_of, newest_first}
use Rattle.ess_types_names.proofs.Maps.{entry_none, entry_there}
use Rattle.ess_model_shown.specs.Tables.{SameNames}

-- Nodes.
pub node_none : {A : Type 0} (es : List (String A × Node)) (a : Text) → IsDistinct string_eq (keys_of es)
    → None ≡ lookup (λ k. bytes_eq a (string_bytes k)) es → None ≡ look (newest_first pure_node (entries_of es)) a
node_none = entry_none pure_node

-- Domains.
pub dom_none : {A : Type 0} (es : List (String A × NodeDom)) (a : Text) → IsDistinct string_eq (keys_of es)
    → None ≡ lookup (λ k. bytes_eq a (string_bytes k)) es → None ≡ look (newest_first pure_dom (entries_of es)) a
dom_none = entry_none pure_dom

-- ---- one entry put in the place of what was there before

module _ {A V W : Type 0} (f : V → W) where
  looked : (es : List (String A × V)) (a : Text) → IsDistinct string_eq (keys_of es)
      → look (newest_first f (entries_of es)) a ≡ option_map f (lookup (λ k. bytes_eq a (string_bytes k)) es)
  looked es a d = go (lookup (λ k. bytes_eq a (string_bytes k)) es) refl
    where
      go : (o : Option V) → o ≡ lookup (λ k. bytes_eq a (string_bytes k)) es
          → look (newest_first f (entries_of es)) a ≡ option_map f (lookup (λ k. bytes_eq a (string_bytes k)) es)
      go None e = sym (entry_none f es a d e) ∙ ap (option_map f) e
      go (Some t) e = sym (entry_there f es a t t d e refl) ∙ ap (option_map f) e

  -- The bytes of equal keys are equal.
  same_bytes : (k l : String A) → string_eq k l ≡ true → string_bytes k ≡ string_bytes l
  same_bytes k l h = same_text-equal (string_bytes k) (string_bytes l) (same_text-bytes (string_bytes k) (string_bytes l) ∙ h)

  there : (k : String A) (t : V) (a : Text) (e : String A × V) (es : List (String A × V)) (c : Bool) → bytes_eq a (string_bytes e.0) ≡ c
      → string_eq k e.0 ≡ true
      → cond (bytes_eq a (string_bytes e.0)) (Some t) (lookup (λ x. bytes_eq a (string_bytes x)) es)
      ≡ (if bytes_eq a (string_bytes k) then Some t
      else cond (bytes_eq a (string_bytes e.0)) (Some e.1) (lookup (λ x. bytes_eq a (string_bytes x)) es))
  there k t a e es c h s =
      let p : bytes_eq a (string_bytes k) ≡ c = ap (bytes_eq a) (same_bytes k e.0 s) ∙ h in
      ap (λ c. cond c (Some t) (lookup (λ x. bytes_eq a (string_bytes x)) es)) h ∙ go c
      ∙ sym (ap (λ c. if c then Some t
      else cond (bytes_eq a (string_bytes e.0)) (Some e.1) (lookup (λ x. bytes_eq a (string_bytes x)) es)) p
      ∙ ap (λ b. if c then Some t else cond b (Some e.1) (lookup (λ x. bytes_eq a (string_bytes x)) es)) h)
    where
      go : (c : Bool) → cond c (Some t) (lookup (λ x. bytes_eq a (string_bytes x)) es)
          ≡ (if c then Some t else cond c (Some e.1) (lookup (λ x. bytes_eq a (string_bytes x)) es))
      go true = refl
      go false = refl

  kept : (k : String A) (t : V) (a : Text) (es : List (String A × V))
      → lookup (λ x. bytes_eq a (string_bytes x)) (insert_entry string_eq es k t)
      ≡ (if bytes_eq a (string_bytes k) then Some t else lookup (λ x. bytes_eq a (string_bytes x)) es)
  kept k t a [] = go (bytes_eq a (string_bytes k))
    where
      go : (c : Bool) → cond c (Some t) None ≡ (if c then Some t else None)
      go true = refl
      go false = refl
  kept k t a (e ∷ es) = go (string_eq k e.0) refl (kept k t a es)
    where
      away : (c d : Bool) → bytes_eq a (string_bytes k) ≡ c → bytes_eq a (string_bytes e.0) ≡ d → string_eq k e.0 ≡ false
          → cond d (Some e.1) (if c then Some t else lookup (λ x. bytes_eq a (string_bytes x)) es)
          ≡ (if c then Some t else cond d (Some e.1) (lookup (λ x. bytes_eq a (string_bytes x)) es))
      away false true p q h = refl
      away false false p q h = refl
      away true false p q h = refl
      away true true p q h =
          let x : a ≡ string_bytes k = same_text-equal a (string_bytes k) (same_text-bytes a (string_bytes k) ∙ p) in
          let z : bytes_eq (string_bytes k) (string_bytes e.0) ≡ true = ap (λ y. bytes_eq y (string_bytes e.0)) (sym x) ∙ q in
          cc

      go : (b : Bool) → string_eq k e.0 ≡ b
          → lookup (λ x. bytes_eq a (string_bytes x)) (insert_entry string_eq es k t)
          ≡ (if bytes_eq a (string_bytes k) then Some t else lookup (λ x. bytes_eq a (string_bytes x)) es)
          → lookup (λ x. bytes_eq a (string_bytes x)) (if b then (e.0, t) ∷ es else e ∷ insert_entry string_eq es k t)
          ≡ cond (bytes_eq a (string_bytes k)) (Some t)
          (cond (bytes_eq a (string_bytes e.0)) (Some e.1) (lookup (λ x. bytes_eq a (string_bytes x)) es))
      go true h ih = there k t a e es (bytes_eq a (string_bytes e.0)) refl h
      go false h ih =
          ap (λ o. cond (bytes_eq a (string_bytes e.0)) (Some e.1) o) ih
          ∙ away (bytes_eq a (string_bytes k)) (bytes_eq a (string_bytes e.0)) refl refl h

  -- What is put stands for its name, and the others stay.
  pub entry_put : (es fs : List (String A × V)) (k : String A) (b : Text) (t : V) → IsDistinct string_eq (keys_of es)
      → IsDistinct string_eq (keys_of fs) → string_bytes k ≡ b → fs ≡ insert_entry string_eq es k t
      → SameNames (newest_first f (entries_of fs)) ((b, f t) ∷ newest_first f (entries_of es))
  entry_put es fs k b t d c p q a =
      looked fs a c ∙ ap (λ l. option_map f (lookup (λ x. bytes_eq a (string_bytes x)) l)) q ∙ ap (option_map f) (kept k t a es)
      ∙ go (bytes_eq a (string_bytes k)) refl
    where
      go : (c : Bool) → bytes_eq a (string_bytes k) ≡ c
          → option_map f (if c then Some t else lookup (λ x. bytes_eq a (string_bytes x)) es)
          ≡ look ((b, f t) ∷ newest_first f (entries_of es)) a
      go true h =
          sym (ap (λ s. if s then Some (f t) else look (newest_first f (entries_of es)) a)
          (same_text-either b a ∙ same_text-bytes a b ∙ ap (bytes_eq a) (sym p) ∙ h))
      go false h =
          sym (looked es a d)
          ∙ sym (ap (λ s. if s then Some (f t) else look (newest_first f (entries_of es)) a)
          (same_text-either b a ∙ same_text-bytes a b ∙ ap (bytes_eq a) (sym p) ∙ h))
