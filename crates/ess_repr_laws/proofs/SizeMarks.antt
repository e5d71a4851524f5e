-- The rule on the sizes of a child stands twice: as marks, which say which attributes a domain has, and as attributes with their
-- numbers. Of a domain with these attributes the child's keys are the same by both.
use Rattle.std.specs.Prelude.{is_some}
use Rattle.std.proofs.Common.{◌≡◌, refl, ap, ◌∙◌, ℕ, Bool, true, false, ◌||◌, not, if◌then◌else◌, List, [], ◌∷◌, map, ℤ, Option, Some, None, option_map}
use Rattle.ess_semantics.specs.declared.words.Key.{Key}
use Rattle.ess_semantics.specs.Lists.{and_then, or_else}
use Rattle.ess_semantics.specs.Values.{Value}
use Rattle.ess_semantics.specs.Trees.{Mark, flag, valued, Dom, Doms, set_dom, relation_dom}
use Rattle.ess_semantics.specs.Domains.{Attribute, numbered, flagged, Domain, Domains, sets, attribute, has, key_of_attribute, same_key}
use Rattle.ess_semantics.specs.Kinds.{key_of, has_key, size_marks, child_relation_form, child_set_form, child_parts_form}
use Rattle.ess_semantics.specs.Meaning.{as_int, attributes_of}
use Rattle.ess_semantics.specs.Sizes.{bound, size_attributes, child_relation, child_set, child_parts}
use Rattle.ess_repr_laws.proofs.CanonicalConversions.{keys_of}

-- The marks of a set or relation.
abbrev pub marks_of : Dom → List Mark
marks_of (set_dom ms es d) = ms
marks_of (relation_dom ms es ds) = ms
marks_of d = []

-- The inner domain of a set.
abbrev pub inner_dom : Dom → Dom
inner_dom (set_dom ms es d) = d
inner_dom d = d

-- The same of a domain.
abbrev pub inner_domain : Domain → Domain
inner_domain (sets ks d) = d
inner_domain d = d

-- An attribute stands among the attributes where its mark does.
pub same-keys : (k : Key) (ms : List Mark) (os : List (Option Value)) (ks : List Attribute) → attributes_of ms os ≡ Some ks → has k ks ≡ has_key k ms
same-keys k [] [] ks e = let q : ks ≡ [] = cc in ap (has k) q
same-keys k [] (o ∷ os) ks e = cc
same-keys k (flag j ∷ ms) os ks e = go (attributes_of ms os) refl e (λ ls p. same-keys k ms os ls p)
  where
    go : (o : Option (List Attribute)) → attributes_of ms os ≡ o → option_map (λ xs. flagged j ∷ xs) o ≡ Some ks → ((ls : List Attribute) → attributes_of ms os ≡ Some ls → has k ls ≡ has_key k ms) → has k ks ≡ has_key k (flag j ∷ ms)
    go None p e ih = cc
    go (Some ls) p e ih = let q : ks ≡ flagged j ∷ ls = cc in ap (has k) q ∙ ap (λ b. same_key k j || b) (ih ls p)
same-keys k (valued j ∷ ms) [] ks e = cc
same-keys k (valued j ∷ ms) (v ∷ os) ks e = go (as_int v) (attributes_of ms os) refl e (λ ls p. same-keys k ms os ls p)
  where
    go : (a : Option ℤ) (o : Option (List Attribute)) → attributes_of ms os ≡ o → and_then a (λ z. option_map (λ xs. numbered j z ∷ xs) o) ≡ Some ks →
        ((ls : List Attribute) → attributes_of ms os ≡ Some ls → has k ls ≡ has_key k ms) → has k ks ≡ has_key k (valued j ∷ ms)
    go None o p e ih = cc
    go (Some z) None p e ih = cc
    go (Some z) (Some ls) p e ih = let q : ks ≡ numbered j z ∷ ls = cc in ap (has k) q ∙ ap (λ b. same_key k j || b) (ih ls p)

-- An attribute of size stands with a number.
abbrev pub HasNumber : List Attribute → Key → Type 0
HasNumber ks k = is_some (attribute k ks) ≡ has k ks

sizes-keys : (s a b : Option ℕ) → map key_of_attribute (size_attributes s a b) ≡ map key_of (size_marks (is_some s) (is_some a) (is_some b))
sizes-keys None None None = refl
sizes-keys None None (Some n) = refl
sizes-keys None (Some n) None = refl
sizes-keys None (Some n) (Some m) = refl
sizes-keys (Some n) None None = refl
sizes-keys (Some n) None (Some m) = refl
sizes-keys (Some n) (Some m) None = refl
sizes-keys (Some n) (Some m) (Some o) = refl

-- The keys of sizes, where each is known to be there or not.
sized : (s a b : Option ℕ) (s' a' b' : Bool) → is_some s ≡ s' → is_some a ≡ a' → is_some b ≡ b' → map key_of_attribute (size_attributes s a b) ≡ map key_of (size_marks s' a' b')
sized s a b s' a' b' p q r =
    sizes-keys s a b ∙ ap (λ z. map key_of (size_marks z (is_some a) (is_some b))) p ∙ ap (λ z. map key_of (size_marks s' z (is_some b))) q ∙ ap (λ z. map key_of (size_marks s' a' z)) r

-- With a bound where no greatest size stands.
bounded : (n : ℕ) (c b : Bool) (o : Option ℕ) → is_some o ≡ b → is_some (if c then o else or_else o (Some n)) ≡ b || not c
bounded n true true o h = h
bounded n true false o h = h
bounded n false true None h = cc
bounded n false true (Some m) h = refl
bounded n false false None h = refl
bounded n false false (Some m) h = cc

or-no : (b : Bool) → b ≡ b || false
or-no true = refl
or-no false = refl

module _ (ms : List Mark) (os : List (Option Value)) (ks : List Attribute) (at : attributes_of ms os ≡ Some ks) where
  key-is : (k : Key) → HasNumber ks k → is_some (attribute k ks) ≡ has_key k ms
  key-is k h = h ∙ same-keys k ms os ks at

  -- Of a relation's tuples.
  pub set-keys : (ds : Doms) (xs : Domains) → HasNumber ks Key.Size → HasNumber ks Key.MinSize → HasNumber ks Key.MaxSize →
      map key_of_attribute (keys_of (child_set ks xs)) ≡ map key_of (marks_of (child_set_form ms ds))
  set-keys ds xs s a b =
      sized (attribute Key.Size ks) (attribute Key.MinSize ks) (attribute Key.MaxSize ks) (has_key Key.Size ms) (has_key Key.MinSize ms) (has_key Key.MaxSize ms) (key-is Key.Size s) (key-is Key.MinSize a) (key-is Key.MaxSize b)

  -- Of a function's pairs.
  pub relation-keys : (d c : Dom) (x y : Domain) → HasNumber ks Key.Size → HasNumber ks Key.MinSize → HasNumber ks Key.MaxSize →
      map key_of_attribute (keys_of (child_relation ks x y)) ≡ map key_of (marks_of (child_relation_form ms d c))
  relation-keys d c x y s a b =
      go (has Key.Total ks) (has Key.Size ks) (has_key Key.Total ms) (has_key Key.Size ms) (same-keys Key.Total ms os ks at) (same-keys Key.Size ms os ks at) (key-is Key.Size s)
    where
      go : (t z t' z' : Bool) → t ≡ t' → z ≡ z' → is_some (attribute Key.Size ks) ≡ z' →
          map key_of_attribute (if t then size_attributes (Some (bound x)) (attribute Key.MinSize ks) (attribute Key.MaxSize ks) else size_attributes (attribute Key.Size ks) (attribute Key.MinSize ks) (if z then attribute Key.MaxSize ks else or_else (attribute Key.MaxSize ks) (Some (bound x))))
          ≡ map key_of (size_marks (t' || z') (has_key Key.MinSize ms) (has_key Key.MaxSize ms || not (t' || z')))
      go true z true z' p q r =
          sized (Some (bound x)) (attribute Key.MinSize ks) (attribute Key.MaxSize ks) true (has_key Key.MinSize ms) (has_key Key.MaxSize ms || false) refl (key-is Key.MinSize a) (key-is Key.MaxSize b ∙ or-no (has_key Key.MaxSize ms))
      go false true false true p q r =
          sized (attribute Key.Size ks) (attribute Key.MinSize ks) (attribute Key.MaxSize ks) true (has_key Key.MinSize ms) (has_key Key.MaxSize ms || false) r (key-is Key.MinSize a) (key-is Key.MaxSize b ∙ or-no (has_key Key.MaxSize ms))
      go false false false false p q r =
          sized (attribute Key.Size ks) (attribute Key.MinSize ks) (or_else (attribute Key.MaxSize ks) (Some (bound x))) false (has_key Key.MinSize ms) (has_key Key.MaxSize ms || true) r (key-is Key.MinSize a)
          (bounded (bound x) false (has_key Key.MaxSize ms) (attribute Key.MaxSize ks) (key-is Key.MaxSize b))
      go true z false z' p q r = cc
      go false z true z' p q r = cc
      go false true false false p q r = cc
      go false false false true p q r = cc

  -- Of a partition's parts.
  pub parts-keys : (d : Dom) (x : Domain) → HasNumber ks Key.NumParts → HasNumber ks Key.MinNumParts → HasNumber ks Key.MaxNumParts →
      map key_of_attribute (keys_of (child_parts ks x)) ≡ map key_of (marks_of (child_parts_form ms d))
  parts-keys d x s a b =
      sized (attribute Key.NumParts ks) (attribute Key.MinNumParts ks) (if has Key.NumParts ks then attribute Key.MaxNumParts ks else or_else (attribute Key.MaxNumParts ks) (Some (bound x)))
      (has_key Key.NumParts ms) (has_key Key.MinNumParts ms) (has_key Key.MaxNumParts ms || not (has_key Key.NumParts ms)) (key-is Key.NumParts s) (key-is Key.MinNumParts a)
      (bounded (bound x) (has Key.NumParts ks) (has_key Key.MaxNumParts ms) (attribute Key.MaxNumParts ks) (key-is Key.MaxNumParts b) ∙ ap (λ z. has_key Key.MaxNumParts ms || not z) (same-keys Key.NumParts ms os ks at))

  -- Of the members of a part.
  pub part-keys : (d : Dom) (x : Domain) → HasNumber ks Key.PartSize → HasNumber ks Key.MinPartSize → HasNumber ks Key.MaxPartSize →
      map key_of_attribute (keys_of (inner_domain (child_parts ks x))) ≡ map key_of (marks_of (inner_dom (child_parts_form ms d)))
  part-keys d x s a b =
      sized (attribute Key.PartSize ks) (attribute Key.MinPartSize ks) (attribute Key.MaxPartSize ks) (has_key Key.PartSize ms) (has_key Key.MinPartSize ms) (has_key Key.MaxPartSize ms)
      (key-is Key.PartSize s) (key-is Key.MinPartSize a) (key-is Key.MaxPartSize b)
