-- The attributes that code puts beside each other, and the domains that it makes with them.
use Rattle.std.proofs.Common.{◌≡◌, refl, sym, ap, ◌∙◌, ℕ, Bool, true, false, if◌then◌else◌, List, [], ◌∷◌, ◌++◌, map, ℤ, pos, Option, Some, None}
use Rattle.std.proofs.lemmas.List.{map-append, append-nil}
use Rattle.ess_semantics.specs.declared.words.Key.{Key}
use Rattle.ess_semantics.specs.Lists.{or_else}
use Rattle.ess_semantics.specs.Domains as pure
use Rattle.ess_semantics.specs.Domains.{Domain, Domains, numbered, sets, relations, tuples, no_domains, more_domains, attribute, has}
use Rattle.ess_semantics.specs.Sizes.{bound, sized_if, size_attributes, child_relation, child_set, child_parts}
use Rattle.ess_eval_domains.specs.declared.closed.Attribute.{Attribute}
use Rattle.ess_eval_domains.specs.declared.closed.Attribute.TheVariants.{Numbered}
use Rattle.ess_eval_domains.specs.declared.closed.Closed.{Closed}
use Rattle.ess_eval_domains.specs.declared.closed.Closed.TheVariants as variant
use Rattle.ess_eval_domains.specs.ClosedViews.{pure_attribute, pure_attributes, pure_closed, pure_closeds}
use Rattle.ess_eval_domains.proofs.ClosedEquations.{pure_closed_tuple, pure_closed_set, pure_closed_relation}

-- ---- attributes

pub put_one : (ks js : List Attribute) (k : Key) (z : ℤ) (n : ℕ) (o : Option ℕ) → o ≡ Some n → js ≡ ks ++ Numbered k z ∷ [] → z ≡ pos n →
    pure_attributes js ≡ pure_attributes ks ++ sized_if k o
put_one ks js k z n o h e q =
    ap pure_attributes e ∙ map-append pure_attribute ks (Numbered k z ∷ []) ∙ ap (λ i. pure_attributes ks ++ numbered k i ∷ []) q
    ∙ ap (λ p. pure_attributes ks ++ sized_if k p) (sym h)

pub put_none : (ks js : List Attribute) (k : Key) (o : Option ℕ) → o ≡ None → js ≡ ks → pure_attributes js ≡ pure_attributes ks ++ sized_if k o
put_none ks js k o h e = ap pure_attributes e ∙ sym (append-nil (pure_attributes ks)) ∙ ap (λ p. pure_attributes ks ++ sized_if k p) (sym h)

pub sizes_made : (r0 r1 r2 r3 : List Attribute) (s a b : Option ℕ) → r0 ≡ [] → pure_attributes r1 ≡ pure_attributes r0 ++ sized_if Key.Size s →
    pure_attributes r2 ≡ pure_attributes r1 ++ sized_if Key.MinSize a → pure_attributes r3 ≡ pure_attributes r2 ++ sized_if Key.MaxSize b →
    pure_attributes r3 ≡ size_attributes s a b
sizes_made r0 r1 r2 r3 s a b e p q r =
    r ∙ ap (λ l. l ++ sized_if Key.MaxSize b) (q ∙ ap (λ l. l ++ sized_if Key.MinSize a) (p ∙ ap (λ l. pure_attributes l ++ sized_if Key.Size s) e))

-- ---- conditions

pub if_yes : {A : Type 0} (b : Bool) (o p q : A) → b ≡ true → q ≡ o → q ≡ (if b then o else p)
if_yes b o p q h e = e ∙ sym (ap (λ c. if c then o else p) h)

pub if_no : {A : Type 0} (b : Bool) (o p q : A) → b ≡ false → q ≡ p → q ≡ (if b then o else p)
if_no b o p q h e = e ∙ sym (ap (λ c. if c then o else p) h)

-- ---- domains

three : (s a b s' a' b' : Option ℕ) → s ≡ s' → a ≡ a' → b ≡ b' → size_attributes s a b ≡ size_attributes s' a' b'
three s a b s' a' b' p q r = ap (λ o. size_attributes o a b) p ∙ ap (λ o. size_attributes s' o b) q ∙ ap (size_attributes s' a') r

-- the attributes of pairs, with the condition inside
pairs-are : (t : Bool) (s s' a b b' : Option ℕ) →
    size_attributes (if t then s else s') a (if t then b else b') ≡ (if t then size_attributes s a b else size_attributes s' a b')
pairs-are true s s' a b b' = refl
pairs-are false s s' a b b' = refl

pub pairs_made : (as' : List Attribute) (ds ps : List Closed) (d c : Closed) (ks : List pure.Attribute) (s b : Option ℕ) →
    ds ≡ variant.Relation as' ps ∷ [] → ps ≡ d ∷ c ∷ [] → pure_attributes as' ≡ size_attributes s (attribute Key.MinSize ks) b →
    s ≡ (if has Key.Total ks then Some (bound (pure_closed d)) else attribute Key.Size ks) →
    b ≡ (if has Key.Total ks then attribute Key.MaxSize ks else (if has Key.Size ks then attribute Key.MaxSize ks else or_else (attribute Key.MaxSize ks) (Some (bound (pure_closed d))))) →
    map pure_closed ds ≡ child_relation ks (pure_closed d) (pure_closed c) ∷ []
pairs_made as' ds ps d c ks s b i j p f g =
    ap (map pure_closed) i ∙ ap (λ l. pure_closed (variant.Relation as' l) ∷ []) j
    ∙ ap (λ r. r ∷ [])
    (pure_closed_relation as' (d ∷ c ∷ [])
    ∙ ap (λ l. relations l (more_domains (pure_closed d) (more_domains (pure_closed c) no_domains)))
    (p ∙ three s (attribute Key.MinSize ks) b _ (attribute Key.MinSize ks) _ f refl g
    ∙ pairs-are (has Key.Total ks) (Some (bound (pure_closed d))) (attribute Key.Size ks) (attribute Key.MinSize ks) (attribute Key.MaxSize ks) _))

pub tuples_made : (as' : List Attribute) (ds ps qs : List Closed) (t : Closed) (ks : List pure.Attribute) →
    ds ≡ variant.Set as' t ∷ [] → t ≡ variant.Tuple ps → ps ≡ qs →
    pure_attributes as' ≡ size_attributes (attribute Key.Size ks) (attribute Key.MinSize ks) (attribute Key.MaxSize ks) →
    map pure_closed ds ≡ child_set ks (pure_closeds qs) ∷ []
tuples_made as' ds ps qs t ks i j k p =
    ap (map pure_closed) i ∙ ap (λ y. pure_closed (variant.Set as' y) ∷ []) (j ∙ ap variant.Tuple k)
    ∙ ap (λ r. r ∷ []) (pure_closed_set as' (variant.Tuple qs) ∙ ap (λ l. sets l (pure_closed (variant.Tuple qs))) p
    ∙ ap (sets (size_attributes (attribute Key.Size ks) (attribute Key.MinSize ks) (attribute Key.MaxSize ks))) (pure_closed_tuple qs))

pub part_made : (as' : List Attribute) (r d m : Closed) (ks : List pure.Attribute) → r ≡ variant.Set as' d → d ≡ m →
    pure_attributes as' ≡ size_attributes (attribute Key.PartSize ks) (attribute Key.MinPartSize ks) (attribute Key.MaxPartSize ks) →
    pure_closed r ≡ sets (size_attributes (attribute Key.PartSize ks) (attribute Key.MinPartSize ks) (attribute Key.MaxPartSize ks)) (pure_closed m)
part_made as' r d m ks i j p = ap pure_closed (i ∙ ap (variant.Set as') j) ∙ pure_closed_set as' m ∙ ap (λ l. sets l (pure_closed m)) p

pub parts_made : (as' : List Attribute) (ds : List Closed) (p' d : Closed) (ks : List pure.Attribute) (b : Option ℕ) → ds ≡ variant.Set as' p' ∷ [] →
    pure_attributes as' ≡ size_attributes (attribute Key.NumParts ks) (attribute Key.MinNumParts ks) b →
    b ≡ (if has Key.NumParts ks then attribute Key.MaxNumParts ks else or_else (attribute Key.MaxNumParts ks) (Some (bound (pure_closed d)))) →
    pure_closed p' ≡ sets (size_attributes (attribute Key.PartSize ks) (attribute Key.MinPartSize ks) (attribute Key.MaxPartSize ks)) (pure_closed d) →
    map pure_closed ds ≡ child_parts ks (pure_closed d) ∷ []
parts_made as' ds p' d ks b i p g h =
    ap (map pure_closed) i
    ∙ ap (λ r. r ∷ [])
    (pure_closed_set as' p' ∙ ap (λ l. sets l (pure_closed p')) (p ∙ ap (size_attributes (attribute Key.NumParts ks) (attribute Key.MinNumParts ks)) g)
    ∙ ap (sets (size_attributes (attribute Key.NumParts ks) (attribute Key.MinNumParts ks) (if has Key.NumParts ks then attribute Key.MaxNumParts ks else or_else (attribute Key.MaxNumParts ks) (Some (bound (pure_closed d)))))) h)
