-- The attributes that a child takes over: those of the trees, and the marks and numbers in them.
use Rattle.std.specs.Prelude.{is_some}
use Rattle.std.proofs.Common.{◌≡◌, refl, sym, ap, ◌∙◌, ℕ, Bool, true, false, ◌||◌, not, if◌then◌else◌, List, [], ◌∷◌, ◌++◌, append_assoc, pos, Option, Some, None, option_map}
use Rattle.std.proofs.lemmas.List.{append-nil}
use Rattle.ess_semantics.specs.declared.words.Key.{Key}
use Rattle.ess_semantics.specs.Lists.{and_then, or_else}
use Rattle.ess_semantics.specs.Domains.{Attribute, numbered, flagged, Domain, attribute, has, same_key}
use Rattle.ess_semantics.specs.Sizes.{sized_if, size_attributes, pair_sizes, bound}
use Rattle.ess_semantics.specs.Kinds.{has_key, size_marks}
use Rattle.ess_semantics.specs.Trees.{Mark, flag, valued, Ex, Exs, no_exs, more_exs, Dom, Doms, more_doms, no_doms, relation_dom, set_dom, tuple_dom}
use Rattle.ess_semantics.specs.Meaning.{Env, meaning, meanings, as_int, attributes_of}
use Rattle.ess_repr_laws.specs.StructureParts.{number_of_key, tuple_set_dom}
use Rattle.ess_repr_laws.specs.ViewParts.{number_as, pair_relation_dom, part_dom, part_set_dom}
use Rattle.ess_repr_declare_laws.specs.SizeTerms.{number_of, bound_ex, size_terms}
use Rattle.ess_repr_declare_laws.proofs.Readings.{Reads}
use Rattle.ess_repr_declare_laws.proofs.SizeNumbers.{Numbered}

-- ---- trees

-- The attribute k in front of the others, where its number is there.
abbrev pub in_front : Key → Option Ex → List Mark × Exs → List Mark × Exs
in_front k None p = p
in_front k (Some e) p = (valued k ∷ p.0, more_exs e p.1)

front-if : (k : Key) (b : Bool) (e : Ex) (o : Option Ex) (p : List Mark × Exs) (q : List Mark × Exs) → q ≡ in_front k o p →
    (if b then (valued k ∷ p.0, more_exs e p.1) else q) ≡ in_front k (if b then Some e else o) p
front-if k true e o p q h = refl
front-if k false e o p q h = h

pub keyed : (k : Key) (ms : List Mark) (es : Exs) (p : List Mark × Exs) → number_of_key k ms es p.0 p.1 ≡ in_front k (number_of k ms es) p
keyed k [] es p = refl
keyed k (flag j ∷ ms) es p = keyed k ms es p
keyed k (valued j ∷ ms) no_exs p = refl
keyed k (valued j ∷ ms) (more_exs e es) p =
    front-if k (same_key j k) e (number_of k ms es) p (number_of_key k ms es p.0 p.1) (keyed k ms es p)

pub keyed-as : (k j : Key) (ms : List Mark) (es : Exs) (p : List Mark × Exs) → number_as k j ms es p.0 p.1 ≡ in_front j (number_of k ms es) p
keyed-as k j [] es p = refl
keyed-as k j (flag i ∷ ms) es p = keyed-as k j ms es p
keyed-as k j (valued i ∷ ms) no_exs p = refl
keyed-as k j (valued i ∷ ms) (more_exs e es) p =
    front-if j (same_key i k) e (number_of k ms es) p (number_as k j ms es p.0 p.1) (keyed-as k j ms es p)

-- Three attributes.
abbrev pub three : Option Ex → Option Ex → Option Ex → List Mark × Exs
three s a b = in_front Key.Size s (in_front Key.MinSize a (in_front Key.MaxSize b ([], no_exs)))

if-front : (k : Key) (b : Bool) (ms : List Mark) (es : Exs) (e : Ex) (p : List Mark × Exs) →
    (if b then number_of_key k ms es p.0 p.1 else (valued k ∷ p.0, more_exs e p.1)) ≡ in_front k (if b then number_of k ms es else Some e) p
if-front k true ms es e p = keyed k ms es p
if-front k false ms es e p = refl

if-first : (k : Key) (b : Bool) (ms : List Mark) (es : Exs) (e : Ex) (p : List Mark × Exs) →
    (if b then (valued k ∷ p.0, more_exs e p.1) else number_of_key k ms es p.0 p.1) ≡ in_front k (if b then Some e else number_of k ms es) p
if-first k true ms es e p = refl
if-first k false ms es e p = keyed k ms es p

if-as : (k j : Key) (b : Bool) (ms : List Mark) (es : Exs) (e : Ex) (p : List Mark × Exs) →
    (if b then number_as k j ms es p.0 p.1 else (valued j ∷ p.0, more_exs e p.1)) ≡ in_front j (if b then number_of k ms es else Some e) p
if-as k j true ms es e p = keyed-as k j ms es p
if-as k j false ms es e p = refl

-- The set of a relation's tuples.
pub sets-are : (ms : List Mark) (es : Exs) (ds : Doms) →
    let t : List Mark × Exs = three (number_of Key.Size ms es) (number_of Key.MinSize ms es) (number_of Key.MaxSize ms es) in
    tuple_set_dom ms es ds ≡ set_dom t.0 t.1 (tuple_dom ds)
sets-are ms es ds =
    let a : List Mark × Exs = number_of_key Key.MaxSize ms es [] no_exs in
    let b : List Mark × Exs = number_of_key Key.MinSize ms es a.0 a.1 in
    ap (λ t. set_dom t.0 t.1 (tuple_dom ds))
    (keyed Key.Size ms es b ∙ ap (in_front Key.Size (number_of Key.Size ms es)) (keyed Key.MinSize ms es a
    ∙ ap (in_front Key.MinSize (number_of Key.MinSize ms es)) (keyed Key.MaxSize ms es ([], no_exs))))

-- How many pairs a function has, and how many at most.
abbrev pub pairs_size : List Mark → Exs → Dom → Option Ex
pairs_size ms es d = if has_key Key.Total ms then Some (bound_ex d) else number_of Key.Size ms es

abbrev pub pairs_greatest : List Mark → Exs → Dom → Option Ex
pairs_greatest ms es d =
    if has_key Key.MaxSize ms || (has_key Key.Total ms || has_key Key.Size ms) then number_of Key.MaxSize ms es else Some (bound_ex d)

-- The relation of a function's pairs.
pub pairs-are : (ms : List Mark) (es : Exs) (d c : Dom) →
    let t : List Mark × Exs = three (pairs_size ms es d) (number_of Key.MinSize ms es) (pairs_greatest ms es d) in
    pair_relation_dom size_terms ms es d c ≡ relation_dom t.0 t.1 (more_doms d (more_doms c no_doms))
pairs-are ms es d c =
    let g : Bool = has_key Key.MaxSize ms || (has_key Key.Total ms || has_key Key.Size ms) in
    let a : List Mark × Exs = if g then number_of_key Key.MaxSize ms es [] no_exs else (valued Key.MaxSize ∷ [], more_exs (bound_ex d) no_exs) in
    let b : List Mark × Exs = number_of_key Key.MinSize ms es a.0 a.1 in
    ap (λ t. relation_dom t.0 t.1 (more_doms d (more_doms c no_doms)))
    (if-first Key.Size (has_key Key.Total ms) ms es (bound_ex d) b ∙ ap (in_front Key.Size (pairs_size ms es d)) (keyed Key.MinSize ms es a
    ∙ ap (in_front Key.MinSize (number_of Key.MinSize ms es)) (if-front Key.MaxSize g ms es (bound_ex d) ([], no_exs))))

-- A part of a partition.
pub part-is : (ms : List Mark) (es : Exs) (d : Dom) →
    let t : List Mark × Exs = three (number_of Key.PartSize ms es) (number_of Key.MinPartSize ms es) (number_of Key.MaxPartSize ms es) in
    part_dom ms es d ≡ set_dom t.0 t.1 d
part-is ms es d =
    let a : List Mark × Exs = number_as Key.MaxPartSize Key.MaxSize ms es [] no_exs in
    let b : List Mark × Exs = number_as Key.MinPartSize Key.MinSize ms es a.0 a.1 in
    ap (λ t. set_dom t.0 t.1 d)
    (keyed-as Key.PartSize Key.Size ms es b ∙ ap (in_front Key.Size (number_of Key.PartSize ms es)) (keyed-as Key.MinPartSize Key.MinSize ms es a
    ∙ ap (in_front Key.MinSize (number_of Key.MinPartSize ms es)) (keyed-as Key.MaxPartSize Key.MaxSize ms es ([], no_exs))))

-- How many parts there are at most.
abbrev pub parts_greatest : List Mark → Exs → Dom → Option Ex
parts_greatest ms es d = if has_key Key.MaxNumParts ms || has_key Key.NumParts ms then number_of Key.MaxNumParts ms es else Some (bound_ex d)

-- The set of a partition's parts.
pub parts-are : (ms : List Mark) (es : Exs) (d : Dom) →
    let t : List Mark × Exs = three (number_of Key.NumParts ms es) (number_of Key.MinNumParts ms es) (parts_greatest ms es d) in
    part_set_dom size_terms ms es d ≡ set_dom t.0 t.1 (part_dom ms es d)
parts-are ms es d =
    let g : Bool = has_key Key.MaxNumParts ms || has_key Key.NumParts ms in
    let a : List Mark × Exs = if g then number_as Key.MaxNumParts Key.MaxSize ms es [] no_exs else (valued Key.MaxSize ∷ [], more_exs (bound_ex d) no_exs) in
    let b : List Mark × Exs = number_as Key.MinNumParts Key.MinSize ms es a.0 a.1 in
    ap (λ t. set_dom t.0 t.1 (part_dom ms es d))
    (keyed-as Key.NumParts Key.Size ms es b ∙ ap (in_front Key.Size (number_of Key.NumParts ms es)) (keyed-as Key.MinNumParts Key.MinSize ms es a
    ∙ ap (in_front Key.MinSize (number_of Key.MinNumParts ms es)) (if-as Key.MaxNumParts Key.MaxSize g ms es (bound_ex d) ([], no_exs))))

-- ---- marks

pub three-marks : (s a b : Option Ex) → (three s a b).0 ≡ size_marks (is_some s) (is_some a) (is_some b)
three-marks None None None = refl
three-marks None None (Some b) = refl
three-marks None (Some a) None = refl
three-marks None (Some a) (Some b) = refl
three-marks (Some s) None None = refl
three-marks (Some s) None (Some b) = refl
three-marks (Some s) (Some a) None = refl
three-marks (Some s) (Some a) (Some b) = refl

-- ---- attributes

front-attributes : (env : Env) (k : Key) (o : Option Ex) (a : Option ℕ) (p : List Mark × Exs) (ks : List Attribute) → Numbered env o a →
    attributes_of p.0 (meanings p.1 env) ≡ Some ks → attributes_of (in_front k o p).0 (meanings (in_front k o p).1 env) ≡ Some (sized_if k a ++ ks)
front-attributes env k None None p ks r h = h
front-attributes env k None (Some n) p ks r h = absurd r
front-attributes env k (Some e) None p ks r h = absurd r
front-attributes env k (Some e) (Some n) p ks r h =
    ap (λ o. and_then o (λ z. option_map (λ l. numbered k z ∷ l) (attributes_of p.0 (meanings p.1 env)))) r
    ∙ ap (option_map (λ l. numbered k (pos n) ∷ l)) h

pub three-attributes : (env : Env) (s a b : Option Ex) (s' a' b' : Option ℕ) → Numbered env s s' → Numbered env a a' → Numbered env b b' →
    attributes_of (three s a b).0 (meanings (three s a b).1 env) ≡ Some (size_attributes s' a' b')
three-attributes env s a b s' a' b' p q r =
    let z : List Mark × Exs = in_front Key.MaxSize b ([], no_exs) in
    let y : List Mark × Exs = in_front Key.MinSize a z in
    front-attributes env Key.Size s s' y (sized_if Key.MinSize a' ++ (sized_if Key.MaxSize b' ++ [])) p
    (front-attributes env Key.MinSize a a' z (sized_if Key.MaxSize b' ++ []) q (front-attributes env Key.MaxSize b b' ([], no_exs) [] r refl))
    ∙ ap (λ l. Some (sized_if Key.Size s' ++ (sized_if Key.MinSize a' ++ l))) (append-nil (sized_if Key.MaxSize b'))
    ∙ ap Some (sym (append_assoc (sized_if Key.Size s') (sized_if Key.MinSize a') (sized_if Key.MaxSize b')))
