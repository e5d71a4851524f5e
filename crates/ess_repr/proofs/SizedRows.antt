-- The attributes that code puts beside each other, and the domains that it makes with them.
use Rattle.std.proofs.Common.{◌≡◌, refl, sym, ap, ◌∙◌, Bool, true, false, ◌||◌, if◌then◌else◌, List, [], ◌∷◌, ◌++◌, map, append_assoc, Option, Some, None}
use Rattle.std.specs.Option.{option_map}
use Rattle.std.proofs.lemmas.List.{map-append, append-nil}
use Rattle.ess_semantics.specs.declared.words.Key.{Key}
use Rattle.ess_semantics.specs.Lists.{append_all}
use Rattle.ess_semantics.specs.Kinds.{has_key}
use Rattle.ess_semantics.specs.Trees as pure
use Rattle.ess_semantics.specs.Trees.{Mark, flag, valued, Exs, no_exs, more_exs, Dom, Doms, more_doms, no_doms, relation_dom, set_dom, tuple_dom}
use Rattle.ess_core.specs.declared.domains.Attr.{Attr}
use Rattle.ess_core.specs.declared.domains.Dom as code
use Rattle.ess_core.specs.declared.domains.Dom.TheVariants as variant
use Rattle.ess_core.specs.declared.domains.Dom.TheViews.{out-Attr}
use Rattle.ess_core.specs.declared.expressions.Ex.{Ex}
use Rattle.ess_core.specs.TreeViews.{With, attribute, words_of, within, exs_of, pure_attr, pure_ex, pure_dom, pure_doms}
use Rattle.ess_core.proofs.DomainEquations.{pure_tuple, pure_set, pure_relation}
use Rattle.ess_core.proofs.PartEquations.{pure_attr_is}
use Rattle.ess_repr_laws.specs.StructureParts.{tuple_set_dom}
use Rattle.ess_repr_laws.specs.ViewParts.{pair_relation_dom, part_dom, part_set_dom}
use Rattle.ess_repr_declare_laws.specs.SizeTerms.{number_of, bound_ex, size_terms}
use Rattle.ess_repr_declare_laws.proofs.ChildTrees.{three, sets-are, pairs-are, part-is, parts-are}
use Rattle.ess_repr.specs.Sized.{marks_with, numbers_with, size_marks_with, size_numbers_with}

-- ---- one more attribute

words-append : (us vs : List (With Mark)) → words_of (us ++ vs) ≡ words_of us ++ words_of vs
words-append us vs = map-append (λ w. w.0) us vs

within-append : (us vs : List (With Mark)) → within (us ++ vs) ≡ within us ++ within vs
within-append [] vs = refl
within-append (u ∷ us) vs = ap (λ l. u.1 ++ l) (within-append us vs) ∙ sym (append_assoc u.1 (within us) (within vs))

marked : (a : Attr) (k : Key) (e : Ex) → (out-Attr a).key ≡ k → (out-Attr a).value ≡ Some e → pure_attr a ≡ (valued k, pure_ex e ∷ [])
marked a k e h v = pure_attr_is a ∙ ap (λ j. attribute j (option_map pure_ex (out-Attr a).value)) h ∙ ap (λ o. attribute k (option_map pure_ex o)) v

pub put_marks : (as' bs : List Attr) (a : Attr) (k : Key) (e : Ex) (o : Option Ex) → o ≡ Some e → bs ≡ as' ++ a ∷ [] → (out-Attr a).key ≡ k → (out-Attr a).value ≡ Some e →
    words_of (map pure_attr bs) ≡ words_of (map pure_attr as') ++ marks_with k (option_map pure_ex o)
put_marks as' bs a k e o q p h v =
    ap (λ l. words_of (map pure_attr l)) p ∙ ap words_of (map-append pure_attr as' (a ∷ [])) ∙ words-append (map pure_attr as') (pure_attr a ∷ [])
    ∙ ap (λ w. words_of (map pure_attr as') ++ w.0 ∷ []) (marked a k e h v)
    ∙ ap (λ x. words_of (map pure_attr as') ++ marks_with k (option_map pure_ex x)) (sym q)

pub put_numbers : (as' bs : List Attr) (a : Attr) (k : Key) (e : Ex) (o : Option Ex) → o ≡ Some e → bs ≡ as' ++ a ∷ [] → (out-Attr a).key ≡ k → (out-Attr a).value ≡ Some e →
    within (map pure_attr bs) ≡ within (map pure_attr as') ++ numbers_with (option_map pure_ex o)
put_numbers as' bs a k e o q p h v =
    ap (λ l. within (map pure_attr l)) p ∙ ap within (map-append pure_attr as' (a ∷ [])) ∙ within-append (map pure_attr as') (pure_attr a ∷ [])
    ∙ ap (λ w. within (map pure_attr as') ++ (w.1 ++ [])) (marked a k e h v)
    ∙ ap (λ x. within (map pure_attr as') ++ numbers_with (option_map pure_ex x)) (sym q)

pub same_marks : (as' bs : List Attr) (k : Key) (o : Option Ex) → o ≡ None → bs ≡ as' → words_of (map pure_attr bs) ≡ words_of (map pure_attr as') ++ marks_with k (option_map pure_ex o)
same_marks as' bs k o q p =
    ap (λ l. words_of (map pure_attr l)) p ∙ sym (append-nil (words_of (map pure_attr as')))
    ∙ ap (λ x. words_of (map pure_attr as') ++ marks_with k (option_map pure_ex x)) (sym q)

pub same_numbers : (as' bs : List Attr) (o : Option Ex) → o ≡ None → bs ≡ as' → within (map pure_attr bs) ≡ within (map pure_attr as') ++ numbers_with (option_map pure_ex o)
same_numbers as' bs o q p =
    ap (λ l. within (map pure_attr l)) p ∙ sym (append-nil (within (map pure_attr as')))
    ∙ ap (λ x. within (map pure_attr as') ++ numbers_with (option_map pure_ex x)) (sym q)

-- ---- conditions

pub if_yes : (b : Bool) (o p : Option pure.Ex) → b ≡ true → (if b then o else p) ≡ o
if_yes b o p h = ap (λ c. if c then o else p) h

pub if_no : (b : Bool) (o p : Option pure.Ex) → b ≡ false → (if b then o else p) ≡ p
if_no b o p h = ap (λ c. if c then o else p) h

-- ---- three attributes

three-are : (s a b : Option pure.Ex) → (size_marks_with s a b, exs_of (size_numbers_with s a b)) ≡ three s a b
three-are None None None = refl
three-are None None (Some b) = refl
three-are None (Some a) None = refl
three-are None (Some a) (Some b) = refl
three-are (Some s) None None = refl
three-are (Some s) None (Some b) = refl
three-are (Some s) (Some a) None = refl
three-are (Some s) (Some a) (Some b) = refl

-- Attributes that are put one behind the other are three in front of each other.
put-three : (ws : List Mark) (ns : List pure.Ex) (s a b : Option pure.Ex) → ws ≡ size_marks_with s a b → ns ≡ size_numbers_with s a b →
    (ws, exs_of ns) ≡ three s a b
put-three ws ns s a b p q = ap (λ l. (l, exs_of ns)) p ∙ ap (λ l. (size_marks_with s a b, exs_of l)) q ∙ three-are s a b

-- ---- made by the code

-- Three attributes are the same where their numbers are.
three-same : (s a b s' a' b' : Option pure.Ex) → s ≡ s' → a ≡ a' → b ≡ b' → three s a b ≡ three s' a' b'
three-same s a b s' a' b' f g h = ap (λ o. three o a b) f ∙ ap (λ o. three s' o b) g ∙ ap (three s' a') h

pub pairs_made : (as' : List Attr) (ds ps : List code.Dom) (d c : code.Dom) (ms : List Mark) (es : Exs) (s a b : Option pure.Ex) →
    ds ≡ variant.Relation as' ps ∷ [] → ps ≡ d ∷ c ∷ [] →
    words_of (map pure_attr as') ≡ size_marks_with s a b → within (map pure_attr as') ≡ size_numbers_with s a b →
    s ≡ (if has_key Key.Total ms then Some (bound_ex (pure_dom d)) else number_of Key.Size ms es) → a ≡ number_of Key.MinSize ms es →
    b ≡ (if has_key Key.MaxSize ms || (has_key Key.Total ms || has_key Key.Size ms) then number_of Key.MaxSize ms es else Some (bound_ex (pure_dom d))) →
    map pure_dom ds ≡ pair_relation_dom size_terms ms es (pure_dom d) (pure_dom c) ∷ []
pairs_made as' ds ps d c ms es s a b i j p q f g h =
    let s' : Option pure.Ex = if has_key Key.Total ms then Some (bound_ex (pure_dom d)) else number_of Key.Size ms es in
    let a' : Option pure.Ex = number_of Key.MinSize ms es in
    let b' : Option pure.Ex = if has_key Key.MaxSize ms || (has_key Key.Total ms || has_key Key.Size ms) then number_of Key.MaxSize ms es else Some (bound_ex (pure_dom d)) in
    ap (map pure_dom) i ∙ ap (λ l. pure_dom (variant.Relation as' l) ∷ []) j
    ∙ ap (λ r. r ∷ [])
    (pure_relation as' (d ∷ c ∷ [])
    ∙ ap (λ t. relation_dom t.0 t.1 (more_doms (pure_dom d) (more_doms (pure_dom c) no_doms)))
    (put-three (words_of (map pure_attr as')) (within (map pure_attr as')) s a b p q ∙ three-same s a b s' a' b' f g h)
    ∙ sym (pairs-are ms es (pure_dom d) (pure_dom c)))

pub tuples_made : (as' : List Attr) (ds ps qs : List code.Dom) (t : code.Dom) (ms : List Mark) (es : Exs) (s a b : Option pure.Ex) →
    ds ≡ variant.Set as' t ∷ [] → t ≡ variant.Tuple ps → ps ≡ qs →
    words_of (map pure_attr as') ≡ size_marks_with s a b → within (map pure_attr as') ≡ size_numbers_with s a b →
    s ≡ number_of Key.Size ms es → a ≡ number_of Key.MinSize ms es → b ≡ number_of Key.MaxSize ms es →
    map pure_dom ds ≡ tuple_set_dom ms es (pure_doms qs) ∷ []
tuples_made as' ds ps qs t ms es s a b i j k p q f g h =
    let s' : Option pure.Ex = number_of Key.Size ms es in
    let a' : Option pure.Ex = number_of Key.MinSize ms es in
    let b' : Option pure.Ex = number_of Key.MaxSize ms es in
    let w : List Mark × Exs = three s' a' b' in
    ap (map pure_dom) i ∙ ap (λ y. pure_dom (variant.Set as' y) ∷ []) (j ∙ ap variant.Tuple k)
    ∙ ap (λ r. r ∷ [])
    (pure_set as' (variant.Tuple qs)
    ∙ ap (λ x. set_dom x.0 x.1 (pure_dom (variant.Tuple qs)))
    (put-three (words_of (map pure_attr as')) (within (map pure_attr as')) s a b p q ∙ three-same s a b s' a' b' f g h)
    ∙ ap (set_dom w.0 w.1) (pure_tuple qs) ∙ sym (sets-are ms es (pure_doms qs)))

pub part_made : (as' : List Attr) (r d m : code.Dom) (ms : List Mark) (es : Exs) (s a b : Option pure.Ex) →
    r ≡ variant.Set as' d → d ≡ m →
    words_of (map pure_attr as') ≡ size_marks_with s a b → within (map pure_attr as') ≡ size_numbers_with s a b →
    s ≡ number_of Key.PartSize ms es → a ≡ number_of Key.MinPartSize ms es → b ≡ number_of Key.MaxPartSize ms es →
    pure_dom r ≡ part_dom ms es (pure_dom m)
part_made as' r d m ms es s a b i j p q f g h =
    let s' : Option pure.Ex = number_of Key.PartSize ms es in
    let a' : Option pure.Ex = number_of Key.MinPartSize ms es in
    let b' : Option pure.Ex = number_of Key.MaxPartSize ms es in
    ap pure_dom (i ∙ ap (variant.Set as') j) ∙ pure_set as' m
    ∙ ap (λ t. set_dom t.0 t.1 (pure_dom m))
    (put-three (words_of (map pure_attr as')) (within (map pure_attr as')) s a b p q ∙ three-same s a b s' a' b' f g h)
    ∙ sym (part-is ms es (pure_dom m))

pub parts_made : (as' : List Attr) (ds : List code.Dom) (p' : code.Dom) (d : Dom) (ms : List Mark) (es : Exs) (s a b : Option pure.Ex) →
    ds ≡ variant.Set as' p' ∷ [] →
    words_of (map pure_attr as') ≡ size_marks_with s a b → within (map pure_attr as') ≡ size_numbers_with s a b →
    s ≡ number_of Key.NumParts ms es → a ≡ number_of Key.MinNumParts ms es →
    b ≡ (if has_key Key.MaxNumParts ms || has_key Key.NumParts ms then number_of Key.MaxNumParts ms es else Some (bound_ex d)) →
    pure_dom p' ≡ part_dom ms es d → map pure_dom ds ≡ part_set_dom size_terms ms es d ∷ []
parts_made as' ds p' d ms es s a b j p q f g h i =
    let s' : Option pure.Ex = number_of Key.NumParts ms es in
    let a' : Option pure.Ex = number_of Key.MinNumParts ms es in
    let b' : Option pure.Ex = if has_key Key.MaxNumParts ms || has_key Key.NumParts ms then number_of Key.MaxNumParts ms es else Some (bound_ex d) in
    let w : List Mark × Exs = three s' a' b' in
    ap (map pure_dom) j
    ∙ ap (λ r. r ∷ [])
    (pure_set as' p'
    ∙ ap (λ t. set_dom t.0 t.1 (pure_dom p'))
    (put-three (words_of (map pure_attr as')) (within (map pure_attr as')) s a b p q ∙ three-same s a b s' a' b' f g h)
    ∙ ap (set_dom w.0 w.1) i ∙ sym (parts-are ms es d))
