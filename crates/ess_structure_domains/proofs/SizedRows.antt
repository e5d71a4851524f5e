-- The attributes that code puts beside each other, and the domains that it makes with them.
use Rattle.std.proofs.Common.{◌≡◌, refl, sym, ap, ◌∙◌, Bool, true, false, ◌||◌, if◌then◌else◌, List, [], ◌++◌, Option, Some, None}
use Rattle.std.proofs.lemmas.List.{append-nil}
use Rattle.ess_semantics.specs.declared.words.Key.{Key}
use Rattle.ess_semantics.specs.Kinds.{has_key}
use Rattle.ess_semantics.specs.Trees.{Mark, Ex, Exs, Dom, Doms, more_doms, no_doms, relation_dom, set_dom, tuple_dom}
use Rattle.ess_core.specs.TreeViews.{exs_of}
use Rattle.ess_repr_laws.specs.StructureParts.{tuple_set_dom}
use Rattle.ess_repr_laws.specs.ViewParts.{pair_relation_dom, part_dom, part_set_dom}
use Rattle.ess_repr_declare_laws.specs.SizeTerms.{number_of, bound_ex, size_terms}
use Rattle.ess_repr_declare_laws.proofs.ChildTrees.{three, pairs_size, pairs_greatest, parts_greatest, sets-are, pairs-are, part-is, parts-are}
use Rattle.ess_structure_domains.specs.Sized.{size_marks_with, size_numbers_with}

-- ---- conditions

pub if_yes : (b : Bool) (o p : Option Ex) → b ≡ true → (if b then o else p) ≡ o
if_yes b o p h = ap (λ c. if c then o else p) h

pub if_no : (b : Bool) (o p : Option Ex) → b ≡ false → (if b then o else p) ≡ p
if_no b o p h = ap (λ c. if c then o else p) h

-- Nothing is put behind a list.
pub nothing_put : {A : Type 0} (xs : List A) → xs ≡ xs ++ []
nothing_put xs = sym (append-nil xs)

-- ---- three attributes

three-are : (s a b : Option Ex) → (size_marks_with s a b, exs_of (size_numbers_with s a b)) ≡ three s a b
three-are None None None = refl
three-are None None (Some b) = refl
three-are None (Some a) None = refl
three-are None (Some a) (Some b) = refl
three-are (Some s) None None = refl
three-are (Some s) None (Some b) = refl
three-are (Some s) (Some a) None = refl
three-are (Some s) (Some a) (Some b) = refl

-- Attributes that are put one behind the other are three in front of each other.
made : (ws : List Mark) (ns : List Ex) (s a b s' a' b' : Option Ex) → ws ≡ size_marks_with s a b → ns ≡ size_numbers_with s a b →
    s ≡ s' → a ≡ a' → b ≡ b' → (ws, exs_of ns) ≡ three s' a' b'
made ws ns s a b s' a' b' p q f g h =
    ap (λ l. (l, exs_of ns)) p ∙ ap (λ l. (size_marks_with s a b, exs_of l)) q ∙ three-are s a b
    ∙ ap (λ o. three o a b) f ∙ ap (λ o. three s' o b) g ∙ ap (three s' a') h

-- ---- the domains

-- The relation of a function's pairs.
pub pairs_made : (x : Dom) (ws : List Mark) (ns : List Ex) (d c : Dom) (ms : List Mark) (es : Exs) (s a b : Option Ex) →
    x ≡ relation_dom ws (exs_of ns) (more_doms d (more_doms c no_doms)) →
    ws ≡ size_marks_with s a b → ns ≡ size_numbers_with s a b →
    s ≡ (if has_key Key.Total ms then Some (bound_ex d) else number_of Key.Size ms es) → a ≡ number_of Key.MinSize ms es →
    b ≡ (if has_key Key.MaxSize ms || (has_key Key.Total ms || has_key Key.Size ms) then number_of Key.MaxSize ms es else Some (bound_ex d)) →
    x ≡ pair_relation_dom size_terms ms es d c
pairs_made x ws ns d c ms es s a b e p q f g h =
    e ∙ ap (λ t. relation_dom t.0 t.1 (more_doms d (more_doms c no_doms)))
    (made ws ns s a b (pairs_size ms es d) (number_of Key.MinSize ms es) (pairs_greatest ms es d) p q f g h)
    ∙ sym (pairs-are ms es d c)

-- The set of a relation's tuples.
pub tuples_made : (x c : Dom) (ws : List Mark) (ns : List Ex) (ds : Doms) (ms : List Mark) (es : Exs) (s a b : Option Ex) →
    c ≡ tuple_dom ds → x ≡ set_dom ws (exs_of ns) c →
    ws ≡ size_marks_with s a b → ns ≡ size_numbers_with s a b →
    s ≡ number_of Key.Size ms es → a ≡ number_of Key.MinSize ms es → b ≡ number_of Key.MaxSize ms es →
    x ≡ tuple_set_dom ms es ds
tuples_made x c ws ns ds ms es s a b i e p q f g h =
    e ∙ ap (λ y. set_dom ws (exs_of ns) y) i ∙ ap (λ t. set_dom t.0 t.1 (tuple_dom ds))
    (made ws ns s a b (number_of Key.Size ms es) (number_of Key.MinSize ms es) (number_of Key.MaxSize ms es) p q f g h)
    ∙ sym (sets-are ms es ds)

-- A part of a partition.
pub part_made : (x c : Dom) (ws : List Mark) (ns : List Ex) (d : Dom) (ms : List Mark) (es : Exs) (s a b : Option Ex) →
    c ≡ d → x ≡ set_dom ws (exs_of ns) c →
    ws ≡ size_marks_with s a b → ns ≡ size_numbers_with s a b →
    s ≡ number_of Key.PartSize ms es → a ≡ number_of Key.MinPartSize ms es → b ≡ number_of Key.MaxPartSize ms es →
    x ≡ part_dom ms es d
part_made x c ws ns d ms es s a b i e p q f g h =
    e ∙ ap (λ y. set_dom ws (exs_of ns) y) i ∙ ap (λ t. set_dom t.0 t.1 d)
    (made ws ns s a b (number_of Key.PartSize ms es) (number_of Key.MinPartSize ms es) (number_of Key.MaxPartSize ms es) p q f g h)
    ∙ sym (part-is ms es d)

-- The set of a partition's parts.
pub parts_made : (x : Dom) (ws : List Mark) (ns : List Ex) (c d : Dom) (ms : List Mark) (es : Exs) (s a b : Option Ex) →
    x ≡ set_dom ws (exs_of ns) c →
    ws ≡ size_marks_with s a b → ns ≡ size_numbers_with s a b →
    s ≡ number_of Key.NumParts ms es → a ≡ number_of Key.MinNumParts ms es →
    b ≡ (if has_key Key.MaxNumParts ms || has_key Key.NumParts ms then number_of Key.MaxNumParts ms es else Some (bound_ex d)) →
    c ≡ part_dom ms es d → x ≡ part_set_dom size_terms ms es d
parts_made x ws ns c d ms es s a b e p q f g h i =
    e ∙ ap (λ t. set_dom t.0 t.1 c)
    (made ws ns s a b (number_of Key.NumParts ms es) (number_of Key.MinNumParts ms es) (parts_greatest ms es d) p q f g h)
    ∙ ap (λ x. set_dom (three (number_of Key.NumParts ms es) (number_of Key.MinNumParts ms es) (parts_greatest ms es d)).0
    (three (number_of Key.NumParts ms es) (number_of Key.MinNumParts ms es) (parts_greatest ms es d)).1 x) i
    ∙ sym (parts-are ms es d)
