-- The domains of children have the forms of theirs, and their slots are known.
use Rattle.std.proofs.Common.{◌≡◌, refl, sym, ap, ◌∙◌, ℕ, Bool, true, false, ◌||◌, not, if◌then◌else◌, List, Option, Some, None, is_some, IsTrue, ◌⊎◌, inl, inr}
use Rattle.ess_semantics.specs.declared.words.Key.{Key}
use Rattle.ess_semantics.specs.Lists.{or_else}
use Rattle.ess_semantics.specs.Trees.{Mark, Dom}
use Rattle.ess_semantics.specs.Domains.{Attribute, Domain, Domains, relations, attribute, has}
use Rattle.ess_semantics.specs.Sizes.{greatest_size, size_attributes, bound, child_relation, child_set}
use Rattle.ess_semantics.specs.Kinds.{has_key, size_marks, child_relation_form}
use Rattle.ess_repr_laws.specs.Rooms.{SetRoom}
use Rattle.ess_repr_laws.specs.Finite.{Finite, AllFinite}
use Rattle.ess_repr_laws.proofs.Bounds.{finite-bounded}
use Rattle.ess_repr_laws.proofs.DomainForms.{Formed, Known, Marked, finite-known}

-- ---- the domains of children

-- A given size, or a finite domain, gives room.
pub room : (ks : List Attribute) (e : Domain) → IsTrue (is_some (greatest_size ks)) ⊎ Finite e → SetRoom ks e
room ks e (inl h) = inl h
room ks e (inr f) = inr (finite-bounded e f)

marks-none : (s a b : Bool) → has_key Key.NumParts (size_marks s a b) ≡ false
marks-none true true true = refl
marks-none true true false = refl
marks-none true false true = refl
marks-none true false false = refl
marks-none false true true = refl
marks-none false true false = refl
marks-none false false true = refl
marks-none false false false = refl

marks-part : (s a b : Bool) → has_key Key.PartSize (size_marks s a b) ≡ false
marks-part true true true = refl
marks-part true true false = refl
marks-part true false true = refl
marks-part true false false = refl
marks-part false true true = refl
marks-part false true false = refl
marks-part false false true = refl
marks-part false false false = refl

marks-total : (s a b : Bool) → has_key Key.Total (size_marks s a b) ≡ false
marks-total true true true = refl
marks-total true true false = refl
marks-total true false true = refl
marks-total true false false = refl
marks-total false true true = refl
marks-total false true false = refl
marks-total false false true = refl
marks-total false false false = refl

marks-size : (s a b : Bool) → has_key Key.Size (size_marks s a b) ≡ s
marks-size true true true = refl
marks-size true true false = refl
marks-size true false true = refl
marks-size true false false = refl
marks-size false true true = refl
marks-size false true false = refl
marks-size false false true = refl
marks-size false false false = refl

keys-size : (s a b : Option ℕ) → attribute Key.Size (size_attributes s a b) ≡ s
keys-size (Some n) (Some m) (Some k) = refl
keys-size (Some n) (Some m) None = refl
keys-size (Some n) None (Some k) = refl
keys-size (Some n) None None = refl
keys-size None (Some m) (Some k) = refl
keys-size None (Some m) None = refl
keys-size None None (Some k) = refl
keys-size None None None = refl

keys-greatest : (s a b : Option ℕ) → greatest_size (size_attributes s a b) ≡ or_else s b
keys-greatest (Some n) (Some m) (Some k) = refl
keys-greatest (Some n) (Some m) None = refl
keys-greatest (Some n) None (Some k) = refl
keys-greatest (Some n) None None = refl
keys-greatest None (Some m) (Some k) = refl
keys-greatest None (Some m) None = refl
keys-greatest None None (Some k) = refl
keys-greatest None None None = refl

keys-total : (s a b : Option ℕ) → has Key.Total (size_attributes s a b) ≡ false
keys-total (Some n) (Some m) (Some k) = refl
keys-total (Some n) (Some m) None = refl
keys-total (Some n) None (Some k) = refl
keys-total (Some n) None None = refl
keys-total None (Some m) (Some k) = refl
keys-total None (Some m) None = refl
keys-total None None (Some k) = refl
keys-total None None None = refl

keys-sized : (s a b : Option ℕ) → has Key.Size (size_attributes s a b) ≡ true → IsTrue (is_some (attribute Key.Size (size_attributes s a b)))
keys-sized (Some n) (Some m) (Some k) h = refl
keys-sized (Some n) (Some m) None h = refl
keys-sized (Some n) None (Some k) h = refl
keys-sized (Some n) None None h = refl
keys-sized None (Some m) (Some k) h = cc
keys-sized None (Some m) None h = cc
keys-sized None None (Some k) h = cc
keys-sized None None None h = cc

-- marks and attributes of sizes
pub sizes-marked : (s a b : Bool) (n m k : Option ℕ) → (s ≡ true → IsTrue (is_some n)) → Marked (size_marks s a b) (size_attributes n m k)
sizes-marked s a b n m k h = record {
  size = λ e. ap is_some (keys-size n m k) ∙ h (sym (marks-size s a b) ∙ e);
  parts = λ e. let z : false ≡ true = sym (marks-none s a b) ∙ e in cc;
  part = λ e. let z : false ≡ true = sym (marks-part s a b) ∙ e in cc;
  total = λ e. let z : false ≡ true = sym (marks-total s a b) ∙ e in cc;
  same = keys-total n m k ∙ sym (marks-total s a b);
  sized = keys-sized n m k;
}

-- The relation of a function's pairs has the form of its expression.
pub relation-formed : (ms : List Mark) (ks : List Attribute) (d c : Dom) (e f : Domain) → Marked ms ks → Formed d e → Formed c f → Formed (child_relation_form ms d c) (child_relation ks e f)
relation-formed ms ks d c e f m p q = (go (has Key.Total ks) refl, (p, (q, tt)))
  where
    form : List Mark
    form = size_marks (has_key Key.Total ms || has_key Key.Size ms) (has_key Key.MinSize ms) (has_key Key.MaxSize ms || not (has_key Key.Total ms || has_key Key.Size ms))

    go : (t : Bool) → has Key.Total ks ≡ t →
        Marked form (if t then size_attributes (Some (bound e)) (attribute Key.MinSize ks) (attribute Key.MaxSize ks)
        else size_attributes (attribute Key.Size ks) (attribute Key.MinSize ks) (if has Key.Size ks then attribute Key.MaxSize ks else or_else (attribute Key.MaxSize ks) (Some (bound e))))
    go true t = sizes-marked (has_key Key.Total ms || has_key Key.Size ms) (has_key Key.MinSize ms) (has_key Key.MaxSize ms || not (has_key Key.Total ms || has_key Key.Size ms)) (Some (bound e)) (attribute Key.MinSize ks) (attribute Key.MaxSize ks) (λ h. refl)
    go false t =
        sizes-marked (has_key Key.Total ms || has_key Key.Size ms) (has_key Key.MinSize ms) (has_key Key.MaxSize ms || not (has_key Key.Total ms || has_key Key.Size ms)) (attribute Key.Size ks) (attribute Key.MinSize ks)
        (if has Key.Size ks then attribute Key.MaxSize ks else or_else (attribute Key.MaxSize ks) (Some (bound e)))
        (λ h. m.size (sym (ap (λ b. b || has_key Key.Size ms) (sym m.same ∙ t)) ∙ h))

-- Its slots are known.
pub relation-known : (ms : List Mark) (ks : List Attribute) (e f : Domain) → Marked ms ks → Finite e → Known f → Known (child_relation ks e f)
relation-known ms ks e f m fe kf = (inl (go (has Key.Total ks)), (finite-known e fe, (kf, tt)))
  where
    some-or : (o p : Option ℕ) → IsTrue (is_some p) → IsTrue (is_some (or_else o p))
    some-or None p h = h
    some-or (Some x) p h = refl

    or-some : (o p : Option ℕ) → IsTrue (is_some o) → IsTrue (is_some (or_else o p))
    or-some None p h = cc
    or-some (Some x) p h = refl

    rest : (b : Bool) → has Key.Size ks ≡ b → IsTrue (is_some (or_else (attribute Key.Size ks) (if b then attribute Key.MaxSize ks else or_else (attribute Key.MaxSize ks) (Some (bound e)))))
    rest true q = or-some (attribute Key.Size ks) (attribute Key.MaxSize ks) (m.sized q)
    rest false q = some-or (attribute Key.Size ks) (or_else (attribute Key.MaxSize ks) (Some (bound e))) (some-or (attribute Key.MaxSize ks) (Some (bound e)) refl)

    go : (t : Bool) →
        IsTrue (is_some (greatest_size (if t then size_attributes (Some (bound e)) (attribute Key.MinSize ks) (attribute Key.MaxSize ks)
        else size_attributes (attribute Key.Size ks) (attribute Key.MinSize ks) (if has Key.Size ks then attribute Key.MaxSize ks else or_else (attribute Key.MaxSize ks) (Some (bound e))))))
    go true = ap is_some (keys-greatest (Some (bound e)) (attribute Key.MinSize ks) (attribute Key.MaxSize ks))
    go false =
        ap is_some (keys-greatest (attribute Key.Size ks) (attribute Key.MinSize ks) (if has Key.Size ks then attribute Key.MaxSize ks else or_else (attribute Key.MaxSize ks) (Some (bound e))))
        ∙ rest (has Key.Size ks) refl

-- So are those of the set of a relation's tuples.
pub set-known : (ks : List Attribute) (es : Domains) → Known (relations ks es) → Known (child_set ks es)
set-known ks es k = (go k.0, k.1)
  where
    go : IsTrue (is_some (greatest_size ks)) ⊎ AllFinite es → IsTrue (is_some (greatest_size (size_attributes (attribute Key.Size ks) (attribute Key.MinSize ks) (attribute Key.MaxSize ks)))) ⊎ AllFinite es
    go (inl h) = inl (ap is_some (keys-greatest (attribute Key.Size ks) (attribute Key.MinSize ks) (attribute Key.MaxSize ks)) ∙ h)
    go (inr f) = inr f
