-- What the rules of signs between sets make of a tree over views is one with the same mark: those of `!=`, of the signs of inclusion and of
-- `=`, and of `in` of a set that is made of two.
use Rattle.std.proofs.Common.{◌≡◌, refl, ap, ◌∙◌, ℕ, Bool, true, false, ◌||◌, if◌then◌else◌, List, Option, Some, None}
use Rattle.ess_semantics.specs.declared.words.Op2.{Op2}
use Rattle.ess_semantics.specs.Values.{Text}
use Rattle.ess_semantics.specs.Names.{Names, look}
use Rattle.ess_semantics.specs.Trees.{Ex, name_ex, ex2}
use Rattle.ess_semantics.specs.Typing.{type_of}
use Rattle.ess_rules_laws.specs.InclusionRules.{every, both_sets, both_msets, unequal, included_turned, included_strictly, included_members, equal_members}
use Rattle.ess_rules_laws.specs.MembershipRules.{member_combined}
use Rattle.ess_refine_laws.specs.AllRules.{compares_compound}
use Rattle.ess_flat_laws.specs.Flat.{denied, both, either, equal, unequal as differing}
use Rattle.ess_seen_laws.specs.ess_bare_laws.Lean.{of_all}
use Rattle.ess_seen_laws.specs.Seen.{Kind, scalars, kind_ty, Bound, bound_types, united, shared, lessened, alike, apart, included, properly_included, including, properly_including, so_many, SetTerm, view, drawn, combined, Seen, one, two, counted, folded, of_items, within, set_within, compared, at_end, among}
use Rattle.ess_seen_laws.specs.Laws.{SeenTreesHaveTypes, SeenTreesStayAmongMore}
use Rattle.ess_seen_stays_laws.proofs.OfTwo.{drawn-within}
use Rattle.ess_seen_stays_laws.proofs.MadePlainly.{Made, made-either}

-- Scalars are no sets.
no-scalar-sets : (m k : Bool) → both_sets (Some (kind_ty (scalars m))) (Some (kind_ty (scalars k))) ≡ false
no-scalar-sets true k = refl
no-scalar-sets false k = refl

module _ (cells : Text → Option (Bool × List ℕ)) (r : Names Bound) where
  -- ---- signs

  -- `a != b` is `!(a = b)`.
  pub unequal-made : {e : Ex} {m : Bool} → Seen cells r e m →
      Made cells r m (if compares_compound (bound_types r) e then unequal e else None)
  unequal-made (one denied f) = tt
  unequal-made (two {x = x} {y = y} (differing {m = m}) f h) =
      made-either cells (compares_compound (bound_types r) (ex2 true Op2.Ne x y)) _ (one denied (two equal f h))
  unequal-made (counted so_many) = tt
  unequal-made (folded of_all k f) = tt
  unequal-made (of_items of_all l) = tt
  unequal-made (compared {s = s} {t = t} apart h i) =
      made-either cells (compares_compound (bound_types r) (ex2 true Op2.Ne s t)) _ (one denied (compared alike h i))
  unequal-made f = tt

  -- `a supsetEq b` is `b subsetEq a`, and `a supset b` is `b subset a`.
  pub turned-made : {e : Ex} {m : Bool} → Seen cells r e m → Made cells r m (included_turned e)
  turned-made (one denied f) = tt
  turned-made (two both f h) = tt
  turned-made (counted so_many) = tt
  turned-made (folded of_all k f) = tt
  turned-made (of_items of_all l) = tt
  turned-made (compared including h i) = compared included i h
  turned-made (compared properly_including h i) = compared properly_included i h
  turned-made f = tt

  -- `a subset b` is `a subsetEq b /\ !(b subsetEq a)`.
  pub strictly-made : (x : Text) {e : Ex} {m : Bool} → Seen cells r e m → Made cells r m (included_strictly (bound_types r) x e)
  strictly-made x (one denied f) = tt
  strictly-made x (two both f h) = tt
  strictly-made x (counted so_many) = tt
  strictly-made x (folded of_all k f) = tt
  strictly-made x (of_items of_all l) = tt
  strictly-made x (compared {s = s} {t = t} properly_included h i) =
      let a = type_of s (bound_types r) in
      let b = type_of t (bound_types r) in
      made-either cells (both_sets a b || both_msets a b) _ (two both (compared included h i) (one denied (compared included i h)))
  strictly-made x f = tt

  -- What may be asked of each set with such members is asked of one of both, or of both.
  in-two : {s : Ex} {k : Kind} (a : Ex) → ((t : Ex) → SetTerm cells r t k → Seen cells r (ex2 true Op2.Member a t) true) →
      SetTerm cells r s k → Made cells r true (member_combined (ex2 true Op2.Member a s))
  in-two a w (view n q k p) = tt
  in-two a w (drawn h) = tt
  in-two a w (combined {s = s} {t = t} united h i) = two either (w s h) (w t i)
  in-two a w (combined {s = s} {t = t} shared h i) = two both (w s h) (w t i)
  in-two a w (combined {s = s} {t = t} lessened h i) = two both (w s h) (one denied (w t i))

  -- So it is with `in` of a set that is made of two.
  pub in-two-made : {e : Ex} {m : Bool} → Seen cells r e m → Made cells r m (member_combined e)
  in-two-made (one denied f) = tt
  in-two-made (two both f h) = tt
  in-two-made (counted so_many) = tt
  in-two-made (folded of_all k f) = tt
  in-two-made (of_items of_all l) = tt
  in-two-made (within {a = a} f h) = in-two a (λ t i. within f i) h
  in-two-made (set_within {a = a} f h) = in-two a (λ t i. set_within f i) h
  in-two-made (compared alike h i) = tt
  in-two-made f = tt

  -- ---- by members

  module _ (more : SeenTreesStayAmongMore) (x : Text) (new : look r x ≡ None) where
    -- Each member of one set is in another one.
    all-within : (k : Kind) {s t : Ex} → SetTerm cells r s k → SetTerm cells r t k →
        Seen cells r (every x s (ex2 true Op2.Member (name_ex x) t)) true
    all-within k h i = folded of_all (among h at_end) (drawn-within cells more x r new k i)

    -- `a subsetEq b` is `and([x in b | x <- a])`.
    pub included-made : {e : Ex} {m : Bool} → Seen cells r e m → Made cells r m (included_members (bound_types r) x e)
    included-made (one denied f) = tt
    included-made (two both f h) = tt
    included-made (counted so_many) = tt
    included-made (folded of_all k f) = tt
    included-made (of_items of_all l) = tt
    included-made (compared {k = k} {s = s} {t = t} included h i) =
        made-either cells (both_sets (type_of s (bound_types r)) (type_of t (bound_types r))) _ (all-within k h i)
    included-made f = tt

    -- `a = b` is that so both ways. Between scalars it isn't asked.
    pub equal-made : SeenTreesHaveTypes → {e : Ex} {m : Bool} → Seen cells r e m → Made cells r m (equal_members (bound_types r) x e)
    equal-made types (one denied f) = tt
    equal-made types (two {x = a} {y = b} (equal {m = m}) f h) =
        unless-sets (both_sets (type_of a (bound_types r)) (type_of b (bound_types r))) _
        (ap (λ o. both_sets o (type_of b (bound_types r))) (types.of_scalars cells r a m f)
        ∙ (ap (both_sets (Some (kind_ty (scalars m)))) (types.of_scalars cells r b m h) ∙ no-scalar-sets m m))
      where
        unless-sets : (b : Bool) (e : Ex) → b ≡ false → Made cells r true (if b then Some e else None)
        unless-sets true e q = cc
        unless-sets false e q = tt
    equal-made types (counted so_many) = tt
    equal-made types (folded of_all k f) = tt
    equal-made types (of_items of_all l) = tt
    equal-made types (compared {k = k} {s = s} {t = t} alike h i) =
        made-either cells (both_sets (type_of s (bound_types r)) (type_of t (bound_types r))) _
        (two both (all-within k h i) (all-within k i h))
    equal-made types f = tt
