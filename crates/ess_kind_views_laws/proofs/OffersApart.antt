-- The names of what a view offers are apart from those of what stands behind it.
use Rattle.std.proofs.Common.{◌≡◌, refl, sym, ◌∙◌, subst, Bool, true, false, ◌&&◌, ◌||◌, not, List, [], ◌∷◌}
use Rattle.std.specs.Prelude.{IsTrue}
use Rattle.ess_semantics.specs.Values.{Text}
use Rattle.ess_semantics.specs.Order.{same_text}
use Rattle.ess_semantics.specs.Trees.{Ex, Gens}
use Rattle.ess_semantics.proofs.Texts.{same_text-itself}
use Rattle.ess_repr_declare_laws.specs.SizeTerms.{unused_name}
use Rattle.ess_rules_laws.specs.ComponentRules.{has_text}
use Rattle.ess_rules_laws.proofs.UsedNames.{names-map, names-map-gens}
use Rattle.ess_refine_laws.specs.AllRules.{Supply}
use Rattle.ess_kind_rules_laws.specs.ViewListings.{view_listing}
use Rattle.ess_kind_views_laws.specs.FoldsAtHand.{OfferedApart}
use Rattle.ess_kind_views_laws.specs.OffersApart.{is_own_kind, is_taken, StandsApart, OffersAreApart}
use Rattle.ess_kind_views_laws.proofs.OfferedNames.{IsNew, AreNew, Offered, view-named}

or-left : (x y : Bool) → IsTrue x → IsTrue (x || y)
or-left true y h = refl
or-left false y h = cc

or-right : (x y : Bool) → IsTrue y → IsTrue (x || y)
or-right true y h = refl
or-right false y h = h

-- The first of the names is one of them.
first-is : (z : Text) (zs : List Text) → IsTrue (has_text (z ∷ zs) z)
first-is z zs = or-left (same_text z z) (has_text zs z) (same_text-itself z)

-- So is one of those behind it.
behind-is : (z : Text) (zs : List Text) (a : Text) → IsTrue (has_text zs a) → IsTrue (has_text (z ∷ zs) a)
behind-is z zs a h = or-right (same_text z a) (has_text zs a) h

module _ (s : Supply) (y : Text) (t e : Ex) (hs : Gens) (b : StandsApart s y t e hs) where
  -- What the item may use, and what generators may bind.
  abbrev put : Text → Bool
  put a = (b.scope a || same_text y a) || is_taken s a

  abbrev taken : Text → Bool
  taken a = b.bound a || is_taken s a

  sizes-taken : IsTrue (taken unused_name)
  sizes-taken = or-left (b.bound unused_name) (is_taken s unused_name) b.sizes

  -- ---- new names

  new-name : (a : Text) → IsTrue (is_taken s a) → IsNew put taken sizes-taken a
  new-name a h = (or-right (b.scope a || same_text y a) (is_taken s a) h, or-right (b.bound a) (is_taken s a) h)

  each-new : (zs : List Text) → ((a : Text) → IsTrue (has_text zs a) → IsTrue (is_taken s a)) → AreNew put taken sizes-taken zs
  each-new [] f = tt
  each-new (z ∷ zs) f = (new-name z (f z (first-is z zs)), each-new zs (λ a h. f a (behind-is z zs a h)))

  -- ---- what stands behind

  used-apart : (a : Text) → IsTrue (b.used a) → IsTrue (not (taken a))
  used-apart a h = go (b.bound a) (is_taken s a) refl refl
    where
      go : (p q : Bool) → b.bound a ≡ p → is_taken s a ≡ q → IsTrue (not (p || q))
      go true q i j = let k : true ≡ false = sym h ∙ b.within a i in cc
      go false true i j = let k : true ≡ false = sym h ∙ b.new a j in cc
      go false false i j = refl

  bound-apart : (a : Text) → IsTrue (b.used a && not (b.scope a || same_text y a)) → IsTrue (not (put a))
  bound-apart a h = go (b.used a) (b.scope a || same_text y a) (is_taken s a) refl refl h
    where
      go : (p q r : Bool) → b.used a ≡ p → is_taken s a ≡ r → IsTrue (p && not q) → IsTrue (not (q || r))
      go false q r i j h = cc
      go true true r i j h = cc
      go true false false i j h = refl
      go true false true i j h = let k : true ≡ false = sym i ∙ b.new a j in cc

  -- ---- what is offered

  offered : is_own_kind t ≡ true → Offered put taken sizes-taken (view_listing s.one s.other s.parts t)
  offered o =
      view-named put taken sizes-taken s.one s.other s.parts (new-name s.one (first-is s.one (s.other ∷ s.parts)))
      (new-name s.other (behind-is s.one (s.other ∷ s.parts) s.other (first-is s.other s.parts)))
      (each-new s.parts (λ a h. behind-is s.one (s.other ∷ s.parts) a (behind-is s.other s.parts a h))) t o
      (names-map b.scope put b.bound (λ a. true)
      (λ a h. or-left (b.scope a || same_text y a) (is_taken s a) (or-left (b.scope a) (same_text y a) h)) (λ a h. refl) t b.source)
      (names-map b.scope (λ a. true) b.bound taken (λ a h. refl) (λ a h. or-left (b.bound a) (is_taken s a) h) t b.source)

  offers-apart : is_own_kind t ≡ true → OfferedApart s y t e hs
  offers-apart o a q =
      let n = subst (Offered put taken sizes-taken) q (offered o) in (
        taken,
        put,
        (
          or-left (b.scope y || same_text y y) (is_taken s y) (or-right (b.scope y) (same_text y y) (same_text-itself y)),
          n.0,
          n.1,
          names-map-gens b.used (λ c. not (taken c)) (λ c. b.used c && not (b.scope c || same_text y c)) (λ c. not (put c)) used-apart
              bound-apart hs b.gens,
          names-map b.used (λ c. not (taken c)) (λ c. b.used c && not (b.scope c || same_text y c)) (λ c. not (put c)) used-apart
              bound-apart e b.body,
        ),
      )

-- What is proved of them.
pub offers-are-apart : OffersAreApart
offers-are-apart s y t e hs o b = offers-apart s y t e hs b o
