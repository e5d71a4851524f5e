-- The name that sizes bind is no reserved one, so it may belong to what a tree spares.
use Rattle.std.proofs.Common.{◌≡◌, refl, ap, ℕ, ◌<◌, ◌^◌, Bool, true, false, ◌||◌, [], length, arith, decimal}
use Rattle.std.proofs.lemmas.Fmt.{decimal_nonempty}
use Rattle.ess_semantics.specs.Values.{Text}
use Rattle.ess_semantics.specs.Order.{same_text}
use Rattle.ess_semantics.specs.Trees.{Ex}
use Rattle.ess_semantics.proofs.Texts.{same_text-itself, same_text-equal}
use Rattle.ess_repr_declare_laws.specs.SizeTerms.{unused_name}
use Rattle.conjure_model_laws.specs.ToldApart.{reserved}
use Rattle.ess_given_laws.specs.Given.{is_fixed}
use Rattle.ess_given_conditions_laws.specs.GrowingNames.{HasNoneFrom}
use Rattle.ess_given_conditions_laws.specs.GivenChains.{SparesAll}
use Rattle.ess_given_conditions_laws.proofs.MoreFixed.{fixed-among}
use Rattle.ess_given_kinds_laws.specs.ess_given_offers_laws.Seen.{Counts}

-- No reserved name is the one that sizes bind.
pub unused-differs : (j : ℕ) → j < 2 ^ 64 → same_text unused_name (reserved j) ≡ false
unused-differs j l = go (same_text unused_name (reserved j)) refl
  where
    go : (b : Bool) → same_text unused_name (reserved j) ≡ b → same_text unused_name (reserved j) ≡ false
    go false e = e
    go true e =
        let q : unused_name ≡ reserved j = same_text-equal unused_name (reserved j) e in
        let d : [] ≡ decimal j = cc in
        let p : 0 ≡ length (decimal j) = ap length d in
        let n : 0 < length (decimal j) = decimal_nonempty j l in
        absurd (omega (arith, p, n))

-- The names of w, and the one that sizes bind.
abbrev pub with_unused : (Text → Bool) → Text → Bool
with_unused w a = same_text unused_name a || w a

or-left : (b c : Bool) → b ≡ true → b || c ≡ true
or-left true c h = refl
or-left false c h = cc

or-right : (b c : Bool) → c ≡ true → b || c ≡ true
or-right true c h = refl
or-right false c h = h

neither : (b c : Bool) → b ≡ false → c ≡ false → b || c ≡ false
neither false c h k = k
neither true c h k = h

-- It has that name.
pub unused-counts : (w : Text → Bool) → Counts (with_unused w)
unused-counts w = or-left (same_text unused_name unused_name) (w unused_name) (same_text-itself unused_name)

-- It spares what w spares.
pub unused-spares : (w : Text → Bool) (n : ℕ) → HasNoneFrom n w → HasNoneFrom n (with_unused w)
unused-spares w n f j p q =
    neither (same_text unused_name (reserved j)) (w (reserved j)) (unused-differs j q) (f j p q)

-- What w fixes it fixes.
pub unused-fixed : (w : Text → Bool) (e : Ex) → is_fixed w e ≡ true → is_fixed (with_unused w) e ≡ true
unused-fixed w e h = fixed-among w w (with_unused w) (λ a k r. or-right (same_text unused_name a) (w a) r) e h h

-- What a tree spares may have that name.
pub spares-unused : (n : ℕ) (e : Ex) → SparesAll n e → SparesAll n e
spares-unused n e s = record {
  among = with_unused s.among;
  has = unused-fixed s.among e s.has;
  spared = unused-spares s.among n s.spared;
}
