-- The names of a list that aren't in scope yet: how many there are.
use Rattle.std.proofs.Common.{◌≡◌, refl, ap, ◌∙◌, ℕ, suc, ◌≤◌, ◌<◌, Bool, true, false, ◌||◌, if◌then◌else◌, List, [], ◌∷◌, length, arith}
use Rattle.std.specs.Prelude.{IsTrue}
use Rattle.ess_semantics.specs.Values.{Text}
use Rattle.ess_semantics.specs.Order.{same_text}
use Rattle.ess_semantics.specs.Names.{is_among}
use Rattle.ess_semantics.specs.Trees.{Pat, name_pat}
use Rattle.ess_semantics.specs.Scoped.{is_bound, with_names}
use Rattle.ess_semantics.proofs.Texts.{same_text-equal, same_text-itself}

-- How many of the names aren't in s.
abbrev pub left_of : List Text → (Text → Bool) → ℕ
left_of [] s = 0
left_of (b ∷ ns) s = if s b then left_of ns s else suc (left_of ns s)

counted-both : (p q : Bool) (x y : ℕ) → (IsTrue p → IsTrue q) → x ≤ y → (if q then x else suc x) ≤ (if p then y else suc y)
counted-both true true x y f l = l
counted-both true false x y f l = let q : false ≡ true = f refl in cc
counted-both false true x y f l = omega (arith, l)
counted-both false false x y f l = omega (arith, l)

counted-less : (p q : Bool) (x y : ℕ) → (IsTrue p → IsTrue q) → x < y → (if q then x else suc x) < (if p then y else suc y)
counted-less true true x y f l = l
counted-less true false x y f l = let q : false ≡ true = f refl in cc
counted-less false true x y f l = omega (arith, l)
counted-less false false x y f l = omega (arith, l)

counted-first : (p q : Bool) (x y : ℕ) → p ≡ false → q ≡ true → x ≤ y → (if q then x else suc x) < (if p then y else suc y)
counted-first false true x y f g l = omega (arith, l)
counted-first true q x y f g l = cc
counted-first false false x y f g l = cc

counted-most : (p : Bool) (x y : ℕ) → x ≤ y → (if p then x else suc x) ≤ suc y
counted-most true x y l = omega (arith, l)
counted-most false x y l = omega (arith, l)

-- No more are left than there are.
pub left-most : (ns : List Text) (s : Text → Bool) → left_of ns s ≤ length ns
left-most [] s = omega arith
left-most (b ∷ ns) s = counted-most (s b) (left_of ns s) (length ns) (left-most ns s)

-- Where more names are in scope no more are left.
pub left-wider : (ns : List Text) (s t : Text → Bool) → ((a : Text) → IsTrue (s a) → IsTrue (t a)) → left_of ns t ≤ left_of ns s
left-wider [] s t f = omega arith
left-wider (b ∷ ns) s t f = counted-both (s b) (t b) (left_of ns t) (left_of ns s) (f b) (left-wider ns s t f)

or-before : (b c : Bool) → IsTrue b → IsTrue (b || c)
or-before true c h = refl
or-before false c h = cc

or-behind : (b c : Bool) → IsTrue c → IsTrue (b || c)
or-behind true c h = refl
or-behind false c h = h

-- A name stays in scope behind a pattern.
pub still : (s : Text → Bool) (p : Pat) (a : Text) → IsTrue (s a) → IsTrue (with_names s p a)
still s p a h = or-before (s a) (is_bound p a) h

-- Where one of the names comes into scope that wasn't, fewer are left.
pub left-less : (ns : List Text) (s : Text → Bool) (a : Text) → IsTrue (is_among ns a) → s a ≡ false →
    left_of ns (with_names s (name_pat a)) < left_of ns s
left-less [] s a h f = cc
left-less (b ∷ ns) s a h f = go (same_text b a) refl h (left-less ns s a)
  where
    later : left_of ns (with_names s (name_pat a)) < left_of ns s → left_of (b ∷ ns) (with_names s (name_pat a)) < left_of (b ∷ ns) s
    later l = counted-less (s b) (with_names s (name_pat a) b) (left_of ns (with_names s (name_pat a))) (left_of ns s)
        (still s (name_pat a) b) l

    here : b ≡ a → left_of (b ∷ ns) (with_names s (name_pat a)) < left_of (b ∷ ns) s
    here q = counted-first (s b) (with_names s (name_pat a) b) (left_of ns (with_names s (name_pat a))) (left_of ns s)
        (ap s q ∙ f) (or-behind (s b) (same_text a b) (ap (same_text a) q ∙ same_text-itself a))
        (left-wider ns s (with_names s (name_pat a)) (still s (name_pat a)))

    go : (c : Bool) → same_text b a ≡ c → IsTrue (c || is_among ns a) →
        (IsTrue (is_among ns a) → s a ≡ false → left_of ns (with_names s (name_pat a)) < left_of ns s) →
        left_of (b ∷ ns) (with_names s (name_pat a)) < left_of (b ∷ ns) s
    go true e h i = here (same_text-equal b a e)
    go false e h i = later (i h f)
