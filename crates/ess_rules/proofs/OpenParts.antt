-- Whether generators have an open part, one by one.
use Rattle.std.proofs.Common.{◌≡◌, refl, sym, ap, ◌∙◌, ℕ, ◌+◌, ◌<◌, ◌≤◌, Bool, true, false, ◌||◌, List, [], ◌∷◌, length, map, drop, get_or}
use Rattle.std.proofs.lemmas.List.{at_drop_more, at_drop_all}
use Rattle.ess_semantics.specs.Trees as pure
use Rattle.ess_semantics.specs.Trees.{Ex, Dom}
use Rattle.ess_core.specs.TreeViews.{Item, over_item, from_item, cond_item, gens_of}
use Rattle.ess_core_nodes.specs.declared.nodes.Gen.{Gen}
use Rattle.ess_core_nodes.specs.NodeViews.{pure_gen, pure_gens}
use Rattle.ess_rules.specs.WaitingConditions.{has_open, gens_have_open}

-- ---- one generator

or-none : (b : Bool) → (b || false) ≡ b
or-none true = refl
or-none false = refl

or-step : (a b : Bool) → (a || b) ≡ ((a || false) || b)
or-step a b = ap (λ c. c || b) (sym (or-none a))

-- One over a domain alone has no open part.
pub domain_alone : (p : pure.Pat) (d : Dom) → gens_have_open (gens_of (over_item p d ∷ [])) ≡ false
domain_alone p d = refl

-- One over a source alone has what the source has.
pub source_alone : (p : pure.Pat) (e : Ex) → gens_have_open (gens_of (from_item p e ∷ [])) ≡ has_open e
source_alone p e = or-none (has_open e)

-- A condition alone has what it has.
pub condition_alone : (c : Ex) → gens_have_open (gens_of (cond_item c ∷ [])) ≡ has_open c
condition_alone c = or-none (has_open c)

-- ---- one after the other

first : (x : Item) (xs : List Item) → gens_have_open (gens_of (x ∷ xs)) ≡ (gens_have_open (gens_of (x ∷ [])) || gens_have_open (gens_of xs))
first (over_item p d) xs = refl
first (from_item p e) xs = or-step (has_open e) (gens_have_open (gens_of xs))
first (cond_item c) xs = or-step (has_open c) (gens_have_open (gens_of xs))

left : (xs : List Gen) (i : ℕ) (x : Gen) → i < length xs → x ≡ get_or xs i x
    → gens_have_open (pure_gens (drop i xs))
    ≡ (gens_have_open (gens_of (pure_gen x ∷ [])) || gens_have_open (pure_gens (drop (i + 1) xs)))
left xs i x h is =
    at_drop_more (λ l. gens_have_open (pure_gens l)) xs i x h ∙ ap (λ y. gens_have_open (pure_gens (y ∷ drop (i + 1) xs))) (sym is)
    ∙ first (pure_gen x) (map pure_gen (drop (i + 1) xs))

-- Where one has no open part, those behind it decide.
pub gens_more : (xs : List Gen) (i : ℕ) (x : Gen) → i < length xs → x ≡ get_or xs i x → gens_have_open (gens_of (pure_gen x ∷ [])) ≡ false
    → gens_have_open (pure_gens (drop i xs)) ≡ gens_have_open (pure_gens (drop (i + 1) xs))
gens_more xs i x h is e = left xs i x h is ∙ ap (λ b. b || gens_have_open (pure_gens (drop (i + 1) xs))) e

-- Where one has an open part, the generators have.
pub gens_found : (xs : List Gen) (i : ℕ) (x : Gen) → i < length xs → x ≡ get_or xs i x → gens_have_open (gens_of (pure_gen x ∷ [])) ≡ true
    → gens_have_open (pure_gens (drop i xs)) ≡ true
gens_found xs i x h is e = left xs i x h is ∙ ap (λ b. b || gens_have_open (pure_gens (drop (i + 1) xs))) e

-- Behind the last there is none.
pub gens_none : (xs : List Gen) (i : ℕ) → length xs ≤ i → gens_have_open (pure_gens (drop i xs)) ≡ false
gens_none xs i h = at_drop_all (λ l. gens_have_open (pure_gens l)) xs i h
