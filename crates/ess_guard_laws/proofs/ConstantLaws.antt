-- Each constant of a guarded tree is one of the tree.
use Rattle.std.proofs.Common.{◌≡◌, refl, ap, Bool, true, false, ◌||◌, List, [], ◌∷◌, ℤ, pos}
use Rattle.std.specs.List.{list_any}
use Rattle.ess_semantics.specs.Values.{Text}
use Rattle.ess_semantics.specs.Order.{same_int}
use Rattle.ess_semantics.specs.Trees.{Ex}
use Rattle.ess_semantics.specs.Contexts.{Each}
use Rattle.ess_semantics.specs.Constants.{tree_constants, constants_of_tree, among_constants}
use Rattle.ess_semantics.proofs.Orders.{same_int-itself}
use Rattle.ess_semantics.proofs.Tests.{and-both}
use Rattle.ess_rules_laws.proofs.Bindings.{each-map}
use Rattle.ess_guard_laws.specs.Guard.{there, make_total, has_value}
use Rattle.ess_guard_laws.specs.Conditions.{summed}
use Rattle.ess_guard_laws.specs.LiteralsFit.{LiteralsFit}
use Rattle.ess_guard_laws.specs.Guard.{guarded}
use Rattle.ess_guard_laws.proofs.Differ.{later}
use Rattle.ess_guard_laws.proofs.ConstantRows.{all-of-in, summed-in}
use Rattle.ess_guard_laws.proofs.ConstantsKept.{kept, asked}

-- The number is one of these.
abbrev pub Is : List ℤ → ℤ → Type 0
Is ms n = list_any (same_int n) ms ≡ true

-- Each of these numbers is one of them.
pub each-itself : (ns : List ℤ) → Each ns (Is ns)
each-itself [] = tt
each-itself (n ∷ ns) = (
  ap (λ b. b || list_any (same_int n) ns) (same_int-itself n),
  each-map ns (Is ns) (Is (n ∷ ns)) (λ k p. later (same_int k n) (list_any (same_int k) ns) p) (each-itself ns),
)

-- Numbers each of which is one of these.
pub among : (ns ms : List ℤ) → Each ns (Is ms) → among_constants ns ms ≡ true
among [] ms p = refl
among (n ∷ ns) ms p = and-both (list_any (same_int n) ms) (among_constants ns ms) p.0 (among ns ms p.1)

-- The constants of a tree are its own.
own-constants : (e : Ex) → Each (tree_constants false e) (Is (constants_of_tree e))
own-constants e = each-map (tree_constants false e) (Is (tree_constants false e)) (Is (constants_of_tree e))
    (λ n p. later (same_int n (pos 0)) _
    (later (same_int n (pos 1)) _ (later (same_int n (pos 2)) (list_any (same_int n) (tree_constants false e)) p)))
    (each-itself (tree_constants false e))

-- A tree whose constants are those of another one.
all-among : (a e : Ex) → Each (tree_constants false a) (Is (constants_of_tree e)) →
    among_constants (constants_of_tree a) (constants_of_tree e) ≡ true
all-among a e p = among (constants_of_tree a) (constants_of_tree e) (refl, (refl, (refl, p)))

-- A guarded tree.
pub guarded-constants : (natural : Bool) (x y : Text) (e : Ex) → LiteralsFit false e →
    among_constants (constants_of_tree (guarded natural x y [] e)) (constants_of_tree e) ≡ true
guarded-constants natural x y e f =
    all-among (guarded natural x y [] e) e (kept natural x y (Is (constants_of_tree e)) refl refl e [] false f (own-constants e))

-- The conditions of a term.
pub there-constants : (x y : Text) (e : Ex) → LiteralsFit false e →
    among_constants (constants_of_tree (has_value x y e)) (constants_of_tree e) ≡ true
there-constants x y e f =
    all-among (has_value x y e) e
    (all-of-in (Is (constants_of_tree e)) refl refl (there x y e)
    (asked false x y (Is (constants_of_tree e)) refl refl e [] false false f (own-constants e)))

-- A number under its conditions.
pub number-constants : (x y : Text) (e : Ex) → LiteralsFit false e →
    among_constants (constants_of_tree (summed (there x y e) (make_total x y e))) (constants_of_tree e) ≡ true
number-constants x y e f =
    all-among (summed (there x y e) (make_total x y e)) e (summed-in (Is (constants_of_tree e)) refl refl (there x y e) (make_total x y e)
    (asked false x y (Is (constants_of_tree e)) refl refl e [] false false f (own-constants e))
    (kept false x y (Is (constants_of_tree e)) refl refl e [] false f (own-constants e)))
