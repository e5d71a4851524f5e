-- The names in scope behind a statement: those before it, and those that it declares. It declares none of those before it.
use Rattle.std.proofs.Common.{◌≡◌, refl, sym, ap, ◌∙◌, Bool, true, false, ◌||◌, List, [], ◌∷◌, ◌++◌, map}
use Rattle.std.specs.List.{list_any}
use Rattle.ess_semantics.specs.Values.{Text}
use Rattle.ess_semantics.specs.Order.{same_text}
use Rattle.ess_semantics.specs.Names.{Names, keys, is_among}
use Rattle.ess_semantics.specs.Trees.{Stm, given, given_enum, let_ex, let_dom, let_enum, let_unnamed, needs, find, such_that, minimise, maximise}
use Rattle.ess_semantics.specs.Types.{Ty}
use Rattle.ess_semantics.specs.Scopes.{Scope, names_in_scope}
use Rattle.ess_semantics.specs.Judgements.{declares, put_in_scope, scope_after}
use Rattle.ess_semantics.proofs.Tests.{or-left-no, or-right-no}
use Rattle.ess_semantics.proofs.Texts.{same_text-equal}
use Rattle.conjure_laws.proofs.FreeNames.{among-append}

-- A name is in scope where it is one of a value, a type or a domain.
pub in-scope : (s : Scope) (a : Text) → is_among (names_in_scope s) a ≡ ((is_among (keys s.tys) a || is_among s.enums a) ||
    is_among s.unnamed a) || is_among (keys s.lets.doms) a
in-scope s a =
    among-append (keys s.tys ++ s.enums ++ s.unnamed) (keys s.lets.doms) a
    ∙ ap (λ b. b || is_among (keys s.lets.doms) a)
    (among-append (keys s.tys ++ s.enums) s.unnamed a ∙ ap (λ b. b || is_among s.unnamed a) (among-append (keys s.tys) s.enums a))

-- ---- one name more, at each of the four places

value-more : (x k e u d : Bool) → (((x || k) || e) || u) || d ≡ (x || false) || (((k || e) || u) || d)
value-more true k e u d = refl
value-more false k e u d = refl

enum-more : (x k e u d : Bool) → ((k || (x || e)) || u) || d ≡ (x || false) || (((k || e) || u) || d)
enum-more true true e u d = refl
enum-more true false e u d = refl
enum-more false k e u d = refl

unnamed-more : (x k e u d : Bool) → ((k || e) || (x || u)) || d ≡ (x || false) || (((k || e) || u) || d)
unnamed-more true true e u d = refl
unnamed-more true false true u d = refl
unnamed-more true false false u d = refl
unnamed-more false k e u d = refl

domain-more : (x k e u d : Bool) → ((k || e) || u) || (x || d) ≡ (x || false) || (((k || e) || u) || d)
domain-more true true e u d = refl
domain-more true false true u d = refl
domain-more true false false true d = refl
domain-more true false false false d = refl
domain-more false k e u d = refl

type-more : (t n k e u d : Bool) → (((n || k) || (t || e)) || u) || d ≡ (t || n) || (((k || e) || u) || d)
type-more true true k e u d = refl
type-more true false true e u d = refl
type-more true false false e u d = refl
type-more false true k e u d = refl
type-more false false k e u d = refl

value-keys : (ns : List Text) (t : Ty) (g : Names Ty) → keys (map (λ n. (n, t)) ns ++ g) ≡ ns ++ keys g
value-keys [] t g = refl
value-keys (n ∷ ns) t g = ap (λ xs. n ∷ xs) (value-keys ns t g)

-- Behind a statement are in scope those names that it declares, and those before it.
pub scope-grows : (w : Stm) (s : Scope) (a : Text) →
    is_among (names_in_scope (scope_after (put_in_scope w s) s)) a ≡ is_among (declares w) a || is_among (names_in_scope s) a
scope-grows w s a = in-scope (scope_after (put_in_scope w s) s) a ∙ go w ∙ ap (λ b. is_among (declares w) a || b) (sym (in-scope s a))
  where
    k : Bool
    k = is_among (keys s.tys) a

    e : Bool
    e = is_among s.enums a

    u : Bool
    u = is_among s.unnamed a

    d : Bool
    d = is_among (keys s.lets.doms) a

    go : (w : Stm) → let z : Scope = scope_after (put_in_scope w s) s in
        ((is_among (keys z.tys) a || is_among z.enums a) || is_among z.unnamed a) || is_among (keys z.lets.doms) a ≡
        is_among (declares w) a ||
        (((is_among (keys s.tys) a || is_among s.enums a) || is_among s.unnamed a) || is_among (keys s.lets.doms) a)
    go (given x y) = value-more (same_text x a) k e u d
    go (given_enum t) = enum-more (same_text t a) k e u d
    go (let_ex x y) = value-more (same_text x a) k e u d
    go (let_dom x y) = domain-more (same_text x a) k e u d
    go (let_enum t ns) =
        ap (λ b. ((b || (same_text t a || e)) || u) || d)
        (ap (λ l. is_among l a) (value-keys ns _ s.tys) ∙ among-append ns (keys s.tys) a)
        ∙ type-more (same_text t a) (is_among ns a) k e u d
    go (let_unnamed t y) = unnamed-more (same_text t a) k e u d
    go (needs y) = refl
    go (find x y) = value-more (same_text x a) k e u d
    go (such_that y) = refl
    go (minimise y) = refl
    go (maximise y) = refl

-- A name of one list is none of the other, where no name of that one is among the first.
pub none-shared : (ns ds : List Text) (a : Text) → list_any (is_among ns) ds ≡ false → is_among ns a ≡ true → is_among ds a ≡ false
none-shared ns [] a h i = refl
none-shared ns (d ∷ ds) a h i =
    go (same_text d a) refl (none-shared ns ds a (or-right-no (is_among ns d) (list_any (is_among ns) ds) h) i)
  where
    go : (b : Bool) → same_text d a ≡ b → is_among ds a ≡ false → (b || is_among ds a) ≡ false
    go false q r = r
    go true q r =
        let z : false ≡ true = sym (or-left-no (is_among ns d) (list_any (is_among ns) ds) h) ∙ ap (is_among ns) (same_text-equal d a q) ∙ i
        in cc
