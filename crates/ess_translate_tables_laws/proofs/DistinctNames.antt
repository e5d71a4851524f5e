-- No two givens or finds of a well typed specification have one name.
use Rattle.std.proofs.Common.{◌≡◌, refl, sym, ap, ◌∙◌, subst, ℕ, suc, Bool, true, false, ◌&&◌, ◌||◌, not, if◌then◌else◌, List, [], ◌∷◌, ◌++◌, map, Option, Some, None}
use Rattle.std.specs.List.{list_any}
use Rattle.std.proofs.lemmas.List.Folds.{list_any-append}
use Rattle.ess_semantics.specs.Lists.{append_all}
use Rattle.ess_semantics.specs.Values.{Text}
use Rattle.ess_semantics.specs.Order.{same_text}
use Rattle.ess_semantics.specs.Names.{Names, keys, is_among, all_distinct}
use Rattle.ess_semantics.specs.Types.{Ty, named_ty}
use Rattle.ess_semantics.specs.Trees.{Stm, given, given_enum, let_ex, let_dom, let_enum, let_unnamed, needs, find, such_that, minimise, maximise}
use Rattle.ess_semantics.specs.Lettings.{Lettings, no_lettings, put_stm, put_all, lettings_after, types_after}
use Rattle.ess_semantics.specs.Prepared.{resolve_stm, resolve_all, prepared}
use Rattle.ess_semantics.specs.Scopes.{Scope, empty_scope, names_in_scope}
use Rattle.ess_semantics.specs.Judgements.{Judgement, unknown_name, double_name, ill_typed, not_finite, not_enumerable, open_given, judgements, names_are_known, names_are_new, no_value_name, is_objective, declares, first_failed, first_fault, fault, put_in_scope, scope_after, enums_by, unnamed_by}
use Rattle.ess_semantics.specs.Plans.{domain_of_stm}
use Rattle.ess_semantics.proofs.Texts.{same_text-equal, same_text-itself}

-- ---- the names of givens and finds

-- The name of a given or find with a domain.
abbrev own_name : Stm → List Text
own_name (given x d) = x ∷ []
own_name (find x d) = x ∷ []
own_name s = []

-- The names of all.
abbrev own_names : List Stm → List Text
own_names ss = append_all (map own_name ss)

put-own : (s : Stm) (l : Lettings) (g h : Names Ty) → own_name (resolve_stm (put_stm s l g) h) ≡ own_name s
put-own (given x d) l g h = refl
put-own (given_enum a) l g h = refl
put-own (let_ex x e) l g h = refl
put-own (let_dom x d) l g h = refl
put-own (let_enum a ns) l g h = refl
put-own (let_unnamed a e) l g h = refl
put-own (needs e) l g h = refl
put-own (find x d) l g h = refl
put-own (such_that e) l g h = refl
put-own (minimise e) l g h = refl
put-own (maximise e) l g h = refl

put-names : (ss : List Stm) (l : Lettings) (g h : Names Ty) → own_names (resolve_all (put_all ss l g) h) ≡ own_names ss
put-names [] l g h = refl
put-names (s ∷ ss) l g h =
    let t : Stm = put_stm s l g in
    ap (λ n. n ++ own_names (resolve_all (put_all ss (lettings_after t l) (types_after t g)) (types_after t h))) (put-own s l g h)
    ∙ ap (λ ns. own_name s ++ ns) (put-names ss (lettings_after t l) (types_after t g) (types_after t h))

domain-keys : (ss : List Stm) → keys (append_all (map domain_of_stm ss)) ≡ own_names ss
domain-keys [] = refl
domain-keys (given x d ∷ ss) = ap (λ xs. x ∷ xs) (domain-keys ss)
domain-keys (given_enum a ∷ ss) = domain-keys ss
domain-keys (let_ex x e ∷ ss) = domain-keys ss
domain-keys (let_dom x d ∷ ss) = domain-keys ss
domain-keys (let_enum a ns ∷ ss) = domain-keys ss
domain-keys (let_unnamed a e ∷ ss) = domain-keys ss
domain-keys (needs e ∷ ss) = domain-keys ss
domain-keys (find x d ∷ ss) = ap (λ xs. x ∷ xs) (domain-keys ss)
domain-keys (such_that e ∷ ss) = domain-keys ss
domain-keys (minimise e ∷ ss) = domain-keys ss
domain-keys (maximise e ∷ ss) = domain-keys ss

-- ---- names stay in scope

-- The names of one list are among those of another.
abbrev Keeps : List Text → List Text → Type 0
Keeps ns ms = (x : Text) → is_among ns x ≡ true → is_among ms x ≡ true

or-keeps : (a b c d : Bool) → (a ≡ true → c ≡ true) → (b ≡ true → d ≡ true) → (a || b) ≡ true → (c || d) ≡ true
or-keeps true b true d f g h = refl
or-keeps true b false d f g h = let no : false ≡ true = f refl in cc
or-keeps false b true d f g h = refl
or-keeps false b false d f g h = g h

-- Of two lists one behind the other.
both-keep : (ns ms cs ds : List Text) → Keeps ns cs → Keeps ms ds → Keeps (ns ++ ms) (cs ++ ds)
both-keep ns ms cs ds f g x h =
    list_any-append (λ n. same_text n x) cs ds
    ∙ or-keeps (is_among ns x) (is_among ms x) (is_among cs x) (is_among ds x) (f x) (g x)
    (sym (list_any-append (λ n. same_text n x) ns ms) ∙ h)

none-keep : (ms : List Text) → Keeps [] ms
none-keep ms x h = cc

same-keeps : (ns : List Text) → Keeps ns ns
same-keeps ns x h = h

-- A list behind others.
behind-keeps : (ns ms : List Text) → Keeps ms (ns ++ ms)
behind-keeps ns ms = both-keep [] ms ns ms (none-keep ns) (same-keeps ms)

value-keys : (ns : List Text) (t : Ty) (g : Names Ty) → keys (map (λ n. (n, t)) ns ++ g) ≡ ns ++ keys g
value-keys [] t g = refl
value-keys (n ∷ ns) t g = ap (λ xs. n ∷ xs) (value-keys ns t g)

-- The names that have types.
types-keep : (s : Stm) (g : Names Ty) → Keeps (keys g) (keys (types_after s g))
types-keep (given x d) g = behind-keeps (x ∷ []) (keys g)
types-keep (given_enum a) g = same-keeps (keys g)
types-keep (let_ex x e) g = behind-keeps (x ∷ []) (keys g)
types-keep (let_dom x d) g = same-keeps (keys g)
types-keep (let_enum a ns) g = subst (λ ms. Keeps (keys g) ms) (sym (value-keys ns (named_ty a) g)) (behind-keeps ns (keys g))
types-keep (let_unnamed a e) g = same-keeps (keys g)
types-keep (needs e) g = same-keeps (keys g)
types-keep (find x d) g = behind-keeps (x ∷ []) (keys g)
types-keep (such_that e) g = same-keeps (keys g)
types-keep (minimise e) g = same-keeps (keys g)
types-keep (maximise e) g = same-keeps (keys g)

-- The names of domains.
lettings-keep : (s : Stm) (l : Lettings) → Keeps (keys l.doms) (keys (lettings_after s l).doms)
lettings-keep (given x d) l = same-keeps (keys l.doms)
lettings-keep (given_enum a) l = same-keeps (keys l.doms)
lettings-keep (let_ex x e) l = same-keeps (keys l.doms)
lettings-keep (let_dom x d) l = behind-keeps (x ∷ []) (keys l.doms)
lettings-keep (let_enum a ns) l = same-keeps (keys l.doms)
lettings-keep (let_unnamed a e) l = same-keeps (keys l.doms)
lettings-keep (needs e) l = same-keeps (keys l.doms)
lettings-keep (find x d) l = same-keeps (keys l.doms)
lettings-keep (such_that e) l = same-keeps (keys l.doms)
lettings-keep (minimise e) l = same-keeps (keys l.doms)
lettings-keep (maximise e) l = same-keeps (keys l.doms)

-- All names in scope.
scope-keeps : (t : Stm) (s : Scope) → Keeps (names_in_scope s) (names_in_scope (scope_after t s))
scope-keeps t s =
    let z : Scope = scope_after t s in
    both-keep (keys s.tys ++ s.enums ++ s.unnamed) (keys s.lets.doms) (keys z.tys ++ z.enums ++ z.unnamed) (keys z.lets.doms)
    (both-keep (keys s.tys ++ s.enums) s.unnamed (keys z.tys ++ z.enums) z.unnamed
    (both-keep (keys s.tys) s.enums (keys z.tys) z.enums (types-keep t s.tys) (behind-keeps (enums_by t) s.enums))
    (behind-keeps (unnamed_by t) s.unnamed))
    (lettings-keep t s.lets)

-- ---- a statement without a fault

unless : {A : Type 0} (b : Bool) (o : Option A) (a : A) → (if b then o else Some a) ≡ None → (b ≡ true) × (o ≡ None)
unless true o a h = (refl, h)
unless false o a h = cc

met-new : (w t : Stm) (s : Scope) → first_failed judgements w t s ≡ None → names_are_new w s ≡ true
met-new w t s h =
    let rest = unless (names_are_known t s)
    (first_failed (double_name ∷ ill_typed ∷ not_finite ∷ not_enumerable ∷ open_given ∷ []) w t s) unknown_name h in
    (unless (names_are_new w s) (first_failed (ill_typed ∷ not_finite ∷ not_enumerable ∷ open_given ∷ []) w t s) double_name rest.1).0

second : (a b c d e : Bool) → (a && b && c && d && e) ≡ true → b ≡ true
second true true c d e h = refl
second true false c d e h = cc
second false b c d e h = cc

not-yes : (b : Bool) → not b ≡ true → b ≡ false
not-yes true h = cc
not-yes false h = refl

new-names : (w : Stm) (s : Scope) → names_are_new w s ≡ true → list_any (is_among (names_in_scope s)) (declares w) ≡ false
new-names w s h =
    not-yes (list_any (is_among (names_in_scope s)) (declares w))
    (second (all_distinct (declares w)) (not (list_any (is_among (names_in_scope s)) (declares w))) (no_value_name w s)
    (not (is_objective w && s.objective)) _ h)

faultless : (o : Option Judgement) (k : ℕ) (r : Option (Judgement × ℕ)) →
    ◌≡◌ {A = Option (Judgement × ℕ)} (elim o [ Some j ↦ Some (j, k) | None ↦ r ]) None → (o ≡ None) × (r ≡ None)
faultless None k r h = (refl, h)
faultless (Some j) k r h = cc

or-no : (b : Bool) → (b || false) ≡ false → b ≡ false
or-no true h = cc
or-no false h = refl

-- ---- all statements

-- The names of the statements are distinct, and none of them is in scope.
record AreNew (ss : List Stm) (s : Scope) : Type 0 where
  distinct : all_distinct (own_names ss) ≡ true
  outside : (x : Text) → is_among (names_in_scope s) x ≡ true → is_among (own_names ss) x ≡ false

not-both : (b : Bool) → b ≡ true → b ≡ false → ⊥
not-both true h k = cc
not-both false h k = cc

no-among : (b : Bool) → (b ≡ true → ⊥) → b ≡ false
no-among true f = absurd (f refl)
no-among false f = refl

and-both : (a b : Bool) → a ≡ false → b ≡ true → (not a && b) ≡ true
and-both true b h k = cc
and-both false b h k = k

or-both : (a b : Bool) → a ≡ false → b ≡ false → (a || b) ≡ false
or-both true b h k = cc
or-both false b h k = k

-- A name that isn't in scope before a statement and is behind it.
name-more : (x : Text) (ss : List Stm) (s z : Scope) → is_among (names_in_scope s) x ≡ false → is_among (names_in_scope z) x ≡ true →
    Keeps (names_in_scope s) (names_in_scope z) → AreNew ss z → (all_distinct (x ∷ own_names ss) ≡ true) ×
    ((y : Text) → is_among (names_in_scope s) y ≡ true → is_among (x ∷ own_names ss) y ≡ false)
name-more x ss s z h e k n = (
  and-both (is_among (own_names ss) x) (all_distinct (own_names ss)) (n.outside x e) n.distinct,
  λ y i. or-both (same_text x y) (is_among (own_names ss) y)
      (no-among (same_text x y)
      (λ q. not-both (is_among (names_in_scope s) x)
      (subst (λ u. is_among (names_in_scope s) u ≡ true) (sym (same_text-equal x y q)) i) h))
      (n.outside y (k y i)),
)

without-name : (s : Stm) (ss : List Stm) (x z : Scope) → own_name s ≡ [] → Keeps (names_in_scope x) (names_in_scope z) → AreNew ss z →
    AreNew (s ∷ ss) x
without-name s ss x z e k n = record {
  distinct = ap (λ ns. all_distinct (ns ++ own_names ss)) e ∙ n.distinct;
  outside = λ y i. ap (λ ns. is_among (ns ++ own_names ss) y) e ∙ n.outside y (k y i);
}

with-name : (s : Stm) (a : Text) (ss : List Stm) (x z : Scope) → own_name s ≡ a ∷ [] → is_among (names_in_scope x) a ≡ false →
    is_among (names_in_scope z) a ≡ true →
    Keeps (names_in_scope x) (names_in_scope z) → AreNew ss z → AreNew (s ∷ ss) x
with-name s a ss x z e h i k n =
    let m = name-more a ss x z h i k n in record {
      distinct = ap (λ ns. all_distinct (ns ++ own_names ss)) e ∙ m.0;
      outside = λ y j. ap (λ ns. is_among (ns ++ own_names ss) y) e ∙ m.1 y j;
    }

first-among : (a : Text) (ns ms os ps : List Text) → is_among (((a ∷ ns) ++ ms ++ os) ++ ps) a ≡ true
first-among a ns ms os ps = ap (λ b. b || is_among ((ns ++ ms ++ os) ++ ps) a) (same_text-itself a)

-- One statement more at the front.
more-new : (s : Stm) (ss : List Stm) (x : Scope) → list_any (is_among (names_in_scope x)) (declares s) ≡ false →
    AreNew ss (scope_after (put_in_scope s x) x) →
    AreNew (s ∷ ss) x
more-new (given a d) ss x h n =
    let t : Stm = put_in_scope (given a d) x in let z : Scope = scope_after t x in
    with-name (given a d) a ss x z refl (or-no (is_among (names_in_scope x) a) h)
    (first-among a (keys x.tys) z.enums z.unnamed (keys z.lets.doms)) (scope-keeps t x) n
more-new (find a d) ss x h n =
    let t : Stm = put_in_scope (find a d) x in let z : Scope = scope_after t x in
    with-name (find a d) a ss x z refl (or-no (is_among (names_in_scope x) a) h)
    (first-among a (keys x.tys) z.enums z.unnamed (keys z.lets.doms)) (scope-keeps t x) n
more-new (given_enum a) ss x h n = let t : Stm =
    put_in_scope (given_enum a) x in without-name (given_enum a) ss x (scope_after t x) refl (scope-keeps t x) n
more-new (let_ex a e) ss x h n = let t : Stm =
    put_in_scope (let_ex a e) x in without-name (let_ex a e) ss x (scope_after t x) refl (scope-keeps t x) n
more-new (let_dom a d) ss x h n = let t : Stm =
    put_in_scope (let_dom a d) x in without-name (let_dom a d) ss x (scope_after t x) refl (scope-keeps t x) n
more-new (let_enum a ns) ss x h n = let t : Stm =
    put_in_scope (let_enum a ns) x in without-name (let_enum a ns) ss x (scope_after t x) refl (scope-keeps t x) n
more-new (let_unnamed a e) ss x h n = let t : Stm =
    put_in_scope (let_unnamed a e) x in without-name (let_unnamed a e) ss x (scope_after t x) refl (scope-keeps t x) n
more-new (needs e) ss x h n = let t : Stm =
    put_in_scope (needs e) x in without-name (needs e) ss x (scope_after t x) refl (scope-keeps t x) n
more-new (such_that e) ss x h n = let t : Stm =
    put_in_scope (such_that e) x in without-name (such_that e) ss x (scope_after t x) refl (scope-keeps t x) n
more-new (minimise e) ss x h n = let t : Stm =
    put_in_scope (minimise e) x in without-name (minimise e) ss x (scope_after t x) refl (scope-keeps t x) n
more-new (maximise e) ss x h n = let t : Stm =
    put_in_scope (maximise e) x in without-name (maximise e) ss x (scope_after t x) refl (scope-keeps t x) n

all-new : (ss : List Stm) (x : Scope) (k : ℕ) → first_fault k ss x ≡ None → AreNew ss x
all-new [] x k h = record { distinct = refl; outside = λ y i. refl }
all-new (s ∷ ss) x k h =
    let t : Stm = put_in_scope s x in
    let q = faultless (first_failed judgements s t x) k (first_fault (suc k) ss (scope_after t x)) h in
    more-new s ss x (new-names s x (met-new s t x q.0)) (all-new ss (scope_after t x) (suc k) q.1)

-- The names of the givens and finds of a well typed specification are distinct.
pub distinct-names : (S : List Stm) → fault S ≡ None → all_distinct (keys (append_all (map domain_of_stm (prepared S)))) ≡ true
distinct-names S h =
    ap all_distinct (domain-keys (prepared S) ∙ put-names S no_lettings [] []) ∙ (all-new S empty_scope 1 h).distinct
