-- At each statement the givens that its bounds name have their values already.
use Rattle.std.proofs.Common.{◌≡◌, refl, sym, ap, ◌∙◌, ℕ, suc, Bool, true, false, ◌||◌, not, if◌then◌else◌, List, [], ◌∷◌, ◌++◌, inl, inr, Option, Some, None}
use Rattle.ess_semantics.specs.Lists.{list_or_none}
use Rattle.ess_semantics.specs.Values.{Text, Value}
use Rattle.ess_semantics.specs.Order.{same_text}
use Rattle.ess_semantics.specs.Names.{Names, look, is_among, all_distinct}
use Rattle.ess_semantics.specs.Trees.{Dom, Stm, given, given_enum, let_ex, let_dom, let_enum, let_unnamed, needs, find, such_that, minimise, maximise}
use Rattle.ess_semantics.specs.Contexts.{Each}
use Rattle.ess_semantics.specs.Meaning.{Env, empty_env}
use Rattle.ess_semantics.specs.Assignments.{Assignment, nothing_given, value_of, value_if, enum_items, placed, placed_from, env_after}
use Rattle.ess_semantics.specs.Judgements.{fault, declares}
use Rattle.ess_semantics.specs.Parameters.{Param, all_declared, given_enum_of, given_enums}
use Rattle.ess_semantics.specs.Types.{Ty}
use Rattle.ess_semantics.specs.Lettings.{Lettings, no_lettings, lettings_after, put_stm, put_all, types_after}
use Rattle.ess_semantics.specs.Prepared.{resolve_stm, resolve_all, prepared}
use Rattle.ess_semantics.specs.Plans.{Options, Plan, plans}
use Rattle.ess_semantics.proofs.Tests.{and-left, and-right, not-true, or-left-no, or-right-no, or-yes}
use Rattle.ess_semantics.proofs.Texts.{same_text-equal, same_text-itself}
use Rattle.conjure_laws.specs.Members.{In}
use Rattle.conjure_laws.proofs.FreeNames.{among-append, halves}
use Rattle.conjure_laws.proofs.Lists.{in-left, in-right}
use Rattle.conjure_settled_laws.proofs.GivenNames.{given-names-new}
use Rattle.conjure_settled_laws.proofs.LaterEnvs.{items-past}
use Rattle.ess_flat_models_laws.specs.FlatSpecifications.{given_mark, mark_among, is_scalar_dom}
use Rattle.ess_flat_models_laws.proofs.GivenPlaces.{Known, BoundsKnown}
use Rattle.ess_mixed_models_laws.specs.MixedSpecifications.{is_of_sets, have_bounds}
use Rattle.ess_mixed_models_laws.proofs.NamedKinds.{no-yes}
use Rattle.ess_mixed_models_laws.proofs.DeclaredNames.{prepared-once}

module _ (S : List Stm) (o : Options) (p : Assignment) where
  abbrev Ps : List Plan
  Ps = plans S o

  -- What is known of a statement's bounds: those of scalars name givens that have values.
  abbrev pub PlaceKnown : Stm → Env → Type 0
  PlaceKnown (given x d) env = BoundsKnown Ps o p d env
  PlaceKnown (find x d) env = is_of_sets d ≡ false → BoundsKnown Ps o p d env
  PlaceKnown s env = Unit {0}

  one-more : (x : Text) (d : Dom) (xs : List Text) (env : Env) → Known Ps o p xs env →
      Known Ps o p (x ∷ xs) (env_after (given x d) p nothing_given env)
  one-more x d xs env k = record { known = λ a v i e. go a v (same_text x a) refl i e }
    where
      behind : (a : Text) (v : Value) (r : Option Value) → same_text x a ≡ false → look env.vals a ≡ Some v →
          look (value_if x r env.vals) a ≡ Some v
      behind a v None q e = e
      behind a v (Some w) q e = ap (λ c. if c then Some w else look env.vals a) q ∙ e

      go : (a : Text) (v : Value) (c : Bool) → same_text x a ≡ c → same_text x a || is_among xs a ≡ true → value_of p a ≡ Some v →
          look (value_if x (value_of p x) env.vals) a ≡ Some v
      go a v true q i e =
          let z : value_of p x ≡ Some v = ap (value_of p) (same_text-equal x a q) ∙ e in
          ap (λ r. look (value_if x r env.vals) a) z ∙ ap (λ c. if c then Some v else look env.vals a) q
      go a v false q i e = behind a v (value_of p x) q (k.known a v (sym (ap (λ c. c || is_among xs a) q) ∙ i) e)

  -- Values of a type with other names leave them as they are.
  with-items : (t : Text) (ns : List Text) (xs : List Text) (env later : Env) → later.vals ≡ enum_items t 1 ns ++ env.vals →
      ((a : Text) → is_among xs a ≡ true → is_among ns a ≡ false) → Known Ps o p xs env → Known Ps o p xs later
  with-items t ns xs env later e n k = record {
    known = λ a v i w. ap (λ g. look g a) e ∙ sym (items-past t ns env.vals a (n a i)) ∙ k.known a v i w;
  }

  module _ (new : (t : Text) (a : Text) → In t (given_enums S) → is_among (all_declared S) a ≡ true →
      is_among (list_or_none (look p.types t)) a ≡ false) where
    once : (s : Stm) (T : List Stm) → all_distinct (all_declared (s ∷ T)) ≡ true → all_distinct (all_declared T) ≡ true
    once s T d = (halves (declares s) (all_declared T) d).1

    -- No given of these is declared by these statements.
    abbrev Apart : List Text → List Stm → Type 0
    Apart xs T = (a : Text) → is_among xs a ≡ true → is_among (all_declared T) a ≡ false

    apart : (s : Stm) (T : List Stm) (xs : List Text) → Apart xs (s ∷ T) → Apart xs T
    apart s T xs c a i =
        or-right-no (is_among (declares s) a) (is_among (all_declared T) a) (sym (among-append (declares s) (all_declared T) a) ∙ c a i)

    apart-here : (s : Stm) (T : List Stm) (xs : List Text) → Apart xs (s ∷ T) → (a : Text) → is_among xs a ≡ true →
        is_among (declares s) a ≡ false
    apart-here s T xs c a i =
        or-left-no (is_among (declares s) a) (is_among (all_declared T) a) (sym (among-append (declares s) (all_declared T) a) ∙ c a i)

    apart-more : (x : Text) (f : Dom) (T : List Stm) (xs : List Text) → all_distinct (all_declared (given x f ∷ T)) ≡ true →
        Apart xs (given x f ∷ T) → Apart (x ∷ xs) T
    apart-more x f T xs d c a i = go (same_text x a) refl i
      where
        go : (b : Bool) → same_text x a ≡ b → b || is_among xs a ≡ true → is_among (all_declared T) a ≡ false
        go true q i =
            ap (is_among (all_declared T)) (sym (same_text-equal x a q))
            ∙ not-true (is_among (all_declared T) x) (and-left (not (is_among (all_declared T) x)) (all_distinct (all_declared T)) d)
        go false q i = apart (given x f) T xs c a i

    -- So it is at each statement.
    places-from : (T : List Stm) (k : ℕ) (xs : List Text) (env : Env) → have_bounds Ps xs T ≡ true →
        ((t : Text) → In (given_enum t) T → In t (given_enums S)) → ((x : Text) (d : Dom) → In (given x d) T →
        is_among (all_declared S) x ≡ true) →
        ((a : Text) → is_among xs a ≡ true → is_among (all_declared S) a ≡ true) → all_distinct (all_declared T) ≡ true → Apart xs T →
        Known Ps o p xs env → Each (placed_from k T p nothing_given env) (λ l. PlaceKnown l.stm l.env)
    places-from [] k xs env b e g n d c w = tt
    places-from (given x f ∷ T) k xs env b e g n d c w =
        let a : Bool = is_scalar_dom (mark_among xs (given_mark Ps)) f in
        let r : Bool = have_bounds Ps (x ∷ xs) T in (
          record { names = xs; bounded = and-left a r b; known = w },
          places-from T (suc k) (x ∷ xs) (env_after (given x f) p nothing_given env) (and-right a r b) (λ t i. e t (inr i))
              (λ y f i. g y f (inr i)) (λ a i. either x xs a (g x f (inl refl)) n i) (once (given x f) T d) (apart-more x f T xs d c)
              (one-more x f xs env w),
        )
      where
        either : (x : Text) (xs : List Text) (a : Text) → is_among (all_declared S) x ≡ true →
            ((a : Text) → is_among xs a ≡ true → is_among (all_declared S) a ≡ true) → same_text x a || is_among xs a ≡ true →
            is_among (all_declared S) a ≡ true
        either x xs a h n i = go (same_text x a) refl i
          where
            go : (b : Bool) → same_text x a ≡ b → b || is_among xs a ≡ true → is_among (all_declared S) a ≡ true
            go true q i = ap (is_among (all_declared S)) (sym (same_text-equal x a q)) ∙ h
            go false q i = n a i
    places-from (find x f ∷ T) k xs env b e g n d c w =
        let a : Bool = is_of_sets f || is_scalar_dom (mark_among xs (given_mark Ps)) f in
        let r : Bool = have_bounds Ps xs T in (
          λ q. record {
            names = xs;
            bounded = past (is_of_sets f) (is_scalar_dom (mark_among xs (given_mark Ps)) f) q
                (and-left a r b);
            known = w;
          },
          places-from T (suc k) xs (env_after (find x f) p nothing_given env) (and-right a r b) (λ t i. e t (inr i)) (λ y f i. g y f
              (inr i)) n
              (once (find x f) T d) (apart (find x f) T xs c) (record { known = w.known }),
        )
      where
        past : (b c : Bool) → b ≡ false → b || c ≡ true → c ≡ true
        past false c q h = h
        past true c q h = absurd (no-yes (sym q))
    places-from (given_enum t ∷ T) k xs env b e g n d c w = (
      tt,
      places-from T (suc k) xs (env_after (given_enum t) p nothing_given env) b (λ u i. e u (inr i)) (λ y f i. g y f (inr i)) n
          (once (given_enum t) T d) (apart (given_enum t) T xs c)
          (with-items t (list_or_none (look p.types t)) xs env (env_after (given_enum t) p nothing_given env) refl
          (λ a i. new t a (e t (inl refl)) (n a i)) w),
    )
    places-from (let_enum t ns ∷ T) k xs env b e g n d c w = (
      tt,
      places-from T (suc k) xs (env_after (let_enum t ns) p nothing_given env) b (λ u i. e u (inr i)) (λ y f i. g y f (inr i)) n
          (once (let_enum t ns) T d) (apart (let_enum t ns) T xs c)
          (with-items t ns xs env (env_after (let_enum t ns) p nothing_given env) refl
          (λ a i. or-right-no (same_text t a) (is_among ns a) (apart-here (let_enum t ns) T xs c a i)) w),
    )
    places-from (let_unnamed t f ∷ T) k xs env b e g n d c w = (
      tt,
      places-from T (suc k) xs (env_after (let_unnamed t f) p nothing_given env) b (λ u i. e u (inr i)) (λ y f i. g y f (inr i)) n (once
          (let_unnamed t f) T d) (apart (let_unnamed t f) T xs c) (record { known = w.known }),
    )
    places-from (let_ex x f ∷ T) k xs env b e g n d c w = (
      tt,
      places-from T (suc k) xs env b (λ u i. e u (inr i)) (λ y f i. g y f (inr i)) n (once (let_ex x f) T d) (apart (let_ex x f) T xs c) w,
    )
    places-from (let_dom x f ∷ T) k xs env b e g n d c w = (
      tt,
      places-from T (suc k) xs env b (λ u i. e u (inr i)) (λ y f i. g y f (inr i)) n (once (let_dom x f) T d) (apart
          (let_dom x f) T xs c) w,
    )
    places-from (needs f ∷ T) k xs env b e g n d c w = (
      tt,
      places-from T (suc k) xs env b (λ u i. e u (inr i)) (λ y f i. g y f (inr i)) n (once (needs f) T d) (apart (needs f) T xs c) w,
    )
    places-from (such_that f ∷ T) k xs env b e g n d c w = (
      tt,
      places-from T (suc k) xs env b (λ u i. e u (inr i)) (λ y f i. g y f (inr i)) n (once (such_that f) T d) (apart
          (such_that f) T xs c) w,
    )
    places-from (minimise f ∷ T) k xs env b e g n d c w = (
      tt,
      places-from T (suc k) xs env b (λ u i. e u (inr i)) (λ y f i. g y f (inr i)) n (once (minimise f) T d) (apart (minimise f) T xs c) w,
    )
    places-from (maximise f ∷ T) k xs env b e g n d c w = (
      tt,
      places-from T (suc k) xs env b (λ u i. e u (inr i)) (λ y f i. g y f (inr i)) n (once (maximise f) T d) (apart (maximise f) T xs c) w,
    )

-- ---- names as they were written

same-given : {x y : Text} {c d : Dom} → given x c ≡ given y d → x ≡ y
same-given e = cc

given-named : (s : Stm) (l : Lettings) (g : Names Ty) (x : Text) (d : Dom) → given x d ≡ resolve_stm (put_stm s l g) g →
    is_among (declares s) x ≡ true
given-named (given y c) l g x d e = ap (λ b. b || false) (ap (λ z. same_text y z) (same-given e) ∙ same_text-itself y)
given-named (find y c) l g x d e = cc
given-named (given_enum u) l g x d e = cc
given-named (let_enum u ms) l g x d e = cc
given-named (let_unnamed u f) l g x d e = cc
given-named (let_ex y f) l g x d e = cc
given-named (let_dom y c) l g x d e = cc
given-named (needs f) l g x d e = cc
given-named (such_that f) l g x d e = cc
given-named (minimise f) l g x d e = cc
given-named (maximise f) l g x d e = cc

given-declared : (T : List Stm) (l : Lettings) (g : Names Ty) (x : Text) (d : Dom) → In (given x d) (resolve_all (put_all T l g) g) →
    is_among (all_declared T) x ≡ true
given-declared [] l g x d i = absurd i
given-declared (s ∷ T) l g x d (inl e) =
    among-append (declares s) (all_declared T) x ∙ ap (λ b. b || is_among (all_declared T) x) (given-named s l g x d e)
given-declared (s ∷ T) l g x d (inr i) =
    among-append (declares s) (all_declared T) x
    ∙ ap (λ b. is_among (declares s) x || b) (given-declared T (lettings_after (put_stm s l g) l) (types_after (put_stm s l g) g) x d i)
    ∙ or-yes (is_among (declares s) x)

type-one : (s : Stm) (l : Lettings) (g : Names Ty) (t : Text) → given_enum t ≡ resolve_stm (put_stm s l g) g → In t (given_enum_of s)
type-one (given_enum u) l g t e = inl (same e)
  where
    same : {t u : Text} → given_enum t ≡ given_enum u → t ≡ u
    same e = cc
type-one (given y c) l g t e = cc
type-one (find y c) l g t e = cc
type-one (let_enum u ms) l g t e = cc
type-one (let_unnamed u f) l g t e = cc
type-one (let_ex y f) l g t e = cc
type-one (let_dom y c) l g t e = cc
type-one (needs f) l g t e = cc
type-one (such_that f) l g t e = cc
type-one (minimise f) l g t e = cc
type-one (maximise f) l g t e = cc

type-declared : (T : List Stm) (l : Lettings) (g : Names Ty) (t : Text) → In (given_enum t) (resolve_all (put_all T l g) g) →
    In t (given_enums T)
type-declared [] l g t i = absurd i
type-declared (s ∷ T) l g t (inl e) = in-left t (given_enum_of s) (given_enums T) (type-one s l g t e)
type-declared (s ∷ T) l g t (inr i) =
    in-right t (given_enum_of s) (given_enums T) (type-declared T (lettings_after (put_stm s l g) l) (types_after (put_stm s l g) g) t i)

-- At each statement of a specification bounds are known.
pub places-known : (S : List Stm) (o : Options) (p : Assignment) → fault S ≡ None → Param S p →
    have_bounds (plans S o) [] (prepared S) ≡ true → Each (placed S p nothing_given) (λ l. PlaceKnown S o p l.stm l.env)
places-known S o p f P b =
    places-from S o p (λ t a i j. given-names-new S p P t i a j) (prepared S) 1 [] empty_env b (type-declared S no_lettings [])
    (given-declared S no_lettings []) (λ a i. absurd (no-yes i)) (prepared-once S f) (λ a i. absurd (no-yes i))
    (record { known = λ a v i e. absurd (no-yes i) })
