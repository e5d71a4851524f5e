-- The numbers of memberships, of axes and of sizes are constants of the specification.
use Rattle.std.proofs.Common.{◌≡◌, refl, sym, ap, subst, ℕ, zero, suc, ◌+◌, ◌≤◌, ◌<◌, Bool, true, false, ◌&&◌, if◌then◌else◌, List, [], ◌∷◌, ◌⊎◌, inl, inr, length, ℤ, pos, Some, option_map, arith}
use Rattle.std.specs.List.{list_any}
use Rattle.std.proofs.Common.{eq-or-lt_of_le}
use Rattle.ess_semantics.specs.declared.words.Op2.{Op2}
use Rattle.ess_semantics.specs.Lists.{or_default}
use Rattle.ess_semantics.specs.Numbers.{run_from}
use Rattle.ess_semantics.specs.Values.{Text}
use Rattle.ess_semantics.specs.Order.{same_text, same_int}
use Rattle.ess_semantics.specs.Names.{Names, look}
use Rattle.ess_semantics.specs.Types.{Ty}
use Rattle.ess_semantics.specs.Trees.{Repr, Ex, number_ex, name_ex, no_exs, Dom, bool_dom, set_dom, Stm, given, given_enum, let_ex, let_dom, let_enum, let_unnamed, needs, find, such_that, minimise, maximise, ex2}
use Rattle.ess_semantics.specs.Contexts.{Each}
use Rattle.ess_semantics.specs.Constants.{constants_of, parts_of_decl}
use Rattle.ess_semantics.specs.Lettings.{Lettings, no_lettings, lettings_after, put_stm, put_all, types_after}
use Rattle.ess_semantics.specs.Prepared.{resolve_stm, resolve_all, prepared}
use Rattle.ess_semantics.specs.Parameters.{all_declared}
use Rattle.ess_semantics.specs.Plans.{Options, Side, givens_side, finds_side, Plan, value_plan, plans}
use Rattle.ess_semantics.specs.TableNames.{Named}
use Rattle.ess_semantics.proofs.Tests.{and-both}
use Rattle.ess_repr_declare_laws.specs.DeclaredTrees.{axis_dom}
use Rattle.conjure_laws.specs.Members.{In}
use Rattle.conjure_laws.specs.ModelPremises.{spelled}
use Rattle.conjure_laws.specs.SetsOfAtoms.{TypeKind, fixed, sized, enum_values}
use Rattle.conjure_laws.specs.ModelsOfSets.{axis_for}
use Rattle.conjure_laws.proofs.Lists.{at-item}
use Rattle.conjure_laws.proofs.Statements.{plan-is-found}
use Rattle.conjure_laws.proofs.Givens.{given-from}
use Rattle.ess_flat_models_laws.proofs.FlatValues.{AllNumbers}
use Rattle.ess_flat_models_laws.proofs.FlatTexts.{IsConst, of-statement, statements-spelled}
use Rattle.ess_flat_models_laws.proofs.SimpleTrees.{is_simple, is_simple_dom, DomNumbers, NumbersAre}
use Rattle.ess_mixed_models_laws.specs.MixedSpecifications.{kinds_by, places_by, kinds, places}
use Rattle.ess_mixed_models_laws.specs.MixedModels.{axis_of, shown_value}
use Rattle.ess_mixed_models_laws.proofs.MemberValues.{literal_code}
use Rattle.ess_mixed_models_laws.proofs.NamedKinds.{no-some, declared-one, one-kind, MemberDom, of_numbers, of_truths, of_type}
use Rattle.ess_mixed_models_laws.proofs.PreparedSets.{RangesAre, prepared-ranges}
use Rattle.ess_mixed_models_laws.proofs.SetFinds.{MemberValue, a_number, a_truth, a_value}

-- ---- enumerated types as they were written

enum-one : (s : Stm) (l : Lettings) (g : Names Ty) (t : Text) (ns : List Text) → let_enum t ns ≡ resolve_stm (put_stm s l g) g →
    let_enum t ns ≡ s
enum-one (let_enum u ms) l g t ns e = e
enum-one (given x d) l g t ns e = cc
enum-one (given_enum u) l g t ns e = cc
enum-one (let_ex x f) l g t ns e = cc
enum-one (let_dom x d) l g t ns e = cc
enum-one (let_unnamed u f) l g t ns e = cc
enum-one (needs f) l g t ns e = cc
enum-one (find x d) l g t ns e = cc
enum-one (such_that f) l g t ns e = cc
enum-one (minimise f) l g t ns e = cc
enum-one (maximise f) l g t ns e = cc

enum-from : (T : List Stm) (l : Lettings) (g : Names Ty) (t : Text) (ns : List Text) → In (let_enum t ns) (resolve_all (put_all T l g) g) →
    In (let_enum t ns) T
enum-from [] l g t ns i = absurd i
enum-from (s ∷ T) l g t ns (inl e) = inl (enum-one s l g t ns e)
enum-from (s ∷ T) l g t ns (inr i) = inr (enum-from T (lettings_after (put_stm s l g) l) (types_after (put_stm s l g) g) t ns i)

in-run : (k a n : ℕ) → a ≤ k → k < a + n → In (pos k) (run_from a n)
in-run k a zero p q = absurd (omega arith)
in-run k a (suc n) p q = go (eq-or-lt_of_le p) (λ l. in-run k (suc a) n l (omega arith))
  where
    go : (a ≡ k) ⊎ (a < k) → (a < k → In (pos k) (run_from (suc a) n)) → In (pos k) (run_from a (suc n))
    go (inl e) f = inl (ap pos (sym e))
    go (inr l) f = inr (f l)

-- Where the value of a name stands among the values of a type.
place-in : (t : Text) (k : ℕ) (ns : List Text) (n : Text) (v : Text × ℕ) → look (enum_values t k ns) n ≡ Some v →
    (k ≤ v.1) × (v.1 < k + length ns)
place-in t k [] n v e = absurd (no-some e)
place-in t k (m ∷ ns) n v e = go (same_text m n) e (place-in t (suc k) ns n v)
  where
    go : (b : Bool) → (if b then Some (t, k) else look (enum_values t (suc k) ns) n) ≡ Some v →
        (look (enum_values t (suc k) ns) n ≡ Some v → (suc k ≤ v.1) × (v.1 < suc k + length ns)) →
        (k ≤ v.1) × (v.1 < k + length (m ∷ ns))
    go true e f = let z : k ≡ v.1 = cc in let y : length (m ∷ ns) ≡ suc (length ns) = refl in (omega (arith, z), omega (arith, z, y))
    go false e f =
        let r = f e in let y : length (m ∷ ns) ≡ suc (length ns) = refl in (omega (arith, r.0), omega (arith, r.1, y))

module _ (S : List Stm) where
  abbrev isc : ℤ → Bool
  isc n = list_any (same_int n) (constants_of S)

  -- Domains of sets and sizes of types spell constants.
  pub ranges-spelled : Each (prepared S) (RangesAre (IsConst S))
  ranges-spelled = prepared-ranges (IsConst S) S (λ s i k j. of-statement S s k i j)

  enum-const : (t : Text) (ns : List Text) (k : ℕ) → In (let_enum t ns) (prepared S) → 1 ≤ k → k < 1 + length ns → IsConst S (pos k)
  enum-const t ns k i p q =
      of-statement S (let_enum t ns) (pos k) (enum-from S no_lettings [] t ns i) (in-run k 1 (length ns) p q)

  size-const : (s : Stm) (t : Text) (n : ℕ) → In s (prepared S) → look (kinds_by s) t ≡ Some (fixed n) → IsConst S (pos n)
  size-const (given_enum u) t n i e = let z : sized ≡ fixed n = (one-kind u t sized (fixed n) e).1 in cc
  size-const (let_enum u ns) t n i e = at n (same (one-kind u t (fixed (length ns)) (fixed n) e).1)
    where
      same : fixed (length ns) ≡ fixed n → length ns ≡ n
      same e = cc

      at : (n : ℕ) → length ns ≡ n → IsConst S (pos n)
      at zero q = refl
      at (suc n) q = enum-const u ns (suc n) i (omega arith) (omega (arith, q))
  size-const (let_unnamed u (number_ex (pos m))) t n i e =
      subst (λ z. IsConst S (pos z)) (same (one-kind u t (fixed m) (fixed n) e).1)
      (at-item (RangesAre (IsConst S)) (prepared S) (let_unnamed u (number_ex (pos m))) ranges-spelled i refl)
    where
      same : fixed m ≡ fixed n → m ≡ n
      same e = cc
  size-const (let_unnamed u f) t n i e = absurd (no-some e)
  size-const s t n i e = absurd (no-some e)

  -- The number of values of a type that is written is one.
  pub kind-const : (t : Text) (n : ℕ) → look (kinds S) t ≡ Some (fixed n) → IsConst S (pos n)
  kind-const t n e = go (declared-one kinds_by (prepared S) [] t (fixed n) e)
    where
      go : (look [] t ≡ Some (fixed n)) ⊎ ((s : Stm) × In s (prepared S) × (look (kinds_by s) t ≡ Some (fixed n))) → IsConst S (pos n)
      go (inl q) = absurd (no-some q)
      go (inr r) = size-const r.0 t n r.1 r.2

  place-by-const : (s : Stm) (n : Text) (v : Text × ℕ) → In s (prepared S) → look (places_by s) n ≡ Some v → IsConst S (pos v.1)
  place-by-const (let_enum u ns) n v i e = let r = place-in u 1 ns n v e in enum-const u ns v.1 i r.0 r.1
  place-by-const s n v i e = absurd (no-some e)

  -- So is the position of a value.
  pub place-const : (n : Text) (v : Text × ℕ) → look (places S) n ≡ Some v → IsConst S (pos v.1)
  place-const n v e = go (declared-one places_by (prepared S) [] n v e)
    where
      go : (look [] n ≡ Some v) ⊎ ((s : Stm) × In s (prepared S) × (look (places_by s) n ≡ Some v)) → IsConst S (pos v.1)
      go (inl q) = absurd (no-some q)
      go (inr r) = place-by-const r.0 n v r.1 r.2

  -- So is the number of a value that is asked to be in a set.
  pub value-const : (e : Ex) (x : Text) (A : Dom) → MemberValue (places S) e A →
      (is_simple (ex2 true Op2.Member e (name_ex x)) ≡ true → AllNumbers (IsConst S) (ex2 true Op2.Member e (name_ex x))) →
      IsConst S (literal_code (shown_value (places S) e))
  value-const e x A a_number n = (n refl).0
  value-const e x A (a_truth {b = true}) n = refl
  value-const e x A (a_truth {b = false}) n = refl
  value-const e x A (a_value {n = m} {t = t} {j = j} q) n =
      subst (λ z. IsConst S (pos (or_default (option_map (λ v. v.1) z) 0))) (sym q) (place-const m (t, j) q)

  module _ (o : Options) where
    abbrev Ps : List Plan
    Ps = plans S o

    -- The numbers of a kept name's domain of scalars are constants.
    pub kept-numbers : (s : Side) (x : Text) (r : Repr) (d : Dom) (ns : List Named) → In (value_plan s x r d ns) Ps →
        is_simple_dom d ≡ true → DomNumbers (IsConst S) d
    kept-numbers givens_side x r d ns i = at-item (NumbersAre (IsConst S)) (prepared S) (given x d) (statements-spelled S)
        (given-from (prepared S) o (all_declared S) _ x r d ns i)
    kept-numbers finds_side x r d ns i = at-item (NumbersAre (IsConst S)) (prepared S) (find x d) (statements-spelled S)
        (plan-is-found S o x r d ns i)

    two-consts : (a b : ℤ) → IsConst S a → IsConst S b → spelled S (number_ex a ∷ number_ex b ∷ []) ≡ true
    two-consts a b e f = and-both (isc a) (isc b && true) e (and-both (isc b) true f refl)

    -- The axis of a set spells constants.
    pub axis-spelled : (n x : Text) {A : Dom} (m : MemberDom (kinds S) A) → In (find x (set_dom [] no_exs A)) (prepared S) →
        spelled S (parts_of_decl (record { name = n; axes = axis_of S o A ∷ []; cell = bool_dom })) ≡ true
    axis-spelled n x (of_numbers {a = a} {b = b}) i =
        let r = at-item (RangesAre (IsConst S)) (prepared S) _ ranges-spelled i refl in two-consts a b r.1.0 r.1.1.0
    axis-spelled n x of_truths i = refl
    axis-spelled n x (of_type {t = t} {k = k} q) i =
        subst (λ z. spelled S (parts_of_decl (record { name = n; axes = axis_for Ps t z ∷ []; cell = bool_dom })) ≡ true) (sym q) (at k q)
      where
        at : (k : TypeKind) → look (kinds S) t ≡ Some k →
            spelled S (parts_of_decl (record { name = n; axes = axis_for Ps t (Some k) ∷ []; cell = bool_dom })) ≡ true
        at (fixed m) q = two-consts (pos 1) (pos m) refl (kind-const t m q)
        at sized q = refl

    -- So does the declared one.
    pub table-spelled : (n x : Text) {A : Dom} (m : MemberDom (kinds S) A) → In (find x (set_dom [] no_exs A)) (prepared S) →
        spelled S (parts_of_decl (record { name = n; axes = axis_dom (axis_of S o A) ∷ []; cell = bool_dom })) ≡ true
    table-spelled n x (of_numbers {a = a} {b = b}) i = axis-spelled n x (of_numbers {a = a} {b = b}) i
    table-spelled n x of_truths i = refl
    table-spelled n x (of_type {t = t} {k = k} q) i =
        subst (λ z. spelled S (parts_of_decl (record { name = n; axes = axis_dom (axis_for Ps t z) ∷ []; cell = bool_dom })) ≡ true) (sym q)
        (at k q)
      where
        at : (k : TypeKind) → look (kinds S) t ≡ Some k →
            spelled S (parts_of_decl (record { name = n; axes = axis_dom (axis_for Ps t (Some k)) ∷ []; cell = bool_dom })) ≡ true
        at (fixed m) q = two-consts (pos 1) (pos m) refl (kind-const t m q)
        at sized q = refl
