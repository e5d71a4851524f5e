-- Signs between sets, and `in` a set that is made of two, keep trees over views.
use Rattle.std.proofs.Common.{◌≡◌, refl, sym, ap, ◌∙◌, subst, ℕ, Bool, true, false, ◌&&◌, ◌||◌, not, if◌then◌else◌, List, [], ◌∷◌, Option, Some, None}
use Rattle.std.specs.Prelude.{IsTrue, is_some}
use Rattle.std.specs.List.{list_all}
use Rattle.ess_semantics.specs.declared.words.Op1.{Op1}
use Rattle.ess_semantics.specs.declared.words.Op2.{Op2}
use Rattle.ess_semantics.specs.Values.{Text, a_set, Value, truth as truth_value, node, items_of}
use Rattle.ess_semantics.specs.Order.{same}
use Rattle.ess_semantics.specs.Collections.{holds}
use Rattle.ess_semantics.specs.Names.{Names}
use Rattle.ess_semantics.specs.Operators.{as_truth, within as includes, value_of_node, false_where_undefined}
use Rattle.ess_semantics.specs.Trees.{binary, Ex, name_ex, ex1, ex2}
use Rattle.ess_semantics.specs.Types.{Ty, compound1}
use Rattle.ess_semantics.specs.Typing.{type_of}
use Rattle.ess_semantics.specs.TypeMembers.{is_of_type}
use Rattle.ess_semantics.specs.Typed.{Typed}
use Rattle.ess_semantics.specs.Meaning.{Env, meaning}
use Rattle.ess_semantics.specs.Meets.{Meets}
use Rattle.ess_semantics.specs.Kept.{Keeps}
use Rattle.ess_semantics.proofs.Tests.{and-both}
use Rattle.ess_rules_laws.specs.Rules.{Unused}
use Rattle.ess_rules_laws.specs.InclusionRules.{every, both_sets, both_msets, unequal, included_strictly, included_members, equal_members}
use Rattle.ess_rules_laws.specs.MembershipRules.{member_combined, IsContainer, CombinedThere}
use Rattle.ess_rules_laws.specs.Progress.{is_parted}
use Rattle.ess_rules_laws.proofs.RuleAnswers.{fires, when-so, meets-behind, all-over, all-nowhere}
use Rattle.ess_rules_laws.proofs.Connectives.{binary-means}
use Rattle.ess_rules_laws.proofs.ContainerValues.{Pair, Strictly, one-strictly, pair-strictly, set-within, set-equal, sets-of}
use Rattle.ess_rules_laws.proofs.InclusionRules.{unequal-keeps, member-body, every-met, equal-means}
use Rattle.ess_refine_laws.specs.AllRules.{equal_sets, compares_compound}
use Rattle.ess_values_along_laws.specs.Valued.{Valued}
use Rattle.ess_values_terms_laws.specs.TermsKeepValues.{is_compound, ComparesTerms}
use Rattle.ess_seen_laws.specs.Seen.{Kind, scalars, sets_of, kind_ty, Bound, bound_types, SetTerm, combined, Seen, counted, two, within, set_within, compared}
use Rattle.ess_seen_laws.proofs.Types.{seen-type}
use Rattle.ess_seen_values_laws.proofs.SetValues.{IsSet}
use Rattle.ess_seen_values_laws.proofs.Marks.{set-value}
use Rattle.ess_seen_values_laws.proofs.PlainRules.{set-compound, set-there}

-- ---- tests

same-some : {A : Type 0} {x y : A} → Some x ≡ Some y → x ≡ y
same-some q = cc

-- Nothing is made under a test that fails.
never : {A : Type 0} (b : Bool) (x f : Ex) → b ≡ false → (if b then Some x else None) ≡ Some f → A
never true x f p q = cc
never false x f p q = cc

under-test : (b : Bool) (o : Option Ex) (f : Ex) → (if b then o else None) ≡ Some f → o ≡ Some f
under-test true o f q = q
under-test false o f q = cc

-- Scalars have no parts, and are no sets.
scalar-whole : (m : Bool) (u : Option Ty) → is_parted (Some (kind_ty (scalars m))) && is_parted u ≡ false
scalar-whole true u = refl
scalar-whole false u = refl

scalar-no-set : (m : Bool) (u : Option Ty) → both_sets (Some (kind_ty (scalars m))) u ≡ false
scalar-no-set true u = refl
scalar-no-set false u = refl

-- ---- values of two sets

-- A set is of the type of sets of its kind.
of-set : (k : Kind) (env : Env) (o : Option Value) (v : Value) → IsSet k o env → o ≡ Some v → (y : Ty) →
    Some (compound1 a_set (kind_ty k)) ≡ Some y → IsTrue (is_of_type y env v)
of-set k env o v s q y p =
    let i : node a_set s.members ≡ v = same-some (sym s.is_value ∙ q) in
    let j : compound1 a_set (kind_ty k) ≡ y = same-some p in
    subst (λ z. IsTrue (is_of_type z env v)) j (subst (λ z. IsTrue (is_of_type (kind_ty (sets_of k)) env z)) i s.typed)

-- A strict inclusion says that the first is included and the second isn't.
strictly-means : (o p : Option Value) →
    ((a b : Value) → o ≡ Some a → p ≡ Some b → includes a b && not (same a b) ≡ includes a b && not (includes b a)) →
    false_where_undefined true (value_of_node (binary Op2.Subset) (o ∷ p ∷ []))
    ≡ Some (truth_value (as_truth (false_where_undefined true (value_of_node (binary Op2.SubsetEq) (o ∷ p ∷ [])))
    && not (as_truth (false_where_undefined true (value_of_node (binary Op2.SubsetEq) (p ∷ o ∷ []))))))
strictly-means None p h = refl
strictly-means (Some a) None h = refl
strictly-means (Some a) (Some b) h = ap (λ t. Some (truth_value t)) (h a b refl refl)

-- That the name is in a set.
abbrev has : Text → Ex → Ex
has x b = ex2 true Op2.Member (name_ex x) b

module _ (cells : Text → Option (Bool × List ℕ)) where
  -- What `in` asks of is a set.
  record AsksOf (r : Names Bound) (s : Ex) : Type 0 where
    kind : Kind
    set : SetTerm cells r s kind

  asks-of : {r : Names Bound} {x s : Ex} {m : Bool} → Seen cells r (ex2 true Op2.Member x s) m → AsksOf r s
  asks-of (within {m = m} g t) = record { kind = scalars m; set = t }
  asks-of (set_within {k = k} g t) = record { kind = sets_of k; set = t }
  asks-of (two c g h) = elim c [ ]
  asks-of (compared c g h) = elim c [ ]
  asks-of (counted c) = elim c [ ]

module _ (cells : Text → Option (Bool × List ℕ)) {r : Names Bound} (env : Env) (ty : Typed (bound_types r) env) where
  -- Two sets that are there rise strictly.
  pair : {a b : Ex} {k : Kind} → SetTerm cells r a k → SetTerm cells r b k → Meets a env → Meets b env → (v w : Value) →
      meaning a env ≡ Some v → meaning b env ≡ Some w → Pair Strictly v w
  pair {a} {b} {k} f g m n v w i j =
      sets-of env.positions env.types (Some (compound1 a_set (kind_ty k))) (Some (compound1 a_set (kind_ty k))) v w refl
      (of-set k env (meaning a env) v (set-value cells r env ty f m (ap is_some i)) i)
      (of-set k env (meaning b env) w (set-value cells r env ty g n (ap is_some j)) j)

  -- ---- signs

  -- `!=` of sets. Of scalars no rule fires.
  pub differ-kept : (e f : Ex) {m : Bool} → Seen cells r e m →
      (if compares_compound (bound_types r) e then unequal e else None) ≡ Some f → (w : Bool) → Valued w e env → Keeps e f env
  differ-kept (ex2 true Op2.Ne a b) f (compared c g h) q w v =
      unequal-keeps (ex2 true Op2.Ne a b) f
      (under-test (compares_compound (bound_types r) (ex2 true Op2.Ne a b)) (unequal (ex2 true Op2.Ne a b)) f q) env
      (and-both (is_some (meaning a env)) (list_all is_some (meaning b env ∷ [])) (set-there cells env _ g v.1.0)
      (and-both (is_some (meaning b env)) true (set-there cells env _ h v.1.1.0) refl))
  differ-kept (ex2 true Op2.Ne a b) f (two {m = k} c g h) q w v =
      never (compares_compound (bound_types r) (ex2 true Op2.Ne a b)) (ex1 true Op1.Not (ex2 true Op2.Eq a b)) f
      (ap (λ t. is_parted t && is_parted (type_of b (bound_types r))) (seen-type cells g)
      ∙ scalar-whole k (type_of b (bound_types r))) q
  differ-kept (ex2 true Op2.Ne a b) f (counted c) q w v = elim c [ ]
  differ-kept _ f h q w v = cc

  -- `subset`.
  pub strictly-kept : (x : Text) (e f : Ex) {m : Bool} → Seen cells r e m → included_strictly (bound_types r) x e ≡ Some f → Keeps e f env
  strictly-kept x (ex2 true Op2.Subset a b) f (compared c g h) q =
      fires (included_strictly (bound_types r) x (ex2 true Op2.Subset a b)) (ex2 true Op2.Subset a b) f env
      (when-so (both_sets (type_of a (bound_types r)) (type_of b (bound_types r))
      || both_msets (type_of a (bound_types r)) (type_of b (bound_types r))) _ (ex2 true Op2.Subset a b) env
      (λ p m. (
        strictly-means (meaning a env) (meaning b env) (λ v w i j. pair-strictly Strictly one-strictly v w (pair g h m.0 m.1.0 v w i j)),
        ((m.0, (m.1.0, tt)), λ z. (((m.1.0, (m.0, tt)), tt), tt)),
      ))) q
  strictly-kept x (ex2 true Op2.Subset a b) f (two c g h) q = elim c [ ]
  strictly-kept x (ex2 true Op2.Subset a b) f (counted c) q = elim c [ ]
  strictly-kept x _ f h q = cc

  -- `subsetEq`.
  pub included-kept : (x : Text) (e f : Ex) {m : Bool} → Seen cells r e m → Unused x e →
      included_members (bound_types r) x e ≡ Some f → (w : Bool) → Valued w e env → Keeps e f env
  included-kept x (ex2 true Op2.SubsetEq a b) f (compared {k = k} c g h) u q w v =
      fires (included_members (bound_types r) x (ex2 true Op2.SubsetEq a b)) (ex2 true Op2.SubsetEq a b) f env
      (when-so (both_sets (type_of a (bound_types r)) (type_of b (bound_types r))) _ (ex2 true Op2.SubsetEq a b) env (λ p m. (
        let s : IsSet k (meaning a env) env = set-value cells r env ty g m.0 (set-there cells env _ g v.1.0) in
            let t : IsSet k (meaning b env) env = set-value cells r env ty h m.1.0 (set-there cells env _ h v.1.1.0) in
            let y = node a_set s.members in
            let z = node a_set t.members in
            binary-means env true Op2.SubsetEq a b y z s.is_value t.is_value
            ∙ ap (λ b. Some (truth_value b)) (set-within y z (pair g h m.0 m.1.0 y z s.is_value t.is_value))
            ∙ sym (all-over x a (ex2 true Op2.Member (name_ex x) b) env (holds (items_of z)) (member-body x b env z u.1.0 t.is_value) y
            s.is_value),
        every-met x a (ex2 true Op2.Member (name_ex x) b) env m.0 (λ v. (tt, (meets-behind x v b env u.1.0 m.1.0, tt))),
      ))) q
  included-kept x (ex2 true Op2.SubsetEq a b) f (two c g h) u q w v = elim c [ ]
  included-kept x (ex2 true Op2.SubsetEq a b) f (counted c) u q w v = elim c [ ]
  included-kept x _ f h u q w v = cc

  -- `=` of sets. Of scalars no rule fires.
  same-members : (x : Text) (a b : Ex) {k : Kind} → SetTerm cells r a k → SetTerm cells r b k → Unused x (ex2 true Op2.Eq a b) →
      Keeps (ex2 true Op2.Eq a b) (ex2 true Op2.And (every x a (has x b)) (every x b (has x a))) env
  same-members x a b g h u = λ m. (
    equal-means a b (every x a (has x b)) (every x b (has x a)) env (meaning a env) (meaning b env) refl refl
        (all-nowhere x a (has x b) env) (all-nowhere x b (has x a) env)
        (λ v w i j. set-equal v w (pair g h m.0 m.1.0 v w i j)
        ∙ sym (ap (λ z. as_truth z && as_truth (meaning (every x b (has x a)) env))
        (all-over x a (has x b) env (holds (items_of w)) (member-body x b env w u.1.0 j) v i)
        ∙ ap (λ z. list_all (holds (items_of w)) (items_of v) && as_truth z)
        (all-over x b (has x a) env (holds (items_of v)) (member-body x a env v u.0 i) w j))),
    (
      every-met x a (has x b) env m.0 (λ v. (tt, (meets-behind x v b env u.1.0 m.1.0, tt))),
      λ z. (every-met x b (has x a) env m.1.0 (λ v. (tt, (meets-behind x v a env u.0 m.0, tt))), tt),
    ),
  )

  pub equal-kept : (x : Text) (e f : Ex) {m : Bool} → Seen cells r e m → Unused x e → equal_members (bound_types r) x e ≡ Some f →
      Keeps e f env × ComparesTerms equal_sets e
  equal-kept x (ex2 true Op2.Eq a b) f (compared c g h) u q = (
    fires (equal_members (bound_types r) x (ex2 true Op2.Eq a b)) (ex2 true Op2.Eq a b) f env
        (when-so (both_sets (type_of a (bound_types r)) (type_of b (bound_types r))) _ (ex2 true Op2.Eq a b) env
        (λ p. same-members x a b g h u)) q,
    and-both (is_compound a) (is_compound b && true) (set-compound cells g) (and-both (is_compound b) true (set-compound cells h) refl),
  )
  equal-kept x (ex2 true Op2.Eq a b) f (two {m = k} c g h) u q =
      never (both_sets (type_of a (bound_types r)) (type_of b (bound_types r)))
      (ex2 true Op2.And (every x a (ex2 true Op2.Member (name_ex x) b)) (every x b (ex2 true Op2.Member (name_ex x) a))) f
      (ap (λ t. both_sets t (type_of b (bound_types r))) (seen-type cells g) ∙ scalar-no-set k (type_of b (bound_types r))) q
  equal-kept x (ex2 true Op2.Eq a b) f (counted c) u q = elim c [ ]
  equal-kept x _ f h u q = cc

  -- ---- in a set that is made of two

  -- Both are there, and the first one is a set.
  both-there : {a b : Ex} {k : Kind} (w : Bool) → SetTerm cells r a k → SetTerm cells r b k → Meets a env → Valued w a env →
      Valued w b env → IsContainer (meaning a env) × IsTrue (is_some (meaning b env))
  both-there {k = k} w g h m v u =
      let s = set-value cells r env ty g m (set-there cells env w g v) in
      (subst IsContainer (sym s.is_value) tt, set-there cells env w h u)

  in-union : (x a b : Ex) {k : Kind} → SetTerm cells r (ex2 false Op2.Union a b) k → Meets (ex2 false Op2.Union a b) env →
      Valued false (ex2 false Op2.Union a b) env → CombinedThere (ex2 true Op2.Member x (ex2 false Op2.Union a b)) env
  in-union x a b (combined c g h) m v = both-there _ g h m.0 v.1.0 v.1.1.0

  in-shared : (x a b : Ex) {k : Kind} → SetTerm cells r (ex2 false Op2.Intersect a b) k → Meets (ex2 false Op2.Intersect a b) env →
      Valued false (ex2 false Op2.Intersect a b) env → CombinedThere (ex2 true Op2.Member x (ex2 false Op2.Intersect a b)) env
  in-shared x a b (combined c g h) m v = both-there _ g h m.0 v.1.0 v.1.1.0

  in-lessened : (x a b : Ex) {k : Kind} → SetTerm cells r (ex2 false Op2.Minus a b) k → Meets (ex2 false Op2.Minus a b) env →
      Valued false (ex2 false Op2.Minus a b) env → CombinedThere (ex2 true Op2.Member x (ex2 false Op2.Minus a b)) env
  in-lessened x a b (combined c g h) m v = both-there _ g h m.0 v.1.0 v.1.1.0

  -- `in` of a union, an intersection and a difference.
  pub combined-there : (e f : Ex) {m : Bool} → Seen cells r e m → member_combined e ≡ Some f → Meets e env → (w : Bool) →
      Valued w e env → CombinedThere e env
  combined-there (ex2 true Op2.Member x (ex2 false Op2.Union a b)) f h q m w v =
      let o : AsksOf cells r (ex2 false Op2.Union a b) = asks-of cells h in in-union x a b o.set m.1.0 v.1.1.0
  combined-there (ex2 true Op2.Member x (ex2 false Op2.Intersect a b)) f h q m w v =
      let o : AsksOf cells r (ex2 false Op2.Intersect a b) = asks-of cells h in in-shared x a b o.set m.1.0 v.1.1.0
  combined-there (ex2 true Op2.Member x (ex2 false Op2.Minus a b)) f h q m w v =
      let o : AsksOf cells r (ex2 false Op2.Minus a b) = asks-of cells h in in-lessened x a b o.set m.1.0 v.1.1.0
  combined-there _ f h q m w v = cc
