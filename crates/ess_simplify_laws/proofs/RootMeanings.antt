-- The rule of simplifying keeps what it rewrites at the root.
use Rattle.std.proofs.Common.{◌≡◌, refl, sym, ap, ◌∙◌, subst, Bool, true, false, not, ◌&&◌, ◌||◌, if◌then◌else◌, List, [], ◌∷◌, map, Option, Some, None}
use Rattle.std.specs.Prelude.{is_some}
use Rattle.ess_semantics.specs.declared.words.Op1.{Op1}
use Rattle.ess_semantics.specs.declared.words.Op2.{Op2}
use Rattle.ess_semantics.specs.Values.{Value, truth, number, item, node}
use Rattle.ess_semantics.specs.Trees.{Op, unary, binary, word, index, application, tuple_literal, set_literal, mset_literal, function_literal, relation_literal, partition_literal, matrix_literal, record_literal, Ex, Exs, number_ex, truth_ex, name_ex, node_ex, matrix_ex, comp_ex, cell_ex, seen_ex, no_exs, more_exs, ex1, ex2}
use Rattle.ess_semantics.specs.Operators.{as_truth, implies, iff, on_two, connective, value_of_node, false_where_undefined}
use Rattle.ess_semantics.specs.Meaning.{Env, meaning, meanings}
use Rattle.ess_semantics.specs.Meets.{Meets, MeetsAll}
use Rattle.ess_semantics.specs.Contexts.{Guarded, guards}
use Rattle.ess_semantics.specs.Kept.{Keeps}
use Rattle.ess_rules_laws.specs.Rules.{IsTruth}
use Rattle.ess_simplify_laws.specs.declared.words.Outcome.{Outcome}
use Rattle.ess_simplify_laws.specs.Simplifying.{said, outcome}
use Rattle.ess_simplify_laws.specs.SimplerRoots.{written, undenied, simpler_root, AreTruths, HasTruthUnder, HasTruthOperands, SimplerRootsKeep}

-- ---- truth values

-- A truth value stays, whatever the mark is.
pub settled : (b : Bool) (v : Bool) → false_where_undefined b (Some (truth v)) ≡ Some (truth v)
settled true v = refl
settled false v = refl

pub again : (o : Option Value) → IsTruth o → Some (truth (as_truth o)) ≡ o
again (Some (truth v)) h = refl
again (Some (number n)) h = elim h [ ]
again (Some (item t k)) h = elim h [ ]
again (Some (node k vs)) h = elim h [ ]
again None h = elim h [ ]

pub twice : (v : Bool) → not (not v) ≡ v
twice true = refl
twice false = refl

-- ---- what an outcome says

-- What is known of a truth value.
abbrev pub Agrees : Option Bool → Bool → Type 0
Agrees None u = Unit {0}
Agrees (Some v) u = u ≡ v

-- The value of an operator is what the outcome says, of operands that mean m and n.
abbrev pub Says : Outcome → Option Value → Option Value → Option Value → Type 0
Says Outcome.Stays o m n = Unit {0}
Says Outcome.First o m n = o ≡ Some (truth (as_truth m))
Says Outcome.Second o m n = o ≡ Some (truth (as_truth n))
Says Outcome.FirstDenied o m n = o ≡ Some (truth (not (as_truth m)))
Says Outcome.SecondDenied o m n = o ≡ Some (truth (not (as_truth n)))
Says (Outcome.Says v) o m n = o ≡ Some (truth v)

and-true : (a b : Bool) → b ≡ true → (a && b) ≡ a
and-true true b h = h
and-true false b h = refl

and-false : (a b : Bool) → b ≡ false → (a && b) ≡ false
and-false true b h = h
and-false false b h = refl

or-true : (a b : Bool) → b ≡ true → (a || b) ≡ true
or-true true b h = refl
or-true false b h = h

or-false : (a b : Bool) → b ≡ false → (a || b) ≡ a
or-false true b h = refl
or-false false b h = h

iff-true : (a b : Bool) → b ≡ true → iff a b ≡ a
iff-true true b h = h
iff-true false b h = ap not h

iff-false : (a b : Bool) → b ≡ false → iff a b ≡ not a
iff-false true b h = h
iff-false false b h = ap not h

pub told : (v w : Bool) → v ≡ w → Some (truth v) ≡ Some (truth w)
told v w h = ap (λ x. Some (truth x)) h

pub says : (o : Op2) (p q : Option Bool) (m n : Option Value) → Agrees p (as_truth m) → Agrees q (as_truth n)
    → Says (outcome o p q) (value_of_node (binary o) (m ∷ n ∷ [])) m n
says Op2.And (Some true) q m n h k = ap (λ u. Some (truth (u && as_truth n))) h
says Op2.And (Some false) q m n h k = ap (λ u. Some (truth (u && as_truth n))) h
says Op2.And None (Some true) m n h k = told _ _ (and-true (as_truth m) (as_truth n) k)
says Op2.And None (Some false) m n h k = told _ _ (and-false (as_truth m) (as_truth n) k)
says Op2.And None None m n h k = tt
says Op2.Or (Some true) q m n h k = ap (λ u. Some (truth (u || as_truth n))) h
says Op2.Or (Some false) q m n h k = ap (λ u. Some (truth (u || as_truth n))) h
says Op2.Or None (Some true) m n h k = told _ _ (or-true (as_truth m) (as_truth n) k)
says Op2.Or None (Some false) m n h k = told _ _ (or-false (as_truth m) (as_truth n) k)
says Op2.Or None None m n h k = tt
says Op2.Implies (Some true) q m n h k = ap (λ u. Some (truth (implies u (as_truth n)))) h
says Op2.Implies (Some false) q m n h k = ap (λ u. Some (truth (implies u (as_truth n)))) h
says Op2.Implies None (Some true) m n h k = told _ _ (or-true (not (as_truth m)) (as_truth n) k)
says Op2.Implies None (Some false) m n h k = told _ _ (or-false (not (as_truth m)) (as_truth n) k)
says Op2.Implies None None m n h k = tt
says Op2.Iff (Some true) q m n h k = ap (λ u. Some (truth (iff u (as_truth n)))) h
says Op2.Iff (Some false) q m n h k = ap (λ u. Some (truth (iff u (as_truth n)))) h
says Op2.Iff None (Some true) m n h k = told _ _ (iff-true (as_truth m) (as_truth n) k)
says Op2.Iff None (Some false) m n h k = told _ _ (iff-false (as_truth m) (as_truth n) k)
says Op2.Iff None None m n h k = tt
says _ p q m n h k = tt

-- Where the second operand is left, it isn't behind a guard that fails.
abbrev pub NeedsSecond : Outcome → Type 0 → Type 0
NeedsSecond Outcome.Second T = T
NeedsSecond Outcome.SecondDenied T = T
NeedsSecond _ T = Unit {0}

pub reached : (o : Op2) (p q : Option Bool) (m : Option Value) (T : Type 0) → Agrees p (as_truth m) → Guarded (guards (binary o)) m T
    → NeedsSecond (outcome o p q) T
reached Op2.And (Some true) q m T h k = k h
reached Op2.And (Some false) q m T h k = tt
reached Op2.And None (Some true) m T h k = tt
reached Op2.And None (Some false) m T h k = tt
reached Op2.And None None m T h k = tt
reached Op2.Or (Some true) q m T h k = tt
reached Op2.Or (Some false) q m T h k = k
reached Op2.Or None (Some true) m T h k = tt
reached Op2.Or None (Some false) m T h k = tt
reached Op2.Or None None m T h k = tt
reached Op2.Implies (Some true) q m T h k = k h
reached Op2.Implies (Some false) q m T h k = tt
reached Op2.Implies None (Some true) m T h k = tt
reached Op2.Implies None (Some false) m T h k = tt
reached Op2.Implies None None m T h k = tt
reached Op2.Iff (Some true) q m T h k = k
reached Op2.Iff (Some false) q m T h k = k
reached Op2.Iff None (Some true) m T h k = tt
reached Op2.Iff None (Some false) m T h k = tt
reached Op2.Iff None None m T h k = tt
reached _ p q m T h k = tt

-- Only a connective does without anything.
moves : (o : Op2) (p q : Option Bool) (b : Bool) (x y f : Ex) → written b x y (outcome o p q) ≡ Some f → is_some (connective (binary o))
    ≡ true
moves Op2.And p q b x y f h = refl
moves Op2.Or p q b x y f h = refl
moves Op2.Implies p q b x y f h = refl
moves Op2.Iff p q b x y f h = refl
moves _ p q b x y f h = cc

-- What an expression says agrees with what it means.
pub said-agrees : (e : Ex) (env : Env) → Agrees (said e) (as_truth (meaning e env))
said-agrees (truth_ex v) env = refl
said-agrees _ env = tt

-- ---- the rule

got : {A : Type 0} (x y : A) → Some x ≡ Some y → x ≡ y
got x y h = ap (λ o. elim o [ Some z ↦ z | None ↦ x ]) h

-- In the place of f.
as-written : (e x f : Ex) (env : Env) → Some x ≡ Some f → Keeps e x env → Keeps e f env
as-written e x f env h k = subst (λ z. Keeps e z env) (got x f h) k

truth-kept : (e : Ex) (v : Bool) (env : Env) → meaning e env ≡ Some (truth v) → Keeps e (truth_ex v) env
truth-kept e v env h m = (h, tt)

module _ (b : Bool) (o : Op2) (x y : Ex) (env : Env) where
  abbrev Node : Option Value
  Node = value_of_node (binary o) (meaning x env ∷ meaning y env ∷ [])

  told-by : (v : Bool) → Node ≡ Some (truth v) → meaning (ex2 b o x y) env ≡ Some (truth v)
  told-by v h = ap (false_where_undefined b) h ∙ settled b v

  denied-by : (z : Ex) → Node ≡ Some (truth (not (as_truth (meaning z env)))) → meaning (ex2 b o x y) env ≡ meaning (ex1 b Op1.Not z) env
  denied-by z h = told-by (not (as_truth (meaning z env))) h ∙ sym (settled b (not (as_truth (meaning z env))))

  two-kept : (c : Outcome) (f : Ex) → written b x y c ≡ Some f → Says c Node (meaning x env) (meaning y env)
      → ((T : Type 0) → Guarded (guards (binary o)) (meaning x env) T → NeedsSecond c T)
      → IsTruth (meaning x env) → Guarded (guards (binary o)) (meaning x env) (IsTruth (meaning y env) × Unit {0})
      → Keeps (ex2 b o x y) f env
  two-kept Outcome.Stays f h s r t u = cc
  two-kept Outcome.First f h s r t u =
      as-written (ex2 b o x y) x f env h (λ m. (told-by (as_truth (meaning x env)) s ∙ again (meaning x env) t, m.0))
  two-kept Outcome.Second f h s r t u =
      as-written (ex2 b o x y) y f env h
      (λ m. (
        told-by (as_truth (meaning y env)) s ∙ again (meaning y env) (r (IsTruth (meaning y env) × Unit {0}) u).0,
        (r (Meets y env × MeetsAll false no_exs env) m.1).0,
      ))
  two-kept Outcome.FirstDenied f h s r t u =
      as-written (ex2 b o x y) (ex1 b Op1.Not x) f env h (λ m. (denied-by x s, (m.0, tt)))
  two-kept Outcome.SecondDenied f h s r t u =
      as-written (ex2 b o x y) (ex1 b Op1.Not y) f env h (λ m. (denied-by y s, ((r (Meets y env × MeetsAll false no_exs env) m.1).0, tt)))
  two-kept (Outcome.Says v) f h s r t u = as-written (ex2 b o x y) (truth_ex v) f env h (truth-kept (ex2 b o x y) v env (told-by v s))

-- A connective on a wrong number of operands is false.
other-false : (b : Bool) (o : Op2) (es : Exs) (env : Env) (f : Ex)
    → ((g : Bool → Bool → Bool) → on_two g (map as_truth (meanings es env)) ≡ false)
    → (if is_some (connective (binary o)) then Some (truth_ex false) else None) ≡ Some f → Keeps (node_ex b (binary o) es) f env
other-false b Op2.And es env f h e =
    as-written (node_ex b (binary Op2.And) es) (truth_ex false) f env e
    (truth-kept (node_ex b (binary Op2.And) es) false env
    (ap (λ v. false_where_undefined b (Some (truth v))) (h ◌&&◌) ∙ settled b false))
other-false b Op2.Or es env f h e =
    as-written (node_ex b (binary Op2.Or) es) (truth_ex false) f env e
    (truth-kept (node_ex b (binary Op2.Or) es) false env
    (ap (λ v. false_where_undefined b (Some (truth v))) (h ◌||◌) ∙ settled b false))
other-false b Op2.Implies es env f h e =
    as-written (node_ex b (binary Op2.Implies) es) (truth_ex false) f env e
    (truth-kept (node_ex b (binary Op2.Implies) es) false env
    (ap (λ v. false_where_undefined b (Some (truth v))) (h implies) ∙ settled b false))
other-false b Op2.Iff es env f h e =
    as-written (node_ex b (binary Op2.Iff) es) (truth_ex false) f env e
    (truth-kept (node_ex b (binary Op2.Iff) es) false env
    (ap (λ v. false_where_undefined b (Some (truth v))) (h iff) ∙ settled b false))
other-false b _ es env f h e = cc

-- `!` of what needs none.
denial-kept : (b : Bool) (a f : Ex) (env : Env) → undenied a ≡ Some f → HasTruthUnder a env → Keeps (ex1 b Op1.Not a) f env
denial-kept b (truth_ex v) f env h t =
    as-written (ex1 b Op1.Not (truth_ex v)) (truth_ex (not v)) f env h
    (truth-kept (ex1 b Op1.Not (truth_ex v)) (not v) env (settled b (not v)))
denial-kept b (node_ex c (unary Op1.Not) no_exs) f env h t = cc
denial-kept b (node_ex c (unary Op1.Not) (more_exs a no_exs)) f env h t =
    as-written (ex1 b Op1.Not (ex1 c Op1.Not a)) a f env h (λ m. (means, m.0.0))
  where
    means : meaning (ex1 b Op1.Not (ex1 c Op1.Not a)) env ≡ meaning a env
    means =
        ap (λ o. false_where_undefined b (Some (truth (not (as_truth o))))) (settled c (not (as_truth (meaning a env))))
        ∙ settled b (not (not (as_truth (meaning a env)))) ∙ told _ _ (twice (as_truth (meaning a env))) ∙ again (meaning a env) t.0
denial-kept b (node_ex c (unary Op1.Not) (more_exs a (more_exs x xs))) f env h t = cc
denial-kept b _ f env h t = cc

wrong-denial : (b : Bool) (es : Exs) (env : Env) (f : Ex) → value_of_node (unary Op1.Not) (meanings es env) ≡ Some (truth false)
    → Some (truth_ex false) ≡ Some f
    → Keeps (node_ex b (unary Op1.Not) es) f env
wrong-denial b es env f h e =
    as-written (node_ex b (unary Op1.Not) es) (truth_ex false) f env e
    (truth-kept (node_ex b (unary Op1.Not) es) false env (ap (false_where_undefined b) h ∙ settled b false))

binary-kept : (b : Bool) (o : Op2) (es : Exs) (f : Ex) → simpler_root (node_ex b (binary o) es) ≡ Some f → (env : Env)
    → (is_some (connective (binary o)) ≡ true → AreTruths (guards (binary o)) es env) → Keeps (node_ex b (binary o) es) f env
binary-kept b o (more_exs x (more_exs y no_exs)) f h env t =
    let u = t (moves o (said x) (said y) b x y f h) in
    two-kept b o x y env (outcome o (said x) (said y)) f h
    (says o (said x) (said y) (meaning x env) (meaning y env) (said-agrees x env) (said-agrees y env))
    (λ T. reached o (said x) (said y) (meaning x env) T (said-agrees x env)) u.0 u.1
binary-kept b o no_exs f h env t = other-false b o no_exs env f (λ g. refl) h
binary-kept b o (more_exs x no_exs) f h env t = other-false b o (more_exs x no_exs) env f (λ g. refl) h
binary-kept b o (more_exs x (more_exs y (more_exs z zs))) f h env t =
    other-false b o (more_exs x (more_exs y (more_exs z zs))) env f (λ g. refl) h

unary-kept : (b : Bool) (o : Op1) (es : Exs) (f : Ex) → simpler_root (node_ex b (unary o) es) ≡ Some f → (env : Env)
    → HasTruthOperands (node_ex b (unary o) es) env → Keeps (node_ex b (unary o) es) f env
unary-kept b Op1.Not no_exs f h env t = wrong-denial b no_exs env f refl h
unary-kept b Op1.Not (more_exs a no_exs) f h env t = denial-kept b a f env h t
unary-kept b Op1.Not (more_exs a (more_exs x xs)) f h env t = wrong-denial b (more_exs a (more_exs x xs)) env f refl h
unary-kept b Op1.Minus es f h env t = cc
unary-kept b Op1.Bar es f h env t = cc

-- The rule keeps what it rewrites, where operands of connectives have truth values.
pub simpler-roots-keep : SimplerRootsKeep
simpler-roots-keep (node_ex b (unary o) es) f h env t = unary-kept b o es f h env t
simpler-roots-keep (node_ex b (binary o) es) f h env t = binary-kept b o es f h env t
simpler-roots-keep _ f h env t = cc
