-- A node on operands whose connectives have truth values: what simplifying makes of it means the same.
use Rattle.std.proofs.Common.{◌≡◌, refl, sym, ap, ◌∙◌, Bool, true, false, not, ◌&&◌, ◌||◌, if◌then◌else◌, [], ◌∷◌, map, Option, Some, None}
use Rattle.std.specs.Prelude.{is_some}
use Rattle.ess_semantics.specs.declared.words.Op1.{Op1}
use Rattle.ess_semantics.specs.declared.words.Op2.{Op2}
use Rattle.ess_semantics.specs.Values.{Value, truth}
use Rattle.ess_semantics.specs.Trees.{Op, unary, binary, word, index, application, tuple_literal, set_literal, mset_literal, function_literal, relation_literal, partition_literal, matrix_literal, record_literal, Ex, Exs, number_ex, truth_ex, name_ex, node_ex, matrix_ex, comp_ex, cell_ex, seen_ex, no_exs, more_exs, ex1, ex2}
use Rattle.ess_semantics.specs.Operators.{as_truth, implies, iff, on_two, connective, value_of_node, false_where_undefined}
use Rattle.ess_semantics.specs.Meaning.{Env, meaning, meanings}
use Rattle.ess_semantics.specs.Contexts.{guards, Guarded}
use Rattle.ess_semantics.specs.Meets.{Meets, MeetsAll}
use Rattle.ess_rules_laws.specs.Rules.{IsTruth}
use Rattle.ess_simplify_laws.specs.declared.words.Outcome.{Outcome}
use Rattle.ess_simplify_laws.specs.Simplifying.{said, denied, outcome, left, simpler_node}
use Rattle.ess_simplify_laws.specs.SimplerRoots.{AreTruths}
use Rattle.ess_simplify_laws.specs.TruthsThere.{HasTruths, HaveTruths}
use Rattle.ess_simplify_laws.proofs.RootMeanings.{settled, again, twice, told, Says, says, NeedsSecond, reached, said-agrees}

-- The second tree means what the first one does, is met, and its connectives have truth values.
abbrev pub Follows : Ex → Ex → Env → Type 0
Follows e f env = (meaning e env ≡ meaning f env) × Meets f env × HasTruths f env

itself : (e : Ex) (env : Env) → Meets e env → HasTruths e env → Follows e e env
itself e env m h = (refl, m, h)

-- What an operand in front is, is met.
denial-follows : (b : Bool) (a : Ex) (env : Env) → IsTruth (meaning a env) → Meets a env → HasTruths a env
    → Follows (ex1 b Op1.Not a) (ex1 b Op1.Not a) env
denial-follows b a env t m h = itself (ex1 b Op1.Not a) env (m, tt) ((λ e. (t, tt)), (h, tt))

denied-follows : (b : Bool) (a : Ex) (env : Env) → IsTruth (meaning a env) → Meets a env → HasTruths a env
    → Follows (ex1 b Op1.Not a) (denied b a) env
denied-follows b (truth_ex v) env t m h = (settled b (not v), tt, tt)
denied-follows b (node_ex c (unary Op1.Not) no_exs) env t m h =
    (ap (λ o. false_where_undefined b (Some (truth (not (as_truth o))))) (settled c false) ∙ settled b true, tt, tt)
denied-follows b (node_ex c (unary Op1.Not) (more_exs a no_exs)) env t m h = (
  ap (λ o. false_where_undefined b (Some (truth (not (as_truth o))))) (settled c (not (as_truth (meaning a env))))
      ∙ settled b (not (not (as_truth (meaning a env)))) ∙ told _ _ (twice (as_truth (meaning a env))) ∙ again (meaning a env) (h.0 refl).0,
  m.0,
  h.1.0,
)
denied-follows b (node_ex c (unary Op1.Not) (more_exs a (more_exs x xs))) env t m h =
    (ap (λ o. false_where_undefined b (Some (truth (not (as_truth o))))) (settled c false) ∙ settled b true, tt, tt)
denied-follows b (number_ex n) env t m h = denial-follows b (number_ex n) env t m h
denied-follows b (name_ex n) env t m h = denial-follows b (name_ex n) env t m h
denied-follows b (node_ex c (unary Op1.Minus) es) env t m h = denial-follows b (node_ex c (unary Op1.Minus) es) env t m h
denied-follows b (node_ex c (unary Op1.Bar) es) env t m h = denial-follows b (node_ex c (unary Op1.Bar) es) env t m h
denied-follows b (node_ex c (binary o) es) env t m h = denial-follows b (node_ex c (binary o) es) env t m h
denied-follows b (node_ex c (word f) es) env t m h = denial-follows b (node_ex c (word f) es) env t m h
denied-follows b (node_ex c (index qs) es) env t m h = denial-follows b (node_ex c (index qs) es) env t m h
denied-follows b (node_ex c application es) env t m h = denial-follows b (node_ex c application es) env t m h
denied-follows b (node_ex c tuple_literal es) env t m h = denial-follows b (node_ex c tuple_literal es) env t m h
denied-follows b (node_ex c set_literal es) env t m h = denial-follows b (node_ex c set_literal es) env t m h
denied-follows b (node_ex c mset_literal es) env t m h = denial-follows b (node_ex c mset_literal es) env t m h
denied-follows b (node_ex c function_literal es) env t m h = denial-follows b (node_ex c function_literal es) env t m h
denied-follows b (node_ex c relation_literal es) env t m h = denial-follows b (node_ex c relation_literal es) env t m h
denied-follows b (node_ex c partition_literal es) env t m h = denial-follows b (node_ex c partition_literal es) env t m h
denied-follows b (node_ex c matrix_literal es) env t m h = denial-follows b (node_ex c matrix_literal es) env t m h
denied-follows b (node_ex c (record_literal fs) es) env t m h = denial-follows b (node_ex c (record_literal fs) es) env t m h
denied-follows b (matrix_ex es d) env t m h = denial-follows b (matrix_ex es d) env t m h
denied-follows b (comp_ex e gs) env t m h = denial-follows b (comp_ex e gs) env t m h
denied-follows b (cell_ex c n es) env t m h = denial-follows b (cell_ex c n es) env t m h
denied-follows b (seen_ex r d ns es) env t m h = denial-follows b (seen_ex r d ns es) env t m h

-- Where an operator on two operands moves it is a connective.
abbrev Moves : Outcome → Op2 → Type 0
Moves Outcome.Stays o = Unit {0}
Moves _ o = is_some (connective (binary o)) ≡ true

moves : (o : Op2) (p q : Option Bool) → Moves (outcome o p q) o
moves Op2.And (Some true) q = refl
moves Op2.And (Some false) q = refl
moves Op2.And None (Some true) = refl
moves Op2.And None (Some false) = refl
moves Op2.And None None = tt
moves Op2.Or (Some true) q = refl
moves Op2.Or (Some false) q = refl
moves Op2.Or None (Some true) = refl
moves Op2.Or None (Some false) = refl
moves Op2.Or None None = tt
moves Op2.Implies (Some true) q = refl
moves Op2.Implies (Some false) q = refl
moves Op2.Implies None (Some true) = refl
moves Op2.Implies None (Some false) = refl
moves Op2.Implies None None = tt
moves Op2.Iff (Some true) q = refl
moves Op2.Iff (Some false) q = refl
moves Op2.Iff None (Some true) = refl
moves Op2.Iff None (Some false) = refl
moves Op2.Iff None None = tt
moves _ p q = tt

module _ (b : Bool) (o : Op2) (x y : Ex) (env : Env)
    (t : is_some (connective (binary o)) ≡ true → AreTruths (guards (binary o)) (more_exs x (more_exs y no_exs)) env)
    (h : HaveTruths (guards (binary o)) (more_exs x (more_exs y no_exs)) env)
    (m : MeetsAll (guards (binary o)) (more_exs x (more_exs y no_exs)) env) where
  abbrev Node : Option Value
  Node = value_of_node (binary o) (meaning x env ∷ meaning y env ∷ [])

  told-by : (v : Bool) → Node ≡ Some (truth v) → meaning (ex2 b o x y) env ≡ Some (truth v)
  told-by v e = ap (false_where_undefined b) e ∙ settled b v

  denied-by : (z : Ex) → Node ≡ Some (truth (not (as_truth (meaning z env)))) → meaning (ex2 b o x y) env ≡ meaning (ex1 b Op1.Not z) env
  denied-by z e = told-by (not (as_truth (meaning z env))) e ∙ sym (settled b (not (as_truth (meaning z env))))

  left-follows : (c : Outcome) → Says c Node (meaning x env) (meaning y env) → Moves c o
      → ((T : Type 0) → Guarded (guards (binary o)) (meaning x env) T → NeedsSecond c T) → Follows (ex2 b o x y) (left b o x y c) env
  left-follows Outcome.Stays s k r = itself (ex2 b o x y) env m (t, h)
  left-follows Outcome.First s k r = (told-by (as_truth (meaning x env)) s ∙ again (meaning x env) (t k).0, m.0, h.0)
  left-follows Outcome.Second s k r =
      let u = r (IsTruth (meaning y env) × Unit {0}) (t k).1 in
      let n = r (Meets y env × Unit {0}) m.1 in
      let j = r (HasTruths y env × Unit {0}) h.1 in
      (told-by (as_truth (meaning y env)) s ∙ again (meaning y env) u.0, n.0, j.0)
  left-follows Outcome.FirstDenied s k r =
      let f = denied-follows b x env (t k).0 m.0 h.0 in (denied-by x s ∙ f.0, f.1, f.2)
  left-follows Outcome.SecondDenied s k r =
      let u = r (IsTruth (meaning y env) × Unit {0}) (t k).1 in
      let n = r (Meets y env × Unit {0}) m.1 in
      let j = r (HasTruths y env × Unit {0}) h.1 in
      let f = denied-follows b y env u.0 n.0 j.0 in (denied-by y s ∙ f.0, f.1, f.2)
  left-follows (Outcome.Says v) s k r = (told-by v s, tt, tt)

  two-follow : Follows (ex2 b o x y) (left b o x y (outcome o (said x) (said y))) env
  two-follow = left-follows (outcome o (said x) (said y))
      (says o (said x) (said y) (meaning x env) (meaning y env) (said-agrees x env) (said-agrees y env)) (moves o (said x) (said y))
      (λ T. reached o (said x) (said y) (meaning x env) T (said-agrees x env))

-- On another number of operands.
other-follows : (b : Bool) (o : Op2) (es : Exs) (env : Env) → ((g : Bool → Bool → Bool) → on_two g (map as_truth (meanings es env)) ≡ false)
    → Follows (node_ex b (binary o) es) (node_ex b (binary o) es) env
    → Follows (node_ex b (binary o) es) (if is_some (connective (binary o)) then truth_ex false else node_ex b (binary o) es) env
other-follows b Op2.And es env h f = (ap (λ v. false_where_undefined b (Some (truth v))) (h ◌&&◌) ∙ settled b false, tt, tt)
other-follows b Op2.Or es env h f = (ap (λ v. false_where_undefined b (Some (truth v))) (h ◌||◌) ∙ settled b false, tt, tt)
other-follows b Op2.Implies es env h f = (ap (λ v. false_where_undefined b (Some (truth v))) (h implies) ∙ settled b false, tt, tt)
other-follows b Op2.Iff es env h f = (ap (λ v. false_where_undefined b (Some (truth v))) (h iff) ∙ settled b false, tt, tt)
other-follows b _ es env h f = f

-- The node means what it did.
pub node-follows : (b : Bool) (op : Op) (es : Exs) (env : Env) → HasTruths (node_ex b op es) env → MeetsAll (guards op) es env
    → Follows (node_ex b op es) (simpler_node b op es) env
node-follows b (unary Op1.Not) no_exs env h m = (settled b false, tt, tt)
node-follows b (unary Op1.Not) (more_exs a no_exs) env h m = denied-follows b a env (h.0 refl).0 m.0 h.1.0
node-follows b (unary Op1.Not) (more_exs a (more_exs x xs)) env h m = (settled b false, tt, tt)
node-follows b (unary Op1.Minus) es env h m = itself (node_ex b (unary Op1.Minus) es) env m h
node-follows b (unary Op1.Bar) es env h m = itself (node_ex b (unary Op1.Bar) es) env m h
node-follows b (binary o) (more_exs x (more_exs y no_exs)) env h m = two-follow b o x y env h.0 h.1 m
node-follows b (binary o) no_exs env h m = other-follows b o no_exs env (λ g. refl) (itself (node_ex b (binary o) no_exs) env m h)
node-follows b (binary o) (more_exs x no_exs) env h m =
    other-follows b o (more_exs x no_exs) env (λ g. refl) (itself (node_ex b (binary o) (more_exs x no_exs)) env m h)
node-follows b (binary o) (more_exs x (more_exs y (more_exs z zs))) env h m =
    other-follows b o (more_exs x (more_exs y (more_exs z zs))) env (λ g. refl)
    (itself (node_ex b (binary o) (more_exs x (more_exs y (more_exs z zs)))) env m h)
node-follows b (word f) es env h m = itself (node_ex b (word f) es) env m h
node-follows b (index qs) es env h m = itself (node_ex b (index qs) es) env m h
node-follows b application es env h m = itself (node_ex b application es) env m h
node-follows b tuple_literal es env h m = itself (node_ex b tuple_literal es) env m h
node-follows b set_literal es env h m = itself (node_ex b set_literal es) env m h
node-follows b mset_literal es env h m = itself (node_ex b mset_literal es) env m h
node-follows b function_literal es env h m = itself (node_ex b function_literal es) env m h
node-follows b relation_literal es env h m = itself (node_ex b relation_literal es) env m h
node-follows b partition_literal es env h m = itself (node_ex b partition_literal es) env m h
node-follows b matrix_literal es env h m = itself (node_ex b matrix_literal es) env m h
node-follows b (record_literal fs) es env h m = itself (node_ex b (record_literal fs) es) env m h
