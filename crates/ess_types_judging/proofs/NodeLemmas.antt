-- What is found of nodes, from what is found of their operands.
use Rattle.std.proofs.Common.{◌≡◌, refl, sym, ap, ◌∙◌, Bool, false}
use Rattle.ess_semantics.specs.Trees.{Ex, Exs, no_exs, more_exs, node_ex}
use Rattle.ess_types_judging_laws.specs.Judged.{judged, judged_all}
use Rattle.ess_types_judging_laws.specs.Accumulated.{Several, none_yet, added, several_on, plain_judged, is_index}
use Rattle.ess_types_judging_laws.proofs.Accumulated.{judged_plain}
use Rattle.ess_types_judging.specs.declared.scope.Scope.{Scope}
use Rattle.ess_types_judging.specs.declared.nodes.Node.{Node}
use Rattle.ess_types_judging.specs.declared.nodes.Node.TheVariants.{Unary, Binary, Word, Application, Tuple, Record, Set, MSet, Function, Relation, Partition, List as ListNode}
use Rattle.ess_types_judging.specs.Findings.{pure_node}
use Rattle.ess_types_judging.specs.ScopeViews.{pure_scope}

-- No node is an index.
no-index : (n : Node) → is_index (pure_node n) ≡ false
no-index (Unary o) = refl
no-index (Binary o) = refl
no-index (Word f) = refl
no-index Application = refl
no-index Tuple = refl
no-index (Record fs) = refl
no-index Set = refl
no-index MSet = refl
no-index Function = refl
no-index Relation = refl
no-index Partition = refl
no-index ListNode = refl

-- A node in a scope that is as it was, where v is found of its operands.
pub node_done : (b : Bool) (n : Node) (es : Exs) (s t : Scope) (v w : Several) → t ≡ s → w ≡ none_yet →
    v ≡ several_on (judged_all es (pure_scope s)) w →
    plain_judged (pure_node n) v (pure_scope t) ≡ judged (node_ex b (pure_node n) es) (pure_scope s)
node_done b n es s t v w p q r =
    ap (λ z. plain_judged (pure_node n) v (pure_scope z)) p
    ∙ ap (λ x. plain_judged (pure_node n) x (pure_scope s)) (r ∙ ap (several_on (judged_all es (pure_scope s))) q)
    ∙ sym (judged_plain b (pure_node n) es (pure_scope s) (no-index n))

-- A node on one operand.
pub one_done : (b : Bool) (n : Node) (e : Ex) (s t : Scope) (v w : Several) → t ≡ s → w ≡ none_yet → v ≡ added w (judged e (pure_scope s)) →
    plain_judged (pure_node n) v (pure_scope t) ≡ judged (node_ex b (pure_node n) (more_exs e no_exs)) (pure_scope s)
one_done b n e s t v w p q r = node_done b n (more_exs e no_exs) s t v w p q r

-- A node on an operand and others, where the scope is s, then t, then u.
pub more_done : (b : Bool) (n : Node) (e : Ex) (es : Exs) (s t u : Scope) (v w x : Several) → t ≡ s → u ≡ t → w ≡ none_yet →
    x ≡ added w (judged e (pure_scope s)) → v ≡ several_on (judged_all es (pure_scope t)) x →
    plain_judged (pure_node n) v (pure_scope u) ≡ judged (node_ex b (pure_node n) (more_exs e es)) (pure_scope s)
more_done b n e es s t u v w x p q h k r =
    node_done b n (more_exs e es) s u v w (q ∙ p) h
    (r ∙ ap (λ z. several_on (judged_all es (pure_scope z)) x) p ∙ ap (several_on (judged_all es (pure_scope s))) k)

-- A node on two operands.
pub two_done : (b : Bool) (n : Node) (d e : Ex) (s t u : Scope) (v w x : Several) → t ≡ s → u ≡ t → w ≡ none_yet →
    x ≡ added w (judged d (pure_scope s)) → v ≡ added x (judged e (pure_scope t)) →
    plain_judged (pure_node n) v (pure_scope u) ≡ judged (node_ex b (pure_node n) (more_exs d (more_exs e no_exs))) (pure_scope s)
two_done b n d e s t u v w x p q h k r = more_done b n d (more_exs e no_exs) s t u v w x p q h k r
