-- The rule of simplifying at a root: what can be left out there at once.
use Rattle.std.specs.Prelude.{◌≡◌, Bool, true, false, not, if◌then◌else◌, Option, Some, None, is_some}
use Rattle.ess_semantics.specs.declared.words.Op1.{Op1}
use Rattle.ess_semantics.specs.declared.words.Op2.{Op2}
use Rattle.ess_semantics.specs.Trees.{unary, binary, Ex, Exs, truth_ex, node_ex, no_exs, more_exs, ex1}
use Rattle.ess_semantics.specs.Operators.{connective}
use Rattle.ess_semantics.specs.Meaning.{Env, meaning}
use Rattle.ess_semantics.specs.Contexts.{guards, Guarded}
use Rattle.ess_rules_laws.specs.Rules.{IsTruth, RuleKeepsWhere}
use Rattle.ess_simplify_laws.specs.declared.words.Outcome.{Outcome}
use Rattle.ess_simplify_laws.specs.Simplifying.{said, outcome}

-- What is written for an outcome, where it isn't that the operator stays.
abbrev pub written : Bool → Ex → Ex → Outcome → Option Ex
written b x y Outcome.Stays = None
written b x y Outcome.First = Some x
written b x y Outcome.Second = Some y
written b x y Outcome.FirstDenied = Some (ex1 b Op1.Not x)
written b x y Outcome.SecondDenied = Some (ex1 b Op1.Not y)
written b x y (Outcome.Says v) = Some (truth_ex v)

-- What is written for `!` of the expression, where it needs no `!`.
abbrev pub undenied : Ex → Option Ex
undenied (truth_ex v) = Some (truth_ex (not v))
undenied (node_ex c (unary Op1.Not) (more_exs a no_exs)) = Some a
undenied _ = None

-- `!` of a truth value, `!` under `!`, `true` or `false` under another connective, and a connective on a wrong number of operands.
abbrev pub simpler_root : Ex → Option Ex
simpler_root (node_ex b (unary Op1.Not) (more_exs a no_exs)) = undenied a
simpler_root (node_ex b (unary Op1.Not) es) = Some (truth_ex false)
simpler_root (node_ex b (binary o) (more_exs x (more_exs y no_exs))) = written b x y (outcome o (said x) (said y))
simpler_root (node_ex b (binary o) es) = if is_some (connective (binary o)) then Some (truth_ex false) else None
simpler_root _ = None

-- Each of the expressions has a truth value; `g` says whether the first one guards those behind it.
abbrev pub AreTruths : Bool → Exs → Env → Type 0
AreTruths g no_exs env = Unit {0}
AreTruths g (more_exs e es) env = IsTruth (meaning e env) × Guarded g (meaning e env) (AreTruths false es env)

-- What stands under a `!` has a truth value.
abbrev pub HasTruthUnder : Ex → Env → Type 0
HasTruthUnder (node_ex c (unary Op1.Not) es) env = AreTruths false es env
HasTruthUnder _ env = Unit {0}

-- What it counts on: the operands of a connective on two have truth values, and so has what stands under two `!`.
abbrev pub HasTruthOperands : Ex → Env → Type 0
HasTruthOperands (node_ex b (unary Op1.Not) (more_exs a no_exs)) env = HasTruthUnder a env
HasTruthOperands (node_ex b (binary o) es) env = is_some (connective (binary o)) ≡ true → AreTruths (guards (binary o)) es env
HasTruthOperands _ env = Unit {0}

-- So it keeps what it rewrites.
abbrev pub SimplerRootsKeep : Type 0
SimplerRootsKeep = RuleKeepsWhere HasTruthOperands simpler_root
