-- Worked examples of simplified trees.
use Rattle.std.specs.Prelude.{◌≡◌, refl, true, false, codes, Some, None, [], ◌∷◌}
use Rattle.ess_semantics.specs.declared.words.Op1.{Op1}
use Rattle.ess_semantics.specs.declared.words.Op2.{Op2}
use Rattle.ess_semantics.specs.declared.words.Fun.{Fun}
use Rattle.ess_semantics.specs.Values.{Text}
use Rattle.ess_semantics.specs.Trees.{unary, binary, name_pat, both_ends, Ex, truth_ex, node_ex, comp_ex, no_exs, more_exs, no_gens, over, cond, int_dom}
use Rattle.ess_semantics.proofs.Shorthands.{N, n, un, bi, fn}
use Rattle.ess_simplify_laws.specs.Simplifying.{simplified}
use Rattle.ess_simplify_laws.specs.SimplerRoots.{simpler_root}

abbrev x : Text
x = codes "x"

abbrev a : Ex
a = bi Op2.Lt (N x) (n 3)

abbrev b : Ex
b = bi Op2.Eq (N x) (n 5)

-- `true` and `false` under each connective, on each side
conjunction : (simplified (bi Op2.And (truth_ex true) a) ≡ a) × (simplified (bi Op2.And a (truth_ex true)) ≡ a)
    × (simplified (bi Op2.And (truth_ex false) a) ≡ truth_ex false) × (simplified (bi Op2.And a (truth_ex false)) ≡ truth_ex false)
conjunction = (refl, refl, refl, refl)

disjunction : (simplified (bi Op2.Or (truth_ex true) a) ≡ truth_ex true) × (simplified (bi Op2.Or a (truth_ex true)) ≡ truth_ex true)
    × (simplified (bi Op2.Or (truth_ex false) a) ≡ a) × (simplified (bi Op2.Or a (truth_ex false)) ≡ a)
disjunction = (refl, refl, refl, refl)

implication : (simplified (bi Op2.Implies (truth_ex true) a) ≡ a) × (simplified (bi Op2.Implies a (truth_ex true)) ≡ truth_ex true)
    × (simplified (bi Op2.Implies (truth_ex false) a) ≡ truth_ex true) × (simplified (bi Op2.Implies a (truth_ex false)) ≡ un Op1.Not a)
implication = (refl, refl, refl, refl)

equivalence : (simplified (bi Op2.Iff (truth_ex true) a) ≡ a) × (simplified (bi Op2.Iff a (truth_ex true)) ≡ a)
    × (simplified (bi Op2.Iff (truth_ex false) a) ≡ un Op1.Not a) × (simplified (bi Op2.Iff a (truth_ex false)) ≡ un Op1.Not a)
equivalence = (refl, refl, refl, refl)

-- `!` of `true`, of `!`, and of any other Boolean
denials : (simplified (un Op1.Not (truth_ex true)) ≡ truth_ex false) × (simplified (un Op1.Not (un Op1.Not a)) ≡ a) ×
    (simplified (un Op1.Not a) ≡ un Op1.Not a)
denials = (refl, refl, refl)

-- `!a -> false` is `a`: what is left under a `!` is looked at again
twice : simplified (bi Op2.Implies (un Op1.Not a) (truth_ex false)) ≡ a
twice = refl

-- from the parts up: `(a /\ true) \/ (false /\ b)` is `a`
parts : simplified (bi Op2.Or (bi Op2.And a (truth_ex true)) (bi Op2.And (truth_ex false) b)) ≡ a
parts = refl

-- `true = true` may stay, and so may `true` as a condition
elsewhere : (simplified (bi Op2.Eq (truth_ex true) (truth_ex true)) ≡ bi Op2.Eq (truth_ex true) (truth_ex true))
    × (simplified (comp_ex (bi Op2.And (truth_ex true) a) (cond (bi Op2.Or (truth_ex true) b) no_gens))
    ≡ comp_ex a (cond (truth_ex true) no_gens))
elsewhere = (refl, refl)

-- a connective on a wrong number of operands, which no text has, is false
wrong : (simplified (node_ex true (unary Op1.Not) no_exs) ≡ truth_ex false) ×
    (simplified (node_ex true (binary Op2.And) (more_exs a no_exs)) ≡ truth_ex false)
wrong = (refl, refl)

-- at the root nothing happens to what is simple there
roots : (simpler_root (bi Op2.And a b) ≡ None) × (simpler_root (un Op1.Not a) ≡ None) ×
    (simpler_root (bi Op2.Implies a (truth_ex false)) ≡ Some (un Op1.Not a))
roots = (refl, refl, refl)
