-- A worked example: cells at a bound name, told apart, keep their meaning in every env.
use Rattle.std.proofs.Common.{◌≡◌, refl, false, codes, arith}
use Rattle.ess_semantics.specs.Values.{Text}
use Rattle.ess_semantics.specs.Trees.{name_pat, Ex, comp_ex, cell_ex, no_gens, over}
use Rattle.ess_semantics.specs.Meaning.{Env}
use Rattle.ess_semantics.specs.Kept.{Keeps}
use Rattle.ess_semantics.proofs.Shorthands.{N, es1, upto}
use Rattle.conjure_model_laws.specs.ToldApart.{reserved, told_apart}
use Rattle.ess_told_over_laws.specs.ToldOverTables.{IsScopedBelow}
use Rattle.ess_told_over_laws.proofs.ToldMeets.{told-trees-keep}

-- `[f[a] | a : int(1..2)]`.
abbrev cells : Text → Ex
cells a = comp_ex (cell_ex false (codes "f") (es1 (N a))) (over (name_pat a) (upto 2) no_gens)

abbrev j : Text
j = codes "j"

told_at_7 : told_apart 7 (cells j) ≡ cells (reserved 7)
told_at_7 = refl

-- Nothing is in scope around it.
scoped : IsScopedBelow (λ a. false) (λ a. false) (λ a. false) 7 (cells j)
scoped = record {
  scoped = (refl, (tt, (tt, tt)), (refl, tt));
  around = λ c t. t;
  within = λ c t. t;
  spared = λ j k l. refl;
}

kept : (env : Env) → Keeps (cells j) (told_apart 7 (cells j)) env
kept env = told-trees-keep.keeps (λ a. false) (λ a. false) (λ a. false) 7 (cells j) scoped (omega arith) env
