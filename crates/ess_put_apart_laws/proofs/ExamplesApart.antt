-- A worked example: a comprehension as a source, told apart anew, may be spliced.
use Rattle.std.proofs.Common.{◌≡◌, refl, Bool, false, codes, arith}
use Rattle.ess_semantics.specs.declared.words.Op2.{Op2}
use Rattle.ess_semantics.specs.Values.{Text}
use Rattle.ess_semantics.specs.Trees.{name_pat, Ex, comp_ex, no_gens, over, from}
use Rattle.ess_semantics.proofs.Shorthands.{N, bi, upto}
use Rattle.ess_rules_laws.specs.SpliceRules.{NamesApart}
use Rattle.conjure_model_laws.specs.ToldApart.{reserved, is_unreserved, told_apart}
use Rattle.ess_told_over_laws.specs.ToldOverTables.{IsScopedBelow}
use Rattle.ess_put_apart_laws.specs.RenewedApart.{Behind}
use Rattle.ess_put_apart_laws.proofs.RenewedApart.{renewed-sources-are-apart}

abbrev w : Text
w = codes "w"

-- `[a | a : int(1..2)]`.
abbrev items : Text → Ex
items a = comp_ex (N a) (over (name_pat a) (upto 2) no_gens)

renewed : told_apart 8 (items (codes "j")) ≡ items (reserved 8)
renewed = refl

scoped : IsScopedBelow (λ a. false) (λ a. false) (λ a. false) 8 (items (codes "j"))
scoped = record { scoped = (refl, (tt, (tt, tt)), refl); around = λ c t. t; within = λ c t. t; spared = λ j k l. refl }

-- Behind it stands `w + w`, which uses a name of a specification.
behind : Behind is_unreserved (λ a. false) w 8 (bi Op2.Plus (N w) (N w)) no_gens
behind = record { spared = λ i k l. refl; gens = tt; body = (refl, (refl, tt)) }

apart : (r : Text → Bool) × (u : Text → Bool)
    × NamesApart r u (comp_ex (bi Op2.Plus (N w) (N w)) (from (name_pat w) (items (reserved 8)) no_gens))
apart = renewed-sources-are-apart.of_comprehensions (λ a. false) (λ a. false) (λ a. false) is_unreserved 8 w (bi Op2.Plus (N w) (N w))
    (items (codes "j")) (N (reserved 8)) (over (name_pat (reserved 8)) (upto 2) no_gens) no_gens scoped (tt, ((tt, (tt, tt)), tt))
    (omega arith) behind refl
