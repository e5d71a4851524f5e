-- A worked example of rules that would capture a name: where the source is told apart anew first they don't.
use Rattle.std.specs.Prelude.{◌≡◌, refl, false, [], codes, Some}
use Rattle.ess_semantics.specs.declared.words.Op2.{Op2}
use Rattle.ess_semantics.specs.declared.words.Fun.{Fun}
use Rattle.ess_semantics.specs.Values.{Text}
use Rattle.ess_semantics.specs.Trees.{matrix_literal, name_pat, Ex, node_ex, comp_ex, no_gens, over, from}
use Rattle.ess_semantics.specs.Meaning.{empty_env, meaning}
use Rattle.ess_semantics.proofs.Shorthands.{N, es1, bi, fn, upto, v}
use Rattle.ess_refine_laws.specs.AllRules.{over_a_source, rewrite}
use Rattle.conjure_model_laws.specs.ToldApart.{reserved}
use Rattle.ess_chain_names_laws.specs.Steps.{supply_at}
use Rattle.ess_chain_anew_laws.specs.RenewedRules.{renewed}

-- `[a | a : int(1..2)]`.
abbrev items : Text → Ex
items a = comp_ex (N a) (over (name_pat a) (upto 2) no_gens)

abbrev j : Text
j = codes "j"

abbrev w : Text
w = codes "w"

-- `sum([j * w | w <- [j | j : int(1..2)]])`, where j is bound around it too.
abbrev inner : Ex
inner = fn Fun.Sum (comp_ex (bi Op2.Times (N j) (N w)) (from (name_pat w) (items j) no_gens))

abbrev products : Text → Ex
products a = fn Fun.Sum (comp_ex (bi Op2.Times (N j) (N a)) (over (name_pat a) (upto 2) no_gens))

-- The rule takes the names from the 4th on, the source those from the 7th on: j stays the one around it.
not_captured : rewrite (supply_at 4 0) [] over_a_source (renewed 7 over_a_source inner)
    ≡ Some (fn Fun.Sum (node_ex false matrix_literal (es1 (products (reserved 7)))))
not_captured = refl

-- So the sum over all j is what it was.
nine : (meaning (fn Fun.Sum (comp_ex inner (over (name_pat j) (upto 2) no_gens))) empty_env ≡ Some (v 9))
    × (meaning (fn Fun.Sum (comp_ex (products (codes "#7")) (over (name_pat j) (upto 2) no_gens))) empty_env ≡ Some (v 9))
    × (meaning (fn Fun.Sum (comp_ex (products j) (over (name_pat j) (upto 2) no_gens))) empty_env ≡ Some (v 10))
nine = (refl, refl, refl)
