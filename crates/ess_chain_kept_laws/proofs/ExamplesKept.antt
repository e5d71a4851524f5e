-- A worked example of a chain of rules that keeps meanings: `1 in toMSet(s)`, where s is a set, becomes a look at its members.
use Rattle.std.proofs.Common.{refl, [], ◌∷◌, codes, arith}
use Rattle.ess_semantics.specs.declared.words.Op2.{Op2}
use Rattle.ess_semantics.specs.declared.words.Fun.{Fun}
use Rattle.ess_semantics.specs.Values.{Text, a_set}
use Rattle.ess_semantics.specs.Names.{Names}
use Rattle.ess_semantics.specs.Trees.{name_pat, Ex, comp_ex, no_gens, from}
use Rattle.ess_semantics.specs.Types.{Ty, int_ty, compound1}
use Rattle.ess_semantics.specs.Meaning.{Env}
use Rattle.ess_semantics.specs.Contexts.{hole}
use Rattle.ess_semantics.specs.Kept.{Keeps}
use Rattle.ess_semantics.proofs.Shorthands.{N, n, bi, fn}
use Rattle.ess_refine_laws.specs.AllRules.{in_one_made_of_another, in_a_term}
use Rattle.conjure_model_laws.specs.ToldApart.{reserved, is_unreserved}
use Rattle.ess_chain_names_laws.specs.Steps.{Chain, at_rest, one_more}
use Rattle.ess_chain_names_laws.specs.SparedNames.{Spares}
use Rattle.ess_chain_kept_laws.specs.CountsBeside.{needs_names}
use Rattle.ess_chain_kept_laws.specs.KeptChains.{IsRuledBy}
use Rattle.ess_chain_kept_laws.proofs.KeptChains.{chains-keep}

abbrev s : Text
s = codes "s"

abbrev g : Names Ty
g = (s, compound1 a_set int_ty) ∷ []

abbrev start : Ex
start = bi Op2.Member (n 1) (fn Fun.ToMSet (N s))

abbrev asked : Ex
asked = bi Op2.Member (n 1) (N s)

-- The names 0 to 2 are kept for the first rule, so the second one binds the name 3.
abbrev last : Ex
last = fn Fun.Or (comp_ex (bi Op2.Eq (N (reserved 3)) (n 1)) (from (name_pat (reserved 3)) (N s) no_gens))

first : IsRuledBy needs_names 0 g start asked 3
first = record {
  ruled = record { count = 0; rule = in_one_made_of_another; fires = refl; takes = omega arith; passes = omega arith };
  of_these = refl;
}

second : IsRuledBy needs_names 3 g asked last 6
second = record { ruled = record { count = 0; rule = in_a_term; fires = refl; takes = omega arith; passes = omega arith }; of_these = refl }

chain : Chain (IsRuledBy needs_names) 0 g start last 6
chain = one_more {a = start} {b = asked} hole (omega arith) first
    (one_more {a = asked} {b = last} hole (omega arith) second (at_rest (omega arith)))

-- The names of a specification are no reserved ones.
spares : Spares 0 start
spares = record { among = is_unreserved; has = (tt, ((refl, tt), tt)); spared = λ j l b. refl }

kept : (env : Env) → Keeps start last env
kept env = chains-keep.by_names_alone 0 6 g start last chain (omega arith) spares env
