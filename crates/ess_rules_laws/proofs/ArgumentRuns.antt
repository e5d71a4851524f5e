-- A generator that runs over the arguments of a function kept by argument: its bindings have the arguments and their indices.
use Rattle.std.proofs.Common.{◌≡◌, refl, ap, ◌∙◌, subst, true, false, List, [], ◌∷◌, map, ℤ, Option, Some, None}
use Rattle.std.specs.Prelude.{IsTrue, is_some}
use Rattle.ess_semantics.specs.Lists.{list_or_none}
use Rattle.ess_semantics.specs.Values.{Text, Value}
use Rattle.ess_semantics.specs.Trees.{Dom}
use Rattle.ess_semantics.specs.Domains.{Domain, lists_of, members}
use Rattle.ess_semantics.specs.Tables.{code}
use Rattle.ess_semantics.specs.Layers.{codes_of}
use Rattle.ess_semantics.specs.Meaning.{Env, domain_of, members_in, indices}
use Rattle.ess_rules_laws.specs.FunctionViews.{by_name}
use Rattle.ess_rules_laws.proofs.Simulation.{but}
use Rattle.ess_rules_laws.proofs.Agreement.{agree-but}
use Rattle.ess_rules_laws.proofs.RuleAnswers.{each-any, name-behind}
use Rattle.ess_rules_laws.proofs.FunctionResults.{RunsOver}

no : {A : Type 0} → false ≡ true → A
no h = cc

-- ---- over an atom

-- The index of an atom.
abbrev pub atom_index : Value → List ℤ
atom_index v = code v ∷ []

atom-places : (us : List Value) → lists_of (map code us ∷ []) ≡ map atom_index us
atom-places [] = refl
atom-places (u ∷ us) = ap (λ l. (code u ∷ []) ∷ l) (atom-places us)

-- A name over an atom.
pub runs-over_atom : (x : Text) (env : Env) (dd : Dom) (d : Domain) → domain_of dd env ≡ Some d →
    IsTrue (is_some (members_in (domain_of dd env))) → RunsOver (but x) (by_name x) atom_index 1 env d (codes_of d ∷ [])
runs-over_atom x env dd d q h = go (members d) refl (subst (λ o. is_some (members_in o) ≡ true) q h)
  where
    go : (o : Option (List Value)) → members d ≡ o → is_some o ≡ true →
        RunsOver (but x) (by_name x) atom_index 1 env d (codes_of d ∷ [])
    go None e h = no h
    go (Some us) e h = record {
      us = us;
      are_members = e;
      places = ap (λ o. lists_of (map code (list_or_none o) ∷ [])) e ∙ atom-places us;
      keyed = each-any us _ (λ v. record {
        agree = agree-but x v env.vals;
        codes = ap (λ o. indices (o ∷ [])) (name-behind x v env);
        argument = name-behind x v env;
        long = refl;
        keys_met = (tt, tt);
        argument_met = tt;
      });
    }

-- The places over the axis of an atom are the indices of its members.
pub atom-members-there : (d : Domain) (us : List Value) → members d ≡ Some us → lists_of (codes_of d ∷ []) ≡ map atom_index us
atom-members-there d us q = ap (λ o. lists_of (map code (list_or_none o) ∷ [])) q ∙ atom-places us
