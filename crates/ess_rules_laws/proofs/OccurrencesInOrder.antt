-- A view of a set kept as the members that occur offers the members in the order of the set.
use Rattle.std.proofs.Common.{refl, List, [], ◌∷◌, Option, Some, None}
use Rattle.ess_semantics.specs.declared.words.ReprKind.{ReprKind}
use Rattle.ess_semantics.specs.Values.{Text, Value}
use Rattle.ess_semantics.specs.Names.{look}
use Rattle.ess_semantics.specs.Trees.{repr, no_reprs, Ex, seen_ex, set_dom}
use Rattle.ess_semantics.specs.Meaning.{Env, meanings, attributes_of, domain_of, members_in, indices}
use Rattle.ess_semantics.specs.Contexts.{EachOf}
use Rattle.ess_semantics.specs.Meets.{Meets}
use Rattle.ess_rules_laws.specs.Rules.{Unused}
use Rattle.ess_rules_laws.specs.SetListings.{occurrence_listing, InnerThere, InOrderWhereMet}
use Rattle.ess_rules_laws.proofs.RuleAnswers.{each-any}
use Rattle.ess_rules_laws.proofs.OccurrenceListing.{listed}
use Rattle.ess_rules_laws.proofs.ExplicitListing.{last-met}

each-of-any : (o : Option (List Value)) (P : Value → Type 0) → ((v : Value) → P v) → EachOf o P
each-of-any None P f = tt
each-of-any (Some vs) P f = each-any vs P f

-- Sets kept as the members that occur.
pub occurrences-in_order : (x : Text) (e : Ex) (env : Env) → Unused x e → Meets e env → InnerThere e env →
    InOrderWhereMet (occurrence_listing x e) e env
occurrences-in_order x (seen_ex (repr ReprKind.Occurrence no_reprs) (set_dom ms es d) (n ∷ []) js) env o m h = record {
  items = listed x ms es js d n env o.1 (attributes_of ms (meanings es env)) (domain_of d env) (look env.cells n)
      (indices (meanings js env)) refl refl refl refl m.0 h;
  met = (m.1.1, each-of-any (members_in (domain_of d env)) _ (λ v. (last-met x v js env o.1 m.2, λ z. tt)));
}
occurrences-in_order x _ env o m h = tt
