-- What a view of a judged domain has that is kept by tuples of atoms: these are finite, and can be listed.
use Rattle.std.proofs.Common.{◌≡◌, refl, sym, ap, ◌∙◌, subst, Bool, true, false, ◌&&◌, if◌then◌else◌, List, [], ◌∷◌, pos, Some, None, option_map}
use Rattle.std.specs.Prelude.{IsTrue, is_some}
use Rattle.ess_semantics.specs.declared.words.Key.{Key}
use Rattle.ess_semantics.specs.declared.words.ReprKind.{ReprKind}
use Rattle.ess_semantics.specs.Values.{number}
use Rattle.ess_semantics.specs.Kinds.{has_key, are_atoms, all_fit}
use Rattle.ess_semantics.specs.Domains.{Attribute, Domain, Domains, no_domains, more_domains, tuples, functions, relations, member_list}
use Rattle.ess_semantics.specs.Membership.{no_negative_attribute, each_layer_of_all}
use Rattle.ess_semantics.specs.Sizes.{bound}
use Rattle.ess_semantics.specs.Trees.{Mark, Repr, Reprs, repr, no_reprs, more_reprs, Exs, Dom, Doms, tuple_dom, function_dom, relation_dom}
use Rattle.ess_semantics.specs.Meaning.{Env, meanings, attributes_of, domain_of, domains_of, members_in}
use Rattle.ess_semantics.specs.Meets.{MeetsDom}
use Rattle.ess_semantics.proofs.Tests.{and-left, and-right}
use Rattle.ess_repr_laws.specs.Finite.{FiniteAtoms, Enumerated}
use Rattle.ess_repr_laws.specs.Rooms.{Roomy}
use Rattle.ess_repr_laws.proofs.Enumerables.{IsEnumerated, AreEnumerated, atom-enumerable, tuples-enumerable}
use Rattle.ess_repr_declare_laws.proofs.SizeNumbers.{not_below, mapped, chained}
use Rattle.ess_repr_declare_laws.proofs.SizeMeaning.{bound-is}
use Rattle.ess_repr_declare_laws.proofs.ChildDomainsDenoted.{FunctionOf, function-of}
use Rattle.ess_repr_structure_laws.specs.DomainNumbers.{NumbersIn}
use Rattle.ess_repr_structure_laws.specs.Laws.{JudgedView}
use Rattle.ess_repr_structure_laws.proofs.ReadyParts.{Known, tuples-listed}
use Rattle.ess_repr_structure_laws.proofs.WholeNumbers.{bound-whole}
use Rattle.ess_repr_structure_laws.proofs.JudgedViews.{judged-known}
use Rattle.ess_kinds_kept_laws.specs.FunctionAsks.{BoundSays}
use Rattle.ess_kind_steps_laws.specs.JudgedItems.{JudgedSeen}
use Rattle.ess_kind_steps_laws.proofs.SizesMet.{bound-met}

-- ---- tuples

-- The components are finite atoms.
pub record FiniteTuples (ds : Doms) (env : Env) : Type 0 where
  pub parts : Domains
  pub are_parts : domains_of ds env ≡ Some parts
  pub atoms : are_atoms ds ≡ true
  pub finite : FiniteAtoms parts
  pub plain : each_layer_of_all not_below parts ≡ true

-- So their tuples are listed.
pub tuples-are-members : (ds : Doms) (env : Env) (t : FiniteTuples ds env) →
    members_in (domain_of (tuple_dom ds) env) ≡ Some (member_list (tuples t.parts))
tuples-are-members ds env t = ap (λ o. members_in (option_map tuples o)) t.are_parts ∙ tuples-listed t.parts t.finite

-- They can be.
pub tuples-there : (ds : Doms) (env : Env) → FiniteTuples ds env → IsTrue (is_some (members_in (domain_of (tuple_dom ds) env)))
tuples-there ds env t = ap is_some (tuples-are-members ds env t)

each-enumerated : (xs : Domains) → FiniteAtoms xs → AreEnumerated xs
each-enumerated no_domains h = tt
each-enumerated (more_domains x xs) h = (atom-enumerable x h.0, each-enumerated xs h.1)

-- Each of them is, and they are as many as the bound says.
pub tuples-enumerated : (ds : Doms) (env : Env) (t : FiniteTuples ds env) → IsEnumerated (tuples t.parts)
tuples-enumerated ds env t = tuples-enumerable t.parts (each-enumerated t.parts t.finite)

-- ---- by kinds

-- A kind stands over what its test says.
tested : (c : Dom) (rs : Reprs) (b : Bool) → elim (if b then Some (c ∷ []) else None) [ None ↦ false | Some ds ↦ all_fit rs ds ] ≡ true →
    b ≡ true
tested c rs true h = refl
tested c rs false h = cc

tested-alone : (b : Bool) → elim (if b then Some [] else None) [ None ↦ false | Some ds ↦ all_fit no_reprs ds ] ≡ true → b ≡ true
tested-alone true h = refl
tested-alone false h = cc

-- No attribute of the first domain is below 0 where none of the function is.
first-plain : (ks : List Attribute) (xs : Domains) (y : Domain) → no_negative_attribute (functions ks (tuples xs) y) ≡ true →
    each_layer_of_all not_below xs ≡ true
first-plain ks xs y h =
    and-right (not_below ks) (each_layer_of_all not_below xs)
    (and-left (not_below ks && each_layer_of_all not_below xs) (no_negative_attribute y) h)

-- The arguments of a total function.
pub total-tuples : (r : Repr) (ms : List Mark) (es : Exs) (ds : Doms) (c : Dom) (env : Env) →
    JudgedSeen (repr ReprKind.FunctionND (more_reprs r no_reprs)) (function_dom ms es (tuple_dom ds) c) env → FiniteTuples ds env
total-tuples r ms es ds c env j =
    let v : JudgedView env j.names (repr ReprKind.FunctionND (more_reprs r no_reprs)) (function_dom ms es (tuple_dom ds) c) j.domain =
    j.judged in
    let i : Known env j.names j.differ (repr ReprKind.FunctionND (more_reprs r no_reprs)) (function_dom ms es (tuple_dom ds) c) j.domain =
    judged-known env j.names j.differ (repr ReprKind.FunctionND (more_reprs r no_reprs)) (function_dom ms es (tuple_dom ds) c) j.domain
    j.judged in
    let o : FunctionOf ms es (tuple_dom ds) c env j.domain = function-of ms es (tuple_dom ds) c env j.domain v.denotes in
    let m = mapped tuples (domains_of ds env) o.first o.from in
    let h = subst (Roomy (repr ReprKind.FunctionND (more_reprs r no_reprs)))
    (sym (ap (λ x. functions o.keys x o.second) m.2 ∙ o.whole)) i.room in
    record {
      parts = m.0;
      are_parts = m.1;
      atoms = and-right (has_key Key.Total ms) (are_atoms ds)
          (tested c (more_reprs r no_reprs) (has_key Key.Total ms && are_atoms ds) v.fit);
      finite = h.0;
      plain = first-plain o.keys m.0 o.second (ap no_negative_attribute (ap (λ x. functions o.keys x o.second) m.2 ∙ o.whole) ∙ v.plain);
    }

-- Those of a function with flags.
pub flagged-tuples : (r : Repr) (ms : List Mark) (es : Exs) (ds : Doms) (c : Dom) (env : Env) →
    JudgedSeen (repr ReprKind.FunctionNDPartial (more_reprs r no_reprs)) (function_dom ms es (tuple_dom ds) c) env → FiniteTuples ds env
flagged-tuples r ms es ds c env j =
    let v : JudgedView env j.names (repr ReprKind.FunctionNDPartial (more_reprs r no_reprs)) (function_dom ms es (tuple_dom ds) c)
    j.domain = j.judged in
    let i : Known env j.names j.differ (repr ReprKind.FunctionNDPartial (more_reprs r no_reprs)) (function_dom ms es (tuple_dom ds) c)
    j.domain =
    judged-known env j.names j.differ (repr ReprKind.FunctionNDPartial (more_reprs r no_reprs)) (function_dom ms es (tuple_dom ds) c)
    j.domain j.judged in
    let o : FunctionOf ms es (tuple_dom ds) c env j.domain = function-of ms es (tuple_dom ds) c env j.domain v.denotes in
    let m = mapped tuples (domains_of ds env) o.first o.from in
    let h = subst (Roomy (repr ReprKind.FunctionNDPartial (more_reprs r no_reprs)))
    (sym (ap (λ x. functions o.keys x o.second) m.2 ∙ o.whole)) i.room in
    record {
      parts = m.0;
      are_parts = m.1;
      atoms = tested c (more_reprs r no_reprs) (are_atoms ds) v.fit;
      finite = h.0;
      plain = first-plain o.keys m.0 o.second (ap no_negative_attribute (ap (λ x. functions o.keys x o.second) m.2 ∙ o.whole) ∙ v.plain);
    }

-- Those that a relation may have.
pub relation-tuples : (ms : List Mark) (es : Exs) (ds : Doms) (env : Env) →
    JudgedSeen (repr ReprKind.RelationAsMatrix no_reprs) (relation_dom ms es ds) env → FiniteTuples ds env
relation-tuples ms es ds env j =
    let v : JudgedView env j.names (repr ReprKind.RelationAsMatrix no_reprs) (relation_dom ms es ds) j.domain = j.judged in
    let i : Known env j.names j.differ (repr ReprKind.RelationAsMatrix no_reprs) (relation_dom ms es ds) j.domain =
    judged-known env j.names j.differ (repr ReprKind.RelationAsMatrix no_reprs) (relation_dom ms es ds) j.domain j.judged in
    let c = chained (attributes_of ms (meanings es env)) (λ ks. option_map (relations ks) (domains_of ds env)) j.domain v.denotes in
    let m = mapped (relations c.0) (domains_of ds env) j.domain c.2 in
    record {
      parts = m.0;
      are_parts = m.1;
      atoms = tested-alone (are_atoms ds) v.fit;
      finite = subst (Roomy (repr ReprKind.RelationAsMatrix no_reprs)) (sym m.2) i.room;
      plain = and-right (not_below c.0) (each_layer_of_all not_below m.0) (ap no_negative_attribute m.2 ∙ v.plain);
    }

-- ---- the bound

-- It says how many tuples there are.
pub bound-says : (ds : Doms) (env : Env) (t : FiniteTuples ds env) → NumbersIn (tuple_dom ds) env →
    MeetsDom (tuple_dom ds) env → BoundSays (tuple_dom ds) env
bound-says ds env t n m =
    let i : IsEnumerated (tuples t.parts) = tuples-enumerated ds env t in
    let e : Enumerated (tuples t.parts) = i.enumerated in
    record {
      members = member_list (tuples t.parts);
      are_members = tuples-are-members ds env t;
      says = bound-whole env (tuple_dom ds) n (pos (bound (tuples t.parts)))
          (bound-is env (tuple_dom ds) (tuples t.parts) (ap (option_map tuples) t.are_parts) t.plain)
          ∙ ap (λ z. Some (number (pos z))) (sym e.exact);
      met = bound-met env (tuple_dom ds) m;
    }
