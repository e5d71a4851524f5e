-- The child as which a view of a judged domain is kept stands for a member of its domain, where tables are canonical.
use Rattle.std.proofs.Common.{◌≡◌, refl, sym, ap, ◌∙◌, subst, List, [], ◌∷◌, Option, Some, None, option_map}
use Rattle.ess_semantics.specs.declared.words.ReprKind.{ReprKind}
use Rattle.ess_semantics.specs.Lists.{and_then, each_of}
use Rattle.ess_semantics.specs.Values.{Text}
use Rattle.ess_semantics.specs.Trees.{Repr, repr, no_reprs, more_reprs, Ex, Exs, seen_ex, Dom, function_dom, relation_dom, partition_dom}
use Rattle.ess_semantics.specs.Domains.{Domain, functions, relations, partitions}
use Rattle.ess_semantics.specs.Layers.{Layer}
use Rattle.ess_semantics.specs.Membership.{no_negative_attribute}
use Rattle.ess_semantics.specs.Representations.{layer}
use Rattle.ess_semantics.specs.Sizes.{child_relation, child_set, child_parts}
use Rattle.ess_semantics.specs.Meaning.{Env, meanings, attributes_of, domain_of, domains_of}
use Rattle.ess_semantics.specs.Meets.{Meets, MeetsDom}
use Rattle.ess_repr_laws.specs.Rooms.{Covered, Roomy}
use Rattle.ess_repr_laws.specs.StructureParts.{tuple_set_dom}
use Rattle.ess_repr_laws.specs.ViewParts.{pair_relation_dom, part_set_dom}
use Rattle.ess_repr_laws.proofs.MembersHaveTables.{roomy-covered}
use Rattle.ess_repr_declare_laws.specs.SizeTerms.{size_terms}
use Rattle.ess_repr_declare_laws.specs.Laws.{Sound}
use Rattle.ess_repr_declare_laws.proofs.ChildDomainsDenoted.{pairs-are-denoted, tuples-are-denoted, parts-are-denoted}
use Rattle.ess_repr_declare_laws.proofs.ChildSizes.{Whole}
use Rattle.ess_repr_structure_laws.specs.Laws.{JudgedView}
use Rattle.ess_repr_structure_laws.proofs.ReadyParts.{Known}
use Rattle.ess_repr_structure_laws.proofs.JudgedViews.{judged-known}
use Rattle.ess_views_laws.specs.ChildViews.{kept_as}
use Rattle.ess_views_kept_laws.specs.ChildrenKept.{ChildDenoted, ChildKnown, KnownChild}
use Rattle.ess_views_kept_laws.proofs.ChildViews.{relation-parts, function-parts, partition-parts}
use Rattle.ess_kinds_kept_laws.specs.CanonicalChildren.{IsCovered, IsCanonical}
use Rattle.ess_kinds_kept_laws.proofs.CanonicalChildren.{canonical-children}
use Rattle.ess_kind_steps_laws.specs.JudgedItems.{IsJudged}
use Rattle.ess_kind_views_laws.proofs.ChildrenMet.{tuples-met, pairs-met, parts-met}

some-same : {A : Type 0} (o : Option A) (x y : A) → o ≡ Some x → o ≡ Some y → x ≡ y
some-same o x y h k = let q : Some x ≡ Some y = sym h ∙ k in cc

-- Of an only domain.
one-of : (o : Option Domain) → option_map (λ x. x ∷ []) o ≡ and_then o (λ y. Some (y ∷ []))
one-of None = refl
one-of (Some x) = refl

one-is : (o : Option Domain) (x : Domain) → and_then o (λ y. Some (y ∷ [])) ≡ Some (x ∷ []) → o ≡ Some x
one-is None x q = cc
one-is (Some y) x q = ap first_or q
  where
    first_or : Option (List Domain) → Option Domain
    first_or (Some (z ∷ zs)) = Some z
    first_or o = None

-- A view of a domain that denotes D, kept as its only child, whose domain denotes C.
module _ (k : ReprKind) (r : Repr) (pd cd : Dom) (ns : List Text) (js : Exs) (env : Env) where
  abbrev Whole-view : Ex
  Whole-view = seen_ex (repr k (more_reprs r no_reprs)) pd ns js

  abbrev Child : Ex
  Child = seen_ex r cd ns js

  known : (D C : Domain) (l : Layer) → kept_as Whole-view ≡ Some Child → domain_of pd env ≡ Some D → layer k D ≡ Some l →
      l.children ≡ C ∷ [] → each_of (cd ∷ []) (λ c. domain_of c env) ≡ Some l.children → Covered r C → MeetsDom cd env →
      IsCanonical Whole-view env → ChildKnown Whole-view Child env
  known D C l kept dq lq cq eq cov met can = canonical-children.are_known Whole-view Child kept env denoted covered can
    where
      child-is : domain_of cd env ≡ Some C
      child-is = one-is (domain_of cd env) C (eq ∙ ap Some cq)

      denoted : ChildDenoted Whole-view Child env
      denoted = one-of (domain_of cd env) ∙ eq
          ∙ sym (ap (λ o. and_then o (λ e. option_map (λ l. l.children) (layer k e))) dq ∙ ap (option_map (λ l. l.children)) lq)

      covered : IsCovered Child env
      covered = (λ x h. subst (Covered r) (some-same (domain_of cd env) C x child-is h) cov, met)

-- ---- the three kinds

abbrev KnownAnswer : Option Ex → Ex → Env → Type 0
KnownAnswer None e env = Unit {0}
KnownAnswer (Some c) e env = IsJudged e env → IsCanonical e env → Meets e env → ChildKnown e c env

known-answer : (e : Ex) (env : Env) → KnownAnswer (kept_as e) e env
known-answer (seen_ex (repr ReprKind.RelationAsSet (more_reprs r no_reprs)) (relation_dom ms es ds) ns js) env = λ j can m.
    let v : JudgedView env j.names (repr ReprKind.RelationAsSet (more_reprs r no_reprs)) (relation_dom ms es ds) j.domain = j.judged in
    let i : Known env j.names j.differ (repr ReprKind.RelationAsSet (more_reprs r no_reprs)) (relation_dom ms es ds) j.domain =
    judged-known env j.names j.differ (repr ReprKind.RelationAsSet (more_reprs r no_reprs)) (relation_dom ms es ds) j.domain j.judged in
    let p = relation-parts (attributes_of ms (meanings es env)) (domains_of ds env) j.domain v.denotes in
    let dq : domain_of (relation_dom ms es ds) env ≡ Some (relations p.0 p.1) = v.denotes ∙ ap Some p.2 in
    let room = subst (Roomy (repr ReprKind.RelationAsSet (more_reprs r no_reprs))) p.2 i.room in
    known ReprKind.RelationAsSet r (relation_dom ms es ds) (tuple_set_dom ms es ds) ns js env (relations p.0 p.1) (child_set p.0 p.1) _
    refl dq refl refl
    (tuples-are-denoted ms es ds env (relations p.0 p.1) _ dq refl (ap no_negative_attribute (sym p.2) ∙ v.plain))
    (roomy-covered r (child_set p.0 p.1) room) (tuples-met env ms es ds m.1) can
known-answer (seen_ex (repr ReprKind.FunctionAsRelation (more_reprs r no_reprs)) (function_dom ms es d c) ns js) env = λ j can m.
    let v : JudgedView env j.names (repr ReprKind.FunctionAsRelation (more_reprs r no_reprs)) (function_dom ms es d c) j.domain = j.judged in
    let i : Known env j.names j.differ (repr ReprKind.FunctionAsRelation (more_reprs r no_reprs)) (function_dom ms es d c) j.domain =
    judged-known env j.names j.differ (repr ReprKind.FunctionAsRelation (more_reprs r no_reprs)) (function_dom ms es d c) j.domain
    j.judged in
    let s : Sound (function_dom ms es d c) = i.sound in
    let w : Whole ms es = record { right = s.0; full = s.1 } in
    let p = function-parts (attributes_of ms (meanings es env)) (domain_of d env) (domain_of c env) j.domain v.denotes in
    let dq : domain_of (function_dom ms es d c) env ≡ Some (functions p.0 p.1 p.2) = v.denotes ∙ ap Some p.3 in
    let room = subst (Roomy (repr ReprKind.FunctionAsRelation (more_reprs r no_reprs))) p.3 i.room in
    known ReprKind.FunctionAsRelation r (function_dom ms es d c) (pair_relation_dom size_terms ms es d c) ns js env
    (functions p.0 p.1 p.2) (child_relation p.0 p.1 p.2) _ refl dq refl refl
    (pairs-are-denoted ms es d c w env (functions p.0 p.1 p.2) _ dq refl (ap no_negative_attribute (sym p.3) ∙ v.plain))
    (roomy-covered r (child_relation p.0 p.1 p.2) room.1) (pairs-met env ms es d c m.1) can
known-answer (seen_ex (repr ReprKind.PartitionAsSet (more_reprs r no_reprs)) (partition_dom ms es d) ns js) env = λ j can m.
    let v : JudgedView env j.names (repr ReprKind.PartitionAsSet (more_reprs r no_reprs)) (partition_dom ms es d) j.domain = j.judged in
    let i : Known env j.names j.differ (repr ReprKind.PartitionAsSet (more_reprs r no_reprs)) (partition_dom ms es d) j.domain =
    judged-known env j.names j.differ (repr ReprKind.PartitionAsSet (more_reprs r no_reprs)) (partition_dom ms es d) j.domain j.judged in
    let s : Sound (partition_dom ms es d) = i.sound in
    let w : Whole ms es = record { right = s.0; full = s.1 } in
    let p = partition-parts (attributes_of ms (meanings es env)) (domain_of d env) j.domain v.denotes in
    let dq : domain_of (partition_dom ms es d) env ≡ Some (partitions p.0 p.1) = v.denotes ∙ ap Some p.2 in
    let room = subst (Roomy (repr ReprKind.PartitionAsSet (more_reprs r no_reprs))) p.2 i.room in
    known ReprKind.PartitionAsSet r (partition_dom ms es d) (part_set_dom size_terms ms es d) ns js env (partitions p.0 p.1)
    (child_parts p.0 p.1) _ refl dq refl refl
    (parts-are-denoted ms es d w env (partitions p.0 p.1) _ dq refl (ap no_negative_attribute (sym p.2) ∙ v.plain))
    (roomy-covered r (child_parts p.0 p.1) room.1) (parts-met env ms es d m.1) can
known-answer _ env = tt

-- So it is of the child of any view.
pub known-child : (e : Ex) (env : Env) → IsJudged e env → IsCanonical e env → Meets e env → KnownChild e env
known-child e env j can m c q = subst (λ o. KnownAnswer o e env) q (known-answer e env) j can m
