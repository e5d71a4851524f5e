-- Each plan fits where each given and find has representations that fit its domain.
use Rattle.std.proofs.Common.{◌≡◌, sym, ap, ◌∙◌, true, List, [], ◌∷◌, ◌++◌, map, Some, codes, option_map}
use Rattle.ess_semantics.specs.Lists.{append_all}
use Rattle.ess_semantics.specs.Values.{Text}
use Rattle.ess_semantics.specs.Names.{keys, without, all_distinct}
use Rattle.ess_semantics.specs.Trees.{Repr, Dom, Stm, given, given_enum, let_ex, let_dom, let_enum, let_unnamed, needs, find, such_that, minimise, maximise}
use Rattle.ess_semantics.specs.Domains.{Domain}
use Rattle.ess_semantics.specs.Kinds.{fits}
use Rattle.ess_semantics.specs.Contexts.{Each}
use Rattle.ess_semantics.specs.TableNames.{table_names, named_tables}
use Rattle.ess_semantics.specs.Meaning.{domain_of}
use Rattle.ess_semantics.specs.Positions.{domain_with_positions}
use Rattle.ess_semantics.specs.Assignments.{Assignment}
use Rattle.ess_semantics.specs.Prepared.{prepared}
use Rattle.ess_semantics.specs.Parameters.{Param, all_declared}
use Rattle.ess_semantics.specs.Judgements.{is_well_typed}
use Rattle.ess_semantics.specs.Plans.{Options, chosen_reprs, domain_of_stm, Side, givens_side, finds_side, value_plan, plans_of_name, plans_of_stm, plans_from, plans, kept_names}
use Rattle.ess_semantics.specs.ChosenOptions.{OptionsFit}
use Rattle.ess_repr_laws.specs.TypedDomains.{Typed, has_plain_relations}
use Rattle.ess_repr_laws.specs.Laws.{Fitting}
use Rattle.ess_repr_laws.proofs.DenotedTypes.{denoted-typed}
use Rattle.ess_repr_laws.proofs.MembersHaveTables.{roomy-covered}
use Rattle.ess_repr_laws.proofs.PlanDomains.{plan-roomy}
use Rattle.conjure_laws.specs.Premises.{here, PlanFits}
use Rattle.conjure_laws.specs.Fields.{HasFields, HasItsFields, PlainMarks, NameFits, WellKept}
use Rattle.conjure_laws.proofs.Lists.{each-append, each-map, each-both}
use Rattle.conjure_laws.proofs.ChosenFit.{options-fit}
use Rattle.conjure_laws.proofs.JudgedNames.{IsRight, judged-right}
use Rattle.conjure_laws.proofs.JudgedDistinct.{kept-distinct}
use Rattle.conjure_laws.proofs.WrittenFields.{written-fields}
use Rattle.conjure_laws.proofs.PlainRelations.{denoted-plain}
use Rattle.conjure_laws.proofs.TableCounts.{names-wide, named-long, declared-long}

-- What is typed at each parameter.
abbrev TypedAt : List Stm → Dom → Type 0
TypedAt S d = (p : Assignment) (e : Domain) → Param S p → domain_of d (here S p) ≡ Some e → Typed e

-- A domain with plain relations is typed, whatever the parameter.
pub plain-typed : (S : List Stm) (r : Repr) (d : Dom) → Fitting r d →
    ((p : Assignment) (e : Domain) → Param S p → domain_of d (here S p) ≡ Some e → has_plain_relations e ≡ true) → TypedAt S d
plain-typed S r d f h p e P q = denoted-typed d (here S p) e f.well q (h p e P q)

-- A plan fits where its representation does.
plan-fits : (S : List Stm) (f : Side) (x : Text) (r : Repr) (d : Dom) (taken : List Text) → Fitting r d → HasFields d → TypedAt S d →
    PlanFits S (value_plan f x r d (named_tables x (table_names r d) taken))
plan-fits S f x r d taken g h t p e P q =
    let room = plan-roomy r d (here S p) (domain_with_positions e) g.well g.known g.fit (ap (option_map domain_with_positions) q) in
    let a = named-long x (table_names r d) taken ∙ names-wide r d h g.fit in
    let b = declared-long r (domain_with_positions e) (roomy-covered r (domain_with_positions e) room) in
    (record { typed = t p e P q; roomy = room }, a ∙ sym b)

name-fits : (S : List Stm) (f : Side) (x : Text) (d : Dom) (rs : List Repr) (taken : List Text) → Each rs (λ r. Fitting r d) →
    HasFields d → TypedAt S d → Each (plans_of_name f x d rs taken) (PlanFits S)
name-fits S f x d [] taken g h t = tt
name-fits S f x d (r ∷ rs) taken g h t = (
  plan-fits S f x r d taken g.0 h t,
  name-fits S f x d rs (keys (named_tables x (table_names r d) taken) ++ taken) g.1 h t,
)

abbrev NamesFit : List Stm → Options → List (Text × Dom) → Type 0
NamesFit S o xs = Each xs (λ x. NameFits S o x.0 x.1)

-- statement by statement
from-fits : (S : List Stm) (o : Options) (ss : List Stm) (declared done : List Text) →
    NamesFit S o (append_all (map domain_of_stm ss)) → Each (plans_from ss o declared done) (PlanFits S)
from-fits S o [] declared done h = tt
from-fits S o (given x d ∷ ss) declared done h =
    let n = h.0 in
    each-append (PlanFits S) (plans_of_stm (given x d) o declared done) _
    (name-fits S givens_side x d (chosen_reprs o x d) (without x declared ++ done) n.fitting n.fields n.typed)
    (from-fits S o ss declared _ h.1)
from-fits S o (find x d ∷ ss) declared done h =
    let n = h.0 in
    each-append (PlanFits S) (plans_of_stm (find x d) o declared done) _
    (name-fits S finds_side x d (chosen_reprs o x d) (without x declared ++ done) n.fitting n.fields n.typed)
    (from-fits S o ss declared _ h.1)
from-fits S o (given_enum t ∷ ss) declared done h = (tt, from-fits S o ss declared _ h)
from-fits S o (let_ex x e ∷ ss) declared done h = from-fits S o ss declared done h
from-fits S o (let_dom x d ∷ ss) declared done h = from-fits S o ss declared done h
from-fits S o (let_enum t ns ∷ ss) declared done h = from-fits S o ss declared done h
from-fits S o (let_unnamed t e ∷ ss) declared done h = from-fits S o ss declared done h
from-fits S o (needs e ∷ ss) declared done h = from-fits S o ss declared done h
from-fits S o (such_that e ∷ ss) declared done h = from-fits S o ss declared done h
from-fits S o (minimise e ∷ ss) declared done h = from-fits S o ss declared done h
from-fits S o (maximise e ∷ ss) declared done h = from-fits S o ss declared done h

-- Each plan fits where each name does.
pub plans-fit : (S : List Stm) (o : Options) → NamesFit S o (kept_names S) → Each (plans S o) (PlanFits S)
plans-fit S o h = from-fits S o (prepared S) (all_declared S) (codes "alldifferent_except" ∷ []) h

-- They do where options fit and domains are well formed.
pub well-kept : (S : List Stm) (o : Options) → OptionsFit S o → all_distinct (keys (kept_names S)) ≡ true →
    Each (kept_names S) (λ x. WellKept S x.1) → Each (plans S o) (PlanFits S)
well-kept S o h k ws = plans-fit S o (each-both (kept_names S) (λ x. Each (chosen_reprs o x.0 x.1) (λ r. fits r x.1 ≡ true))
    (λ x. WellKept S x.1) (λ x. NameFits S o x.0 x.1) one (options-fit S o h k) ws)
  where
    one : (x : Text × Dom) → Each (chosen_reprs o x.0 x.1) (λ r. fits r x.1 ≡ true) → WellKept S x.1 → NameFits S o x.0 x.1
    one x f w = record {
      fitting = each-map (chosen_reprs o x.0 x.1) (λ r. fits r x.1 ≡ true) (λ r. Fitting r x.1)
          (λ r g. record { well = w.well; known = w.known; fit = g })
          f;
      fields = w.fields;
      typed = w.typed;
    }

-- What the judgements don't say of a domain.
abbrev Complete : List Stm → Text × Dom → Type 0
Complete S x = HasFields x.1 × TypedAt S x.1

-- The plans of a well typed specification fit, where its records have their fields and its domains are typed.
pub well-typed-plans : (S : List Stm) (o : Options) → is_well_typed S ≡ true → OptionsFit S o → Each S HasItsFields →
    Each (kept_names S) (λ x. TypedAt S x.1) → Each (plans S o) (PlanFits S)
well-typed-plans S o e h f t = well-kept S o h (kept-distinct S e) (each-both (kept_names S) IsRight (Complete S) (λ x. WellKept S x.1)
    (λ x r c. record { well = r.0; known = r.1; fields = c.0; typed = c.1 })
    (judged-right S e)
    (each-both (kept_names S) (λ x. HasFields x.1) (λ x. TypedAt S x.1) (Complete S) (λ x c u. (c, u)) (written-fields S f) t))

-- Domains are typed where no relation has an attribute without a number.
pub plain-plans : (S : List Stm) (o : Options) → is_well_typed S ≡ true → OptionsFit S o → Each S HasItsFields →
    Each (kept_names S) (λ x. PlainMarks x.1) → Each (plans S o) (PlanFits S)
plain-plans S o e h f m = well-typed-plans S o e h f
    (each-both (kept_names S) IsRight (λ x. PlainMarks x.1) (λ x. TypedAt S x.1)
    (λ x r m p e P q. denoted-typed x.1 (here S p) e r.0 q (denoted-plain x.1 (here S p) e m q))
    (judged-right S e)
    m)
