-- A parameter of a header of this tool has its given tables: those of its plans, one behind the other.
use Rattle.std.proofs.Common.{◌≡◌, sym, ap, ◌∙◌, true, List, [], ◌∷◌, Some, option_map}
use Rattle.ess_semantics.specs.Lists.{append_all}
use Rattle.ess_semantics.specs.Trees.{Stm}
use Rattle.ess_semantics.specs.Tables.{Tables}
use Rattle.ess_semantics.specs.Contexts.{Each}
use Rattle.ess_semantics.specs.Assignments.{Assignment}
use Rattle.ess_semantics.specs.Parameters.{Param}
use Rattle.ess_semantics.specs.Plans.{Options, givens_side, Plan, names_of_plan, plans_for, plans, declared_by_plan, name_tables, canonical_by_plan}
use Rattle.conjure_laws.specs.SideBySide.{Along}
use Rattle.conjure_laws.specs.Premises.{is_on, here, Settled, PlanFits, tables_are}
use Rattle.conjure_laws.proofs.Lists.{all-items, in-filter, along-found, along-map, each-along, left-of}
use Rattle.conjure_laws.proofs.NamedTables.{chunks, AsMany, chunks-zip, all-join}
use Rattle.ess_translate_given_laws.specs.Ready.{HasCanonical, GivenTables}
use Rattle.ess_translate_given_laws.specs.Laws.{GivenTablesAreThere}
use Rattle.ess_translate_given_laws.proofs.ChosenReprs.{header-plans-fit}
use Rattle.ess_translate_given_laws.proofs.GivenPlans.{PlanTables, plan-tables}

-- The tables of several plans, by their names, are what the plans have.
canonical-chunks : (S : List Stm) (p : Assignment) (Ps : List Plan) (tss : List Tables) → Along Ps tss (PlanTables S p) →
    Along Ps (chunks Ps tss) (λ P c. canonical_by_plan (here S p) p P ≡ Some c)
canonical-chunks S p [] [] h = tt
canonical-chunks S p (P ∷ Ps) (ts ∷ tss) h = let t = h.0 in (t.canonical, canonical-chunks S p Ps tss h.1)
canonical-chunks S p [] (ts ∷ tss) h = absurd h
canonical-chunks S p (P ∷ Ps) [] h = absurd h

-- At a specification whose plans fit.
pub tables-there : (S : List Stm) (o : Options) → Settled S → Each (plans S o) (PlanFits S) → (p : Assignment) → Param S p →
    GivenTables S o p
tables-there S o s f p P =
    let Gs : List Plan = plans_for givens_side S o in
    let t = along-found Gs (PlanTables S p) (all-items (λ Q. (ts : Tables) × PlanTables S p Q ts) Gs
    (λ Q i. let j = in-filter (is_on givens_side) Q (plans S o) i in plan-tables S o s f p P Q j.0 j.1)) in
    let c = canonical-chunks S p Gs t.0 t.1 in record {
      tables = append_all t.0;
      there =
          ap (option_map append_all) (each-along (canonical_by_plan (here S p) p) Gs (chunks Gs t.0) c)
          ∙ ap (λ q. Some q) (sym (chunks-zip Gs t.0 (along-map Gs t.0 (PlanTables S p) AsMany (λ Q ts m. m.long) t.1)));
      declared =
          all-join (declared_by_plan (here S p)) Gs t.0
          (along-map Gs t.0 (PlanTables S p) (λ Q ts. tables_are (declared_by_plan (here S p) Q) ts ≡ true) (λ Q ts m. m.declared) t.1);
      each =
          left-of Gs t.0 (HasCanonical S p) (PlanTables S p) (λ Q ts m. (name_tables (names_of_plan Q) ts, m.canonical)) t.1;
    }

-- Each parameter of a header of this tool has its given tables.
pub given-tables-there : GivenTablesAreThere
given-tables-there H p h R P =
    tables-there H.statements H.reprs R.settled (header-plans-fit H.statements H.reprs h.typed h.represented R) p P
