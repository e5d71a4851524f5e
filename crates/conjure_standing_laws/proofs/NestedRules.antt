-- The rules that are written for a nested set: what is asked of its tables is a bare tree that says that they are canonical; rules lead
-- to a bare tree that says the same; and what is written for that one says it over the tables of the model.
use Rattle.std.proofs.Common.{◌≡◌, refl, sym, ap, ◌∙◌, subst, ℕ, suc, ◌+◌, ◌≤◌, ◌<◌, ◌^◌, Bool, true, false, ◌&&◌, if◌then◌else◌, List, [], ◌∷◌, ◌++◌, length, ℤ, Option, Some, None, arith}
use Rattle.std.specs.List.{list_all, list_any}
use Rattle.ess_semantics.specs.Order.{same_int}
use Rattle.ess_semantics.specs.Values.{Text, truth}
use Rattle.ess_semantics.specs.Names.{Names, keys}
use Rattle.ess_semantics.specs.Trees.{Repr, Ex, truth_ex, Dom, Stm}
use Rattle.ess_semantics.specs.Domains.{Domain}
use Rattle.ess_semantics.specs.Contexts.{Each}
use Rattle.ess_semantics.specs.Constants.{constants_of}
use Rattle.ess_semantics.specs.Occurrences.{parts_of}
use Rattle.ess_semantics.specs.Tables.{Table, Tables}
use Rattle.ess_semantics.specs.Cells.{cells_of}
use Rattle.ess_semantics.specs.CanonicalTest.{canonical}
use Rattle.ess_semantics.specs.Meaning.{is_true as truth_of}
use Rattle.ess_semantics.specs.TableNames.{Named}
use Rattle.ess_semantics.specs.Judgements.{fault}
use Rattle.ess_semantics.specs.Assignments.{Assignment}
use Rattle.ess_semantics.specs.Plans.{Options, finds_side, value_plan}
use Rattle.ess_semantics.specs.ModelTrees.{Model, all_decls}
use Rattle.ess_semantics.specs.Satisfaction.{tables_fit, rule_holds}
use Rattle.ess_grammar.specs.Models.{Scope}
use Rattle.conjure_laws.specs.Premises.{Ground, Instance, TablesOf}
use Rattle.conjure_laws.specs.ModelPremises.{StructureMeans, spelled}
use Rattle.conjure_laws.specs.Views.{over_tables}
use Rattle.conjure_model_laws.specs.Shown.{domain_shown, shows_of}
use Rattle.conjure_model_laws.specs.Printed.{binders}
use Rattle.conjure_model_laws.specs.ToldApart.{told}
use Rattle.conjure_modelling.specs.ess_rules.Ruled.{IsRuled}
use Rattle.conjure_modelling.specs.ess_refine.Chains.{Leads}
use Rattle.conjure_modelling.specs.ess_model_trees.Written.{written_for, ComesFrom}
use Rattle.conjure_modelling.specs.ess_model_finds.Finds.{is_atom, asked_of}
use Rattle.conjure_modelling.specs.ess_model_written.RulesWritten.{TreeComes, is_true, unless_true}
use Rattle.ess_nested_laws.proofs.NestedForms.{NestedSet, of_atoms, of_sets, KeptAs, as_atom, by_occurrence, with_a_dummy, in_slots, with_a_marker, with_flags, nested-form, kept-form}
use Rattle.ess_seen_values_laws.specs.ess_bare_structures_laws.Laws.{structure_from, told_structure, IsNestedView, none, StructureIsBare, NestedStructuresAreBare}
use Rattle.ess_bare_written_laws.specs.Laws.{IsReady, BareTreesAreWritten}
use Rattle.conjure_standing_laws.specs.BareLaws.{StaysBare, BareTreesStayBare}
use Rattle.conjure_standing_laws.specs.NestedFinds.{IsNestedFind, DeclaresNested}
use Rattle.conjure_standing_laws.specs.NestedLaws.{NestedRulesStand}
use Rattle.conjure_standing_laws.proofs.ShownNested.{nested-domains-stay}
use Rattle.conjure_standing_laws.proofs.FoundNested.{declared_cells, cells-declared, tables-marked, nested-found}

-- ---- what is asked

not-atom : {r : Repr} {d : Dom} → NestedSet d → KeptAs r d → is_atom r ≡ false
not-atom (of_atoms s a) (as_atom x) = elim x [ ]
not-atom (of_sets s n) (as_atom x) = elim x [ ]
not-atom (of_sets s n) (with_a_dummy u) = elim n [ ]
not-atom (of_atoms s a) (by_occurrence u b) = refl
not-atom (of_atoms s a) (with_a_dummy u) = refl
not-atom (of_atoms s a) (in_slots u k w) = refl
not-atom (of_atoms s a) (with_a_marker u w) = refl
not-atom (of_atoms s a) (with_flags u w) = refl
not-atom (of_sets s n) (by_occurrence u b) = refl
not-atom (of_sets s n) (in_slots u k w) = refl
not-atom (of_sets s n) (with_a_marker u w) = refl
not-atom (of_sets s n) (with_flags u w) = refl

-- What is asked of the tables of a nested set.
pub asked-is : (S : List Stm) (o : Options) (x : Text) (r : Repr) (d : Dom) (ns : List Named) → fault S ≡ None → IsNestedFind S o x r d ns →
    asked_of (shows_of S o) (value_plan finds_side x r d ns) ≡ structure_from r d (keys ns) (shows_of S o).next
asked-is S o x r d ns f w =
    let n = nested-form 250 d w.nested in
    ap (λ b. if b then truth_ex true
    else structure_from r (domain_shown (shows_of S o) (value_plan finds_side x r d ns)) (keys ns) (shows_of S o).next)
    (not-atom n (kept-form 250 r d w.nested w.fit))
    ∙ ap (λ z. structure_from r z (keys ns) (shows_of S o).next) (nested-domains-stay S o x r d ns f w)

-- ---- one rule, or none

-- Where `true` passes a test, so many rules pass it as one does.
unless-same : (g : Ex → Bool) (w : Ex) → g (truth_ex true) ≡ true → list_all g (unless_true w) ≡ g w
unless-same g w t = go (is_true w) refl
  where
    and-true : (b : Bool) → b && true ≡ b
    and-true true = refl
    and-true false = refl

    is-truth : (e : Ex) → is_true e ≡ true → e ≡ truth_ex true
    is-truth (truth_ex b) h = ap truth_ex h
    is-truth e h = cc

    go : (b : Bool) → is_true w ≡ b → list_all g (if b then [] else (w ∷ [])) ≡ g w
    go true q = sym (ap g (is-truth w q) ∙ t)
    go false q = and-true (g w)

unless-each : (P : Ex → Type 0) (w : Ex) → P w → Each (unless_true w) P
unless-each P w h = go (is_true w)
  where
    go : (b : Bool) → Each (if b then [] else (w ∷ [])) P
    go true = tt
    go false = (h, tt)

as-said : (b : Bool) → truth_of (Some (truth b)) ≡ b
as-said true = refl
as-said false = refl

few-names : (b c l : ℕ) → b ≤ c → c ≤ 2 ^ 27 → l ≤ 2 ^ 62 → suc (b + l) < 2 ^ 64
few-names b c l p q r = omega (arith, p, q, r)

-- ---- the rules

module _ (stay : BareTreesStayBare) (structures : NestedStructuresAreBare) (written : BareTreesAreWritten) where
  module _ (S : List Stm) (o : Options) (E : Model) (x : Text) (r : Repr) (d : Dom) (ns : List Named) (f : fault S ≡ None) (L : Ground S o)
      (w : IsNestedFind S o x r d ns) (k : DeclaresNested S o E r d ns) (low : (shows_of S o).next ≤ 2 ^ 62)
      (taken : List Text) (few : length taken ≤ 2 ^ 62) where
    abbrev n : ℕ
    n = (shows_of S o).next

    abbrev cells : Text → Option (Bool × ℕ)
    cells = declared_cells (all_decls E)

    abbrev old : Ex
    old = told_structure r d (keys ns) n

    view : IsNestedView cells r d (keys ns) n
    view = record {
      nested = w.nested;
      fit = w.fit;
      named = w.named;
      low = low;
      marked = tables-marked (all_decls E) r d (keys ns) k.tables;
    }

    asked : StructureIsBare cells r d (keys ns) n
    asked = structures cells r d (keys ns) n view

    module _ (m j : ℕ) (last : Ex) (leads : Leads IsRuled m [] old last j) where
      stays : StaysBare cells old last true
      stays = stay cells m j old last true asked.bare leads

      ready : IsReady cells taken last true
      ready = record {
        bare = stays.bare;
        unbound = none;
        around = none;
        ranging = none;
        scoped = stays.scoped none none none asked.scoped;
        few = few-names (binders last) (binders old) (length taken) stays.binds asked.few few;
      }

      -- The rule is true over the tables where these are canonical.
      means : (p : Assignment) (q c : Names Table) (e : Domain) (ts : Tables) → Instance S o p q →
          tables_fit (all_decls E) q E.finds c ≡ true → TablesOf S p c r d ns e ts →
          rule_holds E q c (written_for taken last) ≡ canonical r e (cells_of ts)
      means p q c e ts I fit T =
          let env = over_tables S p (q ++ c) in
          let found = nested-found S o E L k.finds p q c I fit r d ns e ts (nested-form 250 d w.nested) T in
          ap truth_of (written.value cells taken last true ready (all_decls E) (cells-declared (all_decls E)) (q ++ c) env refl
          ∙ sym (stays.kept env (asked.valued env e ts found)).0
          ∙ asked.means env e ts found)
          ∙ as-said (canonical r e (cells_of ts))

      abbrev isc : ℤ → Bool
      isc z = list_any (same_int z) (constants_of S)

      -- It spells constants of the specification.
      spells : spelled S (parts_of (written_for taken last)) ≡ true
      spells =
          written.spells cells taken last true ready isc refl refl (stays.spells isc (asked.spells isc refl refl refl w.spelled))

    -- What comes of what is asked of the tables.
    rules : (s : Scope) (e : Ex) → ComesFrom s taken (told (structure_from r d (keys ns) n) [] n).1 old (Some e) →
        StructureMeans S o E (value_plan finds_side x r d ns) (unless_true e) × Each (unless_true e) (λ e. spelled S (parts_of e) ≡ true)
    rules s e c =
        let z = c.1.0 in (
          λ p q t D ts I fit T. unless-same (rule_holds E q t) e refl ∙ ap (rule_holds E q t) z.writes
              ∙ means (told (structure_from r d (keys ns) n) [] n).1 c.0 z.last z.leads p q t D ts I fit T,
          unless-each (λ e. spelled S (parts_of e) ≡ true) e
              (subst (λ e. spelled S (parts_of e) ≡ true) (sym z.writes)
              (spells (told (structure_from r d (keys ns) n) [] n).1 c.0 z.last z.leads)),
        )

  -- The rules that are written for a nested set.
  pub nested-rules-by : NestedRulesStand
  nested-rules-by S o E x r d ns f L w k low taken few s e c =
      rules S o E x r d ns f L w k low taken few s e
      (subst (λ t. TreeComes s taken (shows_of S o).next t (Some e)) (asked-is S o x r d ns f w) c)
