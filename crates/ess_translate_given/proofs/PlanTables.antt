-- The tables of one plan.
use Rattle.std.proofs.Common.{◌≡◌, refl, sym, ap, ◌∙◌, true, List, [], ◌∷◌, ◌++◌, map, length, pos, Option, Some, None, option_map, subst, append-nil}
use Rattle.ess_semantics.specs.Lists.{and_then}
use Rattle.ess_semantics.specs.Values.{Text, Value}
use Rattle.ess_semantics.specs.Names.{Names, look}
use Rattle.ess_semantics.specs.Trees.{Repr, Dom}
use Rattle.ess_semantics.specs.Domains.{Domain}
use Rattle.ess_semantics.specs.Membership.{member}
use Rattle.ess_semantics.specs.Tables.{Table, Tables, one_cell}
use Rattle.ess_semantics.specs.TableNames.{Named}
use Rattle.ess_semantics.specs.Canonical.{tables_of_value}
use Rattle.ess_semantics.specs.Positions.{with_positions, domain_with_positions}
use Rattle.ess_semantics.specs.Meaning.{Env, domain_of}
use Rattle.ess_semantics.specs.Assignments.{Assignment, value_of}
use Rattle.ess_semantics.specs.Plans as pure
use Rattle.ess_semantics.specs.Plans.{givens_side, size_plan, value_plan, name_tables}
use Rattle.ess_core.specs.declared.tables.NamedTable.{NamedTable}
use Rattle.ess_core.specs.TableViews.{pure_named_table}
use Rattle.ess_core.specs.TreeViews.{pure_repr, pure_dom}
use Rattle.ess_repr_laws.specs.Rooms.{Roomy}
use Rattle.ess_translate_given_laws.specs.ByPlans.{tables_on, tables_by_plans}
use Rattle.ess_translate_plans.specs.declared.plans.Side.{Side}
use Rattle.ess_translate_plans.specs.declared.plans.ValuePlan.{ValuePlan}
use Rattle.ess_translate_plans.specs.Views.{pure_side, pure_table_name, pure_value_plan}
use Rattle.ess_translate_given.specs.ReadyPlans.{HasRoom, PlansReady}
use Rattle.ess_translate_given.specs.TablesBehind.{IsTable}

-- The tables of a plan that stands alone.
alone : {A : Type 0} (o p : Option (List A)) → o ≡ p → o ≡ and_then p (λ c. option_map (λ d. c ++ d) (Some []))
alone o None e = e
alone o (Some y) e = e ∙ ap Some (sym (append-nil y))

-- ---- a given enumerated type

pub size_there : (a : Assignment) (t n : Text) (ns : List Text) (o : Option Domain) (r : List NamedTable) → Some ns ≡ look a.types t →
    map pure_named_table r ≡ (n, one_cell (pos (length ns))) ∷ [] → IsTable a (size_plan t n) o (Some r)
size_there a t n ns o r h e = record {
  are = λ env ready. alone (Some (map pure_named_table r)) (tables_on givens_side env a (size_plan t n))
      (ap Some e ∙ ap (option_map (λ l. (n, one_cell (pos (length l))) ∷ [])) h);
}

pub size_not : (a : Assignment) (t n : Text) (o : Option Domain) → None ≡ look a.types t → IsTable a (size_plan t n) o None
size_not a t n o h = record {
  are = λ env ready. alone None (tables_on givens_side env a (size_plan t n)) (ap (option_map (λ l. (n, one_cell (pos (length l))) ∷ [])) h);
}

-- ---- a find

pub find_none : (a : Assignment) (v : ValuePlan) (o : Option Domain) (r : List NamedTable) → v.side ≡ Side.Finds → r ≡ [] →
    IsTable a (pure_value_plan v) o (Some r)
find_none a v o r s e = record {
  are = λ env ready. ap (λ l. Some (map pure_named_table l)) e
      ∙ ap (λ f. tables_by_plans givens_side env a
      (value_plan (pure_side f) v.name (pure_repr v.tree) (pure_dom v.dom) (map pure_table_name v.tables) ∷ [])) (sym s);
}

-- ---- a given

module _ (a : Assignment) (x : Text) (r : Repr) (d : Dom) (ns : List Named) where
  -- The plan.
  abbrev P : pure.Plan
  P = value_plan givens_side x r d ns

  closed-there : (env : Env) (o : Option Domain) → PlansReady env a (P ∷ []) (o ∷ []) → o ≡ domain_of d env
  closed-there env o ready = let c : o ∷ [] ≡ domain_of d env ∷ [] = ready.closed in cc

  made : (o : Option Domain) (e : Domain) (w : Value) (u : Option (List NamedTable)) → o ≡ Some e → Some w ≡ value_of a x →
      (HasRoom r e w → option_map (map pure_named_table) u ≡ option_map (name_tables ns) (tables_of_value r (domain_with_positions e) (with_positions w))) →
      IsTable a P o u
  made o e w u h k t = record {
    are = λ env ready.
        let c : domain_of d env ≡ Some e = sym (closed-there env o ready) ∙ h in
        alone (option_map (map pure_named_table) u) (tables_on givens_side env a P)
        (t (ready.each.0 e w c (sym k))
        ∙ ap (λ q. and_then (option_map domain_with_positions q) (λ g. option_map (name_tables ns) (tables_of_value r g (with_positions w)))) (sym c)
        ∙ ap (λ q. and_then q (λ v. and_then (option_map domain_with_positions (domain_of d env)) (λ g. option_map (name_tables ns) (tables_of_value r g (with_positions v))))) k);
  }

  unvalued : (o : Option Domain) → None ≡ value_of a x → IsTable a P o None
  unvalued o k = record {
    are = λ env ready. alone None (tables_on givens_side env a P)
        (ap (λ q. and_then q (λ v. and_then (option_map domain_with_positions (domain_of d env)) (λ g. option_map (name_tables ns) (tables_of_value r g (with_positions v))))) k);
  }

  none-then : (q : Option Value) (env : Env) → domain_of d env ≡ None →
      None ≡ and_then q (λ v. and_then (option_map domain_with_positions (domain_of d env)) (λ g. option_map (name_tables ns) (tables_of_value r g (with_positions v))))
  none-then None env c = refl
  none-then (Some v) env c =
      ap (λ q. and_then (option_map domain_with_positions q) (λ g. option_map (name_tables ns) (tables_of_value r g (with_positions v)))) (sym c)

  unclosed : (o : Option Domain) → o ≡ None → IsTable a P o None
  unclosed o h = record {
    are = λ env ready. alone None (tables_on givens_side env a P)
        (none-then (value_of a x) env (sym (closed-there env o ready) ∙ h));
  }

-- the side of the plan
module _ (a : Assignment) (v : ValuePlan) (s : v.side ≡ Side.Givens) where
  turned : (o : Option Domain) (u : Option (List NamedTable)) →
      IsTable a (value_plan givens_side v.name (pure_repr v.tree) (pure_dom v.dom)
      (map pure_table_name v.tables)) o u → IsTable a (pure_value_plan v) o u
  turned o u = subst (λ f. IsTable a (value_plan (pure_side f) v.name (pure_repr v.tree) (pure_dom v.dom)
      (map pure_table_name v.tables)) o u) (sym s)

  pub value_made : (o : Option Domain) (e : Domain) (w : Value) (u : Option (List NamedTable)) → o ≡ Some e → Some w ≡ value_of a v.name →
      (HasRoom (pure_repr v.tree) e w → option_map (map pure_named_table) u
      ≡ option_map (name_tables (map pure_table_name v.tables))
      (tables_of_value (pure_repr v.tree) (domain_with_positions e) (with_positions w))) →
      IsTable a (pure_value_plan v) o u
  value_made o e w u h k t = turned o u (made a v.name _ _ _ o e w u h k t)

  pub no_value : (o : Option Domain) → None ≡ value_of a v.name → IsTable a (pure_value_plan v) o None
  no_value o k = turned o None (unvalued a v.name _ _ _ o k)

  pub no_domain : (o : Option Domain) → o ≡ None → IsTable a (pure_value_plan v) o None
  no_domain o h = turned o None (unclosed a v.name _ _ _ o h)

-- ---- tables under their names, and at positions

pub named_there : (ns : List Named) (ts : Tables) (q : Option Tables) (u : Names Table) → u ≡ name_tables ns ts → Some ts ≡ q →
    Some u ≡ option_map (name_tables ns) q
named_there ns ts q u e h = ap Some e ∙ ap (option_map (name_tables ns)) h

pub named_not : (ns : List Named) (q : Option Tables) → None ≡ q → None ≡ option_map (name_tables ns) q
named_not ns q h = ap (option_map (name_tables ns)) h

pub at_positions : (r : Repr) (e g : Domain) (w : Value) (q : Option Tables) → g ≡ domain_with_positions e →
    (Roomy r g → member g (with_positions w) ≡ true → q ≡ tables_of_value r g (with_positions w)) → HasRoom r e w →
    q ≡ tables_of_value r (domain_with_positions e) (with_positions w)
at_positions r e g w q h t room =
    t (subst (Roomy r) (sym h) room.roomy) (ap (λ x. member x (with_positions w)) h ∙ room.member)
    ∙ ap (λ x. tables_of_value r x (with_positions w)) h

pub at_value : (r : Repr) (e : Domain) (w x : Value) (q : Option Tables) → x ≡ with_positions w →
    (Roomy r e → member e x ≡ true → q ≡ tables_of_value r e x) → Roomy r e → member e (with_positions w) ≡ true →
    q ≡ tables_of_value r e (with_positions w)
at_value r e w x q h t room m = t room (ap (member e) h ∙ m) ∙ ap (tables_of_value r e) h
