-- The view of a given or find by each of its plans has over tables its value with positions, and its structures are met. A scalar's is a
-- cell.
use Rattle.std.proofs.Common.{◌≡◌, refl, sym, ap, ◌∙◌, subst, Bool, true, false, List, [], ◌∷◌, ◌++◌, ℤ, map, Option, Some, None, option_map}
use Rattle.ess_semantics.specs.declared.words.ReprKind.{ReprKind}
use Rattle.ess_semantics.specs.Values.{Text, Value, number, truth, item, node}
use Rattle.ess_semantics.specs.Names.{Names, look, keys, is_among, all_distinct}
use Rattle.ess_semantics.specs.Trees.{Repr, repr, no_reprs, more_reprs, Ex, cell_ex, seen_ex, no_exs, Dom, bool_dom, int_dom, name_dom, tuple_dom, record_dom, matrix_dom, set_dom, mset_dom, function_dom, relation_dom, partition_dom, Stm}
use Rattle.ess_semantics.specs.Lists.{and_then, all_some}
use Rattle.ess_semantics.specs.Domains.{Domain, booleans, integers, named, tuples, records, matrices, sets, msets, functions, relations, partitions}
use Rattle.ess_semantics.specs.Atoms.{IsAtom}
use Rattle.ess_semantics.specs.Membership.{member}
use Rattle.ess_semantics.specs.Tables.{Table, Tables, one_cell, code}
use Rattle.ess_semantics.specs.Canonical.{tables_of_value}
use Rattle.ess_semantics.specs.TableNames.{Named}
use Rattle.ess_semantics.specs.Operators.{false_where_undefined}
use Rattle.ess_semantics.specs.Meaning.{Env, meaning, domain_of, tables_in, is_bool_dom, cell_value, cell_in, spans_of, attributes_of, meanings, domains_of, named_domain, TypeEntry, type_entry, empty_env}
use Rattle.ess_semantics.specs.Meets.{Meets, MeetsDom}
use Rattle.ess_semantics.specs.Positions.{with_positions, domain_with_positions}
use Rattle.ess_semantics.specs.Prepared.{prepared}
use Rattle.ess_semantics.specs.Assignments.{Assignment, value_of, nothing_given}
use Rattle.ess_semantics.specs.Plans.{Options, Side, givens_side, finds_side, value_plan, plans, plans_for, plan_domain}
use Rattle.ess_semantics.specs.ModelTrees.{Model}
use Rattle.ess_rules_laws.proofs.Simulation.{Vals}
use Rattle.ess_types_laws.proofs.SoundParts.{some-then, some-map}
use Rattle.ess_repr_laws.proofs.MembersWithPositions.{members-matched}
use Rattle.conjure_laws.specs.Members.{In}
use Rattle.conjure_laws.specs.Premises.{is_on, Instance, here}
use Rattle.conjure_laws.specs.ModelPremises.{Base, Canonical}
use Rattle.conjure_laws.specs.Views.{tables_with}
use Rattle.conjure_laws.proofs.Lists.{at-item, in-filtered}
use Rattle.conjure_laws.proofs.NamedTables.{keys-append, among-in, in-among}
use Rattle.conjure_laws.proofs.FreeNames.{halves}
use Rattle.conjure_laws.proofs.Givens.{given-found, both-differ}
use Rattle.conjure_laws.proofs.Matching.{Match, canonical-matched}
use Rattle.conjure_laws.proofs.MatchedTables.{matched-keys, Found, matched-found}
use Rattle.conjure_laws.proofs.Lookups.{look-key, look-right, look-left, tables-lift}
use Rattle.conjure_laws.proofs.Statements.{env-form}
use Rattle.conjure_laws.proofs.Views.{view-value, view-is-tidy}
use Rattle.conjure_model_laws.specs.Shown.{view_by}
use Rattle.conjure_model_laws.specs.TreeLaws.{ViewsHaveValues, side_of_values}

-- ---- cells of atoms

-- A truth value's cell holds it.
of-truth : (v : Value) → member booleans v ≡ true → cell_value true (code v) ≡ v
of-truth (truth true) m = refl
of-truth (truth false) m = refl
of-truth (number n) m = cc
of-truth (item t k) m = cc
of-truth (node k xs) m = cc

-- So does a number's.
of-number : (e : Domain) (ss : _) → e ≡ integers ss → (v : Value) → member e v ≡ true → cell_value false (code v) ≡ v
of-number e ss q v m = go v (ap (λ x. member x v) (sym q) ∙ m)
  where
    go : (v : Value) → member (integers ss) v ≡ true → cell_value false (code v) ≡ v
    go (number n) m = refl
    go (truth b) m = cc
    go (item t k) m = cc
    go (node k xs) m = cc

of-named : (a : Text) (t : Option TypeEntry) (e : Domain) → named_domain false a t ≡ Some e → (v : Value) →
    member (domain_with_positions e) v ≡ true → cell_value false (code v) ≡ v
of-named a None e q v m = cc
of-named a (Some t) e q v m =
    let z : named a t.count ≡ e = cc in of-number (domain_with_positions e) _ (ap domain_with_positions (sym z)) v m

-- The cell of a member of an atom's domain, as the domain expression is.
atom-cell : (d : Dom) (env : Env) (e : Domain) → env.positions ≡ false → domain_of d env ≡ Some e → IsAtom (domain_with_positions e) →
    (v : Value) → member (domain_with_positions e) v ≡ true → cell_value (is_bool_dom d) (code v) ≡ v
atom-cell bool_dom env e pl q a v m =
    let z : booleans ≡ e = cc in of-truth v (ap (λ x. member (domain_with_positions x) v) z ∙ m)
atom-cell (int_dom rs es) env e pl q a v m =
    let x = some-map (spans_of rs (meanings es env)) integers e q in
    of-number (domain_with_positions e) x.0 (ap domain_with_positions (sym x.2)) v m
atom-cell (name_dom t) env e pl q a v m =
    of-named t (type_entry env.types t) e (ap (λ b. named_domain b t (type_entry env.types t)) (sym pl) ∙ q) v m
atom-cell (tuple_dom ds) env e pl q a v m =
    let x = some-map (domains_of ds env) tuples e q in absurd (subst (λ y. IsAtom (domain_with_positions y)) (sym x.2) a)
atom-cell (record_dom fs ds) env e pl q a v m =
    let x = some-map (domains_of ds env) (records fs) e q in absurd (subst (λ y. IsAtom (domain_with_positions y)) (sym x.2) a)
atom-cell (matrix_dom is d) env e pl q a v m =
    let x = some-then (domains_of is env) (λ js. option_map (matrices js) (domain_of d env)) e q in
    let y = some-map (domain_of d env) (matrices x.0) e x.2 in absurd (subst (λ y. IsAtom (domain_with_positions y)) (sym y.2) a)
atom-cell (set_dom ms es d) env e pl q a v m =
    let x = some-then (attributes_of ms (meanings es env)) (λ ks. option_map (sets ks) (domain_of d env)) e q in
    let y = some-map (domain_of d env) (sets x.0) e x.2 in absurd (subst (λ y. IsAtom (domain_with_positions y)) (sym y.2) a)
atom-cell (mset_dom ms es d) env e pl q a v m =
    let x = some-then (attributes_of ms (meanings es env)) (λ ks. option_map (msets ks) (domain_of d env)) e q in
    let y = some-map (domain_of d env) (msets x.0) e x.2 in absurd (subst (λ y. IsAtom (domain_with_positions y)) (sym y.2) a)
atom-cell (function_dom ms es d c) env e pl q a v m =
    let x = some-then (attributes_of ms (meanings es env))
    (λ ks. and_then (domain_of d env) (λ x. option_map (functions ks x) (domain_of c env))) e q in
    let y = some-then (domain_of d env) (λ z. option_map (functions x.0 z) (domain_of c env)) e x.2 in
    let z = some-map (domain_of c env) (functions x.0 y.0) e y.2 in absurd (subst (λ y. IsAtom (domain_with_positions y)) (sym z.2) a)
atom-cell (relation_dom ms es ds) env e pl q a v m =
    let x = some-then (attributes_of ms (meanings es env)) (λ ks. option_map (relations ks) (domains_of ds env)) e q in
    let y = some-map (domains_of ds env) (relations x.0) e x.2 in absurd (subst (λ y. IsAtom (domain_with_positions y)) (sym y.2) a)
atom-cell (partition_dom ms es d) env e pl q a v m =
    let x = some-then (attributes_of ms (meanings es env)) (λ ks. option_map (partitions ks) (domain_of d env)) e q in
    let y = some-map (domain_of d env) (partitions x.0) e x.2 in absurd (subst (λ y. IsAtom (domain_with_positions y)) (sym y.2) a)

-- The canonical table of an atom is its cell.
atom-tables : (e : Domain) (v : Value) → IsAtom e → tables_of_value (repr ReprKind.Atom no_reprs) e v ≡ Some (one_cell (code v) ∷ [])
atom-tables booleans v a = refl
atom-tables (integers ss) v a = refl
atom-tables (named t n) v a = refl
atom-tables _ v a = absurd a

first-there : (o : Option Table) (r : Option Tables) (t : Table) → and_then o (λ x. option_map (λ xs. x ∷ xs) r) ≡ Some (t ∷ []) →
    o ≡ Some t
first-there None r t e = cc
first-there (Some x) None t e = cc
first-there (Some x) (Some xs) t e = let z : x ≡ t = cc in ap (λ y. Some y) z

same-tables : (ts us : Tables) → Some ts ≡ Some us → ts ≡ us
same-tables ts us e = cc

settled-cell : (b : Bool) (k : ℤ) → false_where_undefined b (Some (cell_value b k)) ≡ Some (cell_value b k)
settled-cell true k = refl
settled-cell false k = refl

-- ---- views

-- The expression has this value, and its structures are met.
abbrev Has : Ex → Env → Value → Type 0
Has w env v = (meaning w env ≡ Some v) × Meets w env

-- The cell of an atom's plan.
cell-has : (S : List Stm) (p a : Assignment) (x : Text) (d : Dom) (n : Named) (ns : List Named) (ts : Tables)
    (m : Match S p a x (repr ReprKind.Atom no_reprs) d (n ∷ ns) ts) (cs : Names Table) (h : Vals) →
    tables_in cs (keys (n ∷ ns)) ≡ Some ts → Has (cell_ex (is_bool_dom d) n.0 no_exs) (tables_with S p cs h) (with_positions m.v)
cell-has S p a x d n ns ts m cs h q =
    let w : Value = with_positions m.v in
    let f : ts ≡ one_cell (code w) ∷ [] =
    same-tables ts (one_cell (code w) ∷ []) (sym m.there ∙ atom-tables (domain_with_positions m.e) w m.fit.roomy) in
    let k : look cs n.0 ≡ Some (one_cell (code w)) =
    first-there (look cs n.0) (all_some (map (look cs) (keys ns))) (one_cell (code w)) (q ∙ ap (λ l. Some l) f) in (
      ap (λ o. false_where_undefined (is_bool_dom d) (cell_in (is_bool_dom d) o (Some []))) k
          ∙ settled-cell (is_bool_dom d) (code w)
          ∙ ap (λ y. Some y) (atom-cell d (here S p) m.e (env-form (prepared S) p nothing_given empty_env).0 m.closed m.fit.roomy w
          ((members-matched m.e m.fit.typed).up m.v m.inside)),
      tt,
    )

-- The view of a plan that is none of an atom.
seen-has : (S : List Stm) (p a : Assignment) (x : Text) (r : Repr) (d : Dom) (ns : List Named) (ts : Tables) (m : Match S p a x r d ns ts)
    (cs : Names Table) (b : Dom) (h : Vals) → tables_in cs (keys ns) ≡ Some ts →
    domain_of b (tables_with S p cs h) ≡ plan_domain d (here S p) → MeetsDom b (tables_with S p cs h) →
    Has (seen_ex r b (keys ns) no_exs) (tables_with S p cs h) (with_positions m.v)
seen-has S p a x r d ns ts m cs b h q e g =
    (view-value S p a x r d ns ts m cs b h q e, view-is-tidy S p a x r d ns ts m cs b h q e g)

-- The view by a plan whose tables match.
view-has : (S : List Stm) (p a : Assignment) (f : Side) (x : Text) (r : Repr) (d : Dom) (ns : List Named) (ts : Tables)
    (m : Match S p a x r d ns ts) (cs : Names Table) (b : Dom) (h : Vals) → tables_in cs (keys ns) ≡ Some ts →
    domain_of b (tables_with S p cs h) ≡ plan_domain d (here S p) → MeetsDom b (tables_with S p cs h) →
    Has (view_by b (value_plan f x r d ns)) (tables_with S p cs h) (with_positions m.v)
view-has S p a f x (repr ReprKind.Atom no_reprs) d (n ∷ ns) ts m cs b h q e g = cell-has S p a x d n ns ts m cs h q
view-has S p a f x (repr ReprKind.Atom (more_reprs r rs)) d (n ∷ ns) ts m cs b h q e g = absurd m.fit.roomy
view-has S p a f x (repr ReprKind.Atom rs) d [] ts m cs b h q e g =
    seen-has S p a x (repr ReprKind.Atom rs) d [] ts m cs b h q e g
view-has S p a f x (repr ReprKind.Tuple rs) d ns ts m cs b h q e g =
    seen-has S p a x (repr ReprKind.Tuple rs) d ns ts m cs b h q e g
view-has S p a f x (repr ReprKind.Rec rs) d ns ts m cs b h q e g =
    seen-has S p a x (repr ReprKind.Rec rs) d ns ts m cs b h q e g
view-has S p a f x (repr ReprKind.Matrix rs) d ns ts m cs b h q e g =
    seen-has S p a x (repr ReprKind.Matrix rs) d ns ts m cs b h q e g
view-has S p a f x (repr ReprKind.Occurrence rs) d ns ts m cs b h q e g =
    seen-has S p a x (repr ReprKind.Occurrence rs) d ns ts m cs b h q e g
view-has S p a f x (repr ReprKind.Explicit rs) d ns ts m cs b h q e g =
    seen-has S p a x (repr ReprKind.Explicit rs) d ns ts m cs b h q e g
view-has S p a f x (repr ReprKind.ExplicitVarSizeWithMarker rs) d ns ts m cs b h q e g =
    seen-has S p a x (repr ReprKind.ExplicitVarSizeWithMarker rs) d ns ts m cs b h q e g
view-has S p a f x (repr ReprKind.ExplicitVarSizeWithFlags rs) d ns ts m cs b h q e g =
    seen-has S p a x (repr ReprKind.ExplicitVarSizeWithFlags rs) d ns ts m cs b h q e g
view-has S p a f x (repr ReprKind.ExplicitVarSizeWithDummy rs) d ns ts m cs b h q e g =
    seen-has S p a x (repr ReprKind.ExplicitVarSizeWithDummy rs) d ns ts m cs b h q e g
view-has S p a f x (repr ReprKind.MSetOccurrence rs) d ns ts m cs b h q e g =
    seen-has S p a x (repr ReprKind.MSetOccurrence rs) d ns ts m cs b h q e g
view-has S p a f x (repr ReprKind.MSetExplicitWithRepetition rs) d ns ts m cs b h q e g =
    seen-has S p a x (repr ReprKind.MSetExplicitWithRepetition rs) d ns ts m cs b h q e g
view-has S p a f x (repr ReprKind.MSetExplicitWithFlags rs) d ns ts m cs b h q e g =
    seen-has S p a x (repr ReprKind.MSetExplicitWithFlags rs) d ns ts m cs b h q e g
view-has S p a f x (repr ReprKind.Function1D rs) d ns ts m cs b h q e g =
    seen-has S p a x (repr ReprKind.Function1D rs) d ns ts m cs b h q e g
view-has S p a f x (repr ReprKind.Function1DPartial rs) d ns ts m cs b h q e g =
    seen-has S p a x (repr ReprKind.Function1DPartial rs) d ns ts m cs b h q e g
view-has S p a f x (repr ReprKind.FunctionND rs) d ns ts m cs b h q e g =
    seen-has S p a x (repr ReprKind.FunctionND rs) d ns ts m cs b h q e g
view-has S p a f x (repr ReprKind.FunctionNDPartial rs) d ns ts m cs b h q e g =
    seen-has S p a x (repr ReprKind.FunctionNDPartial rs) d ns ts m cs b h q e g
view-has S p a f x (repr ReprKind.FunctionAsRelation rs) d ns ts m cs b h q e g =
    seen-has S p a x (repr ReprKind.FunctionAsRelation rs) d ns ts m cs b h q e g
view-has S p a f x (repr ReprKind.RelationAsMatrix rs) d ns ts m cs b h q e g =
    seen-has S p a x (repr ReprKind.RelationAsMatrix rs) d ns ts m cs b h q e g
view-has S p a f x (repr ReprKind.RelationAsSet rs) d ns ts m cs b h q e g =
    seen-has S p a x (repr ReprKind.RelationAsSet rs) d ns ts m cs b h q e g
view-has S p a f x (repr ReprKind.PartitionOccurrence rs) d ns ts m cs b h q e g =
    seen-has S p a x (repr ReprKind.PartitionOccurrence rs) d ns ts m cs b h q e g
view-has S p a f x (repr ReprKind.PartitionAsSet rs) d ns ts m cs b h q e g =
    seen-has S p a x (repr ReprKind.PartitionAsSet rs) d ns ts m cs b h q e g

-- ---- at an instance with canonical tables

module _ (S : List Stm) (o : Options) (M : Model) (L : Base S o M) (p a : Assignment) (q c : Names Table) (I : Instance S o p q)
    (C : Canonical S o p a c) where
  distinct : all_distinct (keys q ++ keys c) ≡ true
  distinct =
      ap all_distinct (sym (keys-append q c))
      ∙ both-differ S o L.ground p q I c (matched-keys S o M L p q I a c (canonical-matched S o M L p q I a c C.members C.tables))

  -- A found table isn't hidden by a given one.
  found-table : (y : Text) (t : Table) → look c y ≡ Some t → look (q ++ c) y ≡ Some t
  found-table y t e = look-right q c y (out (is_among (keys q) y) refl) ∙ e
    where
      out : (b : Bool) → is_among (keys q) y ≡ b → is_among (keys q) y ≡ false
      out false r = r
      out true r =
          let z = at-item (λ x. is_among (keys c) x ≡ false) (keys q) y (halves (keys q) (keys c) distinct).2 (among-in (keys q) y r) in
          let k : true ≡ false = sym (in-among (keys c) y (look-key c y t e)) ∙ z in cc

  values : (f : Side) (x : Text) (r : Repr) (d : Dom) (ns : List Named) → In (value_plan f x r d ns) (plans S o) → (b : Dom) (h : Vals) →
      domain_of b (tables_with S p (q ++ c) h) ≡ plan_domain d (here S p) → MeetsDom b (tables_with S p (q ++ c) h) →
      (v : Value) × (value_of (side_of_values f p a) x ≡ Some v) × Has (view_by b (value_plan f x r d ns)) (tables_with S p (q ++ c) h)
      (with_positions v)
  values givens_side x r d ns i b h e g =
      let F = given-found S o L.ground p q I x r d ns i in
      let m = tables-lift q (q ++ c) (λ n t e. look-left q c n t e) (keys ns) F.0 F.2 in
      (F.1.v, F.1.value, view-has S p p givens_side x r d ns F.0 F.1 (q ++ c) b h m e g)
  values finds_side x r d ns i b h e g =
      let F = at-item (Found S o M L p q I a c) (plans_for finds_side S o) (value_plan finds_side x r d ns)
      (matched-found S o M L p q I a c (canonical-matched S o M L p q I a c C.members C.tables))
      (in-filtered (is_on finds_side) (value_plan finds_side x r d ns) (plans S o) i refl) in
      let m = tables-lift c (q ++ c) found-table (keys ns) F.0 F.2 in
      (F.1.v, F.1.value, view-has S p a finds_side x r d ns F.0 F.1 (q ++ c) b h m e g)

-- Views of plans have the values of their names.
pub views-have-values : ViewsHaveValues
views-have-values S o M L p a q c I C f x r d ns i b h e g = values S o M L p a q c I C f x r d ns i b h e g
