-- The rule of a membership says whether the value is in the set.
use Rattle.std.proofs.Common.{◌≡◌, refl, sym, ap, ◌∙◌, subst, ℕ, Bool, true, false, not, List, [], ◌∷◌, ◌++◌, pos, Some, None, option_map, ◌&&◌}
use Rattle.std.specs.List.{list_all}
use Rattle.ess_semantics.specs.declared.words.Op2.{Op2}
use Rattle.ess_semantics.specs.Lists.{or_default, is_empty, is_some_and}
use Rattle.ess_semantics.specs.Values.{Text, Value, number, truth, item, items_of, node}
use Rattle.ess_semantics.specs.Names.{Names, look, is_among}
use Rattle.ess_semantics.specs.Trees.{binary, Ex, name_ex, no_exs, Dom, set_dom, Stm, find, ex2}
use Rattle.ess_semantics.specs.Domains.{Span, Domain, booleans, integers, named, sets, between, member_list}
use Rattle.ess_semantics.specs.Atoms.{IsAtom}
use Rattle.ess_semantics.specs.Membership.{member}
use Rattle.ess_semantics.specs.Tables.{Table, Tables, cell_at, code}
use Rattle.ess_semantics.specs.Cells.{cells_of}
use Rattle.ess_semantics.specs.Layers.{codes_of}
use Rattle.ess_semantics.specs.Representations.{value_of_cells}
use Rattle.ess_semantics.specs.Declarations.{declarations}
use Rattle.ess_semantics.specs.Collections.{holds}
use Rattle.ess_semantics.specs.Contexts.{Each}
use Rattle.ess_semantics.specs.Operators.{false_where_undefined, value_of_node}
use Rattle.ess_semantics.specs.Meaning.{meaning, is_true}
use Rattle.ess_semantics.specs.Positions.{with_positions, domain_with_positions}
use Rattle.ess_semantics.specs.Prepared.{prepared}
use Rattle.ess_semantics.specs.Assignments.{Assignment, env_of}
use Rattle.ess_semantics.specs.Parameters.{Param}
use Rattle.ess_semantics.specs.Judgements.{fault}
use Rattle.ess_semantics.specs.Plans.{Options, finds_side, Plan, value_plan, kept_names, plans}
use Rattle.ess_semantics.specs.ModelTrees.{Model, Goal}
use Rattle.ess_semantics.proofs.MemberLists.{atom-listed}
use Rattle.ess_semantics.proofs.Tests.{and-left, and-right}
use Rattle.ess_repr_laws.proofs.Chosen.{on}
use Rattle.conjure_model_laws.specs.Printed.{printed_name}
use Rattle.conjure_model_laws.specs.IsBuiltFrom.{taken_names}
use Rattle.conjure_laws.specs.Premises.{is_on, tables_are}
use Rattle.conjure_laws.specs.ModelPremises.{RuleMeans}
use Rattle.conjure_laws.specs.SetsOfAtoms.{TypeKind, fixed, sized}
use Rattle.conjure_laws.specs.ModelsOfSets.{table_of, axis_for}
use Rattle.conjure_laws.proofs.Lists.{at-item, in-filtered}
use Rattle.conjure_laws.proofs.Givens.{given-keys}
use Rattle.conjure_laws.proofs.Matching.{Match}
use Rattle.conjure_laws.proofs.Occurrence.{IsOf, one-row, occurrence-cell, set-holds-positions}
use Rattle.conjure_laws.proofs.SetCells.{only-table, bool-cell, truth-is}
use Rattle.conjure_laws.proofs.SetPlans.{Occ}
use Rattle.conjure_laws.proofs.SetScopes.{look-past, count_of}
use Rattle.conjure_settled_laws.specs.EndValues.{IsInEnv}
use Rattle.conjure_settled_laws.proofs.EndValues.{typed-has-end-values}
use Rattle.ess_member_shows_laws.specs.ess_member_rules_laws.WrittenForms.{Written, IsNumber, Alike, as_numbers, as_truths, IsTable}
use Rattle.ess_mixed_models_laws.specs.MixedSpecifications.{kinds, places, members_of, is_of_kind, has_printed_name, is_membership, are_mixed_statements, is_kept_by_members}
use Rattle.ess_mixed_models_laws.specs.MixedModels.{mixed_decl, shown_value, axis_of, IsMembershipRule}
use Rattle.ess_mixed_models_laws.proofs.MemberValues.{literal_code, value}
use Rattle.ess_mixed_models_laws.proofs.NamedKinds.{no-yes, MemberDom, of_numbers, of_truths, of_type, closed_members, placed_members, atom-of, atom-with, sets-closed, place-of}
use Rattle.ess_mixed_models_laws.proofs.MixedPlans.{set-single, ground}
use Rattle.ess_mixed_models_laws.proofs.MixedCells.{decls, declared, not-given, found-name}
use Rattle.ess_mixed_models_laws.proofs.MixedSizes.{sizes-held, sizes-behind, axis-listed}
use Rattle.ess_mixed_models_laws.proofs.MixedLayers.{model_with}
use Rattle.ess_mixed_models_laws.proofs.ScalarValues.{plan-found}
use Rattle.ess_mixed_models_laws.proofs.SetFinds.{MemberValue, a_number, a_truth, a_value, member-value, SetFind, set-of, set-planned}

-- ---- members

-- Members of a domain of numbers are numbers.
each-number : (ss : List Span) (vs : List Value) → list_all (member (integers ss)) vs ≡ true → Each vs IsNumber
each-number ss [] h = tt
each-number ss (v ∷ vs) h = (
  one v (and-left (member (integers ss) v) (list_all (member (integers ss)) vs) h),
  each-number ss vs (and-right (member (integers ss) v) (list_all (member (integers ss)) vs) h),
)
  where
    one : (v : Value) → member (integers ss) v ≡ true → IsNumber v
    one (number k) h = (k, refl)
    one (truth b) h = absurd (no-yes h)
    one (item t k) h = absurd (no-yes h)
    one (node k vs) h = absurd (no-yes h)

-- A value of a set's kind has its kind with positions.
of-positions : (d : Domain) → IsAtom d → (w : Value) → IsOf d w → IsOf (domain_with_positions d) (with_positions w)
of-positions booleans a (truth b) i = tt
of-positions (integers ss) a (number n) i = tt
of-positions (named t n) a (item u k) i = tt
of-positions booleans a (number n) i = absurd i
of-positions booleans a (item t k) i = absurd i
of-positions booleans a (node k xs) i = absurd i
of-positions (integers ss) a (truth b) i = absurd i
of-positions (integers ss) a (item t k) i = absurd i
of-positions (integers ss) a (node k xs) i = absurd i
of-positions (named t n) a (truth b) i = absurd i
of-positions (named t n) a (number k) i = absurd i
of-positions (named t n) a (node k xs) i = absurd i
of-positions _ a w i = absurd a

module _ (S : List Stm) (o : Options) where
  abbrev Ps : List Plan
  Ps = plans S o

  abbrev vs : Names (Text × ℕ)
  vs = places S

  -- The value is of the kind of the members.
  alike : (p : Assignment) {e : Ex} {A : Dom} (m : MemberDom (kinds S) A) → MemberValue vs e A →
      Alike (member_list (placed_members p m)) (axis_of S o A) (shown_value vs e)
  alike p (of_numbers {a = a} {b = b}) a_number =
      let d : Domain = integers (record { low = Some a; high = Some b } ∷ []) in
      as_numbers (each-number (record { low = Some a; high = Some b } ∷ []) (member_list d) (atom-listed d tt).members)
  alike p of_truths a_truth = as_truths ((false, refl), ((true, refl), tt))
  alike p (of_type {t = t} {k = k} q) (a_value {n = n} e) =
      let d : Domain = between (pos 1) (pos (count_of p t k)) in
      subst (λ z. Alike (member_list (between (pos 1) (pos (count_of p t k)))) (axis_for Ps t z) (shown_value vs (name_ex n))) (sym q)
      (go k (each-number (record { low = Some (pos 1); high = Some (pos (count_of p t k)) } ∷ []) (member_list d)
      (atom-listed d tt).members))
    where
      go : {ms : List Value} (k : TypeKind) → Each ms IsNumber → Alike ms (axis_for Ps t (Some k)) (shown_value vs (name_ex n))
      go (fixed j) h = as_numbers h
      go sized h = as_numbers h

  -- It has a value of the kind of the members, with its number as its code with positions.
  number-is : fault S ≡ None → (p a : Assignment) → Param S p → {e : Ex} {A : Dom} (m : MemberDom (kinds S) A) → MemberValue vs e A →
      (w : Value) × IsOf (closed_members p m) w × (code (with_positions w) ≡ literal_code (shown_value vs e)) ×
      (meaning e (env_of S p a) ≡ Some w)
  number-is f p a P of_numbers (a_number {k = k}) = (number k, tt, refl, refl)
  number-is f p a P of_truths (a_truth {b = b}) = (truth b, tt, refl, refl)
  number-is f p a P (of_type q) (a_value {n = n} {t = t} {j = j} e) = (
    item t j,
    refl,
    ap (λ z. pos (or_default (option_map (λ v. v.1) z) 0)) (sym e),
    place-of S f p a P n (t, j) e,
  )

  module _ (h : are_mixed_statements S o ≡ true) (f : fault S ≡ None) (g : Goal) (rs : List Ex) where
    abbrev E : Model
    E = model_with S o h g rs

    -- The table of a set, in which the cell of a value is true where the value is in the set.
    record SetTable (p : Assignment) (x : Text) {A : Dom} (m : MemberDom (kinds S) A) (v : Value) (ts : Tables) : Type 0 where
      pub t : Table
      pub is : ts ≡ t ∷ []
      pub axes : t.axes ≡ codes_of (placed_members p m) ∷ []
      pub cells : (w : Value) → IsOf (closed_members p m) w → on (cell_at t (code (with_positions w) ∷ [])) ≡ holds (items_of v) w

    set-table : (p a : Assignment) → Param S p → (x : Text) {A : Dom} (m : MemberDom (kinds S) A) (n : Text) (ts : Tables)
        (w : Match S p a x Occ (set_dom [] no_exs A) ((n, 1) ∷ []) ts) → SetTable p x m w.v ts
    set-table p a P x m n ts w = go w.e (sym (sets-closed S f p P m) ∙ w.closed) w.are w.stands w.inside
      where
        go : (e : Domain) → Some (sets [] (closed_members p m)) ≡ Some e →
            tables_are (declarations Occ (domain_with_positions e)) ts ≡ true →
            value_of_cells Occ (domain_with_positions e) (cells_of ts) ≡ Some (with_positions w.v) → member e w.v ≡ true →
            SetTable p x m w.v ts
        go e q are st inside =
            let z : e ≡ sets [] (closed_members p m) = cc in
            let B = subst (λ e. tables_are (declarations Occ (domain_with_positions e)) ts ≡ true) z are in
            let V = subst (λ e. value_of_cells Occ (domain_with_positions e) (cells_of ts) ≡ Some (with_positions w.v)) z st in
            let k = (atom-with p m).0 in
            let r = one-row (placed_members p m) k [] ts B in record {
              t = r.t;
              is = r.is;
              axes = r.axes;
              cells = λ u i. occurrence-cell (placed_members p m) k [] r.t (with_positions w.v) (with_positions u)
                  (one-row (placed_members p m) k [] (r.t ∷ [])
                  (ap (tables_are (declarations Occ (sets [] (placed_members p m)))) (sym r.is) ∙ B))
                  (ap (λ l. value_of_cells Occ (sets [] (placed_members p m)) (cells_of l)) (sym r.is) ∙ V)
                  (of-positions (closed_members p m) (atom-of p m) u i)
                  ∙ set-holds-positions (closed_members p m) (atom-of p m) [] w.v u (subst (λ e. member e w.v ≡ true) z inside) i;
            }

    -- A name is left for a bound one.
    name-left : has_printed_name S o ≡ true → (c : ℕ) × (cs : Text) × (printed_name (taken_names S o) 0 ≡ c ∷ cs)
    name-left w = go (printed_name (taken_names S o) 0) refl w
      where
        go : (y : Text) → printed_name (taken_names S o) 0 ≡ y → not (is_empty y) ≡ true →
            (c : ℕ) × (cs : Text) × (printed_name (taken_names S o) 0 ≡ c ∷ cs)
        go [] q w = absurd (no-yes w)
        go (c ∷ cs) q w = (c, cs, q)

    -- The rule of a membership says what the membership says.
    membership-means : (e : Ex) (x : Text) (r : Ex) (A : Dom) → SetFind S o h x A → MemberValue vs e A → has_printed_name S o ≡ true →
        Written (table_of Ps x) (axis_of S o A) (shown_value vs e) (printed_name (taken_names S o) 0) r →
        RuleMeans S o E (ex2 true Op2.Member e (name_ex x)) r
    membership-means e x r A w u y written p a q c I C =
        let n : Text = table_of Ps x in
        let m = w.members in
        let P : Plan = value_plan finds_side x Occ (set_dom [] no_exs A) ((n, 1) ∷ []) in
        let i = set-planned S o h f x A w in
        let F = plan-found S o h f g rs p a q c I C x Occ (set_dom [] no_exs A) ((n, 1) ∷ []) i in
        let tb = set-table p a I.param x m n F.0 F.1 in
        let fn = found-name S o h P (in-filtered (is_on finds_side) P Ps i refl) (set-single S o x n m) in
        let there : look (q ++ c) n ≡ Some tb.t = look-past q c n
        (ap (λ l. is_among l n) (given-keys S o (ground S o h f) p q I) ∙ not-given S o h n fn)
        ∙ only-table (look c n) F.0 tb.t tb.is F.2 in
        let held = sizes-behind S o h p q c (sizes-held S o h f p q I) in
        let T : IsTable (decls S o h) (q ++ c) n (axis_of S o A) (shown_value vs e) tb.t (member_list (placed_members p m)) = record {
          line = mixed_decl (kinds S) Ps P;
          declared = declared S o h P i (set-single S o x n m);
          one_axis = refl;
          truths = refl;
          found = there;
          axis = tb.axes;
          members = axis-listed S o h p (q ++ c) held m;
          alike = alike p m u;
        } in
        let b = name-left y in
        let k = number-is f p a I.param m u in
        let v : look (env_of S p a).vals x ≡ Some F.1.v =
        at-item (IsInEnv S p a (env_of S p a)) (prepared S) (find x (set_dom [] no_exs A)) (typed-has-end-values S p a f I.param).declared
        w.declared ∙ F.1.value in
        ap is_true (value b.0 b.1 (decls S o h) (q ++ c) n (axis_of S o A) (shown_value vs e) tb.t (member_list (placed_members p m)) T r
        (subst (λ z. Written n (axis_of S o A) (shown_value vs e) z r) b.2 written))
        ∙ bool-cell (cell_at tb.t (literal_code (shown_value vs e) ∷ []))
        ∙ ap (λ z. on (cell_at tb.t (z ∷ []))) (sym k.2) ∙ tb.cells k.0 k.1
        ∙ sym (truth-is (holds (items_of F.1.v) k.0))
        ∙ sym (ap (λ z. is_true (false_where_undefined true (value_of_node (binary Op2.Member) (z ∷ look (env_of S p a).vals x ∷ [])))) k.3
        ∙ ap (λ z. is_true (false_where_undefined true (value_of_node (binary Op2.Member) (Some k.0 ∷ z ∷ [])))) v)

    -- What is known of a membership of the class and its domain of members.
    pub membership-fact : (e : Ex) (x : Text) (A : Dom) → is_membership S o (ex2 true Op2.Member e (name_ex x)) ≡ true →
        members_of (look (kept_names S) x) ≡ Some A → SetFind S o h x A × MemberValue vs e A × (has_printed_name S o ≡ true)
    membership-fact e x A w q =
        let a : Bool = is_some_and (members_of (look (kept_names S) x)) (is_of_kind vs e) in
        let y : Bool = has_printed_name S o in
        let z : Bool = is_kept_by_members S o x in
        let b = and-right a (y && z) w in
        let s = set-of S o h x A q (and-right y z b) in
        (s, member-value vs e s.members (ap (λ z. is_some_and z (is_of_kind vs e)) (sym q) ∙ and-left a (y && z) w), and-left y z b)

    -- So does each rule of one.
    pub set-means : (e : Ex) (x : Text) (r : Ex) → is_membership S o (ex2 true Op2.Member e (name_ex x)) ≡ true →
        IsMembershipRule S o e x r →
        RuleMeans S o E (ex2 true Op2.Member e (name_ex x)) r
    set-means e x r w R = let k = membership-fact e x R.members w R.found in membership-means e x r R.members k.0 k.1 k.2 R.written
