-- A view over tables that match has the value with positions and is tidy. So a tree with views in the place of names means over
-- tables what it means over values with positions, and its structures are met.
use Rattle.std.proofs.Common.{◌≡◌, refl, sym, ap, ◌∙◌, subst, Bool, true, false, not, if◌then◌else◌, List, [], ◌∷◌, ◌++◌, Option, Some, None, option_map, map, pos}
use Rattle.std.specs.Prelude.{IsTrue}
use Rattle.ess_semantics.specs.Lists.{or_default}
use Rattle.ess_semantics.specs.Values.{Text, Value, number, truth, item, node}
use Rattle.ess_semantics.specs.Order.{same_text}
use Rattle.ess_semantics.specs.Names.{Names, look, keys, is_among, all_distinct}
use Rattle.ess_semantics.specs.Trees.{Repr, Ex, no_exs, name_ex, seen_ex, Dom, bool_dom, Stm}
use Rattle.ess_semantics.specs.Domains.{Domain, booleans}
use Rattle.ess_semantics.specs.Membership.{member}
use Rattle.ess_semantics.specs.Tables.{Table, Tables}
use Rattle.ess_semantics.specs.Cells.{cells_of, cells_at}
use Rattle.ess_semantics.specs.Declarations.{declarations, axes_of}
use Rattle.ess_semantics.specs.Tidy.{over_axes, tidy_cells}
use Rattle.ess_semantics.specs.Operators.{false_where_undefined}
use Rattle.ess_semantics.specs.Substitution.{NamesAre}
use Rattle.ess_semantics.specs.Meaning.{Env, TypeEntry, meaning, domain_of, seen_in, tables_in, is_bool_dom}
use Rattle.ess_semantics.specs.Meets.{Meets, MeetsDom, tidy_in}
use Rattle.ess_semantics.specs.TableNames.{Named}
use Rattle.ess_semantics.specs.Prepared.{prepared}
use Rattle.ess_semantics.specs.Assignments.{Assignment, env_of}
use Rattle.ess_semantics.specs.Plans.{Options, value_plan, plans, plans_for, plan_domain, Side, givens_side, finds_side}
use Rattle.conjure_laws.specs.Premises.{is_on, Instance, here}
use Rattle.conjure_laws.specs.ModelPremises.{Base, Canonical}
use Rattle.ess_semantics.specs.ModelTrees.{Model}
use Rattle.ess_semantics.proofs.Tests.{and-both}
use Rattle.ess_semantics.proofs.Texts.{same_text-equal}
use Rattle.ess_repr_laws.proofs.Behind.{behind-none}
use Rattle.ess_semantics.specs.Contexts.{Each}
use Rattle.ess_repr_laws.specs.CanonicalTables.{Right}
use Rattle.ess_repr_laws.proofs.CanonicalForms.{right}
use Rattle.ess_rules_laws.proofs.Simulation.{Vals, meaning-sim}
use Rattle.conjure_laws.specs.Members.{In}
use Rattle.conjure_laws.proofs.Statements.{plan-is-found}
use Rattle.conjure_laws.specs.Views.{by_view, by_position, Shown, tables_with, NamesHaveValues, ViewOf, view_or_name, viewed, ViewKept, over_tables}
use Rattle.conjure_laws.proofs.Lists.{at-item, in-filtered}
use Rattle.conjure_laws.proofs.NamedTables.{keys-append, are-over, among-in, in-among}
use Rattle.conjure_laws.proofs.FreeNames.{halves}
use Rattle.conjure_laws.proofs.Givens.{given-found, both-differ, given-from}
use Rattle.conjure_laws.proofs.Matching.{Match, stands-at, canonical-matched}
use Rattle.ess_semantics.specs.Positions.{with_positions, with_tables, domain_with_positions}
use Rattle.conjure_laws.proofs.Lookups.{look-in, no-look, look-key, look-right, look-left, tables-lift}
use Rattle.conjure_laws.specs.PlainTrees.{Plain}
use Rattle.ess_repr_laws.proofs.MembersHaveTables.{roomy-covered}
use Rattle.conjure_laws.proofs.MatchedTables.{matched-keys, Found, matched-found}
use Rattle.ess_repr_laws.proofs.MembersWithPositions.{members-matched}
use Rattle.ess_rules_laws.proofs.MeetsSimulation.{meets-sim}
use Rattle.conjure_laws.proofs.PlainTrees.{plain-meets}
use Rattle.ess_semantics.specs.Parameters.{all_declared}
use Rattle.conjure_laws.proofs.Statements.{plan-is-found}

settled-value : (e : Dom) (d : Domain) (v : Value) (env : Env) → domain_of e env ≡ Some d → member d v ≡ true →
    false_where_undefined (is_bool_dom e) (Some v) ≡ Some v
settled-value bool_dom d v env q m = go v (ap (λ x. member x v) (let z : booleans ≡ d = cc in z) ∙ m)
  where
    go : (v : Value) → member booleans v ≡ true → false_where_undefined true (Some v) ≡ Some v
    go (truth b) m = refl
    go (number n) m = cc
    go (item t k) m = cc
    go (node k xs) m = cc
settled-value _ d v env q m = refl

-- A view over tables that match has the value with positions, and is tidy, whatever its domain.
module _ (S : List Stm) (p a : Assignment) (x : Text) (r : Repr) (d : Dom) (ns : List Named) (ts : Tables)
    (m : Match S p a x r d ns ts)
    (cs : Names Table) (e : Dom) (h : Vals)
    (named : tables_in cs (keys ns) ≡ Some ts) (domain : domain_of e (tables_with S p cs h) ≡ plan_domain d (here S p)) where
  abbrev V : Env
  V = tables_with S p cs h

  abbrev y : Domain
  y = domain_with_positions m.e

  closed-with : domain_of e V ≡ Some y
  closed-with = domain ∙ ap (option_map domain_with_positions) m.closed

  -- Its value.
  pub view-value : meaning (seen_ex r e (keys ns) no_exs) V ≡ Some (with_positions m.v)
  view-value =
      ap (λ o. false_where_undefined (is_bool_dom e) (seen_in r o (tables_in cs (keys ns)) (Some []))) closed-with
      ∙ ap (λ o. false_where_undefined (is_bool_dom e) (seen_in r (Some y) o (Some []))) named
      ∙ ap (false_where_undefined (is_bool_dom e)) (stands-at r y ts ∙ m.stands)
      ∙ settled-value e y (with_positions m.v) V closed-with ((members-matched m.e m.fit.typed).up m.v m.inside)

  -- It is tidy.
  pub view-is-tidy : MeetsDom e V → Meets (seen_ex r e (keys ns) no_exs) V
  view-is-tidy md = (
    ap (λ o. tidy_in r o (tables_in cs (keys ns)) (Some [])) closed-with ∙ ap (λ o. tidy_in r (Some y) o (Some [])) named
        ∙ and-both (over_axes [] (axes_of r y) ts) (tidy_cells r y (cells_at ts [])) (are-over (declarations r y) ts m.are)
        (ap (tidy_cells r y) (behind-none (cells_of ts)) ∙ tidies (right r y (roomy-covered r y m.fit.roomy))),
    md,
    tt,
  )
    where
      tidies : Right r y → tidy_cells r y (cells_of ts) ≡ true
      tidies g = g.tidies (cells_of ts) m.passes

-- ---- a constraint with views in the place of names

-- Values with positions, by their names.
abbrev pub with_each-name : Vals → Vals
with_each-name g = map (λ b. (b.0, with_positions b.1)) g

-- A name has its value with positions.
pub look-with : (g : Vals) (x : Text) → look (with_each-name g) x ≡ option_map with_positions (look g x)
look-with [] x = refl
look-with (b ∷ g) x = go (same_text b.0 x) (look-with g x)
  where
    go : (t : Bool) → look (with_each-name g) x ≡ option_map with_positions (look g x) →
        (if t then Some (with_positions b.1) else look (with_each-name g) x) ≡ option_map with_positions
        (if t then Some b.1 else look g x)
    go true e = refl
    go false e = e

module _ (S : List Stm) (o : Options) (M : Model) (L : Base S o M) (vs : Names Ex) (views : Each vs (λ w. Shown S o w.0 w.1))
    (n : Text → Bool) (values : NamesHaveValues S vs n) where
  module _ (p a : Assignment) (q c : Names Table) (I : Instance S o p q) (C : Canonical S o p a c) where
    abbrev ty : List TypeEntry
    ty = (here S p).types

    abbrev W : Vals
    W = with_each-name (env_of S p a).vals

    abbrev N : Vals → Env
    N h = tables_with S p (q ++ c) h

    record Viewed (x : Text) (w : Ex) (h : Vals) : Type 0 where
      v : Value
      means : meaning w (N h) ≡ Some v
      meets : Meets w (N h)
      has : look W x ≡ Some v

    at-position : (x : Text) (v : Value) → look (env_of S p a).vals x ≡ Some v → look W x ≡ Some (with_positions v)
    at-position x v e = look-with (env_of S p a).vals x ∙ ap (option_map with_positions) e

    of-view : (x : Text) (w : Ex) (h : Vals) → ViewOf S o x w → Viewed x w h
    of-view x w h u = go u.f u.planned
      where
        dom : domain_of u.e (N h) ≡ plan_domain u.d (here S p)
        dom = u.domain p q c h I

        distinct : all_distinct (keys q ++ keys c) ≡ true
        distinct = ap all_distinct (sym (keys-append q c))
            ∙ both-differ S o L.ground p q I c (matched-keys S o M L p q I a c
            (canonical-matched S o M L p q I a c C.members C.tables))

        right-key : (y : Text) (t : Table) → look c y ≡ Some t → look (q ++ c) y ≡ Some t
        right-key y t e = look-right q c y (out (is_among (keys q) y) refl) ∙ e
          where
            out : (b : Bool) → is_among (keys q) y ≡ b → is_among (keys q) y ≡ false
            out false r = r
            out true r =
                let z = at-item (λ x. is_among (keys c) x ≡ false) (keys q) y (halves (keys q) (keys c) distinct).2
                (among-in (keys q) y r)
                in
                let k : true ≡ false = sym (in-among (keys c) y (look-key c y t e)) ∙ z in cc

        go : (f : Side) → In (value_plan f x u.r u.d u.ns) (plans S o) → Viewed x w h
        go givens_side i =
            let F = given-found S o L.ground p q I x u.r u.d u.ns i in
            let nm = tables-lift q (q ++ c) (λ n t e. look-left q c n t e) (keys u.ns) F.0 F.2 in
            record {
              v = with_positions F.1.v;
              means = ap (λ y. meaning y (N h)) u.is ∙ view-value S p p x u.r u.d u.ns F.0 F.1 (q ++ c) u.e h nm dom;
              meets = subst (λ y. Meets y (N h)) (sym u.is) (view-is-tidy S p p x u.r u.d u.ns F.0 F.1 (q ++ c) u.e h nm dom
                  (u.meets p q c h I));
              has = at-position x F.1.v (values.of_given p a x u.d F.1.v I.param
                  (given-from (prepared S) o (all_declared S) _ x u.r u.d u.ns i) F.1.value);
            }
        go finds_side i =
            let F = at-item (Found S o M L p q I a c) (plans_for finds_side S o) (value_plan finds_side x u.r u.d u.ns)
            (matched-found S o M L p q I a c (canonical-matched S o M L p q I a c C.members C.tables))
            (in-filtered (is_on finds_side) (value_plan finds_side x u.r u.d u.ns) (plans S o) i refl) in
            let nm = tables-lift c (q ++ c) right-key (keys u.ns) F.0 F.2 in
            record {
              v = with_positions F.1.v;
              means = ap (λ y. meaning y (N h)) u.is ∙ view-value S p a x u.r u.d u.ns F.0 F.1 (q ++ c) u.e h nm dom;
              meets = subst (λ y. Meets y (N h)) (sym u.is) (view-is-tidy S p a x u.r u.d u.ns F.0 F.1 (q ++ c) u.e h nm dom
                  (u.meets p q c h I));
              has = at-position x F.1.v (values.of_find p a x u.d F.1.v I.param (plan-is-found S o x u.r u.d u.ns i) F.1.value);
            }

    view-here : (x : Text) (w : Ex) (h : Vals) → Shown S o x w → Viewed x w h
    view-here x w h (by_view u) = of-view x w h u
    view-here x w h (by_position u) = record {
      v = number (pos u.k);
      means = ap (λ y. meaning y (N h)) u.is;
      meets = subst (λ y. Meets y (N h)) (sym u.is) tt;
      has = at-position x (item u.t u.k) (u.value p a I.param);
    }

    -- Names of views keep their values, others have those of generators.
    abbrev R : Vals → Vals → Type 0
    R g h = (x : Text) → IsTrue (n x) → (is_among (keys vs) x ≡ true → look g x ≡ look W x) ×
        (is_among (keys vs) x ≡ false → look h x ≡ look g x)

    abbrev unviewed : Text → Bool
    unviewed x = not (is_among (keys vs) x)

    the-view : (x : Text) (w : Ex) (h : Vals) → look vs x ≡ Some w → Viewed x w h
    the-view x w h e = view-here x w h (at-item (λ z. Shown S o z.0 z.1) vs (x, w) views (look-in vs x w e))

    at-name : (x : Text) (g h : Vals) → IsTrue (n x) → R g h → meaning (view_or_name vs x) (N h) ≡ look g x
    at-name x g h k r = go (look vs x) refl
      where
        go : (t : Option Ex) → look vs x ≡ t → meaning (or_default t (name_ex x)) (N h) ≡ look g x
        go None e = (r x k).1 (no-look vs x e)
        go (Some w) e = let u = the-view x w h e in u.means ∙ sym u.has ∙ sym ((r x k).0 (in-among (keys vs) x (look-key vs x w e)))

    at-bind : (y : Text) (v : Value) (g h : Vals) → IsTrue (unviewed y) → R g h → R ((y, v) ∷ g) ((y, v) ∷ h)
    at-bind y v g h b r x k = (λ e. inside e, λ e. ap (λ t. if same_text y x then Some v else t) ((r x k).1 e))
      where
        inside : is_among (keys vs) x ≡ true → (if same_text y x then Some v else look g x) ≡ look W x
        inside e = at (same_text y x) refl
          where
            at : (t : Bool) → same_text y x ≡ t → (if t then Some v else look g x) ≡ look W x
            at false q = (r x k).0 e
            at true q = let z : not true ≡ true = sym (ap not (ap (is_among (keys vs)) (same_text-equal y x q) ∙ e)) ∙ b in cc

    init : R W []
    init x k = (
      λ e. refl,
      λ e. sym (look-with (env_of S p a).vals x
          ∙ ap (option_map with_positions) (values.of_no_other p a x I.param k e)),
    )

    at-meets : (x : Text) (g h : Vals) → IsTrue (n x) → R g h → Meets (view_or_name vs x) (N h)
    at-meets x g h k r = go (look vs x) refl
      where
        go : (t : Option Ex) → look vs x ≡ t → Meets (or_default t (name_ex x)) (N h)
        go None e = tt
        go (Some w) e = (the-view x w h e).meets

    same-env : tables_with S p (q ++ c) W ≡ with_tables (env_of S p a) (q ++ c)
    same-env = ap (λ t. record { positions = true; types = t; vals = W; cells = q ++ c }) (sym (values.types p a I.param))

    view-kept-here : (e : Ex) → Plain e → NamesAre n unviewed e →
        (meaning (viewed vs e) (over_tables S p (q ++ c)) ≡ meaning e (with_tables (env_of S p a) (q ++ c))) × Meets (viewed vs e)
        (over_tables S p (q ++ c))
    view-kept-here e w b = (
      meaning-sim true ty (q ++ c) (view_or_name vs) n unviewed R at-name at-bind e W [] b init ∙ ap (meaning e) same-env,
      meets-sim true ty (q ++ c) (view_or_name vs) n unviewed R at-name at-bind at-meets e W [] b init
          (plain-meets e (tables_with S p (q ++ c) W) w),
    )

  -- Where a tree binds no name of a view, views in the place of names keep it, whatever types the names have.
  pub view-kept : (e : Ex) → Plain e → NamesAre n (λ x. not (is_among (keys vs) x)) e → ViewKept S o vs e
  view-kept e w b p a q c I C = view-kept-here p a q c I C e w b
