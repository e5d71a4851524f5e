-- The trees of constraints and declared tables of a specification of sets, and the first printed name.
use Rattle.std.proofs.Common.{◌≡◌, refl, sym, ap, ◌∙◌, subst, ℕ, zero, suc, ◌+◌, Bool, true, false, ◌||◌, not, if◌then◌else◌, List, [], ◌∷◌, ◌++◌, filter, length, codes, pos, inl, inr, option_map, nat_eq, arith}
use Rattle.std.specs.List.{list_any}
use Rattle.std.specs.Fmt.{decimal, digits}
use Rattle.ess_semantics.specs.declared.words.Op2.{Op2}
use Rattle.ess_semantics.specs.Lists.{or_default, item_number}
use Rattle.ess_semantics.specs.Values.{Text}
use Rattle.ess_semantics.specs.Order.{same_text}
use Rattle.ess_semantics.specs.Names.{Names, look, keys, is_among, without}
use Rattle.ess_semantics.specs.Trees.{number_ex, truth_ex, name_ex, no_exs, Stm, find, such_that, ex2}
use Rattle.ess_semantics.specs.Contexts.{Each}
use Rattle.ess_semantics.specs.TableNames.{free_within, free_name}
use Rattle.ess_semantics.specs.Plans.{Plan, value_plan, plans, plans_from, names_of_plans, finds_side, value_names, is_plan_of}
use Rattle.ess_semantics.specs.Parameters.{all_declared}
use Rattle.ess_semantics.proofs.Tests.{or-yes}
use Rattle.ess_semantics.proofs.Texts.{same_text-equal}
use Rattle.ess_guard_laws.specs.Guard.{make_natural}
use Rattle.ess_repr_laws.specs.Structure.{structure}
use Rattle.ess_repr_declare_laws.specs.SizeTerms.{size_terms}
use Rattle.ess_repr_declare_laws.specs.DeclaredTrees.{trees_below}
use Rattle.conjure_laws.specs.Members.{In}
use Rattle.conjure_laws.specs.SetsOfAtoms.{Atom, range, boolean, typed, Lit, num, truth_lit, value_name, Line, enum, given_type, unnamed, set_find, holds_lit, sets_of, membership, lit_ex, spec, TypeKind, none_declared, after_all}
use Rattle.conjure_laws.specs.ModelsOfSets.{no_options, table_of}
use Rattle.conjure_laws.proofs.Lists.{at-item, all-items}
use Rattle.conjure_laws.proofs.Statements.{plan-is-found, one-domain}
use Rattle.conjure_laws.proofs.SetNames.{finds-new}
use Rattle.conjure_laws.proofs.SetScopes.{Fine, prepared-itself}
use Rattle.conjure_laws.proofs.SetFacts.{AtomFact, Facts, LitFact}
use Rattle.conjure_laws.proofs.SetsSettled.{facts}
use Rattle.conjure_laws.proofs.SetPlans.{Occ, PlanFact, size_fact, occ_fact, all-facts}
use Rattle.conjure_laws.proofs.SetChannels.{occ_name, unfold-find}
use Rattle.conjure_laws.proofs.SetValues.{planned as find-planned, one-atom}
use Rattle.conjure_laws.proofs.WellTypedSets.{well-typed-fine}
use Rattle.conjure_model_laws.specs.ToldApart.{reserved}
use Rattle.conjure_model_laws.specs.Shown.{Shows, shows_of}
use Rattle.conjure_model_laws.specs.IsBuiltFrom.{constraint_tree, structure_tree, channel_trees, with_whole_names, declared_of, taken_names}
use Rattle.conjure_model_laws.specs.Printed.{q_names, printed_name}
use Rattle.ess_member_models_laws.specs.ess_member_trees_laws.Memberships.{Literal, a_number, a_truth, asked}
use Rattle.ess_member_models_laws.specs.MemberModels.{shown_literal, axis_at, table_decl}
use Rattle.ess_member_models_laws.proofs.MemberTables.{axis-is}
use Rattle.ess_member_shows_laws.specs.Laws.{IsShown, MembershipsAreShown}
use Rattle.ess_member_shows_laws.proofs.FindPlans.{one-plan}
use Rattle.ess_member_shows_laws.proofs.ShownNames.{shows-all, found-shown}

-- ---- names with an underscore

-- Whether the text has one.
abbrev has_score : Text → Bool
has_score a = list_any (nat_eq 95) a

score-behind : (a b : Text) → has_score b ≡ true → has_score (a ++ b) ≡ true
score-behind [] b h = h
score-behind (c ∷ a) b h = ap (λ z. nat_eq 95 c || z) (score-behind a b h) ∙ or-yes (nat_eq 95 c)

score-stays : (k : ℕ) (taken : List Text) (a : Text) → has_score a ≡ true → has_score (free_within k taken a) ≡ true
score-stays zero taken a h = h
score-stays (suc k) taken a h = go (is_among taken a) (score-stays k taken (a ++ codes "_") (score-behind a (codes "_") refl))
  where
    go : (b : Bool) → has_score (free_within k taken (a ++ codes "_")) ≡ true →
        has_score (if b then free_within k taken (a ++ codes "_") else a) ≡ true
    go true f = f
    go false f = h

not-first : (n : Text) → has_score n ≡ true → same_text n (codes "q1") ≡ false
not-first n h = go (same_text n (codes "q1")) refl
  where
    go : (b : Bool) → same_text n (codes "q1") ≡ b → same_text n (codes "q1") ≡ false
    go false e = e
    go true e = let z : false ≡ true = ap has_score (sym (same_text-equal n (codes "q1") e)) ∙ h in cc

-- No table has the name.
no-table : (U : List Line) (declared done : List Text) →
    is_among (keys (names_of_plans (plans_from (spec U) no_options declared done))) (codes "q1") ≡ false
no-table [] declared done = refl
no-table (enum t ns ∷ U) declared done = no-table U declared done
no-table (unnamed t n ∷ U) declared done = no-table U declared done
no-table (holds_lit l x ∷ U) declared done = no-table U declared done
no-table (given_type t ∷ U) declared done =
    let n : Text = free_name (declared ++ done) (t ++ codes "_Size") in
    ap (λ b. b || is_among (keys (names_of_plans (plans_from (spec U) no_options declared (n ∷ done)))) (codes "q1"))
    (not-first n (score-stays (suc (length (declared ++ done))) (declared ++ done) (t ++ codes "_Size") (score-behind t
    (codes "_Size") refl)))
    ∙ no-table U declared (n ∷ done)
no-table (set_find x A ∷ U) declared done =
    let n : Text = occ_name x declared done in
    ap (λ l. is_among (keys (names_of_plans l)) (codes "q1")) (unfold-find x A U declared done)
    ∙ ap (λ b. b || is_among (keys (names_of_plans (plans_from (spec U) no_options declared (n ∷ done)))) (codes "q1"))
    (not-first n (score-stays (suc (length (without x declared ++ done))) (without x declared ++ done) (x ++ codes "_Occurrence")
    (score-behind x (codes "_Occurrence") refl)))
    ∙ no-table U declared (n ∷ done)

first-number : decimal 1 ≡ codes "1"
unfolding digits
first-number = refl

-- So it is the first that is printed.
printed-first : (taken : List Text) → is_among taken (codes "q1") ≡ false → printed_name taken 0 ≡ codes "q1"
printed-first taken h =
    ap (λ m. or_default (item_number (filter (λ a. not (is_among taken a)) (q_names 1 m)) 0) []) one
    ∙ ap (λ d. or_default (item_number (filter (λ a. not (is_among taken a)) ((codes "q" ++ d) ∷ q_names 2
    (length taken))) 0) []) first-number
    ∙ ap (λ b. or_default (item_number (if not b then codes "q1" ∷ filter (λ a. not (is_among taken a)) (q_names 2 (length taken)) else
    filter (λ a. not (is_among taken a)) (q_names 2 (length taken))) 0) []) h
  where
    one : suc 0 + length taken ≡ suc (length taken)
    one = omega arith

-- ---- literals

one-literal : (l m : Lit) → lit_ex l ≡ lit_ex m → l ≡ m
one-literal (num k) (num j) e = let z : k ≡ j = cc in ap num z
one-literal (truth_lit b) (truth_lit c) e = let z : b ≡ c = cc in ap truth_lit z
one-literal (value_name a) (value_name b) e = let z : a ≡ b = cc in ap value_name z
one-literal (num k) (truth_lit c) e = cc
one-literal (num k) (value_name b) e = cc
one-literal (truth_lit b) (num k) e = cc
one-literal (truth_lit b) (value_name c) e = cc
one-literal (value_name a) (num k) e = cc
one-literal (value_name a) (truth_lit b) e = cc

literal-is : (vs : Names (Text × ℕ)) (l : Lit) → Literal (shown_literal vs l)
literal-is vs (num k) = a_number
literal-is vs (truth_lit b) = a_truth
literal-is vs (value_name n) = a_number

module _ (T : List Line) (ok : Fine none_declared T) where
  abbrev S' : List Stm
  S' = spec T

  abbrev ks : Names TypeKind
  ks = (after_all T none_declared).types

  abbrev vs : Names (Text × ℕ)
  vs = (after_all T none_declared).values

  abbrev Ps : List Plan
  Ps = plans S' no_options

  abbrev sh : Shows
  sh = shows_of S' no_options

  -- What is known of the literal of a constraint.
  abbrev Known : Lit → Text → Type 0
  Known l x = (A : Atom) × In (find x (sets_of A)) S' × LitFact T ok l A

  known-lit : (U : List Line) → Facts T ok U → (l : Lit) (x : Text) → In (such_that (membership l x)) (spec U) → Known l x
  known-lit [] f l x i = absurd i
  known-lit (enum t ns ∷ U) f l x (inl e) = cc
  known-lit (enum t ns ∷ U) f l x (inr i) = known-lit U f l x i
  known-lit (given_type t ∷ U) f l x (inl e) = cc
  known-lit (given_type t ∷ U) f l x (inr i) = known-lit U f l x i
  known-lit (unnamed t n ∷ U) f l x (inl e) = cc
  known-lit (unnamed t n ∷ U) f l x (inr i) = known-lit U f l x i
  known-lit (set_find y A ∷ U) f l x (inl e) = cc
  known-lit (set_find y A ∷ U) f l x (inr i) = known-lit U f.1 l x i
  known-lit (holds_lit m y ∷ U) f l x (inl e) =
      let p : x ≡ y = cc in
      let q : lit_ex l ≡ lit_ex m = cc in
      subst (λ z. Known l z) (sym p) (subst (λ z. Known z y) (sym (one-literal l m q)) f.0)
  known-lit (holds_lit m y ∷ U) f l x (inr i) = known-lit U f.1 l x i

  -- The tree of a constraint.
  tree-is : (l : Lit) (x : Text) (A : Atom) → In (find x (sets_of A)) S' → LitFact T ok l A →
      constraint_tree sh (membership l x) ≡ asked (table_of Ps x) (axis_at T A) (shown_literal vs l)
  tree-is (num k) x A i g =
      ap (λ o. make_natural (reserved 0) (reserved 1) (ex2 true Op2.Member (number_ex k) (or_default o (name_ex x))))
      (found-shown T ok x A i).0
  tree-is (truth_lit b) x A i g =
      ap (λ o. make_natural (reserved 0) (reserved 1) (ex2 true Op2.Member (truth_ex b) (or_default o (name_ex x))))
      (found-shown T ok x A i).0
  tree-is (value_name n) x (typed t) i g =
      let r = (shows-all T ok).values n t g.0 g.1 in
      ap (λ o. make_natural (reserved 0) (reserved 1) (ex2 true Op2.Member (or_default o (name_ex n)) (or_default (look sh.last x)
      (name_ex x)))) r.0
      ∙ ap (λ o. make_natural (reserved 0) (reserved 1) (ex2 true Op2.Member (number_ex (pos g.0)) (or_default o (name_ex x))))
      (found-shown T ok x (typed t) i).0
      ∙ ap (λ o. asked (table_of Ps x) (axis_at T (typed t)) (number_ex (pos (or_default (option_map (λ v. v.1) o) 0)))) (sym g.1)
  tree-is (value_name n) x (range a b) i g = absurd g
  tree-is (value_name n) x boolean i g = absurd g

  atom-of : (x : Text) (A : Atom) → In (find x (sets_of A)) S' → AtomFact T ok A
  atom-of x A i =
      let pl = find-planned T ok x (sets_of A) i in
      let fi : In (find x (sets_of pl.0)) S' = subst (In (find x (sets_of pl.0))) (prepared-itself T)
      (plan-is-found S' no_options x Occ (sets_of pl.0) ((table_of Ps x, 1) ∷ []) pl.2) in
      subst (AtomFact T ok)
      (one-atom T ok pl.0 A (one-domain (spec T) (finds-new T none_declared ok).1 x (sets_of pl.0) (sets_of A) fi i)) pl.1

  shown : (l : Lit) (x : Text) → In (such_that (membership l x)) S' → IsShown T l x
  shown l x i =
      let k = known-lit T (facts T ok) l x i in
      record {
        atom = k.0;
        found = k.1;
        axis = axis-is T ok k.0 (atom-of x k.0 k.1);
        literal = literal-is vs l;
        tree = tree-is l x k.0 k.1 k.2;
      }

  -- ---- declared tables

  plan-find : (x : Text) (A : Atom) (n : Text) → In (value_plan finds_side x Occ (sets_of A) ((n, 1) ∷ [])) Ps → In (find x (sets_of A)) S'
  plan-find x A n i = subst (In (find x (sets_of A))) (prepared-itself T) (plan-is-found S' no_options x Occ (sets_of A) ((n, 1) ∷ []) i)

  one-declared : (P : Plan) → In P Ps → PlanFact T ok P → declared_of sh P ≡ table_decl T P ∷ []
  one-declared P i (size_fact t n e) = subst (λ P. declared_of sh P ≡ table_decl T P ∷ []) (sym e) refl
  one-declared P i (occ_fact x A n e f) = subst (λ P. declared_of sh P ≡ table_decl T P ∷ []) (sym e)
      (ap (λ o. with_whole_names (n ∷ []) (trees_below false Occ (or_default o (sets_of A))))
      (found-shown T ok x A (plan-find x A n (subst (λ P. In P Ps) e i))).1)

  nothing-asked : (P : Plan) → In P Ps → PlanFact T ok P → structure_tree sh P ≡ truth_ex true
  nothing-asked P i (size_fact t n e) = subst (λ P. structure_tree sh P ≡ truth_ex true) (sym e) refl
  nothing-asked P i (occ_fact x A n e f) = subst (λ P. structure_tree sh P ≡ truth_ex true) (sym e)
      (ap (λ o. structure reserved size_terms Occ (or_default o (sets_of A)) (n ∷ []) sh.next no_exs)
      (found-shown T ok x A (plan-find x A n (subst (λ P. In P Ps) e i))).1)

  all-declared : Each Ps (λ P. declared_of sh P ≡ table_decl T P ∷ [])
  all-declared = all-items (λ P. declared_of sh P ≡ table_decl T P ∷ []) Ps
      (λ P i. one-declared P i (at-item (PlanFact T ok) Ps P (all-facts T ok) i))

  all-asked : Each Ps (λ P. structure_tree sh P ≡ truth_ex true)
  all-asked = all-items (λ P. structure_tree sh P ≡ truth_ex true) Ps
      (λ P i. nothing-asked P i (at-item (PlanFact T ok) Ps P (all-facts T ok) i))

  no-channels : (x : Text) → In x (value_names finds_side S') → channel_trees sh (filter (is_plan_of x) Ps) ≡ []
  no-channels x i = ap (channel_trees sh) (one-plan T ok x i).1

  first-name : printed_name (taken_names S' no_options) 0 ≡ codes "q1"
  first-name = printed-first (taken_names S' no_options)
      (ap (λ l. is_among (keys (names_of_plans (plans_from l no_options (all_declared S') (codes "alldifferent_except" ∷ []))))
      (codes "q1"))
      (prepared-itself T) ∙ no-table T (all_declared S') (codes "alldifferent_except" ∷ []))

-- All of it, of well typed specifications.
pub memberships-shown : MembershipsAreShown
memberships-shown = record {
  trees = λ T t. shown T (well-typed-fine T t);
  declared = λ T t. all-declared T (well-typed-fine T t);
  structures = λ T t. all-asked T (well-typed-fine T t);
  channels = λ T t. no-channels T (well-typed-fine T t);
  first_name = λ T t. first-name T (well-typed-fine T t);
}
