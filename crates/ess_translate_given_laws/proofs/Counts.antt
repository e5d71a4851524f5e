-- The first given or find with too many cells is found plan by plan: names stand in the order of their plans, and one without plans has
-- no cells.
use Rattle.std.proofs.Common.{◌≡◌, refl, sym, ap, ◌∙◌, subst, ℕ, Bool, true, false, if◌then◌else◌, List, [], ◌∷◌, ◌++◌, map, filter, ◌⊎◌, inl, inr, Option, Some, nat_le, append_assoc}
use Rattle.ess_semantics.specs.Lists.{append_all, is_empty}
use Rattle.ess_semantics.specs.Values.{Text}
use Rattle.ess_semantics.specs.Order.{same_text}
use Rattle.ess_semantics.specs.Names.{Names, look, keys, all_distinct, without}
use Rattle.ess_semantics.specs.Trees.{Repr, Dom, Stm, given, given_enum, let_ex, let_dom, let_enum, let_unnamed, needs, find, such_that, minimise, maximise}
use Rattle.ess_semantics.specs.TableNames.{Named, table_names, named_tables}
use Rattle.ess_semantics.specs.Contexts.{Each}
use Rattle.ess_semantics.specs.Meaning.{Env}
use Rattle.ess_semantics.specs.Prepared.{prepared}
use Rattle.ess_semantics.specs.Assignments.{Assignment}
use Rattle.ess_semantics.specs.Parameters.{all_declared}
use Rattle.ess_semantics.specs.Plans.{Options, chosen_reprs, domain_of_stm, kept_names, Side, givens_side, finds_side, Plan, size_plan, value_plan, names_of_plans, plans_of_name, plans_of_stm, plans_from, plans, cells_of_plans, is_plan_for, cells_of_name}
use Rattle.ess_semantics.proofs.Texts.{same_text-equal}
use Rattle.conjure_laws.specs.Members.{In}
use Rattle.conjure_laws.specs.Premises.{here}
use Rattle.conjure_laws.proofs.Lists.{all-items, at-item, in-either, in-left, in-right}
use Rattle.conjure_laws.proofs.NamedTables.{look-middle}
use Rattle.conjure_laws.proofs.JudgedDistinct.{kept-distinct}
use Rattle.ess_translate_given_laws.specs.Counts.{cell_limit, first_above, first_plan_above}
use Rattle.ess_translate_given_laws.specs.Laws.{TooManyByPlans}
use Rattle.ess_translate_given_laws.proofs.ChosenReprs.{well-typed}

-- The givens and finds of some statements.
abbrev kept_of : List Stm → Names Dom
kept_of T = append_all (map domain_of_stm T)

-- ---- names in the order of their plans

-- The plans of a name, and then others: the name's number counts where there is a plan.
name-above : (f : Text → ℕ) (s : Side) (x : Text) (d : Dom) (rs : List Repr) (taken : List Text) (Ps : List Plan) →
    first_plan_above f (plans_of_name s x d rs taken ++ Ps) ≡
    (if is_empty rs then first_plan_above f Ps else if nat_le (f x) cell_limit then first_plan_above f Ps else Some (x, f x))
name-above f s x d [] taken Ps = refl
name-above f s x d (r ∷ rs) taken Ps =
    let ns = named_tables x (table_names r d) taken in
    go (nat_le (f x) cell_limit) (is_empty rs) (name-above f s x d rs (keys ns ++ taken) Ps)
  where
    R : Option (Text × ℕ)
    R = first_plan_above f (plans_of_name s x d rs (keys (named_tables x (table_names r d) taken) ++ taken) ++ Ps)

    go : (b e : Bool) →
        R ≡ (if e then first_plan_above f Ps else if b then first_plan_above f Ps else Some (x, f x)) →
        (if b then R else Some (x, f x)) ≡ (if b then first_plan_above f Ps else Some (x, f x))
    go true true h = h
    go true false h = h
    go false e h = refl

-- A name without representations is not above the limit.
abbrev FewWithout : (Text → ℕ) → Options → Text × Dom → Type 0
FewWithout f o x = is_empty (chosen_reprs o x.0 x.1) ≡ true → nat_le (f x.0) cell_limit ≡ true

name-first : (f : Text → ℕ) (s : Side) (x : Text) (d : Dom) (rs : List Repr) (taken : List Text) (Ps : List Plan) (xs : List Text) →
    (is_empty rs ≡ true → nat_le (f x) cell_limit ≡ true) → first_above f xs ≡ first_plan_above f Ps →
    first_above f (x ∷ xs) ≡ first_plan_above f (plans_of_name s x d rs taken ++ Ps)
name-first f s x d rs taken Ps xs k h = go (is_empty rs) (nat_le (f x) cell_limit) k ∙ sym (name-above f s x d rs taken Ps)
  where
    go : (e b : Bool) → (e ≡ true → b ≡ true) →
        (if b then first_above f xs else Some (x, f x)) ≡
        (if e then first_plan_above f Ps else if b then first_plan_above f Ps else Some (x, f x))
    go true true k = h
    go false true k = h
    go false false k = refl
    go true false k = let z : false ≡ true = k refl in cc

-- statement by statement
first-from : (f : Text → ℕ) (o : Options) (T : List Stm) (declared done : List Text) → Each (kept_of T) (FewWithout f o) →
    first_above f (keys (kept_of T)) ≡ first_plan_above f (plans_from T o declared done)
first-from f o [] declared done h = refl
first-from f o (given x d ∷ T) declared done h =
    let ps = plans_of_stm (given x d) o declared done in
    name-first f givens_side x d (chosen_reprs o x d) (without x declared ++ done)
    (plans_from T o declared (keys (names_of_plans ps) ++ done)) (keys (kept_of T)) h.0
    (first-from f o T declared (keys (names_of_plans ps) ++ done) h.1)
first-from f o (find x d ∷ T) declared done h =
    let ps = plans_of_stm (find x d) o declared done in
    name-first f finds_side x d (chosen_reprs o x d) (without x declared ++ done)
    (plans_from T o declared (keys (names_of_plans ps) ++ done)) (keys (kept_of T)) h.0
    (first-from f o T declared (keys (names_of_plans ps) ++ done) h.1)
first-from f o (given_enum t ∷ T) declared done h = first-from f o T declared _ h
first-from f o (let_ex x e ∷ T) declared done h = first-from f o T declared done h
first-from f o (let_dom x d ∷ T) declared done h = first-from f o T declared done h
first-from f o (let_enum t ns ∷ T) declared done h = first-from f o T declared done h
first-from f o (let_unnamed t e ∷ T) declared done h = first-from f o T declared done h
first-from f o (needs e ∷ T) declared done h = first-from f o T declared done h
first-from f o (such_that e ∷ T) declared done h = first-from f o T declared done h
first-from f o (minimise e ∷ T) declared done h = first-from f o T declared done h
first-from f o (maximise e ∷ T) declared done h = first-from f o T declared done h

-- ---- a name without plans

-- A plan is one of a given or find with a representation.
record PlanOf (xs : Names Dom) (o : Options) (y : Text) (e : Dom) : Type 0 where
  kept : In (y, e) xs
  chosen : is_empty (chosen_reprs o y e) ≡ false

named-of-name : (f : Side) (x : Text) (d : Dom) (rs : List Repr) (taken : List Text) (g : Side) (y : Text) (r : Repr) (e : Dom)
    (ns : List Named) → In (value_plan g y r e ns) (plans_of_name f x d rs taken) → (y ≡ x) × (e ≡ d) × (is_empty rs ≡ false)
named-of-name f x d [] taken g y r e ns i = absurd i
named-of-name f x d (q ∷ rs) taken g y r e ns (inl h) = (cc, cc, refl)
named-of-name f x d (q ∷ rs) taken g y r e ns (inr i) =
    let h = named-of-name f x d rs (keys (named_tables x (table_names q d) taken) ++ taken) g y r e ns i in (h.0, h.1, refl)

at-name : (f : Side) (x : Text) (d : Dom) (o : Options) (taken : List Text) (g : Side) (y : Text) (r : Repr) (e : Dom)
    (ns : List Named) → In (value_plan g y r e ns) (plans_of_name f x d (chosen_reprs o x d) taken) → PlanOf ((x, d) ∷ []) o y e
at-name f x d o taken g y r e ns i =
    let h = named-of-name f x d (chosen_reprs o x d) taken g y r e ns i in record {
      kept = inl (ap (λ z. (z, e)) h.0 ∙ ap (λ z. (x, z)) h.1);
      chosen = ap (λ z. is_empty (chosen_reprs o z e)) h.0 ∙ ap (λ z. is_empty (chosen_reprs o x z)) h.1 ∙ h.2;
    }

named-of-stm : (s : Stm) (o : Options) (declared done : List Text) (g : Side) (y : Text) (r : Repr) (e : Dom) (ns : List Named) →
    In (value_plan g y r e ns) (plans_of_stm s o declared done) → PlanOf (domain_of_stm s) o y e
named-of-stm (given x d) o declared done g y r e ns i = at-name givens_side x d o (without x declared ++ done) g y r e ns i
named-of-stm (find x d) o declared done g y r e ns i = at-name finds_side x d o (without x declared ++ done) g y r e ns i
named-of-stm (given_enum t) o declared done g y r e ns (inl h) = cc
named-of-stm (given_enum t) o declared done g y r e ns (inr i) = absurd i
named-of-stm (let_ex x b) o declared done g y r e ns i = absurd i
named-of-stm (let_dom x d) o declared done g y r e ns i = absurd i
named-of-stm (let_enum t b) o declared done g y r e ns i = absurd i
named-of-stm (let_unnamed t b) o declared done g y r e ns i = absurd i
named-of-stm (needs b) o declared done g y r e ns i = absurd i
named-of-stm (such_that b) o declared done g y r e ns i = absurd i
named-of-stm (minimise b) o declared done g y r e ns i = absurd i
named-of-stm (maximise b) o declared done g y r e ns i = absurd i

named-from : (T : List Stm) (o : Options) (declared done : List Text) (g : Side) (y : Text) (r : Repr) (e : Dom) (ns : List Named) →
    In (value_plan g y r e ns) (plans_from T o declared done) → PlanOf (kept_of T) o y e
named-from [] o declared done g y r e ns i = absurd i
named-from (s ∷ T) o declared done g y r e ns i =
    let ps = plans_of_stm s o declared done in
    go (in-either (value_plan g y r e ns) ps (plans_from T o declared (keys (names_of_plans ps) ++ done)) i)
    (named-from T o declared (keys (names_of_plans ps) ++ done) g y r e ns)
  where
    go : In (value_plan g y r e ns) (plans_of_stm s o declared done) ⊎ In (value_plan g y r e ns)
        (plans_from T o declared (keys (names_of_plans (plans_of_stm s o declared done)) ++ done)) →
        (In (value_plan g y r e ns) (plans_from T o declared (keys (names_of_plans (plans_of_stm s o declared done)) ++ done)) →
        PlanOf (kept_of T) o y e) → PlanOf (domain_of_stm s ++ kept_of T) o y e
    go (inl j) k =
        let h = named-of-stm s o declared done g y r e ns j in
        record { kept = in-left (y, e) (domain_of_stm s) (kept_of T) h.kept; chosen = h.chosen }
    go (inr j) k = let h = k j in record { kept = in-right (y, e) (domain_of_stm s) (kept_of T) h.kept; chosen = h.chosen }

-- Where no name stands twice, each is found with what it stands with.
each-looked : (bs cs : Names Dom) → all_distinct (keys (bs ++ cs)) ≡ true → Each cs (λ x. look (bs ++ cs) x.0 ≡ Some x.1)
each-looked bs [] h = tt
each-looked bs (x ∷ cs) h = (
  look-middle bs cs x.0 x.1 h,
  subst (λ l. Each cs (λ y. look l y.0 ≡ Some y.1)) (append_assoc bs (x ∷ []) cs)
      (each-looked (bs ++ (x ∷ [])) cs (ap (λ l. all_distinct (keys l)) (append_assoc bs (x ∷ []) cs) ∙ h)),
)

-- So its domain is one.
one-domain : (xs : Names Dom) → all_distinct (keys xs) ≡ true → (x : Text) (d e : Dom) → In (x, d) xs → In (x, e) xs → d ≡ e
one-domain xs h x d e i j =
    let l = each-looked [] xs h in
    let a = at-item (λ y. look xs y.0 ≡ Some y.1) xs (x, d) l i in
    let b = at-item (λ y. look xs y.0 ≡ Some y.1) xs (x, e) l j in
    let z : Some d ≡ Some e = sym a ∙ b in cc

-- No plan is one of x: it has no cells.
no-cells : (x : Text) (env : Env) (Ps : List Plan) → Each Ps (λ P. is_plan_for x P ≡ false) →
    cells_of_plans env (filter (is_plan_for x) Ps) ≡ 0
no-cells x env [] h = refl
no-cells x env (P ∷ Ps) h =
    ap (λ b. cells_of_plans env (if b then P ∷ filter (is_plan_for x) Ps else filter (is_plan_for x) Ps)) h.0 ∙ no-cells x env Ps h.1

module _ (S : List Stm) (o : Options) (distinct : all_distinct (keys (kept_names S)) ≡ true) where
  not-one : (x : Text) (d : Dom) → In (x, d) (kept_names S) → is_empty (chosen_reprs o x d) ≡ true → (P : Plan) → In P (plans S o) →
      is_plan_for x P ≡ false
  not-one x d i k (size_plan t a) j = refl
  not-one x d i k (value_plan g y r e ns) j = go (same_text y x) refl
    where
      go : (b : Bool) → same_text y x ≡ b → b ≡ false
      go false q = refl
      go true q =
          let n = named-from (prepared S) o (all_declared S) _ g y r e ns j in
          let m : In (x, e) (kept_names S) = subst (λ z. In (z, e) (kept_names S)) (same_text-equal y x q) n.kept in
          let f : is_empty (chosen_reprs o x d) ≡ false =
          ap (λ z. is_empty (chosen_reprs o x z)) (one-domain (kept_names S) distinct x d e i m)
          ∙ ap (λ z. is_empty (chosen_reprs o z e)) (sym (same_text-equal y x q)) ∙ n.chosen in
          let z : true ≡ false = sym k ∙ f in cc

  few : (p : Assignment) (x : Text × Dom) → In x (kept_names S) → FewWithout (cells_of_name S o p) o x
  few p x i k =
      ap (λ n. nat_le n cell_limit)
      (no-cells x.0 (here S p) (plans S o) (all-items (λ P. is_plan_for x.0 P ≡ false) (plans S o) (not-one x.0 x.1 i k)))

  -- The first name with too many cells is that of the first plan.
  pub first-by-plans : (p : Assignment) →
      first_above (cells_of_name S o p) (keys (kept_names S)) ≡ first_plan_above (cells_of_name S o p) (plans S o)
  first-by-plans p =
      first-from (cells_of_name S o p) o (prepared S) (all_declared S) _
      (all-items (FewWithout (cells_of_name S o p) o) (kept_names S) (few p))

-- So it is for each header of this tool.
pub too-many-by-plans : TooManyByPlans
too-many-by-plans H p h =
    first-by-plans H.statements H.reprs (kept-distinct H.statements (well-typed H.statements h.typed)) p
