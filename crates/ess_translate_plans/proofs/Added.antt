-- Plans that are added request by request are the plans for all.
use Rattle.std.proofs.Common.{◌≡◌, refl, sym, ap, ◌∙◌, subst, ℕ, ◌+◌, ◌<◌, ◌≤◌, true, false, List, [], ◌∷◌, ◌++◌, map, drop, length, get_or, codes, append_assoc, Ok, Err, IfOk}
use Rattle.std.specs.declared.result.Result.{Result}
use Rattle.std.proofs.lemmas.List.{at_drop_more, at_drop_all, map-append}
use Rattle.ess_semantics.specs.declared.words.ReprKind.{ReprKind}
use Rattle.ess_semantics.specs.Values.{Text}
use Rattle.ess_semantics.specs.Lists.{append_all}
use Rattle.ess_semantics.specs.Names.{keys}
use Rattle.ess_semantics.specs.Contexts.{Each}
use Rattle.ess_semantics.specs.Kinds.{fits}
use Rattle.ess_semantics.specs.Trees as pure
use Rattle.ess_semantics.specs.Trees.{repr, no_reprs, bool_dom}
use Rattle.ess_semantics.specs.Parameters.{all_declared}
use Rattle.ess_semantics.specs.Prepared.{prepared}
use Rattle.ess_semantics.specs.TableNames.{table_names, named_tables, free_name}
use Rattle.ess_semantics.specs.Plans as pure_plans
use Rattle.ess_semantics.specs.Plans.{size_plan, names_of_plan, domain_of_stm, plans}
use Rattle.ess_core.specs.TreeViews.{pure_repr, pure_dom}
use Rattle.ess_core.specs.StatementViews.{pure_stm, pure_spec}
use Rattle.ess_core.specs.declared.representations.Repr.{Repr}
use Rattle.ess_core.specs.declared.statements.Stm.{Stm}
use Rattle.ess_parse.specs.declared.representations.named.NamedReprs.{NamedReprs}
use Rattle.ess_parse.specs.NamedReprViews.{pure_named_reprs}
use Rattle.ess_repr_declare_laws.specs.Laws.{Sound}
use Rattle.ess_types_scopes.specs.declared.added.Added.{Added}
use Rattle.ess_types_scopes.specs.Sets.{name_added, with_name}
use Rattle.ess_translate_header.specs.declared.headers.Header.{Header}
use Rattle.ess_translate_header.specs.Views.{pure_header}
use Rattle.ess_translate_plans_laws.specs.Requests.{Request, tables_of, all_tables_of, size_of, requests_of_stm, left_behind, requests, declared_beside, plan_for, plans_for_all, HasNumbers, IsRightRequest, SameNames}
use Rattle.ess_translate_plans_laws.specs.Laws.{taken_at_first}
use Rattle.ess_translate_plans_laws.proofs.InOrder.{plans-alike, come-in-order}
use Rattle.ess_translate_plans.specs.declared.plans.TableName.{TableName}
use Rattle.ess_translate_plans.specs.declared.plans.ValuePlan.{ValuePlan}
use Rattle.ess_translate_plans.specs.declared.plans.Plan.{Plan}
use Rattle.ess_translate_plans.specs.Views.{pure_side, pure_table_name, pure_value_plan, pure_plan, IsReadHeader}
use Rattle.ess_translate_plans.specs.Adding.{Adds}
use Rattle.ess_translate_plans.proofs.Turns.{one_more}
use Rattle.ess_translate_plans.proofs.Numbers.{stms-numbered}

-- ---- one plan

append-none : {A : Type 0} (l : List A) → l ++ [] ≡ l
append-none [] = refl
append-none (x ∷ xs) = ap (λ l. x ∷ l) (append-none xs)

-- A plan behind others is the one for a request, and its names are added.
plan-added : (q : Request) (D T more : List Text) (before after : List pure_plans.Plan) (p : pure_plans.Plan) →
    after ≡ before ++ p ∷ [] → p ≡ plan_for q D T →
    SameNames more (keys (names_of_plan (plan_for q D T)) ++ T) → (later : List Request) →
    after ++ plans_for_all later D more ≡ before ++ plans_for_all (q ∷ later) D T
plan-added q D T more before after p e f k later =
    let Q : pure_plans.Plan = plan_for q D T in
    let L : List Text = keys (names_of_plan Q) ++ T in
    ap (λ l. l ++ plans_for_all later D more) (e ∙ ap (λ r. before ++ r ∷ []) f)
    ∙ ap (λ l. (before ++ Q ∷ []) ++ l) (plans-alike later D D more L (λ a. refl) k)
    ∙ append_assoc before (Q ∷ []) (plans_for_all later D L)

pushed : (before after : List Plan) (p : Plan) → after ≡ before ++ p ∷ [] → map pure_plan after ≡ map pure_plan before ++ pure_plan p ∷ []
pushed before after p e = ap (map pure_plan) e ∙ map-append pure_plan before (p ∷ [])

-- The plan of a given or find by one representation.
pub one_added : (f : pure_plans.Side) (x : Text) (r : pure.Repr) (d : pure.Dom) (D T more : List Text) (ns : List TableName)
    (p : ValuePlan) (before after : List Plan) →
    (Sound d → fits r d ≡ true → map pure_table_name ns ≡ named_tables x (table_names r d) (declared_beside false x D ++ T)) →
    SameNames more (keys (map pure_table_name ns) ++ T) → pure_value_plan p ≡ pure_plans.value_plan f x r d (map pure_table_name ns) →
    after ≡ before ++ Plan.Value p ∷ [] → Adds (tables_of f x r d ∷ []) D (map pure_plan before) T (map pure_plan after) more
one_added f x r d D T more ns p before after n k v e = λ right later.
    let named = n right.0.1 right.0.0 in
    plan-added (tables_of f x r d) D T more (map pure_plan before) (map pure_plan after) (pure_value_plan p) (pushed before after
    (Plan.Value p) e)
    (v ∙ ap (pure_plans.value_plan f x r d) named) (subst (λ l. SameNames more (keys l ++ T)) named k) later

-- The cell of a given enumerated type.
pub size_added : (x : Text) (D T more : List Text) (a : Text) (u : Added) (before after : List Plan) →
    a ≡ free_name (D ++ T) (x ++ codes "_Size") →
    u ≡ name_added T a → more ≡ with_name u T a → after ≡ before ++ Plan.Size x a ∷ [] →
    Adds (size_of x ∷ []) D (map pure_plan before) T (map pure_plan after) more
size_added x D T more a u before after n g w e = λ right later.
    plan-added (size_of x) D T more (map pure_plan before) (map pure_plan after) (size_plan x a) (pushed before after (Plan.Size x a) e)
    (ap (size_plan x) n)
    (subst (λ b. SameNames more (b ∷ T)) n (subst (λ l. SameNames l (a ∷ T)) (sym (w ∙ ap (λ v. with_name v T a) g)) (one_more T a))) later

-- Its name.
pub size_named : (x whole : Text) (D T : List Text) (r : pure.Repr) (d : pure.Dom) (ns : List TableName) → whole ≡ x ++ codes "_Size" →
    r ≡ repr ReprKind.Atom no_reprs →
    d ≡ bool_dom → (Sound d → fits r d ≡ true → map pure_table_name ns
    ≡ named_tables whole (table_names r d) (declared_beside true x D ++ T)) →
    map pure_table_name ns ≡ (free_name (D ++ T) (x ++ codes "_Size"), 0) ∷ []
size_named x whole D T r d ns e f g n =
    n (subst Sound (sym g) tt) (ap (λ s. fits s d) f ∙ ap (fits (repr ReprKind.Atom no_reprs)) g)
    ∙ ap (λ s. named_tables whole (table_names s d) (D ++ T)) f
    ∙ ap (λ c. named_tables whole (table_names (repr ReprKind.Atom no_reprs) c) (D ++ T)) g
    ∙ ap (λ a. (free_name (D ++ T) a, 0) ∷ []) (append-none whole ∙ e)

heads : (a b : Text × ℕ) (l m : List (Text × ℕ)) → a ∷ l ≡ b ∷ m → a ≡ b
heads a b l m e = cc

pub first_name : (n : Text × ℕ) (ns more : List TableName) (c : TableName) → map pure_table_name ns ≡ n ∷ [] → ns ≡ c ∷ more → c.name ≡ n.0
first_name n ns more c h e =
    ap (λ m. m.0) (heads (pure_table_name c) n (map pure_table_name more) [] (ap (map pure_table_name) (sym e) ∙ h))

-- ---- several

-- What is right of requests is right of each part.
each-first : (P : Request → Type 0) (qs rs : List Request) → Each (qs ++ rs) P → Each qs P
each-first P [] rs h = tt
each-first P (q ∷ qs) rs h = (h.0, each-first P qs rs h.1)

each-later : (P : Request → Type 0) (qs rs : List Request) → Each (qs ++ rs) P → Each rs P
each-later P [] rs h = h
each-later P (q ∷ qs) rs h = each-later P qs rs h.1

-- Some are left of all; the plans so far, with those for what is left and for later requests, are the plans for all and the later ones.
abbrev pub Adding : List Request → List Request → List Text → List pure_plans.Plan → List Text → List pure_plans.Plan → List Text → Type 0
Adding left all D before done now more =
    Each all IsRightRequest → Each left IsRightRequest ×
    ((later : List Request) → now ++ plans_for_all (left ++ later) D more ≡ before ++ plans_for_all (all ++ later) D done)

adding-more : (qs left all : List Request) (D : List Text) (before : List pure_plans.Plan) (done : List Text)
    (now : List pure_plans.Plan) (more : List Text)
    (next : List pure_plans.Plan) (most : List Text) → Adding (qs ++ left) all D before done now more → Adds qs D now more next most →
    Adding left all D before done next most
adding-more qs left all D before done now more next most a k = λ r.
    let p = a r in (
      each-later IsRightRequest qs left p.0,
      λ later. k (each-first IsRightRequest qs left p.0) (left ++ later)
          ∙ ap (λ l. now ++ plans_for_all l D more) (sym (append_assoc qs left later)) ∙ p.1 later,
    )

-- ---- representations one after the other

abbrev pub asked : pure_plans.Side → Text → pure.Dom → List Repr → List Request
asked f x d ts = all_tables_of f x d (map pure_repr ts)

pub trees_none : (f : pure_plans.Side) (x : Text) (d : pure.Dom) (ts : List Repr) (D : List Text) (before : List pure_plans.Plan)
    (done : List Text) →
    Adding (asked f x d ts) (asked f x d ts) D before done before done
trees_none f x d ts D before done = λ r. (r, λ later. refl)

pub trees_more : (f : pure_plans.Side) (x : Text) (d : pure.Dom) (ts : List Repr) (i : ℕ) (t : Repr) (D : List Text)
    (before : List pure_plans.Plan) (done : List Text)
    (now : List pure_plans.Plan) (more : List Text) (next : List pure_plans.Plan) (most : List Text) → i < length ts → t ≡ get_or ts i t →
    Adding (asked f x d (drop i ts)) (asked f x d ts) D before done now more →
    Adds (tables_of f x (pure_repr t) d ∷ []) D now more next most →
    Adding (asked f x d (drop (i + 1) ts)) (asked f x d ts) D before done next most
trees_more f x d ts i t D before done now more next most h is a k =
    adding-more (tables_of f x (pure_repr t) d ∷ []) (asked f x d (drop (i + 1) ts)) (asked f x d ts) D before done now more next most
    (subst (λ l. Adding l (asked f x d ts) D before done now more)
    (at_drop_more (asked f x d) ts i t h ∙ ap (λ s. tables_of f x (pure_repr s) d ∷ asked f x d (drop (i + 1) ts)) (sym is)) a) k

pub trees_all : (f : pure_plans.Side) (x : Text) (d : pure.Dom) (ts : List Repr) (i : ℕ) (D : List Text) (before : List pure_plans.Plan)
    (done : List Text)
    (now : List pure_plans.Plan) (more : List Text) → length ts ≤ i →
    Adding (asked f x d (drop i ts)) (asked f x d ts) D before done now more →
    Adds (asked f x d ts) D before done now more
trees_all f x d ts i D before done now more h a = λ r later.
    let p = subst (λ l. Adding l (asked f x d ts) D before done now more) (at_drop_all (asked f x d) ts i h) a r in p.1 later

-- ---- statements one after the other

abbrev pub asked_by : List Stm → List NamedReprs → List Request
asked_by ss rs = requests (map pure_stm ss) (map pure_named_reprs rs)

pub plans_none : (ss : List Stm) (rs : List NamedReprs) (D done : List Text) → done ≡ taken_at_first →
    Adding (asked_by ss rs) (asked_by ss rs) D [] taken_at_first [] done
plans_none ss rs D done e = subst (λ l. Adding (asked_by ss rs) (asked_by ss rs) D [] taken_at_first [] l) (sym e) (λ r. (r, λ later. refl))

pub plans_more : (ss : List Stm) (i : ℕ) (s : Stm) (all : List Request) (rest left : List NamedReprs) (D : List Text)
    (now : List pure_plans.Plan) (more : List Text)
    (next : List pure_plans.Plan) (most : List Text) → i < length ss → s ≡ get_or ss i s →
    Adding (asked_by (drop i ss) rest) all D [] taken_at_first now more →
    map pure_named_reprs left ≡ left_behind (pure_stm s) (map pure_named_reprs rest) →
    Adds (requests_of_stm (pure_stm s) (map pure_named_reprs rest)) D now more next most →
    Adding (asked_by (drop (i + 1) ss) left) all D [] taken_at_first next most
plans_more ss i s all rest left D now more next most h is a e k =
    let R = map pure_named_reprs rest in
    adding-more (requests_of_stm (pure_stm s) R) (asked_by (drop (i + 1) ss) left) all D [] taken_at_first now more next most
    (subst (λ l. Adding l all D [] taken_at_first now more)
    (at_drop_more (λ us. asked_by us rest) ss i s h
    ∙ ap (λ u. requests_of_stm (pure_stm u) R ++ requests (map pure_stm (drop (i + 1) ss)) (left_behind (pure_stm u) R)) (sym is)
    ∙ ap (λ q. requests_of_stm (pure_stm s) R ++ requests (map pure_stm (drop (i + 1) ss)) q) (sym e)) a) k

pub plans_all : (ss : List Stm) (i : ℕ) (all : List Request) (rest : List NamedReprs) (D : List Text) (now : List pure_plans.Plan)
    (more : List Text) → length ss ≤ i →
    Adding (asked_by (drop i ss) rest) all D [] taken_at_first now more → Each all IsRightRequest → now ≡ plans_for_all all D taken_at_first
plans_all ss i all rest D now more h a r =
    let p = subst (λ l. Adding l all D [] taken_at_first now more) (at_drop_all (λ us. asked_by us rest) ss i h) a r in
    sym (append-none now) ∙ p.1 [] ∙ ap (λ l. plans_for_all l D taken_at_first) (append-none all)

-- ---- the whole

-- The plans of a header that was read.
pub planned : (h : Header) (ps : List pure_plans.Plan) (D : List Text) → SameNames D (all_declared (pure_spec h.spec.spec)) →
    (Each (asked_by h.spec.prepared.stms h.reprs) IsRightRequest →
    ps ≡ plans_for_all (asked_by h.spec.prepared.stms h.reprs) D taken_at_first) → IsReadHeader h →
    ps ≡ plans (pure_header h).statements (pure_header h).reprs
planned h ps D s k i =
    let S = pure_spec h.spec.spec in
    let R = map pure_named_reprs h.reprs in
    let c = come-in-order S R i.ours.typed i.ours.represented
    (subst (λ q. Each (append_all (map domain_of_stm q)) (λ x. HasNumbers x.1)) i.prepared (stms-numbered h.spec.prepared.stms)) in
    k (subst (λ q. Each (requests q R) IsRightRequest) (sym i.prepared) c.right)
    ∙ ap (λ q. plans_for_all (requests q R) D taken_at_first) i.prepared
    ∙ plans-alike (requests (prepared S) R) D (all_declared S) taken_at_first taken_at_first s (λ a. refl) ∙ c.plans

-- So are those that are answered.
pub plans_answered : {E : Type 0} (h : Header) (r : Result (List Plan) E) (D : List Text) → SameNames D (all_declared (pure_spec h.spec.spec)) →
    IfOk r (λ ps. Each (asked_by h.spec.prepared.stms h.reprs) IsRightRequest →
    map pure_plan ps ≡ plans_for_all (asked_by h.spec.prepared.stms h.reprs) D taken_at_first) → IsReadHeader h →
    IfOk r (λ ps. map pure_plan ps ≡ plans (pure_header h).statements (pure_header h).reprs)
plans_answered h (Err why) D s k i = tt
plans_answered h (Ok ps) D s k i = planned h (map pure_plan ps) D s k i
