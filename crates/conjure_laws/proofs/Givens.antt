-- The given tables of a parameter, plan by plan, and all tables together.
use Rattle.std.proofs.Common.{◌≡◌, refl, sym, ap, ◌∙◌, subst, Bool, true, false, ◌||◌, if◌then◌else◌, List, [], ◌∷◌, ◌++◌, filter, length, ◌⊎◌, inl, inr, Option, Some, None, option_map, pos}
use Rattle.ess_semantics.specs.Lists.{append_all, and_then, each_of}
use Rattle.ess_semantics.specs.Values.{Text}
use Rattle.ess_semantics.specs.Names.{Names, look, keys, is_among, all_distinct, without}
use Rattle.ess_semantics.specs.Trees.{Repr, Dom, Stm, given, given_enum, let_ex, let_dom, let_enum, let_unnamed, needs, find, such_that, minimise, maximise}
use Rattle.ess_semantics.specs.Domains.{Domain}
use Rattle.ess_semantics.specs.Membership.{member}
use Rattle.ess_semantics.specs.Tables.{Table, Tables, one_cell}
use Rattle.ess_semantics.specs.TableNames.{Named, table_names, named_tables}
use Rattle.ess_semantics.specs.Meaning.{Env, domain_of, tables_in}
use Rattle.ess_semantics.specs.Prepared.{prepared}
use Rattle.ess_semantics.specs.Assignments.{Assignment, value_of, nothing_given, placed}
use Rattle.ess_semantics.specs.Parameters.{is_member, given_is_member, all_declared}
use Rattle.ess_semantics.specs.Plans.{Options, chosen_reprs, Plan, size_plan, value_plan, names_of_plan, names_of_plans, plans_of_name, plans_of_stm, plans_from, plans, plans_for, table_list, name_tables, canonical_by_plan, Side, givens_side, finds_side, same_side, side_of}
use Rattle.conjure_laws.specs.Premises.{is_on, Instance, here, IsSettled, PlanFits, Ground}
use Rattle.ess_semantics.proofs.Tests.{some-and}
use Rattle.ess_semantics.specs.Contexts.{Each}
use Rattle.conjure_laws.proofs.Lists.{each-both, each-of-list, at-item, all-items, in-either, in-filtered, in-filter, along-map, along-both, left-of}
use Rattle.conjure_laws.specs.Members.{In}
use Rattle.conjure_laws.specs.SideBySide.{Along}
use Rattle.conjure_laws.proofs.NamedTables.{chunks, AsMany, chunks-named, chunks-keys, keys-append, among-in, in-among}
use Rattle.conjure_laws.proofs.FreeNames.{names-differ, all-names-differ, among-append, halves, join-halves, distinct-filter, among-filter}
use Rattle.conjure_laws.proofs.PlacedStatements.{at-place}
use Rattle.conjure_laws.proofs.Matching.{Match, Fits, match-of, canonical-chunk}

-- ---- givens

given-of-name : (f : Side) (x : Text) (d : Dom) (rs : List Repr) (taken : List Text) (g : Side) (y : Text) (r : Repr) (e : Dom)
    (ns : List Named) →
    In (value_plan g y r e ns) (plans_of_name f x d rs taken) → (g ≡ f) × (y ≡ x) × (e ≡ d)
given-of-name f x d [] taken g y r e ns i = absurd i
given-of-name f x d (r' ∷ rs) taken g y r e ns (inl q) = (cc, cc, cc)
given-of-name f x d (r' ∷ rs) taken g y r e ns (inr i) =
    given-of-name f x d rs (keys (named_tables x (table_names r' d) taken) ++ taken) g y r e ns i

given-of-stm : (s : Stm) (o : Options) (declared done : List Text) (y : Text) (r : Repr) (e : Dom) (ns : List Named) →
    In (value_plan givens_side y r e ns) (plans_of_stm s o declared done) → given y e ≡ s
given-of-stm (find x d) o declared done y r e ns i = let h =
    given-of-name finds_side x d (chosen_reprs o x d) (without x declared ++ done) givens_side y r e ns i in
    let z : givens_side ≡ finds_side = h.0 in cc
given-of-stm (given_enum t) o declared done y r e ns (inl q) = cc
given-of-stm (given_enum t) o declared done y r e ns (inr i) = absurd i
given-of-stm (let_ex x d) o declared done y r e ns i = absurd i
given-of-stm (let_dom x d) o declared done y r e ns i = absurd i
given-of-stm (let_enum t d) o declared done y r e ns i = absurd i
given-of-stm (let_unnamed t d) o declared done y r e ns i = absurd i
given-of-stm (needs d) o declared done y r e ns i = absurd i
given-of-stm (given x d) o declared done y r e ns i = let h =
    given-of-name givens_side x d (chosen_reprs o x d) (without x declared ++ done) givens_side y r e ns i in ap (λ z. given z e) h.1
    ∙ ap (given x) h.2
given-of-stm (such_that d) o declared done y r e ns i = absurd i
given-of-stm (minimise d) o declared done y r e ns i = absurd i
given-of-stm (maximise d) o declared done y r e ns i = absurd i

-- A plan of a given is one of a declared given.
pub given-from : (T : List Stm) (o : Options) (declared done : List Text) (y : Text) (r : Repr) (e : Dom) (ns : List Named) →
    In (value_plan givens_side y r e ns) (plans_from T o declared done) → In (given y e) T
given-from [] o declared done y r e ns i = absurd i
given-from (s ∷ T) o declared done y r e ns i =
    let ps = plans_of_stm s o declared done in
    go (in-either (value_plan givens_side y r e ns) ps (plans_from T o declared (keys (names_of_plans ps) ++ done)) i)
    (given-from T o declared (keys (names_of_plans ps) ++ done) y r e ns)
  where
    go : In (value_plan givens_side y r e ns) (plans_of_stm s o declared done) ⊎ In (value_plan givens_side y r e ns)
        (plans_from T o declared (keys (names_of_plans (plans_of_stm s o declared done)) ++ done)) →
        (In (value_plan givens_side y r e ns) (plans_from T o declared
        (keys (names_of_plans (plans_of_stm s o declared done)) ++ done)) →
        In (given y e) T) → (given y e ≡ s) ⊎ In (given y e) T
    go (inl j) k = inl (given-of-stm s o declared done y r e ns j)
    go (inr j) k = inr (k j)

-- ---- the given tables

-- The tables of the plans of which each_of tells.
canonical-along : (Z : Env) (a : Assignment) (Qs : List Plan) (css : List (Names Table)) →
    each_of Qs (canonical_by_plan Z a) ≡ Some css →
    Along Qs css (λ P c. canonical_by_plan Z a P ≡ Some c)
canonical-along Z a [] css e = subst (λ l. Along [] l (λ P c. canonical_by_plan Z a P ≡ Some c)) (let z : [] ≡ css = cc in z) tt
canonical-along Z a (P ∷ Qs) css e = go (canonical_by_plan Z a P) (each_of Qs (canonical_by_plan Z a)) refl refl e
    (canonical-along Z a Qs)
  where
    go : (o : Option (Names Table)) (r : Option (List (Names Table))) → canonical_by_plan Z a P ≡ o →
        each_of Qs (canonical_by_plan Z a) ≡ r → and_then o (λ y. option_map (λ ys. y ∷ ys) r) ≡ Some css →
        ((ds : List (Names Table)) → each_of Qs (canonical_by_plan Z a) ≡ Some ds →
        Along Qs ds (λ P c. canonical_by_plan Z a P ≡ Some c)) →
        Along (P ∷ Qs) css (λ P c. canonical_by_plan Z a P ≡ Some c)
    go None r q s e k = cc
    go (Some c) None q s e k = cc
    go (Some c) (Some ds) q s e k = subst (λ l. Along (P ∷ Qs) l (λ P c. canonical_by_plan Z a P ≡ Some c))
        (let z : c ∷ ds ≡ css = cc in z)
        (q, k ds s)

-- A given's tables match its value; the size of a type is one table.
abbrev pub GivenShape : List Stm → Assignment → Plan → Tables → Type 0
GivenShape S p (size_plan t n) ts = (ns : List Text) × (look p.types t ≡ Some ns) × (ts ≡ one_cell (pos (length ns)) ∷ [])
GivenShape S p (value_plan f x r d ns) ts = Match S p p x r d ns ts

given-long : (S : List Stm) (p : Assignment) (P : Plan) (ts : Tables) → GivenShape S p P ts → AsMany P ts
given-long S p (size_plan t n) ts m = sym (ap length m.2)
given-long S p (value_plan f x r d ns) ts m = m.long

-- ---- given and found names

yes-or-no : (b : Bool) → (b ≡ true) ⊎ (b ≡ false)
yes-or-no true = inl refl
yes-or-no false = inr refl

-- A given table's name is none of a found one.
pub cross : (Qs : List Plan) → all_distinct (keys (names_of_plans Qs)) ≡ true → (k : Text) →
    In k (keys (names_of_plans (filter (is_on givens_side) Qs))) →
    is_among (keys (names_of_plans (filter (is_on finds_side) Qs))) k ≡ false
cross [] e k i = refl
cross (P ∷ Qs) e k i =
    let h = halves (keys (names_of_plan P)) (keys (names_of_plans Qs))
    (ap all_distinct (sym (keys-append (names_of_plan P) (names_of_plans Qs))) ∙ e) in
    go (side_of P) h.2 i (cross Qs h.1 k)
  where
    G : List Plan
    G = filter (is_on givens_side) Qs

    F : List Plan
    F = filter (is_on finds_side) Qs

    go : (f : Side) → Each (keys (names_of_plan P)) (λ x. is_among (keys (names_of_plans Qs)) x ≡ false) →
        In k (keys (names_of_plans (if same_side f givens_side then P ∷ G else G))) →
        (In k (keys (names_of_plans G)) → is_among (keys (names_of_plans F)) k ≡ false) →
        is_among (keys (names_of_plans (if same_side f finds_side then P ∷ F else F))) k ≡ false
    go finds_side h i ih =
        ap (λ l. is_among l k) (keys-append (names_of_plan P) (names_of_plans F))
        ∙ among-append (keys (names_of_plan P)) (keys (names_of_plans F)) k
        ∙ ap (λ b. b || is_among (keys (names_of_plans F)) k) (mine (yes-or-no (is_among (keys (names_of_plan P)) k))) ∙ ih i
      where
        mine : (is_among (keys (names_of_plan P)) k ≡ true) ⊎ (is_among (keys (names_of_plan P)) k ≡ false) →
            is_among (keys (names_of_plan P)) k ≡ false
        mine (inr n) = n
        mine (inl y) =
            let n = at-item (λ x. is_among (keys (names_of_plans Qs)) x ≡ false) (keys (names_of_plan P)) k h
            (among-in (keys (names_of_plan P)) k y) in
            let z : true ≡ false = sym (in-among (keys (names_of_plans G)) k i) ∙ among-filter (is_on givens_side) Qs k n in cc
    go givens_side h i ih = at (in-either k (keys (names_of_plan P)) (keys (names_of_plans G))
        (subst (In k) (keys-append (names_of_plan P) (names_of_plans G)) i))
      where
        at : In k (keys (names_of_plan P)) ⊎ In k (keys (names_of_plans G)) → is_among (keys (names_of_plans F)) k ≡ false
        at (inl j) = among-filter (is_on finds_side) Qs k (at-item (λ x. is_among (keys (names_of_plans Qs)) x ≡ false)
            (keys (names_of_plan P)) k h j)
        at (inr j) = ih j

-- At a specification with its layers.
module _ (S : List Stm) (o : Options) (L : Ground S o) (p : Assignment) (q : Names Table) (I : Instance S o p q) where
  abbrev Z : Env
  Z = here S p

  abbrev Gs : List Plan
  Gs = plans_for givens_side S o

  -- The representation of a plan fits.
  pub fits : (f : Side) (x : Text) (r : Repr) (d : Dom) (ns : List Named) (e : Domain) → In (value_plan f x r d ns) (plans S o) →
      domain_of d Z ≡ Some e → Fits r ns e
  fits f x r d ns e i q = at-item (PlanFits S) (plans S o) (value_plan f x r d ns) L.fit i p e I.param q

  -- A given's tables match its value.
  given-match : (x : Text) (r : Repr) (d : Dom) (ns : List Named) → In (value_plan givens_side x r d ns) (plans S o) →
      (ts : Tables) × Match S p p x r d ns ts
  given-match x r d ns i =
      let j = given-from (prepared S) o (all_declared S) _ x r d ns i in
      let h = at-place S p nothing_given (λ s env. IsSettled S p nothing_given s env × (given_is_member p s env ≡ true)) (given x d) j
      (each-both (placed S p nothing_given) (λ l. IsSettled S p nothing_given l.stm l.env) (λ l. given_is_member p l.stm l.env ≡ true)
      _
      (λ l s n. (s, n))
      (L.settled.settled p nothing_given I.param) (each-of-list (placed S p nothing_given) (λ l. given_is_member p l.stm l.env)
      I.param.are_members)) in
      let u = some-and (value_of p x) (is_member d h.0) h.1.1 in
      let w = some-and (domain_of d h.0) (λ e. member e u.0) u.2 in
      let k : domain_of d Z ≡ Some w.0 = sym h.1.0 ∙ w.1 in
      match-of S p p x r d ns w.0 u.0 (fits givens_side x r d ns w.0 i k) k u.1 w.2

  of-plan : (P : Plan) (c : Names Table) → In P (plans S o) → canonical_by_plan Z p P ≡ Some c → is_on givens_side P ≡ true →
      (ts : Tables) × (c ≡ name_tables (names_of_plan P) ts) × GivenShape S p P ts
  of-plan (size_plan t n) c i e f = go (look p.types t) refl e
    where
      go : (o : Option (List Text)) → look p.types t ≡ o → option_map (λ ns. (n, one_cell (pos (length ns))) ∷ []) o ≡ Some c →
          (ts : Tables) × (c ≡ name_tables ((n, 0) ∷ []) ts) × GivenShape S p (size_plan t n) ts
      go None w e = cc
      go (Some ns) w e = (
        one_cell (pos (length ns)) ∷ [],
        sym (let z : (n, one_cell (pos (length ns))) ∷ [] ≡ c = cc in z),
        (ns, w, refl),
      )
  of-plan (value_plan finds_side x r d ns) c i e f = cc
  of-plan (value_plan givens_side x r d ns) c i e f =
      let m = given-match x r d ns i in
      let h = canonical-chunk S p p (value_plan givens_side x r d ns) m.0 m.1 in
      (m.0, (let z : Some (name_tables ns m.0) ≡ Some c = sym h ∙ e in let y : name_tables ns m.0 ≡ c = cc in sym y), m.1)

  -- All given tables, by plans.
  pub record GivenTables : Type 0 where
    pub tss : List Tables
    pub each : Along Gs tss (GivenShape S p)
    pub all : q ≡ append_all (chunks Gs tss)

  given-chunks : (Qs : List Plan) (css : List (Names Table)) →
      ((P : Plan) → In P Qs → In P (plans S o) × (is_on givens_side P ≡ true)) →
      Along Qs css (λ P c. canonical_by_plan Z p P ≡ Some c) →
      (tss : List Tables) × Along Qs tss (GivenShape S p) × (append_all css ≡ append_all (chunks Qs tss))
  given-chunks [] [] f h = ([], tt, refl)
  given-chunks (P ∷ Qs) (c ∷ css) f h =
      let g = f P (inl refl) in
      let t = of-plan P c g.0 h.0 g.1 in
      let r = given-chunks Qs css (λ Q i. f Q (inr i)) h.1 in
      (t.0 ∷ r.0, (t.2, r.1), ap (λ x. x ++ append_all css) t.1 ∙ ap (λ l. name_tables (names_of_plan P) t.0 ++ l) r.2)
  given-chunks [] (c ∷ css) f h = absurd h
  given-chunks (P ∷ Qs) [] f h = absurd h

  -- The given tables are those of the plans of the givens.
  pub given-tables-are : GivenTables
  given-tables-are = go (each_of Gs (canonical_by_plan Z p)) refl I.tables
    where
      go : (o' : Option (List (Names Table))) → each_of Gs (canonical_by_plan Z p) ≡ o' → option_map append_all o' ≡ Some q →
          GivenTables
      go None e h = cc
      go (Some css) e h =
          let r = given-chunks Gs css (λ P i. in-filter (is_on givens_side) P (plans S o) i) (canonical-along Z p Gs css e) in
          let z : append_all css ≡ q = cc in
          record { tss = r.0; each = r.1; all = sym z ∙ r.2 }

  given-along : (g : GivenTables) → Along Gs g.tss AsMany
  given-along g = along-map Gs g.tss (GivenShape S p) AsMany (given-long S p) g.each

  -- Their names are those of the plans.
  pub given-keys : keys q ≡ keys (table_list givens_side S o)
  given-keys = let g = given-tables-are in ap keys g.all ∙ chunks-keys Gs g.tss (given-along g)

  -- Each given plan's tables are found by their names.
  pub given-plan : (P : Plan) → In P Gs → (ts : Tables) × GivenShape S p P ts × (tables_in q (keys (names_of_plan P)) ≡ Some ts)
  given-plan P i =
      let g = given-tables-are in
      at-item (λ P. (ts : Tables) × GivenShape S p P ts × (tables_in q (keys (names_of_plan P)) ≡ Some ts)) Gs P
      (left-of Gs g.tss (λ P. (ts : Tables) × GivenShape S p P ts × (tables_in q (keys (names_of_plan P)) ≡ Some ts))
      (λ P ts. GivenShape S p P ts × (tables_in q (keys (names_of_plan P)) ≡ Some ts)) (λ P ts h. (ts, h.0, h.1))
      (along-both Gs g.tss (GivenShape S p) (λ P ts. tables_in q (keys (names_of_plan P)) ≡ Some ts)
      (λ P ts. GivenShape S p P ts × (tables_in q (keys (names_of_plan P)) ≡ Some ts)) (λ P ts x y. (x, y)) g.each
      (chunks-named q (ap all_distinct given-keys ∙ names-differ givens_side S o) [] Gs g.tss (given-along g) g.all))) i

  -- Those of a given match its value.
  pub given-found : (x : Text) (r : Repr) (d : Dom) (ns : List Named) → In (value_plan givens_side x r d ns) (plans S o) →
      (ts : Tables) × Match S p p x r d ns ts × (tables_in q (keys ns) ≡ Some ts)
  given-found x r d ns i = given-plan (value_plan givens_side x r d ns)
      (in-filtered (is_on givens_side) (value_plan givens_side x r d ns) (plans S o) i refl)

  -- ---- all tables

  -- The names of given and found tables differ.
  pub apart : (Qs : List Plan) → all_distinct (keys (names_of_plans Qs)) ≡ true →
      all_distinct (keys (names_of_plans (filter (is_on givens_side) Qs)) ++ keys (names_of_plans (filter (is_on finds_side) Qs))) ≡
      true
  apart Qs e = join-halves (keys (names_of_plans (filter (is_on givens_side) Qs)))
      (keys (names_of_plans (filter (is_on finds_side) Qs)))
      (distinct-filter (is_on givens_side) Qs e) (distinct-filter (is_on finds_side) Qs e)
      (all-items (λ k. is_among (keys (names_of_plans (filter (is_on finds_side) Qs))) k ≡ false)
      (keys (names_of_plans (filter (is_on givens_side) Qs))) (λ k i. cross Qs e k i))

  -- The names of given and found tables differ.
  pub both-differ : (c : Names Table) → keys c ≡ keys (table_list finds_side S o) → all_distinct (keys (q ++ c)) ≡ true
  both-differ c e = ap all_distinct (keys-append q c ∙ ap (λ l. l ++ keys c) given-keys
      ∙ ap (λ l. keys (table_list givens_side S o) ++ l) e) ∙ apart (plans S o) (all-names-differ S o)
