-- The positions of values stand for the names that an enumerated type gives them, behind all statements.
use Rattle.std.proofs.Common.{◌≡◌, refl, sym, ap, ◌∙◌, subst, ℕ, suc, Bool, true, false, ◌||◌, not, if◌then◌else◌, List, [], ◌∷◌, ◌++◌, inl, inr, map, filter, pos, Option, Some, None}
use Rattle.std.specs.List.{list_any}
use Rattle.ess_semantics.specs.Lists.{or_default}
use Rattle.ess_semantics.specs.Values.{Text, item}
use Rattle.ess_semantics.specs.Order.{same_text}
use Rattle.ess_semantics.specs.Names.{Names, look, keys, is_among, all_distinct}
use Rattle.ess_semantics.specs.Trees.{Ex, number_ex, name_ex, Dom, Stm, given, given_enum, let_ex, let_dom, let_enum, let_unnamed, needs, find, such_that, minimise, maximise}
use Rattle.ess_semantics.specs.Meaning.{Env}
use Rattle.ess_semantics.specs.Prepared.{prepared, resolve_stm}
use Rattle.ess_semantics.specs.Assignments.{Assignment, env_of}
use Rattle.ess_semantics.specs.Parameters.{Param}
use Rattle.ess_semantics.specs.Plans.{Options, Plan, plans, is_plan_for}
use Rattle.ess_semantics.specs.Scopes.{Scope, empty_scope, names_in_scope}
use Rattle.ess_semantics.specs.Judgements.{judgements, names_are_new, first_failed, first_fault, put_in_scope, scope_after, fault}
use Rattle.ess_semantics.proofs.Tests.{and-left, and-right, not-true, or-yes, or-left-no, or-right-no}
use Rattle.ess_semantics.proofs.Texts.{same_text-equal, same_text-itself}
use Rattle.conjure_laws.specs.Members.{In}
use Rattle.conjure_laws.proofs.Lists.{at-item}
use Rattle.conjure_laws.proofs.Lookups.{look-right}
use Rattle.conjure_laws.proofs.SetScopesTyped.{no-fault}
use Rattle.conjure_model_laws.specs.ToldApart.{told_dom}
use Rattle.conjure_model_laws.specs.Shown.{Shows, in_place, shown_dom, view_by, with_views, with_declared, positions_from, shows_nothing, shows_behind, shows_from, shows_of}
use Rattle.conjure_settled_laws.specs.EndValues.{AreItems, IsInEnv, valued_in}
use Rattle.conjure_settled_laws.proofs.EndValues.{typed-has-end-values}
use Rattle.conjure_settled_laws.proofs.LaterEnvs.{off-left, off-right}
use Rattle.conjure_settled_laws.proofs.ScopesGrow.{scope-grows}
use Rattle.conjure_settled_laws.proofs.SettledStatements.{from_place}
use Rattle.ess_named_values_laws.specs.Laws.{ArePositions}
use Rattle.ess_named_values_laws.proofs.LaterNames.{names-new, later-none}

-- ---- names that statements give no value

views-past : (x : Text) (vs : List Ex) (sh : Shows) (y : Text) → same_text x y ≡ false →
    look (with_views x vs sh).first y ≡ look sh.first y
views-past x [] sh y q = refl
views-past x (v ∷ vs) sh y q = ap (λ b. if b then Some v else look sh.first y) q

position-keys : (k : ℕ) (ns : List Text) → keys (positions_from k ns) ≡ ns
position-keys k [] = refl
position-keys k (n ∷ ns) = ap (λ l. n ∷ l) (position-keys (suc k) ns)

positions-past : (k : ℕ) (ns : List Text) (vs : Names Ex) (y : Text) → is_among ns y ≡ false →
    look (positions_from k ns ++ vs) y ≡ look vs y
positions-past k ns vs y h = look-right (positions_from k ns) vs y (ap (λ l. is_among l y) (position-keys k ns) ∙ h)

module _ (Ps : List Plan) where
  declared-past : (x : Text) (d : Dom) (sh : Shows) (y : Text) → same_text x y ≡ false →
      look (with_declared Ps x d sh).first y ≡ look sh.first y
  declared-past x d sh y q =
      views-past x (map (view_by (shown_dom sh (told_dom d [] sh.next).0)) (filter (is_plan_for x) Ps))
      (record sh { doms = (x, shown_dom sh (told_dom d [] sh.next).0) ∷ sh.doms; next = (told_dom d [] sh.next).1 }) y q

  -- What stands for a name stays where statements give it no value.
  shown-past : (T : List Stm) (sh : Shows) (y : Text) → is_among (valued_in T) y ≡ false →
      look (shows_from Ps T sh).first y ≡ look sh.first y
  shown-past [] sh y h = refl
  shown-past (given x d ∷ T) sh y h =
      shown-past T (with_declared Ps x d sh) y (or-right-no (same_text x y) (is_among (valued_in T) y) h)
      ∙ declared-past x d sh y (or-left-no (same_text x y) (is_among (valued_in T) y) h)
  shown-past (find x d ∷ T) sh y h =
      shown-past T (with_declared Ps x d sh) y (or-right-no (same_text x y) (is_among (valued_in T) y) h)
      ∙ declared-past x d sh y (or-left-no (same_text x y) (is_among (valued_in T) y) h)
  shown-past (let_enum t ns ∷ T) sh y h =
      shown-past T (shows_behind Ps (let_enum t ns) sh) y (off-right ns (valued_in T) y h)
      ∙ positions-past 1 ns sh.first y (off-left ns (valued_in T) y h)
  shown-past (given_enum t ∷ T) sh y h = shown-past T (shows_behind Ps (given_enum t) sh) y h
  shown-past (let_unnamed t e ∷ T) sh y h = shown-past T (shows_behind Ps (let_unnamed t e) sh) y h
  shown-past (let_ex x e ∷ T) sh y h = shown-past T sh y h
  shown-past (let_dom x d ∷ T) sh y h = shown-past T sh y h
  shown-past (needs e ∷ T) sh y h = shown-past T sh y h
  shown-past (such_that e ∷ T) sh y h = shown-past T sh y h
  shown-past (minimise e ∷ T) sh y h = shown-past T sh y h
  shown-past (maximise e ∷ T) sh y h = shown-past T sh y h

-- ---- the names of a type

-- A name behind others in a list without repeats is none of them.
not-first : (n m : Text) (ns : List Text) → is_among ns n ≡ false → is_among ns m ≡ true → same_text n m ≡ false
not-first n m ns f i = go (same_text n m) refl
  where
    go : (b : Bool) → same_text n m ≡ b → same_text n m ≡ false
    go false q = q
    go true q = let z : false ≡ true = sym f ∙ ap (is_among ns) (same_text-equal n m q) ∙ i in cc

-- Where for each of the names there is what stands first, positions stand for them.
positions-found : (vs : Names Ex) (k : ℕ) (ns : List Text) (g : Names Ex) → all_distinct ns ≡ true →
    ((y : Text) → is_among ns y ≡ true → look vs y ≡ look (positions_from k ns ++ g) y) → ArePositions vs k ns
positions-found vs k [] g d h = tt
positions-found vs k (n ∷ ns) g d h = (
  h n (ap (λ b. b || is_among ns n) (same_text-itself n))
      ∙ ap (λ b. if b then Some (number_ex (pos k)) else look (positions_from (suc k) ns ++ g) n) (same_text-itself n),
  positions-found vs (suc k) ns g (and-right (not (is_among ns n)) (all_distinct ns) d)
      (λ y i. h y (ap (λ b. same_text n y || b) i ∙ or-yes (same_text n y))
      ∙ ap (λ b. if b then Some (number_ex (pos k)) else look (positions_from (suc k) ns ++ g) y)
      (not-first n y ns (not-true (is_among ns n) (and-left (not (is_among ns n)) (all_distinct ns) d)) i)),
)

-- The names that a statement gives the values of a type.
abbrev names_given : Stm → Option (List Text)
names_given (let_enum t ns) = Some ns
names_given s = None

one-list : (ns ms : List Text) → Some ns ≡ Some ms → ns ≡ ms
one-list ns ms e = cc

-- Only one statement gives such.
enum-is : (w : Stm) (s : Scope) (ns : List Text) → names_given (resolve_stm (put_in_scope w s) s.tys) ≡ Some ns →
    (t : Text) × (w ≡ let_enum t ns)
enum-is (let_enum t ms) s ns e = (t, ap (let_enum t) (one-list ms ns e))
enum-is (given x d) s ns e = cc
enum-is (find x d) s ns e = cc
enum-is (given_enum t) s ns e = cc
enum-is (let_ex x y) s ns e = cc
enum-is (let_dom x d) s ns e = cc
enum-is (let_unnamed t y) s ns e = cc
enum-is (needs y) s ns e = cc
enum-is (such_that y) s ns e = cc
enum-is (minimise y) s ns e = cc
enum-is (maximise y) s ns e = cc

module _ (Ps : List Plan) where
  -- At the statement that gives them.
  here-shown : (t : Text) (ns : List Text) (ws : List Stm) (s : Scope) (k : ℕ) (sh : Shows) → names_are_new (let_enum t ns) s ≡ true →
      first_fault k ws (scope_after (put_in_scope (let_enum t ns) s) s) ≡ None →
      ArePositions (shows_from Ps (from_place (let_enum t ns ∷ ws) s) sh).first 1 ns
  here-shown t ns ws s k sh n f =
      let z : Scope = scope_after (put_in_scope (let_enum t ns) s) s in
      let d = and-left (all_distinct (t ∷ ns)) (not (list_any (is_among (names_in_scope s)) (t ∷ ns)))
      (and-left _ _ (and-left _ _ (and-left _ _ n))) in
      positions-found (shows_from Ps (from_place ws z) (shows_behind Ps (let_enum t ns) sh)).first 1 ns sh.first
      (and-right (not (is_among ns t)) (all_distinct ns) d)
      (λ y i. shown-past Ps (from_place ws z) (shows_behind Ps (let_enum t ns) sh) y
      (later-none k ws z f y
      (scope-grows (let_enum t ns) s y ∙ ap (λ b. (same_text t y || b) || is_among (names_in_scope s) y) i
      ∙ ap (λ b. b || is_among (names_in_scope s) y) (or-yes (same_text t y)))))

  -- Behind all statements.
  all-shown : (k : ℕ) (ws : List Stm) (s : Scope) (sh : Shows) → first_fault k ws s ≡ None → (u : Stm) (ns : List Text) →
      In u (from_place ws s) → names_given u ≡ Some ns → ArePositions (shows_from Ps (from_place ws s) sh).first 1 ns
  all-shown k [] s sh e u ns i g = absurd i
  all-shown k (w ∷ ws) s sh e u ns (inl q) g =
      let t : Stm = put_in_scope w s in
      let h = no-fault (first_failed judgements w t s) (first_fault (suc k) ws (scope_after t s)) k e in
      let r = enum-is w s ns (sym (ap names_given q) ∙ g) in
      subst (λ w. names_are_new w s ≡ true → first_fault (suc k) ws (scope_after (put_in_scope w s) s) ≡ None →
      ArePositions (shows_from Ps (from_place (w ∷ ws) s) sh).first 1 ns) (sym r.1)
      (here-shown r.0 ns ws s (suc k) sh) (names-new w t s h.0) h.1
  all-shown k (w ∷ ws) s sh e u ns (inr i) g =
      let t : Stm = put_in_scope w s in
      let h = no-fault (first_failed judgements w t s) (first_fault (suc k) ws (scope_after t s)) k e in
      all-shown (suc k) ws (scope_after t s) (shows_behind Ps (resolve_stm t s.tys) sh) h.1 u ns i g

-- The positions stand for the names.
pub values-shown : (S : List Stm) (o : Options) (t : Text) (ns : List Text) → fault S ≡ None → In (let_enum t ns) (prepared S) →
    ArePositions (shows_of S o).first 1 ns
values-shown S o t ns e i = all-shown (plans S o) 1 S empty_scope shows_nothing e (let_enum t ns) ns i refl

-- ---- with their values

both-at : (vs : Names Ex) (env : Env) (t : Text) (k : ℕ) (ns : List Text) (n : Text) → ArePositions vs k ns → AreItems env t k ns →
    is_among ns n ≡ true → (j : ℕ) × (look env.vals n ≡ Some (item t j)) × (look vs n ≡ Some (number_ex (pos j)))
both-at vs env t k [] n p q i = cc
both-at vs env t k (m ∷ ns) n p q i = go (same_text m n) refl i (both-at vs env t (suc k) ns n p.1 q.1)
  where
    go : (b : Bool) → same_text m n ≡ b → b || is_among ns n ≡ true →
        (is_among ns n ≡ true → (j : ℕ) × (look env.vals n ≡ Some (item t j)) × (look vs n ≡ Some (number_ex (pos j)))) →
        (j : ℕ) × (look env.vals n ≡ Some (item t j)) × (look vs n ≡ Some (number_ex (pos j)))
    go true e i f =
        let z = sym (same_text-equal m n e) in (k, ap (look env.vals) z ∙ q.0, ap (look vs) z ∙ p.0)
    go false e i f = f i

-- Each name has the value at the position that stands for it.
pub values-held : (S : List Stm) (o : Options) (p a : Assignment) (t : Text) (ns : List Text) (n : Text) → fault S ≡ None → Param S p →
    In (let_enum t ns) (prepared S) → is_among ns n ≡ true →
    (k : ℕ) × (look (env_of S p a).vals n ≡ Some (item t k)) × (in_place (shows_of S o).first n ≡ number_ex (pos k))
values-held S o p a t ns n e P i m =
    let r = at-item (IsInEnv S p a (env_of S p a)) (prepared S) (let_enum t ns) (typed-has-end-values S p a e P).declared i in
    let b = both-at (shows_of S o).first (env_of S p a) t 1 ns n (values-shown S o t ns e i) r.1 m in
    (b.0, b.1, ap (λ u. or_default u (name_ex n)) b.2)
