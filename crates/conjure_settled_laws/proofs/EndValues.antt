-- Behind all statements each declared name has what its statement says.
use Rattle.std.proofs.Common.{◌≡◌, refl, sym, ap, ◌∙◌, ℕ, suc, Bool, true, false, ◌||◌, not, if◌then◌else◌, List, [], ◌∷◌, ◌++◌, map, inl, Option, Some, None}
use Rattle.std.specs.List.{list_any}
use Rattle.ess_semantics.specs.Lists.{append_all, list_or_none}
use Rattle.ess_semantics.specs.Values.{Text, Value, item}
use Rattle.ess_semantics.specs.Order.{same_text}
use Rattle.ess_semantics.specs.Names.{Names, look, is_among, all_distinct}
use Rattle.ess_semantics.specs.NameTokens.{is_name_token, are_name_tokens}
use Rattle.ess_semantics.specs.Trees.{Ex, Stm, given, given_enum, let_ex, let_dom, let_enum, let_unnamed, needs, find, such_that, minimise, maximise}
use Rattle.ess_semantics.specs.Lettings.{put_ex}
use Rattle.ess_semantics.specs.Prepared.{resolve_stm}
use Rattle.ess_semantics.specs.Contexts.{Each}
use Rattle.ess_semantics.specs.Scopes.{Scope, empty_scope, names_in_scope, every}
use Rattle.ess_semantics.specs.Judgements.{judgements, first_failed, first_fault, names_are_new, declares, put_in_scope, scope_after}
use Rattle.ess_semantics.specs.Meaning.{Env, TypeEntry, type_entry, empty_env}
use Rattle.ess_semantics.specs.Assignments.{Assignment, nothing_given, value_of, value_if, enum_items, size_of, env_after, env_behind, env_of}
use Rattle.ess_semantics.specs.Parameters.{Param, all_declared}
use Rattle.ess_semantics.proofs.Tests.{and-left, and-right, not-true, or-yes, or-left-no, or-right-no}
use Rattle.ess_semantics.proofs.Texts.{same_text-equal, same_text-itself}
use Rattle.conjure_laws.specs.Premises.{here}
use Rattle.conjure_laws.proofs.FreeNames.{among-append}
use Rattle.conjure_laws.proofs.SetScopesTyped.{no-fault}
use Rattle.conjure_settled_laws.specs.EndValues.{AreItems, IsInEnv, valued_by, valued_in}
use Rattle.conjure_settled_laws.specs.Laws.{TypedHasEndValues}
use Rattle.conjure_settled_laws.proofs.ScopesGrow.{scope-grows, none-shared}
use Rattle.conjure_settled_laws.proofs.LaterEnvs.{given_values, added, all_added, behind-agrees, one-agrees, value-past, items-past, off-left, off-right}
use Rattle.conjure_settled_laws.proofs.GivenNames.{given-names-spelled}
use Rattle.conjure_settled_laws.proofs.FixedParts.{SameGivens, fixed-same}
use Rattle.conjure_settled_laws.proofs.StaysLater.{AreOutside}
use Rattle.conjure_settled_laws.proofs.JudgedStatements.{type_parts, has-type, Judged, judged, same-behind}
use Rattle.conjure_settled_laws.proofs.SettledStatements.{from_place, none-declared, At, next, outside, given-apart, expression-settled, start}

-- ---- names that have just got a value

value-itself : (x : Text) (o : Option Value) (g : Names Value) → look g x ≡ None → look (value_if x o g) x ≡ o
value-itself x None g e = e
value-itself x (Some v) g e = ap (λ b. if b then Some v else look g x) (same_text-itself x)

entry-itself : (t : TypeEntry) (ts : List TypeEntry) → type_entry (t ∷ ts) t.name ≡ Some t
entry-itself t ts = ap (λ b. elim b [ true ↦ Some t | false ↦ type_entry ts t.name ]) (same_text-itself t.name)

-- A name behind others in a list without repeats is none of them.
not-first : (n m : Text) (ns : List Text) → is_among ns n ≡ false → is_among ns m ≡ true → same_text n m ≡ false
not-first n m ns f i = go (same_text n m) refl
  where
    go : (b : Bool) → same_text n m ≡ b → same_text n m ≡ false
    go false q = q
    go true q = let z : false ≡ true = sym f ∙ ap (is_among ns) (same_text-equal n m q) ∙ i in cc

first-among : (n : Text) (ns : List Text) → is_among (n ∷ ns) n ≡ true
first-among n ns = ap (λ b. b || is_among ns n) (same_text-itself n)

-- The values of an enumerated type's names are found, where an env has for each of the names what stands first.
items-found : (env : Env) (t : Text) (k : ℕ) (ns : List Text) (g : Names Value) → all_distinct ns ≡ true →
    ((y : Text) → is_among ns y ≡ true → look env.vals y ≡ look (enum_items t k ns ++ g) y) → AreItems env t k ns
items-found env t k [] g d h = tt
items-found env t k (n ∷ ns) g d h = (
  h n (first-among n ns) ∙ ap (λ b. if b then Some (item t k) else look (enum_items t (suc k) ns ++ g) n) (same_text-itself n),
  items-found env t (suc k) ns g (and-right (not (is_among ns n)) (all_distinct ns) d)
      (λ y i. h y (ap (λ b. same_text n y || b) i ∙ or-yes (same_text n y))
      ∙ ap (λ b. if b then Some (item t k) else look (enum_items t (suc k) ns ++ g) y)
      (not-first n y ns (not-true (is_among ns n) (and-left (not (is_among ns n)) (all_distinct ns) d)) i)),
)

distinct-declared : (w : Stm) (s : Scope) → names_are_new w s ≡ true → all_distinct (declares w) ≡ true
distinct-declared w s h = and-left (all_distinct (declares w)) (not (list_any (is_among (names_in_scope s)) (declares w)))
    (and-left _ _ (and-left _ _ (and-left _ _ h)))

-- ---- names that get no value

valued-past : (w : Stm) (s : Scope) (p a : Assignment) (env : Env) (y : Text) → is_among (valued_by w) y ≡ false →
    is_among (given_values p w) y ≡ false → look env.vals y ≡ look (env_after (resolve_stm (put_in_scope w s) s.tys) p a env).vals y
valued-past (given x d) s p a env y v g = value-past x _ env.vals y (or-left-no (same_text x y) false v)
valued-past (find x d) s p a env y v g = value-past x _ env.vals y (or-left-no (same_text x y) false v)
valued-past (given_enum t) s p a env y v g = items-past t (list_or_none (look p.types t)) env.vals y g
valued-past (let_enum t ns) s p a env y v g = items-past t ns env.vals y v
valued-past (let_unnamed t e) s p a env y v g = refl
valued-past (let_ex x e) s p a env y v g = refl
valued-past (let_dom x d) s p a env y v g = refl
valued-past (needs e) s p a env y v g = refl
valued-past (such_that e) s p a env y v g = refl
valued-past (minimise e) s p a env y v g = refl
valued-past (maximise e) s p a env y v g = refl

-- The values of the given enumerated types of several statements.
abbrev all_given_values : Assignment → List Stm → List Text
all_given_values p ws = append_all (map (given_values p) ws)

all-past : (ws : List Stm) (s : Scope) (p a : Assignment) (env : Env) (y : Text) → is_among (valued_in ws) y ≡ false →
    is_among (all_given_values p ws) y ≡ false → look env.vals y ≡ look (env_behind (from_place ws s) p a env).vals y
all-past [] s p a env y v g = refl
all-past (w ∷ ws) s p a env y v g =
    let t : Stm = put_in_scope w s in
    valued-past w s p a env y (off-left (valued_by w) (valued_in ws) y v) (off-left (given_values p w) (all_given_values p ws) y g)
    ∙ all-past ws (scope_after t s) p a (env_after (resolve_stm t s.tys) p a env) y (off-right (valued_by w) (valued_in ws) y v)
    (off-right (given_values p w) (all_given_values p ws) y g)

-- What can't be spelled is none of names that can be.
not-token : (ns : List Text) (y : Text) → are_name_tokens ns ≡ true → is_name_token y ≡ false → is_among ns y ≡ false
not-token [] y h n = refl
not-token (m ∷ ns) y h n = go (same_text m y) refl (not-token ns y (and-right (is_name_token m) (are_name_tokens ns) h) n)
  where
    go : (b : Bool) → same_text m y ≡ b → is_among ns y ≡ false → (b || is_among ns y) ≡ false
    go false q r = r
    go true q r =
        let v : true ≡ false = sym (and-left (is_name_token m) (are_name_tokens ns) h) ∙ ap is_name_token (same_text-equal m y q) ∙ n in cc

module _ (S : List Stm) (p : Assignment) (P : Param S p) (a : Assignment) where
  -- Declared names that aren't in scope yet have no value.
  abbrev AreBare : Scope → Env → Type 0
  AreBare s env = (y : Text) → is_among (all_declared S) y ≡ true → is_among (names_in_scope s) y ≡ false → look env.vals y ≡ None

  bare-next : (w : Stm) (ws : List Stm) (s : Scope) (env : Env) → At S p P (w ∷ ws) s → AreBare s env →
      AreBare (scope_after (put_in_scope w s) s) (env_after (resolve_stm (put_in_scope w s) s.tys) p a env)
  bare-next w ws s env h b y i n =
      let o : is_among (declares w) y || is_among (names_in_scope s) y ≡ false = sym (scope-grows w s y) ∙ n in
      let g = one-agrees w s p a env in
      sym (g.vals y (among-append (declares w) (given_values p w) y
      ∙ ap (λ c. c || is_among (given_values p w) y) (or-left-no (is_among (declares w) y) (is_among (names_in_scope s) y) o)
      ∙ given-apart S p P w ws s h y i))
      ∙ b y i (or-right-no (is_among (declares w) y) (is_among (names_in_scope s) y) o)

  -- What a statement declares is in scope behind it.
  declared-after : (w : Stm) (s : Scope) (y : Text) → is_among (declares w) y ≡ true →
      is_among (names_in_scope (scope_after (put_in_scope w s) s)) y ≡ true
  declared-after w s y i = scope-grows w s y ∙ ap (λ b. b || is_among (names_in_scope s) y) i

  -- A value or a type that a statement declares stays: later statements declare other names.
  module _ (k : ℕ) (w : Stm) (ws : List Stm) (s : Scope) (env : Env) (h : At S p P (w ∷ ws) s)
      (f : first_fault k ws (scope_after (put_in_scope w s) s) ≡ None)
      (e : env_behind (from_place (w ∷ ws) s) p a env ≡ env_of S p a) where
    abbrev z : Scope
    z = scope_after (put_in_scope w s) s

    abbrev after : Env
    after = env_after (resolve_stm (put_in_scope w s) s.tys) p a env

    later : (y : Text) → is_among (declares w) y ≡ true → is_among (all_added p ws) y ≡ false
    later y i = outside S p P k ws z f (next S p P w ws s h) y (declared-after w s y i)

    end-value : (y : Text) → is_among (declares w) y ≡ true → look (env_of S p a).vals y ≡ look after.vals y
    end-value y i =
        let g = behind-agrees ws z p a after in
        sym (g.vals y (later y i) ∙ ap (λ v. look v.vals y) e)

    end-entry : (y : Text) → is_among (declares w) y ≡ true → type_entry (env_of S p a).types y ≡ type_entry after.types y
    end-entry y i =
        let g = behind-agrees ws z p a after in
        sym (g.types y (later y i) ∙ ap (λ v. type_entry v.types y) e)

  -- A name that a statement declares alone has no value before it.
  no-value : (w : Stm) (ws : List Stm) (s : Scope) (env : Env) (x : Text) → At S p P (w ∷ ws) s → AreBare s env →
      Judged w (put_in_scope w s) s → is_among (declares w) x ≡ true → look env.vals x ≡ None
  no-value w ws s env x h b j i =
      b x (h.ahead x (among-append (declares w) (all_declared ws) x ∙ ap (λ c. c || is_among (all_declared ws) x) i))
      (not-in (is_among (names_in_scope s) x) refl)
    where
      not-in : (c : Bool) → is_among (names_in_scope s) x ≡ c → is_among (names_in_scope s) x ≡ false
      not-in false q = q
      not-in true q =
          let v : true ≡ false = sym i ∙ none-shared (names_in_scope s) (declares w) x (none-declared w s j.new) q in cc

  -- What a statement declares it declares behind all statements.
  in-env : (k : ℕ) (w : Stm) (ws : List Stm) (s : Scope) (env other : Env) → Judged w (put_in_scope w s) s → At S p P (w ∷ ws) s →
      AreBare s env → SameGivens s env other → first_fault k ws (scope_after (put_in_scope w s) s) ≡ None →
      AreOutside (all_added p (w ∷ ws)) s → env_behind (from_place (w ∷ ws) s) p a env ≡ env_of S p a →
      env_behind (from_place (w ∷ ws) s) p nothing_given other ≡ here S p →
      IsInEnv S p a (env_of S p a) (resolve_stm (put_in_scope w s) s.tys)
  in-env k (given x d) ws s env other j h b m f n e e' =
      end-value k (given x d) ws s env h f e x (first-among x [])
      ∙ value-itself x (value_of p x) env.vals (no-value (given x d) ws s env x h b j (first-among x []))
  in-env k (find x d) ws s env other j h b m f n e e' =
      end-value k (find x d) ws s env h f e x (first-among x [])
      ∙ value-itself x (value_of a x) env.vals (no-value (find x d) ws s env x h b j (first-among x []))
  in-env k (given_enum t) ws s env other j h b m f n e e' =
      end-entry k (given_enum t) ws s env h f e t (first-among t []) ∙ entry-itself _ env.types
  in-env k (let_enum t ns) ws s env other j h b m f n e e' = (
    end-entry k (let_enum t ns) ws s env h f e t (first-among t ns) ∙ entry-itself _ env.types,
    items-found (env_of S p a) t 1 ns env.vals
        (and-right (not (is_among ns t)) (all_distinct ns) (distinct-declared (let_enum t ns) s j.new))
        (λ y i. end-value k (let_enum t ns) ws s env h f e y (ap (λ c. same_text t y || c) i ∙ or-yes (same_text t y))),
  )
  in-env k (let_unnamed t x) ws s env other j h b m f n e e' =
      let y : Ex = put_ex x s.lets s.tys in
      end-entry k (let_unnamed t x) ws s env h f e t (first-among t []) ∙ entry-itself _ env.types
      ∙ ap (λ o. Some (sized t o))
      (fixed-same type_parts has-type y s env other (and-left (every type_parts y s) true j.typed) j.sized m
      ∙ expression-settled S p P nothing_given y (let_unnamed t x) ws s other j.typed j.known n e')
    where
      sized : Text → Option Value → TypeEntry
      sized t o = record { name = t; count = size_of o; names = [] }
  in-env k (let_ex x y) ws s env other j h b m f n e e' = tt
  in-env k (let_dom x d) ws s env other j h b m f n e e' = tt
  in-env k (needs x) ws s env other j h b m f n e e' = tt
  in-env k (such_that x) ws s env other j h b m f n e e' = tt
  in-env k (minimise x) ws s env other j h b m f n e e' = tt
  in-env k (maximise x) ws s env other j h b m f n e e' = tt

  declared-from : (k : ℕ) (ws : List Stm) (s : Scope) (env other : Env) → first_fault k ws s ≡ None → At S p P ws s → AreBare s env →
      SameGivens s env other → env_behind (from_place ws s) p a env ≡ env_of S p a →
      env_behind (from_place ws s) p nothing_given other ≡ here S p →
      Each (from_place ws s) (IsInEnv S p a (env_of S p a)) × ((env_of S p a).types ≡ (here S p).types)
  declared-from k [] s env other e h b m c d =
      (tt, sym (ap (λ v. v.types) c) ∙ m.types ∙ ap (λ v. v.types) d)
  declared-from k (w ∷ ws) s env other e h b m c d =
      let x : Stm = put_in_scope w s in
      let n = no-fault (first_failed judgements w x s) (first_fault (suc k) ws (scope_after x s)) k e in
      let j = judged w x s n.0 in
      let r = declared-from (suc k) ws (scope_after x s) (env_after (resolve_stm x s.tys) p a env)
      (env_after (resolve_stm x s.tys) p nothing_given other) n.1 (next S p P w ws s h) (bare-next w ws s env h b)
      (same-behind w s p a env other j m) c d in
      ((in-env (suc k) w ws s env other j h b m n.1 (outside S p P k (w ∷ ws) s e h) c d, r.0), r.1)

  all-apart : (k : ℕ) (ws : List Stm) (s : Scope) → At S p P ws s → (y : Text) → is_among (all_declared S) y ≡ true →
      is_among (all_given_values p ws) y ≡ false
  all-apart k [] s h y i = refl
  all-apart k (w ∷ ws) s h y i =
      among-append (given_values p w) (all_given_values p ws) y
      ∙ ap (λ c. c || is_among (all_given_values p ws) y) (given-apart S p P w ws s h y i)
      ∙ all-apart (suc k) ws (scope_after (put_in_scope w s) s) (next S p P w ws s h) y i

  -- Each value of a given type has a name that can be spelled.
  spelled : (w : Stm) (ws : List Stm) (s : Scope) → At S p P (w ∷ ws) s → (y : Text) → is_name_token y ≡ false →
      is_among (given_values p w) y ≡ false
  spelled (given_enum t) ws s h y n =
      not-token (list_or_none (look p.types t)) y (given-names-spelled S p P t (h.enums t (inl refl))) n
  spelled (given x d) ws s h y n = refl
  spelled (let_ex x e) ws s h y n = refl
  spelled (let_dom x d) ws s h y n = refl
  spelled (let_enum t ns) ws s h y n = refl
  spelled (let_unnamed t e) ws s h y n = refl
  spelled (needs e) ws s h y n = refl
  spelled (find x d) ws s h y n = refl
  spelled (such_that e) ws s h y n = refl
  spelled (minimise e) ws s h y n = refl
  spelled (maximise e) ws s h y n = refl

  none-added : (ws : List Stm) (s : Scope) → At S p P ws s → (y : Text) → is_among (all_declared S) y ≡ false → is_name_token y ≡ false →
      is_among (all_added p ws) y ≡ false
  none-added [] s h y i n = refl
  none-added (w ∷ ws) s h y i n =
      among-append (added p w) (all_added p ws) y
      ∙ ap (λ c. c || is_among (all_added p ws) y)
      (among-append (declares w) (given_values p w) y
      ∙ ap (λ c. c || is_among (given_values p w) y) (not-declared (is_among (declares w) y) refl) ∙ spelled w ws s h y n)
      ∙ none-added ws (scope_after (put_in_scope w s) s) (next S p P w ws s h) y i n
    where
      not-declared : (c : Bool) → is_among (declares w) y ≡ c → is_among (declares w) y ≡ false
      not-declared false q = q
      not-declared true q =
          let v : true ≡ false =
          sym (h.ahead y (among-append (declares w) (all_declared ws) y ∙ ap (λ c. c || is_among (all_declared ws) y) q)) ∙ i in cc

-- Behind all statements of a well typed specification each declared name has what its statement says.
pub typed-has-end-values : TypedHasEndValues
typed-has-end-values S p a e P =
    let r = declared-from S p P a 1 S empty_scope empty_env empty_env e (start S p P) (λ y i n. refl)
    (record { positions = refl; cells = refl; types = refl; vals = λ y i. refl }) refl refl in record {
      types = r.1;
      declared = r.0;
      unspelled = λ y i n.
          let g = behind-agrees S empty_scope p a empty_env in
          sym (g.vals y (none-added S p P a S empty_scope (start S p P) y i n));
      others = λ y i v. sym (all-past S empty_scope p a empty_env y v (all-apart S p P a 1 S empty_scope (start S p P) y i));
    }
