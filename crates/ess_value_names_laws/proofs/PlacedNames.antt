-- Statement by statement the values of named types have names of their own.
use Rattle.std.proofs.Common.{◌≡◌, refl, sym, ap, ◌∙◌, subst, ℕ, suc, Bool, true, false, ◌&&◌, ◌||◌, List, [], ◌∷◌, ◌++◌, map, Some, None, append_assoc, inl}
use Rattle.std.specs.List.{list_any}
use Rattle.ess_semantics.specs.Lists.{append_all}
use Rattle.ess_semantics.specs.Values.{Text}
use Rattle.ess_semantics.specs.Order.{same_text}
use Rattle.ess_semantics.specs.Names.{Names, is_among}
use Rattle.ess_semantics.specs.Trees.{Ex, Stm, given, given_enum, let_ex, let_dom, let_enum, let_unnamed, needs, find, such_that, minimise, maximise}
use Rattle.ess_semantics.specs.Contexts.{Each}
use Rattle.ess_semantics.specs.Lettings.{put_ex}
use Rattle.ess_semantics.specs.Resolving.{resolve}
use Rattle.ess_semantics.specs.Prepared.{prepared, resolve_stm}
use Rattle.ess_semantics.specs.Scopes.{Scope, empty_scope, names_in_scope}
use Rattle.ess_semantics.specs.Judgements.{judgements, first_failed, first_fault, names_are_new, declares, put_in_scope, scope_after}
use Rattle.ess_semantics.specs.Meaning.{Env, TypeEntry, type_entry, empty_env, meaning}
use Rattle.ess_semantics.specs.Literals.{item_of_name}
use Rattle.ess_semantics.specs.LargeSpecifications.{declares_large_number}
use Rattle.ess_semantics.specs.Assignments.{Assignment, nothing_given, Placed, placed_from, size_of, unnamed_sizes, unnamed_size_at, unnamed_names, env_after, env_behind}
use Rattle.ess_semantics.specs.Parameters.{Param, all_declared}
use Rattle.ess_semantics.proofs.Tests.{and-left, and-right, or-left-no, or-right-no, or-yes}
use Rattle.ess_semantics.proofs.Texts.{same_text-equal}
use Rattle.ess_grammar.specs.Readable.{is_name_token, some_names, are_name_tokens, ReadableStm, ReadableStms}
use Rattle.conjure_laws.specs.Premises.{here}
use Rattle.conjure_laws.proofs.FreeNames.{among-append}
use Rattle.conjure_laws.proofs.SetScopesTyped.{no-fault}
use Rattle.conjure_laws.proofs.Statements.{env-form}
use Rattle.conjure_settled_laws.proofs.FixedParts.{SameGivens}
use Rattle.conjure_settled_laws.proofs.LaterEnvs.{behind-agrees}
use Rattle.conjure_settled_laws.proofs.JudgedStatements.{judged, same-behind}
use Rattle.conjure_settled_laws.proofs.SettledStatements.{from_place, At, next, outside, start}
use Rattle.ess_values_laws.specs.ItemNames.{item_name}
use Rattle.ess_member_literals_laws.specs.ToldDomains.{NamesItems}
use Rattle.ess_value_names_laws.specs.ValueNames.{HasValueNames}
use Rattle.ess_value_names_laws.specs.Laws.{ValuesHaveNames}
use Rattle.ess_value_names_laws.proofs.OwnNames.{name_in, entry-right, entries-named}
use Rattle.ess_value_names_laws.proofs.GivenTypes.{unnamed_taken}
use Rattle.ess_value_names_laws.proofs.SmallSizes.{means-small, size-small}
use Rattle.ess_value_names_laws.proofs.TypesInScope.{TypesAt, types-stay, type-added}
use Rattle.ess_value_names_laws.proofs.NewTypes.{statement-grows, enum_entry, unnamed_entry, enum-new, given-new, unnamed-new}

-- The names of the values of unnamed types of these sizes.
abbrev names_of : Names ℕ → List Text
names_of us = append_all (map (λ u. unnamed_names u.0 1 u.1) us)

names-append : (us vs : Names ℕ) → names_of (us ++ vs) ≡ names_of us ++ names_of vs
names-append [] vs = refl
names-append (u ∷ us) vs =
    ap (λ l. unnamed_names u.0 1 u.1 ++ l) (names-append us vs) ∙ sym (append_assoc (unnamed_names u.0 1 u.1) (names_of us) (names_of vs))

-- A type is looked up by its name.
entry-name : (ts : List TypeEntry) (t : Text) (e : TypeEntry) → type_entry ts t ≡ Some e → e.name ≡ t
entry-name [] t e q = cc
entry-name (n ∷ ts) t e q = go (same_text n.name t) refl q (entry-name ts t e)
  where
    go : (b : Bool) → same_text n.name t ≡ b → elim b [ true ↦ Some n | false ↦ type_entry ts t ] ≡ Some e →
        (type_entry ts t ≡ Some e → e.name ≡ t) → e.name ≡ t
    go true s q f = let z : n ≡ e = cc in ap (λ m. m.name) (sym z) ∙ same_text-equal n.name t s
    go false s q f = f q

module _ (S : List Stm) (p : Assignment) (P : Param S p) where
  -- What is known of the sizes of the unnamed types from a place on.
  record Sizes (ls : List Placed) : Type 0 where
    fits : list_any (λ l. declares_large_number l.stm l.env) ls ≡ false
    taken : (x : Text) → is_among (names_of (unnamed_sizes ls)) x ≡ true → is_among (unnamed_taken S p P) x ≡ true

  later-sizes : (l : Placed) (ls : List Placed) → Sizes (l ∷ ls) → Sizes ls
  later-sizes l ls h = record {
    fits = or-right-no (declares_large_number l.stm l.env) (list_any (λ l. declares_large_number l.stm l.env) ls) h.fits;
    taken = λ x i. h.taken x
        (ap (λ ns. is_among ns x) (names-append (unnamed_size_at l.stm l.env) (unnamed_sizes ls))
        ∙ among-append (names_of (unnamed_size_at l.stm l.env)) (names_of (unnamed_sizes ls)) x
        ∙ ap (λ b. is_among (names_of (unnamed_size_at l.stm l.env)) x || b) i ∙ or-yes (is_among (names_of (unnamed_size_at l.stm l.env)) x));
  }

  first-taken : (l : Placed) (ls : List Placed) → Sizes (l ∷ ls) → (x : Text) →
      is_among (names_of (unnamed_size_at l.stm l.env)) x ≡ true → is_among (unnamed_taken S p P) x ≡ true
  first-taken l ls h x i =
      h.taken x
      (ap (λ ns. is_among ns x) (names-append (unnamed_size_at l.stm l.env) (unnamed_sizes ls))
      ∙ among-append (names_of (unnamed_size_at l.stm l.env)) (names_of (unnamed_sizes ls)) x
      ∙ ap (λ b. b || is_among (names_of (unnamed_sizes ls)) x) i)

  -- ---- behind one statement

  ahead : (w : Stm) (ws : List Stm) (s : Scope) → At S p P (w ∷ ws) s → (x : Text) → is_among (declares w) x ≡ true →
      is_among (all_declared S) x ≡ true
  ahead w ws s h x i = h.ahead x (among-append (declares w) (all_declared ws) x ∙ ap (λ b. b || is_among (all_declared ws) x) i)

  types-behind : (k : ℕ) (w : Stm) (ws : List Stm) (s : Scope) (other : Env) → names_are_new w s ≡ true → At S p P (w ∷ ws) s →
      ReadableStm w → Sizes (placed_from k (from_place (w ∷ ws) s) p nothing_given other) → TypesAt S p P s other.types →
      TypesAt S p P (scope_after (put_in_scope w s) s) (env_after (resolve_stm (put_in_scope w s) s.tys) p nothing_given other).types
  types-behind k (given x d) ws s other n h r z t =
      types-stay S p P s (scope_after (put_in_scope (given x d) s) s) other.types (statement-grows S p P (given x d) s) t
  types-behind k (given_enum u) ws s other n h r z t =
      type-added S p P s (scope_after (put_in_scope (given_enum u) s) s) _ other.types
      (given-new S p P u s n (h.enums u (inl refl)) h.inside r) t
  types-behind k (let_ex x e) ws s other n h r z t =
      types-stay S p P s (scope_after (put_in_scope (let_ex x e) s) s) other.types (statement-grows S p P (let_ex x e) s) t
  types-behind k (let_dom x d) ws s other n h r z t =
      types-stay S p P s (scope_after (put_in_scope (let_dom x d) s) s) other.types (statement-grows S p P (let_dom x d) s) t
  types-behind k (let_enum u ns) ws s other n h r z t =
      let q = and-right (is_name_token u) (some_names ns && are_name_tokens ns) r in
      type-added S p P s (scope_after (put_in_scope (let_enum u ns) s) s) (enum_entry u ns) other.types
      (enum-new S p P u ns s n (ahead (let_enum u ns) ws s h) (and-left (is_name_token u) (some_names ns && are_name_tokens ns) r)
      (and-right (some_names ns) (are_name_tokens ns) q)) t
  types-behind k (let_unnamed u e) ws s other n h r z t =
      let x : Ex = resolve (put_ex e s.lets s.tys) s.tys in
      let m : ℕ = size_of (meaning x other) in
      let l : Placed = record { stm = resolve_stm (put_in_scope (let_unnamed u e) s) s.tys; number = k; env = other } in
      let ls : List Placed =
      placed_from (suc k) (from_place ws (scope_after (put_in_scope (let_unnamed u e) s) s)) p nothing_given (env_after l.stm p nothing_given
      other) in
      type-added S p P s (scope_after (put_in_scope (let_unnamed u e) s) s) (unnamed_entry S p P u m) other.types
      (unnamed-new S p P u e m s n
      (size-small (meaning x other)
      (means-small x other
      (or-left-no (declares_large_number l.stm l.env) (list_any (λ l. declares_large_number l.stm l.env) ls) z.fits)))
      (λ y i. first-taken l ls z y (among-append (unnamed_names u 1 m) [] y ∙ ap (λ b. b || false) i)) r.0) t
  types-behind k (needs e) ws s other n h r z t =
      types-stay S p P s (scope_after (put_in_scope (needs e) s) s) other.types (statement-grows S p P (needs e) s) t
  types-behind k (find x d) ws s other n h r z t =
      types-stay S p P s (scope_after (put_in_scope (find x d) s) s) other.types (statement-grows S p P (find x d) s) t
  types-behind k (such_that e) ws s other n h r z t =
      types-stay S p P s (scope_after (put_in_scope (such_that e) s) s) other.types (statement-grows S p P (such_that e) s) t
  types-behind k (minimise e) ws s other n h r z t =
      types-stay S p P s (scope_after (put_in_scope (minimise e) s) s) other.types (statement-grows S p P (minimise e) s) t
  types-behind k (maximise e) ws s other n h r z t =
      types-stay S p P s (scope_after (put_in_scope (maximise e) s) s) other.types (statement-grows S p P (maximise e) s) t

  -- ---- at a place

  -- The names that the types behind all statements give.
  abbrev N : Text → ℕ → Text
  N = item_name (here S p).types

  not-there : (k : ℕ) (ws : List Stm) (s : Scope) (other : Env) → first_fault k ws s ≡ None → At S p P ws s →
      env_behind (from_place ws s) p nothing_given other ≡ here S p → TypesAt S p P s other.types → NamesItems N other.types
  not-there k ws s other f h c t u e j q l m =
      let i : is_among (names_in_scope s) u ≡ true =
      ap (is_among (names_in_scope s)) (sym (entry-name other.types u e q))
      ∙ entry-right other.types u e (λ e. is_among (names_in_scope s) e.name ≡ true) t.known q in
      let g = behind-agrees ws s p nothing_given other in
      let z : type_entry (here S p).types u ≡ type_entry other.types u =
      sym (g.types u (outside S p P k ws s f h u i) ∙ ap (λ v. type_entry v.types u) c) in
      ap (item_of_name other.types) (ap (name_in j) z) ∙ entries-named other.types t.right t.distinct u e j q l m

  at-place : (k : ℕ) (ws : List Stm) (s : Scope) (env other : Env) → first_fault k ws s ≡ None → At S p P ws s → SameGivens s env other →
      env_behind (from_place ws s) p nothing_given other ≡ here S p → TypesAt S p P s other.types → HasValueNames N env
  at-place k ws s env other f h g c t = record {
    plain = (
      g.positions ∙ sym (env-form (from_place ws s) p nothing_given other).0 ∙ ap (λ v. v.positions) c
          ∙ (env-form (prepared S) p nothing_given empty_env).0,
      (subst (λ ts. TypesAt S p P s ts) (sym g.types) t).names,
    );
    named = subst (NamesItems N) (sym g.types) (not-there k ws s other f h c t);
    tokens = (subst (λ ts. TypesAt S p P s ts) (sym g.types) t).tokens;
  }

  walk : (a : Assignment) (k : ℕ) (ws : List Stm) (s : Scope) (env other : Env) → first_fault k ws s ≡ None → At S p P ws s →
      SameGivens s env other → env_behind (from_place ws s) p nothing_given other ≡ here S p → ReadableStms ws →
      TypesAt S p P s other.types → Sizes (placed_from k (from_place ws s) p nothing_given other) →
      Each (placed_from k (from_place ws s) p a env) (λ l. HasValueNames N l.env)
  walk a k [] s env other f h g c r t z = tt
  walk a k (w ∷ ws) s env other f h g c r t z =
      let x : Stm = put_in_scope w s in
      let n = no-fault (first_failed judgements w x s) (first_fault (suc k) ws (scope_after x s)) k f in
      let j = judged w x s n.0 in (
        at-place k (w ∷ ws) s env other f h g c t,
        walk a (suc k) ws (scope_after x s) (env_after (resolve_stm x s.tys) p a env)
            (env_after (resolve_stm x s.tys) p nothing_given other) n.1 (next S p P w ws s h) (same-behind w s p a env other j g) c r.1
            (types-behind k w ws s other j.new h r.0 z t) (later-sizes _ _ z),
      )

-- In a parameter of a well typed specification no two values of named types have one name.
pub values-have-names : ValuesHaveNames
values-have-names S p a e r P l =
    walk S p P a 1 S empty_scope empty_env empty_env e (start S p P)
    (record { positions = refl; cells = refl; types = refl; vals = λ y i. refl }) refl r
    (record { names = refl; known = tt; right = tt; tokens = refl; distinct = refl; sources = λ x i. cc })
    (record { fits = l; taken = λ x i. i })
