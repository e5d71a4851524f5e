-- Types that statements declare are new ones: enumerated types with the names that are written or given, and unnamed types.
use Rattle.std.proofs.Common.{◌≡◌, refl, sym, ap, ◌∙◌, ℕ, ◌<◌, ◌^◌, Bool, true, false, ◌||◌, not, List, [], ◌∷◌, length, inl, inr, arith}
use Rattle.std.specs.List.{list_any}
use Rattle.ess_semantics.specs.Values.{Text}
use Rattle.ess_semantics.specs.Order.{same_text}
use Rattle.ess_semantics.specs.Names.{is_among, all_distinct}
use Rattle.ess_semantics.specs.NameTokens as pure
use Rattle.ess_semantics.specs.Trees.{Ex, Stm, given, given_enum, let_ex, let_dom, let_enum, let_unnamed, needs, find, such_that, minimise, maximise}
use Rattle.ess_semantics.specs.Scopes.{Scope, names_in_scope}
use Rattle.ess_semantics.specs.Judgements.{names_are_new, no_value_name, is_value_name, unnamed_by, declares, put_in_scope, scope_after}
use Rattle.ess_semantics.specs.Meaning.{TypeEntry}
use Rattle.ess_semantics.specs.Assignments.{Assignment, unnamed_names}
use Rattle.ess_semantics.specs.Parameters.{Param, all_declared, given_enums}
use Rattle.ess_semantics.proofs.Tests.{and-left, and-right, and-both, not-true, or-yes, or-left-no}
use Rattle.ess_semantics.proofs.Texts.{same_text-equal, same_text-itself}
use Rattle.ess_grammar.specs.Readable.{is_name_token, are_name_tokens}
use Rattle.ess_grammar.proofs.NameTokens.{name-token-either}
use Rattle.conjure_laws.specs.Members.{In}
use Rattle.conjure_settled_laws.proofs.ScopesGrow.{scope-grows, none-shared}
use Rattle.conjure_settled_laws.proofs.SettledStatements.{none-declared}
use Rattle.conjure_settled_laws.proofs.GivenNames.{given-names-spelled}
use Rattle.ess_value_names_laws.proofs.UnnamedNames.{value-name, one-name, unnamed-among, unnamed-distinct}
use Rattle.ess_value_names_laws.proofs.OwnNames.{value_names, IsRight}
use Rattle.ess_value_names_laws.proofs.GivenTypes.{unnamed_taken, given_names, given-distinct, given-undeclared, given-not-unnamed, given-apart-types}
use Rattle.ess_value_names_laws.proofs.TypesInScope.{none-passes, IsValueName, Grows, NewType}

-- ---- what the judgement of names says

value-names-none : (w : Stm) (s : Scope) → names_are_new w s ≡ true →
    (list_any (λ u. list_any (is_value_name u) (declares w)) s.unnamed ≡ false) ×
    (list_any (λ u. list_any (is_value_name u) (names_in_scope s)) (unnamed_by w) ≡ false)
value-names-none w s h =
    let n = and-right _ (no_value_name w s) (and-left _ _ (and-left _ _ h)) in
    let A = list_any (λ u. list_any (is_value_name u) (declares w)) s.unnamed in
    let B = list_any (λ u. list_any (is_value_name u) (names_in_scope s)) (unnamed_by w) in
    (not-true A (and-left (not A) (not B) n), not-true B (and-right (not A) (not B) n))

-- No declared name is one of an unnamed type before it.
declares-no-value : (w : Stm) (s : Scope) → names_are_new w s ≡ true → (u a : Text) → is_among s.unnamed u ≡ true →
    is_among (declares w) a ≡ true → is_value_name u a ≡ false
declares-no-value w s h u a i j =
    none-passes (is_value_name u) (declares w) a
    (none-passes (λ u. list_any (is_value_name u) (declares w)) s.unnamed u (value-names-none w s h).0 i) j

-- No name in scope is one of an unnamed type that is declared.
scope-no-value : (t : Text) (e : Ex) (s : Scope) → names_are_new (let_unnamed t e) s ≡ true → (a : Text) →
    is_among (names_in_scope s) a ≡ true → is_value_name t a ≡ false
scope-no-value t e s h a i =
    none-passes (is_value_name t) (names_in_scope s) a
    (or-left-no (list_any (is_value_name t) (names_in_scope s)) false (value-names-none (let_unnamed t e) s h).1) i

not-declared : (w : Stm) (s : Scope) → names_are_new w s ≡ true → (a : Text) → is_among (declares w) a ≡ true →
    is_among (names_in_scope s) a ≡ false
not-declared w s h a i = go (is_among (names_in_scope s) a) refl
  where
    go : (b : Bool) → is_among (names_in_scope s) a ≡ b → is_among (names_in_scope s) a ≡ false
    go false e = e
    go true e = let z : true ≡ false = sym i ∙ none-shared (names_in_scope s) (declares w) a (none-declared w s h) e in cc

distinct-declared : (w : Stm) (s : Scope) → names_are_new w s ≡ true → all_distinct (declares w) ≡ true
distinct-declared w s h = and-left (all_distinct (declares w)) (not (list_any (is_among (names_in_scope s)) (declares w)))
    (and-left _ _ (and-left _ _ (and-left _ _ h)))

first-among : (n : Text) (ns : List Text) → is_among (n ∷ ns) n ≡ true
first-among n ns = ap (λ b. b || is_among ns n) (same_text-itself n)

clash : (b : Bool) → b ≡ true → b ≡ false → ⊥
clash true p q = cc
clash false p q = cc

tokens-either : (ns : List Text) → pure.are_name_tokens ns ≡ true → are_name_tokens ns ≡ true
tokens-either [] h = refl
tokens-either (n ∷ ns) h =
    and-both (is_name_token n) (are_name_tokens ns)
    (name-token-either n ∙ and-left (pure.is_name_token n) (pure.are_name_tokens ns) h)
    (tokens-either ns (and-right (pure.is_name_token n) (pure.are_name_tokens ns) h))

-- ---- enumerated types

-- An enumerated type with these names.
abbrev pub enum_entry : Text → List Text → TypeEntry
enum_entry t ns = record { name = t; count = length ns; names = ns }

listed-right : (t : Text) (ns : List Text) → IsRight (enum_entry t ns)
listed-right t [] = record { small = λ e. omega arith; listed = λ e. refl }
listed-right t (n ∷ ns) = record { small = λ e. cc; listed = λ e. refl }

listed-among : (t : Text) (ns : List Text) (a : Text) → is_among (value_names (enum_entry t ns)) a ≡ true → is_among ns a ≡ true
listed-among t [] a i = i
listed-among t (n ∷ ns) a i = i

listed-distinct : (t : Text) (ns : List Text) → all_distinct ns ≡ true → all_distinct (value_names (enum_entry t ns)) ≡ true
listed-distinct t [] d = refl
listed-distinct t (n ∷ ns) d = d

module _ (S : List Stm) (p : Assignment) (P : Param S p) where
  -- Behind a statement more is in scope.
  pub statement-grows : (w : Stm) (s : Scope) → Grows S p P s (scope_after (put_in_scope w s) s)
  statement-grows w s = record {
    names = λ a i. scope-grows w s a ∙ ap (λ b. is_among (declares w) a || b) i ∙ or-yes (is_among (declares w) a);
    unnamed = λ a i. more w a i;
  }
    where
      more : (w : Stm) (a : Text) → is_among s.unnamed a ≡ true → is_among (scope_after (put_in_scope w s) s).unnamed a ≡ true
      more (let_unnamed t e) a i = ap (λ b. same_text t a || b) i ∙ or-yes (same_text t a)
      more (given x d) a i = i
      more (given_enum t) a i = i
      more (let_ex x e) a i = i
      more (let_dom x d) a i = i
      more (let_enum t ns) a i = i
      more (needs e) a i = i
      more (find x d) a i = i
      more (such_that e) a i = i
      more (minimise e) a i = i
      more (maximise e) a i = i

  declared-known : (w : Stm) (s : Scope) (a : Text) → is_among (declares w) a ≡ true →
      is_among (names_in_scope (scope_after (put_in_scope w s) s)) a ≡ true
  declared-known w s a i = scope-grows w s a ∙ ap (λ b. b || is_among (names_in_scope s) a) i

  -- An enumerated type that is written.
  pub enum-new : (t : Text) (ns : List Text) (s : Scope) → names_are_new (let_enum t ns) s ≡ true →
      ((a : Text) → is_among (t ∷ ns) a ≡ true → is_among (all_declared S) a ≡ true) → is_name_token t ≡ true → are_name_tokens ns ≡ true →
      NewType S p P s (scope_after (put_in_scope (let_enum t ns) s) s) (enum_entry t ns)
  enum-new t ns s h ahead k l = record {
    grows = statement-grows (let_enum t ns) s;
    is_new = not-declared (let_enum t ns) s h t (first-among t ns);
    known = declared-known (let_enum t ns) s t (first-among t ns);
    right = listed-right t ns;
    token = k;
    tokens = l;
    distinct = listed-distinct t ns (and-right (not (is_among ns t)) (all_distinct ns) (distinct-declared (let_enum t ns) s h));
    apart = λ a i x. off a (behind a (listed-among t ns a i)) x;
    sources = λ a i. inl (declared-known (let_enum t ns) s a (behind a (listed-among t ns a i)));
  }
    where
      behind : (a : Text) → is_among ns a ≡ true → is_among (t ∷ ns) a ≡ true
      behind a i = ap (λ b. same_text t a || b) i ∙ or-yes (same_text t a)

      off : (a : Text) → is_among (t ∷ ns) a ≡ true → IsValueName S p P s a → ⊥
      off a i (inl j) = clash (is_among (names_in_scope s) a) j (not-declared (let_enum t ns) s h a i)
      off a i (inr (inl x)) = clash (is_among (given_names S p P x.0) a) x.3 (given-undeclared S p P x.0 x.1 a (ahead a i))
      off a i (inr (inr x)) =
          clash (is_value_name x.0 a) (ap (is_value_name x.0) x.5 ∙ value-name x.0 x.1 x.4)
          (declares-no-value (let_enum t ns) s h x.0 a x.3 i)

  -- An enumerated type that is given.
  pub given-new : (t : Text) (s : Scope) → names_are_new (given_enum t) s ≡ true → In t (given_enums S) →
      ((a : Text) → is_among (names_in_scope s) a ≡ true → is_among (all_declared S) a ≡ true) → is_name_token t ≡ true →
      NewType S p P s (scope_after (put_in_scope (given_enum t) s) s) (enum_entry t (given_names S p P t))
  given-new t s h g inside k = record {
    grows = statement-grows (given_enum t) s;
    is_new = not-declared (given_enum t) s h t (first-among t []);
    known = declared-known (given_enum t) s t (first-among t []);
    right = listed-right t (given_names S p P t);
    token = k;
    tokens = tokens-either (given_names S p P t) (given-names-spelled S p P t g);
    distinct = listed-distinct t (given_names S p P t) (given-distinct S p P t g);
    apart = λ a i x. off a (listed-among t (given_names S p P t) a i) x;
    sources = λ a i. inr
        (inl (t, g, declared-known (given_enum t) s t (first-among t []), listed-among t (given_names S p P t) a i));
  }
    where
      other : (u : Text) → is_among (names_in_scope s) u ≡ true → (b : Bool) → same_text t u ≡ b → same_text t u ≡ false
      other u i false e = e
      other u i true e =
          absurd (clash (is_among (names_in_scope s) u) i
          (ap (is_among (names_in_scope s)) (sym (same_text-equal t u e)) ∙ not-declared (given_enum t) s h t (first-among t [])))

      off : (a : Text) → is_among (given_names S p P t) a ≡ true → IsValueName S p P s a → ⊥
      off a i (inl j) = clash (is_among (given_names S p P t) a) i (given-undeclared S p P t g a (inside a j))
      off a i (inr (inl x)) =
          clash (is_among (given_names S p P x.0) a) x.3
          (given-apart-types S p P t x.0 g x.1 (other x.0 x.2 (same_text t x.0) refl) a i)
      off a i (inr (inr x)) = clash (is_among (given_names S p P t) a) i (given-not-unnamed S p P t g a x.6)

  -- ---- unnamed types

  -- An unnamed type of this size.
  abbrev pub unnamed_entry : Text → ℕ → TypeEntry
  unnamed_entry t n = record { name = t; count = n; names = [] }

  pub unnamed-new : (t : Text) (e : Ex) (n : ℕ) (s : Scope) → names_are_new (let_unnamed t e) s ≡ true → n < 2 ^ 63 →
      ((a : Text) → is_among (unnamed_names t 1 n) a ≡ true → is_among (unnamed_taken S p P) a ≡ true) → is_name_token t ≡ true →
      NewType S p P s (scope_after (put_in_scope (let_unnamed t e) s) s) (unnamed_entry t n)
  unnamed-new t e n s h l taken k = record {
    grows = statement-grows (let_unnamed t e) s;
    is_new = not-declared (let_unnamed t e) s h t (first-among t []);
    known = declared-known (let_unnamed t e) s t (first-among t []);
    right = record { small = λ q. omega arith; listed = λ q. cc };
    token = k;
    tokens = refl;
    distinct = unnamed-distinct t 1 n (omega arith);
    apart = λ a i x. off a i x;
    sources = λ a i. source a i;
  }
    where
      source : (a : Text) → is_among (unnamed_names t 1 n) a ≡ true →
          IsValueName S p P (scope_after (put_in_scope (let_unnamed t e) s) s) a
      source a i =
          let r = unnamed-among t 1 n a i in
          let y = r.2 in
          inr (inr (t, r.0, declared-known (let_unnamed t e) s t (first-among t []), first-among t s.unnamed, omega arith, r.3, taken a i))

      off : (a : Text) → is_among (unnamed_names t 1 n) a ≡ true → IsValueName S p P s a → ⊥
      off a i (inl j) =
          let r = unnamed-among t 1 n a i in
          let y = r.2 in
          clash (is_value_name t a) (ap (is_value_name t) r.3 ∙ value-name t r.0 (omega arith)) (scope-no-value t e s h a j)
      off a i (inr (inl x)) = clash (is_among (given_names S p P x.0) a) x.3 (given-not-unnamed S p P x.0 x.1 a (taken a i))
      off a i (inr (inr x)) =
          let r = unnamed-among t 1 n a i in
          let y = r.2 in
          let z = one-name t x.0 r.0 x.1 (omega arith) x.4 (sym r.3 ∙ x.5) in
          clash (is_among (names_in_scope s) x.0) x.2
          (ap (is_among (names_in_scope s)) (sym z.0) ∙ not-declared (let_unnamed t e) s h t (first-among t []))
