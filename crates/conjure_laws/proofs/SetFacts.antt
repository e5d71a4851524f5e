-- What is known at each line of a specification of sets, from the first to the last: names with their values, types with their
-- entries, finds with their domains.
use Rattle.std.proofs.Common.{◌≡◌, refl, sym, ap, ◌∙◌, subst, ℕ, true, false, ◌||◌, List, [], ◌∷◌, ◌++◌, length, ◌⊎◌, inl, inr, Some, None}
use Rattle.ess_semantics.specs.Lists.{list_or_none}
use Rattle.ess_semantics.specs.Values.{Text, item}
use Rattle.ess_semantics.specs.Order.{same_text}
use Rattle.ess_semantics.specs.Names.{Names, look, is_among}
use Rattle.ess_semantics.specs.Trees.{Dom, Stm, find}
use Rattle.ess_semantics.specs.Meaning.{Env, empty_env}
use Rattle.ess_semantics.specs.Assignments.{Assignment, env_after, env_behind, env_of}
use Rattle.ess_semantics.specs.Parameters.{Param, all_declared}
use Rattle.ess_semantics.proofs.Tests.{or-yes}
use Rattle.conjure_laws.proofs.Lists.{in-left, in-right}
use Rattle.conjure_laws.specs.Members.{In}
use Rattle.conjure_laws.specs.Premises.{here}
use Rattle.conjure_laws.proofs.NamedTables.{in-among}
use Rattle.conjure_laws.specs.SetsOfAtoms.{Atom, Lit, Line, range, typed, boolean, num, truth_lit, value_name, enum, given_type, unnamed, set_find, holds_lit, sets_of, statement, spec, TypeKind, fixed, sized, Declared, none_declared, after, after_all}
use Rattle.conjure_laws.proofs.SetScopes.{Fine, Entry, Fresh, value-step, fine-later, prepared-itself, type-step, fresh-later, known-later}
use Rattle.conjure_laws.proofs.SetNames.{line-names, one-among, new-entry, fresh, look-cons, enumerated, enumerated-name}
use Rattle.ess_semantics.specs.Judgements.{declares}

module _ (T : List Line) (ok : Fine none_declared T) where
  abbrev S : List Stm
  S = spec T

  abbrev D : List Text
  D = all_declared S

  abbrev places : Names (Text × ℕ)
  places = (after_all T none_declared).values

  abbrev kinds : Names TypeKind
  kinds = (after_all T none_declared).types

  -- The type of a set's members has its kind and its entry.
  abbrev pub AtomFact : Atom → Type 0
  AtomFact (range a b) = Unit {0}
  AtomFact boolean = Unit {0}
  AtomFact (typed t) = (k : TypeKind) × (look kinds t ≡ Some k) × ((p : Assignment) → Entry p t k (here S p))

  -- A value's name has its position and its value.
  abbrev pub LitFact : Lit → Atom → Type 0
  LitFact (num k) (range a b) = Unit {0}
  LitFact (truth_lit b) boolean = Unit {0}
  LitFact (value_name n) (typed t) = (k : ℕ) × (look places n ≡ Some (t, k)) ×
      ((p a : Assignment) → Param S p → look (env_of S p a).vals n ≡ Some (item t k))
  LitFact l A = ⊥

  -- These facts of each line.
  abbrev pub Facts : List Line → Type 0
  Facts [] = Unit {0}
  Facts (set_find x A ∷ U) = AtomFact A × Facts U
  Facts (holds_lit l x ∷ U) = ((A : Atom) × In (find x (sets_of A)) S × LitFact l A) × Facts U
  Facts (l ∷ U) = Facts U

  -- Where lines U are left, c is declared, and the env so far is ef.
  pub record At (c : Declared) (U : List Line) (ef : Assignment → Assignment → Env) : Type 0 where
    pub fine : Fine c U
    pub end : (after_all U c).types ≡ kinds
    pub end_values : (after_all U c).values ≡ places
    pub behind : (p a : Assignment) → env_of S p a ≡ env_behind (spec U) p a (ef p a)
    pub fresh_here : (p : Assignment) → Param S p → Fresh p D U
    pub declared : (x : Text) → is_among c.names x ≡ true → is_among D x ≡ true
    pub ahead : (x : Text) → In x (all_declared (spec U)) → is_among D x ≡ true
    pub finds_ahead : (x : Text) (d : Dom) → In (find x d) (spec U) → In (find x d) S
    pub values : (p a : Assignment) → Param S p → (n u : Text) (k : ℕ) → look c.values n ≡ Some (u, k) →
        look (ef p a).vals n ≡ Some (item u k)
    pub value_names : (n u : Text) (k : ℕ) → look c.values n ≡ Some (u, k) → is_among c.names n ≡ true
    pub entries : (t : Text) (k : TypeKind) → look c.types t ≡ Some k → (p a : Assignment) → Entry p t k (ef p a)
    pub positions : (p a : Assignment) → (ef p a).positions ≡ false
    pub type_names : (t : Text) (k : TypeKind) → look c.types t ≡ Some k → is_among c.names t ≡ true
    pub finds : (x : Text) (A : Atom) → look c.finds x ≡ Some A → (is_among c.names x ≡ true) × In (find x (sets_of A)) S

  -- The env behind a line.
  abbrev pub next : Line → (Assignment → Assignment → Env) → Assignment → Assignment → Env
  next l ef p a = env_after (statement l) p a (ef p a)

  -- Entries and values stay over a line that declares something else.
  entry-stays : (l : Line) (U : List Line) (c : Declared) (p a : Assignment) (t : Text) (k : TypeKind) (env : Env) → Fine c (l ∷ U) →
      is_among c.names t ≡ true → Entry p t k env → Entry p t k (env_after (statement l) p a env)
  entry-stays l U c p a t k env f i e = (e.0, type-step p a D l U env c f t i ∙ e.1)

  -- What a line leaves as it was.
  module _ (l : Line) (U : List Line) (c : Declared) (ef : Assignment → Assignment → Env) (h : At c (l ∷ U) ef) where
    declared-next : (x : Text) → is_among (after l c).names x ≡ true → is_among D x ≡ true
    declared-next x e = go (line-names l c x e)
      where
        go : In x (declares (statement l)) ⊎ (is_among c.names x ≡ true) → is_among D x ≡ true
        go (inl i) = h.ahead x (in-left x (declares (statement l)) (all_declared (spec U)) i)
        go (inr i) = h.declared x i

    old-value : (p a : Assignment) → Param S p → (n u : Text) (k : ℕ) → look c.values n ≡ Some (u, k) →
        look (next l ef p a).vals n ≡ Some (item u k)
    old-value p a P n u k e =
        let i = h.value_names n u k e in value-step p a D l U (ef p a) c h.fine (h.fresh_here p P) n i (h.declared n i)
        ∙ h.values p a P n u k e

    old-entry : (t : Text) (k : TypeKind) → look c.types t ≡ Some k → (p a : Assignment) → Entry p t k (next l ef p a)
    old-entry t k e p a = entry-stays l U c p a t k (ef p a) h.fine (h.type_names t k e) (h.entries t k e p a)

    false-next : (p a : Assignment) → (next l ef p a).positions ≡ false
    false-next p a = keeps l ∙ h.positions p a
      where
        keeps : (l : Line) → (env_after (statement l) p a (ef p a)).positions ≡ (ef p a).positions
        keeps (enum t ns) = refl
        keeps (given_type t) = refl
        keeps (unnamed t n) = refl
        keeps (set_find x A) = refl
        keeps (holds_lit l x) = refl

    -- Where the line declares no values, types and finds.
    plain-next : (after l c).values ≡ c.values → (after l c).types ≡ c.types → (after l c).finds ≡ c.finds →
        At (after l c) U (next l ef)
    plain-next v ty fi = record {
      fine = fine-later l U c h.fine;
      end = h.end;
      end_values = h.end_values;
      behind = h.behind;
      fresh_here = λ p P. fresh-later p D l U (h.fresh_here p P);
      declared = declared-next;
      ahead = λ x i. h.ahead x (in-right x (declares (statement l)) (all_declared (spec U)) i);
      finds_ahead = λ x d i. h.finds_ahead x d (inr i);
      values = λ p a P n u k e. old-value p a P n u k (ap (λ g. look g n) (sym v) ∙ e);
      value_names = λ n u k e. known-later l c n (h.value_names n u k (ap (λ g. look g n) (sym v) ∙ e));
      entries = λ t k e p a. old-entry t k (ap (λ g. look g t) (sym ty) ∙ e) p a;
      positions = false-next;
      type_names = λ t k e. known-later l c t (h.type_names t k (ap (λ g. look g t) (sym ty) ∙ e));
      finds = λ x A e. let r = h.finds x A (ap (λ g. look g x) (sym fi) ∙ e) in (known-later l c x r.0, r.1);
    }

    -- Where it declares a type, with values that f tells of.
    type-next : (t : Text) (k : TypeKind) → (after l c).types ≡ (t, k) ∷ c.types → (after l c).finds ≡ c.finds →
        is_among (after l c).names t ≡ true →
        ((p a : Assignment) → Entry p t k (next l ef p a)) →
        ((p a : Assignment) → Param S p → (n u : Text) (j : ℕ) → look (after l c).values n ≡ Some (u, j) →
        look (next l ef p a).vals n ≡ Some (item u j)) →
        ((n u : Text) (j : ℕ) → look (after l c).values n ≡ Some (u, j) → is_among (after l c).names n ≡ true) →
        At (after l c) U (next l ef)
    type-next t k ty fi nt en va vn = record {
      fine = fine-later l U c h.fine;
      end = h.end;
      end_values = h.end_values;
      behind = h.behind;
      fresh_here = λ p P. fresh-later p D l U (h.fresh_here p P);
      declared = declared-next;
      ahead = λ x i. h.ahead x (in-right x (declares (statement l)) (all_declared (spec U)) i);
      finds_ahead = λ x d i. h.finds_ahead x d (inr i);
      values = va;
      value_names = vn;
      positions = false-next;
      entries = λ u j e p a. entry u j p a (look-cons t u k j c.types (ap (λ g. look g u) (sym ty) ∙ e));
      type_names = λ u j e. name u j (look-cons t u k j c.types (ap (λ g. look g u) (sym ty) ∙ e));
      finds = λ x A e. let r = h.finds x A (ap (λ g. look g x) (sym fi) ∙ e) in (known-later l c x r.0, r.1);
    }
      where
        entry : (u : Text) (j : TypeKind) (p a : Assignment) → ((t ≡ u) × (k ≡ j)) ⊎ (look c.types u ≡ Some j) →
            Entry p u j (next l ef p a)
        entry u j p a (inl q) = subst (λ z. Entry p u z (next l ef p a)) q.1 (subst (λ z. Entry p z k (next l ef p a)) q.0 (en p a))
        entry u j p a (inr e) = old-entry u j e p a

        name : (u : Text) (j : TypeKind) → ((t ≡ u) × (k ≡ j)) ⊎ (look c.types u ≡ Some j) → is_among (after l c).names u ≡ true
        name u j (inl q) = ap (is_among (after l c).names) (sym q.0) ∙ nt
        name u j (inr e) = known-later l c u (h.type_names u j e)

  -- From one line to the next.
  pub step : (l : Line) (U : List Line) (c : Declared) (ef : Assignment → Assignment → Env) → At c (l ∷ U) ef →
      At (after l c) U (next l ef)
  step (enum t ns) U c ef h =
      type-next (enum t ns) U c ef h t (fixed (length ns)) refl refl (one-among t (ns ++ c.names))
      (λ p a. (ns, new-entry p t (fixed (length ns)) ns (ef p a).types))
      (λ p a P n u j e. enumerated t 1 ns c.values (ef p a).vals n u j e (λ e. h.values p a P n u j e))
      (λ n u j e. ap (λ b. same_text t n || b) (enumerated-name t 1 ns c.values c.names n u j e (λ e. h.value_names n u j e))
      ∙ or-yes (same_text t n))
  step (given_type t) U c ef h =
      type-next (given_type t) U c ef h t sized refl refl (one-among t c.names)
      (λ p a. (list_or_none (look p.types t), new-entry p t sized (list_or_none (look p.types t)) (ef p a).types))
      (λ p a P n u j e. old-value (given_type t) U c ef h p a P n u j e)
      (λ n u j e. known-later (given_type t) c n (h.value_names n u j e))
  step (unnamed t m) U c ef h =
      type-next (unnamed t m) U c ef h t (fixed m) refl refl (one-among t c.names)
      (λ p a. ([], new-entry p t (fixed m) [] (ef p a).types))
      (λ p a P n u j e. old-value (unnamed t m) U c ef h p a P n u j e)
      (λ n u j e. known-later (unnamed t m) c n (h.value_names n u j e))
  step (holds_lit l x) U c ef h = plain-next (holds_lit l x) U c ef h refl refl refl
  step (set_find x A) U c ef h =
      let o = old-value (set_find x A) U c ef h in
      record {
        fine = fine-later (set_find x A) U c h.fine;
        end = h.end;
        end_values = h.end_values;
        behind = h.behind;
        fresh_here = λ p P. h.fresh_here p P;
        declared = declared-next (set_find x A) U c ef h;
        ahead = λ y i. h.ahead y (inr i);
        finds_ahead = λ y d i. h.finds_ahead y d (inr i);
        values = o;
        value_names = λ n u k e. known-later (set_find x A) c n (h.value_names n u k e);
        entries = old-entry (set_find x A) U c ef h;
        positions = false-next (set_find x A) U c ef h;
        type_names = λ t k e. known-later (set_find x A) c t (h.type_names t k e);
        finds = λ y B e. go y B (look-cons x y A B c.finds e);
      }
    where
      go : (y : Text) (B : Atom) → ((x ≡ y) × (A ≡ B)) ⊎ (look c.finds y ≡ Some B) →
          (is_among (x ∷ c.names) y ≡ true) × In (find y (sets_of B)) S
      go y B (inl q) = (
        ap (λ z. is_among (x ∷ c.names) z) (sym q.0)
            ∙ one-among x c.names,
        subst (λ z. In (find y (sets_of z)) S) q.1
            (subst (λ z. In (find z (sets_of A)) S) q.0 (h.finds_ahead x (sets_of A) (inl refl))),
      )
      go y B (inr e) = let r = h.finds y B e in (known-later (set_find x A) c y r.0, r.1)

  -- At the first line.
  pub start : At none_declared T (λ p a. empty_env)
  start = record {
    fine = ok;
    end = refl;
    end_values = refl;
    behind = λ p a. ap (λ l. env_behind l p a empty_env) (prepared-itself T);
    fresh_here = fresh T;
    declared = λ x e. cc;
    ahead = λ x i. in-among D x i;
    finds_ahead = λ x d i. i;
    values = λ p a P n u k e. cc;
    value_names = λ n u k e. cc;
    entries = λ t k e p a. absurd (no e);
    positions = λ p a. refl;
    type_names = λ t k e. cc;
    finds = λ x A e. absurd (no e);
  }
    where
      no : {A : Type 0} {x : A} → None ≡ Some x → ⊥
      no e = cc
