-- What is kept of the named types of an env while statements go by: their names are in scope, no two values have one name, and each value's
-- name is a declared one, one of a given type, or one of an unnamed type that is in scope. So a new type may be put in front.
use Rattle.std.proofs.Common.{◌≡◌, refl, sym, ap, ◌∙◌, ℕ, ◌<◌, ◌^◌, Bool, true, false, ◌&&◌, ◌||◌, not, List, [], ◌∷◌, ◌++◌, map, ◌⊎◌, inl, inr}
use Rattle.std.specs.List.{list_any}
use Rattle.ess_semantics.specs.Values.{Text}
use Rattle.ess_semantics.specs.Order.{same_text}
use Rattle.ess_semantics.specs.Names.{is_among, all_distinct}
use Rattle.ess_semantics.specs.Trees.{Stm}
use Rattle.ess_semantics.specs.Contexts.{Each}
use Rattle.ess_semantics.specs.Scopes.{Scope, names_in_scope}
use Rattle.ess_semantics.specs.Meaning.{TypeEntry}
use Rattle.ess_semantics.specs.Assignments.{Assignment, unnamed_name}
use Rattle.ess_semantics.specs.Parameters.{Param, given_enums}
use Rattle.ess_semantics.proofs.Tests.{and-both, or-left-no, or-right-no}
use Rattle.ess_semantics.proofs.Texts.{same_text-equal}
use Rattle.ess_grammar.specs.Readable.{is_name_token, are_name_tokens}
use Rattle.ess_values_laws.specs.Spellable.{have_name_tokens}
use Rattle.conjure_laws.specs.Members.{In}
use Rattle.conjure_laws.proofs.Lists.{each-map, all-items}
use Rattle.conjure_laws.proofs.NamedTables.{in-among}
use Rattle.conjure_laws.proofs.FreeNames.{among-append, join-halves}
use Rattle.ess_value_names_laws.proofs.OwnNames.{value_names, all_value_names, IsRight}
use Rattle.ess_value_names_laws.proofs.GivenTypes.{unnamed_taken, given_names}

-- A test that no name of a list passes isn't passed by one of them.
pub none-passes : (f : Text → Bool) (ns : List Text) (a : Text) → list_any f ns ≡ false → is_among ns a ≡ true → f a ≡ false
none-passes f [] a h i = cc
none-passes f (n ∷ ns) a h i =
    go (same_text n a) refl i (none-passes f ns a (or-right-no (f n) (list_any f ns) h))
  where
    go : (b : Bool) → same_text n a ≡ b → b || is_among ns a ≡ true → (is_among ns a ≡ true → f a ≡ false) → f a ≡ false
    go true q i k = ap f (sym (same_text-equal n a q)) ∙ or-left-no (f n) (list_any f ns) h
    go false q i k = k i

module _ (S : List Stm) (p : Assignment) (P : Param S p) where
  -- A name of a value is a declared one, or one of a value of a given type or of an unnamed type, which is in scope.
  abbrev pub IsValueName : Scope → Text → Type 0
  IsValueName s a =
      (is_among (names_in_scope s) a ≡ true) ⊎
      (((t : Text) × In t (given_enums S) × (is_among (names_in_scope s) t ≡ true) × (is_among (given_names S p P t) a ≡ true)) ⊎
      ((u : Text) × (k : ℕ) × (is_among (names_in_scope s) u ≡ true) × (is_among s.unnamed u ≡ true) × (k < 2 ^ 64) ×
      (a ≡ unnamed_name u k) × (is_among (unnamed_taken S p P) a ≡ true)))

  -- Names in scope stay so.
  pub record Grows (s z : Scope) : Type 0 where
    pub names : (a : Text) → is_among (names_in_scope s) a ≡ true → is_among (names_in_scope z) a ≡ true
    pub unnamed : (a : Text) → is_among s.unnamed a ≡ true → is_among z.unnamed a ≡ true

  grown : (s z : Scope) → Grows s z → (a : Text) → IsValueName s a → IsValueName z a
  grown s z g a (inl i) = inl (g.names a i)
  grown s z g a (inr (inl h)) = inr (inl (h.0, h.1, g.names h.0 h.2, h.3))
  grown s z g a (inr (inr h)) = inr (inr (h.0, h.1, g.names h.0 h.2, g.unnamed h.0 h.3, h.4, h.5, h.6))

  -- What is kept of the types of an env.
  pub record TypesAt (s : Scope) (ts : List TypeEntry) : Type 0 where
    pub names : all_distinct (map (λ t. t.name) ts) ≡ true
    pub known : Each ts (λ t. is_among (names_in_scope s) t.name ≡ true)
    pub right : Each ts IsRight
    pub tokens : have_name_tokens ts ≡ true
    pub distinct : all_distinct (all_value_names ts) ≡ true
    pub sources : (a : Text) → is_among (all_value_names ts) a ≡ true → IsValueName s a

  -- Where no type is declared.
  pub types-stay : (s z : Scope) (ts : List TypeEntry) → Grows s z → TypesAt s ts → TypesAt z ts
  types-stay s z ts g h = record {
    names = h.names;
    known = each-map ts (λ t. is_among (names_in_scope s) t.name ≡ true) (λ t. is_among (names_in_scope z) t.name ≡ true)
        (λ t i. g.names t.name i) h.known;
    right = h.right;
    tokens = h.tokens;
    distinct = h.distinct;
    sources = λ a i. grown s z g a (h.sources a i);
  }

  new-type : (s : Scope) (ts : List TypeEntry) (n : Text) → Each ts (λ t. is_among (names_in_scope s) t.name ≡ true) →
      is_among (names_in_scope s) n ≡ false → is_among (map (λ t. t.name) ts) n ≡ false
  new-type s [] n k e = refl
  new-type s (t ∷ ts) n k e =
      ap (λ b. b || is_among (map (λ t. t.name) ts) n) (go (same_text t.name n) refl) ∙ new-type s ts n k.1 e
    where
      go : (b : Bool) → same_text t.name n ≡ b → same_text t.name n ≡ false
      go false q = q
      go true q =
          let z : true ≡ false = sym k.0 ∙ ap (is_among (names_in_scope s)) (same_text-equal t.name n q) ∙ e in cc

  not-there : (b : Bool) → (b ≡ true → ⊥) → b ≡ false
  not-there true h = absurd (h refl)
  not-there false h = refl

  -- A new type in front.
  pub record NewType (s z : Scope) (n : TypeEntry) : Type 0 where
    pub grows : Grows s z
    pub is_new : is_among (names_in_scope s) n.name ≡ false
    pub known : is_among (names_in_scope z) n.name ≡ true
    pub right : IsRight n
    pub token : is_name_token n.name ≡ true
    pub tokens : are_name_tokens n.names ≡ true
    pub distinct : all_distinct (value_names n) ≡ true
    pub apart : (a : Text) → is_among (value_names n) a ≡ true → IsValueName s a → ⊥
    pub sources : (a : Text) → is_among (value_names n) a ≡ true → IsValueName z a

  either-list : (xs ys : List Text) (a : Text) (b : Bool) → is_among xs a ≡ b → is_among (xs ++ ys) a ≡ true →
      (is_among xs a ≡ true) ⊎ (is_among ys a ≡ true)
  either-list xs ys a true e i = inl e
  either-list xs ys a false e i = inr (sym (ap (λ b. b || is_among ys a) e) ∙ sym (among-append xs ys a) ∙ i)

  pub type-added : (s z : Scope) (n : TypeEntry) (ts : List TypeEntry) → NewType s z n → TypesAt s ts → TypesAt z (n ∷ ts)
  type-added s z n ts w h =
      let k = types-stay s z ts w.grows h in record {
        names = and-both (not (is_among (map (λ t. t.name) ts) n.name)) (all_distinct (map (λ t. t.name) ts))
            (ap not (new-type s ts n.name h.known w.is_new)) h.names;
        known = (w.known, k.known);
        right = (w.right, h.right);
        tokens = and-both (is_name_token n.name && are_name_tokens n.names) (have_name_tokens ts)
            (and-both (is_name_token n.name) (are_name_tokens n.names) w.token w.tokens) h.tokens;
        distinct = join-halves (value_names n) (all_value_names ts) w.distinct h.distinct
            (all-items (λ a. is_among (all_value_names ts) a ≡ false) (value_names n)
            (λ a i. not-there (is_among (all_value_names ts) a) (λ j. w.apart a (in-among (value_names n) a i) (h.sources a j))));
        sources = λ a i. of-either a (either-list (value_names n) (all_value_names ts) a (is_among (value_names n) a) refl i) k;
      }
    where
      of-either : (a : Text) → (is_among (value_names n) a ≡ true) ⊎ (is_among (all_value_names ts) a ≡ true) → TypesAt z ts →
          IsValueName z a
      of-either a (inl i) k = w.sources a i
      of-either a (inr i) k = k.sources a i
