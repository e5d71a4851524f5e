-- Names of declarations and of tables, one after the other.
use Rattle.std.proofs.Common.{◌≡◌, refl, sym, ap, ◌∙◌, ℕ, ◌+◌, ◌<◌, ◌≤◌, true, false, List, [], ◌∷◌, map, length, get_or, drop, Option, Some, None, if◌then◌else◌, ◌||◌}
use Rattle.std.proofs.lemmas.List.{at_drop_more, drop_all}
use Rattle.ess_semantics.specs.Values.{Text}
use Rattle.ess_semantics.specs.Order.{same_text}
use Rattle.ess_semantics.specs.Names.{keys, is_among}
use Rattle.ess_core.specs.declared.tables.NamedTable.{NamedTable}
use Rattle.ess_core.specs.TableViews.{pure_named_table}
use Rattle.eprime_tree.specs.declared.models.PDecl.{PDecl}
use Rattle.eprime_verdicts.specs.NamesInOrder.{declared_names, missing_of, extra_of}

-- The names of tables.
abbrev pub table_keys : List NamedTable → List Text
table_keys ts = keys (map pure_named_table ts)

-- ---- a name among those of tables

-- What is left to look through behind i tables.
abbrev pub NamedBehind : List NamedTable → Text → ℕ → Type 0
NamedBehind ts a i = is_among (table_keys ts) a ≡ is_among (table_keys (drop i ts)) a

next-named : (ts : List NamedTable) (a : Text) (i : ℕ) (t : NamedTable) → i < length ts → t ≡ get_or ts i t
    → is_among (table_keys (drop i ts)) a ≡ same_text t.name a || is_among (table_keys (drop (i + 1) ts)) a
next-named ts a i t l g = at_drop_more (λ us. is_among (table_keys us) a) ts i t l ∙ ap (λ u. same_text u.name a || is_among (table_keys (drop (i + 1) ts)) a) (sym g)

pub named_here : (ts : List NamedTable) (a : Text) (i : ℕ) (t : NamedTable) → NamedBehind ts a i → i < length ts → t ≡ get_or ts i t → same_text t.name a ≡ true
    → true ≡ is_among (table_keys ts) a
named_here ts a i t k l g h = sym (k ∙ next-named ts a i t l g ∙ ap (λ b. b || is_among (table_keys (drop (i + 1) ts)) a) h)

pub named_more : (ts : List NamedTable) (a : Text) (i : ℕ) (t : NamedTable) → NamedBehind ts a i → i < length ts → t ≡ get_or ts i t → same_text t.name a ≡ false
    → NamedBehind ts a (i + 1)
named_more ts a i t k l g h = k ∙ next-named ts a i t l g ∙ ap (λ b. b || is_among (table_keys (drop (i + 1) ts)) a) h

pub named_all : (ts : List NamedTable) (a : Text) (i : ℕ) → NamedBehind ts a i → length ts ≤ i → false ≡ is_among (table_keys ts) a
named_all ts a i k l = sym (k ∙ ap (λ us. is_among (table_keys us) a) (drop_all i ts l))

pub ruleset named = (named_here, named_more, named_all)

-- ---- the first name that is missing

-- What is left to look for behind i declarations.
abbrev pub MissingBehind : List PDecl → List Text → ℕ → Type 0
MissingBehind ds ks i = missing_of (declared_names ds) ks ≡ missing_of (declared_names (drop i ds)) ks

next-missing : (ds : List PDecl) (ks : List Text) (i : ℕ) (d : PDecl) → i < length ds → d ≡ get_or ds i d
    → missing_of (declared_names (drop i ds)) ks ≡ (if is_among ks d.name then missing_of (declared_names (drop (i + 1) ds)) ks else Some d.name)
next-missing ds ks i d l g =
    at_drop_more (λ us. missing_of (declared_names us) ks) ds i d l
    ∙ ap (λ u. if is_among ks u.name then missing_of (declared_names (drop (i + 1) ds)) ks else Some u.name) (sym g)

pub missing_here : (ds : List PDecl) (ks : List Text) (i : ℕ) (d : PDecl) → MissingBehind ds ks i → i < length ds → d ≡ get_or ds i d → is_among ks d.name ≡ false
    → Some d.name ≡ missing_of (declared_names ds) ks
missing_here ds ks i d k l g h = sym (k ∙ next-missing ds ks i d l g ∙ ap (λ b. if b then missing_of (declared_names (drop (i + 1) ds)) ks else Some d.name) h)

pub missing_more : (ds : List PDecl) (ks : List Text) (i : ℕ) (d : PDecl) → MissingBehind ds ks i → i < length ds → d ≡ get_or ds i d → is_among ks d.name ≡ true
    → MissingBehind ds ks (i + 1)
missing_more ds ks i d k l g h = k ∙ next-missing ds ks i d l g ∙ ap (λ b. if b then missing_of (declared_names (drop (i + 1) ds)) ks else Some d.name) h

pub missing_all : (ds : List PDecl) (ks : List Text) (i : ℕ) → MissingBehind ds ks i → length ds ≤ i → None ≡ missing_of (declared_names ds) ks
missing_all ds ks i k l = sym (k ∙ ap (λ us. missing_of (declared_names us) ks) (drop_all i ds l))

pub ruleset missing = (missing_here, missing_more, missing_all)

-- ---- the first name out of its place

-- What is left to compare behind i names.
abbrev pub ExtraBehind : List PDecl → List NamedTable → ℕ → Type 0
ExtraBehind ds ts i = extra_of (declared_names ds) (table_keys ts) ≡ extra_of (declared_names (drop i ds)) (table_keys (drop i ts))

next-extra : (ds : List PDecl) (ts : List NamedTable) (i : ℕ) (d : PDecl) (t : NamedTable) → i < length ds → d ≡ get_or ds i d → i < length ts → t ≡ get_or ts i t
    → extra_of (declared_names (drop i ds)) (table_keys (drop i ts))
    ≡ (if same_text d.name t.name then extra_of (declared_names (drop (i + 1) ds)) (table_keys (drop (i + 1) ts)) else Some t.name)
next-extra ds ts i d t l g m h =
    at_drop_more (λ us. extra_of (declared_names us) (table_keys (drop i ts))) ds i d l
    ∙ ap (λ u. extra_of (declared_names (u ∷ drop (i + 1) ds)) (table_keys (drop i ts))) (sym g)
    ∙ at_drop_more (λ us. extra_of (declared_names (d ∷ drop (i + 1) ds)) (table_keys us)) ts i t m
    ∙ ap (λ u. extra_of (declared_names (d ∷ drop (i + 1) ds)) (table_keys (u ∷ drop (i + 1) ts))) (sym h)

pub extra_here : (ds : List PDecl) (ts : List NamedTable) (i : ℕ) (d : PDecl) (t : NamedTable) → ExtraBehind ds ts i
    → i < length ds → d ≡ get_or ds i d → i < length ts → t ≡ get_or ts i t → same_text d.name t.name ≡ false
    → Some t.name ≡ extra_of (declared_names ds) (table_keys ts)
extra_here ds ts i d t k l g m h e =
    sym (k ∙ next-extra ds ts i d t l g m h ∙ ap (λ b. if b then extra_of (declared_names (drop (i + 1) ds)) (table_keys (drop (i + 1) ts)) else Some t.name) e)

pub extra_beyond : (ds : List PDecl) (ts : List NamedTable) (i : ℕ) (t : NamedTable) → ExtraBehind ds ts i → length ds ≤ i → i < length ts → t ≡ get_or ts i t
    → Some t.name ≡ extra_of (declared_names ds) (table_keys ts)
extra_beyond ds ts i t k l m h =
    sym (k ∙ ap (λ us. extra_of (declared_names us) (table_keys (drop i ts))) (drop_all i ds l)
    ∙ at_drop_more (λ us. extra_of [] (table_keys us)) ts i t m ∙ ap (λ u. extra_of [] (table_keys (u ∷ drop (i + 1) ts))) (sym h))

pub extra_more : (ds : List PDecl) (ts : List NamedTable) (i : ℕ) (d : PDecl) (t : NamedTable) → ExtraBehind ds ts i
    → i < length ds → d ≡ get_or ds i d → i < length ts → t ≡ get_or ts i t → same_text d.name t.name ≡ true → ExtraBehind ds ts (i + 1)
extra_more ds ts i d t k l g m h e =
    k ∙ next-extra ds ts i d t l g m h ∙ ap (λ b. if b then extra_of (declared_names (drop (i + 1) ds)) (table_keys (drop (i + 1) ts)) else Some t.name) e

pub extra_all : (ds : List PDecl) (ts : List NamedTable) (i : ℕ) → ExtraBehind ds ts i → length ts ≤ i → None ≡ extra_of (declared_names ds) (table_keys ts)
extra_all ds ts i k l = sym (k ∙ ap (λ us. extra_of (declared_names (drop i ds)) (table_keys us)) (drop_all i ts l) ∙ none (declared_names (drop i ds)))
  where
    none : (as' : List Text) → extra_of as' [] ≡ None
    none [] = refl
    none (a ∷ as') = refl

pub ruleset extra = (extra_here, extra_beyond, extra_more, extra_all)
