-- Tables over declared domains, one after the other.
use Rattle.std.proofs.Common.{◌≡◌, ◌≢◌, refl, sym, ap, ◌∙◌, ℕ, suc, ◌+◌, ◌<◌, ◌≤◌, ℤ, Bool, true, false, ◌&&◌, List, [], ◌∷◌, map, length, get_or, drop, Option, Some, None, if◌then◌else◌, arith}
use Rattle.std.proofs.lemmas.List.{at_drop_more, drop_all}
use Rattle.ess_semantics.specs.Values.{Text}
use Rattle.ess_semantics.specs.Tables as pure
use Rattle.ess_core.specs.declared.tables.NamedTable.{NamedTable}
use Rattle.ess_core.specs.TableViews.{pure_named_table, pure_table}
use Rattle.eprime_eval.specs.declared.members.Closed.{Closed}
use Rattle.eprime_verdicts.specs.declared.domains.ClosedDecl.{ClosedDecl}
use Rattle.eprime_verdicts.specs.ClosedDecls.{has_axis, are_over, fits, outside_of}

-- ---- axes

-- As many axes as domains are wanted.
pub over_uneven : (ds : List Closed) (as' : List (List ℤ)) → length ds ≢ length as' → false ≡ are_over ds as'
over_uneven [] [] h = absurd (h refl)
over_uneven [] (a ∷ as') h = refl
over_uneven (d ∷ ds) [] h = refl
over_uneven (d ∷ ds) (a ∷ as') h = uneven (has_axis d a) (over_uneven ds as' (λ e. h (ap suc e)))
  where
    uneven : (b : Bool) {c : Bool} → false ≡ c → false ≡ b && c
    uneven true e = e
    uneven false e = refl

-- What is left to compare behind i axes.
abbrev pub OverBehind : List Closed → List (List ℤ) → ℕ → Type 0
OverBehind ds as' i = are_over ds as' ≡ are_over (drop i ds) (drop i as')

next-over : (ds : List Closed) (as' : List (List ℤ)) (i : ℕ) (d : Closed) (a : List ℤ) → i < length ds → d ≡ get_or ds i d → i < length as' → a ≡ get_or as' i a
    → are_over (drop i ds) (drop i as') ≡ has_axis d a && are_over (drop (i + 1) ds) (drop (i + 1) as')
next-over ds as' i d a l g m h =
    at_drop_more (λ us. are_over us (drop i as')) ds i d l
    ∙ ap (λ u. are_over (u ∷ drop (i + 1) ds) (drop i as')) (sym g)
    ∙ at_drop_more (λ us. are_over (d ∷ drop (i + 1) ds) us) as' i a m
    ∙ ap (λ u. are_over (d ∷ drop (i + 1) ds) (u ∷ drop (i + 1) as')) (sym h)

pub over_not : (ds : List Closed) (as' : List (List ℤ)) (i : ℕ) (d : Closed) (a : List ℤ) → OverBehind ds as' i → i < length ds → d ≡ get_or ds i d
    → i < length as' → a ≡ get_or as' i a → has_axis d a ≡ false → false ≡ are_over ds as'
over_not ds as' i d a k l g m h e = sym (k ∙ next-over ds as' i d a l g m h ∙ ap (λ b. b && are_over (drop (i + 1) ds) (drop (i + 1) as')) e)

pub over_more : (ds : List Closed) (as' : List (List ℤ)) (i : ℕ) (d : Closed) (a : List ℤ) → OverBehind ds as' i → i < length ds → d ≡ get_or ds i d
    → i < length as' → a ≡ get_or as' i a → has_axis d a ≡ true → OverBehind ds as' (i + 1)
over_more ds as' i d a k l g m h e = k ∙ next-over ds as' i d a l g m h ∙ ap (λ b. b && are_over (drop (i + 1) ds) (drop (i + 1) as')) e

pub over_all : (ds : List Closed) (as' : List (List ℤ)) (i : ℕ) → OverBehind ds as' i → length ds ≤ i → length ds ≡ length as' → true ≡ are_over ds as'
over_all ds as' i k l e =
    sym (k ∙ ap (λ us. are_over us (drop i as')) (drop_all i ds l) ∙ ap (λ us. are_over [] us) (drop_all i as' (omega (arith, l, e))))

pub ruleset overs = (over_uneven, over_not, over_more, over_all)

-- ---- tables

-- What is left to try behind i declarations.
abbrev pub OutsideBehind : List ClosedDecl → List NamedTable → ℕ → Type 0
OutsideBehind ds ts i = outside_of ds (map pure_named_table ts) ≡ outside_of (drop i ds) (map pure_named_table (drop i ts))

next-outside : (ds : List ClosedDecl) (ts : List NamedTable) (i : ℕ) (d : ClosedDecl) (t : NamedTable) → i < length ds → d ≡ get_or ds i d
    → i < length ts → t ≡ get_or ts i t
    → outside_of (drop i ds) (map pure_named_table (drop i ts))
    ≡ (if fits d (pure_table t.table) then outside_of (drop (i + 1) ds) (map pure_named_table (drop (i + 1) ts)) else Some d.name)
next-outside ds ts i d t l g m h =
    at_drop_more (λ us. outside_of us (map pure_named_table (drop i ts))) ds i d l
    ∙ ap (λ u. outside_of (u ∷ drop (i + 1) ds) (map pure_named_table (drop i ts))) (sym g)
    ∙ at_drop_more (λ us. outside_of (d ∷ drop (i + 1) ds) (map pure_named_table us)) ts i t m
    ∙ ap (λ u. outside_of (d ∷ drop (i + 1) ds) (map pure_named_table (u ∷ drop (i + 1) ts))) (sym h)

pub outside_here : (ds : List ClosedDecl) (ts : List NamedTable) (i : ℕ) (d : ClosedDecl) (t : NamedTable) → OutsideBehind ds ts i → i < length ds → d ≡ get_or ds i d
    → i < length ts → t ≡ get_or ts i t → fits d (pure_table t.table) ≡ false → Some d.name ≡ outside_of ds (map pure_named_table ts)
outside_here ds ts i d t k l g m h e =
    sym (k ∙ next-outside ds ts i d t l g m h ∙ ap (λ b. if b then outside_of (drop (i + 1) ds) (map pure_named_table (drop (i + 1) ts)) else Some d.name) e)

pub outside_beyond : (ds : List ClosedDecl) (ts : List NamedTable) (i : ℕ) (d : ClosedDecl) → OutsideBehind ds ts i → i < length ds → d ≡ get_or ds i d → length ts ≤ i
    → Some d.name ≡ outside_of ds (map pure_named_table ts)
outside_beyond ds ts i d k l g m =
    sym (k ∙ at_drop_more (λ us. outside_of us (map pure_named_table (drop i ts))) ds i d l
    ∙ ap (λ u. outside_of (u ∷ drop (i + 1) ds) (map pure_named_table (drop i ts))) (sym g)
    ∙ ap (λ us. outside_of (d ∷ drop (i + 1) ds) (map pure_named_table us)) (drop_all i ts m))

pub outside_more : (ds : List ClosedDecl) (ts : List NamedTable) (i : ℕ) (d : ClosedDecl) (t : NamedTable) → OutsideBehind ds ts i → i < length ds → d ≡ get_or ds i d
    → i < length ts → t ≡ get_or ts i t → fits d (pure_table t.table) ≡ true → OutsideBehind ds ts (i + 1)
outside_more ds ts i d t k l g m h e =
    k ∙ next-outside ds ts i d t l g m h ∙ ap (λ b. if b then outside_of (drop (i + 1) ds) (map pure_named_table (drop (i + 1) ts)) else Some d.name) e

pub outside_all : (ds : List ClosedDecl) (ts : List NamedTable) (i : ℕ) → OutsideBehind ds ts i → length ds ≤ i → None ≡ outside_of ds (map pure_named_table ts)
outside_all ds ts i k l = sym (k ∙ ap (λ us. outside_of us (map pure_named_table (drop i ts))) (drop_all i ds l))

pub ruleset outside = (outside_here, outside_beyond, outside_more, outside_all)
