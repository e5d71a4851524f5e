-- Names in rows, and names that depend on finds.
use Rattle.std.proofs.Common.{◌≡◌, refl, sym, ap, ◌∙◌, ℕ, ◌+◌, ◌<◌, ◌≤◌, Bool, true, false, ◌&&◌, ◌||◌, not, if◌then◌else◌, List, [], ◌∷◌, ◌++◌, map, drop, length, get_or}
use Rattle.std.proofs.lemmas.List.{at_drop_more, at_drop_all, append_assoc, append-nil}
use Rattle.std.proofs.lemmas.List.Folds.{list_any-append}
use Rattle.ess_semantics.specs.Values.{Text}
use Rattle.ess_semantics.specs.Order.{same_text}
use Rattle.ess_semantics.specs.Names.{is_among, all_distinct}
use Rattle.ess_semantics.specs.Types.{pattern_names, all_pattern_names}
use Rattle.ess_semantics.specs.Scopes.{names_but}
use Rattle.ess_semantics.proofs.Texts.{same_text-equal}
use Rattle.ess_core.specs.TreeViews.{pure_pat, pats_of}
use Rattle.ess_core.specs.declared.expressions.Pat.{Pat}
use Rattle.ess_types_judging.specs.declared.bounds.Bound.{Bound}
use Rattle.ess_types_judging.specs.Bounds.{drawn, finds_under, draws_under}

-- ---- among names

among-first : (ns : List Text) (a : Text) (i : ℕ) (n : Text) → i < length ns → n ≡ get_or ns i n →
    is_among (drop i ns) a ≡ same_text n a || is_among (drop (i + 1) ns) a
among-first ns a i n h is = at_drop_more (λ l. is_among l a) ns i n h ∙ ap (λ m. same_text m a || is_among (drop (i + 1) ns) a) (sym is)

pub among_here : (ns : List Text) (a : Text) (i : ℕ) (n : Text) → i < length ns → n ≡ get_or ns i n → same_text n a ≡ true →
    is_among (drop i ns) a ≡ true
among_here ns a i n h is e = among-first ns a i n h is ∙ ap (λ b. b || is_among (drop (i + 1) ns) a) e

pub among_later : (ns : List Text) (a : Text) (i : ℕ) (n : Text) → i < length ns → n ≡ get_or ns i n → same_text n a ≡ false →
    is_among (drop i ns) a ≡ is_among (drop (i + 1) ns) a
among_later ns a i n h is e = among-first ns a i n h is ∙ ap (λ b. b || is_among (drop (i + 1) ns) a) e

pub among_none : (ns : List Text) (a : Text) (i : ℕ) → length ns ≤ i → is_among (drop i ns) a ≡ false
among_none ns a i h = at_drop_all (λ l. is_among l a) ns i h

-- ---- no name twice

distinct-first : (ns : List Text) (i : ℕ) (n : Text) → i < length ns → n ≡ get_or ns i n →
    all_distinct (drop i ns) ≡ not (is_among (drop (i + 1) ns) n) && all_distinct (drop (i + 1) ns)
distinct-first ns i n h is = at_drop_more all_distinct ns i n h ∙ ap (λ m. all_distinct (m ∷ drop (i + 1) ns)) (sym is)

pub distinct_later : (ns : List Text) (i : ℕ) (n : Text) → i < length ns → n ≡ get_or ns i n → is_among (drop (i + 1) ns) n ≡ false →
    all_distinct (drop i ns) ≡ all_distinct (drop (i + 1) ns)
distinct_later ns i n h is e = distinct-first ns i n h is ∙ ap (λ b. not b && all_distinct (drop (i + 1) ns)) e

pub distinct_here : (ns : List Text) (i : ℕ) (n : Text) → i < length ns → n ≡ get_or ns i n → is_among (drop (i + 1) ns) n ≡ true →
    all_distinct (drop i ns) ≡ false
distinct_here ns i n h is e = distinct-first ns i n h is ∙ ap (λ b. not b && all_distinct (drop (i + 1) ns)) e

pub distinct_all : (ns : List Text) (i : ℕ) → length ns ≤ i → all_distinct (drop i ns) ≡ true
distinct_all ns i h = at_drop_all all_distinct ns i h

-- ---- names that depend on finds

among-but : (ns fs : List Text) (a : Text) → is_among (names_but ns fs) a ≡ not (is_among ns a) && is_among fs a
among-but ns [] a = go (is_among ns a)
  where
    go : (b : Bool) → false ≡ not b && false
    go true = refl
    go false = refl
among-but ns (f ∷ fs) a = go (same_text f a) refl (among-but ns fs a)
  where
    rest : Bool
    rest = is_among (names_but ns fs) a

    kept : (b : Bool) → is_among (if b then f ∷ names_but ns fs else names_but ns fs) a ≡ b && same_text f a || rest
    kept true = refl
    kept false = refl

    go : (b : Bool) → same_text f a ≡ b → rest ≡ not (is_among ns a) && is_among fs a →
        is_among (names_but ns (f ∷ fs)) a ≡ not (is_among ns a) && (b || is_among fs a)
    go false e h =
        kept (not (is_among ns f)) ∙ ap (λ b. not (is_among ns f) && b || rest) e ∙ no (not (is_among ns f)) ∙ h
      where
        no : (b : Bool) → b && false || rest ≡ rest
        no true = refl
        no false = refl
    go true e h =
        kept (not (is_among ns f)) ∙ ap (λ b. not (is_among ns f) && b || rest) e
        ∙ ap (λ n. not (is_among ns n) && true || rest) (same_text-equal f a e) ∙ ap (λ b. not (is_among ns a) && true || b) h
        ∙ yes (is_among ns a) (is_among fs a)
      where
        yes : (b c : Bool) → not b && true || not b && c ≡ not b && true
        yes true c = refl
        yes false c = refl

among-drawn : (b : Bool) (ns fs : List Text) (a : Text) → is_among (drawn b ns fs) a ≡ (if is_among ns a then b else is_among fs a)
among-drawn true ns fs a = list_any-append (λ n. same_text n a) ns fs ∙ go (is_among ns a)
  where
    go : (b : Bool) → b || is_among fs a ≡ (if b then true else is_among fs a)
    go true = refl
    go false = refl
among-drawn false ns fs a = among-but ns fs a ∙ go (is_among ns a)
  where
    go : (b : Bool) → not b && is_among fs a ≡ (if b then false else is_among fs a)
    go true = refl
    go false = refl

-- What is found by looking through bound names.
pub draws-found : (bs : List Bound) (fs : List Text) (a : Text) → draws_under bs a (is_among fs a) ≡ is_among (finds_under bs fs) a
draws-found [] fs a = refl
draws-found (b ∷ bs) fs a = ap (draws_under bs a) (sym (among-drawn b.draws b.names fs a)) ∙ draws-found bs (drawn b.draws b.names fs) a

draws-first : (bs : List Bound) (a : Text) (x : Bool) (i : ℕ) (b : Bound) → i < length bs → b ≡ get_or bs i b →
    draws_under (drop i bs) a x ≡ draws_under (drop (i + 1) bs) a (if is_among b.names a then b.draws else x)
draws-first bs a x i b h is = at_drop_more (λ l. draws_under l a x) bs i b h ∙ ap (λ c. draws_under (c ∷ drop (i + 1) bs) a x) (sym is)

pub draws_bound : (bs : List Bound) (a : Text) (x : Bool) (i : ℕ) (b : Bound) → i < length bs → b ≡ get_or bs i b →
    is_among b.names a ≡ true →
    draws_under (drop i bs) a x ≡ draws_under (drop (i + 1) bs) a b.draws
draws_bound bs a x i b h is e = draws-first bs a x i b h is ∙ ap (λ c. draws_under (drop (i + 1) bs) a (if c then b.draws else x)) e

pub draws_other : (bs : List Bound) (a : Text) (x : Bool) (i : ℕ) (b : Bound) → i < length bs → b ≡ get_or bs i b →
    is_among b.names a ≡ false →
    draws_under (drop i bs) a x ≡ draws_under (drop (i + 1) bs) a x
draws_other bs a x i b h is e = draws-first bs a x i b h is ∙ ap (λ c. draws_under (drop (i + 1) bs) a (if c then b.draws else x)) e

pub draws_all : (bs : List Bound) (a : Text) (x : Bool) (i : ℕ) → length bs ≤ i → draws_under (drop i bs) a x ≡ x
draws_all bs a x i h = at_drop_all (λ l. draws_under l a x) bs i h

pub draws_none : (bs : List Bound) (fs : List Text) (a : Text) → is_among (finds_under bs fs) a ≡ draws_under bs a (is_among fs a)
draws_none bs fs a = sym (draws-found bs fs a)

-- ---- names of patterns

-- The names that patterns bind.
abbrev pub names_in : List Pat → List Text
names_in ps = all_pattern_names (pats_of (map pure_pat ps))

pub names_none : (ns : List Text) → ns ++ [] ≡ ns
names_none = append-nil

pub names_more : (ms ns : List Text) (ps : List Pat) (i : ℕ) (p : Pat) → i < length ps → p ≡ get_or ps i p →
    ms ≡ ns ++ pattern_names (pure_pat p) → ns ++ names_in (drop i ps) ≡ ms ++ names_in (drop (i + 1) ps)
names_more ms ns ps i p h is e =
    ap (λ l. ns ++ l) (at_drop_more names_in ps i p h ∙ ap (λ q. names_in (q ∷ drop (i + 1) ps)) (sym is))
    ∙ sym (append_assoc ns (pattern_names (pure_pat p)) (names_in (drop (i + 1) ps))) ∙ ap (λ l. l ++ names_in (drop (i + 1) ps)) (sym e)

pub names_all : (ns : List Text) (ps : List Pat) (i : ℕ) → length ps ≤ i → ns ++ names_in (drop i ps) ≡ ns
names_all ns ps i h = ap (λ l. ns ++ l) (at_drop_all names_in ps i h) ∙ append-nil ns
