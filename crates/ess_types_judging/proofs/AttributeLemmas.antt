-- The attributes of domains.
use Rattle.std.proofs.Common.{◌≡◌, refl, sym, ap, ◌∙◌, ℕ, ◌+◌, ◌<◌, ◌≤◌, Bool, true, false, ◌||◌, ◌&&◌, not, List, ◌∷◌, map, drop, length, get_or, Option, Some, None, option_map}
use Rattle.ess_semantics.specs.declared.words.Key.{Key}
use Rattle.ess_semantics.specs.Trees as pure
use Rattle.ess_semantics.specs.Domains.{same_key}
use Rattle.std.proofs.lemmas.List.{at_drop_more, at_drop_all}
use Rattle.ess_semantics.specs.Kinds.{key_of, has_key}
use Rattle.ess_semantics.specs.DomainJudgements.{marks_distinct, mark_is_among, marks_among}
use Rattle.ess_semantics.specs.Trees.{flag, valued}
use Rattle.ess_core.specs.declared.expressions.Ex.{Ex}
use Rattle.ess_types_judging.specs.declared.attributes.Holder.{Holder}
use Rattle.ess_types_judging.specs.Holders.{numbered_keys, flag_keys}
use Rattle.ess_core.specs.TreeViews.{attribute, words_of, pure_attr, pure_ex}
use Rattle.ess_core.specs.declared.domains.Attr.{Attr}
use Rattle.ess_core.specs.declared.domains.Dom.TheViews.{out-Attr}
use Rattle.ess_core.proofs.PartEquations.{pure_attr_is}

key-there : (k : Key) (o : Option pure.Ex) → key_of (attribute k o).0 ≡ k
key-there k None = refl
key-there k (Some e) = refl

-- The key of an attribute is that of its mark.
pub key_is : (a : Attr) → key_of (pure_attr a).0 ≡ (out-Attr a).key
key_is a = ap (λ m. key_of m.0) (pure_attr_is a) ∙ key-there (out-Attr a).key (option_map pure_ex (out-Attr a).value)

-- ---- whether an attribute stands there

-- Whether an attribute is among those of a row.
abbrev pub keyed : Key → List Attr → Bool
keyed k ms = has_key k (words_of (map pure_attr ms))

keyed-first : (k : Key) (ms : List Attr) (i : ℕ) (a : Attr) → i < length ms → a ≡ get_or ms i a →
    keyed k (drop i ms) ≡ same_key k (out-Attr a).key || keyed k (drop (i + 1) ms)
keyed-first k ms i a h is =
    at_drop_more (keyed k) ms i a h ∙ ap (λ b. keyed k (b ∷ drop (i + 1) ms)) (sym is)
    ∙ ap (λ l. same_key k l || keyed k (drop (i + 1) ms)) (key_is a)

pub key_here : (k : Key) (ms : List Attr) (i : ℕ) (a : Attr) → i < length ms → a ≡ get_or ms i a →
    same_key k (out-Attr a).key ≡ true → keyed k (drop i ms) ≡ true
key_here k ms i a h is e = keyed-first k ms i a h is ∙ ap (λ b. b || keyed k (drop (i + 1) ms)) e

pub key_later : (k : Key) (ms : List Attr) (i : ℕ) (a : Attr) → i < length ms → a ≡ get_or ms i a →
    same_key k (out-Attr a).key ≡ false → keyed k (drop i ms) ≡ keyed k (drop (i + 1) ms)
key_later k ms i a h is e = keyed-first k ms i a h is ∙ ap (λ b. b || keyed k (drop (i + 1) ms)) e

pub key_nowhere : (k : Key) (ms : List Attr) (i : ℕ) → length ms ≤ i → keyed k (drop i ms) ≡ false
key_nowhere k ms i h = at_drop_all (keyed k) ms i h

-- ---- no attribute stands twice

-- Whether no attribute stands twice.
abbrev pub distinct : List Attr → Bool
distinct ms = marks_distinct (words_of (map pure_attr ms))

distinct-first : (ms : List Attr) (i : ℕ) (a : Attr) → i < length ms → a ≡ get_or ms i a →
    distinct (drop i ms) ≡ not (has_key (out-Attr a).key (words_of (map pure_attr (drop (i + 1) ms)))) && distinct (drop (i + 1) ms)
distinct-first ms i a h is =
    at_drop_more distinct ms i a h ∙ ap (λ b. distinct (b ∷ drop (i + 1) ms)) (sym is)
    ∙ ap (λ k. not (has_key k (words_of (map pure_attr (drop (i + 1) ms)))) && distinct (drop (i + 1) ms)) (key_is a)

pub distinct_more : (ms : List Attr) (i : ℕ) (a : Attr) → i < length ms → a ≡ get_or ms i a →
    has_key (out-Attr a).key (words_of (map pure_attr (drop (i + 1) ms))) ≡ false → distinct (drop i ms) ≡ distinct (drop (i + 1) ms)
distinct_more ms i a h is e = distinct-first ms i a h is ∙ ap (λ b. not b && distinct (drop (i + 1) ms)) e

pub distinct_none : (ms : List Attr) (i : ℕ) (a : Attr) → i < length ms → a ≡ get_or ms i a →
    has_key (out-Attr a).key (words_of (map pure_attr (drop (i + 1) ms))) ≡ true → distinct (drop i ms) ≡ false
distinct_none ms i a h is e = distinct-first ms i a h is ∙ ap (λ b. not b && distinct (drop (i + 1) ms)) e

pub distinct_all : (ms : List Attr) (i : ℕ) → length ms ≤ i → distinct (drop i ms) ≡ true
distinct_all ms i h = at_drop_all distinct ms i h

-- ---- attributes of a kind

pub flag_is : (a : Attr) → (out-Attr a).value ≡ None → (pure_attr a).0 ≡ flag (out-Attr a).key
flag_is a e = ap (λ m. m.0) (pure_attr_is a) ∙ ap (λ o. (attribute (out-Attr a).key (option_map pure_ex o)).0) e

pub valued_is : (a : Attr) (x : Ex) → (out-Attr a).value ≡ Some x → (pure_attr a).0 ≡ valued (out-Attr a).key
valued_is a x e = ap (λ m. m.0) (pure_attr_is a) ∙ ap (λ o. (attribute (out-Attr a).key (option_map pure_ex o)).0) e

-- Whether each attribute of a row is one of a kind of domains.
abbrev pub among : Holder → List Attr → Bool
among h ms = marks_among (numbered_keys h) (flag_keys h) (words_of (map pure_attr ms))

-- Whether one is.
abbrev pub one_among : Holder → Attr → Bool
one_among h a = mark_is_among (numbered_keys h) (flag_keys h) (pure_attr a).0

among-first : (h : Holder) (ms : List Attr) (i : ℕ) (a : Attr) → i < length ms → a ≡ get_or ms i a →
    among h (drop i ms) ≡ one_among h a && among h (drop (i + 1) ms)
among-first h ms i a l is = at_drop_more (among h) ms i a l ∙ ap (λ b. among h (b ∷ drop (i + 1) ms)) (sym is)

pub among_more : (h : Holder) (ms : List Attr) (i : ℕ) (a : Attr) → i < length ms → a ≡ get_or ms i a → one_among h a ≡ true →
    among h (drop i ms) ≡ among h (drop (i + 1) ms)
among_more h ms i a l is e = among-first h ms i a l is ∙ ap (λ b. b && among h (drop (i + 1) ms)) e

pub among_none : (h : Holder) (ms : List Attr) (i : ℕ) (a : Attr) → i < length ms → a ≡ get_or ms i a → one_among h a ≡ false →
    among h (drop i ms) ≡ false
among_none h ms i a l is e = among-first h ms i a l is ∙ ap (λ b. b && among h (drop (i + 1) ms)) e

pub among_all : (h : Holder) (ms : List Attr) (i : ℕ) → length ms ≤ i → among h (drop i ms) ≡ true
among_all h ms i l = at_drop_all (among h) ms i l
