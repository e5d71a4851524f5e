-- The attributes of domains.
use Rattle.std.proofs.Common.{◌≡◌, refl, sym, ap, ◌∙◌, ℕ, ◌+◌, ◌<◌, ◌≤◌, Bool, true, false, ◌||◌, ◌&&◌, if◌then◌else◌, List, [], ◌∷◌, ◌++◌, map, drop, length, get_or, Option, Some, None, option_map}
use Rattle.ess_semantics.specs.declared.words.Key.{Key}
use Rattle.ess_semantics.specs.Trees as pure
use Rattle.ess_semantics.specs.Domains.{same_key}
use Rattle.std.proofs.lemmas.List.{at_drop_more, at_drop_all}
use Rattle.ess_semantics.specs.Kinds.{key_of, has_key}
use Rattle.ess_semantics.specs.Trees.{flag, valued}
use Rattle.ess_core.specs.declared.expressions.Ex.{Ex}
use Rattle.ess_core.specs.TreeViews.{attribute, words_of, within, exs_of, pure_attr, pure_ex}
use Rattle.ess_repr_declare_laws.specs.SizeTerms.{number_of}
use Rattle.ess_core.specs.declared.domains.Attr.{Attr}
use Rattle.ess_core.specs.declared.domains.Dom.TheViews.{out-Attr}
use Rattle.ess_core.proofs.PartEquations.{pure_attr_is}

key-there : (k : Key) (o : Option pure.Ex) → key_of (attribute k o).0 ≡ k
key-there k None = refl
key-there k (Some e) = refl

-- The key of an attribute is that of its mark.
pub key_is : (a : Attr) → key_of (pure_attr a).0 ≡ (out-Attr a).key
key_is a = ap (λ m. key_of m.0) (pure_attr_is a) ∙ key-there (out-Attr a).key (option_map pure_ex (out-Attr a).value)

-- ---- whether an attribute stands there

-- Whether an attribute is among those of a row.
abbrev pub keyed : Key → List Attr → Bool
keyed k ms = has_key k (words_of (map pure_attr ms))

keyed-first : (k : Key) (ms : List Attr) (i : ℕ) (a : Attr) → i < length ms → a ≡ get_or ms i a →
    keyed k (drop i ms) ≡ same_key k (out-Attr a).key || keyed k (drop (i + 1) ms)
keyed-first k ms i a h is =
    at_drop_more (keyed k) ms i a h ∙ ap (λ b. keyed k (b ∷ drop (i + 1) ms)) (sym is)
    ∙ ap (λ l. same_key k l || keyed k (drop (i + 1) ms)) (key_is a)

pub key_here : (k : Key) (ms : List Attr) (i : ℕ) (a : Attr) → i < length ms → a ≡ get_or ms i a →
    same_key k (out-Attr a).key ≡ true → keyed k (drop i ms) ≡ true
key_here k ms i a h is e = keyed-first k ms i a h is ∙ ap (λ b. b || keyed k (drop (i + 1) ms)) e

pub key_later : (k : Key) (ms : List Attr) (i : ℕ) (a : Attr) → i < length ms → a ≡ get_or ms i a →
    same_key k (out-Attr a).key ≡ false → keyed k (drop i ms) ≡ keyed k (drop (i + 1) ms)
key_later k ms i a h is e = keyed-first k ms i a h is ∙ ap (λ b. b || keyed k (drop (i + 1) ms)) e

pub key_nowhere : (k : Key) (ms : List Attr) (i : ℕ) → length ms ≤ i → keyed k (drop i ms) ≡ false
key_nowhere k ms i h = at_drop_all (keyed k) ms i h

-- ---- the number of an attribute

-- The number of an attribute among those of a row.
abbrev pub numbered : Key → List Attr → Option pure.Ex
numbered k ms = number_of k (words_of (map pure_attr ms)) (exs_of (within (map pure_attr ms)))

-- The same with a first attribute of the key j with this number.
abbrev first_number : Key → Key → Option pure.Ex → List Attr → Option pure.Ex
first_number k j None ms = numbered k ms
first_number k j (Some e) ms = if same_key j k then Some e else numbered k ms

one-number : (k j : Key) (o : Option pure.Ex) (ms : List Attr) →
    number_of k ((attribute j o).0 ∷ words_of (map pure_attr ms)) (exs_of ((attribute j o).1 ++ within (map pure_attr ms))) ≡ first_number k j o ms
one-number k j None ms = refl
one-number k j (Some e) ms = refl

number-first : (k : Key) (ms : List Attr) (i : ℕ) (a : Attr) → i < length ms → a ≡ get_or ms i a →
    numbered k (drop i ms) ≡ first_number k (out-Attr a).key (option_map pure_ex (out-Attr a).value) (drop (i + 1) ms)
number-first k ms i a h is =
    at_drop_more (numbered k) ms i a h ∙ ap (λ b. numbered k (b ∷ drop (i + 1) ms)) (sym is)
    ∙ ap (λ w. number_of k (w.0 ∷ words_of (map pure_attr (drop (i + 1) ms))) (exs_of (w.1 ++ within (map pure_attr (drop (i + 1) ms))))) (pure_attr_is a)
    ∙ one-number k (out-Attr a).key (option_map pure_ex (out-Attr a).value) (drop (i + 1) ms)

pub value_here : (k : Key) (ms : List Attr) (i : ℕ) (a : Attr) (e : Ex) → i < length ms → a ≡ get_or ms i a →
    same_key (out-Attr a).key k ≡ true → (out-Attr a).value ≡ Some e → numbered k (drop i ms) ≡ Some (pure_ex e)
value_here k ms i a e h is s v =
    number-first k ms i a h is ∙ ap (λ o. first_number k (out-Attr a).key (option_map pure_ex o) (drop (i + 1) ms)) v
    ∙ ap (λ b. if b then Some (pure_ex e) else numbered k (drop (i + 1) ms)) s

pub value_absent : (k : Key) (ms : List Attr) (i : ℕ) (a : Attr) → i < length ms → a ≡ get_or ms i a →
    (out-Attr a).value ≡ None → numbered k (drop i ms) ≡ numbered k (drop (i + 1) ms)
value_absent k ms i a h is v =
    number-first k ms i a h is ∙ ap (λ o. first_number k (out-Attr a).key (option_map pure_ex o) (drop (i + 1) ms)) v

unlike : (k j : Key) (o : Option pure.Ex) (ms : List Attr) → same_key j k ≡ false → first_number k j o ms ≡ numbered k ms
unlike k j None ms s = refl
unlike k j (Some e) ms s = ap (λ b. if b then Some e else numbered k ms) s

pub value_other : (k : Key) (ms : List Attr) (i : ℕ) (a : Attr) → i < length ms → a ≡ get_or ms i a →
    same_key (out-Attr a).key k ≡ false → numbered k (drop i ms) ≡ numbered k (drop (i + 1) ms)
value_other k ms i a h is s =
    number-first k ms i a h is ∙ unlike k (out-Attr a).key (option_map pure_ex (out-Attr a).value) (drop (i + 1) ms) s

pub value_nowhere : (k : Key) (ms : List Attr) (i : ℕ) → length ms ≤ i → numbered k (drop i ms) ≡ None
value_nowhere k ms i h = at_drop_all (numbered k) ms i h
