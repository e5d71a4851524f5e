-- The names of the values of a named type are name tokens, where its own name is one, and those that it lists.
use Rattle.std.proofs.Common.{◌≡◌, refl, sym, ap, ◌∙◌, ℕ, suc, Bool, true, false, ◌&&◌, ◌||◌, not, if◌then◌else◌, List, [], ◌∷◌, ◌++◌, length, take, drop, Option, Some, None, nat_le, arith}
use Rattle.std.specs.Prelude.{codes}
use Rattle.std.specs.List.{list_all, list_any}
use Rattle.std.specs.Option.{is_some}
use Rattle.std.specs.Str.{bytes_eq}
use Rattle.std.proofs.lemmas.Bool.Decides.{nat_tests}
use Rattle.std.proofs.lemmas.Map.Text.{is_eq-slice_cmp}
use Rattle.std.proofs.lemmas.List.{take-append-drop}
use Rattle.ess_semantics.specs.Lists.{or_else, when, is_empty}
use Rattle.ess_semantics.specs.Values.{Text, Value, item}
use Rattle.ess_semantics.specs.Order.{same_text}
use Rattle.ess_semantics.specs.Meaning.{TypeEntry, type_entry}
use Rattle.ess_semantics.specs.NameTokens.{are_digits}
use Rattle.ess_semantics.specs.Judgements.{after_prefix}
use Rattle.ess_semantics.specs.NameTokens.{is_digit as is_decimal}
use Rattle.ess_semantics.specs.Assignments.{unnamed_name}
use Rattle.ess_semantics.specs.NameTokens.{value_after as number_of}
use Rattle.ess_semantics.specs.Literals.{unnamed_item, named_item, item_of_name}
use Rattle.ess_semantics.specs.Names.{look_by}
use Rattle.ess_semantics.proofs.Tests.{and-left, and-right, and-both, or-yes}
use Rattle.ess_grammar.specs.Words.{Token, name, words, outside, is_outside}
use Rattle.ess_grammar.specs.Tokens.{is_digit, is_name, is_name_byte, is_letter}
use Rattle.ess_grammar.specs.Readable.{is_name_token, are_name_tokens}
use Rattle.ess_values_laws.specs.Spellable.{have_name_tokens}
use Rattle.ess_values_laws.proofs.Options.{then-some, when-some, if-some}
use Rattle.ess_values_laws.proofs.TypeOrder.{same-text-equal}

-- an entry where the test holds
abbrev first_or : TypeEntry → Option TypeEntry → Bool → Option TypeEntry
first_or t o true = Some t
first_or t o false = o

-- ---- a text that ends in a digit is no word

-- Whether the last byte is a digit.
abbrev ends_in_digit : Text → Bool
ends_in_digit [] = false
ends_in_digit (b ∷ []) = is_digit b
ends_in_digit (b ∷ c ∷ cs) = ends_in_digit (c ∷ cs)

bytes-equal : (a b : Text) → bytes_eq a b ≡ true → a ≡ b
bytes-equal a b e = same-text-equal a b (is_eq-slice_cmp a b ∙ e)

differ : (a b : Text) → (a ≡ b → ⊥) → bytes_eq a b ≡ false
differ a b n = go (bytes_eq a b) refl
  where
    go : (r : Bool) → bytes_eq a b ≡ r → bytes_eq a b ≡ false
    go false e = e
    go true e = absurd (n (bytes-equal a b e))

ends-differ : (a b : Text) → not (ends_in_digit a) ≡ true → ends_in_digit b ≡ true → a ≡ b → ⊥
ends-differ a b h k e = let f : ends_in_digit a ≡ true = ap ends_in_digit e ∙ k in let g : not (ends_in_digit a) ≡ false = ap not f in cc

no-word : (es : List (Text × Token)) (a : Text) → list_all (λ e. not (ends_in_digit e.0)) es ≡ true → ends_in_digit a ≡ true →
    look_by bytes_eq es a ≡ None
no-word [] a h k = refl
no-word (e ∷ es) a h k =
    ap (λ b. if b then Some e.1 else look_by bytes_eq es a)
    (differ e.0 a (ends-differ e.0 a (and-left (not (ends_in_digit e.0)) (list_all (λ e. not (ends_in_digit e.0)) es) h) k))
    ∙ no-word es a (and-right (not (ends_in_digit e.0)) (list_all (λ e. not (ends_in_digit e.0)) es) h) k

none-outside : (ws : List Text) (a : Text) → list_all (λ w. not (ends_in_digit w)) ws ≡ true → ends_in_digit a ≡ true →
    list_any (bytes_eq a) ws ≡ false
none-outside [] a h k = refl
none-outside (w ∷ ws) a h k =
    ap (λ b. b || list_any (bytes_eq a) ws) (differ a w (λ e. ends-differ w a
    (and-left (not (ends_in_digit w)) (list_all (λ w. not (ends_in_digit w)) ws) h) k (sym e)))
    ∙ none-outside ws a (and-right (not (ends_in_digit w)) (list_all (λ w. not (ends_in_digit w)) ws) h) k

no-words-end : list_all (λ e. not (ends_in_digit e.0)) words ≡ true
no-words-end = refl

no-outside-ends : list_all (λ w. not (ends_in_digit w)) outside ≡ true
no-outside-ends = refl

-- A name that ends in a digit is a name token.
name-ends-in-digit : (a : Text) → is_name a ≡ true → ends_in_digit a ≡ true → is_name_token a ≡ true
name-ends-in-digit a h k =
    and-both (is_name a) (not (is_some (look_by bytes_eq words a)) && not (is_outside (name a))) h
    (and-both (not (is_some (look_by bytes_eq words a))) (not (is_outside (name a)))
    (ap (λ o. not (is_some o)) (no-word words a no-words-end k)) (ap not (none-outside outside a no-outside-ends k)))

-- ---- `T_k`

digit-digit : (b : ℕ) → nat_le 48 b && nat_le b 57 ≡ true → is_digit b ≡ true
digit-digit b h = grind (arith, nat_tests)

all-end : (b : ℕ) (bs : Text) → list_all is_decimal (b ∷ bs) ≡ true → ends_in_digit (b ∷ bs) ≡ true
all-end b [] h = digit-digit b (and-left (is_decimal b) true h)
all-end b (c ∷ cs) h = all-end c cs (and-right (is_decimal b) (list_all is_decimal (c ∷ cs)) h)

behind-end : (s : Text) (b : ℕ) (bs : Text) → ends_in_digit (b ∷ bs) ≡ true → ends_in_digit (s ++ b ∷ bs) ≡ true
behind-end [] b bs h = h
behind-end (c ∷ []) b bs h = h
behind-end (c ∷ d ∷ ds) b bs h = behind-end (d ∷ ds) b bs h

digits-end : (s ds : Text) → are_digits ds ≡ true → ends_in_digit (s ++ ds) ≡ true
digits-end s [] h = cc
digits-end s (b ∷ bs) h = behind-end s b bs (all-end b bs h)

all-append : (f : ℕ → Bool) (s t : Text) → list_all f s ≡ true → list_all f t ≡ true → list_all f (s ++ t) ≡ true
all-append f [] t h k = k
all-append f (b ∷ bs) t h k = and-both (f b) (list_all f (bs ++ t)) (and-left (f b) (list_all f bs) h) (all-append f bs t (and-right (f b) (list_all f bs) h) k)

name-append : (s t : Text) → is_name s ≡ true → list_all is_name_byte t ≡ true → is_name (s ++ t) ≡ true
name-append [] t h k = cc
name-append (b ∷ bs) t h k =
    and-both (is_letter b) (list_all is_name_byte (bs ++ t)) (and-left (is_letter b) (list_all is_name_byte bs) h)
    (all-append is_name_byte bs t (and-right (is_letter b) (list_all is_name_byte bs) h) k)

name-bytes : (ds : Text) → list_all is_decimal ds ≡ true → list_all is_name_byte ds ≡ true
name-bytes [] h = refl
name-bytes (b ∷ bs) h =
    and-both (is_name_byte b) (list_all is_name_byte bs)
    (ap (λ x. is_letter b || x) (digit-digit b (and-left (is_decimal b) (list_all is_decimal bs) h)) ∙ or-yes (is_letter b))
    (name-bytes bs (and-right (is_decimal b) (list_all is_decimal bs) h))

digits-all : (ds : Text) → are_digits ds ≡ true → list_all is_decimal ds ≡ true
digits-all [] h = cc
digits-all (b ∷ bs) h = h

-- A name with `_` and digits behind it.
counted-token : (t ds : Text) → is_name_token t ≡ true → are_digits ds ≡ true → is_name_token ((t ++ codes "_") ++ ds) ≡ true
counted-token t ds h k =
    name-ends-in-digit ((t ++ codes "_") ++ ds)
    (name-append (t ++ codes "_") ds (name-append t (codes "_")
    (and-left (is_name t) (not (is_some (look_by bytes_eq words t)) && not (is_outside (name t))) h) refl)
    (name-bytes ds (digits-all ds k)))
    (digits-end (t ++ codes "_") ds k)

behind-prefix : (p a ds : Text) → after_prefix p a ≡ Some ds → p ++ ds ≡ a
behind-prefix p a ds e =
    let h = if-some (same_text p (take (length p) a)) (Some (drop (length p) a)) ds e in
    let f : drop (length p) a ≡ ds = let g = h.1 in cc in
    ap (λ x. x ++ ds) (same-text-equal p (take (length p) a) h.0) ∙ ap (λ x. take (length p) a ++ x) (sym f) ∙ take-append-drop (length p) a

-- ---- names of values

unnamed-token : (t : TypeEntry) (a : Text) (v : Value) → is_name_token t.name ≡ true → unnamed_item t a ≡ Some v → is_name_token a ≡ true
unnamed-token t a v h e =
    let p = t.name ++ codes "_" in
    let ds = then-some (after_prefix p a) (λ ds. let k : ℕ = number_of 0 ds in when (are_digits ds && same_text a (unnamed_name t.name k) && nat_le 1 k && nat_le k t.count) (item t.name k)) v e in
    let k : ℕ = number_of 0 ds.0 in
    let w = when-some (are_digits ds.0 && same_text a (unnamed_name t.name k) && nat_le 1 k && nat_le k t.count) (item t.name k) v ds.2 in
    let d = and-left (are_digits ds.0) (same_text a (unnamed_name t.name k)) (and-left (are_digits ds.0 && same_text a (unnamed_name t.name k)) (nat_le 1 k) (and-left (are_digits ds.0 && same_text a (unnamed_name t.name k) && nat_le 1 k) (nat_le k t.count) w.0)) in
    ap is_name_token (sym (behind-prefix p a ds.0 ds.1)) ∙ counted-token t.name ds.0 h d

named-token : (t : Text) (k : ℕ) (ns : List Text) (a : Text) (v : Value) → are_name_tokens ns ≡ true → named_item t k ns a ≡ Some v → is_name_token a ≡ true
named-token t k [] a v h e = cc
named-token t k (n ∷ ns) a v h e = go (same_text n a) refl e (named-token t (suc k) ns a v (and-right (is_name_token n) (are_name_tokens ns) h))
  where
    go : (b : Bool) → same_text n a ≡ b → (if b then Some (item t k) else named_item t (suc k) ns a) ≡ Some v → (named_item t (suc k) ns a ≡ Some v → is_name_token a ≡ true) → is_name_token a ≡ true
    go true q e ih = ap is_name_token (sym (same-text-equal n a q)) ∙ and-left (is_name_token n) (are_name_tokens ns) h
    go false q e ih = ih e

-- A name of a value is a name token.
pub item-token : (ts : List TypeEntry) (a : Text) (v : Value) → have_name_tokens ts ≡ true → item_of_name ts a ≡ Some v → is_name_token a ≡ true
item-token [] a v h e = cc
item-token (t ∷ ts) a v h e =
    go (is_empty t.names) (unnamed-token t a v own) (named-token t.name 1 t.names a v listed) e
    (item-token ts a v (and-right (is_name_token t.name && are_name_tokens t.names) (have_name_tokens ts) h))
  where
    own : is_name_token t.name ≡ true
    own = and-left (is_name_token t.name) (are_name_tokens t.names) (and-left (is_name_token t.name && are_name_tokens t.names) (have_name_tokens ts) h)

    listed : are_name_tokens t.names ≡ true
    listed = and-right (is_name_token t.name) (are_name_tokens t.names) (and-left (is_name_token t.name && are_name_tokens t.names) (have_name_tokens ts) h)

    first : (o : Option Value) → (o ≡ Some v → is_name_token a ≡ true) → or_else o (item_of_name ts a) ≡ Some v → (item_of_name ts a ≡ Some v → is_name_token a ≡ true) → is_name_token a ≡ true
    first None f e ih = ih e
    first (Some w) f e ih = f e

    go : (b : Bool) → (unnamed_item t a ≡ Some v → is_name_token a ≡ true) → (named_item t.name 1 t.names a ≡ Some v → is_name_token a ≡ true) →
        or_else (if b then unnamed_item t a else named_item t.name 1 t.names a) (item_of_name ts a) ≡ Some v → (item_of_name ts a ≡ Some v → is_name_token a ≡ true) → is_name_token a ≡ true
    go true f g e ih = first (unnamed_item t a) f e ih
    go false f g e ih = first (named_item t.name 1 t.names a) g e ih

-- A type that is there has a name token as its name.
pub type-token : (ts : List TypeEntry) (a : Text) (t : TypeEntry) → have_name_tokens ts ≡ true → type_entry ts a ≡ Some t → is_name_token a ≡ true
type-token [] a t h e = cc
type-token (u ∷ us) a t h e = go (same_text u.name a) refl e (type-token us a t (and-right (is_name_token u.name && are_name_tokens u.names) (have_name_tokens us) h))
  where
    go : (b : Bool) → same_text u.name a ≡ b → first_or u (type_entry us a) b ≡ Some t → (type_entry us a ≡ Some t → is_name_token a ≡ true) → is_name_token a ≡ true
    go true q e ih =
        ap is_name_token (sym (same-text-equal u.name a q))
        ∙ and-left (is_name_token u.name) (are_name_tokens u.names) (and-left (is_name_token u.name && are_name_tokens u.names) (have_name_tokens us) h)
    go false q e ih = ih e
