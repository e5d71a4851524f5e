-- A name token with `_` behind is a name token: no word of the language ends so. So the free name of a name is one.
use Rattle.std.proofs.Common.{◌≡◌, refl, sym, ap, ◌∙◌, ℕ, zero, suc, Bool, true, false, ◌&&◌, ◌||◌, not, if◌then◌else◌, List, [], ◌∷◌, ◌++◌, nat_eq, codes, length, Some, None, is_some, bytes_eq}
use Rattle.std.specs.List.{list_all, list_any}
use Rattle.ess_semantics.specs.Values.{Text}
use Rattle.ess_semantics.specs.Names.{is_among, look_by}
use Rattle.ess_semantics.specs.NameTokens.{is_name, is_letter, is_name_byte}
use Rattle.ess_semantics.specs.TableNames.{free_within, free_name}
use Rattle.ess_semantics.proofs.Tests.{and-left, and-right, and-both, not-true}
use Rattle.ess_semantics.proofs.Texts.{same_text-equal, same_text-bytes}
use Rattle.ess_grammar.specs.Words.{Token, name, words, outside, is_outside}
use Rattle.ess_grammar.specs.Readable.{is_name_token}
use Rattle.conjure_laws.proofs.Lists.{test-append}

-- Equal bytes are one text.
bytes-one : (a b : Text) → bytes_eq a b ≡ true → a ≡ b
bytes-one a b e = same_text-equal a b (same_text-bytes a b ∙ e)

-- Whether the last byte is `_`.
abbrev ends_marked : Text → Bool
ends_marked [] = false
ends_marked (b ∷ []) = nat_eq b 95
ends_marked (b ∷ c ∷ bs) = ends_marked (c ∷ bs)

marked-end : (a : Text) → ends_marked (a ++ codes "_") ≡ true
marked-end [] = refl
marked-end (b ∷ []) = refl
marked-end (b ∷ c ∷ bs) = marked-end (c ∷ bs)

-- ---- a text is none of those that haven't a property that it has

none-found : (q : Text → Bool) (ws : List (Text × Token)) (a : Text) → list_all (λ e. not (q e.0)) ws ≡ true → q a ≡ true →
    look_by bytes_eq ws a ≡ None
none-found q [] a h k = refl
none-found q (w ∷ ws) a h k = go (bytes_eq w.0 a) refl (none-found q ws a (and-right (not (q w.0)) (list_all (λ e. not (q e.0)) ws) h) k)
  where
    go : (b : Bool) → bytes_eq w.0 a ≡ b → look_by bytes_eq ws a ≡ None → (if b then Some w.1 else look_by bytes_eq ws a) ≡ None
    go false e f = f
    go true e f = let z : true ≡ false = sym k ∙ ap q (sym (bytes-one w.0 a e))
        ∙ not-true (q w.0) (and-left (not (q w.0)) (list_all (λ e. not (q e.0)) ws) h) in cc

none-equal : (q : Text → Bool) (ns : List Text) (a : Text) → list_all (λ n. not (q n)) ns ≡ true → q a ≡ true →
    list_any (bytes_eq a) ns ≡ false
none-equal q [] a h k = refl
none-equal q (n ∷ ns) a h k = go (bytes_eq a n) refl (none-equal q ns a (and-right (not (q n)) (list_all (λ n. not (q n)) ns) h) k)
  where
    go : (b : Bool) → bytes_eq a n ≡ b → list_any (bytes_eq a) ns ≡ false → b || list_any (bytes_eq a) ns ≡ false
    go false e f = f
    go true e f = let z : true ≡ false = sym k ∙ ap q (bytes-one a n e)
        ∙ not-true (q n) (and-left (not (q n)) (list_all (λ n. not (q n)) ns) h) in cc

-- ---- `_` behind a name

name-longer : (a : Text) → is_name a ≡ true → is_name (a ++ codes "_") ≡ true
name-longer [] h = cc
name-longer (b ∷ bs) h =
    and-both (is_letter b) (list_all is_name_byte (bs ++ codes "_")) (and-left (is_letter b) (list_all is_name_byte bs) h)
    (test-append is_name_byte bs (codes "_") ∙ and-both (list_all is_name_byte bs) true
    (and-right (is_letter b) (list_all is_name_byte bs) h) refl)

-- With `_` behind a name token is one.
pub token-longer : (a : Text) → is_name_token a ≡ true → is_name_token (a ++ codes "_") ≡ true
token-longer a h =
    let w : Text = a ++ codes "_" in
    and-both (is_name w) (not (is_some (look_by bytes_eq words w)) && not (is_outside (name w)))
    (name-longer a (and-left (is_name a) (not (is_some (look_by bytes_eq words a)) && not (is_outside (name a))) h))
    (and-both (not (is_some (look_by bytes_eq words w))) (not (is_outside (name w)))
    (ap (λ o. not (is_some o)) (none-found ends_marked words w refl (marked-end a)))
    (ap not (none-equal ends_marked outside w refl (marked-end a))))

-- So is the free name of one.
token-within : (k : ℕ) (taken : List Text) (a : Text) → is_name_token a ≡ true → is_name_token (free_within k taken a) ≡ true
token-within zero taken a h = h
token-within (suc k) taken a h = go (is_among taken a) (token-within k taken (a ++ codes "_") (token-longer a h))
  where
    go : (b : Bool) → is_name_token (free_within k taken (a ++ codes "_")) ≡ true →
        is_name_token (if b then free_within k taken (a ++ codes "_") else a) ≡ true
    go true f = f
    go false f = h

pub token-free : (taken : List Text) (a : Text) → is_name_token a ≡ true → is_name_token (free_name taken a) ≡ true
token-free taken a h = token-within (suc (length taken)) taken a h
