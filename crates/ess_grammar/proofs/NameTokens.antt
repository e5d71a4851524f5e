-- Name tokens are said in two ways: by the token that a text is, and by lists of the reserved words and of the words outside
-- the subset. Both say the same.
use Rattle.std.proofs.Common.{◌≡◌, refl, sym, ap, ◌∙◌, Bool, true, false, ◌&&◌, ◌||◌, not, List, [], ◌∷◌, map, Some, if◌then◌else◌}
use Rattle.std.specs.Option.{is_some}
use Rattle.std.specs.List.{list_any}
use Rattle.std.specs.Str.{bytes_eq}
use Rattle.ess_semantics.specs.Values.{Text}
use Rattle.ess_semantics.specs.Order.{same_text}
use Rattle.ess_semantics.specs.Names.{is_among, look_by}
use Rattle.ess_semantics.specs.NameTokens.{reserved, outside, is_name}
use Rattle.ess_semantics.specs.NameTokens as pure
use Rattle.ess_semantics.proofs.Texts.{same_text-either, same_text-bytes}
use Rattle.ess_grammar.specs.Words.{name, words, is_outside}
use Rattle.ess_grammar.specs.Readable.{is_name_token}

-- The reserved words are those that the table of words has.
reserved-words : map (λ e. e.0) words ≡ reserved
reserved-words = refl

-- A table has something for the texts that stand in it.
look-among : {A : Type 0} (es : List (Text × A)) (a : Text) → is_some (look_by bytes_eq es a) ≡ is_among (map (λ e. e.0) es) a
look-among [] a = refl
look-among (e ∷ es) a =
    go (bytes_eq e.0 a) (look-among es a) ∙ ap (λ b. b || is_among (map (λ e. e.0) es) a) (sym (same_text-bytes e.0 a))
  where
    go : (b : Bool) → is_some (look_by bytes_eq es a) ≡ is_among (map (λ e. e.0) es) a →
        is_some (if b then Some e.1 else look_by bytes_eq es a) ≡ (b || is_among (map (λ e. e.0) es) a)
    go true h = refl
    go false h = h

-- The words outside the subset are the same.
outside-among : (ws : List Text) (a : Text) → list_any (bytes_eq a) ws ≡ is_among ws a
outside-among [] a = refl
outside-among (w ∷ ws) a =
    ap (λ b. b || list_any (bytes_eq a) ws) (sym (same_text-bytes a w) ∙ same_text-either a w)
    ∙ ap (λ b. same_text w a || b) (outside-among ws a)

-- A text is a name token in both ways, or in neither.
pub name-token-either : (a : Text) → is_name_token a ≡ pure.is_name_token a
name-token-either a =
    ap (λ b. is_name a && (not b && not (is_outside (name a)))) (look-among words a ∙ ap (λ ws. is_among ws a) reserved-words)
    ∙ ap (λ b. is_name a && (not (is_among reserved a) && not b)) (outside-among outside a)
