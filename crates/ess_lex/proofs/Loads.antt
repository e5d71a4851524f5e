-- One token more in the load of a text.
use Rattle.std.proofs.Common.{◌≡◌, sym, ap, ◌∙◌, ◌≤◌, Bool, true, false, List, length, Option, Some, None, nat_lt, is_some}
use Rattle.std.proofs.lemmas.Bool.{le-ltb}
use Rattle.ess_rows.specs.declared.place.Place.{Place}
use Rattle.ess_grammar.specs.Words.{Text, Token}
use Rattle.ess_grammar.specs.Tokens.{Lexed, next_token, or_else}
use Rattle.ess_grammar.specs.Load.{Item, loaded_by, closes_operand, too_deep_after}

-- a place that is found stays
pub found-kept : (found x y all : Option Place) → is_some found ≡ true → all ≡ or_else found x → all ≡ or_else found y
found-kept None x y all h e = cc
found-kept (Some p) x y all h e = e

pub found-later : (found x y all : Option Place) → x ≡ y → all ≡ or_else found x → all ≡ or_else found y
found-later found x y all h e = e ∙ ap (or_else found) h

-- a token after which the load is at most 250
pub too_deep-later : (t : Token) (bytes : Text) (p : Place) (more all : Lexed) (b b' : Bool) (items items' : List Item) →
    next_token t bytes p more ≡ all →
    items' ≡ loaded_by t b items → b' ≡ closes_operand t → length items' ≤ 250 → too_deep_after b items all ≡ too_deep_after b' items' more
too_deep-later t bytes p more all b b' items items' e i c l =
    ap (too_deep_after b items) (sym e)
    ∙ ap (λ s. elim (nat_lt 250 (length s)) [ true ↦ Some p | false ↦ too_deep_after (closes_operand t) s more ]) (sym i)
    ∙ ap (λ k. elim k [ true ↦ Some p | false ↦ too_deep_after (closes_operand t) items' more ]) (le-ltb 250 (length items') l)
    ∙ ap (λ k. too_deep_after k items' more) (sym c)
