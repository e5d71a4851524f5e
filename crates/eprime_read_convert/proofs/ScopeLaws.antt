-- Names in scopes: a scope more, and whether a name is among them.
use Rattle.std.proofs.Common.{◌≡◌, refl, sym, ap, ◌∙◌, Bool, true, false, ◌||◌, List, [], ◌∷◌, ◌++◌, reverse, append-nil, append_assoc}
use Rattle.std.specs.Borrow.{Bor}
use Rattle.std.specs.List.{list_any}
use Rattle.std.proofs.lemmas.List.{reverse-append}
use Rattle.std.proofs.lemmas.List.Folds.{list_any-append}
use Rattle.ess_semantics.specs.Values.{Text}
use Rattle.ess_semantics.specs.Names.{is_among}
use Rattle.ess_semantics.specs.Order.{same_text}
use Rattle.eprime_read_convert.specs.Scopes.{newest_first}

-- The names of one scope more stand before the others.
scope-more : (rs : List (Bor (List Text))) (r : Bor (List Text)) → newest_first (rs ++ r ∷ []) ≡ reverse r.now ++ newest_first rs
scope-more [] r = sym (append-nil (reverse r.now))
scope-more (s ∷ rs) r = ap (λ ns. ns ++ reverse s.now) (scope-more rs r) ∙ append_assoc (reverse r.now) (newest_first rs) (reverse s.now)

pub scope_more : (rs old new : List (Bor (List Text))) (r : Bor (List Text)) → old ≡ rs → new ≡ old ++ r ∷ [] → newest_first new ≡ reverse r.now ++ newest_first rs
scope_more rs old new r e f = ap newest_first (f ∙ ap (λ o. o ++ r ∷ []) e) ∙ scope-more rs r

either : (b c : Bool) → (b || (c || false)) ≡ (c || b)
either true true = refl
either true false = refl
either false true = refl
either false false = refl

swapped : (b c : Bool) → (b || c) ≡ (c || b)
swapped true true = refl
swapped true false = refl
swapped false true = refl
swapped false false = refl

-- A name is among names in whichever order they stand.
reversed : (ns : List Text) (a : Text) → is_among (reverse ns) a ≡ is_among ns a
reversed [] a = refl
reversed (n ∷ ns) a =
    ap (λ l. is_among l a) (reverse-append (n ∷ []) ns) ∙ list_any-append (λ n. same_text n a) (reverse ns) (n ∷ [])
    ∙ ap (λ b. b || (same_text n a || false)) (reversed ns a) ∙ either (is_among ns a) (same_text n a)

-- A name is among those of the scopes where a scope has it.
pub found_in_scopes : (rs : List (Bor (List Text))) (a : Text) → list_any (λ r. is_among r.now a) rs ≡ is_among (newest_first rs) a
found_in_scopes [] a = refl
found_in_scopes (r ∷ rs) a =
    ap (λ b. is_among r.now a || b) (found_in_scopes rs a) ∙ swapped (is_among r.now a) (is_among (newest_first rs) a)
    ∙ ap (λ b. is_among (newest_first rs) a || b) (sym (reversed r.now a)) ∙ sym (list_any-append (λ n. same_text n a) (newest_first rs) (reverse r.now))
