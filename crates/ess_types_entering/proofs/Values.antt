-- The values of an enumerated type, declared from the last one.
use Rattle.std.proofs.Common.{arith, ◌≡◌, refl, sym, ap, ◌∙◌, ℕ, zero, suc, ◌+◌, ◌-◌, ◌<◌, Bool, true, false, not, ◌&&◌, ◌||◌, if◌then◌else◌, List, [], ◌∷◌, ◌++◌, length, map, drop, get_or, Some, is_some}
use Rattle.std.proofs.lemmas.List.{at_drop_more}
use Rattle.ess_semantics.specs.Values.{Text}
use Rattle.ess_semantics.specs.Names.{Names, look, is_among}
use Rattle.ess_semantics.specs.Order.{same_text}
use Rattle.ess_semantics.specs.Types.{Ty, named_ty}
use Rattle.ess_types_names.specs.Tables.{Types, pure_table, pure_declared, declared_as}
use Rattle.ess_types_names.specs.declared.table.Declared.{Declared}
use Rattle.ess_types_names.specs.declared.table.Declared.TheVariants.{Added, Standing}
use Rattle.ess_types_names.proofs.Tables.{no_bound, declared_newest, declared_behind}
use Rattle.ess_types_entering.specs.Behind.{are_new}

-- One more value stands in front of those behind it.
values-more : (xs : List Text) (i : ℕ) (x a : Text) (d e g : Names Ty) → i < length xs → x ≡ get_or xs i x
    → d ≡ map (λ n. (n, named_ty a)) (drop (i + 1) xs) ++ g → e ≡ (x, named_ty a) ∷ d
    → e ≡ map (λ n. (n, named_ty a)) (drop i xs) ++ g
values-more xs i x a d e g h is p q =
    q ∙ ap (λ l. (x, named_ty a) ∷ l) p
    ∙ ap (λ y. (y, named_ty a) ∷ (map (λ n. (n, named_ty a)) (drop (i + 1) xs) ++ g)) is
    ∙ sym (at_drop_more (λ l. map (λ n. (n, named_ty a)) l ++ g) xs i x h)

-- The same where k values are declared already, counted from the last one.
pub values_more : (xs : List Text) (k : ℕ) (x a : Text) (d e g : Names Ty) → k < length xs → x ≡ get_or xs (length xs - 1 - k) x
    → d ≡ map (λ n. (n, named_ty a)) (drop (length xs - k) xs) ++ g → e ≡ (x, named_ty a) ∷ d
    → e ≡ map (λ n. (n, named_ty a)) (drop (length xs - (k + 1)) xs) ++ g
values_more xs k x a d e g h is p q =
    let here : length xs - 1 - k ≡ length xs - (k + 1) = omega arith in
    let next : length xs - k ≡ length xs - (k + 1) + 1 = omega arith in
    values-more xs (length xs - (k + 1)) x a d e g (omega arith) (is ∙ ap (λ j. get_or xs j x) here)
    (p ∙ ap (λ j. map (λ n. (n, named_ty a)) (drop j xs) ++ g) next) q

-- In a table without bound names the declared values stand in front of all names.
pub values_in_front : (xs : List Text) (a : Text) (t u : Types) → t.bound ≡ [] → u.bound ≡ t.bound
    → pure_declared u.declared ≡ map (λ n. (n, named_ty a)) xs ++ pure_declared t.declared
    → pure_table u ≡ map (λ n. (n, named_ty a)) xs ++ pure_table t
values_in_front xs a t u h b p = no_bound u (b ∙ h) ∙ p ∙ ap (λ g. map (λ n. (n, named_ty a)) xs ++ g) (sym (no_bound t h))

-- ---- names that are declared already

abbrev is_standing : Declared → Bool
is_standing Added = false
is_standing Standing = true

standing-is : (b : Bool) → is_standing (if b then Standing else Added) ≡ b
standing-is true = refl
standing-is false = refl

-- What is declared no more is declared already.
pub one_standing : (t : Types) (a : Text) (r : Declared) → r ≡ declared_as t a → r ≡ Standing
    → is_some (look (pure_declared t.declared) a) ≡ true
one_standing t a r p q = sym (standing-is (is_some (look (pure_declared t.declared) a))) ∙ ap is_standing (sym p ∙ q)

-- Then the name isn't new.
pub one_not_new : (t : Types) (a : Text) → is_some (look (pure_declared t.declared) a) ≡ true
    → are_new (a ∷ []) (pure_declared t.declared) ≡ false
one_not_new t a h = ap (λ b. not b && true) h

-- A name that is declared, or was before.
pub ruleset declared_or_standing = (declared_newest, declared_behind, one_standing, one_not_new)

named-look : (ns : List Text) (a : Text) (t : Ty) (g : Names Ty)
    → is_some (look (map (λ n. (n, t)) ns ++ g) a) ≡ is_among ns a || is_some (look g a)
named-look [] a t g = refl
named-look (n ∷ ns) a t g = go (same_text n a) (named-look ns a t g)
  where
    go : (b : Bool) → is_some (look (map (λ n. (n, t)) ns ++ g) a) ≡ is_among ns a || is_some (look g a)
        → is_some (if b then Some t else look (map (λ n. (n, t)) ns ++ g) a) ≡ (b || is_among ns a) || is_some (look g a)
    go true h = refl
    go false h = h

not-new : (b c r : Bool) → b || c ≡ true → not b && (not c && r) ≡ false
not-new true c r h = refl
not-new false true r h = refl
not-new false false r h = ap (λ b. if b then false else r) h

-- A name that isn't new among the last ones isn't new among all.
last-not-new : (i : ℕ) (xs : List Text) (g : Names Ty) → are_new (drop i xs) g ≡ false → are_new xs g ≡ false
last-not-new zero xs g h = h
last-not-new (suc i) [] g h = h
last-not-new (suc i) (x ∷ xs) g h = go (is_among xs x) (is_some (look g x)) (last-not-new i xs g h)
  where
    go : (b c : Bool) → are_new xs g ≡ false → not b && (not c && are_new xs g) ≡ false
    go true c e = refl
    go false true e = refl
    go false false e = e

-- One of the values is declared already where k of them were declared, counted from the last one.
pub values_standing : (xs : List Text) (k : ℕ) (x a : Text) (d g : Names Ty) → k < length xs → x ≡ get_or xs (length xs - 1 - k) x
    → d ≡ map (λ n. (n, named_ty a)) (drop (length xs - k) xs) ++ g → is_some (look d x) ≡ true → are_new xs g ≡ false
values_standing xs k x a d g h is p q =
    let next : length xs - k ≡ length xs - 1 - k + 1 = omega arith in
    last-not-new (length xs - 1 - k) xs g
    (at_drop_more (λ l. are_new l g) xs (length xs - 1 - k) x (omega arith)
    ∙ ap (λ y. are_new (y ∷ drop (length xs - 1 - k + 1) xs) g) (sym is)
    ∙ not-new (is_among (drop (length xs - 1 - k + 1) xs) x) (is_some (look g x)) (are_new (drop (length xs - 1 - k + 1) xs) g)
    (sym (named-look (drop (length xs - 1 - k + 1) xs) x (named_ty a) g)
    ∙ ap (λ j. is_some (look (map (λ n. (n, named_ty a)) (drop j xs) ++ g) x)) (sym next)
    ∙ ap (λ e. is_some (look e x)) (sym p) ∙ q))
