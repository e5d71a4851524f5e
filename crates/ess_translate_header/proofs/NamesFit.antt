-- Whether representations are those of names with domains, one after the other.
use Rattle.std.proofs.Common.{◌≡◌, refl, sym, ap, ◌∙◌, subst, Bool, true, false, ◌&&◌, ◌==◌, ◌+◌, ◌≤◌, ◌<◌, ℕ, suc, List, [], ◌∷◌, ◌++◌, length, drop, map, arith, ne_eqb}
use Rattle.std.specs.List.{list_all}
use Rattle.std.proofs.Math.ListN.{get_or, drop_of_length-le}
use Rattle.std.proofs.Math.Seq.{drop-cons}
use Rattle.ess_semantics.specs.Values.{Text}
use Rattle.ess_semantics.specs.Names.{Names}
use Rattle.ess_semantics.specs.Lists.{append_all}
use Rattle.ess_semantics.specs.Order.{same_text}
use Rattle.ess_semantics.specs.Kinds.{fits}
use Rattle.ess_semantics.specs.Trees.{Dom}
use Rattle.ess_semantics.specs.Plans.{domain_of_stm}
use Rattle.ess_core.specs.TreeViews.{pure_repr}
use Rattle.ess_core.specs.StatementViews.{pure_stm}
use Rattle.ess_core.specs.declared.representations.Repr.{Repr}
use Rattle.ess_core.specs.declared.statements.Stm.{Stm}
use Rattle.ess_parse.specs.declared.representations.named.NamedReprs.{NamedReprs}
use Rattle.ess_parse.specs.NamedReprViews.{pure_named_reprs}
use Rattle.ess_translate_header_laws.specs.Headers.{all_fit, are_reprs_of}
use Rattle.ess_translate_header.specs.Views.{is_for}

all-over : (d : Dom) (rs : List Repr) → list_all (λ r. fits (pure_repr r) d) rs ≡ all_fit (map pure_repr rs) d
all-over d [] = refl
all-over d (r ∷ rs) = ap (λ b. fits (pure_repr r) d && b) (all-over d rs)

and-three : (a b c : Bool) → (a && b) ≡ true → (a && b && c) ≡ c
and-three true true c h = refl
and-three true false c h = cc
and-three false b c h = cc

and-fails : (a b c : Bool) → (a && b) ≡ false → (a && b && c) ≡ false
and-fails true true c h = cc
and-fails true false c h = refl
and-fails false b c h = refl

for-first : (a : Text) (d : Dom) (n : NamedReprs) → is_for a d n ≡ (same_text a n.name && all_fit (map pure_repr n.trees) d)
for-first a d n = ap (λ b. same_text a n.name && b) (all-over d n.trees)

-- The first name has the first representations.
pub first_fits : (a : Text) (d : Dom) (rest : List NamedReprs) (n : NamedReprs) (more : List NamedReprs) → rest ≡ n ∷ more → is_for a d n ≡ true →
    (xs : Names Dom) → are_reprs_of ((a, d) ∷ xs) (map pure_named_reprs rest) ≡ are_reprs_of xs (map pure_named_reprs more)
first_fits a d rest n more e h xs =
    ap (λ rs. are_reprs_of ((a, d) ∷ xs) (map pure_named_reprs rs)) e
    ∙ and-three (same_text a n.name) (all_fit (map pure_repr n.trees) d) (are_reprs_of xs (map pure_named_reprs more)) (sym (for-first a d n) ∙ h)

-- It hasn't.
pub first_fails : (a : Text) (d : Dom) (rest : List NamedReprs) (n : NamedReprs) (more : List NamedReprs) → rest ≡ n ∷ more → is_for a d n ≡ false →
    (xs : Names Dom) → are_reprs_of ((a, d) ∷ xs) (map pure_named_reprs rest) ≡ false
first_fails a d rest n more e h xs =
    ap (λ rs. are_reprs_of ((a, d) ∷ xs) (map pure_named_reprs rs)) e
    ∙ and-fails (same_text a n.name) (all_fit (map pure_repr n.trees) d) (are_reprs_of xs (map pure_named_reprs more)) (sym (for-first a d n) ∙ h)

-- None is left.
pub first_lacks : (a : Text) (d : Dom) (rest : List NamedReprs) → rest ≡ [] → (xs : Names Dom) → are_reprs_of ((a, d) ∷ xs) (map pure_named_reprs rest) ≡ false
first_lacks a d rest e xs = ap (λ rs. are_reprs_of ((a, d) ∷ xs) (map pure_named_reprs rs)) e

-- ---- the turns

-- The names of statements.
abbrev pub names_in : List Stm → Names Dom
names_in ss = append_all (map domain_of_stm (map pure_stm ss))

names-left : (ss : List Stm) (i : ℕ) (s : Stm) → s ≡ get_or ss i s → i < length ss →
    names_in (drop i ss) ≡ domain_of_stm (pure_stm s) ++ names_in (drop (i + 1) ss)
names-left ss i s h k =
    let next : suc i ≡ i + 1 = omega arith in
    ap names_in (drop-cons ss i s k ∙ ap (λ t. t ∷ drop (suc i) ss) (sym h) ∙ ap (λ n. s ∷ drop n ss) next)

-- What is left after a statement decides.
pub left_more : (ss : List Stm) (i : ℕ) (s : Stm) (rest more : List NamedReprs) (b : Bool) → s ≡ get_or ss i s → i < length ss →
    b ≡ are_reprs_of (names_in (drop i ss)) (map pure_named_reprs rest) →
    ((xs : Names Dom) → are_reprs_of (domain_of_stm (pure_stm s) ++ xs) (map pure_named_reprs rest) ≡ are_reprs_of xs (map pure_named_reprs more)) →
    b ≡ are_reprs_of (names_in (drop (i + 1) ss)) (map pure_named_reprs more)
left_more ss i s rest more b h k e f =
    e ∙ ap (λ xs. are_reprs_of xs (map pure_named_reprs rest)) (names-left ss i s h k) ∙ f (names_in (drop (i + 1) ss))

-- Where nothing fits the answer is no.
pub left_fails : (ss : List Stm) (i : ℕ) (s : Stm) (rest : List NamedReprs) (b : Bool) → s ≡ get_or ss i s → i < length ss →
    b ≡ are_reprs_of (names_in (drop i ss)) (map pure_named_reprs rest) →
    ((xs : Names Dom) → are_reprs_of (domain_of_stm (pure_stm s) ++ xs) (map pure_named_reprs rest) ≡ false) → false ≡ b
left_fails ss i s rest b h k e f =
    sym (e ∙ ap (λ xs. are_reprs_of xs (map pure_named_reprs rest)) (names-left ss i s h k) ∙ f (names_in (drop (i + 1) ss)))

none-left : (rest : List NamedReprs) → (length rest == 0) ≡ are_reprs_of [] (map pure_named_reprs rest)
none-left [] = refl
none-left (r ∷ rs) = ne_eqb (length (r ∷ rs)) 0 (λ e. cc)

-- Behind the last statement nothing may be left.
pub left_all : (ss : List Stm) (i : ℕ) (rest : List NamedReprs) (b : Bool) → length ss ≤ i →
    b ≡ are_reprs_of (names_in (drop i ss)) (map pure_named_reprs rest) → (length rest == 0) ≡ b
left_all ss i rest b h e =
    none-left rest ∙ sym (e ∙ ap (λ us. are_reprs_of (names_in us) (map pure_named_reprs rest)) (drop_of_length-le ss h))
