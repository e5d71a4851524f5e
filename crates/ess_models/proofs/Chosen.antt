-- The representations of a header are those that are chosen by them.
use Rattle.std.proofs.Common.{◌≡◌, refl, sym, ap, ◌∙◌, true, false, ◌&&◌, List, [], ◌∷◌, ◌++◌, map, Some, None, append_assoc}
use Rattle.ess_semantics.specs.Values.{Text}
use Rattle.ess_semantics.specs.Lists.{or_default}
use Rattle.ess_semantics.specs.Names.{Names, look, keys, all_distinct}
use Rattle.ess_semantics.specs.Order.{same_text}
use Rattle.ess_semantics.specs.Choice.{default_repr}
use Rattle.ess_semantics.specs.Judgements.{fault, is_well_typed}
use Rattle.ess_semantics.specs.Trees.{Repr, Dom, Stm}
use Rattle.ess_semantics.specs.Plans.{Options, chosen_reprs, kept_names, all_chosen}
use Rattle.ess_semantics.proofs.Tests.{and-left, and-right}
use Rattle.ess_semantics.proofs.Texts.{same_text-equal}
use Rattle.conjure_laws.proofs.NamedTables.{look-middle}
use Rattle.conjure_laws.proofs.JudgedDistinct.{kept-distinct}
use Rattle.ess_translate_header_laws.specs.Headers.{all_fit, are_reprs_of}

-- Of the first name: it has these representations, and the others are those of the other names.
record Front (x : Text) (xs : Names Dom) (a : Text) (rs : Names (List Repr)) : Type 0 where
  same : x ≡ a
  rest : are_reprs_of xs rs ≡ true

front : (x : Text) (d : Dom) (xs : Names Dom) (a : Text) (qs : List Repr) (rs : Names (List Repr)) →
    are_reprs_of ((x, d) ∷ xs) ((a, qs) ∷ rs) ≡ true → Front x xs a rs
front x d xs a qs rs h =
    let l = and-left (same_text x a && all_fit qs d) (are_reprs_of xs rs) h in record {
      same = same_text-equal x a (and-left (same_text x a) (all_fit qs d) l);
      rest = and-right (same_text x a && all_fit qs d) (are_reprs_of xs rs) h;
    }

-- Representations of names have these names.
names-of-reprs : (xs : Names Dom) (rs : Names (List Repr)) → are_reprs_of xs rs ≡ true → keys rs ≡ keys xs
names-of-reprs [] [] h = refl
names-of-reprs [] (r ∷ rs) h = cc
names-of-reprs (x ∷ xs) [] h = cc
names-of-reprs (x ∷ xs) (r ∷ rs) h =
    let f = front x.0 x.1 xs r.0 r.1 rs h in
    ap (λ a. a ∷ keys rs) (sym f.same) ∙ ap (λ l. x.0 ∷ l) (names-of-reprs xs rs f.rest)

-- The representations of names, where others stand before them.
chosen-here : (o before rs : Names (List Repr)) (xs : Names Dom) → all_distinct (keys o) ≡ true → o ≡ before ++ rs
    → are_reprs_of xs rs ≡ true → map (λ x. (x.0, chosen_reprs o x.0 x.1)) xs ≡ rs
chosen-here o before [] [] n e h = refl
chosen-here o before (r ∷ rs) [] n e h = cc
chosen-here o before [] (x ∷ xs) n e h = cc
chosen-here o before (r ∷ rs) (x ∷ xs) n e h =
    let f = front x.0 x.1 xs r.0 r.1 rs h in
    let there : look o r.0 ≡ Some r.1 =
    ap (λ l. look l r.0) e ∙ look-middle before rs r.0 r.1 (ap (λ l. all_distinct (keys l)) (sym e) ∙ n) in
    let c : chosen_reprs o x.0 x.1 ≡ r.1 = ap (λ q. or_default q (default_repr x.1 ∷ [])) (ap (look o) f.same ∙ there) in
    let one : (x.0, chosen_reprs o x.0 x.1) ≡ r = ap (λ a. (a, chosen_reprs o x.0 x.1)) f.same ∙ ap (λ q. (r.0, q)) c in
    ap (λ p. p ∷ map (λ x. (x.0, chosen_reprs o x.0 x.1)) xs) one
    ∙ ap (λ l. r ∷ l) (chosen-here o (before ++ r ∷ []) rs xs n (e ∙ sym (append_assoc before (r ∷ []) rs)) f.rest)

well-typed : (S : List Stm) → fault S ≡ None → is_well_typed S ≡ true
well-typed S e = ap (λ o. elim o [ None ↦ true | Some f ↦ false ]) e

-- They are those that are chosen.
pub chosen-are : (S : List Stm) (o : Options) → fault S ≡ None → are_reprs_of (kept_names S) o ≡ true → all_chosen S o ≡ o
chosen-are S o e h =
    chosen-here o [] o (kept_names S) (ap all_distinct (names-of-reprs (kept_names S) o h) ∙ kept-distinct S (well-typed S e)) refl h
