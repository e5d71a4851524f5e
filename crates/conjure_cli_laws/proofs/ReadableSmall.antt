-- The small model is one that some text has.
use Rattle.std.proofs.Common.{◌≡◌, refl, sym, ap, ◌∙◌, ℕ, Bool, true, false, ◌&&◌, ◌||◌, not, if◌then◌else◌, List, [], ◌∷◌, pos, ◌⊎◌, inl, inr, Some, None, is_some}
use Rattle.std.specs.List.{list_all}
use Rattle.ess_semantics.specs.Values.{Text}
use Rattle.ess_semantics.specs.Order.{same_text}
use Rattle.ess_semantics.specs.Names.{look, is_among}
use Rattle.ess_semantics.proofs.Tests.{and-both, or-left-no, or-right-no}
use Rattle.ess_semantics.proofs.Texts.{same_text-equal, same_text-itself}
use Rattle.ess_grammar.specs.Readable.{is_name_token, is_number_token}
use Rattle.ess_grammar.specs.Models.{Scope, empty_scope, with_find, scope_behind, are_model_tables, is_model_dom, is_model_ex, is_truth_table, same_truth, is_readable_model}
use Rattle.conjure_cli_laws.specs.SmallGrammar.{Statement, find, such_that, each_find, each_constraint, found_names}
use Rattle.conjure_cli_laws.specs.SmallSets.{table_name, table_decl, cell_rule, small_model}
use Rattle.conjure_cli_laws.proofs.SmallNames.{unmarked, name-unmarked, table-once, table-spelled}
use Rattle.conjure_cli_laws.proofs.SmallStatements.{Named, Spelled, IsRead}
use Rattle.conjure_laws.specs.SetsOfAtoms.{range_dom}

-- ---- the declarations

-- The tables in scope are those of the names g.
abbrev TablesOf : Scope → List Text → Type 0
TablesOf s g = (x : Text) → unmarked x ≡ true → is_among g x ≡ false → look s.tables (table_name x) ≡ None

range-readable : (s : Scope) (a b : ℕ) → IsRead a → IsRead b →
    is_model_dom s true [] (range_dom (pos a) (pos b)) ≡ true
range-readable s a b h k = and-both (is_number_token (pos a)) (is_number_token (pos b) && true) h
    (and-both (is_number_token (pos b)) true k refl)

tables-readable : (ss : List Statement) (g : List Text) (s : Scope) → Named g ss → Spelled ss → TablesOf s g →
    are_model_tables with_find s (each_find table_decl ss) ≡ true
tables-readable [] g s n p t = refl
tables-readable (such_that k x ∷ ss) g s n p t = tables-readable ss g s n.1 p.2 t
tables-readable (find x a b ∷ ss) g s n p t =
    let u = name-unmarked x p.0 in
    let first : is_name_token (table_name x) ≡ true = table-spelled x p.0 in
    let new : not (is_some (look s.tables (table_name x))) ≡ true = ap (λ o. not (is_some o)) (t x u n.0) in
    let axis : list_all (is_model_dom s true []) (table_decl x a b).axes ≡ true =
    and-both (is_model_dom s true [] (range_dom (pos a) (pos b))) true
    (range-readable s a b p.1 p.2) refl in
    let rest = tables-readable ss (x ∷ g) (with_find s (table_decl x a b)) n.1 p.3 (λ y v e. more u y v e) in
    let A : Bool = is_name_token (table_name x) in
    let B : Bool = not (is_some (look s.tables (table_name x))) in
    let C : Bool = list_all (is_model_dom s true []) (table_decl x a b).axes in
    and-both (A && B && C && true) (are_model_tables with_find (with_find s (table_decl x a b)) (each_find table_decl ss))
    (and-both (A && B && C) true (and-both (A && B) C (and-both A B first new) axis) refl) rest
  where
    more : unmarked x ≡ true → (y : Text) → unmarked y ≡ true → same_text x y || is_among g y ≡ false →
        (if same_text (table_name x) (table_name y) then Some true else look s.tables (table_name y)) ≡ None
    more u y v e = go (same_text (table_name x) (table_name y)) refl
      where
        go : (q : Bool) → same_text (table_name x) (table_name y) ≡ q →
            (if same_text (table_name x) (table_name y) then Some true else look s.tables (table_name y)) ≡ None
        go false q = ap (λ b. if b then Some true else look s.tables (table_name y)) q
            ∙ t y v (or-right-no (same_text x y) (is_among g y) e)
        go true q =
            let w : x ≡ y = table-once x y u v (same_text-equal (table_name x) (table_name y) q) in
            let z : true ≡ false = sym (ap (same_text x) (sym w) ∙ same_text-itself x) ∙ or-left-no (same_text x y) (is_among g y) e in cc

-- ---- the constraints

-- The scope behind the declarations.
abbrev pub behind : Scope → List Statement → Scope
behind s ss = scope_behind with_find s (each_find table_decl ss)

-- A table that is in scope stays, as one of truth values.
truth-stays : (ss : List Statement) (s : Scope) (n : Text) → look s.tables n ≡ Some true → look (behind s ss).tables n ≡ Some true
truth-stays [] s n e = e
truth-stays (such_that k x ∷ ss) s n e = truth-stays ss s n e
truth-stays (find x a b ∷ ss) s n e = truth-stays ss (with_find s (table_decl x a b)) n (go (same_text (table_name x) n))
  where
    go : (b : Bool) → (if b then Some true else look s.tables n) ≡ Some true
    go true = refl
    go false = e

-- The table of a find is in scope.
truth-found : (ss : List Statement) (s : Scope) (x : Text) → is_among (found_names ss) x ≡ true →
    look (behind s ss).tables (table_name x) ≡ Some true
truth-found [] s x e = cc
truth-found (such_that k y ∷ ss) s x e = truth-found ss s x e
truth-found (find y a b ∷ ss) s x e = go (same_text y x) refl e (λ f. truth-found ss (with_find s (table_decl y a b)) x f)
  where
    go : (q : Bool) → same_text y x ≡ q → q || is_among (found_names ss) x ≡ true →
        (is_among (found_names ss) x ≡ true → look (behind (with_find s (table_decl y a b)) ss).tables (table_name x) ≡ Some true) →
        look (behind (with_find s (table_decl y a b)) ss).tables (table_name x) ≡ Some true
    go true q e k = truth-stays ss (with_find s (table_decl y a b)) (table_name x)
        (ap (λ b. if b then Some true else look s.tables (table_name x))
        (ap (λ z. same_text (table_name z) (table_name x)) (same_text-equal y x q) ∙ same_text-itself (table_name x)))
    go false q e k = k e

rules-readable : (ss : List Statement) (g : List Text) (t : Scope) → Named g ss → Spelled ss →
    ((x : Text) → (is_among g x ≡ true) ⊎ (is_among (found_names ss) x ≡ true) → look t.tables (table_name x) ≡ Some true) →
    list_all (is_model_ex t true []) (each_constraint cell_rule ss) ≡ true
rules-readable [] g t n p f = refl
rules-readable (find x a b ∷ ss) g t n p f = rules-readable ss (x ∷ g) t n.1 p.3 (λ y h. f y (go y (same_text x y) refl h))
  where
    go : (y : Text) (q : Bool) → same_text x y ≡ q → (same_text x y || is_among g y ≡ true) ⊎
        (is_among (found_names ss) y ≡ true) → (is_among g y ≡ true) ⊎ (same_text x y || is_among (found_names ss) y ≡ true)
    go y true q h = inr (ap (λ t. t || is_among (found_names ss) y) q)
    go y false q (inl e) = inl (sym (ap (λ t. t || is_among g y) q) ∙ e)
    go y false q (inr e) = inr (ap (λ t. t || is_among (found_names ss) y) q ∙ e)
rules-readable (such_that k x ∷ ss) g t n p f =
    let A : Bool = is_name_token (table_name x) && true in
    let B : Bool = same_truth true (is_truth_table t (table_name x)) in
    let C : Bool = is_number_token (pos k) in
    and-both (A && B && C && true) (list_all (is_model_ex t true []) (each_constraint cell_rule ss))
    (and-both (A && B && C) true
    (and-both (A && B) C
    (and-both A B (and-both (is_name_token (table_name x)) true (table-spelled x p.0) refl)
    (ap (λ o. same_truth true (elim o [ Some b ↦ b | None ↦ false ])) (f x (inl n.0)))) p.1) refl)
    (rules-readable ss g t n.1 p.2 f)

-- The small model is readable.
pub small-readable : (ss : List Statement) → Named [] ss → Spelled ss → is_readable_model (small_model ss) ≡ true
small-readable ss n p =
    and-both (are_model_tables with_find empty_scope (each_find table_decl ss) && true)
    (list_all (is_model_ex (behind empty_scope ss) true []) (each_constraint cell_rule ss))
    (and-both (are_model_tables with_find empty_scope (each_find table_decl ss)) true
    (tables-readable ss [] empty_scope n p (λ x u e. refl)) refl)
    (rules-readable ss [] (behind empty_scope ss) n p (λ x h. at x h))
  where
    at : (x : Text) → (false ≡ true) ⊎ (is_among (found_names ss) x ≡ true) → look (behind empty_scope ss).tables (table_name x) ≡ Some true
    at x (inl e) = cc
    at x (inr e) = truth-found ss empty_scope x e
