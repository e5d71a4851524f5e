-- Without its constraints and objectives a well typed specification is well typed.
use Rattle.std.proofs.Common.{◌≡◌, refl, sym, ap, ◌∙◌, ℕ, suc, Bool, false, ◌&&◌, ◌||◌, not, if◌then◌else◌}
use Rattle.std.proofs.Common.{List, [], ◌∷◌, ◌++◌, filter, Option, Some, None}
use Rattle.std.specs.List.{list_all}
use Rattle.ess_semantics.specs.Lists.{is_none_or, is_some_and}
use Rattle.ess_semantics.specs.Values.{Text, a_matrix, a_set, a_mset}
use Rattle.ess_semantics.specs.Trees.{Op, record_literal, Ex, Exs, name_ex, node_ex, matrix_ex, no_exs, more_exs, Dom, name_dom, Stm}
use Rattle.ess_semantics.specs.Trees.{given, given_enum, let_ex, let_dom, let_enum, let_unnamed, needs, find, such_that, minimise, maximise}
use Rattle.ess_semantics.specs.Types.{Ty, named_ty, compound1, compound2}
use Rattle.ess_semantics.specs.Typing.{types_of}
use Rattle.ess_semantics.specs.Lettings.{types_after, lettings_after}
use Rattle.ess_semantics.specs.Scopes.{Scope, empty_scope, Asked, nothing_asked, asking}
use Rattle.ess_semantics.specs.DomainJudgements.{dom_fits, is_finite, is_enumerable, numbers_of, all_fixed, dom_is_enumerable}
use Rattle.ess_semantics.specs.ExpressionJudgements.{compares, is_ordered_ty, order_fits, pattern_fits, part_fits, ex_fits}
use Rattle.ess_semantics.specs.Judgements.{Judgement, unknown_name, double_name, ill_typed, not_finite, not_enumerable, open_given}
use Rattle.ess_semantics.specs.Judgements.{expression_of, domain_in, every_of_stm, name_is_known, domain_is_known}
use Rattle.ess_semantics.specs.Judgements.{is_objective, binds_new, names_are_new, place_fits, is_letting, order_is_fit}
use Rattle.ess_semantics.specs.Judgements.{size_is_fixed, meets, judgements, first_failed, put_in_scope, enums_by, unnamed_by, depending_by}
use Rattle.ess_semantics.specs.Judgements.{scope_after, first_fault}
use Rattle.ess_semantics.specs.ModelTrees.{in_header}
use Rattle.ess_translate_header_laws.specs.Laws.{HeadersStayTyped}
use Rattle.ess_translate_header_laws.proofs.UnseenObjectives.{calm, and-same, IsBlind, every-calm, dom-calm, fixed-calm, mentions-calm}
use Rattle.ess_translate_header_laws.proofs.UnseenObjectives.{orders-calm, dom-orders-calm}

-- ---- the parts of a statement

none-same : {A : Type 0} (o : Option A) (f g : A → Bool) → ((a : A) → f a ≡ g a) → is_none_or o f ≡ is_none_or o g
none-same None f g h = refl
none-same (Some a) f g h = h a

parts-calm : (q : Asked) → IsBlind q → (t : Stm) (s : Scope) → every_of_stm q t (calm s) ≡ every_of_stm q t s
parts-calm q h t s =
    and-same (none-same (expression_of t) _ _ (λ e. every-calm q h e s))
    (none-same (domain_in t) _ _ (λ d. dom-calm q h d s))

-- ---- the judgements

name-calm : (e : Ex) (s : Scope) → name_is_known e (calm s) ≡ name_is_known e s
name-calm (name_ex a) s = refl
name-calm e s = refl

domain-calm : (d : Dom) (s : Scope) → domain_is_known d (calm s) ≡ domain_is_known d s
domain-calm (name_dom a) s = refl
domain-calm d s = refl

known-blind : IsBlind (record nothing_asked { of_ex = name_is_known; of_dom = domain_is_known })
known-blind = record {
  draws = λ e s. refl;
  of_ex = name-calm;
  of_dom = domain-calm;
  of_generator = λ d s. refl;
  of_pattern = λ p t s. refl;
}

new-blind : IsBlind (record nothing_asked { of_pattern = binds_new })
new-blind = record {
  draws = λ e s. refl;
  of_ex = λ e s. refl;
  of_dom = λ d s. refl;
  of_generator = λ d s. refl;
  of_pattern = λ p t s. refl;
}

-- Whether the values of a type have an order.
ordered-calm : (u : Ty) (s : Scope) → is_ordered_ty u (calm s) ≡ is_ordered_ty u s
ordered-calm (named_ty t) s = refl
ordered-calm (compound2 a_matrix i (named_ty t)) s = refl
ordered-calm (compound1 a_set (named_ty t)) s = refl
ordered-calm (compound1 a_mset (named_ty t)) s = refl
ordered-calm t s = refl

have-order : (ts : List (Option Ty)) (s : Scope) →
    list_all (λ t. is_some_and t (λ u. is_ordered_ty u (calm s))) ts ≡ list_all (λ t. is_some_and t (λ u. is_ordered_ty u s)) ts
have-order [] s = refl
have-order (None ∷ ts) s = refl
have-order (Some u ∷ ts) s = and-same (ordered-calm u s) (have-order ts s)

order-fits : (op : Op) (es : Exs) (s : Scope) → order_fits op es (calm s) ≡ order_fits op es s
order-fits op es s = ap (λ b. not (compares op) || b) (have-order (types_of es s.tys) s)

part-calm : (e : Ex) (s : Scope) → part_fits e (calm s) ≡ part_fits e s
part-calm (node_ex b (record_literal fs) es) s = refl
part-calm (node_ex b op es) s = order-fits op es s
part-calm (matrix_ex es d) s = refl
part-calm e s = refl

fits-blind : IsBlind (record asking { of_ex = ex_fits; of_dom = dom_fits; of_pattern = λ p u z. pattern_fits p u })
fits-blind = record {
  draws = mentions-calm;
  of_ex = λ e s. and-same refl (part-calm e s);
  of_dom = λ d s. refl;
  of_generator = λ d s. refl;
  of_pattern = λ p t s. refl;
}

finite-blind : IsBlind (record asking { of_generator = λ d z. is_finite d })
finite-blind = record {
  draws = mentions-calm;
  of_ex = λ e s. refl;
  of_dom = λ d s. refl;
  of_generator = λ d s. refl;
  of_pattern = λ p t s. refl;
}

all-fixed : (es : Exs) (s : Scope) → all_fixed es (calm s) ≡ all_fixed es s
all-fixed no_exs s = refl
all-fixed (more_exs e es) s = and-same (fixed-calm e s) (all-fixed es s)

enumerable-blind : IsBlind (record asking { of_dom = dom_is_enumerable; of_generator = λ d z. is_enumerable d })
enumerable-blind = record {
  draws = mentions-calm;
  of_ex = λ e s. refl;
  of_dom = λ d s. and-same refl (all-fixed (numbers_of d) s);
  of_generator = λ d s. refl;
  of_pattern = λ p t s. refl;
}

place-calm : (t : Stm) (s : Scope) → place_fits t (calm s) ≡ place_fits t s
place-calm (needs e) s = and-same refl (fixed-calm e s)
place-calm t s = refl

order-calm : (t : Stm) (s : Scope) → order_is_fit t (calm s) ≡ order_is_fit t s
order-calm t s =
    and-same (none-same (expression_of t) _ _ (λ e. orders-calm (not (is_letting t)) e s))
    (none-same (domain_in t) _ _ (λ d. dom-orders-calm d s))

size-calm : (t : Stm) (s : Scope) → size_is_fixed t (calm s) ≡ size_is_fixed t s
size-calm (let_unnamed t e) s = fixed-calm e s
size-calm t s = refl

-- No second objective is one where the statement is none.
not-second : (w : Stm) (b c : Bool) → is_objective w ≡ false → not (is_objective w && b) ≡ not (is_objective w && c)
not-second w b c h = ap (λ o. not (o && b)) h ∙ sym (ap (λ o. not (o && c)) h)

new-calm : (w : Stm) (s : Scope) → is_objective w ≡ false → names_are_new w (calm s) ≡ names_are_new w s
new-calm w s h = and-same (and-same refl (not-second w false s.objective h)) (parts-calm _ new-blind w s)

-- A statement that is no objective meets a judgement as it does without an objective before it.
meets-calm : (j : Judgement) (w t : Stm) (s : Scope) → is_objective w ≡ false → meets j w t (calm s) ≡ meets j w t s
meets-calm unknown_name w t s h = parts-calm _ known-blind t s
meets-calm double_name w t s h = new-calm w s h
meets-calm ill_typed w t s h = and-same (and-same (parts-calm _ fits-blind t s) (place-calm t s)) (order-calm t s)
meets-calm not_finite w t s h = and-same refl (parts-calm _ finite-blind t s)
meets-calm not_enumerable w t s h = and-same (parts-calm _ enumerable-blind t s) (size-calm t s)
meets-calm open_given w t s h = refl

failed-calm : (js : List Judgement) (w t : Stm) (s : Scope) → is_objective w ≡ false → first_failed js w t (calm s) ≡ first_failed js w t s
failed-calm [] w t s h = refl
failed-calm (j ∷ js) w t s h =
    ap (λ b. if b then first_failed js w t (calm s) else Some j) (meets-calm j w t s h)
    ∙ ap (λ o. if meets j w t s then o else Some j) (failed-calm js w t s h)

-- ---- the scope behind a statement

depending-calm : (t : Stm) (s : Scope) → depending_by t (calm s) ≡ depending_by t s
depending-calm (let_ex x e) s = ap (λ b. if b then [] else x ∷ []) (fixed-calm e s)
depending-calm t s = refl

-- The same scope, with these names that depend on finds and this flag.
abbrev after_with : Stm → Scope → List Text → Bool → Scope
after_with t s ns b = record {
  tys = types_after t s.tys;
  lets = lettings_after t s.lets;
  enums = enums_by t ++ s.enums;
  unnamed = unnamed_by t ++ s.unnamed;
  depends_on_finds = ns ++ s.depends_on_finds;
  objective = b || false;
}

after-calm : (t : Stm) (s : Scope) → is_objective t ≡ false → scope_after t (calm s) ≡ calm (scope_after t s)
after-calm t s h = ap (λ ns. after_with t s ns (is_objective t)) (depending-calm t s) ∙ ap (after_with t s (depending_by t s)) h

-- ---- all statements

-- No judgement fails, and none behind it.
record Fine (o : Option Judgement) (rest : Option (Judgement × ℕ)) : Type 0 where
  here : o ≡ None
  behind : rest ≡ None

fine : (o : Option Judgement) (k : ℕ) (rest : Option (Judgement × ℕ)) →
    ◌≡◌ {A = Option (Judgement × ℕ)} (elim o [ Some j ↦ Some (j, k) | None ↦ rest ]) None → Fine o rest
fine None k rest h = record { here = refl; behind = h }
fine (Some j) k rest h = cc

-- A statement that is no objective stays fine before other statements.
kept : (k m : ℕ) (w : Stm) (ws us : List Stm) (s : Scope) → is_objective w ≡ false → is_objective (put_in_scope w s) ≡ false →
    first_fault k (w ∷ ws) s ≡ None → ((z : Scope) → first_fault (suc k) ws z ≡ None → first_fault (suc m) us (calm z) ≡ None) →
    first_fault m (w ∷ us) (calm s) ≡ None
kept k m w ws us s h i f g =
    let t : Stm = put_in_scope w s in
    let x = fine (first_failed judgements w t s) k (first_fault (suc k) ws (scope_after t s)) f in
    ap (λ o. elim o [ Some j ↦ Some (j, m) | None ↦ first_fault (suc m) us (scope_after t (calm s)) ])
    (failed-calm judgements w t s h ∙ x.here)
    ∙ ap (first_fault (suc m) us) (after-calm t s i) ∙ g (scope_after t s) x.behind

-- One that is left out leaves the scope as it is, but for the objective.
dropped : (k : ℕ) (w : Stm) (ws : List Stm) (s : Scope) → first_fault k (w ∷ ws) s ≡ None →
    first_fault (suc k) ws (scope_after (put_in_scope w s) s) ≡ None
dropped k w ws s f =
    let t : Stm = put_in_scope w s in
    (fine (first_failed judgements w t s) k (first_fault (suc k) ws (scope_after t s)) f).behind

kept-typed : (k m : ℕ) (ws : List Stm) (s : Scope) → first_fault k ws s ≡ None → first_fault m (filter in_header ws) (calm s) ≡ None
kept-typed k m [] s h = refl
kept-typed k m (given x d ∷ ws) s h = kept k m (given x d) ws (filter in_header ws) s refl refl h (kept-typed (suc k) (suc m) ws)
kept-typed k m (given_enum u ∷ ws) s h = kept k m (given_enum u) ws (filter in_header ws) s refl refl h (kept-typed (suc k) (suc m) ws)
kept-typed k m (let_ex x e ∷ ws) s h = kept k m (let_ex x e) ws (filter in_header ws) s refl refl h (kept-typed (suc k) (suc m) ws)
kept-typed k m (let_dom x d ∷ ws) s h = kept k m (let_dom x d) ws (filter in_header ws) s refl refl h (kept-typed (suc k) (suc m) ws)
kept-typed k m (let_enum u ns ∷ ws) s h = kept k m (let_enum u ns) ws (filter in_header ws) s refl refl h (kept-typed (suc k) (suc m) ws)
kept-typed k m (let_unnamed u e ∷ ws) s h =
    kept k m (let_unnamed u e) ws (filter in_header ws) s refl refl h (kept-typed (suc k) (suc m) ws)
kept-typed k m (needs e ∷ ws) s h = kept k m (needs e) ws (filter in_header ws) s refl refl h (kept-typed (suc k) (suc m) ws)
kept-typed k m (find x d ∷ ws) s h = kept k m (find x d) ws (filter in_header ws) s refl refl h (kept-typed (suc k) (suc m) ws)
kept-typed k m (such_that e ∷ ws) s h =
    kept-typed (suc k) m ws (scope_after (put_in_scope (such_that e) s) s) (dropped k (such_that e) ws s h)
kept-typed k m (minimise e ∷ ws) s h =
    kept-typed (suc k) m ws (scope_after (put_in_scope (minimise e) s) s) (dropped k (minimise e) ws s h)
kept-typed k m (maximise e ∷ ws) s h =
    kept-typed (suc k) m ws (scope_after (put_in_scope (maximise e) s) s) (dropped k (maximise e) ws s h)

-- The statements of a header are well typed where those of its specification are.
pub headers-stay-typed : HeadersStayTyped
headers-stay-typed S h = kept-typed 1 1 S empty_scope h
