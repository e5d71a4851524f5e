-- The text of the model of a specification of sets: its header, and that it spells constants of the specification alone.
use Rattle.std.proofs.Common.{◌≡◌, refl, sym, ap, ◌∙◌, subst, ℕ, zero, suc, ◌+◌, ◌≤◌, ◌<◌, Bool, true, false, ◌&&◌, not, if◌then◌else◌, List, [], ◌∷◌, ◌++◌, map, length, ℤ, pos, ◌⊎◌, inl, inr, Option, Some, None, option_map, arith}
use Rattle.std.specs.List.{list_any}
use Rattle.ess_semantics.specs.Lists.{append_all, or_default}
use Rattle.ess_semantics.specs.Values.{Text}
use Rattle.ess_semantics.specs.Order.{same_text, same_int}
use Rattle.ess_semantics.specs.Names.{Names, look}
use Rattle.ess_semantics.specs.Trees.{number_ex, bool_dom, Stm, find, such_that}
use Rattle.ess_semantics.specs.Tables.{Table}
use Rattle.ess_semantics.specs.Assignments.{Assignment}
use Rattle.ess_semantics.proofs.Tests.{and-both}
use Rattle.ess_semantics.specs.Contexts.{Each}
use Rattle.conjure_laws.proofs.Lists.{at-item, in-left, in-right, in-filter, each-append}
use Rattle.conjure_laws.specs.Members.{In}
use Rattle.conjure_laws.specs.SideBySide.{Along}
use Rattle.conjure_laws.specs.Premises.{Instance, is_on}
use Rattle.conjure_laws.specs.ModelPremises.{spelled, Texts}
use Rattle.std.proofs.Common.{eq-or-lt_of_le}
use Rattle.ess_semantics.specs.Numbers.{run_from, one_to}
use Rattle.ess_semantics.specs.Plans.{Plan, value_plan, plans, plans_for, givens_side, finds_side}
use Rattle.ess_semantics.specs.ModelTrees.{Model, no_goal, header_of, goal_of, same_direction}
use Rattle.ess_semantics.specs.Occurrences.{parts_of}
use Rattle.ess_semantics.specs.Constants.{constants_of, constants_of_stm, parts_of_decl}
use Rattle.ess_semantics.specs.SizeNumbers.{are_plain, numbers_are_small}
use Rattle.ess_semantics.specs.Models.{is_flat, with_cells, constraints_of}
use Rattle.ess_semantics.specs.LargeModels.{declares_large}
use Rattle.conjure_laws.specs.SetsOfAtoms.{Atom, Lit, Line, range, typed, boolean, num, truth_lit, value_name, enum, given_type, unnamed, set_find, holds_lit, sets_of, membership, spec, TypeKind, fixed, sized, Declared, none_declared, enum_values, after, after_all}
use Rattle.conjure_laws.specs.ModelsOfSets.{no_options, axis_for, decl_of, number_of, rules_of, model_of}
use Rattle.conjure_laws.proofs.SetScopes.{Fine, prepared-itself}
use Rattle.conjure_laws.proofs.SetCells.{is-const}
use Rattle.conjure_laws.proofs.SetNames.{look-cons, of-some}
use Rattle.conjure_laws.proofs.SetPlans.{PlanFact, size_fact, all-facts, occ_fact, Occ}
use Rattle.conjure_laws.proofs.SetFacts.{AtomFact}
use Rattle.conjure_laws.proofs.Statements.{plan-is-found}

module _ (T : List Line) (ok : Fine none_declared T) where
  abbrev S' : List Stm
  S' = spec T

  abbrev ks : Names TypeKind
  ks = (after_all T none_declared).types

  abbrev vs : Names (Text × ℕ)
  vs = (after_all T none_declared).values

  abbrev Ps : List Plan
  Ps = plans S' no_options

  abbrev E : Model
  E = model_of T

  abbrev Gs : List Plan
  Gs = plans_for givens_side S' no_options

  abbrev Fs : List Plan
  Fs = plans_for finds_side S' no_options

  abbrev isc : ℤ → Type 0
  isc n = list_any (same_int n) (constants_of S') ≡ true

  in-consts : (R : List Stm) (s : Stm) (n : ℤ) → In s R → In n (constants_of_stm s) → In n (append_all (map constants_of_stm R))
  in-consts [] s n i j = absurd i
  in-consts (r ∷ R) s n (inl e) j = in-left n (constants_of_stm r) (append_all (map constants_of_stm R))
      (subst (λ x. In n (constants_of_stm x)) e j)
  in-consts (r ∷ R) s n (inr i) j = in-right n (constants_of_stm r) (append_all (map constants_of_stm R)) (in-consts R s n i j)

  const-in : (n : ℤ) → In n (append_all (map constants_of_stm S')) → isc n
  const-in n i = is-const (constants_of S') n (inr (inr (inr i)))

  in-run : (k a n : ℕ) → a ≤ k → k < a + n → In (pos k) (run_from a n)
  in-run k a zero p q = absurd (omega arith)
  in-run k a (suc n) p q = go (eq-or-lt_of_le p) (λ l. in-run k (suc a) n l (omega arith))
    where
      go : (a ≡ k) ⊎ (a < k) → (a < k → In (pos k) (run_from (suc a) n)) → In (pos k) (run_from a (suc n))
      go (inl e) f = inl (ap pos (sym e))
      go (inr l) f = inr (f l)

  fixed-const : (U : List Line) (c : Declared) → ((n : ℤ) → In n (append_all (map constants_of_stm (spec U))) → isc n) →
      ((t : Text) (n : ℕ) → look c.types t ≡ Some (fixed n) → isc (pos n)) → (t : Text) (n : ℕ) →
      look (after_all U c).types t ≡ Some (fixed n) → isc (pos n)
  fixed-const [] c f h t n e = h t n e
  fixed-const (enum u ns ∷ U) c f h t n e = fixed-const U (after (enum u ns) c)
      (λ m i. f m (in-right m (one_to (length ns)) (append_all (map constants_of_stm (spec U))) i))
      (λ t n e. go t n (look-cons u t (fixed (length ns)) (fixed n) c.types e)) t n e
    where
      size : (m : ℕ) → length ns ≡ m → isc (pos m)
      size zero q = refl
      size (suc m) q = f (pos (suc m)) (in-left (pos (suc m)) (one_to (length ns)) (append_all (map constants_of_stm (spec U)))
          (in-run (suc m) 1 (length ns) (omega arith) (omega arith)))

      go : (t : Text) (n : ℕ) → ((u ≡ t) × (fixed (length ns) ≡ fixed n)) ⊎ (look c.types t ≡ Some (fixed n)) → isc (pos n)
      go t n (inl q) = let z : fixed (length ns) ≡ fixed n = q.1 in let y : length ns ≡ n = cc in size n y
      go t n (inr e) = h t n e
  fixed-const (unnamed u m ∷ U) c f h t n e = fixed-const U (after (unnamed u m) c) (λ m i. f m (inr i))
      (λ t n e. go t n (look-cons u t (fixed m) (fixed n) c.types e)) t n e
    where
      go : (t : Text) (n : ℕ) → ((u ≡ t) × (fixed m ≡ fixed n)) ⊎ (look c.types t ≡ Some (fixed n)) → isc (pos n)
      go t n (inl q) = let z : fixed m ≡ fixed n = q.1 in let y : m ≡ n = cc in subst (λ k. isc (pos k)) y (f (pos m) (inl refl))
      go t n (inr e) = h t n e
  fixed-const (given_type u ∷ U) c f h t n e = fixed-const U (after (given_type u) c) f
      (λ t n e. go t n (look-cons u t sized (fixed n) c.types e)) t n e
    where
      go : (t : Text) (n : ℕ) → ((u ≡ t) × (sized ≡ fixed n)) ⊎ (look c.types t ≡ Some (fixed n)) → isc (pos n)
      go t n (inl q) = let z : sized ≡ fixed n = q.1 in cc
      go t n (inr e) = h t n e
  fixed-const (set_find x A ∷ U) c f h t n e = fixed-const U (after (set_find x A) c)
      (λ m i. f m (in-right m (constants_of_stm (find x (sets_of A))) (append_all (map constants_of_stm (spec U))) i)) h t n e
  fixed-const (holds_lit l x ∷ U) c f h t n e = fixed-const U c
      (λ m i. f m (in-right m (constants_of_stm (such_that (membership l x))) (append_all (map constants_of_stm (spec U))) i)) h t n e

  place-const : (U : List Line) (c : Declared) → ((n : ℤ) → In n (append_all (map constants_of_stm (spec U))) → isc n) →
      ((n t : Text) (k : ℕ) → look c.values n ≡ Some (t, k) → isc (pos k)) → (n t : Text) (k : ℕ) →
      look (after_all U c).values n ≡ Some (t, k) → isc (pos k)
  place-const [] c f h n t k e = h n t k e
  place-const (enum u ns ∷ U) c f h n t k e = place-const U (after (enum u ns) c)
      (λ m i. f m (in-right m (one_to (length ns)) (append_all (map constants_of_stm (spec U))) i))
      (λ n t k e. go 1 ns n t k (omega arith) (omega arith) e) n t k e
    where
      go : (j : ℕ) (ms : List Text) (n t : Text) (k : ℕ) → 1 ≤ j → j + length ms ≤ suc (length ns) →
          look (enum_values u j ms ++ c.values) n ≡ Some (t, k) → isc (pos k)
      go j [] n t k p q e = h n t k e
      go j (m ∷ ms) n t k p q e = at (same_text m n) e (λ e. go (suc j) ms n t k (omega arith) (omega arith) e)
        where
          at : (b : Bool) → (if b then Some (u, j) else look (enum_values u (suc j) ms ++ c.values) n) ≡ Some (t, k) →
              (look (enum_values u (suc j) ms ++ c.values) n ≡ Some (t, k) → isc (pos k)) → isc (pos k)
          at true e g = subst (λ z. isc (pos z)) (ap (λ v. v.1) (of-some (u, j) (t, k) e))
              (f (pos j) (in-left (pos j) (one_to (length ns)) (append_all (map constants_of_stm (spec U)))
              (in-run j 1 (length ns) p (omega arith))))
          at false e g = g e
  place-const (unnamed u m ∷ U) c f h n t k e = place-const U (after (unnamed u m) c) (λ m i. f m (inr i)) h n t k e
  place-const (given_type u ∷ U) c f h n t k e = place-const U (after (given_type u) c) f h n t k e
  place-const (set_find x A ∷ U) c f h n t k e = place-const U (after (set_find x A) c)
      (λ m i. f m (in-right m (constants_of_stm (find x (sets_of A))) (append_all (map constants_of_stm (spec U))) i)) h n t k e
  place-const (holds_lit l x ∷ U) c f h n t k e = place-const U c
      (λ m i. f m (in-right m (constants_of_stm (such_that (membership l x))) (append_all (map constants_of_stm (spec U))) i)) h n t k
      e

  two-consts : (a b : ℤ) → isc a → isc b → spelled S' (number_ex a ∷ number_ex b ∷ []) ≡ true
  two-consts a b e f = and-both (list_any (same_int a) (constants_of S')) (list_any (same_int b) (constants_of S') && true) e
      (and-both (list_any (same_int b) (constants_of S')) true f refl)

  decl-spelled : (P : Plan) → In P Ps → PlanFact T ok P → spelled S' (parts_of_decl (decl_of ks Ps P)) ≡ true
  decl-spelled P i (size_fact t n e) = subst (λ P. spelled S' (parts_of_decl (decl_of ks Ps P)) ≡ true) (sym e) refl
  decl-spelled P i (occ_fact x A n e f) = subst (λ P. spelled S' (parts_of_decl (decl_of ks Ps P)) ≡ true) (sym e)
      (go A f (subst (In (find x (sets_of A))) (prepared-itself T)
      (plan-is-found S' no_options x Occ (sets_of A) ((n, 1) ∷ []) (subst (λ P. In P Ps) e i))))
    where
      go : (A : Atom) → AtomFact T ok A → In (find x (sets_of A)) S' →
          spelled S' (parts_of_decl (decl_of ks Ps (value_plan finds_side x Occ (sets_of A) ((n, 1) ∷ [])))) ≡ true
      go (range a b) f j = two-consts a b (const-in a (in-consts S' (find x (sets_of (range a b))) a j (inl refl)))
          (const-in b (in-consts S' (find x (sets_of (range a b))) b j (inr (inl refl))))
      go boolean f j = refl
      go (typed t) f j = ap (λ o. spelled S' (parts_of_decl (record { name = n; axes = axis_for Ps t o ∷ []; cell = bool_dom }))) f.1
          ∙ at f.0 f.1
        where
          at : (k : TypeKind) → look ks t ≡ Some k → spelled S' (parts_of_decl
              (record { name = n; axes = axis_for Ps t (Some k) ∷ []; cell = bool_dom })) ≡ true
          at (fixed m) q = two-consts (pos 1) (pos m) refl (fixed-const T none_declared const-in (λ t n e. cc) t m q)
          at sized q = refl

  decls-spelled : (Qs : List Plan) → ((P : Plan) → In P Qs → In P Ps) →
      Each (map (decl_of ks Ps) Qs) (λ d. spelled S' (parts_of_decl d) ≡ true)
  decls-spelled [] f = tt
  decls-spelled (P ∷ Qs) f = (
    decl-spelled P (f P (inl refl)) (at-item (PlanFact T ok) Ps P (all-facts T ok) (f P (inl refl))),
    decls-spelled Qs (λ Q i. f Q (inr i)),
  )

  number-const : (l : Lit) (x : Text) → In (such_that (membership l x)) S' → isc (number_of vs l)
  number-const (num k) x i = const-in k (in-consts S' (such_that (membership (num k) x)) k i (inl refl))
  number-const (truth_lit true) x i = refl
  number-const (truth_lit false) x i = refl
  number-const (value_name n) x i = go (look vs n) refl
    where
      go : (o : Option (Text × ℕ)) → look vs n ≡ o → isc (pos (or_default (option_map (λ v. v.1) o) 0))
      go None q = refl
      go (Some v) q = place-const T none_declared const-in (λ n t k e. cc) n v.0 v.1 q

  rules-spelled : (U : List Line) → ((s : Stm) → In s (spec U) → In s S') →
      Each (rules_of vs Ps U) (λ r. spelled S' (parts_of r) ≡ true)
  rules-spelled [] f = tt
  rules-spelled (enum t ns ∷ U) f = rules-spelled U (λ s i. f s (inr i))
  rules-spelled (given_type t ∷ U) f = rules-spelled U (λ s i. f s (inr i))
  rules-spelled (unnamed t n ∷ U) f = rules-spelled U (λ s i. f s (inr i))
  rules-spelled (set_find x A ∷ U) f = rules-spelled U (λ s i. f s (inr i))
  rules-spelled (holds_lit l x ∷ U) f = (
    and-both (list_any (same_int (number_of vs l)) (constants_of S')) true
        (number-const l x (f (such_that (membership l x)) (inl refl))) refl,
    rules-spelled U (λ s i. f s (inr i)),
  )

  no-goal-here : (U : List Line) → goal_of (spec U) ≡ no_goal
  no-goal-here [] = refl
  no-goal-here (enum t ns ∷ U) = no-goal-here U
  no-goal-here (given_type t ∷ U) = no-goal-here U
  no-goal-here (unnamed t n ∷ U) = no-goal-here U
  no-goal-here (set_find x A ∷ U) = no-goal-here U
  no-goal-here (holds_lit l x ∷ U) = no-goal-here U

  none-flat : (U : List Line) → Along (constraints_of (spec U)) (rules_of vs Ps U) (λ e r. is_flat Ps e ≡ true → r ≡ with_cells Ps e)
  none-flat [] = tt
  none-flat (enum t ns ∷ U) = none-flat U
  none-flat (given_type t ∷ U) = none-flat U
  none-flat (unnamed t n ∷ U) = none-flat U
  none-flat (set_find x A ∷ U) = none-flat U
  none-flat (holds_lit l x ∷ U) = (λ h. let z : false ≡ true = h in cc, none-flat U)

  -- The text of the model, where its domains are small.
  pub texts : ((p : Assignment) (q : Names Table) → Instance S' no_options p q → are_plain S' ≡ true →
      numbers_are_small S' no_options p ≡ true → not (declares_large E q) ≡ true) →
      Texts S' no_options (header_of S' no_options) E (rules_of vs Ps T)
  texts small = record {
    header = refl;
    direction = ap (same_direction no_goal) (no-goal-here T);
    decls = each-append (λ d. spelled S' (parts_of_decl d) ≡ true) (map (decl_of ks Ps) Gs) (map (decl_of ks Ps) Fs)
        (decls-spelled Gs (λ P i. (in-filter (is_on givens_side) P Ps i).0))
        (decls-spelled Fs (λ P i. (in-filter (is_on finds_side) P Ps i).0));
    goal = refl;
    spells = rules-spelled T (λ s i. i);
    flat = none-flat T;
    small = small;
  }
